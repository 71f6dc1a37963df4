-- What is promised of a connection that has ended.
use Rattle.std.proofs.Common.{◌≡◌, ℕ, ◌+◌, ◌-◌, ◌≤◌, ◌<◌, true, false, Bool, nat_eq, Option, Some, None, List, [], ◌∷◌, ◌++◌, length, take, drop, refl, sym, ap, subst, ◌∙◌, arith}
use Rattle.std.specs.Prelude.{IfSome, ◌==◌}
use Rattle.std.specs.List.{flat_map}
use Rattle.std.proofs.lemmas.List.{append-nil, append_assoc, take-append-drop, take_all}
use Rattle.std.proofs.lemmas.Grind.{flat_map-append}
use Rattle.kj_io.specs.Streams.{StreamOctets}
use Rattle.http_core.specs.declared.message.Request.{Request}
use Rattle.http_core.specs.declared.message.Answer.{Answer}
use Rattle.http_core.specs.declared.message.End.{End}
use Rattle.http_core.specs.declared.read.Part.{Part}
use Rattle.http_core.specs.Text.{text}
use Rattle.http_core.specs.Requests.{Along, Requests, reply, replies, end_text}
use Rattle.http_core.specs.Replies.{IsReplies}
use Rattle.http_core.proofs.ConnectionLemmas.{along_requests}
use Rattle.http_core.proofs.TotalLemmas.{requests_of}
use Rattle.http_stream.specs.declared.stage.Stage.{Stage}
use Rattle.http_stream.specs.declared.stage.Stage.TheVariants.{Open, Reading, Asked, Settled, Ended, Drained, Broken}
use Rattle.http_stream.specs.Stages.{behind, StageStands, DrainedTexts, Made, Leaves, is_drained, is_closing}
use Rattle.http_stream.specs.Standing.{HasPassed, StandsSo}
use Rattle.http_stream.specs.Moves.{wants_at}
use Rattle.http_stream.specs.Steps.{IsOver}
use Rattle.http_stream.specs.Served.{FrontOf, WithoutDrain, WithDrain, WhereAbandoned, EndsSo, IsPassed}

all_written : (made written : List ℕ) (sent : ℕ) → (sent == length made) ≡ true → written ≡ take sent made → written ≡ made
all_written made written sent all is = is ∙ take_all sent made (grind (arith, all))

-- ---- no drain

without_drain : (f : Request → Answer) (stream : Option StreamOctets) (requests : List Request) (end : End) (octets made written : List ℕ) (answered : ℕ) → Requests requests end octets → written ≡ made → made ≡ replies f requests ++ end_text end → answered ≡ length requests
    → IfSome stream (λ o. Requests requests end (o.given ++ o.left)) → WithoutDrain f stream octets written answered
without_drain f stream requests end octets made written answered reads all is count stands = record {
  replies = record { requests = requests; end = end; reads = reads; output_is = all ∙ is };
  count = count;
  all = whole stream stands;
}
  where
    whole : (s : Option StreamOctets) → IfSome s (λ o. Requests requests end (o.given ++ o.left)) → IfSome s (λ o. IsReplies f (o.given ++ o.left) written)
    whole None h = tt
    whole (Some o) h = record { requests = requests; end = end; reads = h; output_is = all ∙ is }

-- where more may follow
settled_all : (stream : Option StreamOctets) (requests : List Request) (end : End) (octets made : List ℕ) (sent : ℕ) → ((more : List ℕ) → Requests requests end (octets ++ more)) → IfSome stream (HasPassed (Settled end) octets made sent)
    → IfSome stream (λ o. Requests requests end (o.given ++ o.left))
settled_all None requests end octets made sent stands passed = tt
settled_all (Some o) requests end octets made sent stands passed = subst (λ (b : List ℕ). Requests requests end (b ++ o.left)) (sym passed.given) (stands o.left)

ended_all : (stream : Option StreamOctets) (requests : List Request) (end : End) (octets made : List ℕ) (sent : ℕ) → Requests requests end octets → IfSome stream (HasPassed (Ended end) octets made sent)
    → IfSome stream (λ o. Requests requests end (o.given ++ o.left))
ended_all None requests end octets made sent stands passed = tt
ended_all (Some o) requests end octets made sent stands passed =
    subst (Requests requests end) (sym (ap (λ (b : List ℕ). o.given ++ b) passed.left ∙ append-nil o.given ∙ passed.given)) stands

-- ---- abandoned

front_of_texts : (made written whole : List ℕ) (sent : ℕ) → written ≡ take sent made → made ≡ whole → written ++ drop sent made ≡ whole
front_of_texts made written whole sent is same = ap (λ (b : List ℕ). b ++ drop sent made) is ∙ take-append-drop sent made ∙ same

-- where all requests are known
left_all : (f : Request → Answer) (requests : List Request) (end : End) (octets made written : List ℕ) (sent : ℕ) → Requests requests end octets → written ≡ take sent made → made ≡ replies f requests ++ end_text end → WhereAbandoned f false octets written
left_all f requests end octets made written sent reads is texts = record { requests = requests; end = end; reads = reads; front = (drop sent made, front_of_texts made written (replies f requests ++ end_text end) sent is texts) }

-- between two answers
left_between : (f : Request → Answer) (requests : List Request) (octets rest made written : List ℕ) (sent : ℕ) → Along requests octets rest → written ≡ take sent made → made ≡ replies f requests → WhereAbandoned f false octets written
left_between f requests octets rest made written sent along is texts =
    let others = requests_of rest in
    record {
      requests = requests ++ others.0;
      end = others.1;
      reads = along_requests requests others.0 others.1 octets rest along others.2;
      front = (
        drop sent made ++ (replies f others.0 ++ end_text others.1),
        sym (append_assoc written (drop sent made) (replies f others.0 ++ end_text others.1))
            ∙ ap (λ (b : List ℕ). b ++ (replies f others.0 ++ end_text others.1)) (front_of_texts made written (replies f requests) sent is texts)
            ∙ sym (append_assoc (replies f requests) (replies f others.0) (end_text others.1))
            ∙ ap (λ (b : List ℕ). b ++ end_text others.1) (sym (flat_map-append (reply f) requests others.0)),
      );
    }

-- after a drain
left_drained : (closes : Bool) (f : Request → Answer) (requests : List Request) (octets rest made written : List ℕ) (sent : ℕ) → Along requests octets rest → written ≡ take sent made → DrainedTexts closes f requests made → WhereAbandoned f closes octets written
left_drained false f requests octets rest made written sent along is texts = left_between f requests octets rest made written sent along is texts
left_drained true f requests octets rest made written sent along is texts =
    let others = requests_of rest in
    record {
      requests = requests ++ others.0;
      end = others.1;
      reads = along_requests requests others.0 others.1 octets rest along others.2;
      front = (
        texts.0,
        texts.1,
        others.0,
        drop sent made,
        ap (λ (rs : List Request). rs ++ others.0) texts.2 ∙ append_assoc texts.0 (texts.1 ∷ []) others.0,
        front_of_texts made written (replies f texts.0 ++ text texts.1 (f texts.1) true) sent is texts.3,
      );
    }

-- ---- by the stage

abandoned_by : (stage : Stage) (f : Request → Answer) (part : Part) (request : Request) (requests : List Request) (octets made written : List ℕ) (sent : ℕ) → written ≡ take sent made → StageStands stage part request requests octets → Made stage f requests made
    → WhereAbandoned f (is_closing stage) octets written
abandoned_by (Open left) f part request requests octets made written sent is stands texts = left_between f requests octets (behind octets left) made written sent stands.1 is texts
abandoned_by Reading f part request requests octets made written sent is stands texts = left_between f requests octets stands.0 made written sent stands.1 is texts
abandoned_by (Asked left) f part request requests octets made written sent is stands texts = left_between f requests octets stands.1 made written sent stands.2 is texts
abandoned_by (Settled end) f part request requests octets made written sent is stands texts = left_all f requests end octets made written sent (subst (Requests requests end) (append-nil octets) (stands [])) is texts
abandoned_by (Ended end) f part request requests octets made written sent is stands texts = left_all f requests end octets made written sent stands is texts
abandoned_by (Drained closes) f part request requests octets made written sent is stands texts = left_drained closes f requests octets stands.0 made written sent stands.1 is texts
abandoned_by Broken f part request requests octets made written sent is stands texts = left_between f requests octets stands.0 made written sent stands.1 is texts

drained_texts : (closes : Bool) (f : Request → Answer) (requests : List Request) (made written : List ℕ) → written ≡ made → DrainedTexts closes f requests made → DrainedTexts closes f requests written
drained_texts closes f requests made written all texts = subst (DrainedTexts closes f requests) (sym all) texts

over_stage : (stage : Stage) (all : Bool) (stream : Option StreamOctets) (f : Request → Answer) (part : Part) (request : Request) (requests : List Request) (octets made written : List ℕ) (sent answered : ℕ) → IsOver (wants_at false stage all) → (all ≡ true → written ≡ made)
    → StageStands stage part request requests octets → Made stage f requests made → answered ≡ length requests → IfSome stream (HasPassed stage octets made sent) → EndsSo false (is_drained stage) (is_closing stage) f stream octets written answered
over_stage (Open left) all stream f part request requests octets made written sent answered over is stands texts count passed = absurd over
over_stage Reading true stream f part request requests octets made written sent answered over is stands texts count passed = absurd over
over_stage Reading false stream f part request requests octets made written sent answered over is stands texts count passed = absurd over
over_stage (Asked left) all stream f part request requests octets made written sent answered over is stands texts count passed = absurd over
over_stage (Settled end) true stream f part request requests octets made written sent answered over is stands texts count passed =
    without_drain f stream requests end octets made written answered (subst (Requests requests end) (append-nil octets) (stands [])) (is refl) texts count (settled_all stream requests end octets made sent stands passed)
over_stage (Settled end) false stream f part request requests octets made written sent answered over is stands texts count passed = absurd over
over_stage (Ended end) true stream f part request requests octets made written sent answered over is stands texts count passed =
    without_drain f stream requests end octets made written answered stands (is refl) texts count (ended_all stream requests end octets made sent stands passed)
over_stage (Ended end) false stream f part request requests octets made written sent answered over is stands texts count passed = absurd over
over_stage (Drained closes) true stream f part request requests octets made written sent answered over is stands texts count passed =
    record { requests = requests; rest = stands.0; along = stands.1; count = count; texts = drained_texts closes f requests made written (is refl) texts }
over_stage (Drained closes) false stream f part request requests octets made written sent answered over is stands texts count passed = absurd over
over_stage Broken all stream f part request requests octets made written sent answered over is stands texts count passed = absurd over

ends_by : (abandoned : Bool) (stage : Stage) (all : Bool) (stream : Option StreamOctets) (f : Request → Answer) (part : Part) (request : Request) (requests : List Request) (octets made written : List ℕ) (sent answered : ℕ) → IsOver (wants_at abandoned stage all) → (all ≡ true → written ≡ made)
    → written ≡ take sent made → StageStands stage part request requests octets → Made stage f requests made → answered ≡ length requests → IfSome stream (HasPassed stage octets made sent)
    → EndsSo abandoned (is_drained stage) (is_closing stage) f stream octets written answered
ends_by true stage all stream f part request requests octets made written sent answered over whole is stands texts count passed = abandoned_by stage f part request requests octets made written sent is stands texts
ends_by false stage all stream f part request requests octets made written sent answered over whole is stands texts count passed = over_stage stage all stream f part request requests octets made written sent answered over whole stands texts count passed

pub ends_so : (told : Option (Request → Answer)) (stream : Option StreamOctets) (faults : ℕ) (stage : Stage) (part : Part) (request : Request) (octets made written : List ℕ) (sent answered : ℕ) (abandoned : Bool) → IsOver (wants_at abandoned stage (sent == length made)) → written ≡ take sent made
    → StandsSo told stream faults stage part request octets made sent answered abandoned → IfSome told (λ f. EndsSo abandoned (is_drained stage) (is_closing stage) f stream octets written answered)
ends_so None stream faults stage part request octets made written sent answered abandoned over is line = tt
ends_so (Some f) stream faults stage part request octets made written sent answered abandoned over is line =
    ends_by abandoned stage (sent == length made) stream f part request line.requests octets made written sent answered over (λ all. all_written made written sent all is) is line.stands line.texts line.count line.passed

pub passed_end : (stream : Option StreamOctets) (stage : Stage) (octets made written : List ℕ) (sent : ℕ) → written ≡ take sent made → IfSome stream (HasPassed stage octets made sent) → IfSome stream (IsPassed octets written)
passed_end None stage octets made written sent is passed = tt
passed_end (Some o) stage octets made written sent is passed = record { given = passed.given; written_is = passed.written ∙ sym is }
