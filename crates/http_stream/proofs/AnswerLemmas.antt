-- What a connection stands for after an answer.
use Rattle.std.proofs.Common.{◌≡◌, ℕ, ◌+◌, ◌-◌, ◌≤◌, ◌<◌, ◌^◌, true, false, Bool, Option, Some, None, List, [], ◌∷◌, ◌++◌, length, take, drop, min, refl, sym, ap, subst, ◌∙◌, arith}
use Rattle.std.specs.Prelude.{IfSome, not}
use Rattle.std.proofs.lemmas.List.{append-nil, length-append, length-drop}
use Rattle.http_heads.specs.Framing.{persists}
use Rattle.kj_io.specs.Streams.{StreamOctets}
use Rattle.http_core.specs.declared.message.Request.{Request}
use Rattle.http_core.specs.declared.message.Answer.{Answer}
use Rattle.http_core.specs.declared.message.End.TheVariants.{Closed}
use Rattle.http_core.specs.declared.read.Part.{Part}
use Rattle.http_core.specs.Text.{text}
use Rattle.http_core.specs.Requests.{skip_pairs, IsRequest, Along, reply, replies}
use Rattle.http_core.proofs.ServeLemmas.{along_more, along_push, request_more, output_push}
use Rattle.http_core.proofs.TotalLemmas.{request_shorter}
use Rattle.http_stream.specs.declared.stage.Stage.{Stage}
use Rattle.http_stream.specs.declared.stage.Stage.TheVariants.{Open, Reading, Asked, Settled, Ended, Drained, Broken}
use Rattle.http_stream.specs.Stages.{behind, Made, DrainedTexts, closes_after, answered_stage, asked_left}
use Rattle.http_stream.specs.Standing.{HasPassed, StandsSo}
use Rattle.http_stream.proofs.OctetLemmas.{passed_on}

-- ---- a request has octets

pub along_long : (requests : List Request) (bytes rest : List ℕ) → Along requests bytes rest → length requests + length rest ≤ length bytes
along_long [] bytes rest along = omega (arith, ap length along)
along_long (r ∷ requests) bytes rest along =
    omega (arith, along_long requests along.0 rest along.3, request_shorter bytes along.0 r along.1)

one_more : (requests : List Request) (r : Request) (octets rest : List ℕ) (old new : ℕ) → length octets < 2 ^ 64 → Along requests octets rest → 0 < length rest → old ≡ length requests → new ≡ min (old + 1) (2 ^ 64 - 1) → new ≡ length (requests ++ r ∷ [])
one_more requests r octets rest old new short along some before now =
    omega (arith, short, along_long requests octets rest along, some, before, now, length-append requests (r ∷ []))

-- ---- the text

text_told : (told : Option (Request → Answer)) (r : Request) (answer : Answer) (made later : List ℕ) (closes : Bool) → IfSome told (λ f. answer ≡ f r) → later ≡ made ++ text r answer closes → IfSome told (λ f. later ≡ made ++ text r (f r) closes)
text_told None r answer made later closes is pushed = tt
text_told (Some f) r answer made later closes is pushed = pushed ∙ ap (λ (a : Answer). made ++ text r a closes) is

reply_told : (told : Option (Request → Answer)) (r : Request) (made later : List ℕ) (closes : Bool) → closes ≡ not (persists r.head) → IfSome told (λ f. later ≡ made ++ text r (f r) closes) → IfSome told (λ f. later ≡ made ++ reply f r)
reply_told None r made later closes same is = tt
reply_told (Some f) r made later closes same is = is ∙ ap (λ (b : Bool). made ++ text r (f r) b) same

texts_push : (told : Option (Request → Answer)) (requests : List Request) (r : Request) (made later : List ℕ) → IfSome told (λ f. made ≡ replies f requests) → IfSome told (λ f. later ≡ made ++ reply f r) → IfSome told (λ f. later ≡ replies f (requests ++ r ∷ []))
texts_push None requests r made later so_far next = tt
texts_push (Some f) requests r made later so_far next = output_push (Some f) requests r [] made later so_far next

texts_end : (told : Option (Request → Answer)) (requests : List Request) (later : List ℕ) → IfSome told (λ f. later ≡ replies f requests) → IfSome told (λ f. later ≡ replies f requests ++ [])
texts_end None requests later is = tt
texts_end (Some f) requests later is = is ∙ sym (append-nil (replies f requests))

texts_close : (told : Option (Request → Answer)) (requests : List Request) (r : Request) (made later : List ℕ) → IfSome told (λ f. made ≡ replies f requests) → IfSome told (λ f. later ≡ made ++ text r (f r) true) → IfSome told (λ f. Made (Drained true) f (requests ++ r ∷ []) later)
texts_close None requests r made later so_far next = tt
texts_close (Some f) requests r made later so_far next = (requests, r, refl, next ∙ ap (λ (b : List ℕ). b ++ text r (f r) true) so_far)

-- ---- an answer

-- what is known where a text was made for the request that is whole
pub record IsAnswered (told : Option (Request → Answer)) (stream : Option StreamOctets) (faults : ℕ) (part : Part) (r : Request) (left : ℕ) (answer : Answer) (closes : Bool) (octets made later : List ℕ) (sent answered count : ℕ) (abandoned : Bool) : Type 0 where
  pub at : StandsSo told stream faults (Asked left) part r octets made sent answered abandoned
  pub within : sent ≤ length made
  pub short : length octets < 2 ^ 64
  pub answer_is : IfSome told (λ f. answer ≡ f r)
  pub pushed : later ≡ made ++ text r answer closes
  pub counted : count ≡ min (answered + 1) (2 ^ 64 - 1)

some_behind : (rest behind_it : List ℕ) (r : Request) → IsRequest (skip_pairs rest) r behind_it → 0 < length rest
some_behind rest behind_it r is = omega (arith, request_shorter rest behind_it r is)

goes_on : (told : Option (Request → Answer)) (stream : Option StreamOctets) (faults : ℕ) (part other : Part) (r next : Request) (left : ℕ) (answer : Answer) (octets made later : List ℕ) (sent answered count : ℕ) (abandoned : Bool) → persists r.head ≡ true
    → IsAnswered told stream faults part r left answer false octets made later sent answered count abandoned → StandsSo told stream faults (Open left) other next octets later sent count abandoned
goes_on told stream faults part other r next left answer octets made later sent answered count abandoned goes has =
    let stands = has.at.stands in
    record {
      requests = has.at.requests ++ r ∷ [];
      stands = (stands.0, along_push has.at.requests octets stands.1 (behind octets left) r stands.2 stands.3 goes);
      texts = texts_push told has.at.requests r made later has.at.texts (reply_told told r made later false (ap not (sym goes)) (text_told told r answer made later false has.answer_is has.pushed));
      count = one_more has.at.requests r octets stands.1 answered count has.short stands.2 (some_behind stands.1 (behind octets left) r stands.3) has.at.count has.counted;
      passed = passed_on stream (Asked left) (Open left) octets made later (text r answer false) sent has.within has.pushed (λ l is. tt) has.at.passed;
      fault = has.at.fault;
    }

closes_drained : (told : Option (Request → Answer)) (stream : Option StreamOctets) (faults : ℕ) (part other : Part) (r next : Request) (left : ℕ) (answer : Answer) (octets made later : List ℕ) (sent answered count : ℕ) (abandoned : Bool) → persists r.head ≡ true
    → IsAnswered told stream faults part r left answer true octets made later sent answered count abandoned → StandsSo told stream faults (Drained true) other next octets later sent count abandoned
closes_drained told stream faults part other r next left answer octets made later sent answered count abandoned goes has =
    let stands = has.at.stands in
    record {
      requests = has.at.requests ++ r ∷ [];
      stands = (behind octets left, along_push has.at.requests octets stands.1 (behind octets left) r stands.2 stands.3 goes);
      texts = texts_close told has.at.requests r made later has.at.texts (text_told told r answer made later true has.answer_is has.pushed);
      count = one_more has.at.requests r octets stands.1 answered count has.short stands.2 (some_behind stands.1 (behind octets left) r stands.3) has.at.count has.counted;
      passed = passed_on stream (Asked left) (Drained true) octets made later (text r answer true) sent has.within has.pushed (λ l is. tt) has.at.passed;
      fault = has.at.fault;
    }

closes_settled : (told : Option (Request → Answer)) (stream : Option StreamOctets) (faults : ℕ) (part other : Part) (r next : Request) (left : ℕ) (answer : Answer) (octets made later : List ℕ) (sent answered count : ℕ) (abandoned : Bool) → persists r.head ≡ false
    → IsAnswered told stream faults part r left answer true octets made later sent answered count abandoned → StandsSo told stream faults (Settled Closed) other next octets later sent count abandoned
closes_settled told stream faults part other r next left answer octets made later sent answered count abandoned stops has =
    let stands = has.at.stands in
    record {
      requests = has.at.requests ++ r ∷ [];
      stands = λ more. (
        has.at.requests,
        r,
        stands.1 ++ more,
        behind octets left ++ more,
        refl,
        along_more has.at.requests octets stands.1 more stands.2,
        request_more stands.1 (behind octets left) more r stands.3,
        stops,
      );
      texts = texts_end told (has.at.requests ++ r ∷ []) later (texts_push told has.at.requests r made later has.at.texts
          (reply_told told r made later true (ap not (sym stops)) (text_told told r answer made later true has.answer_is has.pushed)));
      count = one_more has.at.requests r octets stands.1 answered count has.short stands.2 (some_behind stands.1 (behind octets left) r stands.3) has.at.count has.counted;
      passed = passed_on stream (Asked left) (Settled Closed) octets made later (text r answer true) sent has.within has.pushed (λ l is. tt) has.at.passed;
      fault = has.at.fault;
    }

answered_by : (told : Option (Request → Answer)) (stream : Option StreamOctets) (faults : ℕ) (part other : Part) (r next : Request) (left : ℕ) (answer : Answer) (octets made later : List ℕ) (sent answered count : ℕ) (abandoned goes drained : Bool) → goes ≡ persists r.head
    → IsAnswered told stream faults part r left answer (closes_after goes drained) octets made later sent answered count abandoned → StandsSo told stream faults (answered_stage goes drained left) other next octets later sent count abandoned
answered_by told stream faults part other r next left answer octets made later sent answered count abandoned true true goes has = closes_drained told stream faults part other r next left answer octets made later sent answered count abandoned (sym goes) has
answered_by told stream faults part other r next left answer octets made later sent answered count abandoned true false goes has = goes_on told stream faults part other r next left answer octets made later sent answered count abandoned (sym goes) has
answered_by told stream faults part other r next left answer octets made later sent answered count abandoned false drained goes has = closes_settled told stream faults part other r next left answer octets made later sent answered count abandoned (sym goes) has

pub stands_answered : (told : Option (Request → Answer)) (stream : Option StreamOctets) (faults : ℕ) (part other : Part) (r next : Request) (left : ℕ) (answer : Answer) (octets made later : List ℕ) (sent answered count : ℕ) (abandoned goes drained closes : Bool) (stage : Stage) → goes ≡ persists r.head
    → closes ≡ closes_after goes drained → stage ≡ answered_stage goes drained left → IsAnswered told stream faults part r left answer closes octets made later sent answered count abandoned → StandsSo told stream faults stage other next octets later sent count abandoned
stands_answered told stream faults part other r next left answer octets made later sent answered count abandoned goes drained closes stage goes_is closes_is stage_is has =
    subst (λ (s : Stage). StandsSo told stream faults s other next octets later sent count abandoned) (sym stage_is)
    (answered_by told stream faults part other r next left answer octets made later sent answered count abandoned goes drained goes_is
    (subst (λ (b : Bool). IsAnswered told stream faults part r left answer b octets made later sent answered count abandoned) closes_is has))

pub asked_at : (told : Option (Request → Answer)) (stream : Option StreamOctets) (faults : ℕ) (stage : Stage) (part : Part) (r : Request) (left : ℕ) (octets made : List ℕ) (sent answered : ℕ) (abandoned : Bool) → stage ≡ Asked left
    → StandsSo told stream faults stage part r octets made sent answered abandoned → StandsSo told stream faults (Asked left) part r octets made sent answered abandoned
asked_at told stream faults stage part r left octets made sent answered abandoned stage_is is = subst (λ (s : Stage). StandsSo told stream faults s part r octets made sent answered abandoned) stage_is is

abbrev or_zero : Option ℕ → ℕ
or_zero None = 0
or_zero (Some n) = n

pub asked_stage : (stage : Stage) (left : ℕ) → asked_left stage ≡ Some left → stage ≡ Asked left
asked_stage (Open n) left some = absurd (cc (some))
asked_stage Reading left some = absurd (cc (some))
asked_stage (Asked n) left some = ap (λ (o : Option ℕ). Asked (or_zero o)) some
asked_stage (Settled end) left some = absurd (cc (some))
asked_stage (Ended end) left some = absurd (cc (some))
asked_stage (Drained closes) left some = absurd (cc (some))
asked_stage Broken left some = absurd (cc (some))

-- the stage after the answer, whichever number is left
pub answered_from : (old new : Stage) (left : ℕ) (goes drained persisting : Bool) → asked_left old ≡ Some left → goes ≡ persisting → new ≡ answered_stage goes drained left → (other : ℕ) → old ≡ Asked other → new ≡ answered_stage persisting drained other
answered_from old new left goes drained persisting at goes_is is other at_other =
    is ∙ ap (λ (b : Bool). answered_stage b drained left) goes_is
    ∙ ap (λ (o : Option ℕ). answered_stage persisting drained (or_zero o)) (sym at ∙ ap asked_left at_other)

-- no request is whole
pub not_asked : (old new : Stage) (drained persisting : Bool) → asked_left old ≡ None → (other : ℕ) → old ≡ Asked other → new ≡ answered_stage persisting drained other
not_asked old new drained persisting none other at =
    let wrong : None ≡ Some other = sym none ∙ ap asked_left at in
    absurd (cc (wrong))
