-- What a connection stands for after a look or a read.
use Rattle.std.proofs.Common.{◌≡◌, ℕ, ◌+◌, ◌-◌, ◌≤◌, ◌<◌, ◌^◌, true, false, Bool, Option, Some, None, List, [], ◌∷◌, ◌++◌, length, take, drop, min, refl, sym, ap, subst, ◌∙◌, arith}
use Rattle.std.specs.Prelude.{IfSome}
use Rattle.std.proofs.lemmas.List.{append-nil, length-drop}
use Rattle.kj_io.specs.Streams.{StreamOctets, ReadsBehind}
use Rattle.kj_io.specs.Causes.{Rose}
use Rattle.kj_io.specs.declared.stream.Got.{Got}
use Rattle.kj_io.specs.declared.stream.Got.TheVariants as got
use Rattle.http_core.specs.declared.message.Request.{Request}
use Rattle.http_core.specs.declared.message.Answer.{Answer}
use Rattle.http_core.specs.declared.message.End.{End}
use Rattle.http_core.specs.declared.message.End.TheVariants.{Clean, Closed, Bad}
use Rattle.http_core.specs.declared.read.Part.{Part}
use Rattle.http_core.specs.declared.read.Part.TheVariants as parts
use Rattle.http_core.specs.declared.read.RequestRead.{RequestRead}
use Rattle.http_core.specs.declared.read.RequestRead.TheVariants.{More, Whole, Fault}
use Rattle.http_core.specs.Text.{fault_text}
use Rattle.http_core.specs.Requests.{skip_pairs, IsRequest, IsFault, Along, Requests, replies, end_text}
use Rattle.http_core.specs.Reading.{IsReading}
use Rattle.http_core.specs.Serving.{is_idle}
use Rattle.http_core.proofs.ServeLemmas.{along_more}
use Rattle.http_core.proofs.ConnectionLemmas.{awaits_fault, reading_awaits, idle_clean, busy_some}
use Rattle.http_stream.specs.declared.stage.Stage.{Stage}
use Rattle.http_stream.specs.declared.stage.Stage.TheVariants.{Open, Reading, Asked, Settled, Ended, Drained, Broken}
use Rattle.http_stream.specs.Stages.{behind, Made, read_stage, is_drained, unlooked}
use Rattle.http_stream.specs.Standing.{HasPassed, StandsSo, IsBetween, IsAtEnd}
use Rattle.http_stream.proofs.OctetLemmas.{piece_behind, nothing_behind, passed_on, passed_as, passed_read, end_read}

-- ---- between two answers

pub between_open : (told : Option (Request → Answer)) (stream : Option StreamOctets) (faults : ℕ) (stage : Stage) (part : Part) (request : Request) (octets made : List ℕ) (sent answered : ℕ) (abandoned : Bool) (left : ℕ) → stage ≡ Open left
    → StandsSo told stream faults stage part request octets made sent answered abandoned → (left ≤ length octets) × IsBetween told stream faults octets (behind octets left) made sent answered abandoned
between_open told stream faults stage part request octets made sent answered abandoned left stage_is is =
    let at : StandsSo told stream faults (Open left) part request octets made sent answered abandoned = subst (λ (s : Stage). StandsSo told stream faults s part request octets made sent answered abandoned) stage_is is in (
      at.stands.0,
      record {
        requests = at.requests;
        along = at.stands.1;
        texts = at.texts;
        count = at.count;
        passed = passed_as stream (Open left) Reading octets made sent (λ l is. tt) at.passed;
        fault = at.fault;
      },
    )

pub stands_more : (told : Option (Request → Answer)) (stream : Option StreamOctets) (faults : ℕ) (part : Part) (request : Request) (octets rest made : List ℕ) (sent answered : ℕ) (abandoned : Bool) → IsReading part rest → IsBetween told stream faults octets rest made sent answered abandoned
    → StandsSo told stream faults Reading part request octets made sent answered abandoned
stands_more told stream faults part request octets rest made sent answered abandoned reading is = record {
  requests = is.requests;
  stands = (rest, is.along, reading);
  texts = is.texts;
  count = is.count;
  passed = is.passed;
  fault = is.fault;
}

pub stands_whole : (told : Option (Request → Answer)) (stream : Option StreamOctets) (faults : ℕ) (part : Part) (request : Request) (octets rest made : List ℕ) (sent answered : ℕ) (abandoned : Bool) (left : ℕ)
    → (left ≤ length octets) × IsRequest (skip_pairs rest) request (behind octets left) → IsBetween told stream faults octets rest made sent answered abandoned
    → StandsSo told stream faults (Asked left) part request octets made sent answered abandoned
stands_whole told stream faults part request octets rest made sent answered abandoned left whole is = record {
  requests = is.requests;
  stands = (whole.0, rest, is.along, whole.1);
  texts = is.texts;
  count = is.count;
  passed = passed_as stream Reading (Asked left) octets made sent (λ l is. tt) is.passed;
  fault = is.fault;
}

texts_fault : (told : Option (Request → Answer)) (requests : List Request) (made later : List ℕ) (code : ℕ) → later ≡ made ++ fault_text code → IfSome told (λ f. made ≡ replies f requests) → IfSome told (λ f. later ≡ replies f requests ++ fault_text code)
texts_fault None requests made later code pushed is = tt
texts_fault (Some f) requests made later code pushed is = pushed ∙ ap (λ (b : List ℕ). b ++ fault_text code) is

pub stands_fault : (told : Option (Request → Answer)) (stream : Option StreamOctets) (faults : ℕ) (part : Part) (request : Request) (octets rest made later : List ℕ) (sent answered : ℕ) (abandoned : Bool) (code : ℕ) → sent ≤ length made → later ≡ made ++ fault_text code
    → ((more : List ℕ) → IsFault (skip_pairs (rest ++ more)) code) → IsBetween told stream faults octets rest made sent answered abandoned
    → StandsSo told stream faults (Settled (Bad code)) part request octets later sent answered abandoned
stands_fault told stream faults part request octets rest made later sent answered abandoned code within pushed faulty is = record {
  requests = is.requests;
  stands = λ more. (rest ++ more, along_more is.requests octets rest more is.along, faulty more);
  texts = texts_fault told is.requests made later code pushed is.texts;
  count = is.count;
  passed = passed_on stream Reading (Settled (Bad code)) octets made later (fault_text code) sent within pushed (λ l is. tt) is.passed;
  fault = is.fault;
}

pub stands_broken : (told : Option (Request → Answer)) (stream : Option StreamOctets) (faults : ℕ) (part : Part) (request : Request) (octets rest made later : List ℕ) (sent answered : ℕ) (abandoned : Bool) → later ≡ made → IsBetween told stream faults octets rest made sent answered abandoned
    → StandsSo told stream faults Broken part request octets later sent answered abandoned
stands_broken told stream faults part request octets rest made later sent answered abandoned same is =
    subst (λ (b : List ℕ). StandsSo told stream faults Broken part request octets b sent answered abandoned) (sym same) (record {
      requests = is.requests;
      stands = (rest, is.along);
      texts = is.texts;
      count = is.count;
      passed = passed_as stream Reading Broken octets made sent (λ l is. tt) is.passed;
      fault = is.fault;
    })

-- ---- the end of the stream

passed_end : (stream : Option StreamOctets) (end : End) (octets made later more : List ℕ) (sent : ℕ) → sent ≤ length made → later ≡ made ++ more → IsAtEnd stream → IfSome stream (HasPassed Reading octets made sent) → IfSome stream (HasPassed (Ended end) octets later sent)
passed_end None end octets made later more sent within grown at_end is = tt
passed_end (Some o) end octets made later more sent within grown at_end is =
    let on : HasPassed Reading octets later sent o = passed_on (Some o) Reading Reading octets made later more sent within grown (λ l is. tt) is in
    record { given = on.given; written = on.written; left = at_end }

texts_clean : (told : Option (Request → Answer)) (requests : List Request) (made : List ℕ) → IfSome told (λ f. made ≡ replies f requests) → IfSome told (λ f. made ≡ replies f requests ++ [])
texts_clean None requests made is = tt
texts_clean (Some f) requests made is = is ∙ sym (append-nil (replies f requests))

pub stands_clean : (told : Option (Request → Answer)) (stream : Option StreamOctets) (faults : ℕ) (part : Part) (request : Request) (octets rest made : List ℕ) (sent answered : ℕ) (abandoned : Bool) → sent ≤ length made → true ≡ is_idle part → IsReading part rest → IsAtEnd stream
    → IsBetween told stream faults octets rest made sent answered abandoned → StandsSo told stream faults (Ended Clean) part request octets made sent answered abandoned
stands_clean told stream faults part request octets rest made sent answered abandoned within idle reading at_end is = record {
  requests = is.requests;
  stands = (rest, is.along, idle_clean part rest idle reading);
  texts = texts_clean told is.requests made is.texts;
  count = is.count;
  passed = passed_end stream Clean octets made made [] sent within (sym (append-nil made)) at_end is.passed;
  fault = is.fault;
}

pub stands_cut : (told : Option (Request → Answer)) (stream : Option StreamOctets) (faults : ℕ) (part : Part) (request : Request) (octets rest made later : List ℕ) (sent answered : ℕ) (abandoned : Bool) → sent ≤ length made → later ≡ made ++ fault_text 400 → false ≡ is_idle part → IsReading part rest
    → IsAtEnd stream → IsBetween told stream faults octets rest made sent answered abandoned → StandsSo told stream faults (Ended (Bad 400)) part request octets later sent answered abandoned
stands_cut told stream faults part request octets rest made later sent answered abandoned within pushed busy reading at_end is = record {
  requests = is.requests;
  stands = (rest, is.along, awaits_fault (skip_pairs rest) (busy_some part rest busy reading) (reading_awaits part rest reading));
  texts = texts_fault told is.requests made later 400 pushed is.texts;
  count = is.count;
  passed = passed_end stream (Bad 400) octets made later (fault_text 400) sent within pushed at_end is.passed;
  fault = is.fault;
}

-- nothing changed, for want of memory
pub stands_uncut : (told : Option (Request → Answer)) (stream : Option StreamOctets) (faults : ℕ) (stage : Stage) (part : Part) (request : Request) (octets rest made later : List ℕ) (sent answered : ℕ) (abandoned : Bool) → stage ≡ Reading → later ≡ made → IsReading part rest
    → IsBetween told stream faults octets rest made sent answered abandoned → StandsSo told stream faults stage part request octets later sent answered abandoned
stands_uncut told stream faults stage part request octets rest made later sent answered abandoned stage_is same reading is =
    subst (λ (s : Stage). StandsSo told stream faults s part request octets later sent answered abandoned) (sym stage_is)
    (subst (λ (b : List ℕ). StandsSo told stream faults Reading part request octets b sent answered abandoned) (sym same)
    (stands_more told stream faults part request octets rest made sent answered abandoned reading is))

-- ---- a read of the stream

-- a request that isn't whole, with what was read for it
pub record IsReadOn (told : Option (Request → Answer)) (stream : Option StreamOctets) (faults : ℕ) (part : Part) (from : ℕ) (octets made : List ℕ) (sent answered : ℕ) (abandoned : Bool) : Type 0 where
  pub rest : List ℕ
  pub reading : IsReading part rest
  pub between : IsBetween told stream faults octets (rest ++ drop from octets) made sent answered abandoned

pub later_fault : (abandoned : Bool) (faults later : ℕ) → faults ≤ later → (abandoned ≡ true → 0 < faults) → abandoned ≡ true → 0 < later
later_fault abandoned faults later rises fault is = omega (arith, rises, fault is)

pub read_on_bytes : (told : Option (Request → Answer)) (before after : Option StreamOctets) (faults later : ℕ) (stage : Stage) (part : Part) (request : Request) (octets read made : List ℕ) (sent answered : ℕ) (abandoned : Bool) (answer : Got) → stage ≡ Reading
    → ReadsBehind before after octets read answer → faults ≤ later → StandsSo told before faults stage part request octets made sent answered abandoned → IsReadOn told after later part (length octets) read made sent answered abandoned
read_on_bytes told before after faults later stage part request octets read made sent answered abandoned answer stage_is reads rises is =
    let at : StandsSo told before faults Reading part request octets made sent answered abandoned = subst (λ (s : Stage). StandsSo told before faults s part request octets made sent answered abandoned) stage_is is in
    let more : Along at.requests read (at.stands.0 ++ reads.piece) = subst (λ (b : List ℕ). Along at.requests b (at.stands.0 ++ reads.piece)) (sym reads.stays) (along_more at.requests octets at.stands.0 reads.piece at.stands.1) in
    record {
      rest = at.stands.0;
      reading = at.stands.2;
      between = record {
        requests = at.requests;
        along = subst (λ (b : List ℕ). Along at.requests read (at.stands.0 ++ b)) (sym (piece_behind octets read reads.piece reads.stays)) more;
        texts = at.texts;
        count = at.count;
        passed = passed_read before after octets read made sent answer reads at.passed;
        fault = later_fault abandoned faults later rises at.fault;
      };
    }

-- the same where nothing was read
pub record IsReadStill (told : Option (Request → Answer)) (stream : Option StreamOctets) (faults : ℕ) (part : Part) (octets made : List ℕ) (sent answered : ℕ) (abandoned : Bool) : Type 0 where
  pub rest : List ℕ
  pub reading : IsReading part rest
  pub between : IsBetween told stream faults octets rest made sent answered abandoned

pub read_nothing : (told : Option (Request → Answer)) (before after : Option StreamOctets) (faults later : ℕ) (stage : Stage) (part : Part) (request : Request) (octets read made : List ℕ) (sent answered : ℕ) (abandoned now : Bool) (answer : Got) → stage ≡ Reading
    → (reads : ReadsBehind before after octets read answer) → length reads.piece ≡ 0 → (now ≡ true → 0 < later) → StandsSo told before faults stage part request octets made sent answered abandoned → IsReadStill told after later part read made sent answered now
read_nothing told before after faults later stage part request octets read made sent answered abandoned now answer stage_is reads none fault is =
    let at : StandsSo told before faults Reading part request octets made sent answered abandoned = subst (λ (s : Stage). StandsSo told before faults s part request octets made sent answered abandoned) stage_is is in
    record {
      rest = at.stands.0;
      reading = at.stands.2;
      between = record {
        requests = at.requests;
        along = subst (λ (b : List ℕ). Along at.requests b at.stands.0) (sym (nothing_behind octets read reads.piece reads.stays none)) at.stands.1;
        texts = at.texts;
        count = at.count;
        passed = passed_read before after octets read made sent answer reads at.passed;
        fault = fault;
      };
    }

pub risen : (before later : ℕ) → Rose before later → 0 < later
risen before later rose = omega (arith, rose)

pub stands_still : (told : Option (Request → Answer)) (before after : Option StreamOctets) (faults later : ℕ) (stage : Stage) (part : Part) (request : Request) (octets read made : List ℕ) (sent answered : ℕ) (abandoned now : Bool) (answer : Got) → stage ≡ Reading
    → (reads : ReadsBehind before after octets read answer) → length reads.piece ≡ 0 → (now ≡ true → 0 < later) → StandsSo told before faults stage part request octets made sent answered abandoned
    → StandsSo told after later stage part request read made sent answered now
stands_still told before after faults later stage part request octets read made sent answered abandoned now answer stage_is reads none fault is =
    let still = read_nothing told before after faults later stage part request octets read made sent answered abandoned now answer stage_is reads none fault is in
    stands_uncut told after later stage part request read still.rest made made sent answered now stage_is refl still.reading still.between

-- nothing was read, for want of memory
pub stands_unread : {C : Type 0} (stream_told : C → Option StreamOctets) (stream_faults : C → ℕ) (told : Option (Request → Answer)) (old new : C) (stage : Stage) (part : Part) (request : Request) (octets read made : List ℕ) (sent answered : ℕ) (abandoned : Bool) → (new ≡ old) × (read ≡ octets)
    → StandsSo told (stream_told old) (stream_faults old) stage part request octets made sent answered abandoned → StandsSo told (stream_told new) (stream_faults new) stage part request read made sent answered abandoned
stands_unread {C = C} stream_told stream_faults told old new stage part request octets read made sent answered abandoned same is =
    subst (λ (x : C). StandsSo told (stream_told x) (stream_faults x) stage part request read made sent answered abandoned) (sym same.0)
    (subst (λ (b : List ℕ). StandsSo told (stream_told old) (stream_faults old) stage part request b made sent answered abandoned) (sym same.1) is)

pub read_undrained : (read : RequestRead) (stage : Stage) → stage ≡ read_stage read → is_drained stage ≡ false
read_undrained (More part) stage is = ap is_drained is
read_undrained (Whole request left) stage is = ap is_drained is
read_undrained (Fault code) stage is = ap is_drained is

-- ---- a new connection

passed_new : (stream : Option StreamOctets) (octets made : List ℕ) → octets ≡ [] → IfSome stream (λ o. (o.given ≡ []) × (o.written ≡ [])) → IfSome stream (HasPassed Reading octets made 0)
passed_new None octets made none fresh = tt
passed_new (Some o) octets made none fresh = record { given = fresh.0 ∙ sym none; written = fresh.1; left = tt }

texts_new : (told : Option (Request → Answer)) (made : List ℕ) → made ≡ [] → IfSome told (λ f. made ≡ replies f [])
texts_new None made none = tt
texts_new (Some f) made none = none

pub stands_new : (told : Option (Request → Answer)) (stream : Option StreamOctets) (faults : ℕ) (request : Request) (octets line made : List ℕ) → octets ≡ [] → line ≡ [] → made ≡ [] → IfSome stream (λ o. (o.given ≡ []) × (o.written ≡ []))
    → StandsSo told stream faults Reading (parts.Line line) request octets made 0 0 false
stands_new told stream faults request octets line made octets_none line_none made_none fresh = record {
  requests = [];
  stands = ([], octets_none, (sym line_none, (λ k inside. absurd (omega (arith, inside, ap length line_none))), omega (arith, ap length line_none)));
  texts = texts_new told made made_none;
  count = refl;
  passed = passed_new stream octets made octets_none fresh;
  fault = λ is. absurd (cc (is));
}

pub read_looked : (read : RequestRead) (stage : Stage) → stage ≡ read_stage read → unlooked false stage ≡ None
read_looked (More part) stage is = ap (unlooked false) is
read_looked (Whole request left) stage is = ap (unlooked false) is
read_looked (Fault code) stage is = ap (unlooked false) is
