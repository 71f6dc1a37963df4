-- What a connection stands for after a write.
use Rattle.std.proofs.Common.{◌≡◌, ℕ, ◌+◌, ◌-◌, ◌≤◌, ◌<◌, true, Bool, Option, Some, None, List, ◌++◌, length, take, drop, refl, sym, ap, subst, ◌∙◌, arith}
use Rattle.std.specs.Prelude.{IfSome}
use Rattle.std.proofs.Math.Seq.{take-add}
use Rattle.std.proofs.lemmas.List.{take_rest}
use Rattle.kj_io.specs.Streams.{StreamOctets, Writes}
use Rattle.kj_io.specs.declared.stream.Put.{Put}
use Rattle.kj_io.specs.declared.stream.Put.TheVariants as put
use Rattle.http_core.specs.declared.message.Request.{Request}
use Rattle.http_core.specs.declared.message.Answer.{Answer}
use Rattle.http_core.specs.declared.read.Part.{Part}
use Rattle.http_stream.specs.declared.stage.Stage.{Stage}
use Rattle.http_stream.specs.declared.stage.Stage.TheVariants.{Open, Reading, Asked, Settled, Ended, Drained, Broken}
use Rattle.http_stream.specs.Stages.{Leaves}
use Rattle.http_stream.specs.Standing.{HasPassed, StandsSo}

-- the octets from a place on, as a slice has them
pub slice_from : (made slice : List ℕ) (sent : ℕ) → slice ≡ made → take (length slice - sent) (drop sent slice) ≡ drop sent made
slice_from made slice sent same = take_rest slice sent ∙ ap (drop sent) same

-- how many octets a write took
abbrev pub taken : Put → ℕ
taken (put.Bytes n) = n
taken put.NotYet = 0
taken put.Failed = 0

plus_none : (sent : ℕ) → sent ≡ sent + 0
plus_none sent = omega arith

same_written : (stage : Stage) (o later : StreamOctets) (octets made : List ℕ) (sent : ℕ) → later ≡ o → HasPassed stage octets made sent o → HasPassed stage octets made (sent + 0) later
same_written stage o later octets made sent same is =
    subst (λ (n : ℕ). HasPassed stage octets made n later) (plus_none sent) (subst (HasPassed stage octets made sent) (sym same) is)

pub passed_write : (before after : Option StreamOctets) (stage : Stage) (octets made : List ℕ) (sent : ℕ) (answer : Put) → Writes before after answer (drop sent made) → IfSome before (HasPassed stage octets made sent)
    → IfSome after (HasPassed stage octets made (sent + taken answer))
passed_write None None stage octets made sent answer writes is = tt
passed_write None (Some later) stage octets made sent answer writes is = absurd (cc (writes))
passed_write (Some o) None stage octets made sent answer writes is = absurd writes
passed_write (Some o) (Some later) stage octets made sent (put.Bytes n) writes is = record {
  given = writes.given ∙ is.given;
  written = writes.written ∙ ap (λ (b : List ℕ). b ++ take n (drop sent made)) is.written ∙ sym (take-add sent n made);
  left = subst (Leaves stage) (sym writes.left) is.left;
}
passed_write (Some o) (Some later) stage octets made sent put.NotYet writes is = same_written stage o later octets made sent writes is
passed_write (Some o) (Some later) stage octets made sent put.Failed writes is = same_written stage o later octets made sent writes is

-- a write of what wasn't written
pub stands_written : (told : Option (Request → Answer)) (before after : Option StreamOctets) (faults later : ℕ) (stage : Stage) (part : Part) (request : Request) (octets made : List ℕ) (sent now answered : ℕ) (abandoned abandons : Bool) (answer : Put)
    → Writes before after answer (drop sent made) → now ≡ sent + taken answer → (abandons ≡ true → 0 < later) → StandsSo told before faults stage part request octets made sent answered abandoned
    → StandsSo told after later stage part request octets made now answered abandons
stands_written told before after faults later stage part request octets made sent now answered abandoned abandons answer writes now_is fault is = record {
  requests = is.requests;
  stands = is.stands;
  texts = is.texts;
  count = is.count;
  passed = subst (λ (n : ℕ). IfSome after (HasPassed stage octets made n)) (sym now_is) (passed_write before after stage octets made sent answer writes is.passed);
  fault = fault;
}
