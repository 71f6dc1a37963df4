-- What steps say, by what a connection wants.
use Rattle.std.proofs.Common.{◌≡◌, ℕ, true, false, Bool, Option, Some, None, Result, Ok, refl, sym, ap, subst, ◌∙◌}
use Rattle.std.specs.Prelude.{◌==◌, length, OnErr}
use Rattle.http_heads.specs.Framing.{persists}
use Rattle.kj_base.specs.declared.memory.NoMemory.{NoMemory}
use Rattle.kj_io.specs.Streams.{StreamOctets}
use Rattle.http_stream.specs.declared.stage.Stage.{Stage}
use Rattle.http_stream.specs.declared.stage.Stage.TheVariants.{Open, Reading, Asked, Settled, Ended, Drained, Broken}
use Rattle.http_stream.specs.declared.next.Wants.{Wants}
use Rattle.http_stream.specs.declared.next.Wants.TheVariants as wants
use Rattle.http_stream.specs.declared.next.Next.{Next}
use Rattle.http_stream.specs.declared.connection.StreamConnection.{StreamConnection}
use Rattle.http_stream.specs.Stages.{unlooked, answered_stage}
use Rattle.http_stream.specs.Moves.{wants_at, wants_of, after_reading, Looked}
use Rattle.http_stream.specs.Steps.{LooksAt}

-- ---- a look

not_look : {C : Type 0} (stage : Stage) (all : Bool) (c : StreamConnection C) → unlooked false stage ≡ None → LooksAt (wants_at false stage all) c c
not_look (Open left) all c none = absurd (cc (none))
not_look Reading true c none = refl
not_look Reading false c none = refl
not_look (Asked left) all c none = refl
not_look (Settled end) true c none = refl
not_look (Settled end) false c none = refl
not_look (Ended end) true c none = refl
not_look (Ended end) false c none = refl
not_look (Drained closes) true c none = refl
not_look (Drained closes) false c none = refl
not_look Broken all c none = refl

looks_not_at : {C : Type 0} (abandoned : Bool) (stage : Stage) (all : Bool) (c : StreamConnection C) → unlooked abandoned stage ≡ None → LooksAt (wants_at abandoned stage all) c c
looks_not_at true stage all c none = refl
looks_not_at false stage all c none = not_look stage all c none

pub looks_not : {C : Type 0} (c : StreamConnection C) → unlooked c.abandoned c.stage ≡ None → LooksAt (wants_of c) c c
looks_not c none = looks_not_at c.abandoned c.stage (c.sent == length c.made) c none

open_stage : (stage : Stage) (left : ℕ) → unlooked false stage ≡ Some left → stage ≡ Open left
open_stage (Open n) left some = ap (λ (o : Option ℕ). Open (or_zero o)) some
  where
    or_zero : Option ℕ → ℕ
    or_zero None = 0
    or_zero (Some m) = m
open_stage Reading left some = absurd (cc (some))
open_stage (Asked n) left some = absurd (cc (some))
open_stage (Settled end) left some = absurd (cc (some))
open_stage (Ended end) left some = absurd (cc (some))
open_stage (Drained closes) left some = absurd (cc (some))
open_stage Broken left some = absurd (cc (some))

pub unlooked_open : (abandoned : Bool) (stage : Stage) (left : ℕ) → unlooked abandoned stage ≡ Some left → (abandoned ≡ false) × (stage ≡ Open left)
unlooked_open true stage left some = absurd (cc (some))
unlooked_open false stage left some = (refl, open_stage stage left some)

pub looks : {C : Type 0} (old new : StreamConnection C) (left : ℕ) → (old.abandoned ≡ false) × (old.stage ≡ Open left) → Looked old new → LooksAt (wants_of old) old new
looks old new left at looked =
    let wanted : wants.Look ≡ wants_of old = sym (ap (λ (s : Stage). wants_at old.abandoned s (old.sent == length old.made)) at.1 ∙ ap (λ (b : Bool). wants_at b (Open left) (old.sent == length old.made)) at.0) in
    subst (λ (w : Wants). LooksAt w old new) wanted looked

-- ---- a read

wants_read : (stage : Stage) (all : Bool) → wants_at false stage all ≡ wants.Read → stage ≡ Reading
wants_read (Open left) all is = absurd (cc (is))
wants_read Reading all is = refl
wants_read (Asked left) all is = absurd (cc (is))
wants_read (Settled end) true is = absurd (cc (is))
wants_read (Settled end) false is = absurd (cc (is))
wants_read (Ended end) true is = absurd (cc (is))
wants_read (Ended end) false is = absurd (cc (is))
wants_read (Drained closes) true is = absurd (cc (is))
wants_read (Drained closes) false is = absurd (cc (is))
wants_read Broken all is = absurd (cc (is))

pub reading_stage : (abandoned : Bool) (stage : Stage) (all : Bool) → wants_at abandoned stage all ≡ wants.Read → stage ≡ Reading
reading_stage true stage all is = absurd (cc (is))
reading_stage false stage all is = wants_read stage all is

pub looked : {C : Type 0} (old new : StreamConnection C) (wanted : Wants) → wanted ≡ wants.Look → wanted ≡ wants_of old → LooksAt (wants_of old) old new → Looked old new
looked old new wanted is wanted_is at = subst (λ (w : Wants). LooksAt w old new) (sym wanted_is ∙ is) at

-- ---- an answer

abbrev asked_left_of : Stage → ℕ
asked_left_of (Open left) = 0
asked_left_of Reading = 0
asked_left_of (Asked left) = left
asked_left_of (Settled end) = 0
asked_left_of (Ended end) = 0
asked_left_of (Drained closes) = 0
asked_left_of Broken = 0

wants_answer : (stage : Stage) (all : Bool) → wants_at false stage all ≡ wants.Answer → stage ≡ Asked (asked_left_of stage)
wants_answer (Open left) all is = absurd (cc (is))
wants_answer Reading true is = absurd (cc (is))
wants_answer Reading false is = absurd (cc (is))
wants_answer (Asked left) all is = refl
wants_answer (Settled end) true is = absurd (cc (is))
wants_answer (Settled end) false is = absurd (cc (is))
wants_answer (Ended end) true is = absurd (cc (is))
wants_answer (Ended end) false is = absurd (cc (is))
wants_answer (Drained closes) true is = absurd (cc (is))
wants_answer (Drained closes) false is = absurd (cc (is))
wants_answer Broken all is = absurd (cc (is))

wanted_stage : (abandoned : Bool) (stage : Stage) (all : Bool) → wants_at abandoned stage all ≡ wants.Answer → stage ≡ Asked (asked_left_of stage)
wanted_stage true stage all is = absurd (cc (is))
wanted_stage false stage all is = wants_answer stage all is

goes_after : (abandoned goes drained all : Bool) (left : ℕ) (fact : Type 0) → OnErr (after_reading (wants_at abandoned (answered_stage goes drained left) all)) fact
goes_after true goes drained all left fact = tt
goes_after false true true true left fact = tt
goes_after false true true false left fact = tt
goes_after false true false all left fact = tt
goes_after false false drained true left fact = tt
goes_after false false drained false left fact = tt

-- memory isn't lacking in what follows an answer that was made
pub answered_goes : {C : Type 0} (old new : StreamConnection C) (drained : Bool) (fact : Type 0) → wants_of old ≡ wants.Answer
    → ((left : ℕ) → old.stage ≡ Asked left → new.stage ≡ answered_stage (persists old.request.head) drained left) → OnErr (after_reading (wants_of new)) fact
answered_goes old new drained fact wanted stage =
    let left = asked_left_of old.stage in
    let at = stage left (wanted_stage old.abandoned old.stage (old.sent == length old.made) wanted) in
    subst (λ (s : Stage). OnErr (after_reading (wants_at new.abandoned s (new.sent == length new.made))) fact) (sym at)
    (goes_after new.abandoned (persists old.request.head) drained (new.sent == length new.made) left fact)
