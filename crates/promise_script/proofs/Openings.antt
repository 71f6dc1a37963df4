-- A body is open behind a line only where it was before, or where the line begins one.
use Rattle.std.proofs.Common.{◌≡◌, ◌⊎◌, ℕ, ◌≤◌, ◌==◌, List, [], ◌∷◌, Option, None, Some, Bool, true, false, cond, refl, sym, ap, ◌∙◌, arith, length, inl, inr}
use Rattle.std.specs.Prelude.{codes, decimal}
use Rattle.kj_base.specs.declared.numbers.StepId.{StepId}
use Rattle.kj_base.specs.declared.endings.Ending.{Ending}
use Rattle.promise_commands.specs.declared.command.Command.{Command}
use Rattle.promise_commands.specs.declared.script.Line.{Line}
use Rattle.promise_commands.specs.declared.script.Line.TheVariants.{Do as DoLine, Turn as TurnLine, Run as RunLine, Wait as WaitLine}
use Rattle.promise_script.specs.declared.meaning.Meaning.{Meaning}
use Rattle.promise_script.specs.declared.meaning.Meaning.TheVariants.{Nothing, Limits as LimitsLine, Do, Turn, Run, Wait, Step, Close}
use Rattle.promise_script.specs.Decode.{text_read}
use Rattle.promise_script.specs.Assembly.{Part, Reading, outside, with_line, part_commanded, part_closed, stood, line_stood, is_inside}
use Rattle.promise_script.proofs.Meanings.{text_sound, then_some}

abbrev Opens : Meaning → Reading → Type 0
Opens m r = (is_inside r.part ≡ true) ⊎ ((s : StepId) × (m ≡ Step s))

same_part : (m : Meaning) (r x q : Reading) → x.part ≡ r.part → Some x ≡ Some q → is_inside q.part ≡ true → Opens m r
same_part m r x q kept e inside =
    let same : x ≡ q = cc (e) in
    let part : r.part ≡ q.part = sym kept ∙ ap (λ (y : Reading). y.part) same in
    inl (ap is_inside part ∙ inside)

lined_opens : (m : Meaning) (n : ℕ) (line : Line) (r q : Reading) (p : Option Part) → outside p (with_line n line r) ≡ Some q → is_inside q.part ≡ true → Opens m r
lined_opens m n line r q None e inside = same_part m r (with_line n line r) q refl e inside
lined_opens m n line r q (Some part) e inside = absurd (cc (e))

commanded_opens : (m : Meaning) (n : ℕ) (c : Command) (r q : Reading) (p : Option Part) → r.part ≡ p → part_commanded n c p r ≡ Some q → is_inside q.part ≡ true → Opens m r
commanded_opens m n c r q None at e inside = same_part m r (with_line n (DoLine c) r) q refl e inside
commanded_opens m n c r q (Some part) at e inside = inl (ap is_inside at)

closed_opens : (m : Meaning) (x : Ending) (r q : Reading) (p : Option Part) → part_closed x p r ≡ Some q → is_inside q.part ≡ true → Opens m r
closed_opens m x r q None e inside = absurd (cc (e))
closed_opens m x r q (Some part) e inside =
    let gone : None ≡ q.part = ap (λ (o : Option Reading). part_of o) e in
    absurd (cc (inside, gone))
  where
    part_of : Option Reading → Option Part
    part_of None = None
    part_of (Some y) = y.part

limited_opens : (m : Meaning) (r x q : Reading) (b : Bool) → x.part ≡ r.part → cond b None (Some x) ≡ Some q → is_inside q.part ≡ true → Opens m r
limited_opens m r x q true kept e inside = absurd (cc (e))
limited_opens m r x q false kept e inside = same_part m r x q kept e inside

stood_opens : (n : ℕ) (m : Meaning) (r q : Reading) → stood n m r ≡ Some q → is_inside q.part ≡ true → Opens m r
stood_opens n Nothing r q e inside = same_part Nothing r r q refl e inside
stood_opens n (LimitsLine l) r q e inside =
    limited_opens (LimitsLine l) r (record { started = true; limits = Some l; bodies = r.bodies; lines = r.lines; part = r.part }) q r.started refl e inside
stood_opens n (Do c) r q e inside = commanded_opens (Do c) n c r q r.part refl e inside
stood_opens n Turn r q e inside = lined_opens Turn n TurnLine r q r.part e inside
stood_opens n (Run k) r q e inside = lined_opens (Run k) n (RunLine k) r q r.part e inside
stood_opens n (Wait p k) r q e inside = lined_opens (Wait p k) n (WaitLine p k) r q r.part e inside
stood_opens n (Step s) r q e inside = inr (s, refl)
stood_opens n (Close x) r q e inside = closed_opens (Close x) x r q r.part e inside

-- a line that begins a body has at least two octets
step_long : (text : List ℕ) (s : StepId) → text_read text ≡ Some (Step s) → 2 ≤ length text
step_long [] s e = absurd (cc (e))
step_long (c ∷ []) s e = absurd (by (c == 32) (text_sound (c ∷ []) (Step s) e).1)
  where
    by : (b : Bool) → cond b ([] ∷ [] ∷ []) ((c ∷ []) ∷ []) ≡ codes "step" ∷ decimal s.0 ∷ [] → ⊥
    by true same = cc (same)
    by false same = cc (same)
step_long (c ∷ d ∷ cs) s e = omega arith

pub opened : (n : ℕ) (r q : Reading) (text : List ℕ) → line_stood n r text ≡ Some q → is_inside q.part ≡ true → (is_inside r.part ≡ true) ⊎ (2 ≤ length text)
opened n r q text e inside =
    let found = then_some (λ m. stood n m r) (text_read text) q e in
    by found.0 found.1 (stood_opens n found.0 r q found.2 inside)
  where
    by : (m : Meaning) → text_read text ≡ Some m → Opens m r → (is_inside r.part ≡ true) ⊎ (2 ≤ length text)
    by m read (inl was) = inl was
    by m read (inr steps) = inr (step_long text steps.0 (read ∙ ap (λ (x : Meaning). Some x) steps.1))
