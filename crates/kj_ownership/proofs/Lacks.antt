-- An evaluation leaves the loop as it was, or it gives nothing, where a step found no memory after all that was told.
use Rattle.std.proofs.Common.{◌≡◌, ◌∙◌, refl, subst, ℕ, zero, suc, List, [], ◌∷◌, ◌++◌, Bool, true, false, Option, None, Some}
use Rattle.kj_base.specs.declared.outcomes.Outcome.{Outcome}
use Rattle.kj_base.specs.Commands.{Action}
use Rattle.kj_base.specs.Record.{Run}
use Rattle.kj_model.specs.Nodes.{Form, Then, Side, Race, Join, Waits, Fired, Keeps, Gone, form_at}
use Rattle.kj_model.specs.World.{State, Setting, depth_of}
use Rattle.kj_model.specs.Changes.{silent, put}
use Rattle.kj_model.specs.Free.{usual}
use Rattle.kj_model.specs.Value.{Given, Gave, Took, answered, run_step, step_passed, chosen, then_valued, then_of, given_outcome, side_valued, side_of, value_side, rest_valued, all_valued, value_form, value_to, value, value_link, freed, with_item}
use Rattle.kj_ownership.specs.Memory.{LacksMemory}
use Rattle.kj_ownership.proofs.KeepsRunning.{free_runs, acted_runs}

no_some : {A : Type 0} (x : A) → ◌≡◌ {A = Option A} (Some x) None → ⊥
no_some x e = cc

-- a step found no memory just now
pub record Lacked (setting : Setting) (t : State) : Type 0 where
  pub stopped : t.world.stopped ≡ true
  pub lacks : LacksMemory setting t.past

-- what an evaluation gave tells whether the loop still runs
abbrev pub Leaves : {X : Type 0} → Setting → Bool → Option X → State → Type 0
Leaves setting b None t = Lacked setting t
Leaves setting b (Some x) t = t.world.stopped ≡ b

-- the same of a state with what was given
abbrev pub Leaving : {X : Type 0} → Setting → Bool → State × Option X → Type 0
Leaving setting b r = Leaves setting b r.1 r.0

pub lacked_of : {X : Type 0} (setting : Setting) (b : Bool) (o : Option X) (t : State) → Leaves setting b o t → o ≡ None → Lacked setting t
lacked_of setting b None t h e = h
lacked_of setting b (Some x) t h e = absurd (no_some x e)

answer_leaves : (setting : Setting) (a : Option Action) (under : Bool) (n step : ℕ) (input : Outcome) (s : State) → setting.answer s.past step ≡ a → Leaving setting s.world.stopped (answered setting a under n step input s)
answer_leaves setting None under n step input s is = record { stopped = refl; lacks = (step, is) }
answer_leaves setting (Some action) under n step input s is = acted_runs setting action under input (with_item (Run n step input action) s)

pub step_leaves : (setting : Setting) (under : Bool) (n step : ℕ) (input : Outcome) (s : State) → Leaving setting s.world.stopped (run_step setting under n step input s)
step_leaves setting under n step input s = answer_leaves setting (setting.answer s.past step) under n step input s refl

passed_leaves : (setting : Setting) (step : Option ℕ) (under : Bool) (n : ℕ) (o : Outcome) (s : State) → Leaving setting s.world.stopped (step_passed setting under n step o s)
passed_leaves setting None under n o s = refl
passed_leaves setting (Some step) under n o s = step_leaves setting under n step o s

valued_leaves : (setting : Setting) (under : Bool) (n t : ℕ) (v e : Option ℕ) (o : Option Outcome) (b : Bool) (s : State) → Leaves setting b o s → Leaving setting b (then_valued setting under n v e t o s)
valued_leaves setting under n t v e None b s h = h
valued_leaves setting under n t v e (Some o) b s h =
    let u = silent (put n (Then v e None)) (freed t s) in
    subst (λ (c : Bool). Leaving setting c (step_passed setting under n (chosen v e o) o u)) (free_runs (usual s.world) t s ∙ h) (passed_leaves setting (chosen v e o) under n o u)

-- so does each evaluation of the trees below (the hypothesis)
abbrev pub EachLeaves : Setting → (ℕ → State → State × Option Outcome) → Type 0
EachLeaves setting value = (t : ℕ) (s : State) → Leaving setting s.world.stopped (value t s)

then_leaves : (setting : Setting) (value : ℕ → State → State × Option Outcome) (under : Bool) (n : ℕ) (o : Option Form) (s : State) → EachLeaves setting value → Leaving setting s.world.stopped (then_of setting value under n o s)
then_leaves setting value under n (Some (Then v e (Some t))) s h = let r = value t s in valued_leaves setting under n t v e r.1 s.world.stopped r.0 (h t s)
then_leaves setting value under n (Some (Then v e None)) s h = refl
then_leaves setting value under n None s h = refl
then_leaves setting value under n (Some _) s h = refl

given_leaves : (setting : Setting) (b : Bool) (g : Option Given) (t : State) → Leaves setting b g t → Leaves setting b (given_outcome g) t
given_leaves setting b None t h = h
given_leaves setting b (Some (Gave o)) t h = h
given_leaves setting b (Some (Took root)) t h = h

side_ends : (setting : Setting) (side t : ℕ) (o : Option Outcome) (b : Bool) (s : State) → Leaves setting b o s → Leaving setting b (side_valued side t o s)
side_ends setting side t None b s h = h
side_ends setting side t (Some o) b s h = free_runs (usual s.world) t s ∙ h

side_leaves : (setting : Setting) (value : ℕ → State → State × Option Outcome) (side : ℕ) (o : Option Form) (s : State) → EachLeaves setting value → Leaving setting s.world.stopped (side_of value side o s)
side_leaves setting value side (Some (Side (Fired t))) s h = let r = value t s in side_ends setting side t r.1 s.world.stopped r.0 (h t s)
side_leaves setting value side (Some (Side (Keeps o))) s h = refl
side_leaves setting value side (Some (Side (Waits t))) s h = refl
side_leaves setting value side (Some (Side Gone)) s h = refl
side_leaves setting value side None s h = refl
side_leaves setting value side (Some _) s h = refl

rest_leaves : (setting : Setting) (o : Option Outcome) (rest : Outcome → State → State × Option Outcome) (b : Bool) (s : State) → Leaves setting b o s → ((x : Outcome) (u : State) → Leaving setting u.world.stopped (rest x u)) → Leaving setting b (rest_valued o rest s)
rest_leaves setting None rest b s h g = h
rest_leaves setting (Some o) rest b s h g = subst (λ (c : Bool). Leaving setting c (rest o s)) h (g o s)

all_leaves : (setting : Setting) (value : ℕ → State → State × Option Outcome) (outcomes : List Outcome) (sides : List ℕ) (s : State) → EachLeaves setting value → Leaving setting s.world.stopped (all_valued value outcomes sides s)
all_leaves setting value outcomes [] s h = refl
all_leaves setting value outcomes (side ∷ sides) s h =
    let r = value_side value side s in
    rest_leaves setting r.1 (λ x. all_valued value (outcomes ++ x ∷ []) sides) s.world.stopped r.0 (side_leaves setting value side (form_at side s.world.nodes) s h) (λ x u. all_leaves setting value (outcomes ++ x ∷ []) sides u h)

form_leaves : (setting : Setting) (value : ℕ → State → State × Option Outcome) (n : ℕ) (o : Option Form) (s : State) → EachLeaves setting value → Leaving setting s.world.stopped (value_form setting value n o s)
form_leaves setting value n (Some (Then v e t)) s h =
    let r = then_of setting value false n (Some (Then v e t)) s in
    given_leaves setting s.world.stopped r.1 r.0 (then_leaves setting value false n (Some (Then v e t)) s h)
form_leaves setting value n (Some (Race l r None)) s h = refl
form_leaves setting value n (Some (Race l r (Some side))) s h = side_leaves setting value side (form_at side s.world.nodes) s h
form_leaves setting value n (Some (Join true sides)) s h = refl
form_leaves setting value n (Some (Join false sides)) s h = all_leaves setting value [] sides s h
form_leaves setting value n None s h = refl
form_leaves setting value n (Some _) s h = refl

value_to_leaves : (setting : Setting) (k : ℕ) → EachLeaves setting (value_to setting k)
unfolding value_to
value_to_leaves setting zero n s = refl
value_to_leaves setting (suc k) n s = form_leaves setting (value_to setting k) n (form_at n s.world.nodes) s (value_to_leaves setting k)

-- an evaluation
pub value_leaves : (setting : Setting) → EachLeaves setting (value setting)
value_leaves setting n s = value_to_leaves setting (depth_of s.world) n s

-- that of the Then under a Chain
pub link_leaves : (setting : Setting) (n : ℕ) (s : State) → Leaving setting s.world.stopped (value_link setting n s)
link_leaves setting n s = then_leaves setting (value setting) true n (form_at n s.world.nodes) s (value_leaves setting)

-- one that gives nothing stops the loop
pub value_stops : (setting : Setting) (n : ℕ) (s : State) → (value setting n s).1 ≡ None → (value setting n s).0.world.stopped ≡ true
value_stops setting n s e = let r = value setting n s in (lacked_of setting s.world.stopped r.1 r.0 (value_leaves setting n s) e).stopped

pub link_stops : (setting : Setting) (n : ℕ) (s : State) → (value_link setting n s).1 ≡ None → (value_link setting n s).0.world.stopped ≡ true
link_stops setting n s e = let r = value_link setting n s in (lacked_of setting s.world.stopped r.1 r.0 (link_leaves setting n s) e).stopped
