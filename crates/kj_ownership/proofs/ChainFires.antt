-- A Chain that fires: its step may give a promise, which takes its place.
use Rattle.std.proofs.Common.{◌≡◌, inl, ℕ, List, [], ◌∷◌, Bool, true, false, Option, None, Some, refl, sym, ap, ◌∙◌, subst}
use Rattle.std.specs.Prelude.{is_some}
use Rattle.kj_base.specs.declared.outcomes.Outcome.{Outcome}
use Rattle.kj_base.specs.declared.endings.Ending.{Ending}
use Rattle.kj_base.specs.declared.endings.Ending.TheVariants.{Value as Give, Throw, Promise as PromiseEnding, Input}
use Rattle.kj_base.specs.Commands.{Action}
use Rattle.kj_base.specs.Record.{Run}
use Rattle.kj_model.specs.Nodes.{Form, Ready, Then, Chain, form_at, parts_found, is_in, holds}
use Rattle.kj_model.specs.World.{World, State, Setting, Held, Promise, held_at, depth_of}
use Rattle.kj_model.specs.Changes.{silent, put, gone}
use Rattle.kj_model.specs.Listening.{listened}
use Rattle.kj_model.specs.Free.{usual}
use Rattle.kj_model.specs.Value.{Given, Gave, Took, took_if, holds_firing, promise_taken, ended, ended_if, all_applied, with_item, with_stopped, answered, step_passed, chosen, freed, then_valued, then_of, value, value_link}
use Rattle.kj_model.specs.Fire.{awaited_renamed, replaced, chain_ended}
use Rattle.kj_model.specs.Falling.{falling, is_branch_of}
use Rattle.kj_ownership.specs.Owners.{owns}
use Rattle.kj_ownership.specs.Standing.{Climbs, Standing, Owned}
use Rattle.kj_ownership.specs.Stems.{stem, Frames, is_steady}
use Rattle.kj_ownership.specs.Shapes.{OfTree, suits, Shaped}
use Rattle.kj_model.proofs.Members.{in_self}
use Rattle.kj_model.proofs.Falling.{node_frees, gone_freed}
use Rattle.kj_ownership.proofs.Stays.{owns_before}
use Rattle.kj_ownership.proofs.Changed.{unnamed_standing}
use Rattle.kj_ownership.proofs.Fires.{fired_frames}
use Rattle.kj_ownership.proofs.Frames.{stem_of}
use Rattle.kj_ownership.proofs.Chains.{chain_took, taken_apart}
use Rattle.kj_ownership.proofs.Shapes.{empty_suits, shaped_unnamed, shaped_freed, suits_staying}
use Rattle.kj_ownership.proofs.Evaluates.{Evals, SameTurn, turn_both, turn_freed, shaped_free, CommandsKeep, value_keeps, all_keep, told_owned, step_keeps, Clears, tree_cleared, kept_form, part_value, evals_none, evals_both, evals_less, then_clears, frame_live, rest_of}
use Rattle.kj_ownership.proofs.Reached.{reached_listened, reached_none, listened_only, shaped_only}
use Rattle.kj_ownership.proofs.Builders.{source_suits}
use Rattle.kj_ownership.proofs.Walks.{Went, went_both, went_reached}
use Rattle.kj_ownership.proofs.Firing.{Fires, fires_went, evals_went}
use Rattle.kj_ownership.proofs.Placing.{shaped_replaced, chain_place}

-- the promise that a step gave: its tree stands nowhere, and the Chain isn't in it
pub record IsTaken (n root : ℕ) (s t : State) : Type 0 where
  pub standing : Standing (root ∷ []) [] [] t
  pub shaped : Shaped t.world
  pub same : SameTurn s.world t.world
  pub at : stem (form_at n t.world.nodes) ≡ stem (form_at n s.world.nodes)
  pub tree : suits OfTree (form_at root t.world.nodes) ≡ true
  pub apart : (ys : List ℕ) → Climbs t.world.nodes n ys → is_in root (n ∷ ys) ≡ false

abbrev pub Linked : ℕ → State → Option Given → State → Type 0
Linked n s None t = Evals s t (n ∷ [])
Linked n s (Some (Gave o)) t = Evals s t (n ∷ [])
Linked n s (Some (Took root)) t = IsTaken n root s t

linked_later : (g : Option Given) (n : ℕ) (s t u : State) → Evals s t (n ∷ []) → Linked n t g u → Linked n s g u
linked_later None n s t u e l = evals_both s t u (n ∷ []) e l
linked_later (Some (Gave o)) n s t u e l = evals_both s t u (n ∷ []) e l
linked_later (Some (Took root)) n s t u e l = record { standing = l.standing; shaped = l.shaped; same = turn_both s.world t.world u.world e.same l.same; at = l.at ∙ e.forms n (in_self n []); tree = l.tree; apart = l.apart }

-- an ending
took_linked : (b : Bool) (name root n : ℕ) (s : State) → held_at name s.world.names ≡ Some (Promise root) → s.world.firing ≡ Some n → holds (depth_of s.world) s.world.nodes n root ≡ b → Owned s → Shaped s.world → Frames s.world n [] → Linked n s (Some (took_if b name root s).1) (took_if b name root s).0
took_linked true name root n s at firing h st sh f = evals_none s (n ∷ []) st sh f
took_linked false name root n s at firing h st sh f = record {
  standing = unnamed_standing name (Promise root) [] [] [] s at st;
  shaped = shaped_unnamed name s.world sh;
  same = record { firing = refl; awaited = refl; left_over = refl };
  at = refl;
  tree = source_suits name root s.world at sh;
  apart = λ ys c. taken_apart n root s ys st (frame_live s.world n [] f) h c;
}

by_firing : (o : Option ℕ) (name root n : ℕ) (s : State) → held_at name s.world.names ≡ Some (Promise root) → s.world.firing ≡ o → s.world.firing ≡ Some n → Owned s → Shaped s.world → Frames s.world n [] → Linked n s (Some (took_if (holds_firing o root s.world) name root s).1) (took_if (holds_firing o root s.world) name root s).0
by_firing None name root n s at is firing st sh f = absurd (no_number (sym is ∙ firing))
  where
    no_number : ◌≡◌ {A = Option ℕ} None (Some n) → ⊥
    no_number e = cc
by_firing (Some m) name root n s at is firing st sh f = took_linked (holds (depth_of s.world) s.world.nodes m root) name root n s at firing (subst (λ (y : ℕ). holds (depth_of s.world) s.world.nodes y root ≡ holds (depth_of s.world) s.world.nodes m root) (some_number (sym is ∙ firing)) refl) st sh f
  where
    some_number : ◌≡◌ {A = Option ℕ} (Some m) (Some n) → m ≡ n
    some_number e = cc

taken_linked : (o : Option Held) (name n : ℕ) (s : State) → held_at name s.world.names ≡ o → s.world.firing ≡ Some n → Owned s → Shaped s.world → Frames s.world n [] → Linked n s (Some (promise_taken name o s).1) (promise_taken name o s).0
taken_linked (Some (Promise root)) name n s at firing st sh f = by_firing s.world.firing name root n s at refl firing st sh f
taken_linked None name n s at firing st sh f = evals_none s (n ∷ []) st sh f
taken_linked (Some _) name n s at firing st sh f = evals_none s (n ∷ []) st sh f

ended_linked : (ending : Ending) (input : Outcome) (n : ℕ) (s : State) → s.world.firing ≡ Some n → Owned s → Shaped s.world → Frames s.world n [] → Linked n s (Some (ended ending true input s).1) (ended ending true input s).0
ended_linked (Give words) input n s firing st sh f = evals_none s (n ∷ []) st sh f
ended_linked (Throw exception) input n s firing st sh f = evals_none s (n ∷ []) st sh f
ended_linked (PromiseEnding name) input n s firing st sh f = taken_linked (held_at name.0 s.world.names) name.0 n s refl firing st sh f
ended_linked Input input n s firing st sh f = evals_none s (n ∷ []) st sh f

ended_if_linked : (b : Bool) (ending : Ending) (input : Outcome) (n : ℕ) (s : State) → s.world.firing ≡ Some n → Owned s → Shaped s.world → Frames s.world n [] → Linked n s (Some (ended_if b ending true input s).1) (ended_if b ending true input s).0
ended_if_linked true ending input n s firing st sh f = ended_linked ending input n s firing st sh f
ended_if_linked false ending input n s firing st sh f = evals_none s (n ∷ []) st sh f

-- the step of the Then under the Chain
step_linked : (setting : Setting) (a : Option Action) (n link step : ℕ) (input : Outcome) (s : State) → CommandsKeep setting → s.world.firing ≡ Some n → Owned s → Shaped s.world → Frames s.world link (n ∷ []) → is_steady (form_at link s.world.nodes) ≡ true → Linked n s (answered setting a true link step input s).1 (answered setting a true link step input s).0
step_linked setting None n link step input s commands firing st sh f y = let e = step_keeps setting None link step input s (n ∷ []) commands st sh f y in evals_less s (silent with_stopped s) link (n ∷ []) e
step_linked setting (Some action) n link step input s commands firing st sh f y =
    let t = with_item (Run link step input action) s in
    let r = all_applied setting action.commands t in
    let e = all_keep setting action.commands t link (n ∷ []) commands (told_owned s link step input action (frame_live s.world link (n ∷ []) f) st) sh f y in
    let e2 : Evals s r.0 (link ∷ n ∷ []) = record { owned = e.owned; shaped = e.shaped; same = e.same; rest = e.rest; owner = e.owner; forms = e.forms } in
    linked_later (Some (ended_if r.1 action.ending true input r.0).1) n s r.0 (ended_if r.1 action.ending true input r.0).0 (evals_less s r.0 link (n ∷ []) e2)
    (ended_if_linked r.1 action.ending input n r.0 (e2.same.firing ∙ firing) e2.owned e2.shaped (rest_of r.0.world link (n ∷ []) e2.rest))

passed_linked : (setting : Setting) (step : Option ℕ) (n link : ℕ) (o : Outcome) (s : State) → CommandsKeep setting → s.world.firing ≡ Some n → Owned s → Shaped s.world → Frames s.world link (n ∷ []) → is_steady (form_at link s.world.nodes) ≡ true → Linked n s (step_passed setting true link step o s).1 (step_passed setting true link step o s).0
passed_linked setting None n link o s commands firing st sh f y = evals_none s (n ∷ []) st sh f.4
passed_linked setting (Some step) n link o s commands firing st sh f y = step_linked setting (setting.answer s.past step) n link step o s commands firing st sh f y

valued_linked : (setting : Setting) (n link t : ℕ) (v e : Option ℕ) (o : Option Outcome) (s : State) → CommandsKeep setting → s.world.firing ≡ Some n → Owned s → Shaped s.world → Frames s.world link (n ∷ []) → form_at link s.world.nodes ≡ Some (Then v e (Some t)) → Linked n s (then_valued setting true link v e t o s).1 (then_valued setting true link v e t o s).0
valued_linked setting n link t v e None s commands firing st sh f at = evals_none s (n ∷ []) st sh f.4
valued_linked setting n link t v e (Some o) s commands firing st sh f at =
    let c = tree_cleared s link t (n ∷ []) (Then v e (Some t)) (Then v e None) st sh f at (then_clears v e t) in
    let s2 = silent (put link (Then v e None)) (freed t s) in
    let p = passed_linked setting (chosen v e o) n link o s2 commands (c.0.same.firing ∙ firing) c.0.owned c.0.shaped c.1 (ap is_steady c.2) in
    linked_later (step_passed setting true link (chosen v e o) o s2).1 n s s2 (step_passed setting true link (chosen v e o) o s2).0 c.0 p

pub then_linked : (setting : Setting) (n link : ℕ) (o : Option Form) (s : State) → CommandsKeep setting → s.world.firing ≡ Some n → Owned s → Shaped s.world → Frames s.world n [] → owns n link s.world.nodes ≡ true → form_at link s.world.nodes ≡ o → Linked n s (then_of setting (value setting) true link o s).1 (then_of setting (value setting) true link o s).0
then_linked setting n link (Some (Then v e (Some t))) s commands firing st sh f own at =
    let frames = fired_frames s n link st firing (frame_live s.world n [] f) own (ap is_some at) in
    let r = value setting t s in
    let a = part_value setting (depth_of s.world) link t (Then v e (Some t)) s (n ∷ []) (value_keeps setting (depth_of s.world) commands) st sh frames at refl (in_self t []) in
    let at2 = kept_form s r.0 link (n ∷ []) (Then v e (Some t)) refl refl at a in
    let l = valued_linked setting n link t v e r.1 r.0 commands (a.same.firing ∙ firing) a.owned a.shaped a.rest at2 in
    linked_later (then_valued setting true link v e t r.1 r.0).1 n s r.0 (then_valued setting true link v e t r.1 r.0).0 (evals_less s r.0 link (n ∷ []) a) l
then_linked setting n link (Some (Then v e None)) s commands firing st sh f own at = evals_none s (n ∷ []) st sh f
then_linked setting n link None s commands firing st sh f own at = evals_none s (n ∷ []) st sh f
then_linked setting n link (Some _) s commands firing st sh f own at = evals_none s (n ∷ []) st sh f

-- the Chain becomes Ready, or gives its place
chain_clears : (link : ℕ) (o : Outcome) → Clears (Chain link) (Ready o) link
chain_clears link o = record { parts = refl; none = refl; old_hub = refl; new_hub = refl; branch = λ h. refl; suits = empty_suits (Chain link) (Ready o) (record { tree = refl; link = refl; side = refl; task = refl; request = λ n. refl; ended = λ h. h }) refl refl }

gave_ends : (n link : ℕ) (o : Outcome) (s t : State) → s.world.firing ≡ Some n → form_at n s.world.nodes ≡ Some (Chain link) → Evals s t (n ∷ []) → Went [] [] s (silent (λ w. listened n (put n (Ready o) w)) (freed link t))
gave_ends n link o s t firing at e =
    let at2 = kept_form s t n [] (Chain link) refl refl at e in
    let c = tree_cleared t n link [] (Chain link) (Ready o) e.owned e.shaped e.rest at2 (chain_clears link o) in
    let s2 = silent (put n (Ready o)) (freed link t) in
    let a = went_both [] [] [] [] s t s2 (evals_went s t (n ∷ []) e) (evals_went t s2 [] c.0) in
    went_both [] [] [] [] s s2 (silent (listened n) s2) a (went_reached [] [] s2 (silent (listened n) s2) (reached_listened n [] [] [] s2 s2 (reached_none s2 a.standing a.shaped)))

took_ends : (n link root : ℕ) (s t : State) → s.world.firing ≡ Some n → form_at n s.world.nodes ≡ Some (Chain link) → IsTaken n root s t → Fires s (chain_ended n link (Some (Took root)) t)
took_ends n link root s t firing at l =
    let at2 : form_at n t.world.nodes ≡ Some (Chain link) = stem_of (form_at n t.world.nodes) (Chain link) refl (l.at ∙ ap stem at) in
    let fires = l.same.firing ∙ firing in
    let place = chain_place n link t.world at2 (ap is_some fires) l.standing.names l.shaped in
    let c = chain_took n link root t l.standing fires at2 l.apart place in
    let s1 = freed link t in
    let ns = falling (usual t.world) t.world (depth_of t.world) [] [] link in
    let tree1 : suits OfTree (form_at root s1.world.nodes) ≡ true = ap (suits OfTree) ((node_frees (usual t.world) (depth_of t.world) link t).forms root) ∙ suits_staying OfTree (is_in root ns) (λ b. is_in b ns) root t.world.nodes (form_at root t.world.nodes) l.tree in
    let s2 = silent (replaced n root) s1 in
    let sh2 = shaped_replaced n root s1.world tree1 (shaped_free t link l.shaped) in
    let s3 = silent (listened root) s2 in
    let o3 = listened_only root s2.world in
    let sh3 = shaped_only s2.world s3.world o3 sh2 in
    let g = gone_freed n s3 (λ m. ap (is_branch_of m) c.at) in
    let same1 = turn_freed link t in
    record {
      owned = c.owned;
      shaped = shaped_freed (n ∷ []) s3 (gone n s3) g (λ q p o. owns_before (n ∷ []) s3 (gone n s3) q p g o) sh3;
      awaited = λ e. ap (λ (w : World). w.awaited) o3.same ∙ ap (awaited_renamed n root) (same1.awaited ∙ l.same.awaited ∙ e);
      left_over = λ e runs. ap (λ (w : World). w.left_over) o3.same ∙ same1.left_over ∙ l.same.left_over ∙ e;
    }

given_ends : (g : Option Given) (n link : ℕ) (s t : State) → Owned s → Shaped s.world → s.world.firing ≡ Some n → form_at n s.world.nodes ≡ Some (Chain link) → Linked n s g t → Fires s (chain_ended n link g t)
given_ends None n link s t st sh firing at l = fires_went s t (evals_went s t (n ∷ []) l)
given_ends (Some (Gave o)) n link s t st sh firing at l = fires_went s (chain_ended n link (Some (Gave o)) t) (gave_ends n link o s t firing at l)
given_ends (Some (Took root)) n link s t st sh firing at l = took_ends n link root s t firing at l

pub chain_fires : (setting : Setting) (n link : ℕ) (s : State) → CommandsKeep setting → Owned s → Shaped s.world → s.world.firing ≡ Some n → form_at n s.world.nodes ≡ Some (Chain link) → Fires s (chain_ended n link (value_link setting link s).1 (value_link setting link s).0)
chain_fires setting n link s commands st sh firing at =
    let own : owns n link s.world.nodes ≡ true = ap (λ (o : Option Form). is_in link (parts_found o)) at ∙ in_self link [] in
    given_ends (value_link setting link s).1 n link s (value_link setting link s).0 st sh firing at (then_linked setting n link (form_at link s.world.nodes) s commands firing st sh (inl (firing, ap is_some at)) own refl)
