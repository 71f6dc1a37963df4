-- A Request that fires: it ends, and its name says so.
use Rattle.std.proofs.Common.{◌≡◌, inl, inr, ℕ, ◌+◌, ◌≤◌, List, [], ◌∷◌, ◌++◌, Bool, true, false, Option, None, Some, arith, refl, sym, ap, ◌∙◌, subst, ◌==◌, cond}
use Rattle.std.specs.Prelude.{nat_eq, is_some, option_to_list}
use Rattle.std.proofs.lemmas.Bool.{false≢true}
use Rattle.std.proofs.lemmas.Bool.Decides.{nat_tests}
use Rattle.kj_base.specs.declared.outcomes.Outcome.{Outcome}
use Rattle.kj_model.specs.Nodes.{Form, Chain, Race, Join, Request, form_at, parts_found, parts_at, is_in}
use Rattle.kj_model.specs.World.{State, Setting, Named, Held, Promise, CellOf, AskCell, HubOf, Group, Canceler, RequestOf, held_at, depth_of}
use Rattle.kj_model.specs.Changes.{silent, named}
use Rattle.kj_model.specs.Effects.{with_ended}
use Rattle.kj_model.specs.Value.{value, freed}
use Rattle.kj_model.specs.Fire.{request_valued}
use Rattle.kj_model.specs.Falling.{is_branch_of}
use Rattle.kj_model.specs.Owned.{held_roots, name_roots, awaited_roots, tree_roots, numbers}
use Rattle.kj_model.specs.Framed.{times, name_numbers, NamesApart}
use Rattle.kj_ownership.specs.Owners.{is_live, owns, is_hub_form}
use Rattle.kj_ownership.specs.Standing.{one_if, owned_times, Owned}
use Rattle.kj_ownership.specs.Shapes.{OfTree, OfTask, OfEnded, suits, part_kind, held_kind, roots_found, Shaped}
use Rattle.kj_model.proofs.Spared.{same_number}
use Rattle.kj_model.proofs.Members.{in_either, in_one, in_self, in_none}
use Rattle.kj_model.proofs.Once.{false_by}
use Rattle.kj_model.proofs.Counts.{held_there}
use Rattle.kj_ownership.proofs.Stays.{out_times, roots_app}
use Rattle.kj_ownership.proofs.Closing.{total_none}
use Rattle.kj_ownership.proofs.Commands.{tree_freed}
use Rattle.kj_ownership.proofs.Fires.{fired_frames}
use Rattle.kj_ownership.proofs.Frames.{framed_tended}
use Rattle.kj_ownership.proofs.Evaluates.{CommandsKeep, value_keeps, turn_freed, shaped_free, kept_form}
use Rattle.kj_ownership.proofs.Reached.{reached_renamed, reached_lists}
use Rattle.kj_ownership.proofs.Walks.{Went, went_both, went_reached, reached_here}
use Rattle.kj_ownership.proofs.Firing.{evals_went, went_none}
use Rattle.kj_ownership.proofs.Tasks.{went_gone}

-- a root of the names stands under one
pub name_of : (p : ℕ) (names : List Named) → NamesApart names → is_in p (name_roots names) ≡ true → (c : ℕ) × (is_in p (roots_found (held_at c names)) ≡ true)
name_of p [] apart i = absurd (in_none p i)
name_of p (x ∷ xs) apart i = elim (in_either p (held_roots x.held) (name_roots xs) i) [
  | inl a ↦ (x.name, subst (λ (o : Option Held). is_in p (roots_found o) ≡ true) (sym (here x xs)) a)
  | inr b ↦ (let r = name_of p xs (λ c. (let k = apart c in omega (arith, k))) b in later r.0 (held_at r.0 xs) refl r.1)
]
  where
    here : (x : Named) (xs : List Named) → held_at x.name (x ∷ xs) ≡ Some x.held
    here x xs = grind (arith, nat_tests)

    clash : (a t : ℕ) → a ≡ 1 → a + t ≤ 1 → 1 ≤ t → ⊥
    clash a t u v w = omega (arith, u, v, w)

    skip : (c : ℕ) → nat_eq x.name c ≡ false → held_at c (x ∷ xs) ≡ held_at c xs
    skip c d = grind (arith, nat_tests)

    later : (c : ℕ) (o : Option Held) → held_at c xs ≡ o → is_in p (roots_found (held_at c xs)) ≡ true → (d : ℕ) × (is_in p (roots_found (held_at d (x ∷ xs))) ≡ true)
    later c None e k = absurd (in_none p (sym (ap (λ (o : Option Held). is_in p (roots_found o)) e) ∙ k))
    later c (Some h) e k =
        let d = false_by (nat_eq x.name c) (λ q. clash (cond (x.name == c) 1 0) (times c (name_numbers xs)) (ap (λ b. cond b 1 0) q) (apart c) (held_there c xs h e)) in
        (c, subst (λ (o : Option Held). is_in p (roots_found o) ≡ true) (sym (skip c d)) k)

-- where a request stands
part_not_request : (o : Option Form) (name : ℕ) (t : Option ℕ) → suits (part_kind o) (Some (Request name t)) ≡ true → ⊥
part_not_request None name t e = false≢true e
part_not_request (Some (Chain link)) name t e = false≢true e
part_not_request (Some (Race l r w)) name t e = false≢true e
part_not_request (Some (Join fast sides)) name t e = false≢true e
part_not_request (Some _) name t e = false≢true e

requested : (o : Option Held) (n c name : ℕ) (t : Option ℕ) → is_in n (roots_found o) ≡ true → suits (held_kind c o) (Some (Request name t)) ≡ true → (o ≡ Some (RequestOf (Some n))) × (c ≡ name)
requested (Some (RequestOf (Some m))) n c name t i s = (ap (λ x. Some (RequestOf (Some x))) (in_one n m i), same_number name c s)
requested (Some (RequestOf None)) n c name t i s = absurd (in_none n i)
requested (Some (Promise r)) n c name t i s = absurd (false≢true s)
requested (Some (Group error tasks empty)) n c name t i s = absurd (false≢true s)
requested (Some (CellOf x)) n c name t i s = absurd (in_none n i)
requested (Some (AskCell x b)) n c name t i s = absurd (in_none n i)
requested (Some (HubOf x)) n c name t i s = absurd (in_none n i)
requested (Some (Canceler ws)) n c name t i s = absurd (in_none n i)
requested None n c name t i s = absurd (in_none n i)

pub request_at : (n name : ℕ) (t : Option ℕ) (s : State) → Owned s → Shaped s.world → is_some s.world.firing ≡ true → form_at n s.world.nodes ≡ Some (Request name t) → held_at name s.world.names ≡ Some (RequestOf (Some n))
request_at n name t s st sh firing at =
    let w = s.world in
    let owned : owned_times n w.nodes ≡ 0 = total_none (λ q. times n (parts_at q w.nodes)) (numbers w.nodes) (λ q. out_times n (parts_at q w.nodes) (false_by (owns q n w.nodes) (λ o. part_not_request (form_at q w.nodes) name t (ap (suits (part_kind (form_at q w.nodes))) (sym at) ∙ sh.parts q n o)))) in
    let waits : times n (awaited_roots w.awaited) ≡ 0 = out_times n (awaited_roots w.awaited) (false_by (is_in n (awaited_roots w.awaited)) (λ i. false≢true (ap (suits OfTree) (sym at) ∙ sh.awaited n i))) in
    let left : times n w.left_over ≡ 0 = out_times n w.left_over (false_by (is_in n w.left_over) (λ i. false≢true (ap (suits OfEnded) (sym at) ∙ sh.left_over n firing i))) in
    let tasks : times n w.detached ≡ 0 = out_times n w.detached (false_by (is_in n w.detached) (λ i. false≢true (ap (suits OfTask) (sym at) ∙ sh.detached n i))) in
    let hub : one_if (is_hub_form (form_at n w.nodes)) ≡ 0 = ap one_if (ap is_hub_form at) in
    let named = one_name (times n (name_roots w.names)) (times n (awaited_roots w.awaited)) (times n w.left_over) (times n w.detached) (one_if (is_hub_form (form_at n w.nodes))) (owned_times n w.nodes) (times n (tree_roots w)) (roots_app n (name_roots w.names) (awaited_roots w.awaited) w.left_over w.detached) (st.placed.once n (ap is_some at)) waits left tasks hub owned in
    let found = name_of n w.names st.names (by_times n (name_roots w.names) named) in
    let r = requested (held_at found.0 w.names) n found.0 name t found.1 (ap (suits (held_kind found.0 (held_at found.0 w.names))) (sym at) ∙ sh.names found.0 n found.1) in
    subst (λ (c : ℕ). held_at c w.names ≡ Some (RequestOf (Some n))) r.1 r.0
  where
    one_name : (a b l d h o t : ℕ) → t ≡ a + b + l + d → 0 + (t + (h + o)) ≡ 1 → b ≡ 0 → l ≡ 0 → d ≡ 0 → h ≡ 0 → o ≡ 0 → 1 ≤ a
    one_name a b l d h o t x1 x2 x3 x4 x5 x6 x7 = omega (arith, x1, x2, x3, x4, x5, x6, x7)

    by_times : (m : ℕ) (xs : List ℕ) → 1 ≤ times m xs → is_in m xs ≡ true
    by_times m xs h = decide (is_in m xs) refl
      where
        clash : (a : ℕ) → 1 ≤ a → a ≡ 0 → ⊥
        clash a u v = omega (arith, u, v)

        decide : (b : Bool) → is_in m xs ≡ b → is_in m xs ≡ true
        decide true e = e
        decide false e = absurd (clash (times m xs) h (out_times m xs e))

-- the request ends
request_ends : (n name t : ℕ) (o : Option Outcome) (s : State) → Owned s → Shaped s.world → s.world.firing ≡ Some n → form_at n s.world.nodes ≡ Some (Request name (Some t)) → Went [] [] s (request_valued n name t o s)
request_ends n name t None s st sh firing at = went_none s st sh
request_ends n name t (Some o) s st sh firing at =
    let td = framed_tended [] [] [] s n [] st (inl (firing, ap is_some at)) in
    let own : owns n t s.world.nodes ≡ true = ap (λ (x : Option Form). is_in t (parts_found x)) at ∙ in_self t [] in
    let tf = tree_freed (option_to_list s.world.firing) [] [] s n t st td.0 own in
    let s1 = freed t s in
    let sh1 = shaped_free s t sh in
    let same1 = turn_freed t s in
    let at1 : form_at n s1.world.nodes ≡ Some (Request name (Some t)) = tf.form (Request name (Some t)) refl at in
    let held = request_at n name (Some t) s1 tf.standing sh1 (ap is_some (same1.firing ∙ firing)) at1 in
    let s2 = silent (with_ended name o) s1 in
    let r2 = reached_lists s1.world.asks (s1.world.ended ++ record { request = name; outcome = o } ∷ []) s1.world.abandoned [] [] [] s1 s1 (reached_here [] [] [] s1 tf.standing sh1) in
    let r3 = reached_renamed name (RequestOf (Some n)) (RequestOf None) [] (n ∷ []) [] s1 s2 held refl (λ m. refl) (λ p i. absurd (in_none p i)) r2 in
    let s3 = silent (named name (RequestOf None)) s2 in
    let w3 = went_both [] [] (n ∷ []) [] s s1 s3 (record { standing = tf.standing; shaped = sh1; same = same1 }) (went_reached (n ∷ []) [] s1 s3 r3) in
    went_gone n [] s s3 (λ m. ap (is_branch_of m) at1) (ap is_some at1) (λ p o2. subst (λ (y : ℕ). is_live y s1.world.nodes ≡ false) (in_one p t (sym (ap (λ (x : Option Form). is_in p (parts_found x)) at1) ∙ o2)) tf.went) w3

pub request_fires : (setting : Setting) (n name t : ℕ) (s : State) → CommandsKeep setting → Owned s → Shaped s.world → s.world.firing ≡ Some n → form_at n s.world.nodes ≡ Some (Request name (Some t)) → Went [] [] s (request_valued n name t (value setting t s).1 (value setting t s).0)
request_fires setting n name t s commands st sh firing at =
    let live : is_live n s.world.nodes ≡ true = ap is_some at in
    let own : owns n t s.world.nodes ≡ true = ap (λ (x : Option Form). is_in t (parts_found x)) at ∙ in_self t [] in
    let r = value setting t s in
    let e = value_keeps setting (depth_of s.world) commands t s (n ∷ []) st sh (inl (firing, live)) (λ t_live. fired_frames s n t st firing live own t_live) in
    went_both [] [] [] [] s r.0 (request_valued n name t r.1 r.0) (evals_went s r.0 (n ∷ []) e) (request_ends n name t r.1 r.0 e.owned e.shaped (e.same.firing ∙ firing) (kept_form s r.0 n [] (Request name (Some t)) refl refl at e))
