-- What stays listed over a free: an ask's cell that waits is listed as abandoned, and goes.
use Rattle.std.proofs.Common.{◌≡◌, ℕ, zero, suc, ◌+◌, ◌≤◌, List, [], ◌∷◌, ◌++◌, Bool, true, false, not, cond, Option, None, Some, arith, refl, sym, ap, ◌∙◌, subst, ◌==◌, append_assoc}
use Rattle.std.specs.Prelude.{nat_eq, is_some}
use Rattle.std.proofs.lemmas.Bool.{false≢true}
use Rattle.kj_model.specs.Nodes.{Form, Cell, Branch, Wrap, Hub, form_at, parts_of, dropped}
use Rattle.kj_model.specs.World.{World, State, Named, Held, Promise, CellOf, AskCell, HubOf, Group, Canceler, RequestOf, held_at, depth_of}
use Rattle.kj_model.specs.Changes.{silent, gone_world}
use Rattle.kj_model.specs.Free.{Guard, is_guarded, free_unless, free_unreferenced, reference_gone, without_branch_in, without_branch, without_wrap_in, without_wrap, is_ask_of, ask_of, abandoned_as, each_freed, free_form, free_to, free}
use Rattle.kj_model.specs.Framed.{times}
use Rattle.kj_model.proofs.Spared.{same_number, form_without_same}
use Rattle.kj_model.proofs.Counts.{times_app}
use Rattle.kj_ownership.specs.Owners.{is_live}
use Rattle.kj_ownership.specs.Standing.{one_if}
use Rattle.kj_ownership.proofs.Tasks.{found_name}
use Rattle.kj_takings.specs.Told.{is_lost_ask, StartsWith}
use Rattle.kj_takings.proofs.ToldListed.{kind, Tales, Listed, Leaves, leaves_none, leaves_then, put_leaves, gone_leaves, named_leaves}

abbrev pub EachLeaves : (ℕ → State → State) → Type 0
EachLeaves f = (n : ℕ) (s : State) → Leaves s.world (f n s).world

pub each_leaves : (f : ℕ → State → State) (ns : List ℕ) (s : State) → EachLeaves f → Leaves s.world (each_freed f ns s).world
each_leaves f [] s h = leaves_none s.world
each_leaves f (n ∷ ns) s h = let t = f n s in leaves_then s.world t.world (each_freed f ns t).world (h n s) (each_leaves f ns t h)

-- hubs
unless_leaves : (b : Bool) (f : ℕ → State → State) (hub : ℕ) (s : State) → EachLeaves f → Leaves s.world (free_unless b f hub s).world
unless_leaves true f hub s h = leaves_none s.world
unless_leaves false f hub s h = h hub s

unreferenced_leaves : (guard : Guard) (f : ℕ → State → State) (hub : ℕ) (o : Option Form) (s : State) → EachLeaves f → Leaves s.world (free_unreferenced guard f hub o s).world
unreferenced_leaves guard f hub (Some (Hub content false [])) s h = unless_leaves (is_guarded guard hub s.world) f hub s h
unreferenced_leaves guard f hub (Some (Hub content false (b ∷ bs))) s h = leaves_none s.world
unreferenced_leaves guard f hub (Some (Hub content true bs)) s h = leaves_none s.world
unreferenced_leaves guard f hub None s h = leaves_none s.world
unreferenced_leaves guard f hub (Some _) s h = leaves_none s.world

pub reference_leaves : (guard : Guard) (f : ℕ → State → State) (hub : ℕ) (s : State) → EachLeaves f → Leaves s.world (reference_gone guard f hub s).world
reference_leaves guard f hub s h = unreferenced_leaves guard f hub (form_at hub s.world.nodes) s h

-- references of a node
branch_in : (n hub : ℕ) (o : Option Form) (w : World) → Leaves w (without_branch_in n hub o w)
branch_in n hub (Some (Hub content is_named branches)) w = put_leaves hub (Hub content is_named (dropped n branches)) w
branch_in n hub None w = leaves_none w
branch_in n hub (Some _) w = leaves_none w

branch_leaves : (n hub : ℕ) (w : World) → Leaves w (without_branch n hub w)
branch_leaves n hub w = branch_in n hub (form_at hub w.nodes) w

wrap_in : (n canceler : ℕ) (h : Option Held) (w : World) → held_at canceler w.names ≡ h → Leaves w (without_wrap_in n canceler h w)
wrap_in n canceler (Some (Canceler wraps)) w at = named_leaves canceler (Canceler (dropped n wraps)) w refl (ap kind at)
wrap_in n canceler None w at = leaves_none w
wrap_in n canceler (Some _) w at = leaves_none w

wrap_leaves : (n canceler : ℕ) (w : World) → Leaves w (without_wrap n canceler w)
wrap_leaves n canceler w = wrap_in n canceler (held_at canceler w.names) w refl

-- the cell of an ask
ask_is : (n : ℕ) (h : Held) → is_ask_of n h ≡ true → (b : Bool) × (h ≡ AskCell n b)
ask_is n (AskCell cell b) e = (b, subst (λ (k : ℕ). AskCell cell b ≡ AskCell k b) (sym (same_number cell n e)) refl)
ask_is n (Promise root) e = absurd (false≢true e)
ask_is n (CellOf cell) e = absurd (false≢true e)
ask_is n (HubOf hub) e = absurd (false≢true e)
ask_is n (Group error tasks empty) e = absurd (false≢true e)
ask_is n (Canceler wraps) e = absurd (false≢true e)
ask_is n (RequestOf request) e = absurd (false≢true e)

one_more : (c name : ℕ) (cells : List ℕ) → times c (cells ++ name ∷ []) ≡ times c cells + cond (name == c) 1 0
one_more c name cells = let a = times_app c cells (name ∷ []) in omega (arith, a)

one_other : (c name : ℕ) (cells : List ℕ) → nat_eq name c ≡ false → times c (cells ++ name ∷ []) ≡ times c cells
one_other c name cells d = let a = times_app c cells (name ∷ []) in let b = none (name == c) d in omega (arith, a, b)
  where
    none : (q : Bool) → q ≡ false → cond q 1 0 + 0 ≡ 0
    none true e = absurd (false≢true (sym e))
    none false e = refl

lost_listed : (told : Tales) (n : ℕ) (x : Named) (w : World) → ask_of n w.names ≡ Some x → is_live n w.nodes ≡ true → Listed told w → Listed told (gone_world n (record w { abandoned = w.abandoned ++ x.name ∷ [] }))
lost_listed told n x w e live g =
    let v = gone_world n w in
    let f = found_name (λ (y : Named). is_ask_of n y.held) x w.names g.apart e in
    let h = ask_is n x.held f.1 in
    let held : held_at x.name w.names ≡ Some (AskCell n h.0) = f.0 ∙ ap (λ (y : Held). Some y) h.1 in
    let k = (gone_leaves n w).listed told g in record {
      apart = k.apart;
      asks = k.asks;
      ended = k.ended;
      abandoned = λ c. here c h.0 held (k.abandoned c) (nat_eq x.name c) refl;
      cells = k.cells;
      built = k.built;
      taken = k.taken;
      untold = k.untold;
      old_asks = k.old_asks;
      old_lost = k.old_lost;
      requests = k.requests;
      stay = k.stay;
      first_asks = k.first_asks;
      first_ended = k.first_ended;
      first_lost = longer g.first_lost.0 g.first_lost.1;
    }
  where
    longer : (more : List ℕ) → w.abandoned ≡ told.first_lost ++ more → StartsWith told.first_lost (w.abandoned ++ x.name ∷ [])
    longer more e = (more ++ x.name ∷ [], ap (λ (xs : List ℕ). xs ++ x.name ∷ []) e ∙ append_assoc told.first_lost more (x.name ∷ []))

    none : (b : Bool) → held_at x.name w.names ≡ Some (AskCell n b) → times x.name w.abandoned ≡ 0
    none b held =
        let a = g.abandoned x.name in
        let d : one_if (is_lost_ask w.nodes (held_at x.name w.names)) ≡ one_if (not (is_live n w.nodes)) = ap (λ o. one_if (is_lost_ask w.nodes o)) held in
        let f : one_if (not (is_live n w.nodes)) ≡ 0 = ap (λ q. one_if (not q)) live in
        omega (arith, a, d, f)

    lost : (b : Bool) → held_at x.name w.names ≡ Some (AskCell n b) → one_if (is_lost_ask (gone_world n w).nodes (held_at x.name w.names)) ≡ 1
    lost b held = ap (λ o. one_if (is_lost_ask (gone_world n w).nodes o)) held ∙ ap (λ (o : Option Form). one_if (not (is_some o))) (form_without_same n w.nodes)

    itself : (b : Bool) → held_at x.name w.names ≡ Some (AskCell n b) → times x.name (w.abandoned ++ x.name ∷ []) ≤ one_if (is_lost_ask (gone_world n w).nodes (held_at x.name w.names))
    itself b held =
        let a = one_more x.name x.name w.abandoned in
        let k = less (x.name == x.name) in
        let z = none b held in
        let l = lost b held in
        omega (arith, a, k, z, l)
      where
        less : (q : Bool) → cond q 1 0 ≤ 1
        less true = omega arith
        less false = omega arith

    here : (c : ℕ) (b : Bool) → held_at x.name w.names ≡ Some (AskCell n b) → times c w.abandoned ≤ one_if (is_lost_ask (gone_world n w).nodes (held_at c w.names)) → (q : Bool) → nat_eq x.name c ≡ q → times c (w.abandoned ++ x.name ∷ []) ≤ one_if (is_lost_ask (gone_world n w).nodes (held_at c w.names))
    here c b held old true d = subst (λ (m : ℕ). times m (w.abandoned ++ x.name ∷ []) ≤ one_if (is_lost_ask (gone_world n w).nodes (held_at m w.names))) (sym (same_number x.name c d)) (itself b held)
    here c b held old false d = let a = one_other c x.name w.abandoned d in omega (arith, a, old)

ask_leaves : (n : ℕ) (o : Option Named) (w : World) → ask_of n w.names ≡ o → is_live n w.nodes ≡ true → Leaves w (gone_world n (abandoned_as o w))
ask_leaves n None w e live = gone_leaves n w
ask_leaves n (Some x) w e live = record { kinds = λ c. refl; listed = λ told g. lost_listed told n x w e live g }

-- a tree
form_leaves : (guard : Guard) (f : ℕ → State → State) (n : ℕ) (o : Option Form) (s : State) → form_at n s.world.nodes ≡ o → EachLeaves f → Leaves s.world (free_form guard f n o s).world
form_leaves guard f n None s at h = leaves_none s.world
form_leaves guard f n (Some (Cell None)) s at h = ask_leaves n (ask_of n s.world.names) s.world refl (ap is_some at)
form_leaves guard f n (Some (Branch hub)) s at h =
    let t = silent (without_branch n hub) s in
    let u = reference_gone guard f hub t in
    leaves_then s.world u.world (gone_world n u.world) (leaves_then s.world t.world u.world (branch_leaves n hub s.world) (reference_leaves guard f hub t h)) (gone_leaves n u.world)
form_leaves guard f n (Some (Wrap canceler content)) s at h =
    let t = each_freed f (parts_of (Wrap canceler content)) s in
    let v = without_wrap n canceler t.world in
    leaves_then s.world v (gone_world n v) (leaves_then s.world t.world v (each_leaves f (parts_of (Wrap canceler content)) s h) (wrap_leaves n canceler t.world)) (gone_leaves n v)
form_leaves guard f n (Some (Cell (Some o))) s at h = gone_leaves n s.world
form_leaves guard f n (Some form) s at h = let t = each_freed f (parts_of form) s in leaves_then s.world t.world (gone_world n t.world) (each_leaves f (parts_of form) s h) (gone_leaves n t.world)

free_to_leaves : (guard : Guard) (k : ℕ) → EachLeaves (free_to guard k)
unfolding free_to
free_to_leaves guard zero n s = leaves_none s.world
free_to_leaves guard (suc k) n s = form_leaves guard (free_to guard k) n (form_at n s.world.nodes) s refl (free_to_leaves guard k)

pub free_leaves : (guard : Guard) → EachLeaves (free guard)
free_leaves guard n s = free_to_leaves guard (depth_of s.world) n s
