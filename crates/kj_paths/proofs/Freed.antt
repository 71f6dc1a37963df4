-- A tree is freed.
use Rattle.std.proofs.Common.{◌≡◌, ℕ, ◌≤◌, List, [], ◌∷◌, Bool, true, false, not, cond, Option, None, Some, arith, refl, sym, ap, ◌∙◌, subst}
use Rattle.kj_base.specs.Places.{Spot, spot_of}
use Rattle.kj_model.specs.Nodes.{Form, form_at, is_in}
use Rattle.kj_model.specs.World.{State, depth_of}
use Rattle.kj_model.specs.Free.{Guard, free, free_to, each_freed}
use Rattle.kj_model.specs.Falling.{falling, some_staying}
use Rattle.kj_model.specs.Trees.{none_if}
use Rattle.kj_model.specs.Framed.{FreedBy}
use Rattle.kj_model.proofs.Falling.{node_frees}
use Rattle.kj_ownership.specs.Owners.{is_hub_form}
use Rattle.kj_ownership.specs.Standing.{one_if}
use Rattle.kj_ownership.proofs.Stays.{hub_stays, live_before, owns_before, roots_stay}
use Rattle.kj_paths.proofs.Laid.{Once, spots_once, Laid, Shrinks, laid_shrinks, spot_left, no_spot}

-- spots over a free
spot_kept : (ns : List ℕ) (s t : State) (m : ℕ) → FreedBy ns s t → is_in m ns ≡ false → spot_of m t.world.spots ≡ spot_of m s.world.spots
spot_kept ns s t m f o = ap (spot_of m) f.frame.spots ∙ spot_left m (λ n. not (is_in n ns)) s.world.spots ∙ ap (λ b. cond (not b) (spot_of m s.world.spots) None) o

spot_before : (ns : List ℕ) (s t : State) (m : ℕ) (x : Spot) → FreedBy ns s t → spot_of m t.world.spots ≡ Some x → spot_of m s.world.spots ≡ Some x
spot_before ns s t m x f at = back (is_in m ns) refl
  where
    back : (b : Bool) → is_in m ns ≡ b → spot_of m s.world.spots ≡ Some x
    back true e = absurd (no_spot x (sym (ap (spot_of m) f.frame.spots ∙ spot_left m (λ n. not (is_in n ns)) s.world.spots ∙ ap (λ b. cond (not b) (spot_of m s.world.spots) None) e) ∙ at))
    back false e = sym (spot_kept ns s t m f e) ∙ at

-- hubs
hub_less : (ns : List ℕ) (s t : State) (m : ℕ) → FreedBy ns s t → one_if (is_hub_form (form_at m t.world.nodes)) ≤ one_if (is_hub_form (form_at m s.world.nodes))
hub_less ns s t m f = decide (is_in m ns) refl
  where
    decide : (b : Bool) → is_in m ns ≡ b → one_if (is_hub_form (form_at m t.world.nodes)) ≤ one_if (is_hub_form (form_at m s.world.nodes))
    decide true e = let h : one_if (is_hub_form (form_at m t.world.nodes)) ≡ 0 = ap (λ (o : Option Form). one_if (is_hub_form o)) (f.forms m ∙ ap (λ b. none_if b (some_staying (λ k. is_in k ns) m s.world.nodes (form_at m s.world.nodes))) e) in omega (arith, h)
    decide false e = let h : one_if (is_hub_form (form_at m t.world.nodes)) ≡ one_if (is_hub_form (form_at m s.world.nodes)) = ap (λ (o : Option Form). one_if (is_hub_form o)) (f.forms m) ∙ ap one_if (hub_stays (is_in m ns) (λ k. is_in k ns) m s.world.nodes (form_at m s.world.nodes) e) in omega (arith, h)

pub shrinks_freed : (ns loose : List ℕ) (s t : State) → FreedBy ns s t → Shrinks loose loose s.world t.world
shrinks_freed ns loose s t f = record {
  names = λ a c. (let e = f.frame.names a c in let h = a c in omega (arith, e, h));
  stands = λ a m. (let r = roots_stay ns s t m f a in let h = hub_less ns s t m f in omega (arith, r, h));
  owners = λ q m o. (owns_before ns s t q m f o).1;
  owner_spot = λ q m o. spot_kept ns s t q f (owns_before ns s t q m f o).0;
  live = λ m l. (live_before ns s t m f l).1;
  spots = λ m x at. spot_before ns s t m x f at;
  apart = λ a. subst Once (sym f.frame.spots) (spots_once (λ n. not (is_in n ns)) s.world.spots a);
  next = f.frame.same.next;
  next_key = f.frame.same.next_key;
}

pub freed_laid : (guard : Guard) (k n : ℕ) (loose : List ℕ) (s : State) → Laid loose s.world → Laid loose (free_to guard k n s).world
freed_laid guard k n loose s g = laid_shrinks loose loose s.world (free_to guard k n s).world (shrinks_freed (falling guard s.world k [] [] n) loose s (free_to guard k n s) (node_frees guard k n s)) g

pub free_laid : (guard : Guard) (n : ℕ) (loose : List ℕ) (s : State) → Laid loose s.world → Laid loose (free guard n s).world
free_laid guard n loose s g = freed_laid guard (depth_of s.world) n loose s g

pub each_laid : (guard : Guard) (ns loose : List ℕ) (s : State) → Laid loose s.world → Laid loose (each_freed (free guard) ns s).world
each_laid guard [] loose s g = g
each_laid guard (n ∷ ns) loose s g = each_laid guard ns loose (free guard n s) (free_laid guard n loose s g)
