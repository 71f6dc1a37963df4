-- Trees that go one after another, when a loop is closed.
use Rattle.std.proofs.Common.{◌≡◌, ◌∙◌, refl, sym, ap, ℕ, ◌≤◌, List, [], ◌∷◌, None, Some, length, arith}
use Rattle.std.specs.Prelude.{reverse, slice_get}
use Rattle.kj_model.specs.World.{World, State, depth_of}
use Rattle.kj_model.specs.Free.{Holding, each_freed}
use Rattle.kj_model.specs.Calls.{detached_closed}
use Rattle.kj_model.proofs.Falling.{node_frees}
use Rattle.promise_nodes.specs.Kept.{newest_task}
use Rattle.promise_firing.specs.Closed.{free_one, found_freed}
use Rattle.promise_walks.proofs.Newest.{newest_first, none_first}

-- ---- the loop's own set

-- no task leaves the loop's own set when a tree goes
pub same_tasks : (n : ℕ) (s : State) → (free_one n s).world.detached ≡ s.world.detached
same_tasks n s = (node_frees (Holding []) (depth_of s.world) n s).frame.same.detached

-- the newest task goes first
pub newest_goes : (t : ℕ) (s : State) → newest_task s.world ≡ Some t → detached_closed (free_one t s) ≡ detached_closed s
newest_goes t s h = ap (λ (l : List ℕ). each_freed free_one (reverse l) (free_one t s)) (same_tasks t s) ∙ sym (newest_first (Holding []) (reverse s.world.detached) t s h)

-- where no task lives, nothing goes
pub none_goes : (s : State) → newest_task s.world ≡ None → detached_closed s ≡ s
none_goes s h = none_first (Holding []) (reverse s.world.detached) s h

-- ---- what is left over

-- two trees at most
pub both_freed : (l : List ℕ) (s : State) → length l ≤ 2 → found_freed (slice_get l 1) (found_freed (slice_get l 0) s) ≡ each_freed free_one l s
both_freed [] s h = refl
both_freed (a ∷ []) s h = refl
both_freed (a ∷ b ∷ []) s h = refl
both_freed (a ∷ b ∷ c ∷ more) s h = absurd (omega (arith, h))
