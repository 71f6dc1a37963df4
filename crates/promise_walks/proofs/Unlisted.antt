-- Nodes that stand in no list of branches.
use Rattle.std.proofs.Common.{◌≡◌, ℕ, List, [], ◌∷◌, ◌++◌, Option, None, Some, Bool, true, false, refl}
use Rattle.std.specs.Prelude.{IsSome}
use Rattle.kj_base.specs.declared.nodes.Link.{Link}
use Rattle.promise_nodes.specs.Kept.{OnlyFalls}
use Rattle.promise_walks.specs.declared.freeing.Frame.{Frame}
use Rattle.promise_walks.specs.Stacks.{AreUnlisted}

pub true_false : (b : Bool) → b ≡ true → b ≡ false → ⊥
true_false b h k = cc

-- what doesn't hold doesn't hold later
pub false_stays : (old new : ℕ → Bool) (n : ℕ) → OnlyFalls old new → old n ≡ false → new n ≡ false
false_stays old new n falls h = by (new n) refl
  where
    by : (b : Bool) → new n ≡ b → b ≡ false
    by false e = refl
    by true e = absurd (true_false (old n) (falls n e) h)

pub unlisted_stay : (old new : ℕ → Bool) (fs : List Frame) → OnlyFalls old new → AreUnlisted old fs → AreUnlisted new fs
unlisted_stay old new [] falls h = tt
unlisted_stay old new (f ∷ fs) falls h = (false_stays old new f.node.number.0 falls h.0, unlisted_stay old new fs falls h.1)

pub unlisted_push : (is_listed : ℕ → Bool) (fs : List Frame) (f : Frame) → AreUnlisted is_listed fs → is_listed f.node.number.0 ≡ false → AreUnlisted is_listed (fs ++ f ∷ [])
unlisted_push is_listed [] f h k = (k, tt)
unlisted_push is_listed (x ∷ fs) f h k = (h.0, unlisted_push is_listed fs f h.1 k)

pub unlisted_pop : (is_listed : ℕ → Bool) (fs : List Frame) (f : Frame) → AreUnlisted is_listed (fs ++ f ∷ []) → AreUnlisted is_listed fs × (is_listed f.node.number.0 ≡ false)
unlisted_pop is_listed [] f h = (tt, h.0)
unlisted_pop is_listed (x ∷ fs) f h = let r = unlisted_pop is_listed fs f h.1 in ((h.0, r.0), r.1)

-- a node that isn't listed, as it is no branch
pub unlisted_unless : (b : Bool) (hub : Option Link) → (b ≡ true → IsSome hub) → hub ≡ None → b ≡ false
unlisted_unless false hub h e = refl
unlisted_unless true None h e = absurd (true_false false (h refl) refl)
unlisted_unless true (Some hub) h e = cc
