-- Names that stay as nodes change, and lists that stay as names change.
use Rattle.std.proofs.Common.{◌≡◌, ◌∙◌, ℕ, List, [], Option, None, Some, Bool, true, false, arith, refl, sym, ap}
use Rattle.std.specs.Prelude.{◌==◌, nat_lt, if◌then◌else◌}
use Rattle.std.proofs.lemmas.Bool.Decides.{nat_tests}
use Rattle.kj_base.specs.Places.{Spot, spot_of}
use Rattle.kj_base.specs.Queue.{Way}
use Rattle.kj_model.specs.Nodes.{Form, Hub, form_at}
use Rattle.kj_model.specs.World.{World, Held, held_at}
use Rattle.kj_model.specs.Changes.{named, unnamed, arm_listener}
use Rattle.kj_model.specs.Effects.{with_branch_in}
use Rattle.kj_model.specs.Free.{without_branch, without_branch_in}
use Rattle.kj_model.specs.Places.{built, numbered, placed_over, placed_if}
use Rattle.promise_nodes.specs.Kept.{SameNames}
use Rattle.promise_nodes.specs.Members.{AreLists, members_of, lists_in}
use Rattle.promise_nodes.proofs.Listed.{lists_named, lists_unnamed}

-- ---- names

built_if : (b : Bool) (x : Spot) (form : Form) (w : World) → SameNames w (numbered form (placed_if b x w))
built_if true x form w = refl
built_if false x form w = refl

built_over : (o : Option Spot) (form : Form) (w : World) → SameNames w (numbered form (placed_over o w))
built_over None form w = refl
built_over (Some x) form w = built_if (nat_lt 0 x.place) x form w

-- names stay when a node is built
pub built_names : (before : Option ℕ) (form : Form) (w : World) → SameNames w (built before form w)
built_names None form w = refl
built_names (Some n) form w = built_over (spot_of n w.spots) form w

-- and when an event is armed
pub armed_names : (way : Way) (by : Option ℕ) (w : World) → SameNames w (arm_listener way by w)
armed_names way None w = refl
armed_names way (Some n) w = refl

left_names : (n hub : ℕ) (o : Option Form) (w : World) → SameNames w (without_branch_in n hub o w)
left_names n hub None w = refl
left_names n hub (Some (Hub content named branches)) w = refl
left_names n hub (Some _) w = refl

-- and when a branch leaves its hub
pub without_branch_names : (n hub : ℕ) (w : World) → SameNames w (without_branch n hub w)
without_branch_names n hub w = left_names n hub (form_at hub w.nodes) w

-- and when it joins it
pub with_branch_names : (n hub : ℕ) (o : Option Form) (w : World) → SameNames w (with_branch_in n hub o w)
with_branch_names n hub None w = refl
with_branch_names n hub (Some (Hub content named branches)) w = refl
with_branch_names n hub (Some _) w = refl

-- ---- lists

-- lists stay with the names
pub names_lists : (w v : World) → SameNames w v → AreLists v (lists_in w)
names_lists w v same list = ap (λ (u : World). lists_in u list) same

named_case : (b : Bool) (d l : ℕ) (h : Held) (w : World) → (l == d) ≡ b → members_of (Some h) ≡ members_of (held_at d w.names) → (if b then members_of (Some h) else lists_in w l) ≡ lists_in w l
named_case true d l h w e none = let same : l ≡ d = grind (arith, nat_tests, e) in none ∙ sym (ap (lists_in w) same)
named_case false d l h w e none = refl

-- and when a name holds something with the same members
pub named_lists : (d : ℕ) (h : Held) (w : World) → members_of (Some h) ≡ members_of (held_at d w.names) → AreLists (named d h w) (lists_in w)
named_lists d h w none l = lists_named d h w l ∙ named_case (l == d) d l h w refl none

unnamed_case : (b : Bool) (d l : ℕ) (w : World) → (l == d) ≡ b → members_of (held_at d w.names) ≡ [] → (if b then [] else lists_in w l) ≡ lists_in w l
unnamed_case true d l w e none = let same : l ≡ d = grind (arith, nat_tests, e) in sym (ap (lists_in w) same ∙ none)
unnamed_case false d l w e none = refl

-- and when one goes that has no members
pub unnamed_lists : (d : ℕ) (w : World) → members_of (held_at d w.names) ≡ [] → AreLists (unnamed d w) (lists_in w)
unnamed_lists d w none l = lists_unnamed d w l ∙ unnamed_case (l == d) d l w refl none
