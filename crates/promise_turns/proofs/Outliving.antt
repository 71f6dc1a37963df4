-- What the laws of ownership tell of the node whose event fires.
use Rattle.std.proofs.Common.{◌≡◌, ◌∙◌, sym, ap, subst, ℕ, [], ◌∷◌, None, Some, Bool, true, false}
use Rattle.std.proofs.lemmas.Bool.{false≢true}
use Rattle.kj_model.specs.Nodes.{Form, Entry, Side, Waits, Chain, Race, Join, form_at, owner_of, parts_found, is_in}
use Rattle.kj_model.specs.World.{State, Setting}
use Rattle.kj_model.specs.Value.{Given, Gave, Took, value_link}
use Rattle.kj_model.proofs.Members.{in_self}
use Rattle.kj_ownership.specs.Owners.{owns}
use Rattle.kj_ownership.specs.Shapes.{Kind, OfTree, OfSide, part_kind}
use Rattle.kj_ownership.specs.Firing.{IsFiring}
use Rattle.kj_ownership.specs.Fits.{Fits}
use Rattle.kj_ownership.proofs.Giving.{link_place}
use Rattle.kj_ownership.proofs.Sides.{owner_is}
use Rattle.kj_ownership.proofs.Winning.{may_win}
use Rattle.promise_nodes.specs.Kept.{OwnsTree}
use Rattle.promise_nodes.specs.Shown.{next_number}
use Rattle.promise_firing.specs.Outliving.{MayEnd}
use Rattle.promise_firing.specs.Stages.{MayWin}

-- a node owns its only part
pub owned : (n tree : ℕ) (s : State) → parts_found (form_at n s.world.nodes) ≡ tree ∷ [] → owns n tree s.world.nodes ≡ true
owned n tree s parts = ap (is_in tree) parts ∙ in_self tree []

is_of_side : Kind → Bool
is_of_side OfSide = true
is_of_side other = false

-- an owner that has a tree has it not as a Side
owns_tree : (n : ℕ) (form : Form) → part_kind (Some form) ≡ OfTree → OwnsTree n form
unfolding is_of_side
owns_tree n (Race left right winner) e = absurd (false≢true (sym (ap is_of_side e)))
owns_tree n (Join fast sides) e = absurd (false≢true (sym (ap is_of_side e)))
owns_tree n _ e = tt

-- a Chain may end as its Then's step tells
pub may_end : (setting : Setting) (n link : ℕ) (given : Given) (s : State) → Fits setting → IsFiring n s → form_at n s.world.nodes ≡ Some (Chain link) → (value_link setting link s).1 ≡ Some given → MayEnd n link given (value_link setting link s).0.world
may_end setting n link (Gave outcome) s fits f at e = tt
may_end setting n link (Took root) s fits f at e = λ past.
    let t = link_place setting n link root s past fits f at e in
    record { lives = t.lives; place = record { apart = t.apart; placed = λ owner is. owns_tree n owner.form (t.placed owner is) } }

-- the owner that was found
pub owner_found : (n number : ℕ) (form : Form) (s : State) → IsFiring n s → (owner : Entry) → owner_of n s.world.nodes ≡ Some owner → owner.number ≡ number → owner.form ≡ form → (form_at number s.world.nodes ≡ Some form) × (owns number n s.world.nodes ≡ true)
owner_found n number form s f owner is number_is form_is =
    let o = owner_is n owner s f.owned.recorded is in
    subst (λ (m : ℕ). (form_at m s.world.nodes ≡ Some form) × (owns m n s.world.nodes ≡ true)) number_is (o.0 ∙ ap Some form_is, o.1)

-- a Race without a winner may be won
pub wins : (race left side tree : ℕ) (s : State) → IsFiring side s → form_at side s.world.nodes ≡ Some (Side (Waits tree)) → form_at race s.world.nodes ≡ Some (Race left (next_number left) None) → owns race side s.world.nodes ≡ true → MayWin race left side tree s.world
wins race left side tree s f waits race_is owned = record { waits = waits; race_is = race_is; wins = may_win race left (next_number left) side tree s f waits race_is owned }
