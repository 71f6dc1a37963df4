-- What commands leave of a form while a step runs.
use Rattle.std.specs.Prelude.{◌≡◌, ◌⊎◌, ℕ, List, [], ◌∷◌, Option, None, Some, Bool, true, false, ◌||◌, ◌==◌}
use Rattle.kj_model.specs.Nodes.{Entry, Form, Hub, Race, form_at, is_in, Then, Side, Join, Task}
use Rattle.kj_model.specs.World.{World}
use Rattle.kj_model.specs.Owned.{awaited_roots}
use Rattle.kj_ownership.specs.Owners.{is_live, owns, is_hub_form}

-- a form, but for a hub's name and branches
abbrev pub stem : Option Form → Option Form
stem (Some (Hub content is_named branches)) = Some (Hub content true [])
stem other = other

-- where an evaluation begins: at the node that fires, or at the awaited root
abbrev pub Begins : World → ℕ → Type 0
Begins w b = ((w.firing ≡ Some b) × (is_live b w.nodes ≡ true)) ⊎ ((w.firing ≡ None) × (is_live b w.nodes ≡ true) × (is_in b (awaited_roots w.awaited) ≡ true))

-- the forms that an evaluation goes down through
abbrev pub is_walked : Option Form → Bool
is_walked (Some (Then value error tree)) = true
is_walked (Some (Side stage)) = true
is_walked (Some (Race left right winner)) = true
is_walked (Some (Join fast sides)) = true
is_walked other = false

-- whether this node's event fires
abbrev pub fires : Option ℕ → ℕ → Bool
fires None n = false
fires (Some f) n = f == n

-- the forms of a node while its step runs
abbrev pub is_steady : Option Form → Bool
is_steady (Some (Then value error None)) = true
is_steady (Some (Task None)) = true
is_steady other = false

-- the nodes from one that is being evaluated up to where it began; none of them is a hub, but the first,
-- and each that owns another is one that an evaluation goes through, but the one that fires
abbrev pub Frames : World → ℕ → List ℕ → Type 0
Frames w n [] = Begins w n
Frames w n (m ∷ ms) = (is_live n w.nodes ≡ true) × (owns m n w.nodes ≡ true) × (is_hub_form (form_at n w.nodes) ≡ false) × ((is_walked (form_at m w.nodes) || fires w.firing m) ≡ true) × Frames w m ms

-- the Side that won a Race is one of its own
abbrev pub HasWinners : List Entry → Type 0
HasWinners nodes = (n left right side : ℕ) → form_at n nodes ≡ Some (Race left right (Some side)) → is_in side (left ∷ right ∷ []) ≡ true
