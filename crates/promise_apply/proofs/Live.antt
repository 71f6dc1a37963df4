-- The node that was built is live, and in no set.
use Rattle.std.proofs.Common.{◌≡◌, ℕ, ◌<◌, List, [], ◌∷◌, ◌++◌, Option, None, Some, Bool, true, false, refl, sym, ap, ◌∙◌, arith, subst}
use Rattle.std.specs.Prelude.{nat_eq, nat_lt, IsSome}
use Rattle.std.proofs.lemmas.Bool.Decides.{nat_tests}
use Rattle.kj_base.specs.Places.{Spot, spot_of}
use Rattle.kj_model.specs.Nodes.{Form, Entry, form_at, is_in}
use Rattle.kj_model.specs.World.{World}
use Rattle.kj_model.specs.Places.{built, placed, placed_over, placed_if}
use Rattle.promise_nodes.specs.Kept.{IsLive}
use Rattle.promise_nodes.specs.Members.{IsNoMember}

last_case : (b : Bool) (n : ℕ) (e : Entry) (es : List Entry) → nat_eq e.number n ≡ b → IsSome (form_at n es) → IsSome (form_at n (e ∷ es))
last_case true n e es h s = rw h refl
last_case false n e es h s = rw h s

-- an entry at the end is found
last_live : (n : ℕ) (form : Form) (es : List Entry) → IsSome (form_at n (es ++ record { number = n; form = form } ∷ []))
last_live n form [] = let same : nat_eq n n ≡ true = grind (arith, nat_tests) in rw same refl
last_live n form (e ∷ es) = last_case (nat_eq e.number n) n e (es ++ record { number = n; form = form } ∷ []) refl (last_live n form es)

-- all but the spots is the same
abbrev SameButSpots : World → World → Type 0
SameButSpots w v = v ≡ record w { spots = v.spots; next_key = v.next_key }

placed_if_same : (b : Bool) (x : Spot) (w : World) → SameButSpots w (placed_if b x w)
placed_if_same true x w = refl
placed_if_same false x w = refl

placed_over_same : (o : Option Spot) (w : World) → SameButSpots w (placed_over o w)
placed_over_same None w = refl
placed_over_same (Some x) w = placed_if_same (nat_lt 0 x.place) x w

placed_same : (before : Option ℕ) (w : World) → SameButSpots w (placed before w)
placed_same None w = refl
placed_same (Some n) w = placed_over_same (spot_of n w.spots) w

-- placing a node changes neither the nodes nor the next number
pub placed_nodes : (before : Option ℕ) (w : World) → (placed before w).nodes ≡ w.nodes
placed_nodes before w = ap (λ (v : World). v.nodes) (placed_same before w)

pub placed_next : (before : Option ℕ) (w : World) → (placed before w).next ≡ w.next
placed_next before w = ap (λ (v : World). v.next) (placed_same before w)

-- and building one changes no set
pub built_detached : (before : Option ℕ) (form : Form) (w : World) → (built before form w).detached ≡ w.detached
built_detached before form w = ap (λ (v : World). v.detached) (placed_same before w)

-- the node that was built is live
pub built_live : (n before : ℕ) (form : Form) (w : World) → n ≡ w.next → IsLive (built (Some before) form w) n
built_live n before form w e =
    let number : n ≡ (placed (Some before) w).next = e ∙ sym (placed_next (Some before) w) in
    subst (λ (m : ℕ). IsLive (built (Some before) form w) m) (sym number) (last_live (placed (Some before) w).next form (placed (Some before) w).nodes)

not_below : (n next : ℕ) → n ≡ next → n < next → ⊥
not_below n next e h = omega (arith, e, h)

absent_case : (b : Bool) → (b ≡ true → ⊥) → b ≡ false
absent_case true f = absurd (f refl)
absent_case false f = refl

-- and no task of the loop's own set, as those were built before
pub unlisted_task : (next n : ℕ) (w : World) → (is_in n w.detached ≡ true → n < next) → n ≡ next → (v : World) → v.detached ≡ w.detached → is_in n v.detached ≡ false
unlisted_task next n w below e v same = rw same (absent_case (is_in n w.detached) (λ h. not_below n next e (below h)))

-- building one changes no name
pub built_held : (before : Option ℕ) (form : Form) (w : World) → (built before form w).names ≡ w.names
built_held before form w = ap (λ (v : World). v.names) (placed_same before w)

-- nor a member of a list, as those were built before
pub unlisted_member : (next n : ℕ) (lists : ℕ → List ℕ) → ((list : ℕ) → is_in n (lists list) ≡ true → n < next) → n ≡ next → IsNoMember n lists
unlisted_member next n lists below e list = absent_case (is_in n (lists list)) (λ h. not_below n next e (below list h))
