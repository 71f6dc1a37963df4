-- The moves of which commands are made: a node is built, a name comes or goes, an event is armed.
use Rattle.std.proofs.Common.{◌≡◌, ◌⊎◌, inl, inr, ℕ, ◌+◌, ◌<◌, ◌≤◌, List, [], ◌∷◌, ◌++◌, length, Bool, true, false, cond, Option, None, Some, arith, refl, sym, ap, ◌∙◌, subst, ◌&&◌, ◌==◌}
use Rattle.std.specs.Prelude.{nat_eq, nat_lt, is_some}
use Rattle.std.proofs.lemmas.Bool.{false≢true}
use Rattle.std.proofs.lemmas.Bool.Decides.{nat_tests}
use Rattle.std.proofs.lemmas.List.{map-append}
use Rattle.kj_base.specs.Places.{Spot, spot_of, spot_anew, spot_before}
use Rattle.kj_model.specs.Nodes.{Entry, Form, Content, Branch, Hub, form_at, parts_of, parts_at, parts_found, is_in}
use Rattle.kj_model.specs.World.{World, State, Held}
use Rattle.kj_model.specs.Changes.{frees_in, silent}
use Rattle.kj_model.specs.Places.{placed_anew, placed_if, placed_over, numbered, built}
use Rattle.kj_model.specs.Falling.{is_branch_of}
use Rattle.kj_model.specs.Owned.{numbers, is_hub_name, tree_roots}
use Rattle.kj_ownership.specs.Owners.{is_live, owns, is_hub_form}
use Rattle.kj_model.specs.Framed.{times, total, held_total}
use Rattle.kj_ownership.specs.Standing.{one_if, owned_times, place_times, Climbs, Placed, HubsCount, Below, IsRecorded, Standing}
use Rattle.kj_model.proofs.Spared.{same_number}
use Rattle.kj_model.proofs.Members.{in_right, in_self, in_none}
use Rattle.kj_model.proofs.Once.{both_ways, false_by}
use Rattle.kj_model.proofs.Counts.{times_app, total_app}
use Rattle.kj_ownership.proofs.Flat.{live_number}
use Rattle.kj_ownership.proofs.Stays.{in_times, at_least, owner_live}

-- the world with one node more
abbrev pub grown : Form → Spot → ℕ → World → World
grown form x k w = record w { spots = w.spots ++ x ∷ []; next_key = k; nodes = w.nodes ++ record { number = w.next; form = form } ∷ []; next = w.next + 1 }

-- a node that is built is such a node
record Grows (before : Option ℕ) (form : Form) (w : World) : Type 0 where
  spot : Spot
  key : ℕ
  number : spot.number ≡ w.next
  same : built before form w ≡ grown form spot key w

anew_grows : (form : Form) (w : World) → (x : Spot) × (k : ℕ) × (x.number ≡ w.next) × (numbered form (placed_anew w) ≡ grown form x k w)
anew_grows form w = (spot_anew w.next w.next_key, w.next_key + 1, refl, refl)

if_grows : (b : Bool) (y : Spot) (form : Form) (w : World) → (x : Spot) × (k : ℕ) × (x.number ≡ w.next) × (numbered form (placed_if b y w) ≡ grown form x k w)
if_grows true y form w = (spot_before w.next y, w.next_key, refl, refl)
if_grows false y form w = anew_grows form w

over_grows : (o : Option Spot) (form : Form) (w : World) → (x : Spot) × (k : ℕ) × (x.number ≡ w.next) × (numbered form (placed_over o w) ≡ grown form x k w)
over_grows None form w = anew_grows form w
over_grows (Some y) form w = if_grows (nat_lt 0 y.place) y form w

pub built_grows : (before : Option ℕ) (form : Form) (w : World) → (x : Spot) × (k : ℕ) × (x.number ≡ w.next) × (built before form w ≡ grown form x k w)
built_grows None form w = anew_grows form w
built_grows (Some n) form w = over_grows (spot_of n w.spots) form w

-- forms of a world with one node more
app_other_more : (m : ℕ) (e x : Entry) (es : List Entry) → nat_eq e.number m ≡ false → form_at m (es ++ e ∷ []) ≡ form_at m es → form_at m (x ∷ (es ++ e ∷ [])) ≡ form_at m (x ∷ es)
app_other_more m e x es d h = grind (arith, nat_tests)

pub app_other : (m : ℕ) (e : Entry) (es : List Entry) → nat_eq e.number m ≡ false → form_at m (es ++ e ∷ []) ≡ form_at m es
app_other m e [] d = grind (arith, nat_tests)
app_other m e (x ∷ es) d = app_other_more m e x es d (app_other m e es d)

app_new_more : (e x : Entry) (es : List Entry) → is_live e.number (x ∷ es) ≡ false → (is_live e.number es ≡ false → form_at e.number (es ++ e ∷ []) ≡ Some e.form) → form_at e.number (x ∷ (es ++ e ∷ [])) ≡ Some e.form
app_new_more e x es d h = grind (arith, nat_tests)

pub app_new : (e : Entry) (es : List Entry) → is_live e.number es ≡ false → form_at e.number (es ++ e ∷ []) ≡ Some e.form
app_new e [] d = grind (arith, nat_tests)
app_new e (x ∷ es) d = app_new_more e x es d (app_new e es)

number_live_more : (m : ℕ) (e : Entry) (es : List Entry) → (is_in m (numbers es) ≡ true → is_live m es ≡ true) → is_in m (numbers (e ∷ es)) ≡ true → is_live m (e ∷ es) ≡ true
number_live_more m e es h i = grind (arith, nat_tests)

pub number_live : (m : ℕ) (es : List Entry) → is_in m (numbers es) ≡ true → is_live m es ≡ true
number_live m [] i = absurd (in_none m i)
number_live m (e ∷ es) i = number_live_more m e es (number_live m es) i

-- live numbers are below the next
below_next : (b : Bool) (a r m next : ℕ) → a + r ≡ one_if (nat_lt 0 m && nat_lt m next) → 1 ≤ a → m < next
below_next b a r m next e h = grind (arith, nat_tests)

pub live_below : (s : State) (m : ℕ) → IsRecorded s → is_live m s.world.nodes ≡ true → m < s.world.next
live_below s m rec live = below_next true (times m (numbers s.world.nodes)) (times m (frees_in s.past)) m s.world.next (rec m) (in_times m (numbers s.world.nodes) (live_number m s.world.nodes live))

pub not_live : (s : State) → IsRecorded s → is_live s.world.next s.world.nodes ≡ false
not_live s rec = false_by (is_live s.world.next s.world.nodes) (λ live. not_less s.world.next (live_below s s.world.next rec live))
  where
    not_less : (n : ℕ) → n < n → ⊥
    not_less n h = omega (arith, h)

-- sums over the same members
pub total_same : (f g : ℕ → ℕ) (xs : List ℕ) → ((x : ℕ) → is_in x xs ≡ true → f x ≡ g x) → total f xs ≡ total g xs
total_same f g [] h = refl
total_same f g (x ∷ xs) h =
    let a = h x (in_self x xs) in
    let b = total_same f g xs (λ y i. h y (in_right y (x ∷ []) xs i)) in
    omega (arith, a, b)

differs : (m n : ℕ) → m < n → nat_eq n m ≡ false
differs m n h = grind (arith, nat_tests)

-- how often a node is owned, with one node more
pub owned_grown : (form : Form) (x : Spot) (k m : ℕ) (s : State) → IsRecorded s → owned_times m (grown form x k s.world).nodes ≡ owned_times m s.world.nodes + times m (parts_of form)
owned_grown form x k m s rec =
    let w = s.world in
    let v = grown form x k w in
    let e : Entry = record { number = w.next; form = form } in
    let a : owned_times m v.nodes ≡ total (λ q. times m (parts_at q v.nodes)) (numbers w.nodes ++ w.next ∷ []) = ap (total (λ q. times m (parts_at q v.nodes))) (map-append (λ (y : Entry). y.number) w.nodes (e ∷ [])) in
    let b = total_app (λ q. times m (parts_at q v.nodes)) (numbers w.nodes) (w.next ∷ []) in
    let c = total_same (λ q. times m (parts_at q v.nodes)) (λ q. times m (parts_at q w.nodes)) (numbers w.nodes) (λ q i. ap (λ (o : Option Form). times m (parts_found o)) (app_other q e w.nodes (differs q w.next (live_below s q rec (number_live q w.nodes i))))) in
    let d : times m (parts_at w.next v.nodes) ≡ times m (parts_of form) = ap (λ (o : Option Form). times m (parts_found o)) (app_new e w.nodes (not_live s rec)) in
    omega (arith, a, b, c, d)

-- what the new node leaves out: its own place, its hub's name, its place among its hub's branches
abbrev pub root_out : ℕ → Option Form → List ℕ
root_out n (Some (Hub content is_named branches)) = []
root_out n other = n ∷ []

abbrev pub name_out : ℕ → Option Form → List ℕ
name_out n (Some (Hub content is_named branches)) = n ∷ []
name_out n other = []

abbrev pub branch_out : ℕ → Option Form → List ℕ
branch_out n (Some (Branch hub)) = n ∷ []
branch_out n other = []

-- a new hub is named, and has no branch
abbrev pub is_fresh : Option Form → Bool
is_fresh (Some (Hub content true [])) = true
is_fresh (Some (Hub content true (b ∷ bs))) = false
is_fresh (Some (Hub content false branches)) = false
is_fresh other = true

pub root_here : (n m : ℕ) (o : Option Form) → m ≡ n → times m (root_out n o) + one_if (is_hub_form o) ≡ 1
root_here n m None e = let s : nat_eq n m ≡ true = grind (arith, nat_tests) in grind (arith, nat_tests)
root_here n m (Some (Hub content is_named branches)) e = refl
root_here n m (Some _) e = let s : nat_eq n m ≡ true = grind (arith, nat_tests) in grind (arith, nat_tests)

pub root_other : (n m : ℕ) (o : Option Form) → nat_eq n m ≡ false → times m (root_out n o) ≡ 0
root_other n m None d = grind (arith, nat_tests)
root_other n m (Some (Hub content is_named branches)) d = refl
root_other n m (Some _) d = grind (arith, nat_tests)

name_other : (n m : ℕ) (o : Option Form) → nat_eq n m ≡ false → times m (name_out n o) ≡ 0
name_other n m (Some (Hub content is_named branches)) d = grind (arith, nat_tests)
name_other n m None d = refl
name_other n m (Some _) d = refl

branch_other : (n m : ℕ) (o : Option Form) → nat_eq n m ≡ false → times m (branch_out n o) ≡ 0
branch_other n m (Some (Branch hub)) d = grind (arith, nat_tests)
branch_other n m None d = refl
branch_other n m (Some _) d = refl

branch_self : (n h : ℕ) (o : Option Form) → cond (is_branch_of h o) (times n (branch_out n o)) 0 ≡ one_if (is_branch_of h o)
branch_self n h None = refl
branch_self n h (Some (Branch hub)) = once (hub == h)
  where
    once : (b : Bool) → cond b (times n (n ∷ [])) 0 ≡ one_if b
    once true = grind (arith, nat_tests)
    once false = refl
branch_self n h (Some _) = refl

fresh_hub : (n : ℕ) (content : Content) (is_named : Bool) (branches : List ℕ) → is_fresh (Some (Hub content is_named branches)) ≡ true → (is_named ≡ true) × (branches ≡ [])
fresh_hub n content true [] f = (refl, refl)
fresh_hub n content true (b ∷ bs) f = absurd (false≢true f)
fresh_hub n content false branches f = absurd (false≢true f)

no_times_more : (x : ℕ) (xs : List ℕ) → times x (x ∷ xs) ≡ 0 → ⊥
no_times_more x xs h = grind (arith, nat_tests)

-- owners with one node more
abbrev entry : Form → World → Entry
entry form w = record { number = w.next; form = form }

owns_grown : (form : Form) (x : Spot) (k q p : ℕ) (s : State) → IsRecorded s → owns q p (grown form x k s.world).nodes ≡ true → ((q ≡ s.world.next) × (is_in p (parts_of form) ≡ true)) ⊎ (owns q p s.world.nodes ≡ true)
owns_grown form x k q p s rec own = decide (nat_eq s.world.next q) refl
  where
    decide : (d : Bool) → nat_eq s.world.next q ≡ d → ((q ≡ s.world.next) × (is_in p (parts_of form) ≡ true)) ⊎ (owns q p s.world.nodes ≡ true)
    decide true e =
        let same = same_number s.world.next q e in
        let at : form_at q (grown form x k s.world).nodes ≡ Some form = subst (λ (y : ℕ). form_at y (grown form x k s.world).nodes ≡ Some form) (sym same) (app_new (entry form s.world) s.world.nodes (not_live s rec)) in
        inl (same, sym (ap (λ (o : Option Form). is_in p (parts_found o)) at) ∙ own)
    decide false e = inr (sym (ap (λ (o : Option Form). is_in p (parts_found o)) (app_other q (entry form s.world) s.world.nodes e)) ∙ own)

keeps_owner : (form : Form) (x : Spot) (k q p : ℕ) (s : State) → IsRecorded s → owns q p s.world.nodes ≡ true → owns q p (grown form x k s.world).nodes ≡ true
keeps_owner form x k q p s rec own = ap (λ (o : Option Form). is_in p (parts_found o)) (app_other q (entry form s.world) s.world.nodes (differs q s.world.next (live_below s q rec (owner_live q p s.world.nodes own)))) ∙ own

new_owner : (form : Form) (x : Spot) (k p : ℕ) (s : State) → IsRecorded s → is_in p (parts_of form) ≡ true → owns s.world.next p (grown form x k s.world).nodes ≡ true
new_owner form x k p s rec i = ap (λ (o : Option Form). is_in p (parts_found o)) (app_new (entry form s.world) s.world.nodes (not_live s rec)) ∙ i

none_at : (n a b c d : ℕ) → a + b ≡ a + b → 1 ≤ a → a + b + (c + d) ≡ 0 → ⊥
none_at n a b c d e h z = omega (arith, h, z)

next_unowned : (form : Form) (x : Spot) (k q : ℕ) (loose out : List ℕ) (s : State) → IsRecorded s → Below (parts_of form ++ loose) out s.world → owns q s.world.next (grown form x k s.world).nodes ≡ false
next_unowned form x k q loose out s rec b = false_by (owns q s.world.next (grown form x k s.world).nodes) (λ own.
    let z = b.places s.world.next (omega arith) in
    let a = times_app s.world.next (parts_of form) loose in
    elim (owns_grown form x k q s.world.next s rec own) [
      | inl p ↦ let i = in_times s.world.next (parts_of form) p.1 in first (times s.world.next (parts_of form ++ loose)) (times s.world.next (parts_of form)) (times s.world.next loose) (times s.world.next (tree_roots s.world)) (owned_times s.world.next s.world.nodes) a i z
      | inr o ↦ let i = at_least (λ r. times s.world.next (parts_at r s.world.nodes)) q 1 (numbers s.world.nodes) (live_number q s.world.nodes (owner_live q s.world.next s.world.nodes o)) (in_times s.world.next (parts_at q s.world.nodes) o) in second (times s.world.next (parts_of form ++ loose)) (times s.world.next (tree_roots s.world)) (owned_times s.world.next s.world.nodes) i z
    ])
  where
    first : (t a b c d : ℕ) → t ≡ a + b → 1 ≤ a → t + (c + d) ≡ 0 → ⊥
    first t a b c d e h z = omega (arith, e, h, z)

    second : (t c d : ℕ) → 1 ≤ d → t + (c + d) ≡ 0 → ⊥
    second t c d h z = omega (arith, h, z)

-- climbs with one node more
climb_grown : (form : Form) (x : Spot) (k y : ℕ) (ys : List ℕ) (loose out : List ℕ) (s : State) → IsRecorded s → Below (parts_of form ++ loose) out s.world → Climbs s.world.nodes y ys → (zs : List ℕ) × Climbs (grown form x k s.world).nodes y zs
climb_grown form x k y (z ∷ ys) loose out s rec b c = let r = climb_grown form x k z ys loose out s rec b c.1 in (z ∷ r.0, (keeps_owner form x k z y s rec c.0, r.1))
climb_grown form x k y [] loose out s rec b c = decide (is_in y (parts_of form)) refl
  where
    decide : (d : Bool) → is_in y (parts_of form) ≡ d → (zs : List ℕ) × Climbs (grown form x k s.world).nodes y zs
    decide true e = (s.world.next ∷ [], (new_owner form x k y s rec e, λ q. next_unowned form x k q loose out s rec b))
    decide false e = (
      [],
      λ q. false_by (owns q y (grown form x k s.world).nodes) (λ own. elim (owns_grown form x k q y s rec own) [
        | inl p ↦ both_ways (is_in y (parts_of form)) p.1 e
        | inr o ↦ both_ways (owns q y s.world.nodes) o (c q)
      ]),
    )

-- the place of each node, with one more
grown_placed : (form : Form) (x : Spot) (k : ℕ) (loose out : List ℕ) (s : State) → IsRecorded s → Below (parts_of form ++ loose) out s.world → Placed (parts_of form ++ loose) s.world → Placed (root_out s.world.next (Some form) ++ loose) (grown form x k s.world)
grown_placed form x k loose out s rec b pl = record {
  once = λ m live. once_at m (nat_eq s.world.next m) refl live;
  climbs = λ m live. climbs_at m (nat_eq s.world.next m) refl live;
}
  where
    climbs_at : (m : ℕ) (d : Bool) → nat_eq s.world.next m ≡ d → is_live m (grown form x k s.world).nodes ≡ true → (zs : List ℕ) × Climbs (grown form x k s.world).nodes m zs
    climbs_at m true e live = ([], subst (λ (y : ℕ). (q : ℕ) → owns q y (grown form x k s.world).nodes ≡ false) (sym (same_number s.world.next m e)) (λ q. next_unowned form x k q loose out s rec b))
    climbs_at m false e live =
        let old = pl.climbs m (sym (ap is_some (app_other m (entry form s.world) s.world.nodes e)) ∙ live) in
        climb_grown form x k m old.0 loose out s rec b old.1

    fresh_sum : (r h l t o p u a : ℕ) → r + h ≡ 1 → a ≡ p + l → a + (t + o) ≡ 0 → u ≡ o + p → (r + l) + (t + (h + u)) ≡ 1
    fresh_sum r h l t o p u a e f g i = omega (arith, e, f, g, i)

    old_sum : (r h l t o p u a : ℕ) → r ≡ 0 → a ≡ p + l → a + (t + (h + o)) ≡ 1 → u ≡ o + p → (r + l) + (t + (h + u)) ≡ 1
    old_sum r h l t o p u a e f g i = omega (arith, e, f, g, i)

    once_at : (m : ℕ) (d : Bool) → nat_eq s.world.next m ≡ d → is_live m (grown form x k s.world).nodes ≡ true → times m (root_out s.world.next (Some form) ++ loose) + place_times (grown form x k s.world) m ≡ 1
    once_at m true e live =
        let same = same_number s.world.next m e in
        let at : form_at m (grown form x k s.world).nodes ≡ Some form = subst (λ (y : ℕ). form_at y (grown form x k s.world).nodes ≡ Some form) (sym same) (app_new (entry form s.world) s.world.nodes (not_live s rec)) in
        let z = b.places m (subst (λ (y : ℕ). s.world.next ≤ y) (sym same) (omega arith)) in
        let h = root_here s.world.next m (Some form) same in
        ap (λ a. a + place_times (grown form x k s.world) m) (times_app m (root_out s.world.next (Some form)) loose)
        ∙ ap (λ (o : Option Form). (times m (root_out s.world.next (Some form)) + times m loose) + (times m (tree_roots s.world) + (one_if (is_hub_form o) + owned_times m (grown form x k s.world).nodes))) at
        ∙ fresh_sum (times m (root_out s.world.next (Some form))) (one_if (is_hub_form (Some form))) (times m loose) (times m (tree_roots s.world)) (owned_times m s.world.nodes) (times m (parts_of form)) (owned_times m (grown form x k s.world).nodes) (times m (parts_of form ++ loose)) h (times_app m (parts_of form) loose) z (owned_grown form x k m s rec)
    once_at m false e live =
        let at = app_other m (entry form s.world) s.world.nodes e in
        let z = pl.once m (sym (ap is_some at) ∙ live) in
        ap (λ a. a + place_times (grown form x k s.world) m) (times_app m (root_out s.world.next (Some form)) loose)
        ∙ ap (λ (o : Option Form). (times m (root_out s.world.next (Some form)) + times m loose) + (times m (tree_roots s.world) + (one_if (is_hub_form o) + owned_times m (grown form x k s.world).nodes))) at
        ∙ old_sum (times m (root_out s.world.next (Some form))) (one_if (is_hub_form (form_at m s.world.nodes))) (times m loose) (times m (tree_roots s.world)) (owned_times m s.world.nodes) (times m (parts_of form)) (owned_times m (grown form x k s.world).nodes) (times m (parts_of form ++ loose)) (root_other s.world.next m (Some form) e) (times_app m (parts_of form) loose) z (owned_grown form x k m s rec)

-- hubs with one more node
grown_hubs : (form : Form) (x : Spot) (k : ℕ) (loose out : List ℕ) (s : State) → IsRecorded s → Below (parts_of form ++ loose) out s.world → is_fresh (Some form) ≡ true → HubsCount out [] s.world → HubsCount (name_out s.world.next (Some form) ++ out) (branch_out s.world.next (Some form)) (grown form x k s.world)
grown_hubs form x k loose out s rec b fresh hubs = record {
  name = λ h content is_named branches at. name_at h content is_named branches (nat_eq s.world.next h) refl at;
  branches = λ h content is_named branches at m. branch_at h content is_named branches m (nat_eq s.world.next h) refl at;
}
  where
    some_form : (f g : Form) → ◌≡◌ {A = Option Form} (Some f) (Some g) → f ≡ g
    some_form f g e = cc

    is_new : (h : ℕ) (f : Form) → nat_eq s.world.next h ≡ true → form_at h (grown form x k s.world).nodes ≡ Some f → ◌≡◌ {A = Option Form} (Some form) (Some f)
    is_new h f e at = sym (subst (λ (y : ℕ). form_at y (grown form x k s.world).nodes ≡ Some form) (sym (same_number s.world.next h e)) (app_new (entry form s.world) s.world.nodes (not_live s rec))) ∙ at

    named_new : (h a : ℕ) (o : Option Form) (content : Content) (is_named : Bool) (branches : List ℕ) → h ≡ s.world.next → o ≡ Some (Hub content is_named branches) → is_fresh o ≡ true → a + times h out ≡ 0 → a + times h (name_out s.world.next o ++ out) ≡ one_if is_named
    named_new h a o content is_named branches same e f z =
        let f2 = fresh_hub h content is_named branches (subst (λ (p : Option Form). is_fresh p ≡ true) e f) in
        let one : times h (s.world.next ∷ []) ≡ 1 = (let t : nat_eq s.world.next h ≡ true = grind (arith, nat_tests) in grind (arith, nat_tests)) in
        let app = times_app h (s.world.next ∷ []) out in
        ap (λ (p : Option Form). a + times h (name_out s.world.next p ++ out)) e ∙ omega (arith, one, app, z) ∙ ap one_if (sym f2.0)

    name_at : (h : ℕ) (content : Content) (is_named : Bool) (branches : List ℕ) (d : Bool) → nat_eq s.world.next h ≡ d → form_at h (grown form x k s.world).nodes ≡ Some (Hub content is_named branches) → held_total (λ (y : Held). one_if (is_hub_name h y)) s.world.names + times h (name_out s.world.next (Some form) ++ out) ≡ one_if is_named
    name_at h content is_named branches true e at =
        let same = same_number s.world.next h e in
        named_new h (held_total (λ (y : Held). one_if (is_hub_name h y)) s.world.names) (Some form) content is_named branches same (is_new h (Hub content is_named branches) e at) fresh (b.names h (subst (λ (y : ℕ). s.world.next ≤ y) (sym same) (omega arith)))
    name_at h content is_named branches false e at =
        let old = hubs.name h content is_named branches (sym (app_other h (entry form s.world) s.world.nodes e) ∙ at) in
        let z = name_other s.world.next h (Some form) e in
        let app = times_app h (name_out s.world.next (Some form)) out in
        omega (arith, old, z, app)

    none_of : (h m : ℕ) (o : Option Form) (content : Content) (is_named : Bool) (branches : List ℕ) → o ≡ Some (Hub content is_named branches) → is_branch_of h o ≡ false
    none_of h m o content is_named branches e = ap (is_branch_of h) e

    nothing : (c : Bool) (t : ℕ) → c ≡ false → 0 + cond c t 0 ≡ one_if c
    nothing true t e = absurd (false≢true (sym e))
    nothing false t e = refl

    branch_form : (h m : ℕ) (d : Bool) → nat_eq s.world.next m ≡ d → (is_branch_of h (form_at m s.world.nodes) ≡ false) → (is_branch_of h (Some form) ≡ false) → is_branch_of h (form_at m (grown form x k s.world).nodes) ≡ false
    branch_form h m true e old new = ap (is_branch_of h) (subst (λ (y : ℕ). form_at y (grown form x k s.world).nodes ≡ Some form) (sym (same_number s.world.next m e)) (app_new (entry form s.world) s.world.nodes (not_live s rec))) ∙ new
    branch_form h m false e old new = ap (is_branch_of h) (app_other m (entry form s.world) s.world.nodes e) ∙ old

    branch_at : (h : ℕ) (content : Content) (is_named : Bool) (branches : List ℕ) (m : ℕ) (d : Bool) → nat_eq s.world.next h ≡ d → form_at h (grown form x k s.world).nodes ≡ Some (Hub content is_named branches)
        → times m branches + cond (is_branch_of h (form_at m (grown form x k s.world).nodes)) (times m (branch_out s.world.next (Some form))) 0 ≡ one_if (is_branch_of h (form_at m (grown form x k s.world).nodes))
    branch_at h content is_named branches m true e at =
        let same = same_number s.world.next h e in
        let new = is_new h (Hub content is_named branches) e at in
        let f2 = fresh_hub h content is_named branches (subst (λ (p : Option Form). is_fresh p ≡ true) new fresh) in
        let no = branch_form h m (nat_eq s.world.next m) refl (b.branches h m (subst (λ (y : ℕ). s.world.next ≤ y) (sym same) (omega arith))) (none_of h m (Some form) content is_named branches new) in
        ap (λ (bs : List ℕ). times m bs + cond (is_branch_of h (form_at m (grown form x k s.world).nodes)) (times m (branch_out s.world.next (Some form))) 0) f2.1
        ∙ nothing (is_branch_of h (form_at m (grown form x k s.world).nodes)) (times m (branch_out s.world.next (Some form))) no
    branch_at h content is_named branches m false e at = there m (nat_eq s.world.next m) refl (hubs.branches h content is_named branches (sym (app_other h (entry form s.world) s.world.nodes e) ∙ at) m)
      where
        not_found : (o : Option Form) → is_some o ≡ false → is_branch_of h o ≡ false
        not_found None z = refl
        not_found (Some f) z = absurd (false≢true (sym z))

        zero_left : (a : ℕ) → 0 + a ≡ a
        zero_left a = omega arith

        zero_of : (c : Bool) (t : ℕ) → c ≡ false → t + cond c 0 0 ≡ one_if c → t ≡ 0
        zero_of true t z e = absurd (false≢true (sym z))
        zero_of false t z e = omega (arith, e)

        none_more : (c : Bool) (t u : ℕ) → u ≡ 0 → t + cond c 0 0 ≡ one_if c → t + cond c u 0 ≡ one_if c
        none_more true t u z e = omega (arith, z, e)
        none_more false t u z e = e

        there : (m : ℕ) (d : Bool) → nat_eq s.world.next m ≡ d → times m branches + cond (is_branch_of h (form_at m s.world.nodes)) 0 0 ≡ one_if (is_branch_of h (form_at m s.world.nodes))
            → times m branches + cond (is_branch_of h (form_at m (grown form x k s.world).nodes)) (times m (branch_out s.world.next (Some form))) 0 ≡ one_if (is_branch_of h (form_at m (grown form x k s.world).nodes))
        there m true e old =
            let same = same_number s.world.next m e in
            let none : is_live m s.world.nodes ≡ false = subst (λ (y : ℕ). is_live y s.world.nodes ≡ false) (sym same) (not_live s rec) in
            let z = zero_of (is_branch_of h (form_at m s.world.nodes)) (times m branches) (not_found (form_at m s.world.nodes) none) old in
            ap (λ (o : Option Form). times m branches + cond (is_branch_of h o) (times m (branch_out s.world.next (Some form))) 0) at_new
            ∙ (λ i. z i + cond (is_branch_of h (Some form)) (times (same i) (branch_out s.world.next (Some form))) 0)
            ∙ zero_left (cond (is_branch_of h (Some form)) (times s.world.next (branch_out s.world.next (Some form))) 0)
            ∙ branch_self s.world.next h (Some form)
            ∙ ap (λ (o : Option Form). one_if (is_branch_of h o)) (sym at_new)
          where
            at_new : form_at m (grown form x k s.world).nodes ≡ Some form
            at_new = subst (λ (y : ℕ). form_at y (grown form x k s.world).nodes ≡ Some form) (sym (same_number s.world.next m e)) (app_new (entry form s.world) s.world.nodes (not_live s rec))
        there m false e old =
            ap (λ (o : Option Form). times m branches + cond (is_branch_of h o) (times m (branch_out s.world.next (Some form))) 0) (app_other m (entry form s.world) s.world.nodes e)
            ∙ none_more (is_branch_of h (form_at m s.world.nodes)) (times m branches) (times m (branch_out s.world.next (Some form))) (branch_other s.world.next m (Some form) e) old
            ∙ ap (λ (o : Option Form). one_if (is_branch_of h o)) (sym (app_other m (entry form s.world) s.world.nodes e))

-- all of it, with one more node
grown_record : (a r m next : ℕ) → a + r ≡ one_if (nat_lt 0 m && nat_lt m next) → 0 < next → (a + times m (next ∷ [])) + r ≡ one_if (nat_lt 0 m && nat_lt m (next + 1))
grown_record a r m next h p = grind (arith, nat_tests)

more_room : (es : List Entry) (e : Entry) (n : ℕ) → length es < n → length (es ++ e ∷ []) ≤ n
more_room [] e n h = omega (arith, h)
more_room (x ∷ es) zero_e n h = one_more n h
  where
    length_last : (es : List Entry) (e : Entry) → length (es ++ e ∷ []) ≡ length es + 1
    length_last [] e = omega arith
    length_last (x ∷ es) e = let h = length_last es e in omega (arith, h)

    one_more : (n : ℕ) → length (x ∷ es) < n → length (x ∷ (es ++ zero_e ∷ [])) ≤ n
    one_more n h = let l = length_last es zero_e in omega (arith, h, l)

live_grown : (form : Form) (x : Spot) (k m : ℕ) (s : State) → IsRecorded s → is_live m s.world.nodes ≡ true → is_live m (grown form x k s.world).nodes ≡ true
live_grown form x k m s rec live = ap is_some (app_other m (entry form s.world) s.world.nodes (differs m s.world.next (live_below s m rec live))) ∙ live

event_grown : (b : Bool) (a c d : Bool) → (c ≡ true → d ≡ true) → cond b a c ≡ true → cond b a d ≡ true
event_grown true a c d h e = e
event_grown false a c d h e = h e

pub grown_standing : (form : Form) (x : Spot) (k : ℕ) (loose out : List ℕ) (s : State) → is_fresh (Some form) ≡ true → x.number ≡ s.world.next → length s.world.nodes < s.world.limits.slots → ((n : ℕ) → s.world.next < n → is_branch_of n (Some form) ≡ false)
    → Standing (parts_of form ++ loose) out [] s → Standing (root_out s.world.next (Some form) ++ loose) (name_out s.world.next (Some form) ++ out) (branch_out s.world.next (Some form)) (silent (grown form x k) s)
grown_standing form x k loose out s fresh number room refs st = record {
  placed = grown_placed form x k loose out s st.recorded st.below st.placed;
  names = st.names;
  hubs = grown_hubs form x k loose out s st.recorded st.below fresh st.hubs;
  below = record {
    positive = omega arith;
    places = λ n h.
        let next = s.world.next in
        let z = st.below.places n (omega (arith, h)) in
        let d = differs_up n next h in
        let a = root_other next n (Some form) d in
        let e = times_app n (root_out next (Some form)) loose in
        let f = times_app n (parts_of form) loose in
        let o = owned_grown form x k n s st.recorded in
        omega (arith, z, a, e, f, o);
    names = λ n h.
        let z = st.below.names n (omega (arith, h)) in
        let a = name_other s.world.next n (Some form) (differs_up n s.world.next h) in
        let e = times_app n (name_out s.world.next (Some form)) out in
        omega (arith, z, a, e);
    branches = λ n m h. branch_at n m (nat_eq s.world.next m) refl h;
  };
  recorded = λ m. (λ i. times m (map-append (λ (y : Entry). y.number) s.world.nodes (entry form s.world ∷ []) i) + times m (frees_in s.past)) ∙ (λ i. times_app m (numbers s.world.nodes) (s.world.next ∷ []) i + times m (frees_in s.past)) ∙ grown_record (times m (numbers s.world.nodes)) (times m (frees_in s.past)) m s.world.next (st.recorded m) st.below.positive;
  in_order = st.in_order;
  room = more_room s.world.nodes (entry form s.world) s.world.limits.slots room;
  queue = st.queue;
  queued = λ e i. event_grown (e == 0) (is_some s.world.awaited) (is_live e s.world.nodes) (is_live e (grown form x k s.world).nodes) (live_grown form x k e s st.recorded) (st.queued e i);
  spots = map-append (λ (y : Spot). y.number) s.world.spots (x ∷ []) ∙ (λ i. st.spots i ++ number i ∷ []) ∙ sym (map-append (λ (y : Entry). y.number) s.world.nodes (entry form s.world ∷ []));
}
  where
    differs_up : (n next : ℕ) → next + 1 ≤ n → nat_eq next n ≡ false
    differs_up n next h = grind (arith, nat_tests)

    branch_at : (n m : ℕ) (d : Bool) → nat_eq s.world.next m ≡ d → s.world.next + 1 ≤ n → is_branch_of n (form_at m (grown form x k s.world).nodes) ≡ false
    branch_at n m true e h = ap (is_branch_of n) (subst (λ (y : ℕ). form_at y (grown form x k s.world).nodes ≡ Some form) (sym (same_number s.world.next m e)) (app_new (entry form s.world) s.world.nodes (not_live s st.recorded))) ∙ refs n (omega (arith, h))
    branch_at n m false e h = ap (is_branch_of n) (app_other m (entry form s.world) s.world.nodes e) ∙ st.below.branches n m (omega (arith, h))

-- a node is built
pub built_standing : (before : Option ℕ) (form : Form) (loose out : List ℕ) (s : State) → is_fresh (Some form) ≡ true → length s.world.nodes < s.world.limits.slots → ((n : ℕ) → s.world.next < n → is_branch_of n (Some form) ≡ false)
    → Standing (parts_of form ++ loose) out [] s → Standing (root_out s.world.next (Some form) ++ loose) (name_out s.world.next (Some form) ++ out) (branch_out s.world.next (Some form)) (silent (built before form) s)
built_standing before form loose out s fresh room refs st =
    let g = built_grows before form s.world in
    subst (λ (w : World). Standing (root_out s.world.next (Some form) ++ loose) (name_out s.world.next (Some form) ++ out) (branch_out s.world.next (Some form)) (record { world = w; past = s.past })) (sym g.3)
    (grown_standing form g.0 g.1 loose out s fresh g.2 room refs st)
