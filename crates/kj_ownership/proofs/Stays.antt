-- What a world keeps it keeps over a free.
use Rattle.std.proofs.Common.{◌≡◌, inl, inr, ℕ, ◌+◌, ◌≤◌, List, [], ◌∷◌, ◌++◌, Bool, true, false, not, cond, Option, None, Some, arith, refl, sym, ap, ◌∙◌, subst}
use Rattle.std.specs.Prelude.{filter, nat_eq, is_some}
use Rattle.std.proofs.lemmas.Bool.{false≢true}
use Rattle.std.proofs.lemmas.Bool.Decides.{nat_tests}
use Rattle.kj_model.specs.Nodes.{Entry, Form, Hub, form_at, parts_at, parts_found, is_in}
use Rattle.kj_model.specs.World.{World, State, Named, Held}
use Rattle.kj_model.specs.Trees.{none_if}
use Rattle.kj_ownership.specs.Owners.{is_live, owns, is_hub_form, OnePlace}
use Rattle.kj_model.specs.Falling.{is_branch_of, some_staying}
use Rattle.kj_model.specs.Owned.{numbers, held_roots, name_roots, awaited_roots, tree_roots}
use Rattle.kj_model.specs.Framed.{times, total, held_total, NamesApart}
use Rattle.kj_ownership.specs.Standing.{one_if, owned_times, Climbs, Placed, HubsCount}
use Rattle.kj_model.proofs.Spared.{same_number}
use Rattle.kj_model.specs.Framed.{FreedBy}
use Rattle.kj_model.proofs.Falling.{found_staying}
use Rattle.kj_model.proofs.Members.{in_either, in_one, in_none}
use Rattle.kj_model.proofs.Once.{both_ways, false_by}
use Rattle.kj_model.proofs.Counts.{times_app}
use Rattle.kj_ownership.proofs.Flat.{Goes, live_number}

-- members and counts
out_times_more : (m x : ℕ) (xs : List ℕ) → is_in m (x ∷ xs) ≡ false → (is_in m xs ≡ false → times m xs ≡ 0) → times m (x ∷ xs) ≡ 0
out_times_more m x xs i h = grind (arith, nat_tests)

pub out_times : (m : ℕ) (xs : List ℕ) → is_in m xs ≡ false → times m xs ≡ 0
out_times m [] i = refl
out_times m (x ∷ xs) i = out_times_more m x xs i (out_times m xs)

in_times_more : (m x : ℕ) (xs : List ℕ) → is_in m (x ∷ xs) ≡ true → (is_in m xs ≡ true → 1 ≤ times m xs) → 1 ≤ times m (x ∷ xs)
in_times_more m x xs i h = grind (arith, nat_tests)

pub in_times : (m : ℕ) (xs : List ℕ) → is_in m xs ≡ true → 1 ≤ times m xs
in_times m [] i = absurd (in_none m i)
in_times m (x ∷ xs) i = in_times_more m x xs i (in_times m xs)

-- sums
at_least_more : (f : ℕ → ℕ) (q x k : ℕ) (xs : List ℕ) → is_in q (x ∷ xs) ≡ true → k ≤ f q → (is_in q xs ≡ true → k ≤ total f xs) → k ≤ total f (x ∷ xs)
at_least_more f q x k xs i h ih = elim (in_either q (x ∷ []) xs i) [
  | inl a ↦ let g : k ≤ f x = subst (λ (y : ℕ). k ≤ f y) (sym (in_one q x a)) h in omega (arith, g)
  | inr b ↦ let g = ih b in omega (arith, g)
]

pub at_least : (f : ℕ → ℕ) (q k : ℕ) (xs : List ℕ) → is_in q xs ≡ true → k ≤ f q → k ≤ total f xs
at_least f q k [] i h = absurd (in_none q i)
at_least f q k (x ∷ xs) i h = at_least_more f q x k xs i h (λ j. at_least f q k xs j h)

pub two_of : (f : ℕ → ℕ) (q r : ℕ) (xs : List ℕ) → nat_eq q r ≡ false → is_in q xs ≡ true → is_in r xs ≡ true → 1 ≤ f q → 1 ≤ f r → 2 ≤ total f xs
two_of f q r [] d i j g h = absurd (in_none q i)
two_of f q r (x ∷ xs) d i j g h = elim (in_either q (x ∷ []) xs i) [
  | inl a ↦
      let here = in_one q x a in
      let first : 1 ≤ f x = subst (λ (y : ℕ). 1 ≤ f y) (sym here) g in
      elim (in_either r (x ∷ []) xs j) [
        | inl b ↦ absurd (both_ways (nat_eq q r) (same_eq q r (sym here ∙ in_one r x b)) d)
        | inr b ↦ let rest = at_least f r 1 xs b h in omega (arith, first, rest)
      ]
  | inr a ↦ elim (in_either r (x ∷ []) xs j) [
    | inl b ↦ let first : 1 ≤ f x = subst (λ (y : ℕ). 1 ≤ f y) (sym (in_one r x b)) h in let rest = at_least f q 1 xs a g in omega (arith, first, rest)
    | inr b ↦ let rest = two_of f q r xs d a b g h in omega (arith, rest)
  ]
]
  where
    same_eq : (q r : ℕ) → q ≡ r → nat_eq q r ≡ true
    same_eq q r e = grind (arith, nat_tests)

-- what owns something is live
found_live : (o : Option Form) (p : ℕ) → is_in p (parts_found o) ≡ true → is_some o ≡ true
found_live None p i = absurd (in_none p i)
found_live (Some form) p i = refl

pub owner_live : (q p : ℕ) (nodes : List Entry) → owns q p nodes ≡ true → is_live q nodes ≡ true
owner_live q p nodes own = found_live (form_at q nodes) p own

-- one place for each node
pub one_place : (loose : List ℕ) (w : World) (p q r : ℕ) → Placed loose w → is_live p w.nodes ≡ true → owns q p w.nodes ≡ true → owns r p w.nodes ≡ true → q ≡ r
one_place loose w p q r pl live a b = decide (nat_eq q r) refl
  where
    decide : (d : Bool) → nat_eq q r ≡ d → q ≡ r
    decide true e = sym (same_number q r e)
    decide false e =
        let two = two_of (λ x. times p (parts_at x w.nodes)) q r (numbers w.nodes) e (live_number q w.nodes (owner_live q p w.nodes a)) (live_number r w.nodes (owner_live r p w.nodes b)) (in_times p (parts_at q w.nodes) a) (in_times p (parts_at r w.nodes) b) in
        let one = pl.once p live in
        absurd (too_many (times p loose) (times p (tree_roots w)) (one_if (is_hub_form (form_at p w.nodes))) (owned_times p w.nodes) one two)
      where
        too_many : (a b c d : ℕ) → a + (b + (c + d)) ≡ 1 → 2 ≤ d → ⊥
        too_many a b c d e f = omega (arith, e, f)

-- a node that stands among the loose ones, or as a hub, has no owner
pub unowned : (loose : List ℕ) (w : World) (p q : ℕ) → Placed loose w → is_live p w.nodes ≡ true → 1 ≤ times p loose + (times p (tree_roots w) + one_if (is_hub_form (form_at p w.nodes))) → owns q p w.nodes ≡ false
unowned loose w p q pl live h = false_by (owns q p w.nodes) (λ own.
    let least = at_least (λ x. times p (parts_at x w.nodes)) q 1 (numbers w.nodes) (live_number q w.nodes (owner_live q p w.nodes own)) (in_times p (parts_at q w.nodes) own) in
    let one = pl.once p live in
    too_many (times p loose) (times p (tree_roots w)) (one_if (is_hub_form (form_at p w.nodes))) (owned_times p w.nodes) one least h)
  where
    too_many : (a b c d : ℕ) → a + (b + (c + d)) ≡ 1 → 1 ≤ d → 1 ≤ a + (b + c) → ⊥
    too_many a b c d e f g = omega (arith, e, f, g)

hub_live : (o : Option Form) → is_hub_form o ≡ true → is_some o ≡ true
hub_live None h = absurd (false≢true h)
hub_live (Some form) h = refl

counted : (b : Bool) (a c : ℕ) → b ≡ true → 1 ≤ a + (c + one_if b)
counted true a c e = omega arith
counted false a c e = absurd (false≢true e)

pub hub_unowned : (loose : List ℕ) (w : World) (p q : ℕ) → Placed loose w → is_hub_form (form_at p w.nodes) ≡ true → owns q p w.nodes ≡ false
hub_unowned loose w p q pl h = unowned loose w p q pl (hub_live (form_at p w.nodes) h) (counted (is_hub_form (form_at p w.nodes)) (times p loose) (times p (tree_roots w)) h)

pub loose_unowned : (loose : List ℕ) (w : World) (p q : ℕ) → Placed loose w → is_live p w.nodes ≡ true → is_in p loose ≡ true → owns q p w.nodes ≡ false
loose_unowned loose w p q pl live i = let a = in_times p loose i in unowned loose w p q pl live (omega (arith, a))

times_in : (m : ℕ) (xs : List ℕ) → times m xs ≡ 1 → is_in m xs ≡ true
times_in m xs e = decide (is_in m xs) refl
  where
    no_one : (a : ℕ) → a ≡ 0 → a ≡ 1 → ⊥
    no_one a h k = omega (arith, h, k)

    decide : (b : Bool) → is_in m xs ≡ b → is_in m xs ≡ true
    decide true i = i
    decide false i = absurd (no_one (times m xs) (out_times m xs i) e)

same_one : (n : ℕ) → nat_eq n n ≡ true
same_one n = grind (arith, nat_tests)

pub none_out : (b : Bool) (t : ℕ) → t + cond b 0 0 ≡ t
none_out true t = omega arith
none_out false t = omega arith

pub places_one : (loose out : List ℕ) (w : World) → Placed loose w → HubsCount out [] w → OnePlace w.nodes
places_one loose out w pl hubs = record {
  one = λ p q r. one_place loose w p q r pl;
  hubs = λ p q. hub_unowned loose w p q pl;
  listed = λ b hub content branches at is. times_in b branches (sym (none_out (is_branch_of hub (form_at b w.nodes)) (times b branches)) ∙ hubs.branches hub content false branches is b ∙ ap (λ o. one_if (is_branch_of hub o)) at ∙ ap one_if (same_one hub));
}

-- what stays: the live nodes but those that went, with their parts
none_live : (c : Bool) (out : ℕ → Bool) (n : ℕ) (nodes : List Entry) (o : Option Form) → is_some (none_if c (some_staying out n nodes o)) ≡ true → (c ≡ false) × (is_some o ≡ true)
none_live true out n nodes o h = absurd (false≢true h)
none_live false out n nodes None h = absurd (false≢true h)
none_live false out n nodes (Some form) h = (refl, refl)

pub live_before : (ns : List ℕ) (s t : State) (m : ℕ) → FreedBy ns s t → is_live m t.world.nodes ≡ true → (is_in m ns ≡ false) × (is_live m s.world.nodes ≡ true)
live_before ns s t m f live = none_live (is_in m ns) (λ b. is_in b ns) m s.world.nodes (form_at m s.world.nodes) (sym (ap is_some (f.forms m)) ∙ live)

pub live_after : (ns : List ℕ) (s t : State) (m : ℕ) → FreedBy ns s t → is_in m ns ≡ false → is_live m s.world.nodes ≡ true → is_live m t.world.nodes ≡ true
live_after ns s t m f out live = ap is_some (f.forms m) ∙ stays (is_in m ns) (λ b. is_in b ns) m s.world.nodes (form_at m s.world.nodes) out live
  where
    stays : (c : Bool) (out : ℕ → Bool) (n : ℕ) (nodes : List Entry) (o : Option Form) → c ≡ false → is_some o ≡ true → is_some (none_if c (some_staying out n nodes o)) ≡ true
    stays true out n nodes o e h = absurd (false≢true (sym e))
    stays false out n nodes None e h = h
    stays false out n nodes (Some form) e h = refl

pub parts_after : (ns : List ℕ) (s t : State) (m : ℕ) → FreedBy ns s t → parts_at m t.world.nodes ≡ parts_found (none_if (is_in m ns) (form_at m s.world.nodes))
parts_after ns s t m f = ap parts_found (f.forms m) ∙ found_staying (is_in m ns) (λ b. is_in b ns) m s.world.nodes (form_at m s.world.nodes)

pub parts_stay : (ns : List ℕ) (s t : State) (m : ℕ) → FreedBy ns s t → is_in m ns ≡ false → parts_at m t.world.nodes ≡ parts_at m s.world.nodes
parts_stay ns s t m f out = parts_after ns s t m f ∙ ap (λ b. parts_found (none_if b (form_at m s.world.nodes))) out

-- an owner afterwards is one before, and stays
less_owned : (c : Bool) (p : ℕ) (o : Option Form) → is_in p (parts_found (none_if c o)) ≡ true → (c ≡ false) × (is_in p (parts_found o) ≡ true)
less_owned true p o i = absurd (in_none p i)
less_owned false p o i = (refl, i)

pub owns_before : (ns : List ℕ) (s t : State) (q p : ℕ) → FreedBy ns s t → owns q p t.world.nodes ≡ true → (is_in q ns ≡ false) × (owns q p s.world.nodes ≡ true)
owns_before ns s t q p f own = less_owned (is_in q ns) p (form_at q s.world.nodes) (sym (ap (is_in p) (parts_after ns s t q f)) ∙ own)

-- a hub stays one
pub hub_stays : (c : Bool) (out : ℕ → Bool) (n : ℕ) (nodes : List Entry) (o : Option Form) → c ≡ false → is_hub_form (none_if c (some_staying out n nodes o)) ≡ is_hub_form o
hub_stays true out n nodes o e = absurd (false≢true (sym e))
hub_stays false out n nodes None e = refl
hub_stays false out n nodes (Some (Hub content is_named branches)) e = refl
hub_stays false out n nodes (Some _) e = refl

-- a sum over what stays
total_less_more : (f g : ℕ → ℕ) (x : ℕ) (b : Bool) (xs ys : List ℕ) → (b ≡ false → f x ≡ g x) → (b ≡ true → g x ≡ 0) → total f ys ≡ total g xs → total f (cond (not b) (x ∷ ys) ys) ≡ total g (x ∷ xs)
total_less_more f g x true xs ys a c h = let z = c refl in omega (arith, z, h)
total_less_more f g x false xs ys a c h = let z = a refl in omega (arith, z, h)

pub total_less : (f g : ℕ → ℕ) (ns xs : List ℕ) → ((x : ℕ) → is_in x ns ≡ false → f x ≡ g x) → ((x : ℕ) → is_in x ns ≡ true → g x ≡ 0) → total f (filter (λ x. not (is_in x ns)) xs) ≡ total g xs
total_less f g ns [] a c = refl
total_less f g ns (x ∷ xs) a c = total_less_more f g x (is_in x ns) xs (filter (λ y. not (is_in y ns)) xs) (a x) (c x) (total_less f g ns xs a c)

-- how often a node that stays is owned
pub owned_stays : (ns ts : List ℕ) (path : List ℕ) (s t : State) (m : ℕ) → FreedBy ns s t → Goes s.world path [] ts ns → is_in m ns ≡ false → is_live m s.world.nodes ≡ true → owned_times m t.world.nodes ≡ owned_times m s.world.nodes
owned_stays ns ts path s t m f g out live =
    ap (total (λ q. times m (parts_at q t.world.nodes))) f.frame.numbers
    ∙ total_less (λ q. times m (parts_at q t.world.nodes)) (λ q. times m (parts_at q s.world.nodes)) ns (numbers s.world.nodes)
    (λ q o. ap (times m) (parts_stay ns s t q f o))
    (λ q i. out_times m (parts_at q s.world.nodes) (false_by (owns q m s.world.nodes) (λ own. both_ways (is_in m ns) (g.closed q m i own live) out)))

-- the roots
pub name_roots_total : (m : ℕ) (names : List Named) → times m (name_roots names) ≡ held_total (λ (h : Held). times m (held_roots h)) names
name_roots_total m [] = refl
name_roots_total m (x ∷ xs) = let h = name_roots_total m xs in let a = times_app m (held_roots x.held) (name_roots xs) in omega (arith, a, h)

pub roots_app : (m : ℕ) (a b c d : List ℕ) → times m (((a ++ b) ++ c) ++ d) ≡ times m a + times m b + times m c + times m d
roots_app m a b c d =
    let x = times_app m ((a ++ b) ++ c) d in
    let y = times_app m (a ++ b) c in
    let z = times_app m a b in
    omega (arith, x, y, z)

pub roots_stay : (ns : List ℕ) (s t : State) (m : ℕ) → FreedBy ns s t → NamesApart s.world.names → times m (tree_roots t.world) ≡ times m (tree_roots s.world)
roots_stay ns s t m f apart =
    let same = f.frame.same in
    let a : times m (name_roots t.world.names) ≡ times m (name_roots s.world.names) = name_roots_total m t.world.names ∙ f.frame.held apart (λ (h : Held). times m (held_roots h)) (λ ws. refl) ∙ sym (name_roots_total m s.world.names) in
    let b : times m (awaited_roots t.world.awaited) ≡ times m (awaited_roots s.world.awaited) = ap (λ x. times m (awaited_roots x)) same.awaited in
    let c : times m t.world.left_over ≡ times m s.world.left_over = ap (times m) same.left_over in
    let d : times m t.world.detached ≡ times m s.world.detached = ap (times m) same.detached in
    let x = roots_app m (name_roots t.world.names) (awaited_roots t.world.awaited) t.world.left_over t.world.detached in
    let y = roots_app m (name_roots s.world.names) (awaited_roots s.world.awaited) s.world.left_over s.world.detached in
    omega (arith, a, b, c, d, x, y)

-- climbs of what stays
pub climbs_stay : (ns ts path : List ℕ) (s t : State) (x : ℕ) (ys : List ℕ) → FreedBy ns s t → Goes s.world path [] ts ns → is_in x ns ≡ false → is_live x s.world.nodes ≡ true → Climbs s.world.nodes x ys → Climbs t.world.nodes x ys
climbs_stay ns ts path s t x [] f g out live c = λ q. false_by (owns q x t.world.nodes) (λ own. both_ways (owns q x s.world.nodes) (owns_before ns s t q x f own).1 (c q))
climbs_stay ns ts path s t x (y ∷ ys) f g out live c =
    let off : is_in y ns ≡ false = false_by (is_in y ns) (λ i. both_ways (is_in x ns) (g.closed y x i c.0 live) out) in
    (ap (is_in x) (parts_stay ns s t y f off) ∙ c.0, climbs_stay ns ts path s t y ys f g off (owner_live y x s.world.nodes c.0) c.1)

-- each live node keeps its place
pub placed_stays : (ns ts path more loose : List ℕ) (s t : State) → FreedBy ns s t → Goes s.world path [] ts ns → NamesApart s.world.names → ((m : ℕ) → is_in m ns ≡ false → is_live m s.world.nodes ≡ true → times m more ≡ times m loose) → Placed more s.world → Placed loose t.world
placed_stays ns ts path more loose s t f g apart less pl = record {
  once = λ m live.
      let old = live_before ns s t m f live in
      let a = pl.once m old.1 in
      let b = less m old.0 old.1 in
      let c = roots_stay ns s t m f apart in
      let d : one_if (is_hub_form (form_at m t.world.nodes)) ≡ one_if (is_hub_form (form_at m s.world.nodes)) = ap one_if (ap is_hub_form (f.forms m) ∙ hub_stays (is_in m ns) (λ x. is_in x ns) m s.world.nodes (form_at m s.world.nodes) old.0) in
      let e = owned_stays ns ts path s t m f g old.0 old.1 in
      omega (arith, a, b, c, d, e);
  climbs = λ m live.
      let old = live_before ns s t m f live in
      let c = pl.climbs m old.1 in
      (c.0, climbs_stay ns ts path s t m c.0 f g old.0 old.1 c.1);
}
