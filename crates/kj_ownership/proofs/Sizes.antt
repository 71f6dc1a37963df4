-- How many nodes live, by the trees of the roots.
use Rattle.std.proofs.Common.{zero, suc, ◌≡◌, ◌⊎◌, inl, inr, ℕ, ◌+◌, ◌*◌, ◌≤◌, List, [], ◌∷◌, ◌++◌, length, drop, Bool, true, false, cond, Option, None, Some, arith, refl, sym, ap, ◌∙◌, subst, ◌==◌}
use Rattle.std.specs.Prelude.{nat_eq, is_some, flat_map}
use Rattle.std.proofs.lemmas.Bool.{false≢true}
use Rattle.std.proofs.lemmas.Bool.Decides.{nat_tests}
use Rattle.kj_model.specs.Nodes.{Entry, Form, form_at, parts_of, parts_at, parts_found, is_in}
use Rattle.kj_model.specs.Changes.{frees_in}
use Rattle.kj_model.specs.World.{World, State, depth_of}
use Rattle.kj_model.specs.Calls.{close, hubs_of}
use Rattle.kj_model.specs.Trees.{tree_numbers, AreApart}
use Rattle.kj_model.specs.Owned.{numbers, tree_roots}
use Rattle.kj_ownership.specs.Owners.{is_live, owns, is_hub_form}
use Rattle.kj_model.specs.Framed.{times}
use Rattle.kj_ownership.specs.Standing.{one_if, owned_times, Climbs, Owned}
use Rattle.kj_model.proofs.Members.{in_either, in_left, in_right, in_one, in_self, in_none, tree_of, tree_more}
use Rattle.kj_model.proofs.Once.{false_by}
use Rattle.kj_ownership.proofs.Flat.{few, few_live}
use Rattle.kj_ownership.proofs.Moves.{number_live}
use Rattle.kj_ownership.proofs.Stays.{owner_live, out_times, in_times}
use Rattle.kj_ownership.proofs.Climb.{climb_apart, climb_live}
use Rattle.kj_ownership.proofs.Sides.{numbers_apart}
use Rattle.kj_ownership.proofs.Closing.{hubs_listed, total_none}
use Rattle.kj_ownership.proofs.Cancels.{close_answers}

in_flat : (f : ℕ → List ℕ) (ps : List ℕ) (p m : ℕ) → is_in p ps ≡ true → is_in m (f p) ≡ true → is_in m (flat_map f ps) ≡ true
in_flat f [] p m i h = absurd (in_none p i)
in_flat f (x ∷ xs) p m i h = elim (in_either p (x ∷ []) xs i) [
  | inl a ↦ in_left m (f x) (flat_map f xs) (subst (λ (y : ℕ). is_in m (f y) ≡ true) (sym (in_one p x a)) h)
  | inr b ↦ in_right m (f x) (flat_map f xs) (in_flat f xs p m b h)
]

live_form : (o : Option Form) → is_some o ≡ true → (f : Form) × (o ≡ Some f)
live_form None l = absurd (false≢true l)
live_form (Some f) l = (f, refl)

-- an owner's tree has what its part's tree has
tree_up : (k : ℕ) (nodes : List Entry) (q p m : ℕ) → owns q p nodes ≡ true → is_in m (tree_numbers k nodes p) ≡ true → is_in m (tree_numbers (suc k) nodes q) ≡ true
tree_up k nodes q p m own h =
    let f = live_form (form_at q nodes) (owner_live q p nodes own) in
    let i : is_in p (parts_of f.0) ≡ true = sym (ap (λ (o : Option Form). is_in p (parts_found o)) f.1) ∙ own in
    ap (is_in m) (tree_of k nodes q f.0 f.1) ∙ in_left m (flat_map (tree_numbers k nodes) (parts_of f.0)) (q ∷ []) (in_flat (tree_numbers k nodes) (parts_of f.0) p m i h)

tree_self : (nodes : List Entry) (n : ℕ) → is_live n nodes ≡ true → is_in n (tree_numbers 1 nodes n) ≡ true
tree_self nodes n live = let f = live_form (form_at n nodes) live in ap (is_in n) (tree_of 0 nodes n f.0 f.1) ∙ in_right n (flat_map (tree_numbers 0 nodes) (parts_of f.0)) (n ∷ []) (in_self n [])

tree_any : (k j : ℕ) (nodes : List Entry) (n m : ℕ) → j ≤ k → is_in m (tree_numbers j nodes n) ≡ true → is_in m (tree_numbers k nodes n) ≡ true
tree_any zero j nodes n m l h = subst (λ (i : ℕ). is_in m (tree_numbers i nodes n) ≡ true) (none_left j l) h
  where
    none_left : (j : ℕ) → j ≤ 0 → j ≡ 0
    none_left j l = omega (arith, l)
tree_any (suc k) j nodes n m l h = elim (step_or_end j k l) [
  | inl a ↦ tree_more k nodes n m (tree_any k j nodes n m a h)
  | inr b ↦ subst (λ (i : ℕ). is_in m (tree_numbers i nodes n) ≡ true) b h
]
  where
    step_or_end : (j k : ℕ) → j ≤ suc k → (j ≤ k) ⊎ (j ≡ suc k)
    step_or_end j k h = grind arith

-- the top of a climb has the node in its tree
pub top_holds : (w : World) (m x k : ℕ) (ys : List ℕ) → is_live x w.nodes ≡ true → Climbs w.nodes x ys → is_in m (tree_numbers k w.nodes x) ≡ true → (r : ℕ) × (is_live r w.nodes ≡ true) × ((q : ℕ) → owns q r w.nodes ≡ false) × (is_in m (tree_numbers (k + length ys) w.nodes r) ≡ true)
top_holds w m x k [] live c h = (x, live, c, tree_any (k + 0) k w.nodes x m (omega arith) h)
top_holds w m x k (y ∷ ys) live c h =
    let t = top_holds w m y (suc k) ys (owner_live y x w.nodes c.0) c.1 (tree_up k w.nodes y x m c.0 h) in
    (t.0, t.1, t.2, tree_any (k + length (y ∷ ys)) (suc k + length ys) w.nodes t.0 m (omega arith) t.3)

-- all roots: of trees, and hubs
abbrev pub all_roots : World → List ℕ
all_roots w = tree_roots w ++ hubs_of w.nodes

pub in_a_tree : (s : State) (m : ℕ) → Owned s → is_live m s.world.nodes ≡ true → is_in m (flat_map (tree_numbers (depth_of s.world) s.world.nodes) (all_roots s.world)) ≡ true
in_a_tree s m o live =
    let w = s.world in
    let c = o.placed.climbs m live in
    let t = top_holds w m m 1 c.0 live c.1 (tree_self w.nodes m live) in
    let short = few_live w.nodes (m ∷ c.0) (climb_apart [] w m c.0 o.placed live c.1) (λ x i. climb_live w m x c.0 live c.1 i) in
    let room = o.room in
    let none : owned_times t.0 w.nodes ≡ 0 = total_none (λ q. times t.0 (parts_at q w.nodes)) (numbers w.nodes) (λ q. out_times t.0 (parts_at q w.nodes) (t.2 q)) in
    in_flat (tree_numbers (depth_of w) w.nodes) (all_roots w) t.0 m (root_in w t.0 (o.placed.once t.0 t.1) none) (tree_any (depth_of w) (1 + length c.0) w.nodes t.0 m (bound (length c.0) (length w.nodes) w.limits.slots short room) t.3)
  where
    bound : (a b c : ℕ) → suc a ≤ b → b ≤ c → 1 + a ≤ c + 1
    bound a b c h k = omega (arith, h, k)

    root_in : (w : World) (r : ℕ) → 0 + (times r (tree_roots w) + (one_if (is_hub_form (form_at r w.nodes)) + owned_times r w.nodes)) ≡ 1 → owned_times r w.nodes ≡ 0 → is_in r (all_roots w) ≡ true
    root_in w r one none = decide (is_in r (tree_roots w)) (is_hub_form (form_at r w.nodes)) refl refl
      where
        none_left : (a b c : ℕ) → 0 + (a + (b + c)) ≡ 1 → c ≡ 0 → a ≡ 0 → b ≡ 0 → ⊥
        none_left a b c e f g h = omega (arith, e, f, g, h)

        decide : (a b : Bool) → is_in r (tree_roots w) ≡ a → is_hub_form (form_at r w.nodes) ≡ b → is_in r (all_roots w) ≡ true
        decide true b i h = in_left r (tree_roots w) (hubs_of w.nodes) i
        decide false true i h = in_right r (tree_roots w) (hubs_of w.nodes) (hubs_listed r w.nodes h)
        decide false false i h = absurd (none_left (times r (tree_roots w)) (one_if (is_hub_form (form_at r w.nodes))) (owned_times r w.nodes) one none (out_times r (tree_roots w) i) (ap one_if h))

-- no more nodes live than the trees of the roots have
apart_numbers : (xs : List ℕ) → ((m : ℕ) → times m xs ≤ 1) → AreApart xs
apart_numbers [] h = tt
apart_numbers (x ∷ xs) h = (false_by (is_in x xs) (λ i. two (times x xs) (in_times x xs i) (first x xs (h x))), apart_numbers xs (λ m. (let a = h m in omega (arith, a))))
  where
    two : (t : ℕ) → 1 ≤ t → t ≡ 0 → ⊥
    two t a b = omega (arith, a, b)

    first : (x : ℕ) (xs : List ℕ) → cond (x == x) 1 0 + times x xs ≤ 1 → times x xs ≡ 0
    first x xs h = (let s : nat_eq x x ≡ true = grind (arith, nat_tests) in grind (arith, nat_tests))

pub live_are_few : (s : State) → Owned s → length (numbers s.world.nodes) ≤ length (flat_map (tree_numbers (depth_of s.world) s.world.nodes) (all_roots s.world))
live_are_few s o = few (numbers s.world.nodes) (flat_map (tree_numbers (depth_of s.world) s.world.nodes) (all_roots s.world))
    (apart_numbers (numbers s.world.nodes) (numbers_apart s o.recorded))
    (λ m i. in_a_tree s m o (number_live m s.world.nodes i))

-- the closing frees no more nodes than there are slots
pub close_few : (s : State) → Owned s → s.world.awaited ≡ None → length (frees_in (drop (length s.past) (close s).past)) ≤ s.world.limits.slots
close_few s o waits =
    let ns = frees_in (drop (length s.past) (close s).past) in
    let times_is = close_answers s o waits in
    let l = few_live s.world.nodes ns
    (apart_numbers ns (λ m. subst (λ (k : ℕ). k ≤ 1) (sym (times_is m)) (numbers_apart s o.recorded m)))
    (λ m i. number_live m s.world.nodes (among m ns (numbers s.world.nodes) (is_in m (numbers s.world.nodes)) refl (times_is m) i)) in
    let room = o.room in
    omega (arith, l, room)
  where
    none : (a b : ℕ) → 1 ≤ a → a ≡ b → b ≡ 0 → ⊥
    none a b x y z = omega (arith, x, y, z)

    among : (m : ℕ) (xs ys : List ℕ) (b : Bool) → is_in m ys ≡ b → times m xs ≡ times m ys → is_in m xs ≡ true → is_in m ys ≡ true
    among m xs ys true e same i = e
    among m xs ys false e same i = absurd (none (times m xs) (times m ys) (in_times m xs i) same (out_times m ys e))

-- each tree has at most k nodes: a host's bound
length_app : (xs ys : List ℕ) → length (xs ++ ys) ≡ length xs + length ys
length_app [] ys = omega arith
length_app (x ∷ xs) ys = let h = length_app xs ys in omega (arith, h)

pub trees_bound : (f : ℕ → List ℕ) (k : ℕ) (rs : List ℕ) → ((r : ℕ) → is_in r rs ≡ true → length (f r) ≤ k) → length (flat_map f rs) ≤ length rs * k
trees_bound f k [] h = omega arith
trees_bound f k (r ∷ rs) h =
    let a = h r (in_self r rs) in
    let b = trees_bound f k rs (λ q i. h q (in_right q (r ∷ []) rs i)) in
    let c = length_app (f r) (flat_map f rs) in
    grind (arith)
