-- The path from a node up to a node that nobody owns: it stays over a free that is guarded by a node of it.
use Rattle.std.proofs.Common.{zero, suc, ◌≡◌, ◌⊎◌, inl, inr, ℕ, ◌+◌, ◌<◌, ◌≤◌, List, [], ◌∷◌, length, Bool, true, false, Option, arith, refl, sym, ap, ◌∙◌, subst, ◌||◌, ◌==◌}
use Rattle.std.specs.List.{list_any}
use Rattle.std.proofs.lemmas.Bool.{false≢true, or_parts}
use Rattle.std.proofs.lemmas.Bool.Decides.{nat_tests}
use Rattle.kj_model.specs.Nodes.{Entry, Form, form_at, parts_at, parts_found, is_in, holds}
use Rattle.kj_model.specs.World.{World, State, depth_of}
use Rattle.kj_model.specs.Free.{Guard, Holding, is_guarded, free_to}
use Rattle.kj_model.specs.Trees.{none_if, AreApart}
use Rattle.kj_model.specs.Falling.{is_unnamed_hub, AreDisjoint, without_all, falling}
use Rattle.kj_ownership.specs.Owners.{is_live, owns}
use Rattle.kj_ownership.specs.Standing.{Climbs, Placed, Standing}
use Rattle.kj_model.proofs.Falling.{form_left, node_frees}
use Rattle.kj_model.proofs.Members.{Within, in_either, in_right, in_one, in_self, in_none}
use Rattle.kj_model.proofs.Once.{both_ways, false_by}
use Rattle.kj_ownership.proofs.Flat.{Open, Comes, few_live, node_goes}
use Rattle.kj_ownership.proofs.Stays.{one_place, owner_live, places_one, live_before}

-- a climb is determined by where it begins
no_owner : (nodes : List Entry) (x y : ℕ) → owns y x nodes ≡ true → ((q : ℕ) → owns q x nodes ≡ false) → ⊥
no_owner nodes x y own none = both_ways (owns y x nodes) own (none y)

one_climb : (loose : List ℕ) (w : World) (x : ℕ) (xs ys : List ℕ) → Placed loose w → is_live x w.nodes ≡ true → Climbs w.nodes x xs → Climbs w.nodes x ys → length xs ≡ length ys
one_climb loose w x [] [] pl live c d = refl
one_climb loose w x [] (y ∷ ys) pl live c d = absurd (no_owner w.nodes x y d.0 c)
one_climb loose w x (a ∷ xs) [] pl live c d = absurd (no_owner w.nodes x a c.0 d)
one_climb loose w x (a ∷ xs) (b ∷ ys) pl live c d =
    let same = one_place loose w x a b pl live c.0 d.0 in
    let h = one_climb loose w a xs ys pl (owner_live a x w.nodes c.0) c.1 (subst (λ (q : ℕ). Climbs w.nodes q ys) (sym same) d.1) in
    omega (arith, h)

-- the rest of a climb, from a node on it
pub climb_from : (nodes : List Entry) (x m : ℕ) (ys : List ℕ) → Climbs nodes x ys → is_in m ys ≡ true → (zs : List ℕ) × (Climbs nodes m zs) × (length zs < length ys) × Within (m ∷ zs) ys
climb_from nodes x m [] c i = absurd (in_none m i)
climb_from nodes x m (y ∷ ys) c i = elim (in_either m (y ∷ []) ys i) [
  | inl a ↦ let same = in_one m y a in (ys, subst (λ (q : ℕ). Climbs nodes q ys) same c.1, omega arith, λ k j. subst (λ (q : ℕ). is_in k (q ∷ ys) ≡ true) (sym same) j)
  | inr b ↦ let r = climb_from nodes y m ys c.1 b in let l = r.2 in (r.0, r.1, omega (arith, l), λ k j. in_right k (y ∷ []) ys (r.3 k j))
]

climb_new : (loose : List ℕ) (w : World) (x : ℕ) (ys : List ℕ) → Placed loose w → is_live x w.nodes ≡ true → Climbs w.nodes x ys → is_in x ys ≡ false
climb_new loose w x ys pl live c = false_by (is_in x ys) (λ i.
    let r = climb_from w.nodes x x ys c i in
    let same = one_climb loose w x r.0 ys pl live r.1 c in
    let less = r.2 in
    shorter (length r.0) (length ys) same less)
  where
    shorter : (a b : ℕ) → a ≡ b → a < b → ⊥
    shorter a b e l = omega (arith, e, l)

pub climb_apart : (loose : List ℕ) (w : World) (x : ℕ) (ys : List ℕ) → Placed loose w → is_live x w.nodes ≡ true → Climbs w.nodes x ys → AreApart (x ∷ ys)
climb_apart loose w x [] pl live c = (refl, tt)
climb_apart loose w x (y ∷ ys) pl live c = (climb_new loose w x (y ∷ ys) pl live c, climb_apart loose w y ys pl (owner_live y x w.nodes c.0) c.1)

pub climb_live : (w : World) (x m : ℕ) (ys : List ℕ) → is_live x w.nodes ≡ true → Climbs w.nodes x ys → is_in m (x ∷ ys) ≡ true → is_live m w.nodes ≡ true
climb_live w x m [] live c i = subst (λ (q : ℕ). is_live q w.nodes ≡ true) (in_one m x i) live
climb_live w x m (y ∷ ys) live c i = elim (in_either m (x ∷ []) (y ∷ ys) i) [
  | inl a ↦ subst (λ (q : ℕ). is_live q w.nodes ≡ true) (in_one m x a) live
  | inr b ↦ climb_live w y m ys (owner_live y x w.nodes c.0) c.1 b
]

pub climb_up : (loose : List ℕ) (w : World) (x m q : ℕ) (ys : List ℕ) → Placed loose w → is_live x w.nodes ≡ true → Climbs w.nodes x ys → is_in m (x ∷ ys) ≡ true → owns q m w.nodes ≡ true → is_in q (x ∷ ys) ≡ true
climb_up loose w x m q [] pl live c i own = absurd (no_owner w.nodes m q own (subst (λ (p : ℕ). (r : ℕ) → owns r p w.nodes ≡ false) (in_one m x i) c))
climb_up loose w x m q (y ∷ ys) pl live c i own = elim (in_either m (x ∷ []) (y ∷ ys) i) [
  | inl a ↦ in_right q (x ∷ []) (y ∷ ys) (subst (λ (p : ℕ). is_in p (y ∷ ys) ≡ true) (one_place loose w x y q pl live c.0 (subst (λ (p : ℕ). owns q p w.nodes ≡ true) (sym (in_one m x a)) own)) (in_self y ys))
  | inr b ↦ in_right q (x ∷ []) (y ∷ ys) (climb_up loose w y m q ys pl (owner_live y x w.nodes c.0) c.1 b own)
]

-- what an owner holds
any_at : (f : ℕ → Bool) (p : ℕ) (ps : List ℕ) → is_in p ps ≡ true → f p ≡ true → list_any f ps ≡ true
any_at f p [] i h = absurd (in_none p i)
any_at f p (x ∷ xs) i h = elim (in_either p (x ∷ []) xs i) [
  | inl a ↦ left (f x) (list_any f xs) (subst (λ (y : ℕ). f y ≡ true) (sym (in_one p x a)) h)
  | inr b ↦ right (f x) (list_any f xs) (any_at f p xs b h)
]
  where
    left : (a b : Bool) → a ≡ true → (a || b) ≡ true
    left true b h = refl
    left false b h = absurd (false≢true h)

    right : (a b : Bool) → b ≡ true → (a || b) ≡ true
    right true b h = refl
    right false b h = h

or_true : (a b : Bool) → b ≡ true → (a || b) ≡ true
or_true true b h = refl
or_true false b h = h

holds_up : (k : ℕ) (nodes : List Entry) (n p q : ℕ) → owns q p nodes ≡ true → holds k nodes n p ≡ true → holds (suc k) nodes n q ≡ true
holds_up k nodes n p q own h = or_true (q == n) (list_any (holds k nodes n) (parts_at q nodes)) (any_at (holds k nodes n) p (parts_at q nodes) own h)

any_more : (f g : ℕ → Bool) (ps : List ℕ) → ((p : ℕ) → f p ≡ true → g p ≡ true) → list_any f ps ≡ true → list_any g ps ≡ true
any_more f g [] h i = i
any_more f g (p ∷ ps) h i = either (f p) (list_any f ps) (g p) (list_any g ps) (h p) (any_more f g ps h) i
  where
    either : (a b c d : Bool) → (a ≡ true → c ≡ true) → (b ≡ true → d ≡ true) → (a || b) ≡ true → (c || d) ≡ true
    either true b true d h k i = refl
    either true b false d h k i = absurd (false≢true (h refl))
    either false b true d h k i = refl
    either false b false d h k i = k i

holds_more : (k : ℕ) (nodes : List Entry) (n root : ℕ) → holds k nodes n root ≡ true → holds (suc k) nodes n root ≡ true
holds_more zero nodes n root h = absurd (false≢true h)
holds_more (suc k) nodes n root h = or_both (root == n) (list_any (holds k nodes n) (parts_at root nodes)) (list_any (holds (suc k) nodes n) (parts_at root nodes)) (any_more (holds k nodes n) (holds (suc k) nodes n) (parts_at root nodes) (λ p. holds_more k nodes n p)) h
  where
    or_both : (a b c : Bool) → (b ≡ true → c ≡ true) → (a || b) ≡ true → (a || c) ≡ true
    or_both true b c h i = refl
    or_both false b c h i = h i

step_or_end : (j k : ℕ) → j ≤ suc k → (j ≤ k) ⊎ (j ≡ suc k)
step_or_end j k h = grind arith

pub holds_any : (k j : ℕ) (nodes : List Entry) (n root : ℕ) → j ≤ k → holds j nodes n root ≡ true → holds k nodes n root ≡ true
holds_any zero j nodes n root l h = subst (λ (i : ℕ). holds i nodes n root ≡ true) (none_left j l) h
  where
    none_left : (j : ℕ) → j ≤ 0 → j ≡ 0
    none_left j l = omega (arith, l)
holds_any (suc k) j nodes n root l h = elim (step_or_end j k l) [
  | inl a ↦ holds_more k nodes n root (holds_any k j nodes n root a h)
  | inr b ↦ subst (λ (i : ℕ). holds i nodes n root ≡ true) b h
]

-- each node of a climb holds its beginning, also once other nodes went
pub self_holds : (nodes : List Entry) (n : ℕ) → holds 1 nodes n n ≡ true
self_holds nodes n = grind (arith, nat_tests)

pub climb_holds : (w : World) (gone : List ℕ) (g k x h : ℕ) (ys : List ℕ) → AreDisjoint gone (x ∷ ys) → Climbs w.nodes x ys → is_in h (x ∷ ys) ≡ true → holds k (without_all gone w).nodes g x ≡ true → holds (k + length ys) (without_all gone w).nodes g h ≡ true
climb_holds w gone g k x h [] d c i is = subst (λ (j : ℕ). holds j (without_all gone w).nodes g h ≡ true) (plus_none k) (subst (λ (y : ℕ). holds k (without_all gone w).nodes g y ≡ true) (in_one h x i) is)
  where
    plus_none : (k : ℕ) → k ≡ k + 0
    plus_none k = omega arith
climb_holds w gone g k x h (y ∷ ys) d c i is = elim (in_either h (x ∷ []) (y ∷ ys) i) [
  | inl a ↦ holds_any (k + length (y ∷ ys)) k (without_all gone w).nodes g h (omega arith) (subst (λ (z : ℕ). holds k (without_all gone w).nodes g z ≡ true) (in_one h x a) is)
  | inr b ↦
      let off : AreDisjoint gone (y ∷ ys) = λ m j. (or_parts (x == m) (is_in m (y ∷ ys)) (d m j)).1 in
      let out : is_in y gone ≡ false = false_by (is_in y gone) (λ j. both_ways (is_in y (y ∷ ys)) (in_self y ys) (off y j)) in
      let own : owns y x (without_all gone w).nodes ≡ true = ap (λ (o : Option Form). is_in x (parts_found o)) (form_left y gone w.nodes ∙ ap (λ e. none_if e (form_at y w.nodes)) out) ∙ c.0 in
      let r = climb_holds w gone g (suc k) y h ys off c.1 b (holds_up k (without_all gone w).nodes g x y own is) in
      subst (λ (j : ℕ). holds j (without_all gone w).nodes g h ≡ true) (moved k (length ys)) r
]
  where
    moved : (k l : ℕ) → suc k + l ≡ k + suc l
    moved k l = omega arith

-- a hub on the path is kept for a node of the guard below it
pub record KeptFor (gs : List ℕ) (w : World) (path : List ℕ) (h : ℕ) : Type 0 where
  pub node : ℕ
  pub above : List ℕ
  pub guards : is_in node gs ≡ true
  pub climbs : Climbs w.nodes node above
  pub holds_hub : is_in h (node ∷ above) ≡ true
  pub on : Within (node ∷ above) path

pub kept_holds : (loose out lone gs path : List ℕ) (s : State) (h : ℕ) → Standing loose out lone s → KeptFor gs s.world path h → ((m : ℕ) → is_in m path ≡ true → is_live m s.world.nodes ≡ true) → (gone : List ℕ) → AreDisjoint gone path → is_guarded (Holding gs) h (without_all gone s.world) ≡ true
kept_holds loose out lone gs path s h st k live gone d =
    let w = s.world in
    let off : AreDisjoint gone (k.node ∷ k.above) = λ m i. false_by (is_in m (k.node ∷ k.above)) (λ j. both_ways (is_in m path) (k.on m j) (d m i)) in
    let here = live k.node (k.on k.node (in_self k.node k.above)) in
    let far = climb_holds w gone k.node 1 k.node h k.above off k.climbs k.holds_hub (self_holds (without_all gone w).nodes k.node) in
    let few = few_live w.nodes (k.node ∷ k.above) (climb_apart loose w k.node k.above st.placed here k.climbs) (λ m i. climb_live w k.node m k.above here k.climbs i) in
    let room = st.room in
    any_at (λ n. holds (depth_of w) (without_all gone w).nodes n h) k.node gs k.guards (holds_any (depth_of w) (1 + length k.above) (without_all gone w).nodes k.node h (within (length k.above) (length w.nodes) w.limits.slots few room) far)
  where
    within : (a b c : ℕ) → suc a ≤ b → b ≤ c → 1 + a ≤ c + 1
    within a b c h k = omega (arith, h, k)

-- the path from a node up, where its hubs are kept
pub climb_open : (loose out lone gs : List ℕ) (s : State) (x : ℕ) (ys : List ℕ) → Standing loose out lone s → is_live x s.world.nodes ≡ true → Climbs s.world.nodes x ys → ((h : ℕ) → is_in h (x ∷ ys) ≡ true → is_unnamed_hub (form_at h s.world.nodes) ≡ true → KeptFor gs s.world (x ∷ ys) h) → Open (Holding gs) s.world [] [] (x ∷ ys)
climb_open loose out lone gs s x ys st live c kept =
    let lives = λ (m : ℕ) (i : is_in m (x ∷ ys) ≡ true). climb_live s.world x m ys live c i in
    record {
      up = λ m q. climb_up loose s.world x m q ys st.placed live c;
      lost = λ h i u. inr (kept_holds loose out lone gs (x ∷ ys) s h st (kept h i u) lives);
      way_in = λ m i. absurd (in_none m i);
      apart = climb_apart loose s.world x ys st.placed live c;
      live = lives;
      off = λ m i. absurd (in_none m i);
    }

-- nothing is on an empty path
pub none_open : (guard : Guard) (w : World) → Open guard w [] [] []
none_open guard w = record { up = λ x q i. absurd (in_none x i); lost = λ h i. absurd (in_none h i); way_in = λ m i. i; apart = tt; live = λ m i. absurd (in_none m i); off = λ m i. absurd (in_none m i) }

-- the nodes of the path stay, and the root goes
pub path_stays : (guard : Guard) (k n : ℕ) (more out path : List ℕ) (s : State) → Standing more out [] s → Open guard s.world [] [] path → (is_live n s.world.nodes ≡ true → Comes guard s.world [] path n) → length s.world.nodes < k → (m : ℕ) → is_in m path ≡ true → is_in m (falling guard s.world k [] [] n) ≡ false
path_stays guard k n more out path s st opens come fuel m i =
    let g = node_goes guard s.world k (places_one more out s.world st.placed st.hubs) [] [] path n opens come (omega (arith, fuel)) in
    false_by (is_in m (falling guard s.world k [] [] n)) (λ j. both_ways (is_in m path) i (g.new m j))

pub root_goes : (guard : Guard) (k n : ℕ) (more out path : List ℕ) (s : State) → Standing more out [] s → Open guard s.world [] [] path → (is_live n s.world.nodes ≡ true → Comes guard s.world [] path n) → length s.world.nodes < k → is_live n (free_to guard k n s).world.nodes ≡ false
root_goes guard k n more out path s st opens come fuel =
    let g = node_goes guard s.world k (places_one more out s.world st.placed st.hubs) [] [] path n opens come (omega (arith, fuel)) in
    let f = node_frees guard k n s in
    false_by (is_live n (free_to guard k n s).world.nodes) (λ live.
    let old = live_before (falling guard s.world k [] [] n) s (free_to guard k n s) n f live in
    both_ways (is_in n (falling guard s.world k [] [] n)) (g.took n (in_self n []) old.1) old.0)
