-- In an owned world the trees of the roots stand apart.
use Rattle.std.proofs.Common.{zero, suc, ◌≡◌, ◌⊎◌, inl, inr, ℕ, ◌<◌, ◌≤◌, List, [], ◌∷◌, ◌++◌, Bool, true, false, not, Option, None, Some, arith, refl, sym, ap, ◌∙◌, subst, ◌&&◌, ◌==◌, length}
use Rattle.std.specs.Prelude.{flat_map, nat_eq, nat_lt}
use Rattle.std.specs.List.{list_all, list_any}
use Rattle.std.proofs.lemmas.Grind.{flat_map-append}
use Rattle.std.proofs.lemmas.Bool.{false≢true, and_parts}
use Rattle.std.proofs.lemmas.Bool.Decides.{nat_tests}
use Rattle.kj_model.specs.Nodes.{Entry, Form, Content, Branch, Hub, form_at, is_in}
use Rattle.kj_model.specs.World.{World, State, Named, depth_of}
use Rattle.kj_model.specs.Trees.{live_parts, over_parts, tree_numbers, AreApart}
use Rattle.kj_model.specs.Owned.{tree_roots, hub_roots, hub_roots_form, roots, standing, branch_to, branches_to, if_to, numbers, is_hub_name}
use Rattle.kj_model.specs.OwnedTest.{are_apart, are_same, are_alike, has_references, stands_once, is_within_bound, has_queue, is_told_once, is_in_order, is_owned}
use Rattle.kj_model.specs.Falling.{is_unnamed_hub, AreDisjoint, StandApart}
use Rattle.kj_model.proofs.Freed.{apart_left, apart_right, apart_out}
use Rattle.kj_model.proofs.Spared.{no_form, same_number}
use Rattle.kj_model.proofs.Members.{Within, in_either, in_left, in_right, in_one, in_self, in_none, tree_more, more_all}
use Rattle.kj_model.proofs.Once.{both_ways, false_by, apart_join}
use Rattle.kj_model.proofs.Falling.{self}
use Rattle.kj_model.proofs.Ordered.{out_disjoint}
use Rattle.kj_model.proofs.Deep.{same_from, step_or_end}

-- the tests
and_left : (a b : Bool) → (a && b) ≡ true → a ≡ true
and_left a b h = (and_parts a b h).0

and_right : (a b : Bool) → (a && b) ≡ true → b ≡ true
and_right a b h = (and_parts a b h).1

not_true : (b : Bool) → not b ≡ true → b ≡ false
not_true true h = absurd (false≢true h)
not_true false h = refl

apart_test : (ns : List ℕ) → are_apart ns ≡ true → AreApart ns
apart_test [] h = tt
apart_test (n ∷ ns) h = let p = and_parts (not (is_in n ns)) (are_apart ns) h in (not_true (is_in n ns) p.0, apart_test ns p.1)

same_test : (ms ns : List ℕ) → are_same ms ns ≡ true → ms ≡ ns
same_test [] [] h = refl
same_test (m ∷ ms) [] h = absurd (false≢true h)
same_test [] (n ∷ ns) h = absurd (false≢true h)
same_test (m ∷ ms) (n ∷ ns) h = let p = and_parts (m == n) (are_same ms ns) h in ap (λ x. x ∷ ms) (sym (same_number m n p.0)) ∙ ap (λ xs. n ∷ xs) (same_test ms ns p.1)

all_at : (p : ℕ → Bool) (xs : List ℕ) (m : ℕ) → list_all p xs ≡ true → is_in m xs ≡ true → p m ≡ true
all_at p [] m h i = absurd (in_none m i)
all_at p (x ∷ xs) m h i = let q = and_parts (p x) (list_all p xs) h in elim (in_either m (x ∷ []) xs i) [ inl a ↦ subst (λ (y : ℕ). p y ≡ true) (in_one m x a) q.0 | inr b ↦ all_at p xs m q.1 b ]

-- a form that is found
at_first : (n : ℕ) (e : Entry) (es : List Entry) → nat_eq e.number n ≡ true → form_at n (e ∷ es) ≡ Some e.form
at_first n e es h = grind (arith, nat_tests)

at_rest : (n : ℕ) (e : Entry) (es : List Entry) → nat_eq e.number n ≡ false → form_at n (e ∷ es) ≡ form_at n es
at_rest n e es h = grind (arith, nat_tests)

form_eq : (a b : Form) → ◌≡◌ {A = Option Form} (Some a) (Some b) → a ≡ b
form_eq a b e = cc

passes_more : (b : Bool) (p : ℕ → Form → Bool) (n : ℕ) (form : Form) (e : Entry) (es : List Entry) → nat_eq e.number n ≡ b → (form_at n es ≡ Some form → p n form ≡ true) → p e.number e.form ≡ true → form_at n (e ∷ es) ≡ Some form → p n form ≡ true
passes_more true p n form e es d more here at = subst (λ (x : ℕ). p x form ≡ true) (sym (same_number e.number n d)) (subst (λ (f : Form). p e.number f ≡ true) (form_eq e.form form (sym (at_first n e es d) ∙ at)) here)
passes_more false p n form e es d more here at = more (sym (at_rest n e es d) ∙ at)

form_passes : (p : ℕ → Form → Bool) (nodes : List Entry) (n : ℕ) (form : Form) → list_all (λ (e : Entry). p e.number e.form) nodes ≡ true → form_at n nodes ≡ Some form → p n form ≡ true
form_passes p [] n form h at = absurd (no_form form at)
form_passes p (e ∷ es) n form h at =
    let q = and_parts (p e.number e.form) (list_all (λ (x : Entry). p x.number x.form) es) h in
    passes_more (nat_eq e.number n) p n form e es refl (form_passes p es n form q.1) q.0 at

-- a node that is found is where its form puts it
form_listed : (put : Form → ℕ → List ℕ) (nodes : List Entry) (n : ℕ) (form : Form) → is_in n (put form n) ≡ true → form_at n nodes ≡ Some form → is_in n (flat_map (λ (e : Entry). put e.form e.number) nodes) ≡ true
form_listed put [] n form i at = absurd (no_form form at)
form_listed put (e ∷ es) n form i at = listed_more (nat_eq e.number n) put n form e es refl i (form_listed put es n form i) at
  where
    listed_more : (b : Bool) (put : Form → ℕ → List ℕ) (n : ℕ) (form : Form) (e : Entry) (es : List Entry) → nat_eq e.number n ≡ b → is_in n (put form n) ≡ true → (form_at n es ≡ Some form → is_in n (flat_map (λ (x : Entry). put x.form x.number) es) ≡ true) → form_at n (e ∷ es) ≡ Some form → is_in n (flat_map (λ (x : Entry). put x.form x.number) (e ∷ es)) ≡ true
    listed_more true put n form e es d i more at =
        in_left n (put e.form e.number) (flat_map (λ (x : Entry). put x.form x.number) es)
        (subst (λ (x : ℕ). is_in n (put e.form x) ≡ true) (same_number e.number n d) (subst (λ (f : Form). is_in n (put f n) ≡ true) (sym (form_eq e.form form (sym (at_first n e es d) ∙ at))) i))
    listed_more false put n form e es d i more at = in_right n (put e.form e.number) (flat_map (λ (x : Entry). put x.form x.number) es) (more (sym (at_rest n e es d) ∙ at))

hub_listed : (o : Option Form) (nodes : List Entry) (hub : ℕ) → form_at hub nodes ≡ o → is_unnamed_hub o ≡ true → is_in hub (hub_roots nodes) ≡ true
hub_listed None nodes hub at u = absurd (false≢true u)
hub_listed (Some (Hub content false bs)) nodes hub at u = form_listed hub_roots_form nodes hub (Hub content false bs) (in_self hub []) at
hub_listed (Some (Hub content true bs)) nodes hub at u = absurd (false≢true u)
hub_listed (Some _) nodes hub at u = absurd (false≢true u)

branch_listed : (b hub : ℕ) (nodes : List Entry) → form_at b nodes ≡ Some (Branch hub) → is_in b (branches_to hub nodes) ≡ true
branch_listed b hub nodes at = form_listed (branch_to hub) nodes b (Branch hub) (ap (λ t. is_in b (if_to t b)) (self hub) ∙ in_self b []) at

-- the trees of several roots
in_flat : (f : ℕ → List ℕ) (rs : List ℕ) (r m : ℕ) → is_in r rs ≡ true → is_in m (f r) ≡ true → is_in m (flat_map f rs) ≡ true
in_flat f [] r m i h = absurd (in_none r i)
in_flat f (x ∷ xs) r m i h = elim (in_either r (x ∷ []) xs i) [
  | inl a ↦ in_left m (f x) (flat_map f xs) (subst (λ (y : ℕ). is_in m (f y) ≡ true) (sym (in_one r x a)) h)
  | inr b ↦ in_right m (f x) (flat_map f xs) (in_flat f xs r m b h)
]

root_apart : (f : ℕ → List ℕ) (rs : List ℕ) (r : ℕ) → AreApart (flat_map f rs) → is_in r rs ≡ true → AreApart (f r)
root_apart f [] r a i = absurd (in_none r i)
root_apart f (x ∷ xs) r a i = elim (in_either r (x ∷ []) xs i) [
  | inl b ↦ subst (λ (y : ℕ). AreApart (f y)) (in_one r x b) (apart_left (f x) (flat_map f xs) a)
  | inr c ↦ root_apart f xs r (apart_right (f x) (flat_map f xs) a) c
]

roots_apart : (f : ℕ → List ℕ) (rs : List ℕ) (r s : ℕ) → AreApart (flat_map f rs) → is_in r rs ≡ true → is_in s rs ≡ true → (r == s) ≡ false → AreDisjoint (f r) (f s)
roots_apart f [] r s a i j d = absurd (in_none r i)
roots_apart f (x ∷ xs) r s a i j d =
    let out : AreDisjoint (flat_map f xs) (f x) = out_disjoint (flat_map f xs) (f x) (apart_out (f x) (flat_map f xs) a) in
    elim (in_either r (x ∷ []) xs i) [
      | inl b ↦ elim (in_either s (x ∷ []) xs j) [
        | inl c ↦ absurd (both_ways (r == s) (subst (λ (y : ℕ). (r == y) ≡ true) (sym (in_one r x b) ∙ in_one s x c) (self r)) d)
        | inr c ↦ subst (λ (y : ℕ). AreDisjoint (f y) (f s)) (in_one r x b) (λ m h. false_by (is_in m (f s)) (λ t. both_ways (is_in m (f x)) h (out m (in_flat f xs s m c t))))
      ]
      | inr b ↦ elim (in_either s (x ∷ []) xs j) [
        | inl c ↦ subst (λ (y : ℕ). AreDisjoint (f r) (f y)) (in_one s x c) (λ m h. out m (in_flat f xs r m b h))
        | inr c ↦ roots_apart f xs r s (apart_right (f x) (flat_map f xs) a) b c d
      ]
    ]

-- any bound
any_within : (k d n : ℕ) (nodes : List Entry) → k ≤ d → Within (tree_numbers k nodes n) (tree_numbers d nodes n)
any_within k zero n nodes h = subst (λ (j : ℕ). Within (tree_numbers k nodes n) (tree_numbers j nodes n)) (none_below k h) (λ m i. i)
  where
    none_below : (k : ℕ) → k ≤ 0 → k ≡ 0
    none_below k h = omega (arith, h)
any_within k (suc d) n nodes h = elim (step_or_end k d h) [
  | inl a ↦ λ m i. tree_more d nodes n m (any_within k d n nodes a m i)
  | inr b ↦ subst (λ (j : ℕ). Within (tree_numbers k nodes n) (tree_numbers j nodes n)) b (λ m i. i)
]

less_all : (k : ℕ) (nodes : List Entry) (ps : List ℕ) → ((n : ℕ) → AreApart (tree_numbers (suc k) nodes n) → AreApart (tree_numbers k nodes n)) → AreApart (flat_map (tree_numbers (suc k) nodes) ps) → AreApart (flat_map (tree_numbers k nodes) ps)
less_all k nodes [] less a = tt
less_all k nodes (p ∷ ps) less a =
    let first = tree_numbers (suc k) nodes p in
    let rest = flat_map (tree_numbers (suc k) nodes) ps in
    let out = out_disjoint rest first (apart_out first rest a) in
    apart_join (tree_numbers k nodes p) (flat_map (tree_numbers k nodes) ps) (less p (apart_left first rest a)) (less_all k nodes ps less (apart_right first rest a))
    (λ m i. false_by (is_in m (tree_numbers k nodes p)) (λ h. both_ways (is_in m first) (tree_more k nodes p m h) (out m (more_all k nodes ps (tree_more k nodes) m i))))

less_over : (k : ℕ) (nodes : List Entry) (n : ℕ) (o : Option (List ℕ)) → ((p : ℕ) → AreApart (tree_numbers (suc k) nodes p) → AreApart (tree_numbers k nodes p)) → AreApart (over_parts (tree_numbers (suc k) nodes) n o) → AreApart (over_parts (tree_numbers k nodes) n o)
less_over k nodes n None less a = a
less_over k nodes n (Some ps) less a =
    let more = flat_map (tree_numbers (suc k) nodes) ps in
    apart_join (flat_map (tree_numbers k nodes) ps) (n ∷ []) (less_all k nodes ps less (apart_left more (n ∷ []) a)) (apart_right more (n ∷ []) a)
    (λ m i. false_by (is_in m (flat_map (tree_numbers k nodes) ps)) (λ h. both_ways (is_in m more) (more_all k nodes ps (tree_more k nodes) m h) (out_disjoint (n ∷ []) more (apart_out more (n ∷ []) a) m i)))

less_apart : (k : ℕ) (nodes : List Entry) (n : ℕ) → AreApart (tree_numbers (suc k) nodes n) → AreApart (tree_numbers k nodes n)
unfolding tree_numbers
less_apart zero nodes n a = tt
less_apart (suc k) nodes n a = less_over k nodes n (live_parts n nodes) (less_apart k nodes) a

below_apart : (k d n : ℕ) (nodes : List Entry) → k ≤ d → AreApart (tree_numbers d nodes n) → AreApart (tree_numbers k nodes n)
below_apart k zero n nodes h a = subst (λ (j : ℕ). AreApart (tree_numbers j nodes n)) (sym (none_below k h)) a
  where
    none_below : (k : ℕ) → k ≤ 0 → k ≡ 0
    none_below k h = omega (arith, h)
below_apart k (suc d) n nodes h a = elim (step_or_end k d h) [
  | inl b ↦ below_apart k d n nodes b (less_apart d nodes n a)
  | inr b ↦ subst (λ (j : ℕ). AreApart (tree_numbers j nodes n)) (sym b) a
]

order : (k d : ℕ) → (k ≤ d) ⊎ (d ≤ k)
order k d = grind arith

-- what one bound reads whole, any other reads within
read_within : (d n : ℕ) (nodes : List Entry) → length (tree_numbers d nodes n) < d → (k : ℕ) → Within (tree_numbers k nodes n) (tree_numbers d nodes n)
read_within d n nodes h k = elim (order k d) [
  | inl a ↦ any_within k d n nodes a
  | inr b ↦ λ m i. subst (λ (xs : List ℕ). is_in m xs ≡ true) (same_from k d n nodes b h) i
]

read_apart : (d n : ℕ) (nodes : List Entry) → length (tree_numbers d nodes n) < d → AreApart (tree_numbers d nodes n) → (k : ℕ) → AreApart (tree_numbers k nodes n)
read_apart d n nodes h a k = elim (order k d) [
  | inl b ↦ below_apart k d n nodes b a
  | inr b ↦ subst AreApart (sym (same_from k d n nodes b h)) a
]

narrowed : (xs ys us vs : List ℕ) → Within us xs → Within vs ys → AreDisjoint xs ys → AreDisjoint us vs
narrowed xs ys us vs f g d m i = false_by (is_in m vs) (λ h. both_ways (is_in m ys) (g m h) (d m (f m i)))

less_than : (a b : ℕ) → nat_lt a b ≡ true → a < b
less_than a b h = grind (arith, nat_tests)

within_bound : (w : World) (n : ℕ) → is_within_bound w ≡ true → is_in n (roots w) ≡ true → length (tree_numbers (depth_of w) w.nodes n) < depth_of w
within_bound w n h i = less_than (length (tree_numbers (depth_of w) w.nodes n)) (depth_of w) (all_at (λ m. nat_lt (length (tree_numbers (depth_of w) w.nodes m)) (depth_of w)) (roots w) n h i)

by_references : (w : World) (b hub : ℕ) (content : Content) (branches : List ℕ) → list_all (λ (e : Entry). has_references w e.number e.form) w.nodes ≡ true → form_at b w.nodes ≡ Some (Branch hub) → form_at hub w.nodes ≡ Some (Hub content false branches) → is_in b branches ≡ true
by_references w b hub content branches h at is =
    let same = and_right (are_alike false (list_any (λ (x : Named). is_hub_name hub x.held) w.names)) (are_same branches (branches_to hub w.nodes)) (form_passes (has_references w) w.nodes hub (Hub content false branches) h is) in
    ap (is_in b) (same_test branches (branches_to hub w.nodes) same) ∙ branch_listed b hub w.nodes at

apart_by : (w : World) (n : ℕ) → AreApart (standing w) → is_within_bound w ≡ true → list_all (λ (e : Entry). has_references w e.number e.form) w.nodes ≡ true → is_in n (tree_roots w) ≡ true → StandApart n w.nodes
apart_by w n a h refs i =
    let d = depth_of w in
    let f = tree_numbers d w.nodes in
    let trees = tree_roots w in
    let hubs = hub_roots w.nodes in
    let split : AreApart (flat_map f trees ++ flat_map f hubs) = subst AreApart (flat_map-append f trees hubs) a in
    let hub_in = λ (hub : ℕ) (u : is_unnamed_hub (form_at hub w.nodes) ≡ true). hub_listed (form_at hub w.nodes) w.nodes hub refl u in
    let short = within_bound w n h (in_left n trees hubs i) in
    let hub_short = λ (hub : ℕ) (u : is_unnamed_hub (form_at hub w.nodes) ≡ true). within_bound w hub h (in_right hub trees hubs (hub_in hub u)) in
    record {
      tree = read_apart d n w.nodes short (root_apart f trees n (apart_left (flat_map f trees) (flat_map f hubs) split) i);
      hubs = λ k hub u. read_apart d hub w.nodes (hub_short hub u) (root_apart f hubs hub (apart_right (flat_map f trees) (flat_map f hubs) split) (hub_in hub u)) k;
      elsewhere = λ j k hub u. narrowed (f hub) (f n) (tree_numbers j w.nodes hub) (tree_numbers k w.nodes n) (read_within d hub w.nodes (hub_short hub u) j) (read_within d n w.nodes short k)
          (narrowed (flat_map f hubs) (flat_map f trees) (f hub) (f n) (λ m x. in_flat f hubs hub m (hub_in hub u) x) (λ m x. in_flat f trees n m i x) (out_disjoint (flat_map f hubs) (flat_map f trees) (apart_out (flat_map f trees) (flat_map f hubs) split)));
      others = λ j k hub other u v e. narrowed (f hub) (f other) (tree_numbers j w.nodes hub) (tree_numbers k w.nodes other) (read_within d hub w.nodes (hub_short hub u) j) (read_within d other w.nodes (hub_short other v) k)
          (roots_apart f hubs hub other (apart_right (flat_map f trees) (flat_map f hubs) split) (hub_in hub u) (hub_in other v) e);
      listed = λ b hub content branches at is. by_references w b hub content branches refs at is;
    }

-- the law
pub stand_apart : (n : ℕ) (s : State) → is_owned s ≡ true → is_in n (tree_roots s.world) ≡ true → StandApart n s.world.nodes
stand_apart n s h i =
    let w = s.world in
    let once = stands_once w in
    let bound = is_within_bound w in
    let refs = list_all (λ (e : Entry). has_references w e.number e.form) w.nodes in
    let four = and_left ((((once && bound) && refs) && has_queue w) && is_told_once s) (is_in_order s.past) h in
    let three = and_left (((once && bound) && refs) && has_queue w) (is_told_once s) four in
    let two = and_left ((once && bound) && refs) (has_queue w) three in
    let one = and_left (once && bound) refs two in
    let nodes = and_left once bound one in
    let apart = are_apart (standing w) in
    let forth = list_all (λ m. is_in m (numbers w.nodes)) (standing w) in
    let back = list_all (λ m. is_in m (standing w)) (numbers w.nodes) in
    apart_by w n (apart_test (standing w) (and_left apart forth (and_left (apart && forth) back nodes))) (and_right once bound one) (and_right (once && bound) refs two) i
