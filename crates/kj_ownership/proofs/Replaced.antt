-- A tree takes the place of a Chain.
use Rattle.std.proofs.Common.{◌≡◌, ℕ, ◌+◌, ◌<◌, ◌≤◌, List, [], ◌∷◌, length, Bool, true, false, cond, Option, None, Some, arith, refl, sym, ap, ◌∙◌, subst, ◌==◌}
use Rattle.std.specs.Prelude.{nat_eq, is_some, map, option_to_list}
use Rattle.std.proofs.lemmas.Bool.{false≢true, or_parts}
use Rattle.std.proofs.lemmas.Bool.Decides.{nat_tests}
use Rattle.kj_model.specs.Nodes.{Entry, Form, Content, Tree, Kept, Waits, Fired, Keeps, Gone, Branch, Then, Chain, Eager, Wrap, Hub, Side, Race, Join, Task, Request, form_at, parts_at, parts_found, is_in, renamed, renamed_if, renamed_form, with_tree_renamed}
use Rattle.kj_model.specs.World.{World, State, Named, Held, Promise, Group, RequestOf, Awaited}
use Rattle.kj_model.specs.Fire.{replaced, held_renamed, named_renamed, awaited_renamed}
use Rattle.kj_model.specs.Changes.{silent, frees_in}
use Rattle.kj_ownership.proofs.Moves.{live_below}
use Rattle.kj_model.specs.Owned.{numbers, held_roots, name_roots, awaited_roots, tree_roots, is_hub_name}
use Rattle.kj_model.specs.Falling.{is_branch_of}
use Rattle.kj_ownership.specs.Owners.{is_live, owns, is_hub_form}
use Rattle.kj_model.specs.Framed.{times, total, held_total, name_numbers}
use Rattle.kj_ownership.specs.Standing.{one_if, owned_times, Climbs, Standing}
use Rattle.kj_model.proofs.Spared.{no_form, same_number}
use Rattle.kj_model.proofs.Members.{in_self}
use Rattle.kj_model.proofs.Once.{both_ways, false_by}
use Rattle.kj_ownership.proofs.Stays.{out_times, in_times, roots_app, name_roots_total, owner_live, loose_unowned}
use Rattle.kj_ownership.proofs.Climb.{climb_apart}

-- counts after and before n became root
pub record Moved (n root : ℕ) (f g : ℕ → ℕ) : Type 0 where
  pub other : (m : ℕ) → nat_eq m n ≡ false → nat_eq m root ≡ false → f m ≡ g m
  pub to : f root ≡ g root + g n
  pub none : f n ≡ 0

moved_sum : (n root : ℕ) (f g h k : ℕ → ℕ) → Moved n root f g → Moved n root h k → Moved n root (λ m. f m + h m) (λ m. g m + k m)
moved_sum n root f g h k a b = record {
  other = λ m d e. (λ i. a.other m d e i + b.other m d e i);
  to = (let x = a.to in let y = b.to in omega (arith, x, y));
  none = (let x = a.none in let y = b.none in omega (arith, x, y));
}

moved_none : (n root : ℕ) (f g : ℕ → ℕ) → ((m : ℕ) → f m ≡ g m) → g n ≡ 0 → Moved n root f g
moved_none n root f g same z = record { other = λ m d e. same m; to = (let a = same root in omega (arith, a, z)); none = same n ∙ z }

one_moved : (n root x : ℕ) (b : Bool) → nat_eq root n ≡ false → nat_eq x n ≡ b → Moved n root (λ m. cond (renamed_if b root x == m) 1 0) (λ m. cond (x == m) 1 0)
one_moved n root x true r e = record { other = λ m d g. grind (arith, nat_tests); to = grind (arith, nat_tests); none = grind (arith, nat_tests) }
one_moved n root x false r e = record { other = λ m d g. refl; to = grind (arith, nat_tests); none = grind (arith, nat_tests) }

list_moved : (n root : ℕ) (xs : List ℕ) → nat_eq root n ≡ false → Moved n root (λ m. times m (map (renamed n root) xs)) (λ m. times m xs)
list_moved n root [] r = record { other = λ m d e. refl; to = omega arith; none = refl }
list_moved n root (x ∷ xs) r = moved_sum n root (λ m. cond (renamed n root x == m) 1 0) (λ m. cond (x == m) 1 0) (λ m. times m (map (renamed n root) xs)) (λ m. times m xs) (one_moved n root x (x == n) r refl) (list_moved n root xs r)

-- forms whose parts keep their numbers
abbrev pub is_fixed : Option Form → Bool
is_fixed (Some (Chain link)) = true
is_fixed (Some (Race left right winner)) = true
is_fixed (Some (Join fast sides)) = true
is_fixed other = false

abbrev pub some_renamed : ℕ → ℕ → Option Form → Option Form
some_renamed n root None = None
some_renamed n root (Some f) = Some (renamed_form n root f)

parts_moved : (n root : ℕ) (o : Option Form) → nat_eq root n ≡ false → (is_fixed o ≡ true → times n (parts_found o) ≡ 0) → Moved n root (λ m. times m (parts_found (some_renamed n root o))) (λ m. times m (parts_found o))
parts_moved n root None r fixed = list_moved n root [] r
parts_moved n root (Some (Then v e None)) r fixed = list_moved n root [] r
parts_moved n root (Some (Then v e (Some t))) r fixed = list_moved n root (t ∷ []) r
parts_moved n root (Some (Chain link)) r fixed = moved_none n root (λ m. times m (link ∷ [])) (λ m. times m (link ∷ [])) (λ m. refl) (fixed refl)
parts_moved n root (Some (Race a b w)) r fixed = moved_none n root (λ m. times m (a ∷ b ∷ [])) (λ m. times m (a ∷ b ∷ [])) (λ m. refl) (fixed refl)
parts_moved n root (Some (Join fast sides)) r fixed = moved_none n root (λ m. times m sides) (λ m. times m sides) (λ m. refl) (fixed refl)
parts_moved n root (Some (Eager (Tree t))) r fixed = list_moved n root (t ∷ []) r
parts_moved n root (Some (Eager (Kept o))) r fixed = list_moved n root [] r
parts_moved n root (Some (Wrap c (Tree t))) r fixed = list_moved n root (t ∷ []) r
parts_moved n root (Some (Wrap c (Kept o))) r fixed = list_moved n root [] r
parts_moved n root (Some (Hub (Tree t) b bs)) r fixed = list_moved n root (t ∷ []) r
parts_moved n root (Some (Hub (Kept o) b bs)) r fixed = list_moved n root [] r
parts_moved n root (Some (Side (Waits t))) r fixed = list_moved n root (t ∷ []) r
parts_moved n root (Some (Side (Fired t))) r fixed = list_moved n root (t ∷ []) r
parts_moved n root (Some (Side (Keeps o))) r fixed = list_moved n root [] r
parts_moved n root (Some (Side Gone)) r fixed = list_moved n root [] r
parts_moved n root (Some (Task None)) r fixed = list_moved n root [] r
parts_moved n root (Some (Task (Some t))) r fixed = list_moved n root (t ∷ []) r
parts_moved n root (Some (Request q None)) r fixed = list_moved n root [] r
parts_moved n root (Some (Request q (Some t))) r fixed = list_moved n root (t ∷ []) r
parts_moved n root (Some _) r fixed = list_moved n root [] r

form_more : (n root m : ℕ) (e : Entry) (es : List Entry) → form_at m (with_tree_renamed n root es) ≡ some_renamed n root (form_at m es) → form_at m (with_tree_renamed n root (e ∷ es)) ≡ some_renamed n root (form_at m (e ∷ es))
form_more n root m e es h = grind (arith, nat_tests)

pub form_renamed : (n root m : ℕ) (es : List Entry) → form_at m (with_tree_renamed n root es) ≡ some_renamed n root (form_at m es)
form_renamed n root m [] = refl
form_renamed n root m (e ∷ es) = form_more n root m e es (form_renamed n root m es)

numbers_renamed : (n root : ℕ) (es : List Entry) → numbers (with_tree_renamed n root es) ≡ numbers es
numbers_renamed n root [] = refl
numbers_renamed n root (e ∷ es) = ap (λ xs. e.number ∷ xs) (numbers_renamed n root es)

total_moved : (n root : ℕ) (f g : ℕ → ℕ → ℕ) (xs : List ℕ) → ((q : ℕ) → Moved n root (f q) (g q)) → Moved n root (λ m. total (λ q. f q m) xs) (λ m. total (λ q. g q m) xs)
total_moved n root f g [] h = record { other = λ m d e. refl; to = omega arith; none = refl }
total_moved n root f g (x ∷ xs) h = moved_sum n root (f x) (g x) (λ m. total (λ q. f q m) xs) (λ m. total (λ q. g q m) xs) (h x) (total_moved n root f g xs h)

-- what names hold
abbrev pub fixed_roots : Held → List ℕ
fixed_roots (Group error tasks empty) = tasks
fixed_roots (RequestOf n) = option_to_list n
fixed_roots other = []

held_moved : (n root : ℕ) (h : Held) → nat_eq root n ≡ false → times n (fixed_roots h) ≡ 0 → Moved n root (λ m. times m (held_roots (held_renamed n root h))) (λ m. times m (held_roots h))
held_moved n root (Promise t) r z = list_moved n root (t ∷ []) r
held_moved n root (Group error tasks empty) r z = moved_none n root (λ m. times m tasks) (λ m. times m tasks) (λ m. refl) z
held_moved n root (RequestOf q) r z = moved_none n root (λ m. times m (option_to_list q)) (λ m. times m (option_to_list q)) (λ m. refl) z
held_moved n root _ r z = list_moved n root [] r

both_none : (a b : ℕ) → a + b ≡ 0 → (a ≡ 0) × (b ≡ 0)
both_none a b h = (omega (arith, h), omega (arith, h))

names_moved : (n root : ℕ) (names : List Named) → nat_eq root n ≡ false → held_total (λ (h : Held). times n (fixed_roots h)) names ≡ 0 → Moved n root (λ m. held_total (λ (h : Held). times m (held_roots h)) (map (named_renamed n root) names)) (λ m. held_total (λ (h : Held). times m (held_roots h)) names)
names_moved n root [] r z = record { other = λ m d e. refl; to = omega arith; none = refl }
names_moved n root (x ∷ xs) r z =
    let p = both_none (times n (fixed_roots x.held)) (held_total (λ (h : Held). times n (fixed_roots h)) xs) z in
    moved_sum n root (λ m. times m (held_roots (held_renamed n root x.held))) (λ m. times m (held_roots x.held)) (λ m. held_total (λ (h : Held). times m (held_roots h)) (map (named_renamed n root) xs)) (λ m. held_total (λ (h : Held). times m (held_roots h)) xs) (held_moved n root x.held r p.0) (names_moved n root xs r p.1)

names_same : (n root c : ℕ) (names : List Named) → times c (name_numbers (map (named_renamed n root) names)) ≡ times c (name_numbers names)
names_same n root c [] = refl
names_same n root c (x ∷ xs) = ap (λ t. cond (x.name == c) 1 0 + t) (names_same n root c xs)

hub_held : (n root h : ℕ) (x : Held) → one_if (is_hub_name h (held_renamed n root x)) ≡ one_if (is_hub_name h x)
hub_held n root h (Promise t) = refl
hub_held n root h _ = refl

hub_names_same : (n root h : ℕ) (names : List Named) → held_total (λ (x : Held). one_if (is_hub_name h x)) (map (named_renamed n root) names) ≡ held_total (λ (x : Held). one_if (is_hub_name h x)) names
hub_names_same n root h [] = refl
hub_names_same n root h (x ∷ xs) = (λ i. hub_held n root h x.held i + hub_names_same n root h xs i)

awaited_moved : (n root : ℕ) (a : Option Awaited) → nat_eq root n ≡ false → Moved n root (λ m. times m (awaited_roots (awaited_renamed n root a))) (λ m. times m (awaited_roots a))
awaited_moved n root None r = list_moved n root [] r
awaited_moved n root (Some a) r = list_moved n root (a.root ∷ []) r

-- a place that a tree can take
pub record IsTreePlace (n : ℕ) (w : World) : Type 0 where
  pub forms : (q : ℕ) → is_fixed (form_at q w.nodes) ≡ true → times n (parts_at q w.nodes) ≡ 0
  pub helds : held_total (λ (h : Held). times n (fixed_roots h)) w.names ≡ 0
  pub left_over : times n w.left_over ≡ 0
  pub detached : times n w.detached ≡ 0

-- all places
pub all_moved : (n root : ℕ) (w : World) → nat_eq root n ≡ false → IsTreePlace n w → Moved n root (λ m. times m (tree_roots (replaced n root w)) + owned_times m (replaced n root w).nodes) (λ m. times m (tree_roots w) + owned_times m w.nodes)
all_moved n root w r place =
    moved_sum n root (λ m. times m (tree_roots (replaced n root w))) (λ m. times m (tree_roots w)) (λ m. owned_times m (replaced n root w).nodes) (λ m. owned_times m w.nodes) roots owned
  where
    names : Moved n root (λ m. held_total (λ (h : Held). times m (held_roots h)) (map (named_renamed n root) w.names)) (λ m. held_total (λ (h : Held). times m (held_roots h)) w.names)
    names = names_moved n root w.names r place.helds

    others : Moved n root (λ m. times m w.left_over + times m w.detached) (λ m. times m w.left_over + times m w.detached)
    others = moved_none n root (λ m. times m w.left_over + times m w.detached) (λ m. times m w.left_over + times m w.detached) (λ m. refl) (let a = place.left_over in let b = place.detached in omega (arith, a, b))

    four : (m : ℕ) (v : World) → times m (tree_roots v) ≡ held_total (λ (h : Held). times m (held_roots h)) v.names + (times m (awaited_roots v.awaited) + (times m v.left_over + times m v.detached))
    four m v = let a = roots_app m (name_roots v.names) (awaited_roots v.awaited) v.left_over v.detached in let b = name_roots_total m v.names in omega (arith, a, b)

    sums : Moved n root (λ m. held_total (λ (h : Held). times m (held_roots h)) (map (named_renamed n root) w.names) + (times m (awaited_roots (awaited_renamed n root w.awaited)) + (times m w.left_over + times m w.detached))) (λ m. held_total (λ (h : Held). times m (held_roots h)) w.names + (times m (awaited_roots w.awaited) + (times m w.left_over + times m w.detached)))
    sums = moved_sum n root _ _ (λ m. times m (awaited_roots (awaited_renamed n root w.awaited)) + (times m w.left_over + times m w.detached)) (λ m. times m (awaited_roots w.awaited) + (times m w.left_over + times m w.detached)) names
        (moved_sum n root (λ m. times m (awaited_roots (awaited_renamed n root w.awaited))) (λ m. times m (awaited_roots w.awaited)) (λ m. times m w.left_over + times m w.detached) (λ m. times m w.left_over + times m w.detached) (awaited_moved n root w.awaited r) others)

    roots : Moved n root (λ m. times m (tree_roots (replaced n root w))) (λ m. times m (tree_roots w))
    roots = record {
      other = λ m d e. four m (replaced n root w) ∙ sums.other m d e ∙ sym (four m w);
      to = four root (replaced n root w) ∙ sums.to ∙ (λ i. sym (four root w) i + sym (four n w) i);
      none = four n (replaced n root w) ∙ sums.none;
    }

    part : (q : ℕ) → Moved n root (λ m. times m (parts_at q (with_tree_renamed n root w.nodes))) (λ m. times m (parts_at q w.nodes))
    part q = let p = parts_moved n root (form_at q w.nodes) r (place.forms q) in record {
      other = λ m d e. ap (λ (o : Option Form). times m (parts_found o)) (form_renamed n root q w.nodes) ∙ p.other m d e;
      to = ap (λ (o : Option Form). times root (parts_found o)) (form_renamed n root q w.nodes) ∙ p.to;
      none = ap (λ (o : Option Form). times n (parts_found o)) (form_renamed n root q w.nodes) ∙ p.none;
    }

    owned : Moved n root (λ m. owned_times m (with_tree_renamed n root w.nodes)) (λ m. owned_times m w.nodes)
    owned = let t = total_moved n root (λ q m. times m (parts_at q (with_tree_renamed n root w.nodes))) (λ q m. times m (parts_at q w.nodes)) (numbers w.nodes) part in record {
      other = λ m d e. ap (total (λ q. times m (parts_at q (with_tree_renamed n root w.nodes)))) (numbers_renamed n root w.nodes) ∙ t.other m d e;
      to = ap (total (λ q. times root (parts_at q (with_tree_renamed n root w.nodes)))) (numbers_renamed n root w.nodes) ∙ t.to;
      none = ap (total (λ q. times n (parts_at q (with_tree_renamed n root w.nodes)))) (numbers_renamed n root w.nodes) ∙ t.none;
    }

part_moved : (n root q : ℕ) (w : World) → nat_eq root n ≡ false → IsTreePlace n w → Moved n root (λ m. times m (parts_at q (with_tree_renamed n root w.nodes))) (λ m. times m (parts_at q w.nodes))
part_moved n root q w r place = let p = parts_moved n root (form_at q w.nodes) r (place.forms q) in record {
  other = λ m d e. ap (λ (o : Option Form). times m (parts_found o)) (form_renamed n root q w.nodes) ∙ p.other m d e;
  to = ap (λ (o : Option Form). times root (parts_found o)) (form_renamed n root q w.nodes) ∙ p.to;
  none = ap (λ (o : Option Form). times n (parts_found o)) (form_renamed n root q w.nodes) ∙ p.none;
}

pub live_renamed : (n root : ℕ) (o : Option Form) → is_some (some_renamed n root o) ≡ is_some o
live_renamed n root None = refl
live_renamed n root (Some f) = refl

hub_renamed : (n root : ℕ) (o : Option Form) → is_hub_form (some_renamed n root o) ≡ is_hub_form o
hub_renamed n root None = refl
hub_renamed n root (Some (Hub content is_named branches)) = refl
hub_renamed n root (Some _) = refl

branch_renamed : (n root h : ℕ) (o : Option Form) → is_branch_of h (some_renamed n root o) ≡ is_branch_of h o
branch_renamed n root h None = refl
branch_renamed n root h (Some (Branch hub)) = refl
branch_renamed n root h (Some _) = refl

record HubOld (o : Option Form) (is_named : Bool) (branches : List ℕ) : Type 0 where
  content : Content
  form : o ≡ Some (Hub content is_named branches)

named_in : Option Form → Bool
named_in (Some (Hub content is_named branches)) = is_named
named_in other = false

listed_in : Option Form → List ℕ
listed_in (Some (Hub content is_named branches)) = branches
listed_in other = []

hub_old : (n root : ℕ) (o : Option Form) (content : Content) (is_named : Bool) (branches : List ℕ) → some_renamed n root o ≡ Some (Hub content is_named branches) → HubOld o is_named branches
unfolding named_in listed_in
hub_old n root None content is_named branches e = absurd (no_form (Hub content is_named branches) e)
hub_old n root (Some (Hub c a bs)) content is_named branches e = record { content = c; form = (λ i. Some (Hub c (named_in (e i)) (listed_in (e i)))) }
hub_old n root (Some _) content is_named branches e = absurd (false≢true (ap is_hub_form e))

in_by_times : (p : ℕ) (xs ys : List ℕ) → times p xs ≡ times p ys → is_in p ys ≡ true → is_in p xs ≡ true
in_by_times p xs ys e i = decide (is_in p xs) refl
  where
    clash : (a b : ℕ) → a ≡ b → a ≡ 0 → 1 ≤ b → ⊥
    clash a b e z o = omega (arith, e, z, o)

    decide : (d : Bool) → is_in p xs ≡ d → is_in p xs ≡ true
    decide true j = j
    decide false j = absurd (clash (times p xs) (times p ys) e (out_times p xs j) (in_times p ys i))

in_by_other : (p r : ℕ) (xs ys : List ℕ) → times p xs ≡ times r ys → is_in r ys ≡ true → is_in p xs ≡ true
in_by_other p r xs ys e i = decide (is_in p xs) refl
  where
    clash : (a b : ℕ) → a ≡ b → a ≡ 0 → 1 ≤ b → ⊥
    clash a b e z o = omega (arith, e, z, o)

    decide : (d : Bool) → is_in p xs ≡ d → is_in p xs ≡ true
    decide true j = j
    decide false j = absurd (clash (times p xs) (times r ys) e (out_times p xs j) (in_times r ys i))

-- what replacing wants
pub record CanReplace (n root : ℕ) (ys : List ℕ) (s : State) : Type 0 where
  pub standing : Standing (root ∷ []) [] [] s
  pub place : IsTreePlace n s.world
  pub apart : nat_eq root n ≡ false
  pub n_live : is_live n s.world.nodes ≡ true
  pub root_below : root < s.world.next
  pub plain : is_hub_form (form_at n s.world.nodes) ≡ false
  pub empty : (p : ℕ) → owns n p s.world.nodes ≡ true → is_live p s.world.nodes ≡ false
  pub climbs : Climbs s.world.nodes n ys
  pub off : is_in root ys ≡ false

-- owners after, from those before
owner_keeps : (n root q x : ℕ) (s : State) → nat_eq root n ≡ false → IsTreePlace n s.world → nat_eq x n ≡ false → nat_eq x root ≡ false → owns q x s.world.nodes ≡ true → owns q x (replaced n root s.world).nodes ≡ true
owner_keeps n root q x s r place d e own = in_by_times x (parts_at q (replaced n root s.world).nodes) (parts_at q s.world.nodes) ((part_moved n root q s.world r place).other x d e) own

unowned_keeps : (n root x : ℕ) (s : State) → nat_eq root n ≡ false → IsTreePlace n s.world → nat_eq x n ≡ false → nat_eq x root ≡ false → ((q : ℕ) → owns q x s.world.nodes ≡ false) → (q : ℕ) → owns q x (replaced n root s.world).nodes ≡ false
unowned_keeps n root x s r place d e none q = false_by (owns q x (replaced n root s.world).nodes) (λ own. both_ways (owns q x s.world.nodes) (in_by_times x (parts_at q s.world.nodes) (parts_at q (replaced n root s.world).nodes) (sym ((part_moved n root q s.world r place).other x d e)) own) (none q))

-- a climb on which neither stands
clear_climb : (n root x : ℕ) (ys : List ℕ) (s : State) → nat_eq root n ≡ false → IsTreePlace n s.world → is_in n (x ∷ ys) ≡ false → is_in root (x ∷ ys) ≡ false → Climbs s.world.nodes x ys → Climbs (replaced n root s.world).nodes x ys
clear_climb n root x [] s r place a b c = unowned_keeps n root x s r place (or_parts (nat_eq x n) false a).0 (or_parts (nat_eq x root) false b).0 c
clear_climb n root x (y ∷ ys) s r place a b c =
    let p = or_parts (nat_eq x n) (is_in n (y ∷ ys)) a in
    let q = or_parts (nat_eq x root) (is_in root (y ∷ ys)) b in
    (owner_keeps n root y x s r place p.0 q.0 c.0, clear_climb n root y ys s r place p.1 q.1 c.1)

root_none : (n root ys_q : ℕ) (s : State) → Standing (root ∷ []) [] [] s → is_live root s.world.nodes ≡ true → times root (parts_at ys_q s.world.nodes) ≡ 0
root_none n root q s st live = out_times root (parts_at q s.world.nodes) (loose_unowned (root ∷ []) s.world root q st.placed live (in_self root []))

root_to : (n root q : ℕ) (s : State) → Standing (root ∷ []) [] [] s → is_live root s.world.nodes ≡ true → nat_eq root n ≡ false → IsTreePlace n s.world → times root (parts_at q (replaced n root s.world).nodes) ≡ times n (parts_at q s.world.nodes)
root_to n root q s st live r place = let a = (part_moved n root q s.world r place).to in let b = root_none n root q s st live in omega (arith, a, b)

-- the climb of the tree in its new place is that of the node whose place it takes
root_climb : (n root : ℕ) (ys : List ℕ) (s : State) → is_live root s.world.nodes ≡ true → CanReplace n root ys s → Climbs (replaced n root s.world).nodes root ys
root_climb n root ys s root_live can = by_climb ys can.climbs can.off (climb_apart (root ∷ []) s.world n ys can.standing.placed can.n_live can.climbs).0
  where
    by_climb : (ys : List ℕ) → Climbs s.world.nodes n ys → is_in root ys ≡ false → is_in n ys ≡ false → Climbs (replaced n root s.world).nodes root ys
    by_climb [] c off own_off = λ q. false_by (owns q root (replaced n root s.world).nodes) (λ own. both_ways (owns q n s.world.nodes) (in_by_other n root (parts_at q s.world.nodes) (parts_at q (replaced n root s.world).nodes) (sym (root_to n root q s can.standing root_live can.apart can.place)) own) (c q))
    by_climb (y ∷ ys) c off own_off = (in_by_other root n (parts_at y (replaced n root s.world).nodes) (parts_at y s.world.nodes) (root_to n root y s can.standing root_live can.apart can.place) c.0, clear_climb n root y ys s can.apart can.place own_off off c.1)

-- each climb after
joined : (n root x : ℕ) (ys : List ℕ) (s : State) (e : Bool) → nat_eq x root ≡ e → is_live x s.world.nodes ≡ true → CanReplace n root ys s → (nat_eq x root ≡ false → (zs : List ℕ) × Climbs (replaced n root s.world).nodes x zs) → (zs : List ℕ) × Climbs (replaced n root s.world).nodes x zs
joined n root x ys s true e live can other = let same = same_number x root e in (ys, subst (λ (y : ℕ). Climbs (replaced n root s.world).nodes y ys) same (root_climb n root ys s (subst (λ (y : ℕ). is_live y s.world.nodes ≡ true) (sym same) live) can))
joined n root x ys s false e live can other = other e

any_climb : (n root x : ℕ) (xs ys : List ℕ) (s : State) → CanReplace n root ys s → is_live x s.world.nodes ≡ true → nat_eq x n ≡ false → Climbs s.world.nodes x xs → (zs : List ℕ) × Climbs (replaced n root s.world).nodes x zs
any_climb n root x [] ys s can live d c = joined n root x ys s (nat_eq x root) refl live can (λ e. ([], unowned_keeps n root x s can.apart can.place d e c))
any_climb n root x (z ∷ xs) ys s can live d c =
    let zn : nat_eq z n ≡ false = false_by (nat_eq z n) (λ e. both_ways (is_live x s.world.nodes) live (can.empty x (subst (λ (y : ℕ). owns y x s.world.nodes ≡ true) (sym (same_number z n e)) c.0))) in
    let rest = any_climb n root z xs ys s can (owner_live z x s.world.nodes c.0) zn c.1 in
    joined n root x ys s (nat_eq x root) refl live can (λ e. (z ∷ rest.0, (owner_keeps n root z x s can.apart can.place d e c.0, rest.1)))

no_times : (m x : ℕ) → nat_eq m x ≡ false → times m (x ∷ []) ≡ 0
no_times m x d = grind (arith, nat_tests)

-- the tree stands in its new place, and the node whose place it took stands nowhere
pub replaced_standing : (n root : ℕ) (ys : List ℕ) (s : State) → CanReplace n root ys s → Standing (n ∷ []) [] [] (silent (replaced n root) s)
replaced_standing n root ys s can = record {
  placed = record {
    once = λ m live. once_at m (old_live m live) (nat_eq m n) (nat_eq m root) refl refl;
    climbs = λ m live. climbs_at m (old_live m live) (nat_eq m n) refl;
  };
  names = λ c. (let a = names_same n root c s.world.names in let b = st.names c in omega (arith, a, b));
  hubs = record {
    name = λ h c a bs at. (let old = hub_old n root (form_at h s.world.nodes) c a bs (sym (form_renamed n root h s.world.nodes) ∙ at) in ap (λ t. t + 0) (hub_names_same n root h s.world.names) ∙ st.hubs.name h old.content a bs old.form);
    branches = λ h c a bs at b. (let old = hub_old n root (form_at h s.world.nodes) c a bs (sym (form_renamed n root h s.world.nodes) ∙ at) in let same = branch_at h b in ap (λ r. times b bs + cond r 0 0) same ∙ st.hubs.branches h old.content a bs old.form b ∙ ap one_if (sym same));
  };
  below = record {
    positive = st.below.positive;
    places = λ m h.
        let b = st.below.places m h in
        let mn = far m n h (live_below s n st.recorded can.n_live) in
        let mr = far m root h can.root_below in
        let a = moves.other m mn mr in
        let c = no_times m n mn in
        let d = no_times m root mr in
        omega (arith, a, b, c, d);
    names = λ m h. ap (λ t. t + 0) (hub_names_same n root m s.world.names) ∙ st.below.names m h;
    branches = λ h b l. branch_at h b ∙ st.below.branches h b l;
  };
  recorded = λ m. ap (λ (xs : List ℕ). times m xs + times m (frees_in s.past)) (numbers_renamed n root s.world.nodes) ∙ st.recorded m;
  in_order = st.in_order;
  room = (let a = length_renamed s.world.nodes in let b = st.room in omega (arith, a, b));
  queue = st.queue;
  queued = λ e i. event_at e (e == 0) s.world.awaited (st.queued e i);
  spots = st.spots ∙ sym (numbers_renamed n root s.world.nodes);
}
  where
    st : Standing (root ∷ []) [] [] s
    st = can.standing

    moves : Moved n root (λ m. times m (tree_roots (replaced n root s.world)) + owned_times m (replaced n root s.world).nodes) (λ m. times m (tree_roots s.world) + owned_times m s.world.nodes)
    moves = all_moved n root s.world can.apart can.place

    branch_at : (h b : ℕ) → is_branch_of h (form_at b (with_tree_renamed n root s.world.nodes)) ≡ is_branch_of h (form_at b s.world.nodes)
    branch_at h b = ap (is_branch_of h) (form_renamed n root b s.world.nodes) ∙ branch_renamed n root h (form_at b s.world.nodes)

    hub_at : (m : ℕ) → is_hub_form (form_at m (with_tree_renamed n root s.world.nodes)) ≡ is_hub_form (form_at m s.world.nodes)
    hub_at m = ap is_hub_form (form_renamed n root m s.world.nodes) ∙ hub_renamed n root (form_at m s.world.nodes)

    live_at : (m : ℕ) → is_live m (with_tree_renamed n root s.world.nodes) ≡ is_live m s.world.nodes
    live_at m = ap is_some (form_renamed n root m s.world.nodes) ∙ live_renamed n root (form_at m s.world.nodes)

    old_live : (m : ℕ) → is_live m (with_tree_renamed n root s.world.nodes) ≡ true → is_live m s.world.nodes ≡ true
    old_live m live = sym (live_at m) ∙ live

    far : (m k : ℕ) → s.world.next ≤ m → k < s.world.next → nat_eq m k ≡ false
    far m k h l = grind (arith, nat_tests)

    length_renamed : (es : List Entry) → length (with_tree_renamed n root es) ≡ length es
    length_renamed [] = refl
    length_renamed (e ∷ es) = let h = length_renamed es in omega (arith, h)

    event_at : (e : ℕ) (b : Bool) (a : Option Awaited) → cond b (is_some a) (is_live e s.world.nodes) ≡ true → cond b (is_some (awaited_renamed n root a)) (is_live e (with_tree_renamed n root s.world.nodes)) ≡ true
    event_at e true None i = i
    event_at e true (Some a) i = refl
    event_at e false a i = live_at e ∙ i

    climbs_at : (m : ℕ) → is_live m s.world.nodes ≡ true → (d : Bool) → nat_eq m n ≡ d → (zs : List ℕ) × Climbs (with_tree_renamed n root s.world.nodes) m zs
    climbs_at m live true d = ([], λ q. false_by (owns q m (with_tree_renamed n root s.world.nodes)) (λ own. none_of (times n (parts_at q (with_tree_renamed n root s.world.nodes))) (in_times n (parts_at q (with_tree_renamed n root s.world.nodes)) (subst (λ (y : ℕ). owns q y (with_tree_renamed n root s.world.nodes) ≡ true) (sym (same_number m n d)) own)) (part_moved n root q s.world can.apart can.place).none))
      where
        none_of : (t : ℕ) → 1 ≤ t → t ≡ 0 → ⊥
        none_of t a b = omega (arith, a, b)
    climbs_at m live false d = let c = st.placed.climbs m live in any_climb n root m c.0 ys s can live d c.1

    at_n : (h1 h2 t o : ℕ) → h1 ≡ 0 → t + o ≡ 0 → h2 ≡ 1 → h2 + (t + (h1 + o)) ≡ 1
    at_n h1 h2 t o a b c = omega (arith, a, b, c)

    at_root : (r1 t1 h1 o1 r2 t2 h2 o2 t3 o3 hn k : ℕ) → r1 ≡ 1 → r1 + (t1 + (h1 + o1)) ≡ 1 → r2 ≡ 0 → t2 + (hn + o2) + r2 ≡ 1 → hn ≡ 0 → t3 + o3 ≡ (t1 + o1) + (t2 + o2) → k ≡ 0 → k + (t3 + (h1 + o3)) ≡ 1
    at_root r1 t1 h1 o1 r2 t2 h2 o2 t3 o3 hn k a b c d e f g = omega (arith, a, b, c, d, e, f, g)

    other : (r t h o t3 o3 k : ℕ) → r + (t + (h + o)) ≡ 1 → r ≡ 0 → t3 + o3 ≡ t + o → k ≡ 0 → k + (t3 + (h + o3)) ≡ 1
    other r t h o t3 o3 k a b c d = omega (arith, a, b, c, d)

    self_times : (x : ℕ) → times x (x ∷ []) ≡ 1
    self_times x = (let s : nat_eq x x ≡ true = grind (arith, nat_tests) in grind (arith, nat_tests))

    once_at : (m : ℕ) → is_live m s.world.nodes ≡ true → (d e : Bool) → nat_eq m n ≡ d → nat_eq m root ≡ e → times m (n ∷ []) + (times m (tree_roots (replaced n root s.world)) + (one_if (is_hub_form (form_at m (with_tree_renamed n root s.world.nodes))) + owned_times m (with_tree_renamed n root s.world.nodes))) ≡ 1
    once_at m live true e d f =
        subst (λ (y : ℕ). times y (n ∷ []) + (times y (tree_roots (replaced n root s.world)) + (one_if (is_hub_form (form_at y (with_tree_renamed n root s.world.nodes))) + owned_times y (with_tree_renamed n root s.world.nodes))) ≡ 1) (same_number m n d)
        (at_n (one_if (is_hub_form (form_at n (with_tree_renamed n root s.world.nodes)))) (times n (n ∷ [])) (times n (tree_roots (replaced n root s.world))) (owned_times n (with_tree_renamed n root s.world.nodes)) (ap one_if (hub_at n ∙ can.plain)) moves.none (self_times n))
    once_at m live false true d f =
        let root_live : is_live root s.world.nodes ≡ true = subst (λ (y : ℕ). is_live y s.world.nodes ≡ true) (sym (same_number m root f)) live in
        subst (λ (y : ℕ). times y (n ∷ []) + (times y (tree_roots (replaced n root s.world)) + (one_if (is_hub_form (form_at y (with_tree_renamed n root s.world.nodes))) + owned_times y (with_tree_renamed n root s.world.nodes))) ≡ 1) (same_number m root f)
        (ap (λ h. times root (n ∷ []) + (times root (tree_roots (replaced n root s.world)) + (one_if h + owned_times root (with_tree_renamed n root s.world.nodes)))) (hub_at root)
        ∙ (let a = st.placed.once root root_live in let b = st.placed.once n can.n_live in let hn : one_if (is_hub_form (form_at n s.world.nodes)) ≡ 0 = ap one_if can.plain in
        at_root (times root (root ∷ [])) (times root (tree_roots s.world)) (one_if (is_hub_form (form_at root s.world.nodes))) (owned_times root s.world.nodes) (times n (root ∷ [])) (times n (tree_roots s.world)) 0 (owned_times n s.world.nodes) (times root (tree_roots (replaced n root s.world))) (owned_times root (with_tree_renamed n root s.world.nodes)) (one_if (is_hub_form (form_at n s.world.nodes))) (times root (n ∷ []))
        (self_times root) a (no_times n root (turned root n can.apart)) (flip (times n (root ∷ [])) (times n (tree_roots s.world)) (one_if (is_hub_form (form_at n s.world.nodes))) (owned_times n s.world.nodes) b) hn moves.to (no_times root n can.apart)))
      where
        turned : (a b : ℕ) → nat_eq a b ≡ false → nat_eq b a ≡ false
        turned a b h = grind (arith, nat_tests)

        flip : (r t h o : ℕ) → r + (t + (h + o)) ≡ 1 → t + (h + o) + r ≡ 1
        flip r t h o e = omega (arith, e)
    once_at m live false false d f =
        ap (λ h. times m (n ∷ []) + (times m (tree_roots (replaced n root s.world)) + (one_if h + owned_times m (with_tree_renamed n root s.world.nodes)))) (hub_at m)
        ∙ other (times m (root ∷ [])) (times m (tree_roots s.world)) (one_if (is_hub_form (form_at m s.world.nodes))) (owned_times m s.world.nodes) (times m (tree_roots (replaced n root s.world))) (owned_times m (with_tree_renamed n root s.world.nodes)) (times m (n ∷ [])) (st.placed.once m live) (no_times m root f) (moves.other m d f) (no_times m n d)
