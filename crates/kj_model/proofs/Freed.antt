-- Freeing a tree frees exactly its nodes.
use Rattle.std.proofs.Common.{append_assoc, zero, suc, ◌≡◌, ℕ, List, [], ◌∷◌, ◌++◌, Bool, true, false, Option, None, Some, arith, refl, sym, ap, ◌∙◌, subst, ◌||◌, ◌==◌}
use Rattle.std.specs.Prelude.{flat_map, map, nat_eq}
use Rattle.std.proofs.lemmas.List.{append-nil, map-append}
use Rattle.std.proofs.lemmas.Bool.{or_parts}
use Rattle.std.proofs.lemmas.Bool.Decides.{nat_tests}
use Rattle.kj_model.specs.Nodes.{Entry, Form, Ready, Later, Last, Cell, Branch, Then, Chain, Eager, Wrap, Hub, Side, Race, Join, Task, Request, form_at, with_form, without, parts_of, dropped, is_in}
use Rattle.kj_model.specs.World.{World, State, Named, Held, Promise, CellOf, AskCell, HubOf, Group, Canceler, RequestOf, held_at}
use Rattle.kj_base.specs.Record.{Free}
use Rattle.kj_model.specs.Changes.{silent, gone}
use Rattle.kj_model.specs.Free.{Every, free_to, free_form, each_freed, unlinked, free_unreferenced, without_branch, without_branch_in, without_wrap_in, abandoned_as, ask_of}
use Rattle.kj_model.specs.Trees.{live_parts, some_parts, over_parts, tree_numbers, AreApart, none_if, Frees}

-- lists
or_assoc : (a b c : Bool) → ((a || b) || c) ≡ (a || (b || c))
or_assoc true b c = refl
or_assoc false b c = refl

pub in_app : (m : ℕ) (xs ys : List ℕ) → is_in m (xs ++ ys) ≡ (is_in m xs || is_in m ys)
in_app m [] ys = refl
in_app m (x ∷ xs) ys = ap (λ b. (x == m) || b) (in_app m xs ys) ∙ sym (or_assoc (x == m) (is_in m xs) (is_in m ys))

-- none of these stands in the list
abbrev pub AllOut : List ℕ → List ℕ → Type 0
AllOut [] ns = Unit {0}
AllOut (m ∷ ms) ns = (is_in m ns ≡ false) × AllOut ms ns

out_left : (ms ls ns : List ℕ) → AllOut (ms ++ ls) ns → AllOut ms ns
out_left [] ls ns h = tt
out_left (m ∷ ms) ls ns h = (h.0, out_left ms ls ns h.1)

out_right : (ms ls ns : List ℕ) → AllOut (ms ++ ls) ns → AllOut ls ns
out_right [] ls ns h = h
out_right (m ∷ ms) ls ns h = out_right ms ls ns h.1

pub apart_left : (xs ys : List ℕ) → AreApart (xs ++ ys) → AreApart xs
apart_left [] ys h = tt
apart_left (x ∷ xs) ys h = ((or_parts (is_in x xs) (is_in x ys) (sym (in_app x xs ys) ∙ h.0)).0, apart_left xs ys h.1)

pub apart_right : (xs ys : List ℕ) → AreApart (xs ++ ys) → AreApart ys
apart_right [] ys h = h
apart_right (x ∷ xs) ys h = apart_right xs ys h.1

pub swapped : (a b : ℕ) → nat_eq a b ≡ false → nat_eq b a ≡ false
swapped a b h = grind (arith, nat_tests)

pub or_false : (a b : Bool) → a ≡ false → b ≡ false → (a || b) ≡ false
or_false true b h k = h
or_false false b h k = k

out_cons : (y : ℕ) (xs : List ℕ) (x : ℕ) → nat_eq x y ≡ false → is_in y xs ≡ false → is_in y (x ∷ xs) ≡ false
out_cons y xs x h k = or_false (x == y) (is_in y xs) h k

out_nil : (ys : List ℕ) → AllOut ys []
out_nil [] = tt
out_nil (y ∷ ys) = (refl, out_nil ys)

out_more : (ys : List ℕ) (x : ℕ) (xs : List ℕ) → is_in x ys ≡ false → AllOut ys xs → AllOut ys (x ∷ xs)
out_more [] x xs h k = tt
out_more (y ∷ ys) x xs h k = let p = or_parts (nat_eq y x) (is_in x ys) h in (out_cons y xs x (swapped y x p.0) k.0, out_more ys x xs p.1 k.1)

-- the later part of a list without repeats is out of the earlier one
pub apart_out : (xs ys : List ℕ) → AreApart (xs ++ ys) → AllOut ys xs
apart_out [] ys h = out_nil ys
apart_out (x ∷ xs) ys h = out_more ys x xs (or_parts (is_in x xs) (is_in x ys) (sym (in_app x xs ys) ∙ h.0)).1 (apart_out xs ys h.1)

-- a change that takes exactly these nodes away
abbrev pub Takes : List ℕ → List Entry → List Entry → Type 0
Takes ns old new = (m : ℕ) → live_parts m new ≡ none_if (is_in m ns) (live_parts m old)

pub none_none : {A : Type 0} (b : Bool) → none_if {A = A} b None ≡ None
none_none true = refl
none_none false = refl

-- trees by this bound that such a change doesn't touch stay
abbrev pub SameTrees : ℕ → List Entry → List Entry → List ℕ → Type 0
SameTrees k old new ns = (n : ℕ) → AllOut (tree_numbers k old n) ns → tree_numbers k new n ≡ tree_numbers k old n

pub same_all : (k : ℕ) (old new : List Entry) (ns : List ℕ) (parts : List ℕ) → SameTrees k old new ns → AllOut (flat_map (tree_numbers k old) parts) ns → flat_map (tree_numbers k new) parts ≡ flat_map (tree_numbers k old) parts
same_all k old new ns [] same out = refl
same_all k old new ns (p ∷ ps) same out =
    ap (λ ts. ts ++ flat_map (tree_numbers k new) ps) (same p (out_left (tree_numbers k old p) (flat_map (tree_numbers k old) ps) ns out))
    ∙ ap (λ ts. tree_numbers k old p ++ ts) (same_all k old new ns ps same (out_right (tree_numbers k old p) (flat_map (tree_numbers k old) ps) ns out))

same_over : (k : ℕ) (old new : List Entry) (ns : List ℕ) (n : ℕ) (o : Option (List ℕ)) → live_parts n old ≡ o → Takes ns old new → SameTrees k old new ns → AllOut (over_parts (tree_numbers k old) n o) ns → over_parts (tree_numbers k new) n (live_parts n new) ≡ over_parts (tree_numbers k old) n o
same_over k old new ns n None is t same out = ap (over_parts (tree_numbers k new) n) (t n ∙ ap (none_if (is_in n ns)) is ∙ none_none (is_in n ns))
same_over k old new ns n (Some parts) is t same out =
    ap (over_parts (tree_numbers k new) n) (t n ∙ ap (none_if (is_in n ns)) is ∙ ap (λ b. none_if b (Some parts)) (out_right (flat_map (tree_numbers k old) parts) (n ∷ []) ns out).0)
    ∙ ap (λ ts. ts ++ n ∷ []) (same_all k old new ns parts same (out_left (flat_map (tree_numbers k old) parts) (n ∷ []) ns out))

pub same_tree : (k : ℕ) (old new : List Entry) (ns : List ℕ) → Takes ns old new → SameTrees k old new ns
unfolding tree_numbers
same_tree zero old new ns t n out = refl
same_tree (suc k) old new ns t n out = same_over k old new ns n (live_parts n old) refl t (same_tree k old new ns t) out

pub none_twice : {A : Type 0} (f g : Bool) (o : Option A) → none_if g (none_if f o) ≡ none_if (f || g) o
none_twice true g o = none_none g
none_twice false g o = refl

-- one after another
pub both : (ms ns : List ℕ) (a b c : State) → Frees ms a b → Frees ns b c → Frees (ms ++ ns) a c
both ms ns a b c f g = record {
  told = g.told ∙ ap (λ ts. ts ++ map Free ns) f.told ∙ append_assoc a.past (map Free ms) (map Free ns) ∙ ap (λ ts. a.past ++ ts) (sym (map-append Free ms ns));
  nodes = λ m. g.nodes m ∙ ap (none_if (is_in m ns)) (f.nodes m) ∙ none_twice (is_in m ms) (is_in m ns) (live_parts m a.world.nodes) ∙ ap (λ b. none_if b (live_parts m a.world.nodes)) (sym (in_app m ms ns));
}

pub nothing : (s : State) → Frees [] s s
nothing s = record { told = sym (append-nil s.past); nodes = λ m. refl }

parts_without_more : (n m : ℕ) (e : Entry) (es : List Entry) → live_parts m (without n es) ≡ none_if (n == m) (live_parts m es) → live_parts m (without n (e ∷ es)) ≡ none_if (n == m) (live_parts m (e ∷ es))
parts_without_more n m e es h = grind (arith, nat_tests)

parts_without : (n m : ℕ) (es : List Entry) → live_parts m (without n es) ≡ none_if (n == m) (live_parts m es)
parts_without n m [] = sym (none_none (n == m))
parts_without n m (e ∷ es) = parts_without_more n m e es (parts_without n m es)

pub or_none : (b : Bool) → b ≡ (b || false)
or_none true = refl
or_none false = refl

pub gone_frees : (n : ℕ) (s : State) → Frees (n ∷ []) s (gone n s)
gone_frees n s = record { told = refl; nodes = λ m. parts_without n m s.world.nodes ∙ ap (λ b. none_if b (live_parts m s.world.nodes)) (or_none (n == m)) }

-- a form with the same parts in place of a node's
parts_put_other_more : (n m : ℕ) (form : Form) (e : Entry) (es : List Entry) → nat_eq n m ≡ false → live_parts m (with_form n form es) ≡ live_parts m es → live_parts m (with_form n form (e ∷ es)) ≡ live_parts m (e ∷ es)
parts_put_other_more n m form e es d h = grind (arith, nat_tests)

parts_put_other : (n m : ℕ) (form : Form) (es : List Entry) → nat_eq n m ≡ false → live_parts m (with_form n form es) ≡ live_parts m es
parts_put_other n m form [] d = refl
parts_put_other n m form (e ∷ es) d = parts_put_other_more n m form e es d (parts_put_other n m form es d)

parts_put_same_more : (n : ℕ) (form : Form) (e : Entry) (es : List Entry) → (live_parts n es ≡ Some (parts_of form) → live_parts n (with_form n form es) ≡ Some (parts_of form)) → live_parts n (e ∷ es) ≡ Some (parts_of form) → live_parts n (with_form n form (e ∷ es)) ≡ Some (parts_of form)
parts_put_same_more n form e es h is = grind (arith, nat_tests)

none_some : (ps : List ℕ) → ◌≡◌ {A = Option (List ℕ)} None (Some ps) → ⊥
none_some ps e = cc

parts_put_same : (n : ℕ) (form : Form) (es : List Entry) → live_parts n es ≡ Some (parts_of form) → live_parts n (with_form n form es) ≡ Some (parts_of form)
parts_put_same n form [] is = absurd (none_some (parts_of form) is)
parts_put_same n form (e ∷ es) is = parts_put_same_more n form e es (parts_put_same n form es) is

parts_put_if : (b : Bool) (n m : ℕ) (form : Form) (es : List Entry) → nat_eq n m ≡ b → live_parts n es ≡ Some (parts_of form) → live_parts m (with_form n form es) ≡ live_parts m es
parts_put_if true n m form es e is = let same : n ≡ m = grind (arith, nat_tests) in subst (λ (x : ℕ). live_parts x (with_form n form es) ≡ live_parts x es) same (parts_put_same n form es is ∙ sym is)
parts_put_if false n m form es e is = parts_put_other n m form es e

parts_put : (n m : ℕ) (form : Form) (es : List Entry) → live_parts n es ≡ Some (parts_of form) → live_parts m (with_form n form es) ≡ live_parts m es
parts_put n m form es is = parts_put_if (nat_eq n m) n m form es refl is

-- a change that keeps what each node owns
abbrev pub Keeps_parts : World → World → Type 0
Keeps_parts old new = (m : ℕ) → live_parts m new.nodes ≡ live_parts m old.nodes

pub kept_frees : (s : State) (change : World → World) → Keeps_parts s.world (change s.world) → Frees [] s (silent change s)
kept_frees s change k = record { told = sym (append-nil s.past); nodes = k }

pub abandoned_keeps : (x : Option Named) (w : World) → Keeps_parts w (abandoned_as x w)
abandoned_keeps None w = λ m. refl
abandoned_keeps (Some x) w = λ m. refl

pub wrap_keeps : (n canceler : ℕ) (h : Option Held) (w : World) → Keeps_parts w (without_wrap_in n canceler h w)
wrap_keeps n canceler None w = λ m. refl
wrap_keeps n canceler (Some (Promise root)) w = λ m. refl
wrap_keeps n canceler (Some (CellOf cell)) w = λ m. refl
wrap_keeps n canceler (Some (AskCell cell is_taken)) w = λ m. refl
wrap_keeps n canceler (Some (HubOf hub)) w = λ m. refl
wrap_keeps n canceler (Some (Group error tasks empty)) w = λ m. refl
wrap_keeps n canceler (Some (Canceler wraps)) w = λ m. refl
wrap_keeps n canceler (Some (RequestOf r)) w = λ m. refl

pub branch_keeps : (n hub : ℕ) (o : Option Form) (w : World) → form_at hub w.nodes ≡ o → Keeps_parts w (without_branch_in n hub o w)
branch_keeps n hub None w is = λ m. refl
branch_keeps n hub (Some (Hub content named branches)) w is = λ m. parts_put hub m (Hub content named (dropped n branches)) w.nodes (ap some_parts is)
branch_keeps n hub (Some (Ready outcome)) w is = λ m. refl
branch_keeps n hub (Some Later) w is = λ m. refl
branch_keeps n hub (Some Last) w is = λ m. refl
branch_keeps n hub (Some (Cell outcome)) w is = λ m. refl
branch_keeps n hub (Some (Branch h)) w is = λ m. refl
branch_keeps n hub (Some (Then value error tree)) w is = λ m. refl
branch_keeps n hub (Some (Chain link)) w is = λ m. refl
branch_keeps n hub (Some (Eager content)) w is = λ m. refl
branch_keeps n hub (Some (Wrap canceler content)) w is = λ m. refl
branch_keeps n hub (Some (Side stage)) w is = λ m. refl
branch_keeps n hub (Some (Race left right winner)) w is = λ m. refl
branch_keeps n hub (Some (Join fast sides)) w is = λ m. refl
branch_keeps n hub (Some (Task tree)) w is = λ m. refl
branch_keeps n hub (Some (Request name tree)) w is = λ m. refl

-- under the guard of every hub no hub goes with its last branch
unreferenced : (free : ℕ → State → State) (hub : ℕ) (o : Option Form) (s : State) → free_unreferenced Every free hub o s ≡ s
unreferenced free hub None s = refl
unreferenced free hub (Some (Hub content true branches)) s = refl
unreferenced free hub (Some (Hub content false [])) s = refl
unreferenced free hub (Some (Hub content false (b ∷ bs))) s = refl
unreferenced free hub (Some (Ready outcome)) s = refl
unreferenced free hub (Some Later) s = refl
unreferenced free hub (Some Last) s = refl
unreferenced free hub (Some (Cell outcome)) s = refl
unreferenced free hub (Some (Branch h)) s = refl
unreferenced free hub (Some (Then value error tree)) s = refl
unreferenced free hub (Some (Chain link)) s = refl
unreferenced free hub (Some (Eager content)) s = refl
unreferenced free hub (Some (Wrap canceler content)) s = refl
unreferenced free hub (Some (Side stage)) s = refl
unreferenced free hub (Some (Race left right winner)) s = refl
unreferenced free hub (Some (Join fast sides)) s = refl
unreferenced free hub (Some (Task tree)) s = refl
unreferenced free hub (Some (Request name tree)) s = refl

unlinked_frees : (free : ℕ → State → State) (n : ℕ) (form : Form) (s : State) → Frees [] s (unlinked Every free n form s)
unlinked_frees free n (Cell None) s = kept_frees s (λ w. abandoned_as (ask_of n w.names) w) (abandoned_keeps (ask_of n s.world.names) s.world)
unlinked_frees free n (Cell (Some outcome)) s = nothing s
unlinked_frees free n (Branch hub) s =
    let t = silent (without_branch n hub) s in
    subst (λ (r : State). Frees [] s r) (sym (unreferenced free hub (form_at hub t.world.nodes) t)) (kept_frees s (without_branch n hub) (branch_keeps n hub (form_at hub s.world.nodes) s.world refl))
unlinked_frees free n (Wrap canceler content) s = kept_frees s (λ w. without_wrap_in n canceler (held_at canceler w.names) w) (wrap_keeps n canceler (held_at canceler s.world.names) s.world)
unlinked_frees free n (Hub content named branches) s = nothing s
unlinked_frees free n (Ready outcome) s = nothing s
unlinked_frees free n Later s = nothing s
unlinked_frees free n Last s = nothing s
unlinked_frees free n (Then value error tree) s = nothing s
unlinked_frees free n (Chain link) s = nothing s
unlinked_frees free n (Eager content) s = nothing s
unlinked_frees free n (Side stage) s = nothing s
unlinked_frees free n (Race left right winner) s = nothing s
unlinked_frees free n (Join fast sides) s = nothing s
unlinked_frees free n (Task tree) s = nothing s
unlinked_frees free n (Request name tree) s = nothing s

-- each tree by this bound is freed as it was read
abbrev pub FreesTrees : ℕ → Type 0
FreesTrees k = (n : ℕ) (s : State) → AreApart (tree_numbers k s.world.nodes n) → Frees (tree_numbers k s.world.nodes n) s (free_to Every k n s)

pub list_freed : (k : ℕ) (ps : List ℕ) (s : State) → FreesTrees k → AreApart (flat_map (tree_numbers k s.world.nodes) ps) → Frees (flat_map (tree_numbers k s.world.nodes) ps) s (each_freed (free_to Every k) ps s)
list_freed k [] s frees h = nothing s
list_freed k (p ∷ ps) s frees h =
    let first = tree_numbers k s.world.nodes p in
    let rest = flat_map (tree_numbers k s.world.nodes) ps in
    let t = free_to Every k p s in
    let f = frees p s (apart_left first rest h) in
    let same : flat_map (tree_numbers k t.world.nodes) ps ≡ rest = same_all k s.world.nodes t.world.nodes first ps (same_tree k s.world.nodes t.world.nodes first f.nodes) (apart_out first rest h) in
    both first rest s t (each_freed (free_to Every k) ps t) f
    (subst (λ (ns : List ℕ). Frees ns t (each_freed (free_to Every k) ps t)) same (list_freed k ps t frees (subst AreApart (sym same) (apart_right first rest h))))

form_freed : (k n : ℕ) (o : Option Form) (s : State) → FreesTrees k → AreApart (over_parts (tree_numbers k s.world.nodes) n (some_parts o)) → Frees (over_parts (tree_numbers k s.world.nodes) n (some_parts o)) s (free_form Every (free_to Every k) n o s)
form_freed k n None s frees h = nothing s
form_freed k n (Some form) s frees h =
    let below = flat_map (tree_numbers k s.world.nodes) (parts_of form) in
    let t = each_freed (free_to Every k) (parts_of form) s in
    let u = unlinked Every (free_to Every k) n form t in
    both below (n ∷ []) s u (gone n u)
    (subst (λ (ns : List ℕ). Frees ns s u) (append-nil below) (both below [] s t u (list_freed k (parts_of form) s frees (apart_left below (n ∷ []) h)) (unlinked_frees (free_to Every k) n form t)))
    (gone_frees n u)

pub tree_freed : (k : ℕ) → FreesTrees k
unfolding free_to tree_numbers
tree_freed zero n s h = nothing s
tree_freed (suc k) n s h = form_freed k n (form_at n s.world.nodes) s (tree_freed k) h
