-- Hubs that go one after another.
use Rattle.std.proofs.Common.{◌≡◌, ◌∙◌, refl, sym, ap, subst, ℕ, ◌<◌, ◌≤◌, List, [], ◌∷◌, Option, None, Some, Bool, true, false, cond, not, arith}
use Rattle.std.specs.Prelude.{◌==◌, ◌&&◌, ◌||◌, nat_eq, filter, find}
use Rattle.std.specs.List.{AllByRecursion}
use Rattle.std.proofs.lemmas.Bool.{false≢true}
use Rattle.std.proofs.lemmas.Bool.Decides.{nat_tests}
use Rattle.kj_base.specs.Queue.{first_of}
use Rattle.kj_model.specs.Nodes.{Entry, Form, Hub, form_at, is_in}
use Rattle.kj_model.specs.World.{World, State, depth_of}
use Rattle.kj_model.specs.Free.{Every, each_freed}
use Rattle.kj_model.specs.Owned.{numbers}
use Rattle.kj_model.specs.Trees.{none_if}
use Rattle.kj_model.specs.Falling.{form_staying, some_staying, falling}
use Rattle.kj_model.specs.Calls.{hubs_of, hubs_closed}
use Rattle.kj_model.proofs.Falling.{node_frees}
use Rattle.promise_nodes.specs.Kept.{is_hub, is_live}
use Rattle.promise_nodes.specs.Once.{AreOnce}
use Rattle.promise_nodes.proofs.Hubs.{hubs_first, hubs_live}
use Rattle.promise_walks.specs.Living.{live_below}
use Rattle.promise_firing.specs.Closed.{free_hub}
use Rattle.promise_walks.proofs.Newest.{stays_dead, not_again, newest_first, some_live}

-- ---- hubs by number

-- whether it is a live hub
abbrev is_hub_at : Option Form → Bool
is_hub_at None = false
is_hub_at (Some form) = is_hub form

self : (n : ℕ) → nat_eq n n ≡ true
self n = grind (arith, nat_tests)

none_some : (form : Form) → ◌≡◌ {A = Option Form} None (Some form) → ⊥
none_some form e = cc

here : (n : ℕ) (e : Entry) (es : List Entry) → (e.number == n) ≡ true → form_at n (e ∷ es) ≡ Some e.form
here n e es p = rw p refl

there : (n : ℕ) (e : Entry) (es : List Entry) → (e.number == n) ≡ false → form_at n (e ∷ es) ≡ form_at n es
there n e es p = rw p refl

turned : (a b : ℕ) → nat_eq a b ≡ false → nat_eq b a ≡ false
turned a b h = grind (arith, nat_tests)

not_here : (b : Bool) (n : ℕ) (e : Entry) (es : List Entry) → (e.number == n) ≡ b → form_at n (e ∷ es) ≡ None → ((e.number == n) ≡ false) × (form_at n es ≡ None)
not_here true n e es p h = absurd (none_some e.form (sym h ∙ here n e es p))
not_here false n e es p h = (p, sym (there n e es p) ∙ h)

-- a number that no node has is none of theirs
others : (n : ℕ) (es : List Entry) → form_at n es ≡ None → AllByRecursion (λ (m : ℕ). nat_eq n m ≡ false) (numbers es)
others n [] h = tt
others n (e ∷ es) h = let q = not_here (e.number == n) n e es refl h in (turned e.number n q.0, others n es q.1)

same_kept : (p q : ℕ → Bool) (xs : List ℕ) → AllByRecursion (λ x. p x ≡ q x) xs → filter p xs ≡ filter q xs
same_kept p q [] h = refl
same_kept p q (x ∷ xs) h = ap (λ (b : Bool). cond b (x ∷ filter p xs) (filter p xs)) h.0 ∙ ap (λ (l : List ℕ). cond (q x) (x ∷ l) l) (same_kept p q xs h.1)

all_there : (e : Entry) (es : List Entry) (ns : List ℕ) → AllByRecursion (λ (m : ℕ). nat_eq e.number m ≡ false) ns → AllByRecursion (λ (m : ℕ). is_hub_at (form_at m es) ≡ is_hub_at (form_at m (e ∷ es))) ns
all_there e es [] h = tt
all_there e es (n ∷ ns) h = (ap is_hub_at (sym (there n e es h.0)), all_there e es ns h.1)

-- the hubs are the numbers whose nodes are hubs
by_numbers : (es : List Entry) → AreOnce es → hubs_of es ≡ filter (λ (n : ℕ). is_hub_at (form_at n es)) (numbers es)
by_numbers [] once = refl
by_numbers (e ∷ es) once =
    let p : ℕ → Bool = λ n. is_hub_at (form_at n (e ∷ es)) in
    let rest : hubs_of es ≡ filter p (numbers es) = by_numbers es once.1 ∙ same_kept (λ n. is_hub_at (form_at n es)) p (numbers es) (all_there e es (numbers es) (others e.number es once.0)) in
    let first : p e.number ≡ is_hub e.form = ap is_hub_at (here e.number e es (self e.number)) in
    hubs_first e es
    ∙ ap (λ (l : List ℕ). cond (is_hub e.form) (e.number ∷ l) l) rest
    ∙ ap (λ (b : Bool). cond b (e.number ∷ filter p (numbers es)) (filter p (numbers es))) (sym first)

-- ---- those that stay

staying_hub : (out : ℕ → Bool) (n : ℕ) (nodes : List Entry) (form : Form) → is_hub (form_staying out n nodes form) ≡ is_hub form
staying_hub out n nodes (Hub content is_named branches) = refl
staying_hub out n nodes _ = refl

hub_then : (b : Bool) (out : ℕ → Bool) (n : ℕ) (nodes : List Entry) (o : Option Form) → is_hub_at (none_if b (some_staying out n nodes o)) ≡ (is_hub_at o && not b)
hub_then true out n nodes None = refl
hub_then true out n nodes (Some form) = never (is_hub form)
  where
    never : (b : Bool) → false ≡ (b && false)
    never true = refl
    never false = refl
hub_then false out n nodes None = refl
hub_then false out n nodes (Some form) = staying_hub out n nodes form ∙ always (is_hub form)
  where
    always : (b : Bool) → b ≡ (b && true)
    always true = refl
    always false = refl

both_case : (b c d : Bool) (x : ℕ) (xs ys : List ℕ) (q p : ℕ → Bool) → p x ≡ b → q x ≡ c → d ≡ (b && c) → filter (λ y. p y && q y) ys ≡ xs → xs ≡ filter q (filter p ys) → cond d (x ∷ xs) xs ≡ filter q (cond b (x ∷ filter p ys) (filter p ys))
both_case true true d x xs ys q p e f g h k = ap (λ (t : Bool). cond t (x ∷ xs) xs) g ∙ ap (λ (l : List ℕ). x ∷ l) k ∙ sym (ap (λ (t : Bool). cond t (x ∷ filter q (filter p ys)) (filter q (filter p ys))) f)
both_case true false d x xs ys q p e f g h k = ap (λ (t : Bool). cond t (x ∷ xs) xs) g ∙ k ∙ sym (ap (λ (t : Bool). cond t (x ∷ filter q (filter p ys)) (filter q (filter p ys))) f)
both_case false c d x xs ys q p e f g h k = ap (λ (t : Bool). cond t (x ∷ xs) xs) g ∙ k

twice : (p q : ℕ → Bool) (xs : List ℕ) → filter (λ x. p x && q x) xs ≡ filter q (filter p xs)
twice p q [] = refl
twice p q (x ∷ xs) = both_case (p x) (q x) (p x && q x) x (filter (λ y. p y && q y) xs) xs q p refl refl refl refl (twice p q xs)

any : (p q : ℕ → Bool) → ((x : ℕ) → p x ≡ q x) → (xs : List ℕ) → AllByRecursion (λ x. p x ≡ q x) xs
any p q h [] = tt
any p q h (x ∷ xs) = (h x, any p q h xs)

swap_case : (b c : Bool) → (b && c) ≡ (c && b)
swap_case true true = refl
swap_case true false = refl
swap_case false true = refl
swap_case false false = refl

absorb : (b c : Bool) → (c && (b && c)) ≡ (b && c)
absorb true true = refl
absorb true false = refl
absorb false true = refl
absorb false false = refl

-- the hubs that are left are those that didn't go
hubs_after : (h : ℕ) (s : State) → AreOnce s.world.nodes → AreOnce (free_hub h s).world.nodes → hubs_of (free_hub h s).world.nodes ≡ filter (λ n. not (is_in n (falling Every s.world (depth_of s.world) [] [] h))) (hubs_of s.world.nodes)
hubs_after h s once after =
    let f = node_frees Every (depth_of s.world) h s in
    let ns = falling Every s.world (depth_of s.world) [] [] h in
    let es = s.world.nodes in
    let fs = (free_hub h s).world.nodes in
    let stays : ℕ → Bool = λ n. not (is_in n ns) in
    let was : ℕ → Bool = λ n. is_hub_at (form_at n es) in
    let is : ℕ → Bool = λ n. is_hub_at (form_at n fs) in
    let each : (n : ℕ) → is n ≡ (was n && stays n) = λ n. ap is_hub_at (f.forms n) ∙ hub_then (is_in n ns) (λ b. is_in b [] || is_in b ns) n es (form_at n es) in
    by_numbers fs after
    ∙ ap (filter is) f.frame.numbers
    ∙ sym (twice stays is (numbers es))
    ∙ same_kept (λ n. stays n && is n) (λ n. was n && stays n) (numbers es) (any (λ n. stays n && is n) (λ n. was n && stays n) (λ n. ap (λ (b : Bool). stays n && b) (each n) ∙ absorb (was n) (stays n)) (numbers es))
    ∙ twice was stays (numbers es)
    ∙ ap (filter stays) (sym (by_numbers es once))

-- ---- they go

skip_case : (b : Bool) (p : ℕ → Bool) (n : ℕ) (ns : List ℕ) (s : State) → p n ≡ b → ((m : ℕ) → p m ≡ false → form_at m s.world.nodes ≡ None)
    → (each_freed free_hub ns (free_hub n s) ≡ each_freed free_hub (filter p ns) (free_hub n s)) → each_freed free_hub (n ∷ ns) s ≡ each_freed free_hub (cond b (n ∷ filter p ns) (filter p ns)) s
skip_case true p n ns s e dead more = more
skip_case false p n ns s e dead more = more ∙ ap (each_freed free_hub (filter p ns)) (not_again Every n s (dead n e))

-- nothing is done for those that went
skipped : (p : ℕ → Bool) (ns : List ℕ) (s : State) → ((m : ℕ) → p m ≡ false → form_at m s.world.nodes ≡ None) → each_freed free_hub ns s ≡ each_freed free_hub (filter p ns) s
skipped p [] s dead = refl
skipped p (n ∷ ns) s dead = skip_case (p n) p n ns s refl dead (skipped p ns (free_hub n s) (λ m e. stays_dead Every n m s (dead m e)))

some_same : (a b : ℕ) → ◌≡◌ {A = Option ℕ} (Some a) (Some b) → a ≡ b
some_same a b e = cc

none_number : (b : ℕ) → ◌≡◌ {A = Option ℕ} None (Some b) → ⊥
none_number b e = cc

first_in : (h : ℕ) (ns : List ℕ) → first_of ns ≡ Some h → is_in h ns ≡ true
first_in h [] e = absurd (none_number h e)
first_in h (n ∷ ns) e = let t : (n == h) ≡ true = ap (λ (k : ℕ). nat_eq k h) (some_same n h e) ∙ self h in ap (λ (b : Bool). b || is_in h ns) t

first_live : (h : ℕ) (w : World) (ns : List ℕ) → AllByRecursion (λ (m : ℕ). is_live w m ≡ true) ns → first_of ns ≡ Some h → (is_live w h ≡ true) × (find (is_live w) ns ≡ Some h)
first_live h w [] all e = absurd (none_number h e)
first_live h w (n ∷ ns) all e =
    let same = some_same n h e in
    (subst (λ (k : ℕ). is_live w k ≡ true) same all.0, ap (λ (b : Bool). cond b (Some n) (find (is_live w) ns)) all.0 ∙ e)

not_false : (b : Bool) → not b ≡ false → b ≡ true
not_false true e = refl
not_false false e = absurd (false≢true (sym e))

-- a hub stands among them, and lives
pub oldest_lives : (h : ℕ) (w : World) → first_of (hubs_of w.nodes) ≡ Some h → (is_live w h ≡ true) × (is_in h (hubs_of w.nodes) ≡ true)
oldest_lives h w e = ((first_live h w (hubs_of w.nodes) (hubs_live w.nodes) e).0, first_in h (hubs_of w.nodes) e)

-- the oldest hub goes first
pub oldest_goes : (h : ℕ) (s : State) → AreOnce s.world.nodes → AreOnce (free_hub h s).world.nodes → first_of (hubs_of s.world.nodes) ≡ Some h → hubs_closed (free_hub h s) ≡ hubs_closed s
oldest_goes h s once after e =
    let ns = falling Every s.world (depth_of s.world) [] [] h in
    let stays : ℕ → Bool = λ n. not (is_in n ns) in
    let hs = hubs_of s.world.nodes in
    let t = free_hub h s in
    let f = node_frees Every (depth_of s.world) h s in
    let dead : (m : ℕ) → stays m ≡ false → form_at m t.world.nodes ≡ None = λ m p. f.forms m ∙ ap (λ (b : Bool). none_if b (some_staying (λ b. is_in b [] || is_in b ns) m s.world.nodes (form_at m s.world.nodes))) (not_false (is_in m ns) p) in
    ap (λ (l : List ℕ). each_freed free_hub l t) (hubs_after h s once after)
    ∙ sym (skipped stays hs t dead)
    ∙ sym (newest_first Every hs h s (first_live h s.world hs (hubs_live s.world.nodes) e).1)

none_case : (l : List ℕ) (s : State) → first_of l ≡ None → each_freed free_hub l s ≡ s
none_case [] s e = refl
none_case (n ∷ ns) s e = absurd (none_number n (sym e))

-- where no hub lives, nothing goes
pub no_hub_goes : (s : State) → first_of (hubs_of s.world.nodes) ≡ None → hubs_closed s ≡ s
no_hub_goes s e = none_case (hubs_of s.world.nodes) s e

none_first : (o : Option ℕ) (w : World) → first_of (hubs_of w.nodes) ≡ o → ((h : ℕ) → o ≡ Some h → ⊥) → first_of (hubs_of w.nodes) ≡ None
none_first None w e f = e
none_first (Some h) w e f = absurd (f h refl)

-- no hub lives where no node below the next one does
pub no_oldest : (k : ℕ) (w : World) → ((h : ℕ) → is_in h (hubs_of w.nodes) ≡ true → h < k) → live_below k w ≤ 0 → first_of (hubs_of w.nodes) ≡ None
no_oldest k w below none = none_first (first_of (hubs_of w.nodes)) w refl (λ h e. let r = oldest_lives h w e in let some = some_live k h w (below h r.1) r.0 in omega (arith, some, none))
