-- Trees that go one after another, newest first.
use Rattle.std.proofs.Common.{◌≡◌, ◌∙◌, refl, sym, ap, subst, ℕ, zero, suc, ◌<◌, ◌≤◌, List, [], ◌∷◌, Option, None, Some, Bool, true, false, arith}
use Rattle.std.specs.Prelude.{nat_eq, find, reverse, is_some, cond, ◌||◌}
use Rattle.std.proofs.lemmas.Bool.{false≢true}
use Rattle.std.proofs.lemmas.Bool.Decides.{nat_tests}
use Rattle.std.proofs.lemmas.List.{reverse-append}
use Rattle.std.proofs.lemmas.List.Folds.{list_any-append}
use Rattle.kj_model.specs.Nodes.{Entry, Form, form_at, is_in}
use Rattle.kj_model.specs.World.{World, State, Held, Promise, CellOf, AskCell, HubOf, Group, Canceler, RequestOf, held_at, depth_of}
use Rattle.kj_model.specs.Framed.{stripped}
use Rattle.kj_model.specs.Free.{Guard, free, free_to, free_form, each_freed}
use Rattle.kj_model.specs.Trees.{none_if}
use Rattle.kj_model.specs.Falling.{some_staying, falling}
use Rattle.kj_model.proofs.Falling.{node_frees}
use Rattle.kj_model.proofs.Spared.{form_without_same}
use Rattle.promise_nodes.specs.Kept.{is_live}
use Rattle.promise_nodes.specs.Members.{newest_member}
use Rattle.promise_names.specs.Held.{IsSet}
use Rattle.promise_walks.specs.Living.{live_below}
use Rattle.promise_walks.proofs.Entered.{free_none}

-- ---- one tree

none_stays : (c : Bool) (out : ℕ → Bool) (m : ℕ) (nodes : List Entry) (o : Option Form) → o ≡ None → none_if c (some_staying out m nodes o) ≡ None
none_stays true out m nodes o e = refl
none_stays false out m nodes o e = rw e refl

-- no node comes when a tree goes
pub stays_dead : (g : Guard) (n m : ℕ) (s : State) → form_at m s.world.nodes ≡ None → form_at m (free g n s).world.nodes ≡ None
stays_dead g n m s e =
    let f = node_frees g (depth_of s.world) n s in
    let ns = falling g s.world (depth_of s.world) [] [] n in
    f.forms m ∙ none_stays (is_in m ns) (λ b. is_in b [] || is_in b ns) m s.world.nodes (form_at m s.world.nodes) e

form_dead : (g : Guard) (below : ℕ → State → State) (n : ℕ) (o : Option Form) (s : State) → form_at n s.world.nodes ≡ o → form_at n (free_form g below n o s).world.nodes ≡ None
form_dead g below n None s e = e
form_dead g below n (Some form) s e = form_without_same n _

goes_to : (g : Guard) (d k n : ℕ) (s : State) → d ≡ suc k → form_at n (free_to g d n s).world.nodes ≡ None
unfolding free_to
goes_to g d k n s e = subst (λ (j : ℕ). form_at n (free_to g j n s).world.nodes ≡ None) (sym e) (form_dead g (free_to g k) n (form_at n s.world.nodes) s refl)

-- its root goes
goes : (g : Guard) (n : ℕ) (s : State) → form_at n (free g n s).world.nodes ≡ None
goes g n s = goes_to g (depth_of s.world) s.world.limits.slots n s (omega arith)

-- nothing goes twice
pub not_again : (g : Guard) (n : ℕ) (s : State) → form_at n s.world.nodes ≡ None → free g n s ≡ s
not_again g n s e = free_none g (depth_of s.world) n s e

dead_is : (o : Option Form) → is_some o ≡ false → o ≡ None
dead_is None e = refl
dead_is (Some form) e = absurd (false≢true (sym e))

-- ---- what is found

find_here : (p : ℕ → Bool) (m : ℕ) (ms : List ℕ) → p m ≡ true → find p (m ∷ ms) ≡ Some m
find_here p m ms e = rw e refl

find_later : (p : ℕ → Bool) (m : ℕ) (ms : List ℕ) → p m ≡ false → find p (m ∷ ms) ≡ find p ms
find_later p m ms e = rw e refl

some_same : (m t : ℕ) → ◌≡◌ {A = Option ℕ} (Some m) (Some t) → m ≡ t
some_same m t e = cc

some_none : (m : ℕ) → ◌≡◌ {A = Option ℕ} (Some m) None → ⊥
some_none m e = cc

-- ---- the newest first

newest_case : (g : Guard) (b : Bool) (m t : ℕ) (ms : List ℕ) (s : State) → is_live s.world m ≡ b → find (is_live s.world) (m ∷ ms) ≡ Some t
    → (find (is_live s.world) ms ≡ Some t → each_freed (free g) ms s ≡ each_freed (free g) ms (free g t s))
    → each_freed (free g) (m ∷ ms) s ≡ each_freed (free g) (m ∷ ms) (free g t s)
newest_case g true m t ms s e h more =
    let same : m ≡ t = some_same m t (sym (find_here (is_live s.world) m ms e) ∙ h) in
    ap (λ (j : ℕ). each_freed (free g) ms (free g j s)) same
    ∙ ap (λ (u : State). each_freed (free g) ms u) (sym (subst (λ (j : ℕ). free g j (free g t s) ≡ free g t s) (sym same) (not_again g t (free g t s) (goes g t s))))
newest_case g false m t ms s e h more =
    let dead = dead_is (form_at m s.world.nodes) e in
    ap (λ (u : State). each_freed (free g) ms u) (not_again g m s dead)
    ∙ more (sym (find_later (is_live s.world) m ms e) ∙ h)
    ∙ ap (λ (u : State). each_freed (free g) ms u) (sym (not_again g m (free g t s) (stays_dead g t m s dead)))

-- the newest tree goes first
pub newest_first : (g : Guard) (l : List ℕ) (t : ℕ) (s : State) → find (is_live s.world) l ≡ Some t → each_freed (free g) l s ≡ each_freed (free g) l (free g t s)
newest_first g [] t s h = cc
newest_first g (m ∷ ms) t s h = newest_case g (is_live s.world m) m t ms s refl h (newest_first g ms t s)

none_case : (g : Guard) (b : Bool) (m : ℕ) (ms : List ℕ) (s : State) → is_live s.world m ≡ b → find (is_live s.world) (m ∷ ms) ≡ None → (find (is_live s.world) ms ≡ None → each_freed (free g) ms s ≡ s)
    → each_freed (free g) (m ∷ ms) s ≡ s
none_case g true m ms s e h more = absurd (some_none m (sym (find_here (is_live s.world) m ms e) ∙ h))
none_case g false m ms s e h more = ap (λ (u : State). each_freed (free g) ms u) (not_again g m s (dead_is (form_at m s.world.nodes) e)) ∙ more (sym (find_later (is_live s.world) m ms e) ∙ h)

-- where no tree lives, nothing goes
pub none_first : (g : Guard) (l : List ℕ) (s : State) → find (is_live s.world) l ≡ None → each_freed (free g) l s ≡ s
none_first g [] s h = refl
none_first g (m ∷ ms) s h = none_case g (is_live s.world m) m ms s refl h (none_first g ms s)

-- ---- how many nodes live

one_is : (b : Bool) → cond b 1 0 ≤ 1
one_is true = omega arith
one_is false = omega arith

pub few_first : (k : ℕ) (w : World) → live_below k w ≤ k
few_first zero w = omega arith
few_first (suc k) w = let a = few_first k w in let b = one_is (is_live w k) in omega (arith, a, b)

one_falls : (a b : Bool) → (a ≡ false → b ≡ false) → cond b 1 0 ≤ cond a 1 0
one_falls true b f = one_is b
one_falls false b f = rw (f refl) (omega arith)

none_more : (k : ℕ) (w v : World) → ((m : ℕ) → is_live w m ≡ false → is_live v m ≡ false) → live_below k v ≤ live_below k w
none_more zero w v f = omega arith
none_more (suc k) w v f = let a = none_more k w v f in let b = one_falls (is_live w k) (is_live v k) (f k) in omega (arith, a, b)

fewer_case : (b : Bool) (k t : ℕ) (w v : World) → nat_eq t k ≡ b → ((m : ℕ) → is_live w m ≡ false → is_live v m ≡ false) → t < suc k → is_live w t ≡ true → is_live v t ≡ false → (t < k → live_below k v < live_below k w) → live_below (suc k) v < live_below (suc k) w
fewer_case true k t w v e f below live dead more =
    let same : t ≡ k = grind (arith, nat_tests) in
    let a = none_more k w v f in
    let x : ◌≡◌ {A = ℕ} (cond (is_live v k) 1 0) 0 = ap (λ (b : Bool). cond b 1 0) (subst (λ (j : ℕ). is_live v j ≡ false) same dead) in
    let y : ◌≡◌ {A = ℕ} (cond (is_live w k) 1 0) 1 = ap (λ (b : Bool). cond b 1 0) (subst (λ (j : ℕ). is_live w j ≡ true) same live) in
    omega (arith, a, x, y)
fewer_case false k t w v e f below live dead more =
    let less : t < k = grind (arith, nat_tests) in
    let a = more less in
    let b = one_falls (is_live w k) (is_live v k) (f k) in
    omega (arith, a, b)

fewer : (k t : ℕ) (w v : World) → ((m : ℕ) → is_live w m ≡ false → is_live v m ≡ false) → t < k → is_live w t ≡ true → is_live v t ≡ false → live_below k v < live_below k w
fewer zero t w v f below live dead = absurd (omega (arith, below))
fewer (suc k) t w v f below live dead = fewer_case (nat_eq t k) k t w v refl f below live dead (λ less. fewer k t w v f less live dead)

-- there are fewer when a live one goes with its tree
pub fewer_live : (g : Guard) (k t : ℕ) (s : State) → t < k → is_live s.world t ≡ true → live_below k (free g t s).world < live_below k s.world
fewer_live g k t s below live = fewer k t s.world (free g t s).world (λ m dead. ap is_some (stays_dead g t m s (dead_is (form_at m s.world.nodes) dead))) below live (ap is_some (goes g t s))

some_case : (b : Bool) (k t : ℕ) (w : World) → nat_eq t k ≡ b → t < suc k → is_live w t ≡ true → (t < k → 0 < live_below k w) → 0 < live_below (suc k) w
some_case true k t w e below live more =
    let same : t ≡ k = grind (arith, nat_tests) in
    let y : ◌≡◌ {A = ℕ} (cond (is_live w k) 1 0) 1 = ap (λ (b : Bool). cond b 1 0) (subst (λ (j : ℕ). is_live w j ≡ true) same live) in
    omega (arith, y)
some_case false k t w e below live more = let less : t < k = grind (arith, nat_tests) in let a = more less in omega (arith, a)

-- and where there are none, none lives
pub some_live : (k t : ℕ) (w : World) → t < k → is_live w t ≡ true → 0 < live_below k w
some_live zero t w below live = absurd (omega (arith, below))
some_live (suc k) t w below live = some_case (nat_eq t k) k t w refl below live (λ less. some_live k t w less live)

-- ---- the newest member

found_case : (b : Bool) (p : ℕ → Bool) (m t : ℕ) (ms : List ℕ) → p m ≡ b → find p (m ∷ ms) ≡ Some t → (find p ms ≡ Some t → (p t ≡ true) × (is_in t ms ≡ true)) → (p t ≡ true) × (is_in t (m ∷ ms) ≡ true)
found_case true p m t ms e h more =
    let same : m ≡ t = some_same m t (sym (find_here p m ms e) ∙ h) in
    let here : nat_eq m t ≡ true = grind (arith, nat_tests) in
    (ap p (sym same) ∙ e, rw here refl)
found_case false p m t ms e h more = let r = more (sym (find_later p m ms e) ∙ h) in (r.0, later (nat_eq m t) refl r.1)
  where
    later : (b : Bool) → nat_eq m t ≡ b → is_in t ms ≡ true → is_in t (m ∷ ms) ≡ true
    later true x y = rw x refl
    later false x y = rw x y

found : (p : ℕ → Bool) (t : ℕ) (l : List ℕ) → find p l ≡ Some t → (p t ≡ true) × (is_in t l ≡ true)
found p t [] h = cc
found p t (m ∷ ms) h = found_case (p m) p m t ms refl h (found p t ms)

swap : (a b : Bool) → (a || (b || false)) ≡ (b || a)
swap true true = refl
swap true false = refl
swap false true = refl
swap false false = refl

in_reverse : (n : ℕ) (l : List ℕ) → is_in n (reverse l) ≡ is_in n l
in_reverse n [] = refl
in_reverse n (m ∷ ms) =
    ap (is_in n) (reverse-append (m ∷ []) ms)
    ∙ list_any-append (λ (k : ℕ). nat_eq k n) (reverse ms) (m ∷ [])
    ∙ ap (λ (b : Bool). b || (nat_eq m n || false)) (in_reverse n ms)
    ∙ swap (is_in n ms) (nat_eq m n)

-- the newest member lives, and stands in the list
pub newest_lives : (t : ℕ) (w : World) (ms : List ℕ) → newest_member w ms ≡ Some t → (is_live w t ≡ true) × (is_in t ms ≡ true)
newest_lives t w ms h = let r = found (is_live w) t (reverse ms) h in (r.0, sym (in_reverse t ms) ∙ r.1)

none_newest : (o : Option ℕ) (w : World) (ms : List ℕ) → newest_member w ms ≡ o → ((t : ℕ) → o ≡ Some t → ⊥) → newest_member w ms ≡ None
none_newest None w ms e f = e
none_newest (Some t) w ms e f = absurd (f t refl)

-- no member lives where no node below the next one does
pub no_newest : (k : ℕ) (w : World) (ms : List ℕ) → ((t : ℕ) → is_in t ms ≡ true → t < k) → live_below k w ≤ 0 → newest_member w ms ≡ None
no_newest k w ms below none = none_newest (newest_member w ms) w ms refl (λ t e. let r = newest_lives t w ms e in let some = some_live k t w (below t r.1) r.0 in omega (arith, some, none))

-- ---- sets

stripped_set : (a b : Option Held) → IsSet b → stripped a ≡ stripped b → a ≡ b
stripped_set None (Some (Group error tasks empty)) is e = cc
stripped_set (Some (Promise root)) (Some (Group error tasks empty)) is e = cc
stripped_set (Some (CellOf cell)) (Some (Group error tasks empty)) is e = cc
stripped_set (Some (AskCell cell is_taken)) (Some (Group error tasks empty)) is e = cc
stripped_set (Some (HubOf hub)) (Some (Group error tasks empty)) is e = cc
stripped_set (Some (Group error2 tasks2 empty2)) (Some (Group error tasks empty)) is e = e
stripped_set (Some (Canceler wraps)) (Some (Group error tasks empty)) is e = absurd (no_both wraps error empty tasks e)
  where
    no_both : (wraps : List ℕ) (error empty : Option ℕ) (tasks : List ℕ) → ◌≡◌ {A = Option Held} (Some (Canceler [])) (Some (Group error tasks empty)) → ⊥
    no_both wraps error empty tasks e = cc
stripped_set (Some (RequestOf request)) (Some (Group error tasks empty)) is e = cc
stripped_set a None is e = absurd is
stripped_set a (Some (Promise root)) is e = absurd is
stripped_set a (Some (CellOf cell)) is e = absurd is
stripped_set a (Some (AskCell cell is_taken)) is e = absurd is
stripped_set a (Some (HubOf hub)) is e = absurd is
stripped_set a (Some (Canceler wraps)) is e = absurd is
stripped_set a (Some (RequestOf request)) is e = absurd is

-- a set stays as it is while a tree goes
pub set_stays : (g : Guard) (name t : ℕ) (s : State) → IsSet (held_at name s.world.names) → held_at name (free g t s).world.names ≡ held_at name s.world.names
set_stays g name t s is = stripped_set (held_at name (free g t s).world.names) (held_at name s.world.names) is ((node_frees g (depth_of s.world) t s).frame.at name)
