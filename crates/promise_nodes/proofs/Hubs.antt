-- The hubs of a world, as nodes come, go and change.
use Rattle.std.proofs.Common.{◌≡◌, ◌∙◌, refl, sym, ap, ℕ, List, [], ◌∷◌, ◌++◌, Option, None, Some, Bool, true, false, cond, not, arith, subst}
use Rattle.std.specs.Prelude.{◌==◌, nat_eq, is_some}
use Rattle.std.specs.List.{AllByRecursion}
use Rattle.std.proofs.lemmas.Bool.Decides.{nat_tests}
use Rattle.kj_model.specs.Nodes.{Entry, Form, Ready, Later, Last, Cell, Branch, Then, Chain, Eager, Wrap, Hub, Side, Race, Join, Task, Request, form_at, formed_if, with_form, without, dropped}
use Rattle.kj_model.specs.World.{World}
use Rattle.kj_model.specs.Free.{without_branch, without_branch_in}
use Rattle.kj_model.specs.Effects.{with_branch_in}
use Rattle.kj_model.specs.Calls.{hubs_of}
use Rattle.promise_nodes.specs.Kept.{is_hub}
use Rattle.promise_nodes.specs.Once.{AreOnce}

first_form : (n : ℕ) (f : Form) (es : List Entry) → hubs_of (record { number = n; form = f } ∷ es) ≡ cond (is_hub f) (n ∷ hubs_of es) (hubs_of es)
first_form n (Ready outcome) es = refl
first_form n Later es = refl
first_form n Last es = refl
first_form n (Cell outcome) es = refl
first_form n (Branch hub) es = refl
first_form n (Then value error tree) es = refl
first_form n (Chain link) es = refl
first_form n (Eager content) es = refl
first_form n (Wrap canceler content) es = refl
first_form n (Hub content is_named branches) es = refl
first_form n (Side stage) es = refl
first_form n (Race left right winner) es = refl
first_form n (Join fast sides) es = refl
first_form n (Task tree) es = refl
first_form n (Request name tree) es = refl

-- the first node is one of them, or not
pub hubs_first : (e : Entry) (es : List Entry) → hubs_of (e ∷ es) ≡ cond (is_hub e.form) (e.number ∷ hubs_of es) (hubs_of es)
hubs_first e es = first_form e.number e.form es

-- ---- a node goes

without_case : (b c : Bool) (n : ℕ) (e : Entry) (es : List Entry) → (e.number == n) ≡ b → is_hub e.form ≡ c → hubs_of (without n es) ≡ dropped n (hubs_of es)
    → hubs_of (cond (not b) (e ∷ without n es) (without n es)) ≡ dropped n (cond c (e.number ∷ hubs_of es) (hubs_of es))
without_case true true n e es p q h = rw p h
without_case true false n e es p q h = h
without_case false true n e es p q h = rw p (hubs_first e (without n es) ∙ ap (λ (b : Bool). cond b (e.number ∷ hubs_of (without n es)) (hubs_of (without n es))) q ∙ ap (λ (l : List ℕ). e.number ∷ l) h)
without_case false false n e es p q h = hubs_first e (without n es) ∙ ap (λ (b : Bool). cond b (e.number ∷ hubs_of (without n es)) (hubs_of (without n es))) q ∙ h

-- it is one of them no longer
pub hubs_without : (n : ℕ) (es : List Entry) → hubs_of (without n es) ≡ dropped n (hubs_of es)
hubs_without n [] = refl
hubs_without n (e ∷ es) = without_case (e.number == n) (is_hub e.form) n e es refl refl (hubs_without n es) ∙ ap (dropped n) (sym (hubs_first e es))

-- ---- a node comes

more_case : (c : Bool) (n : ℕ) (xs ys zs : List ℕ) → xs ≡ ys ++ zs → cond c (n ∷ xs) xs ≡ cond c (n ∷ ys) ys ++ zs
more_case true n xs ys zs h = ap (λ (l : List ℕ). n ∷ l) h
more_case false n xs ys zs h = h

-- it is the last of them, or not
pub hubs_more : (e : Entry) (es : List Entry) → hubs_of (es ++ e ∷ []) ≡ hubs_of es ++ cond (is_hub e.form) (e.number ∷ []) []
hubs_more e [] = hubs_first e []
hubs_more e (x ∷ xs) =
    hubs_first x (xs ++ e ∷ [])
    ∙ more_case (is_hub x.form) x.number (hubs_of (xs ++ e ∷ [])) (hubs_of xs) (cond (is_hub e.form) (e.number ∷ []) []) (hubs_more e xs)
    ∙ ap (λ (l : List ℕ). l ++ cond (is_hub e.form) (e.number ∷ []) []) (sym (hubs_first x xs))

-- ---- a node gets another form

none_some : (f : Form) → ◌≡◌ {A = Option Form} None (Some f) → ⊥
none_some f e = cc

some_same : (f g : Form) → ◌≡◌ {A = Option Form} (Some f) (Some g) → f ≡ g
some_same f g e = cc

here_case : (n : ℕ) (e : Entry) (es : List Entry) → (e.number == n) ≡ true → form_at n (e ∷ es) ≡ Some e.form
here_case n e es p = rw p refl

there_case : (n : ℕ) (e : Entry) (es : List Entry) → (e.number == n) ≡ false → form_at n (e ∷ es) ≡ form_at n es
there_case n e es p = rw p refl

nobody_case : (b : Bool) (n : ℕ) (f : Form) (e : Entry) (es : List Entry) → (e.number == n) ≡ b → form_at n (e ∷ es) ≡ None → (form_at n es ≡ None → with_form n f es ≡ es) → formed_if b f e ∷ with_form n f es ≡ e ∷ es
nobody_case true n f e es p h k = absurd (none_some e.form (sym h ∙ here_case n e es p))
nobody_case false n f e es p h k = ap (λ (l : List Entry). e ∷ l) (k (sym (there_case n e es p) ∙ h))

nobody : (n : ℕ) (f : Form) (es : List Entry) → form_at n es ≡ None → with_form n f es ≡ es
nobody n f [] h = refl
nobody n f (e ∷ es) h = nobody_case (e.number == n) n f e es refl h (nobody n f es)

same_number : (a n : ℕ) → nat_eq a n ≡ true → a ≡ n
same_number a n h = grind (arith, nat_tests)

put_case : (b : Bool) (n : ℕ) (f old : Form) (e : Entry) (es : List Entry) → (e.number == n) ≡ b → AreOnce (e ∷ es) → form_at n (e ∷ es) ≡ Some old → is_hub f ≡ is_hub old
    → (form_at n es ≡ Some old → hubs_of (with_form n f es) ≡ hubs_of es) → hubs_of (formed_if b f e ∷ with_form n f es) ≡ hubs_of (e ∷ es)
put_case true n f old e es p once at kind h =
    let rest = nobody n f es (ap (λ (k : ℕ). form_at k es) (sym (same_number e.number n p)) ∙ once.0) in
    let form : e.form ≡ old = some_same e.form old (sym (here_case n e es p) ∙ at) in
    ap (λ (l : List Entry). hubs_of (formed_if true f e ∷ l)) rest
    ∙ first_form e.number f es
    ∙ ap (λ (c : Bool). cond c (e.number ∷ hubs_of es) (hubs_of es)) (kind ∙ ap is_hub (sym form))
    ∙ sym (hubs_first e es)
put_case false n f old e es p once at kind h =
    hubs_first e (with_form n f es)
    ∙ ap (λ (l : List ℕ). cond (is_hub e.form) (e.number ∷ l) l) (h (sym (there_case n e es p) ∙ at))
    ∙ sym (hubs_first e es)

-- a hub that stays one, or another node that becomes none
pub hubs_put : (n : ℕ) (f old : Form) (es : List Entry) → AreOnce es → form_at n es ≡ Some old → is_hub f ≡ is_hub old → hubs_of (with_form n f es) ≡ hubs_of es
hubs_put n f old [] once at kind = absurd (none_some old at)
hubs_put n f old (e ∷ es) once at kind = put_case (e.number == n) n f old e es refl once at kind (λ there. hubs_put n f old es once.1 there kind)

left_case : (n hub : ℕ) (o : Option Form) (w : World) → AreOnce w.nodes → form_at hub w.nodes ≡ o → hubs_of (without_branch_in n hub o w).nodes ≡ hubs_of w.nodes
left_case n hub (Some (Hub content is_named branches)) w once at = hubs_put hub (Hub content is_named (dropped n branches)) (Hub content is_named branches) w.nodes once at refl
left_case n hub None w once at = refl
left_case n hub (Some _) w once at = refl

-- a branch leaves its hub
pub hubs_left : (n hub : ℕ) (w : World) → AreOnce w.nodes → hubs_of (without_branch n hub w).nodes ≡ hubs_of w.nodes
hubs_left n hub w once = left_case n hub (form_at hub w.nodes) w once refl

joined_case : (n hub : ℕ) (o : Option Form) (w : World) → AreOnce w.nodes → form_at hub w.nodes ≡ o → hubs_of (with_branch_in n hub o w).nodes ≡ hubs_of w.nodes
joined_case n hub (Some (Hub content is_named branches)) w once at = hubs_put hub (Hub content is_named (branches ++ n ∷ [])) (Hub content is_named branches) w.nodes once at refl
joined_case n hub None w once at = refl
joined_case n hub (Some _) w once at = refl

-- a branch joins its hub
pub hubs_joined : (n hub : ℕ) (w : World) → AreOnce w.nodes → hubs_of (with_branch_in n hub (form_at hub w.nodes) w).nodes ≡ hubs_of w.nodes
hubs_joined n hub w once = joined_case n hub (form_at hub w.nodes) w once refl

-- ---- they live

live_case : (b : Bool) (m : ℕ) (e : Entry) (es : List Entry) → (e.number == m) ≡ b → is_some (form_at m es) ≡ true → is_some (form_at m (e ∷ es)) ≡ true
live_case true m e es p h = ap (λ (o : Option Form). is_some o) (here_case m e es p)
live_case false m e es p h = ap (λ (o : Option Form). is_some o) (there_case m e es p) ∙ h

live_more : (e : Entry) (es : List Entry) (xs : List ℕ) → AllByRecursion (λ (m : ℕ). is_some (form_at m es) ≡ true) xs → AllByRecursion (λ (m : ℕ). is_some (form_at m (e ∷ es)) ≡ true) xs
live_more e es [] h = tt
live_more e es (x ∷ xs) h = (live_case (e.number == x) x e es refl h.0, live_more e es xs h.1)

self : (n : ℕ) → nat_eq n n ≡ true
self n = grind (arith, nat_tests)

live_first : (c : Bool) (e : Entry) (es : List Entry) (xs : List ℕ) → AllByRecursion (λ (m : ℕ). is_some (form_at m (e ∷ es)) ≡ true) xs → AllByRecursion (λ (m : ℕ). is_some (form_at m (e ∷ es)) ≡ true) (cond c (e.number ∷ xs) xs)
live_first true e es xs h = (ap (λ (o : Option Form). is_some o) (here_case e.number e es (self e.number)), h)
live_first false e es xs h = h

-- each of them is a live node
pub hubs_live : (es : List Entry) → AllByRecursion (λ (m : ℕ). is_some (form_at m es) ≡ true) (hubs_of es)
hubs_live [] = tt
hubs_live (e ∷ es) = subst (λ (l : List ℕ). AllByRecursion (λ (m : ℕ). is_some (form_at m (e ∷ es)) ≡ true) l) (sym (hubs_first e es)) (live_first (is_hub e.form) e es (hubs_of es) (live_more e es (hubs_of es) (hubs_live es)))
