-- Freeing a tree where each hub keeps its name or a branch elsewhere.
use Rattle.std.proofs.Common.{zero, suc, ◌≡◌, ℕ, List, [], ◌∷◌, ◌++◌, Bool, true, false, not, cond, Option, None, Some, arith, refl, sym, ap, ◌∙◌, subst, ◌||◌}
use Rattle.std.specs.Prelude.{flat_map, nat_eq}
use Rattle.std.specs.List.{list_any}
use Rattle.std.proofs.lemmas.List.{append-nil}
use Rattle.std.proofs.lemmas.Bool.{false≢true}
use Rattle.std.proofs.lemmas.Bool.Decides.{nat_tests}
use Rattle.kj_model.specs.Nodes.{Entry, Form, Content, Ready, Later, Last, Cell, Branch, Then, Chain, Eager, Wrap, Hub, Side, Race, Join, Task, Request, form_at, with_form, without, parts_of, dropped, is_in}
use Rattle.kj_model.specs.World.{World, State, Held, held_at, Promise, CellOf, AskCell, HubOf, Group, Canceler, RequestOf, Named}
use Rattle.kj_model.specs.Changes.{silent, gone}
use Rattle.kj_model.specs.Free.{Guard, free_to, free_form, each_freed, unlinked, free_unreferenced, without_branch, without_branch_in, without_wrap_in, abandoned_as, ask_of}
use Rattle.kj_model.specs.Fire.{branches_of}
use Rattle.kj_model.specs.Trees.{some_parts, over_parts, tree_numbers, AreApart, AreAmong, HubsStay, Frees}
use Rattle.kj_model.proofs.Freed.{apart_left, apart_right, apart_out, same_all, same_tree, both, nothing, gone_frees, kept_frees, abandoned_keeps, wrap_keeps, branch_keeps}
use Rattle.kj_model.proofs.Members.{in_right, in_self}

among_left : (ms ls ns : List ℕ) → AreAmong (ms ++ ls) ns → AreAmong ms ns
among_left [] ls ns h = tt
among_left (m ∷ ms) ls ns h = (h.0, among_left ms ls ns h.1)

among_right : (ms ls ns : List ℕ) → AreAmong (ms ++ ls) ns → AreAmong ls ns
among_right [] ls ns h = h
among_right (m ∷ ms) ls ns h = among_right ms ls ns h.1

-- forms after a node went or got another form
pub no_form : (form : Form) → ◌≡◌ {A = Option Form} None (Some form) → ⊥
no_form form e = cc

form_without_other_more : (n h : ℕ) (e : Entry) (es : List Entry) → nat_eq n h ≡ false → form_at h (without n es) ≡ form_at h es → form_at h (without n (e ∷ es)) ≡ form_at h (e ∷ es)
form_without_other_more n h e es d ih = grind (arith, nat_tests)

pub form_without_other : (n h : ℕ) (es : List Entry) → nat_eq n h ≡ false → form_at h (without n es) ≡ form_at h es
form_without_other n h [] d = refl
form_without_other n h (e ∷ es) d = form_without_other_more n h e es d (form_without_other n h es d)

form_without_same_more : (n : ℕ) (e : Entry) (es : List Entry) → form_at n (without n es) ≡ None → form_at n (without n (e ∷ es)) ≡ None
form_without_same_more n e es ih = grind (arith, nat_tests)

pub form_without_same : (n : ℕ) (es : List Entry) → form_at n (without n es) ≡ None
form_without_same n [] = refl
form_without_same n (e ∷ es) = form_without_same_more n e es (form_without_same n es)

form_without_if : (b : Bool) (n h : ℕ) (form : Form) (es : List Entry) → nat_eq n h ≡ b → form_at h (without n es) ≡ Some form → form_at h es ≡ Some form
form_without_if true n h form es e is = let same : n ≡ h = grind (arith, nat_tests) in absurd (no_form form (sym (subst (λ (x : ℕ). form_at x (without n es) ≡ None) same (form_without_same n es)) ∙ is))
form_without_if false n h form es e is = sym (form_without_other n h es e) ∙ is

form_put_other_more : (n h : ℕ) (form : Form) (e : Entry) (es : List Entry) → nat_eq n h ≡ false → form_at h (with_form n form es) ≡ form_at h es → form_at h (with_form n form (e ∷ es)) ≡ form_at h (e ∷ es)
form_put_other_more n h form e es d ih = grind (arith, nat_tests)

pub form_put_other : (n h : ℕ) (form : Form) (es : List Entry) → nat_eq n h ≡ false → form_at h (with_form n form es) ≡ form_at h es
form_put_other n h form [] d = refl
form_put_other n h form (e ∷ es) d = form_put_other_more n h form e es d (form_put_other n h form es d)

form_put_same_more : (n : ℕ) (form old : Form) (e : Entry) (es : List Entry) → (form_at n es ≡ Some old → form_at n (with_form n form es) ≡ Some form) → form_at n (e ∷ es) ≡ Some old → form_at n (with_form n form (e ∷ es)) ≡ Some form
form_put_same_more n form old e es ih is = grind (arith, nat_tests)

pub form_put_same : (n : ℕ) (form old : Form) (es : List Entry) → form_at n es ≡ Some old → form_at n (with_form n form es) ≡ Some form
form_put_same n form old [] is = absurd (no_form old is)
form_put_same n form old (e ∷ es) is = form_put_same_more n form old e es (form_put_same n form old es) is

-- hubs stay when a node goes, or when one of these branches goes
stay_gone : (ns : List ℕ) (n : ℕ) (nodes : List Entry) → HubsStay ns nodes → HubsStay ns (without n nodes)
stay_gone ns n nodes h = λ hub content branches is. h hub content branches (form_without_if (nat_eq n hub) n hub (Hub content false branches) nodes refl is)

kept_bool : (b p a : Bool) (x : ℕ) (ds : List ℕ) (test : ℕ → Bool) → test x ≡ not p → (b ≡ true → p ≡ true) → (not p || a) ≡ true → (a ≡ true → list_any test ds ≡ true) → list_any test (cond (not b) (x ∷ ds) ds) ≡ true
kept_bool true true a x ds test is g h k = k h
kept_bool true false a x ds test is g h k = absurd (false≢true (g refl))
kept_bool false true a x ds test is g h k = ap (λ t. t || list_any test ds) is ∙ k h
kept_bool false false a x ds test is g h k = ap (λ t. t || list_any test ds) is

pub same_number : (x n : ℕ) → nat_eq x n ≡ true → n ≡ x
same_number x n e = grind (arith, nat_tests)

any_dropped : (n : ℕ) (ns xs : List ℕ) → is_in n ns ≡ true → list_any (λ b. not (is_in b ns)) xs ≡ true → list_any (λ b. not (is_in b ns)) (dropped n xs) ≡ true
any_dropped n ns [] i h = h
any_dropped n ns (x ∷ xs) i h = kept_bool (nat_eq x n) (is_in x ns) (list_any (λ b. not (is_in b ns)) xs) x (dropped n xs) (λ b. not (is_in b ns)) refl (λ e. subst (λ y. is_in y ns ≡ true) (same_number x n e) i) h (any_dropped n ns xs i)

abbrev named_of : Option Form → Bool
named_of (Some (Hub content is_named branches)) = is_named
named_of other = true

stay_put : (b : Bool) (ns : List ℕ) (n hub h : ℕ) (content c : Content) (is_named : Bool) (branches bs : List ℕ) (nodes : List Entry) → is_in n ns ≡ true → HubsStay ns nodes → form_at hub nodes ≡ Some (Hub content is_named branches) → nat_eq hub h ≡ b
    → form_at h (with_form hub (Hub content is_named (dropped n branches)) nodes) ≡ Some (Hub c false bs) → list_any (λ b. not (is_in b ns)) bs ≡ true
stay_put true ns n hub h content c is_named branches bs nodes i stay at e is =
    let same : h ≡ hub = same_number hub h e in
    let here : ◌≡◌ {A = Option Form} (Some (Hub content is_named (dropped n branches))) (Some (Hub c false bs)) = sym (form_put_same hub (Hub content is_named (dropped n branches)) (Hub content is_named branches) nodes at) ∙ subst (λ (x : ℕ). form_at x (with_form hub (Hub content is_named (dropped n branches)) nodes) ≡ Some (Hub c false bs)) same is in
    let unnamed : is_named ≡ false = ap named_of here in
    let rest : dropped n branches ≡ bs = ap branches_of here in
    subst (λ xs. list_any (λ b. not (is_in b ns)) xs ≡ true) rest (any_dropped n ns branches i (stay hub content branches (at ∙ ap (λ (x : Bool). Some (Hub content x branches)) unnamed)))
stay_put false ns n hub h content c is_named branches bs nodes i stay at e is = stay h c bs (sym (form_put_other hub h (Hub content is_named (dropped n branches)) nodes e) ∙ is)

stay_branch : (ns : List ℕ) (n hub : ℕ) (o : Option Form) (w : World) → form_at hub w.nodes ≡ o → is_in n ns ≡ true → HubsStay ns w.nodes → HubsStay ns (without_branch_in n hub o w).nodes
stay_branch ns n hub None w at i stay = stay
stay_branch ns n hub (Some (Hub content is_named branches)) w at i stay = λ h c bs is. stay_put (nat_eq hub h) ns n hub h content c is_named branches bs w.nodes i stay at refl is
stay_branch ns n hub (Some (Ready outcome)) w at i stay = stay
stay_branch ns n hub (Some Later) w at i stay = stay
stay_branch ns n hub (Some Last) w at i stay = stay
stay_branch ns n hub (Some (Cell outcome)) w at i stay = stay
stay_branch ns n hub (Some (Branch h)) w at i stay = stay
stay_branch ns n hub (Some (Then value error tree)) w at i stay = stay
stay_branch ns n hub (Some (Chain link)) w at i stay = stay
stay_branch ns n hub (Some (Eager content)) w at i stay = stay
stay_branch ns n hub (Some (Wrap canceler content)) w at i stay = stay
stay_branch ns n hub (Some (Side stage)) w at i stay = stay
stay_branch ns n hub (Some (Race left right winner)) w at i stay = stay
stay_branch ns n hub (Some (Join fast sides)) w at i stay = stay
stay_branch ns n hub (Some (Task tree)) w at i stay = stay
stay_branch ns n hub (Some (Request name tree)) w at i stay = stay

-- such a hub doesn't go
unreferenced : (guard : Guard) (free : ℕ → State → State) (ns : List ℕ) (hub : ℕ) (o : Option Form) (s : State) → form_at hub s.world.nodes ≡ o → HubsStay ns s.world.nodes → free_unreferenced guard free hub o s ≡ s
unreferenced guard free ns hub None s at stay = refl
unreferenced guard free ns hub (Some (Hub content true branches)) s at stay = refl
unreferenced guard free ns hub (Some (Hub content false [])) s at stay = absurd (false≢true (stay hub content [] at))
unreferenced guard free ns hub (Some (Hub content false (b ∷ bs))) s at stay = refl
unreferenced guard free ns hub (Some (Ready outcome)) s at stay = refl
unreferenced guard free ns hub (Some Later) s at stay = refl
unreferenced guard free ns hub (Some Last) s at stay = refl
unreferenced guard free ns hub (Some (Cell outcome)) s at stay = refl
unreferenced guard free ns hub (Some (Branch h)) s at stay = refl
unreferenced guard free ns hub (Some (Then value error tree)) s at stay = refl
unreferenced guard free ns hub (Some (Chain link)) s at stay = refl
unreferenced guard free ns hub (Some (Eager content)) s at stay = refl
unreferenced guard free ns hub (Some (Wrap canceler content)) s at stay = refl
unreferenced guard free ns hub (Some (Side stage)) s at stay = refl
unreferenced guard free ns hub (Some (Race left right winner)) s at stay = refl
unreferenced guard free ns hub (Some (Join fast sides)) s at stay = refl
unreferenced guard free ns hub (Some (Task tree)) s at stay = refl
unreferenced guard free ns hub (Some (Request name tree)) s at stay = refl

-- such a change, after which the hubs stay as before
abbrev pub Spares : List ℕ → List ℕ → State → State → Type 0
Spares ns ms old new = Frees ms old new × HubsStay ns new.world.nodes

wrap_stays : (ns : List ℕ) (n canceler : ℕ) (h : Option Held) (w : World) → HubsStay ns w.nodes → HubsStay ns (without_wrap_in n canceler h w).nodes
wrap_stays ns n canceler None w stay = stay
wrap_stays ns n canceler (Some (Promise root)) w stay = stay
wrap_stays ns n canceler (Some (CellOf cell)) w stay = stay
wrap_stays ns n canceler (Some (AskCell cell is_taken)) w stay = stay
wrap_stays ns n canceler (Some (HubOf hub)) w stay = stay
wrap_stays ns n canceler (Some (Group error tasks empty)) w stay = stay
wrap_stays ns n canceler (Some (Canceler wraps)) w stay = stay
wrap_stays ns n canceler (Some (RequestOf r)) w stay = stay

abandoned_stays : (ns : List ℕ) (x : Option Named) (w : World) → HubsStay ns w.nodes → HubsStay ns (abandoned_as x w).nodes
abandoned_stays ns None w stay = stay
abandoned_stays ns (Some x) w stay = stay

unlinked_spares : (guard : Guard) (free : ℕ → State → State) (ns : List ℕ) (n : ℕ) (form : Form) (s : State) → is_in n ns ≡ true → HubsStay ns s.world.nodes → Spares ns [] s (unlinked guard free n form s)
unlinked_spares guard free ns n (Cell None) s i stay = (kept_frees s (λ w. abandoned_as (ask_of n w.names) w) (abandoned_keeps (ask_of n s.world.names) s.world), abandoned_stays ns (ask_of n s.world.names) s.world stay)
unlinked_spares guard free ns n (Cell (Some outcome)) s i stay = (nothing s, stay)
unlinked_spares guard free ns n (Branch hub) s i stay =
    let t = silent (without_branch n hub) s in
    let after = stay_branch ns n hub (form_at hub s.world.nodes) s.world refl i stay in
    subst (λ (r : State). Spares ns [] s r) (sym (unreferenced guard free ns hub (form_at hub t.world.nodes) t refl after)) (kept_frees s (without_branch n hub) (branch_keeps n hub (form_at hub s.world.nodes) s.world refl), after)
unlinked_spares guard free ns n (Wrap canceler content) s i stay = (kept_frees s (λ w. without_wrap_in n canceler (held_at canceler w.names) w) (wrap_keeps n canceler (held_at canceler s.world.names) s.world), wrap_stays ns n canceler (held_at canceler s.world.names) s.world stay)
unlinked_spares guard free ns n (Ready outcome) s i stay = (nothing s, stay)
unlinked_spares guard free ns n Later s i stay = (nothing s, stay)
unlinked_spares guard free ns n Last s i stay = (nothing s, stay)
unlinked_spares guard free ns n (Then value error tree) s i stay = (nothing s, stay)
unlinked_spares guard free ns n (Chain link) s i stay = (nothing s, stay)
unlinked_spares guard free ns n (Eager content) s i stay = (nothing s, stay)
unlinked_spares guard free ns n (Hub content is_named branches) s i stay = (nothing s, stay)
unlinked_spares guard free ns n (Side stage) s i stay = (nothing s, stay)
unlinked_spares guard free ns n (Race left right winner) s i stay = (nothing s, stay)
unlinked_spares guard free ns n (Join fast sides) s i stay = (nothing s, stay)
unlinked_spares guard free ns n (Task tree) s i stay = (nothing s, stay)
unlinked_spares guard free ns n (Request name tree) s i stay = (nothing s, stay)

-- each tree by this bound whose nodes are among ns
abbrev pub SparesTrees : Guard → List ℕ → ℕ → Type 0
SparesTrees guard ns k = (n : ℕ) (s : State) → AreApart (tree_numbers k s.world.nodes n) → AreAmong (tree_numbers k s.world.nodes n) ns → HubsStay ns s.world.nodes → Spares ns (tree_numbers k s.world.nodes n) s (free_to guard k n s)

list_spared : (guard : Guard) (ns : List ℕ) (k : ℕ) (ps : List ℕ) (s : State) → SparesTrees guard ns k → AreApart (flat_map (tree_numbers k s.world.nodes) ps) → AreAmong (flat_map (tree_numbers k s.world.nodes) ps) ns → HubsStay ns s.world.nodes → Spares ns (flat_map (tree_numbers k s.world.nodes) ps) s (each_freed (free_to guard k) ps s)
list_spared guard ns k [] s frees h m stay = (nothing s, stay)
list_spared guard ns k (p ∷ ps) s frees h m stay =
    let first = tree_numbers k s.world.nodes p in
    let rest = flat_map (tree_numbers k s.world.nodes) ps in
    let t = free_to guard k p s in
    let f = frees p s (apart_left first rest h) (among_left first rest ns m) stay in
    let same : flat_map (tree_numbers k t.world.nodes) ps ≡ rest = same_all k s.world.nodes t.world.nodes first ps (same_tree k s.world.nodes t.world.nodes first f.0.nodes) (apart_out first rest h) in
    let g : Spares ns rest t (each_freed (free_to guard k) ps t) = subst (λ (ms : List ℕ). Spares ns ms t (each_freed (free_to guard k) ps t)) same (list_spared guard ns k ps t frees (subst AreApart (sym same) (apart_right first rest h)) (subst (λ ms. AreAmong ms ns) (sym same) (among_right first rest ns m)) f.1) in
    (both first rest s t (each_freed (free_to guard k) ps t) f.0 g.0, g.1)

form_spared : (guard : Guard) (ns : List ℕ) (k n : ℕ) (o : Option Form) (s : State) → SparesTrees guard ns k → AreApart (over_parts (tree_numbers k s.world.nodes) n (some_parts o)) → AreAmong (over_parts (tree_numbers k s.world.nodes) n (some_parts o)) ns → HubsStay ns s.world.nodes → Spares ns (over_parts (tree_numbers k s.world.nodes) n (some_parts o)) s (free_form guard (free_to guard k) n o s)
form_spared guard ns k n None s frees h m stay = (nothing s, stay)
form_spared guard ns k n (Some form) s frees h m stay =
    let below = flat_map (tree_numbers k s.world.nodes) (parts_of form) in
    let t = each_freed (free_to guard k) (parts_of form) s in
    let u = unlinked guard (free_to guard k) n form t in
    let a = list_spared guard ns k (parts_of form) s frees (apart_left below (n ∷ []) h) (among_left below (n ∷ []) ns m) stay in
    let b = unlinked_spares guard (free_to guard k) ns n form t (among_right below (n ∷ []) ns m).0 a.1 in
    (both below (n ∷ []) s u (gone n u) (subst (λ (ms : List ℕ). Frees ms s u) (append-nil below) (both below [] s t u a.0 b.0)) (gone_frees n u), stay_gone ns n u.world.nodes b.1)

tree_spared : (guard : Guard) (ns : List ℕ) (k : ℕ) → SparesTrees guard ns k
unfolding free_to tree_numbers
tree_spared guard ns zero n s h m stay = (nothing s, stay)
tree_spared guard ns (suc k) n s h m stay = form_spared guard ns k n (form_at n s.world.nodes) s (tree_spared guard ns k) h m stay

among_more : (ms : List ℕ) (x : ℕ) (ns : List ℕ) → AreAmong ms ns → AreAmong ms (x ∷ ns)
among_more [] x ns h = tt
among_more (m ∷ ms) x ns h = (in_right m (x ∷ []) ns h.0, among_more ms x ns h.1)

among_self : (ns : List ℕ) → AreAmong ns ns
among_self [] = tt
among_self (n ∷ ns) = (in_self n ns, among_more ns n ns (among_self ns))

-- the law, for each guard
pub tree_freed_by : (guard : Guard) (k n : ℕ) (s : State) → AreApart (tree_numbers k s.world.nodes n) → HubsStay (tree_numbers k s.world.nodes n) s.world.nodes → Frees (tree_numbers k s.world.nodes n) s (free_to guard k n s)
tree_freed_by guard k n s h stay = (tree_spared guard (tree_numbers k s.world.nodes n) k n s h (among_self (tree_numbers k s.world.nodes n)) stay).0
