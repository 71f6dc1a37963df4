-- The owner of a node, from one link that each node keeps.
use Rattle.std.proofs.Common.{◌≡◌, ℕ, List, [], ◌∷◌, Option, None, Some, Bool, true, false, cond, refl, sym, ap, ◌∙◌, arith, subst}
use Rattle.std.specs.Prelude.{◌==◌}
use Rattle.std.proofs.lemmas.Bool.{false≢true}
use Rattle.std.proofs.lemmas.Bool.Decides.{nat_tests}
use Rattle.kj_base.specs.declared.nodes.Node.{Node}
use Rattle.kj_model.specs.Nodes.{Form, Entry as Seen, form_at, is_in, parts_of, owner_of}
use Rattle.kj_model.specs.Fire.{branches_of}
use Rattle.promise_nodes.specs.Shown.{shown}
use Rattle.promise_nodes.specs.Once.{AreOnce}
use Rattle.promise_graph.specs.declared.fields.Marks.{Marks}
use Rattle.promise_graph.specs.Slots.{number_of, number_at, Finds, slot_of}
use Rattle.promise_graph.specs.Kept.{AreNumbered, taker_at}
use Rattle.promise_graph.specs.Standing.{HasNodes, AreOwned}
use Rattle.promise_graph.proofs.Lists.{some_same, none_some}
use Rattle.promise_graph.proofs.Numbered.{slot_is}
use Rattle.promise_graph.proofs.Forms.{parts_any}
use Rattle.promise_graph.proofs.Put.{node_of}

pub here : (e : Seen) (es : List Seen) → form_at e.number (e ∷ es) ≡ Some e.form
here e es = let t : (e.number == e.number) ≡ true = grind (arith, nat_tests) in rw t refl

pub there_case : (b : Bool) (a : ℕ) (f : Form) (e : Seen) (es : List Seen) → (e.number == a) ≡ b → form_at e.number es ≡ None → form_at a es ≡ Some f → form_at a (e ∷ es) ≡ Some f
there_case true a f e es t n h = absurd (let same : e.number ≡ a = grind (arith, nat_tests) in none_some f (sym n ∙ ap (λ (k : ℕ). form_at k es) same ∙ h))
there_case false a f e es t n h = rw t h

step : (n m : ℕ) (f : Form) (b c : Bool) (e : Seen) (es : List Seen) → is_in n (parts_of e.form) ≡ b → (e.number == m) ≡ c → (b ≡ true → c ≡ true) → (c ≡ true → b ≡ true)
    → form_at m (e ∷ es) ≡ Some f → (form_at m es ≡ Some f → owner_of n es ≡ Some (record { number = m; form = f })) → owner_of n (e ∷ es) ≡ Some (record { number = m; form = f })
step n m f true true e es p q h k g l =
    let same : e.number ≡ m = grind (arith, nat_tests) in
    let form : e.form ≡ f = some_same e.form f (sym (here e es) ∙ ap (λ (j : ℕ). form_at j (e ∷ es)) same ∙ g) in
    ap (λ (x : Bool). cond x (Some e) (owner_of n es)) p
    ∙ ap (λ (j : ℕ). let x : Seen = record { number = j; form = e.form } in Some x) same
    ∙ ap (λ (y : Form). let x : Seen = record { number = m; form = y } in Some x) form
step n m f true false e es p q h k g l = absurd (false≢true (h refl))
step n m f false true e es p q h k g l = absurd (false≢true (k refl))
step n m f false false e es p q h k g l = ap (λ (x : Bool). cond x (Some e) (owner_of n es)) p ∙ l (rw q at g)

-- each node that owns n is node m, and node m owns it: then it is the owner
pub owner_found : (n m : ℕ) (f : Form) (es : List Seen) → AreOnce es → ((a : ℕ) (f : Form) → form_at a es ≡ Some f → is_in n (parts_of f) ≡ true → a ≡ m) → is_in n (parts_of f) ≡ true → form_at m es ≡ Some f
    → owner_of n es ≡ Some (record { number = m; form = f })
owner_found n m f [] once all own g = absurd (none_some f g)
owner_found n m f (e ∷ es) once all own g =
    step n m f (is_in n (parts_of e.form)) (e.number == m) e es refl refl
    (λ h. let same = all e.number e.form (here e es) h in grind (arith, nat_tests))
    (λ h. let same : e.number ≡ m = grind (arith, nat_tests) in
    let form : e.form ≡ f = some_same e.form f (sym (here e es) ∙ ap (λ (j : ℕ). form_at j (e ∷ es)) same ∙ g) in ap (λ (y : Form). is_in n (parts_of y)) form ∙ own)
    g
    (λ k. owner_found n m f es once.1 (λ a x y. all a x (there_case (e.number == a) a x e es refl once.0 y)) own k)

none_case : (n : ℕ) (b : Bool) (e : Seen) (es : List Seen) → is_in n (parts_of e.form) ≡ b → (b ≡ true → ⊥) → owner_of n es ≡ None → owner_of n (e ∷ es) ≡ None
none_case n true e es p h k = absurd (h refl)
none_case n false e es p h k = ap (λ (x : Bool). cond x (Some e) (owner_of n es)) p ∙ k

-- no node owns n
pub owner_none : (n : ℕ) (es : List Seen) → AreOnce es → ((a : ℕ) (f : Form) → form_at a es ≡ Some f → is_in n (parts_of f) ≡ true → ⊥) → owner_of n es ≡ None
owner_none n [] once not = refl
owner_none n (e ∷ es) once not = none_case n (is_in n (parts_of e.form)) e es refl (λ h. not e.number e.form (here e es) h) (owner_none n es once.1 (λ a f g. not a f (there_case (e.number == a) a f e es refl once.0 g)))

-- a node of the world is live, and its form is shown
pub live_out : (R : Type 0) (at : ℕ → Option Node) (m : Marks) (es : List Seen) → AreNumbered at m → HasNodes at m.rings es → (a : ℕ) (f : Form) → form_at a es ≡ Some f
    → ((s : ℕ) (node : Node) → at s ≡ Some node → node.number.0 ≡ a → f ≡ shown (branches_of (form_at a es)) node.form → R) → R
live_out R at m es k has a f g out = by_slot (slot_of a m.numbers.items) (slot_is at m k a)
  where
    by_slot : (o : Option ℕ) → Finds at a o → R
    by_slot None h = absurd (none_some f (sym (has.absent a h) ∙ g))
    by_slot (Some s) h =
        let node = node_of (at s) a h in
        let number : node.0.number.0 ≡ a = some_same node.0.number.0 a (sym (ap number_of node.1) ∙ h) in
        out s node.0 node.1 number (some_same f _ (sym g ∙ subst (λ (j : ℕ). form_at j es ≡ Some (shown (branches_of (form_at j es)) node.0.form)) number (has.there s node.0 node.1)))

-- who owns a live node took it
pub owner_took : (at : ℕ → Option Node) (m : Marks) (es : List Seen) → AreNumbered at m → HasNodes at m.rings es → AreOwned at m → (t n : ℕ) → number_at at t ≡ Some n → (a : ℕ) (f : Form) → form_at a es ≡ Some f → is_in n (parts_of f) ≡ true → a ≡ taker_at m t
owner_took at m es k has owned t n l a f g i = live_out (a ≡ taker_at m t) at m es k has a f g (λ s node h number form.
    sym number ∙ sym (owned.owner_is s t n node h l (sym (ap (is_in n) (ap parts_of form ∙ parts_any (branches_of (form_at a es)) node.form)) ∙ i)))
