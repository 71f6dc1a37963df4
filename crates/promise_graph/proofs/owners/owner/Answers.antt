use Rattle.std.proofs.Common.{◌≡◌, ◌∙◌, sym, ap, ℕ, subst, Some, None, Option, arith, true}
use Rattle.std.proofs.lemmas.Bool.{false≢true}
use Rattle.kj_base.specs.declared.nodes.Link.{Link}
use Rattle.kj_model.specs.Nodes.{Form, Entry, form_at, owner_of, is_in, parts_of}
use Rattle.kj_model.specs.Fire.{branches_of}
use Rattle.promise_nodes.specs.Shown.{shown, SeesOwner}
use Rattle.promise_graph.specs.Slots.{number_of}
use Rattle.promise_graph.specs.Kept.{taker_at}
use Rattle.promise_graph.proofs.Lists.{some_same, none_some}
use Rattle.promise_graph.proofs.Falling.{untaken}
use Rattle.promise_graph.proofs.Forms.{parts_any}
use Rattle.promise_graph.proofs.Owning.{owner_none, owner_found, owner_took}
use Rattle.promise_graph.proofs.owners.owner.Goals as goal

sees_none : (n : ℕ) (es : _) → owner_of n es ≡ None → SeesOwner es None (owner_of n es)
sees_none n es h = subst (λ (o : Option Entry). SeesOwner es None o) (sym h) tt

pub returns-in_default-find-clause-owner : goal.returns-in_default-find-clause-owner
returns-in_default-find-clause-owner g c w st live =
    let at = g.St.Store.node_at c.args.g.now.store in
    let m = c.args.g.now.marks in
    let n = c.args.node.number.0 in
    let taker : c.taker-taker.result.number.0 ≡ taker_at m c.in-Some.slot.0 = ap (λ (l : Link). l.number.0) c.taker-taker.ensures in
    sees_none n w.nodes (owner_none n w.nodes st.seen.nodes.once (λ a f h i.
    none_some f (sym (st.seen.nodes.absent c.taker-taker.result.number.0 c.in_default-find.ensures)
    ∙ ap (λ (j : ℕ). form_at j w.nodes) (taker ∙ sym (owner_took at m w.nodes c.requires.sound.numbered st.seen.nodes st.owned c.in-Some.slot.0 n c.in-Some.ensures a f h i)) ∙ h)))

pub returns-then-has_part-clause-owner : goal.returns-then-has_part-clause-owner
returns-then-has_part-clause-owner g c w st live =
    let at = g.St.Store.node_at c.args.g.now.store in
    let m = c.args.g.now.marks in
    let n = c.args.node.number.0 in
    let t = c.taker-taker.result.number.0 in
    let taker : t ≡ taker_at m c.in-Some.slot.0 = ap (λ (l : Link). l.number.0) c.taker-taker.ensures in
    let node = c.get.result.now in
    let number : node.number.0 ≡ t = some_same node.number.0 t (sym (ap number_of c.get.ensures) ∙ c.in-Some-find.ensures) in
    let bs = branches_of (form_at t w.nodes) in
    let f : Form = shown bs node.form in
    let found : form_at t w.nodes ≡ Some f = subst (λ (j : ℕ). form_at j w.nodes ≡ Some (shown (branches_of (form_at j w.nodes)) node.form)) number (st.seen.nodes.there c.in-Some-find.owner.0 node c.get.ensures) in
    let own : is_in n (parts_of f) ≡ true = ap (is_in n) (parts_any bs node.form) ∙ sym c.has_part.ensures ∙ c.if-has_part.true in
    let is = owner_found n t f w.nodes st.seen.nodes.once (λ a x h i. owner_took at m w.nodes c.requires.sound.numbered st.seen.nodes st.owned c.in-Some.slot.0 n c.in-Some.ensures a x h i ∙ sym taker) own found in
    subst (λ (o : Option Entry). SeesOwner w.nodes (Some (record { slot = c.in-Some-find.owner; number = c.taker-taker.result.number })) o) (sym is) (refl_of t, found)
  where
    refl_of : (n : ℕ) → n ≡ n
    refl_of n = λ i. n

pub returns-then-has_part-clause-root : goal.returns-then-has_part-clause-root
returns-then-has_part-clause-root g c free =
    let at = g.St.Store.node_at c.args.g.now.store in
    let m = c.args.g.now.marks in
    let k = c.requires.sound.numbered in
    let taker : c.taker-taker.result.number.0 ≡ taker_at m c.in-Some.slot.0 = ap (λ (l : Link). l.number.0) c.taker-taker.ensures in
    let none = untaken at m k c.in-Some.slot.0 c.args.node.number.0 c.in-Some.ensures free in
    let positive = (k.given c.in-Some-find.owner.0 c.taker-taker.result.number.0 c.in-Some-find.ensures).0 in
    absurd (omega (arith, positive, taker, none))

pub returns-clause-owner : goal.returns-clause-owner
returns-clause-owner g c w st live =
    let at = g.St.Store.node_at c.args.g.now.store in
    let m = c.args.g.now.marks in
    let n = c.args.node.number.0 in
    let t = c.taker-taker.result.number.0 in
    let taker : t ≡ taker_at m c.in-Some.slot.0 = ap (λ (l : Link). l.number.0) c.taker-taker.ensures in
    let node = c.get.result.now in
    let number : node.number.0 ≡ t = some_same node.number.0 t (sym (ap number_of c.get.ensures) ∙ c.in-Some-find.ensures) in
    let bs = branches_of (form_at t w.nodes) in
    let f : Form = shown bs node.form in
    let found : form_at t w.nodes ≡ Some f = subst (λ (j : ℕ). form_at j w.nodes ≡ Some (shown (branches_of (form_at j w.nodes)) node.form)) number (st.seen.nodes.there c.in-Some-find.owner.0 node c.get.ensures) in
    sees_none n w.nodes (owner_none n w.nodes st.seen.nodes.once (λ a x h i.
    let same : a ≡ t = owner_took at m w.nodes c.requires.sound.numbered st.seen.nodes st.owned c.in-Some.slot.0 n c.in-Some.ensures a x h i ∙ sym taker in
    let form : x ≡ f = some_same x f (sym h ∙ ap (λ (j : ℕ). form_at j w.nodes) same ∙ found) in
    false≢true (sym c.if-has_part.false ∙ c.has_part.ensures ∙ ap (is_in n) (sym (parts_any bs node.form) ∙ ap parts_of (sym form)) ∙ i)))
