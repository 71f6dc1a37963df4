use Rattle.std.proofs.Common.{◌≡◌, true, Some, ap, sym, ◌∙◌, arith}
use Rattle.std.specs.Prelude.{nat_lt}
use Rattle.std.proofs.lemmas.Bool.Decides.{nat_tests}
use Rattle.promise_nodes.specs.Kept.{IsBranch}
use Rattle.promise_graph.specs.Kept.{hub_of, is_there, is_plain_at, is_plain_node}
use Rattle.promise_graph.proofs.Lists.{both}
use Rattle.promise_graph.proofs.Numbered.{slot_live, one_slot}
use Rattle.promise_graph.proofs.Falling.{listed_out}
use Rattle.promise_graph.proofs.Forms.{branch_shown, plain_shown}
use Rattle.promise_graph.proofs.finding.form.Goals as goal

pub returns-in_default-clause-listed : goal.returns-in_default-clause-listed
returns-in_default-clause-listed g c h = listed_out ⊥ (g.St.Store.node_at c.args.g.now.store) c.args.g.now.marks c.requires.sound.numbered c.args.link.number.0 h (λ s l b d. c.in_default.ensures s l)

pub returns-clause-listed : goal.returns-clause-listed
returns-clause-listed g c h =
    let at = g.St.Store.node_at c.args.g.now.store in
    let n = c.args.link.number.0 in
    let k = c.requires.sound.numbered in
    listed_out (IsBranch (Some c.get.result.now.form)) at c.args.g.now.marks k n h (λ s l b d.
    branch_shown c.get.result.now.form (sym (ap is_there (ap hub_of (ap at (one_slot at c.args.g.now.marks k s c.in-Some.slot.0 n l c.in-Some.ensures) ∙ c.get.ensures))) ∙ b))

pub returns-clause-plain : goal.returns-clause-plain
returns-clause-plain g c h =
    let at = g.St.Store.node_at c.args.g.now.store in
    let m = c.args.g.now.marks in
    let n = c.args.link.number.0 in
    let k = c.requires.sound.numbered in
    let low = (k.given c.in-Some.slot.0 n c.in-Some.ensures).1 in
    let below : nat_lt n m.next ≡ true = grind (arith, nat_tests) in
    both (nat_lt n m.next) _ below (ap (is_plain_at at) (slot_live at m k c.in-Some.slot.0 n c.in-Some.ensures) ∙ ap is_plain_node c.get.ensures ∙ plain_shown c.get.result.now.form h)
