use Rattle.std.proofs.Common.{◌∙◌, ap, sym}
use Rattle.name_tree.specs.declared.tree.Node.{Node}
use Rattle.name_tree.proofs.Moved.{moved}
use Rattle.name_tree.proofs.tree.+take.Goals as goal

pub returns-in-Some-clause-set : goal.returns-in-Some-clause-set
returns-in-Some-clause-set g t c =
    let lost = moved c.args.key c.args.tree.now c.in-Fork.node c.deref_mut.result.now c.move_up.new.node c.in-Fork.is c.deref_mut.ensures.value c.in-Some.ensures (ap (λ (n : Node g.row.V.Denot). n.key) c.deref_mut.ensures.value ∙ sym (ap (λ (n : Node g.row.V.Denot). n.key) c.deref.ensures) ∙ c.if-deref-key.true) in
    (lost.lost c.args.cut.at c.args.cut.step c.requires.split).gone

pub returns-in-Some-clause-count : goal.returns-in-Some-clause-count
returns-in-Some-clause-count g t c =
    (moved c.args.key c.args.tree.now c.in-Fork.node c.deref_mut.result.now c.move_up.new.node c.in-Fork.is c.deref_mut.ensures.value c.in-Some.ensures (ap (λ (n : Node g.row.V.Denot). n.key) c.deref_mut.ensures.value ∙ sym (ap (λ (n : Node g.row.V.Denot). n.key) c.deref.ensures) ∙ c.if-deref-key.true)).count

pub returns-in-Some-clause-split : goal.returns-in-Some-clause-split
returns-in-Some-clause-split g t c =
    let lost = moved c.args.key c.args.tree.now c.in-Fork.node c.deref_mut.result.now c.move_up.new.node c.in-Fork.is c.deref_mut.ensures.value c.in-Some.ensures (ap (λ (n : Node g.row.V.Denot). n.key) c.deref_mut.ensures.value ∙ sym (ap (λ (n : Node g.row.V.Denot). n.key) c.deref.ensures) ∙ c.if-deref-key.true) in
    (lost.lost c.args.cut.at c.args.cut.step c.requires.split).split
