use Rattle.std.proofs.Common.{◌∙◌, ℕ, refl, subst, sym}
use Rattle.kj_model.specs.Fire.{awaited_renamed}
use Rattle.promise_nodes.specs.Kept.{tree_replaced}
use Rattle.promise_names.specs.Held.{AreFree, roots_replaced}
use Rattle.promise_firing.proofs.Replacing.{free_replaced, replaced_lists}
use Rattle.promise_firing.proofs.chain.give_place.Goals as goal

pub returns-clause-stands : goal.returns-clause-stands
returns-clause-stands g c w both live place =
    let old = c.args.chain.number.0 in
    let new = c.args.root.number.0 in
    let v = tree_replaced old new w in
    let u = record v { awaited = awaited_renamed old new v.awaited } in
    let nodes = g.met.N.Nodes.names_free c.rename_awaited.new.nodes u (roots_replaced old new v) refl (replaced_lists old new v) (c.rename_awaited.ensures.stands v (c.replace.ensures.stands w both.0 live place)) in
    let names = c.rename.ensures.stands v (g.met.M.Names.nodes_free c.args.names.now w v refl both.1) in
    (nodes, names)

pub returns-clause-free : goal.returns-clause-free
returns-clause-free g c =
    let taken = g.N.Nodes.is_taken c.args.nodes.now in
    let after = g.N.Nodes.is_taken c.rename_awaited.new.nodes in
    let falls = c.rename_awaited.ensures.taken in
    subst (λ (next : ℕ). AreFree (g.M.Names.roots c.rename.new.self) after next) (sym (c.rename_awaited.ensures.next ∙ c.replace.ensures.next))
    (free_replaced (g.M.Names.roots c.args.names.now) (g.M.Names.roots c.rename.new.self) taken after (g.N.Nodes.next c.args.nodes.now) c.args.chain.number.0 c.args.root.number.0 c.requires.free c.requires.loose
    c.rename.ensures.roots
    (λ root n h. c.replace.ensures.root root n (falls n h))
    (λ n h out. c.replace.ensures.taken n (falls n h) out))
