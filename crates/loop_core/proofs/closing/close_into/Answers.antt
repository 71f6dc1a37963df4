use Rattle.std.proofs.Common.{◌≡◌, ◌∙◌, ◌≤◌, ℕ, List, [], Bool, true, ap, sym, subst, arith}
use Rattle.kj_base.specs.declared.numbers.NodeId.{NodeId}
use Rattle.kj_model.specs.Calls.{close}
use Rattle.kj_model.specs.World.{World}
use Rattle.promise_commands.specs.Telling.{Telling}
use Rattle.promise_walks.specs.Walks.{Both, Does}
use Rattle.loop_core.specs.Frees.{frees_told, numbers_of}
use Rattle.loop_core.proofs.Ending.{closed_by, same_room}
use Rattle.loop_core.proofs.closing.close_into.Goals as goal

pub returns : goal.returns
returns g c =
    let Old : World → Type 0 = g.N.Nodes.stands c.args.ground.nodes in
    let OldNames : World → Type 0 = g.M.Names.stands c.args.ground.names in
    let New : World → Type 0 = g.N.Nodes.stands c.close_on.new.ground.nodes in
    let NewNames : World → Type 0 = g.M.Names.stands c.close_on.new.ground.names in
    let first = c.new-frees.result in
    let last = c.close_on.new.steps in
    let made = c.new-frees.ensures in
    let room : last.room ≡ first.room = same_room first.asked last.asked last.room first.room made.asked last.bounded first.bounded c.close_on.ensures.lacks in
    let told : frees_told first.whole first.room (numbers_of first.freed.items) ≡ frees_told true last.room [] =
    ap (λ (whole : Bool). frees_told whole first.room (numbers_of first.freed.items)) made.whole
    ∙ ap (λ (n : ℕ). frees_told true n (numbers_of first.freed.items)) (sym room)
    ∙ ap (λ (xs : List NodeId). frees_told true last.room (numbers_of xs)) (made.freed ∙ c.requires.empty) in
    record {
      closed = λ s old. closed_by g.N.Nodes.rule Old OldNames New NewNames last.whole last.room (numbers_of last.freed.items)
          (subst (λ (t : Telling). Does (Both Old OldNames) (Both New NewNames) close (λ s. s) t (frees_told last.whole last.room (numbers_of last.freed.items))) told c.close_on.ensures.does)
          s old (least (g.met.N.Nodes.slots_are c.args.ground.nodes s.world old.stands.0 ∙ sym (ap g.N.Nodes.slots c.nodes.ensures) ∙ sym c.slots.ensures ∙ sym made.room ∙ sym room));
    }
  where
    least : {m n : ℕ} → m ≡ n → m ≤ n
    least e = omega (arith, e)
