use Rattle.kj_model.specs.Nodes.{owner_of}
use Rattle.promise_listening.proofs.Owners.{owner_listens, owner_passes, owner_event, owner_lives}
use Rattle.promise_listening.proofs.above.look_above.Goals as goal

pub returns-then-is_listening : goal.returns-then-is_listening
returns-then-is_listening g c = record {
  above = λ w st live over. owner_listens w c.args.node.number.0 c.in-Some.owner (owner_of c.args.node.number.0 w.nodes) (c.in-Some.ensures w st live)
      (λ form at. c.if-is_listening.ensures w form st at) over;
  event = λ w st live. owner_event w c.in-Some.owner (owner_of c.args.node.number.0 w.nodes) (c.in-Some.ensures w st live);
}

pub returns-else-is_listening : goal.returns-else-is_listening
returns-else-is_listening g c = record {
  above = λ w st live over. owner_passes w c.args.node.number.0 c.in-Some.owner (owner_of c.args.node.number.0 w.nodes) (c.in-Some.ensures w st live)
      (λ form at. c.if-is_listening.ensures w form st at) over;
  event = λ w st live. owner_lives w c.in-Some.owner (owner_of c.args.node.number.0 w.nodes) (c.in-Some.ensures w st live);
}
