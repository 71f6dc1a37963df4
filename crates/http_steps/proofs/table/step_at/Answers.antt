use Rattle.std.proofs.Common.{◌≡◌, sym, subst, ◌∙◌, None, Some, length, slice_set, Option, List, ℕ, slice_index_or, ◌<◌, Bool}
use Rattle.std.proofs.lemmas.List.{get_or_default}
use Rattle.promise_commands.specs.Commands.{action_of}
use Rattle.http_stream.specs.Steps.{Held}
use Rattle.http_steps.specs.Table.{held_at, tellings, StepsAt}
use Rattle.http_steps.specs.Actions.{connection_action}
use Rattle.http_steps.proofs.table.step_at.Goals as goal

stood : {C : Type 0} (places : List (Option (Held C))) (place : ℕ) (now : Option (Held C)) (held : Held C)
    → place < length places → now ≡ slice_index_or places place now → now ≡ Some held → held_at places place ≡ Some held
stood places place now held there read is = get_or_default places place None now there ∙ sym read ∙ is

pub returns-in-Err-clause-lacks : goal.returns-in-Err-clause-lacks
returns-in-Err-clause-lacks g c = record {
  held = c.in-Some.connection;
  after = c.step_connection.new.connection;
  stood = stood c.args.table.now.items c.args.place c.index_mut.result.now c.in-Some.connection c.requires.there c.index_mut.ensures.value c.in-Some.is;
  places = λ i. slice_set c.args.table.now.items c.args.place (Some c.step_connection.new.connection);
  leaves = c.in-Err.ensures.leaves;
  service = c.step_connection.ensures.service;
}

pub returns-in-Ok-clause-steps : goal.returns-in-Ok-clause-steps
returns-in-Ok-clause-steps g c =
    let at = stood c.args.table.now.items c.args.place c.index_mut.result.now c.in-Some.connection c.requires.there c.index_mut.ensures.value c.in-Some.is in
    subst (λ (h : Option (Held g.row.C.Denot)). StepsAt (tellings g.V.Service.told g.C.Stream.told g.C.Stream.faults g.C.Stream.pauses) c.args.step c.args.drained c.args.place h
    c.args.table.now.items (slice_set c.args.table.now.items c.args.place (Some c.step_connection.new.connection)) c.args.service.now c.step_connection.new.service
    (action_of c.connection_action.result)) (sym at)
    (record {
      after = c.step_connection.new.connection;
      following = c.in-Ok.next;
      step_is = c.in-Ok.ensures.steps;
      places = λ i. slice_set c.args.table.now.items c.args.place (Some c.step_connection.new.connection);
      service = c.in-Ok.ensures.service;
      action = subst (λ (w : Bool). action_of c.connection_action.result ≡ connection_action w c.args.drained c.args.place c.in-Ok.next) c.waits-waited.ensures c.connection_action.ensures;
    })
