use Rattle.std.proofs.Common.{[], ◌++◌, refl, sym, ◌∙◌}
use Rattle.http_core.specs.declared.read.RequestRead.TheVariants.{More, Whole, Fault}
use Rattle.http_core.proofs.ServeLemmas.{serving_as, serve_first, serve_more, serve_fault, serve_closed, serve_on, serves_err, grows_none, grows_on}
use Rattle.http_core.proofs.connection.serve.Goals as goal

pub loop-step-init : goal.loop-step-init
loop-step-init g c = record {
  ready = c.in_ok-step.ensures.ready;
  serving = λ bytes reading. serve_first g.S.Service.told bytes c.args.piece.now c.args.output.now c.in_ok-step.step (c.in_ok-step.ensures.steps bytes reading);
  grows = grows_none c.args.output.now;
}

pub returns-in-More-clause-serves : goal.returns-in-More-clause-serves
returns-in-More-clause-serves g c bytes reading =
    serve_more g.S.Service.told (bytes ++ c.args.piece.now) c.args.output.now c.loop-step.output c.loop-step.rest.now c.in-More.part
    (serving_as g.S.Service.told (bytes ++ c.args.piece.now) c.args.output.now c.loop-step.output c.loop-step.rest.now _ (More c.in-More.part) c.in-More.is (c.loop-step.invariant.serving bytes reading))

pub returns-in-Fault-clause-serves : goal.returns-in-Fault-clause-serves
returns-in-Fault-clause-serves g c bytes reading =
    serve_fault g.S.Service.told (bytes ++ c.args.piece.now) c.args.output.now c.loop-step.output c.loop-step.rest.now c.push_fault.new.out c.in-Fault.code c.in_ok-push_fault-in-Fault.ensures.ok
    (serving_as g.S.Service.told (bytes ++ c.args.piece.now) c.args.output.now c.loop-step.output c.loop-step.rest.now _ (Fault c.in-Fault.code) c.in-Fault.is (c.loop-step.invariant.serving bytes reading))

pub returns-then-not-branch-clause-serves : goal.returns-then-not-branch-clause-serves
returns-then-not-branch-clause-serves g c bytes reading =
    serve_closed g.S.Service.told (bytes ++ c.args.piece.now) c.args.output.now c.loop-step.output c.loop-step.rest.now c.answer.new.output c.in-Whole.request c.in-Whole.left
    (sym c.in_ok-answer-in-Whole.ensures.persists ∙ c.if-not-branch.true) c.in_ok-answer-in-Whole.ensures.ok
    (serving_as g.S.Service.told (bytes ++ c.args.piece.now) c.args.output.now c.loop-step.output c.loop-step.rest.now _ (Whole c.in-Whole.request c.in-Whole.left) c.in-Whole.is (c.loop-step.invariant.serving bytes reading))

pub returns-in_err-step-in-Whole-clause-serves : goal.returns-in_err-step-in-Whole-clause-serves
returns-in_err-step-in-Whole-clause-serves g c bytes reading =
    serves_err g.S.Service.told (bytes ++ c.args.piece.now) c.args.output.now c.answer.new.output c.from_residual-in_err-step-in-Whole.result c.from_residual-in_err-step-in-Whole.ensures.0
    (serve_on g.S.Service.told (bytes ++ c.args.piece.now) c.args.output.now c.loop-step.output c.loop-step.rest.now c.answer.new.output c.last-rest.result.now c.in-Whole.request c.in-Whole.left
    (sym c.in_ok-answer-in-Whole.ensures.persists ∙ c.if-not-branch.false) c.in_ok-answer-in-Whole.ensures.ok c.last-rest.ensures.end
    (serving_as g.S.Service.told (bytes ++ c.args.piece.now) c.args.output.now c.loop-step.output c.loop-step.rest.now _ (Whole c.in-Whole.request c.in-Whole.left) c.in-Whole.is (c.loop-step.invariant.serving bytes reading))).0

pub loop-step-preserved : goal.loop-step-preserved
loop-step-preserved g c = record {
  ready = c.in_ok-step-in-Whole.ensures.ready;
  serving = λ bytes reading. (serve_on g.S.Service.told (bytes ++ c.args.piece.now) c.args.output.now c.loop-step.output c.loop-step.rest.now c.answer.new.output c.last-rest.result.now c.in-Whole.request c.in-Whole.left
      (sym c.in_ok-answer-in-Whole.ensures.persists ∙ c.if-not-branch.false) c.in_ok-answer-in-Whole.ensures.ok c.last-rest.ensures.end
      (serving_as g.S.Service.told (bytes ++ c.args.piece.now) c.args.output.now c.loop-step.output c.loop-step.rest.now _ (Whole c.in-Whole.request c.in-Whole.left) c.in-Whole.is (c.loop-step.invariant.serving bytes reading))).1
      c.in_ok-step-in-Whole.step (c.in_ok-step-in-Whole.ensures.steps [] refl);
  grows = grows_on c.args.output.now c.loop-step.output c.answer.new.output c.loop-step.invariant.grows c.answer.ensures.grows;
}
