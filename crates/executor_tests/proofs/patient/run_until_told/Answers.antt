use Rattle.std.proofs.Common.{refl, sym, subst, ◌∙◌}
use Rattle.count_lock.specs.Passes.{mine}
use Rattle.executor_core.specs.declared.call.Call.TheVariants.{Next}
use Rattle.executor_core.specs.declared.call.Reply.TheVariants.{Stop}
use Rattle.executor_core.specs.Histories.{entry, Unfinished}
use Rattle.executor_core.proofs.Own.{unfinished_stays}
use Rattle.executor_core.proofs.Opens.{still_unfinished, all_but_between, still_finished_but}
use Rattle.executor_tests.proofs.patient.run_until_told.Goals as goal

pub loop-preserved-in-Start : goal.loop-preserved-in-Start
loop-preserved-in-Start g c = let i = c.loop.invariant in let s = c.in-Start.ensures in let f = c.finish.ensures in let a = s.told.same in let b = f.told.same in (
  record { table = b.table ∙ a.table ∙ i.0.table; constant = b.constant ∙ a.constant ∙ i.0.constant; number = b.number ∙ a.number ∙ i.0.number; from = b.from ∙ a.from ∙ i.0.from; until = b.until ∙ a.until ∙ i.0.until },
  record {
    ready = f.told.ready;
    first = b.number ∙ a.number ∙ i.1.first;
    runs = still_unfinished c.args.request _ _ _ _ _ _ _ s.answer.gains.own f.gains.own s.answer.fresh i.1.runs;
    others = all_but_between c.args.request _ _ _ _ _ _ _ s.answer.gains.own f.gains.own i.1.others;
  },
)

pub returns-in-Stop-clause-runs : goal.returns-in-Stop-clause-runs
returns-in-Stop-clause-runs g c = let i = c.loop.invariant in let s = c.in-Stop.ensures in record {
  ready = s.told.ready;
  first = s.told.same.number ∙ i.1.first;
  runs = subst (λ l. Unfinished l c.args.request) (sym s.answer.gains.own) (unfinished_stays c.args.request (mine c.loop.pass) (entry 0 Next (Stop c.in-Stop.field-0)) refl i.1.runs);
  others = still_finished_but c.args.request _ _ _ s.answer.gains.own (λ r. refl) i.1.others;
}
