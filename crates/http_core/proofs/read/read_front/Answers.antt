use Rattle.std.proofs.Common.{subst, sym, ◌∙◌}
use Rattle.http_heads.specs.declared.field.Head.{Head}
use Rattle.http_heads.specs.Heads.{StartsWithHead}
use Rattle.http_heads.specs.declared.HeadFill.TheVariants.{Whole, More, Crowded, Bad}
use Rattle.http_core.proofs.RequestLemmas.{never_head_is_fault}
use Rattle.http_core.proofs.ReadLemmas.{reads_as, goes_on_as, begins_whole}
use Rattle.http_core.proofs.read.read_front.Goals as goal

pub returns-in-More-clause-opens : goal.returns-in-More-clause-opens
returns-in-More-clause-opens c from within =
    let goes = goes_on_as c.args.bytes.now _ _ More c.in-More.is c.in_ok-fill_head.ensures.goes_on in
    (reads_as c.args.bytes.now _ _ More c.in-More.is c.in_ok-fill_head.ensures.reads, goes.0, goes.1)

pub returns-in-Crowded-clause-opens : goal.returns-in-Crowded-clause-opens
returns-in-Crowded-clause-opens c from within =
    let goes = goes_on_as c.args.bytes.now _ _ Crowded c.in-Crowded.is c.in_ok-fill_head.ensures.goes_on in
    (reads_as c.args.bytes.now _ _ Crowded c.in-Crowded.is c.in_ok-fill_head.ensures.reads, goes.0, goes.1)

pub returns-in-Bad-clause-opens : goal.returns-in-Bad-clause-opens
returns-in-Bad-clause-opens c from within some = never_head_is_fault c.args.bytes.now some (reads_as c.args.bytes.now _ _ Bad c.in-Bad.is c.in_ok-fill_head.ensures.reads)

pub returns-in_ok-step-in-Whole-clause-opens : goal.returns-in_ok-step-in-Whole-clause-opens
returns-in_ok-step-in-Whole-clause-opens c from within =
    begins_whole from c.args.bytes.now c.behind_head-behind.result.now c.new-head.result c.in-Whole.len c.in_ok-step-in-Whole.step c.behind_head-behind.ensures
    (subst (λ (h : Head). StartsWithHead c.args.bytes.now h c.in-Whole.len) (sym (c.new-head.ensures ∙ c.take_head.ensures)) (reads_as c.args.bytes.now _ _ (Whole c.in-Whole.len) c.in-Whole.is c.in_ok-fill_head.ensures.reads)) within c.in_ok-step-in-Whole.ensures.steps
