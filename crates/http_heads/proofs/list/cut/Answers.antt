use Rattle.std.proofs.Common.{rules, ◌∙◌, add-one}
use Rattle.std.proofs.lemmas.List.{take_rest}
use Rattle.http_heads.proofs.ValueLemmas.{elements_at, elements_whole}
use Rattle.http_heads.proofs.list.cut.Goals as goal

pub returns-in-Some-clause-elements : goal.returns-in-Some-clause-elements
returns-in-Some-clause-elements c =
    let element = c.trim.ensures in
    elements_at c.args.value.now c.in-Some.comma (search rules) (search rules) (search rules) ∙ simp (take_rest, add-one, element)

pub returns-in-None-clause-elements : goal.returns-in-None-clause-elements
returns-in-None-clause-elements c =
    let element = c.trim-in-None.ensures in
    elements_whole c.args.value.now (search rules) ∙ simp element
