-- One line more, and all of them.
use Rattle.std.proofs.Common.{◌≡◌, ◌<◌, ◌++◌, List, length, get_or, map, take, rules, ap, ◌∙◌}
use Rattle.std.proofs.lemmas.List.{take_all}
use Rattle.kj_model.specs.Log.{Told as ToldLine}
use Rattle.kj_model.specs.Text.{log_text}
use Rattle.promise_steps.specs.Items.{item_of}
use Rattle.promise_steps.specs.declared.told.Told.{Told}
use Rattle.promise_steps.proofs.Printing.{printed_more}
use Rattle.promise_steps.proofs.kept.print_all.Goals as goal

pub loop-item-preserved : goal.loop-item-preserved
loop-item-preserved c bodies =
    let items : List Told = c.as_slice-item-items.result.now in
    let within : c.loop-item.item-index < length items = search rules in
    let is : c.item-item.result ≡ get_or items c.loop-item.item-index c.item-item.result = search rules in
    printed_more (item_of bodies) items c.loop-item.item-index c.item-item.result c.args.text.now c.loop-item.text c.print_told.new.text within is
    (c.loop-item.invariant bodies) (c.in_ok-print_told.ensures bodies)

pub returns : goal.returns
returns c bodies =
    let items : List Told = c.as_slice-item-items.result.now in
    let all : take c.loop-item.item-index items ≡ items = take_all c.loop-item.item-index items c.loop-item-test.false in
    c.loop-item.invariant bodies ∙ ap (λ (ts : List Told). c.args.text.now ++ log_text (map ToldLine (map (item_of bodies) ts))) (all ∙ c.as_slice-item-items.ensures.value)
