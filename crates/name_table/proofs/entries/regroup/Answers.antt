use Rattle.std.proofs.Common.{sym, ap, ◌∙◌}
use Rattle.std.specs.Prelude.{slice_set}
use Rattle.promise_names.specs.declared.names.Held.{Held}
use Rattle.name_table.proofs.Names.{entry_as}
use Rattle.name_table.proofs.Regrouped.{set_there, none_there}
use Rattle.name_table.proofs.entries.regroup.Goals as goal

pub returns-in-Some-clause-items : goal.returns-in-Some-clause-items
returns-in-Some-clause-items c =
    let es = c.args.entries.now.items in
    let place = c.place_of-place.result in
    ap (λ (h : Held). slice_set es place (entry_as c.args.group h)) c.held_with_tasks.ensures
    ∙ set_there c.args.group c.args.tasks c.args.empty es place c.in-Some.held c.requires
    c.place_of-place.ensures.place (sym c.in-Some.ensures)

pub returns-in_default-clause-items : goal.returns-in_default-clause-items
returns-in_default-clause-items c =
    none_there c.args.group c.args.tasks c.args.empty c.args.entries.now.items c.place_of-place.result
    c.requires c.place_of-place.ensures.place (sym c.in_default.ensures)
