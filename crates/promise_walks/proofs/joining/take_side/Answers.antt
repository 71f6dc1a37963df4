use Rattle.std.proofs.Common.{◌∙◌, sym, ap, subst, List}
use Rattle.promise_walks.specs.declared.pending.Pending.{Pending}
use Rattle.promise_walks.specs.declared.pending.Pending.TheVariants.{Part}
use Rattle.promise_walks.specs.declared.sums.Sum.{Sum}
use Rattle.promise_walks.specs.Shapes.{numbers_of}
use Rattle.promise_walks.specs.Climbs.{ArePlain, all_summed}
use Rattle.promise_walks.proofs.Climbed.{summed_known, plain_push}
use Rattle.promise_walks.proofs.joining.take_side.Goals as goal

pub returns-in-Known-clause-taken : goal.returns-in-Known-clause-taken
returns-in-Known-clause-taken g c value s stands =
    let side = c.args.side.number.0 in
    summed_known value c.args.sum side (numbers_of c.args.behind) c.in-Known.outcome s (c.in-Known.ensures.look s.world stands value side s)
    ∙ ap (λ (z : Sum). all_summed value z (numbers_of c.args.behind) s) (sym c.plus.ensures)

pub returns-in-Fired-clause-taken : goal.returns-in-Fired-clause-taken
returns-in-Fired-clause-taken g c value s stands = c.in-Fired.ensures.look s.world stands

pub returns-in-Fired-clause-plain : goal.returns-in-Fired-clause-plain
returns-in-Fired-clause-plain g c =
    let is_plain = g.L.Land.is_plain c.args.land.now in
    let f : Pending = Part c.args.side c.in-Fired.tree c.args.behind c.args.sum in
    subst (λ (l : List Pending). ArePlain is_plain l) (sym c.put_last.ensures.items) (plain_push is_plain c.args.stack.now.items f c.requires.plain c.in-Fired.ensures.plain)
