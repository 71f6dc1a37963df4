use Rattle.std.proofs.Common.{ap, ◌≡◌, ◌∙◌, ◌<◌, length, arith, sym}
use Rattle.std.proofs.lemmas.Bool.{eqb-true, eq-eqb}
use Rattle.linked_lists.specs.Lists.{list_of, next_of, previous_of}
use Rattle.linked_lists.proofs.Paths.{goes_back, without_alone}
use Rattle.linked_lists.proofs.Reading.{size_is, members_are, next_read, alone_list, list_alone}
use Rattle.linked_lists.proofs.LinkedLists.is_alone.Goals as goal

pub index-requires : goal.index-requires
index-requires c = omega (arith, c.self.inside.links.ok.0, size_is c.self.inside c.args.self.now c.self.view_is)

pub returns-clause-alone : goal.returns-clause-alone
returns-clause-alone c =
    let links = c.self.inside.links.items in
    let within : c.args.number < length links = omega (arith, size_is c.self.inside c.args.self.now c.self.view_is) in
    let is = next_read links c.args.number c.index.result.now within c.index.ensures in
    let ring = c.self.invariant.rings c.args.number in
    rw (members_are c.self.inside c.args.self.now c.args.number c.self.view_is) (
      (λ t. alone_list (next_of links) (previous_of links) (length links) c.args.number (list_of links c.args.number) ring (is ∙ eqb-true c.index.result.now.next c.args.number t)),
      (λ e. eq-eqb c.index.result.now.next c.args.number (sym is ∙ list_alone (next_of links) (previous_of links) (length links) c.args.number (list_of links c.args.number) ring e)),
    )

pub returns-clause-unlisted : goal.returns-clause-unlisted
returns-clause-unlisted c = λ t head d.
    let links = c.self.inside.links.items in
    let within : c.args.number < length links = omega (arith, size_is c.self.inside c.args.self.now c.self.view_is) in
    let is = next_read links c.args.number c.index.result.now within c.index.ensures in
    let self_next : next_of links c.args.number ≡ c.args.number = is ∙ eqb-true c.index.result.now.next c.args.number t in
    let self_previous : previous_of links c.args.number ≡ c.args.number = ap (previous_of links) (sym self_next) ∙ goes_back (next_of links) (previous_of links) c.args.number c.args.number (list_of links c.args.number) (c.self.invariant.rings c.args.number).path in
    rw (members_are c.self.inside c.args.self.now head c.self.view_is) (without_alone (next_of links) (previous_of links) c.args.number head head (list_of links head) self_previous (c.self.invariant.rings head).path d)
