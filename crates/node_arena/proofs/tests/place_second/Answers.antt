use Rattle.std.proofs.Common.{◌∙◌, ap, sym, subst, Option, IsSome}
use Rattle.std.proofs.lemmas.Bool.{false≢true}
use Rattle.kj_base.specs.declared.nodes.Node.{Node}
use Rattle.node_arena.specs.Arenas.{node_of}
use Rattle.node_arena.proofs.tests.place_second.Goals as goal

pub returns-clause-apart : goal.returns-clause-apart
returns-clause-apart c = λ e.
    false≢true (subst (λ (x : Option Node). IsSome x) (ap (node_of c.args.arena.now) (sym e) ∙ c.place.ensures.was_free) c.requires.live)

pub returns-clause-first : goal.returns-clause-first
returns-clause-first c =
    subst (λ (x : Option Node). IsSome x)
    (sym (c.place.ensures.nodes c.args.first.0 (λ e. false≢true (subst (λ (x : Option Node). IsSome x) (ap (node_of c.args.arena.now) e ∙ c.place.ensures.was_free) c.requires.live))))
    c.requires.live
