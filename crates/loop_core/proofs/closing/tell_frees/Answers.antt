use Rattle.std.proofs.Common.{◌≡◌, ◌∙◌, ◌<◌, ◌+◌, ℕ, List, [], ◌∷◌, ◌++◌, length, get_or, map, take, sym, ap, subst}
use Rattle.std.proofs.lemmas.List.{map-append, take_more}
use Rattle.kj_base.specs.Record.{Item, Free}
use Rattle.kj_base.specs.declared.numbers.NodeId.{NodeId}
use Rattle.promise_commands.specs.Telling.{Hears}
use Rattle.promise_walks.proofs.Composed.{hears_then}
use Rattle.loop_core.specs.Frees.{numbers_of}
use Rattle.loop_core.proofs.closing.tell_frees.Goals as goal

-- the frees of one number more
frees_more : (freed : List NodeId) (i : ℕ) (d : NodeId) → i < length freed → map Free (numbers_of (take (i + 1) freed)) ≡ map Free (numbers_of (take i freed)) ++ Free (get_or freed i d).0 ∷ []
frees_more freed i d l =
    ap (λ (xs : List NodeId). map Free (numbers_of xs)) (take_more freed i d l)
    ∙ ap (map Free) (map-append (λ (node : NodeId). node.0) (take i freed) (get_or freed i d ∷ []))
    ∙ map-append Free (numbers_of (take i freed)) ((get_or freed i d).0 ∷ [])

pub loop-node-preserved : goal.loop-node-preserved
loop-node-preserved g c =
    let before = g.S.Steps.told c.args.steps.now in
    let after = g.S.Steps.told c.freed.new.self in
    record {
      told = subst (λ (items : List Item). Hears before items after) (sym (frees_more c.args.freed.now c.loop-node.node-index _ c.loop-node-test.true))
          (hears_then before (g.S.Steps.told c.loop-node.steps) after _ _ c.loop-node.invariant.told c.freed.ensures.freed);
      lacks = c.freed.ensures.lacks ∙ c.loop-node.invariant.lacks;
    }
