use Rattle.std.proofs.Common.{◌∙◌, sym, ap, subst, ℕ, List}
use Rattle.std.specs.Prelude.{slice_get}
use Rattle.kj_model.specs.World.{World, State}
use Rattle.kj_model.specs.Free.{each_freed}
use Rattle.promise_walks.specs.Walks.{Both, Does}
use Rattle.promise_walks.proofs.Composed.{does_from}
use Rattle.promise_firing.specs.Closed.{free_one, found_freed}
use Rattle.kj_model.specs.Calls.{left_over_closed}
use Rattle.promise_walks.proofs.Changing.{does_both}
use Rattle.promise_firing.proofs.Emptied.{both_freed}
use Rattle.promise_firing.proofs.Kept.{keeps_then}
use Rattle.promise_firing.proofs.closing.close_left_over.Goals as goal

pub returns-clause-does : goal.returns-clause-does
returns-clause-does g c =
    let A : World → Type 0 = Both (g.N.Nodes.stands c.args.nodes.now) (g.M.Names.stands c.args.names.now) in
    let B : World → Type 0 = Both (g.N.Nodes.stands c.close_place.new.nodes) (g.M.Names.stands c.close_place.new.names) in
    let C : World → Type 0 = Both (g.N.Nodes.stands c.close_place-2.new.nodes) (g.M.Names.stands c.close_place-2.new.names) in
    let over = g.M.Names.over c.args.names.now in
    let first : State → State = found_freed (slice_get over 0) in
    let then : State → State = found_freed (slice_get over 1) in
    let second = subst (λ (l : List ℕ). Does B C (found_freed (slice_get l 1)) (λ s. s) (g.S.Steps.told c.close_place.new.steps) (g.S.Steps.told c.close_place-2.new.steps)) c.close_place.ensures.over c.close_place-2.ensures.does in
    does_from A C (λ s. then (first s)) left_over_closed (λ s. s) _ _
    (λ s stands. both_freed over s c.requires.over ∙ ap (λ (l : List ℕ). each_freed free_one l s) (sym (g.met.M.Names.over_is c.args.names.now s.world stands.1)))
    (does_both A B C first then _ _ _ c.close_place.ensures.does second)

pub returns-clause-kept : goal.returns-clause-kept
returns-clause-kept g c = keeps_then _ _ _ c.close_place.ensures.kept c.close_place-2.ensures.kept
