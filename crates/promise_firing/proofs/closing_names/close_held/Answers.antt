use Rattle.std.proofs.Common.{sym, ap, []}
use Rattle.kj_model.specs.World.{World}
use Rattle.kj_model.specs.Calls.{closed_held}
use Rattle.promise_names.specs.declared.names.Held.{Held}
use Rattle.promise_names.specs.Held.{held_shown}
use Rattle.promise_walks.specs.Walks.{Both}
use Rattle.promise_walks.proofs.Composed.{does_from}
use Rattle.promise_walks.proofs.Changing.{does_none}
use Rattle.promise_firing.proofs.closing_names.close_held.Goals as goal

pub returns-in-CellOf-clause-does : goal.returns-in-CellOf-clause-does
returns-in-CellOf-clause-does g c =
    let A : World → Type 0 = Both (g.N.Nodes.stands c.args.nodes.now) (g.M.Names.stands c.args.names.now) in
    does_from A A (λ s. s) (closed_held (held_shown [] c.args.held)) (λ s. s) _ _ (λ s stands. ap (λ (h : Held). closed_held (held_shown [] h) s) (sym c.in-CellOf.is)) (does_none A _)

pub returns-in-AskCell-clause-does : goal.returns-in-AskCell-clause-does
returns-in-AskCell-clause-does g c =
    let A : World → Type 0 = Both (g.N.Nodes.stands c.args.nodes.now) (g.M.Names.stands c.args.names.now) in
    does_from A A (λ s. s) (closed_held (held_shown [] c.args.held)) (λ s. s) _ _ (λ s stands. ap (λ (h : Held). closed_held (held_shown [] h) s) (sym c.in-AskCell.is)) (does_none A _)

pub returns-in-Group-clause-does : goal.returns-in-Group-clause-does
returns-in-Group-clause-does g c =
    let A : World → Type 0 = Both (g.N.Nodes.stands c.args.nodes.now) (g.M.Names.stands c.args.names.now) in
    does_from A A (λ s. s) (closed_held (held_shown [] c.args.held)) (λ s. s) _ _ (λ s stands. ap (λ (h : Held). closed_held (held_shown [] h) s) (sym c.in-Group.is)) (does_none A _)

pub returns-in-Canceler-clause-does : goal.returns-in-Canceler-clause-does
returns-in-Canceler-clause-does g c =
    let A : World → Type 0 = Both (g.N.Nodes.stands c.args.nodes.now) (g.M.Names.stands c.args.names.now) in
    does_from A A (λ s. s) (closed_held (held_shown [] c.args.held)) (λ s. s) _ _ (λ s stands. ap (λ (h : Held). closed_held (held_shown [] h) s) (sym c.in-Canceler.is)) (does_none A _)
