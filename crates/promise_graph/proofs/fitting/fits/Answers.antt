use Rattle.std.proofs.Common.{◌∙◌, ℕ, ap, rules}
use Rattle.promise_nodes.specs.Kept.{rows_seen}
use Rattle.promise_graph.proofs.Ruled.{room_ruled}
use Rattle.promise_graph.proofs.fitting.fits.Goals as goal

pub returns-clause-room : goal.returns-clause-room
returns-clause-room g c = search rules

pub returns-clause-ruled : goal.returns-clause-ruled
returns-clause-ruled g c w st =
    let store = c.args.g.now.store in
    let kept = c.requires.kept.sound in
    let laws = g.met.St.Store in
    let slots = g.St.Store.slots store in
    returns-clause-room g c
    ∙ room_ruled (g.St.Store.node_at store) (g.St.Store.stands store) c.args.g.now.marks kept.numbered (g.St.Store.rule slots) (laws.unplaced slots) (laws.renamed slots) w.spots w.next_key st.seen.spots (g.St.Store.room store) (laws.ruled store) (rows_seen c.args.rows.now)
    ∙ ap (λ (n : ℕ). g.St.Store.rule n w.spots (rows_seen c.args.rows.now)) kept.store_is
