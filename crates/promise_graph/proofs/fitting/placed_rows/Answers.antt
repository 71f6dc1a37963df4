use Rattle.std.proofs.Common.{◌∙◌, ◌<◌, List, [], ◌∷◌, ◌++◌, take, map, length, sym, ap, arith}
use Rattle.std.proofs.lemmas.List.{take_more_set, map_push, map_more, length-set}
use Rattle.kj_base.specs.Places.{Row}
use Rattle.kj_base.specs.Store.{row_of, rows_of}
use Rattle.promise_nodes.specs.Kept.{row_seen, rows_seen}
use Rattle.promise_graph.specs.Rows.{row_at}
use Rattle.promise_graph.proofs.fitting.placed_rows.Goals as goal

pub placing-preserved : goal.placing-preserved
placing-preserved g c =
    let rows = c.args.rows.now in
    let m = c.args.g.now.marks in
    let at = c.placing.at in
    let placed = c.placing.placed in
    let len = c.placing.invariant.0 in
    let low : at < length rows = c.placing-test.true in
    let within : at < length placed = omega (arith, len, low, c.requires.few) in (
      length-set placed at c.placed_row.result ∙ len,
      ap rows_of (take_more_set placed at c.placed_row.result within)
          ∙ map_push row_of (take at placed) c.placed_row.result
          ∙ ap (λ (l : List Row). l ++ row_of c.placed_row.result ∷ []) c.placing.invariant.1
          ∙ ap (λ (r : Row). map (row_at m) (rows_seen (take at rows)) ++ r ∷ []) c.placed_row.ensures
          ∙ sym (ap (λ (l : List Row). map (row_at m) l) (map_more row_seen rows at _ low) ∙ map_push (row_at m) (map row_seen (take at rows)) _),
    )
