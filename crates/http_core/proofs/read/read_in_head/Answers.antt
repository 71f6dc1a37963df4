use Rattle.std.proofs.Common.{◌++◌, length, ◌∙◌, ap}
use Rattle.http_core.specs.declared.read.Opening.TheVariants.{Line, Head, Crowded, Read}
use Rattle.http_core.proofs.ReadLemmas.{in_head, line_kept, head_kept, crowd_kept, read_on_kept, continues_as}
use Rattle.http_core.proofs.read.read_in_head.Goals as goal

pub returns-in-Line-clause-steps : goal.returns-in-Line-clause-steps
returns-in-Line-clause-steps c bytes reading =
    let found = continues_as bytes c.args.octets c.args.piece.now _ Line c.in-Line.is (in_head bytes c.args.octets c.args.piece.now c.as_slice.result.now c.len-from.result _ (c.as_slice.ensures ∙ c.in_ok-extend.ensures.ok) c.len-from.ensures reading c.in_ok-begin_head.ensures.begins) in
    line_kept (c.args.octets ++ c.args.piece.now) c.extend.new.self (bytes ++ c.args.piece.now) c.in_ok-extend.ensures.ok found.came found.begins

pub returns-in-Head-clause-steps : goal.returns-in-Head-clause-steps
returns-in-Head-clause-steps c bytes reading =
    let found = continues_as bytes c.args.octets c.args.piece.now _ Head c.in-Head.is (in_head bytes c.args.octets c.args.piece.now c.as_slice.result.now c.len-from.result _ (c.as_slice.ensures ∙ c.in_ok-extend.ensures.ok) c.len-from.ensures reading c.in_ok-begin_head.ensures.begins) in
    head_kept (c.args.octets ++ c.args.piece.now) c.extend.new.self (bytes ++ c.args.piece.now) c.in_ok-extend.ensures.ok found.came found.begins

pub returns-in-Crowded-clause-steps : goal.returns-in-Crowded-clause-steps
returns-in-Crowded-clause-steps c bytes reading =
    let found = continues_as bytes c.args.octets c.args.piece.now _ Crowded c.in-Crowded.is (in_head bytes c.args.octets c.args.piece.now c.as_slice.result.now c.len-from.result _ (c.as_slice.ensures ∙ c.in_ok-extend.ensures.ok) c.len-from.ensures reading c.in_ok-begin_head.ensures.begins) in
    crowd_kept (c.args.octets ++ c.args.piece.now) (bytes ++ c.args.piece.now) c.len.result (c.len.ensures ∙ ap length c.in_ok-extend.ensures.ok) found.came found.begins

pub returns-in-Read-clause-steps : goal.returns-in-Read-clause-steps
returns-in-Read-clause-steps c bytes reading =
    read_on_kept bytes c.args.octets c.args.piece.now c.in-Read.step (continues_as bytes c.args.octets c.args.piece.now _ (Read c.in-Read.step) c.in-Read.is (in_head bytes c.args.octets c.args.piece.now c.as_slice.result.now c.len-from.result _ (c.as_slice.ensures ∙ c.in_ok-extend.ensures.ok) c.len-from.ensures reading c.in_ok-begin_head.ensures.begins))
