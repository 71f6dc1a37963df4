use Rattle.std.proofs.Common.{◌++◌, refl}
use Rattle.http_core.specs.declared.read.Opening.TheVariants.{Line, Head, Crowded, Read}
use Rattle.http_core.proofs.ReadLemmas.{none_at_once, steps_begun, leaves_end, after_pairs, takes_some, begins_as, line_kept, head_kept, crowd_kept}
use Rattle.http_core.proofs.read.open.Goals as goal

pub returns-in_ok-kept-in-Line-clause-steps : goal.returns-in_ok-kept-in-Line-clause-steps
returns-in_ok-kept-in-Line-clause-steps c bytes none =
    let text = c.skip_pairs-octets.result.now in
    line_kept text c.in_ok-kept-in-Line.kept (bytes ++ c.args.piece.now) c.in_ok-kept-in-Line.ensures (after_pairs bytes c.args.piece.now text none c.skip_pairs-octets.ensures)
    (begins_as 0 text _ Line c.in-Line.is (c.in_ok-begin_line.ensures.begins (none_at_once text)))

pub returns-in_ok-kept-in-Head-clause-steps : goal.returns-in_ok-kept-in-Head-clause-steps
returns-in_ok-kept-in-Head-clause-steps c bytes none =
    let text = c.skip_pairs-octets.result.now in
    head_kept text c.in_ok-kept-in-Head.kept (bytes ++ c.args.piece.now) c.in_ok-kept-in-Head.ensures (after_pairs bytes c.args.piece.now text none c.skip_pairs-octets.ensures)
    (begins_as 0 text _ Head c.in-Head.is (c.in_ok-begin_line.ensures.begins (none_at_once text)))

pub returns-in-Crowded-clause-steps : goal.returns-in-Crowded-clause-steps
returns-in-Crowded-clause-steps c bytes none =
    let text = c.skip_pairs-octets.result.now in
    crowd_kept text (bytes ++ c.args.piece.now) _ refl (after_pairs bytes c.args.piece.now text none c.skip_pairs-octets.ensures)
    (begins_as 0 text _ Crowded c.in-Crowded.is (c.in_ok-begin_line.ensures.begins (none_at_once text)))

pub returns-in-Read-clause-steps : goal.returns-in-Read-clause-steps
returns-in-Read-clause-steps c bytes none =
    let text = c.skip_pairs-octets.result.now in
    steps_begun bytes c.args.piece.now text 0 c.in-Read.step (after_pairs bytes c.args.piece.now text none c.skip_pairs-octets.ensures) (leaves_end c.args.piece.now text c.skip_pairs-octets.ensures)
    (begins_as 0 text _ (Read c.in-Read.step) c.in-Read.is (c.in_ok-begin_line.ensures.begins (none_at_once text)))

pub returns-in-Read-clause-some : goal.returns-in-Read-clause-some
returns-in-Read-clause-some c =
    let text = c.skip_pairs-octets.result.now in
    takes_some c.args.piece.now text c.in-Read.step c.skip_pairs-octets.ensures (begins_as 0 text _ (Read c.in-Read.step) c.in-Read.is (c.in_ok-begin_line.ensures.begins (none_at_once text)))
