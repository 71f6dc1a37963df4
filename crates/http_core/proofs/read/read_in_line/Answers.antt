use Rattle.std.proofs.Common.{◌≡◌, List, ℕ, [], ◌++◌, length, refl, ◌∙◌, ap, subst, arith}
use Rattle.http_core.specs.declared.read.Opening.TheVariants.{Line, Head, Crowded, Read}
use Rattle.http_core.specs.Reading.{ReadsOn, TakesSome}
use Rattle.http_core.proofs.ReadLemmas.{in_line, line_kept, head_kept, crowd_kept, read_on_kept, continues_as, steps_joined, if_ok_both}
use Rattle.http_core.proofs.read.read_in_line.Goals as goal

pub returns-then-from-eq1-clause-steps : goal.returns-then-from-eq1-clause-steps
returns-then-from-eq1-clause-steps c =
    let octets = c.args.octets in
    let piece = c.args.piece.now in
    let joined : c.as_slice.result.now ≡ octets ++ piece = c.as_slice.ensures ∙ c.in_ok-extend.ensures.ok in
    if_ok_both c.open-then-from-eq1.result _ _ _ c.open-then-from-eq1.ensures.steps c.open-then-from-eq1.ensures.some
    (λ step steps some bytes reading.
    steps_joined bytes octets piece step reading.0 (omega arith) (subst (λ (b : List ℕ). TakesSome b step) joined some) (subst (λ (b : List ℕ). ReadsOn [] b step) joined (steps [] refl)))

pub returns-in-Line-clause-steps : goal.returns-in-Line-clause-steps
returns-in-Line-clause-steps c bytes reading =
    let found = continues_as bytes c.args.octets c.args.piece.now _ Line c.in-Line.is (in_line bytes c.args.octets c.args.piece.now c.as_slice-2.result.now c.len-from.result _ (c.as_slice-2.ensures ∙ c.in_ok-extend.ensures.ok) c.len-from.ensures c.if-is_empty.ensures c.if-from-eq1.false reading c.in_ok-begin_line.ensures.begins) in
    line_kept (c.args.octets ++ c.args.piece.now) c.extend.new.self (bytes ++ c.args.piece.now) c.in_ok-extend.ensures.ok found.came found.begins

pub returns-in-Head-clause-steps : goal.returns-in-Head-clause-steps
returns-in-Head-clause-steps c bytes reading =
    let found = continues_as bytes c.args.octets c.args.piece.now _ Head c.in-Head.is (in_line bytes c.args.octets c.args.piece.now c.as_slice-2.result.now c.len-from.result _ (c.as_slice-2.ensures ∙ c.in_ok-extend.ensures.ok) c.len-from.ensures c.if-is_empty.ensures c.if-from-eq1.false reading c.in_ok-begin_line.ensures.begins) in
    head_kept (c.args.octets ++ c.args.piece.now) c.extend.new.self (bytes ++ c.args.piece.now) c.in_ok-extend.ensures.ok found.came found.begins

pub returns-in-Crowded-clause-steps : goal.returns-in-Crowded-clause-steps
returns-in-Crowded-clause-steps c bytes reading =
    let found = continues_as bytes c.args.octets c.args.piece.now _ Crowded c.in-Crowded.is (in_line bytes c.args.octets c.args.piece.now c.as_slice-2.result.now c.len-from.result _ (c.as_slice-2.ensures ∙ c.in_ok-extend.ensures.ok) c.len-from.ensures c.if-is_empty.ensures c.if-from-eq1.false reading c.in_ok-begin_line.ensures.begins) in
    crowd_kept (c.args.octets ++ c.args.piece.now) (bytes ++ c.args.piece.now) c.len.result (c.len.ensures ∙ ap length c.in_ok-extend.ensures.ok) found.came found.begins

pub returns-in-Read-clause-steps : goal.returns-in-Read-clause-steps
returns-in-Read-clause-steps c bytes reading =
    read_on_kept bytes c.args.octets c.args.piece.now c.in-Read.step (continues_as bytes c.args.octets c.args.piece.now _ (Read c.in-Read.step) c.in-Read.is (in_line bytes c.args.octets c.args.piece.now c.as_slice-2.result.now c.len-from.result _ (c.as_slice-2.ensures ∙ c.in_ok-extend.ensures.ok) c.len-from.ensures c.if-is_empty.ensures c.if-from-eq1.false reading c.in_ok-begin_line.ensures.begins))
