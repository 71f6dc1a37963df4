use Rattle.std.proofs.Common.{subst}
use Rattle.http_core.specs.declared.read.Part.{Part}
use Rattle.http_core.specs.Reading.{IsReading}
use Rattle.http_core.proofs.ReadLemmas.{if_ok_maps, sized_on, chunked_on}
use Rattle.http_core.proofs.read.read_on.Goals as goal

pub returns-in-Sized-clause-steps : goal.returns-in-Sized-clause-steps
returns-in-Sized-clause-steps c =
    if_ok_maps c.read_sized.result _ _ c.read_sized.ensures.steps (λ step steps bytes reading. sized_on bytes c.args.piece.now c.in-Sized.head c.in-Sized.lengths step (subst (λ (p : Part). IsReading p bytes) c.in-Sized.is reading) steps)

pub returns-in-Chunked-clause-steps : goal.returns-in-Chunked-clause-steps
returns-in-Chunked-clause-steps c =
    if_ok_maps c.read_chunked.result _ _ c.read_chunked.ensures.steps (λ step steps bytes reading. chunked_on bytes c.args.piece.now c.in-Chunked.head c.in-Chunked.chunks step (subst (λ (p : Part). IsReading p bytes) c.in-Chunked.is reading) steps)

pub returns-in-Crowded-clause-steps : goal.returns-in-Crowded-clause-steps
returns-in-Crowded-clause-steps c bytes reading = c.read_in_crowd.ensures.steps bytes (subst (λ (p : Part). IsReading p bytes) c.in-Crowded.is reading)
