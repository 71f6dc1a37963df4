use Rattle.std.proofs.Common.{arith, refl}
use Rattle.http_frames.proofs.StepLemmas.{chunk_size, chunk_comes, chunk_sound}
use Rattle.http_frames.proofs.reader.Reader.take_chunk.Goals as goal

pub returns-clause-some : goal.returns-clause-some
returns-clause-some c =
    let r = c.args.self.now in
    let line = c.in-Some.line.now in
    let octets = c.in-Some.octets.now in
    let chunk = c.in-Some.ensures.chunk in (
      omega arith,
      (
        omega (arith, chunk_size line octets c.args.piece.now chunk),
        chunk_sound r.stage r.pending r.body c.extend.new.self octets c.requires.stage c.requires.sound c.in_ok-extend.ensures.ok (omega (arith, c.in-Some.ensures.fits, c.len-room.ensures)),
        λ bytes read. chunk_comes r.stage r.pending r.body c.args.piece.now c.extend.new.self line octets bytes _ c.requires.stage c.requires.bare chunk refl c.in_ok-extend.ensures.ok read,
      ),
    )
