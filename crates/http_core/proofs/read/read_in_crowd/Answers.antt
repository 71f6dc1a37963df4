use Rattle.std.proofs.Common.{refl, arith}
use Rattle.http_core.proofs.ReadLemmas.{crowd_fault, crowd_more}
use Rattle.http_core.proofs.read.read_in_crowd.Goals as goal

pub returns-then-len-ge-MAX_OCTETS-clause-steps : goal.returns-then-len-ge-MAX_OCTETS-clause-steps
returns-then-len-ge-MAX_OCTETS-clause-steps c bytes reading = crowd_fault bytes c.args.piece.now c.args.len reading

pub returns-then-piece-len-clause-steps : goal.returns-then-piece-len-clause-steps
returns-then-piece-len-clause-steps c bytes reading = crowd_fault bytes c.args.piece.now c.args.len reading

pub returns-clause-steps : goal.returns-clause-steps
returns-clause-steps c bytes reading = crowd_more bytes c.args.piece.now c.args.len _ refl (omega arith) reading
