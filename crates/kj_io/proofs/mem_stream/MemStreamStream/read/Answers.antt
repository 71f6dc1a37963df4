use Rattle.kj_io.proofs.StreamReads.{reads_at}
use Rattle.kj_io.proofs.mem_stream.MemStreamStream.read.Goals as goal

pub returns-in-Some-Octets-clause-octets : goal.returns-in-Some-Octets-clause-octets
returns-in-Some-Octets-clause-octets c =
    reads_at c.args.self.now.octets c.args.self.now.written _ _ c.args.self.now.at c.give.new.self.at c.give.result c.give.new.buf c.give.ensures.octets c.give.ensures.written c.give.ensures.gives

pub returns-in-None-clause-octets : goal.returns-in-None-clause-octets
returns-in-None-clause-octets c =
    reads_at c.args.self.now.octets c.args.self.now.written _ _ c.args.self.now.at c.give-in-None.new.self.at c.give-in-None.result c.give-in-None.new.buf c.give-in-None.ensures.octets c.give-in-None.ensures.written c.give-in-None.ensures.gives
