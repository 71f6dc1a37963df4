use Rattle.std.proofs.Common.{refl}
use Rattle.http_core.proofs.ConnectionLemmas.{served_clean, served_cut, settled_replies, clean_replies, cut_replies}
use Rattle.http_core.proofs.connection.Connection.end.Goals as goal

pub returns-in-Settled-clause-replies : goal.returns-in-Settled-clause-replies
returns-in-Settled-clause-replies g c open_still fed taken served = settled_replies g.S.Service.told c.args.self.now fed taken c.in-Settled.field-0 c.in-Settled.is served

pub returns-then-is_idle-clause-served : goal.returns-then-is_idle-clause-served
returns-then-is_idle-clause-served g c fed taken served = served_clean g.S.Service.told c.args.self.now _ fed taken c.in-Going.is refl refl c.if-is_idle.ensures served

pub returns-then-is_idle-clause-replies : goal.returns-then-is_idle-clause-replies
returns-then-is_idle-clause-replies g c open_still fed taken served = clean_replies g.S.Service.told c.args.self.now fed taken c.in-Going.is c.if-is_idle.ensures served

pub returns-in-Ok-clause-served : goal.returns-in-Ok-clause-served
returns-in-Ok-clause-served g c fed taken served = served_cut g.S.Service.told c.args.self.now _ fed taken c.in-Going.is refl c.in-Ok.ensures.ok c.if-is_idle.ensures served

pub returns-in-Ok-clause-replies : goal.returns-in-Ok-clause-replies
returns-in-Ok-clause-replies g c open_still fed taken served = cut_replies g.S.Service.told c.args.self.now fed taken c.push_fault.new.out c.in-Going.is c.if-is_idle.ensures c.in-Ok.ensures.ok served
