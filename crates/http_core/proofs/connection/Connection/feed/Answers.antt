use Rattle.std.proofs.Common.{◌++◌, refl, sym, ◌∙◌}
use Rattle.http_core.specs.declared.connection.AfterPiece.TheVariants.{More, Settled}
use Rattle.http_core.proofs.ConnectionLemmas.{serves_as, served_on, served_err, served_more, served_settled}
use Rattle.http_core.proofs.connection.Connection.feed.Goals as goal

pub returns-in-Broken-clause-served : goal.returns-in-Broken-clause-served
returns-in-Broken-clause-served g c fed taken served = served_on g.S.Service.told c.args.self.now fed taken c.args.piece.now (λ going. let wrong = sym c.in-Broken.is ∙ going in cc (wrong)) served

pub returns-in-Drained-clause-served : goal.returns-in-Drained-clause-served
returns-in-Drained-clause-served g c fed taken served = served_on g.S.Service.told c.args.self.now fed taken c.args.piece.now (λ going. let wrong = sym c.in-Drained.is ∙ going in cc (wrong)) served

pub returns-in-Err-clause-served : goal.returns-in-Err-clause-served
returns-in-Err-clause-served g c fed taken served =
    served_err g.S.Service.told c.args.self.now _ fed taken c.args.piece.now c.replace-part.result c.in-Going.is refl c.replace-part.ensures.value c.in-Err.ensures.serves served

pub returns-in-Ok-More-clause-served : goal.returns-in-Ok-More-clause-served
returns-in-Ok-More-clause-served g c fed taken served =
    served_more g.S.Service.told c.args.self.now _ fed taken c.args.piece.now c.replace-part.result c.in-Going.is c.in-Going.is c.replace-part.ensures.value (λ bytes reading. serves_as g.S.Service.told (bytes ++ c.args.piece.now) c.args.self.now.output c.serve.new.output c.in-Ok-More.field-0 (More c.in-Ok-More.part) c.in-Ok-More.field-0-is (c.in-Ok-More.ensures.serves bytes reading)) served

pub returns-in-Ok-Settled-clause-served : goal.returns-in-Ok-Settled-clause-served
returns-in-Ok-Settled-clause-served g c fed taken served =
    served_settled g.S.Service.told c.args.self.now _ fed taken c.args.piece.now c.replace-part.result c.in-Ok-Settled.end c.in-Going.is refl c.replace-part.ensures.value (λ bytes reading. serves_as g.S.Service.told (bytes ++ c.args.piece.now) c.args.self.now.output c.serve.new.output c.in-Ok-Settled.field-0 (Settled c.in-Ok-Settled.end) c.in-Ok-Settled.field-0-is (c.in-Ok-Settled.ensures.serves bytes reading)) served
