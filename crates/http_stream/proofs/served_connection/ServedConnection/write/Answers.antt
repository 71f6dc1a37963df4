use Rattle.std.proofs.Common.{ap, subst, ◌∙◌}
use Rattle.http_stream.specs.declared.next.Wants.{Wants}
use Rattle.http_stream.specs.declared.connection.StreamConnection.{StreamConnection}
use Rattle.http_stream.specs.Moves.{wants_of, drained_of}
use Rattle.http_stream.specs.Steps.{Held, LooksAt, WriteMove}
use Rattle.http_stream.proofs.served_connection.ServedConnection.write.Goals as goal

pub returns : goal.returns
returns g c =
    let before = c.drain.ensures.drained ∙ ap (λ (h : Held g.row.C.Denot). drained_of c.args.drained h.connection) c.self.view_is in
    record {
      middle = c.look.new.self;
      looks = subst (λ (x : StreamConnection g.row.C.Denot). LooksAt (wants_of x) x c.look.new.self) before c.in_ok-look.ensures.looks;
      move = subst (λ (w : Wants). WriteMove g.C.Stream.told g.C.Stream.faults g.C.Stream.pauses w c.look.new.self c.write_wanted.new.self c.in_ok-next.next) c.wants-wanted.ensures c.in_ok-next.ensures.moves;
      waits = c.is_wait-self-inside.ensures;
    }
