-- What contracts see of a connection of a server that has ended.
use Rattle.std.specs.Prelude.{ℕ}
use Rattle.http_stream.specs.declared.served.Finished.{Finished}

pub record Placed (C : Type 0) : Type 0 where
  pub index : ℕ
  pub finished : Finished C
