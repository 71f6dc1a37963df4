-- What the command `make` does.
use Rattle.std.specs.Prelude.{◌≡◌, ◌⊎◌, ℕ, List}
use Rattle.kj_io.specs.Causes.{Rose}
use Rattle.conn_record.specs.Records.{record_text}
use Rattle.conn_record.specs.Generator.{generated}
use Rattle.kj_serve.specs.Outside.{Outside, NoFault, Wrote, WroteFrontOf, WroteNothing}

-- the text of the generator's recording
abbrev pub made_text : ℕ → ℕ → ℕ → List ℕ
made_text number conns requests = record_text (generated number conns requests)

-- the command ended with this status
pub record MakeEnds (number conns requests status : ℕ) (before after : Outside) : Type 0 where
  pub done : status ≡ 0 → Wrote before after (made_text number conns requests)
  pub write_failed : status ≡ 4
      → Rose before.writes after.writes × WroteFrontOf before after (made_text number conns requests)
  pub no_memory : status ≡ 5 → WroteNothing before after
  pub statuses : (status ≡ 0) ⊎ (status ≡ 4) ⊎ (status ≡ 5)
  -- where no write fails the recording is written, unless memory runs out
  pub makes : NoFault before after → (status ≡ 0) ⊎ (status ≡ 5)
  pub unread : (after.left ≡ before.left) × (after.reads ≡ before.reads)
