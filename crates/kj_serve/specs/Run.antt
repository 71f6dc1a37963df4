-- What the command `run` does.
use Rattle.std.specs.Prelude.{◌≡◌, ◌⊎◌, ℕ, ◌<◌, ◌≤◌, List, length, Some, codes}
use Rattle.kj_io.specs.Causes.{Rose}
use Rattle.kj_model.specs.Log.{log_of}
use Rattle.kj_script.specs.Running.{places_fit}
use Rattle.kj_model.specs.Text.{log_text}
use Rattle.promise_commands.specs.Scripts.{script_of}
use Rattle.promise_commands.specs.Script.{Script}
use Rattle.promise_script.specs.Scripts.{IsScriptText, IsBadLine, IsNotBuiltLine}
use Rattle.kj_base.specs.declared.limits.TheConstants.{INPUT_LIMIT}
use Rattle.kj_serve.specs.Outside.{Outside, NoFault, ReadPast, ReadWhole, Wrote, WroteFrontOf, WroteNothing, numbered}

-- the input is the text of a script, and the output is the log of that script
pub record RunsTo (input output : List ℕ) : Type 0 where
  pub script : Script
  pub text : IsScriptText input script
  pub log : output ≡ log_text (log_of places_fit (script_of script))

-- the output of an input with a bad line
abbrev pub bad_line : ℕ → List ℕ
bad_line line = numbered (codes "bad line ") line

-- the output of an input with a line that isn't built yet
abbrev pub not_built_line : ℕ → List ℕ
not_built_line line = numbered (codes "not built line ") line

-- a script was read to its end, and this is its log
pub record Ran (before after : Outside) (output : List ℕ) : Type 0 where
  pub input : List ℕ
  pub read : ReadWhole before after input
  pub runs : RunsTo input output

-- an input was read to its end whose line of this number is at fault
pub record ReadFaulty (IsFault : List ℕ → ℕ → Type 0) (before after : Outside) (line : ℕ) : Type 0 where
  pub input : List ℕ
  pub read : ReadWhole before after input
  pub fault : IsFault input line

-- a front of the log, or of the line of a refusal, was written
abbrev pub RunPart : Outside → Outside → Type 0
RunPart before after =
    ((output : List ℕ) × Ran before after output × WroteFrontOf before after output)
    ⊎ ((line : ℕ) × ReadFaulty IsBadLine before after line
    × WroteFrontOf before after (bad_line line))
    ⊎ ((line : ℕ) × ReadFaulty IsNotBuiltLine before after line
    × WroteFrontOf before after (not_built_line line))

-- the command ended with this status
pub record RunEnds (status : ℕ) (before after : Outside) : Type 0 where
  pub done : status ≡ 0
      → (output : List ℕ) × Ran before after output × Wrote before after output
  pub bad : status ≡ 1
      → (line : ℕ) × ReadFaulty IsBadLine before after line × Wrote before after (bad_line line)
  pub read_failed : status ≡ 3 → Rose before.reads after.reads × WroteNothing before after
  pub write_failed : status ≡ 4 → Rose before.writes after.writes × RunPart before after
  pub no_memory : status ≡ 5 → WroteNothing before after
  -- exactly one octet more than the limit was read
  pub too_long : status ≡ 6 → ReadPast before after × WroteNothing before after
  pub not_built : status ≡ 9
      → (line : ℕ) × ReadFaulty IsNotBuiltLine before after line
      × Wrote before after (not_built_line line)
  pub statuses :
      (status ≡ 0) ⊎ (status ≡ 1) ⊎ (status ≡ 3) ⊎ (status ≡ 4) ⊎ (status ≡ 5) ⊎ (status ≡ 6)
      ⊎ (status ≡ 9)
  -- where the octets are known and nothing failed, a script runs, and anything else is refused,
  -- unless memory runs out
  pub runs : (input : List ℕ) → before.left ≡ Some input → NoFault before after
      → (script : Script) → IsScriptText input script → length input ≤ INPUT_LIMIT
      → (status ≡ 0) ⊎ (status ≡ 5)
  pub refuses_bad : (input : List ℕ) → before.left ≡ Some input → NoFault before after
      → (line : ℕ) → IsBadLine input line → length input ≤ INPUT_LIMIT
      → (status ≡ 1) ⊎ (status ≡ 5)
  pub refuses_unbuilt : (input : List ℕ) → before.left ≡ Some input → NoFault before after
      → (line : ℕ) → IsNotBuiltLine input line → length input ≤ INPUT_LIMIT
      → (status ≡ 9) ⊎ (status ≡ 5)
  pub refuses_long : (input : List ℕ) → before.left ≡ Some input → NoFault before after
      → INPUT_LIMIT < length input → (status ≡ 6) ⊎ (status ≡ 5)
