-- What each form gives for an input, where no read and no write fails and memory doesn't run out.
use Rattle.std.specs.Prelude.{◌≡◌, ◌⊎◌, ℕ, ◌<◌, ◌≤◌, List, [], length}
use Rattle.kj_base.specs.declared.limits.TheConstants.{INPUT_LIMIT}
use Rattle.conn_record.specs.Records.{IsNoRecording, IsWholeUpTo}
use Rattle.http_core.specs.declared.message.Request.{Request}
use Rattle.http_core.specs.declared.message.Answer.{Answer}
use Rattle.kj_serve.specs.declared.forms.Form.{Form}
use Rattle.kj_serve.specs.declared.forms.Form.TheVariants.{Run, Replay, Make}
use Rattle.promise_script.specs.Scripts.{IsBadLine, IsNotBuiltLine}
use Rattle.kj_serve.specs.Run.{RunsTo, bad_line, not_built_line}
use Rattle.kj_serve.specs.Replay.{ReplaysTo, answers_of, bad_record}
use Rattle.kj_serve.specs.Make.{made_text}

-- the line of a bad line, or of one that isn't built yet
abbrev pub FaultGives : (List ℕ → ℕ → Type 0) → (ℕ → List ℕ) → List ℕ → List ℕ → Type 0
FaultGives IsFault text input output =
    (line : ℕ) × IsFault input line × (output ≡ text line)

-- the log of a script with status 0, the line of a bad line with 1, of one that isn't built yet
-- with 9, nothing with 6
abbrev pub RunGives : List ℕ → ℕ → List ℕ → Type 0
RunGives input status output =
    ((length input ≤ INPUT_LIMIT) × RunsTo input output × (status ≡ 0))
    ⊎ ((length input ≤ INPUT_LIMIT) × FaultGives IsBadLine bad_line input output × (status ≡ 1))
    ⊎ ((length input ≤ INPUT_LIMIT) × FaultGives IsNotBuiltLine not_built_line input output
    × (status ≡ 9))
    ⊎ ((INPUT_LIMIT < length input) × (output ≡ []) × (status ≡ 6))

-- the line of an input that is no recording
abbrev pub BadGives : List ℕ → List ℕ → Type 0
BadGives input output = (whole : ℕ) × IsWholeUpTo input whole × (output ≡ bad_record whole)

-- the replies with status 0, the line of a bad recording with 1, nothing with 6
abbrev pub ReplayGives : (Request → Answer) → List ℕ → ℕ → List ℕ → Type 0
ReplayGives f input status output =
    ((length input ≤ INPUT_LIMIT) × ReplaysTo f input output × (status ≡ 0))
    ⊎ ((length input ≤ INPUT_LIMIT) × IsNoRecording input × BadGives input output × (status ≡ 1))
    ⊎ ((INPUT_LIMIT < length input) × (output ≡ []) × (status ≡ 6))

-- a form, an input, a status and an output
abbrev pub Gives : Form → List ℕ → ℕ → List ℕ → Type 0
Gives Run input status output = RunGives input status output
Gives (Replay service) input status output = ReplayGives (answers_of service) input status output
Gives (Make number conns requests) input status output =
    (output ≡ made_text number conns requests) × (status ≡ 0)
