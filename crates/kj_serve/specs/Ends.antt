-- How the program ends, by the form of its words.
use Rattle.std.specs.Prelude.{ℕ}
use Rattle.kj_serve.specs.declared.forms.Form.{Form}
use Rattle.kj_serve.specs.declared.forms.Form.TheVariants.{Run, Replay, Make}
use Rattle.kj_serve.specs.Outside.{Outside}
use Rattle.kj_serve.specs.Run.{RunEnds}
use Rattle.kj_serve.specs.Make.{MakeEnds}
use Rattle.kj_serve.specs.Replay.{ReplayEnds, answers_of}

-- the form was done, and this is its status
abbrev pub Ends : Form → ℕ → Outside → Outside → Type 0
Ends Run status before after = RunEnds status before after
Ends (Replay service) status before after = ReplayEnds (answers_of service) status before after
Ends (Make number conns requests) status before after =
    MakeEnds number conns requests status before after
