-- Words in which the worked scripts are written.
use Rattle.std.specs.Prelude.{ℕ, List, [], ◌∷◌, ◌++◌, Option, Some, flat_map}
use Rattle.kj_base.specs.declared.outcomes.Kind.{Kind}
use Rattle.kj_base.specs.declared.outcomes.Exception.{Exception}
use Rattle.kj_base.specs.declared.endings.Ending.{Ending}
use Rattle.kj_base.specs.declared.endings.Ending.TheVariants.{Promise}
use Rattle.kj_base.specs.declared.numbers.Limits.{Limits}
use Rattle.kj_base.specs.Commands.{Command}
use Rattle.kj_model.specs.Log.{Line, Numbered, Body, Script}

-- an exception of this kind with this code
abbrev pub exception : Kind → ℕ → Exception
exception kind code = record { kind = kind; code = code }

-- the ending with the tree of a promise
abbrev pub promised : ℕ → Ending
promised name = Promise (record { 0 = name })

-- a body of a step
abbrev pub body : ℕ → List Command → Ending → Body
body step commands ending = record { step = step; action = record { commands = commands; ending = ending } }

-- a line with its number in the text
abbrev pub at : ℕ → Line → Numbered
at number line = record { number = number; line = line }

-- a `limits` line
abbrev pub limits : ℕ → ℕ → Option Limits
limits slots names = Some (record { slots = slots; names = names })

-- limits, bodies and lines
abbrev pub script : Option Limits → List Body → List Numbered → Script
script limits bodies lines = record { limits = limits; bodies = bodies; lines = lines }

-- lines of a log, each with an LF
abbrev pub lines : List (List ℕ) → List ℕ
lines texts = flat_map (λ text. text ++ 10 ∷ []) texts
