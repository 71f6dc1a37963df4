-- The refusals that the Rust variants are.
use Rattle.std.specs.Prelude.{Option, None, Some, Result, Ok, Err}
use Rattle.kj_model.specs.Apply.{Refused, Unknown, Taken, Full, Busy, WrongKind, Stopped}
use Rattle.promise_commands.specs.declared.refused.Refused.{Refused as RefusedCase}
use Rattle.promise_commands.specs.declared.refused.Refused.TheVariants.{Unknown as UnknownCase, Taken as TakenCase, Full as FullCase, Busy as BusyCase, WrongKind as WrongKindCase, Stopped as StoppedCase}

-- the refusal that each variant is
abbrev pub refused_of : RefusedCase → Refused
refused_of (UnknownCase name) = Unknown name.0
refused_of (TakenCase name) = Taken name.0
refused_of FullCase = Full
refused_of (BusyCase name) = Busy name.0
refused_of (WrongKindCase name) = WrongKind name.0
refused_of StoppedCase = Stopped

-- the refusal of a command's answer, if it is one
abbrev pub refusal_of : {A : Type 0} → Result A RefusedCase → Option Refused
refusal_of (Ok answer) = None
refusal_of (Err refused) = Some (refused_of refused)
