-- The answers of waits that the Rust variants are.
use Rattle.kj_model.specs.Calls.{Waited, Done, NotThere, WaitIdle, WaitNoMemory, WaitStopped, Turns}
use Rattle.promise_commands.specs.Refusals.{refused_of}
use Rattle.promise_commands.specs.declared.waited.Waited.{Waited as WaitedCase}
use Rattle.promise_commands.specs.declared.waited.Waited.TheVariants.{Done as DoneCase, Idle as IdleCase, Turns as TurnsCase, Refused as RefusedCase, NoMemory as NoMemoryCase, Stopped as StoppedCase}

-- the answer that each variant is
abbrev pub waited_of : WaitedCase → Waited
waited_of (DoneCase outcome) = Done outcome
waited_of IdleCase = WaitIdle
waited_of TurnsCase = Turns
waited_of (RefusedCase refused) = NotThere (refused_of refused)
waited_of NoMemoryCase = WaitNoMemory
waited_of StoppedCase = WaitStopped
