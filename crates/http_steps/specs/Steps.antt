-- What the numbers and the inputs of a server's steps stand for.
use Rattle.std.specs.Prelude.{ℕ, List, [], ◌∷◌, Option, None, Some, cond, ◌==◌, ◌||◌}
use Rattle.kj_base.specs.declared.outcomes.Outcome.{Outcome}
use Rattle.kj_base.specs.declared.outcomes.Outcome.TheVariants.{Value, Broken}
use Rattle.http_stream.specs.declared.next.ConnectionStep.{ConnectionStep}
use Rattle.http_stream.specs.declared.next.ConnectionStep.TheVariants as steps
use Rattle.http_steps.specs.declared.server_step.ServerStep.{ServerStep}
use Rattle.http_steps.specs.declared.server_step.ServerStep.TheVariants.{Drain, Connection, Failed}
use Rattle.http_steps.specs.declared.server_step.ServerStep.TheVariants.{Payload, Foreign}
use Rattle.http_steps.specs.declared.server_step.TheConstants.{DRAIN, READ, ANSWER, WRITE, FAILED}
use Rattle.http_steps.specs.declared.server_step.TheConstants.{COUNT, SERVE}

-- what a number stands for
abbrev pub step_of : ℕ → ServerStep
step_of n =
    cond (n == DRAIN) Drain (cond (n == READ) (Connection steps.Read)
    (cond (n == ANSWER) (Connection steps.Answer) (cond (n == WRITE) (Connection steps.Write)
    (cond (n == FAILED) Failed (cond (n == COUNT || n == SERVE) Payload Foreign)))))

-- the number of a connection's step
abbrev pub number_of : ConnectionStep → ℕ
number_of steps.Read = READ
number_of steps.Answer = ANSWER
number_of steps.Write = WRITE

-- the place that an input is, where it is one word
abbrev pub place_in : List ℕ → Option ℕ
place_in [] = None
place_in (place ∷ []) = Some place
place_in (place ∷ next ∷ more) = None

abbrev pub place_of : Outcome → Option ℕ
place_of (Value words) = place_in words
place_of (Broken exception) = None
