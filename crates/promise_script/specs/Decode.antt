-- What a reader finds in the words of a line. `ScriptText` says what the lines are; these functions are how the code
-- finds it, and the proofs tie the two.
use Rattle.std.specs.Prelude.{ℕ, ◌^◌, ◌&&◌, ◌%◌, ◌==◌, List, [], ◌∷◌, Option, None, Some, Bool, cond, codes, decimal, bytes_eq, length, nat_lt, nat_le}
use Rattle.std.specs.Str.Parse.{digits_value}
use Rattle.kj_base.specs.declared.limits.TheConstants.{MAX_SLOTS, MAX_NAMES}
use Rattle.promise_commands.specs.declared.sources.TheConstants.{MAX_PARTS}
use Rattle.promise_script.specs.declared.meaning.TheConstants.{MAX_WORDS, MAX_TURNS, SLOTS_STEP}
use Rattle.kj_base.specs.declared.numbers.StepId.{StepId}
use Rattle.kj_base.specs.declared.numbers.Name.{Name}
use Rattle.kj_base.specs.declared.numbers.Limits.{Limits}
use Rattle.kj_base.specs.declared.outcomes.Exception.{Exception}
use Rattle.kj_base.specs.declared.outcomes.Kind.{Kind}
use Rattle.kj_base.specs.declared.outcomes.Kind.TheVariants.{Failed, Overloaded, Disconnected, Unimplemented}
use Rattle.kj_base.specs.declared.endings.Ending.TheVariants.{Value, Throw, Promise, Input}
use Rattle.promise_commands.specs.declared.command.Command.{Command}
use Rattle.promise_commands.specs.declared.command.Command.TheVariants.{Now, Broken, Later, Last, Pair, Then, Chain, Eager, Fork, Branch, Race, All, Fast, Fulfil, Reject, DropCell, Detach, NewSet, Add, OnEmpty, Clear, NewCanceler, Cancel, Drop}
use Rattle.promise_script.specs.declared.meaning.Meaning.{Meaning}
use Rattle.promise_script.specs.declared.meaning.Meaning.TheVariants.{Nothing, Limits as LimitsLine, Do, Turn, Run, Wait, Step, Close}
use Rattle.promise_script.specs.declared.verbs.Maker.{Maker}
use Rattle.promise_script.specs.declared.verbs.Maker.TheVariants.{Now as NowWord, Fail as FailWord, Later as LaterWord, Last as LastWord, Pair as PairWord, Empty as EmptyWord}
use Rattle.promise_script.specs.declared.verbs.Combiner.{Combiner}
use Rattle.promise_script.specs.declared.verbs.Combiner.TheVariants.{Then as ThenWord, Chain as ChainWord, Eager as EagerWord, Fork as ForkWord, Branch as BranchWord, Race as RaceWord, All as AllWord, Fast as FastWord}
use Rattle.promise_script.specs.declared.verbs.User.{User}
use Rattle.promise_script.specs.declared.verbs.User.TheVariants.{Fulfil as FulfilWord, Reject as RejectWord, DropCell as DropCellWord, Detach as DetachWord, Set as SetWord, Add as AddWord, Clear as ClearWord, Canceler as CancelerWord, Cancel as CancelWord, Drop as DropWord}
use Rattle.promise_script.specs.declared.verbs.Verb.{Verb}
use Rattle.promise_script.specs.declared.verbs.Verb.TheVariants.{Make, Combine, Use, Limits as LimitsWord, Turn as TurnWord, Run as RunWord, Wait as WaitWord, Step as StepWord, Value as ValueWord, Throw as ThrowWord, Promise as PromiseWord, Input as InputWord}
use Rattle.promise_script.specs.ScriptText.{words_of, is_remark}

-- a value from the one that may be there
abbrev pub given : {A B : Type 0} → (A → B) → Option A → Option B
given f None = None
given f (Some x) = Some (f x)

-- the two, where both are there
abbrev pub both : {A B : Type 0} → Option A → Option B → Option (A × B)
both None b = None
both (Some x) None = None
both (Some x) (Some y) = Some (x, y)

-- the first, or else the second
abbrev pub or_else : {A : Type 0} → Option A → Option A → Option A
or_else None b = b
or_else (Some x) b = Some x

-- what each of the words is read as
abbrev pub all_read : {A : Type 0} → (List ℕ → Option A) → List (List ℕ) → Option (List A)
all_read f [] = Some []
all_read f (w ∷ ws) = given (λ p. p.0 ∷ p.1) (both (f w) (all_read f ws))

-- a number below the bound
abbrev pub number_read : ℕ → List ℕ → Option ℕ
number_read bound w = cond (bytes_eq w (decimal (digits_value 10 w)) && nat_lt (digits_value 10 w) bound) (Some (digits_value 10 w)) None

abbrev pub to_name : ℕ → Name
to_name n = record { 0 = n }

abbrev pub to_step : ℕ → StepId
to_step n = record { 0 = n }

abbrev pub name_read : List ℕ → Option Name
name_read w = given to_name (number_read (2 ^ 32) w)

abbrev pub step_read : List ℕ → Option (Option StepId)
step_read w = cond (bytes_eq w (codes "-")) (Some None) (given (λ n. Some (to_step n)) (number_read (2 ^ 32) w))

abbrev pub kind_read : List ℕ → Option Kind
kind_read w =
    cond (bytes_eq w (codes "failed")) (Some Failed) (
    cond (bytes_eq w (codes "overloaded")) (Some Overloaded) (
    cond (bytes_eq w (codes "disconnected")) (Some Disconnected) (
    cond (bytes_eq w (codes "unimplemented")) (Some Unimplemented) (None))))

-- at most so many words, each read
abbrev pub few_read : {A : Type 0} → ℕ → (List ℕ → Option A) → List (List ℕ) → Option (List A)
few_read most f ps = cond (nat_lt most (length ps)) None (all_read f ps)

abbrev pub words_read : List (List ℕ) → Option (List ℕ)
words_read ps = few_read MAX_WORDS (number_read (2 ^ 64)) ps

abbrev pub names_read : List (List ℕ) → Option (List Name)
names_read ps = few_read MAX_PARTS name_read ps

abbrev pub to_exception : Kind × ℕ → Exception
to_exception p = record { kind = p.0; code = p.1 }

abbrev pub exception_read : List (List ℕ) → Option Exception
exception_read [] = None
exception_read (k ∷ []) = None
exception_read (k ∷ c ∷ []) = given to_exception (both (kind_read k) (number_read (2 ^ 32) c))
exception_read (k ∷ c ∷ x ∷ ps) = None

abbrev pub one_name : List (List ℕ) → Option Name
one_name [] = None
one_name (a ∷ []) = name_read a
one_name (a ∷ b ∷ ps) = None

abbrev pub two_names : List (List ℕ) → Option (Name × Name)
two_names [] = None
two_names (a ∷ []) = None
two_names (a ∷ b ∷ []) = both (name_read a) (name_read b)
two_names (a ∷ b ∷ c ∷ ps) = None

abbrev pub one_step : List (List ℕ) → Option (Option StepId)
one_step [] = None
one_step (a ∷ []) = step_read a
one_step (a ∷ b ∷ ps) = None

abbrev pub two_steps : List (List ℕ) → Option (Option StepId × Option StepId)
two_steps [] = None
two_steps (a ∷ []) = None
two_steps (a ∷ b ∷ []) = both (step_read a) (step_read b)
two_steps (a ∷ b ∷ c ∷ ps) = None

-- a name, and what the rest is read as
abbrev pub name_and : {A : Type 0} → (List (List ℕ) → Option A) → List (List ℕ) → Option (Name × A)
name_and f [] = None
name_and f (a ∷ ps) = both (name_read a) (f ps)

-- ---- first words

abbrev pub maker_read : List ℕ → Option Maker
maker_read w =
    cond (bytes_eq w (codes "now")) (Some NowWord) (
    cond (bytes_eq w (codes "fail")) (Some FailWord) (
    cond (bytes_eq w (codes "later")) (Some LaterWord) (
    cond (bytes_eq w (codes "last")) (Some LastWord) (
    cond (bytes_eq w (codes "pair")) (Some PairWord) (
    cond (bytes_eq w (codes "empty")) (Some EmptyWord) (None))))))

abbrev pub combiner_read : List ℕ → Option Combiner
combiner_read w =
    cond (bytes_eq w (codes "then")) (Some ThenWord) (
    cond (bytes_eq w (codes "chain")) (Some ChainWord) (
    cond (bytes_eq w (codes "eager")) (Some EagerWord) (
    cond (bytes_eq w (codes "fork")) (Some ForkWord) (
    cond (bytes_eq w (codes "branch")) (Some BranchWord) (
    cond (bytes_eq w (codes "race")) (Some RaceWord) (
    cond (bytes_eq w (codes "all")) (Some AllWord) (
    cond (bytes_eq w (codes "fast")) (Some FastWord) (None))))))))

abbrev pub user_read : List ℕ → Option User
user_read w =
    cond (bytes_eq w (codes "fulfil")) (Some FulfilWord) (
    cond (bytes_eq w (codes "reject")) (Some RejectWord) (
    cond (bytes_eq w (codes "dropcell")) (Some DropCellWord) (
    cond (bytes_eq w (codes "detach")) (Some DetachWord) (
    cond (bytes_eq w (codes "set")) (Some SetWord) (
    cond (bytes_eq w (codes "add")) (Some AddWord) (
    cond (bytes_eq w (codes "clear")) (Some ClearWord) (
    cond (bytes_eq w (codes "canceler")) (Some CancelerWord) (
    cond (bytes_eq w (codes "cancel")) (Some CancelWord) (
    cond (bytes_eq w (codes "drop")) (Some DropWord) (None))))))))))

abbrev pub other_read : List ℕ → Option Verb
other_read w =
    cond (bytes_eq w (codes "limits")) (Some LimitsWord) (
    cond (bytes_eq w (codes "turn")) (Some TurnWord) (
    cond (bytes_eq w (codes "run")) (Some RunWord) (
    cond (bytes_eq w (codes "wait")) (Some WaitWord) (
    cond (bytes_eq w (codes "step")) (Some StepWord) (
    cond (bytes_eq w (codes "value")) (Some ValueWord) (
    cond (bytes_eq w (codes "throw")) (Some ThrowWord) (
    cond (bytes_eq w (codes "promise")) (Some PromiseWord) (
    cond (bytes_eq w (codes "input")) (Some InputWord) (None)))))))))

abbrev pub verb_read : List ℕ → Option Verb
verb_read w = or_else (given Make (maker_read w)) (or_else (given Combine (combiner_read w)) (or_else (given Use (user_read w)) (other_read w)))

-- ---- commands

abbrev pub made_by : Maker → List (List ℕ) → Option Command
made_by NowWord ps = given (λ p. Now p.0 p.1) (name_and words_read ps)
made_by FailWord ps = given (λ p. Broken p.0 p.1) (name_and exception_read ps)
made_by LaterWord ps = given Later (one_name ps)
made_by LastWord ps = given Last (one_name ps)
made_by PairWord ps = given (λ p. Pair p.0 p.1) (two_names ps)
made_by EmptyWord ps = given (λ p. OnEmpty p.0 p.1) (two_names ps)

abbrev pub combined_by : Combiner → List (List ℕ) → Option Command
combined_by ThenWord ps = given (λ p. Then p.0 p.1.0 p.1.1.0 p.1.1.1) (name_and (name_and two_steps) ps)
combined_by ChainWord ps = given (λ p. Chain p.0 p.1.0 p.1.1.0 p.1.1.1) (name_and (name_and two_steps) ps)
combined_by EagerWord ps = given (λ p. Eager p.0 p.1) (two_names ps)
combined_by ForkWord ps = given (λ p. Fork p.0 p.1) (two_names ps)
combined_by BranchWord ps = given (λ p. Branch p.0 p.1) (two_names ps)
combined_by RaceWord ps = given (λ p. Race p.0 p.1.0 p.1.1) (name_and two_names ps)
combined_by AllWord ps = given (λ p. All p.0 p.1) (name_and names_read ps)
combined_by FastWord ps = given (λ p. Fast p.0 p.1) (name_and names_read ps)

abbrev pub used_by : User → List (List ℕ) → Option Command
used_by FulfilWord ps = given (λ p. Fulfil p.0 p.1) (name_and words_read ps)
used_by RejectWord ps = given (λ p. Reject p.0 p.1) (name_and exception_read ps)
used_by DropCellWord ps = given DropCell (one_name ps)
used_by DetachWord ps = given Detach (one_name ps)
used_by SetWord ps = given (λ p. NewSet p.0 p.1) (name_and one_step ps)
used_by AddWord ps = given (λ p. Add p.0 p.1) (two_names ps)
used_by ClearWord ps = given Clear (one_name ps)
used_by CancelerWord ps = given NewCanceler (one_name ps)
used_by CancelWord ps = given Cancel (one_name ps)
used_by DropWord ps = given Drop (one_name ps)

-- ---- lines

abbrev pub limits_fit : ℕ → ℕ → Bool
limits_fit slots names = nat_le SLOTS_STEP slots && nat_le slots MAX_SLOTS && (slots % SLOTS_STEP == 0) && nat_le 1 names && nat_le names MAX_NAMES

abbrev pub limits_of : ℕ × ℕ → Option Limits
limits_of p = cond (limits_fit p.0 p.1) (Some (record { slots = p.0; names = p.1 })) None

-- the next step of a reading, where this one found something
abbrev pub and_then : {A B : Type 0} → (A → Option B) → Option A → Option B
and_then f None = None
and_then f (Some x) = f x

abbrev pub limits_read : List (List ℕ) → Option Limits
limits_read [] = None
limits_read (s ∷ []) = None
limits_read (s ∷ n ∷ []) = and_then limits_of (both (number_read (2 ^ 32) s) (number_read (2 ^ 32) n))
limits_read (s ∷ n ∷ x ∷ ps) = None

abbrev pub one_number : List (List ℕ) → Option ℕ
one_number [] = None
one_number (n ∷ []) = number_read (2 ^ 32) n
one_number (n ∷ x ∷ ps) = None

abbrev pub turns_read : List (List ℕ) → Option ℕ
turns_read ps = and_then (λ n. cond (nat_lt MAX_TURNS n) None (Some n)) (one_number ps)

abbrev pub bare : Meaning → List (List ℕ) → Option Meaning
bare meaning [] = Some meaning
bare meaning (p ∷ ps) = None

abbrev pub waited : List (List ℕ) → Option Meaning
waited ps = given (λ p. Wait p.0 p.1) (name_and turns_read ps)

abbrev pub meaning_read : Verb → List (List ℕ) → Option Meaning
meaning_read (Make maker) ps = given Do (made_by maker ps)
meaning_read (Combine combiner) ps = given Do (combined_by combiner ps)
meaning_read (Use user) ps = given Do (used_by user ps)
meaning_read LimitsWord ps = given LimitsLine (limits_read ps)
meaning_read TurnWord ps = bare Turn ps
meaning_read RunWord ps = given Run (turns_read ps)
meaning_read WaitWord ps = waited ps
meaning_read StepWord ps = given (λ n. Step (to_step n)) (one_number ps)
meaning_read ValueWord ps = given (λ words. Close (Value words)) (words_read ps)
meaning_read ThrowWord ps = given (λ exception. Close (Throw exception)) (exception_read ps)
meaning_read PromiseWord ps = given (λ name. Close (Promise name)) (one_name ps)
meaning_read InputWord ps = bare (Close Input) ps

abbrev pub words_meaning : List (List ℕ) → Option Meaning
words_meaning [] = None
words_meaning (w ∷ ps) = and_then (λ verb. meaning_read verb ps) (verb_read w)

-- what a line is read as
abbrev pub text_read : List ℕ → Option Meaning
text_read text = cond (is_remark text) (Some Nothing) (words_meaning (words_of text))
