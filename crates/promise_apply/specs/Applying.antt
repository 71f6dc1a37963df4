-- Commands against their definitions: what refuses them, and what they leave.
use Rattle.std.specs.Prelude.{◌≡◌, ℕ, ◌+◌, ◌≤◌, ◌^◌, List, [], ◌∷◌, ◌++◌, Option, None, Some, Bool, true, false, IsTrue, not, ◌||◌, ◌&&◌, nat_lt, length}
use Rattle.kj_base.specs.Commands.{Command, Action}
use Rattle.kj_base.specs.Places.{Spot, Row}
use Rattle.kj_base.specs.Record.{Item}
use Rattle.promise_commands.specs.Telling.{Telling, Hears}
use Rattle.promise_commands.specs.declared.command.Command.{Command as CommandCase}
use Rattle.promise_commands.specs.declared.command.Command.TheVariants.{Clear as ClearCase, Drop as DropCase}
use Rattle.kj_model.specs.World.{World, State, Setting, Awaited}
use Rattle.kj_model.specs.Changes.{silent}
use Rattle.kj_model.specs.Free.{Guard}
use Rattle.kj_model.specs.Effects.{effect}
use Rattle.kj_model.specs.Uses.{Use, uses_of, first_failing, is_outside, is_unknown, is_wrong, is_taken, is_name, is_new, is_source, used_before}
use Rattle.kj_model.specs.Apply.{Refused, Unknown, WrongKind, Taken, Busy, Full, Stopped, apply, rows, each_named, with_awaited, is_none, name_of_first, would_settle}

-- whether rows fit, by the number of slots and the spots of the live nodes
abbrev pub Rule : Type 0
Rule = ℕ → List Spot → List Row → Bool

-- a store with this rule, and these answers
abbrev pub setting_of : Rule → (List Item → ℕ → Option Action) → Setting
setting_of rule answer = record { fits = rule; answer = answer }

-- this refusal or none, a world that stands now, and this record
pub record IsApplied (New : World → Type 0) (past : List Item) (refused : Option Refused) (r : State × Option Refused) : Type 0 where
  pub reply : r.1 ≡ refused
  pub stands : New r.0.world
  pub past_is : r.0.past ≡ past

-- the command is applied, whatever steps answer and wherever it comes from, and nothing was run or freed
abbrev pub Applies : (World → Type 0) → (World → Type 0) → Rule → Option Refused → Command → Type 0
Applies Old New rule refused c = (answer : List Item → ℕ → Option Action) (inside : Bool) (s : State) → Old s.world → IsApplied New s.past refused (apply (setting_of rule answer) inside c s)

-- the same, and just these items were told
pub record DoesCommand (Old New : World → Type 0) (rule : Rule) (refused : Option Refused) (c : Command) (told_before told_after : Telling) : Type 0 where
  pub items : List Item
  pub told : Hears told_before items told_after
  pub applied : (answer : List Item → ℕ → Option Action) (inside : Bool) (s : State) → Old s.world → IsApplied New (s.past ++ items) refused (apply (setting_of rule answer) inside c s)

-- the first of two causes
abbrev pub or_else : Option Refused → Option Refused → Option Refused
or_else (Some refused) later = Some refused
or_else None later = later

-- a cause that tells a name
abbrev pub refused_name : (ℕ → Refused) → Option ℕ → Option Refused
refused_name make (Some name) = Some (make name)
refused_name make None = None

-- a cause, where it is one
abbrev pub refused_if : Bool → Refused → Option Refused
refused_if true refused = Some refused
refused_if false refused = None

-- how many names there would be, with that of the awaited promise
abbrev pub names_left : List Use → World → ℕ
names_left uses w = length (with_awaited w.awaited (each_named uses w)).names

-- no room for the nodes or the names, or all numbers of nodes are used
abbrev pub lacks_room : Rule → List Use → List Row → World → Bool
lacks_room rule uses built w = not (rule w.limits.slots w.spots built) || nat_lt w.limits.names (names_left uses w) || (not (is_none built) && nat_lt (2 ^ 63) w.next)

-- why these names are refused: Unknown, WrongKind, Taken, in this order
abbrev pub names_refused : List Use → World → Option Refused
names_refused uses w =
    or_else (refused_name Unknown (first_failing (is_unknown w) [] uses))
    (or_else (refused_name WrongKind (first_failing (is_wrong w) [] uses))
    (refused_name Taken (first_failing (is_taken w) [] uses)))

-- why these names are refused: Stopped first
abbrev pub refused_first : List Use → World → Option Refused
refused_first uses w = or_else (refused_if w.stopped Stopped) (names_refused uses w)

-- why these names and rows are refused: Stopped first, and Full last
abbrev pub refused_for : Rule → List Use → List Row → World → Option Refused
refused_for rule uses built w = or_else (refused_if w.stopped Stopped) (or_else (names_refused uses w) (refused_if (lacks_room rule uses built w) Full))

-- the same where the command may be Busy, which comes before Full
abbrev pub refused_when : Bool → Rule → List Use → List Row → World → Option Refused
refused_when busy rule uses built w = or_else (refused_if w.stopped Stopped) (or_else (names_refused uses w) (or_else (refused_if busy (Busy (name_of_first uses))) (refused_if (lacks_room rule uses built w) Full)))

-- why a command with one name, which builds nothing, is refused once that passes: Busy, then Full
abbrev pub refused_later : Bool → Rule → Use → World → Option Refused
refused_later busy rule u w =
    or_else (refused_if busy (Busy u.name)) (refused_if (lacks_room rule (u ∷ []) [] w) Full)

-- no name refuses
pub record ArePassed (uses : List Use) (w : World) : Type 0 where
  pub unknown : first_failing (is_unknown w) [] uses ≡ None
  pub wrong : first_failing (is_wrong w) [] uses ≡ None
  pub taken : first_failing (is_taken w) [] uses ≡ None

-- 1 where it holds
abbrev pub one_if : Bool → ℕ
one_if true = 1
one_if false = 0

-- how many names come
abbrev pub count_new : List Use → ℕ
count_new [] = 0
count_new (u ∷ us) = one_if (is_new u.role) + count_new us

-- how many go
abbrev pub count_sources : List Use → ℕ
count_sources [] = 0
count_sources (u ∷ us) = one_if (is_source u.role) + count_sources us

-- whether this name is there after the new names came and the sources went
abbrev pub stays : ℕ → List Use → World → Bool
stays name uses w = used_before is_new name uses || (is_name name w.names && not (used_before is_source name uses))

-- one name more, where that of the awaited promise is gone
abbrev pub awaited_over : Option Awaited → List Use → World → ℕ
awaited_over None uses w = 0
awaited_over (Some a) uses w = one_if (not (stays a.name uses w))

-- there is room for the nodes and the names, and numbers are left
pub record HasRoom (room : List Row → Bool) (next count limit : ℕ) (uses : List Use) (built : List Row) : Type 0 where
  pub fits : IsTrue (room built)
  pub numbered : is_none built ≡ false → next ≤ 2 ^ 63
  pub named : count + count_new uses ≤ limit + count_sources uses

-- a command that frees nothing
abbrev pub IsSilent : CommandCase → Type 0
IsSilent (ClearCase group) = ⊥
IsSilent (DropCase name) = ⊥
IsSilent other = Unit {0}

-- a command has these names, rows and effect; a step may give it, and it settles no Wrap
pub record IsCommand (c : Command) (uses : List Use) (built : World → List Row) (change : World → World) : Type 0 where
  pub uses_are : uses_of c ≡ uses
  pub rows_are : (w : World) → rows c w ≡ built w
  pub changes : (guard : Guard) (s : State) → effect guard c s ≡ silent change s
  pub anywhere : is_outside c ≡ false
  pub spares : (n : ℕ) (w : World) → would_settle n c w ≡ false

-- a command has these names and no rows, and has no effect on a world that stands; a step may give it, and it settles no Wrap
pub record IsIdle (Old : World → Type 0) (c : Command) (uses : List Use) : Type 0 where
  pub uses_are : uses_of c ≡ uses
  pub rows_are : (w : World) → rows c w ≡ []
  pub changes : (guard : Guard) (s : State) → Old s.world → effect guard c s ≡ s
  pub anywhere : is_outside c ≡ false
  pub spares : (n : ℕ) (w : World) → Old w → would_settle n c w ≡ false
