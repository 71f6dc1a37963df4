-- Commands with one name that build nothing: why they are refused.
use Rattle.std.proofs.Common.{◌≡◌, ◌∙◌, ℕ, List, [], ◌∷◌, Option, None, Some, Bool, false, refl, sym, ap}
use Rattle.kj_base.specs.Commands.{Command, Action, Clear, Drop}
use Rattle.kj_base.specs.Record.{Item}
use Rattle.kj_model.specs.World.{World, State}
use Rattle.kj_model.specs.Uses.{Use, use_as, uses_of, is_outside, IsGroup, IsDroppable}
use Rattle.kj_model.specs.Apply.{Refused, Stopped, refusal, is_busy, rows}
use Rattle.promise_apply.specs.Applying.{Rule, setting_of, names_refused, or_else, refused_first, refused_if, refused_later}
use Rattle.promise_apply.proofs.Refused.{or_else_twice, refusal_when}

-- a command has this one name, and builds nothing; a step may give it
pub record IsAlone (c : Command) (u : Use) : Type 0 where
  pub uses_are : uses_of c ≡ u ∷ []
  pub rows_are : (w : World) → rows c w ≡ []
  pub anywhere : is_outside c ≡ false

pub clear_alone : (group : ℕ) → IsAlone (Clear group) (use_as IsGroup group)
clear_alone group = record { uses_are = refl; rows_are = λ w. refl; anywhere = refl }

pub drop_alone : (name : ℕ) → IsAlone (Drop name) (use_as IsDroppable name)
drop_alone name = record { uses_are = refl; rows_are = λ w. refl; anywhere = refl }

-- by its name, because it is Busy, because it is Full
alone_parts : (rule : Rule) (answer : List Item → ℕ → Option Action) (inside : Bool) (c : Command) (u : Use) (s : State) → IsAlone c u
    → refusal (setting_of rule answer) inside c s ≡ or_else (refused_first (u ∷ []) s.world) (refused_later (is_busy c s) rule u s.world)
alone_parts rule answer inside c u s is =
    refusal_when (is_busy c s) rule answer inside c s (u ∷ []) [] is.uses_are (is.rows_are s.world) is.anywhere refl
    ∙ or_else_twice (refused_if s.world.stopped Stopped) (names_refused (u ∷ []) s.world) (refused_later (is_busy c s) rule u s.world)

-- by its name
pub alone_named : (rule : Rule) (answer : List Item → ℕ → Option Action) (inside : Bool) (c : Command) (u : Use) (r : Refused) (s : State) → IsAlone c u
    → Some r ≡ refused_first (u ∷ []) s.world → refusal (setting_of rule answer) inside c s ≡ Some r
alone_named rule answer inside c u r s is first =
    alone_parts rule answer inside c u s is
    ∙ ap (λ (o : Option Refused). or_else o (refused_later (is_busy c s) rule u s.world)) (sym first)

-- its name passes
pub alone_behind : (rule : Rule) (answer : List Item → ℕ → Option Action) (inside busy : Bool) (c : Command) (u : Use) (s : State) → IsAlone c u
    → refused_first (u ∷ []) s.world ≡ None → is_busy c s ≡ busy → refusal (setting_of rule answer) inside c s ≡ refused_later busy rule u s.world
alone_behind rule answer inside busy c u s is first so =
    alone_parts rule answer inside c u s is
    ∙ ap (λ (o : Option Refused). or_else o (refused_later (is_busy c s) rule u s.world)) first
    ∙ ap (λ (b : Bool). refused_later b rule u s.world) so
