-- The tasks of a set go, and then its name.
use Rattle.std.proofs.Common.{◌≡◌, ◌∙◌, refl, sym, ap, subst, ℕ, List, [], Option, None, Some, Bool, true, false}
use Rattle.std.specs.Prelude.{reverse}
use Rattle.std.proofs.lemmas.Bool.{false≢true}
use Rattle.kj_model.specs.World.{World, State, Held, Promise, CellOf, AskCell, HubOf, Group, Canceler, RequestOf, held_at}
use Rattle.kj_model.specs.Changes.{silent, unnamed}
use Rattle.kj_model.specs.Free.{Holding, each_freed}
use Rattle.kj_model.specs.Calls.{closed_held}
use Rattle.promise_nodes.specs.Members.{lists_in, members_of, newest_member}
use Rattle.promise_names.specs.Once.{AreRising}
use Rattle.promise_names.specs.declared.names.Held.{Held as HeldCase}
use Rattle.promise_names.specs.declared.names.Held.TheVariants.{Promise as PromiseCase, CellOf as CellCase, AskCell as AskCase, HubOf as HubCase, Group as GroupCase, Canceler as CancelerCase, RequestOf as RequestCase}
use Rattle.promise_names.specs.Held.{IsSet, SeesHeld, held_shown}
use Rattle.promise_walks.proofs.Commuted.{frees_commute}
use Rattle.promise_firing.specs.Closed.{found_closed, free_one, is_set, name_closed, set_closed, tasks_closed}
use Rattle.promise_walks.proofs.Newest.{newest_first, none_first, set_stays as stays_one}

-- ---- while tasks go

-- a set stays as it is while a tree goes
pub set_stays : (name t : ℕ) (s : State) → IsSet (held_at name s.world.names) → held_at name (free_one t s).world.names ≡ held_at name s.world.names
set_stays name t s is = stays_one (Holding []) name t s is

goes_case : (o : Option Held) (t : ℕ) (s : State) → IsSet o → newest_member s.world (members_of o) ≡ Some t → tasks_closed o (free_one t s) ≡ tasks_closed o s
goes_case (Some (Group error tasks empty)) t s is h = sym (newest_first (Holding []) (reverse tasks) t s h)
goes_case None t s is h = absurd is
goes_case (Some _) t s is h = absurd is

-- the newest task goes first
pub task_goes : (name t : ℕ) (s : State) → IsSet (held_at name s.world.names) → newest_member s.world (lists_in s.world name) ≡ Some t → set_closed name (free_one t s) ≡ set_closed name s
task_goes name t s is h = ap (λ (o : Option Held). tasks_closed o (free_one t s)) (set_stays name t s is) ∙ goes_case (held_at name s.world.names) t s is h

ends_case : (o : Option Held) (s : State) → IsSet o → newest_member s.world (members_of o) ≡ None → tasks_closed o s ≡ s
ends_case (Some (Group error tasks empty)) s is h = none_first (Holding []) (reverse tasks) s h
ends_case None s is h = absurd is
ends_case (Some _) s is h = absurd is

-- where no task lives, nothing goes
pub no_task_goes : (name : ℕ) (s : State) → IsSet (held_at name s.world.names) → newest_member s.world (lists_in s.world name) ≡ None → set_closed name s ≡ s
no_task_goes name s is h = ends_case (held_at name s.world.names) s is h

-- ---- what is seen of a name

set_shown : (members : List ℕ) (held : HeldCase) → is_set (Some held) ≡ true → IsSet (Some (held_shown members held))
set_shown members (GroupCase error tasks empty) is = tt
set_shown members (PromiseCase root) is = absurd (false≢true is)
set_shown members (CellCase cell) is = absurd (false≢true is)
set_shown members (AskCase cell is_taken) is = absurd (false≢true is)
set_shown members (HubCase hub) is = absurd (false≢true is)
set_shown members CancelerCase is = absurd (false≢true is)
set_shown members (RequestCase request) is = absurd (false≢true is)

-- a set
pub sees_set : (o : Option HeldCase) (seen : Option Held) → SeesHeld o seen → is_set o ≡ true → IsSet seen
sees_set None seen sees is = absurd (false≢true is)
sees_set (Some held) None sees is = absurd sees
sees_set (Some held) (Some seen) sees is = subst (λ (h : Held). IsSet (Some h)) (sym sees.is) (set_shown sees.members held is)

other_shown : (members : List ℕ) (held : HeldCase) (s : State) → is_set (Some held) ≡ false → tasks_closed (Some (held_shown members held)) s ≡ s
other_shown members (GroupCase error tasks empty) s is = absurd (false≢true (sym is))
other_shown members (PromiseCase root) s is = refl
other_shown members (CellCase cell) s is = refl
other_shown members (AskCase cell is_taken) s is = refl
other_shown members (HubCase hub) s is = refl
other_shown members CancelerCase s is = refl
other_shown members (RequestCase request) s is = refl

-- anything else has no tasks
pub sees_other : (o : Option HeldCase) (seen : Option Held) (s : State) → SeesHeld o seen → is_set o ≡ false → tasks_closed seen s ≡ s
sees_other None None s sees is = refl
sees_other None (Some seen) s sees is = absurd sees
sees_other (Some held) None s sees is = absurd sees
sees_other (Some held) (Some seen) s sees is = ap (λ (h : Held). tasks_closed (Some h) s) sees.is ∙ other_shown sees.members held s is

-- ---- the name

shown_first : (held : HeldCase) (members : List ℕ) (name : ℕ) (s : State) → AreRising s.world.names → held_at name s.world.names ≡ Some (held_shown members held)
    → closed_held (held_shown [] held) (silent (unnamed name) (tasks_closed (Some (held_shown members held)) s)) ≡ closed_held (held_shown members held) (silent (unnamed name) s)
shown_first (GroupCase error tasks empty) members name s rising at = sym (frees_commute name None tt (Holding []) (reverse members) s (rising, subst IsSet (sym at) tt)).0
shown_first (PromiseCase root) members name s rising at = refl
shown_first (CellCase cell) members name s rising at = refl
shown_first (AskCase cell is_taken) members name s rising at = refl
shown_first (HubCase hub) members name s rising at = refl
shown_first CancelerCase members name s rising at = refl
shown_first (RequestCase request) members name s rising at = refl

first_case : (held : HeldCase) (o : Option Held) (name : ℕ) (s : State) → AreRising s.world.names → held_at name s.world.names ≡ o → SeesHeld (Some held) o
    → closed_held (held_shown [] held) (silent (unnamed name) (tasks_closed o s)) ≡ found_closed o (silent (unnamed name) s)
first_case held None name s rising at sees = absurd sees
first_case held (Some seen) name s rising at sees =
    subst (λ (h : Held). closed_held (held_shown [] held) (silent (unnamed name) (tasks_closed (Some h) s)) ≡ closed_held h (silent (unnamed name) s)) (sym sees.is)
    (shown_first held sees.members name s rising (at ∙ ap (λ (h : Held). Some h) sees.is))

-- tasks may go before their set's name
pub tasks_first : (held : HeldCase) (name : ℕ) (s : State) → AreRising s.world.names → SeesHeld (Some held) (held_at name s.world.names)
    → closed_held (held_shown [] held) (silent (unnamed name) (set_closed name s)) ≡ name_closed name s
tasks_first held name s rising sees = first_case held (held_at name s.world.names) name s rising refl sees

none_case : (o : Option Held) (name : ℕ) (s : State) → SeesHeld None o → silent (unnamed name) (tasks_closed o s) ≡ found_closed o (silent (unnamed name) s)
none_case None name s sees = refl
none_case (Some seen) name s sees = absurd sees

-- a name that isn't there has none
pub no_name_first : (name : ℕ) (s : State) → SeesHeld None (held_at name s.world.names) → silent (unnamed name) (set_closed name s) ≡ name_closed name s
no_name_first name s sees = none_case (held_at name s.world.names) name s sees
