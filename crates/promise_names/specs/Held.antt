-- What a keeper of names says of what names hold.
use Rattle.std.specs.Prelude.{◌≡◌, ℕ, ◌<◌, List, [], ◌∷◌, ◌++◌, ◌^◌, length, map, Option, None, Some, Bool, true, false}
use Rattle.kj_base.specs.declared.numbers.Name.{Name}
use Rattle.kj_base.specs.Commands.{step_of}
use Rattle.kj_model.specs.Nodes.{renamed}
use Rattle.kj_model.specs.Fire.{awaited_renamed, named_renamed}
use Rattle.kj_model.specs.Free.{abandoned_as, ask_of, without_wrap}
use Rattle.kj_model.specs.Changes.{named}
use Rattle.kj_model.specs.World.{World, Named, Awaited, Held, Promise, CellOf, AskCell, HubOf, Group, Canceler, RequestOf, held_at}
pub use Rattle.promise_nodes.specs.Members.{members_of}
use Rattle.promise_nodes.specs.Shown.{link_number}
use Rattle.promise_names.specs.declared.names.Awaited.{Awaited as AwaitedCase}
use Rattle.promise_names.specs.declared.names.Held.{Held as HeldCase}
use Rattle.promise_names.specs.declared.names.Leaving.{Leaving}
use Rattle.promise_names.specs.declared.names.Leaving.TheVariants.{Nothing, Cell as CellLeaves, Wrap as WrapLeaves}
use Rattle.promise_names.specs.declared.names.Held.TheVariants.{Promise as PromiseCase, CellOf as CellCase, AskCell as AskCase, HubOf as HubCase, Group as GroupCase, Canceler as CancelerCase, RequestOf as RequestCase}

-- what each variant is; a set has these tasks, and a canceler these Wraps
abbrev pub held_shown : List ℕ → HeldCase → Held
held_shown members (PromiseCase root) = Promise root.number.0
held_shown members (CellCase cell) = CellOf cell.number.0
held_shown members (AskCase cell is_taken) = AskCell cell.number.0 is_taken
held_shown members (HubCase hub) = HubOf hub.number.0
held_shown members (GroupCase error tasks empty) = Group (step_of error) members (link_number empty)
held_shown members CancelerCase = Canceler members
held_shown members (RequestCase node) = RequestOf (link_number node)

-- a set has as many tasks as it counts, and a canceler has no Wraps
abbrev pub IsCounted : List ℕ → HeldCase → Type 0
IsCounted members (GroupCase error tasks empty) = length members ≡ tasks
IsCounted members CancelerCase = members ≡ []
IsCounted members other = Unit {0}

-- a set has some members, as many as it counts, and else it is the same
pub record IsHeld (held : HeldCase) (seen : Held) : Type 0 where
  pub members : List ℕ
  pub counted : IsCounted members held
  pub is : seen ≡ held_shown members held

-- what a name holds is seen just where it is there
abbrev pub SeesHeld : Option HeldCase → Option Held → Type 0
SeesHeld None None = Unit {0}
SeesHeld None (Some seen) = ⊥
SeesHeld (Some held) None = ⊥
SeesHeld (Some held) (Some seen) = IsHeld held seen

-- a set
abbrev pub IsSet : Option Held → Type 0
IsSet (Some (Group error tasks empty)) = Unit {0}
IsSet other = ⊥

-- neither a set nor a canceler
abbrev pub IsListless : Option Held → Type 0
IsListless (Some (Group error tasks empty)) = ⊥
IsListless (Some (Canceler wraps)) = ⊥
IsListless other = Unit {0}

-- the world in which this set has these tasks, and this cell waits until it is empty
abbrev pub regrouped_in : Option Held → ℕ → List ℕ → Option ℕ → World → World
regrouped_in (Some (Group error tasks old)) group members empty w = named group (Group error members empty) w
regrouped_in other group members empty w = w

-- the same of what the name holds
abbrev pub regrouped : ℕ → List ℕ → Option ℕ → World → World
regrouped group members empty w = regrouped_in (held_at group w.names) group members empty w

-- the root that a name promises
abbrev pub root_of : Option HeldCase → Option ℕ
root_of (Some (PromiseCase root)) = Some root.number.0
root_of other = None

-- no two names promise one tree
abbrev pub AreApart : (ℕ → Option ℕ) → Type 0
AreApart roots = (name other root : ℕ) → roots name ≡ Some root → roots other ≡ Some root → name ≡ other

-- no tree that a name promises was taken, each was built, and no two names promise one
pub record AreFree (roots : ℕ → Option ℕ) (taken : ℕ → Bool) (next : ℕ) : Type 0 where
  pub untaken : (name root : ℕ) → roots name ≡ Some root → taken root ≡ false
  pub built : (name root : ℕ) → roots name ≡ Some root → root < next
  pub apart : AreApart roots

-- this name has this root now, and the others have theirs
abbrev pub HasRoot : (ℕ → Option ℕ) → (ℕ → Option ℕ) → ℕ → Option ℕ → Type 0
HasRoot old new name root = (new name ≡ root) × ((other : ℕ) → (other ≡ name → ⊥) → new other ≡ old other)

-- the loop's own: neither the cell of an ask nor a request of another loop
abbrev pub IsLoopsOwn : HeldCase → Type 0
IsLoopsOwn (AskCase cell is_taken) = ⊥
IsLoopsOwn (RequestCase request) = ⊥
IsLoopsOwn other = Unit {0}

-- the number of a name that may be absent
abbrev pub name_number : Option Name → Option ℕ
name_number None = None
name_number (Some name) = Some name.0

-- the key of the root that is awaited, which no name has
abbrev pub awaited_key : ℕ
awaited_key = 2 ^ 32

-- what the promise that is awaited is
abbrev pub awaited_shown : Option AwaitedCase → Option Awaited
awaited_shown None = None
awaited_shown (Some a) = Some (record { name = a.name.0; root = a.root.number.0 })

-- the lowest name
abbrev pub first_name : List Named → Option ℕ
first_name [] = None
first_name (x ∷ xs) = Some x.name

-- a root, where a tree was replaced
abbrev pub root_renamed : ℕ → ℕ → Option ℕ → Option ℕ
root_renamed old new None = None
root_renamed old new (Some root) = Some (renamed old new root)

-- the names and what is awaited, where a tree was replaced
abbrev pub roots_replaced : ℕ → ℕ → World → World
roots_replaced old new w = record w { names = map (named_renamed old new) w.names; awaited = awaited_renamed old new w.awaited }

-- one more tree is left over
abbrev pub with_left_over : ℕ → World → World
with_left_over n w = record w { left_over = w.left_over ++ n ∷ [] }

-- a tree is left over, before the others
abbrev pub with_lost : ℕ → World → World
with_lost n w = record w { left_over = n ∷ w.left_over }

-- the loop has stopped
abbrev pub stopped_world : World → World
stopped_world w = record w { stopped = true }

-- a world whose names were told what node n leaves
abbrev pub left_world : ℕ → Leaving → World → World
left_world n Nothing w = w
left_world n CellLeaves w = abandoned_as (ask_of n w.names) w
left_world n (WrapLeaves canceler) w = without_wrap n canceler.0 w

-- no ask, no ended request and no abandoned cell waits to be taken
pub record HasNoneListed (w : World) : Type 0 where
  pub asks : w.asks ≡ []
  pub ended : w.ended ≡ []
  pub abandoned : w.abandoned ≡ []
