-- The names of a command, and the tests of them.
use Rattle.std.specs.Prelude.{ℕ, List, Option, None, Some, Bool, map}
use Rattle.kj_base.specs.declared.numbers.Name.{Name}
use Rattle.kj_model.specs.World.{World}
use Rattle.kj_model.specs.Uses.{Role, IsNew, IsSource, IsCell, IsAsk, IsHub, IsGroup, IsGroupAlone, IsCanceler, IsRequest, IsDroppable, Use, use_as, is_unknown, is_wrong, is_taken}
use Rattle.promise_apply.specs.declared.naming.Role.{Role as RoleCase}
use Rattle.promise_apply.specs.declared.naming.Role.TheVariants.{New, Source, Cell, Ask, Hub, Group, GroupAlone, Canceler, Request, Droppable}
use Rattle.promise_apply.specs.declared.naming.Use.{Use as UseCase}
use Rattle.promise_apply.specs.declared.naming.Fault.{Fault}
use Rattle.promise_apply.specs.declared.naming.Fault.TheVariants.{Unknown, Wrong, Taken}

-- the role that each variant is
abbrev pub role_shown : RoleCase → Role
role_shown New = IsNew
role_shown Source = IsSource
role_shown Cell = IsCell
role_shown Ask = IsAsk
role_shown Hub = IsHub
role_shown Group = IsGroup
role_shown GroupAlone = IsGroupAlone
role_shown Canceler = IsCanceler
role_shown Request = IsRequest
role_shown Droppable = IsDroppable

-- a name in its role
abbrev pub use_shown : UseCase → Use
use_shown u = use_as (role_shown u.role) u.name.0

-- all names of a command
abbrev pub uses_shown : List UseCase → List Use
uses_shown uses = map use_shown uses

-- the test of each fault
abbrev pub has_fault : Fault → World → List Use → Use → Bool
has_fault Unknown w before u = is_unknown w before u
has_fault Wrong w before u = is_wrong w before u
has_fault Taken w before u = is_taken w before u

-- a name that may be none
abbrev pub name_number : Option Name → Option ℕ
name_number None = None
name_number (Some name) = Some name.0
