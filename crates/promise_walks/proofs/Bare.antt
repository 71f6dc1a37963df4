-- Forms that own nothing, and are no hub and no branch.
use Rattle.std.proofs.Common.{◌≡◌, ◌∙◌, ap, refl, ℕ, List, [], Option, None, Some}
use Rattle.kj_base.specs.declared.nodes.Form.{Form as FormCase}
use Rattle.kj_base.specs.declared.nodes.Form.TheVariants.{Ready as ReadyCase, Later as LaterCase, Last as LastCase, Cell as CellCase, Branch as BranchCase, Then as ThenCase, Chain as ChainCase, Eager as EagerCase, Wrap as WrapCase, Hub as HubCase, Side as SideCase, Race as RaceCase, Join as JoinCase, Task as TaskCase, Request as RequestCase}
use Rattle.kj_model.specs.Nodes.{Form, Ready, Later, Last, Cell, Branch, Then, Chain, Eager, Wrap, Hub, Side, Race, Join, Task, Request, is_in, parts_of}
use Rattle.kj_model.specs.World.{World}
use Rattle.promise_nodes.specs.Shown.{shown}
use Rattle.promise_nodes.specs.Kept.{AddsNone, IsPlain, KeepsKind, ShowsPlain}
use Rattle.promise_walks.proofs.Unlisted.{true_false}

-- branches are of hubs alone
pub plain_shown : (form : FormCase) (branches : List ℕ) → ShowsPlain (Some form) → shown branches form ≡ shown [] form
plain_shown (ReadyCase outcome) branches h = refl
plain_shown LaterCase branches h = refl
plain_shown LastCase branches h = refl
plain_shown (CellCase outcome) branches h = refl
plain_shown (BranchCase hub) branches h = refl
plain_shown (ThenCase value error tree) branches h = refl
plain_shown (ChainCase link) branches h = refl
plain_shown (EagerCase content) branches h = refl
plain_shown (WrapCase canceler content) branches h = refl
plain_shown (HubCase content is_named) branches h = absurd h
plain_shown (SideCase stage) branches h = refl
plain_shown (RaceCase left winner) branches h = refl
plain_shown (JoinCase is_fast first count) branches h = refl
plain_shown (TaskCase tree) branches h = refl
plain_shown (RequestCase name tree) branches h = refl

kind_of : (form : FormCase) → ShowsPlain (Some form) → KeepsKind form (Some Later)
kind_of (ReadyCase outcome) h = (refl, refl)
kind_of LaterCase h = (refl, refl)
kind_of LastCase h = (refl, refl)
kind_of (CellCase outcome) h = (refl, refl)
kind_of (BranchCase hub) h = absurd h
kind_of (ThenCase value error tree) h = (refl, refl)
kind_of (ChainCase link) h = (refl, refl)
kind_of (EagerCase content) h = (refl, refl)
kind_of (WrapCase canceler content) h = (refl, refl)
kind_of (HubCase content is_named) h = absurd h
kind_of (SideCase stage) h = (refl, refl)
kind_of (RaceCase left winner) h = (refl, refl)
kind_of (JoinCase is_fast first count) h = (refl, refl)
kind_of (TaskCase tree) h = (refl, refl)
kind_of (RequestCase name tree) h = (refl, refl)

later_kind : (old : Form) → IsPlain (Some old) → KeepsKind LaterCase (Some old)
later_kind (Ready outcome) h = (refl, refl)
later_kind Later h = (refl, refl)
later_kind Last h = (refl, refl)
later_kind (Cell outcome) h = (refl, refl)
later_kind (Branch hub) h = absurd h
later_kind (Then value error tree) h = (refl, refl)
later_kind (Chain link) h = (refl, refl)
later_kind (Eager content) h = (refl, refl)
later_kind (Wrap canceler content) h = (refl, refl)
later_kind (Hub content is_named branches) h = absurd h
later_kind (Side stage) h = (refl, refl)
later_kind (Race left right winner) h = (refl, refl)
later_kind (Join is_fast sides) h = (refl, refl)
later_kind (Task tree) h = (refl, refl)
later_kind (Request name tree) h = (refl, refl)

-- a plain form over a plain one
pub plain_kind : (form : FormCase) (o : Option Form) → ShowsPlain (Some form) → IsPlain o → KeepsKind form o
plain_kind form None h k = tt
plain_kind form (Some old) h k = let a = kind_of form h in let b = later_kind old k in (a.0 ∙ b.0, a.1 ∙ b.1)

-- no tree is added
pub adds_none : (w : World) (n : ℕ) (form : Form) → parts_of form ≡ [] → AddsNone w n form
adds_none w n form none m h = absurd (true_false (is_in m (parts_of form)) h (ap (is_in m) none))
