-- Sets as names show them, with and without tasks.
use Rattle.std.proofs.Common.{◌≡◌, ◌∙◌, ℕ, List, [], ◌∷◌, Option, None, Some, Bool, true, false, length, arith, refl, ap}
use Rattle.std.specs.Prelude.{◌==◌, if◌then◌else◌}
use Rattle.std.proofs.lemmas.Bool.Decides.{nat_tests}
use Rattle.std.proofs.lemmas.List.{nil_from_length}
use Rattle.kj_base.specs.Commands.{step_of}
use Rattle.kj_base.specs.declared.nodes.Link.{Link}
use Rattle.kj_model.specs.World.{World, Held, Group}
use Rattle.kj_model.specs.Effects.{emptied}
use Rattle.promise_nodes.specs.Shown.{link_number}
use Rattle.promise_names.specs.declared.names.Held.{Held as HeldCase}
use Rattle.promise_names.specs.declared.names.Held.TheVariants.{Promise as PromiseCase, CellOf as CellCase, AskCell as AskCase, HubOf as HubCase, Group as GroupCase, Canceler as CancelerCase, RequestOf as RequestCase}
use Rattle.promise_names.specs.Held.{SeesHeld, IsCounted, held_shown}
use Rattle.promise_walks.specs.Sets.{empty_cell}

-- a set without tasks, until whose emptiness this cell waits
pub record IsEmptySet (cell : ℕ) (seen : Option Held) : Type 0 where
  pub error : Option ℕ
  pub is : seen ≡ Some (Group error [] (Some cell))

no_cell : {P : Type 0} (cell : Link) → ◌≡◌ {A = Option Link} None (Some cell) → P
no_cell cell e = cc

cell_if : (b : Bool) (empty : Option Link) (cell : Link) → (if b then empty else None) ≡ Some cell → (b ≡ true) × (empty ≡ Some cell)
cell_if true empty cell e = (refl, e)
cell_if false empty cell e = no_cell cell e

none_left : (members : List ℕ) (tasks : ℕ) → length members ≡ tasks → (tasks == 0) ≡ true → members ≡ []
none_left members tasks counted e = nil_from_length members (grind (arith, nat_tests, counted, e))

set_shown : (members : List ℕ) (held : HeldCase) (cell : Link) → IsCounted members held → empty_cell (Some held) ≡ Some cell → IsEmptySet cell.number.0 (Some (held_shown members held))
set_shown members (GroupCase error tasks empty) cell counted is =
    let waits = cell_if (tasks == 0) empty cell is in
    record {
      error = step_of error;
      is = ap (λ (ns : List ℕ). Some (Group (step_of error) ns (link_number empty))) (none_left members tasks counted waits.0)
          ∙ ap (λ (o : Option Link). Some (Group (step_of error) [] (link_number o))) waits.1;
    }
set_shown members (PromiseCase root) cell counted is = no_cell cell is
set_shown members (CellCase other) cell counted is = no_cell cell is
set_shown members (AskCase other is_taken) cell counted is = no_cell cell is
set_shown members (HubCase hub) cell counted is = no_cell cell is
set_shown members CancelerCase cell counted is = no_cell cell is
set_shown members (RequestCase request) cell counted is = no_cell cell is

-- a cell waits until a set is empty that has no tasks
pub set_seen : (o : Option HeldCase) (seen : Option Held) (cell : Link) → SeesHeld o seen → empty_cell o ≡ Some cell → IsEmptySet cell.number.0 seen
set_seen None seen cell sees is = no_cell cell is
set_seen (Some held) None cell sees is = absurd sees
set_seen (Some held) (Some seen) cell sees is =
    let shown = set_shown sees.members held cell sees.counted is in
    record { error = shown.error; is = ap (λ (h : Held). Some h) sees.is ∙ shown.is }

stays_shown : (group : ℕ) (members : List ℕ) (held : HeldCase) (w : World) → IsCounted members held → empty_cell (Some held) ≡ None → emptied group (Some (held_shown members held)) w ≡ w
stays_shown group [] (GroupCase error tasks empty) w counted is =
    let none : empty ≡ None = ap (λ (count : ℕ). if count == 0 then empty else None) counted ∙ is in
    ap (λ (o : Option Link). emptied group (Some (Group (step_of error) [] (link_number o))) w) none
stays_shown group (n ∷ ns) (GroupCase error tasks empty) w counted is = refl
stays_shown group members (PromiseCase root) w counted is = refl
stays_shown group members (CellCase other) w counted is = refl
stays_shown group members (AskCase other is_taken) w counted is = refl
stays_shown group members (HubCase hub) w counted is = refl
stays_shown group members CancelerCase w counted is = refl
stays_shown group members (RequestCase request) w counted is = refl

-- where no cell waits so, nothing changes
pub stays_seen : (group : ℕ) (o : Option HeldCase) (seen : Option Held) (w : World) → SeesHeld o seen → empty_cell o ≡ None → emptied group seen w ≡ w
stays_seen group None None w sees is = refl
stays_seen group None (Some seen) w sees is = absurd sees
stays_seen group (Some held) None w sees is = absurd sees
stays_seen group (Some held) (Some seen) w sees is = ap (λ (h : Held). emptied group (Some h) w) sees.is ∙ stays_shown group sees.members held w sees.counted is
