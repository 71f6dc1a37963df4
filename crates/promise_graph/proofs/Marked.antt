-- Marks by slot, against marks by number; and what is seen of a graph.
use Rattle.std.proofs.Common.{◌≡◌, ℕ, List, Option, None, Some, Bool, true, false, refl, sym, ap, ◌∙◌, arith}
use Rattle.std.specs.Prelude.{◌==◌, if◌then◌else◌}
use Rattle.std.proofs.lemmas.Bool.Decides.{nat_tests}
use Rattle.kj_base.specs.Queue.{Events}
use Rattle.kj_base.specs.Places.{Spot}
use Rattle.kj_base.specs.declared.nodes.Node.{Node}
use Rattle.kj_model.specs.World.{World}
use Rattle.promise_nodes.specs.declared.nodes.Mark.{Mark}
use Rattle.promise_nodes.specs.Kept.{IsMarked, marked}
use Rattle.promise_graph.specs.declared.fields.Marks.{Marks}
use Rattle.promise_graph.specs.declared.visits.Visits.{Visits}
use Rattle.promise_graph.specs.Slots.{number_at, slot_of}
use Rattle.promise_graph.specs.Kept.{AreNumbered}
use Rattle.promise_graph.specs.Standing.{NodesStand, Stands}
use Rattle.promise_graph.specs.Visits.{Whole, IsNoted, mark_at, mark_of}
use Rattle.promise_graph.proofs.Lists.{some_same}
use Rattle.promise_graph.proofs.Numbered.{slot_live, slot_out}

-- what is seen stands for the same worlds
pub stands_seen : {St Q : Type 0} (at : St → ℕ → Option Node) (events : Q → Events) (sp : St → List Spot → Type 0) (a b : Whole St Q) (w : World) → a ≡ b
    → Stands (at b.store) (events b.queue) (sp b.store) b.marks w → Stands (at a.store) (events a.queue) (sp a.store) a.marks w
stands_seen at events sp a b w e st = rw e st

pub nodes_seen : {St Q : Type 0} (at : St → ℕ → Option Node) (events : Q → Events) (sp : St → List Spot → Type 0) (a b : Whole St Q) (w : World) → a ≡ b
    → NodesStand (at b.store) (events b.queue) (sp b.store) b.marks w → NodesStand (at a.store) (events a.queue) (sp a.store) a.marks w
nodes_seen at events sp a b w e st = rw e st

-- what is seen has the same marks
pub mark_seen : (St Q : Type 0) (a b : Whole St Q) (n : ℕ) → a ≡ b → mark_of a.visits a.marks n ≡ mark_of b.visits b.marks n
mark_seen St Q a b n e = ap (λ (x : Whole St Q). mark_of x.visits x.marks n) e

pub marked_seen : (St Q : Type 0) (a b : Whole St Q) (n : ℕ) (mark : Mark) (m : ℕ) → a ≡ b → marked n mark (mark_of a.visits a.marks) m ≡ marked n mark (mark_of b.visits b.marks) m
marked_seen St Q a b n mark m e = ap (λ (x : Whole St Q). marked n mark (mark_of x.visits x.marks) m) e

module _ (at : ℕ → Option Node) (m : Marks) (k : AreNumbered at m) (old new : Visits) (n s : ℕ) (mark : Mark) (here : number_at at s ≡ Some n) (noted : IsNoted s mark old new) where
  other_slot : (x t : ℕ) → (x == n) ≡ false → slot_of x m.numbers.items ≡ Some t → t ≡ s → ⊥
  other_slot x t e is same =
      let found : Some x ≡ Some n = sym (slot_out at m k x t is) ∙ ap (number_at at) same ∙ here in
      let one = some_same x n found in
      absurd (grind (arith, nat_tests, e, one))

  by_slot : (x : ℕ) (o : Option ℕ) → (x == n) ≡ false → slot_of x m.numbers.items ≡ o → mark_at new o ≡ mark_at old o
  by_slot x None e is = refl
  by_slot x (Some t) e is = noted.elsewhere t (other_slot x t e is)

  by_number : (x : ℕ) (b : Bool) → (x == n) ≡ b → mark_at new (slot_of x m.numbers.items) ≡ (if b then mark else mark_at old (slot_of x m.numbers.items))
  by_number x true e =
      let same : x ≡ n = grind (arith, nat_tests, e) in
      ap (mark_at new) (ap (λ (j : ℕ). slot_of j m.numbers.items) same ∙ slot_live at m k s n here) ∙ noted.here
  by_number x false e = by_slot x (slot_of x m.numbers.items) e refl

  -- a slot that is marked marks its node
  pub marked_in : IsMarked n mark (mark_of old m) (mark_of new m)
  marked_in x = by_number x (x == n) refl
