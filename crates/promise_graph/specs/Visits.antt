-- What walks note at the nodes, by slot.
use Rattle.std.specs.Prelude.{◌≡◌, ◌≢◌, ◌≤◌, ℕ, Option, None, Some, ◌==◌, length, slice_index_or, if◌then◌else◌}
use Rattle.promise_nodes.specs.declared.nodes.Mark.{Mark}
use Rattle.promise_nodes.specs.declared.nodes.Mark.TheVariants.{Unmarked}
use Rattle.promise_graph.specs.declared.fields.Marks.{Marks}
use Rattle.promise_graph.specs.declared.fields.Fields.{Fields}
use Rattle.promise_graph.specs.declared.visits.Visit.{Visit}
use Rattle.promise_graph.specs.declared.visits.Visits.{Visits}
use Rattle.promise_graph.specs.declared.memberships.Memberships.{Memberships}
use Rattle.promise_graph.specs.Slots.{slot_of}

-- what stands at a slot that was never marked
abbrev pub never : Visit
never = record { epoch = 0; mark = Unmarked }

-- what stands at a slot
abbrev pub visit_at : Visits → ℕ → Visit
visit_at v s = slice_index_or v.by_slot.items s never

-- the mark that counts in this epoch
abbrev pub mark_in : ℕ → Visit → Mark
mark_in epoch x = if x.epoch == epoch then x.mark else Unmarked

-- the mark of a slot, if there is one
abbrev pub mark_at : Visits → Option ℕ → Mark
mark_at v None = Unmarked
mark_at v (Some s) = mark_in v.epoch (visit_at v s)

-- the mark of a node
abbrev pub mark_of : Visits → Marks → ℕ → Mark
mark_of v m n = mark_at v (slot_of n m.numbers.items)

-- each slot has its mark, none of an epoch that is still to come
pub record AreVisits (v : Visits) (slots : ℕ) : Type 0 where
  pub all : length v.by_slot.items ≡ slots
  pub past : (s : ℕ) → (visit_at v s).epoch ≤ v.epoch

-- no slot has a mark
abbrev pub AreForgotten : Visits → Type 0
AreForgotten v = (s : ℕ) → mark_in v.epoch (visit_at v s) ≡ Unmarked

-- a slot has this mark now, and the others have what they had
pub record IsNoted (slot : ℕ) (mark : Mark) (old new : Visits) : Type 0 where
  pub here : mark_in new.epoch (visit_at new slot) ≡ mark
  pub elsewhere : (s : ℕ) → s ≢ slot → mark_in new.epoch (visit_at new s) ≡ mark_in old.epoch (visit_at old s)

-- the fields of a graph, with what walks note and the members of lists
pub record Whole (St Q : Type 0) : Type 0 where
  pub store : St
  pub queue : Q
  pub marks : Marks
  pub visits : Visits
  pub memberships : Memberships

-- the whole of these parts
abbrev pub whole : {St Q : Type 0} → Fields St Q → Visits → Memberships → Whole St Q
whole fields visits memberships = record { store = fields.store; queue = fields.queue; marks = fields.marks; visits = visits; memberships = memberships }
