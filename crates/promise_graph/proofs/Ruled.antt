-- What fits, by the spots of a world.
use Rattle.std.proofs.Common.{◌≡◌, ℕ, suc, ◌+◌, List, [], ◌∷◌, ◌++◌, Option, None, Some, Bool, map, arith, refl, sym, ap, ◌∙◌}
use Rattle.std.proofs.lemmas.List.{append_assoc}
use Rattle.kj_base.specs.Places.{Spot, Row, row, spot_of, spot_as, row_as, IsOneToOne}
use Rattle.kj_base.specs.declared.nodes.Node.{Node}
use Rattle.promise_graph.specs.declared.fields.Marks.{Marks}
use Rattle.promise_graph.specs.Slots.{Finds, slot_of}
use Rattle.promise_graph.specs.Kept.{AreNumbered}
use Rattle.promise_graph.specs.Standing.{name_or, name_at, HasSpots}
use Rattle.promise_graph.specs.Rows.{row_at, room_of}
use Rattle.promise_graph.proofs.Numbered.{slot_is}
use Rattle.promise_graph.proofs.Naming.{apart_events}
use Rattle.promise_graph.proofs.Adding.{no_spot}

-- a row before a node that isn't there is one anew
abbrev AreUnplaced : (List Spot → List Row → Bool) → Type 0
AreUnplaced rule = (spots : List Spot) (front : List Row) (number count : ℕ) (back : List Row) → spot_of number spots ≡ None → rule spots (front ++ row (Some number) count ∷ back) ≡ rule spots (front ++ row None count ∷ back)

-- the rule goes by any numbers
abbrev IsRenamed : (List Spot → List Row → Bool) → Type 0
IsRenamed rule = (rename : ℕ → ℕ) (spots : List Spot) (rows : List Row) → IsOneToOne rename → rule (map (spot_as rename) spots) (map (row_as rename) rows) ≡ rule spots rows

module _ (at : ℕ → Option Node) (sp : List Spot → Type 0) (m : Marks) (k : AreNumbered at m) (rule : List Spot → List Row → Bool) (unplaced : AreUnplaced rule) (renamed : IsRenamed rule) where
  one_to_one : IsOneToOne (name_at at m.next)
  one_to_one a b h = let e : suc a ≡ suc b = apart_events at m k (suc a) (suc b) h in omega (arith, e)

  module _ (spots : List Spot) (key : ℕ) (has : HasSpots at sp m.next spots key) where
    -- a row by the name of its slot
    abbrev again : Row → Row
    again r = row_as (name_at at m.next) (row_at m r)

    slot_case : (front rest : List Row) (n count : ℕ) (o : Option ℕ) → Finds at n o → rule spots (front ++ row_as (name_at at m.next) (row o count) ∷ rest) ≡ rule spots (front ++ row (Some n) count ∷ rest)
    slot_case front rest n count None h = sym (unplaced spots front n count rest (no_spot at sp m.next n key spots h has))
    slot_case front rest n count (Some s) h = ap (λ (o : Option ℕ). rule spots (front ++ row (Some (name_or (m.next + s) o)) count ∷ rest)) h

    row_case : (front rest : List Row) (before : Option ℕ) (count : ℕ) → rule spots (front ++ again (row before count) ∷ rest) ≡ rule spots (front ++ row before count ∷ rest)
    row_case front rest None count = refl
    row_case front rest (Some n) count = slot_case front rest n count (slot_of n m.numbers.items) (slot_is at m k n)

    rows_case : (front rows : List Row) → rule spots (front ++ map again rows) ≡ rule spots (front ++ rows)
    rows_case front [] = refl
    rows_case front (r ∷ rows) =
        row_case front (map again rows) r.before r.count
        ∙ ap (rule spots) (sym (append_assoc front (r ∷ []) (map again rows)))
        ∙ rows_case (front ++ r ∷ []) rows
        ∙ ap (rule spots) (append_assoc front (r ∷ []) rows)

    map_again : (rows : List Row) → map (row_as (name_at at m.next)) (map (row_at m) rows) ≡ map again rows
    map_again [] = refl
    map_again (r ∷ rows) = λ i. again r ∷ map_again rows i

    -- what fits is known from the spots
    pub room_ruled : (room : List Row → Bool) → ((by_slot : List Spot) (rows : List Row) → sp by_slot → room rows ≡ rule by_slot rows) → (rows : List Row) → room_of room m rows ≡ rule spots rows
    room_ruled room ruled rows =
        ruled has.by_slot (map (row_at m) rows) has.by_store
        ∙ sym (renamed (name_at at m.next) has.by_slot (map (row_at m) rows) one_to_one)
        ∙ ap (λ (l : List Spot). rule l (map (row_as (name_at at m.next)) (map (row_at m) rows))) (sym has.placed)
        ∙ ap (rule spots) (map_again rows)
        ∙ rows_case [] rows
