use Rattle.std.proofs.Common.{◌∙◌, sym, ap, ◌<◌, arith, length, ℕ, subst, List, Option}
use Rattle.std.specs.Prelude.{slice_index_or, unwrap_or}
use Rattle.std.specs.List.{AllByRecursion}
use Rattle.promise_graph.specs.declared.index.Entry.{Entry}
use Rattle.promise_graph.specs.Slots.{is_current, number_at, IsRising, slot_in}
use Rattle.promise_graph.proofs.Numbered.{slot_kept}
use Rattle.promise_graph.proofs.Few.{few_current, rising_filter}
use Rattle.promise_graph.proofs.Lists.{all_filter, equal_yes, is_some_of}
use Rattle.promise_graph.proofs.building.make_room.Goals as goal

pub returns-then-len-marks-clause-numbered : goal.returns-then-len-marks-clause-numbered
returns-then-len-marks-clause-numbered g c =
    let k = c.requires.numbered in
    let at = g.St.Store.node_at c.args._store.now in
    let m = c.args.marks.now in
    let numbers = m.numbers.items in
    let index = m.index.items in
    let items = c.compact.ensures.items in
    record {
      few = k.few;
      first = k.first;
      low = k.low;
      all = k.all;
      each = k.each;
      given = k.given;
      indexed = λ s n h. ap (slot_in n) items ∙ slot_kept (is_current numbers) n s index (λ e en es.
          equal_yes (slice_index_or numbers e.slot 0) e.number (ap (λ (j : ℕ). slice_index_or numbers j 0) es ∙ k.each s (k.low s (is_some_of (number_at at s) n h)) ∙ ap (λ (o : Option ℕ). unwrap_or o 0) h ∙ sym en)) (k.indexed s n h);
      rising = subst IsRising (sym items) (rising_filter (is_current numbers) index k.rising);
      below = subst (λ (l : List Entry). AllByRecursion (λ (e : Entry). e.number < m.next) l) (sym items) (all_filter (λ (e : Entry). e.number < m.next) (λ (e : Entry). e.number < m.next) (is_current numbers) (λ e t h. h) index k.below);
      above = subst (λ (l : List Entry). AllByRecursion (λ (e : Entry). 0 < e.number) l) (sym items) (all_filter (λ (e : Entry). 0 < e.number) (λ (e : Entry). 0 < e.number) (is_current numbers) (λ e t h. h) index k.above);
      room = omega (arith, k.room, c.compact.ensures.capacity);
    }

pub returns-then-len-marks-clause-room : goal.returns-then-len-marks-clause-room
returns-then-len-marks-clause-room g c =
    let k = c.requires.numbered in
    let few = few_current c.args.marks.now.numbers.items c.args.marks.now.index.items k.rising k.above in
    let len = ap (λ (l : List Entry). length l) c.compact.ensures.items in
    omega (arith, few, len, k.all, k.room, c.compact.ensures.capacity)
