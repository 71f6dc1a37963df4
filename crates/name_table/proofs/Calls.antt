-- What the calls of a table leave, for every world that it stands for.
use Rattle.std.proofs.Common.{◌≡◌, ℕ, ◌<◌, List, Option, None, Some, map, refl, sym, ap, ◌∙◌, subst}
use Rattle.std.specs.Prelude.{filter}
use Rattle.kj_base.specs.declared.nodes.Link.{Link}
use Rattle.kj_base.specs.declared.numbers.Name.{Name}
use Rattle.kj_model.specs.World.{World}
use Rattle.kj_model.specs.Calls.{with_awaited}
use Rattle.kj_model.specs.Changes.{named, unnamed}
use Rattle.kj_model.specs.Nodes.{dropped}
use Rattle.kj_model.specs.Fire.{awaited_renamed, without_left_over}
use Rattle.promise_names.specs.Held.{awaited_key, awaited_shown, held_shown, IsCounted, IsLoopsOwn, HasRoot, root_of, roots_replaced}
use Rattle.promise_names.specs.declared.names.Awaited.{Awaited}
use Rattle.promise_names.specs.declared.names.Held.{Held}
use Rattle.name_table.specs.declared.entries.Entry.{Entry}
use Rattle.name_table.specs.Entries.{without_entry, entered, awaited_replaced, entry_replaced}
use Rattle.name_table.specs.Table.{Table, Stands, root_at, is_other}
use Rattle.name_table.proofs.Awaited.{awaited_is, root_named, same_root}
use Rattle.name_table.proofs.Rising.{rising_entered, rising_without, all_entered, all_without, entered_self, entered_other, held_gone, gone_other}
use Rattle.name_table.proofs.Names.{entry_as, seen_named, seen_without}
use Rattle.name_table.proofs.Replaced.{seen_replaced, names_still, rising_replaced, owns_replaced}
use Rattle.name_table.proofs.Trees.{trees_dropped}

-- the table with other entries
abbrev pub with_entries : List Entry → Table → Table
with_entries es t = record { entries = es; limit = t.limit; awaited = t.awaited; over = t.over; stopped = t.stopped }

-- the same where another promise is awaited
abbrev pub with_both : List Entry → Option Awaited → Table → Table
with_both es a t = record { entries = es; limit = t.limit; awaited = a; over = t.over; stopped = t.stopped }

-- the table with other trees that are left over
abbrev pub with_over : List Link → Table → Table
with_over links t = record { entries = t.entries; limit = t.limit; awaited = t.awaited; over = links; stopped = t.stopped }

pub set_stands : (name : Name) (held : Held) (members : List ℕ) (es : List Entry) (t : Table) (w : World)
    → name.0 < awaited_key → IsLoopsOwn held → IsCounted members held
    → es ≡ entered (entry_as name held) t.entries → Stands t w
    → Stands (with_entries es t) (named name.0 (held_shown members held) w)
set_stands name held members es t w low ask counted is st =
    let x : Entry = entry_as name held in
    let v : World = named name.0 (held_shown members held) w in
    subst (λ (l : List Entry). Stands (with_entries l t) v) (sym is) (record {
      names = seen_named name held members t.entries w.names counted st.names;
      rising = rising_entered x t.entries st.rising;
      no_asks = all_entered (λ (e : Entry). IsLoopsOwn e.held) x t.entries ask st.no_asks;
      no_key = all_entered (λ (e : Entry). e.name.0 < awaited_key) x t.entries low st.no_key;
      awaited = st.awaited;
      over = st.over;
      asks = st.asks;
      ended = st.ended;
      abandoned = st.abandoned;
      limit = st.limit;
      stopped = st.stopped;
    })

pub set_root : (name : Name) (held : Held) (es : List Entry) (t : Table) → name.0 < awaited_key → es ≡ entered (record { name = name; held = held }) t.entries
    → HasRoot (root_at t) (root_at (with_entries es t)) name.0 (root_of (Some held))
set_root name held es t low is =
    let x : Entry = record { name = name; held = held } in
    let u : Table = with_entries (entered x t.entries) t in
    subst (λ (l : List Entry). HasRoot (root_at t) (root_at (with_entries l t)) name.0 (root_of (Some held))) (sym is)
    (root_named u name.0 low ∙ ap root_of (entered_self x t.entries), λ other apart. same_root t u other refl (ap root_of (entered_other x other t.entries apart)))

pub remove_stands : (n : ℕ) (es : List Entry) (t : Table) (w : World) → es ≡ without_entry n t.entries → Stands t w → Stands (with_entries es t) (unnamed n w)
remove_stands n es t w is st =
    subst (λ (l : List Entry). Stands (with_entries l t) (unnamed n w)) (sym is) (record {
      names = seen_without n t.entries w.names st.names;
      rising = rising_without n t.entries st.rising;
      no_asks = all_without (λ (e : Entry). IsLoopsOwn e.held) n t.entries st.no_asks;
      no_key = all_without (λ (e : Entry). e.name.0 < awaited_key) n t.entries st.no_key;
      awaited = st.awaited;
      over = st.over;
      asks = st.asks;
      ended = st.ended;
      abandoned = st.abandoned;
      limit = st.limit;
      stopped = st.stopped;
    })

pub remove_root : (n : ℕ) (es : List Entry) (t : Table) → n < awaited_key → es ≡ without_entry n t.entries → HasRoot (root_at t) (root_at (with_entries es t)) n None
remove_root n es t low is =
    let u : Table = with_entries (without_entry n t.entries) t in
    subst (λ (l : List Entry). HasRoot (root_at t) (root_at (with_entries l t)) n None) (sym is)
    (root_named u n low ∙ ap root_of (held_gone n t.entries), λ other apart. same_root t u other refl (ap root_of (gone_other n other t.entries apart)))

pub rename_stands : (old : ℕ) (new : Link) (es : List Entry) (a : Option Awaited) (t : Table) (w : World) → es ≡ map (entry_replaced old new) t.entries → a ≡ awaited_replaced old new t.awaited
    → Stands t w → Stands (with_both es a t) (roots_replaced old new.number.0 w)
rename_stands old new es a t w is awaits st =
    subst (λ (l : List Entry). Stands (with_both l a t) (roots_replaced old new.number.0 w)) (sym is) (record {
      names = seen_replaced old new t.entries w.names st.names;
      rising = rising_replaced old new t.entries st.rising;
      no_asks = owns_replaced old new t.entries st.no_asks;
      no_key = names_still old new (λ (n : ℕ). n < awaited_key) t.entries st.no_key;
      awaited = ap (awaited_renamed old new.number.0) st.awaited ∙ awaited_is old new t.awaited ∙ ap awaited_shown (sym awaits);
      over = st.over;
      asks = st.asks;
      ended = st.ended;
      abandoned = st.abandoned;
      limit = st.limit;
      stopped = st.stopped;
    })

pub take_over_stands : (n : ℕ) (links : List Link) (t : Table) (w : World) → links ≡ filter (is_other n) t.over → Stands t w → Stands (with_over links t) (without_left_over n w)
take_over_stands n links t w is st =
    subst (λ (l : List Link). Stands (with_over l t) (without_left_over n w)) (sym is) (record {
      names = st.names;
      rising = st.rising;
      no_asks = st.no_asks;
      no_key = st.no_key;
      awaited = st.awaited;
      over = ap (dropped n) st.over ∙ sym (trees_dropped n t.over);
      asks = st.asks;
      ended = st.ended;
      abandoned = st.abandoned;
      limit = st.limit;
      stopped = st.stopped;
    })

pub awaited_stands : (a : Option Awaited) (t : Table) (w : World) → Stands t w → Stands (with_both t.entries a t) (with_awaited (awaited_shown a) w)
awaited_stands a t w st = record {
  names = st.names;
  rising = st.rising;
  no_asks = st.no_asks;
  no_key = st.no_key;
  awaited = refl;
  over = st.over;
  asks = st.asks;
  ended = st.ended;
  abandoned = st.abandoned;
  limit = st.limit;
  stopped = st.stopped;
}
