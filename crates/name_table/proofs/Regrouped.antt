-- A set has another number of tasks, and another cell waits until it is empty.
use Rattle.std.proofs.Common.{◌≡◌, ℕ, ◌<◌, Bool, true, false, List, Option, None, Some, length, refl, sym, ap, ◌∙◌, subst}
use Rattle.std.specs.Prelude.{nat_eq, slice_get, slice_set}
use Rattle.kj_base.specs.declared.nodes.Link.{Link}
use Rattle.kj_base.specs.declared.numbers.Name.{Name}
use Rattle.kj_model.specs.World.{World, Held as Seen, held_at}
use Rattle.promise_nodes.specs.Shown.{link_number}
use Rattle.promise_names.specs.Held.{awaited_key, held_shown, root_of, SeesHeld, regrouped, regrouped_in}
use Rattle.promise_names.specs.declared.names.Held.{Held}
use Rattle.promise_names.specs.declared.names.Held.TheVariants.{Promise, CellOf, AskCell, HubOf, Group, Canceler, RequestOf}
use Rattle.name_table.specs.declared.entries.Entry.{Entry}
use Rattle.name_table.specs.Entries.{IsRising, held_in, held_if, rank, is_named, is_name_at, entered, held_regrouped, entries_regrouped}
use Rattle.name_table.specs.Laws.{sees}
use Rattle.name_table.specs.Table.{Table, Stands, root_at}
use Rattle.name_table.proofs.Alone.{unequal}
use Rattle.name_table.proofs.Awaited.{same_root}
use Rattle.name_table.proofs.Calls.{with_entries, set_stands}
use Rattle.name_table.proofs.Names.{entry_as}
use Rattle.name_table.proofs.Ranks.{found_is, name_within, put_there, put_again, same_is}
use Rattle.name_table.proofs.Rising.{entered_self, entered_other, rising_entered}

-- ---- the entry in its place

none_some : (a : Held) → ◌≡◌ {A = Option Held} None (Some a) → ⊥
none_some a k = cc

named_if : (n : ℕ) (e : Entry) (held : Held) (b : Bool) → nat_eq e.name.0 n ≡ b
    → held_if n (Some e) ≡ Some held → is_named n (Some e) ≡ true
named_if n e held true t is = t
named_if n e held false t is = absurd (none_some held (rw t at is))

named_there : (n : ℕ) (o : Option Entry) (held : Held) → held_if n o ≡ Some held
    → is_named n o ≡ true
named_there n None held is = absurd (none_some held is)
named_there n (Some e) held is = named_if n e held (nat_eq e.name.0 n) refl is

-- a name is where it holds something
pub place_within : (n : ℕ) (es : List Entry) (place : ℕ) (held : Held)
    → held_if n (slice_get es place) ≡ Some held → place < length es
place_within n es place held is = name_within n es place (named_there n (slice_get es place) held is)

-- what a name holds at its place is what it holds
held_there : (n : ℕ) (es : List Entry) (place : ℕ) (o : Option Held) → IsRising es → place ≡ rank n es
    → held_if n (slice_get es place) ≡ o → held_in n es ≡ o
held_there n es place o r at is =
    sym (found_is n es r) ∙ ap (λ (i : ℕ). held_if n (slice_get es i)) (sym at) ∙ is

pub set_there : (group : Name) (tasks : ℕ) (empty : Option Link) (es : List Entry) (place : ℕ)
    (held : Held) → IsRising es → place ≡ rank group.0 es
    → held_if group.0 (slice_get es place) ≡ Some held
    → slice_set es place (entry_as group (held_regrouped tasks empty held))
    ≡ entries_regrouped (held_in group.0 es) group tasks empty es
set_there group tasks empty es place held r at is =
    let n = group.0 in
    let x : Entry = entry_as group (held_regrouped tasks empty held) in
    let here : is_name_at n es place ≡ true = named_there n (slice_get es place) held is in
    let there = subst (λ (i : ℕ). is_name_at n es i ≡ true) at here in
    ap (λ (i : ℕ). slice_set es i x) at ∙ put_there x es r there
    ∙ ap (λ (o : Option Held). entries_regrouped o group tasks empty es)
    (sym (held_there n es place (Some held) r at is))

pub none_there : (group : Name) (tasks : ℕ) (empty : Option Link) (es : List Entry) (place : ℕ)
    → IsRising es → place ≡ rank group.0 es → held_if group.0 (slice_get es place) ≡ None
    → es ≡ entries_regrouped (held_in group.0 es) group tasks empty es
none_there group tasks empty es place r at is =
    ap (λ (o : Option Held). entries_regrouped o group tasks empty es)
    (sym (held_there group.0 es place None r at is))

-- ---- the names still rise

rising_case : (group : Name) (tasks : ℕ) (empty : Option Link) (es : List Entry) (o : Option Held)
    → IsRising es → IsRising (entries_regrouped o group tasks empty es)
rising_case group tasks empty es None r = r
rising_case group tasks empty es (Some held) r =
    rising_entered (entry_as group (held_regrouped tasks empty held)) es r

pub rising_regrouped : (group : Name) (tasks : ℕ) (empty : Option Link) (es : List Entry)
    → IsRising es → IsRising (entries_regrouped (held_in group.0 es) group tasks empty es)
rising_regrouped group tasks empty es r = rising_case group tasks empty es (held_in group.0 es) r

-- ---- the roots are the same

pub root_still : (tasks : ℕ) (empty : Option Link) (held : Held)
    → root_of (Some (held_regrouped tasks empty held)) ≡ root_of (Some held)
root_still tasks empty (Promise root) = refl
root_still tasks empty (CellOf cell) = refl
root_still tasks empty (AskCell cell taken) = refl
root_still tasks empty (HubOf hub) = refl
root_still tasks empty (Group error old waits) = refl
root_still tasks empty Canceler = refl
root_still tasks empty (RequestOf request) = refl

root_here : (x : Entry) (es : List Entry) (n : ℕ) (b : Bool) → nat_eq n x.name.0 ≡ b
    → root_of (Some x.held) ≡ root_of (held_in x.name.0 es)
    → root_of (held_in n (entered x es)) ≡ root_of (held_in n es)
root_here x es n true t same =
    let is : x.name.0 ≡ n = sym (same_is n x.name.0 t) in
    subst (λ (m : ℕ). root_of (held_in m (entered x es)) ≡ root_of (held_in m es)) is
    (ap root_of (entered_self x es) ∙ same)
root_here x es n false t same =
    ap root_of (entered_other x n es (unequal n x.name.0 t))

root_case : (group : Name) (tasks : ℕ) (empty : Option Link) (es : List Entry) (n : ℕ)
    (o : Option Held) → held_in group.0 es ≡ o
    → root_of (held_in n (entries_regrouped o group tasks empty es)) ≡ root_of (held_in n es)
root_case group tasks empty es n None is = refl
root_case group tasks empty es n (Some held) is =
    let x : Entry = entry_as group (held_regrouped tasks empty held) in
    root_here x es n (nat_eq n group.0) refl (root_still tasks empty held ∙ sym (ap root_of is))

pub regroup_roots : (group : Name) (tasks : ℕ) (empty : Option Link) (es : List Entry) (t : Table)
    → es ≡ entries_regrouped (held_in group.0 t.entries) group tasks empty t.entries
    → (n : ℕ) → root_at (with_entries es t) n ≡ root_at t n
regroup_roots group tasks empty es t is n =
    same_root t (with_entries es t) n refl
    (ap (λ (l : List Entry). root_of (held_in n l)) is
    ∙ root_case group tasks empty t.entries n (held_in group.0 t.entries) refl)

-- ---- the world has the set

-- what is no set stays as it is
again : (group : Name) (held : Held) (t : Table) (w : World) → held_in group.0 t.entries ≡ Some held
    → Stands t w → Stands (with_entries (entered (entry_as group held) t.entries) t) w
again group held t w is st =
    subst (λ (l : List Entry). Stands (with_entries l t) w)
    (sym (put_again (entry_as group held) t.entries st.rising is)) st

held_stands : (group : Name) (tasks : ℕ) (empty : Option Link) (old members : List ℕ) (t : Table)
    (w : World) (held : Held) → group.0 < awaited_key → length members ≡ tasks
    → held_in group.0 t.entries ≡ Some held → Stands t w
    → Stands (with_entries (entries_regrouped (Some held) group tasks empty t.entries) t)
    (regrouped_in (Some (held_shown old held)) group.0 members (link_number empty) w)
held_stands group tasks empty old members t w (Promise root) low many is st =
    again group (Promise root) t w is st
held_stands group tasks empty old members t w (CellOf cell) low many is st =
    again group (CellOf cell) t w is st
held_stands group tasks empty old members t w (AskCell cell taken) low many is st =
    again group (AskCell cell taken) t w is st
held_stands group tasks empty old members t w (HubOf hub) low many is st =
    again group (HubOf hub) t w is st
held_stands group tasks empty old members t w (Group error before waits) low many is st =
    set_stands group (Group error tasks empty) members
    (entered (entry_as group (Group error tasks empty)) t.entries) t w low tt many refl st
held_stands group tasks empty old members t w Canceler low many is st =
    again group Canceler t w is st
held_stands group tasks empty old members t w (RequestOf request) low many is st =
    again group (RequestOf request) t w is st

seen_stands : (group : Name) (tasks : ℕ) (empty : Option Link) (members : List ℕ) (t : Table)
    (w : World) (o : Option Held) (s : Option Seen) → group.0 < awaited_key → length members ≡ tasks
    → held_in group.0 t.entries ≡ o → SeesHeld o s → Stands t w
    → Stands (with_entries (entries_regrouped o group tasks empty t.entries) t)
    (regrouped_in s group.0 members (link_number empty) w)
seen_stands group tasks empty members t w None None low many is h st = st
seen_stands group tasks empty members t w None (Some seen) low many is h st = absurd h
seen_stands group tasks empty members t w (Some held) None low many is h st = absurd h
seen_stands group tasks empty members t w (Some held) (Some seen) low many is h st =
    let u : Table = with_entries (entries_regrouped (Some held) group tasks empty t.entries) t in
    let after = λ (s : Seen). regrouped_in (Some s) group.0 members (link_number empty) w in
    subst (λ (s : Seen). Stands u (after s)) (sym h.is)
    (held_stands group tasks empty h.members members t w held low many is st)

pub regroup_stands : (group : Name) (tasks : ℕ) (empty : Option Link) (members : List ℕ)
    (es : List Entry) (t : Table) (w : World) → group.0 < awaited_key → length members ≡ tasks
    → es ≡ entries_regrouped (held_in group.0 t.entries) group tasks empty t.entries → Stands t w
    → Stands (with_entries es t) (regrouped group.0 members (link_number empty) w)
regroup_stands group tasks empty members es t w low many is st =
    let after : World = regrouped group.0 members (link_number empty) w in
    subst (λ (l : List Entry). Stands (with_entries l t) after) (sym is)
    (seen_stands group tasks empty members t w (held_in group.0 t.entries) (held_at group.0 w.names)
    low many refl (sees group.0 t.entries w.names st.names) st)
