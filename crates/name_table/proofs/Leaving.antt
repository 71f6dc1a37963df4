-- A node that goes leaves nothing: no name has an ask, and no canceler a Wrap.
use Rattle.std.proofs.Common.{◌≡◌, ℕ, false, List, [], ◌∷◌, Option, None, Some, refl, sym, ap, subst}
use Rattle.kj_base.specs.declared.numbers.Name.{Name}
use Rattle.kj_model.specs.World.{World, Named, Held, Canceler, held_at}
use Rattle.kj_model.specs.Changes.{named, with_new, without_name}
use Rattle.kj_model.specs.Nodes.{dropped}
use Rattle.kj_model.specs.Free.{is_ask_of, ask_of, abandoned_as, without_wrap_in}
use Rattle.promise_names.specs.Held.{held_shown, IsCounted, IsLoopsOwn, SeesHeld, left_world}
use Rattle.promise_names.specs.declared.names.Leaving.{Leaving}
use Rattle.promise_names.specs.declared.names.Leaving.TheVariants.{Nothing, Cell, Wrap}
use Rattle.promise_names.specs.declared.names.Held.{Held as HeldCase}
use Rattle.promise_names.specs.declared.names.Held.TheVariants.{Promise as PromiseCase, CellOf as CellCase, AskCell as AskCase, HubOf as HubCase, Group as GroupCase, Canceler as CancelerCase, RequestOf as RequestCase}
use Rattle.name_table.specs.declared.entries.Entry.{Entry}
use Rattle.name_table.specs.Entries.{held_in, AreSeen}
use Rattle.name_table.specs.Table.{Table, Stands, AreLoopsOwn}
use Rattle.name_table.specs.Laws.{sees}
use Rattle.name_table.proofs.Names.{entry_as, named_as, seen_named}
use Rattle.name_table.proofs.Ranks.{put_again}

not_ask : (n : ℕ) (members : List ℕ) (held : HeldCase) (seen : Held) → IsLoopsOwn held
    → seen ≡ held_shown members held → is_ask_of n seen ≡ false
not_ask n members (PromiseCase root) seen own is = ap (is_ask_of n) is
not_ask n members (CellCase cell) seen own is = ap (is_ask_of n) is
not_ask n members (AskCase cell taken) seen own is = absurd own
not_ask n members (HubCase hub) seen own is = ap (is_ask_of n) is
not_ask n members (GroupCase error tasks empty) seen own is = ap (is_ask_of n) is
not_ask n members CancelerCase seen own is = ap (is_ask_of n) is
not_ask n members (RequestCase request) seen own is = absurd own

no_ask : (n : ℕ) (es : List Entry) (xs : List Named) → AreLoopsOwn es → AreSeen es xs
    → ask_of n xs ≡ None
no_ask n [] [] all s = refl
no_ask n [] (x ∷ xs) all s = absurd s
no_ask n (e ∷ es) [] all s = absurd s
no_ask n (e ∷ es) (x ∷ xs) all s =
    let other : is_ask_of n x.held ≡ false =
    not_ask n s.0.held.members e.held x.held all.0 s.0.held.is in
    rw other (no_ask n es xs all.1 s.1)

-- the names of a world are these
renamed_stands : (t : Table) (w : World) (names : List Named) → AreSeen t.entries names → Stands t w
    → Stands t (record w { names = names })
renamed_stands t w names s st = record {
  names = s;
  rising = st.rising;
  no_asks = st.no_asks;
  no_key = st.no_key;
  awaited = st.awaited;
  over = st.over;
  asks = st.asks;
  ended = st.ended;
  abandoned = st.abandoned;
  limit = st.limit;
  stopped = st.stopped;
}

-- a canceler has no Wrap that could leave it
canceler_left : (c : ℕ) (t : Table) (w : World) → held_in c t.entries ≡ Some CancelerCase
    → Stands t w → Stands t (named c (Canceler []) w)
canceler_left c t w is st =
    let name : Name = record { 0 = c } in
    let same = put_again (entry_as name CancelerCase) t.entries st.rising is in
    let names = with_new (named_as c [] CancelerCase) (without_name c w.names) in
    renamed_stands t w names (subst (λ (es : List Entry). AreSeen es names) same
    (seen_named name CancelerCase [] t.entries w.names refl st.names)) st

wrap_held : (n c : ℕ) (t : Table) (w : World) (members : List ℕ) (held : HeldCase)
    → held_in c t.entries ≡ Some held → IsCounted members held → Stands t w
    → Stands t (without_wrap_in n c (Some (held_shown members held)) w)
wrap_held n c t w members (PromiseCase root) is counted st = st
wrap_held n c t w members (CellCase cell) is counted st = st
wrap_held n c t w members (AskCase cell taken) is counted st = st
wrap_held n c t w members (HubCase hub) is counted st = st
wrap_held n c t w members (GroupCase error tasks empty) is counted st = st
wrap_held n c t w members CancelerCase is counted st =
    subst (λ (l : List ℕ). Stands t (named c (Canceler (dropped n l)) w)) (sym counted)
    (canceler_left c t w is st)
wrap_held n c t w members (RequestCase request) is counted st = st

wrap_left : (n c : ℕ) (t : Table) (w : World) (o : Option HeldCase) (s : Option Held)
    → held_in c t.entries ≡ o → SeesHeld o s → Stands t w → Stands t (without_wrap_in n c s w)
wrap_left n c t w None None is h st = st
wrap_left n c t w None (Some seen) is h st = absurd h
wrap_left n c t w (Some held) None is h st = absurd h
wrap_left n c t w (Some held) (Some seen) is h st =
    subst (λ (s : Held). Stands t (without_wrap_in n c (Some s) w)) (sym h.is)
    (wrap_held n c t w h.members held is h.counted st)

pub left_stands : (n : ℕ) (leaving : Leaving) (t : Table) (w : World) → Stands t w
    → Stands t (left_world n leaving w)
left_stands n Nothing t w st = st
left_stands n Cell t w st =
    let none : ask_of n w.names ≡ None = no_ask n t.entries w.names st.no_asks st.names in
    subst (λ (o : Option Named). Stands t (abandoned_as o w)) (sym none) st
left_stands n (Wrap canceler) t w st =
    let c = canceler.0 in
    let seen = sees c t.entries w.names st.names in
    wrap_left n c t w (held_in c t.entries) (held_at c w.names) refl seen st
