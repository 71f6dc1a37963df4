-- A tree takes the place of another under a name.
use Rattle.std.proofs.Common.{◌≡◌, ℕ, ◌+◌, ◌<◌, Bool, true, false, List, [], ◌∷◌, ◌++◌, Some, map, length, take, drop, get_or, refl, sym, ap, ◌∙◌}
use Rattle.std.specs.Prelude.{nat_eq, slice_set}
use Rattle.std.proofs.lemmas.List.{get_or_default}
use Rattle.std.proofs.lemmas.List.Edits.{map_over_more}
use Rattle.std.specs.List.{AllByRecursion}
use Rattle.kj_base.specs.declared.nodes.Link.{Link}
use Rattle.kj_model.specs.World.{Named, Promise}
use Rattle.kj_model.specs.Nodes.{renamed_if}
use Rattle.kj_model.specs.Fire.{held_renamed, named_renamed}
use Rattle.promise_names.specs.Held.{held_shown, IsCounted, IsLoopsOwn, root_of, root_renamed}
use Rattle.promise_names.specs.declared.names.Held.{Held as HeldCase}
use Rattle.promise_names.specs.declared.names.Held.TheVariants.{Promise as PromiseCase, CellOf as CellCase, AskCell as AskCase, HubOf as HubCase, Group as GroupCase, Canceler as CancelerCase, RequestOf as RequestCase}
use Rattle.name_table.specs.declared.entries.Entry.{Entry}
use Rattle.name_table.specs.Entries.{IsRising, held_in, link_if, held_replaced, entry_replaced, IsSeen, AreSeen}
use Rattle.name_table.specs.Table.{AreLoopsOwn}

link_is : (b : Bool) (new root : Link) → (link_if b new root).number.0 ≡ renamed_if b new.number.0 root.number.0
link_is true new root = refl
link_is false new root = refl

held_is : (old : ℕ) (new : Link) (members : List ℕ) (held : HeldCase)
    → held_renamed old new.number.0 (held_shown members held)
    ≡ held_shown members (held_replaced old new held)
held_is old new members (PromiseCase root) =
    ap (λ (n : ℕ). Promise n) (sym (link_is (nat_eq root.number.0 old) new root))
held_is old new members (CellCase cell) = refl
held_is old new members (AskCase cell taken) = refl
held_is old new members (HubCase hub) = refl
held_is old new members (GroupCase error tasks empty) = refl
held_is old new members CancelerCase = refl
held_is old new members (RequestCase request) = refl

counted_is : (old : ℕ) (new : Link) (members : List ℕ) (held : HeldCase) → IsCounted members held
    → IsCounted members (held_replaced old new held)
counted_is old new members (PromiseCase root) h = tt
counted_is old new members (CellCase cell) h = tt
counted_is old new members (AskCase cell taken) h = tt
counted_is old new members (HubCase hub) h = tt
counted_is old new members (GroupCase error tasks empty) h = h
counted_is old new members CancelerCase h = h
counted_is old new members (RequestCase request) h = tt

seen_entry : (old : ℕ) (new : Link) (e : Entry) (x : Named) → IsSeen e x
    → IsSeen (entry_replaced old new e) (named_renamed old new.number.0 x)
seen_entry old new e x s = record {
  name = s.name;
  held = record {
    members = s.held.members;
    counted = counted_is old new s.held.members e.held s.held.counted;
    is = ap (held_renamed old new.number.0) s.held.is ∙ held_is old new s.held.members e.held;
  };
}

pub seen_replaced : (old : ℕ) (new : Link) (es : List Entry) (xs : List Named) → AreSeen es xs
    → AreSeen (map (entry_replaced old new) es) (map (named_renamed old new.number.0) xs)
seen_replaced old new [] [] s = tt
seen_replaced old new [] (x ∷ xs) s = absurd s
seen_replaced old new (e ∷ es) [] s = absurd s
seen_replaced old new (e ∷ es) (x ∷ xs) s =
    (seen_entry old new e x s.0, seen_replaced old new es xs s.1)

-- what holds of each name still does
pub names_still : (old : ℕ) (new : Link) (P : ℕ → Type 0) (es : List Entry) → AllByRecursion (λ (e : Entry). P e.name.0) es → AllByRecursion (λ (e : Entry). P e.name.0) (map (entry_replaced old new) es)
names_still old new P [] all = tt
names_still old new P (e ∷ es) all = (all.0, names_still old new P es all.1)

pub rising_replaced : (old : ℕ) (new : Link) (es : List Entry) → IsRising es → IsRising (map (entry_replaced old new) es)
rising_replaced old new [] r = tt
rising_replaced old new (e ∷ es) r = (names_still old new (λ (n : ℕ). e.name.0 < n) es r.0, rising_replaced old new es r.1)

own_still : (old : ℕ) (new : Link) (held : HeldCase) → IsLoopsOwn held → IsLoopsOwn (held_replaced old new held)
own_still old new (PromiseCase root) h = tt
own_still old new (CellCase cell) h = tt
own_still old new (AskCase cell taken) h = h
own_still old new (HubCase hub) h = tt
own_still old new (GroupCase error tasks empty) h = tt
own_still old new CancelerCase h = tt
own_still old new (RequestCase request) h = h

pub owns_replaced : (old : ℕ) (new : Link) (es : List Entry) → AreLoopsOwn es → AreLoopsOwn (map (entry_replaced old new) es)
owns_replaced old new [] all = tt
owns_replaced old new (e ∷ es) all = (own_still old new e.held all.0, owns_replaced old new es all.1)

root_is : (old : ℕ) (new : Link) (held : HeldCase) → root_of (Some (held_replaced old new held)) ≡ root_renamed old new.number.0 (root_of (Some held))
root_is old new (PromiseCase root) = ap (λ (n : ℕ). Some n) (link_is (nat_eq root.number.0 old) new root)
root_is old new (CellCase cell) = refl
root_is old new (AskCase cell taken) = refl
root_is old new (HubCase hub) = refl
root_is old new (GroupCase error tasks empty) = refl
root_is old new CancelerCase = refl
root_is old new (RequestCase request) = refl

root_step : (old : ℕ) (new : Link) (n : ℕ) (e : Entry) (es : List Entry) (b : Bool) → nat_eq e.name.0 n ≡ b
    → root_of (held_in n (map (entry_replaced old new) es)) ≡ root_renamed old new.number.0 (root_of (held_in n es))
    → root_of (held_in n (map (entry_replaced old new) (e ∷ es))) ≡ root_renamed old new.number.0 (root_of (held_in n (e ∷ es)))
root_step old new n e es true t ih = rw t (root_is old new e.held)
root_step old new n e es false t ih = rw t ih

pub roots_are : (old : ℕ) (new : Link) (es : List Entry) (n : ℕ) → root_of (held_in n (map (entry_replaced old new) es)) ≡ root_renamed old new.number.0 (root_of (held_in n es))
roots_are old new [] n = refl
roots_are old new (e ∷ es) n = root_step old new n e es (nat_eq e.name.0 n) refl (roots_are old new es n)

-- ---- one entry after another

pub replaced_more : (old : ℕ) (new : Link) (xs ys : List Entry) (i : ℕ) (d : Entry) (held : HeldCase) → i < length xs → i < length ys
    → ys ≡ map (entry_replaced old new) (take i xs) ++ drop i xs → held ≡ held_replaced old new (get_or ys i d).held
    → slice_set ys i (record { name = (get_or ys i d).name; held = held }) ≡ map (entry_replaced old new) (take (i + 1) xs) ++ drop (i + 1) xs
replaced_more old new xs ys i d held low within is after =
    let x : Entry = get_or ys i d in
    ap (λ (h : HeldCase). slice_set ys i (entry_as x h)) after ∙ map_over_more (entry_replaced old new) xs ys i x low is (get_or_default ys i d x within)
  where
    entry_as : Entry → HeldCase → Entry
    entry_as e h = record { name = e.name; held = h }
