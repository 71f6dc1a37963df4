-- The promise that is awaited, beside those that names have.
use Rattle.std.proofs.Common.{◌≡◌, ℕ, ◌<◌, Bool, true, false, List, [], Option, None, Some, refl, sym, ap, ◌∙◌, arith}
use Rattle.std.specs.Prelude.{nat_eq}
use Rattle.std.proofs.lemmas.Bool.Decides.{nat_tests}
use Rattle.kj_base.specs.declared.nodes.Link.{Link}
use Rattle.kj_model.specs.Nodes.{renamed_if}
use Rattle.kj_model.specs.World.{Awaited as AwaitedSeen}
use Rattle.kj_model.specs.Fire.{awaited_renamed}
use Rattle.promise_nodes.specs.Kept.{awaited_root}
use Rattle.promise_names.specs.Held.{HasRoot, awaited_key, awaited_shown, root_of, root_renamed}
use Rattle.promise_names.specs.declared.names.Awaited.{Awaited}
use Rattle.name_table.specs.declared.entries.Entry.{Entry}
use Rattle.name_table.specs.Entries.{held_in, link_if, awaited_replaced}
use Rattle.name_table.specs.Table.{Table, root_at, held_count}

no_key : (n : ℕ) → n < awaited_key → nat_eq n awaited_key ≡ false
no_key n low = grind (arith, nat_tests)

-- the root that a name promises
pub root_named : (t : Table) (n : ℕ) → n < awaited_key → root_at t n ≡ root_of (held_in n t.entries)
root_named t n low = rw (no_key n low) refl

none_case : (t : Table) (n : ℕ) (b : Bool) → nat_eq n awaited_key ≡ b → t.awaited ≡ None → t.entries ≡ [] → root_at t n ≡ None
none_case t n true is none empty = rw is (ap (λ (a : Option Awaited). awaited_root (awaited_shown a)) none)
none_case t n false is none empty = rw is (ap (λ (es : List Entry). root_of (held_in n es)) empty)

-- nothing is promised yet
pub no_root : (t : Table) (n : ℕ) → t.awaited ≡ None → t.entries ≡ [] → root_at t n ≡ None
no_root t n none empty = none_case t n (nat_eq n awaited_key) refl none empty

same_case : (t u : Table) (n : ℕ) (b : Bool) → nat_eq n awaited_key ≡ b → u.awaited ≡ t.awaited
    → root_of (held_in n u.entries) ≡ root_of (held_in n t.entries) → root_at u n ≡ root_at t n
same_case t u n true is awaited held =
    rw is (ap (λ (a : Option Awaited). awaited_root (awaited_shown a)) awaited)
same_case t u n false is awaited held = rw is held

-- the same is promised
pub same_root : (t u : Table) (n : ℕ) → u.awaited ≡ t.awaited
    → root_of (held_in n u.entries) ≡ root_of (held_in n t.entries) → root_at u n ≡ root_at t n
same_root t u n awaited held = same_case t u n (nat_eq n awaited_key) refl awaited held

apart_case : (t u : Table) (n : ℕ) (b : Bool) → nat_eq n awaited_key ≡ b → (n ≡ awaited_key → ⊥) → u.entries ≡ t.entries → root_at u n ≡ root_at t n
apart_case t u n true is apart same = absurd (apart (grind (arith, nat_tests)))
apart_case t u n false is apart same = rw is (ap (λ (es : List Entry). root_of (held_in n es)) same)

-- another promise is awaited, or none
pub awaited_roots : (t u : Table) → u.entries ≡ t.entries → HasRoot (root_at t) (root_at u) awaited_key (awaited_root (awaited_shown u.awaited))
awaited_roots t u same = (refl, λ other apart. apart_case t u other (nat_eq other awaited_key) refl apart same)

-- ---- where a tree was replaced

link_is : (b : Bool) (new root : Link) → (link_if b new root).number.0 ≡ renamed_if b new.number.0 root.number.0
link_is true new root = refl
link_is false new root = refl

pub awaited_is : (old : ℕ) (new : Link) (a : Option Awaited) → awaited_renamed old new.number.0 (awaited_shown a) ≡ awaited_shown (awaited_replaced old new a)
awaited_is old new None = refl
awaited_is old new (Some a) = ap (λ (n : ℕ). shown_at n) (sym (link_is (nat_eq a.root.number.0 old) new a.root))
  where
    shown_at : ℕ → Option AwaitedSeen
    shown_at n = Some (record { name = a.name.0; root = n })

root_is : (old : ℕ) (new : Link) (a : Option Awaited) → awaited_root (awaited_shown (awaited_replaced old new a)) ≡ root_renamed old new.number.0 (awaited_root (awaited_shown a))
root_is old new None = refl
root_is old new (Some a) = ap (λ (n : ℕ). Some n) (link_is (nat_eq a.root.number.0 old) new a.root)

pub as_many : (old : ℕ) (new : Link) (a : Option Awaited) → held_count (awaited_replaced old new a) ≡ held_count a
as_many old new None = refl
as_many old new (Some a) = refl

renamed_case : (old : ℕ) (new : Link) (t u : Table) (n : ℕ) (b : Bool) → nat_eq n awaited_key ≡ b → u.awaited ≡ awaited_replaced old new t.awaited
    → root_of (held_in n u.entries) ≡ root_renamed old new.number.0 (root_of (held_in n t.entries)) → root_at u n ≡ root_renamed old new.number.0 (root_at t n)
renamed_case old new t u n true is awaited held = rw is (ap (λ (a : Option Awaited). awaited_root (awaited_shown a)) awaited ∙ root_is old new t.awaited)
renamed_case old new t u n false is awaited held = rw is held

-- each root, where a tree was replaced
pub renamed_root : (old : ℕ) (new : Link) (t u : Table) (n : ℕ) → u.awaited ≡ awaited_replaced old new t.awaited
    → root_of (held_in n u.entries) ≡ root_renamed old new.number.0 (root_of (held_in n t.entries)) → root_at u n ≡ root_renamed old new.number.0 (root_at t n)
renamed_root old new t u n awaited held = renamed_case old new t u n (nat_eq n awaited_key) refl awaited held
