-- The list of a tree that was changed under one name, or under each.
use Rattle.std.proofs.Common.{◌≡◌, ℕ, Bool, true, false, List, [], ◌∷◌, None, Some, map, refl, sym, ap, ◌∙◌, subst}
use Rattle.std.specs.Prelude.{nat_eq}
use Rattle.kj_base.specs.declared.nodes.Link.{Link}
use Rattle.promise_names.specs.declared.names.Held.{Held}
use Rattle.name_table.specs.declared.entries.Entry.{Entry}
use Rattle.name_table.specs.Entries.{held_in, without_entry, entered, entry_replaced}
use Rattle.name_table.proofs.Alone.{unequal}
use Rattle.name_table.proofs.Ranks.{same_is}
use Rattle.name_table.proofs.Rising.{rising_entered, rising_without, entered_self, entered_other, held_gone, held_kept, swapped}
use Rattle.name_table.proofs.Replaced.{rising_replaced}
use Rattle.name_tree.specs.declared.tree.Tree.{Tree}
use Rattle.name_tree.specs.Trees.{value_at, IsSplit, IsSetAt}
use Rattle.name_tree.specs.Listed.{listed, held_after, IsRenamed}
use Rattle.name_tree.proofs.Rises.{held_listed, rising_listed}
use Rattle.name_tree.proofs.Same.{same_rising}

-- ---- a name holds this now

put_at : (x : Entry) (t new : Tree Held) (n : ℕ) (b : Bool) → nat_eq x.name.0 n ≡ b → held_in n (listed t) ≡ value_at n t → IsSetAt x.name.0 (Some x.held) t new
    → value_at n new ≡ held_in n (entered x (listed t))
put_at x t new n true u is set = (set n ∙ rw u refl) ∙ sym (subst (λ (m : ℕ). held_in m (entered x (listed t)) ≡ Some x.held) (same_is x.name.0 n u) (entered_self x (listed t)))
put_at x t new n false u is set = (set n ∙ rw u refl) ∙ sym is ∙ sym (entered_other x n (listed t) (λ same. unequal x.name.0 n u (sym same)))

pub put_is : (at step : ℕ) (x : Entry) (t new : Tree Held) → IsSplit at step t → IsSplit at step new → IsSetAt x.name.0 (Some x.held) t new → listed new ≡ entered x (listed t)
put_is at step x t new split after set =
    same_rising (listed new) (entered x (listed t)) (rising_listed new at step after) (rising_entered x (listed t) (rising_listed t at step split))
    (λ n. held_listed new at step after n ∙ put_at x t new n (nat_eq x.name.0 n) refl (held_listed t at step split n) set)

-- ---- a name goes

gone_at : (key : ℕ) (t new : Tree Held) (n : ℕ) (b : Bool) → nat_eq key n ≡ b → held_in n (listed t) ≡ value_at n t → IsSetAt key None t new → value_at n new ≡ held_in n (without_entry key (listed t))
gone_at key t new n true u is set = (set n ∙ rw u refl) ∙ sym (subst (λ (m : ℕ). held_in m (without_entry key (listed t)) ≡ None) (same_is key n u) (held_gone key (listed t)))
gone_at key t new n false u is set = (set n ∙ rw u refl) ∙ sym is ∙ sym (held_kept key n (listed t) (swapped key n false u))

pub gone_is : (at step key : ℕ) (t new : Tree Held) → IsSplit at step t → IsSplit at step new → IsSetAt key None t new → listed new ≡ without_entry key (listed t)
gone_is at step key t new split after set =
    same_rising (listed new) (without_entry key (listed t)) (rising_listed new at step after) (rising_without key (listed t) (rising_listed t at step split))
    (λ n. held_listed new at step after n ∙ gone_at key t new n (nat_eq key n) refl (held_listed t at step split n) set)

-- ---- a tree was replaced by another

replaced_step : (old : ℕ) (new : Link) (n : ℕ) (e : Entry) (es : List Entry) (b : Bool) → nat_eq e.name.0 n ≡ b → held_in n (map (entry_replaced old new) es) ≡ held_after old new (held_in n es)
    → held_in n (map (entry_replaced old new) (e ∷ es)) ≡ held_after old new (held_in n (e ∷ es))
replaced_step old new n e es true t ih = rw t refl
replaced_step old new n e es false t ih = rw t ih

held_replaced_in : (old : ℕ) (new : Link) (n : ℕ) (es : List Entry) → held_in n (map (entry_replaced old new) es) ≡ held_after old new (held_in n es)
held_replaced_in old new n [] = refl
held_replaced_in old new n (e ∷ es) = replaced_step old new n e es (nat_eq e.name.0 n) refl (held_replaced_in old new n es)

pub renamed_is : (at step old : ℕ) (new : Link) (t after : Tree Held) → IsSplit at step t → IsSplit at step after → IsRenamed old new t after → listed after ≡ map (entry_replaced old new) (listed t)
renamed_is at step old new t after split split_after renamed =
    same_rising (listed after) (map (entry_replaced old new) (listed t)) (rising_listed after at step split_after) (rising_replaced old new (listed t) (rising_listed t at step split))
    (λ n. held_listed after at step split_after n ∙ renamed n ∙ ap (held_after old new) (sym (held_listed t at step split n)) ∙ sym (held_replaced_in old new n (listed t)))
