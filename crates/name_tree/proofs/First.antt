-- The lowest key of a tree is the first name of its list.
use Rattle.std.proofs.Common.{◌≡◌, ℕ, ◌≤◌, Bool, true, false, List, [], ◌∷◌, Option, None, Some, refl, sym, ap, ◌∙◌, subst, arith}
use Rattle.std.specs.Prelude.{nat_lt, IsSome}
use Rattle.std.proofs.lemmas.Bool.Decides.{nat_tests}
use Rattle.kj_model.specs.World.{Named}
use Rattle.promise_names.specs.Held.{first_name}
use Rattle.promise_names.specs.declared.names.Held.{Held}
use Rattle.name_table.specs.declared.entries.Entry.{Entry}
use Rattle.name_table.specs.Entries.{IsRising, held_in, AreSeen}
use Rattle.name_table.proofs.Ranks.{none_above, above_lower, lower_is}
use Rattle.name_table.proofs.Rising.{equal}
use Rattle.name_tree.specs.declared.tree.Tree.{Tree}
use Rattle.name_tree.specs.Trees.{IsSplit, IsLowest}
use Rattle.name_tree.specs.Listed.{listed}
use Rattle.name_tree.proofs.Rises.{held_listed, rising_listed}

-- the number of the first name
abbrev first_key : List Entry → Option ℕ
first_key [] = None
first_key (e ∷ es) = Some e.name.0

first_seen : (es : List Entry) (xs : List Named) → AreSeen es xs → first_key es ≡ first_name xs
first_seen [] [] s = refl
first_seen [] (x ∷ xs) s = absurd s
first_seen (e ∷ es) [] s = absurd s
first_seen (e ∷ es) (x ∷ xs) s = ap (λ (n : ℕ). Some n) (sym s.0.name)

some_first : (e : Entry) (es : List Entry) → IsSome (held_in e.name.0 (e ∷ es))
some_first e es = rw (equal e.name.0) refl

none_some : IsSome {T = Held} None → ⊥
none_some some = cc

none_list : (es : List Entry) → ((n : ℕ) → held_in n es ≡ None) → None ≡ first_key es
none_list [] none = refl
none_list (e ∷ es) none = absurd (none_some (subst (λ (o : Option Held). IsSome o) (none e.name.0) (some_first e es)))

first_le : (m : ℕ) (e : Entry) (es : List Entry) (b : Bool) → nat_lt m e.name.0 ≡ b → IsRising (e ∷ es) → IsSome (held_in m (e ∷ es)) → e.name.0 ≤ m
first_le m e es true t r some =
    let less = lower_is m e.name.0 t in
    absurd (none_some (subst (λ (o : Option Held). IsSome o) (none_above m (e ∷ es) (less, above_lower m e.name.0 es less r.0)) some))
first_le m e es false t r some = grind (arith, nat_tests)

some_list : (m : ℕ) (es : List Entry) → IsRising es → IsSome (held_in m es) → ((n : ℕ) → IsSome (held_in n es) → m ≤ n) → Some m ≡ first_key es
some_list m [] r some least = absurd (none_some some)
some_list m (e ∷ es) r some least =
    let low = least e.name.0 (some_first e es) in
    let high = first_le m e es (nat_lt m e.name.0) refl r some in
    ap (λ (n : ℕ). Some n) (omega (arith, low, high))

lowest_is : (at step : ℕ) (t : Tree Held) (lowest : Option ℕ) → IsSplit at step t → IsLowest lowest t → lowest ≡ first_key (listed t)
lowest_is at step t None split low = none_list (listed t) (λ n. held_listed t at step split n ∙ low n)
lowest_is at step t (Some m) split low =
    some_list m (listed t) (rising_listed t at step split) (subst (λ (o : Option Held). IsSome o) (sym (held_listed t at step split m)) low.0)
    (λ n some. low.1 n (subst (λ (o : Option Held). IsSome o) (held_listed t at step split n) some))

pub first_is : (at step : ℕ) (t : Tree Held) (lowest : Option ℕ) (xs : List Named) → IsSplit at step t
    → IsLowest lowest t → AreSeen (listed t) xs → lowest ≡ first_name xs
first_is at step t lowest xs split low s =
    lowest_is at step t lowest split low ∙ first_seen (listed t) xs s
