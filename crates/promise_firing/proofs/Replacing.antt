-- The roots that names promise, and lists, when one root took the place of another.
use Rattle.std.proofs.Common.{◌≡◌, ◌⊎◌, inl, inr, ℕ, ◌<◌, List, [], ◌∷◌, map, Option, None, Some, Bool, true, false, refl, sym, ap, ◌∙◌, arith, subst}
use Rattle.std.specs.Prelude.{nat_eq, ◌==◌}
use Rattle.std.proofs.lemmas.Bool.{false≢true}
use Rattle.std.proofs.lemmas.Bool.Decides.{nat_tests}
use Rattle.kj_model.specs.Nodes.{is_in, renamed, renamed_if}
use Rattle.kj_model.specs.World.{World, Named, Held, Promise, CellOf, AskCell, HubOf, Group, Canceler, RequestOf, held_at}
use Rattle.kj_model.specs.Fire.{held_renamed, named_renamed}
use Rattle.promise_nodes.specs.Kept.{OnlyFalls, RisesIn}
use Rattle.promise_nodes.specs.Members.{AreLists, lists_in, members_of}
use Rattle.promise_names.specs.Held.{AreFree, root_renamed, roots_replaced}
use Rattle.promise_firing.specs.Ground.{IsLoose}

some_same : (a b : ℕ) → ◌≡◌ {A = Option ℕ} (Some a) (Some b) → a ≡ b
some_same a b e = cc

none_some : (b : ℕ) → ◌≡◌ {A = Option ℕ} None (Some b) → ⊥
none_some b e = cc

pub fallen : (b : Bool) (old : Bool) → old ≡ false → (b ≡ true → old ≡ true) → b ≡ false
fallen true old h f = absurd (false≢true (sym h ∙ f refl))
fallen false old h f = refl

same_is : (a b : ℕ) → nat_eq a b ≡ true → a ≡ b
same_is a b h = grind (arith, nat_tests)

-- what a root was before
abbrev Before : ℕ → ℕ → Option ℕ → ℕ → Type 0
Before old new o root = ((o ≡ Some old) × (root ≡ new)) ⊎ (o ≡ Some root)

before_case : (b : Bool) (old new q root : ℕ) → nat_eq q old ≡ b → renamed old new q ≡ root → Before old new (Some q) root
before_case true old new q root e h = inl (ap Some (same_is q old e), sym h ∙ ap (λ (b : Bool). renamed_if b new q) e)
before_case false old new q root e h = inr (ap Some (sym (ap (λ (b : Bool). renamed_if b new q) e) ∙ h))

before : (old new : ℕ) (o : Option ℕ) (root : ℕ) → root_renamed old new o ≡ Some root → Before old new o root
before old new None root h = absurd (none_some root h)
before old new (Some q) root h = before_case (nat_eq q old) old new q root refl (some_same (renamed old new q) root h)

apart_in : (b : Bool) (root new : ℕ) → nat_eq new root ≡ b → (root ≡ new → ⊥) → is_in root (new ∷ []) ≡ false
apart_in true root new e h = absurd (h (sym (same_is new root e)))
apart_in false root new e h = rw e refl

untaken_by : (roots : ℕ → Option ℕ) (taken taken' : ℕ → Bool) (next old new name root : ℕ) → AreFree roots taken next → IsLoose roots taken next new → (taken old ≡ false → OnlyFalls taken taken') → RisesIn (new ∷ []) taken taken'
    → Before old new (roots name) root → taken' root ≡ false
untaken_by roots taken taken' next old new name root free loose falls rises (inl (at, same)) =
    fallen (taken' root) (taken root) (ap taken same ∙ loose.untaken) (falls (free.untaken name old at) root)
untaken_by roots taken taken' next old new name root free loose falls rises (inr at) =
    fallen (taken' root) (taken root) (free.untaken name root at)
    (λ h. rises root h (apart_in (nat_eq new root) root new refl (λ same. loose.unnamed name (at ∙ ap Some same))))

built_by : (roots : ℕ → Option ℕ) (taken : ℕ → Bool) (next old new name root : ℕ) → AreFree roots taken next → IsLoose roots taken next new → Before old new (roots name) root → root < next
built_by roots taken next old new name root free loose (inl (at, same)) = subst (λ (r : ℕ). r < next) (sym same) loose.built
built_by roots taken next old new name root free loose (inr at) = free.built name root at

apart_by : (roots : ℕ → Option ℕ) (taken : ℕ → Bool) (next old new name other root : ℕ) → AreFree roots taken next → IsLoose roots taken next new → Before old new (roots name) root → Before old new (roots other) root → name ≡ other
apart_by roots taken next old new name other root free loose (inl (at, same)) (inl (at', same')) = free.apart name other old at at'
apart_by roots taken next old new name other root free loose (inl (at, same)) (inr at') = absurd (loose.unnamed other (at' ∙ ap Some same))
apart_by roots taken next old new name other root free loose (inr at) (inl (at', same')) = absurd (loose.unnamed name (at ∙ ap Some same'))
apart_by roots taken next old new name other root free loose (inr at) (inr at') = free.apart name other root at at'

-- no name promises a tree that was taken, still
pub free_replaced : (roots roots' : ℕ → Option ℕ) (taken taken' : ℕ → Bool) (next old new : ℕ) → AreFree roots taken next → IsLoose roots taken next new → ((name : ℕ) → roots' name ≡ root_renamed old new (roots name))
    → (taken old ≡ false → OnlyFalls taken taken') → RisesIn (new ∷ []) taken taken' → AreFree roots' taken' next
free_replaced roots roots' taken taken' next old new free loose renames falls rises = record {
  untaken = λ name root h. untaken_by roots taken taken' next old new name root free loose falls rises (before old new (roots name) root (sym (renames name) ∙ h));
  built = λ name root h. built_by roots taken next old new name root free loose (before old new (roots name) root (sym (renames name) ∙ h));
  apart = λ name other root h k. apart_by roots taken next old new name other root free loose (before old new (roots name) root (sym (renames name) ∙ h)) (before old new (roots other) root (sym (renames other) ∙ k));
}

renamed_members : (old new : ℕ) (h : Held) → members_of (Some (held_renamed old new h)) ≡ members_of (Some h)
renamed_members old new (Promise root) = refl
renamed_members old new (CellOf cell) = refl
renamed_members old new (AskCell cell is_taken) = refl
renamed_members old new (HubOf hub) = refl
renamed_members old new (Group error tasks empty) = refl
renamed_members old new (Canceler wraps) = refl
renamed_members old new (RequestOf request) = refl

replaced_case : (b : Bool) (old new name : ℕ) (y : Named) (ys : List Named) → (y.name == name) ≡ b → members_of (held_at name (map (named_renamed old new) ys)) ≡ members_of (held_at name ys)
    → members_of (held_at name (map (named_renamed old new) (y ∷ ys))) ≡ members_of (held_at name (y ∷ ys))
replaced_case true old new name y ys e h = rw e (renamed_members old new y.held)
replaced_case false old new name y ys e h = rw e h

replaced_members : (old new name : ℕ) (ys : List Named) → members_of (held_at name (map (named_renamed old new) ys)) ≡ members_of (held_at name ys)
replaced_members old new name [] = refl
replaced_members old new name (y ∷ ys) = replaced_case (y.name == name) old new name y ys refl (replaced_members old new name ys)

-- and lists stay
pub replaced_lists : (old new : ℕ) (w : World) → AreLists (roots_replaced old new w) (lists_in w)
replaced_lists old new w list = replaced_members old new list w.names
