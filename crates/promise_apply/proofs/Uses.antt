-- Names that are there, and names before others.
use Rattle.std.proofs.Common.{◌≡◌, ℕ, List, [], ◌∷◌, ◌++◌, Option, None, Some, Bool, true, false, refl, sym, ap, ◌∙◌}
use Rattle.std.specs.Prelude.{◌||◌, ◌&&◌, ◌==◌, is_some}
use Rattle.std.specs.List.{list_any}
use Rattle.kj_model.specs.World.{Named, Held, held_at}
use Rattle.kj_model.specs.Uses.{Role, Use, is_name, used_before, first_failing}
use Rattle.promise_names.specs.Held.{SeesHeld}
use Rattle.promise_names.specs.declared.names.Held.{Held as HeldCase}
use Rattle.promise_apply.specs.declared.naming.Use.{Use as Used}
use Rattle.promise_apply.specs.Uses.{role_shown, use_shown, uses_shown}

name_case : (b : Bool) (name : ℕ) (x : Named) (xs : List Named) → (x.name == name) ≡ b → is_name name xs ≡ is_some (held_at name xs) → is_name name (x ∷ xs) ≡ is_some (held_at name (x ∷ xs))
name_case true name x xs e h = rw e refl
name_case false name x xs e h = rw e h

pub name_held : (name : ℕ) (names : List Named) → is_name name names ≡ is_some (held_at name names)
name_held name [] = refl
name_held name (x ∷ xs) = name_case (x.name == name) name x xs refl (name_held name xs)

sees_some : (o : Option HeldCase) (seen : Option Held) → SeesHeld o seen → is_some o ≡ is_some seen
sees_some None None h = refl
sees_some None (Some seen) h = absurd h
sees_some (Some held) None h = absurd h
sees_some (Some held) (Some seen) h = refl

-- a name is there just where it is seen
pub there_is : (name : ℕ) (names : List Named) (o : Option HeldCase) → SeesHeld o (held_at name names) → is_some o ≡ is_name name names
there_is name names o h = sees_some o (held_at name names) h ∙ sym (name_held name names)

-- the same of the names of a command as the definitions see them
pub used_shown : (test : Role → Bool) (name : ℕ) (uses : List Used) → list_any (λ (u : Used). test (role_shown u.role) && (u.name.0 == name)) uses ≡ used_before test name (uses_shown uses)
used_shown test name [] = refl
used_shown test name (u ∷ us) = ap (λ (b : Bool). (test (role_shown u.role) && (u.name.0 == name)) || b) (used_shown test name us)

-- the names so far are all right
pub fault_passed : (fails : List Use → Use → Bool) (before : List Used) (u : Used) (more : List Used) → fails (uses_shown before) (use_shown u) ≡ false
    → first_failing fails (uses_shown before) (uses_shown (u ∷ more)) ≡ first_failing fails (uses_shown before ++ use_shown u ∷ []) (uses_shown more)
fault_passed fails before u more h = rw h refl

-- this name isn't
pub fault_found : (fails : List Use → Use → Bool) (before : List Used) (u : Used) (more : List Used) → fails (uses_shown before) (use_shown u) ≡ true
    → first_failing fails (uses_shown before) (uses_shown (u ∷ more)) ≡ Some u.name.0
fault_found fails before u more h = rw h refl

-- one more name stands before the others
pub shown_more : (before : List Used) (u : Used) → uses_shown (before ++ u ∷ []) ≡ uses_shown before ++ use_shown u ∷ []
shown_more [] u = refl
shown_more (b ∷ bs) u = ap (λ (us : List Use). use_shown b ∷ us) (shown_more bs u)
