-- The closing frees each number once.
use Rattle.std.proofs.Common.{◌≡◌, ◌∙◌, ◌≤◌, ◌<◌, ◌+◌, ◌*◌, ◌^◌, ℕ, List, [], ◌∷◌, ◌++◌, Option, Some, Bool, true, false, refl, length, drop, map, sym, ap, arith}
use Rattle.kj_base.specs.Record.{Item, Free, Tells}
use Rattle.kj_model.specs.Calls.{Closed, close}
use Rattle.kj_model.specs.Changes.{frees_in}
use Rattle.kj_model.specs.Framed.{times}
use Rattle.kj_model.specs.World.{World, State}
use Rattle.kj_model.proofs.Ordered.{frees_map}
use Rattle.kj_ownership.proofs.Cancels.{close_answers}
use Rattle.kj_ownership.proofs.Closing.{close_frees_all}
use Rattle.kj_ownership.proofs.Sizes.{close_few}
use Rattle.promise_walks.specs.Walks.{Both, Does}
use Rattle.loop_core.specs.Calls.{IsClosed}
use Rattle.loop_core.specs.Frees.{frees_told}
use Rattle.loop_core.specs.Loops.{StandsAt}
use Rattle.promise_walks.specs.Values.{Rule}

drop_front : (xs ys : List Item) → drop (length xs) (xs ++ ys) ≡ ys
drop_front [] ys = refl
drop_front (x ∷ xs) ys = drop_front xs ys

-- where all frees are kept, just they were told
kept_are : (items : List Item) (freed : List ℕ) → Tells (Some []) items (Some (map Free freed)) → items ≡ map Free freed
kept_are items freed t = sym (t.2 ∙ ap (λ (xs : List Item). xs ++ items) (sym (none_old t.0 t.1)))
  where
    none_old : (old : List Item) → ◌≡◌ {A = Option (List Item)} (Some []) (Some old) → [] ≡ old
    none_old old e = cc

-- a state that was closed, by what was told
told_closed : (rule : Rule) (Nodes Names : World → Type 0) (s : State) (items : List Item) (freed : List ℕ) → StandsAt rule Nodes Names s → (close s).past ≡ s.past ++ items → items ≡ map Free freed → IsClosed s freed
told_closed rule Nodes Names s items freed old past told =
    let past_is : (close s).past ≡ s.past ++ map Free freed = past ∙ ap (λ (xs : List Item). s.past ++ xs) told in
    let answer : frees_in (drop (length s.past) (close s).past) ≡ freed = ap (λ (xs : List Item). frees_in (drop (length s.past) xs)) past_is ∙ ap frees_in (drop_front s.past (map Free freed)) ∙ frees_map freed in
    record {
      past_is = past_is;
      reply = λ setting. ap Closed answer;
      each_once = record {
        once = λ n. ap (λ (xs : List Item). times n (frees_in xs)) (sym past_is) ∙ (close_frees_all s old.kept.owned old.kept.none_awaited).once n;
        live = λ n. ap (times n) (sym answer) ∙ close_answers s old.kept.owned old.kept.none_awaited n;
      };
    }

-- no more are freed than there is room for
too_many : (rule : Rule) (Nodes Names : World → Type 0) (s : State) (items : List Item) (room : ℕ) → StandsAt rule Nodes Names s → (close s).past ≡ s.past ++ items → s.world.limits.slots ≤ room → room + 1 ≤ 0 + length (frees_in items) → ⊥
too_many rule Nodes Names s items room old past fits more =
    let few = close_few s old.kept.owned old.kept.none_awaited in
    let all : length (frees_in (drop (length s.past) (close s).past)) ≡ length (frees_in items) = ap (λ (xs : List Item). length (frees_in (drop (length s.past) xs))) past ∙ ap (λ (xs : List Item). length (frees_in xs)) (drop_front s.past items) in
    omega (arith, few, all, fits, more)

pub closed_by : (rule : Rule) (OldNodes OldNames NewNodes NewNames : World → Type 0) (whole : Bool) (room : ℕ) (freed : List ℕ)
    → Does (Both OldNodes OldNames) (Both NewNodes NewNames) close (λ s. s) (frees_told true room []) (frees_told whole room freed)
    → (s : State) → StandsAt rule OldNodes OldNames s → s.world.limits.slots ≤ room → IsClosed s freed
closed_by rule OldNodes OldNames NewNodes NewNames true room freed d s old fits =
    let r = d.moves s old.stands in
    told_closed rule OldNodes OldNames s d.items freed old (ap (λ (t : State). t.past) (sym r.ends) ∙ r.past_is) (kept_are d.items freed d.told.told)
closed_by rule OldNodes OldNames NewNodes NewNames false room freed d s old fits =
    let r = d.moves s old.stands in
    absurd (too_many rule OldNodes OldNames s d.items room old (ap (λ (t : State). t.past) (sym r.ends) ∙ r.past_is) fits d.told.least)

-- the room is the same where no step was asked for
pub same_room : (before asked m n : ℕ) → before ≡ 0 → m < 2 ^ 32 → n < 2 ^ 32 → asked * 2 ^ 32 + m ≡ before * 2 ^ 32 + n → m ≡ n
same_room before asked m n none few few_too e = omega (arith, none, few, few_too, e)
