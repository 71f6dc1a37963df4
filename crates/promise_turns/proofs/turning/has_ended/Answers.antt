-- A tree that is left over tells that the loop has stopped.
use Rattle.std.proofs.Common.{◌≡◌, ◌∙◌, sym, ap, refl, ℕ, List, [], ◌∷◌, Option, None, Some, Bool, true, false}
use Rattle.std.specs.Prelude.{slice_get}
use Rattle.promise_turns.proofs.turning.has_ended.Goals as goal

no_place : (xs : List ℕ) (n : ℕ) → xs ≡ [] → slice_get xs 0 ≡ Some n → ⊥
no_place xs n none some = cc

is_empty : (xs : List ℕ) → slice_get xs 0 ≡ None → xs ≡ []
is_empty [] e = refl
is_empty (x ∷ xs) e = absurd (cc e)

stops : (b : Bool) → (b ≡ false → ⊥) → true ≡ b
stops true h = refl
stops false h = absurd (h refl)

pub returns-in-Some-clause-stopped : goal.returns-in-Some-clause-stopped
returns-in-Some-clause-stopped g c = λ w stands none.
    stops w.stopped (λ runs. no_place (g.M.Names.over c.args.over.now.names) _ (sym (g.met.M.Names.over_is c.args.over.now.names w stands) ∙ none runs) (ap (λ k. slice_get (g.M.Names.over k.names) 0) (sym c.over.view_is) ∙ ap (λ names. slice_get (g.M.Names.over names) 0) (sym c.names.ensures) ∙ sym c.in-Some.ensures))
