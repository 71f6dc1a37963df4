-- The text of what was told, one line after another.
use Rattle.std.proofs.Common.{◌≡◌, ℕ, zero, suc, ◌<◌, ◌+◌, List, [], ◌∷◌, ◌++◌, map, take, get_or, length, sym, ap, ◌∙◌, arith}
use Rattle.std.proofs.lemmas.List.{append_assoc, append-nil}
use Rattle.kj_base.specs.Record.{Item}
use Rattle.kj_model.specs.Log.{Told as ToldLine}
use Rattle.kj_model.specs.Text.{item_text, log_text}
use Rattle.promise_steps.specs.declared.told.Told.{Told}

log_more : (f : Told → Item) (items : List Told) (i : ℕ) (item : Told) → i < length items → item ≡ get_or items i item
    → log_text (map ToldLine (map f (take (suc i) items))) ≡ log_text (map ToldLine (map f (take i items))) ++ (item_text (f item) ++ 10 ∷ [])
log_more f [] i item within is = absurd (omega arith)
log_more f (x ∷ xs) zero item within is = append-nil (item_text (f x) ++ 10 ∷ []) ∙ ap (λ (t : Told). item_text (f t) ++ 10 ∷ []) (sym is)
log_more f (x ∷ xs) (suc i) item within is =
    ap (λ (ys : List ℕ). (item_text (f x) ++ 10 ∷ []) ++ ys) (log_more f xs i item (omega (arith, within)) is)
    ∙ sym (append_assoc (item_text (f x) ++ 10 ∷ []) (log_text (map ToldLine (map f (take i xs)))) (item_text (f item) ++ 10 ∷ []))

pub printed_more : (f : Told → Item) (items : List Told) (i : ℕ) (item : Told) (old mid new : List ℕ) → i < length items → item ≡ get_or items i item
    → mid ≡ old ++ log_text (map ToldLine (map f (take i items))) → new ≡ mid ++ item_text (f item) ++ 10 ∷ []
    → new ≡ old ++ log_text (map ToldLine (map f (take (i + 1) items)))
printed_more f items i item old mid new within is before line =
    let place : suc i ≡ i + 1 = omega arith in
    let front : List ℕ = log_text (map ToldLine (map f (take i items))) in
    line ∙ ap (λ (ys : List ℕ). ys ++ item_text (f item) ++ 10 ∷ []) before
    ∙ joined old front (item_text (f item)) (10 ∷ [])
    ∙ ap (λ (ys : List ℕ). old ++ ys) (sym (log_more f items i item within is))
    ∙ ap (λ (j : ℕ). old ++ log_text (map ToldLine (map f (take j items)))) place
  where
    joined : (a b c d : List ℕ) → ((a ++ b) ++ c) ++ d ≡ a ++ (b ++ (c ++ d))
    joined a b c d = append_assoc (a ++ b) c d ∙ append_assoc a b (c ++ d)
