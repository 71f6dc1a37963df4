-- The texts of a list of words, word by word.
use Rattle.std.proofs.Common.{◌≡◌, ◌≤◌, ◌<◌, ℕ, List, [], ◌∷◌, length, get_or, refl, arith, Option, None, Some, IfNone, sym, ◌∙◌}
use Rattle.std.specs.Prelude.{String, string_bytes, IfSome}
use Rattle.std.specs.declared.alloc.Global.{Global}
use Rattle.kj_serve.specs.declared.forms.Form.{Form}
use Rattle.kj_serve.specs.Words.{texts_of, IsFormOf}

pub one_text : (ws : List (String Global)) (d : String Global) → 1 ≤ length ws → length ws < 2 → string_bytes (get_or ws 0 d) ∷ [] ≡ texts_of ws
one_text [] d some few = absurd (omega arith)
one_text (w ∷ []) d some few = refl
one_text (w ∷ v ∷ ws) d some few = absurd (omega arith)

pub three_texts : (ws : List (String Global)) (d : String Global) → 3 ≤ length ws → length ws < 4
    → string_bytes (get_or ws 0 d) ∷ string_bytes (get_or ws 1 d) ∷ string_bytes (get_or ws 2 d) ∷ [] ≡ texts_of ws
three_texts [] d some few = absurd (omega arith)
three_texts (a ∷ []) d some few = absurd (omega arith)
three_texts (a ∷ b ∷ []) d some few = absurd (omega arith)
three_texts (a ∷ b ∷ c ∷ []) d some few = refl
three_texts (a ∷ b ∷ c ∷ e ∷ ws) d some few = absurd (omega arith)

pub four_texts : (ws : List (String Global)) (d : String Global) → 4 ≤ length ws → length ws < 5
    → string_bytes (get_or ws 0 d) ∷ string_bytes (get_or ws 1 d) ∷ string_bytes (get_or ws 2 d) ∷ string_bytes (get_or ws 3 d) ∷ [] ≡ texts_of ws
four_texts [] d some few = absurd (omega arith)
four_texts (a ∷ []) d some few = absurd (omega arith)
four_texts (a ∷ b ∷ []) d some few = absurd (omega arith)
four_texts (a ∷ b ∷ c ∷ []) d some few = absurd (omega arith)
four_texts (a ∷ b ∷ c ∷ e ∷ []) d some few = refl
four_texts (a ∷ b ∷ c ∷ e ∷ f ∷ ws) d some few = absurd (omega arith)

-- what was found for some texts was found for the same texts
pub found_along : (o : Option Form) (xs ys : List (List ℕ)) → xs ≡ ys → IfSome o (IsFormOf xs) → IfSome o (IsFormOf ys)
found_along None xs ys same found = tt
found_along (Some form) xs ys same found = (found.0, sym same ∙ found.1)

abbrev pub NoForm : List (List ℕ) → Type 0
NoForm texts = (form : Form) → IsFormOf texts form → ⊥

pub none_along : (o : Option Form) (xs ys : List (List ℕ)) → xs ≡ ys → IfNone o (NoForm xs) → IfNone o (NoForm ys)
none_along None xs ys same none = λ form is. none form (is.0, same ∙ is.1)
none_along (Some form) xs ys same none = none
