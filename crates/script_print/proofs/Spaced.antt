-- Words with one space between each two, as they are written one behind another.
use Rattle.std.proofs.Common.{◌≡◌, ℕ, List, [], ◌∷◌, ◌++◌, sym, ap, ◌∙◌, map}
use Rattle.std.specs.Prelude.{decimal, flat_map}
use Rattle.std.proofs.lemmas.List.{append_assoc, append-nil}
use Rattle.std.proofs.lemmas.List.Folds.{flat_map-map}
use Rattle.std.proofs.lemmas.Grind.{flat_map-append}
use Rattle.kj_base.specs.declared.numbers.Name.{Name}
use Rattle.kj_model.specs.Text.{all_spaced, spaced}
use Rattle.promise_script.specs.ScriptText.{name_word}
use Rattle.script_print.specs.Printed.{joined, words_line}

-- a word after a space
abbrev pub after_space : List ℕ → List ℕ
after_space w = 32 ∷ w

-- each word after a space
abbrev pub behind : List (List ℕ) → List ℕ
behind ws = flat_map after_space ws

pub joined_behind : (w : List ℕ) (ws : List (List ℕ)) → joined (w ∷ ws) ≡ w ++ behind ws
joined_behind w [] = sym (append-nil w)
joined_behind w (x ∷ xs) = ap (λ (ys : List ℕ). w ++ (32 ∷ ys)) (joined_behind x xs)

pub numbers_behind : (ns : List ℕ) → all_spaced ns ≡ behind (map decimal ns)
numbers_behind ns = sym (flat_map-map after_space decimal ns)

-- a line of a word and words behind it
pub line_is : (old w b : List ℕ) (ws : List (List ℕ)) → b ≡ behind ws
    → ((old ++ w) ++ b) ++ (10 ∷ []) ≡ old ++ words_line (w ∷ ws)
line_is old w b ws same =
    ap (λ (ys : List ℕ). ys ++ (10 ∷ [])) (append_assoc old w b)
    ∙ append_assoc old (w ++ b) (10 ∷ [])
    ∙ ap (λ (ys : List ℕ). old ++ ((w ++ ys) ++ (10 ∷ []))) same
    ∙ ap (λ (ys : List ℕ). old ++ (ys ++ (10 ∷ []))) (sym (joined_behind w ws))

-- the same with more words behind them
pub longer_line_is : (old w a b : List ℕ) (vs ws : List (List ℕ)) → a ≡ behind vs → b ≡ behind ws
    → (((old ++ w) ++ a) ++ b) ++ (10 ∷ []) ≡ old ++ words_line (w ∷ (vs ++ ws))
longer_line_is old w a b vs ws first second =
    ap (λ (ys : List ℕ). ys ++ (10 ∷ [])) (append_assoc (old ++ w) a b)
    ∙ line_is old w (a ++ b) (vs ++ ws)
    ((λ i. first i ++ second i) ∙ sym (flat_map-append after_space vs ws))

-- a space, a kind and a code, one behind another
pub kind_and_code : (old kind code : List ℕ) → ((old ++ (32 ∷ [])) ++ kind) ++ code
    ≡ old ++ (32 ∷ (kind ++ code))
kind_and_code old kind code =
    append_assoc (old ++ (32 ∷ [])) kind code
    ∙ append_assoc old (32 ∷ []) (kind ++ code)

pub code_behind : (code : ℕ) → spaced code ≡ behind (decimal code ∷ [])
code_behind code = sym (append-nil (spaced code))

pub names_behind : (names : List Name) → flat_map (λ (n : Name). spaced n.0) names
    ≡ behind (map name_word names)
names_behind names = sym (flat_map-map after_space name_word names)
