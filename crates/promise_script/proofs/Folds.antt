-- Lines one after another: what a reading is behind them.
use Rattle.std.proofs.Common.{◌≡◌, ℕ, ◌+◌, List, [], ◌∷◌, ◌++◌, Option, None, Some, Ok, Err, refl, ap, ◌∙◌, arith, length}
use Rattle.promise_commands.specs.Script.{Script}
use Rattle.promise_script.specs.declared.meaning.Meaning.{Meaning}
use Rattle.promise_script.specs.Decode.{and_then}
use Rattle.promise_script.specs.Assembly.{Reading, stood, line_stood, went_on, refused_at, script_read}
use Rattle.promise_script.specs.Scripts.{MeanAll}
use Rattle.promise_script.proofs.Meanings.{text_complete}

-- the reading behind these lines
abbrev pub lines_stood : ℕ → Reading → List (List ℕ) → Option Reading
lines_stood n r [] = Some r
lines_stood n r (text ∷ texts) = and_then (λ q. lines_stood (n + 1) q texts) (line_stood (n + 1) r text)

-- the reading behind lines that mean this
abbrev pub meanings_stood : ℕ → Reading → List Meaning → Option Reading
meanings_stood n r [] = Some r
meanings_stood n r (m ∷ ms) = and_then (λ q. meanings_stood (n + 1) q ms) (stood (n + 1) m r)

-- lines stand as what they mean
pub lines_mean : (texts : List (List ℕ)) (ms : List Meaning) (n : ℕ) (r : Reading) → MeanAll texts ms → lines_stood n r texts ≡ meanings_stood n r ms
lines_mean [] [] n r mean = refl
lines_mean [] (m ∷ ms) n r mean = absurd mean
lines_mean (text ∷ texts) [] n r mean = absurd mean
lines_mean (text ∷ texts) (m ∷ ms) n r mean =
    ap (λ (o : Option Meaning). and_then (λ q. lines_stood (n + 1) q texts) (and_then (λ x. stood (n + 1) x r) o)) (text_complete text m mean.0)
    ∙ by (λ q. lines_mean texts ms (n + 1) q mean.1) (stood (n + 1) m r)
  where
    by : ((q : Reading) → lines_stood (n + 1) q texts ≡ meanings_stood (n + 1) q ms)
        → (o : Option Reading) → and_then (λ q. lines_stood (n + 1) q texts) o ≡ and_then (λ q. meanings_stood (n + 1) q ms) o
    by rest None = refl
    by rest (Some q) = rest q

-- where these lines stand, the others are read behind them
pub read_behind : (xs ys : List (List ℕ)) (n : ℕ) (r q : Reading) → lines_stood n r xs ≡ Some q → script_read n r (xs ++ ys) ≡ script_read (n + length xs) q ys
read_behind [] ys n r q e =
    let same : r ≡ q = cc (e) in
    let place : n ≡ n + 0 = omega arith in
    ap (λ (x : Reading). script_read n x ys) same ∙ ap (λ (k : ℕ). script_read k q ys) place
read_behind (x ∷ xs) ys n r q e = by (λ p h. read_behind xs ys (n + 1) p q h) (line_stood (n + 1) r x) e
  where
    by : ((p : Reading) → lines_stood (n + 1) p xs ≡ Some q → script_read (n + 1) p (xs ++ ys) ≡ script_read (n + 1 + length xs) q ys)
        → (o : Option Reading) → and_then (λ p. lines_stood (n + 1) p xs) o ≡ Some q
        → went_on o (Err (refused_at (n + 1) x)) (λ p. script_read (n + 1) p (xs ++ ys)) ≡ script_read (n + length (x ∷ xs)) q ys
    by rest None e = absurd (cc (e))
    by rest (Some p) e =
        let place : n + 1 + length xs ≡ n + length (x ∷ xs) = omega arith in
        rest p e ∙ ap (λ (k : ℕ). script_read k q ys) place

-- where these lines don't stand, no lines behind them help
pub none_behind : (xs ys : List (List ℕ)) (n : ℕ) (r : Reading) (s : Script) → lines_stood n r xs ≡ None → script_read n r (xs ++ ys) ≡ Ok s → ⊥
none_behind [] ys n r s e read = cc (e)
none_behind (x ∷ xs) ys n r s e read = by (λ p h. none_behind xs ys (n + 1) p s h) (line_stood (n + 1) r x) e read
  where
    by : ((p : Reading) → lines_stood (n + 1) p xs ≡ None → script_read (n + 1) p (xs ++ ys) ≡ Ok s → ⊥)
        → (o : Option Reading) → and_then (λ p. lines_stood (n + 1) p xs) o ≡ None
        → went_on o (Err (refused_at (n + 1) x)) (λ p. script_read (n + 1) p (xs ++ ys)) ≡ Ok s → ⊥
    by rest None e read = cc (read)
    by rest (Some p) e read = rest p e read

-- one line more
pub stood_more : (xs : List (List ℕ)) (x : List ℕ) (n : ℕ) (r q : Reading) → lines_stood n r xs ≡ Some q
    → lines_stood n r (xs ++ x ∷ []) ≡ line_stood (n + length xs + 1) q x
stood_more [] x n r q e =
    let same : r ≡ q = cc (e) in
    let place : n + 1 ≡ n + 0 + 1 = omega arith in
    alone (line_stood (n + 1) r x) ∙ ap (λ (y : Reading). line_stood (n + 1) y x) same ∙ ap (λ (k : ℕ). line_stood k q x) place
  where
    alone : (o : Option Reading) → and_then (λ y. Some y) o ≡ o
    alone None = refl
    alone (Some y) = refl
stood_more (y ∷ ys) x n r q e = by (λ p h. stood_more ys x (n + 1) p q h) (line_stood (n + 1) r y) e
  where
    by : ((p : Reading) → lines_stood (n + 1) p ys ≡ Some q → lines_stood (n + 1) p (ys ++ x ∷ []) ≡ line_stood (n + 1 + length ys + 1) q x)
        → (o : Option Reading) → and_then (λ p. lines_stood (n + 1) p ys) o ≡ Some q
        → and_then (λ p. lines_stood (n + 1) p (ys ++ x ∷ [])) o ≡ line_stood (n + length (y ∷ ys) + 1) q x
    by rest None e = absurd (cc (e))
    by rest (Some p) e =
        let place : n + 1 + length ys + 1 ≡ n + length (y ∷ ys) + 1 = omega arith in
        rest p e ∙ ap (λ (k : ℕ). line_stood k q x) place

-- where these lines stand, what is behind them stands behind them
pub meanings_behind : (xs ys : List Meaning) (n : ℕ) (r q : Reading) → meanings_stood n r xs ≡ Some q → meanings_stood n r (xs ++ ys) ≡ meanings_stood (n + length xs) q ys
meanings_behind [] ys n r q e =
    let same : r ≡ q = cc (e) in
    let place : n ≡ n + 0 = omega arith in
    ap (λ (x : Reading). meanings_stood n x ys) same ∙ ap (λ (k : ℕ). meanings_stood k q ys) place
meanings_behind (x ∷ xs) ys n r q e = by (λ p h. meanings_behind xs ys (n + 1) p q h) (stood (n + 1) x r) e
  where
    by : ((p : Reading) → meanings_stood (n + 1) p xs ≡ Some q → meanings_stood (n + 1) p (xs ++ ys) ≡ meanings_stood (n + 1 + length xs) q ys)
        → (o : Option Reading) → and_then (λ p. meanings_stood (n + 1) p xs) o ≡ Some q
        → and_then (λ p. meanings_stood (n + 1) p (xs ++ ys)) o ≡ meanings_stood (n + length (x ∷ xs)) q ys
    by rest None e = absurd (cc (e))
    by rest (Some p) e =
        let place : n + 1 + length xs ≡ n + length (x ∷ xs) = omega arith in
        rest p e ∙ ap (λ (k : ℕ). meanings_stood k q ys) place
