-- Lists of words, each read.
use Rattle.std.proofs.Common.{◌≡◌, ℕ, zero, suc, ◌<◌, ◌+◌, List, [], ◌∷◌, ◌++◌, Option, None, Some, Bool, true, false, cond, nat_lt, Bor, refl, sym, ap, ◌∙◌, arith, length, take, get_or, map}
use Rattle.std.proofs.lemmas.List.{take_more, length-map}
use Rattle.promise_script.specs.Decode.{given, both, all_read, few_read}

both_none : {A B : Type 0} (o : Option A) → both {A = A} {B = B} o None ≡ None
both_none None = refl
both_none (Some x) = refl

abbrev pub consed : {A : Type 0} → Option A → Option (List A) → Option (List A)
consed a b = given (λ p. p.0 ∷ p.1) (both a b)

abbrev pub Consed : {A : Type 0} → Option A → Option (List A) → List A → Type 0
Consed {A} a b xs = (y : A) × (ys : List A) × (a ≡ Some y) × (b ≡ Some ys) × (xs ≡ y ∷ ys)

pub consed_some : {A : Type 0} (a : Option A) (b : Option (List A)) (xs : List A) → consed a b ≡ Some xs → Consed a b xs
consed_some None b xs e = absurd (cc (e))
consed_some (Some y) None xs e = absurd (cc (e))
consed_some (Some y) (Some ys) xs e = (y, ys, refl, refl, cc (e))

-- a word that is read as none
pub read_stop : {A : Type 0} (f : List ℕ → Option A) (ws : List (List ℕ)) (i : ℕ) → i < length ws → f (get_or ws i []) ≡ None → all_read f ws ≡ None
read_stop f [] i inside e = absurd (omega arith)
read_stop f (w ∷ ws) zero inside e = ap (λ o. consed o (all_read f ws)) e
read_stop f (w ∷ ws) (suc i) inside e =
    ap (λ o. consed (f w) o) (read_stop f ws i (omega arith) e) ∙ ap (λ o. given (λ p. p.0 ∷ p.1) o) (both_none (f w))

-- one word more
pub read_more : {A : Type 0} (f : List ℕ → Option A) (ws : List (List ℕ)) (w : List ℕ) (xs : List A) (x : A)
    → all_read f ws ≡ Some xs → f w ≡ Some x → all_read f (ws ++ w ∷ []) ≡ Some (xs ++ x ∷ [])
read_more {A} f [] w xs x before e =
    let empty : [] ≡ xs = cc (before) in
    ap (λ o. consed o (Some [])) e ∙ ap (λ (ys : List A). Some (ys ++ x ∷ [])) empty
read_more {A} f (v ∷ vs) w xs x before e =
    let found = consed_some (f v) (all_read f vs) xs before in
    let rest = read_more f vs w found.1 x found.3 e in
    ap (λ o. consed o (all_read f (vs ++ w ∷ []))) found.2 ∙ ap (λ o. consed (Some found.0) o) rest ∙ ap (λ (ys : List A). Some (ys ++ x ∷ [])) (sym found.4)

-- few words, each read
pub few_none : {A : Type 0} (most : ℕ) (f : List ℕ → Option A) (ps : List (List ℕ)) → all_read f ps ≡ None → few_read most f ps ≡ None
few_none {A} most f ps e = by (nat_lt most (length ps))
  where
    by : (b : Bool) → cond b None (all_read f ps) ≡ None
    by true = refl
    by false = e

abbrev pub now_of : List (Bor (List ℕ)) → List (List ℕ)
now_of ws = map (λ (w : Bor (List ℕ)). w.now) ws

pub now_at : (ws : List (Bor (List ℕ))) (i : ℕ) (d : Bor (List ℕ)) → i < length ws → get_or (now_of ws) i [] ≡ (get_or ws i d).now
now_at [] i d inside = absurd (omega arith)
now_at (w ∷ ws) zero d inside = refl
now_at (w ∷ ws) (suc i) d inside = now_at ws i d (omega arith)

-- a part of the list that is read as none
pub part_stop : {A : Type 0} (f : List ℕ → Option A) (ws : List (Bor (List ℕ))) (i : ℕ) (d : Bor (List ℕ)) → i < length ws → f (get_or ws i d).now ≡ None → all_read f (now_of ws) ≡ None
part_stop f ws i d inside e =
    read_stop f (now_of ws) i (omega (arith, inside, length-map ws (λ (w : Bor (List ℕ)). w.now))) (ap f (now_at ws i d inside) ∙ e)

-- one part more
pub part_more : {A : Type 0} (f : List ℕ → Option A) (ws : List (Bor (List ℕ))) (i : ℕ) (d : Bor (List ℕ)) (xs : List A) (x : A) → i < length ws
    → all_read f (take i (now_of ws)) ≡ Some xs → f (get_or ws i d).now ≡ Some x → all_read f (take (i + 1) (now_of ws)) ≡ Some (xs ++ x ∷ [])
part_more f ws i d xs x inside before e =
    let within : i < length (now_of ws) = omega (arith, inside, length-map ws (λ (w : Bor (List ℕ)). w.now)) in
    ap (all_read f) (take_more (now_of ws) i [] within) ∙ read_more f (take i (now_of ws)) (get_or (now_of ws) i []) xs x before (ap f (now_at ws i d inside) ∙ e)
