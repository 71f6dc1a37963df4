-- Readers of words: each reads the words of its values, and nothing else.
use Rattle.std.proofs.Common.{◌≡◌, ◌⊎◌, ℕ, ◌<◌, ◌≤◌, ◌^◌, List, [], ◌∷◌, Option, None, Some, Bool, true, false, cond, refl, sym, ap, ◌∙◌, subst, arith, length, map, nat_lt, inl, inr}
use Rattle.std.specs.Prelude.{codes, decimal, bytes_eq}
use Rattle.std.specs.List.{All as EachOf}
use Rattle.std.specs.Str.Parse.{AllDigits}
use Rattle.std.proofs.lemmas.Bool.{cases_Bool}
use Rattle.std.proofs.lemmas.Bool.Decides.{nat_tests}
use Rattle.std.proofs.lemmas.List.{length-map}
use Rattle.std.proofs.lemmas.List.Elements.{All-nil, All-cons, All-head, All-tail}
use Rattle.std.proofs.lemmas.Slice.Eq.{bytes_eq-Decides}
use Rattle.std.proofs.lemmas.Fmt.{decimal_is_IsNumeral}
use Rattle.std.proofs.lemmas.Str.Parse.{digit_from_value}
use Rattle.kj_base.specs.declared.numbers.StepId.{StepId}
use Rattle.kj_base.specs.declared.numbers.Name.{Name}
use Rattle.kj_base.specs.declared.outcomes.Exception.{Exception}
use Rattle.kj_base.specs.declared.outcomes.Kind.{Kind}
use Rattle.kj_base.specs.declared.outcomes.Kind.TheVariants.{Failed, Overloaded, Disconnected, Unimplemented}
use Rattle.kj_model.specs.Text.{kind_text}
use Rattle.promise_script.specs.ScriptText.{name_word, step_word, exception_words, NameFits, StepFits, WordsFit, NamesFit}
use Rattle.promise_script.specs.Decode.{given, both, all_read, few_read, number_read, to_name, to_step, to_exception, name_read, step_read, kind_read, words_read, names_read, exception_read, one_name, two_names, one_step, two_steps, name_and}
use Rattle.promise_script.proofs.Numbers.{read_is, read_sound}
use Rattle.promise_script.proofs.Lists.{consed, consed_some}

-- what is read fits, and its words are those
abbrev pub Sound : {W A : Type 0} → (W → Option A) → (A → Type 0) → (A → W) → Type 0
Sound {W} {A} read F T = (w : W) (x : A) → read w ≡ Some x → F x × (w ≡ T x)

-- the words of what fits are read as it
abbrev pub Complete : {W A : Type 0} → (W → Option A) → (A → Type 0) → (A → W) → Type 0
Complete {W} {A} read F T = (x : A) → F x → read (T x) ≡ Some x

pub given_some : {A B : Type 0} (f : A → B) (o : Option A) (y : B) → given f o ≡ Some y → (x : A) × (o ≡ Some x) × (f x ≡ y)
given_some f None y e = absurd (cc (e))
given_some f (Some x) y e = (x, refl, cc (e))

pub both_some : {A B : Type 0} (a : Option A) (b : Option B) (p : A × B) → both a b ≡ Some p → (a ≡ Some p.0) × (b ≡ Some p.1)
both_some None b p e = absurd (cc (e))
both_some (Some x) None p e = absurd (cc (e))
both_some {A} {B} (Some x) (Some y) p e =
    let same : (x, y) ≡ p = cc (e) in
    ((λ i. Some ((same i).0)), (λ i. Some ((same i).1)))

pub both_are : {A B : Type 0} (a : Option A) (b : Option B) (x : A) (y : B) → a ≡ Some x → b ≡ Some y → both a b ≡ Some (x, y)
both_are a b x y e d = λ i. both (e i) (d i)

-- ---- a word alone

pub name_sound : Sound name_read NameFits name_word
name_sound w name e =
    let g = given_some to_name (number_read (2 ^ 32) w) name e in
    let s = read_sound (2 ^ 32) g.0 w g.1 in
    let value : g.0 ≡ name.0 = ap (λ (x : Name). x.0) g.2 in
    (omega (arith, s.0, value), s.1 ∙ ap decimal value)

pub name_complete : Complete name_read NameFits name_word
name_complete name fits = ap (λ o. given to_name o) (read_is (2 ^ 32) name.0 (name_word name) (omega (arith, fits)) fits refl)

no_dash : (n : ℕ) → n < 2 ^ 64 → codes "-" ≡ decimal n → ⊥
no_dash n fits same = let digits : AllDigits 10 (codes "-") = subst (AllDigits 10) (sym same) (decimal_is_IsNumeral n fits).0.1 in let range = digit_from_value 45 digits.0 in absurd (omega (arith, range.0))

dash_sound : (w : List ℕ) (s : Option StepId) → w ≡ codes "-" → Some None ≡ Some s → StepFits s × (w ≡ step_word s)
dash_sound w None text e = (tt, text)
dash_sound w (Some x) text e = absurd (cc (e))

digits_sound : (w : List ℕ) (s : Option StepId) (n : ℕ) → n < 2 ^ 32 → w ≡ decimal n → Some (to_step n) ≡ s → StepFits s × (w ≡ step_word s)
digits_sound w None n below text e = absurd (cc (e))
digits_sound w (Some x) n below text e =
    let same : to_step n ≡ x = cc (e) in
    let value : n ≡ x.0 = ap (λ (s : StepId). s.0) same in
    (omega (arith, below, value), text ∙ ap decimal value)

pub step_sound : Sound step_read StepFits step_word
step_sound w s e = by (bytes_eq w (codes "-")) refl e
  where
    by : (b : Bool) → bytes_eq w (codes "-") ≡ b → cond b (Some None) (given (λ n. Some (to_step n)) (number_read (2 ^ 32) w)) ≡ Some s → StepFits s × (w ≡ step_word s)
    by true same e = dash_sound w s ((bytes_eq-Decides w (codes "-")).0 same) e
    by false same e =
        let g = given_some (λ n. Some (to_step n)) (number_read (2 ^ 32) w) s e in
        let r = read_sound (2 ^ 32) g.0 w g.1 in
        digits_sound w s g.0 r.0 r.1 g.2

pub step_complete : Complete step_read StepFits step_word
step_complete None fits = refl
step_complete (Some x) fits = by (cases_Bool (bytes_eq (decimal x.0) (codes "-")))
  where
    by : (bytes_eq (decimal x.0) (codes "-") ≡ true) ⊎ (bytes_eq (decimal x.0) (codes "-") ≡ false) → step_read (decimal x.0) ≡ Some (Some x)
    by (inl same) = absurd (no_dash x.0 (omega (arith, fits)) (sym ((bytes_eq-Decides (decimal x.0) (codes "-")).0 same)))
    by (inr other) =
        ap (λ (b : Bool). cond b (Some None) (given (λ n. Some (to_step n)) (number_read (2 ^ 32) (decimal x.0)))) other
        ∙ ap (λ o. given (λ n. Some (to_step n)) o) (read_is (2 ^ 32) x.0 (decimal x.0) (omega (arith, fits)) fits refl)

-- the first of these whose text is the word
abbrev pub first_with : {A : Type 0} → (A → List ℕ) → List ℕ → List A → Option A
first_with T w [] = None
first_with T w (x ∷ xs) = cond (bytes_eq w (T x)) (Some x) (first_with T w xs)

pub first_sound : {A : Type 0} (T : A → List ℕ) (w : List ℕ) (xs : List A) (y : A) → first_with T w xs ≡ Some y → w ≡ T y
first_sound T w [] y e = absurd (cc (e))
first_sound {A} T w (x ∷ xs) y e = by (bytes_eq w (T x)) refl e (first_sound T w xs y)
  where
    by : (b : Bool) → bytes_eq w (T x) ≡ b → cond b (Some x) (first_with T w xs) ≡ Some y → (first_with T w xs ≡ Some y → w ≡ T y) → w ≡ T y
    by true same e rest = let here : x ≡ y = cc (e) in (bytes_eq-Decides w (T x)).0 same ∙ ap T here
    by false same e rest = rest e

kind_sound : (w : List ℕ) (k : Kind) → kind_read w ≡ Some k → w ≡ kind_text k
kind_sound w k e = first_sound kind_text w (Failed ∷ Overloaded ∷ Disconnected ∷ Unimplemented ∷ []) k e

kind_complete : (k : Kind) → kind_read (kind_text k) ≡ Some k
kind_complete Failed = refl
kind_complete Overloaded = refl
kind_complete Disconnected = refl
kind_complete Unimplemented = refl

-- ---- lists of words

all_sound : {A : Type 0} (f : List ℕ → Option A) (F : A → Type 0) (T : A → List ℕ) → Sound f F T
    → (ws : List (List ℕ)) (xs : List A) → all_read f ws ≡ Some xs → EachOf F xs × (ws ≡ map T xs)
all_sound {A} f F T sound [] xs e = let empty : [] ≡ xs = cc (e) in subst (λ (ys : List A). EachOf F ys × ([] ≡ map T ys)) empty (All-nil F, refl)
all_sound {A} f F T sound (w ∷ ws) xs e =
    let found = consed_some (f w) (all_read f ws) xs e in
    let head = sound w found.0 found.2 in
    let rest = all_sound f F T sound ws found.1 found.3 in
    let here : EachOf F (found.0 ∷ found.1) × (w ∷ ws ≡ map T (found.0 ∷ found.1)) = (All-cons F found.0 found.1 head.0 rest.0, λ i. head.1 i ∷ rest.1 i) in
    subst (λ (ys : List A). EachOf F ys × (w ∷ ws ≡ map T ys)) (sym found.4) here

all_complete : {A : Type 0} (f : List ℕ → Option A) (F : A → Type 0) (T : A → List ℕ) → Complete f F T
    → (xs : List A) → EachOf F xs → all_read f (map T xs) ≡ Some xs
all_complete f F T complete [] fits = refl
all_complete f F T complete (x ∷ xs) fits =
    λ i. consed (complete x (All-head F x xs fits) i) (all_complete f F T complete xs (All-tail F x xs fits) i)

few_sound : {A : Type 0} (most : ℕ) (f : List ℕ → Option A) (F : A → Type 0) (T : A → List ℕ) → Sound f F T
    → (ws : List (List ℕ)) (xs : List A) → few_read most f ws ≡ Some xs → ((length xs ≤ most) × EachOf F xs) × (ws ≡ map T xs)
few_sound {A} most f F T sound ws xs e = by (nat_lt most (length ws)) refl e
  where
    by : (b : Bool) → nat_lt most (length ws) ≡ b → cond b None (all_read f ws) ≡ Some xs → ((length xs ≤ most) × EachOf F xs) × (ws ≡ map T xs)
    by true same e = absurd (cc (e))
    by false same e =
        let found = all_sound f F T sound ws xs e in
        let many : length ws ≡ length xs = ap length found.1 ∙ length-map xs T in
        let small : length ws ≤ most = grind (arith, nat_tests) in
        ((omega (arith, many, small), found.0), found.1)

few_complete : {A : Type 0} (most : ℕ) (f : List ℕ → Option A) (F : A → Type 0) (T : A → List ℕ) → Complete f F T
    → (xs : List A) → (length xs ≤ most) × EachOf F xs → few_read most f (map T xs) ≡ Some xs
few_complete {A} most f F T complete xs fits =
    let many : length (map T xs) ≤ most = omega (arith, length-map xs T, fits.0) in
    let small : nat_lt most (length (map T xs)) ≡ false = not_less most (length (map T xs)) many in
    ap (λ (b : Bool). cond b None (all_read f (map T xs))) small ∙ all_complete f F T complete xs fits.1
  where
    not_less : (m n : ℕ) → n ≤ m → nat_lt m n ≡ false
    not_less m n h = grind (arith, nat_tests)

pub words_sound : Sound words_read WordsFit (λ ws. map decimal ws)
words_sound ws xs e = few_sound 16 (number_read (2 ^ 64)) (λ n. n < 2 ^ 64) decimal (λ w n found. read_sound (2 ^ 64) n w found) ws xs e

pub words_complete : Complete words_read WordsFit (λ ws. map decimal ws)
words_complete xs fits = few_complete 16 (number_read (2 ^ 64)) (λ n. n < 2 ^ 64) decimal (λ n below. read_is (2 ^ 64) n (decimal n) below below refl) xs fits

pub names_sound : Sound names_read NamesFit (λ names. map name_word names)
names_sound ws xs e = few_sound 8 name_read NameFits name_word name_sound ws xs e

pub names_complete : Complete names_read NamesFit (λ names. map name_word names)
names_complete xs fits = few_complete 8 name_read NameFits name_word name_complete xs fits

-- ---- shapes

pub one_name_sound : Sound one_name NameFits (λ n. name_word n ∷ [])
one_name_sound [] n e = absurd (cc (e))
one_name_sound (a ∷ []) n e = let s = name_sound a n e in (s.0, λ i. s.1 i ∷ [])
one_name_sound (a ∷ b ∷ ps) n e = absurd (cc (e))

abbrev pub TwoNamesFit : Name × Name → Type 0
TwoNamesFit p = NameFits p.0 × NameFits p.1

abbrev pub two_names_words : Name × Name → List (List ℕ)
two_names_words p = name_word p.0 ∷ name_word p.1 ∷ []

pub two_names_sound : Sound two_names TwoNamesFit two_names_words
two_names_sound [] p e = absurd (cc (e))
two_names_sound (a ∷ []) p e = absurd (cc (e))
two_names_sound (a ∷ b ∷ []) p e =
    let found = both_some (name_read a) (name_read b) p e in
    let s = name_sound a p.0 found.0 in
    let t = name_sound b p.1 found.1 in
    ((s.0, t.0), λ i. s.1 i ∷ t.1 i ∷ [])
two_names_sound (a ∷ b ∷ c ∷ ps) p e = absurd (cc (e))

pub two_names_complete : Complete two_names TwoNamesFit two_names_words
two_names_complete p fits = both_are (name_read (name_word p.0)) (name_read (name_word p.1)) p.0 p.1 (name_complete p.0 fits.0) (name_complete p.1 fits.1)

abbrev pub TwoStepsFit : Option StepId × Option StepId → Type 0
TwoStepsFit p = StepFits p.0 × StepFits p.1

abbrev pub one_step_words : Option StepId → List (List ℕ)
one_step_words s = step_word s ∷ []

pub one_step_sound : Sound one_step StepFits one_step_words
one_step_sound [] s e = absurd (cc (e))
one_step_sound (a ∷ []) s e =
    let found = step_sound a s e in
    (found.0, ap (λ (w : List ℕ). w ∷ []) found.1)
one_step_sound (a ∷ b ∷ ps) s e = absurd (cc (e))

pub one_step_complete : Complete one_step StepFits one_step_words
one_step_complete s fits = step_complete s fits

abbrev pub two_steps_words : Option StepId × Option StepId → List (List ℕ)
two_steps_words p = step_word p.0 ∷ step_word p.1 ∷ []

pub two_steps_sound : Sound two_steps TwoStepsFit two_steps_words
two_steps_sound [] p e = absurd (cc (e))
two_steps_sound (a ∷ []) p e = absurd (cc (e))
two_steps_sound (a ∷ b ∷ []) p e =
    let found = both_some (step_read a) (step_read b) p e in
    let s = step_sound a p.0 found.0 in
    let t = step_sound b p.1 found.1 in
    ((s.0, t.0), λ i. s.1 i ∷ t.1 i ∷ [])
two_steps_sound (a ∷ b ∷ c ∷ ps) p e = absurd (cc (e))

pub two_steps_complete : Complete two_steps TwoStepsFit two_steps_words
two_steps_complete p fits = both_are (step_read (step_word p.0)) (step_read (step_word p.1)) p.0 p.1 (step_complete p.0 fits.0) (step_complete p.1 fits.1)

abbrev pub CodeFits : Exception → Type 0
CodeFits e = e.code < 2 ^ 32

pub exception_sound : Sound exception_read CodeFits exception_words
exception_sound [] x e = absurd (cc (e))
exception_sound (k ∷ []) x e = absurd (cc (e))
exception_sound (k ∷ c ∷ []) x e =
    let g = given_some to_exception (both (kind_read k) (number_read (2 ^ 32) c)) x e in
    let found = both_some (kind_read k) (number_read (2 ^ 32) c) g.0 g.1 in
    let kind = kind_sound k g.0.0 found.0 in
    let code = read_sound (2 ^ 32) g.0.1 c found.1 in
    let here : CodeFits (to_exception g.0) × (k ∷ c ∷ [] ≡ exception_words (to_exception g.0)) = (code.0, λ i. kind i ∷ code.1 i ∷ []) in
    subst (λ (y : Exception). CodeFits y × (k ∷ c ∷ [] ≡ exception_words y)) g.2 here
exception_sound (k ∷ c ∷ y ∷ ps) x e = absurd (cc (e))

pub exception_complete : Complete exception_read CodeFits exception_words
exception_complete x fits =
    ap (λ o. given to_exception o) (both_are (kind_read (kind_text x.kind)) (number_read (2 ^ 32) (decimal x.code)) x.kind x.code (kind_complete x.kind) (read_is (2 ^ 32) x.code (decimal x.code) (omega (arith, fits)) fits refl))

-- a name, and then what another reader reads
abbrev pub NameAndFits : {A : Type 0} → (A → Type 0) → Name × A → Type 0
NameAndFits F p = NameFits p.0 × F p.1

abbrev pub name_and_words : {A : Type 0} → (A → List (List ℕ)) → Name × A → List (List ℕ)
name_and_words T p = name_word p.0 ∷ T p.1

pub name_and_sound : {A : Type 0} (f : List (List ℕ) → Option A) (F : A → Type 0) (T : A → List (List ℕ)) → Sound f F T → Sound (name_and f) (NameAndFits F) (name_and_words T)
name_and_sound f F T sound [] p e = absurd (cc (e))
name_and_sound f F T sound (a ∷ ps) p e =
    let found = both_some (name_read a) (f ps) p e in
    let s = name_sound a p.0 found.0 in
    let t = sound ps p.1 found.1 in
    ((s.0, t.0), λ i. s.1 i ∷ t.1 i)

pub name_and_complete : {A : Type 0} (f : List (List ℕ) → Option A) (F : A → Type 0) (T : A → List (List ℕ)) → Complete f F T → Complete (name_and f) (NameAndFits F) (name_and_words T)
name_and_complete f F T complete p fits = both_are (name_read (name_word p.0)) (f (T p.1)) p.0 p.1 (name_complete p.0 fits.0) (complete p.1 fits.1)
