-- Connections one after another.
use Rattle.std.proofs.Common.{◌≡◌, ◌≢◌, ℕ, suc, ◌^◌, ◌<◌, ◌≤◌, false, nat_eq, List, [], ◌∷◌, ◌++◌, length, drop, ◌⊎◌, sym, ap, ◌∙◌, refl, arith, inl, inr}
use Rattle.std.specs.Prelude.{decimal, codes, All}
use Rattle.std.proofs.lemmas.Bool.{cases_lt}
use Rattle.std.proofs.lemmas.List.{append_cancel_left, append_assoc, append-nil, length-append}
use Rattle.conn_record.specs.Records.{conn_text, conns_text, record_text, HasNoConn, IsNoRecording, BeginsWith}
use Rattle.conn_record.proofs.NumberLemmas.{number_unique}

-- a connection in its parts
pub conn_parts : (a x : List ℕ) → conn_text a ++ x ≡ codes "conn " ++ (decimal (length a) ++ 10 ∷ (a ++ 10 ∷ x))
conn_parts a x = simp append_assoc

same_length : (a b x y : List ℕ) → length a ≡ length b → a ++ 10 ∷ x ≡ b ++ 10 ∷ y → (a ≡ b) × (x ≡ y)
same_length [] [] x y long same = (refl, cc)
same_length [] (c ∷ b) x y long same = absurd (omega arith)
same_length (c ∷ a) [] x y long same = absurd (omega arith)
same_length (c ∷ a) (d ∷ b) x y long same =
    let rests : a ++ 10 ∷ x ≡ b ++ 10 ∷ y = cc in
    let found = same_length a b x y (omega arith) rests in
    let first : c ≡ d = cc in
    (cc (found.0, first), found.1)

-- one connection stands at the front, and one rest follows it
pub conn_unique : (a b x y : List ℕ) → length a < 2 ^ 64 → length b < 2 ^ 64 → conn_text a ++ x ≡ conn_text b ++ y → (a ≡ b) × (x ≡ y)
conn_unique a b x y small fits same =
    let numbers = append_cancel_left (codes "conn ") _ _ (sym (conn_parts a x) ∙ same ∙ conn_parts b y) in
    let found = number_unique (length a) (length b) (a ++ 10 ∷ x) (b ++ 10 ∷ y) small fits numbers in
    same_length a b x y found.0 found.1

-- ---- connections that are short enough for their numbers to be read

abbrev pub AreShort : List (List ℕ) → Type 0
AreShort [] = Unit {0}
AreShort (a ∷ conns) = (length a < 2 ^ 64) × AreShort conns

-- a connection is no longer than its text
pub conn_short : (a x : List ℕ) → length (conn_text a ++ x) < 2 ^ 64 → (length a < 2 ^ 64) × (length x < 2 ^ 64)
conn_short a x small =
    let long = ap length (conn_parts a x) in
    let tail = length-append (decimal (length a)) (10 ∷ (a ++ 10 ∷ x)) in
    let body = length-append a (10 ∷ x) in
    (omega (arith, small, long, tail, body), omega (arith, small, long, tail, body))

pub conns_front : (a : List ℕ) (conns : List (List ℕ)) (x : List ℕ) → conns_text (a ∷ conns) ++ x ≡ conn_text a ++ (conns_text conns ++ x)
conns_front a conns x = append_assoc (conn_text a) (conns_text conns) x

pub are_short : (conns : List (List ℕ)) (x : List ℕ) → length (conns_text conns ++ x) < 2 ^ 64 → AreShort conns
are_short [] x small = tt
are_short (a ∷ conns) x small =
    let parts = conn_short a (conns_text conns ++ x) (omega (arith, ap length (conns_front a conns x), small)) in
    (parts.0, are_short conns x parts.1)

-- the connections at the front are the first of any others that stand there
pub along : (a b : List (List ℕ)) (x y : List ℕ) → AreShort a → AreShort b → conns_text a ++ x ≡ conns_text b ++ y → length a ≤ length b → (more : List (List ℕ)) × (b ≡ a ++ more) × (x ≡ conns_text more ++ y)
along [] b x y small fits same fewer = (b, refl, same)
along (c ∷ a) [] x y small fits same fewer = absurd (omega arith)
along (c ∷ a) (d ∷ b) x y small fits same fewer =
    let first = conn_unique c d (conns_text a ++ x) (conns_text b ++ y) small.0 fits.0 (sym (conns_front c a x) ∙ same ∙ conns_front d b y) in
    let others = along a b x y small.1 fits.1 first.1 (omega arith) in
    (others.0, cc (first.0, others.1), others.2)

pub text_of_none : (more : List (List ℕ)) (x : List ℕ) → [] ≡ conns_text more ++ x → [] ≡ x
text_of_none [] x same = same
text_of_none (c ∷ more) x same = absurd (starts (same ∙ conns_front c more x))
  where
    starts : [] ≡ conn_text c ++ (conns_text more ++ x) → ⊥
    starts h = cc

-- where no connection stands behind them, no others have more
pub no_more : (a b : List (List ℕ)) (x y : List ℕ) → AreShort a → AreShort b → conns_text a ++ x ≡ conns_text b ++ y → HasNoConn x → length b ≤ length a
no_more a b x y small fits same none =
    elim (cases_lt (length a) (length b)) [ inl fewer ↦ absurd (one_more (along a b x y small fits same (omega arith)) fewer) | inr least ↦ least ]
  where
    stands : (more : List (List ℕ)) → x ≡ conns_text more ++ y → 0 < length more → ⊥
    stands [] text some = omega arith
    stands (c ∷ more) text some = none c (conns_text more ++ y) (text ∙ conns_front c more y)

    one_more : ((more : List (List ℕ)) × (b ≡ a ++ more) × (x ≡ conns_text more ++ y)) → length a < length b → ⊥
    one_more found fewer = stands found.0 found.2 (omega (arith, ap length found.1, length-append a found.0))

-- ---- what is no recording

same_conns : (bytes : List ℕ) (a b : List (List ℕ)) (x y : List ℕ) → bytes ≡ record_text a ++ x → bytes ≡ record_text b ++ y → conns_text a ++ x ≡ conns_text b ++ y
same_conns bytes a b x y one other =
    append_cancel_left (codes "kjrec 1\n") _ _ (sym (append_assoc (codes "kjrec 1\n") (conns_text a) x) ∙ sym one ∙ other ∙ append_assoc (codes "kjrec 1\n") (conns_text b) y)

shorter : (bytes : List ℕ) (a : List (List ℕ)) (x : List ℕ) → length bytes < 2 ^ 64 → bytes ≡ record_text a ++ x → AreShort a
shorter bytes a x small text =
    are_short a x (omega (arith, small, ap length (text ∙ append_assoc (codes "kjrec 1\n") (conns_text a) x)))

pub most_conns : (bytes : List ℕ) (a : List (List ℕ)) (x : List ℕ) → length bytes < 2 ^ 64 → bytes ≡ record_text a ++ x → HasNoConn x → (b : List (List ℕ)) → BeginsWith bytes b → length b ≤ length a
most_conns bytes a x small text none b begins =
    no_more a b x begins.rest (shorter bytes a x small text) (shorter bytes b begins.rest small begins.text) (same_conns bytes a b x begins.rest text begins.text) none

-- a recording that has no more connections is the whole text
pub no_recording : (bytes : List ℕ) (a : List (List ℕ)) (x : List ℕ) → length bytes < 2 ^ 64 → bytes ≡ record_text a ++ x → x ≢ [] → ((b : List (List ℕ)) → BeginsWith bytes b → length b ≤ length a) → IsNoRecording bytes
no_recording bytes a x small text some most b is =
    let whole : bytes ≡ record_text b ++ [] = is.text ∙ sym (append-nil (record_text b)) in
    let found = along b a [] x (shorter bytes b [] small whole) (shorter bytes a x small text) (same_conns bytes b a [] x whole text) (most b (record { few = is.few; rest = []; text = whole })) in
    some (sym (text_of_none found.0 x found.2))

-- ---- one reading

pub short_all : (conns : List (List ℕ)) → All (λ (conn : List ℕ). length conn < 2 ^ 64) conns → AreShort conns
short_all [] all = tt
short_all (a ∷ conns) all = (all 0 [] (omega arith), short_all conns (λ k d below. all (suc k) d (omega arith)))

pub one_text : (a b : List (List ℕ)) → AreShort a → AreShort b → record_text a ≡ record_text b → a ≡ b
one_text a b small fits same =
    let conns : conns_text a ≡ conns_text b = append_cancel_left (codes "kjrec 1\n") _ _ same in
    by_length (cases_lt (length b) (length a)) conns
  where
    equal : (a b : List (List ℕ)) → AreShort a → AreShort b → conns_text a ≡ conns_text b → length a ≤ length b → b ≡ a
    equal a b small fits conns fewer =
        let found = along a b [] [] small fits (append-nil (conns_text a) ∙ conns ∙ sym (append-nil (conns_text b))) fewer in
        found.1 ∙ ap (λ (m : List (List ℕ)). a ++ m) (none found.0 (found.2 ∙ append-nil (conns_text found.0))) ∙ append-nil a
      where
        none : (m : List (List ℕ)) → [] ≡ conns_text m → m ≡ []
        none [] h = refl
        none (c ∷ m) h = cc

    by_length : (length b < length a) ⊎ (length a ≤ length b) → conns_text a ≡ conns_text b → a ≡ b
    by_length (inl less) conns = equal b a fits small (sym conns) (omega arith)
    by_length (inr most) conns = sym (equal a b small fits conns most)

-- behind the number that was read stand the connection's octets and LF
pub octets_behind : (bytes numbered octets conn rest : List ℕ) (len : ℕ) → length bytes < 2 ^ 64 → len < 2 ^ 64 → numbered ≡ drop 5 bytes → numbered ≡ decimal len ++ 10 ∷ octets → bytes ≡ conn_text conn ++ rest → (len ≡ length conn) × (octets ≡ conn ++ 10 ∷ rest)
octets_behind bytes numbered octets conn rest len small fits stripped number text =
    let parts : bytes ≡ codes "conn " ++ (decimal (length conn) ++ 10 ∷ (conn ++ 10 ∷ rest)) = text ∙ conn_parts conn rest in
    let others : decimal len ++ 10 ∷ octets ≡ decimal (length conn) ++ 10 ∷ (conn ++ 10 ∷ rest) = sym number ∙ stripped ∙ ap (drop 5) parts in
    number_unique len (length conn) octets (conn ++ 10 ∷ rest) fits (conn_short conn rest (omega (arith, small, ap length text))).0 others

pub some_left : (xs : List ℕ) → false ≡ nat_eq (length xs) 0 → xs ≢ []
some_left [] h = absurd (cc (h))
some_left (x ∷ xs) h = λ same. cc (same)
