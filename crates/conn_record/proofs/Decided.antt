-- Whether octets are the text of a recording, and how many connections are whole.
use Rattle.std.proofs.Common.{◌≡◌, ◌⊎◌, ℕ, zero, suc, ◌<◌, ◌≤◌, ◌^◌, List, [], ◌∷◌, ◌++◌, length, take, refl, sym, ap, ◌∙◌, arith, inl, inr, append_assoc, append-nil, length-append}
use Rattle.std.specs.Prelude.{codes, decimal}
use Rattle.std.specs.List.{prefix_len}
use Rattle.std.specs.Char.{is_ascii_digit}
use Rattle.std.specs.Str.Parse.{digits_value}
use Rattle.std.proofs.lemmas.Bool.{cases_lt, cases_eq}
use Rattle.std.proofs.lemmas.List.{append_cancel_left}
use Rattle.std.proofs.lemmas.Fmt.{decimal_is_IsNumeral}
use Rattle.conn_record.specs.declared.read.TheConstants.{MAX_CONNS}
use Rattle.conn_record.specs.Records.{conn_text, conns_text, record_text, HasNoConn, IsRecording, IsNoRecording, BeginsWith, IsWholeUpTo}
use Rattle.conn_record.proofs.NumberLemmas.{number_run, number_unique}
use Rattle.conn_record.proofs.RecordLemmas.{conn_parts, conn_short, most_conns, no_recording}

-- the octets begin with these, or they don't
abbrev Fronted : List ℕ → List ℕ → Type 0
Fronted front bytes = ((rest : List ℕ) × (bytes ≡ front ++ rest)) ⊎ ((rest : List ℕ) → bytes ≡ front ++ rest → ⊥)

fronted : (front bytes : List ℕ) → Fronted front bytes
fronted [] bytes = inl (bytes, refl)
fronted (x ∷ front) [] = inr (λ rest e. cc (e))
fronted (x ∷ front) (y ∷ bytes) = by (cases_eq y x) (fronted front bytes)
  where
    by : (y ≡ x) ⊎ (y ≡ x → ⊥) → Fronted front bytes → Fronted (x ∷ front) (y ∷ bytes)
    by (inl first) (inl rest) = inl (rest.0, cc (first, rest.1))
    by (inl first) (inr none) = inr (λ rest e. none rest (cc (e)))
    by (inr other) rest = inr (λ rest e. other (cc (e)))

-- ---- a number with its LF

abbrev NumberAt : List ℕ → Type 0
NumberAt bytes = (n : ℕ) × (rest : List ℕ) × (n < 2 ^ 64) × (bytes ≡ decimal n ++ 10 ∷ rest)

abbrev NoNumber : List ℕ → Type 0
NoNumber bytes = (n : ℕ) (rest : List ℕ) → n < 2 ^ 64 → bytes ≡ decimal n ++ 10 ∷ rest → ⊥

number_there : (bytes : List ℕ) → NumberAt bytes ⊎ NoNumber bytes
number_there bytes = by (cases_lt value (2 ^ 64)) (fronted (decimal value ++ 10 ∷ []) bytes)
  where
    value : ℕ
    value = digits_value 10 (take (prefix_len is_ascii_digit bytes) bytes)

    is_value : (n : ℕ) (rest : List ℕ) → n < 2 ^ 64 → bytes ≡ decimal n ++ 10 ∷ rest → value ≡ n
    is_value n rest fits text =
        let run = number_run bytes n rest fits text in
        ap (λ (k : ℕ). digits_value 10 (take k bytes)) run.count ∙ ap (digits_value 10) run.digits ∙ (decimal_is_IsNumeral n fits).1

    by : (value < 2 ^ 64) ⊎ (2 ^ 64 ≤ value) → Fronted (decimal value ++ 10 ∷ []) bytes → NumberAt bytes ⊎ NoNumber bytes
    by (inl small) (inl front) = inl (value, front.0, small, front.1 ∙ append_assoc (decimal value) (10 ∷ []) front.0)
    by (inl small) (inr none) = inr (λ n rest fits text. none rest (text ∙ ap (λ (k : ℕ). decimal k ++ 10 ∷ rest) (sym (is_value n rest fits text)) ∙ sym (append_assoc (decimal value) (10 ∷ []) rest)))
    by (inr large) front = inr (λ n rest fits text. omega (arith, large, fits, is_value n rest fits text))

-- ---- a connection

abbrev ConnAt : List ℕ → Type 0
ConnAt bytes = (conn : List ℕ) × (rest : List ℕ) × (bytes ≡ conn_text conn ++ rest)

-- so many octets and LF
abbrev OctetsAt : ℕ → List ℕ → Type 0
OctetsAt n octets = ((conn : List ℕ) × (rest : List ℕ) × (length conn ≡ n) × (octets ≡ conn ++ 10 ∷ rest)) ⊎ ((conn rest : List ℕ) → length conn ≡ n → octets ≡ conn ++ 10 ∷ rest → ⊥)

octets_there : (n : ℕ) (octets : List ℕ) → OctetsAt n octets
octets_there zero [] = inr (λ conn rest long e. none conn rest e)
  where
    none : (conn rest : List ℕ) → [] ≡ conn ++ 10 ∷ rest → ⊥
    none [] rest e = cc (e)
    none (c ∷ conn) rest e = cc (e)
octets_there zero (x ∷ octets) = by (cases_eq x 10)
  where
    none : (x ≡ 10 → ⊥) → (conn rest : List ℕ) → length conn ≡ 0 → x ∷ octets ≡ conn ++ 10 ∷ rest → ⊥
    none other [] rest long e = other (cc (e))
    none other (c ∷ conn) rest long e = omega (arith, long)

    by : (x ≡ 10) ⊎ (x ≡ 10 → ⊥) → OctetsAt 0 (x ∷ octets)
    by (inl lf) = inl ([], octets, refl, cc (lf))
    by (inr other) = inr (none other)
octets_there (suc n) [] = inr none
  where
    none : (conn rest : List ℕ) → length conn ≡ suc n → [] ≡ conn ++ 10 ∷ rest → ⊥
    none [] rest long e = omega (arith, long)
    none (c ∷ conn) rest long e = cc (e)
octets_there (suc n) (x ∷ octets) = by (octets_there n octets)
  where
    none : ((conn rest : List ℕ) → length conn ≡ n → octets ≡ conn ++ 10 ∷ rest → ⊥) → (conn rest : List ℕ) → length conn ≡ suc n → x ∷ octets ≡ conn ++ 10 ∷ rest → ⊥
    none below [] rest long e = omega (arith, long)
    none below (c ∷ conn) rest long e = below conn rest (omega (arith, long)) (cc (e))

    by : OctetsAt n octets → OctetsAt (suc n) (x ∷ octets)
    by (inl found) = inl (x ∷ found.0, found.1, omega (arith, found.2), cc (found.3))
    by (inr below) = inr (none below)

conn_there : (bytes : List ℕ) → length bytes < 2 ^ 64 → ConnAt bytes ⊎ HasNoConn bytes
conn_there bytes small = by_word (fronted (codes "conn ") bytes)
  where
    -- what a connection at the front says
    parts : (conn rest : List ℕ) → bytes ≡ conn_text conn ++ rest → bytes ≡ codes "conn " ++ (decimal (length conn) ++ 10 ∷ (conn ++ 10 ∷ rest))
    parts conn rest text = text ∙ conn_parts conn rest

    fits : (conn rest : List ℕ) → bytes ≡ conn_text conn ++ rest → length conn < 2 ^ 64
    fits conn rest text = (conn_short conn rest (omega (arith, small, ap length text))).0

    behind_is : (behind conn rest : List ℕ) → bytes ≡ codes "conn " ++ behind → bytes ≡ conn_text conn ++ rest → behind ≡ decimal (length conn) ++ 10 ∷ (conn ++ 10 ∷ rest)
    behind_is behind conn rest word text = append_cancel_left (codes "conn ") _ _ (sym word ∙ parts conn rest text)

    by_octets : (behind : List ℕ) → bytes ≡ codes "conn " ++ behind → (n : ℕ) (octets : List ℕ) → n < 2 ^ 64 → behind ≡ decimal n ++ 10 ∷ octets → OctetsAt n octets → ConnAt bytes ⊎ HasNoConn bytes
    by_octets behind word n octets under number (inl found) =
        let conn = found.0 in
        let rest = found.1 in
        let text : bytes ≡ codes "conn " ++ (decimal (length conn) ++ 10 ∷ (conn ++ 10 ∷ rest)) = word ∙ ap (λ (b : List ℕ). codes "conn " ++ b) (number ∙ (λ i. decimal (sym found.2 i) ++ 10 ∷ found.3 i)) in
        inl (conn, rest, text ∙ sym (conn_parts conn rest))
    by_octets behind word n octets under number (inr none) = inr (λ conn rest text.
        let same = number_unique n (length conn) octets (conn ++ 10 ∷ rest) under (fits conn rest text) (sym number ∙ behind_is behind conn rest word text) in
        none conn rest (sym same.0) same.1)

    by_number : (behind : List ℕ) → bytes ≡ codes "conn " ++ behind → NumberAt behind ⊎ NoNumber behind → ConnAt bytes ⊎ HasNoConn bytes
    by_number behind word (inl found) = by_octets behind word found.0 found.1 found.2 found.3 (octets_there found.0 found.1)
    by_number behind word (inr none) = inr (λ conn rest text. none (length conn) (conn ++ 10 ∷ rest) (fits conn rest text) (behind_is behind conn rest word text))

    by_word : Fronted (codes "conn ") bytes → ConnAt bytes ⊎ HasNoConn bytes
    by_word (inl found) = by_number found.0 found.1 (number_there found.0)
    by_word (inr none) = inr (λ conn rest text. none _ (parts conn rest text))

-- ---- a recording

abbrev pub Decided : List ℕ → Type 0
Decided bytes = ((conns : List (List ℕ)) × IsRecording bytes conns) ⊎ (IsNoRecording bytes × ((whole : ℕ) × IsWholeUpTo bytes whole))

last_conn : (conns : List (List ℕ)) (conn : List ℕ) → conns_text (conns ++ conn ∷ []) ≡ conns_text conns ++ conn_text conn
last_conn [] conn = append-nil (conn_text conn)
last_conn (c ∷ conns) conn = ap (λ (t : List ℕ). conn_text c ++ t) (last_conn conns conn) ∙ sym (append_assoc (conn_text c) (conns_text conns) (conn_text conn))

-- one connection more at the end
one_more : (conns : List (List ℕ)) (conn rest : List ℕ) → record_text conns ++ (conn_text conn ++ rest) ≡ record_text (conns ++ conn ∷ []) ++ rest
one_more conns conn rest =
    let head = codes "kjrec 1\n" in
    let front = conns_text conns in
    append_assoc head front (conn_text conn ++ rest) ∙ ap (λ (t : List ℕ). head ++ t) (sym (append_assoc front (conn_text conn) rest))
    ∙ sym (append_assoc head (front ++ conn_text conn) rest) ∙ ap (λ (t : List ℕ). (head ++ t) ++ rest) (sym (last_conn conns conn))

-- these connections stand at the front, and this is left
abbrev Gathers : ℕ → List ℕ → Type 0
Gathers k bytes = (conns : List (List ℕ)) (left : List ℕ) → length left ≤ k → length conns ≤ MAX_CONNS → bytes ≡ record_text conns ++ left → Decided bytes

-- no more connections than these are whole
refused : (bytes : List ℕ) → length bytes < 2 ^ 64 → (conns : List (List ℕ)) (x : ℕ) (left : List ℕ) → length conns ≤ MAX_CONNS → bytes ≡ record_text conns ++ x ∷ left → ((b : List (List ℕ)) → BeginsWith bytes b → length b ≤ length conns) → Decided bytes
refused bytes small conns x left few text most = inr (
  no_recording bytes conns (x ∷ left) small text (λ e. cc (e)) most,
  (length conns, record { most = most; there = inr (conns, record { few = few; rest = x ∷ left; text = text }, refl) }),
)

-- one connection more, or none
gathered_on : (k : ℕ) (bytes : List ℕ) → length bytes < 2 ^ 64 → Gathers k bytes → (conns : List (List ℕ)) (x : ℕ) (left : List ℕ) → length left ≤ k → length conns ≤ MAX_CONNS → bytes ≡ record_text conns ++ x ∷ left → Decided bytes
gathered_on k bytes small gathers conns x left bound few text = by_count (cases_lt (length conns) MAX_CONNS)
  where
    by_conn : length conns < MAX_CONNS → ConnAt (x ∷ left) ⊎ HasNoConn (x ∷ left) → Decided bytes
    by_conn room (inl found) =
        let conn = found.0 in
        let rest = found.1 in
        let shorter : length rest ≤ k = omega (arith, bound, ap length found.2, length-append (conn_text conn) rest, ap length (conn_parts conn rest), length-append (decimal (length conn)) (10 ∷ (conn ++ 10 ∷ rest)), length-append conn (10 ∷ rest)) in
        gathers (conns ++ conn ∷ []) rest shorter (omega (arith, room, length-append conns (conn ∷ []))) (text ∙ ap (λ (l : List ℕ). record_text conns ++ l) found.2 ∙ one_more conns conn rest)
    by_conn room (inr none) = refused bytes small conns x left few text (most_conns bytes conns (x ∷ left) small text none)

    by_count : (length conns < MAX_CONNS) ⊎ (MAX_CONNS ≤ length conns) → Decided bytes
    by_count (inl room) = by_conn room (conn_there (x ∷ left) (omega (arith, small, ap length text, length-append (record_text conns) (x ∷ left))))
    by_count (inr full) = refused bytes small conns x left few text (λ b begins. omega (arith, begins.few, full))

gathered : (k : ℕ) (bytes : List ℕ) → length bytes < 2 ^ 64 → Gathers k bytes
gathered k bytes small conns [] bound few text = inl (conns, record { few = few; text = text ∙ append-nil (record_text conns) })
gathered zero bytes small conns (x ∷ left) bound few text = absurd (omega (arith, bound))
gathered (suc k) bytes small conns (x ∷ left) bound few text = gathered_on k bytes small (gathered k bytes small) conns x left (omega (arith, bound)) few text

pub recording_decided : (bytes : List ℕ) → length bytes < 2 ^ 64 → Decided bytes
recording_decided bytes small = by (fronted (codes "kjrec 1\n") bytes)
  where
    by : Fronted (codes "kjrec 1\n") bytes → Decided bytes
    by (inl found) = gathered (length found.0) bytes small [] found.0 (omega arith) (omega arith) (found.1 ∙ sym (append_assoc (codes "kjrec 1\n") [] found.0))
    by (inr none) = inr (
      λ conns is. none (conns_text conns) is.text,
      (0, record { most = λ conns begins. absurd (none _ (begins.text ∙ append_assoc (codes "kjrec 1\n") (conns_text conns) begins.rest)); there = inl refl }),
    )
