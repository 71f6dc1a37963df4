-- Where the first line of a head stops.
use Rattle.std.proofs.Common.{◌≡◌, ◌≢◌, ℕ, ◌+◌, ◌-◌, ◌<◌, ◌≤◌, ◌⊎◌, Bool, true, false, cond, not, ◌&&◌, List, [], ◌∷◌, ◌++◌, length, get_or, take, refl, ap, sym, subst, ◌∙◌, arith, inl, inr, append_assoc, length-append, codes}
use Rattle.std.specs.Prelude.{All, nat_lt, ◌==◌}
use Rattle.std.specs.List.{flat_map}
use Rattle.std.proofs.lemmas.List.{append-nil, get_or_append_left, take_at, take-append-le}
use Rattle.std.proofs.lemmas.List.Sums.{AllPass-from_list_all}
use Rattle.std.proofs.lemmas.List.Elements.{All-nil, All-cons, All-append, All-get_or, All-weaker}
use Rattle.std.proofs.lemmas.Bool.{eq-eqb, ne_eqb, cases_lt}
use Rattle.std.proofs.lemmas.Bool.Decides.{nat_tests}
use Rattle.httparse.specs.Grammar.{LineEnd, crlf, lf, print_end, print_blank, print_version, is_token_byte, is_uri_byte, IsField, print_field, print_section, RequestHead, IsRequestHead, print_request, MayBecomeRequest}
use Rattle.httparse.specs.Spans.{RequestExceeds}
use Rattle.http_heads.specs.declared.field.Head.{Head}
use Rattle.http_heads.specs.Ending.{line_end_start, is_plain, stops_line, IsFirstStop}
use Rattle.http_heads.specs.Heads.{head_of, StartsWithHead, NeverHasHead, StartsWell}
use Rattle.http_heads.proofs.EndingLemmas.{IsInside, start_at_cr, start_at_lf, above, read, start_line}

-- ---- at an index

-- what an octet does, where the test of the line behind it says t
octet_plain : (b : ℕ) (t : Bool) → is_plain b ≡ true → cond (b == 10) t (not (is_plain b)) ≡ false
octet_plain b t h = grind (arith, nat_tests)

plain_goes_on : (bytes : List ℕ) (k : ℕ) → is_plain (get_or bytes k 0) ≡ true → stops_line bytes k ≡ false
plain_goes_on bytes k h = octet_plain (get_or bytes k 0) _ h

lf_stops : (bytes : List ℕ) (k start : ℕ) → line_end_start bytes k ≡ start + 1 → get_or bytes k 0 ≡ 10 → get_or bytes start 0 ≢ 10 → stops_line bytes k ≡ true
lf_stops bytes k start starts here other =
    let one : start + 1 - 1 ≡ start = omega arith in
    rw starts (rw one (rw (eq-eqb (get_or bytes k 0) 10 here) (rw (ne_eqb (get_or bytes start 0) 10 other) (rw (above start) refl))))

first_lf_goes_on : (bytes : List ℕ) (k : ℕ) → line_end_start bytes k ≡ 0 → get_or bytes k 0 ≡ 10 → stops_line bytes k ≡ false
first_lf_goes_on bytes k starts here = rw starts (rw (eq-eqb (get_or bytes k 0) 10 here) refl)

empty_goes_on : (bytes : List ℕ) (k start : ℕ) → line_end_start bytes k ≡ start + 1 → get_or bytes k 0 ≡ 10 → get_or bytes start 0 ≡ 10 → stops_line bytes k ≡ false
empty_goes_on bytes k start starts here there =
    let one : start + 1 - 1 ≡ start = omega arith in
    rw starts (rw one (rw (eq-eqb (get_or bytes k 0) 10 here) (rw (eq-eqb (get_or bytes start 0) 10 there) (rw (above start) refl))))

-- ---- octets behind it change nothing

abbrev start_body : ℕ → ℕ → ℕ
start_body k before = cond (nat_lt 0 k && (before == 13)) (k - 1) k

start_within : (k before : ℕ) → start_body k before ≤ k
start_within k before = by_test (nat_lt 0 k && (before == 13))
  where
    by_test : (t : Bool) → cond t (k - 1) k ≤ k
    by_test true = omega arith
    by_test false = omega arith

abbrev stop_body : ℕ → ℕ → ℕ → Bool
stop_body b start before = cond (b == 10) (nat_lt 0 start && not (before == 10)) (not (is_plain b))

pub stop_append : (bytes more : List ℕ) (k : ℕ) → k < length bytes → stops_line (bytes ++ more) k ≡ stops_line bytes k
stop_append bytes more k inside =
    let all = bytes ++ more in
    let start = start_body k (get_or bytes (k - 1) 0) in
    let here : get_or all k 0 ≡ get_or bytes k 0 = get_or_append_left bytes more 0 k inside in
    let behind : start_body k (get_or all (k - 1) 0) ≡ start = ap (start_body k) (get_or_append_left bytes more 0 (k - 1) (omega arith)) in
    let last : get_or all (start - 1) 0 ≡ get_or bytes (start - 1) 0 = get_or_append_left bytes more 0 (start - 1) (omega (arith, start_within k (get_or bytes (k - 1) 0))) in
    let before : get_or all (start_body k (get_or all (k - 1) 0) - 1) 0 ≡ get_or bytes (start - 1) 0 = ap (λ (s : ℕ). get_or all (s - 1) 0) behind ∙ last in
    λ i. stop_body (here i) (behind i) (before i)

pub first_append : (bytes more : List ℕ) (k : ℕ) → IsFirstStop bytes k → IsFirstStop (bytes ++ more) k
first_append bytes more k at = record {
  inside = omega (arith, at.inside, length-append bytes more);
  stops = stop_append bytes more k at.inside ∙ at.stops;
  first = λ j below. stop_append bytes more j (omega (arith, at.inside)) ∙ at.first j below;
}

pub first_before : (bytes more : List ℕ) (k : ℕ) → k < length bytes → IsFirstStop (bytes ++ more) k → IsFirstStop bytes k
first_before bytes more k inside at = record {
  inside = inside;
  stops = sym (stop_append bytes more k inside) ∙ at.stops;
  first = λ j below. sym (stop_append bytes more j (omega arith)) ∙ at.first j below;
}

pub first_only : (bytes : List ℕ) (j k : ℕ) → IsFirstStop bytes j → IsFirstStop bytes k → j ≡ k
first_only bytes j k a b = elim (cases_lt j k) [
  | inl below ↦ let wrong : true ≡ false = sym a.stops ∙ b.first j below in cc
  | inr above ↦ elim (cases_lt k j) [
    | inl below ↦ let wrong : true ≡ false = sym b.stops ∙ a.first k below in cc
    | inr same ↦ omega arith
  ]
]

-- ---- empty lines, and plain octets

-- nothing, or text that ends with LF
abbrev AtLineStart : List ℕ → Type 0
AtLineStart xs = (xs ≡ []) ⊎ ((q : List ℕ) × (xs ≡ q ++ 10 ∷ []))

-- an LF behind such a text ends an empty line
lf_at_start : (bytes before rest : List ℕ) (k start : ℕ) → AtLineStart before → bytes ≡ before ++ rest → start ≡ length before → line_end_start bytes k ≡ start → get_or bytes k 0 ≡ 10 → stops_line bytes k ≡ false
lf_at_start bytes before rest k start at text place starts here = elim at [
  | inl none ↦ first_lf_goes_on bytes k (starts ∙ place ∙ ap length none) here
  | inr some ↦ empty_goes_on bytes k (length some.0) (starts ∙ place ∙ ap length some.1 ∙ length-append some.0 (10 ∷ [])) here
      (read bytes some.0 (10 ∷ rest) 0 (length some.0) (text ∙ ap (λ (b : List ℕ). b ++ rest) some.1 ∙ append_assoc some.0 (10 ∷ []) rest) (omega arith))
]

-- a lone LF behind such a text has no CR before it
lf_alone : (bytes before rest : List ℕ) (k : ℕ) → AtLineStart before → bytes ≡ before ++ rest → k ≡ length before → line_end_start bytes k ≡ k
lf_alone bytes before rest k at text place = elim at [
  | inl none ↦ let zero_is : k ≡ 0 = place ∙ ap length none in ap (line_end_start bytes) zero_is ∙ sym zero_is
  | inr some ↦
      let next : k ≡ length some.0 + 1 = place ∙ ap length some.1 ∙ length-append some.0 (10 ∷ []) in
      let there : get_or bytes (length some.0) 0 ≡ 10 = read bytes some.0 (10 ∷ rest) 0 (length some.0) (text ∙ ap (λ (b : List ℕ). b ++ rest) some.1 ∙ append_assoc some.0 (10 ∷ []) rest) (omega arith) in
      ap (line_end_start bytes) next ∙ start_at_lf bytes (length some.0) (λ cr. let wrong : 10 ≡ 13 = sym there ∙ cr in cc) ∙ sym next
]

blank_goes_on : (ends : List LineEnd) (before rest bytes : List ℕ) (k : ℕ) → AtLineStart before → bytes ≡ before ++ (print_blank ends ++ rest) → length before ≤ k → k < length before + length (print_blank ends) → stops_line bytes k ≡ false
blank_goes_on [] before rest bytes k at text low high = absurd (omega arith)
blank_goes_on (crlf ∷ ends) before rest bytes k at text low high = elim (cases_lt (length before) k) [
  | inl behind ↦ elim (cases_lt (length before + 1) k) [
    | inl later ↦ blank_goes_on ends (before ++ 13 ∷ 10 ∷ []) rest bytes k (inr (before ++ 13 ∷ [], sym (append_assoc before (13 ∷ []) (10 ∷ []))))
        (text ∙ sym (append_assoc before (13 ∷ 10 ∷ []) (print_blank ends ++ rest))) (omega (arith, length-append before (13 ∷ 10 ∷ []))) (omega (arith, length-append before (13 ∷ 10 ∷ [])))
    | inr second ↦
        let place : k ≡ length before + 1 = omega arith in
        let cr : get_or bytes (length before) 0 ≡ 13 = read bytes before (13 ∷ 10 ∷ (print_blank ends ++ rest)) 0 (length before) text (omega arith) in
        lf_at_start bytes before (13 ∷ 10 ∷ (print_blank ends ++ rest)) k (length before) at text refl (ap (line_end_start bytes) place ∙ start_at_cr bytes (length before) cr)
        (read bytes before (13 ∷ 10 ∷ (print_blank ends ++ rest)) 1 k text place)
  ]
  | inr first ↦ plain_goes_on bytes k (ap is_plain (read bytes before (13 ∷ 10 ∷ (print_blank ends ++ rest)) 0 k text (omega arith)))
]
blank_goes_on (lf ∷ ends) before rest bytes k at text low high = elim (cases_lt (length before) k) [
  | inl later ↦ blank_goes_on ends (before ++ 10 ∷ []) rest bytes k (inr (before, refl))
      (text ∙ sym (append_assoc before (10 ∷ []) (print_blank ends ++ rest))) (omega (arith, length-append before (10 ∷ []))) (omega (arith, length-append before (10 ∷ [])))
  | inr first ↦
      let place : k ≡ length before = omega arith in
      lf_at_start bytes before (10 ∷ (print_blank ends ++ rest)) k k at text place (lf_alone bytes before (10 ∷ (print_blank ends ++ rest)) k at text place)
      (read bytes before (10 ∷ (print_blank ends ++ rest)) 0 k text (omega arith))
]

-- no stop lies in empty lines and plain octets behind them
plain_line : (ends : List LineEnd) (line rest bytes : List ℕ) (k : ℕ) → bytes ≡ print_blank ends ++ (line ++ rest) → All (λ b. is_plain b ≡ true) line → k < length (print_blank ends) + length line → stops_line bytes k ≡ false
plain_line ends line rest bytes k text plain inside = elim (cases_lt k (length (print_blank ends))) [
  | inl within ↦ blank_goes_on ends [] (line ++ rest) bytes k (inl refl) text (omega arith) (omega arith)
  | inr behind ↦
      let i = k - length (print_blank ends) in
      let here : i < length line = omega arith in
      let octet : get_or bytes k 0 ≡ get_or line i 0 = read bytes (print_blank ends) (line ++ rest) i k text (omega arith) ∙ get_or_append_left line rest 0 i here in
      plain_goes_on bytes k (ap is_plain octet ∙ All-get_or (λ b. is_plain b ≡ true) line i 0 here plain)
]

-- ---- start lines

token_plain : (b : ℕ) → is_token_byte b ≡ true → is_plain b ≡ true
unfolding is_token_byte
token_plain b token = grind (arith, nat_tests)

uri_plain : (b : ℕ) → is_uri_byte b ≡ true → is_plain b ≡ true
uri_plain b uri = grind (arith, nat_tests)

method_and_target : (method target : List ℕ) → All (λ b. is_token_byte b ≡ true) method → All (λ b. is_uri_byte b ≡ true) target → All (λ b. is_plain b ≡ true) (method ++ 32 ∷ target)
method_and_target method target token uri =
    All-append (λ b. is_plain b ≡ true) method (32 ∷ target) (All-weaker (λ b. is_token_byte b ≡ true) (λ b. is_plain b ≡ true) token_plain method token)
    (All-cons (λ b. is_plain b ≡ true) 32 target refl (All-weaker (λ b. is_uri_byte b ≡ true) (λ b. is_plain b ≡ true) uri_plain target uri))

-- the CR of a line end, if it has one
abbrev cr_of : LineEnd → List ℕ
cr_of crlf = 13 ∷ []
cr_of lf = []

cr_plain : (e : LineEnd) → All (λ b. is_plain b ≡ true) (cr_of e)
cr_plain crlf = All-cons (λ b. is_plain b ≡ true) 13 [] refl (All-nil _)
cr_plain lf = All-nil _

-- a start line without its LF
abbrev line_of : RequestHead → List ℕ
line_of tree = ((tree.method ++ 32 ∷ tree.target) ++ 32 ∷ print_version tree.minor) ++ cr_of tree.line_end

-- where its LF stands
abbrev pub stop_of : RequestHead → ℕ
stop_of tree = length (print_blank tree.blank) + length (line_of tree)

digit_plain : (minor : ℕ) → is_plain (48 + minor) ≡ true
digit_plain minor = grind (arith, nat_tests)

version_plain : (minor : ℕ) → All (λ b. is_plain b ≡ true) (32 ∷ print_version minor)
version_plain minor = All-append (λ b. is_plain b ≡ true) (32 ∷ codes "HTTP/1.") ((48 + minor) ∷ []) letters (All-cons (λ b. is_plain b ≡ true) (48 + minor) [] (digit_plain minor) (All-nil _))
  where
    letters : All (λ b. is_plain b ≡ true) (32 ∷ codes "HTTP/1.")
    letters = AllPass-from_list_all is_plain (32 ∷ codes "HTTP/1.") refl

line_plain : (tree : RequestHead) → IsRequestHead tree → All (λ b. is_plain b ≡ true) (line_of tree)
line_plain tree valid =
    All-append (λ b. is_plain b ≡ true) ((tree.method ++ 32 ∷ tree.target) ++ 32 ∷ print_version tree.minor) (cr_of tree.line_end)
    (All-append (λ b. is_plain b ≡ true) (tree.method ++ 32 ∷ tree.target) (32 ∷ print_version tree.minor) (method_and_target tree.method tree.target valid.method.1 valid.target.1) (version_plain tree.minor)) (cr_plain tree.line_end)

end_parts : (e : LineEnd) → print_end e ≡ cr_of e ++ 10 ∷ []
end_parts crlf = refl
end_parts lf = refl

four : (a b c d : List ℕ) → ((a ++ b) ++ c) ++ d ≡ a ++ ((b ++ c) ++ d)
four a b c d = simp append_assoc

regroup : (a line cr e s rest : List ℕ) → (((a ++ line) ++ (cr ++ e)) ++ s) ++ rest ≡ a ++ ((line ++ cr) ++ (e ++ (s ++ rest)))
regroup a line cr e s rest = simp append_assoc

-- a head by its first line
by_line : (tree : RequestHead) (rest : List ℕ) → print_request tree ++ rest ≡ print_blank tree.blank ++ (line_of tree ++ 10 ∷ (print_section tree.fields tree.last ++ rest))
unfolding print_request
by_line tree rest =
    let blank = print_blank tree.blank in
    let line = (tree.method ++ 32 ∷ tree.target) ++ 32 ∷ print_version tree.minor in
    let section = print_section tree.fields tree.last in
    (λ i. (((four blank tree.method (32 ∷ tree.target) (32 ∷ print_version tree.minor) i) ++ end_parts tree.line_end i) ++ section) ++ rest)
    ∙ regroup blank line (cr_of tree.line_end) (10 ∷ []) section rest

-- the LF behind a line and its end stops it
line_stops : (bytes front : List ℕ) (b : ℕ) (e : LineEnd) (rest : List ℕ) (k : ℕ) → IsInside b → bytes ≡ front ++ b ∷ (print_end e ++ rest) → k ≡ length front + length (print_end e) → stops_line bytes k ≡ true
line_stops bytes front b crlf rest k inside text place =
    let n = length front in
    let next : k ≡ n + 1 + 1 = omega arith in
    lf_stops bytes k n (ap (line_end_start bytes) next ∙ start_at_cr bytes (n + 1) (read bytes front (b ∷ 13 ∷ 10 ∷ rest) 1 (n + 1) text refl)) (read bytes front (b ∷ 13 ∷ 10 ∷ rest) 2 k text (omega arith))
    (λ h. inside.0 (sym (read bytes front (b ∷ 13 ∷ 10 ∷ rest) 0 n text (omega arith)) ∙ h))
line_stops bytes front b lf rest k inside text place =
    let n = length front in
    let next : k ≡ n + 1 = omega arith in
    lf_stops bytes k n (ap (line_end_start bytes) next ∙ start_at_lf bytes n (λ h. inside.1 (sym (read bytes front (b ∷ 10 ∷ rest) 0 n text (omega arith)) ∙ h))) (read bytes front (b ∷ 10 ∷ rest) 1 k text (omega arith))
    (λ h. inside.0 (sym (read bytes front (b ∷ 10 ∷ rest) 0 n text (omega arith)) ∙ h))

-- the first line of a head stops at its LF
pub request_stop : (bytes : List ℕ) (tree : RequestHead) (rest : List ℕ) → IsRequestHead tree → bytes ≡ print_request tree ++ rest → IsFirstStop bytes (stop_of tree)
unfolding print_request
request_stop bytes tree rest valid text =
    let before = (print_blank tree.blank ++ tree.method) ++ 32 ∷ tree.target in
    let behind = print_section tree.fields tree.last ++ rest in
    let all : bytes ≡ print_blank tree.blank ++ (line_of tree ++ 10 ∷ behind) = text ∙ by_line tree rest in
    let ends = start_line before tree.minor tree.line_end valid.minor in
    let at_end : bytes ≡ ends.front ++ ends.octet ∷ (print_end ends.end ++ behind) =
    text ∙ append_assoc ((before ++ 32 ∷ print_version tree.minor) ++ print_end tree.line_end) (print_section tree.fields tree.last) rest
    ∙ ap (λ (t : List ℕ). t ++ behind) ends.text_is ∙ append_assoc ends.front (ends.octet ∷ print_end ends.end) behind in
    let size : length ends.front + 1 + length (print_end ends.end) ≡ stop_of tree + 1 =
    omega (arith, ap length ends.text_is, length-append ends.front (ends.octet ∷ print_end ends.end), ap length at_end, ap length all, length-append (print_blank tree.blank) (line_of tree ++ 10 ∷ behind), length-append (line_of tree) (10 ∷ behind), length-append ends.front (ends.octet ∷ (print_end ends.end ++ behind)), length-append (print_end ends.end) behind) in
    record {
      inside = omega (arith, ap length all, length-append (print_blank tree.blank) (line_of tree ++ 10 ∷ behind), length-append (line_of tree) (10 ∷ behind));
      stops = line_stops bytes ends.front ends.octet ends.end behind (stop_of tree) ends.inside at_end (omega arith);
      first = λ j below. plain_line tree.blank (line_of tree) (10 ∷ behind) bytes j all (line_plain tree valid) below;
    }

-- ---- the first line alone, with an empty line, is a head

some_end : (e : LineEnd) → 0 < length (print_end e)
some_end crlf = omega arith
some_end lf = omega arith

abbrev alone : RequestHead → RequestHead
alone tree = record { blank = tree.blank; method = tree.method; target = tree.target; minor = tree.minor; line_end = tree.line_end; fields = []; last = lf }

short_head : (bytes more : List ℕ) (tree : RequestHead) → IsRequestHead tree → bytes ++ more ≡ print_request tree ++ [] → stop_of tree < length bytes → length bytes < 65536 → NeverHasHead (take (stop_of tree + 1) bytes) → ⊥
short_head bytes more tree valid text inside short never =
    let blank = print_blank tree.blank in
    let line = line_of tree in
    let behind = print_section tree.fields tree.last ++ [] in
    let front = blank ++ (line ++ 10 ∷ []) in
    let cut : blank ++ (line ++ 10 ∷ behind) ≡ front ++ behind = simp append_assoc in
    let size : length front ≡ stop_of tree + 1 = omega (arith, length-append blank (line ++ 10 ∷ []), length-append line (10 ∷ [])) in
    let first : take (stop_of tree + 1) bytes ≡ front =
    sym (take-append-le (stop_of tree + 1) bytes more (omega arith)) ∙ ap (take (stop_of tree + 1)) (text ∙ by_line tree [] ∙ cut) ∙ take_at front behind (stop_of tree + 1) size in
    let ended : front ++ 10 ∷ [] ≡ blank ++ (line ++ 10 ∷ 10 ∷ []) = simp append_assoc in
    let whole : take (stop_of tree + 1) bytes ++ 10 ∷ [] ≡ print_request (alone tree) ++ [] = ap (λ (b : List ℕ). b ++ 10 ∷ []) first ∙ ended ∙ sym (by_line (alone tree) []) in
    let len : length (print_request (alone tree)) ≡ stop_of tree + 2 =
    omega (arith, ap length (by_line (alone tree) []), length-append (print_request (alone tree)) [], length-append blank (line ++ 10 ∷ 10 ∷ []), length-append line (10 ∷ 10 ∷ [])) in
    let valid_alone : IsRequestHead (alone tree) = record { method = valid.method; target = valid.target; target_text = valid.target_text; minor = valid.minor; fields = All-nil IsField } in
    never (10 ∷ []) (head_of (alone tree)) (length (print_request (alone tree)))
    (print_request (alone tree), [], whole, refl, (alone tree, record { valid = valid_alone; text = refl; few = omega arith; short = omega (arith, len); parts = refl }))

pub starts_from_open : (bytes : List ℕ) → length bytes < 65536 → MayBecomeRequest bytes → StartsWell bytes
starts_from_open bytes short (inl may) k at never =
    let more = may.0 in
    let tree = may.1 in
    let stop = request_stop (bytes ++ more) tree [] may.2.0 may.2.1 in
    let place : k ≡ stop_of tree = first_only (bytes ++ more) k (stop_of tree) (first_append bytes more k at) stop in
    short_head bytes more tree may.2.0 may.2.1 (subst (λ (i : ℕ). i < length bytes) place at.inside) short (subst (λ (i : ℕ). NeverHasHead (take (i + 1) bytes)) place never)
starts_from_open bytes short (inr target) k at never =
    let blank = print_blank target.0 in
    let line = target.1 ++ 32 ∷ target.2 in
    let text : bytes ≡ blank ++ (line ++ []) = target.5 ∙ append_assoc blank target.1 (32 ∷ target.2) ∙ ap (λ (l : List ℕ). blank ++ l) (sym (append-nil line)) in
    let inside : k < length blank + length line = omega (arith, at.inside, ap length text, length-append blank (line ++ []), length-append line []) in
    let wrong : true ≡ false = sym at.stops ∙ plain_line target.0 line [] bytes k text (method_and_target target.1 target.2 target.3.1 target.4) inside in
    cc

pub starts_from_crowded : (bytes : List ℕ) → length bytes < 65536 → RequestExceeds 100 bytes → StartsWell bytes
starts_from_crowded bytes short found k at never =
    let front = found.0 in
    let tree = found.3 in
    let stop = request_stop (front ++ 10 ∷ []) tree [] found.4.0 found.4.1 in
    let section = print_section tree.fields tree.last ++ [] in
    let size : stop_of tree < length front =
    omega (arith, ap length (found.4.1 ∙ by_line tree []), length-append front (10 ∷ []), length-append (print_blank tree.blank) (line_of tree ++ 10 ∷ section), length-append (line_of tree) (10 ∷ section), length-append (print_section tree.fields tree.last) [], length-append (flat_map print_field tree.fields) (print_end tree.last), some_end tree.last) in
    let here : IsFirstStop bytes (stop_of tree) = subst (λ (b : List ℕ). IsFirstStop b (stop_of tree)) (sym found.2) (first_append front found.1 (stop_of tree) (first_before front (10 ∷ []) (stop_of tree) size stop)) in
    let place : k ≡ stop_of tree = first_only bytes k (stop_of tree) at here in
    let same : take (k + 1) bytes ≡ take (stop_of tree + 1) front = (λ i. take (place i + 1) (found.2 i)) ∙ take-append-le (stop_of tree + 1) front found.1 (omega arith) in
    short_head front (10 ∷ []) tree found.4.0 found.4.1 size (omega (arith, ap length found.2, length-append front found.1)) (subst NeverHasHead same never)

-- a head has a stop
pub head_stop : (bytes : List ℕ) (head : Head) (len : ℕ) → StartsWithHead bytes head len → (k : ℕ) × (k < len) × (stops_line bytes k ≡ true)
head_stop bytes head len has =
    let tree = has.4.0 in
    let text : bytes ≡ print_request tree ++ has.1 = has.2 ∙ ap (λ (b : List ℕ). b ++ has.1) has.4.1.text in
    let stop = request_stop bytes tree has.1 has.4.1.valid text in
    let section = print_section tree.fields tree.last in
    let size : stop_of tree < len = omega (arith, has.3, ap length has.4.1.text, ap length (by_line tree []), length-append (print_request tree) [], length-append (print_blank tree.blank) (line_of tree ++ 10 ∷ (section ++ [])), length-append (line_of tree) (10 ∷ (section ++ []))) in
    (stop_of tree, size, stop.stops)
