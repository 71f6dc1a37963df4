-- A head and a section end with an empty line.
use Rattle.std.proofs.Common.{◌≡◌, ◌≢◌, ℕ, suc, ◌+◌, ◌-◌, ◌<◌, ◌≤◌, ◌⊎◌, Bool, true, false, cond, ◌&&◌, ◌||◌, List, [], ◌∷◌, ◌++◌, length, get_or, refl, ap, sym, subst, ◌∙◌, arith, inl, inr, append_assoc, length-append}
use Rattle.std.specs.Prelude.{IsTrue, All, codes, nat_lt, ◌==◌}
use Rattle.std.specs.List.{flat_map}
use Rattle.std.proofs.lemmas.List.{append-nil, get_or-append-add}
use Rattle.std.proofs.lemmas.Bool.{eq-eqb, ne_eqb, cases_lt}
use Rattle.std.proofs.lemmas.Bool.Decides.{nat_tests}
use Rattle.httparse.specs.Grammar.{LineEnd, crlf, lf, print_end, print_blank, print_version, Field as Line, IsField, print_field, print_section, is_value_byte, RequestHead, IsRequestHead, print_request}
use Rattle.http_heads.specs.declared.field.Field.{Field}
use Rattle.http_heads.specs.declared.field.Head.{Head}
use Rattle.http_heads.specs.Ending.{line_end_start, ends_empty_line, ends_lines}
use Rattle.http_heads.specs.Section.{StartsWithSection}
use Rattle.http_heads.specs.Heads.{StartsWithHead}

-- neither CR nor LF
abbrev pub IsInside : ℕ → Type 0
IsInside b = (b ≢ 10) × (b ≢ 13)

-- ---- tests at an index

pub start_at_cr : (bytes : List ℕ) (k : ℕ) → get_or bytes k 0 ≡ 13 → line_end_start bytes (k + 1) ≡ k
start_at_cr bytes k cr =
    let one : k + 1 - 1 ≡ k = omega arith in
    rw one (rw (eq-eqb (get_or bytes k 0) 13 cr) (by_test (nat_lt 0 (k + 1)) (grind (arith, nat_tests))))
  where
    by_test : (t : Bool) → t ≡ true → cond (t && true) k (k + 1) ≡ k
    by_test true h = refl
    by_test false h = cc

pub start_at_lf : (bytes : List ℕ) (k : ℕ) → get_or bytes k 0 ≢ 13 → line_end_start bytes (k + 1) ≡ k + 1
start_at_lf bytes k other =
    let one : k + 1 - 1 ≡ k = omega arith in
    rw one (rw (ne_eqb (get_or bytes k 0) 13 other) (by_test (nat_lt 0 (k + 1))))
  where
    by_test : (t : Bool) → cond (t && false) k (k + 1) ≡ k + 1
    by_test true = refl
    by_test false = refl

pub above : (k : ℕ) → nat_lt 0 (k + 1) ≡ true
above k = grind (arith, nat_tests)

lines_by : (bytes : List ℕ) (k start before : ℕ) → line_end_start bytes k ≡ start + 1 → get_or bytes k 0 ≡ 10 → get_or bytes start 0 ≡ 10 → line_end_start bytes start ≡ before + 1 → get_or bytes before 0 ≢ 10 → ends_lines bytes k ≡ true
lines_by bytes k start before starts here there begins other =
    let one : start + 1 - 1 ≡ start = omega arith in
    let two : before + 1 - 1 ≡ before = omega arith in
    rw starts (rw one (rw begins (rw two (rw (eq-eqb (get_or bytes k 0) 10 here) (rw (eq-eqb (get_or bytes start 0) 10 there) (rw (ne_eqb (get_or bytes before 0) 10 other) (rw (above start) (rw (above before) refl))))))))

empty_by : (bytes : List ℕ) (k start : ℕ) → line_end_start bytes k ≡ start + 1 → get_or bytes k 0 ≡ 10 → get_or bytes start 0 ≡ 10 → ends_empty_line bytes k ≡ true
empty_by bytes k start starts here there =
    let one : start + 1 - 1 ≡ start = omega arith in
    rw starts (rw one (rw (eq-eqb (get_or bytes k 0) 10 here) (rw (eq-eqb (get_or bytes start 0) 10 there) (last (start + 1 == 0)))))
  where
    last : (t : Bool) → (true && (t || true)) ≡ true
    last true = refl
    last false = refl

-- ---- behind a line that has octets

-- both tests hold at the LF that ends an empty line behind such a line
pub record EndsAt (bytes : List ℕ) (len : ℕ) : Type 0 where
  pub some : 0 < len
  pub lines : ends_lines bytes (len - 1) ≡ true
  pub empty : ends_empty_line bytes (len - 1) ≡ true

ends_by : (bytes : List ℕ) (len k start before : ℕ) → len ≡ k + 1 → line_end_start bytes k ≡ start + 1 → get_or bytes k 0 ≡ 10 → get_or bytes start 0 ≡ 10 → line_end_start bytes start ≡ before + 1 → get_or bytes before 0 ≢ 10 → EndsAt bytes len
ends_by bytes len k start before len_is starts here there begins other =
    let place : k ≡ len - 1 = omega arith in
    record {
      some = omega arith;
      lines = subst (λ (j : ℕ). ends_lines bytes j ≡ true) place (lines_by bytes k start before starts here there begins other);
      empty = subst (λ (j : ℕ). ends_empty_line bytes j ≡ true) place (empty_by bytes k start starts here there);
    }

pub read : (bytes front ys : List ℕ) (i j : ℕ) → bytes ≡ front ++ ys → j ≡ length front + i → get_or bytes j 0 ≡ get_or ys i 0
read bytes front ys i j text place = (λ t. get_or (text t) (place t) 0) ∙ get_or-append-add front ys i 0

ends_behind : (bytes front : List ℕ) (b : ℕ) (e last : LineEnd) (rest : List ℕ) (len : ℕ) → IsInside b → bytes ≡ front ++ b ∷ (print_end e ++ (print_end last ++ rest)) → len ≡ length front + 1 + length (print_end e) + length (print_end last) → EndsAt bytes len
ends_behind bytes front b crlf crlf rest len inside text len_is =
    let n = length front in
    let ys = b ∷ 13 ∷ 10 ∷ 13 ∷ 10 ∷ rest in
    ends_by bytes len (n + 3 + 1) (n + 1 + 1) n (omega arith)
    (start_at_cr bytes (n + 3) (read bytes front ys 3 (n + 3) text refl) ∙ omega arith)
    (read bytes front ys 4 (n + 3 + 1) text (omega arith))
    (read bytes front ys 2 (n + 1 + 1) text (omega arith))
    (start_at_cr bytes (n + 1) (read bytes front ys 1 (n + 1) text refl))
    (λ h. inside.0 (sym (read bytes front ys 0 n text (omega arith)) ∙ h))
ends_behind bytes front b crlf lf rest len inside text len_is =
    let n = length front in
    let ys = b ∷ 13 ∷ 10 ∷ 10 ∷ rest in
    ends_by bytes len (n + 2 + 1) (n + 1 + 1) n (omega arith)
    (start_at_lf bytes (n + 2) (λ h. let wrong : 10 ≡ 13 = sym (read bytes front ys 2 (n + 2) text refl) ∙ h in cc) ∙ omega arith)
    (read bytes front ys 3 (n + 2 + 1) text (omega arith))
    (read bytes front ys 2 (n + 1 + 1) text (omega arith))
    (start_at_cr bytes (n + 1) (read bytes front ys 1 (n + 1) text refl))
    (λ h. inside.0 (sym (read bytes front ys 0 n text (omega arith)) ∙ h))
ends_behind bytes front b lf crlf rest len inside text len_is =
    let n = length front in
    let ys = b ∷ 10 ∷ 13 ∷ 10 ∷ rest in
    ends_by bytes len (n + 2 + 1) (n + 1) n (omega arith)
    (start_at_cr bytes (n + 2) (read bytes front ys 2 (n + 2) text refl) ∙ omega arith)
    (read bytes front ys 3 (n + 2 + 1) text (omega arith))
    (read bytes front ys 1 (n + 1) text refl)
    (start_at_lf bytes n (λ h. inside.1 (sym (read bytes front ys 0 n text (omega arith)) ∙ h)))
    (λ h. inside.0 (sym (read bytes front ys 0 n text (omega arith)) ∙ h))
ends_behind bytes front b lf lf rest len inside text len_is =
    let n = length front in
    let ys = b ∷ 10 ∷ 10 ∷ rest in
    ends_by bytes len (n + 1 + 1) (n + 1) n (omega arith)
    (start_at_lf bytes (n + 1) (λ h. let wrong : 10 ≡ 13 = sym (read bytes front ys 1 (n + 1) text refl) ∙ h in cc) ∙ omega arith)
    (read bytes front ys 2 (n + 1 + 1) text (omega arith))
    (read bytes front ys 1 (n + 1) text refl)
    (start_at_lf bytes n (λ h. inside.1 (sym (read bytes front ys 0 n text (omega arith)) ∙ h)))
    (λ h. inside.0 (sym (read bytes front ys 0 n text (omega arith)) ∙ h))

-- ---- the last octet of a line

-- text that ends with an octet of a line and a line end
pub record EndsLine (text : List ℕ) : Type 0 where
  pub front : List ℕ
  pub octet : ℕ
  pub inside : IsInside octet
  pub end : LineEnd
  pub text_is : text ≡ front ++ octet ∷ print_end end

value_inside : (b : ℕ) → is_value_byte b ≡ true → IsInside b
value_inside b h = (λ e. no_lf (subst (λ (x : ℕ). is_value_byte x ≡ true) e h), λ e. no_cr (subst (λ (x : ℕ). is_value_byte x ≡ true) e h))
  where
    no_lf : is_value_byte 10 ≡ true → ⊥
    no_lf h = cc

    no_cr : is_value_byte 13 ≡ true → ⊥
    no_cr h = cc

-- a value behind an octet, with its line end
value_line : (first : ℕ) (raw : List ℕ) (end : LineEnd) → IsInside first → All (λ b. IsTrue (is_value_byte b)) raw → EndsLine (first ∷ (raw ++ print_end end))
value_line first [] end inside all = record { front = []; octet = first; inside = inside; end = end; text_is = refl }
value_line first (b ∷ raw) end inside all =
    let here : IsInside b = value_inside b (all 0 0 (omega arith)) in
    let later = value_line b raw end here (λ k d below. all (suc k) d (omega arith)) in
    record { front = first ∷ later.front; octet = later.octet; inside = later.inside; end = later.end; text_is = ap (λ (l : List ℕ). first ∷ l) later.text_is }

-- text before it changes nothing
behind_text : (before text : List ℕ) → EndsLine text → EndsLine (before ++ text)
behind_text before text ends = record {
  front = before ++ ends.front;
  octet = ends.octet;
  inside = ends.inside;
  end = ends.end;
  text_is = ap (λ (l : List ℕ). before ++ l) ends.text_is ∙ sym (append_assoc before ends.front (ends.octet ∷ print_end ends.end));
}

colon_inside : IsInside 58
colon_inside = (λ e. cc, λ e. cc)

field_line : (l : Line) → IsField l → EndsLine (print_field l)
field_line l is = subst EndsLine (sym (append_assoc l.name (58 ∷ l.raw) (print_end l.end))) (behind_text l.name (58 ∷ (l.raw ++ print_end l.end)) (value_line 58 l.raw l.end colon_inside is.raw))

lines_end : (lines : List Line) → All IsField lines → (lines ≡ []) ⊎ EndsLine (flat_map print_field lines)
lines_end [] all = inl refl
lines_end (l ∷ ls) all = inr (elim (lines_end ls (λ k d below. all (suc k) d (omega arith))) [
  | inl none ↦ alone none
  | inr more ↦ behind_text (print_field l) (flat_map print_field ls) more
])
  where
    here : EndsLine (print_field l)
    here = field_line l (all 0 l (omega arith))

    alone : ls ≡ [] → EndsLine (print_field l ++ flat_map print_field ls)
    alone none = subst (λ (x : List Line). EndsLine (print_field l ++ flat_map print_field x)) (sym none) (subst EndsLine (sym (append-nil (print_field l))) here)

-- ---- sections and heads

-- a line and an empty line, and what follows
ends_after : (bytes text : List ℕ) (last : LineEnd) (rest : List ℕ) (len : ℕ) → EndsLine text → bytes ≡ text ++ (print_end last ++ rest) → len ≡ length text + length (print_end last) → EndsAt bytes len
ends_after bytes text last rest len ends h len_is =
    ends_behind bytes ends.front ends.octet ends.end last rest len ends.inside
    (h ∙ ap (λ (t : List ℕ). t ++ (print_end last ++ rest)) ends.text_is ∙ append_assoc ends.front (ends.octet ∷ print_end ends.end) (print_end last ++ rest))
    (omega (arith, len_is, ap length ends.text_is, length-append ends.front (ends.octet ∷ print_end ends.end)))

-- the test for a section holds at its last octet
pub section_ends : (bytes : List ℕ) (fields : List Field) (len : ℕ) (rest : List ℕ) → StartsWithSection bytes fields len rest → (0 < len) × (ends_empty_line bytes (len - 1) ≡ true)
section_ends bytes fields len rest has = elim (lines_end has.lines has.reads.0) [
  | inl none ↦ alone has.last none
  | inr ends ↦ let at = ends_after bytes (flat_map print_field has.lines) has.last rest len ends (has.reads.1 ∙ append_assoc (flat_map print_field has.lines) (print_end has.last) rest) (has.len_is ∙ length-append (flat_map print_field has.lines) (print_end has.last)) in (at.some, at.empty)
]
  where
    empty_at : (e : LineEnd) (b : List ℕ) (n : ℕ) → b ≡ print_end e ++ rest → n ≡ length (print_end e) → (0 < n) × (ends_empty_line b (n - 1) ≡ true)
    empty_at crlf b n h n_is = (omega arith, (λ i. ends_empty_line (h i) (n_is i - 1)))
    empty_at lf b n h n_is = (omega arith, (λ i. ends_empty_line (h i) (n_is i - 1)))

    alone : (e : LineEnd) → has.lines ≡ [] → (0 < len) × (ends_empty_line bytes (len - 1) ≡ true)
    alone e none = empty_at has.last bytes len
        (has.reads.1 ∙ ap (λ (ls : List Line). print_section ls has.last ++ rest) none)
        (has.len_is ∙ ap (λ (ls : List Line). length (print_section ls has.last)) none)

-- the start line ends with the version's digit
pub start_line : (before : List ℕ) (minor : ℕ) (end : LineEnd) → minor ≤ 1 → EndsLine ((before ++ 32 ∷ print_version minor) ++ print_end end)
start_line before minor end small = record {
  front = before ++ 32 ∷ codes "HTTP/1.";
  octet = 48 + minor;
  inside = (λ e. omega arith, λ e. omega arith);
  end = end;
  text_is = append_assoc before (32 ∷ print_version minor) (print_end end) ∙ sym (append_assoc before (32 ∷ codes "HTTP/1.") ((48 + minor) ∷ print_end end));
}

head_text : (tree : RequestHead) → IsRequestHead tree → EndsLine ((((((print_blank tree.blank ++ tree.method) ++ 32 ∷ tree.target) ++ 32 ∷ print_version tree.minor) ++ print_end tree.line_end)) ++ flat_map print_field tree.fields)
head_text tree valid =
    let line = (((print_blank tree.blank ++ tree.method) ++ 32 ∷ tree.target) ++ 32 ∷ print_version tree.minor) ++ print_end tree.line_end in
    let first : EndsLine line = start_line ((print_blank tree.blank ++ tree.method) ++ 32 ∷ tree.target) tree.minor tree.line_end valid.minor in
    elim (lines_end tree.fields valid.fields) [
      | inl none ↦ subst (λ (ls : List Line). EndsLine (line ++ flat_map print_field ls)) (sym none) (subst EndsLine (sym (append-nil line)) first)
      | inr ends ↦ behind_text line (flat_map print_field tree.fields) ends
    ]

-- the test for a head holds at its last octet
pub head_ends : (bytes : List ℕ) (head : Head) (len : ℕ) → StartsWithHead bytes head len → (0 < len) × (ends_lines bytes (len - 1) ≡ true)
unfolding print_request
head_ends bytes head len has =
    let tree = has.4.0 in
    let line = (((print_blank tree.blank ++ tree.method) ++ 32 ∷ tree.target) ++ 32 ∷ print_version tree.minor) ++ print_end tree.line_end in
    let lines = flat_map print_field tree.fields in
    let text : has.0 ≡ (line ++ lines) ++ print_end tree.last = has.4.1.text ∙ sym (append_assoc line lines (print_end tree.last)) in
    let at = ends_after bytes (line ++ lines) tree.last has.1 len (head_text tree has.4.1.valid)
    (has.2 ∙ ap (λ (t : List ℕ). t ++ has.1) text ∙ append_assoc (line ++ lines) (print_end tree.last) has.1)
    (has.3 ∙ ap length text ∙ length-append (line ++ lines) (print_end tree.last)) in
    (at.some, at.lines)

-- ---- a walk over the octets

pub one_more : (test : ℕ → Bool) (from i : ℕ) → ((k : ℕ) → from ≤ k → k < i → test k ≡ false) → test i ≡ false → (k : ℕ) → from ≤ k → k < i + 1 → test k ≡ false
one_more test from i before here k low high = elim (cases_lt k i) [
  | inl below ↦ before k low below
  | inr not_below ↦ let same : i ≡ k = omega arith in subst (λ (j : ℕ). test j ≡ false) same here
]

-- what ends with an octet that passes the test does not end behind the octets that were tried
pub ends_before : (test : ℕ → Bool) (from size len : ℕ) → ((k : ℕ) → from ≤ k → k < size → test k ≡ false) → (0 < len) × (test (len - 1) ≡ true) → len ≤ size → len ≤ from
ends_before test from size len none ends inside = elim (cases_lt from len) [
  | inl beyond ↦ let no : test (len - 1) ≡ false = none (len - 1) (omega arith) (omega arith) in let wrong : false ≡ true = sym no ∙ ends.1 in cc
  | inr within ↦ within
]

pub section_inside : (bytes : List ℕ) (fields : List Field) (len : ℕ) (rest : List ℕ) → StartsWithSection bytes fields len rest → len ≤ length bytes
section_inside bytes fields len rest has = omega (arith, has.len_is, ap length has.reads.1, length-append (print_section has.lines has.last) rest)

pub head_inside : (bytes : List ℕ) (head : Head) (len : ℕ) → StartsWithHead bytes head len → len ≤ length bytes
head_inside bytes head len has = omega (arith, has.3, ap length has.2, length-append has.0 has.1)
