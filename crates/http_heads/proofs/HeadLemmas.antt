-- Heads at the front of a list.
use Rattle.std.proofs.Common.{◌≡◌, ℕ, ◌<◌, ◌≤◌, List, ◌++◌, length, take, drop, map, refl, ap, sym, ◌∙◌, arith, append_assoc, length-append}
use Rattle.std.proofs.lemmas.List.{length-take, take_all}
use Rattle.httparse.specs.Grammar.{RequestHead, print_request, ReadsRequest, HasNoRequest, NeverHasRequest}
use Rattle.httparse.specs.Spans.{RequestOverflows}
use Rattle.httparse.proofs.GrammarLemmas.{request_prefix_free}
use Rattle.http_heads.specs.declared.field.Field.{Field}
use Rattle.http_heads.specs.declared.field.Head.{Head}
use Rattle.http_heads.proofs.FrontLemmas.{front_inside, whole_of_front, followed}
use Rattle.http_heads.specs.Section.{field_of}
use Rattle.http_heads.specs.Heads.{head_of, StartsWithHead, HasNoHead, NeverHasHead, Parses}
use Rattle.http_heads.specs.declared.HeadFill.TheVariants.{Whole}

pub head_by_parts : (head : Head) (tree : RequestHead) → head.method ≡ tree.method → head.target ≡ tree.target → head.minor ≡ tree.minor → head.fields ≡ map field_of tree.fields → head ≡ head_of tree
head_by_parts head tree method target minor fields =
    let whole : (a b : List ℕ) (n : ℕ) (fs : List Field) → a ≡ tree.method → b ≡ tree.target → n ≡ tree.minor → fs ≡ map field_of tree.fields → (let h : Head = record { method = a; target = b; minor = n; fields = fs } in h) ≡ head_of tree
    = λ a b n fs p q r s. cc in
    whole head.method head.target head.minor head.fields method target minor fields

pub head_from_front : (bytes front : List ℕ) (head : Head) (len : ℕ) → front ≡ take 65536 bytes → Parses front head (Whole len) → StartsWithHead bytes head len
head_from_front bytes front head len h found =
    let text : bytes ≡ print_request found.0 ++ (found.1 ++ drop 65536 bytes) = whole_of_front bytes front h ∙ ap (λ (b : List ℕ). b ++ drop 65536 bytes) found.2.1 ∙ append_assoc (print_request found.0) found.1 (drop 65536 bytes) in
    let short : length (print_request found.0) ≤ 65536 = omega (arith, ap length h, length-take 65536 bytes, ap length found.2.1, length-append (print_request found.0) found.1) in
    (print_request found.0, found.1 ++ drop 65536 bytes, text, found.5, (found.0, record { valid = found.2.0; text = refl; few = found.3; short = short; parts = found.4 }))

pub none_from_front : (bytes front : List ℕ) → front ≡ take 65536 bytes → length bytes < 65536 → HasNoRequest front → HasNoHead bytes
none_from_front bytes front h short none = λ head len has.
    let all : front ≡ bytes = h ∙ take_all 65536 bytes (omega arith) in
    none has.4.0 has.1 (has.4.1.valid, all ∙ has.2 ∙ ap (λ (b : List ℕ). b ++ has.1) has.4.1.text)

pub never_from_full : (bytes front : List ℕ) → front ≡ take 65536 bytes → 65536 ≤ length bytes → HasNoRequest front → NeverHasHead bytes
never_from_full bytes front h long none = λ more head len has.
    let room : length has.0 ≤ length front = omega (arith, has.4.1.short, ap length h, length-take 65536 bytes) in
    let middle = front_inside front (drop 65536 bytes ++ more) has.0 has.1 (sym (followed bytes front more h) ∙ has.2) room in
    none has.4.0 middle.0 (has.4.1.valid, middle.1 ∙ ap (λ (b : List ℕ). b ++ middle.0) has.4.1.text)

pub never_from_crowded : (bytes front : List ℕ) → front ≡ take 65536 bytes → RequestOverflows 100 front → NeverHasHead bytes
never_from_crowded bytes front h found = λ more head len has.
    let many : 100 < length has.4.0.fields = found (drop 65536 bytes ++ more) has.4.0 has.1 (has.4.1.valid, sym (followed bytes front more h) ∙ has.2 ∙ ap (λ (b : List ℕ). b ++ has.1) has.4.1.text) in
    omega (arith, many, has.4.1.few)

pub never_from_bad : (bytes front : List ℕ) → front ≡ take 65536 bytes → NeverHasRequest front → NeverHasHead bytes
never_from_bad bytes front h found = λ more head len has.
    found (drop 65536 bytes ++ more) has.4.0 has.1 (has.4.1.valid, sym (followed bytes front more h) ∙ has.2 ∙ ap (λ (b : List ℕ). b ++ has.1) has.4.1.text)

pub head_unique : (bytes more : List ℕ) (a b : Head) (m n : ℕ) → StartsWithHead bytes a m → StartsWithHead (bytes ++ more) b n → (a ≡ b) × (m ≡ n)
head_unique bytes more a b m n x y =
    let first : ReadsRequest bytes x.4.0 x.1 = (x.4.1.valid, x.2 ∙ ap (λ (l : List ℕ). l ++ x.1) x.4.1.text) in
    let second : ReadsRequest (bytes ++ more) y.4.0 y.1 = (y.4.1.valid, y.2 ∙ ap (λ (l : List ℕ). l ++ y.1) y.4.1.text) in
    let same = request_prefix_free bytes more x.4.0 y.4.0 x.1 y.1 first second in (
      x.4.1.parts ∙ ap head_of same.0 ∙ sym y.4.1.parts,
      x.3 ∙ ap length x.4.1.text ∙ ap (λ (t : RequestHead). length (print_request t)) same.0 ∙ sym (y.3 ∙ ap length y.4.1.text),
    )

pub head_append : (bytes more : List ℕ) (head : Head) (len : ℕ) → StartsWithHead bytes head len → StartsWithHead (bytes ++ more) head len
head_append bytes more head len has = (has.0, has.1 ++ more, ap (λ (b : List ℕ). b ++ more) has.2 ∙ append_assoc has.0 has.1 more, has.3, has.4)
