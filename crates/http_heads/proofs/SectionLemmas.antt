-- Sections at the front of a list.
use Rattle.std.proofs.Common.{◌≡◌, ℕ, ◌<◌, ◌≤◌, List, ◌++◌, length, take, drop, map, ap, sym, ◌∙◌, arith, append_assoc, length-append}
use Rattle.std.proofs.lemmas.List.{length-take, take_all}
use Rattle.httparse.specs.Grammar.{print_section}
use Rattle.httparse.proofs.GrammarLemmas.{section_unique, ReadsSection-append}
use Rattle.http_heads.specs.declared.field.Field.{Field}
use Rattle.http_heads.specs.declared.SectionRead.TheVariants.{Whole, More, Crowded, Bad}
use Rattle.http_heads.specs.Section.{ReadsAs, ParsesAs, StartsWithSection, NeverHasSection, field_of}
use Rattle.http_heads.proofs.FrontLemmas.{front_inside, whole_of_front, followed}

pub section_from_front : (bytes front : List ℕ) (fields : List Field) (len : ℕ) → front ≡ take 65536 bytes → ParsesAs front (Whole fields len) → ReadsAs bytes (Whole fields len)
section_from_front bytes front fields len h found =
    let text : bytes ≡ print_section found.0 found.1 ++ (found.2 ++ drop 65536 bytes) = whole_of_front bytes front h ∙ ap (λ (b : List ℕ). b ++ drop 65536 bytes) found.3.1 ∙ append_assoc (print_section found.0 found.1) found.2 (drop 65536 bytes) in (
      found.2 ++ drop 65536 bytes,
      record {
        lines = found.0;
        last = found.1;
        reads = (found.3.0, text);
        few = found.4;
        len_is = found.5;
        short = omega (arith, found.5, ap length h, length-take 65536 bytes, ap length found.3.1, length-append (print_section found.0 found.1) found.2);
        parts = found.6;
      },
    )

pub no_section_from_front : (bytes front : List ℕ) → front ≡ take 65536 bytes → length bytes < 65536 → ParsesAs front More → ReadsAs bytes More
no_section_from_front bytes front h short found = λ fields len rest has.
    let all : front ≡ bytes = h ∙ take_all 65536 bytes (omega arith) in
    omega (arith, found has.lines has.last rest (has.reads.0, all ∙ has.reads.1), has.few)

pub never_section_from_full : (bytes front : List ℕ) → front ≡ take 65536 bytes → 65536 ≤ length bytes → ParsesAs front More → ReadsAs bytes Bad
never_section_from_full bytes front h long found = λ more fields len rest has.
    let room : length (print_section has.lines has.last) ≤ length front = omega (arith, has.short, has.len_is, ap length h, length-take 65536 bytes) in
    let middle = front_inside front (drop 65536 bytes ++ more) (print_section has.lines has.last) rest (sym (followed bytes front more h) ∙ has.reads.1) room in
    omega (arith, found has.lines has.last middle.0 (has.reads.0, middle.1), has.few)

pub never_section_from_bad : (bytes front : List ℕ) → front ≡ take 65536 bytes → ParsesAs front Bad → ReadsAs bytes Bad
never_section_from_bad bytes front h found = λ more fields len rest has.
    found (drop 65536 bytes ++ more) has.lines has.last rest (has.reads.0, sym (followed bytes front more h) ∙ has.reads.1)

pub never_section_from_crowded : (bytes front : List ℕ) → front ≡ take 65536 bytes → ParsesAs front Crowded → NeverHasSection bytes
never_section_from_crowded bytes front h found = λ more fields len rest has.
    omega (arith, found (drop 65536 bytes ++ more) has.lines has.last rest (has.reads.0, sym (followed bytes front more h) ∙ has.reads.1), has.few)

-- with more behind
pub section_append : (bytes more : List ℕ) (fields : List Field) (len : ℕ) (rest : List ℕ) → StartsWithSection bytes fields len rest → StartsWithSection (bytes ++ more) fields len (rest ++ more)
section_append bytes more fields len rest has = record {
  lines = has.lines;
  last = has.last;
  reads = ReadsSection-append bytes has.lines has.last rest more has.reads;
  few = has.few;
  len_is = has.len_is;
  short = has.short;
  parts = has.parts;
}

pub section_only : (bytes more : List ℕ) (a b : List Field) (m n : ℕ) (rest other : List ℕ) → StartsWithSection bytes a m rest → StartsWithSection (bytes ++ more) b n other → (a ≡ b) × (m ≡ n) × (other ≡ rest ++ more)
section_only bytes more a b m n rest other x y =
    let same = section_unique (bytes ++ more) x.lines y.lines x.last y.last (rest ++ more) other (ReadsSection-append bytes x.lines x.last rest more x.reads) y.reads in (
      x.parts ∙ ap (map field_of) same.0 ∙ sym y.parts,
      x.len_is ∙ (λ i. length (print_section (same.0 i) (same.1 i))) ∙ sym y.len_is,
      sym same.2,
    )
