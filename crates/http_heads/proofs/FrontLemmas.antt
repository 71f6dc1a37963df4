-- The front of a list that a head or a section may fill.
use Rattle.std.proofs.Common.{◌≡◌, ℕ, ◌≤◌, List, [], ◌∷◌, ◌++◌, length, take, drop, map, refl, ap, sym, ◌∙◌, arith, append_assoc}
use Rattle.std.proofs.lemmas.List.{take-append-drop}
use Rattle.httparse.specs.Grammar.{Field as Line}
use Rattle.httparse.specs.Spans.{name_and_value as line_pair}
use Rattle.http_heads.specs.declared.field.Field.{Field}
use Rattle.http_heads.specs.Section.{name_and_value, field_of}

field_from_pair : (f : Field) (l : Line) → name_and_value f ≡ line_pair l → f ≡ field_of l
field_from_pair f l h = ap (λ (p : List ℕ × List ℕ). let r : Field = record { name = p.0; value = p.1 } in r) h

pub fields_from_pairs : (fs : List Field) (ls : List Line) → map name_and_value fs ≡ map line_pair ls → fs ≡ map field_of ls
fields_from_pairs [] [] h = refl
fields_from_pairs [] (l ∷ ls) h = cc
fields_from_pairs (f ∷ fs) [] h = cc
fields_from_pairs (f ∷ fs) (l ∷ ls) h =
    let first : name_and_value f ≡ line_pair l = cc in
    let others : map name_and_value fs ≡ map line_pair ls = cc in
    let e : f ≡ field_of l = field_from_pair f l first in
    let es : fs ≡ map field_of ls = fields_from_pairs fs ls others in
    cc

-- a front of more octets stands in any front that is long enough
pub front_inside : (front rest piece after : List ℕ) → front ++ rest ≡ piece ++ after → length piece ≤ length front → (middle : List ℕ) × (front ≡ piece ++ middle)
front_inside front rest [] after h short = (front, refl)
front_inside [] rest (x ∷ piece) after h short = absurd (omega arith)
front_inside (y ∷ front) rest (x ∷ piece) after h short =
    let same : y ≡ x = cc in
    let others : front ++ rest ≡ piece ++ after = cc in
    let found = front_inside front rest piece after others (omega arith) in
    (found.0, cc (found.1))

-- the front and what was cut off
pub whole_of_front : (bytes front : List ℕ) → front ≡ take 65536 bytes → bytes ≡ front ++ drop 65536 bytes
whole_of_front bytes front h = rw h (sym (take-append-drop 65536 bytes))

-- with more octets behind
pub followed : (bytes front more : List ℕ) → front ≡ take 65536 bytes → bytes ++ more ≡ front ++ (drop 65536 bytes ++ more)
followed bytes front more h = ap (λ (b : List ℕ). b ++ more) (whole_of_front bytes front h) ∙ append_assoc front (drop 65536 bytes) more
