-- What the fields of a head say: names without regard to case, and lists of values.
use Rattle.std.specs.Prelude.{ℕ, Bool, true, false, List, [], ◌∷◌, ◌++◌, ◌+◌, length, map, Option, Some, None, if◌then◌else◌, ◌==◌, bytes_eq}
use Rattle.std.specs.Borrow.{Bor}
use Rattle.std.specs.Char.{to_ascii_lowercase}
use Rattle.httparse.specs.Ascii.{comma}
use Rattle.httparse.specs.Grammar.{trim_ows}
use Rattle.http_heads.specs.declared.field.Field.{Field}

-- the same bytes, without regard to ASCII case
abbrev pub is_same : List ℕ → List ℕ → Bool
is_same a b = bytes_eq (map to_ascii_lowercase a) (map to_ascii_lowercase b)

-- the field has this name
abbrev pub is_named : List ℕ → Field → Bool
is_named name field = is_same field.name name

-- nothing in it
abbrev pub is_blank : List ℕ → Bool
is_blank [] = true
is_blank (b ∷ bs) = false

-- the pieces, with a byte in front of the first
abbrev pub cons_first : ℕ → List (List ℕ) → List (List ℕ)
cons_first b [] = (b ∷ []) ∷ []
cons_first b (piece ∷ pieces) = (b ∷ piece) ∷ pieces

-- the pieces between commas
abbrev pub cut_at_commas : List ℕ → List (List ℕ)
cut_at_commas [] = [] ∷ []
cut_at_commas (b ∷ bs) = if b == comma then [] ∷ cut_at_commas bs else cons_first b (cut_at_commas bs)

-- without the empty ones
abbrev pub kept : List (List ℕ) → List (List ℕ)
kept [] = []
kept (e ∷ es) = if is_blank e then kept es else e ∷ kept es

-- a value cut at commas, each piece trimmed, without the empty ones
abbrev pub elements : List ℕ → List (List ℕ)
elements value = kept (map trim_ows (cut_at_commas value))

-- the list that the fields of a name make together
abbrev pub list_of : List ℕ → List Field → List (List ℕ)
list_of name [] = []
list_of name (field ∷ fields) = if is_named name field then elements field.value ++ list_of name fields else list_of name fields

-- the elements of what is left of a value, if anything is
abbrev pub elements_of_rest : Option (Bor (List ℕ)) → List (List ℕ)
elements_of_rest None = []
elements_of_rest (Some rest) = elements rest.now

-- how many bytes are left of a value, and one more
abbrev pub left_of : Option (Bor (List ℕ)) → ℕ
left_of None = 0
left_of (Some rest) = length rest.now + 1
