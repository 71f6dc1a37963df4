-- Where a head or a section can end: with an empty line.
use Rattle.std.specs.Prelude.{◌≡◌, ℕ, ◌-◌, ◌<◌, Bool, true, false, not, ◌&&◌, ◌||◌, List, length, ◌==◌, nat_lt, slice_index, if◌then◌else◌}

-- where the line end begins whose LF stands at k: at its CR, if it has one
abbrev pub line_end_start : List ℕ → ℕ → ℕ
line_end_start bytes k = if nat_lt 0 k && (slice_index bytes (k - 1) == 13) then k - 1 else k

-- the LF at k ends a line without octets, at the very beginning or behind a line
abbrev pub ends_empty_line : List ℕ → ℕ → Bool
ends_empty_line bytes k =
    let start = line_end_start bytes k in
    (slice_index bytes k == 10) && ((start == 0) || (slice_index bytes (start - 1) == 10))

-- the LF at k ends an empty line behind a line that has octets
abbrev pub ends_lines : List ℕ → ℕ → Bool
ends_lines bytes k =
    let start = line_end_start bytes k in
    let before = line_end_start bytes (start - 1) in
    (slice_index bytes k == 10) && ((nat_lt 0 start && (slice_index bytes (start - 1) == 10)) && (nat_lt 0 before && not (slice_index bytes (before - 1) == 10)))

-- an octet of a first line: none of the control octets but CR
abbrev pub is_plain : ℕ → Bool
is_plain b = nat_lt 31 b || (b == 13)

-- the octet at k ends a line that has octets, or is neither plain nor LF
abbrev pub stops_line : List ℕ → ℕ → Bool
stops_line bytes k =
    let start = line_end_start bytes k in
    if slice_index bytes k == 10 then nat_lt 0 start && not (slice_index bytes (start - 1) == 10)
    else not (is_plain (slice_index bytes k))

-- the first such octet: there the first line that has octets ends, or can't be one
pub record IsFirstStop (bytes : List ℕ) (k : ℕ) : Type 0 where
  pub inside : k < length bytes
  pub stops : stops_line bytes k ≡ true
  pub first : (j : ℕ) → j < k → stops_line bytes j ≡ false
