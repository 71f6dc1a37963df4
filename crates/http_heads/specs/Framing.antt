-- How the body of a request is delimited, and whether the connection goes on after it.
use Rattle.std.specs.Prelude.{ℕ, Bool, true, false, not, ◌&&◌, ◌||◌, List, [], ◌∷◌, length, if◌then◌else◌, ◌==◌, nat_lt, nat_le, bytes_eq, codes, count_by}
use Rattle.std.specs.List.{list_all, list_any}
use Rattle.std.specs.Char.{is_ascii_digit}
use Rattle.std.specs.Str.Parse.{digits_value}
use Rattle.http_heads.specs.declared.field.Field.{Field}
use Rattle.http_heads.specs.declared.field.Head.{Head}
use Rattle.http_heads.specs.declared.front.TheConstants.{MAX_BODY}
use Rattle.http_heads.specs.declared.Framing.{Framing}
use Rattle.http_heads.specs.declared.Framing.TheVariants.{Empty, Length, Chunked, Fault}
use Rattle.http_heads.specs.declared.rules.Sizes.{Sizes}
use Rattle.http_heads.specs.declared.rules.Sizes.TheVariants as sizes
use Rattle.http_heads.specs.Values.{is_same, is_named, list_of}

-- the element is `chunked`
abbrev pub is_chunked : List ℕ → Bool
is_chunked element = is_same element (codes "chunked")

-- the last of the elements is `chunked`
abbrev pub ends_chunked : List (List ℕ) → Bool
ends_chunked [] = false
ends_chunked (e ∷ []) = is_chunked e
ends_chunked (e ∷ f ∷ es) = ends_chunked (f ∷ es)

-- from the list of Transfer-Encoding
abbrev pub coding_of : List (List ℕ) → Framing
coding_of es =
    if not (ends_chunked es) || nat_lt 1 (count_by is_chunked es) then Fault 400
    else (if list_any (λ e. not (is_chunked e)) es then Fault 501
    else Chunked)

-- 1*DIGIT, at most as many as a body may have
abbrev pub is_length : List ℕ → Bool
is_length e = nat_lt 0 (length e) && (list_all is_ascii_digit e && nat_le (digits_value 10 e) MAX_BODY)

-- the element is this number
abbrev pub is_length_of : ℕ → List ℕ → Bool
is_length_of n e = is_length e && (digits_value 10 e == n)

-- from the list of Content-Length
abbrev pub length_of : List (List ℕ) → Framing
length_of [] = Fault 400
length_of (e ∷ es) = if is_length e && list_all (is_length_of (digits_value 10 e)) es then Length (digits_value 10 e) else Fault 400

-- the first case that holds
unfoldable pub framing_of : Head → Framing
framing_of h =
    let hosts = count_by (is_named (codes "host")) h.fields in
    let coded = list_any (is_named (codes "transfer-encoding")) h.fields in
    let sized = list_any (is_named (codes "content-length")) h.fields in
    if nat_lt 1 hosts || ((hosts == 0) && (h.minor == 1)) then Fault 400
    else (if bytes_eq h.method (codes "CONNECT") then Fault 501
    else (if coded && ((h.minor == 0) || sized) then Fault 400
    else (if coded then coding_of (list_of (codes "transfer-encoding") h.fields)
    else (if sized then length_of (list_of (codes "content-length") h.fields)
    else Empty))))

-- the connection goes on after a message of this version with these fields
unfoldable pub persists_by : ℕ → List Field → Bool
persists_by minor fields =
    let options = list_of (codes "connection") fields in
    if list_any (λ e. is_same e (codes "close")) options then false
    else (if minor == 1 then true
    else list_any (λ e. is_same e (codes "keep-alive")) options)

-- the connection goes on after the request
abbrev pub persists : Head → Bool
persists h = persists_by h.minor h.fields

-- `length_of`, one element at a time
abbrev pub add_length : Sizes → List ℕ → Sizes
add_length sizes.Absent e = if is_length e then sizes.Same (digits_value 10 e) else sizes.Invalid
add_length (sizes.Same n) e = if is_length_of n e then sizes.Same n else sizes.Invalid
add_length sizes.Invalid e = sizes.Invalid

abbrev pub framing_by : Sizes → Framing
framing_by sizes.Absent = Fault 400
framing_by (sizes.Same n) = Length n
framing_by sizes.Invalid = Fault 400
