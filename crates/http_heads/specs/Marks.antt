-- Which of the fields that rule a message there are.
use Rattle.std.specs.Prelude.{◌≡◌, Bool, not, ◌&&◌, ◌||◌, List, ◌==◌, nat_lt, bytes_eq, codes, count_by, if◌then◌else◌}
use Rattle.std.specs.List.{list_any}
use Rattle.http_heads.specs.declared.field.Field.{Field}
use Rattle.http_heads.specs.declared.marks.Marks.{Marks}
use Rattle.http_heads.specs.declared.field.Head.{Head}
use Rattle.http_heads.specs.declared.Framing.{Framing}
use Rattle.http_heads.specs.declared.Framing.TheVariants.{Empty, Fault}
use Rattle.http_heads.specs.Framing.{coding_of, length_of}
use Rattle.http_heads.specs.Values.{is_named, list_of}

-- with those that one more field has
abbrev pub with_marks : Marks → Bool → Bool → Bool → Bool → Marks
with_marks m host coded sized optioned = record {
  host = m.host || host;
  hosts = m.hosts || (m.host && host);
  coded = m.coded || coded;
  sized = m.sized || sized;
  optioned = m.optioned || optioned;
}

abbrev pub mark : Marks → Field → Marks
mark m f =
    with_marks m (is_named (codes "host") f) (is_named (codes "transfer-encoding") f) (is_named (codes "content-length") f) (is_named (codes "connection") f)

-- those of the fields
pub record IsMarked (fields : List Field) (m : Marks) : Type 0 where
  pub host : m.host ≡ list_any (is_named (codes "host")) fields
  pub hosts : m.hosts ≡ nat_lt 1 (count_by (is_named (codes "host")) fields)
  pub coded : m.coded ≡ list_any (is_named (codes "transfer-encoding")) fields
  pub sized : m.sized ≡ list_any (is_named (codes "content-length")) fields
  pub optioned : m.optioned ≡ list_any (is_named (codes "connection")) fields

-- the framing by them, the first case that holds
abbrev pub framing_by_marks : Head → Marks → Framing
framing_by_marks h m =
    if m.hosts || (not m.host && (h.minor == 1)) then Fault 400
    else (if bytes_eq h.method (codes "CONNECT") then Fault 501
    else (if m.coded && ((h.minor == 0) || m.sized) then Fault 400
    else (if m.coded then coding_of (list_of (codes "transfer-encoding") h.fields)
    else (if m.sized then length_of (list_of (codes "content-length") h.fields)
    else Empty))))
