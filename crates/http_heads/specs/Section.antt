-- A section of field lines with its empty line, of at most so many octets and fields (RFC 9112, sections 5 and 7.1.2).
use Rattle.std.specs.Prelude.{◌≡◌, ℕ, ◌<◌, ◌≤◌, List, ◌++◌, length, map}
use Rattle.httparse.specs.Grammar.{Field as Line, LineEnd, field_value, print_section, ReadsSection, NeverHasSection as NeverParses}
use Rattle.httparse.specs.Spans.{SectionOverflows}
use Rattle.http_heads.specs.declared.field.Field.{Field}
use Rattle.http_heads.specs.declared.front.TheConstants.{MAX_FIELDS, MAX_OCTETS}
use Rattle.http_heads.specs.declared.SectionRead.{SectionRead}
use Rattle.http_heads.specs.declared.SectionRead.TheVariants.{Whole, More, Crowded, Bad}

-- a field line's name, and its value without the white space around it
abbrev pub field_of : Line → Field
field_of line = record { name = line.name; value = field_value line }

-- a field as a pair
abbrev pub name_and_value : Field → List ℕ × List ℕ
name_and_value field = (field.name, field.value)

-- the octets begin with a section of these fields and this length, and rest follows it
pub record StartsWithSection (bytes : List ℕ) (fields : List Field) (len : ℕ) (rest : List ℕ) : Type 0 where
  pub lines : List Line
  pub last : LineEnd
  pub reads : ReadsSection bytes lines last rest
  pub few : length lines ≤ MAX_FIELDS
  pub len_is : len ≡ length (print_section lines last)
  pub short : len ≤ MAX_OCTETS
  pub parts : fields ≡ map field_of lines

-- no prefix is a section
abbrev pub HasNoSection : List ℕ → Type 0
HasNoSection bytes = (fields : List Field) (len : ℕ) (rest : List ℕ) → StartsWithSection bytes fields len rest → ⊥

-- no octets can follow that make a prefix a section
abbrev pub NeverHasSection : List ℕ → Type 0
NeverHasSection bytes = (more : List ℕ) → HasNoSection (bytes ++ more)

-- what an answer says of the octets
abbrev pub ReadsAs : List ℕ → SectionRead → Type 0
ReadsAs bytes (Whole fields len) = (rest : List ℕ) × StartsWithSection bytes fields len rest
ReadsAs bytes More = HasNoSection bytes
ReadsAs bytes Crowded = NeverHasSection bytes
ReadsAs bytes Bad = NeverHasSection bytes

-- the same of sections of any length
abbrev pub ParsesAs : List ℕ → SectionRead → Type 0
ParsesAs bytes (Whole fields len) =
    (lines : List Line) × (last : LineEnd) × (rest : List ℕ) × ReadsSection bytes lines last rest × (length lines ≤ MAX_FIELDS) × (len ≡ length (print_section lines last)) × (fields ≡ map field_of lines)
ParsesAs bytes More = (lines : List Line) (last : LineEnd) (rest : List ℕ) → ReadsSection bytes lines last rest → MAX_FIELDS < length lines
ParsesAs bytes Crowded = SectionOverflows MAX_FIELDS bytes
ParsesAs bytes Bad = NeverParses bytes
