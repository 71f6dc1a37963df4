-- A request's head, as the parser's grammar has it, of at most so many octets and fields (RFC 9112, sections 2, 3 and 5).
use Rattle.std.specs.Prelude.{◌≡◌, ℕ, ◌+◌, ◌<◌, ◌≤◌, List, ◌++◌, length, take, map, ⊤}
use Rattle.httparse.specs.Grammar.{RequestHead, IsRequestHead, print_request, ReadsRequest, HasNoRequest, NeverHasRequest, MayBecomeRequest}
use Rattle.httparse.specs.Spans.{RequestOverflows, RequestExceeds}
use Rattle.http_heads.specs.Section.{field_of}
use Rattle.http_heads.specs.declared.field.Head.{Head}
use Rattle.http_heads.specs.declared.front.TheConstants.{MAX_FIELDS, MAX_OCTETS}
use Rattle.http_heads.specs.declared.HeadRead.{HeadRead}
use Rattle.http_heads.specs.declared.HeadRead.TheVariants.{Whole, More, Crowded, Bad}
use Rattle.http_heads.specs.declared.HeadFill.{HeadFill}
use Rattle.http_heads.specs.declared.HeadFill.TheVariants as fills
use Rattle.http_heads.specs.Ending.{IsFirstStop}

-- the parts of a head that a request keeps
abbrev pub head_of : RequestHead → Head
head_of tree = record { method = tree.method; target = tree.target; minor = tree.minor; fields = map field_of tree.fields }

-- these octets, all of them, are the head that the tree prints
pub record IsHeadBy (tree : RequestHead) (bytes : List ℕ) (head : Head) : Type 0 where
  pub valid : IsRequestHead tree
  pub text : bytes ≡ print_request tree
  pub few : length tree.fields ≤ MAX_FIELDS
  pub short : length bytes ≤ MAX_OCTETS
  pub parts : head ≡ head_of tree

-- these octets, all of them, are the head
abbrev pub IsHead : List ℕ → Head → Type 0
IsHead bytes head = (tree : RequestHead) × IsHeadBy tree bytes head

-- the first len octets are the head
abbrev pub StartsWithHead : List ℕ → Head → ℕ → Type 0
StartsWithHead bytes head len = (front : List ℕ) × (rest : List ℕ) × (bytes ≡ front ++ rest) × (len ≡ length front) × IsHead front head

-- no prefix is a head
abbrev pub HasNoHead : List ℕ → Type 0
HasNoHead bytes = (head : Head) (len : ℕ) → StartsWithHead bytes head len → ⊥

-- no octets can follow that make a prefix a head
abbrev pub NeverHasHead : List ℕ → Type 0
NeverHasHead bytes = (more : List ℕ) → HasNoHead (bytes ++ more)

-- up to the end of their first line the octets may still become a head
abbrev pub StartsWell : List ℕ → Type 0
StartsWell bytes = (k : ℕ) → IsFirstStop bytes k → NeverHasHead (take (k + 1) bytes) → ⊥

-- what an answer says of the octets
abbrev pub Reads : List ℕ → HeadRead → Type 0
Reads bytes (Whole head len) = StartsWithHead bytes head len
Reads bytes More = HasNoHead bytes
Reads bytes Crowded = NeverHasHead bytes
Reads bytes Bad = NeverHasHead bytes

-- where an answer is neither a head nor a refusal
abbrev pub GoesOn : List ℕ → HeadRead → Type 0
GoesOn bytes (Whole head len) = ⊤
GoesOn bytes More = (length bytes < MAX_OCTETS) × StartsWell bytes
GoesOn bytes Crowded = (length bytes < MAX_OCTETS) × StartsWell bytes
GoesOn bytes Bad = ⊤

-- the same answer, with the head that was read into
abbrev pub read_of : Head → HeadFill → HeadRead
read_of head (fills.Whole len) = Whole head len
read_of head fills.More = More
read_of head fills.Crowded = Crowded
read_of head fills.Bad = Bad

-- what parsing says of octets of any number
abbrev pub Parses : List ℕ → Head → HeadFill → Type 0
Parses bytes head (fills.Whole len) =
    (tree : RequestHead) × (rest : List ℕ) × ReadsRequest bytes tree rest × (length tree.fields ≤ MAX_FIELDS) × (head ≡ head_of tree) × (len ≡ length (print_request tree))
Parses bytes head fills.More = HasNoRequest bytes × MayBecomeRequest bytes
Parses bytes head fills.Crowded = RequestOverflows MAX_FIELDS bytes × RequestExceeds MAX_FIELDS bytes
Parses bytes head fills.Bad = NeverHasRequest bytes
