-- What octets mean on a connection: requests one after another, and how they end (RFC 9112, sections 2.2, 6.3 and 9.3).
use Rattle.std.specs.Prelude.{◌≡◌, ◌≢◌, ℕ, ◌<◌, ◌⊎◌, true, false, not, ◌&&◌, List, [], ◌∷◌, ◌++◌, length, ◌==◌, if◌then◌else◌}
use Rattle.std.specs.List.{flat_map}
use Rattle.http_heads.specs.declared.field.Field.{Field}
use Rattle.http_heads.specs.declared.field.Head.{Head}
use Rattle.http_heads.specs.declared.Framing.{Framing}
use Rattle.http_heads.specs.declared.Framing.TheVariants.{Empty, Length, Chunked, Fault}
use Rattle.http_heads.specs.declared.front.TheConstants.{MAX_OCTETS}
use Rattle.http_heads.specs.Heads.{IsHead, StartsWithHead, HasNoHead, StartsWell}
use Rattle.http_heads.specs.Framing.{framing_of, persists}
use Rattle.http_frames.specs.Chunks.{Body, HasNoBody, Waits}
use Rattle.http_core.specs.declared.message.Request.{Request}
use Rattle.http_core.specs.declared.message.Answer.{Answer}
use Rattle.http_core.specs.declared.message.End.{End}
use Rattle.http_core.specs.declared.message.End.TheVariants.{Clean, Closed, Bad}
use Rattle.http_core.specs.Text.{text, fault_text}

-- without the CRLF pairs that the octets begin with
abbrev pub skip_pairs : List ℕ → List ℕ
skip_pairs [] = []
skip_pairs (a ∷ []) = a ∷ []
skip_pairs (a ∷ b ∷ rest) = if (a == 13) && (b == 10) then skip_pairs rest else a ∷ b ∷ rest

-- the octets begin with this body, by its framing, and rest follows it
abbrev pub IsBody : Framing → List ℕ → List ℕ → List ℕ → Type 0
IsBody Empty bytes body rest = (body ≡ []) × (bytes ≡ rest)
IsBody (Length n) bytes body rest = (length body ≡ n) × (bytes ≡ body ++ rest)
IsBody Chunked bytes body rest = (trailer : List Field) × Body bytes body trailer rest
IsBody (Fault code) bytes body rest = ⊥

-- the octets begin with this request, and rest follows it
pub record IsRequest (bytes : List ℕ) (request : Request) (rest : List ℕ) : Type 0 where
  pub front : List ℕ
  pub behind : List ℕ
  pub text : bytes ≡ front ++ behind
  pub head : IsHead front request.head
  pub body : IsBody (framing_of request.head) behind request.body rest

-- no request is whole at the front
abbrev pub HasNoRequest : List ℕ → Type 0
HasNoRequest bytes = (request : Request) (rest : List ℕ) → IsRequest bytes request rest → ⊥

-- the octets are these requests, after each of which the connection goes on, and then the rest
abbrev pub Along : List Request → List ℕ → List ℕ → Type 0
Along [] bytes rest = bytes ≡ rest
Along (r ∷ requests) bytes rest =
    (behind : List ℕ) × IsRequest (skip_pairs bytes) r behind × (persists r.head ≡ true) × Along requests behind rest

-- a head whose framing is this fault stands at the front
abbrev pub HasFault : List ℕ → ℕ → Type 0
HasFault bytes code = (head : Head) × (len : ℕ) × StartsWithHead bytes head len × (framing_of head ≡ Fault code)

-- The octets are there, and are no request: they have the fault of the framing of the head at their front, and otherwise 400.
pub record IsFault (bytes : List ℕ) (code : ℕ) : Type 0 where
  pub some : bytes ≢ []
  pub none : HasNoRequest bytes
  pub code_is : HasFault bytes code ⊎ (((other : ℕ) → HasFault bytes other → ⊥) × (code ≡ 400))

-- all requests of the octets of a connection, and how they end
abbrev pub Requests : List Request → End → List ℕ → Type 0
Requests requests Clean bytes = (rest : List ℕ) × Along requests bytes rest × (skip_pairs rest ≡ [])
Requests requests Closed bytes =
    (before : List Request) × (last : Request) × (rest : List ℕ) × (behind : List ℕ) × (requests ≡ before ++ last ∷ []) × Along before bytes rest
    × IsRequest (skip_pairs rest) last behind × (persists last.head ≡ false)
Requests requests (Bad code) bytes = (rest : List ℕ) × Along requests bytes rest × IsFault (skip_pairs rest) code

-- the text of the answer to a request
abbrev pub reply : (Request → Answer) → Request → List ℕ
reply f request = text request (f request) (not (persists request.head))

abbrev pub replies : (Request → Answer) → List Request → List ℕ
replies f requests = flat_map (reply f) requests

-- the text behind the answers
abbrev pub end_text : End → List ℕ
end_text Clean = []
end_text Closed = []
end_text (Bad code) = fault_text code

-- the octets begin with a head, and behind it a part of its body that may still become the whole of it
pub record AwaitsBody (bytes : List ℕ) : Type 0 where
  pub front : List ℕ
  pub behind : List ℕ
  pub head : Head
  pub text : bytes ≡ front ++ behind
  pub is : IsHead front head
  pub body : ((n : ℕ) × (framing_of head ≡ Length n) × (length behind < n)) ⊎ ((framing_of head ≡ Chunked) × HasNoBody behind × Waits behind)

-- Octets behind the last whole request, without CRLF pairs before them, for which the connection doesn't close.
abbrev pub Awaits : List ℕ → Type 0
Awaits bytes = (HasNoHead bytes × (length bytes < MAX_OCTETS) × StartsWell bytes) ⊎ AwaitsBody bytes
