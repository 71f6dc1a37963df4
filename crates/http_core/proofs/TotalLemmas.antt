-- All octets of a connection have a reading.
use Rattle.std.proofs.Common.{◌≡◌, ◌≢◌, ℕ, zero, suc, ◌<◌, ◌≤◌, ◌⊎◌, Bool, true, false, List, [], ◌∷◌, ◌++◌, length, take, drop, refl, sym, ap, subst, ◌∙◌, arith, append-nil, length-append, length-take, take-append-drop, inl, inr}
use Rattle.std.proofs.lemmas.Bool.{cases_lt}
use Rattle.httparse.specs.Grammar.{print_section}
use Rattle.http_heads.specs.declared.field.Field.{Field}
use Rattle.http_heads.specs.declared.field.Head.{Head}
use Rattle.http_heads.specs.declared.Framing.{Framing}
use Rattle.http_heads.specs.declared.Framing.TheVariants.{Empty, Length, Chunked, Fault}
use Rattle.http_heads.specs.Heads.{IsHead, StartsWithHead, HasNoHead}
use Rattle.http_heads.specs.Framing.{framing_of, persists}
use Rattle.http_frames.specs.Chunks.{Chunk, Chunked as ChunkedText, Body, HasNoBody}
use Rattle.http_core.specs.declared.message.Request.{Request}
use Rattle.http_core.specs.declared.message.End.{End}
use Rattle.http_core.specs.declared.message.End.TheVariants.{Clean, Closed, Bad}
use Rattle.http_core.specs.Requests.{skip_pairs, IsBody, IsRequest, IsFault, Requests}
use Rattle.http_core.proofs.SkipLemmas.{skips}
use Rattle.http_core.proofs.RequestLemmas.{front_long, fault_without_head, framing_is_fault, no_body_is_fault}
use Rattle.http_core.proofs.ConnectionLemmas.{along_requests}
use Rattle.http_core.proofs.HeadDecided.{head_there}
use Rattle.http_core.proofs.BodyDecided.{body_there}

-- ---- what follows a request is shorter

chunks_shorter : (cs : List Chunk) (bytes body : List ℕ) (trailer : List Field) (rest : List ℕ) → ChunkedText cs bytes body trailer rest → length rest ≤ length bytes
chunks_shorter [] bytes body trailer rest is =
    let has = is.5.1 in
    omega (arith, ap length is.3, length-append is.0 (13 ∷ 10 ∷ is.1), ap length has.reads.1, length-append (print_section has.lines has.last) rest)
chunks_shorter (c ∷ cs) bytes body trailer rest is =
    omega (arith, chunks_shorter cs is.0 is.1 trailer rest is.5, ap length is.3, length-append c.line (13 ∷ 10 ∷ (c.data_bytes ++ 13 ∷ 10 ∷ is.0)), length-append c.data_bytes (13 ∷ 10 ∷ is.0))

body_shorter : (framing : Framing) (bytes body rest : List ℕ) → IsBody framing bytes body rest → length rest ≤ length bytes
body_shorter Empty bytes body rest is = omega (arith, ap length is.1)
body_shorter (Length n) bytes body rest is = omega (arith, ap length is.1, length-append body rest)
body_shorter Chunked bytes body rest is = chunks_shorter is.1.chunks bytes body is.0 rest is.1.text
body_shorter (Fault code) bytes body rest is = absurd is

pub request_shorter : (bytes rest : List ℕ) (r : Request) → IsRequest (skip_pairs bytes) r rest → length rest < length bytes
request_shorter bytes rest r is =
    let pairs = skips bytes in
    omega (arith, body_shorter (framing_of r.head) is.behind r.body rest is.body, ap length is.text, length-append is.front is.behind, front_long is.front r.head is.head, ap length pairs.1, length-append pairs.0 (skip_pairs bytes))

-- ---- whether a request stands at the front

-- a body of this framing stands there, or none does
framed_there : (framing : Framing) (bytes : List ℕ) → ((body : List ℕ) × (rest : List ℕ) × IsBody framing bytes body rest) ⊎ ((body rest : List ℕ) → IsBody framing bytes body rest → ⊥)
framed_there Empty bytes = inl ([], bytes, (refl, refl))
framed_there (Length n) bytes = by_length (cases_lt (length bytes) n)
  where
    by_length : (length bytes < n) ⊎ (n ≤ length bytes) → ((body : List ℕ) × (rest : List ℕ) × IsBody (Length n) bytes body rest) ⊎ ((body rest : List ℕ) → IsBody (Length n) bytes body rest → ⊥)
    by_length (inl less) = inr (λ body rest is. omega (arith, less, is.0, ap length is.1, length-append body rest))
    by_length (inr there) = inl (take n bytes, drop n bytes, (omega (arith, there, length-take n bytes), sym (take-append-drop n bytes)))
framed_there Chunked bytes = by_body (body_there bytes)
  where
    by_body : ((body : List ℕ) × (trailer : List Field) × (rest : List ℕ) × Body bytes body trailer rest) ⊎ HasNoBody bytes → ((body : List ℕ) × (rest : List ℕ) × IsBody Chunked bytes body rest) ⊎ ((body rest : List ℕ) → IsBody Chunked bytes body rest → ⊥)
    by_body (inl x) = inl (x.0, x.2, (x.1, x.3))
    by_body (inr none) = inr (λ body rest is. none body is.0 rest is.1)
framed_there (Fault code) bytes = inr (λ body rest is. is)

-- a head at the front, and no body of its framing behind it
fault_behind : (bytes front behind : List ℕ) (head : Head) → bytes ≡ front ++ behind → IsHead front head → ((body rest : List ℕ) → IsBody (framing_of head) behind body rest → ⊥) → (code : ℕ) × IsFault bytes code
fault_behind bytes front behind head text is none = by_framing (framing_of head) refl
  where
    without : ((code : ℕ) → framing_of head ≡ Fault code → ⊥) → IsFault bytes 400
    without sound =
        let none_more : (body rest : List ℕ) → IsBody (framing_of head) (behind ++ []) body rest → ⊥ = λ body rest at. none body rest (subst (λ (b : List ℕ). IsBody (framing_of head) b body rest) (append-nil behind) at) in
        subst (λ (b : List ℕ). IsFault b 400) (append-nil bytes) (no_body_is_fault bytes front behind head text is [] none_more sound)

    by_framing : (framing : Framing) → framing_of head ≡ framing → (code : ℕ) × IsFault bytes code
    by_framing Empty e = (400, without (λ code h. let wrong : Empty ≡ Fault code = sym e ∙ h in cc))
    by_framing (Length n) e = (400, without (λ code h. let wrong : Length n ≡ Fault code = sym e ∙ h in cc))
    by_framing Chunked e = (400, without (λ code h. let wrong : Chunked ≡ Fault code = sym e ∙ h in cc))
    by_framing (Fault code) e = (code, subst (λ (b : List ℕ). IsFault b code) (append-nil bytes) (framing_is_fault bytes front behind head code text is e []))

-- a request stands there, or the octets, if there are some, are a fault
request_there : (bytes : List ℕ) → ((request : Request) × (rest : List ℕ) × IsRequest bytes request rest) ⊎ (bytes ≢ [] → (code : ℕ) × IsFault bytes code)
request_there bytes = by_head (head_there bytes)
  where
    by_body : (front behind : List ℕ) (head : Head) → bytes ≡ front ++ behind → IsHead front head → ((body : List ℕ) × (rest : List ℕ) × IsBody (framing_of head) behind body rest) ⊎ ((body rest : List ℕ) → IsBody (framing_of head) behind body rest → ⊥)
        → ((request : Request) × (rest : List ℕ) × IsRequest bytes request rest) ⊎ (bytes ≢ [] → (code : ℕ) × IsFault bytes code)
    by_body front behind head text is (inl x) = inl (record { head = head; body = x.0 }, x.1, record { front = front; behind = behind; text = text; head = is; body = x.2 })
    by_body front behind head text is (inr none) = inr (λ some. fault_behind bytes front behind head text is none)

    by_head : ((head : Head) × (len : ℕ) × StartsWithHead bytes head len) ⊎ HasNoHead bytes → ((request : Request) × (rest : List ℕ) × IsRequest bytes request rest) ⊎ (bytes ≢ [] → (code : ℕ) × IsFault bytes code)
    by_head (inl x) = by_body x.2.0 x.2.1 x.0 x.2.2 x.2.4 (framed_there (framing_of x.0) x.2.1)
    by_head (inr none) = inr (λ some. (400, fault_without_head bytes some none))

-- ---- a reading

abbrev pub HasReading : List ℕ → Type 0
HasReading bytes = (requests : List Request) × (end : End) × Requests requests end bytes

-- where what follows each request has one
read_step : (bytes : List ℕ) → ((rest : List ℕ) → length rest < length bytes → HasReading rest) → HasReading bytes
read_step bytes later = by_rest (skip_pairs bytes) refl
  where
    by_persists : (r : Request) (rest : List ℕ) → IsRequest (skip_pairs bytes) r rest → (t : Bool) → persists r.head ≡ t → HasReading bytes
    by_persists r rest is true goes =
        let others = later rest (request_shorter bytes rest r is) in
        (r ∷ others.0, others.1, along_requests (r ∷ []) others.0 others.1 bytes rest (rest, is, goes, refl) others.2)
    by_persists r rest is false stops = (r ∷ [], Closed, ([], r, bytes, rest, refl, refl, is, stops))

    by_request : skip_pairs bytes ≢ [] → ((request : Request) × (rest : List ℕ) × IsRequest (skip_pairs bytes) request rest) ⊎ (skip_pairs bytes ≢ [] → (code : ℕ) × IsFault (skip_pairs bytes) code) → HasReading bytes
    by_request some (inl x) = by_persists x.0 x.1 x.2 (persists x.0.head) refl
    by_request some (inr fault) = ([], Bad (fault some).0, (bytes, refl, (fault some).1))

    by_rest : (octets : List ℕ) → skip_pairs bytes ≡ octets → HasReading bytes
    by_rest [] e = ([], Clean, (bytes, refl, e))
    by_rest (b ∷ octets) e = by_request (λ h. let wrong : b ∷ octets ≡ [] = sym e ∙ h in cc) (request_there (skip_pairs bytes))

read_up_to : (n : ℕ) (bytes : List ℕ) → length bytes ≤ n → HasReading bytes
read_up_to zero bytes short = read_step bytes (λ rest less. absurd (omega (arith, short, less)))
read_up_to (suc n) bytes short = read_step bytes (λ rest less. read_up_to n rest (omega (arith, short, less)))

-- the requests of the octets, and how they end
pub requests_of : (bytes : List ℕ) → HasReading bytes
requests_of bytes = read_up_to (length bytes) bytes (omega arith)
