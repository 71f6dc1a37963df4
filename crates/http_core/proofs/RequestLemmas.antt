-- One request at the front of octets.
use Rattle.std.proofs.Common.{◌≡◌, ◌≢◌, ℕ, ◌-◌, ◌<◌, ◌≤◌, Bool, true, false, ◌&&◌, List, [], ◌∷◌, ◌++◌, length, take, drop, refl, sym, ap, subst, ◌∙◌, arith, cond, inl, inr}
use Rattle.std.proofs.lemmas.List.{append-nil, append_assoc, length-append, take-append-drop}
use Rattle.std.proofs.lemmas.Bool.{ltb-true}
use Rattle.http_heads.specs.declared.field.Field.{Field}
use Rattle.http_heads.specs.declared.field.Head.{Head}
use Rattle.http_heads.specs.declared.Framing.{Framing}
use Rattle.http_heads.specs.declared.Framing.TheVariants.{Empty, Length, Chunked, Fault}
use Rattle.http_heads.specs.Heads.{IsHead, StartsWithHead, HasNoHead, NeverHasHead}
use Rattle.http_heads.specs.Framing.{framing_of}
use Rattle.http_heads.specs.Ending.{line_end_start, ends_lines}
use Rattle.http_heads.proofs.EndingLemmas.{head_ends}
use Rattle.http_heads.proofs.HeadLemmas.{head_unique}
use Rattle.http_frames.specs.Chunks.{Body, HasNoBody}
use Rattle.http_frames.proofs.ChunkLemmas.{body_append as chunks_append}
use Rattle.http_core.specs.declared.message.Request.{Request}
use Rattle.http_core.specs.Requests.{IsBody, IsRequest, HasNoRequest, HasFault, IsFault}
use Rattle.http_core.proofs.SkipLemmas.{same_split}

-- ---- heads are long

both : (a b : Bool) → (a && b) ≡ true → (a ≡ true) × (b ≡ true)
both true true h = (refl, refl)
both true false h = cc
both false b h = cc

start_before : (t : Bool) (k : ℕ) → cond t (k - 1) k ≤ k
start_before true k = omega arith
start_before false k = omega arith

start_le : (bytes : List ℕ) (k : ℕ) → line_end_start bytes k ≤ k
start_le bytes k = start_before _ k

pub lines_long : (bytes : List ℕ) (k : ℕ) → ends_lines bytes k ≡ true → 2 ≤ k
lines_long bytes k h =
    let start = line_end_start bytes k in
    let before = line_end_start bytes (start - 1) in
    let inner = (both _ _ h).1 in
    let some : 0 < before = ltb-true 0 before (both _ _ (both _ _ inner).1).0 in
    omega (arith, some, start_le bytes k, start_le bytes (start - 1))

pub head_long : (bytes : List ℕ) (head : Head) (len : ℕ) → StartsWithHead bytes head len → 2 < len
head_long bytes head len has =
    let ends = head_ends bytes head len has in
    omega (arith, ends.0, lines_long bytes (len - 1) ends.1)

pub starts : (bytes front behind : List ℕ) (head : Head) → bytes ≡ front ++ behind → IsHead front head → StartsWithHead bytes head (length front)
starts bytes front behind head text is = (front, behind, text, refl, is)

pub front_long : (front : List ℕ) (head : Head) → IsHead front head → 2 < length front
front_long front head is = head_long front head (length front) (starts front front [] head (sym (append-nil front)) is)

pub request_long : (bytes rest : List ℕ) (request : Request) → IsRequest bytes request rest → 2 < length bytes
request_long bytes rest request is = omega (arith, front_long is.front request.head is.head, ap length is.text, length-append is.front is.behind)

-- ---- more octets behind

pub body_append : (framing : Framing) (bytes body rest more : List ℕ) → IsBody framing bytes body rest → IsBody framing (bytes ++ more) body (rest ++ more)
body_append Empty bytes body rest more is = (is.0, ap (λ (b : List ℕ). b ++ more) is.1)
body_append (Length n) bytes body rest more is = (is.0, ap (λ (b : List ℕ). b ++ more) is.1 ∙ append_assoc body rest more)
body_append Chunked bytes body rest more is = (is.0, chunks_append bytes more body is.0 rest is.1)
body_append (Fault code) bytes body rest more is = is

pub request_append : (bytes : List ℕ) (request : Request) (rest more : List ℕ) → IsRequest bytes request rest → IsRequest (bytes ++ more) request (rest ++ more)
request_append bytes request rest more is = record {
  front = is.front;
  behind = is.behind ++ more;
  text = ap (λ (b : List ℕ). b ++ more) is.text ∙ append_assoc is.front is.behind more;
  head = is.head;
  body = body_append (framing_of request.head) is.behind request.body rest more is.body;
}

-- ---- what a head at the front says of a request

-- a request there has that head, and its body stands behind it
pub same_head : (bytes front behind : List ℕ) (head : Head) → bytes ≡ front ++ behind → IsHead front head → (more : List ℕ) (request : Request) (rest : List ℕ) → IsRequest (bytes ++ more) request rest
    → (request.head ≡ head) × IsBody (framing_of head) (behind ++ more) request.body rest
same_head bytes front behind head text is more request rest at =
    let same = head_unique bytes more head request.head (length front) (length at.front) (starts bytes front behind head text is) (starts (bytes ++ more) at.front at.behind request.head at.text at.head) in
    let texts : front ++ (behind ++ more) ≡ at.front ++ at.behind = sym (append_assoc front behind more) ∙ sym (ap (λ (b : List ℕ). b ++ more) text) ∙ at.text in
    let rests : behind ++ more ≡ at.behind = same_split front at.front (behind ++ more) at.behind same.1 texts in (
      sym same.0,
      subst (λ (b : List ℕ). IsBody (framing_of head) b request.body rest) (sym rests) (subst (λ (h : Head). IsBody (framing_of h) at.behind request.body rest) (sym same.0) at.body),
    )

fault_has_head : (bytes more front behind : List ℕ) (head : Head) (code : ℕ) → bytes ≡ front ++ behind → IsHead front head → HasFault (bytes ++ more) code → framing_of head ≡ Fault code
fault_has_head bytes more front behind head code text is fault =
    ap framing_of (head_unique bytes more head fault.0 (length front) fault.1 (starts bytes front behind head text is) fault.2).0 ∙ fault.3

pub no_request_without_head : (bytes : List ℕ) → HasNoHead bytes → HasNoRequest bytes
no_request_without_head bytes none request rest is = none request.head (length is.front) (starts bytes is.front is.behind request.head is.text is.head)

pub fault_without_head : (bytes : List ℕ) → bytes ≢ [] → HasNoHead bytes → IsFault bytes 400
fault_without_head bytes some none = record {
  some = some;
  none = no_request_without_head bytes none;
  code_is = inr (λ other fault. none fault.0 fault.1 fault.2, refl);
}

not_empty : (bytes more : List ℕ) → 0 < length bytes → bytes ++ more ≢ []
not_empty [] more some = absurd (omega arith)
not_empty (b ∷ bytes) more some = λ h. cc (h)

pub never_head_is_fault : (bytes : List ℕ) → 0 < length bytes → NeverHasHead bytes → (more : List ℕ) → IsFault (bytes ++ more) 400
never_head_is_fault bytes some never more = fault_without_head (bytes ++ more) (not_empty bytes more some) (never more)

front_some : (bytes front behind : List ℕ) (head : Head) → bytes ≡ front ++ behind → IsHead front head → 2 < length bytes
front_some bytes front behind head text is = omega (arith, front_long front head is, ap length text, length-append front behind)

pub framing_is_fault : (bytes front behind : List ℕ) (head : Head) (code : ℕ) → bytes ≡ front ++ behind → IsHead front head → framing_of head ≡ Fault code → (more : List ℕ) → IsFault (bytes ++ more) code
framing_is_fault bytes front behind head code text is framing more = record {
  some = not_empty bytes more (omega (arith, front_some bytes front behind head text is));
  none = λ request rest at. subst (λ (f : Framing). IsBody f (behind ++ more) request.body rest) framing (same_head bytes front behind head text is more request rest at).1;
  code_is = inl (head, length front, starts (bytes ++ more) front (behind ++ more) head (ap (λ (b : List ℕ). b ++ more) text ∙ append_assoc front behind more) is, framing);
}

-- a head whose framing is no fault, and no body behind it
pub no_body_is_fault : (bytes front behind : List ℕ) (head : Head) → bytes ≡ front ++ behind → IsHead front head → (more : List ℕ)
    → ((body rest : List ℕ) → IsBody (framing_of head) (behind ++ more) body rest → ⊥) → ((code : ℕ) → framing_of head ≡ Fault code → ⊥) → IsFault (bytes ++ more) 400
no_body_is_fault bytes front behind head text is more none sound = record {
  some = not_empty bytes more (omega (arith, front_some bytes front behind head text is));
  none = λ request rest at. none request.body rest (same_head bytes front behind head text is more request rest at).1;
  code_is = inr (λ other fault. sound other (fault_has_head bytes more front behind head other text is fault), refl);
}

pub no_chunked_body : (head : Head) (behind : List ℕ) → framing_of head ≡ Chunked → HasNoBody behind → (body rest : List ℕ) → IsBody (framing_of head) behind body rest → ⊥
no_chunked_body head behind framing none body rest is =
    let chunked = subst (λ (f : Framing). IsBody f behind body rest) framing is in none body chunked.0 rest chunked.1

pub no_sized_body : (head : Head) (n : ℕ) (behind : List ℕ) → framing_of head ≡ Length n → length behind < n → (body rest : List ℕ) → IsBody (framing_of head) behind body rest → ⊥
no_sized_body head n behind framing short body rest is =
    let sized = subst (λ (f : Framing). IsBody f behind body rest) framing is in
    omega (arith, sized.0, ap length sized.1, length-append body rest)

-- ---- bodies that are whole

-- the last octets, counted from the end
pub from_end : (piece : List ℕ) (count left : ℕ) → count ≤ length piece → left ≡ length piece - count → drop (length piece - left) piece ≡ drop count piece
from_end piece count left inside left_is = let n : length piece - left ≡ count = omega arith in ap (λ (k : ℕ). drop k piece) n

pub sized_whole : (head : Head) (n : ℕ) (behind piece body : List ℕ) (count left : ℕ) → framing_of head ≡ Length n → count ≤ length piece → left ≡ length piece - count → body ≡ behind ++ take count piece → length body ≡ n
    → IsBody (framing_of head) (behind ++ piece) body (drop (length piece - left) piece)
sized_whole head n behind piece body count left framing inside left_is body_is long =
    let text : behind ++ piece ≡ body ++ drop (length piece - left) piece =
    ap (λ (b : List ℕ). behind ++ b) (sym (take-append-drop count piece)) ∙ sym (append_assoc behind (take count piece) (drop count piece))
    ∙ (λ i. sym body_is i ++ drop count piece) ∙ ap (λ (b : List ℕ). body ++ b) (sym (from_end piece count left inside left_is)) in
    subst (λ (f : Framing). IsBody f (behind ++ piece) body (drop (length piece - left) piece)) (sym framing) (long, text)

pub chunked_whole : (head : Head) (behind piece body : List ℕ) (trailer : List Field) (count left : ℕ) → framing_of head ≡ Chunked → count ≤ length piece → left ≡ length piece - count → Body (behind ++ take count piece) body trailer []
    → IsBody (framing_of head) (behind ++ piece) body (drop (length piece - left) piece)
chunked_whole head behind piece body trailer count left framing inside left_is is =
    let text : (behind ++ take count piece) ++ drop count piece ≡ behind ++ piece = append_assoc behind (take count piece) (drop count piece) ∙ ap (λ (b : List ℕ). behind ++ b) (take-append-drop count piece) in
    let whole : Body (behind ++ piece) body trailer (drop count piece) = subst (λ (b : List ℕ). Body b body trailer (drop count piece)) text (chunks_append (behind ++ take count piece) (drop count piece) body trailer [] is) in
    subst (λ (f : Framing). IsBody f (behind ++ piece) body (drop (length piece - left) piece)) (sym framing) (trailer, subst (λ (b : List ℕ). Body (behind ++ piece) body trailer b) (sym (from_end piece count left inside left_is)) whole)
