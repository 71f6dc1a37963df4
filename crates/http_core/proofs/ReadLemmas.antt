-- What a piece does, from what stands at the front.
use Rattle.std.proofs.Common.{◌≡◌, ◌≢◌, ℕ, ◌+◌, ◌-◌, ◌<◌, ◌≤◌, true, false, nat_eq, Result, Ok, Err, List, [], ◌∷◌, ◌++◌, length, take, drop, refl, sym, ap, subst, ◌∙◌, arith, inl, inr}
use Rattle.std.proofs.lemmas.List.{append_assoc, length-append, drop_at, take-append-le}
use Rattle.std.specs.Prelude.{IfOk}
use Rattle.std.proofs.lemmas.Bool.{cases_lt}
use Rattle.http_heads.specs.declared.field.Head.{Head as RequestHead}
use Rattle.http_heads.specs.declared.HeadFill.{HeadFill}
use Rattle.http_heads.specs.declared.Framing.{Framing}
use Rattle.http_heads.specs.declared.Framing.TheVariants as framings
use Rattle.http_heads.specs.Ending.{stops_line, IsFirstStop}
use Rattle.http_heads.specs.Heads.{IsHead, StartsWithHead, HasNoHead, NeverHasHead, StartsWell, Reads, GoesOn, read_of}
use Rattle.http_heads.proofs.EndingLemmas.{head_inside}
use Rattle.http_heads.proofs.StopLemmas.{stop_append, first_append, first_only, head_stop}
use Rattle.http_heads.specs.Framing.{framing_of}
use Rattle.http_frames.specs.declared.Frame.{Frame}
use Rattle.http_frames.specs.Progress.{Progress, IsFed, Answers}
use Rattle.http_frames.specs.Lengths.{Filled, Fills}
use Rattle.http_core.specs.declared.message.Request.{Request}
use Rattle.http_core.specs.declared.read.Part.{Part}
use Rattle.http_core.specs.declared.read.Part.TheVariants as parts
use Rattle.http_core.specs.declared.read.Opening.{Opening}
use Rattle.http_core.specs.declared.read.Opening.TheVariants.{Line, Head, Crowded, Read}
use Rattle.http_core.specs.declared.read.RequestRead.{RequestRead}
use Rattle.http_core.specs.declared.read.RequestRead.TheVariants.{More, Whole, Fault}
use Rattle.http_core.specs.Requests.{skip_pairs, IsBody, IsRequest, IsFault}
use Rattle.http_core.specs.Reading.{NoHeadWithin, NoStopWithin, HasNoStop, HasStart, HasBegun, IsReading, ReadsOn, BodyReadsOn, Opens, Begins, TakesSome}
use Rattle.http_core.proofs.TextLemmas.{some_left}
use Rattle.http_core.proofs.SkipLemmas.{skip_again, skips, skip_front, skip_stays, last_of_end}
use Rattle.http_core.proofs.RequestLemmas.{front_long, framing_is_fault, never_head_is_fault, no_body_is_fault, no_chunked_body}

pub answers_as : (behind piece : List ℕ) (p : Progress) (f g : Frame) → f ≡ g → Answers behind piece p f → Answers behind piece p g
answers_as behind piece p f g same a = subst (Answers behind piece p) same a

pub fills_as : (behind piece : List ℕ) (p : Filled) (f g : Frame) → f ≡ g → Fills behind piece p f → Fills behind piece p g
fills_as behind piece p f g same a = subst (Fills behind piece p) same a

pub reads_as : (bytes : List ℕ) (head : RequestHead) (a b : HeadFill) → a ≡ b → Reads bytes (read_of head a) → Reads bytes (read_of head b)
reads_as bytes head a b same reads = subst (λ (f : HeadFill). Reads bytes (read_of head f)) same reads

pub goes_on_as : (bytes : List ℕ) (head : RequestHead) (a b : HeadFill) → a ≡ b → GoesOn bytes (read_of head a) → GoesOn bytes (read_of head b)
goes_on_as bytes head a b same goes = subst (λ (f : HeadFill). GoesOn bytes (read_of head f)) same goes

pub none_at_once : (bytes : List ℕ) → NoStopWithin 0 bytes
none_at_once bytes k early inside = absurd (omega arith)

-- a head has a stop, so none ends before the first
stopless : (from : ℕ) (bytes : List ℕ) → NoStopWithin from bytes → NoHeadWithin from bytes
stopless from bytes none head len has early =
    let found = head_stop bytes head len has in
    let wrong : true ≡ false = sym found.2 ∙ none found.0 (omega (arith, found.1, early)) (omega (arith, found.1, head_inside bytes head len has)) in
    cc

pub no_stop_no_head : (bytes : List ℕ) → HasNoStop bytes → HasNoHead bytes
no_stop_no_head bytes none head len has =
    stopless (length bytes) bytes (λ k early inside. none k inside) head len has (head_inside bytes head len has)

pub no_stop_well : (bytes : List ℕ) → HasNoStop bytes → StartsWell bytes
no_stop_well bytes none k at never = let wrong : true ≡ false = sym at.stops ∙ none k at.inside in cc

-- ---- a first line that stops

lone_cr : (bytes : List ℕ) (k : ℕ) → k < length bytes → stops_line bytes k ≡ true → bytes ≢ 13 ∷ []
lone_cr bytes k inside stops same =
    let first : k ≡ 0 = omega (arith, ap length same) in
    let wrong : true ≡ false = sym stops ∙ (λ i. stops_line (same i) (first i)) in
    cc

pub start_some : (bytes : List ℕ) → HasStart bytes → bytes ≢ []
start_some bytes start none = omega (arith, start.stop.inside, ap length none)

pub start_lone : (bytes : List ℕ) → HasStart bytes → bytes ≢ 13 ∷ []
start_lone bytes start = lone_cr bytes start.at start.stop.inside start.stop.stops

pub start_append : (bytes more : List ℕ) → HasStart bytes → HasStart (bytes ++ more)
start_append bytes more start = record {
  at = start.at;
  stop = first_append bytes more start.at start.stop;
  well = λ k at never.
      let place : k ≡ start.at = first_only (bytes ++ more) k start.at at (first_append bytes more start.at start.stop) in
      let front : take (k + 1) (bytes ++ more) ≡ take (start.at + 1) bytes = ap (λ (n : ℕ). take (n + 1) (bytes ++ more)) place ∙ take-append-le (start.at + 1) bytes more (omega (arith, start.stop.inside)) in
      start.well start.at start.stop (subst NeverHasHead front never);
}

-- ---- what reading a head says

pub begins_nowhere : (from : ℕ) (bytes : List ℕ) → length bytes < 65536 → ((k : ℕ) → from ≤ k → k < length bytes → stops_line bytes k ≡ false) → NoStopWithin from bytes → Begins from bytes Line
begins_nowhere from bytes short later none = (
  λ k inside. elim (cases_lt k from) [ inl early ↦ none k early inside | inr late ↦ later k late inside ],
  short,
)

pub begins_later : (from : ℕ) (bytes : List ℕ) → length bytes < 65536 → ((head : RequestHead) (len : ℕ) → StartsWithHead bytes head len → len ≤ from) → HasStart bytes → NoHeadWithin from bytes → Begins from bytes Head
begins_later from bytes short later start within = (λ head len has. within head len has (later head len has), short, start)

pub if_opening : {E : Type 0} (r : Result Opening E) (P Q : Opening → Type 0) → IfOk r P → ((o : Opening) → P o → Q o) → IfOk r Q
if_opening (Ok o) P Q h f = f o h
if_opening (Err e) P Q h f = tt

pub begins_full : (from : ℕ) (bytes : List ℕ) (o : Opening) → 65536 ≤ length bytes → NoStopWithin from bytes → ((n : ℕ) → NoHeadWithin n bytes → Opens n bytes o) → Begins from bytes o
begins_full from bytes Line long none opens = absurd (opens from (stopless from bytes none))
begins_full from bytes Head long none opens = absurd (omega (arith, (opens from (stopless from bytes none)).1))
begins_full from bytes Crowded long none opens = absurd (omega (arith, (opens from (stopless from bytes none)).1))
begins_full from bytes (Read (More part)) long none opens = opens from (stopless from bytes none)
begins_full from bytes (Read (Whole request left)) long none opens = opens from (stopless from bytes none)
begins_full from bytes (Read (Fault code)) long none opens =
    (λ same. omega (arith, ap length same), λ same. omega (arith, ap length same), opens from (stopless from bytes none) (omega arith))

begins_at : (from : ℕ) (bytes : List ℕ) (k : ℕ) (o : Opening) → IsFirstStop bytes k → Opens from bytes o → Begins from bytes o
begins_at from bytes k Line at opens = absurd opens
begins_at from bytes k Head at opens = (opens.0, opens.1, record { at = k; stop = at; well = opens.2 })
begins_at from bytes k Crowded at opens = (opens.0, opens.1, record { at = k; stop = at; well = opens.2 })
begins_at from bytes k (Read (More part)) at opens = opens
begins_at from bytes k (Read (Whole request left)) at opens = opens
begins_at from bytes k (Read (Fault code)) at opens =
    (λ same. omega (arith, at.inside, ap length same), lone_cr bytes k at.inside at.stops, opens (omega (arith, at.inside)))

pub begins_stopped : (from : ℕ) (bytes : List ℕ) (k : ℕ) (o : Opening) → k < length bytes → stops_line bytes k ≡ true → ((j : ℕ) → from ≤ j → j < k → stops_line bytes j ≡ false) → NoStopWithin from bytes
    → ((n : ℕ) → NoHeadWithin n bytes → Opens n bytes o) → Begins from bytes o
begins_stopped from bytes k o inside stops first none opens =
    begins_at from bytes k o (record { inside = inside; stops = stops; first = λ j below. elim (cases_lt j from) [ inl early ↦ none j early (omega arith) | inr late ↦ first j late below ] }) (opens from (stopless from bytes none))

pub begins_started : (from : ℕ) (bytes : List ℕ) (o : Opening) → HasStart bytes → NoHeadWithin from bytes → ((n : ℕ) → NoHeadWithin n bytes → Opens n bytes o) → Begins from bytes o
begins_started from bytes o start within opens = begins_at from bytes start.at o start.stop (opens from within)

chunked_no_fault : (framing : Framing) (code : ℕ) → framing ≡ framings.Chunked → framing ≡ framings.Fault code → ⊥
chunked_no_fault framing code chunked fault = let wrong : framings.Chunked ≡ framings.Fault code = sym chunked ∙ fault in cc

-- ---- behind a head that was read

body_fault : (bytes front behind : List ℕ) (head : RequestHead) (code : ℕ) → bytes ≡ front ++ behind → IsHead front head → BodyReadsOn head [] behind (Fault code) → (more : List ℕ) → IsFault (bytes ++ more) code
body_fault bytes front behind head code text is fault more = elim fault [
  | inl framing ↦ framing_is_fault bytes front behind head code text is framing more
  | inr never ↦
      subst (IsFault (bytes ++ more)) (sym never.2)
      (no_body_is_fault bytes front behind head text is more (no_chunked_body head (behind ++ more) never.0 (never.1 more)) (λ other framing. chunked_no_fault (framing_of head) other never.0 framing))
]

body_request : (bytes front behind rest : List ℕ) (head : RequestHead) (request : Request) → bytes ≡ front ++ behind → IsHead front head → request.head ≡ head → IsBody (framing_of head) behind request.body rest → IsRequest bytes request rest
body_request bytes front behind rest head request text is same body = record {
  front = front;
  behind = behind;
  text = text;
  head = subst (IsHead front) (sym same) is;
  body = subst (λ (h : RequestHead). IsBody (framing_of h) behind request.body rest) (sym same) body;
}

pub begins_whole : (from : ℕ) (bytes behind : List ℕ) (head : RequestHead) (len : ℕ) (step : RequestRead) → behind ≡ drop len bytes → StartsWithHead bytes head len → NoHeadWithin from bytes → BodyReadsOn head [] behind step → Opens from bytes (Read step)
begins_whole from bytes behind head len step behind_is has within steps =
    by_step step steps
  where
    text : bytes ≡ has.0 ++ behind
    text = has.2 ∙ ap (λ (b : List ℕ). has.0 ++ b) (sym (behind_is ∙ ap (drop len) has.2 ∙ drop_at has.0 has.1 len (sym has.3)))

    size : length bytes ≡ len + length behind
    size = omega (arith, ap length text, length-append has.0 behind, has.3)

    late : from < len
    late = elim (cases_lt from len) [ inl less ↦ less | inr early ↦ absurd (within head len has early) ]

    is : IsHead has.0 head
    is = has.4

    by_step : (s : RequestRead) → BodyReadsOn head [] behind s → Opens from bytes (Read s)
    by_step (More part) h = record { head = head; front = has.0; behind = behind; text = text; is = is; has = h }
    by_step (Whole request left) h =
        let rests : drop (length behind - left) behind ≡ drop (length bytes - left) bytes = sym (last_of_end has.0 behind left h.1) ∙ ap (λ (b : List ℕ). drop (length b - left) b) (sym text) in
        (omega (arith, size, late, h.1), subst (IsRequest bytes request) rests (body_request bytes has.0 behind _ head request text is h.0 h.2))
    by_step (Fault code) h = λ some. body_fault bytes has.0 behind head code text is h

-- ---- from the octets at the front to those that came

reading_begun : (part : Part) (bytes text : List ℕ) → skip_pairs bytes ≡ text → HasBegun text part → IsReading part bytes
reading_begun (parts.Line octets) bytes text same begun = absurd (begun.has)
reading_begun (parts.Head octets) bytes text same begun = absurd (begun.has)
reading_begun (parts.Crowded len) bytes text same begun = absurd (begun.has)
reading_begun (parts.Sized head lengths) bytes text same begun = subst (λ (b : List ℕ). HasBegun b (parts.Sized head lengths)) (sym same) begun
reading_begun (parts.Chunked head chunks) bytes text same begun = subst (λ (b : List ℕ). HasBegun b (parts.Chunked head chunks)) (sym same) begun

reading_same : (part : Part) (a b : List ℕ) → skip_pairs a ≡ skip_pairs b → IsReading part a → IsReading part b
reading_same (parts.Line octets) a b same is = (sym same ∙ is.0, is.1, is.2)
reading_same (parts.Head octets) a b same is = (sym same ∙ is.0, is.1, is.2, is.3)
reading_same (parts.Crowded len) a b same is = subst (λ (x : List ℕ). (length x ≡ len) × NeverHasHead x × (len < 65536) × HasStart x) same is
reading_same (parts.Sized head lengths) a b same is = subst (λ (x : List ℕ). HasBegun x (parts.Sized head lengths)) same is
reading_same (parts.Chunked head chunks) a b same is = subst (λ (x : List ℕ). HasBegun x (parts.Chunked head chunks)) same is

-- the octets that are left are the last of the piece
abbrev pub LeavesPiece : ℕ → List ℕ → List ℕ → Type 0
LeavesPiece from text piece = (left : ℕ) → left + from < length text → (left ≤ length piece) × (drop (length text - left) text ≡ drop (length piece - left) piece)

pub steps_begun : (bytes piece text : List ℕ) (from : ℕ) (step : RequestRead) → skip_pairs (bytes ++ piece) ≡ text → LeavesPiece from text piece → Begins from text (Read step) → ReadsOn bytes piece step
steps_begun bytes piece text from (More part) same leaves begins = reading_begun part (bytes ++ piece) text same begins
steps_begun bytes piece text from (Whole request left) same leaves begins =
    let found = leaves left begins.0 in
    (found.0, subst (λ (b : List ℕ). IsRequest b request (drop (length piece - left) piece)) (sym same) (subst (IsRequest text request) found.1 begins.1))
steps_begun bytes piece text from (Fault code) same leaves begins =
    λ more. subst (λ (b : List ℕ). IsFault b code) (sym (skip_stays (bytes ++ piece) more (λ e. begins.0 (sym same ∙ e)) (λ e. begins.1 (sym same ∙ e)) ∙ ap (λ (b : List ℕ). b ++ more) same)) (begins.2 more)

pub leaves_end : (piece text : List ℕ) → text ≡ skip_pairs piece → LeavesPiece 0 text piece
leaves_end piece text same left inside =
    let pairs = (skips piece).0 in
    let whole : piece ≡ pairs ++ text = (skips piece).1 ∙ ap (λ (b : List ℕ). pairs ++ b) (sym same) in
    (omega (arith, ap length whole, length-append pairs text), sym (ap (λ (b : List ℕ). drop (length b - left) b) whole ∙ last_of_end pairs text left (omega arith)))

pub leaves_behind : (octets piece : List ℕ) → LeavesPiece (length octets) (octets ++ piece) piece
leaves_behind octets piece left inside =
    let fits : left ≤ length piece = omega (arith, length-append octets piece) in
    (fits, last_of_end octets piece left fits)

pub after_pairs : (bytes piece text : List ℕ) → skip_pairs bytes ≡ [] → text ≡ skip_pairs piece → skip_pairs (bytes ++ piece) ≡ text
after_pairs bytes piece text none same = skip_again bytes piece ∙ ap (λ (b : List ℕ). skip_pairs (b ++ piece)) none ∙ sym same

pub takes_some : (piece text : List ℕ) (step : RequestRead) → text ≡ skip_pairs piece → Begins 0 text (Read step) → TakesSome piece step
takes_some piece text (More part) same begins = tt
takes_some piece text (Whole request left) same begins =
    let whole = (skips piece).1 in
    omega (arith, begins.0, ap length same, ap length whole, length-append (skips piece).0 (skip_pairs piece))
takes_some piece text (Fault code) same begins = tt

-- one octet that was kept is read again with the piece
pub steps_joined : (bytes octets piece : List ℕ) (step : RequestRead) → skip_pairs bytes ≡ octets → length octets ≡ 1 → TakesSome (octets ++ piece) step → ReadsOn [] (octets ++ piece) step → ReadsOn bytes piece step
steps_joined bytes octets piece (More part) came one some steps =
    reading_same part (octets ++ piece) (bytes ++ piece) (sym (skip_again bytes piece ∙ ap (λ (b : List ℕ). skip_pairs (b ++ piece)) came)) steps
steps_joined bytes octets piece (Whole request left) came one some steps =
    let fits : left ≤ length piece = omega (arith, some, one, length-append octets piece) in (
      fits,
      subst (λ (b : List ℕ). IsRequest b request (drop (length piece - left) piece)) (sym (skip_again bytes piece ∙ ap (λ (b : List ℕ). skip_pairs (b ++ piece)) came))
          (subst (IsRequest (skip_pairs (octets ++ piece)) request) (last_of_end octets piece left fits) steps.1),
    )
steps_joined bytes octets piece (Fault code) came one some steps = λ more.
    let same : skip_pairs (bytes ++ piece) ≡ skip_pairs (octets ++ piece) = skip_again bytes piece ∙ ap (λ (b : List ℕ). skip_pairs (b ++ piece)) came in
    subst (λ (b : List ℕ). IsFault b code) (skip_again (octets ++ piece) more ∙ sym (skip_again (bytes ++ piece) more ∙ ap (λ (b : List ℕ). skip_pairs (b ++ more)) same)) (steps more)

-- where two octets of a head are there, all that comes stands behind them
pub two_kept : (bytes octets piece : List ℕ) → skip_pairs bytes ≡ octets → 2 ≤ length octets → skip_pairs (bytes ++ piece) ≡ octets ++ piece
two_kept bytes octets piece came long = skip_front bytes piece (omega (arith, ap length came)) ∙ ap (λ (b : List ℕ). b ++ piece) came

-- a head at the front of more octets that ends within the first stands at their front
pub none_within : (octets piece : List ℕ) → HasNoHead octets → NoHeadWithin (length octets) (octets ++ piece)
none_within octets piece none head len has early =
    let found = prefix octets piece has.0 has.1 has.2 (omega (arith, has.3)) in
    none head len (has.0, found.0, found.1, has.3, has.4)
  where
    prefix : (octets piece front rest : List ℕ) → octets ++ piece ≡ front ++ rest → length front ≤ length octets → (middle : List ℕ) × (octets ≡ front ++ middle)
    prefix octets piece [] rest text short = (octets, refl)
    prefix [] piece (x ∷ front) rest text short = absurd (omega arith)
    prefix (y ∷ octets) piece (x ∷ front) rest text short =
        let same : y ≡ x = cc in
        let others : octets ++ piece ≡ front ++ rest = cc in
        let found = prefix octets piece front rest others (omega arith) in
        (found.0, cc (found.1))

-- ---- on in a body

pub steps_behind : (bytes piece front behind : List ℕ) (head : RequestHead) (step : RequestRead) → skip_pairs bytes ≡ front ++ behind → IsHead front head → BodyReadsOn head behind piece step → ReadsOn bytes piece step
steps_behind bytes piece front behind head step came is steps =
    by_step step steps
  where
    long : 2 < length (skip_pairs bytes)
    long = omega (arith, front_long front head is, ap length came, length-append front behind)

    text : skip_pairs (bytes ++ piece) ≡ front ++ (behind ++ piece)
    text = skip_front bytes piece (omega (arith, long)) ∙ ap (λ (b : List ℕ). b ++ piece) came ∙ append_assoc front behind piece

    by_step : (s : RequestRead) → BodyReadsOn head behind piece s → ReadsOn bytes piece s
    by_step (More part) h =
        reading_begun part (bytes ++ piece) (front ++ (behind ++ piece)) text (record { head = head; front = front; behind = behind ++ piece; text = refl; is = is; has = h })
    by_step (Whole request left) h = (h.1, body_request (skip_pairs (bytes ++ piece)) front (behind ++ piece) _ head request text is h.0 h.2)
    by_step (Fault code) h = λ more.
        let all : skip_pairs ((bytes ++ piece) ++ more) ≡ (front ++ (behind ++ piece)) ++ more = skip_front (bytes ++ piece) more (omega (arith, ap length text, front_long front head is, length-append front (behind ++ piece))) ∙ ap (λ (b : List ℕ). b ++ more) text in
        subst (λ (b : List ℕ). IsFault b code) (sym all) (body_fault (front ++ (behind ++ piece)) front (behind ++ piece) head code refl is h more)

pub begins_as : (from : ℕ) (bytes : List ℕ) (a b : Opening) → a ≡ b → Begins from bytes a → Begins from bytes b
begins_as from bytes a b same begins = subst (Begins from bytes) same begins

-- ---- on in a head that isn't whole

pub line_kept : (text octets bytes : List ℕ) → octets ≡ text → skip_pairs bytes ≡ text → HasNoStop text × (length text < 65536) → IsReading (parts.Line octets) bytes
line_kept text octets bytes kept came begins = subst (λ (o : List ℕ). IsReading (parts.Line o) bytes) (sym kept) (came, begins.0, begins.1)

pub head_kept : (text octets bytes : List ℕ) → octets ≡ text → skip_pairs bytes ≡ text → HasNoHead text × (length text < 65536) × HasStart text → IsReading (parts.Head octets) bytes
head_kept text octets bytes kept came begins = subst (λ (o : List ℕ). IsReading (parts.Head o) bytes) (sym kept) (came, begins.0, begins.1, begins.2)

pub crowd_kept : (text bytes : List ℕ) (len : ℕ) → len ≡ length text → skip_pairs bytes ≡ text → NeverHasHead text × (length text < 65536) × HasStart text → IsReading (parts.Crowded len) bytes
crowd_kept text bytes len size came begins =
    subst (λ (x : List ℕ). (length x ≡ len) × NeverHasHead x × (len < 65536) × HasStart x) (sym came) (sym size, begins.0, omega (arith, begins.1), begins.2)

-- what stands at the front of kept octets and a piece
pub record Continues (bytes octets piece : List ℕ) (found : Opening) : Type 0 where
  pub came : skip_pairs (bytes ++ piece) ≡ octets ++ piece
  pub begins : Begins (length octets) (octets ++ piece) found

two_there : (n from : ℕ) → false ≡ nat_eq n 0 → (from ≡ 1 → ⊥) → from ≡ n → 2 ≤ n
two_there n from some other same = omega (arith, some_left n some)

pub in_line : (bytes octets piece text : List ℕ) (from : ℕ) (found : Opening) → text ≡ octets ++ piece → from ≡ length octets → false ≡ nat_eq (length octets) 0 → (from ≡ 1 → ⊥) → IsReading (parts.Line octets) bytes
    → (NoStopWithin from text → Begins from text found) → Continues bytes octets piece found
in_line bytes octets piece text from found text_is from_is some other reading begins =
    let within : NoStopWithin (length octets) (octets ++ piece) = λ k early inside. stop_append octets piece k early ∙ reading.1 k early in
    record {
      came = two_kept bytes octets piece reading.0 (two_there (length octets) from some other from_is);
      begins = moved from_is text_is begins within;
    }
  where
    moved : from ≡ length octets → text ≡ octets ++ piece → (NoStopWithin from text → Begins from text found) → NoStopWithin (length octets) (octets ++ piece) → Begins (length octets) (octets ++ piece) found
    moved p q h within = subst (λ (t : List ℕ). Begins (length octets) t found) q (subst (λ (n : ℕ). Begins n text found) p (h (subst (λ (n : ℕ). NoStopWithin n text) (sym p) (subst (NoStopWithin (length octets)) (sym q) within))))

pub in_head : (bytes octets piece text : List ℕ) (from : ℕ) (found : Opening) → text ≡ octets ++ piece → from ≡ length octets → IsReading (parts.Head octets) bytes
    → (HasStart text → NoHeadWithin from text → Begins from text found) → Continues bytes octets piece found
in_head bytes octets piece text from found text_is from_is reading begins =
    record {
      came = skip_stays bytes piece (λ e. start_some octets reading.3 (sym reading.0 ∙ e)) (λ e. start_lone octets reading.3 (sym reading.0 ∙ e)) ∙ ap (λ (b : List ℕ). b ++ piece) reading.0;
      begins = moved from_is text_is begins (start_append octets piece reading.3) (none_within octets piece reading.1);
    }
  where
    moved : from ≡ length octets → text ≡ octets ++ piece → (HasStart text → NoHeadWithin from text → Begins from text found) → HasStart (octets ++ piece) → NoHeadWithin (length octets) (octets ++ piece) → Begins (length octets) (octets ++ piece) found
    moved p q h start within = subst (λ (t : List ℕ). Begins (length octets) t found) q (subst (λ (n : ℕ). Begins n text found) p (h (subst HasStart (sym q) start) (subst (λ (n : ℕ). NoHeadWithin n text) (sym p) (subst (NoHeadWithin (length octets)) (sym q) within))))

pub read_on_kept : (bytes octets piece : List ℕ) (step : RequestRead) → Continues bytes octets piece (Read step) → ReadsOn bytes piece step
read_on_kept bytes octets piece step on = steps_begun bytes piece (octets ++ piece) (length octets) step on.came (leaves_behind octets piece) on.begins

pub continues_as : (bytes octets piece : List ℕ) (a b : Opening) → a ≡ b → Continues bytes octets piece a → Continues bytes octets piece b
continues_as bytes octets piece a b same on = subst (Continues bytes octets piece) same on

-- ---- on in a head with too many fields

crowd_came : (bytes piece : List ℕ) → HasStart (skip_pairs bytes) → skip_pairs (bytes ++ piece) ≡ skip_pairs bytes ++ piece
crowd_came bytes piece start = skip_stays bytes piece (start_some (skip_pairs bytes) start) (start_lone (skip_pairs bytes) start)

pub crowd_fault : (bytes piece : List ℕ) (len : ℕ) → IsReading (parts.Crowded len) bytes → ReadsOn bytes piece (Fault 400)
crowd_fault bytes piece len reading more =
    let all : skip_pairs ((bytes ++ piece) ++ more) ≡ skip_pairs bytes ++ (piece ++ more) = ap skip_pairs (append_assoc bytes piece more) ∙ crowd_came bytes (piece ++ more) reading.3 in
    subst (λ (b : List ℕ). IsFault b 400) (sym all) (never_head_is_fault (skip_pairs bytes) (omega (arith, reading.3.stop.inside)) reading.1 (piece ++ more))

pub crowd_more : (bytes piece : List ℕ) (len size : ℕ) → size ≡ len + length piece → size < 65536 → IsReading (parts.Crowded len) bytes → ReadsOn bytes piece (More (parts.Crowded size))
crowd_more bytes piece len size size_is short reading =
    crowd_kept (skip_pairs bytes ++ piece) (bytes ++ piece) size (omega (arith, reading.0, length-append (skip_pairs bytes) piece)) (crowd_came bytes piece reading.3) (
      λ more. subst HasNoHead (sym (append_assoc (skip_pairs bytes) piece more)) (reading.1 (piece ++ more)),
      omega (arith, reading.0, length-append (skip_pairs bytes) piece),
      start_append (skip_pairs bytes) piece reading.3,
    )

pub if_ok_maps : {E : Type 0} (r : Result RequestRead E) (P Q : RequestRead → Type 0) → IfOk r P → ((s : RequestRead) → P s → Q s) → IfOk r Q
if_ok_maps (Ok s) P Q h f = f s h
if_ok_maps (Err e) P Q h f = tt

pub if_ok_both : {E : Type 0} (r : Result RequestRead E) (P Q R : RequestRead → Type 0) → IfOk r P → IfOk r Q → ((s : RequestRead) → P s → Q s → R s) → IfOk r R
if_ok_both (Ok s) P Q R h k f = f s h k
if_ok_both (Err e) P Q R h k f = tt

pub sized_on : (bytes piece : List ℕ) (h : RequestHead) (l : Filled) (step : RequestRead) → HasBegun (skip_pairs bytes) (parts.Sized h l) → (framing_of h ≡ framings.Length l.size → (behind : List ℕ) → l.body ≡ behind → BodyReadsOn h behind piece step) → ReadsOn bytes piece step
sized_on bytes piece h l step begun steps =
    let has = begun.has in
    steps_behind bytes piece begun.front begun.behind h step begun.text (subst (IsHead begun.front) (sym has.0) begun.is) (steps (ap framing_of has.0 ∙ has.1) begun.behind has.2)

pub chunked_on : (bytes piece : List ℕ) (h : RequestHead) (p : Progress) (step : RequestRead) → HasBegun (skip_pairs bytes) (parts.Chunked h p) → (framing_of h ≡ framings.Chunked → (behind : List ℕ) → IsFed p behind → BodyReadsOn h behind piece step) → ReadsOn bytes piece step
chunked_on bytes piece h p step begun steps =
    let has = begun.has in
    steps_behind bytes piece begun.front begun.behind h step begun.text (subst (IsHead begun.front) (sym has.0) begun.is) (steps (ap framing_of has.0 ∙ has.1) begun.behind has.2)
