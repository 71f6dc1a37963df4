-- Reads of octets in memory.
use Rattle.std.proofs.Common.{◌≡◌, ℕ, ◌+◌, ◌-◌, ◌^◌, ◌≤◌, ◌<◌, min, false, List, ◌++◌, length, take, drop, Option, None, Some, Result, Ok, Err, sym, ap, ◌∙◌, arith}
use Rattle.std.specs.Prelude.{is_ok, is_err, if◌then◌else◌}
use Rattle.std.proofs.lemmas.List.{length-drop, length-take, length-append, drop-drop, take-take, take-append-le, take_all}
use Rattle.std.proofs.Math.Seq.{take-add}
use Rattle.kj_io.specs.Streams.{StreamOctets, Reads, ReadsBehind, IsReadWithin, GivesFrom, given}
use Rattle.kj_io.specs.declared.stream.Got.{Got}
use Rattle.kj_io.specs.declared.stream.Got.TheVariants.{Bytes, End, NotYet, Failed}

-- octets in memory of which so many were given
abbrev pub octets_at : List ℕ → List ℕ → ℕ → StreamOctets
octets_at xs written at = record { given = take at xs; left = drop at xs; written = written }

pub reads_at : (xs written ys more : List ℕ) (at new : ℕ) (g : Got) (buf : List ℕ) → ys ≡ xs → more ≡ written → GivesFrom xs at new g buf
    → Reads (Some (octets_at xs written at)) (Some (octets_at ys more new)) g buf
reads_at xs written ys more at new (Bytes n) buf same kept h = record {
  front = h.0;
  enough = omega (arith, h.1, length-drop at xs);
  given = ap (λ (l : List ℕ). take new l) same ∙ ap (λ (k : ℕ). take k xs) h.2 ∙ take-add at n xs;
  left = ap (λ (l : List ℕ). drop new l) same ∙ ap (λ (k : ℕ). drop k xs) h.2 ∙ sym (drop-drop n at xs);
  written = kept;
}
reads_at xs written ys more at new End buf same kept h = (λ i. octets_at (same i) (kept i) (h.0 i), h.1)
reads_at xs written ys more at new NotYet buf same kept h = absurd h
reads_at xs written ys more at new Failed buf same kept h = absurd h

-- ---- a read behind octets that are there

took_front : (before after : Option StreamOctets) (answer : Got) (buf : List ℕ) → Reads before after answer buf → Reads before after answer (take (given answer) buf)
took_front None after answer buf reads = reads
took_front (Some o) None answer buf reads = absurd reads
took_front (Some o) (Some later) (Bytes n) buf reads = record {
  front = take-take n n buf (omega arith) ∙ reads.front;
  enough = reads.enough;
  given = reads.given;
  left = reads.left;
  written = reads.written;
}
took_front (Some o) (Some later) End buf reads = reads
took_front (Some o) (Some later) NotYet buf reads = reads
took_front (Some o) (Some later) Failed buf reads = reads

given_within : (answer : Got) (room : ℕ) → IsReadWithin answer room → given answer ≤ room
given_within (Bytes n) room within = within.0
given_within End room within = omega arith
given_within NotYet room within = omega arith
given_within Failed room within = omega arith

pub is_grown : {E : Type 0} (r : Result (Unit {0}) E) (new front octets more other : List ℕ) → false ≡ is_err r → front ≡ octets → new ≡ (if is_ok r then front ++ more else other) → new ≡ octets ++ more
is_grown (Ok u) new front octets more other ok same is = is ∙ ap (λ (b : List ℕ). b ++ more) same
is_grown (Err e) new front octets more other ok same is = absurd (cc (ok))

pub grown_len : {E : Type 0} (r : Result (Unit {0}) E) (new grown other : ℕ) → false ≡ is_err r → new ≡ (if is_ok r then grown else other) → new ≡ grown
grown_len (Ok u) new grown other ok is = is
grown_len (Err e) new grown other ok is = absurd (cc (ok))

-- the octets that stay in front, and those that were read
pub behind_read : (before after : Option StreamOctets) (octets rest items buf later : List ℕ) (from count len : ℕ) (answer : Got) → from ≡ length octets → items ≡ octets ++ rest → take from buf ≡ take from items → length items ≡ len → length buf ≡ length items → len < 2 ^ 64
    → later ≡ take count (take len (buf ++ drop (length buf) items)) → count ≡ min (from + given answer) (2 ^ 64 - 1) → IsReadWithin answer (length items - from) → Reads before after answer (drop from buf) → ReadsBehind before after octets later answer
behind_read before after octets rest items buf later from count len answer from_is items_is front len_is same short later_is count_is within reads =
    let room : given answer ≤ length items - from = given_within answer (length items - from) within in
    let inside : from ≤ length items = omega (arith, from_is, ap length items_is, length-append octets rest) in
    let whole : take len (buf ++ drop (length buf) items) ≡ buf = take-append-le len buf (drop (length buf) items) (omega (arith, len_is, same)) ∙ take_all len buf (omega (arith, len_is, same)) in
    let counted : count ≡ from + given answer = omega (arith, count_is, room, inside, len_is, short) in
    let fronts : take from buf ≡ octets = front ∙ ap (take from) items_is ∙ ap (λ (k : ℕ). take k (octets ++ rest)) from_is ∙ take-append-le (length octets) octets rest (omega arith) ∙ take_all (length octets) octets (omega arith) in
    record {
      piece = take (given answer) (drop from buf);
      stays = later_is ∙ ap (take count) whole ∙ ap (λ (k : ℕ). take k buf) counted ∙ take-add from (given answer) buf ∙ ap (λ (b : List ℕ). b ++ take (given answer) (drop from buf)) fronts;
      count = omega (arith, length-take (given answer) (drop from buf), length-drop from buf, room, inside, same);
      reads = took_front before after answer (drop from buf) reads;
    }
