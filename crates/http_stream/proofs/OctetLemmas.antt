-- Octets that were read, and what a stream says of them.
use Rattle.std.proofs.Common.{◌≡◌, ℕ, ◌+◌, ◌-◌, ◌≤◌, Option, Some, None, List, [], ◌∷◌, ◌++◌, length, take, drop, refl, sym, ap, subst, ◌∙◌, arith}
use Rattle.std.specs.Prelude.{IfSome}
use Rattle.std.proofs.lemmas.List.{append-nil, drop-drop, drop_at, length-drop, take-append-le, take_all}
use Rattle.kj_io.specs.Streams.{StreamOctets, Reads, ReadsBehind}
use Rattle.kj_io.specs.declared.stream.Got.{Got}
use Rattle.kj_io.specs.declared.stream.Got.TheVariants as got
use Rattle.http_core.specs.declared.read.RequestRead.{RequestRead}
use Rattle.http_core.specs.declared.read.RequestRead.TheVariants.{More, Whole, Fault}
use Rattle.http_core.specs.Requests.{skip_pairs, IsRequest}
use Rattle.http_core.specs.Reading.{ReadsOn}
use Rattle.http_stream.specs.declared.stage.Stage.{Stage}
use Rattle.http_stream.specs.declared.stage.Stage.TheVariants.{Reading}
use Rattle.http_stream.specs.Stages.{behind, Leaves}
use Rattle.http_stream.specs.Standing.{HasPassed, ReadsAt, IsAtEnd}

behind_piece : (octets : List ℕ) (from left : ℕ) → from ≤ length octets → left ≤ length (drop from octets) → drop (length (drop from octets) - left) (drop from octets) ≡ behind octets left
behind_piece octets from left within then_within =
    let places : from + (length (drop from octets) - left) ≡ length octets - left = omega (arith, within, then_within, length-drop from octets) in
    drop-drop (length (drop from octets) - left) from octets ∙ ap (λ (n : ℕ). drop n octets) places

-- what was read behind the first octets
pub reads_at : (octets rest : List ℕ) (from : ℕ) (read : RequestRead) → from ≤ length octets → ReadsOn rest (drop from octets) read → ReadsAt octets (rest ++ drop from octets) read
reads_at octets rest from (More part) within reads = reads
reads_at octets rest from (Whole request left) within reads = (
  omega (arith, reads.0, length-drop from octets),
  subst (λ (b : List ℕ). IsRequest (skip_pairs (rest ++ drop from octets)) request b) (behind_piece octets from left within reads.0) reads.1,
)
reads_at octets rest from (Fault code) within reads = reads

pub piece_behind : (octets later piece : List ℕ) → later ≡ octets ++ piece → drop (length octets) later ≡ piece
piece_behind octets later piece is = ap (drop (length octets)) is ∙ drop_at octets piece (length octets) refl

pub nothing_behind : (octets later piece : List ℕ) → later ≡ octets ++ piece → length piece ≡ 0 → later ≡ octets
nothing_behind octets later [] is none = is ∙ append-nil octets
nothing_behind octets later (x ∷ piece) is none = absurd (omega (arith, none))

-- ---- the stream

-- texts were made behind those that there were, and the stage says no more of what the stream has left
pub passed_on : (stream : Option StreamOctets) (a b : Stage) (octets made later more : List ℕ) (sent : ℕ) → sent ≤ length made → later ≡ made ++ more → ((left : List ℕ) → Leaves a left → Leaves b left)
    → IfSome stream (HasPassed a octets made sent) → IfSome stream (HasPassed b octets later sent)
passed_on None a b octets made later more sent within grown leaves is = tt
passed_on (Some o) a b octets made later more sent within grown leaves is = record {
  given = is.given;
  written = is.written ∙ sym (take-append-le sent made more within) ∙ ap (take sent) (sym grown);
  left = leaves o.left is.left;
}

pub passed_as : (stream : Option StreamOctets) (a b : Stage) (octets made : List ℕ) (sent : ℕ) → ((left : List ℕ) → Leaves a left → Leaves b left) → IfSome stream (HasPassed a octets made sent) → IfSome stream (HasPassed b octets made sent)
passed_as None a b octets made sent leaves is = tt
passed_as (Some o) a b octets made sent leaves is = record { given = is.given; written = is.written; left = leaves o.left is.left }

-- a read
given_bytes : (o later : StreamOctets) (octets piece read : List ℕ) (n : ℕ) → read ≡ octets ++ piece → length piece ≡ n → take n piece ≡ take n o.left → later.given ≡ o.given ++ take n o.left → o.given ≡ octets → later.given ≡ read
given_bytes o later octets piece read n grown count front given is =
    given ∙ ap (λ (b : List ℕ). b ++ take n o.left) is ∙ ap (λ (b : List ℕ). octets ++ b) (sym front ∙ take_all n piece (omega (arith, count))) ∙ sym grown

same_stream : (o later : StreamOctets) (octets read made : List ℕ) (sent : ℕ) → later ≡ o → read ≡ octets → HasPassed Reading octets made sent o → HasPassed Reading read made sent later
same_stream o later octets read made sent same same_octets is = record {
  given = ap (λ (x : StreamOctets). x.given) same ∙ is.given ∙ sym same_octets;
  written = ap (λ (x : StreamOctets). x.written) same ∙ is.written;
  left = tt;
}

pub passed_read : (before after : Option StreamOctets) (octets read made : List ℕ) (sent : ℕ) (answer : Got) → ReadsBehind before after octets read answer → IfSome before (HasPassed Reading octets made sent) → IfSome after (HasPassed Reading read made sent)
passed_read None None octets read made sent answer reads is = tt
passed_read None (Some later) octets read made sent answer reads is = absurd (cc (reads.reads))
passed_read (Some o) None octets read made sent answer reads is = absurd reads.reads
passed_read (Some o) (Some later) octets read made sent (got.Bytes n) reads is = record {
  given = given_bytes o later octets reads.piece read n reads.stays reads.count reads.reads.front reads.reads.given is.given;
  written = reads.reads.written ∙ is.written;
  left = tt;
}
passed_read (Some o) (Some later) octets read made sent got.End reads is = same_stream o later octets read made sent reads.reads.0 (nothing_behind octets read reads.piece reads.stays reads.count) is
passed_read (Some o) (Some later) octets read made sent got.NotYet reads is = same_stream o later octets read made sent reads.reads (nothing_behind octets read reads.piece reads.stays reads.count) is
passed_read (Some o) (Some later) octets read made sent got.Failed reads is = same_stream o later octets read made sent reads.reads (nothing_behind octets read reads.piece reads.stays reads.count) is

pub end_read : (before after : Option StreamOctets) (octets read : List ℕ) → ReadsBehind before after octets read got.End → IsAtEnd after
end_read None None octets read reads = tt
end_read None (Some later) octets read reads = absurd (cc (reads.reads))
end_read (Some o) None octets read reads = absurd reads.reads
end_read (Some o) (Some later) octets read reads = ap (λ (x : StreamOctets). x.left) reads.reads.0 ∙ reads.reads.1
