-- What the front of a piece does to a reader of a chunked body.
use Rattle.std.proofs.Common.{◌≡◌, ℕ, ◌+◌, ◌-◌, ◌<◌, ◌≤◌, ◌⊎◌, List, [], ◌∷◌, ◌++◌, length, get_or, take, drop, refl, ap, sym, subst, ◌∙◌, arith, inl, inr, take-add}
use Rattle.std.specs.Prelude.{IsTrue}
use Rattle.std.proofs.lemmas.List.{append-nil, append_assoc, length-append, length-take, take_all, take_at, take-append-drop}
use Rattle.std.proofs.lemmas.Bool.{cases_lt}
use Rattle.std.proofs.Math.Seq.{take-append-add}
use Rattle.http_heads.specs.declared.field.Field.{Field}
use Rattle.http_heads.specs.Section.{StartsWithSection, HasNoSection, NeverHasSection}
use Rattle.httparse.specs.Grammar.{print_section}
use Rattle.http_heads.proofs.FrontLemmas.{front_inside}
use Rattle.http_heads.proofs.SectionLemmas.{section_append}
use Rattle.http_heads.proofs.EndingLemmas.{section_ends, section_inside}
use Rattle.http_frames.specs.declared.reader.Stage.{Stage}
use Rattle.http_frames.specs.declared.reader.Stage.TheVariants as stages
use Rattle.http_frames.specs.Chunks.{is_size_line, size_of, line_text, Chunk, IsChunk, IsTrailer, texts, contents, AreChunks, Body, NeverHasBody, NoCr, Waits}
use Rattle.http_frames.specs.Reader.{HasData, HasLast, Keeps, IsReadAs, IsSound}
use Rattle.http_frames.specs.Pieces.{IsWholeChunk}
use Rattle.http_frames.proofs.LineLemmas.{no_line_in, no_line_before_lf}
use Rattle.http_frames.proofs.ChunkLemmas.{texts_append, texts_push, contents_push, chunks_push, NeverHasUnit, never_body, never_unit_long, never_unit_no_lf, never_unit_unsized, never_unit_large, never_unit_end, never_unit_trailer, body_text}

-- the same at a stage that is known
as_stage : (stage known : Stage) (pending body bytes : List ℕ) → stage ≡ known → IsReadAs stage pending body bytes → IsReadAs known pending body bytes
as_stage stage known pending body bytes same read = subst (λ (s : Stage). IsReadAs s pending body bytes) same read

sound_at : (stage known : Stage) (pending body : List ℕ) → stage ≡ known → IsSound stage pending body → IsSound known pending body
sound_at stage known pending body same sound = subst (λ (s : Stage). IsSound s pending body) same sound

-- more octets behind the chunks
grown : (bytes x : List ℕ) (cs : List Chunk) (tail : List ℕ) → bytes ≡ texts cs tail → bytes ++ x ≡ texts cs (tail ++ x)
grown bytes x cs tail text = ap (λ (b : List ℕ). b ++ x) text ∙ texts_append cs tail x

-- the chunks stay, and what is kept of the next grows
keeps_on : (stage next : Stage) (pending body pending' body' bytes x got : List ℕ) → (read : IsReadAs stage pending body bytes) → body' ≡ contents read.chunks ++ got → Keeps next pending' got (read.tail ++ x) → IsReadAs next pending' body' (bytes ++ x)
keeps_on stage next pending body pending' body' bytes x got read body_is keeps = record {
  chunks = read.chunks;
  are = read.are;
  got = got;
  tail = read.tail ++ x;
  text = grown bytes x read.chunks read.tail read.text;
  body_is = body_is;
  keeps = keeps;
}

-- nothing that follows makes it a body
never_read : (stage : Stage) (pending body bytes piece : List ℕ) → (read : IsReadAs stage pending body bytes) → length body ≤ 16777216 → NeverHasUnit (16777216 - length (contents read.chunks)) (read.tail ++ piece) → NeverHasBody (bytes ++ piece)
never_read stage pending body bytes piece read small never =
    never_body (bytes ++ piece) read.chunks (read.tail ++ piece) read.are (grown bytes piece read.chunks read.tail read.text)
    (omega (arith, ap length read.body_is, length-append (contents read.chunks) read.got)) never

-- ---- the line of a chunk

no_cr_append : (a b : List ℕ) → NoCr a → NoCr b → NoCr (a ++ b)
no_cr_append [] b none also = also
no_cr_append (x ∷ a) b none also = (none.0, no_cr_append a b none.1 also)

pub line_sound : (stage next : Stage) (pending body front pending' : List ℕ) → stage ≡ stages.Line → (next ≡ stages.Line) ⊎ (next ≡ stages.LineEnd) → IsSound stage pending body → NoCr front → pending' ≡ pending ++ front → length front ≤ 4094 - length pending → IsSound next pending' body
line_sound stage next pending body front pending' at to sound none grows fits =
    let before = sound_at stage stages.Line pending body at sound in
    let no_cr : NoCr pending' = subst NoCr (sym grows) (no_cr_append pending front before.kept.0 none) in
    let short : length pending' ≤ 4094 = omega (arith, before.kept.1, ap length grows, length-append pending front) in
    elim to [
      | inl line ↦ subst (λ (s : Stage). IsSound s pending' body) (sym line) (record { small = before.small; kept = (no_cr, short) })
      | inr end ↦ subst (λ (s : Stage). IsSound s pending' body) (sym end) (record { small = before.small; kept = (no_cr, short) })
    ]

pub line_grows : (stage : Stage) (pending body piece pending' bytes : List ℕ) → stage ≡ stages.Line → pending' ≡ pending ++ piece → IsReadAs stage pending body bytes → IsReadAs stage pending' body (bytes ++ take (length piece) piece)
line_grows stage pending body piece pending' bytes at grows read =
    let r = as_stage stage stages.Line pending body bytes at read in
    as_stage stages.Line stage pending' body _ (sym at) (subst (λ (x : List ℕ). IsReadAs stages.Line pending' body (bytes ++ x)) (sym (take_all (length piece) piece (omega arith)))
    (keeps_on stages.Line stages.Line pending body pending' body bytes piece [] r
    (r.body_is ∙ ap (λ (g : List ℕ). contents r.chunks ++ g) r.keeps.1)
    (ap (λ (t : List ℕ). t ++ piece) r.keeps.0 ∙ sym grows, refl)))

pub line_long : (stage : Stage) (pending body piece front behind bytes : List ℕ) → stage ≡ stages.Line → IsSound stage pending body → piece ≡ front ++ behind → NoCr front → 4094 - length pending < length front → IsReadAs stage pending body bytes → NeverHasBody (bytes ++ piece)
line_long stage pending body piece front behind bytes at sound parts none long read =
    let r = as_stage stage stages.Line pending body bytes at read in
    let before = sound_at stage stages.Line pending body at sound in
    never_read stages.Line pending body bytes piece r before.small
    (never_unit_long _ (r.tail ++ piece) (pending ++ front) behind
    ((λ i. r.keeps.0 i ++ parts i) ∙ sym (append_assoc pending front behind))
    (no_cr_append pending front before.kept.0 none)
    (omega (arith, length-append pending front)))

-- a front, its CR and what follows
pub cut_piece : (piece : List ℕ) (at : ℕ) → at < length piece → piece ≡ take at piece ++ 13 ∷ drop (at + 1) piece → take (at + 1) piece ≡ take at piece ++ 13 ∷ []
cut_piece piece at inside cut = ap (take (at + 1)) (cut ∙ sym (append_assoc (take at piece) (13 ∷ []) (drop (at + 1) piece))) ∙ take_at (take at piece ++ 13 ∷ []) (drop (at + 1) piece) (at + 1) (omega (arith, length-append (take at piece) (13 ∷ []), length-take at piece))

pub line_ends : (stage : Stage) (pending body piece pending' bytes : List ℕ) (at : ℕ) → stage ≡ stages.Line → at < length piece → piece ≡ take at piece ++ 13 ∷ drop (at + 1) piece → pending' ≡ pending ++ take at piece → IsReadAs stage pending body bytes → IsReadAs stages.LineEnd pending' body (bytes ++ take (at + 1) piece)
line_ends stage pending body piece pending' bytes at is inside cut grows read =
    let r = as_stage stage stages.Line pending body bytes is read in
    keeps_on stages.Line stages.LineEnd pending body pending' body bytes (take (at + 1) piece) [] r
    (r.body_is ∙ ap (λ (g : List ℕ). contents r.chunks ++ g) r.keeps.1)
    ((λ i. r.keeps.0 i ++ cut_piece piece at inside cut i) ∙ sym (append_assoc pending (take at piece) (13 ∷ [])) ∙ ap (λ (p : List ℕ). p ++ 13 ∷ []) (sym grows), refl)

-- ---- the LF of a line

-- what the first octet of a piece is
pub first_of : (piece : List ℕ) → 0 < length piece → (b : ℕ) × (rest : List ℕ) × (piece ≡ b ∷ rest) × (take 1 piece ≡ b ∷ []) × (get_or piece 0 0 ≡ b)
first_of [] some = absurd (omega arith)
first_of (b ∷ rest) some = (b, rest, refl, refl, refl)

pub end_missing : (stage : Stage) (pending body piece bytes : List ℕ) → stage ≡ stages.LineEnd → IsSound stage pending body → 0 < length piece → (get_or piece 0 0 ≡ 10 → ⊥) → IsReadAs stage pending body bytes → NeverHasBody (bytes ++ piece)
end_missing stage pending body piece bytes at sound some other read =
    let r = as_stage stage stages.LineEnd pending body bytes at read in
    let before = sound_at stage stages.LineEnd pending body at sound in
    let f = first_of piece some in
    never_read stages.LineEnd pending body bytes piece r before.small
    (never_unit_no_lf _ (r.tail ++ piece) pending f.0 f.1
    ((λ i. r.keeps.0 i ++ f.2 i) ∙ append_assoc pending (13 ∷ []) (f.0 ∷ f.1)) before.kept.0 (λ h. other (f.4 ∙ h)))

-- with the LF the line is whole
whole_line : (pending body piece bytes : List ℕ) → (r : IsReadAs stages.LineEnd pending body bytes) → 0 < length piece → get_or piece 0 0 ≡ 10 → (rest : List ℕ) × (r.tail ++ piece ≡ line_text pending rest) × (r.tail ++ take 1 piece ≡ line_text pending [])
whole_line pending body piece bytes r some lf =
    let f = first_of piece some in
    let b_is : f.0 ≡ 10 = sym f.4 ∙ lf in (
      f.1,
      (λ i. r.keeps.0 i ++ (f.2 ∙ ap (λ (b : ℕ). b ∷ f.1) b_is) i) ∙ append_assoc pending (13 ∷ []) (10 ∷ f.1),
      (λ i. r.keeps.0 i ++ (f.3 ∙ ap (λ (b : ℕ). b ∷ []) b_is) i) ∙ append_assoc pending (13 ∷ []) (10 ∷ []),
    )

pub line_unsized : (stage : Stage) (pending body piece bytes : List ℕ) → stage ≡ stages.LineEnd → IsSound stage pending body → 0 < length piece → get_or piece 0 0 ≡ 10 → (IsTrue (is_size_line pending) → ⊥) → IsReadAs stage pending body bytes → NeverHasBody (bytes ++ piece)
line_unsized stage pending body piece bytes at sound some lf unsized read =
    let r = as_stage stage stages.LineEnd pending body bytes at read in
    let before = sound_at stage stages.LineEnd pending body at sound in
    let whole = whole_line pending body piece bytes r some lf in
    never_read stages.LineEnd pending body bytes piece r before.small (never_unit_unsized _ (r.tail ++ piece) pending whole.0 whole.1 before.kept.0 unsized)

pub line_large : (stage : Stage) (pending body piece bytes : List ℕ) → stage ≡ stages.LineEnd → IsSound stage pending body → 0 < length piece → get_or piece 0 0 ≡ 10 → IsTrue (is_size_line pending) → 16777216 - length body < size_of pending → IsReadAs stage pending body bytes → NeverHasBody (bytes ++ piece)
line_large stage pending body piece bytes at sound some lf sized large read =
    let r = as_stage stage stages.LineEnd pending body bytes at read in
    let before = sound_at stage stages.LineEnd pending body at sound in
    let whole = whole_line pending body piece bytes r some lf in
    never_read stages.LineEnd pending body bytes piece r before.small
    (never_unit_large _ (r.tail ++ piece) pending whole.0 whole.1 sized (omega (arith, ap length r.body_is, ap length r.keeps.1, length-append (contents r.chunks) r.got)))

pub line_opens : (stage : Stage) (pending body piece pending' bytes : List ℕ) (left : ℕ) → stage ≡ stages.LineEnd → 0 < length piece → get_or piece 0 0 ≡ 10 → pending' ≡ [] → IsTrue (is_size_line pending) → 0 < left → size_of pending ≡ left → IsReadAs stage pending body bytes → IsReadAs (stages.Data left) pending' body (bytes ++ take 1 piece)
line_opens stage pending body piece pending' bytes left at some lf empty sized above size read =
    let r = as_stage stage stages.LineEnd pending body bytes at read in
    let whole = whole_line pending body piece bytes r some lf in
    keeps_on stages.LineEnd (stages.Data left) pending body pending' body bytes (take 1 piece) [] r
    (r.body_is ∙ ap (λ (g : List ℕ). contents r.chunks ++ g) r.keeps.1)
    (record { line = pending; sized = sized; some = omega arith; size = omega arith; text = whole.2 })

pub line_closes : (stage : Stage) (pending body piece pending' bytes : List ℕ) → stage ≡ stages.LineEnd → 0 < length piece → get_or piece 0 0 ≡ 10 → pending' ≡ [] → IsTrue (is_size_line pending) → size_of pending ≡ 0 → IsReadAs stage pending body bytes → IsReadAs stages.Trailer pending' body (bytes ++ take 1 piece)
line_closes stage pending body piece pending' bytes at some lf bare sized empty read =
    let r = as_stage stage stages.LineEnd pending body bytes at read in
    let whole = whole_line pending body piece bytes r some lf in
    keeps_on stages.LineEnd stages.Trailer pending body pending' body bytes (take 1 piece) [] r
    (r.body_is ∙ ap (λ (g : List ℕ). contents r.chunks ++ g) r.keeps.1)
    (record { line = pending; last = record { sized = sized; zero = empty }; text = whole.2 ∙ ap (line_text pending) (sym bare) }, refl)

pub opens_sound : (stage : Stage) (pending body pending' : List ℕ) (left : ℕ) → IsSound stage pending body → 0 < left → left ≤ 16777216 - length body → IsSound (stages.Data left) pending' body
opens_sound stage pending body pending' left sound above fits = record { small = sound.small; kept = (above, omega (arith, sound.small)) }

no_section_in_nothing : HasNoSection []
no_section_in_nothing = λ fields len rest has. omega (arith, (section_ends [] fields len rest has).0, section_inside [] fields len rest has)

pub closes_sound : (stage : Stage) (pending body pending' : List ℕ) → IsSound stage pending body → pending' ≡ [] → IsSound stages.Trailer pending' body
closes_sound stage pending body pending' sound empty = record { small = sound.small; kept = (subst HasNoSection (sym empty) no_section_in_nothing, omega (arith, ap length empty)) }

-- ---- the data of a chunk

more_data : (tail got behind x : List ℕ) (left : ℕ) → (h : HasData tail got behind left) → tail ++ x ≡ line_text h.line (got ++ (behind ++ x))
more_data tail got behind x left h = ap (λ (t : List ℕ). t ++ x) h.text ∙ append_assoc h.line (13 ∷ 10 ∷ (got ++ behind)) x ∙ ap (line_text h.line) (append_assoc got behind x)

got_more : (tail got x : List ℕ) (left next : ℕ) → left ≡ length x + next → HasData tail got [] left → HasData (tail ++ x) (got ++ x) [] next
got_more tail got x left next count h = record {
  line = h.line;
  sized = h.sized;
  some = h.some;
  size = omega (arith, h.size, count, length-append got x);
  text = more_data tail got [] x left h ∙ ap (line_text h.line) (sym (append-nil (got ++ x)));
}

took_data : (stage next : Stage) (pending body body' bytes x : List ℕ) (left rest : ℕ) → stage ≡ stages.Data left → left ≡ length x + rest → body' ≡ body ++ x → ((tail got : List ℕ) → HasData tail got [] rest → Keeps next pending got tail) → IsReadAs stage pending body bytes → IsReadAs next pending body' (bytes ++ x)
took_data stage next pending body body' bytes x left rest at count grows keeps read =
    let r = as_stage stage (stages.Data left) pending body bytes at read in
    keeps_on (stages.Data left) next pending body pending body' bytes x (r.got ++ x) r
    (grows ∙ ap (λ (b : List ℕ). b ++ x) r.body_is ∙ append_assoc (contents r.chunks) r.got x)
    (keeps (r.tail ++ x) (r.got ++ x) (got_more r.tail r.got x left rest count r.keeps))

pub data_grows : (stage : Stage) (pending body piece body' bytes : List ℕ) (left : ℕ) → stage ≡ stages.Data left → length piece < left → body' ≡ body ++ piece → IsReadAs stage pending body bytes → IsReadAs (stages.Data (left - length piece)) pending body' (bytes ++ take (length piece) piece)
data_grows stage pending body piece body' bytes left at less grows read =
    subst (λ (x : List ℕ). IsReadAs (stages.Data (left - length piece)) pending body' (bytes ++ x)) (sym (take_all (length piece) piece (omega arith)))
    (took_data stage (stages.Data (left - length piece)) pending body body' bytes piece left (left - length piece) at (omega arith) grows (λ tail got h. h) read)

pub data_ends : (stage : Stage) (pending body piece body' bytes : List ℕ) (left : ℕ) → stage ≡ stages.Data left → left ≤ length piece → body' ≡ body ++ take left piece → IsReadAs stage pending body bytes → IsReadAs stages.DataCr pending body' (bytes ++ take left piece)
data_ends stage pending body piece body' bytes left at enough grows read =
    took_data stage stages.DataCr pending body body' bytes (take left piece) left 0 at (omega (arith, length-take left piece)) grows (λ tail got h. h) read

pub data_sound : (stage : Stage) (pending body body' x : List ℕ) (left rest : ℕ) → stage ≡ stages.Data left → IsSound stage pending body → left ≡ length x + rest → body' ≡ body ++ x → length body' + rest ≤ 16777216
data_sound stage pending body body' x left rest at sound count grows =
    let before = sound_at stage (stages.Data left) pending body at sound in
    omega (arith, before.kept.1, ap length grows, length-append body x)

pub cr_missing : (stage : Stage) (pending body piece bytes : List ℕ) → stage ≡ stages.DataCr → IsSound stage pending body → 0 < length piece → (get_or piece 0 0 ≡ 13 → ⊥) → IsReadAs stage pending body bytes → NeverHasBody (bytes ++ piece)
cr_missing stage pending body piece bytes at sound some other read =
    let r = as_stage stage stages.DataCr pending body bytes at read in
    let f = first_of piece some in
    never_read stages.DataCr pending body bytes piece r sound.small
    (never_unit_end _ (r.tail ++ piece) r.keeps.line r.got piece (more_data r.tail r.got [] piece 0 r.keeps) r.keeps.sized r.keeps.some (omega (arith, r.keeps.size))
    (λ more rest h. let parts : f.0 ∷ (f.1 ++ more) ≡ 13 ∷ 10 ∷ rest = ap (λ (p : List ℕ). p ++ more) (sym f.2) ∙ h in let same : f.0 ≡ 13 = cc in other (f.4 ∙ same)))

pub lf_missing : (stage : Stage) (pending body piece bytes : List ℕ) → stage ≡ stages.DataLf → IsSound stage pending body → 0 < length piece → (get_or piece 0 0 ≡ 10 → ⊥) → IsReadAs stage pending body bytes → NeverHasBody (bytes ++ piece)
lf_missing stage pending body piece bytes at sound some other read =
    let r = as_stage stage stages.DataLf pending body bytes at read in
    let f = first_of piece some in
    never_read stages.DataLf pending body bytes piece r sound.small
    (never_unit_end _ (r.tail ++ piece) r.keeps.line r.got (13 ∷ piece) (more_data r.tail r.got (13 ∷ []) piece 0 r.keeps) r.keeps.sized r.keeps.some (omega (arith, r.keeps.size))
    (λ more rest h. let parts : 13 ∷ f.0 ∷ (f.1 ++ more) ≡ 13 ∷ 10 ∷ rest = ap (λ (p : List ℕ). 13 ∷ (p ++ more)) (sym f.2) ∙ h in let same : f.0 ≡ 10 = cc in other (f.4 ∙ same)))

pub cr_comes : (stage : Stage) (pending body piece bytes : List ℕ) → stage ≡ stages.DataCr → 0 < length piece → get_or piece 0 0 ≡ 13 → IsReadAs stage pending body bytes → IsReadAs stages.DataLf pending body (bytes ++ take 1 piece)
cr_comes stage pending body piece bytes at some cr read =
    let r = as_stage stage stages.DataCr pending body bytes at read in
    let f = first_of piece some in
    let one : take 1 piece ≡ 13 ∷ [] = f.3 ∙ ap (λ (b : ℕ). b ∷ []) (sym f.4 ∙ cr) in
    keeps_on stages.DataCr stages.DataLf pending body pending body bytes (take 1 piece) r.got r r.body_is
    (record { line = r.keeps.line; sized = r.keeps.sized; some = r.keeps.some; size = r.keeps.size; text = more_data r.tail r.got [] (take 1 piece) 0 r.keeps ∙ ap (λ (x : List ℕ). line_text r.keeps.line (r.got ++ x)) one })

pub lf_comes : (stage : Stage) (pending body piece pending' bytes : List ℕ) → stage ≡ stages.DataLf → 0 < length piece → get_or piece 0 0 ≡ 10 → pending' ≡ [] → IsReadAs stage pending body bytes → IsReadAs stages.Line pending' body (bytes ++ take 1 piece)
lf_comes stage pending body piece pending' bytes at some lf empty read =
    let r = as_stage stage stages.DataLf pending body bytes at read in
    let f = first_of piece some in
    let one : take 1 piece ≡ 10 ∷ [] = f.3 ∙ ap (λ (b : ℕ). b ∷ []) (sym f.4 ∙ lf) in
    let c : Chunk = record { line = r.keeps.line; data_bytes = r.got } in
    let is : IsChunk c = record { line = r.keeps.sized; size = omega (arith, r.keeps.size); some = omega (arith, r.keeps.size, r.keeps.some) } in
    let whole : r.tail ++ take 1 piece ≡ line_text r.keeps.line (line_text r.got []) = more_data r.tail r.got (13 ∷ []) (take 1 piece) 0 r.keeps ∙ ap (λ (x : List ℕ). line_text r.keeps.line (r.got ++ 13 ∷ x)) one in
    record {
      chunks = r.chunks ++ c ∷ [];
      are = chunks_push r.chunks c r.are is;
      got = [];
      tail = [];
      text = grown bytes (take 1 piece) r.chunks r.tail r.text ∙ ap (texts r.chunks) whole ∙ texts_push r.chunks c [];
      body_is = r.body_is ∙ sym (contents_push r.chunks c) ∙ sym (append-nil (contents (r.chunks ++ c ∷ [])));
      keeps = (sym empty, refl);
    }

pub line_starts_sound : (stage : Stage) (pending body pending' : List ℕ) → IsSound stage pending body → pending' ≡ [] → IsSound stages.Line pending' body
line_starts_sound stage pending body pending' sound empty = record { small = sound.small; kept = (subst NoCr (sym empty) tt, omega (arith, ap length empty)) }

-- ---- a chunk as a whole

pub whole_from_parts : (line behind piece octets rest left : List ℕ) (size : ℕ) → piece ≡ line ++ behind → behind ≡ 13 ∷ 10 ∷ (octets ++ rest) → rest ≡ 13 ∷ 10 ∷ left → IsTrue (is_size_line line) → size_of line ≡ size → length octets ≡ size → 0 < size → IsWholeChunk line octets piece
whole_from_parts line behind piece octets rest left size parts more last sized size_is count some = record {
  sized = sized;
  size = size_is ∙ sym count;
  some = omega (arith, count);
  rest = left;
  text = parts ∙ ap (λ (b : List ℕ). line ++ b) (more ∙ ap (λ (r : List ℕ). 13 ∷ 10 ∷ (octets ++ r)) last);
}

pub chunk_size : (line octets piece : List ℕ) → (w : IsWholeChunk line octets piece) → length piece ≡ length line + length octets + 4 + length w.rest
chunk_size line octets piece w = omega (arith, ap length w.text, length-append line (13 ∷ 10 ∷ (octets ++ 13 ∷ 10 ∷ w.rest)), length-append octets (13 ∷ 10 ∷ w.rest))

pub chunk_comes : (stage : Stage) (pending body piece body' line octets bytes : List ℕ) (n : ℕ) → stage ≡ stages.Line → pending ≡ [] → IsWholeChunk line octets piece → n ≡ length line + length octets + 4 → body' ≡ body ++ octets → IsReadAs stage pending body bytes → IsReadAs stage pending body' (bytes ++ take n piece)
chunk_comes stage pending body piece body' line octets bytes n at bare w count grows read =
    let r = as_stage stage stages.Line pending body bytes at read in
    let c : Chunk = record { line = line; data_bytes = octets } in
    let is : IsChunk c = record { line = w.sized; size = w.size; some = w.some } in
    let text = line_text line (line_text octets []) in
    let parts : text ++ w.rest ≡ line_text line (line_text octets w.rest) = append_assoc line (13 ∷ 10 ∷ (octets ++ 13 ∷ 10 ∷ [])) w.rest ∙ ap (line_text line) (append_assoc octets (13 ∷ 10 ∷ []) w.rest) in
    let size : length text ≡ n = omega (arith, length-append line (13 ∷ 10 ∷ (octets ++ 13 ∷ 10 ∷ [])), length-append octets (13 ∷ 10 ∷ [])) in
    let taken : take n piece ≡ text = ap (take n) (w.text ∙ sym parts) ∙ take_at text w.rest n size in
    let whole : r.tail ++ take n piece ≡ text = λ i. (r.keeps.0 ∙ bare) i ++ taken i in
    let after : IsReadAs stages.Line pending body' (bytes ++ take n piece) =
    record {
      chunks = r.chunks ++ c ∷ [];
      are = chunks_push r.chunks c r.are is;
      got = [];
      tail = [];
      text = grown bytes (take n piece) r.chunks r.tail r.text ∙ ap (texts r.chunks) whole ∙ texts_push r.chunks c [];
      body_is = grows ∙ ap (λ (b : List ℕ). b ++ octets) (r.body_is ∙ ap (λ (g : List ℕ). contents r.chunks ++ g) r.keeps.1 ∙ append-nil (contents r.chunks)) ∙ sym (contents_push r.chunks c) ∙ sym (append-nil (contents (r.chunks ++ c ∷ [])));
      keeps = (sym bare, refl);
    } in
    as_stage stages.Line stage pending body' _ (sym at) after

pub chunk_sound : (stage : Stage) (pending body body' octets : List ℕ) → stage ≡ stages.Line → IsSound stage pending body → body' ≡ body ++ octets → length octets ≤ 16777216 - length body → IsSound stage pending body'
chunk_sound stage pending body body' octets at sound grows fits =
    let before = sound_at stage stages.Line pending body at sound in
    sound_at stages.Line stage pending body' (sym at) (record { small = omega (arith, before.small, ap length grows, length-append body octets); kept = before.kept })

-- ---- the trailer

never_more : (bytes more : List ℕ) → NeverHasSection bytes → NeverHasSection (bytes ++ more)
never_more bytes more none = λ other. subst HasNoSection (sym (append_assoc bytes more other)) (none (more ++ other))

-- a section that ends in the first octets stands at their front
section_within : (first x : List ℕ) (fields : List Field) (len : ℕ) (rest : List ℕ) → StartsWithSection (first ++ x) fields len rest → len ≤ length first → (other : List ℕ) × StartsWithSection first fields len other
section_within first x fields len rest has short =
    let middle = front_inside first x (print_section has.lines has.last) rest has.reads.1 (omega (arith, has.len_is)) in (
      middle.0,
      record { lines = has.lines; last = has.last; reads = (has.reads.0, middle.1); few = has.few; len_is = has.len_is; short = has.short; parts = has.parts },
    )

-- where no section ended before, and none ends behind, none is there
pub still_none : (first x whole : List ℕ) → whole ≡ first ++ x → HasNoSection first → ((fields : List Field) (len : ℕ) (rest : List ℕ) → StartsWithSection whole fields len rest → len ≤ length first) → HasNoSection whole
still_none first x whole grows none ends = λ fields len rest has.
    let inner = section_within first x fields len rest (subst (λ (b : List ℕ). StartsWithSection b fields len rest) grows has) (ends fields len rest has) in
    none fields len inner.0 inner.1

-- a section ends behind the octets of which none was one
pub ends_behind_first : (first x whole : List ℕ) (fields : List Field) (len : ℕ) (rest : List ℕ) → whole ≡ first ++ x → HasNoSection first → StartsWithSection whole fields len rest → length first ≤ len
ends_behind_first first x whole fields len rest grows none has = elim (cases_lt len (length first)) [
  | inl early ↦ absurd (let inner = section_within first x fields len rest (subst (λ (b : List ℕ). StartsWithSection b fields len rest) grows has) (omega arith) in none fields len inner.0 inner.1)
  | inr late ↦ late
]

-- the octets of a section alone
section_cut : (bytes : List ℕ) (fields : List Field) (len : ℕ) (rest : List ℕ) → StartsWithSection bytes fields len rest → StartsWithSection (take len bytes) fields len []
section_cut bytes fields len rest has =
    let front = print_section has.lines has.last in
    let cut : take len bytes ≡ front ++ [] = ap (take len) has.reads.1 ∙ take_at front rest len (sym has.len_is) ∙ sym (append-nil front) in
    record { lines = has.lines; last = has.last; reads = (has.reads.0, cut); few = has.few; len_is = has.len_is; short = has.short; parts = has.parts }

more_trailer : (tail pending x : List ℕ) → (h : HasLast tail pending) → tail ++ x ≡ line_text h.line (pending ++ x)
more_trailer tail pending x h = ap (λ (t : List ℕ). t ++ x) h.text ∙ append_assoc h.line (13 ∷ 10 ∷ pending) x

-- the front that was taken
pub front_taken : (front piece : List ℕ) (most : ℕ) → front ≡ take most piece → take (length front) piece ≡ front
front_taken front piece most h =
    let parts : piece ≡ front ++ drop most piece = sym (take-append-drop most piece) ∙ ap (λ (f : List ℕ). f ++ drop most piece) (sym h) in
    ap (take (length front)) parts ∙ take_at front (drop most piece) (length front) refl

-- a reader of a trailer, before or after too many fields
abbrev pub InTrailer : Stage → Type 0
InTrailer stage = (stage ≡ stages.Trailer) ⊎ (stage ≡ stages.Crowded)

last_of : (stage : Stage) (pending body bytes : List ℕ) → InTrailer stage → (r : IsReadAs stage pending body bytes) → HasLast r.tail pending × (r.got ≡ [])
last_of stage pending body bytes at r = elim at [
  | inl here ↦ subst (λ (s : Stage). Keeps s pending r.got r.tail) here r.keeps
  | inr here ↦ subst (λ (s : Stage). Keeps s pending r.got r.tail) here r.keeps
]

pub trailer_grows : (stage next : Stage) (pending body front piece pending' bytes : List ℕ) (most : ℕ) → InTrailer stage → InTrailer next → front ≡ take most piece → pending' ≡ pending ++ front → IsReadAs stage pending body bytes → IsReadAs next pending' body (bytes ++ take (length front) piece)
trailer_grows stage next pending body front piece pending' bytes most at to cut grows r =
    let kept = last_of stage pending body bytes at r in
    let keeps : HasLast (r.tail ++ front) pending' × ([] ≡ []) = (record { line = kept.0.line; last = kept.0.last; text = more_trailer r.tail pending front kept.0 ∙ ap (line_text kept.0.line) (sym grows) }, refl) in
    subst (λ (x : List ℕ). IsReadAs next pending' body (bytes ++ x)) (sym (front_taken front piece most cut))
    (keeps_on stage next pending body pending' body bytes front [] r
    (r.body_is ∙ ap (λ (g : List ℕ). contents r.chunks ++ g) kept.1)
    (elim to [
      | inl there ↦ subst (λ (s : Stage). Keeps s pending' [] (r.tail ++ front)) (sym there) keeps
      | inr there ↦ subst (λ (s : Stage). Keeps s pending' [] (r.tail ++ front)) (sym there) keeps
    ]))

pub trailer_never : (stage : Stage) (pending body front piece pending' bytes : List ℕ) (most : ℕ) → InTrailer stage → IsSound stage pending body → front ≡ take most piece → pending' ≡ pending ++ front → NeverHasSection pending' → IsReadAs stage pending body bytes → NeverHasBody (bytes ++ piece)
trailer_never stage pending body front piece pending' bytes most at sound cut grows none r =
    let kept = last_of stage pending body bytes at r in
    let parts : piece ≡ front ++ drop most piece = sym (take-append-drop most piece) ∙ ap (λ (f : List ℕ). f ++ drop most piece) (sym cut) in
    let whole : pending ++ piece ≡ pending' ++ drop most piece = ap (λ (x : List ℕ). pending ++ x) parts ∙ sym (append_assoc pending front (drop most piece)) ∙ ap (λ (p : List ℕ). p ++ drop most piece) (sym grows) in
    never_read stage pending body bytes piece r sound.small
    (never_unit_trailer _ (r.tail ++ piece) kept.0.line (pending ++ piece) (more_trailer r.tail pending piece kept.0) kept.0.last
    (subst NeverHasSection (sym whole) (never_more pending' (drop most piece) none)))

pub trailer_whole : (stage : Stage) (pending body front piece pending' bytes : List ℕ) (most : ℕ) (fields : List Field) (len : ℕ) (rest : List ℕ) → InTrailer stage → IsSound stage pending body → front ≡ take most piece → pending' ≡ pending ++ front → StartsWithSection pending' fields len rest → length pending ≤ len → IsReadAs stage pending body bytes → Body (bytes ++ take (len - length pending) piece) body fields []
trailer_whole stage pending body front piece pending' bytes most fields len rest at sound cut grows has late r =
    let kept = last_of stage pending body bytes at r in
    let n = len - length pending in
    let parts : piece ≡ front ++ drop most piece = sym (take-append-drop most piece) ∙ ap (λ (f : List ℕ). f ++ drop most piece) (sym cut) in
    let whole : pending' ++ drop most piece ≡ pending ++ piece = ap (λ (p : List ℕ). p ++ drop most piece) grows ∙ append_assoc pending front (drop most piece) ∙ ap (λ (x : List ℕ). pending ++ x) (sym parts) in
    let more = subst (λ (b : List ℕ). StartsWithSection b fields len (rest ++ drop most piece)) whole (section_append pending' (drop most piece) fields len rest has) in
    let place : length pending + n ≡ len = omega arith in
    let alone : take len (pending ++ piece) ≡ pending ++ take n piece = ap (λ (k : ℕ). take k (pending ++ piece)) (sym place) ∙ take-append-add pending piece n in
    let trailer : IsTrailer (pending ++ take n piece) fields [] = (len, subst (λ (b : List ℕ). StartsWithSection b fields len []) alone (section_cut (pending ++ piece) fields len (rest ++ drop most piece) more)) in
    body_text (bytes ++ take n piece) body r.chunks kept.0.line (pending ++ take n piece) fields []
    (grown bytes (take n piece) r.chunks r.tail r.text ∙ ap (texts r.chunks) (more_trailer r.tail pending (take n piece) kept.0))
    (r.body_is ∙ ap (λ (g : List ℕ). contents r.chunks ++ g) kept.1 ∙ append-nil (contents r.chunks))
    sound.small r.are kept.0.last trailer

pub trailer_fits : (pending front piece pending' : List ℕ) (most : ℕ) (fields : List Field) (len : ℕ) (rest : List ℕ) → front ≡ take most piece → pending' ≡ pending ++ front → StartsWithSection pending' fields len rest → len - length pending ≤ length piece
trailer_fits pending front piece pending' most fields len rest cut grows has =
    omega (arith, section_inside pending' fields len rest has, ap length grows, length-append pending front, ap length cut, length-take most piece)

pub trailer_sound : (stage next : Stage) (pending body pending' : List ℕ) → IsSound stage pending body → next ≡ stages.Trailer → HasNoSection pending' → length pending' < 65536 → IsSound next pending' body
trailer_sound stage next pending body pending' sound to none short = sound_at stages.Trailer next pending' body (sym to) (record { small = sound.small; kept = (none, short) })

pub crowded_sound : (stage next : Stage) (pending body pending' : List ℕ) → IsSound stage pending body → next ≡ stages.Crowded → NeverHasSection pending' → length pending' < 65536 → IsSound next pending' body
crowded_sound stage next pending body pending' sound to none short = sound_at stages.Crowded next pending' body (sym to) (record { small = sound.small; kept = (none, short) })

pub crowded_stays : (stage : Stage) (pending body front pending' : List ℕ) → stage ≡ stages.Crowded → IsSound stage pending body → pending' ≡ pending ++ front → NeverHasSection pending'
crowded_stays stage pending body front pending' at sound grows =
    subst NeverHasSection (sym grows) (never_more pending front (sound_at stage stages.Crowded pending body at sound).kept.0)

pub none_before : (stage : Stage) (pending body : List ℕ) → stage ≡ stages.Trailer → IsSound stage pending body → HasNoSection pending
none_before stage pending body at sound = (sound_at stage stages.Trailer pending body at sound).kept.0

pub trailer_short : (stage : Stage) (pending body : List ℕ) → stage ≡ stages.Trailer → IsSound stage pending body → length pending < 65536
trailer_short stage pending body at sound = (sound_at stage stages.Trailer pending body at sound).kept.1

pub crowded_short : (stage : Stage) (pending body : List ℕ) → stage ≡ stages.Crowded → IsSound stage pending body → length pending < 65536
crowded_short stage pending body at sound = (sound_at stage stages.Crowded pending body at sound).kept.1

-- ---- what was read and is no body yet

waits_for_data : (bytes body behind : List ℕ) (cs : List Chunk) (got tail : List ℕ) (left : ℕ) → AreChunks cs → bytes ≡ texts cs tail → body ≡ contents cs ++ got → length body + left ≤ 16777216 → length behind ≤ 1 → HasData tail got behind left → (left ≡ 0) ⊎ (length behind ≡ 0) → Waits bytes
waits_for_data bytes body behind cs got tail left are text body_is fits few h one = record {
  chunks = cs;
  are = are;
  small = omega (arith, ap length body_is, length-append (contents cs) got);
  tail = tail;
  text = text;
  awaits = inr (inl (record {
    line = h.line;
    rest = got ++ behind;
    sized = h.sized;
    text = h.text;
    some = h.some;
    fits = omega (arith, h.size, ap length body_is, length-append (contents cs) got);
    short = omega (arith, h.size, length-append got behind);
  }));
}

pub waits_of : (stage : Stage) (pending body bytes : List ℕ) → IsSound stage pending body → IsReadAs stage pending body bytes → Waits bytes
waits_of stages.Line pending body bytes sound r = record {
  chunks = r.chunks;
  are = r.are;
  small = omega (arith, sound.small, ap length r.body_is, length-append (contents r.chunks) r.got);
  tail = r.tail;
  text = r.text;
  awaits = inl (record { no_end = λ line rest h. no_line_in pending line rest sound.kept.0 (sym r.keeps.0 ∙ h); short = omega (arith, sound.kept.1, ap length r.keeps.0) });
}
waits_of stages.LineEnd pending body bytes sound r = record {
  chunks = r.chunks;
  are = r.are;
  small = omega (arith, sound.small, ap length r.body_is, length-append (contents r.chunks) r.got);
  tail = r.tail;
  text = r.text;
  awaits = inl (record { no_end = λ line rest h. no_line_before_lf pending line rest sound.kept.0 (sym r.keeps.0 ∙ h); short = omega (arith, sound.kept.1, ap length r.keeps.0, length-append pending (13 ∷ [])) });
}
waits_of (stages.Data left) pending body bytes sound r = waits_for_data bytes body [] r.chunks r.got r.tail left r.are r.text r.body_is sound.kept.1 (omega arith) r.keeps (inr refl)
waits_of stages.DataCr pending body bytes sound r = waits_for_data bytes body [] r.chunks r.got r.tail 0 r.are r.text r.body_is (omega (arith, sound.small)) (omega arith) r.keeps (inr refl)
waits_of stages.DataLf pending body bytes sound r = waits_for_data bytes body (13 ∷ []) r.chunks r.got r.tail 0 r.are r.text r.body_is (omega (arith, sound.small)) (omega arith) r.keeps (inl refl)
waits_of stages.Trailer pending body bytes sound r = record {
  chunks = r.chunks;
  are = r.are;
  small = omega (arith, sound.small, ap length r.body_is, length-append (contents r.chunks) r.got);
  tail = r.tail;
  text = r.text;
  awaits = inr (inr (record { line = r.keeps.0.line; rest = pending; last = r.keeps.0.last; text = r.keeps.0.text; none = sound.kept.0; short = sound.kept.1 }));
}
waits_of stages.Crowded pending body bytes sound r = record {
  chunks = r.chunks;
  are = r.are;
  small = omega (arith, sound.small, ap length r.body_is, length-append (contents r.chunks) r.got);
  tail = r.tail;
  text = r.text;
  awaits = inr (inr (record { line = r.keeps.0.line; rest = pending; last = r.keeps.0.last; text = r.keeps.0.text; none = subst HasNoSection (append-nil pending) (sound.kept.0 []); short = sound.kept.1 }));
}

-- ---- one piece after another

-- a front and a front of what follows it
pub fronts_join : (bytes piece rest : List ℕ) (at n : ℕ) → rest ≡ drop at piece → (bytes ++ take at piece) ++ take n rest ≡ bytes ++ take (at + n) piece
fronts_join bytes piece rest at n h = append_assoc bytes (take at piece) (take n rest) ∙ ap (λ (x : List ℕ). bytes ++ x) (ap (λ (r : List ℕ). take at piece ++ take n r) h ∙ sym (take-add at n piece))

pub front_and_rest : (bytes piece rest : List ℕ) (at : ℕ) → rest ≡ drop at piece → (bytes ++ take at piece) ++ rest ≡ bytes ++ piece
front_and_rest bytes piece rest at h = append_assoc bytes (take at piece) rest ∙ ap (λ (x : List ℕ). bytes ++ x) (ap (λ (r : List ℕ). take at piece ++ r) h ∙ take-append-drop at piece)

pub all_taken : (bytes piece : List ℕ) (n : ℕ) → n ≡ length piece → bytes ++ take n piece ≡ bytes ++ piece
all_taken bytes piece n h = ap (λ (x : List ℕ). bytes ++ x) (take_all n piece (omega arith))
