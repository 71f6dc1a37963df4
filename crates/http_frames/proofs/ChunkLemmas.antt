-- Chunks one after another, and what cannot be a body.
use Rattle.std.proofs.Common.{◌≡◌, ℕ, ◌+◌, ◌-◌, ◌<◌, ◌≤◌, List, [], ◌∷◌, ◌++◌, length, take, drop, refl, ap, sym, subst, ◌∙◌, arith, inl, inr}
use Rattle.std.specs.Prelude.{IsTrue}
use Rattle.std.proofs.lemmas.List.{append-nil, append_assoc, length-append, take_at, drop_at}
use Rattle.http_heads.specs.declared.field.Field.{Field}
use Rattle.http_heads.specs.Section.{StartsWithSection, HasNoSection, NeverHasSection}
use Rattle.http_heads.proofs.SectionLemmas.{section_append, section_only}
use Rattle.http_frames.specs.Chunks.{is_size_line, size_of, line_text, Chunk, chunk_text, IsChunk, IsLast, IsTrailer, texts, contents, AreChunks, Chunked, Body, HasNoBody, NeverHasBody, NoCr, AwaitsData, Waits}
use Rattle.http_frames.proofs.LineLemmas.{first_cr_unique, cr_behind, line_no_cr, line_short}

pub texts_push : (cs : List Chunk) (c : Chunk) (rest : List ℕ) → texts cs (chunk_text c rest) ≡ texts (cs ++ c ∷ []) rest
texts_push [] c rest = refl
texts_push (d ∷ cs) c rest = ap (chunk_text d) (texts_push cs c rest)

pub contents_push : (cs : List Chunk) (c : Chunk) → contents (cs ++ c ∷ []) ≡ contents cs ++ c.data_bytes
contents_push [] c = append-nil c.data_bytes
contents_push (d ∷ cs) c = ap (λ (b : List ℕ). d.data_bytes ++ b) (contents_push cs c) ∙ sym (append_assoc d.data_bytes (contents cs) c.data_bytes)

pub chunks_push : (cs : List Chunk) (c : Chunk) → AreChunks cs → IsChunk c → AreChunks (cs ++ c ∷ [])
chunks_push [] c are is = (is, tt)
chunks_push (d ∷ cs) c are is = (are.0, chunks_push cs c are.1 is)

pub texts_append : (cs : List Chunk) (q more : List ℕ) → texts cs q ++ more ≡ texts cs (q ++ more)
texts_append [] q more = refl
texts_append (c ∷ cs) q more =
    append_assoc c.line (13 ∷ 10 ∷ line_text c.data_bytes (texts cs q)) more
    ∙ ap (λ (b : List ℕ). line_text c.line b) (append_assoc c.data_bytes (13 ∷ 10 ∷ texts cs q) more ∙ ap (line_text c.data_bytes) (texts_append cs q more))

texts_texts : (cs ds : List Chunk) (q : List ℕ) → texts cs (texts ds q) ≡ texts (cs ++ ds) q
texts_texts [] ds q = refl
texts_texts (c ∷ cs) ds q = ap (chunk_text c) (texts_texts cs ds q)

contents_append : (cs ds : List Chunk) → contents (cs ++ ds) ≡ contents cs ++ contents ds
contents_append [] ds = refl
contents_append (c ∷ cs) ds = ap (λ (b : List ℕ). c.data_bytes ++ b) (contents_append cs ds) ∙ sym (append_assoc c.data_bytes (contents cs) (contents ds))

chunks_append : (cs ds : List Chunk) → AreChunks cs → AreChunks ds → AreChunks (cs ++ ds)
chunks_append [] ds a b = b
chunks_append (c ∷ cs) ds a b = (a.0, chunks_append cs ds a.1 b)

same_split : (a b s t : List ℕ) → length a ≡ length b → a ++ s ≡ b ++ t → (a ≡ b) × (s ≡ t)
same_split a b s t long h = (
  sym (take_at a s (length a) refl) ∙ ap (take (length a)) h ∙ take_at b t (length a) (sym long),
  sym (drop_at a s (length a) refl) ∙ ap (drop (length a)) h ∙ drop_at b t (length a) (sym long),
)

chunk_unique : (c d : Chunk) (r q : List ℕ) → IsChunk c → IsChunk d → chunk_text c r ≡ chunk_text d q → (c.data_bytes ≡ d.data_bytes) × (r ≡ q)
chunk_unique c d r q is other h =
    let lines = first_cr_unique c.line d.line (10 ∷ line_text c.data_bytes r) (10 ∷ line_text d.data_bytes q) (line_no_cr c.line is.line) (line_no_cr d.line other.line) h in
    let tails : line_text c.data_bytes r ≡ line_text d.data_bytes q = cc (lines.1) in
    let parts = same_split c.data_bytes d.data_bytes (13 ∷ 10 ∷ r) (13 ∷ 10 ∷ q) (sym is.size ∙ ap size_of lines.0 ∙ other.size) tails in
    (parts.0, cc (parts.1))

-- a line at the front is the only one, whatever follows
pub one_line : (line other rest q : List ℕ) → IsTrue (is_size_line line) → IsTrue (is_size_line other) → line_text line rest ≡ line_text other q → (line ≡ other) × (rest ≡ q)
one_line line other rest q sized also h =
    let found = first_cr_unique line other (10 ∷ rest) (10 ∷ q) (line_no_cr line sized) (line_no_cr other also) h in
    (found.0, cc (found.1))

-- a chunk, with more behind
chunk_more : (c : Chunk) (rest more : List ℕ) → chunk_text c rest ++ more ≡ chunk_text c (rest ++ more)
chunk_more c rest more = append_assoc c.line (13 ∷ 10 ∷ line_text c.data_bytes rest) more ∙ ap (line_text c.line) (append_assoc c.data_bytes (13 ∷ 10 ∷ rest) more)

last_no_chunk : (line : List ℕ) (c : Chunk) (r q : List ℕ) → IsLast line → IsChunk c → chunk_text c r ≡ line_text line q → ⊥
last_no_chunk line c r q is other h =
    omega (arith, other.size, other.some, ap size_of (one_line c.line line (line_text c.data_bytes r) q other.line is.sized h).0, is.zero)

-- no chunk of at most room octets and no last chunk stands at the front of tail
pub record HasNoUnit (room : ℕ) (tail : List ℕ) : Type 0 where
  pub no_chunk : (c : Chunk) (rest : List ℕ) → IsChunk c → tail ≡ chunk_text c rest → room < length c.data_bytes
  pub no_last : (line after : List ℕ) (trailer : List Field) (rest : List ℕ) → IsLast line → tail ≡ line_text line after → IsTrailer after trailer rest → ⊥

-- chunks, and then a tail without a unit at its front, are no body
pub no_body_behind : (room : ℕ) (cs : List Chunk) (tail : List ℕ) → AreChunks cs → HasNoUnit room tail
    → (ds : List Chunk) (bytes body : List ℕ) (trailer : List Field) (rest : List ℕ) → bytes ≡ texts cs tail → Chunked ds bytes body trailer rest → length body ≤ length (contents cs) + room → ⊥
no_body_behind room [] tail are none [] bytes body trailer rest h text few = none.no_last text.0 text.1 trailer rest text.2 (sym h ∙ text.3) text.5
no_body_behind room [] tail are none (d ∷ ds) bytes body trailer rest h text few =
    omega (arith, none.no_chunk d text.0 text.2 (sym h ∙ text.3), ap length text.4, length-append d.data_bytes text.1)
no_body_behind room (c ∷ cs) tail are none [] bytes body trailer rest h text few = last_no_chunk text.0 c (texts cs tail) text.1 text.2 are.0 (sym h ∙ text.3)
no_body_behind room (c ∷ cs) tail are none (d ∷ ds) bytes body trailer rest h text few =
    let same = chunk_unique c d (texts cs tail) text.0 are.0 text.2 (sym h ∙ text.3) in
    no_body_behind room cs tail are.1 none ds text.0 text.1 trailer rest (sym same.1) text.5
    (omega (arith, ap length text.4, ap length same.0, length-append d.data_bytes text.1, length-append c.data_bytes (contents cs)))

-- ---- what waits is no body

unit_line : (tail : List ℕ) → ((line rest : List ℕ) → IsTrue (is_size_line line) → tail ≡ line_text line rest → ⊥) → (room : ℕ) → HasNoUnit room tail
unit_line tail none room = record {
  no_chunk = λ c rest is h. absurd (none c.line (line_text c.data_bytes rest) is.line h);
  no_last = λ line after trailer rest is h at. none line after is.sized h;
}

unit_data : (room : ℕ) (tail : List ℕ) → AwaitsData room tail → (most : ℕ) → HasNoUnit most tail
unit_data room tail awaits most = record {
  no_chunk = λ c rest is h. let found = one_line awaits.line c.line awaits.rest (line_text c.data_bytes rest) awaits.sized is.line (sym awaits.text ∙ h) in
      absurd (omega (arith, awaits.short, is.size, ap size_of found.0, ap length found.1, length-append c.data_bytes (13 ∷ 10 ∷ rest)));
  no_last = λ line after trailer rest is h at. omega (arith, awaits.some, is.zero, ap size_of (one_line awaits.line line awaits.rest after awaits.sized is.sized (sym awaits.text ∙ h)).0);
}

pub unit_trailer : (room : ℕ) (tail line rest : List ℕ) → IsLast line → tail ≡ line_text line rest → HasNoSection rest → HasNoUnit room tail
unit_trailer room tail line rest last text none = record {
  no_chunk = λ c after is h. absurd (last_no_chunk line c after rest last is (sym h ∙ text));
  no_last = λ other after trailer behind is h at.
      let same = (one_line line other rest after last.sized is.sized (sym text ∙ h)).1 in
      none trailer at.0 behind (subst (λ (t : List ℕ). StartsWithSection t trailer at.0 behind) (sym same) at.1);
}

pub no_body_waits : (bytes : List ℕ) → Waits bytes → HasNoBody bytes
no_body_waits bytes w = λ body trailer rest is.
    no_body_behind 16777216 w.chunks w.tail w.are
    (elim w.awaits [
      | inl a ↦ unit_line w.tail (λ line after sized h. a.no_end line after h) 16777216
      | inr b ↦ elim b [
        | inl d ↦ unit_data _ w.tail d 16777216
        | inr t ↦ unit_trailer 16777216 w.tail t.line t.rest t.last t.text t.none
      ]
    ])
    is.chunks bytes body trailer rest w.text is.text (omega (arith, is.small))

-- ---- what can become no body

-- whatever follows, no unit comes to stand at the front
abbrev pub NeverHasUnit : ℕ → List ℕ → Type 0
NeverHasUnit room tail = (more : List ℕ) → HasNoUnit room (tail ++ more)

pub never_body : (bytes : List ℕ) (cs : List Chunk) (tail : List ℕ) → AreChunks cs → bytes ≡ texts cs tail → length (contents cs) ≤ 16777216 → NeverHasUnit (16777216 - length (contents cs)) tail → NeverHasBody bytes
never_body bytes cs tail are text small none = λ more body trailer rest is.
    no_body_behind (16777216 - length (contents cs)) cs (tail ++ more) are (none more) is.chunks (bytes ++ more) body trailer rest
    (ap (λ (b : List ℕ). b ++ more) text ∙ texts_append cs tail more) is.text (omega (arith, is.small, small))

-- a front without CR that is longer than a line
pub never_unit_long : (room : ℕ) (tail front behind : List ℕ) → tail ≡ front ++ behind → NoCr front → 4094 < length front → NeverHasUnit room tail
never_unit_long room tail front behind text none long = λ more.
    unit_line (tail ++ more) (λ line rest sized h.
    omega (arith, cr_behind front line (behind ++ more) (10 ∷ rest) none (sym (ap (λ (b : List ℕ). b ++ more) text ∙ append_assoc front behind more) ∙ h), line_short line sized)) room

-- a CR without LF behind it
pub never_unit_no_lf : (room : ℕ) (tail front : List ℕ) (b : ℕ) (behind : List ℕ) → tail ≡ front ++ 13 ∷ b ∷ behind → NoCr front → (b ≡ 10 → ⊥) → NeverHasUnit room tail
never_unit_no_lf room tail front b behind text none other = λ more.
    unit_line (tail ++ more) (λ line rest sized h.
    let found = (first_cr_unique front line (b ∷ behind ++ more) (10 ∷ rest) none (line_no_cr line sized) (sym (ap (λ (b : List ℕ). b ++ more) text ∙ append_assoc front (13 ∷ b ∷ behind) more) ∙ h)).1 in
    other (cc)) room

-- a line that has not the form
pub never_unit_unsized : (room : ℕ) (tail front behind : List ℕ) → tail ≡ line_text front behind → NoCr front → (IsTrue (is_size_line front) → ⊥) → NeverHasUnit room tail
never_unit_unsized room tail front behind text none unsized = λ more.
    unit_line (tail ++ more) (λ line rest sized h.
    let same = (first_cr_unique front line (10 ∷ behind ++ more) (10 ∷ rest) none (line_no_cr line sized) (sym (ap (λ (b : List ℕ). b ++ more) text ∙ append_assoc front (13 ∷ 10 ∷ behind) more) ∙ h)).0 in
    unsized (subst (λ (l : List ℕ). IsTrue (is_size_line l)) (sym same) sized)) room

-- with more behind, a unit has the line that stands at the front
known_line : (tail line behind : List ℕ) → tail ≡ line_text line behind → IsTrue (is_size_line line) → (more other rest : List ℕ) → IsTrue (is_size_line other) → tail ++ more ≡ line_text other rest → (line ≡ other) × (behind ++ more ≡ rest)
known_line tail line behind text sized more other rest also h =
    one_line line other (behind ++ more) rest sized also (sym (ap (λ (b : List ℕ). b ++ more) text ∙ append_assoc line (13 ∷ 10 ∷ behind) more) ∙ h)

-- a chunk that passes the room
pub never_unit_large : (room : ℕ) (tail line behind : List ℕ) → tail ≡ line_text line behind → IsTrue (is_size_line line) → room < size_of line → NeverHasUnit room tail
never_unit_large room tail line behind text sized large = λ more. record {
  no_chunk = λ c rest is h. omega (arith, large, is.size, ap size_of (known_line tail line behind text sized more c.line (line_text c.data_bytes rest) is.line h).0);
  no_last = λ other after trailer rest is h at. omega (arith, large, is.zero, ap size_of (known_line tail line behind text sized more other after is.sized h).0);
}

-- a chunk without CRLF behind its data
pub never_unit_end : (room : ℕ) (tail line got behind : List ℕ) → tail ≡ line_text line (got ++ behind) → IsTrue (is_size_line line) → 0 < size_of line → size_of line ≡ length got → ((more rest : List ℕ) → behind ++ more ≡ 13 ∷ 10 ∷ rest → ⊥) → NeverHasUnit room tail
never_unit_end room tail line got behind text sized some size none = λ more. record {
  no_chunk = λ c rest is h.
      let found = known_line tail line (got ++ behind) text sized more c.line (line_text c.data_bytes rest) is.line h in
      let parts = same_split got c.data_bytes (behind ++ more) (13 ∷ 10 ∷ rest) (sym size ∙ ap size_of found.0 ∙ is.size) (sym (append_assoc got behind more) ∙ found.1) in
      absurd (none more rest parts.1);
  no_last = λ other after trailer rest is h at. omega (arith, some, is.zero, ap size_of (known_line tail line (got ++ behind) text sized more other after is.sized h).0);
}

-- a last chunk whose trailer can become none
pub never_unit_trailer : (room : ℕ) (tail line behind : List ℕ) → tail ≡ line_text line behind → IsLast line → NeverHasSection behind → NeverHasUnit room tail
never_unit_trailer room tail line behind text last none = λ more.
    unit_trailer room (tail ++ more) line (behind ++ more) last (ap (λ (b : List ℕ). b ++ more) text ∙ append_assoc line (13 ∷ 10 ∷ behind) more) (none more)

-- ---- what is a body

pub chunked_text : (cs : List Chunk) (line after : List ℕ) (trailer : List Field) (rest : List ℕ) → AreChunks cs → IsLast line → IsTrailer after trailer rest → Chunked cs (texts cs (line_text line after)) (contents cs) trailer rest
chunked_text [] line after trailer rest are is at = (line, after, is, refl, refl, at)
chunked_text (c ∷ cs) line after trailer rest are is at = (texts cs (line_text line after), contents cs, are.0, refl, refl, chunked_text cs line after trailer rest are.1 is at)

pub body_text : (bytes body : List ℕ) (cs : List Chunk) (line after : List ℕ) (trailer : List Field) (rest : List ℕ) → bytes ≡ texts cs (line_text line after) → body ≡ contents cs → length body ≤ 16777216 → AreChunks cs → IsLast line → IsTrailer after trailer rest → Body bytes body trailer rest
body_text bytes body cs line after trailer rest text body_is small are is at = record {
  chunks = cs;
  text = subst (λ (b : List ℕ). Chunked cs b body trailer rest) (sym text) (subst (λ (b : List ℕ). Chunked cs (texts cs (line_text line after)) b trailer rest) (sym body_is) (chunked_text cs line after trailer rest are is at));
  small = small;
}

-- ---- one body

same_body : (cs ds : List Chunk) (bytes more all body other : List ℕ) (trailer fields : List Field) (rest behind : List ℕ) → all ≡ bytes ++ more → Chunked cs bytes body trailer rest → Chunked ds all other fields behind → (body ≡ other) × (trailer ≡ fields) × (behind ≡ rest ++ more)
same_body [] [] bytes more all body other trailer fields rest behind h x y =
    let lines = known_line bytes x.0 x.1 x.3 x.2.sized more y.0 y.1 y.2.sized (sym h ∙ y.3) in
    let trailers = section_only x.1 more trailer fields x.5.0 y.5.0 rest behind x.5.1 (subst (λ (t : List ℕ). StartsWithSection t fields y.5.0 behind) (sym lines.1) y.5.1) in
    (x.4 ∙ sym y.4, trailers.0, trailers.2)
same_body [] (d ∷ ds) bytes more all body other trailer fields rest behind h x y =
    absurd (last_no_chunk x.0 d y.0 (x.1 ++ more) x.2 y.2 (sym y.3 ∙ h ∙ ap (λ (b : List ℕ). b ++ more) x.3 ∙ append_assoc x.0 (13 ∷ 10 ∷ x.1) more))
same_body (c ∷ cs) [] bytes more all body other trailer fields rest behind h x y =
    absurd (last_no_chunk y.0 c (x.0 ++ more) y.1 y.2 x.2 (sym (chunk_more c x.0 more) ∙ ap (λ (b : List ℕ). b ++ more) (sym x.3) ∙ sym h ∙ y.3))
same_body (c ∷ cs) (d ∷ ds) bytes more all body other trailer fields rest behind h x y =
    let same = chunk_unique c d (x.0 ++ more) y.0 x.2 y.2 (sym (chunk_more c x.0 more) ∙ ap (λ (b : List ℕ). b ++ more) (sym x.3) ∙ sym h ∙ y.3) in
    let later = same_body cs ds x.0 more y.0 x.1 y.1 trailer fields rest behind (sym same.1) x.5 y.5 in
    (x.4 ∙ (λ i. same.0 i ++ later.0 i) ∙ sym y.4, later.1, later.2)

pub body_only : (bytes more body other : List ℕ) (trailer fields : List Field) (rest behind : List ℕ) → Body bytes body trailer rest → Body (bytes ++ more) other fields behind → (body ≡ other) × (trailer ≡ fields) × (behind ≡ rest ++ more)
body_only bytes more body other trailer fields rest behind x y = same_body x.chunks y.chunks bytes more (bytes ++ more) body other trailer fields rest behind refl x.text y.text

chunked_append : (cs : List Chunk) (bytes more body : List ℕ) (trailer : List Field) (rest : List ℕ) → Chunked cs bytes body trailer rest → Chunked cs (bytes ++ more) body trailer (rest ++ more)
chunked_append [] bytes more body trailer rest x = (x.0, x.1 ++ more, x.2, ap (λ (b : List ℕ). b ++ more) x.3 ∙ append_assoc x.0 (13 ∷ 10 ∷ x.1) more, x.4, (x.5.0, section_append x.1 more trailer x.5.0 rest x.5.1))
chunked_append (c ∷ cs) bytes more body trailer rest x = (x.0 ++ more, x.1, x.2, ap (λ (b : List ℕ). b ++ more) x.3 ∙ chunk_more c x.0 more, x.4, chunked_append cs x.0 more x.1 trailer rest x.5)

pub body_append : (bytes more body : List ℕ) (trailer : List Field) (rest : List ℕ) → Body bytes body trailer rest → Body (bytes ++ more) body trailer (rest ++ more)
body_append bytes more body trailer rest x = record { chunks = x.chunks; text = chunked_append x.chunks bytes more body trailer rest x.text; small = x.small }
