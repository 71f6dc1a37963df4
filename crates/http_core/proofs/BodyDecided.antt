-- Whether a body stands at the front of octets.
use Rattle.std.proofs.Common.{◌≡◌, ◌≢◌, ℕ, zero, suc, ◌+◌, ◌-◌, ◌<◌, ◌≤◌, ◌⊎◌, Bool, true, false, not, nat_eq, List, [], ◌∷◌, ◌++◌, length, take, drop, refl, sym, ap, subst, ◌∙◌, arith, length-append, length-take, take-append-drop, inl, inr}
use Rattle.std.proofs.lemmas.List.Elements.{All-head, All-tail, All-cons, All-nil}
use Rattle.std.proofs.lemmas.Bool.{false≢true, eq-eqb, ne_eqb, cases_lt}
use Rattle.httparse.specs.Grammar.{AllPass}
use Rattle.httparse.specs.Pieces.{Piece, Bytes}
use Rattle.http_heads.specs.declared.field.Field.{Field}
use Rattle.http_heads.specs.Section.{StartsWithSection, HasNoSection}
use Rattle.http_frames.specs.Chunks.{is_size_line, size_of, line_text, Chunk, chunk_text, IsChunk, Chunked, Body, HasNoBody, NoCr}
use Rattle.http_frames.proofs.LineLemmas.{first_cr_unique, line_no_cr}
use Rattle.http_frames.proofs.ChunkLemmas.{one_line}
use Rattle.http_core.proofs.SkipLemmas.{same_split}
use Rattle.http_core.proofs.HeadDecided.{Decided, bytes_decided, RunTo, run_decided, section_there}

-- ---- lines

no_cr_test : (b : ℕ) → (t : Bool) → nat_eq b 13 ≡ t → not t ≡ true → b ≢ 13
no_cr_test b true is passes = absurd (false≢true passes)
no_cr_test b false other passes = λ e. false≢true (sym other ∙ eq-eqb b 13 e)

no_cr_of : (xs : List ℕ) → AllPass (λ b. not (nat_eq b 13)) xs → NoCr xs
no_cr_of [] all = tt
no_cr_of (b ∷ xs) all = (
  no_cr_test b (nat_eq b 13) refl (All-head (λ v. not (nat_eq v 13) ≡ true) b xs all),
  no_cr_of xs (All-tail (λ v. not (nat_eq v 13) ≡ true) b xs all),
)

all_of : (xs : List ℕ) → NoCr xs → AllPass (λ b. not (nat_eq b 13)) xs
all_of [] none = All-nil _
all_of (b ∷ xs) none = All-cons (λ v. not (nat_eq v 13) ≡ true) b xs (ap not (ne_eqb b 13 none.0)) (all_of xs none.1)

-- the line of a chunk
abbrev pub SizeLine : Piece (List ℕ)
SizeLine line text rest = (is_size_line line ≡ true) × (text ≡ line_text line rest)

size_line_decided : (text : List ℕ) → Decided SizeLine text
size_line_decided text = by_run (run_decided (λ b. not (nat_eq b 13)) 13 refl text)
  where
    same_line : (front behind : List ℕ) → AllPass (λ b. not (nat_eq b 13)) front → text ≡ front ++ 13 ∷ behind → (line rest : List ℕ) → SizeLine line text rest → (front ≡ line) × (behind ≡ 10 ∷ rest)
    same_line front behind all e line rest is = first_cr_unique front line behind (10 ∷ rest) (no_cr_of front all) (line_no_cr line is.0) (sym e ∙ is.1)

    by_test : (front behind : List ℕ) → AllPass (λ b. not (nat_eq b 13)) front → text ≡ front ++ 13 ∷ 10 ∷ behind → (t : Bool) → is_size_line front ≡ t → Decided SizeLine text
    by_test front behind all e true sized = inl (front, behind, (sized, e))
    by_test front behind all e false other = inr (λ y. false≢true (sym other ∙ ap is_size_line (same_line front (10 ∷ behind) all e y.0 y.1 y.2).0 ∙ y.2.0))

    by_lf : (front behind : List ℕ) → AllPass (λ b. not (nat_eq b 13)) front → text ≡ front ++ 13 ∷ behind → Decided (Bytes (10 ∷ [])) behind → Decided SizeLine text
    by_lf front behind all e (inl x) = by_test front x.1 all (e ∙ ap (λ (l : List ℕ). front ++ 13 ∷ l) x.2) (is_size_line front) refl
    by_lf front behind all e (inr none) = inr (λ y. none (tt, y.1, (same_line front behind all e y.0 y.1 y.2).1))

    by_run : Decided (RunTo (λ b. not (nat_eq b 13)) 13) text → Decided SizeLine text
    by_run (inl x) = by_lf x.0 x.1 x.2.0 x.2.1 (bytes_decided (10 ∷ []) x.1)
    by_run (inr none) = inr (λ y. none (y.0, 10 ∷ y.1, (all_of y.0 (line_no_cr y.0 y.2.0), y.2.1)))

-- ---- chunks

-- chunks with the last one and a trailer, whose data fit the room
abbrev pub ChunksAt : ℕ → List ℕ → Type 0
ChunksAt room bytes = (chunks : List Chunk) × (body : List ℕ) × (trailer : List Field) × (rest : List ℕ) × Chunked chunks bytes body trailer rest × (length body ≤ room)

abbrev pub ChunksDecided : ℕ → List ℕ → Type 0
ChunksDecided room bytes = ChunksAt room bytes ⊎ (ChunksAt room bytes → ⊥)

-- behind the line of the last chunk
last_decided : (room : ℕ) (bytes line after : List ℕ) → is_size_line line ≡ true → bytes ≡ line_text line after → size_of line ≡ 0 → ChunksDecided room bytes
last_decided room bytes line after sized e empty = by_section (section_there after)
  where
    none_there : HasNoSection after → (chunks : List Chunk) (body : List ℕ) (trailer : List Field) (rest : List ℕ) → Chunked chunks bytes body trailer rest → ⊥
    none_there none [] body trailer rest x =
        let same = one_line line x.0 after x.1 sized x.2.sized (sym e ∙ x.3) in
        none trailer x.5.0 rest (subst (λ (b : List ℕ). StartsWithSection b trailer x.5.0 rest) (sym same.1) x.5.1)
    none_there none (c ∷ cs) body trailer rest x =
        let same = one_line line c.line after (line_text c.data_bytes x.0) sized x.2.line (sym e ∙ x.3) in
        omega (arith, x.2.some, x.2.size, empty, ap size_of same.0)

    by_section : ((fields : List Field) × (len : ℕ) × (rest : List ℕ) × StartsWithSection after fields len rest) ⊎ HasNoSection after → ChunksDecided room bytes
    by_section (inl x) = inl ([], [], x.0, x.2, (line, after, record { sized = sized; zero = empty }, e, refl, (x.1, x.3)), omega arith)
    by_section (inr none) = inr (λ x. none_there none x.0 x.1 x.2 x.3 x.4)

-- behind the line of a chunk that has data, where that of shorter octets is decided
data_decided : (room : ℕ) (bytes line after : List ℕ) → is_size_line line ≡ true → bytes ≡ line_text line after → 0 < size_of line
    → ((middle : List ℕ) → length middle < length bytes → ChunksDecided (room - size_of line) middle) → ChunksDecided room bytes
data_decided room bytes line after sized e some shorter = by_room (cases_lt room (size_of line))
  where
    -- a chunk there has that line, and its data are the first octets behind it
    chunk_there : (c : Chunk) (q : List ℕ) → IsChunk c → bytes ≡ chunk_text c q → (size_of line ≡ length c.data_bytes) × (after ≡ c.data_bytes ++ 13 ∷ 10 ∷ q)
    chunk_there c q is x =
        let same = one_line line c.line after (line_text c.data_bytes q) sized is.line (sym e ∙ x) in
        (ap size_of same.0 ∙ is.size, same.1)

    none_there : ((c : Chunk) (q : List ℕ) → IsChunk c → bytes ≡ chunk_text c q → (cs : List Chunk) (body : List ℕ) (trailer : List Field) (rest : List ℕ) → Chunked cs q body trailer rest → length c.data_bytes + length body ≤ room → ⊥)
        → (chunks : List Chunk) (body : List ℕ) (trailer : List Field) (rest : List ℕ) → Chunked chunks bytes body trailer rest → length body ≤ room → ⊥
    none_there none [] body trailer rest x fits =
        omega (arith, some, x.2.zero, ap size_of (one_line line x.0 after x.1 sized x.2.sized (sym e ∙ x.3)).0)
    none_there none (c ∷ cs) body trailer rest x fits =
        none c x.0 x.2 x.3 cs x.1 trailer rest x.5 (omega (arith, fits, ap length x.4, length-append c.data_bytes x.1))

    by_others : (data_bytes middle : List ℕ) → length data_bytes ≡ size_of line → after ≡ data_bytes ++ 13 ∷ 10 ∷ middle → size_of line ≤ room → ChunksDecided (room - size_of line) middle → ChunksDecided room bytes
    by_others data_bytes middle long text fits (inl x) = inl (
      record { line = line; data_bytes = data_bytes } ∷ x.0,
      data_bytes ++ x.1,
      x.2,
      x.3,
      (middle, x.1, record { line = sized; size = sym long; some = omega (arith, some, long) }, e ∙ ap (line_text line) text, refl, x.4),
      omega (arith, fits, long, x.5, length-append data_bytes x.1),
    )
    by_others data_bytes middle long text fits (inr none) = inr (λ x. none_there (λ c q is h cs body trailer rest y small.
        let there = chunk_there c q is h in
        let texts : data_bytes ++ 13 ∷ 10 ∷ middle ≡ c.data_bytes ++ 13 ∷ 10 ∷ q = sym text ∙ there.1 in
        let behind : 13 ∷ 10 ∷ middle ≡ 13 ∷ 10 ∷ q = same_split data_bytes c.data_bytes (13 ∷ 10 ∷ middle) (13 ∷ 10 ∷ q) (long ∙ there.0) texts in
        let same : q ≡ middle = cc in
        none (cs, body, trailer, rest, subst (λ (b : List ℕ). Chunked cs b body trailer rest) same y, omega (arith, small, there.0, fits))) x.0 x.1 x.2 x.3 x.4 x.5)

    by_end : (data_bytes behind : List ℕ) → length data_bytes ≡ size_of line → after ≡ data_bytes ++ behind → size_of line ≤ room → Decided (Bytes (13 ∷ 10 ∷ [])) behind → ChunksDecided room bytes
    by_end data_bytes behind long text fits (inl x) =
        let whole : after ≡ data_bytes ++ 13 ∷ 10 ∷ x.1 = text ∙ ap (λ (l : List ℕ). data_bytes ++ l) x.2 in
        let less : length x.1 < length bytes = omega (arith, ap length e, length-append line (13 ∷ 10 ∷ after), ap length whole, length-append data_bytes (13 ∷ 10 ∷ x.1)) in
        by_others data_bytes x.1 long whole fits (shorter x.1 less)
    by_end data_bytes behind long text fits (inr none) = inr (λ x. none_there (λ c q is h cs body trailer rest y small.
        let there = chunk_there c q is h in
        none (tt, q, same_split data_bytes c.data_bytes behind (13 ∷ 10 ∷ q) (long ∙ there.0) (sym text ∙ there.1))) x.0 x.1 x.2 x.3 x.4 x.5)

    by_data : size_of line ≤ room → (length after < size_of line) ⊎ (size_of line ≤ length after) → ChunksDecided room bytes
    by_data fits (inl less) = inr (λ x. none_there (λ c q is h cs body trailer rest y small.
        let there = chunk_there c q is h in
        omega (arith, less, there.0, ap length there.1, length-append c.data_bytes (13 ∷ 10 ∷ q))) x.0 x.1 x.2 x.3 x.4 x.5)
    by_data fits (inr there) = by_end (take (size_of line) after) (drop (size_of line) after) (omega (arith, there, length-take (size_of line) after)) (sym (take-append-drop (size_of line) after)) fits (bytes_decided (13 ∷ 10 ∷ []) (drop (size_of line) after))

    by_room : (room < size_of line) ⊎ (size_of line ≤ room) → ChunksDecided room bytes
    by_room (inl large) = inr (λ x. none_there (λ c q is h cs body trailer rest y small. omega (arith, large, small, (chunk_there c q is h).0)) x.0 x.1 x.2 x.3 x.4 x.5)
    by_room (inr fits) = by_data fits (cases_lt (length after) (size_of line))

chunks_step : (room : ℕ) (bytes : List ℕ) → ((left : ℕ) (middle : List ℕ) → length middle < length bytes → ChunksDecided left middle) → ChunksDecided room bytes
chunks_step room bytes shorter = by_line (size_line_decided bytes)
  where
    by_size : (line after : List ℕ) → SizeLine line bytes after → (n : ℕ) → size_of line ≡ n → ChunksDecided room bytes
    by_size line after is zero size = last_decided room bytes line after is.0 is.1 size
    by_size line after is (suc n) size = data_decided room bytes line after is.0 is.1 (omega arith) (λ middle less. shorter (room - size_of line) middle less)

    none_there : ((line after : List ℕ) → SizeLine line bytes after → ⊥) → (chunks : List Chunk) (body : List ℕ) (trailer : List Field) (rest : List ℕ) → Chunked chunks bytes body trailer rest → ⊥
    none_there none [] body trailer rest x = none x.0 x.1 (x.2.sized, x.3)
    none_there none (c ∷ cs) body trailer rest x = none c.line (line_text c.data_bytes x.0) (x.2.line, x.3)

    by_line : Decided SizeLine bytes → ChunksDecided room bytes
    by_line (inl x) = by_size x.0 x.1 x.2 (size_of x.0) refl
    by_line (inr none) = inr (λ x. none_there (λ line after is. none (line, after, is)) x.0 x.1 x.2 x.3 x.4)

chunks_decided : (n room : ℕ) (bytes : List ℕ) → length bytes ≤ n → ChunksDecided room bytes
chunks_decided zero room bytes short = chunks_step room bytes (λ left middle less. absurd (omega (arith, short, less)))
chunks_decided (suc n) room bytes short = chunks_step room bytes (λ left middle less. chunks_decided n left middle (omega (arith, short, less)))

-- a chunked body stands there, or none does
pub body_there : (bytes : List ℕ) → ((body : List ℕ) × (trailer : List Field) × (rest : List ℕ) × Body bytes body trailer rest) ⊎ HasNoBody bytes
body_there bytes = by_chunks (chunks_decided (length bytes) 16777216 bytes (omega arith))
  where
    by_chunks : ChunksDecided 16777216 bytes → ((body : List ℕ) × (trailer : List Field) × (rest : List ℕ) × Body bytes body trailer rest) ⊎ HasNoBody bytes
    by_chunks (inl x) = inl (x.1, x.2, x.3, record { chunks = x.0; text = x.4; small = x.5 })
    by_chunks (inr none) = inr (λ body trailer rest is. none (is.chunks, body, trailer, rest, is.text, is.small))
