-- Whether a head, or a section, stands at the front of octets.
use Rattle.std.proofs.Common.{◌≡◌, ℕ, zero, suc, ◌<◌, ◌≤◌, ◌⊎◌, Bool, true, false, nat_eq, List, [], ◌∷◌, ◌++◌, length, refl, sym, ap, subst, ◌∙◌, arith, append_assoc, append-nil, length-append, inl, inr}
use Rattle.std.proofs.lemmas.List.Elements.{All-head, All-tail, All-cons, All-nil}
use Rattle.std.proofs.lemmas.Bool.{false≢true, eqb-true, eq-eqb, cases_lt}
use Rattle.std.proofs.lemmas.Str.{IsUtf8-from_is_utf8, is_utf8-from_IsUtf8}
use Rattle.std.specs.Str.{is_utf8}
use Rattle.std.specs.List.{flat_map}
use Rattle.httparse.specs.Grammar.{is_token_byte, is_uri_byte, is_value_byte, AllPass, LineEnd, crlf, lf, print_end, print_blank, print_version, Field as Line, print_field, IsField, print_section, ReadsSection, RequestHead, print_request, ReadsRequest}
use Rattle.httparse.specs.Pieces.{Piece, Begins, Then, Stops, is_newline, Bytes, Newline, Blank, Word, Target, Version, Text, FieldLine, Section, RequestStart}
use Rattle.httparse.proofs.PieceLemmas.{IsDeterministic, Newline_deterministic, newline_not_stopped, Blank_deterministic, Word_deterministic, space_ends_token, colon_ends_token, Method_deterministic, Target_deterministic, Version_deterministic, Stops_value, print_field-append, FieldLine_parts, Name_deterministic, Section_line, Section_skip, RequestStart_deterministic}
use Rattle.httparse.proofs.GrammarLemmas.{request_tree, request_head, request_pieces, request_from_pieces, request_prefix_free, section_unique}
use Rattle.http_heads.specs.declared.field.Field.{Field}
use Rattle.http_heads.specs.declared.field.Head.{Head}
use Rattle.http_heads.specs.Section.{field_of, StartsWithSection, HasNoSection}
use Rattle.http_heads.specs.Heads.{head_of, StartsWithHead, HasNoHead}
use Rattle.std.specs.Prelude.{map}

-- the text begins with the piece, or it doesn't
abbrev pub Decided : {A : Type 0} → Piece A → List ℕ → Type 0
Decided G text = Begins G text ⊎ (Begins G text → ⊥)

then_decided : {A B : Type 0} {G : Piece A} {H : Piece B} → IsDeterministic G → ((text : List ℕ) → Decided G text) → ((text : List ℕ) → Decided H text) → (text : List ℕ) → Decided (Then G H) text
then_decided {A} {B} {G} {H} det first second text = by_first (first text)
  where
    by_second : (a : A) (middle : List ℕ) → G a text middle → Decided H middle → Decided (Then G H) text
    by_second a middle g (inl h) = inl ((a, h.0), h.1, (middle, g, h.2))
    by_second a middle g (inr none) = inr (λ x. let same = det.unique x.0.0 a text x.2.0 middle x.2.1 g in none (x.0.1, x.1, subst (λ (m : List ℕ). H x.0.1 m x.1) same.1 x.2.2))

    by_first : Decided G text → Decided (Then G H) text
    by_first (inl g) = by_second g.0 g.1 g.2 (second g.1)
    by_first (inr none) = inr (λ x. none (x.0.0, x.2.0, x.2.1))

-- ---- given bytes, and line ends

pub bytes_decided : (bytes text : List ℕ) → Decided (Bytes bytes) text
bytes_decided [] text = inl (tt, text, refl)
bytes_decided (b ∷ bytes) [] = inr (λ x. let wrong : [] ≡ b ∷ (bytes ++ x.1) = x.2 in cc)
bytes_decided (b ∷ bytes) (c ∷ text) = by_test (nat_eq c b) refl (bytes_decided bytes text)
  where
    by_test : (t : Bool) → nat_eq c b ≡ t → Decided (Bytes bytes) text → Decided (Bytes (b ∷ bytes)) (c ∷ text)
    by_test true same (inl x) = let first : c ≡ b = eqb-true c b same in inl (tt, x.1, (λ i. first i ∷ x.2 i))
    by_test true same (inr none) = inr (λ x. let e : c ∷ text ≡ b ∷ (bytes ++ x.1) = x.2 in none (tt, x.1, cc))
    by_test false other later = inr (λ x. let e : c ∷ text ≡ b ∷ (bytes ++ x.1) = x.2 in let first : c ≡ b = cc in false≢true (sym other ∙ eq-eqb c b first))

newline_decided : (text : List ℕ) → Decided Newline text
newline_decided text = by_both (bytes_decided (13 ∷ 10 ∷ []) text) (bytes_decided (10 ∷ []) text)
  where
    by_end : (Begins (Bytes (13 ∷ 10 ∷ [])) text → ⊥) → (Begins (Bytes (10 ∷ [])) text → ⊥) → (end : LineEnd) (rest : List ℕ) → Newline end text rest → ⊥
    by_end none neither crlf rest e = none (tt, rest, e)
    by_end none neither lf rest e = neither (tt, rest, e)

    by_both : Decided (Bytes (13 ∷ 10 ∷ [])) text → Decided (Bytes (10 ∷ [])) text → Decided Newline text
    by_both (inl x) other = inl (crlf, x.1, x.2)
    by_both (inr none) (inl x) = inl (lf, x.1, x.2)
    by_both (inr none) (inr neither) = inr (λ x. by_end none neither x.0 x.1 x.2)

end_some : (end : LineEnd) (rest : List ℕ) → length rest < length (print_end end ++ rest)
end_some crlf rest = omega arith
end_some lf rest = omega arith

-- ---- words

-- bytes that pass the test, and the byte stop
abbrev pub RunTo : (ℕ → Bool) → ℕ → Piece (List ℕ)
RunTo test stop run text rest = AllPass test run × (text ≡ run ++ stop ∷ rest)

first_is_no_stop : (test : ℕ → Bool) (stop b : ℕ) → test stop ≡ false → test b ≡ true → b ≡ stop → ⊥
first_is_no_stop test stop b ends passes same = false≢true (sym ends ∙ sym (ap test same) ∙ passes)

pub run_decided : (test : ℕ → Bool) (stop : ℕ) → test stop ≡ false → (text : List ℕ) → Decided (RunTo test stop) text
run_decided test stop ends [] = inr (λ x. omega (arith, ap length x.2.1, length-append x.0 (stop ∷ x.1)))
run_decided test stop ends (b ∷ text) = by_test (test b) refl (run_decided test stop ends text)
  where
    none_behind : test b ≡ true → (Begins (RunTo test stop) text → ⊥) → (run rest : List ℕ) → RunTo test stop run (b ∷ text) rest → ⊥
    none_behind passes none [] rest x = let e : b ∷ text ≡ stop ∷ rest = x.1 in first_is_no_stop test stop b ends passes (cc)
    none_behind passes none (c ∷ run) rest x = let e : b ∷ text ≡ c ∷ (run ++ stop ∷ rest) = x.1 in none (run, rest, (All-tail (λ v. test v ≡ true) c run x.0, cc))

    none_here : test b ≡ false → nat_eq b stop ≡ false → (run rest : List ℕ) → RunTo test stop run (b ∷ text) rest → ⊥
    none_here fails other [] rest x = let e : b ∷ text ≡ stop ∷ rest = x.1 in let same : b ≡ stop = cc in false≢true (sym other ∙ eq-eqb b stop same)
    none_here fails other (c ∷ run) rest x = let e : b ∷ text ≡ c ∷ (run ++ stop ∷ rest) = x.1 in let same : b ≡ c = cc in false≢true (sym fails ∙ ap test same ∙ All-head (λ v. test v ≡ true) c run x.0)

    by_stop : test b ≡ false → (t : Bool) → nat_eq b stop ≡ t → Decided (RunTo test stop) (b ∷ text)
    by_stop fails true same = let e : b ≡ stop = eqb-true b stop same in inl ([], text, (All-nil _, ap (λ (c : ℕ). c ∷ text) e))
    by_stop fails false other = inr (λ x. none_here fails other x.0 x.1 x.2)

    by_test : (t : Bool) → test b ≡ t → Decided (RunTo test stop) text → Decided (RunTo test stop) (b ∷ text)
    by_test true passes (inl x) = inl (b ∷ x.0, x.1, (All-cons (λ v. test v ≡ true) b x.0 passes x.2.0, ap (λ (l : List ℕ). b ∷ l) x.2.1))
    by_test true passes (inr none) = inr (λ x. none_behind passes none x.0 x.1 x.2)
    by_test false fails later = by_stop fails (nat_eq b stop) refl

word_decided : (test : ℕ → Bool) (stop : ℕ) → test stop ≡ false → (text : List ℕ) → Decided (Word test stop) text
word_decided test stop ends text = by_run (run_decided test stop ends text)
  where
    none_empty : (rest : List ℕ) → text ≡ stop ∷ rest → (word behind : List ℕ) → Word test stop word text behind → ⊥
    none_empty rest e [] behind y = omega (arith, y.0)
    none_empty rest e (c ∷ word) behind y = let h : stop ∷ rest ≡ c ∷ (word ++ stop ∷ behind) = sym e ∙ y.2 in let same : c ≡ stop = cc in first_is_no_stop test stop c ends (All-head (λ v. test v ≡ true) c word y.1) same

    by_found : (run rest : List ℕ) → RunTo test stop run text rest → Decided (Word test stop) text
    by_found [] rest x = inr (λ y. none_empty rest x.1 y.0 y.1 y.2)
    by_found (b ∷ run) rest x = inl (b ∷ run, rest, (omega arith, x.0, x.1))

    by_run : Decided (RunTo test stop) text → Decided (Word test stop) text
    by_run (inl x) = by_found x.0 x.1 x.2
    by_run (inr none) = inr (λ y. none (y.0, y.1, (y.2.1, y.2.2)))

target_decided : (text : List ℕ) → Decided Target text
target_decided text = by_word (word_decided is_uri_byte 32 refl text)
  where
    by_text : (word rest : List ℕ) → Word is_uri_byte 32 word text rest → (t : Bool) → is_utf8 word ≡ t → Decided Target text
    by_text word rest x true is = inl (word, rest, (x, IsUtf8-from_is_utf8 word is))
    by_text word rest x false not = inr (λ y.
        let same = (Word_deterministic is_uri_byte 32 refl).unique y.0 word text y.1 rest y.2.0 x in
        false≢true (sym not ∙ ap is_utf8 (sym same.0) ∙ is_utf8-from_IsUtf8 y.0 y.2.1))

    by_word : Decided (Word is_uri_byte 32) text → Decided Target text
    by_word (inl x) = by_text x.0 x.1 x.2 (is_utf8 x.0) refl
    by_word (inr none) = inr (λ y. none (y.0, y.1, y.2.0))

version_decided : (text : List ℕ) → Decided Version text
version_decided text = by_both (bytes_decided (print_version 0) text) (bytes_decided (print_version 1) text)
  where
    by_minor : (Begins (Bytes (print_version 0)) text → ⊥) → (Begins (Bytes (print_version 1)) text → ⊥) → (minor : ℕ) (rest : List ℕ) → Version minor text rest → ⊥
    by_minor none neither zero rest x = none (tt, rest, x.1)
    by_minor none neither (suc zero) rest x = neither (tt, rest, x.1)
    by_minor none neither (suc (suc n)) rest x = omega (arith, x.0)

    by_both : Decided (Bytes (print_version 0)) text → Decided (Bytes (print_version 1)) text → Decided Version text
    by_both (inl x) other = inl (0, x.1, (omega arith, x.2))
    by_both (inr none) (inl x) = inl (1, x.1, (omega arith, x.2))
    by_both (inr none) (inr neither) = inr (λ x. by_minor none neither x.0 x.1 x.2)

-- ---- empty lines

-- where that of shorter texts is decided
blank_step : (text : List ℕ) → ((middle : List ℕ) → length middle < length text → Decided Blank middle) → Decided Blank text
blank_step text shorter = by_line (newline_decided text)
  where
    starts : (Begins Newline text → ⊥) → (end : LineEnd) (ends : List LineEnd) (rest : List ℕ) → text ≡ print_blank (end ∷ ends) ++ rest → ⊥
    starts none end ends rest e = none (end, print_blank ends ++ rest, e ∙ append_assoc (print_end end) (print_blank ends) rest)

    none_stops : (b : ℕ) (t : List ℕ) → text ≡ b ∷ t → (Begins Newline text → ⊥) → is_newline b ≡ true → (ends : List LineEnd) (rest : List ℕ) → Blank ends text rest → ⊥
    none_stops b t e none is [] rest x = let stops : is_newline b ≡ false = subst (Stops is_newline) (sym x.0 ∙ e) x.1 in false≢true (sym stops ∙ is)
    none_stops b t e none is (end ∷ ends) rest x = starts none end ends rest x.0

    none_in_nothing : text ≡ [] → (Begins Newline text → ⊥) → (ends : List LineEnd) (rest : List ℕ) → Blank ends text rest → ⊥
    none_in_nothing e none [] rest x = subst (Stops is_newline) (sym x.0 ∙ e) x.1
    none_in_nothing e none (end ∷ ends) rest x = starts none end ends rest x.0

    by_first : (t : List ℕ) → text ≡ t → (Begins Newline text → ⊥) → Decided Blank text
    by_first [] e none = inr (λ x. none_in_nothing e none x.0 x.1 x.2)
    by_first (b ∷ t) e none = by_test (is_newline b) refl
      where
        by_test : (u : Bool) → is_newline b ≡ u → Decided Blank text
        by_test true is = inr (λ x. none_stops b t e none is x.0 x.1 x.2)
        by_test false not = inl ([], text, (refl, subst (Stops is_newline) (sym e) not))

    none_behind : (end : LineEnd) (middle : List ℕ) → Newline end text middle → (Begins Blank middle → ⊥) → (ends : List LineEnd) (rest : List ℕ) → Blank ends text rest → ⊥
    none_behind end middle e none [] rest x = newline_not_stopped end middle rest (sym e ∙ x.0) x.1
    none_behind end middle e none (d ∷ ends) rest x =
        let same = Newline_deterministic.unique d end text (print_blank ends ++ rest) middle (x.0 ∙ append_assoc (print_end d) (print_blank ends) rest) e in
        none (ends, rest, (sym same.1, x.1))

    by_others : (end : LineEnd) (middle : List ℕ) → Newline end text middle → Decided Blank middle → Decided Blank text
    by_others end middle e (inl x) = inl (end ∷ x.0, x.1, (e ∙ ap (λ (l : List ℕ). print_end end ++ l) x.2.0 ∙ sym (append_assoc (print_end end) (print_blank x.0) x.1), x.2.1))
    by_others end middle e (inr none) = inr (λ x. none_behind end middle e none x.0 x.1 x.2)

    by_line : Decided Newline text → Decided Blank text
    by_line (inr none) = by_first text refl none
    by_line (inl x) = by_others x.0 x.1 x.2 (shorter x.1 (omega (arith, ap length x.2, end_some x.0 x.1)))

blank_decided : (n : ℕ) (text : List ℕ) → length text ≤ n → Decided Blank text
blank_decided zero text short = blank_step text (λ middle less. absurd (omega (arith, short, less)))
blank_decided (suc n) text short = blank_step text (λ middle less. blank_decided n middle (omega (arith, short, less)))

-- ---- field lines

text_decided : (text : List ℕ) → Decided Text text
text_decided [] = inr (λ x. omega (arith, ap length x.2.1, length-append x.0.0 (print_end x.0.1 ++ x.1), end_some x.0.1 x.1))
text_decided (b ∷ text) = by_test (is_value_byte b) refl (text_decided text)
  where
    none_behind : is_value_byte b ≡ true → (Begins Text text → ⊥) → (raw : List ℕ) (end : LineEnd) (rest : List ℕ) → Text (raw, end) (b ∷ text) rest → ⊥
    none_behind passes none [] end rest x = let stops : is_value_byte b ≡ false = subst (Stops is_value_byte) (sym x.1) (Stops_value end rest) in false≢true (sym stops ∙ passes)
    none_behind passes none (c ∷ raw) end rest x = let e : b ∷ text ≡ c ∷ (raw ++ (print_end end ++ rest)) = x.1 in none ((raw, end), rest, (All-tail (λ v. is_value_byte v ≡ true) c raw x.0, cc))

    none_here : is_value_byte b ≡ false → (Begins Newline (b ∷ text) → ⊥) → (raw : List ℕ) (end : LineEnd) (rest : List ℕ) → Text (raw, end) (b ∷ text) rest → ⊥
    none_here fails none [] end rest x = none (end, rest, x.1)
    none_here fails none (c ∷ raw) end rest x = let e : b ∷ text ≡ c ∷ (raw ++ (print_end end ++ rest)) = x.1 in let same : b ≡ c = cc in false≢true (sym fails ∙ ap is_value_byte same ∙ All-head (λ v. is_value_byte v ≡ true) c raw x.0)

    by_end : is_value_byte b ≡ false → Decided Newline (b ∷ text) → Decided Text (b ∷ text)
    by_end fails (inl x) = inl (([], x.0), x.1, (All-nil _, x.2))
    by_end fails (inr none) = inr (λ x. none_here fails none x.0.0 x.0.1 x.1 x.2)

    by_test : (t : Bool) → is_value_byte b ≡ t → Decided Text text → Decided Text (b ∷ text)
    by_test true passes (inl x) = inl ((b ∷ x.0.0, x.0.1), x.1, (All-cons (λ v. is_value_byte v ≡ true) b x.0.0 passes x.2.0, ap (λ (l : List ℕ). b ∷ l) x.2.1))
    by_test true passes (inr none) = inr (λ x. none_behind passes none x.0.0 x.0.1 x.1 x.2)
    by_test false fails later = by_end fails (newline_decided (b ∷ text))

line_decided : (text : List ℕ) → Decided FieldLine text
line_decided text = by_parts (then_decided Name_deterministic (word_decided is_token_byte 58 colon_ends_token) text_decided text)
  where
    line_of : List ℕ × (List ℕ × LineEnd) → Line
    line_of t = record { name = t.0; raw = t.1.0; end = t.1.1 }

    by_parts : Decided (Then (Word is_token_byte 58) Text) text → Decided FieldLine text
    by_parts (inl x) = inl (
      line_of x.0,
      x.1,
      (
        record { name = (x.2.1.0, x.2.1.1); raw = x.2.2.0 },
        x.2.1.2 ∙ ap (λ (l : List ℕ). x.0.0 ++ 58 ∷ l) x.2.2.1 ∙ sym (print_field-append (line_of x.0) x.1),
      ),
    )
    by_parts (inr none) = inr (λ y. none ((y.0.name, (y.0.raw, y.0.end)), y.1, FieldLine_parts y.0 text y.1 y.2))

line_shorter : (f : Line) (text rest : List ℕ) → FieldLine f text rest → length rest < length text
line_shorter f text rest x = omega (arith, ap length (x.1 ∙ print_field-append f rest), length-append f.name (58 ∷ (f.raw ++ (print_end f.end ++ rest))), length-append f.raw (print_end f.end ++ rest), end_some f.end rest)

-- ---- sections

section_step : (text : List ℕ) → ((middle : List ℕ) → length middle < length text → Decided Section middle) → Decided Section text
section_step text shorter = by_end (newline_decided text)
  where
    none_behind : (f : Line) (middle : List ℕ) → FieldLine f text middle → (Begins Newline text → ⊥) → (Begins Section middle → ⊥) → (gs : List Line) (last : LineEnd) (rest : List ℕ) → Section (gs, last) text rest → ⊥
    none_behind f middle x bare none gs last rest y =
        let lines : text ≡ flat_map print_field (f ∷ []) ++ middle = x.1 ∙ ap (λ (l : List ℕ). l ++ middle) (sym (append-nil (print_field f))) in
        let skipped = Section_skip (f ∷ []) gs last text middle rest (All-cons IsField f [] x.0 (All-nil _), lines) y in
        none ((skipped.0, last), rest, skipped.2)

    by_others : (f : Line) (middle : List ℕ) → FieldLine f text middle → (Begins Newline text → ⊥) → Decided Section middle → Decided Section text
    by_others f middle x bare (inl s) = inl (
      (f ∷ s.0.0, s.0.1),
      s.1,
      (
        All-cons IsField f s.0.0 x.0 s.2.0,
        x.1 ∙ ap (λ (l : List ℕ). print_field f ++ l) s.2.1 ∙ sym (append_assoc (print_field f) (print_section s.0.0 s.0.1) s.1)
            ∙ ap (λ (l : List ℕ). l ++ s.1) (sym (append_assoc (print_field f) (flat_map print_field s.0.0) (print_end s.0.1))),
      ),
    )
    by_others f middle x bare (inr none) = inr (λ y. none_behind f middle x bare none y.0.0 y.0.1 y.1 y.2)

    none_begins : (Begins Newline text → ⊥) → (Begins FieldLine text → ⊥) → Begins Newline text ⊎ Begins FieldLine text → ⊥
    none_begins bare none (inl x) = bare x
    none_begins bare none (inr x) = none x

    by_line : (Begins Newline text → ⊥) → Decided FieldLine text → Decided Section text
    by_line bare (inl x) = by_others x.0 x.1 x.2 bare (shorter x.1 (line_shorter x.0 text x.1 x.2))
    by_line bare (inr none) = inr (λ y. none_begins bare none (Section_line y.0 text y.1 y.2))

    by_end : Decided Newline text → Decided Section text
    by_end (inl x) = inl (([], x.0), x.1, (All-nil _, x.2))
    by_end (inr bare) = by_line bare (line_decided text)

section_up_to : (n : ℕ) (text : List ℕ) → length text ≤ n → Decided Section text
section_up_to zero text short = section_step text (λ middle less. absurd (omega (arith, short, less)))
section_up_to (suc n) text short = section_step text (λ middle less. section_up_to n middle (omega (arith, short, less)))

section_decided : (text : List ℕ) → Decided Section text
section_decided text = section_up_to (length text) text (omega arith)

-- a section within the limits stands there, or none does
pub section_there : (bytes : List ℕ) → ((fields : List Field) × (len : ℕ) × (rest : List ℕ) × StartsWithSection bytes fields len rest) ⊎ HasNoSection bytes
section_there bytes = by_section (section_decided bytes)
  where
    too_many : (lines : List Line) (last : LineEnd) (rest : List ℕ) → ReadsSection bytes lines last rest → 100 < length lines → HasNoSection bytes
    too_many lines last rest reads many fields len behind has =
        let same = section_unique bytes lines has.lines last has.last rest behind reads has.reads in omega (arith, many, has.few, ap (λ (l : List Line). length l) same.0)

    too_long : (lines : List Line) (last : LineEnd) (rest : List ℕ) → ReadsSection bytes lines last rest → 65536 < length (print_section lines last) → HasNoSection bytes
    too_long lines last rest reads long fields len behind has =
        let same = section_unique bytes lines has.lines last has.last rest behind reads has.reads in
        let texts : print_section lines last ≡ print_section has.lines has.last = λ i. print_section (same.0 i) (same.1 i) in
        omega (arith, long, has.short, has.len_is, ap (λ (l : List ℕ). length l) texts)

    by_length : (lines : List Line) (last : LineEnd) (rest : List ℕ) → ReadsSection bytes lines last rest → length lines ≤ 100 → (65536 < length (print_section lines last)) ⊎ (length (print_section lines last) ≤ 65536)
        → ((fields : List Field) × (len : ℕ) × (rest : List ℕ) × StartsWithSection bytes fields len rest) ⊎ HasNoSection bytes
    by_length lines last rest reads few (inl long) = inr (too_long lines last rest reads long)
    by_length lines last rest reads few (inr short) = inl (map field_of lines, length (print_section lines last), rest, record { lines = lines; last = last; reads = reads; few = few; len_is = refl; short = short; parts = refl })

    by_count : (lines : List Line) (last : LineEnd) (rest : List ℕ) → ReadsSection bytes lines last rest → (100 < length lines) ⊎ (length lines ≤ 100)
        → ((fields : List Field) × (len : ℕ) × (rest : List ℕ) × StartsWithSection bytes fields len rest) ⊎ HasNoSection bytes
    by_count lines last rest reads (inl many) = inr (too_many lines last rest reads many)
    by_count lines last rest reads (inr few) = by_length lines last rest reads few (cases_lt 65536 (length (print_section lines last)))

    by_section : Decided Section bytes → ((fields : List Field) × (len : ℕ) × (rest : List ℕ) × StartsWithSection bytes fields len rest) ⊎ HasNoSection bytes
    by_section (inl x) = by_count x.0.0 x.0.1 x.1 x.2 (cases_lt 100 (length x.0.0))
    by_section (inr none) = inr (λ fields len rest has. none ((has.lines, has.last), rest, has.reads))

-- ---- heads

tree_decided : (text : List ℕ) → Decided (Then RequestStart Section) text
tree_decided = then_decided RequestStart_deterministic
    (then_decided Blank_deterministic (λ t. blank_decided (length t) t (omega arith))
    (then_decided Method_deterministic (word_decided is_token_byte 32 space_ends_token)
    (then_decided Target_deterministic target_decided (then_decided Version_deterministic version_decided newline_decided)))) section_decided

-- a head stands there, or none does
pub head_there : (bytes : List ℕ) → ((head : Head) × (len : ℕ) × StartsWithHead bytes head len) ⊎ HasNoHead bytes
head_there bytes = by_tree (tree_decided bytes)
  where
    reads_of : (head : Head) (len : ℕ) → (has : StartsWithHead bytes head len) → ReadsRequest bytes has.4.0 has.1
    reads_of head len has = (has.4.1.valid, has.2 ∙ ap (λ (l : List ℕ). l ++ has.1) has.4.1.text)

    same_tree : (t u : RequestHead) (rest behind : List ℕ) → ReadsRequest bytes t rest → ReadsRequest bytes u behind → t ≡ u
    same_tree t u rest behind x y = (request_prefix_free bytes [] t u rest behind x (subst (λ (b : List ℕ). ReadsRequest b u behind) (sym (append-nil bytes)) y)).0

    too_many : (t : RequestHead) (rest : List ℕ) → ReadsRequest bytes t rest → 100 < length t.fields → HasNoHead bytes
    too_many t rest x many head len has = omega (arith, many, has.4.1.few, ap (λ (u : RequestHead). length u.fields) (same_tree t has.4.0 rest has.1 x (reads_of head len has)))

    too_long : (t : RequestHead) (rest : List ℕ) → ReadsRequest bytes t rest → 65536 < length (print_request t) → HasNoHead bytes
    too_long t rest x long head len has =
        omega (arith, long, has.4.1.short, ap length has.4.1.text, ap (λ (u : RequestHead). length (print_request u)) (same_tree t has.4.0 rest has.1 x (reads_of head len has)))

    by_length : (t : RequestHead) (rest : List ℕ) → ReadsRequest bytes t rest → length t.fields ≤ 100 → (65536 < length (print_request t)) ⊎ (length (print_request t) ≤ 65536) → ((head : Head) × (len : ℕ) × StartsWithHead bytes head len) ⊎ HasNoHead bytes
    by_length t rest x few (inl long) = inr (too_long t rest x long)
    by_length t rest x few (inr short) = inl (head_of t, length (print_request t), (print_request t, rest, x.1, refl, (t, record { valid = x.0; text = refl; few = few; short = short; parts = refl })))

    by_count : (t : RequestHead) (rest : List ℕ) → ReadsRequest bytes t rest → (100 < length t.fields) ⊎ (length t.fields ≤ 100) → ((head : Head) × (len : ℕ) × StartsWithHead bytes head len) ⊎ HasNoHead bytes
    by_count t rest x (inl many) = inr (too_many t rest x many)
    by_count t rest x (inr few) = by_length t rest x few (cases_lt 65536 (length (print_request t)))

    by_tree : Decided (Then RequestStart Section) bytes → ((head : Head) × (len : ℕ) × StartsWithHead bytes head len) ⊎ HasNoHead bytes
    by_tree (inl x) = by_count (request_head x.0) x.1 (request_from_pieces bytes x.0 x.1 x.2) (cases_lt 100 (length (request_head x.0).fields))
    by_tree (inr none) = inr (λ head len has. none (request_tree has.4.0, has.1, request_pieces bytes has.4.0 has.1 (reads_of head len has)))
