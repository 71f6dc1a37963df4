-- One field more.
use Rattle.std.proofs.Common.{◌≡◌, ◌≢◌, ℕ, ◌+◌, ◌<◌, Bool, true, false, cond, ◌&&◌, ◌||◌, List, [], ◌∷◌, ◌++◌, length, get_or, take, refl, sym, ap, subst, ◌∙◌, arith}
use Rattle.std.specs.Prelude.{codes, count_by, nat_lt, bytes_eq, map, not, ◌==◌}
use Rattle.std.proofs.lemmas.Bool.Decides.{nat_tests}
use Rattle.std.specs.Char.{to_ascii_lowercase}
use Rattle.std.specs.List.{list_any}
use Rattle.std.proofs.lemmas.List.{length-map, take_more}
use Rattle.std.proofs.lemmas.List.Sums.{sum_by_push}
use Rattle.std.proofs.lemmas.Slice.Eq.{bytes_eq-Decides}
use Rattle.http_heads.specs.declared.field.Field.{Field}
use Rattle.http_heads.specs.declared.marks.Marks.{Marks}
use Rattle.http_heads.specs.Values.{is_same, is_named, elements, list_of}
use Rattle.http_heads.specs.declared.field.Head.{Head}
use Rattle.http_heads.specs.declared.Framing.{Framing}
use Rattle.http_heads.specs.declared.Framing.TheVariants.{Empty, Fault}
use Rattle.http_heads.specs.Framing.{framing_of, coding_of, length_of, persists_by}
use Rattle.http_heads.specs.Marks.{with_marks, mark, IsMarked, framing_by_marks}
use Rattle.http_heads.proofs.ValueLemmas.{list_any_push, any_from_count, twice_by_number}

-- a name of another length is another
pub other_name : (name : List ℕ) (f : Field) (n : ℕ) → n ≡ length f.name → n ≢ length name → false ≡ is_named name f
other_name name f n size other = by_test (is_named name f) refl
  where
    by_test : (t : Bool) → is_named name f ≡ t → false ≡ t
    by_test false is = refl
    by_test true is =
        let same : map to_ascii_lowercase f.name ≡ map to_ascii_lowercase name = (bytes_eq-Decides (map to_ascii_lowercase f.name) (map to_ascii_lowercase name)).0 is in
        absurd (other (size ∙ sym (length-map f.name to_ascii_lowercase) ∙ ap length same ∙ length-map name to_ascii_lowercase))

pub marked_as : (m : Marks) (f : Field) (host coded sized optioned : Bool) → host ≡ is_named (codes "host") f → coded ≡ is_named (codes "transfer-encoding") f → sized ≡ is_named (codes "content-length") f → optioned ≡ is_named (codes "connection") f → with_marks m host coded sized optioned ≡ mark m f
marked_as m f host coded sized optioned a b c d = λ i. with_marks m (a i) (b i) (c i) (d i)

twice_push : {X : Type 0} (p : X → Bool) (xs : List X) (x : X) → (nat_lt 1 (count_by p xs) || (list_any p xs && p x)) ≡ nat_lt 1 (count_by p (xs ++ x ∷ []))
twice_push p xs x =
    ap (λ (t : Bool). nat_lt 1 (count_by p xs) || (t && p x)) (any_from_count p xs) ∙ twice_by_number (count_by p xs) (p x)
    ∙ ap (nat_lt 1) (sym (sum_by_push (λ y. cond (p y) 1 0) xs x))

marked_push : (fields : List Field) (f : Field) (m : Marks) → IsMarked fields m → IsMarked (fields ++ f ∷ []) (mark m f)
marked_push fields f m is = record {
  host = (λ i. is.host i || is_named (codes "host") f) ∙ sym (list_any_push (is_named (codes "host")) fields f);
  hosts = (λ i. is.hosts i || (is.host i && is_named (codes "host") f)) ∙ twice_push (is_named (codes "host")) fields f;
  coded = (λ i. is.coded i || is_named (codes "transfer-encoding") f) ∙ sym (list_any_push (is_named (codes "transfer-encoding")) fields f);
  sized = (λ i. is.sized i || is_named (codes "content-length") f) ∙ sym (list_any_push (is_named (codes "content-length")) fields f);
  optioned = (λ i. is.optioned i || is_named (codes "connection") f) ∙ sym (list_any_push (is_named (codes "connection")) fields f);
}

pub marked_more : (fields : List Field) (i : ℕ) (d : Field) (m after : Marks) → i < length fields → after ≡ mark m (get_or fields i d) → IsMarked (take i fields) m → IsMarked (take (i + 1) fields) after
marked_more fields i d m after inside same is =
    let next = marked_push (take i fields) (get_or fields i d) m is in
    subst (λ (fs : List Field). IsMarked fs after) (sym (take_more fields i d inside)) (subst (IsMarked (take i fields ++ get_or fields i d ∷ [])) (sym same) next)

-- no field of the name has a value
pub no_fields : (name : List ℕ) (fields : List Field) → list_any (is_named name) fields ≡ false → list_of name fields ≡ []
no_fields name [] none = refl
no_fields name (f ∷ fields) none = by_test (is_named name f) none (no_fields name fields)
  where
    by_test : (t : Bool) → (t || list_any (is_named name) fields) ≡ false → (list_any (is_named name) fields ≡ false → list_of name fields ≡ []) → cond t (elements f.value ++ list_of name fields) (list_of name fields) ≡ []
    by_test true h later = cc
    by_test false h later = later h

none_or_some : (n : ℕ) → (n == 0) ≡ not (nat_lt 0 n)
none_or_some n = grind (arith, nat_tests)

pub framing_marked : (h : Head) (m : Marks) → IsMarked h.fields m → framing_by_marks h m ≡ framing_of h
unfolding framing_of
framing_marked h m is =
    let none : not m.host ≡ (count_by (is_named (codes "host")) h.fields == 0) = ap not (is.host ∙ any_from_count (is_named (codes "host")) h.fields) ∙ sym (none_or_some (count_by (is_named (codes "host")) h.fields)) in
    λ i. by_parts h (is.hosts i) (none i) (is.coded i) (is.sized i)
  where
    by_parts : (h : Head) (hosts none coded sized : Bool) → Framing
    by_parts h hosts none coded sized =
        cond (hosts || (none && (h.minor == 1))) (Fault 400)
        (cond (bytes_eq h.method (codes "CONNECT")) (Fault 501)
        (cond (coded && ((h.minor == 0) || sized)) (Fault 400)
        (cond coded (coding_of (list_of (codes "transfer-encoding") h.fields))
        (cond sized (length_of (list_of (codes "content-length") h.fields))
        Empty))))

pub persists_marked : (minor : ℕ) (fields : List Field) (m : Marks) → IsMarked fields m → m.optioned ≡ false → (minor == 1) ≡ persists_by minor fields
unfolding persists_by
persists_marked minor fields m is none =
    let empty : list_of (codes "connection") fields ≡ [] = no_fields (codes "connection") fields (sym is.optioned ∙ none) in
    by_test (minor == 1) ∙ sym (ap (λ (es : List (List ℕ)). cond (list_any (λ e. is_same e (codes "close")) es) false (cond (minor == 1) true (list_any (λ e. is_same e (codes "keep-alive")) es))) empty)
  where
    by_test : (t : Bool) → t ≡ cond t true false
    by_test true = refl
    by_test false = refl
