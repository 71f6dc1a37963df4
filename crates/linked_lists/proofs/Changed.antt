-- What two new pairs of neighbours make of all lists.
use Rattle.std.proofs.Common.{◌≡◌, ◌≢◌, ◌∙◌, ℕ, ◌<◌, List, [], ◌∷◌, length, Bool, true, false, refl, sym, ap, subst}
use Rattle.std.specs.Prelude.{if◌then◌else◌}
use Rattle.std.proofs.lemmas.Bool.{false≢true, ne_eqb, eq-eqb}
use Rattle.linked_lists.specs.declared.Link.{Link}
use Rattle.linked_lists.specs.Lists.{is_in, with_before, without, next_of, previous_of, redirected, list_of, walk, IsPath, IsRing}
use Rattle.linked_lists.proofs.Paths.{comes_back, rest_in}
use Rattle.linked_lists.proofs.Rings.{ring_is, ring_with, ring_other, rings_with, ring_without, rings_without, ring_alone}

-- two numbers became neighbours
pub record IsJoined (old new : List Link) (left right : ℕ) : Type 0 where
  pub next : (x : ℕ) → next_of new x ≡ redirected left right (next_of old) x
  pub previous : (x : ℕ) → previous_of new x ≡ redirected right left (previous_of old) x
  pub size : length new ≡ length old

chosen : (b : Bool) (x y : ℕ) → b ≡ true → (if b then x else y) ≡ x
chosen b x y h = rw h refl

left_out : (b : Bool) (x y : ℕ) → b ≡ false → (if b then x else y) ≡ y
left_out b x y h = rw h refl

module _ (old new : List Link) (left right : ℕ) (joined : IsJoined old new left right) where
  next_here : (x : ℕ) → x ≡ left → next_of new x ≡ right
  next_here x e = joined.next x ∙ chosen _ right (next_of old x) (eq-eqb x left e)

  next_there : (x : ℕ) → x ≢ left → next_of new x ≡ next_of old x
  next_there x d = joined.next x ∙ left_out _ right (next_of old x) (ne_eqb x left d)

  previous_here : (x : ℕ) → x ≡ right → previous_of new x ≡ left
  previous_here x e = joined.previous x ∙ chosen _ left (previous_of old x) (eq-eqb x right e)

  previous_there : (x : ℕ) → x ≢ right → previous_of new x ≡ previous_of old x
  previous_there x d = joined.previous x ∙ left_out _ left (previous_of old x) (ne_eqb x right d)

abbrev pub AreRings : List Link → Type 0
AreRings links = (head : ℕ) → IsRing (next_of links) (previous_of links) (length links) head (list_of links head)

-- the list of a head is that of its ring
is_list : (new : List Link) (n head : ℕ) (xs : List ℕ) → length new ≡ n → IsRing (next_of new) (previous_of new) n head xs → list_of new head ≡ xs
is_list new n head xs e r = ap (λ k. walk (next_of new) k (next_of new head) head) e ∙ ring_is (next_of new) (previous_of new) n head xs r

all_rings : (new : List Link) (n : ℕ) → length new ≡ n → ((head : ℕ) → IsRing (next_of new) (previous_of new) n head (walk (next_of new) n (next_of new head) head)) → AreRings new
all_rings new n e h = λ head. subst (λ k. IsRing (next_of new) (previous_of new) k head (walk (next_of new) k (next_of new head) head)) (sym e) (h head)

-- a number goes directly before another one
module _ (old between new : List Link) (place number : ℕ)
    (first : IsJoined old between (previous_of old place) number) (second : IsJoined between new number place)
    (rings : AreRings old) (empty : list_of old number ≡ []) (other : place ≢ number) (place_in : place < length old) (number_in : number < length old) where
  path_alone : IsPath (next_of old) (previous_of old) number [] number
  path_alone = subst (λ xs. IsPath (next_of old) (previous_of old) number xs number) empty (rings number).path

  apart : previous_of old place ≢ number
  apart e = other (sym (comes_back (next_of old) (previous_of old) place place (list_of old place) (rings place).path) ∙ ap (next_of old) e ∙ path_alone.0)

  apart_back : number ≢ place
  apart_back e = other (sym e)

  to_new : next_of new (previous_of old place) ≡ number
  to_new = next_there between new number place second (previous_of old place) apart ∙ next_here old between (previous_of old place) number first (previous_of old place) refl

  from_new : next_of new number ≡ place
  from_new = next_here between new number place second number refl

  back_new : previous_of new number ≡ previous_of old place
  back_new = previous_there between new number place second number apart_back ∙ previous_here old between (previous_of old place) number first number refl

  back_place : previous_of new place ≡ number
  back_place = previous_here between new number place second place refl

  others_next : (x : ℕ) → x ≢ previous_of old place → x ≢ number → next_of new x ≡ next_of old x
  others_next x d e = next_there between new number place second x e ∙ next_there old between (previous_of old place) number first x d

  others_previous : (x : ℕ) → x ≢ place → x ≢ number → previous_of new x ≡ previous_of old x
  others_previous x d e = previous_there between new number place second x d ∙ previous_there old between (previous_of old place) number first x e

  pub with_rings : AreRings new
  with_rings =
      all_rings new (length old) (second.size ∙ first.size)
      (rings_with (next_of old) (previous_of old) (next_of new) (previous_of new) (length old) place number (list_of old) rings empty other place_in number_in to_new from_new back_new back_place others_next others_previous)

  not_head : (head : ℕ) → is_in place (head ∷ list_of old head) ≡ true → head ≢ number
  not_head head i e =
      let j : is_in place (number ∷ []) ≡ true = subst (λ xs. is_in place (number ∷ xs) ≡ true) empty (subst (λ h. is_in place (h ∷ list_of old h) ≡ true) e i) in
      false≢true (rest_in place number [] (ne_eqb number place apart_back) j)

  pub with_list : (head : ℕ) → is_in place (head ∷ list_of old head) ≡ true → list_of new head ≡ with_before place number (list_of old head)
  with_list head i =
      is_list new (length old) head _ (second.size ∙ first.size)
      (ring_with (next_of old) (previous_of old) (next_of new) (previous_of new) (length old) place number (list_of old) rings empty other place_in number_in to_new from_new back_new back_place others_next others_previous
      head (not_head head i) i)

  pub other_list : (head : ℕ) → head ≢ number → is_in place (head ∷ list_of old head) ≡ false → list_of new head ≡ list_of old head
  other_list head d o =
      is_list new (length old) head _ (second.size ∙ first.size)
      (ring_other (next_of old) (previous_of old) (next_of new) (previous_of new) (length old) place number (list_of old) rings empty other place_in number_in to_new from_new back_new back_place others_next others_previous
      head d o)

-- a number leaves
module _ (old between new : List Link) (m : ℕ)
    (first : IsJoined old between (previous_of old m) (next_of old m)) (second : IsJoined between new m m) (rings : AreRings old) where
  over : previous_of old m ≢ m → next_of new (previous_of old m) ≡ next_of old m
  over d = next_there between new m m second (previous_of old m) d ∙ next_here old between (previous_of old m) (next_of old m) first (previous_of old m) refl

  back : next_of old m ≢ m → previous_of new (next_of old m) ≡ previous_of old m
  back d = previous_there between new m m second (next_of old m) d ∙ previous_here old between (previous_of old m) (next_of old m) first (next_of old m) refl

  alone_next : next_of new m ≡ m
  alone_next = next_here between new m m second m refl

  alone_previous : previous_of new m ≡ m
  alone_previous = previous_here between new m m second m refl

  kept_next : (x : ℕ) → x ≢ previous_of old m → x ≢ m → next_of new x ≡ next_of old x
  kept_next x d e = next_there between new m m second x e ∙ next_there old between (previous_of old m) (next_of old m) first x d

  kept_previous : (x : ℕ) → x ≢ next_of old m → x ≢ m → previous_of new x ≡ previous_of old x
  kept_previous x d e = previous_there between new m m second x e ∙ previous_there old between (previous_of old m) (next_of old m) first x d

  pub without_rings : AreRings new
  without_rings =
      all_rings new (length old) (second.size ∙ first.size)
      (rings_without (next_of old) (previous_of old) (next_of new) (previous_of new) (length old) m (list_of old) rings over back alone_next alone_previous kept_next kept_previous)

  pub alone_list : list_of new m ≡ []
  alone_list = is_list new (length old) m [] (second.size ∙ first.size) (ring_alone (next_of new) (previous_of new) (length old) m alone_next alone_previous)

  pub without_list : (head : ℕ) → head ≢ m → list_of new head ≡ without m (list_of old head)
  without_list head d =
      is_list new (length old) head _ (second.size ∙ first.size)
      (ring_without (next_of old) (previous_of old) (next_of new) (previous_of new) (length old) m (list_of old) rings over back alone_next alone_previous kept_next kept_previous head d)

-- all are alone at first
pub new_rings : (links : List Link) → ((x : ℕ) → next_of links x ≡ x) → ((x : ℕ) → previous_of links x ≡ x) → AreRings links
new_rings links p q = λ head. subst (IsRing (next_of links) (previous_of links) (length links) head) (sym (new_list links p q head)) (ring_alone (next_of links) (previous_of links) (length links) head (p head) (q head))
  where
    new_list : (links : List Link) → ((x : ℕ) → next_of links x ≡ x) → ((x : ℕ) → previous_of links x ≡ x) → (head : ℕ) → list_of links head ≡ []
    new_list links p q head = is_list links (length links) head [] refl (ring_alone (next_of links) (previous_of links) (length links) head (p head) (q head))

pub new_lists : (links : List Link) → ((x : ℕ) → next_of links x ≡ x) → ((x : ℕ) → previous_of links x ≡ x) → (head : ℕ) → list_of links head ≡ []
new_lists links p q head = is_list links (length links) head [] refl (ring_alone (next_of links) (previous_of links) (length links) head (p head) (q head))
