-- One chunk more.
use Rattle.std.proofs.Common.{◌≡◌, ℕ, suc, ◌+◌, ◌-◌, ◌/◌, ◌<◌, min, false, nat_eq, List, ◌++◌, length, take, drop, refl, sym, ap, ◌∙◌, arith, inl, inr, []}
use Rattle.std.proofs.lemmas.List.{append_assoc, append-nil, length-append, length-drop, length-take, take_at, take-append-le, take-take, take_min}
use Rattle.std.proofs.Math.ListN.{drop_of_length-le}
use Rattle.std.proofs.lemmas.Bool.{cases_lt}
use Rattle.std.proofs.lemmas.Bool.Decides.{nat_tests}
use Rattle.http_frames.specs.Written.{chunk_of}
use Rattle.http_core.specs.Text.{chunks, all_chunks}

count_step : (n k : ℕ) → 0 < n → k ≡ n - 4096 → (n + 4095) / 4096 ≡ suc ((k + 4095) / 4096)
count_step n k some left = omega arith

pub first_chunk : (xs : List ℕ) → 0 < length xs → all_chunks xs ≡ chunk_of (take 4096 xs) ++ all_chunks (drop 4096 xs)
unfolding all_chunks
first_chunk xs some = ap (λ (n : ℕ). chunks n xs) (count_step (length xs) (length (drop 4096 xs)) some (length-drop 4096 xs))

drop_min : (xs : List ℕ) → drop (min 4096 (length xs)) xs ≡ drop 4096 xs
drop_min xs = elim (cases_lt (length xs) 4096) [
  | inl short ↦
      let one : drop (min 4096 (length xs)) xs ≡ [] = drop_of_length-le xs {i = min 4096 (length xs)} (omega arith) in
      let other : drop 4096 xs ≡ [] = drop_of_length-le xs {i = 4096} (omega arith) in
      one ∙ sym other
  | inr long ↦ let size : min 4096 (length xs) ≡ 4096 = omega arith in ap (λ (n : ℕ). drop n xs) size
]

pub some_left : (n : ℕ) → false ≡ nat_eq n 0 → 0 < n
some_left n h = grind (arith, nat_tests)

pub chunk_step : (out pushed xs piece after : List ℕ) (m : ℕ) → m ≡ min 4096 (length xs) → 0 < length xs → piece ≡ take m xs → after ≡ drop m xs → pushed ≡ out ++ chunk_of piece → pushed ++ all_chunks after ≡ out ++ all_chunks xs
chunk_step out pushed xs piece after m size some front back push =
    let first : piece ≡ take 4096 xs = front ∙ ap (λ (n : ℕ). take n xs) size ∙ take_min 4096 xs in
    let others : after ≡ drop 4096 xs = back ∙ ap (λ (n : ℕ). drop n xs) size ∙ drop_min xs in
    (λ i. push i ++ all_chunks (others i)) ∙ append_assoc out (chunk_of piece) (all_chunks (drop 4096 xs))
    ∙ (λ i. out ++ (chunk_of (first i) ++ all_chunks (drop 4096 xs))) ∙ ap (λ (b : List ℕ). out ++ b) (sym (first_chunk xs some))

pub no_chunks : (xs : List ℕ) → length xs ≡ 0 → all_chunks xs ≡ []
unfolding all_chunks
no_chunks xs none = ap (λ (n : ℕ). chunks ((n + 4095) / 4096) xs) none

pub chunks_done : (out rest whole : List ℕ) → length rest ≡ 0 → out ++ all_chunks rest ≡ whole → out ≡ whole
chunks_done out rest whole none all = sym (append-nil out) ∙ ap (λ (b : List ℕ). out ++ b) (sym (no_chunks rest none)) ∙ all

-- ---- what stood before stays in front

pub front_stays : (old mid x : List ℕ) → mid ≡ old ++ x → take (length old) mid ≡ old
front_stays old mid x grows = ap (take (length old)) grows ∙ take_at old x (length old) refl

pub front_stays_on : (old mid new x : List ℕ) → mid ≡ old ++ x → take (length mid) new ≡ mid → take (length old) new ≡ old
front_stays_on old mid new x grows front =
    sym (take-take (length old) (length mid) new (omega (arith, ap length grows, length-append old x))) ∙ ap (take (length old)) front ∙ front_stays old mid x grows

pub front_stays_more : (old mid new x : List ℕ) → take (length old) mid ≡ old → new ≡ mid ++ x → take (length old) new ≡ old
front_stays_more old mid new x front grows =
    ap (take (length old)) grows ∙ take-append-le (length old) mid x (omega (arith, ap length front, length-take (length old) mid)) ∙ front
