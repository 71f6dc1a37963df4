-- Few entries are current.
use Rattle.std.proofs.Common.{◌≡◌, ℕ, ◌<◌, ◌≤◌, List, [], ◌∷◌, Bool, true, false, cond, length, map, arith, refl, sym, ap, ◌∙◌}
use Rattle.std.specs.Prelude.{nat_eq, filter, slice_index_or, ◌||◌}
use Rattle.std.specs.List.{AllByRecursion, IsDistinct, list_any}
use Rattle.std.proofs.lemmas.Bool.{false≢true}
use Rattle.std.proofs.lemmas.Bool.Decides.{nat_tests}
use Rattle.std.proofs.lemmas.List.{length-map}
use Rattle.std.proofs.lemmas.Map.Steps.{length-le_from_distinct_below}
use Rattle.promise_graph.specs.declared.index.Entry.{Entry}
use Rattle.promise_graph.specs.Slots.{IsRising, is_current}
use Rattle.promise_graph.proofs.Lists.{all_filter, equal_not}
use Rattle.promise_graph.proofs.Numbered.{low_case}

later_case : (numbers : List ℕ) (e : Entry) (es : List Entry) → is_current numbers e ≡ true → AllByRecursion (λ (f : Entry). (e.number < f.number) × (is_current numbers f ≡ true)) es → AllByRecursion (λ y. nat_eq e.slot y ≡ false) (map (λ (f : Entry). f.slot) es)
later_case numbers e [] c h = tt
later_case numbers e (f ∷ es) c h = (
  equal_not e.slot f.slot (λ same.
      let here : slice_index_or numbers e.slot 0 ≡ e.number = grind (arith, nat_tests) in
      let there : slice_index_or numbers f.slot 0 ≡ f.number = (let t = h.0.1 in grind (arith, nat_tests)) in
      let both : e.number ≡ f.number = sym here ∙ ap (λ (k : ℕ). slice_index_or numbers k 0) same ∙ there in
      let less = h.0.0 in omega (arith, both, less)),
  later_case numbers e es c h.1,
)

apart_case : (numbers : List ℕ) (b : Bool) (e : Entry) (es : List Entry) → is_current numbers e ≡ b → AllByRecursion (λ (f : Entry). (e.number < f.number) × (is_current numbers f ≡ true)) es → IsDistinct nat_eq (map (λ (f : Entry). f.slot) es)
    → IsDistinct nat_eq (map (λ (f : Entry). f.slot) (cond b (e ∷ es) es))
unfolding IsDistinct
apart_case numbers true e es c h k = (later_case numbers e es c h, k)
apart_case numbers false e es c h k = k

apart_slots : (numbers : List ℕ) (es : List Entry) → IsRising es → IsDistinct nat_eq (map (λ (f : Entry). f.slot) (filter (is_current numbers) es))
unfolding IsDistinct
apart_slots numbers [] h = tt
apart_slots numbers (e ∷ es) h = apart_case numbers (is_current numbers e) e (filter (is_current numbers) es) refl (all_filter (λ (f : Entry). e.number < f.number) (λ (f : Entry). (e.number < f.number) × (is_current numbers f ≡ true)) (is_current numbers) (λ f c l. (l, c)) es h.0) (apart_slots numbers es h.1)

low_slots : (numbers : List ℕ) (es : List Entry) → AllByRecursion (λ (f : Entry). (0 < f.number) × (is_current numbers f ≡ true)) es → (q : ℕ) → list_any (nat_eq q) (map (λ (f : Entry). f.slot) es) ≡ true → q < length numbers
low_slots numbers [] h q t = absurd (false≢true t)
low_slots numbers (e ∷ es) h q t = low_of (nat_eq q e.slot) refl t (low_slots numbers es h.1 q)
  where
    low_of : (b : Bool) → nat_eq q e.slot ≡ b → (b || list_any (nat_eq q) (map (λ (f : Entry). f.slot) es)) ≡ true → (list_any (nat_eq q) (map (λ (f : Entry). f.slot) es) ≡ true → q < length numbers) → q < length numbers
    low_of true c t k =
        let same : q ≡ e.slot = grind (arith, nat_tests) in
        let here : slice_index_or numbers e.slot 0 ≡ e.number = (let u = h.0.1 in grind (arith, nat_tests)) in
        let low = low_case numbers e.slot e.number h.0.0 here in
        omega (arith, same, low)
    low_of false c t k = k t

-- as many entries are current as there are slots, at most
pub few_current : (numbers : List ℕ) (es : List Entry) → IsRising es → AllByRecursion (λ (e : Entry). 0 < e.number) es → length (filter (is_current numbers) es) ≤ length numbers
few_current numbers es rising above =
    let h = length-le_from_distinct_below (map (λ (f : Entry). f.slot) (filter (is_current numbers) es)) (length numbers) (apart_slots numbers es rising)
    (low_slots numbers (filter (is_current numbers) es) (all_filter (λ (e : Entry). 0 < e.number) (λ (f : Entry). (0 < f.number) × (is_current numbers f ≡ true)) (is_current numbers) (λ e c p. (p, c)) es above)) in
    omega (arith, h, length-map (filter (is_current numbers) es) (λ (f : Entry). f.slot))

rising_case : (b : Bool) (e : Entry) (es : List Entry) → AllByRecursion (λ (later : Entry). e.number < later.number) es → IsRising es → IsRising (cond b (e ∷ es) es)
rising_case true e es h k = (h, k)
rising_case false e es h k = k

pub rising_filter : (p : Entry → Bool) (es : List Entry) → IsRising es → IsRising (filter p es)
rising_filter p [] h = tt
rising_filter p (e ∷ es) h = rising_case (p e) e (filter p es) (all_filter (λ (f : Entry). e.number < f.number) (λ (f : Entry). e.number < f.number) p (λ f c l. l) es h.0) (rising_filter p es h.1)
