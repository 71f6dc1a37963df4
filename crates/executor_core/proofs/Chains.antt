-- A chain without one of its numbers, and with a further one at its end.
use Rattle.std.proofs.Common.{◌≡◌, ◌≢◌, ℕ, ◌+◌, ◌<◌, ◌≤◌, zero, suc, List, [], ◌∷◌, set, length, length-set, ap, ◌∙◌, sym, arith, ⊎_elim, Some}
use Rattle.std.proofs.lemmas.Bool.{cases_lt}
use mathlib.Core.Logic.{dite}
use native.Mathlib.Decide.{ℕ_discrete}
use Rattle.std.specs.Prelude.{slice_get, slice_set}
use Rattle.executor_core.specs.Chains.{Marks, IsBefore, IsAfter, Chained, Without, With, LinksLeft, LinksRight}
use Rattle.executor_core.proofs.Steps.{get_else}

pub clash : {A : Type 0} (n : ℕ) → n ≡ 0 → n ≡ 1 → A
clash n a b = absurd (let g : ⊥ = omega arith in g)

-- what was set there
was_set : (xs : List ℕ) (i k a b : ℕ) → k ≡ i → slice_get (set xs i a) k ≡ Some b → b ≡ a
was_set [] i k a b e h = cc
was_set (x ∷ xs) zero zero a b e h = cc
was_set (x ∷ xs) zero (suc k) a b e h = absurd (omega arith)
was_set (x ∷ xs) (suc i) zero a b e h = absurd (omega arith)
was_set (x ∷ xs) (suc i) (suc k) a b e h = was_set xs i k a b (omega arith) h

one_less : (p k : ℕ) → k < p → (j : ℕ) × (p ≡ j + 1)
one_less zero k l = absurd (omega arith)
one_less (suc j) k l = (j, (let g : suc j ≡ j + 1 = omega arith in g))

pub left_length : (p n first first' : ℕ) (after after' : List ℕ) → LinksLeft p n first first' after after' → length after' ≡ length after
left_length p n first first' after after' left = ⊎_elim (λ h. ap length h.2) (λ h. ap length h.3 ∙ length-set after h.0 n) left

pub right_length : (p n bound end end' : ℕ) (before before' : List ℕ) → LinksRight p n bound end end' before before' → length before' ≡ length before
right_length p n bound end end' before before' right = ⊎_elim (λ h. ap length h.2) (λ h. ap length h.2 ∙ length-set before n p) right

module _ (w v : Marks) (r : ℕ) (out : Without w v r) where
  zeros : (k : ℕ) → w k ≡ 0 → v k ≡ 0
  zeros k z = dite (ℕ_discrete k r) (λ e. ap v e ∙ out.1) (λ ne. out.0 k ne ∙ z)

  other : (k : ℕ) → v k ≡ 1 → k ≢ r
  other k o e = clash (v k) (ap v e ∙ out.1) o

  was : (k : ℕ) → v k ≡ 1 → w k ≡ 1
  was k o = sym (out.0 k (other k o)) ∙ o

  -- between the one before r and the one after it there is nothing
  gap : (p n bound : ℕ) → IsBefore w r p → IsAfter w bound r n → (k : ℕ) → p ≤ k → k < n → v k ≡ 0
  gap p n bound b a k low high = dite (ℕ_discrete k r) (λ e. ap v e ∙ out.1)
      (λ ne. ⊎_elim (λ l. zeros k (b.1 k low l)) (λ g. zeros k (a.2 k (let z : r < k = omega arith in z) high)) (cases_lt k r))

  -- the links of the others
  pub prev_stays : (p n bound k q : ℕ) → IsBefore w r p → IsAfter w bound r n → k < bound → w k ≡ 1 → k ≢ r → (k ≢ n) → IsBefore w k q → IsBefore v k q
  prev_stays p n bound k q b a low in_it ne not_next h = (
    h.0,
    (λ j from under. zeros j (h.1 j from under)),
    (λ j is. out.0 j (λ e. ⊎_elim
        (λ l. clash (w k) (a.2 k (let z : r < k = (let x : q ≤ k = h.0 in omega arith) in z) l) in_it)
        (λ g. clash (w n) (h.1 n (let x : r < n = a.0 in omega arith) (let z : n < k = omega arith in z)) (a.3 (let z : n < bound = omega arith in z)))
        (cases_lt k n)) ∙ h.2 j is),
  )

  pub next_stays : (p n bound k m : ℕ) → IsBefore w r p → IsAfter w bound r n → w k ≡ 1 → k ≢ r → ((j : ℕ) → p ≡ j + 1 → k ≢ j) → IsAfter w bound k m → IsAfter v bound k m
  next_stays p n bound k m b a in_it ne not_last h = (
    h.0,
    h.1,
    (λ j over under. zeros j (h.2 j over under)),
    (λ under. out.0 m (λ e. ⊎_elim
        (λ l. let z = one_less p k l in let j : ℕ = z.0 in let is : p ≡ j + 1 = z.1 in let y = b.0 in let ne' = not_last j is in clash (w j) (h.2 j (omega arith) (omega arith)) (b.2 j is))
        (λ g. clash (w k) (b.1 k g (let x : k < m = h.0 in omega arith)) in_it)
        (cases_lt k p)) ∙ h.3 under),
  )

  pub leaves : (first end bound first' end' p n : ℕ) (before after before' after' : List ℕ) → Chained w first end bound before after → w r ≡ 1 → slice_get before r ≡ Some p → slice_get after r ≡ Some n
      → LinksLeft p n first first' after after' → LinksRight p n bound end end' before before' → Chained v first' end' bound before' after'
  leaves first end bound first' end' p n before after before' after' c here at_p at_n left right = let b = c.prev r p here at_p in let a = c.next r n here at_n in
      let low = b.0 in let high = a.0 in let inside = a.1 in let fits = c.within in let starts = c.begins in let apart : n ≢ r = (λ e. omega arith) in record {
        within = ⊎_elim (λ h. let x = h.0 in let y = h.1 in let z : end' ≤ bound = omega arith in z) (λ h. let y = h.1 in let z : end' ≤ bound = omega arith in z) right;
        begins = ⊎_elim (λ h. let y = h.1 in let z : first' ≤ bound = omega arith in z) (λ h. let y = h.2 in let z : first' ≤ bound = omega arith in z) left;
        past = λ k from. ⊎_elim
            (λ h. let x = h.0 in let y = h.1 in ⊎_elim (λ l. gap p n bound b a k (omega arith) l) (λ g. zeros k (c.past k (omega arith))) (cases_lt k n))
            (λ h. let y = h.1 in zeros k (c.past k (omega arith))) right;
        ahead = λ k under. ⊎_elim
            (λ h. let x = h.0 in let y = h.1 in gap p n bound b a k (omega arith) (omega arith))
            (λ h. let y = h.2 in zeros k (c.ahead k (omega arith))) left;
        is_first = λ under. ⊎_elim
            (λ h. let y = h.1 in ap v y ∙ out.0 n apart ∙ a.3 (omega arith))
            (λ h. let j : ℕ = h.0 in let x : p ≡ j + 1 = h.1 in let y = h.2 in ap v y ∙ out.0 first (λ e. clash (w j) (c.ahead j (omega arith)) (b.2 j x)) ∙ c.is_first (omega arith)) left;
        is_last = λ k is. ⊎_elim
            (λ h. let y = h.1 in out.0 k (λ e. omega arith) ∙ b.2 k (omega arith))
            (λ h. let x = h.0 in let y = h.1 in out.0 k (λ e. clash (w n) (c.past n (omega arith)) (a.3 x)) ∙ c.is_last k (omega arith)) right;
        prev = λ k q in_it at. let ne = other k in_it in let w1 = was k in_it in let under : k < bound = ⊎_elim (λ l. l) (λ g. clash (w k) (c.past k (omega arith)) w1) (cases_lt k bound) in ⊎_elim
            (λ h. let x = h.0 in prev_stays p n bound k q b a under w1 ne (λ e. omega arith) (c.prev k q w1 (ap (λ l. slice_get l k) (sym h.2) ∙ at)))
            (λ h. let at' : slice_get (slice_set before n p) k ≡ Some q = ap (λ l. slice_get l k) (sym h.2) ∙ at in dite (ℕ_discrete k n)
            (λ e. let same : q ≡ p = was_set before n k p q e at' in (
              (let z : q ≤ k = omega arith in z),
              (λ j from to. gap p n bound b a j (omega arith) (omega arith)),
              (λ j is. out.0 j (λ e. omega arith) ∙ b.2 j (omega arith)),
            ))
            (λ ne'. prev_stays p n bound k q b a under w1 ne ne' (c.prev k q w1 (sym (get_else before n k p ne') ∙ at')))) right;
        next = λ k m in_it at. let ne = other k in_it in let w1 = was k in_it in ⊎_elim
            (λ h. let x = h.0 in next_stays p n bound k m b a w1 ne (λ j is. absurd (let z : ⊥ = omega arith in z)) (c.next k m w1 (ap (λ l. slice_get l k) (sym h.2) ∙ at)))
            (λ h. let j : ℕ = h.0 in let x : p ≡ j + 1 = h.1 in let at' : slice_get (slice_set after j n) k ≡ Some m = ap (λ l. slice_get l k) (sym h.3) ∙ at in dite (ℕ_discrete k j)
            (λ e. let same : m ≡ n = was_set after j k n m e at' in (
              (let z : k < m = omega arith in z),
              (let z : m ≤ bound = omega arith in z),
              (λ i over to. gap p n bound b a i (omega arith) (omega arith)),
              (λ to. ap v same ∙ out.0 n apart ∙ a.3 (omega arith)),
            ))
            (λ ne'. next_stays p n bound k m b a w1 ne (λ i is e. ne' (let z : k ≡ j = omega arith in z)) (c.next k m w1 (sym (get_else after j k n ne') ∙ at')))) left;
      }

module _ (w v : Marks) (r : ℕ) (out : With w v r) where
  pub joins : (first end bound first' : ℕ) (before after between before' after' : List ℕ) → Chained w first end bound before after → bound ≤ r
      → LinksLeft end r first first' after between → before' ≡ slice_set before r end → after' ≡ slice_set between r (r + 1) → Chained v first' (r + 1) (r + 1) before' after'
  joins first end bound first' before after between before' after' c beyond left is_before is_after = let fits = c.within in let starts = c.begins in record {
    within = (let z : r + 1 ≤ r + 1 = omega arith in z);
    begins = ⊎_elim (λ h. let y = h.1 in let z : first' ≤ r + 1 = omega arith in z) (λ h. let y = h.2 in let z : first' ≤ r + 1 = omega arith in z) left;
    past = λ k from. out.0 k (λ e. omega arith) ∙ c.past k (omega arith);
    ahead = λ k under. ⊎_elim
        (λ h. let x = h.0 in let y = h.1 in out.0 k (λ e. omega arith) ∙ c.past k (omega arith))
        (λ h. let y = h.2 in out.0 k (λ e. omega arith) ∙ c.ahead k (omega arith)) left;
    is_first = λ under. ⊎_elim
        (λ h. ap v h.1 ∙ out.1)
        (λ h. let j : ℕ = h.0 in let x : end ≡ j + 1 = h.1 in ap v h.2 ∙ ⊎_elim
        (λ l. out.0 first (λ e. omega arith) ∙ c.is_first l)
        (λ g. clash (w j) (c.ahead j (omega arith)) (c.is_last j x)) (cases_lt first bound)) left;
    is_last = λ k is. ap v (let z : k ≡ r = omega arith in z) ∙ out.1;
    prev = λ k q in_it at. let at' : slice_get (slice_set before r end) k ≡ Some q = ap (λ l. slice_get l k) (sym is_before) ∙ at in dite (ℕ_discrete k r)
        (λ e. let same : q ≡ end = was_set before r k end q e at' in (
          (let z : q ≤ k = omega arith in z),
          (λ j from to. out.0 j (λ e. omega arith) ∙ c.past j (omega arith)),
          (λ j is. out.0 j (λ e. omega arith) ∙ c.is_last j (omega arith)),
        ))
        (λ ne. let w1 : w k ≡ 1 = sym (out.0 k ne) ∙ in_it in let under : k < bound = ⊎_elim (λ l. l) (λ g. clash (w k) (c.past k (omega arith)) w1) (cases_lt k bound) in
        let h = c.prev k q w1 (sym (get_else before r k end ne) ∙ at') in let low = h.0 in (
          low,
          (λ j from to. out.0 j (λ e. omega arith) ∙ h.1 j from to),
          (λ j is. out.0 j (λ e. omega arith) ∙ h.2 j is),
        ));
    next = λ k m in_it at. let at' : slice_get (slice_set between r (r + 1)) k ≡ Some m = ap (λ l. slice_get l k) (sym is_after) ∙ at in dite (ℕ_discrete k r)
        (λ e. let same : m ≡ r + 1 = was_set between r k (r + 1) m e at' in (
          (let z : k < m = omega arith in z),
          (let z : m ≤ r + 1 = omega arith in z),
          (λ j over to. absurd (let z : ⊥ = omega arith in z)),
          (λ to. absurd (let z : ⊥ = omega arith in z)),
        ))
        (λ ne. let w1 : w k ≡ 1 = sym (out.0 k ne) ∙ in_it in let there : slice_get between k ≡ Some m = sym (get_else between r k (r + 1) ne) ∙ at' in
        let under : k < end = ⊎_elim (λ l. l) (λ g. clash (w k) (c.past k g) w1) (cases_lt k end) in ⊎_elim
        (λ h. let x = h.0 in absurd (let z : ⊥ = omega arith in z))
        (λ h. let j : ℕ = h.0 in let x : end ≡ j + 1 = h.1 in let there' : slice_get (slice_set after j r) k ≡ Some m = ap (λ l. slice_get l k) (sym h.3) ∙ there in dite (ℕ_discrete k j)
        (λ e. let same : m ≡ r = was_set after j k r m e there' in (
          (let z : k < m = omega arith in z),
          (let z : m ≤ r + 1 = omega arith in z),
          (λ i over to. out.0 i (λ e. omega arith) ∙ c.past i (omega arith)),
          (λ to. ap v same ∙ out.1),
        ))
        (λ ne'. let g = c.next k m w1 (sym (get_else after j k r ne') ∙ there') in let over' = g.0 in let most = g.1 in (
          over',
          (let z : m ≤ r + 1 = omega arith in z),
          (λ i over to. out.0 i (λ e. omega arith) ∙ g.2 i over to),
          (λ to. ⊎_elim
              (λ l. out.0 m (λ e. omega arith) ∙ g.3 l)
              (λ z. clash (w j) (g.2 j (omega arith) (omega arith)) (c.is_last j x)) (cases_lt m bound)),
        ))) left);
  }

pub empties : (v : Marks) (bound : ℕ) (before after : List ℕ) → ((k : ℕ) → v k ≡ 0) → Chained v bound 0 bound before after
empties v bound before after none = record {
  within = (let z : 0 ≤ bound = omega arith in z);
  begins = (let z : bound ≤ bound = omega arith in z);
  past = λ k from. none k;
  ahead = λ k under. none k;
  is_first = λ under. absurd (let z : ⊥ = omega arith in z);
  is_last = λ k is. absurd (let z : ⊥ = omega arith in z);
  prev = λ k p in_it at. clash (v k) (none k) in_it;
  next = λ k n in_it at. clash (v k) (none k) in_it;
}

-- the same set
pub same_chain : (w v : Marks) (first end bound : ℕ) (before after : List ℕ) → ((k : ℕ) → v k ≡ w k) → Chained w first end bound before after → Chained v first end bound before after
same_chain w v first end bound before after same c = record {
  within = c.within;
  begins = c.begins;
  past = λ k from. same k ∙ c.past k from;
  ahead = λ k under. same k ∙ c.ahead k under;
  is_first = λ under. same first ∙ c.is_first under;
  is_last = λ k is. same k ∙ c.is_last k is;
  prev = λ k p in_it at. let h = c.prev k p (sym (same k) ∙ in_it) at in (h.0, (λ j from to. same j ∙ h.1 j from to), (λ j is. same j ∙ h.2 j is));
  next = λ k n in_it at. let h = c.next k n (sym (same k) ∙ in_it) at in (h.0, h.1, (λ j over to. same j ∙ h.2 j over to), (λ to. same n ∙ h.3 to));
}

pub within_chain : (w : Marks) (k first end bound : ℕ) (before after : List ℕ) → Chained w first end bound before after → w k ≡ 1 → k < bound
within_chain w k first end bound before after c in_it = let fits = c.within in ⊎_elim (λ l. l) (λ g. clash (w k) (c.past k (omega arith)) in_it) (cases_lt k bound)
