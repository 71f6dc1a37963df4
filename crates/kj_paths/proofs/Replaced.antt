-- A promise takes the place of a Chain, which goes.
use Rattle.std.proofs.Common.{◌≡◌, ◌⊎◌, inl, inr, ℕ, ◌+◌, ◌≤◌, ◌<◌, List, [], ◌∷◌, Bool, true, false, not, cond, Option, None, Some, arith, refl, sym, ap, ◌∙◌, subst, ◌==◌}
use Rattle.std.specs.Prelude.{nat_eq, is_some, map}
use Rattle.std.proofs.lemmas.Bool.{false≢true}
use Rattle.std.proofs.lemmas.Bool.Decides.{nat_tests}
use Rattle.kj_base.specs.Places.{Spot, spot_of}
use Rattle.kj_model.specs.Nodes.{Form, Tree, Kept, Waits, Fired, Keeps, Gone, Then, Eager, Wrap, Hub, Side, Task, Request, form_at, parts_found, is_in, renamed, renamed_if}
use Rattle.kj_model.specs.World.{World, Named, Held, Promise, Awaited}
use Rattle.kj_model.specs.Changes.{gone_world, with_queue}
use Rattle.kj_model.specs.Listening.{listened}
use Rattle.kj_model.specs.Fire.{held_renamed, named_renamed, awaited_renamed, replaced}
use Rattle.kj_model.specs.Owned.{held_roots, name_roots, awaited_roots, tree_roots}
use Rattle.kj_model.specs.Framed.{times, name_numbers}
use Rattle.kj_model.proofs.Spared.{same_number, form_without_other, form_without_same}
use Rattle.kj_model.proofs.Members.{in_one, in_self}
use Rattle.kj_model.proofs.Counts.{times_app}
use Rattle.kj_ownership.specs.Owners.{is_live, owns, is_hub_form}
use Rattle.kj_ownership.specs.Standing.{one_if}
use Rattle.kj_ownership.proofs.Stays.{in_times, roots_app}
use Rattle.kj_ownership.proofs.Reached.{listened_only}
use Rattle.kj_ownership.proofs.Replaced.{some_renamed, form_renamed, live_renamed}
use Rattle.kj_paths.proofs.Laid.{spots_once, stands, Laid, IsBefore, laid_shrinks, laid_roots, spot_left, no_spot}

-- a node goes
swap : (m n : ℕ) → nat_eq n m ≡ false → nat_eq m n ≡ false
swap m n h = grind (arith, nat_tests)

here : (m n : ℕ) → nat_eq n m ≡ true → nat_eq m n ≡ true
here m n h = grind (arith, nat_tests)

gone_spot : (n m : ℕ) (w : World) → nat_eq n m ≡ false → spot_of m (gone_world n w).spots ≡ spot_of m w.spots
gone_spot n m w d = spot_left m (λ k. not (k == n)) w.spots ∙ ap (λ b. cond (not b) (spot_of m w.spots) None) (swap m n d)

gone_spot_none : (n m : ℕ) (w : World) → nat_eq n m ≡ true → spot_of m (gone_world n w).spots ≡ None
gone_spot_none n m w d = spot_left m (λ k. not (k == n)) w.spots ∙ ap (λ b. cond (not b) (spot_of m w.spots) None) (here m n d)

gone_before : (n m : ℕ) (x : Spot) (w : World) → spot_of m (gone_world n w).spots ≡ Some x → (nat_eq n m ≡ false) × (spot_of m w.spots ≡ Some x)
gone_before n m x w at = decide (nat_eq n m) refl
  where
    decide : (b : Bool) → nat_eq n m ≡ b → (nat_eq n m ≡ false) × (spot_of m w.spots ≡ Some x)
    decide true e = absurd (no_spot x (sym (gone_spot_none n m w e) ∙ at))
    decide false e = (e, sym (gone_spot n m w e) ∙ at)

gone_none : (n m : ℕ) (w : World) → nat_eq n m ≡ true → form_at m (gone_world n w).nodes ≡ None
gone_none n m w e = subst (λ (k : ℕ). form_at k (gone_world n w).nodes ≡ None) (sym (same_number n m e)) (form_without_same n w.nodes)

gone_owner : (n q m : ℕ) (w : World) → owns q m (gone_world n w).nodes ≡ true → (nat_eq n q ≡ false) × (owns q m w.nodes ≡ true)
gone_owner n q m w o = decide (nat_eq n q) refl
  where
    decide : (b : Bool) → nat_eq n q ≡ b → (nat_eq n q ≡ false) × (owns q m w.nodes ≡ true)
    decide true e = absurd (false≢true (sym (ap (λ (x : Option Form). is_in m (parts_found x)) (gone_none n q w e)) ∙ o))
    decide false e = (e, sym (ap (λ (x : Option Form). is_in m (parts_found x)) (form_without_other n q w.nodes e)) ∙ o)

gone_live : (n m : ℕ) (w : World) → is_live m (gone_world n w).nodes ≡ true → is_live m w.nodes ≡ true
gone_live n m w l = decide (nat_eq n m) refl
  where
    decide : (b : Bool) → nat_eq n m ≡ b → is_live m w.nodes ≡ true
    decide true e = absurd (false≢true (sym (ap is_some (gone_none n m w e)) ∙ l))
    decide false e = sym (ap is_some (form_without_other n m w.nodes e)) ∙ l

gone_hub : (n m : ℕ) (w : World) → one_if (is_hub_form (form_at m (gone_world n w).nodes)) ≤ one_if (is_hub_form (form_at m w.nodes))
gone_hub n m w = decide (nat_eq n m) refl
  where
    decide : (b : Bool) → nat_eq n m ≡ b → one_if (is_hub_form (form_at m (gone_world n w).nodes)) ≤ one_if (is_hub_form (form_at m w.nodes))
    decide true e = let h : one_if (is_hub_form (form_at m (gone_world n w).nodes)) ≡ 0 = ap (λ (o : Option Form). one_if (is_hub_form o)) (gone_none n m w e) in omega (arith, h)
    decide false e = let h : one_if (is_hub_form (form_at m (gone_world n w).nodes)) ≡ one_if (is_hub_form (form_at m w.nodes)) = ap (λ (o : Option Form). one_if (is_hub_form o)) (form_without_other n m w.nodes e) in omega (arith, h)

pub gone_laid : (n : ℕ) (loose : List ℕ) (w : World) → Laid loose w → Laid loose (gone_world n w)
gone_laid n loose w g = laid_shrinks loose loose w (gone_world n w) (record {
  names = λ a. a;
  stands = λ a m. (let h = gone_hub n m w in omega (arith, h));
  owners = λ q m o. (gone_owner n q m w o).1;
  owner_spot = λ q m o. gone_spot n q w (gone_owner n q m w o).0;
  live = λ m l. gone_live n m w l;
  spots = λ m x at. (gone_before n m x w at).1;
  apart = spots_once (λ k. not (k == n)) w.spots;
  next = refl;
  next_key = refl;
}) g

-- where nodes stand once a tree has taken the place of another: where they stood, or for it, where the other one stood
abbrev Fewer : ℕ → ℕ → (ℕ → ℕ) → (ℕ → ℕ) → Type 0
Fewer n root new old = (m : ℕ) → new m ≤ old m + cond (root == m) (old n) 0

fewer_same : (n root : ℕ) (f : ℕ → ℕ) → Fewer n root f f
fewer_same n root f m = omega arith

fewer_sum : (n root : ℕ) (f g h k : ℕ → ℕ) → Fewer n root f g → Fewer n root h k → Fewer n root (λ m. f m + h m) (λ m. g m + k m)
fewer_sum n root f g h k a b m = by_root (root == m) (a m) (b m)
  where
    by_root : (c : Bool) → f m ≤ g m + cond c (g n) 0 → h m ≤ k m + cond c (k n) 0 → f m + h m ≤ g m + k m + cond c (g n + k n) 0
    by_root true x y = omega (arith, x, y)
    by_root false x y = omega (arith, x, y)

one_fewer : (n root t : ℕ) → Fewer n root (λ m. times m (renamed n root t ∷ [])) (λ m. times m (t ∷ []))
one_fewer n root t m = decide (t == n) refl
  where
    decide : (b : Bool) → nat_eq t n ≡ b → times m (renamed_if b root t ∷ []) ≤ times m (t ∷ []) + cond (root == m) (times n (t ∷ [])) 0
    decide true e = grind (arith, nat_tests)
    decide false e = omega arith

held_fewer : (n root : ℕ) (h : Held) → Fewer n root (λ m. times m (held_roots (held_renamed n root h))) (λ m. times m (held_roots h))
held_fewer n root (Promise t) m = one_fewer n root t m
held_fewer n root _ m = omega arith

roots_cons : (m : ℕ) (x : Named) (xs : List Named) → times m (name_roots (x ∷ xs)) ≡ times m (held_roots x.held) + times m (name_roots xs)
roots_cons m x xs = times_app m (held_roots x.held) (name_roots xs)

names_fewer : (n root : ℕ) (names : List Named) → Fewer n root (λ m. times m (name_roots (map (named_renamed n root) names))) (λ m. times m (name_roots names))
names_fewer n root [] m = omega arith
names_fewer n root (x ∷ xs) m =
    let a = fewer_sum n root (λ k. times k (held_roots (held_renamed n root x.held))) (λ k. times k (held_roots x.held)) (λ k. times k (name_roots (map (named_renamed n root) xs))) (λ k. times k (name_roots xs)) (held_fewer n root x.held) (names_fewer n root xs) m in
    let b = roots_cons m (named_renamed n root x) (map (named_renamed n root) xs) in
    let c = roots_cons m x xs in
    let d = roots_cons n x xs in
    rewritten (times m (name_roots (map (named_renamed n root) (x ∷ xs)))) _ (times m (name_roots (x ∷ xs))) _ (times n (name_roots (x ∷ xs))) _ (root == m) b c d a
  where
    rewritten : (p p2 q q2 r r2 : ℕ) (c : Bool) → p ≡ p2 → q ≡ q2 → r ≡ r2 → p2 ≤ q2 + cond c r2 0 → p ≤ q + cond c r 0
    rewritten p p2 q q2 r r2 true x y z h = omega (arith, x, y, z, h)
    rewritten p p2 q q2 r r2 false x y z h = omega (arith, x, y, z, h)

awaited_fewer : (n root : ℕ) (a : Option Awaited) → Fewer n root (λ m. times m (awaited_roots (awaited_renamed n root a))) (λ m. times m (awaited_roots a))
awaited_fewer n root None m = omega arith
awaited_fewer n root (Some a) m = one_fewer n root a.root m

roots_fewer : (n root : ℕ) (w : World) → Fewer n root (λ m. times m (tree_roots (replaced n root w))) (λ m. times m (tree_roots w))
roots_fewer n root w m =
    let a = names_fewer n root w.names m in
    let b = awaited_fewer n root w.awaited m in
    let c = roots_app m (name_roots (map (named_renamed n root) w.names)) (awaited_roots (awaited_renamed n root w.awaited)) w.left_over w.detached in
    let d = roots_app m (name_roots w.names) (awaited_roots w.awaited) w.left_over w.detached in
    let e = roots_app n (name_roots w.names) (awaited_roots w.awaited) w.left_over w.detached in
    all (root == m) _ _ _ _ _ _ _ _ _ _ _ _ _ a b c d e
  where
    all : (c : Bool) (p q r s : ℕ) (p2 q2 : ℕ) (pn qn rn sn : ℕ) (x y z : ℕ) → p2 ≤ p + cond c pn 0 → q2 ≤ q + cond c qn 0 → x ≡ p2 + q2 + r + s → y ≡ p + q + r + s → z ≡ pn + qn + rn + sn → x ≤ y + cond c z 0
    all true p q r s p2 q2 pn qn rn sn x y z a b c d e = omega (arith, a, b, c, d, e)
    all false p q r s p2 q2 pn qn rn sn x y z a b c d e = omega (arith, a, b, c, d, e)

-- who owns nodes
abbrev Owners : ℕ → ℕ → ℕ → List ℕ → List ℕ → Type 0
Owners n root m new old = is_in m new ≡ true → (is_in m old ≡ true) ⊎ ((m ≡ root) × (is_in n old ≡ true))

one_owner : (n root m t : ℕ) → Owners n root m (renamed n root t ∷ []) (t ∷ [])
one_owner n root m t = decide (t == n) refl
  where
    decide : (b : Bool) → nat_eq t n ≡ b → Owners n root m (renamed_if b root t ∷ []) (t ∷ [])
    decide true e i = inr (sym (in_one m root i), grind (arith, nat_tests))
    decide false e i = inl i

part_owner : (n root m : ℕ) (o : Option Form) → Owners n root m (parts_found (some_renamed n root o)) (parts_found o)
part_owner n root m (Some (Then v e (Some t))) i = one_owner n root m t i
part_owner n root m (Some (Eager (Tree t))) i = one_owner n root m t i
part_owner n root m (Some (Wrap c (Tree t))) i = one_owner n root m t i
part_owner n root m (Some (Hub (Tree t) b bs)) i = one_owner n root m t i
part_owner n root m (Some (Side (Waits t))) i = one_owner n root m t i
part_owner n root m (Some (Side (Fired t))) i = one_owner n root m t i
part_owner n root m (Some (Task (Some t))) i = one_owner n root m t i
part_owner n root m (Some (Request q (Some t))) i = one_owner n root m t i
part_owner n root m (Some (Then v e None)) i = inl i
part_owner n root m (Some (Eager (Kept o))) i = inl i
part_owner n root m (Some (Wrap c (Kept o))) i = inl i
part_owner n root m (Some (Hub (Kept o) b bs)) i = inl i
part_owner n root m (Some (Side (Keeps o))) i = inl i
part_owner n root m (Some (Side Gone)) i = inl i
part_owner n root m (Some (Task None)) i = inl i
part_owner n root m (Some (Request q None)) i = inl i
part_owner n root m (Some _) i = inl i
part_owner n root m None i = inl i

owner_before : (n root q m : ℕ) (w : World) → owns q m (replaced n root w).nodes ≡ true → (owns q m w.nodes ≡ true) ⊎ ((m ≡ root) × (owns q n w.nodes ≡ true))
owner_before n root q m w o = part_owner n root m (form_at q w.nodes) (sym (ap (λ (x : Option Form). is_in m (parts_found x)) (form_renamed n root q w.nodes)) ∙ o)

hub_renamed : (n root : ℕ) (o : Option Form) → is_hub_form (some_renamed n root o) ≡ is_hub_form o
hub_renamed n root None = refl
hub_renamed n root (Some (Hub content is_named branches)) = refl
hub_renamed n root (Some _) = refl

names_same : (n root c : ℕ) (names : List Named) → times c (name_numbers (map (named_renamed n root) names)) ≡ times c (name_numbers names)
names_same n root c [] = refl
names_same n root c (x ∷ xs) = ap (λ t. cond (x.name == c) 1 0 + t) (names_same n root c xs)

module _ (n root : ℕ) (w : World) (g : Laid (root ∷ []) w) where
  root_stands : 1 ≤ stands (root ∷ []) w root
  root_stands = let a = in_times root (root ∷ []) (in_self root []) in omega (arith, a)

  -- but for the root nothing stands that didn't
  other_stands : (m : ℕ) → nat_eq root m ≡ false → stands [] (gone_world n (replaced n root w)) m ≤ stands (root ∷ []) w m
  other_stands m d =
      let a = roots_fewer n root w m in
      let b : cond (root == m) (times n (tree_roots w)) 0 ≡ 0 = ap (λ c. cond c (times n (tree_roots w)) 0) d in
      let c = gone_hub n m (replaced n root w) in
      let e : one_if (is_hub_form (form_at m (replaced n root w).nodes)) ≡ one_if (is_hub_form (form_at m w.nodes)) = ap (λ (o : Option Form). one_if (is_hub_form o)) (form_renamed n root m w.nodes) ∙ ap one_if (hub_renamed n root (form_at m w.nodes)) in
      omega (arith, a, b, c, e)

  -- and the root stands where the other one stood
  stands_there : (m : ℕ) → nat_eq root m ≡ true → stands [] (gone_world n (replaced n root w)) m ≤ times n (tree_roots w)
  stands_there m d = subst (λ (k : ℕ). stands [] (gone_world n (replaced n root w)) k ≤ times n (tree_roots w)) (sym (same_number root m d))
      (let a = roots_fewer n root w root in
      let s = in_times root (root ∷ []) (in_self root []) in
      let t = g.once root in
      let c = gone_hub n root (replaced n root w) in
      let e : one_if (is_hub_form (form_at root (replaced n root w).nodes)) ≡ one_if (is_hub_form (form_at root w.nodes)) = ap (λ (o : Option Form). one_if (is_hub_form o)) (form_renamed n root root w.nodes) ∙ ap one_if (hub_renamed n root (form_at root w.nodes)) in
      by_root (root == root) a s t c e)
    where
      by_root : (c : Bool) → times root (tree_roots (replaced n root w)) ≤ times root (tree_roots w) + cond c (times n (tree_roots w)) 0 → 1 ≤ times root (root ∷ []) → stands (root ∷ []) w root ≤ 1 → one_if (is_hub_form (form_at root (gone_world n (replaced n root w)).nodes)) ≤ one_if (is_hub_form (form_at root (replaced n root w).nodes)) → one_if (is_hub_form (form_at root (replaced n root w).nodes)) ≡ one_if (is_hub_form (form_at root w.nodes)) → stands [] (gone_world n (replaced n root w)) root ≤ times n (tree_roots w)
      by_root true a s t c e = omega (arith, a, s, t, c, e)
      by_root false a s t c e = omega (arith, a, s, t, c, e)

  replaced_gone : Laid [] (gone_world n (replaced n root w))
  replaced_gone = record {
    names = λ c. subst (λ (t : ℕ). t ≤ 1) (sym (names_same n root c w.names)) (g.names c);
    once = λ m. once_at m (nat_eq root m) refl;
    unowned = λ m q h o. unowned_at m q h (nat_eq root m) refl (let p = gone_owner n q m (replaced n root w) o in owner_before n root q m w p.1);
    fresh = λ m h. fresh_at m h (nat_eq root m) refl;
    fresh_owner = λ m q h o. (let p = gone_owner n q m (replaced n root w) o in elim (owner_before n root q m w p.1) [ inl a ↦ g.fresh_owner m q h a | inr b ↦ not_fresh m h b.0 ]);
    fresh_live = λ m h l. g.fresh_live m h (sym (live_renamed n root (form_at m w.nodes)) ∙ sym (ap is_some (form_renamed n root m w.nodes)) ∙ gone_live n m (replaced n root w) l);
    fresh_spot = λ m x h at. g.fresh_spot m x h (gone_before n m x (replaced n root w) at).1;
    apart = spots_once (λ k. not (k == n)) w.spots g.apart;
    place = λ m x at. g.place m x (gone_before n m x (replaced n root w) at).1;
    key = λ m x at. g.key m x (gone_before n m x (replaced n root w) at).1;
    alone = λ m k x y at bt. g.alone m k x y (gone_before n m x (replaced n root w) at).1 (gone_before n k y (replaced n root w) bt).1;
    root = λ m k x y at bt e p. root_at m k x y (gone_before n m x (replaced n root w) at).1 (gone_before n k y (replaced n root w) bt).1 e p (nat_eq root k) refl;
    owner = λ m k x y q at bt e p o. (let s = gone_owner n q k (replaced n root w) o in owner_at m k x y q (gone_before n m x (replaced n root w) at).1 (gone_before n k y (replaced n root w) bt).1 e p s.0 (owner_before n root q k w s.1));
  }
    where
      once_at : (m : ℕ) (b : Bool) → nat_eq root m ≡ b → stands [] (gone_world n (replaced n root w)) m ≤ 1
      once_at m true e = let a = stands_there m e in let b = g.once n in omega (arith, a, b)
      once_at m false e = let a = other_stands m e in let b = g.once m in omega (arith, a, b)

      at_root : (m : ℕ) → nat_eq root m ≡ true → 1 ≤ stands (root ∷ []) w m
      at_root m e = subst (λ (k : ℕ). 1 ≤ stands (root ∷ []) w k) (sym (same_number root m e)) root_stands

      unowned_at : (m q : ℕ) → 1 ≤ stands [] (gone_world n (replaced n root w)) m → (b : Bool) → nat_eq root m ≡ b → (owns q m w.nodes ≡ true) ⊎ ((m ≡ root) × (owns q n w.nodes ≡ true)) → ⊥
      unowned_at m q h true e (inl o) = g.unowned m q (at_root m e) o
      unowned_at m q h true e (inr o) = g.unowned n q (let a = stands_there m e in omega (arith, a, h)) o.1
      unowned_at m q h false e (inl o) = g.unowned m q (let a = other_stands m e in omega (arith, a, h)) o
      unowned_at m q h false e (inr o) = differ root m e o.0
        where
          differ : (a b : ℕ) → nat_eq a b ≡ false → b ≡ a → ⊥
          differ a b d e = grind (arith, nat_tests)

      not_fresh : (m : ℕ) → w.next ≤ m → m ≡ root → ⊥
      not_fresh m h e = let a = g.fresh root (omega (arith, h, e)) in let b = root_stands in omega (arith, a, b)

      fresh_at : (m : ℕ) → w.next ≤ m → (b : Bool) → nat_eq root m ≡ b → stands [] (gone_world n (replaced n root w)) m ≡ 0
      fresh_at m h true e = absurd (not_fresh m h (same_number root m e))
      fresh_at m h false e = let a = other_stands m e in let b = g.fresh m h in omega (arith, a, b)

      root_at : (m k : ℕ) (x y : Spot) → spot_of m w.spots ≡ Some x → spot_of k w.spots ≡ Some y → x.key ≡ y.key → x.place < y.place → (b : Bool) → nat_eq root k ≡ b → stands [] (gone_world n (replaced n root w)) k ≡ 0
      root_at m k x y at bt e p true d = absurd (let a = g.root m k x y at bt e p in let b = at_root k d in omega (arith, a, b))
      root_at m k x y at bt e p false d = let a = g.root m k x y at bt e p in let b = other_stands k d in omega (arith, a, b)

      owner_at : (m k : ℕ) (x y : Spot) (q : ℕ) → spot_of m w.spots ≡ Some x → spot_of k w.spots ≡ Some y → x.key ≡ y.key → x.place < y.place → nat_eq n q ≡ false → (owns q k w.nodes ≡ true) ⊎ ((k ≡ root) × (owns q n w.nodes ≡ true)) → IsBefore q y (gone_world n (replaced n root w))
      owner_at m k x y q at bt e p d (inl o) = let b = g.owner m k x y q at bt e p o in record { spot = b.spot; placed = gone_spot n q (replaced n root w) d ∙ b.placed; key = b.key; place = b.place }
      owner_at m k x y q at bt e p d (inr o) = absurd (let a = g.root m k x y at bt e p in let b = subst (λ (j : ℕ). 1 ≤ stands (root ∷ []) w j) (sym o.0) root_stands in omega (arith, a, b))

-- the same, while the promise gets its listener
pub chain_goes : (n root : ℕ) (w : World) → Laid (root ∷ []) w → Laid [] (gone_world n (listened root (replaced n root w)))
chain_goes n root w g =
    let v = replaced n root w in
    let o = listened_only root v in
    subst (λ (x : World). Laid [] (gone_world n x)) (sym o.same) (laid_roots [] [] (gone_world n v) (gone_world n (with_queue o.queue v)) refl refl refl refl (λ a. a) (λ a m. omega arith) (replaced_gone n root w g))
