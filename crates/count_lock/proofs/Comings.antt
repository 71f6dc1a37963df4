-- How the lock starts, and how passes are split and joined.
use Rattle.std.proofs.Common.{◌≡◌, ℕ, zero, suc, ◌+◌, ◌-◌, ◌*◌, ◌^◌, ◌<◌, ◌≤◌, ◌≢◌, ◌⊎◌, List, [], ◌∷◌, ◌++◌, map, length, get_or, set, drop, replicate, sym, refl, ap, ◌∙◌, subst, inl, inr, ⊎_elim, le_refl, lt_of_not-le, arith, append-nil, length-append, div-mul-le_self, Bool, cond, true, false, ltb, ◌==◌, Some, Option}
use mathlib.Core.Option.{some, none, some-injective, some-ne-none}
use mathlib.Core.Logic.{dite}
use native.Mathlib.Decide.{dec_le, ℕ_discrete}
use lib.ListN.{get_elem?, length-replicate}
use Rattle.std.proofs.lemmas.Bool.{lt-ltb, le-ltb}
use Rattle.std.proofs.lemmas.List.Elements.{filter-append, All-nil, All-take}
use Rattle.std.proofs.lemmas.List.{set_comm}
use Rattle.std.proofs.Math.Seq.{take-append_seam}
use Rattle.atomic_table.specs.Table.{State, Me, step, keeps, Allows, Splits, Joins, opening}
use Rattle.atomic_table.proofs.Lists.{at_set, set_else, at_longer}
use Rattle.count_lock.specs.declared.view.Stage.{Stage}
use Rattle.count_lock.specs.declared.view.Stage.TheVariants.{Idle}
use Rattle.count_lock.specs.declared.view.View.{View}
use Rattle.count_lock.specs.declared.view.Kin.{Kin}
use Rattle.count_lock.specs.Ends.{EndLaws}
use Rattle.count_lock.specs.Rule.{Marked, holding, turning, noting, served_now, alive, waiting, load, weight, StartsWith, Spare, IsKin, Joined, Has, Owns, Apart, family, of, Made, Fits, Home, Authored, Ticketed, settled, attested, longer, left_half, right_half, joined, spent_view, first_view, given}
use Rattle.count_lock.proofs.Moves.{set_view, moved, stays, home_stays, set_there, note_turns, holds_turn, turn_now, stay_marks, marks_same, one_turning, weight_set, waiting_set, each_set, still_alone, pairs_set, Each, Pairs, Alone}

nobody : ⊥ ⊎ ⊥ → ⊥
nobody i = ⊎_elim (λ z. z) (λ z. z) i

module _ {A : Type 0} where
  at_end : (l : List A) (a b : A) (j : ℕ) → get_elem? (l ++ a ∷ []) j ≡ some b → (get_elem? l j ≡ some b) ⊎ ((j ≡ length l) × (a ≡ b))
  at_end [] a b zero e = inr (refl, some-injective a b e)
  at_end [] a b (suc j) e = absurd (some-ne-none b (sym e))
  at_end (x ∷ xs) a b zero e = inl e
  at_end (x ∷ xs) a b (suc j) e = ⊎_elim (λ h. inl h) (λ h. inr (ap suc h.0, h.1)) (at_end xs a b j e)

  prefix_of : (a b x y : List A) → a ++ x ≡ b ++ y → length a ≤ length b → StartsWith b a
  prefix_of [] b x y e h = (b, refl)
  prefix_of (p ∷ a) [] x y e h = absurd (omega arith)
  prefix_of (p ∷ a) (q ∷ b) x y e h = let t = prefix_of a b x y (ap (drop 1) e) (omega arith) in (t.0, λ i. sym (ap (λ (l : List A). get_or l 0 p) e) i ∷ t.1 i)

  -- of two beginnings of one list the longer begins with both, and is a beginning too
  pub both_seen : (log a b : List A) → StartsWith log a → StartsWith log b → StartsWith (longer a b) a × StartsWith (longer a b) b × StartsWith log (longer a b)
  both_seen log a b p q = let P : Bool → Type 0 = λ c. let l : List A = cond c b a in StartsWith l a × StartsWith l b × StartsWith log l in
      dite (dec_le (suc (length a)) (length b))
      (λ lt. subst P (sym (lt-ltb (length a) (length b) (omega arith))) (prefix_of a b p.0 q.0 (sym p.1 ∙ q.1) (omega arith), ([], sym (append-nil b)), q))
      (λ ge. let h : length b < suc (length a) = lt_of_not-le ge in subst P (sym (le-ltb (length a) (length b) (omega arith))) (([], sym (append-nil a)), prefix_of b a q.0 p.0 (sym q.1 ∙ p.1) (omega arith), p))

  no_length : (l : List A) → length l ≡ 0 → l ≡ []
  no_length [] e = refl
  no_length (x ∷ xs) e = absurd (omega arith)

module _ {E : Type 0} (by : E → ℕ) where
  of_append : (k : ℕ) (xs ys : List E) → of by k (xs ++ ys) ≡ of by k xs ++ of by k ys
  of_append k xs ys = filter-append (λ (e : E). by e == k) xs ys

  -- a beginning of a list with no such entry has none
  of_none : (k : ℕ) (log a : List E) → StartsWith log a → of by k log ≡ [] → of by k a ≡ []
  of_none k log a p e = let h : length (of by k a) + length (of by k p.0) ≡ 0 = sym (length-append (of by k a) (of by k p.0)) ∙ ap length (sym (of_append k a p.0) ∙ ap (of by k) (sym p.1) ∙ e) in no_length (of by k a) (omega arith)

  -- a beginning has the authors of the whole
  beginning : (log a : List E) → StartsWith log a → Authored by log → Authored by a
  beginning log a p h = subst (Authored by) (take-append_seam a p.0) (All-take (λ (e : E). by e < 2 ^ 32) (length a) (a ++ p.0) (subst (Authored by) p.1 h))

  -- what lies between two lists with the same such entries has them too
  of_between : (k : ℕ) (log b a : List E) → StartsWith log b → StartsWith b a → of by k a ≡ of by k log → of by k b ≡ of by k log
  of_between k log b a p q e =
      let l : of by k log ≡ of by k b ++ of by k p.0 = ap (of by k) p.1 ∙ of_append k b p.0 in let m : of by k b ≡ of by k a ++ of by k q.0 = ap (of by k) q.1 ∙ of_append k a q.0 in
      let l' : length (of by k log) ≡ length (of by k b) + length (of by k p.0) = ap length l ∙ length-append (of by k b) (of by k p.0) in
      let m' : length (of by k b) ≡ length (of by k a) + length (of by k q.0) = ap length m ∙ length-append (of by k a) (of by k q.0) in
      let e' : length (of by k a) ≡ length (of by k log) = ap length e in
      let z : of by k p.0 ≡ [] = no_length (of by k p.0) (omega arith) in sym (l ∙ ap (λ (x : List E). of by k b ++ x) z ∙ append-nil (of by k b))

  pub made_append : (es : List E) (js ks : List (Kin E)) → Made by es js → Made by es ks → Made by es (js ++ ks)
  made_append es [] ks a b = b
  made_append es (j ∷ js) ks a b = (a.0, made_append es js ks a.1 b)

  made_between : (log b a : List E) (ks : List (Kin E)) → StartsWith log b → StartsWith b a → Made by log ks → Made by a ks → Made by b ks
  made_between log b a [] p q m n = tt
  made_between log b a (k ∷ ks) p q m n = (of_between k.number log b a p q (n.0 ∙ sym m.0) ∙ m.0, made_between log b a ks p q m.1 n.1)

module _ {E : Type 0} where
  -- the guests are among the kin now
  welcomed : (gs ks : List (Kin E)) (n : ℕ) → IsKin (gs ++ ks) n → IsKin ks n ⊎ IsKin gs n
  welcomed [] ks n i = inl i
  welcomed (g ∷ gs) ks n i = ⊎_elim (λ e. inr (inl e)) (λ i'. ⊎_elim (λ k. inl k) (λ k. inr (inr k)) (welcomed gs ks n i')) i

  regathered : (gs ks : List (Kin E)) (n : ℕ) → IsKin (gs ++ ks) n ⊎ IsKin {E = E} [] n → IsKin ks n ⊎ IsKin gs n
  regathered gs ks n i = ⊎_elim (welcomed gs ks n) (λ z. absurd z) i

  waiting_snoc : (vs : List (View E)) (w : View E) → waiting (vs ++ w ∷ []) ≡ waiting vs + holding w.stage
  waiting_snoc [] w = omega arith
  waiting_snoc (v ∷ vs) w = let h = waiting_snoc vs w in omega arith

  weight_snoc : (vs : List (View E)) (w : View E) → weight (vs ++ w ∷ []) ≡ weight vs + load w
  weight_snoc [] w = let a : ℕ = load w in let g : a + 0 ≡ 0 + a = omega arith in g
  weight_snoc (v ∷ vs) w = let h = weight_snoc vs w in let a : ℕ = load v in let b : ℕ = load w in let c : ℕ = weight vs in let d : ℕ = weight (vs ++ w ∷ []) in let h' : d ≡ c + b = h in let g : a + d ≡ a + c + b = omega arith in g

module _ {T E : Type 0} (entries : T → List E) (constant_of : T → ℕ) (by : E → ℕ) (fin : ℕ → List E → ℕ → Option ℕ) (laws : EndLaws fin) (words : ℕ) where
  abbrev St : Type 0
  St = State (Option T) (View E)

  abbrev M : Type 0
  M = Me (Option T) (View E)

  abbrev R : St → Type 0
  R = Ticketed entries constant_of by fin words

  three : (n : ℕ) → replicate {A = ℕ} (n + 3) 0 ≡ 0 ∷ 0 ∷ 0 ∷ replicate {A = ℕ} n 0
  three n = ap (λ (k : ℕ). replicate {A = ℕ} k 0) (let e : n + 3 ≡ suc (suc (suc n)) = omega arith in e)

  zeros : (n k : ℕ) → get_or (replicate {A = ℕ} n 0) k 0 ≡ 0
  zeros zero k = refl
  zeros (suc n) zero = refl
  zeros (suc n) (suc k) = zeros n k

  longer_short : (a b : List E) (p : ℕ) → length a ≤ p → length b ≤ p → length (longer a b) ≤ p
  longer_short a b p x y = elim (ltb (length a) (length b)) as (λ c. length (cond c b a) ≤ p) [ true ↦ y | false ↦ x ]

  -- a seat that noted is none that did not
  not_noting : (vs : List (View E)) (j i : ℕ) (u w : View E) → get_elem? vs j ≡ some u → get_elem? vs i ≡ some w → noting w.stage ≡ 0 → noting u.stage ≡ 1 → j ≡ i → ⊥
  not_noting vs j i u w ej ei no' yes' is = let e : u ≡ w = some-injective u w (sym ej ∙ ap (get_elem? vs) is ∙ ei) in let g : noting u.stage ≡ noting w.stage = ap (λ (x : View E). noting x.stage) e in omega arith

  only : (a b : View E) (j : ℕ) → get_elem? (a ∷ []) j ≡ some b → (j ≡ 0) × (a ≡ b)
  only a b zero e = (refl, some-injective a b e)
  only a b (suc j) e = absurd (some-ne-none b (sym e))

  pub starts : (ws : List ℕ) (xs : List (Option T)) (x : T) (kd : ℕ) → kd ≡ constant_of x → ws ≡ replicate {A = ℕ} (words + 3) 0 → xs ≡ Some x ∷ [] → entries x ≡ [] → R (opening ws xs (first_view kd))
  starts ws xs x kd constant_is wide one none' = record {
    drawn = 0;
    served = 0;
    log = [];
    ends = replicate {A = ℕ} words 0;
    words_are = wide ∙ three words;
    short = omega arith;
    count = length-replicate words 0;
    marks = λ k h. let z : get_or (replicate {A = ℕ} words 0) k 0 ≡ 0 = zeros words k in ((λ nz. absurd (nz z)), λ _ p e. let low = laws.within kd [] k p e in absurd (omega arith));
    authors = All-nil (λ (e : E). by e < 2 ^ 32);
    waits = refl;
    weighs = omega arith;
    home = inl (x, ap (map some) one, none', λ j u e. subst (λ (z : View E). turning z.stage ≡ 0) (only (first_view kd) u j e).1 refl, sym constant_is);
    constant = kd;
    constants = λ j u e. subst (λ (z : View E). 1 ≤ alive z.stage → z.constant ≡ kd) (only (first_view kd) u j e).1 (λ _. refl);
    each = λ j u e. subst (Fits by 0 0 []) (only (first_view kd) u j e).1 record {
      front = ([], refl);
      told = ([], refl);
      known = ([], refl);
      ticket = λ h. absurd (omega arith);
      turn = λ h. absurd (omega arith);
      mine = λ _. (refl, refl);
      spare = λ _ k o. refl;
      kin = λ _. (tt, tt);
      guests = λ _. (tt, tt);
      range = λ _. (omega arith, omega arith, omega arith);
      own = λ _ o. ⊎_elim (λ (h : Spare (first_view {E = E} kd) 0). let a : 1 ≤ 0 = h.0 in absurd (omega arith)) nobody o;
      fresh = λ _ k o i. nobody i;
    };
    pairs = λ i j u w eu ew ne. absurd (ne ((only (first_view kd) u i eu).0 ∙ sym (only (first_view kd) w j ew).0));
  }

  pub splits : (id : ℕ) (v : View E) → v.stage ≡ Idle → v.from < v.until → Splits R id v (left_half v) (right_half v)
  splits id v st room s r at = let f = r.each id v at in let l : View E = left_half v in let w : View E = right_half v in let vs : List (View E) = set s.views id l in
      let idle : holding v.stage ≡ 0 = ap holding st in let one : alive v.stage ≡ 1 = ap alive st in let lives : 1 ≤ alive v.stage = subst (λ (z : Stage). 1 ≤ alive z) (sym st) (le_refl 1) in
      let a : ℕ = v.from in let b : ℕ = v.until in let k : ℕ = given v in let half : k * 2 ≤ b - a - 1 = div-mul-le_self (b - a - 1) 2 in let room' : a < b = room in let most : b ≤ 2 ^ 32 = (f.range lives).2 in
      let sub : (n : ℕ) → Spare w n → Spare v n = λ n o. let x : b - k ≤ n = o.0 in let y : n < b = o.1 in (let g : a ≤ n = omega arith in g, y) in
      let wide : (n : ℕ) → Spare l n → Spare v n = λ n o. let x : a + 1 ≤ n = o.0 in let y : n < b - k = o.1 in let g : a ≤ n = omega arith in let h : n < b = omega arith in (g, h) in
      let left : (n : ℕ) → Owns l n → Owns v n = λ n o. ⊎_elim (λ e. inl e) (λ o'. inr (⊎_elim (λ p. inl (wide n p)) (λ i. inr i) o')) o in
      let right : (n : ℕ) → Owns w n → Spare v n = λ n o. ⊎_elim (λ (e : n ≡ a). (let g : a ≤ n = omega arith in g, let h : n < b = omega arith in h)) (λ o'. ⊎_elim (sub n) (λ i. absurd (nobody i)) o') o in
      let apart : (n : ℕ) → Owns l n → Owns w n → ⊥ = λ n o p. ⊎_elim (λ (e : n ≡ v.number). f.own lives (subst (Has v) e (inl (right n p))))
      (λ o'. ⊎_elim
      (λ (q : Spare l n). let x : a + 1 ≤ n = q.0 in let y : n < b - k = q.1 in ⊎_elim (λ (e : n ≡ a). let g : ⊥ = omega arith in g)
      (λ p'. ⊎_elim (λ (z' : Spare w n). let z : b - k ≤ n = z'.0 in let g : ⊥ = omega arith in g) nobody p') p)
      (λ i. f.fresh lives n (right n p) i) o') o in
      let each' : Each entries constant_of by fin laws words vs r.drawn r.served r.log = each_set entries constant_of by fin laws words s.views id l r.drawn r.served r.log
      record {
        front = f.front;
        told = f.told;
        known = f.known;
        ticket = λ h. absurd (omega arith);
        turn = f.turn;
        mine = f.mine;
        spare = λ al n o. f.spare lives n (wide n o);
        kin = f.kin;
        guests = f.guests;
        fresh = λ _ n o i. f.fresh lives n (wide n o) i;
        range = λ _. ((f.range lives).0, (let g : a + 1 ≤ b - k = omega arith in g), (let g : b - k ≤ 2 ^ 32 = omega arith in g));
        own = λ _ o. f.own lives (⊎_elim (λ p. inl (wide v.number p)) (λ i. inr i) o);
      }
      (λ j u ne e. r.each j u e) in
      let pairs' : Pairs entries constant_of by fin laws words vs = pairs_set entries constant_of by fin laws words s.views id v l at r.pairs
      (still_alone entries constant_of by fin laws words s.views id v l at r.pairs (λ al. al) (λ n _ o. left n o)) (λ j u ne e h. absurd (omega arith)) in
      let fits : Fits by r.drawn r.served r.log w = record {
        front = f.front;
        told = (r.log, refl);
        known = (r.log, refl);
        ticket = λ h. absurd (omega arith);
        turn = λ h. absurd (omega arith);
        mine = λ _. let none' = f.spare lives a (le_refl a, room') in (none', of_none by a r.log v.seen f.front none');
        spare = λ _ n o. f.spare lives n (sub n o);
        kin = λ _. (tt, tt);
        guests = λ _. (tt, tt);
        fresh = λ _ n o i. nobody i;
        range = λ _. (let g : a < 2 ^ 32 = omega arith in g, (let g : b - k ≤ b = omega arith in g), most);
        own = λ _ o. ⊎_elim (λ (z : Spare w a). let x : b - k ≤ a = z.0 in let g : ⊥ = omega arith in g) nobody o;
      } in
      let facing : (i : ℕ) (u : View E) → get_elem? vs i ≡ some u → Apart u w = λ i u e. ⊎_elim
      (λ t. subst (λ (z : View E). Apart z w) t.1 ((λ _ h. absurd (omega arith)), (λ _ _ n o p. apart n o p)))
      (λ t. ((λ _ h. absurd (omega arith)), (λ au aw n o p. (r.pairs i id u v t.1 at t.0).1 au lives n o (inr (inl (right n p))))))
      (at_set s.views id i l u e) in
      let turned : (x y : View E) → Apart x y → Apart y x = λ x y p. ((λ hy hx e. p.0 hx hy (sym e)), (λ ay ax n oy ox. p.1 ax ay n ox oy)) in
      let home : Home entries constant_of r.constant vs r.log s.homes = home_stays entries constant_of by fin laws words r.constant s.views r.log s.homes id v l at refl r.home in
      record {
        drawn = r.drawn;
        served = r.served;
        log = r.log;
        ends = r.ends;
        words_are = r.words_are;
        short = r.short;
        constant = r.constant;
        constants = λ j u e. ⊎_elim (λ q. ⊎_elim (λ t. subst (λ (z : View E). 1 ≤ alive z.stage → z.constant ≡ r.constant) t.1 (λ a. r.constants id v at lives)) (λ t. r.constants j u t.1) (at_set s.views id j l u q)) (λ q. subst (λ (z : View E). 1 ≤ alive z.stage → z.constant ≡ r.constant) q.1 (λ a. r.constants id v at lives)) (at_end vs w u j e);
        count = r.count;
        marks = λ k h. let m = marks_same entries constant_of by fin laws words s r id v l at (ap noting st) refl refl k h in (
          m.0,
          λ z p e. let q = m.1 z p e in record {
            at = q.at;
            view = q.view;
            there = at_longer vs (w ∷ []) q.at q.view q.there;
            notes = q.notes;
            place = q.place;
            unmarked = q.unmarked;
            unseen = λ i u ne eu. ⊎_elim (λ t. q.unseen i u ne t) (λ t. let here : get_elem? vs id ≡ some l = set_there entries constant_of by fin laws words s.views id v l at in
                let b = q.unseen id l (λ x. not_noting vs q.at id q.view l q.there here (ap noting st) q.notes (sym x)) here in
                subst (λ (y : View E). (length y.seen ≤ p) × (length y.told ≤ p)) t.1 (b.0, (let g : 0 ≤ p = omega arith in g))) (at_end vs w u i eu);
          },
        );
        authors = r.authors;
        waits = let p = waiting_snoc vs w in let q = waiting_set s.views id v l at in let x : ℕ = waiting vs in let y : ℕ = waiting s.views in let z : ℕ = waiting (vs ++ w ∷ []) in let n : ℕ = holding v.stage in
            let p' : z ≡ x + 0 = p in let q' : x + n ≡ y + n = q in let t : r.served + y ≡ r.drawn = r.waits in let g : r.served + z ≡ r.drawn = omega arith in g;
        weighs = let p = weight_snoc vs w in let q = weight_set s.views id v l at in let x : ℕ = weight vs in let y : ℕ = weight s.views in let z : ℕ = weight (vs ++ w ∷ []) in
            let lv : ℕ = load v in let ll : ℕ = load l in let lw : ℕ = load w in let p' : z ≡ x + lw = p in let q' : x + lv ≡ y + ll = q in let t : y ≤ 2 ^ 32 = r.weighs in
            let e₁ : lv ≡ 1 + (b - a) = subst (λ (n : ℕ). n * (1 + (b - a)) ≡ 1 + (b - a)) (sym one) (omega arith) in
            let e₂ : ll ≡ 1 + (b - k - (a + 1)) = subst (λ (n : ℕ). n * (1 + (b - k - (a + 1))) ≡ 1 + (b - k - (a + 1))) (sym one) (omega arith) in
            let e₃ : lw ≡ 1 + (b - (b - k)) = let m : ℕ = b - (b - k) in let g : 1 * (1 + m) ≡ 1 + m = omega arith in g in let g : z ≤ 2 ^ 32 = omega arith in g;
        home = ⊎_elim (λ h. inl (h.0, h.1, h.2, λ j u e. ⊎_elim (λ q. h.3 j u q) (λ q. subst (λ (z : View E). turning z.stage ≡ 0) q.1 refl) (at_end vs w u j e), h.4))
            (λ h. inr (h.0, (h.1.0, h.1.1, at_longer vs (w ∷ []) h.1.0 h.1.1 h.1.2, h.1.3))) home;
        each = λ j u e. ⊎_elim (λ q. each' j u q) (λ q. subst (Fits by r.drawn r.served r.log) q.1 fits) (at_end vs w u j e);
        pairs = λ i j x y ei ej ne. ⊎_elim
            (λ p. ⊎_elim (λ q. pairs' i j x y p q ne) (λ q. subst (Apart x) q.1 (facing i x p)) (at_end vs w y j ej))
            (λ p. ⊎_elim (λ q. subst (λ (z : View E). Apart z y) p.1 (turned y w (facing j y q))) (λ q. absurd (ne (p.0 ∙ sym q.0))) (at_end vs w y j ej))
            (at_end vs w x i ei);
      }

  pub settles : (n id : ℕ) (me : M) → me.0.stage ≡ Idle → (y : ℕ) → Allows R n id me 1 (λ z. z) (λ z. settled by (step n 1 0 0 none) me y)
  settles n id me st y s r wide at _ = let v : View E = me.0 in let f = r.each id v at in let b = both_seen r.log v.seen v.told f.front f.told in
      let lives : 1 ≤ alive v.stage = subst (λ (z : Stage). 1 ≤ alive z) (sym st) (le_refl 1) in let idle : holding v.stage ≡ 0 = ap holding st in let not : served_now v.stage ≡ 0 = ap served_now st in
      let w : View E = record v { seen = longer v.seen v.told; kin = v.guests ++ v.kin; told = []; guests = [] } in let m = f.mine lives in
      let fewer : (k : ℕ) → Has w k → Has v k = λ k o. ⊎_elim (λ p. inl p) (λ i. inr (regathered v.guests v.kin k i)) o in (
        w,
        keeps,
        tt,
        moved entries constant_of by fin laws words s r id v w at (set s.words 1 (get_or s.words 1 0)) s.homes r.drawn r.served r.log r.ends refl (ap (λ (ws : List ℕ). set ws 1 (get_or ws 1 0)) r.words_are)
            (stay_marks entries constant_of by fin laws words s r id v w at (ap noting st) (λ p j u ne e n o. let ab = o id v (λ x. ne (sym x)) at in (longer_short v.seen v.told p ab.0 ab.1, (let g : 0 ≤ p = omega arith in g)))) r.short r.authors (omega arith) (le_refl _) (λ a. a) (λ k _ o. ⊎_elim (λ e. inl e) (λ h. inr (fewer k h)) o) (λ _. refl)
            (home_stays entries constant_of by fin laws words r.constant s.views r.log s.homes id v w at refl r.home)
            record {
              front = b.2;
              told = (r.log, refl);
              known = f.known;
              ticket = f.ticket;
              turn = λ h. absurd (omega arith);
              mine = λ _. (m.0, of_between by v.number r.log w.seen v.seen b.2 b.0 (m.1 ∙ sym m.0) ∙ m.0);
              spare = f.spare;
              kin = λ _. (
                made_append by r.log v.guests v.kin (f.guests lives).0 (f.kin lives).0,
                made_append by w.seen v.guests v.kin (made_between by r.log w.seen v.told v.guests b.2 b.1 (f.guests lives).0 (f.guests lives).1)
                    (made_between by r.log w.seen v.seen v.kin b.2 b.0 (f.kin lives).0 (f.kin lives).1),
              );
              guests = λ _. (tt, tt);
              range = f.range;
              own = λ _ o. f.own lives (fewer v.number o);
              fresh = λ _ k o i. f.fresh lives k o (regathered v.guests v.kin k i);
            }
            (λ j u ne e g. g) (λ j u ne e hw hu. absurd (omega arith)),
        (refl, refl, b.0, b.1),
      )

  -- only one view noted
  one_noting : (s : St) (r : R s) (i j : ℕ) (u v : View E) → get_elem? s.views i ≡ some u → get_elem? s.views j ≡ some v → noting u.stage ≡ 1 → noting v.stage ≡ 1 → i ≡ j
  one_noting s r i j u v ei ej nu nv = dite (ℕ_discrete i j) (λ is. is) (λ ne. let tu : turning u.stage ≡ 1 = note_turns u.stage nu in let tv : turning v.stage ≡ 1 = note_turns v.stage nv in
      absurd (one_turning entries constant_of by fin laws words s r i j u v ei ej ne tu (holds_turn v.stage tv) ((r.each j v ej).turn (turn_now v.stage (let g : 1 ≤ turning v.stage = omega arith in g))).0))

  pub joins : (id : ℕ) (v : View E) (other : ℕ) (w : View E) → v.stage ≡ Idle → w.stage ≡ Idle → Joins R id v other w (joined v w) spent_view
  unfolding set_view
  joins id v other w sv sw s r at ne at' = let l : View E = joined v w in let f = r.each id v at in
      let there : get_elem? s.views other ≡ some w = sym (set_else s.views id other l ne) ∙ at' in let h = r.each other w there in
      let iv : holding v.stage ≡ 0 = ap holding sv in let iw : holding w.stage ≡ 0 = ap holding sw in
      let av : 1 ≤ alive v.stage = subst (λ (z : Stage). 1 ≤ alive z) (sym sv) (le_refl 1) in let aw : 1 ≤ alive w.stage = subst (λ (z : Stage). 1 ≤ alive z) (sym sw) (le_refl 1) in
      let vs : List (View E) = set s.views other spent_view in let s' : St = record { words = s.words; homes = s.homes; views = vs } in
      let alone : (k : ℕ) → Owns v k → Owns w k → ⊥ = λ k. (r.pairs id other v w at there (λ q. ne (sym q))).1 av aw k in
      let theirs : (k : ℕ) → IsKin (family w) k → Owns w k = λ k i. ⊎_elim (λ e. inl e) (λ i'. inr (inr (inl i'))) i in
      let spent_marks : (k : ℕ) → k < length r.ends → Marked (fin r.constant) vs r.log k (get_or r.ends k 0) = stay_marks entries constant_of by fin laws words s r other w spent_view there (ap noting sw) (λ p j u n e nn o. ((let g : 0 ≤ p = omega arith in g), (let g : 0 ≤ p = omega arith in g))) in
      let r' : R s' = set_view entries constant_of by fin laws words s r other w spent_view there s.words s.homes r.drawn r.served r.log r.ends refl r.words_are spent_marks r.short r.authors (omega arith) (let a : ℕ = load w in let g : 0 ≤ a = omega arith in g) (λ a. absurd (omega arith))
      (λ j u n e a. absurd (omega arith)) (λ a. absurd (omega arith))
      (home_stays entries constant_of by fin laws words r.constant s.views r.log s.homes other w spent_view there (sym (ap turning sw)) r.home)
      record {
        front = (r.log, refl);
        told = (r.log, refl);
        known = (r.log, refl);
        ticket = λ a. absurd (omega arith);
        turn = λ a. absurd (omega arith);
        mine = λ a. absurd (omega arith);
        spare = λ a. absurd (omega arith);
        kin = λ a. absurd (omega arith);
        guests = λ a. absurd (omega arith);
        range = λ a. absurd (omega arith);
        own = λ a. absurd (omega arith);
        fresh = λ a. absurd (omega arith);
      }
      (λ j u n e g. g) (λ j u n e hw hu. absurd (omega arith)) in
      let here : get_elem? vs id ≡ some v = set_else s.views other id spent_view (λ q. ne (sym q)) ∙ at in
      let joined_marks : (k : ℕ) → k < length r.ends → Marked (fin r.constant) (set vs id l) r.log k (get_or r.ends k 0) = λ k h. let m = spent_marks k h in (
        m.0,
        λ z p fp. let q = m.1 z p fp in let ne' : q.at ≢ id = λ x. not_noting vs q.at id q.view v q.there here (ap noting sv) q.notes x in
            let no' : q.at ≢ other = λ x. not_noting vs q.at other q.view spent_view q.there (set_there entries constant_of by fin laws words s.views other w spent_view there) refl q.notes x in
            let was : get_elem? s.views q.at ≡ some q.view = sym (set_else s.views other q.at spent_view no') ∙ q.there in
            let first = (r.marks k h).1 z p fp in let same : q.at ≡ first.at = one_noting s r q.at first.at q.view first.view was first.there q.notes first.notes in
            let theirs = first.unseen other w (λ x. no' (same ∙ sym x)) there in let ours = first.unseen id v (λ x. ne' (same ∙ sym x)) at in record {
              at = q.at;
              view = q.view;
              there = set_else vs id q.at l ne' ∙ q.there;
              notes = q.notes;
              place = q.place;
              unmarked = q.unmarked;
              unseen = λ i x n ei. ⊎_elim (λ t. subst (λ (y : View E). (length y.seen ≤ p) × (length y.told ≤ p)) t.1 (ours.0, theirs.0)) (λ t. q.unseen i x n t.1) (at_set vs id i l x ei);
            },
      ) in
      subst (λ (us : List (View E)). R record { words = s.words; homes = s.homes; views = us }) (set_comm s.views other id spent_view l ne)
      (set_view entries constant_of by fin laws words s' r' id v l here s.words s.homes r.drawn r.served r.log r.ends refl r.words_are joined_marks r.short r.authors (omega arith) (le_refl _) (λ a. a)
      (λ j u n e al au k ol ou. ⊎_elim
      (λ (t : (j ≡ other) × (spent_view ≡ u)). let z : alive u.stage ≡ 0 = ap (λ (x : View E). alive x.stage) (sym t.1) in absurd (omega arith))
      (λ t. ⊎_elim
      (λ q. (r.pairs id j v u at t.1 (λ q'. n (sym q'))).1 av au k (inl q) ou)
      (λ q. ⊎_elim
      (λ p. (r.pairs id j v u at t.1 (λ q'. n (sym q'))).1 av au k (inr (inl p)) ou)
      (λ i. ⊎_elim
      (λ i'. (r.pairs id j v u at t.1 (λ q'. n (sym q'))).1 av au k (inr (inr (inl i'))) ou)
      (λ i'. (r.pairs other j w u there t.1 (λ q'. t.0 (sym q'))).1 aw au k (theirs k i') ou)
      i) q) ol)
      (at_set s.views other j spent_view u e))
      (λ _. refl)
      (home_stays entries constant_of by fin laws words r.constant vs r.log s.homes id v l here refl r'.home)
      record {
        front = f.front;
        told = h.front;
        known = f.known;
        ticket = f.ticket;
        turn = f.turn;
        mine = f.mine;
        spare = f.spare;
        kin = f.kin;
        guests = λ _. (((h.mine aw).0, (h.kin aw).0), ((h.mine aw).1, (h.kin aw).1));
        range = f.range;
        own = λ _ o. ⊎_elim (λ p. f.own av (inl p)) (λ i. ⊎_elim (λ i'. f.own av (inr (inl i'))) (λ i'. alone v.number (inl refl) (theirs v.number i')) i) o;
        fresh = λ _ k o i. ⊎_elim (λ i'. f.fresh av k o (inl i')) (λ i'. alone k (inr (inl o)) (theirs k i')) i;
      }
      (λ j u n e g. g) (λ j u n e hw hu. absurd (omega arith)))

  pub attests : (n id : ℕ) (me : M) → me.0.stage ≡ Idle → (y : ℕ) → Allows R n id me 1 (λ z. z) (λ z. attested by (step n 1 0 0 none) me y)
  attests n id me st y s r wide at _ = let v : View E = me.0 in let f = r.each id v at in let lives : 1 ≤ alive v.stage = subst (λ (z : Stage). 1 ≤ alive z) (sym st) (le_refl 1) in
      stays entries constant_of by fin laws words s r id me (λ z. attested by (step n 1 0 0 none) me y) at (ap noting st)
      (refl, (f.mine lives).1, (λ k o. of_none by k r.log v.seen f.front (f.spare lives k o)), beginning by r.log v.seen f.front r.authors, (f.kin lives).1)
