-- How the ends that an entry makes are marked.
use Rattle.std.proofs.Common.{◌≡◌, ℕ, ◌+◌, ◌<◌, ◌≤◌, ◌≢◌, ◌==◌, false, Bool, true, cond, List, [], ◌∷◌, ◌++◌, length, length-append, refl, ap, ◌∙◌, sym, subst, arith, eq-eqb, ne_eqb, Option, Some, None}
use mathlib.Core.Logic.{dite}
use native.Mathlib.Decide.{ℕ_discrete}
use Rattle.std.specs.Prelude.{slice_get, IfSome, ◌||◌}
use Rattle.std.specs.Option.{is_some}
use Rattle.std.specs.Bool.{OnTrue}
use Rattle.count_lock.specs.declared.kept.Kept.{Ghosts}
use Rattle.count_lock.specs.declared.pass.Pass.{Pass}
use Rattle.count_lock.specs.declared.lock.CountLock.{CountLock}
use Rattle.count_lock.specs.Passes.{constant, seen, known, place, marked, mine, kin, IsPassOf, IsSamePass, IsResting, HasNoted, Accounts}
use Rattle.count_lock.specs.Rule.{of, is_in, Made, Authored}
use Rattle.executor_core.specs.declared.entry.Entry.{Entry}
use Rattle.executor_core.specs.Acts.{Desk, queued_state}
use Rattle.executor_core.specs.Histories.{Legal, board_of, waits, ends_by}
use Rattle.executor_core.specs.Ends.{end_of}
use Rattle.executor_core.proofs.Ends.{end_elsewhere, end_here, end_below}
use Rattle.xthread.specs.Told.{EndKnown, caller_of}
use Rattle.xthread.specs.Stock.{Book}
use Rattle.xthread.specs.Answers.{board}
use Rattle.xthread.specs.Turns.{Noted}
use Rattle.xthread.proofs.Closing.{closing, waiting_below}
use Rattle.executor_core.specs.declared.request.Request.{Request}

marks_more : (n i : ℕ) (ms ns : List ℕ) → ns ≡ i ∷ ms → is_in n ms ≡ true → is_in n ns ≡ true
marks_more n i ms ns is h = ap (is_in n) is ∙ elim (n == i) as (λ b. b || is_in n ms ≡ true) [ true ↦ refl | false ↦ h ]

-- the place of the last entry
pub last_is : {ys : List Entry} (es : List Entry) (e : Entry) (n p : ℕ) → ys ≡ es ++ e ∷ [] → n + 1 ≡ length ys → p ≡ length es → n ≡ p
last_is es e n p is last at = let a = ap length is ∙ length-append es (e ∷ []) in omega arith

-- a word is marked with the place of the entry that ends it
pub ends_there : {k k' : ℕ} {ys : List Entry} (es : List Entry) (e : Entry) (r n : ℕ) → k' ≡ k → ys ≡ es ++ e ∷ [] → Legal k (es ++ e ∷ []) → ends_by (board_of k es) r e.call e.reply ≡ 1 → n + 1 ≡ length ys → end_of k' ys r ≡ Some n
ends_there {k = k} {ys = ys} es e r n same is legal ends last = ap (λ (x : ℕ). end_of x ys r) same ∙ ap (λ (l : List Entry). end_of k l r) is ∙ end_here k es e r legal ends ∙ ap Some (sym (last_is es e n (length es) is last refl))

-- the entry ends none
pub ends_none : (k : ℕ) (es : List Entry) (e : Entry) → ((d : Desk) (n : ℕ) → ends_by d n e.call e.reply ≡ 0) → (n : ℕ) → end_of k (es ++ e ∷ []) n ≡ Some (length es) → ⊥
ends_none k es e none n h = end_elsewhere k es e n (none (board_of k es) n) h

-- the entry ends one request alone
module _ (e : Entry) (r : ℕ) (ends : (d : Desk) (n : ℕ) → ends_by d n e.call e.reply ≡ cond (r == n) 1 0) where
  pub ends_it : (d : Desk) → ends_by d r e.call e.reply ≡ 1
  ends_it d = ends d r ∙ ap (λ (b : Bool). cond {A = ℕ} b 1 0) (eq-eqb r r refl)

  pub ends_below : (k : ℕ) (es : List Entry) → Legal k (es ++ e ∷ []) → r < k
  ends_below k es l = end_below k es e r l (ends_it (board_of k es))

  pub one_marked : {k k' : ℕ} {ys : List Entry} {ms ns : List ℕ} (es : List Entry) (p : ℕ) → k' ≡ k → ys ≡ es ++ e ∷ [] → p ≡ length es → ms ≡ r ∷ ns → (n : ℕ) → end_of k' ys n ≡ Some p → is_in n ms ≡ true
  one_marked {k = k} {k' = k'} {ys = ys} {ns = ns} es p same is at marks n h = dite (ℕ_discrete n r)
      (λ here. ap (is_in n) marks ∙ ap (λ (b : Bool). b || is_in n ns) (eq-eqb n r here))
      (λ else. absurd (end_elsewhere k es e n (ends (board_of k es) n ∙ ap (λ (b : Bool). cond {A = ℕ} b 1 0) (ne_eqb r n (λ w. else (sym w))))
      (sym (ap (λ (x : ℕ). end_of x ys n) same ∙ ap (λ (l : List Entry). end_of k l n) is) ∙ h ∙ ap Some at)))

module _ {T : Type 0} {g : Ghosts T Entry} {l : CountLock T Entry} {p q : Pass T Entry g} where
  pub still_of : IsPassOf l p → IsSamePass p q → IsPassOf l q
  still_of a s = record { table = s.table ∙ a.table; constant = s.constant ∙ a.constant }

module _ {T : Type 0} {g : Ghosts T Entry} where
  pub same_pass : {p m q : Pass T Entry g} → IsSamePass p m → IsSamePass m q → IsSamePass p q
  same_pass a b = record { table = b.table ∙ a.table; constant = b.constant ∙ a.constant; number = b.number ∙ a.number; from = b.from ∙ a.from; until = b.until ∙ a.until }

  abbrev pub Same : Pass T Entry g → Pass T Entry g → Type 0
  Same p q = (seen q ≡ seen p) × (mine q ≡ mine p) × (kin q ≡ kin p)

  accounts_same : {m n : Pass T Entry g} → IsSamePass m n → Same m n → Accounts caller_of m (seen m) → Accounts caller_of n (seen n)
  accounts_same {m = m} {n = n} s e a = record {
    mine = ap (of caller_of n.number) e.0 ∙ ap (λ (k : ℕ). of caller_of k (seen m)) s.number ∙ a.mine ∙ sym e.1;
    kin = subst (Made caller_of (seen n)) (sym e.2) (subst (λ (x : List Entry). Made caller_of x (kin m)) (sym e.0) a.kin);
    spare = λ k low high. ap (of caller_of k) e.0 ∙ a.spare k (let x = s.from in omega arith) (let x = s.until in omega arith);
    authors = subst (λ (x : List Entry). Authored caller_of x) (sym e.0) a.authors;
  }

  -- an entry was noted, its ends were marked, and the turn ended
  pub noted_by : {p m n q : Pass T Entry g} {e : Entry} → IsSamePass p m → (seen m ≡ seen p ++ e ∷ []) × (mine m ≡ mine p ++ e ∷ []) → kin m ≡ kin p → (Accounts caller_of p (seen p) → Accounts caller_of m (seen m))
      → IsSamePass m n → Same m n → IsSamePass n q → Same n q → IsResting q → (Accounts caller_of n (seen n) → Accounts caller_of q (seen q)) → Noted p q e
  noted_by s₁ more kin₁ a₁ s₂ e₂ s₃ e₃ rests a₃ = record {
    same = same_pass s₁ (same_pass s₂ s₃);
    rests = rests;
    longer = e₃.0 ∙ e₂.0 ∙ more.0;
    own = e₃.1 ∙ e₂.1 ∙ more.1;
    kin_same = e₃.2 ∙ e₂.2 ∙ kin₁;
    accounts = λ a. a₃ (accounts_same s₂ e₂ (a₁ a));
  }

  -- while the requests are marked that the closing ends: those below i are
  pub record Marking (waiting : ℕ → ℕ) (p q : Pass T Entry g) (i : ℕ) : Type 0 where
    pub same : IsSamePass p q
    pub noted : HasNoted q
    pub place_same : place q ≡ place p
    pub sees : Same p q
    pub below : (n : ℕ) → n < i → waiting n ≡ 1 → is_in n (marked q) ≡ true

  -- one request more was marked, or is not to be
  pub marking_more : {waiting : ℕ → ℕ} {p q m now : Pass T Entry g} {i : ℕ} → now ≡ m → Marking waiting p q i → IsSamePass q m → HasNoted m → (place m ≡ place q) × (marked m ≡ i ∷ marked q) → Same q m → Marking waiting p now (i + 1)
  marking_more {waiting = waiting} {p = p} {q = q} {m = m} {i = i} is a s noted marks e = subst (λ (x : Pass T Entry g). Marking waiting p x (i + 1)) (sym is) record {
    same = same_pass a.same s;
    noted = noted;
    place_same = marks.0 ∙ a.place_same;
    sees = (e.0 ∙ a.sees.0, e.1 ∙ a.sees.1, e.2 ∙ a.sees.2);
    below = λ n l w. dite (ℕ_discrete n i)
        (λ here. ap (is_in n) marks.1 ∙ ap (λ (b : Bool). b || is_in n (marked q)) (eq-eqb n i here))
        (λ else. marks_more n i (marked q) (marked m) marks.1 (a.below n (let g : n < i = omega arith in g) w));
  }

  pub marking_else : {waiting : ℕ → ℕ} {p q now : Pass T Entry g} {i : ℕ} → now ≡ q → Marking waiting p q i → waiting i ≡ 0 → Marking waiting p now (i + 1)
  marking_else {waiting = waiting} {p = p} {i = i} is a none = subst (λ (x : Pass T Entry g). Marking waiting p x (i + 1)) (sym is) record {
    same = a.same;
    noted = a.noted;
    place_same = a.place_same;
    sees = a.sees;
    below = λ n l w. dite (ℕ_discrete n i)
        (λ here. absurd (let z : waiting n ≡ 0 = ap waiting here ∙ none in let x : ℕ = waiting n in let z' : x ≡ 0 = z in let w' : x ≡ 1 = w in omega arith))
        (λ else. a.below n (let g : n < i = omega arith in g) w);
  }

  pub known_end : {p q : Pass T Entry g} (r : ℕ) (o : Option ℕ) → IsSamePass p q → IfSome o (λ n. end_of (constant p) (known q) r ≡ Some n) → OnTrue (is_some o) (EndKnown q r)
  known_end r None s h = tt
  known_end {q = q} r (Some n) s h = record { place = n; is_end = ap (λ (k : ℕ). end_of k (known q) r) s.constant ∙ h }

-- what the value behind the lock tells of the board
pub board_at : {b : Book} {k : ℕ} {es : List Entry} → (b.entries ≡ es) × (b.limit ≡ k) → board b ≡ board_of k es
board_at {b = b} {k = k} is = ap (λ (n : ℕ). board_of n b.entries) is.1 ∙ ap (board_of k) is.0

pub unstarted_is : {a b : Book} (kept : Bool) (k : ℕ) (es : List Entry) (r : ℕ) → a ≡ b → (b.entries ≡ es ++ closing ∷ []) × (b.limit ≡ k)
    → ((before : List Entry) → a.entries ≡ before ++ closing ∷ [] → waits (slice_get (board_of a.limit before).requests r) ≡ cond {A = ℕ} kept 1 0) → waits (slice_get (board_of k es).requests r) ≡ cond {A = ℕ} kept 1 0
unstarted_is kept k es r same is h = ap (λ (n : ℕ). waits (slice_get (board_of n es).requests r)) (sym (ap (λ (x : Book). x.limit) same ∙ is.1)) ∙ h es (ap (λ (x : Book). x.entries) same ∙ is.0)

waits_one : (o : Option Request) → waits o ≢ 0 → waits o ≡ 1
waits_one None ne = absurd (ne refl)
waits_one (Some q) ne = let b : Bool = queued_state q.state in elim b as (λ c. cond {A = ℕ} c 1 0 ≢ 0 → cond {A = ℕ} c 1 0 ≡ 1) [ true ↦ λ ne. refl | false ↦ λ ne. absurd (ne refl) ] ne

-- after all that was submitted, each request is marked that the closing ends
pub all_marked : {k k' i : ℕ} {ys : List Entry} (ms : List ℕ) (es : List Entry) (p : ℕ) → k' ≡ k → ys ≡ es ++ closing ∷ [] → p ≡ length es → Legal k (es ++ closing ∷ []) → length (board_of k (es ++ closing ∷ [])).requests ≤ i
    → ((n : ℕ) → n < i → waits (slice_get (board_of k es).requests n) ≡ 1 → is_in n ms ≡ true) → (n : ℕ) → end_of k' ys n ≡ Some p → is_in n ms ≡ true
all_marked {k = k} {k' = k'} {i = i} {ys = ys} ms es p same is at legal all below n h = dite (ℕ_discrete (waits (slice_get (board_of k es).requests n)) 0)
    (λ none. absurd (end_elsewhere k es closing n none (sym (ap (λ (x : ℕ). end_of x ys n) same ∙ ap (λ (l : List Entry). end_of k l n) is) ∙ h ∙ ap Some at)))
    (λ some. let w = waits_one (slice_get (board_of k es).requests n) some in let l = waiting_below k es n legal w in below n (let g : n < i = omega arith in g) w)
