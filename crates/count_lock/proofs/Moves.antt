-- A step that changes one view keeps the rule, and each single move.
use Rattle.std.proofs.Common.{◌≡◌, ℕ, zero, suc, ◌+◌, ◌-◌, ◌*◌, ◌/◌, ◌%◌, ◌^◌, ◌<◌, ◌≤◌, ◌≢◌, List, [], ◌∷◌, ◌++◌, length, length-set, get_or, set, sym, refl, ap, ◌∙◌, subst, inl, inr, ⊎_elim, le_refl, arith, append-nil, append_assoc, length-append, mod-eq_of_lt, eq-eqb, ne_eqb, ◌==◌, ◌||◌, Bool, true, false, cond, Some, None, Option}
use mathlib.Core.Option.{some, none, some-injective, some-ne-none}
use mathlib.Core.Option as maybe
use mathlib.Core.Logic.{dite}
use native.Mathlib.Decide.{ℕ_discrete}
use lib.ListN.{get_elem?}
use Rattle.std.proofs.Math.Nat.{add-mul-mod_self_right, div-add-mod'}
use Rattle.std.proofs.lemmas.List.{get_or-set_same, get_or-set_other}
use Rattle.std.proofs.lemmas.List.Elements.{filter-append, All-append, All-cons, All-nil}
use Rattle.atomic_table.specs.Table.{State, Me, step, Act, put_back, keeps, takes, gives, Valid, carried_after, stepped, Allows, Final, Seen}
use Rattle.atomic_table.proofs.Lists.{at_set, set_else, one_turn}
use Rattle.count_lock.specs.declared.view.Stage.{Stage}
use Rattle.count_lock.specs.declared.view.Stage.TheVariants.{Idle, Waiting, Turn, Noted, Last, Spent}
use Rattle.count_lock.specs.declared.view.View.{View}
use Rattle.count_lock.specs.declared.view.Kin.{Kin}
use Rattle.count_lock.specs.Ends.{EndLaws}
use Rattle.count_lock.specs.Rule.{StartsWith, is_in, Pending, Marked, marked_one, loaded, holding, turning, noting, served_now, alive, waiting, load, weight, Spare, IsKin, Joined, Has, Owns, Apart, of, Made, Fits, Home, Authored, Ticketed, carried, drew, looked, noted, passed, laid}

-- a word that wraps
pub next_mod : (a n : ℕ) → (a % n + 1) % n ≡ (a + 1) % n
next_mod a n = let p = div-add-mod' a n in let x : ℕ = a / n * n in let r : ℕ = a % n in let q : x + r ≡ a = p in
    sym (ap (λ (k : ℕ). k % n) (let e : a + 1 ≡ r + 1 + x = omega arith in e) ∙ add-mul-mod_self_right (a % n + 1) (a / n) n)

hold_load : (st : Stage) (k : ℕ) → holding st ≤ alive st * (1 + k)
hold_load Idle k = omega arith
hold_load Waiting k = omega arith
hold_load Turn k = omega arith
hold_load Noted k = omega arith
hold_load Last k = omega arith
hold_load Spent k = omega arith

pub holds_turn : (st : Stage) → turning st ≡ 1 → 1 ≤ holding st
holds_turn Idle t = omega arith
holds_turn Waiting t = omega arith
holds_turn Turn t = omega arith
holds_turn Noted t = omega arith
holds_turn Last t = omega arith
holds_turn Spent t = omega arith

pub turn_holds : (st : Stage) → 1 ≤ served_now st → 1 ≤ holding st
turn_holds Idle t = omega arith
turn_holds Waiting t = omega arith
turn_holds Turn t = omega arith
turn_holds Noted t = omega arith
turn_holds Last t = omega arith
turn_holds Spent t = omega arith

pub turn_now : (st : Stage) → 1 ≤ turning st → 1 ≤ served_now st
turn_now Idle t = t
turn_now Waiting t = t
turn_now Turn t = t
turn_now Noted t = t
turn_now Last t = omega arith
turn_now Spent t = t

pub turn_zero : (st : Stage) → ¬ (1 ≤ turning st) → turning st ≡ 0
turn_zero Idle t = refl
turn_zero Waiting t = refl
turn_zero Turn t = absurd (t (le_refl 1))
turn_zero Noted t = absurd (t (le_refl 1))
turn_zero Last t = refl
turn_zero Spent t = refl

pub note_turns : (st : Stage) → noting st ≡ 1 → turning st ≡ 1
note_turns Idle t = absurd (omega arith)
note_turns Waiting t = absurd (omega arith)
note_turns Turn t = absurd (omega arith)
note_turns Noted t = refl
note_turns Last t = absurd (omega arith)
note_turns Spent t = absurd (omega arith)

pub turn_alive : (st : Stage) → turning st ≡ 1 → alive st ≡ 1
turn_alive Idle t = absurd (omega arith)
turn_alive Waiting t = absurd (omega arith)
turn_alive Turn t = refl
turn_alive Noted t = refl
turn_alive Last t = absurd (omega arith)
turn_alive Spent t = absurd (omega arith)

pub turn_one : (st : Stage) → turning st ≡ 1 → holding st ≡ 1
turn_one Idle t = absurd (omega arith)
turn_one Waiting t = absurd (omega arith)
turn_one Turn t = refl
turn_one Noted t = refl
turn_one Last t = absurd (omega arith)
turn_one Spent t = absurd (omega arith)

pub set_same : (l : List ℕ) (i : ℕ) → set l i (get_or l i 0) ≡ l
set_same [] i = refl
set_same (x ∷ xs) zero = refl
set_same (x ∷ xs) (suc i) = ap (λ (l : List ℕ). x ∷ l) (set_same xs i)

pub unseen : (o : Option ℕ) → ((p : ℕ) → o ≡ Some p → ⊥) → o ≡ None
unseen None no' = refl
unseen (Some p) no' = absurd (no' p refl)

pub unwrapped : {T : Type 0} (x y : T) → Some x ≡ Some y → x ≡ y
unwrapped x y e = ap (λ (o : Option _). elim o [ None ↦ x | Some z ↦ z ]) e

module _ {E : Type 0} where
  pub waiting_set : (vs : List (View E)) (i : ℕ) (v w : View E) → get_elem? vs i ≡ some v → waiting (set vs i w) + holding v.stage ≡ waiting vs + holding w.stage
  waiting_set [] i v w e = absurd (some-ne-none v (sym e))
  waiting_set (x ∷ xs) zero v w e = let same : holding x.stage ≡ holding v.stage = ap (λ (u : View E). holding u.stage) (some-injective x v e) in omega arith
  waiting_set (x ∷ xs) (suc i) v w e = let h = waiting_set xs i v w e in omega arith

  pub weight_set : (vs : List (View E)) (i : ℕ) (v w : View E) → get_elem? vs i ≡ some v → weight (set vs i w) + load v ≡ weight vs + load w
  weight_set [] i v w e = absurd (some-ne-none v (sym e))
  weight_set (x ∷ xs) zero v w e = let same : load x ≡ load v = ap load (some-injective x v e) in let a : ℕ = load x in let b : ℕ = load v in let c : ℕ = load w in let d : ℕ = weight xs in
      let same' : a ≡ b = same in let g : c + d + b ≡ a + d + c = omega arith in g
  weight_set (x ∷ xs) (suc i) v w e = let h = weight_set xs i v w e in let a : ℕ = load x in let b : ℕ = load v in let c : ℕ = load w in let d : ℕ = weight xs in let d' : ℕ = weight (set xs i w) in
      let h' : d' + b ≡ d + c = h in let g : a + d' + b ≡ a + d + c = omega arith in g

  pub light : (vs : List (View E)) → waiting vs ≤ weight vs
  light [] = le_refl 0
  light (x ∷ xs) = let h = light xs in let a : ℕ = load x in let k : holding x.stage ≤ a = hold_load x.stage (x.until - x.from) in let b : ℕ = weight xs in let c : ℕ = waiting xs in let h' : c ≤ b = h in
      let g : holding x.stage + c ≤ a + b = omega arith in g

module _ {E : Type 0} (by : E → ℕ) where
  pub of_snoc : (k : ℕ) (es : List E) (e : E) → by e ≢ k → of by k (es ++ e ∷ []) ≡ of by k es
  of_snoc k es e ne = filter-append (λ (x : E). by x == k) es (e ∷ []) ∙ subst (λ (b : Bool). of by k es ++ cond b (e ∷ []) [] ≡ of by k es) (sym (ne_eqb (by e) k ne)) (append-nil (of by k es))

  pub of_mine : (k : ℕ) (es : List E) (e : E) → by e ≡ k → of by k (es ++ e ∷ []) ≡ of by k es ++ e ∷ []
  of_mine k es e is = filter-append (λ (x : E). by x == k) es (e ∷ []) ∙ subst (λ (b : Bool). of by k es ++ cond b (e ∷ []) [] ≡ of by k es ++ e ∷ []) (sym (eq-eqb (by e) k is)) refl

  -- an entry of another pass
  pub made_more : (es : List E) (e : E) (ks : List (Kin E)) → ((n : ℕ) → IsKin ks n → by e ≢ n) → Made by es ks → Made by (es ++ e ∷ []) ks
  made_more es e [] other m = tt
  made_more es e (k ∷ ks) other m = (of_snoc k.number es e (other k.number (inl refl)) ∙ m.0, made_more es e ks (λ n i. other n (inr i)) m.1)

module _ {T E : Type 0} (entries : T → List E) (constant_of : T → ℕ) (by : E → ℕ) (fin : ℕ → List E → ℕ → Option ℕ) (laws : EndLaws fin) (words : ℕ) where
  abbrev St : Type 0
  St = State (Option T) (View E)

  abbrev M : Type 0
  M = Me (Option T) (View E)

  abbrev Homes : Type 0
  Homes = List (maybe.Option (Option T))

  abbrev R : St → Type 0
  R = Ticketed entries constant_of by fin words

  abbrev pub Each : (List (View E)) → ℕ → ℕ → List E → Type 0
  Each vs d n log = (j : ℕ) (u : View E) → get_elem? vs j ≡ some u → Fits by d n log u

  abbrev pub Pairs : List (View E) → Type 0
  Pairs vs = (i j : ℕ) (v w : View E) → get_elem? vs i ≡ some v → get_elem? vs j ≡ some w → i ≢ j → Apart v w

  pub each_set : (vs : List (View E)) (id : ℕ) (w : View E) (d n : ℕ) (log : List E) → Fits by d n log w → ((j : ℕ) (u : View E) → j ≢ id → get_elem? vs j ≡ some u → Fits by d n log u) → Each (set vs id w) d n log
  each_set vs id w d n log fits others j u e = ⊎_elim (λ t. subst (Fits by d n log) t.1 fits) (λ t. others j u t.0 t.1) (at_set vs id j w u e)

  -- no other view has a number of the view w
  abbrev pub Alone : List (View E) → ℕ → View E → Type 0
  Alone vs id w = (j : ℕ) (u : View E) → j ≢ id → get_elem? vs j ≡ some u → 1 ≤ alive w.stage → 1 ≤ alive u.stage → (k : ℕ) → Owns w k → Owns u k → ⊥

  -- a view that has no more numbers
  pub still_alone : (vs : List (View E)) (id : ℕ) (v w : View E) → get_elem? vs id ≡ some v → Pairs vs → (1 ≤ alive w.stage → 1 ≤ alive v.stage) → ((k : ℕ) → 1 ≤ alive w.stage → Owns w k → Owns v k) → Alone vs id w
  still_alone vs id v w at pairs alive' owns j u ne e aw au k ow ou = (pairs id j v u at e (λ q. ne (sym q))).1 (alive' aw) au k (owns k aw ow) ou

  pub pairs_set : (vs : List (View E)) (id : ℕ) (v w : View E) → get_elem? vs id ≡ some v → Pairs vs → Alone vs id w
      → ((j : ℕ) (u : View E) → j ≢ id → get_elem? vs j ≡ some u → 1 ≤ holding w.stage → 1 ≤ holding u.stage → w.at ≢ u.at) → Pairs (set vs id w)
  pairs_set vs id v w at pairs alone tickets i j f g ei ej ne =
      ⊎_elim (λ ti. ⊎_elim (λ tj. absurd (ne (ti.0 ∙ sym tj.0)))
      (λ tj. subst (λ (z : View E). Apart z g) ti.1 ((λ hw hg. tickets j g tj.0 tj.1 hw hg), (λ aw ag k ow og. alone j g tj.0 tj.1 aw ag k ow og)))
      (at_set vs id j w g ej))
      (λ ti. ⊎_elim
      (λ tj. subst (λ (z : View E). Apart f z) tj.1 ((λ hf hw e. tickets i f ti.0 ti.1 hw hf (sym e)), (λ af aw k of' ow. alone i f ti.0 ti.1 aw af k ow of')))
      (λ tj. pairs i j f g ti.1 tj.1 ne) (at_set vs id j w g ej))
      (at_set vs id i w f ei)

  -- the view of the seat id goes from v to w, and the words, the slot and the history change
  unfoldable pub set_view : (s : St) (r : R s) (id : ℕ) (v w : View E) → get_elem? s.views id ≡ some v
      → (ws : List ℕ) (hs : Homes) (d n : ℕ) (log : List E) (es : List ℕ) → length es ≡ length r.ends
      → ws ≡ (d % 2 ^ 64) ∷ (n % 2 ^ 64) ∷ length log ∷ es → ((k : ℕ) → k < length es → Marked (fin r.constant) (set s.views id w) log k (get_or es k 0)) → length log < 2 ^ 64 → Authored by log
      → d + holding v.stage + r.served ≡ n + r.drawn + holding w.stage
      → load w ≤ load v → (1 ≤ alive w.stage → 1 ≤ alive v.stage) → Alone s.views id w
      → (1 ≤ alive w.stage → w.constant ≡ v.constant) → Home entries constant_of r.constant (set s.views id w) log hs
      → Fits by d n log w
      → ((j : ℕ) (u : View E) → j ≢ id → get_elem? s.views j ≡ some u → Fits by r.drawn r.served r.log u → Fits by d n log u)
      → ((j : ℕ) (u : View E) → j ≢ id → get_elem? s.views j ≡ some u → 1 ≤ holding w.stage → 1 ≤ holding u.stage → w.at ≢ u.at)
      → R record { words = ws; homes = hs; views = set s.views id w }
  set_view s r id v w at ws hs d n log es as_many wide marks' short authors count light' alive' alone same_constant home fits others tickets =
      let a : ℕ = waiting s.views in let b : ℕ = waiting (set s.views id w) in let x : ℕ = holding v.stage in let y : ℕ = holding w.stage in
      let moves : b + x ≡ a + y = waiting_set s.views id v w at in let was : r.served + a ≡ r.drawn = r.waits in let count' : d + x + r.served ≡ n + r.drawn + y = count in
      let a' : ℕ = weight s.views in let b' : ℕ = weight (set s.views id w) in let x' : ℕ = load v in let y' : ℕ = load w in
      let moves' : b' + x' ≡ a' + y' = weight_set s.views id v w at in let was' : a' ≤ 2 ^ 32 = r.weighs in let less : y' ≤ x' = light' in
      record {
        drawn = d;
        served = n;
        log = log;
        ends = es;
        words_are = wide;
        short = short;
        count = as_many ∙ r.count;
        marks = marks';
        authors = authors;
        waits = let g : n + b ≡ d = omega arith in g;
        weighs = let g : b' ≤ 2 ^ 32 = omega arith in g;
        constant = r.constant;
        constants = λ j u e. ⊎_elim (λ t. subst (λ (z : View E). 1 ≤ alive z.stage → z.constant ≡ r.constant) t.1 (λ a. same_constant a ∙ r.constants id v at (alive' a))) (λ t. r.constants j u t.1) (at_set s.views id j w u e);
        home = home;
        each = each_set s.views id w d n log fits (λ j u ne e. others j u ne e (r.each j u e));
        pairs = pairs_set s.views id v w at r.pairs alone tickets;
      }

  -- the same, where w has no more numbers
  pub moved : (s : St) (r : R s) (id : ℕ) (v w : View E) → get_elem? s.views id ≡ some v
      → (ws : List ℕ) (hs : Homes) (d n : ℕ) (log : List E) (es : List ℕ) → length es ≡ length r.ends
      → ws ≡ (d % 2 ^ 64) ∷ (n % 2 ^ 64) ∷ length log ∷ es → ((k : ℕ) → k < length es → Marked (fin r.constant) (set s.views id w) log k (get_or es k 0)) → length log < 2 ^ 64 → Authored by log
      → d + holding v.stage + r.served ≡ n + r.drawn + holding w.stage
      → load w ≤ load v → (1 ≤ alive w.stage → 1 ≤ alive v.stage) → ((k : ℕ) → 1 ≤ alive w.stage → Owns w k → Owns v k)
      → (1 ≤ alive w.stage → w.constant ≡ v.constant) → Home entries constant_of r.constant (set s.views id w) log hs
      → Fits by d n log w
      → ((j : ℕ) (u : View E) → j ≢ id → get_elem? s.views j ≡ some u → Fits by r.drawn r.served r.log u → Fits by d n log u)
      → ((j : ℕ) (u : View E) → j ≢ id → get_elem? s.views j ≡ some u → 1 ≤ holding w.stage → 1 ≤ holding u.stage → w.at ≢ u.at)
      → R record { words = ws; homes = hs; views = set s.views id w }
  moved s r id v w at ws hs d n log es as_many wide marks' short authors count light' alive' owns = set_view s r id v w at ws hs d n log es as_many wide marks' short authors count light' alive' (still_alone s.views id v w at r.pairs alive' owns)

  pub set_there : {A : Type 0} (l : List A) (i : ℕ) (a b : A) → get_elem? l i ≡ some a → get_elem? (set l i b) i ≡ some b
  set_there [] i a b e = absurd (some-ne-none a (sym e))
  set_there (x ∷ xs) zero a b e = refl
  set_there (x ∷ xs) (suc i) a b e = set_there xs i a b e

  -- the slot stays, where the view has the turn as before
  pub home_stays : (constant : ℕ) (views : List (View E)) (log : List E) (hs : Homes) (id : ℕ) (v w : View E) → get_elem? views id ≡ some v → turning w.stage ≡ turning v.stage → Home entries constant_of constant views log hs → Home entries constant_of constant (set views id w) log hs
  home_stays constant views log hs id v w at same home = ⊎_elim
      (λ h. inl (h.0, h.1, h.2, λ j u e. ⊎_elim (λ t. subst (λ (z : View E). turning z.stage ≡ 0) t.1 (same ∙ h.3 id v at)) (λ t. h.3 j u t.1) (at_set views id j w u e), h.4))
      (λ h. inr (
        h.0,
        dite (ℕ_discrete h.1.0 id)
            (λ is. (id, w, set_there views id v w at, same ∙ ap (λ (z : View E). turning z.stage) (some-injective v h.1.1 (sym at ∙ ap (get_elem? views) (sym is) ∙ h.1.2)) ∙ h.1.3))
            (λ no. (h.1.0, h.1.1, set_else views id h.1.0 w no ∙ h.1.2, h.1.3)),
      ))
      home

  -- two views do not have the turn together
  pub one_turning : (s : St) (r : R s) (i j : ℕ) (u v : View E) → get_elem? s.views i ≡ some u → get_elem? s.views j ≡ some v → i ≢ j → turning u.stage ≡ 1 → 1 ≤ holding v.stage → v.at ≡ r.served → ⊥
  one_turning s r i j u v ei ej ne t h is = (r.pairs i j u v ei ej ne).0 (holds_turn u.stage t) h (((r.each i u ei).turn (turn_now u.stage (let g : 1 ≤ turning u.stage = omega arith in g))).0 ∙ sym is)

  abbrev pub Unseen : List (View E) → ℕ → ℕ → Type 0
  Unseen views j p = (i : ℕ) (x : View E) → i ≢ j → get_elem? views i ≡ some x → (length x.seen ≤ p) × (length x.told ≤ p)

  -- what is pending stays, where the view that changes noted nothing
  pub stay_marks : (s : St) (r : R s) (id : ℕ) (v w : View E) → get_elem? s.views id ≡ some v → noting v.stage ≡ 0
      → ((p j : ℕ) (u : View E) → j ≢ id → get_elem? s.views j ≡ some u → noting u.stage ≡ 1 → Unseen s.views j p → (length w.seen ≤ p) × (length w.told ≤ p))
      → (k : ℕ) → k < length r.ends → Marked (fin r.constant) (set s.views id w) r.log k (get_or r.ends k 0)
  stay_marks s r id v w at none' bounds k h = let m = r.marks k h in (
    m.0,
    λ z p e. let q = m.1 z p e in let j : ℕ = q.at in let u : View E = q.view in
        let ne : j ≢ id = λ is. let same : u ≡ v = some-injective u v (sym q.there ∙ ap (get_elem? s.views) is ∙ at) in let e' : noting u.stage ≡ noting v.stage = ap (λ (x : View E). noting x.stage) same in let one : noting u.stage ≡ 1 = q.notes in omega arith in
        let b = bounds p j u ne q.there q.notes q.unseen in record {
          at = j;
          view = u;
          there = set_else s.views id j w ne ∙ q.there;
          notes = q.notes;
          place = q.place;
          unmarked = q.unmarked;
          unseen = λ i x n ei. ⊎_elim (λ t. subst (λ (y : View E). (length y.seen ≤ p) × (length y.told ≤ p)) t.1 b) (λ t. q.unseen i x n t.1) (at_set s.views id i w x ei);
        },
  )

  -- where the view has seen and was told no more
  pub marks_same : (s : St) (r : R s) (id : ℕ) (v w : View E) → get_elem? s.views id ≡ some v → noting v.stage ≡ 0 → w.seen ≡ v.seen → w.told ≡ v.told → (k : ℕ) → k < length r.ends → Marked (fin r.constant) (set s.views id w) r.log k (get_or r.ends k 0)
  marks_same s r id v w at none' seen told = stay_marks s r id v w at none' (λ p j u ne e n o. let ab = o id v (λ x. ne (sym x)) at in (subst (λ (l : List E). length l ≤ p) (sym seen) ab.0, subst (λ (l : List E). length l ≤ p) (sym told) ab.1))

  pub draws : (n id : ℕ) (me : M) → me.0.stage ≡ Idle → Allows R n id me 0 (λ x. (x + 1) % 2 ^ 64) (drew (step n 0 1 0 none) me)
  draws n id me st s r wide at _ = let v : View E = me.0 in let w : View E = record v { stage = Waiting; at = r.drawn } in let f = r.each id v at in
      let idle : holding v.stage ≡ 0 = ap holding st in let lives : 1 ≤ alive v.stage = subst (λ (z : Stage). 1 ≤ alive z) (sym st) (le_refl 1) in let was = r.waits in (
        w,
        keeps,
        tt,
        moved s r id v w at (set s.words 0 ((get_or s.words 0 0 + 1) % 2 ^ 64)) s.homes (r.drawn + 1) r.served r.log r.ends refl
            (ap (λ (ws : List ℕ). set ws 0 ((get_or ws 0 0 + 1) % 2 ^ 64)) r.words_are ∙ ap (λ (k : ℕ). k ∷ (r.served % 2 ^ 64) ∷ length r.log ∷ r.ends) (next_mod r.drawn (2 ^ 64)))
            (marks_same s r id v w at (ap noting st) refl refl) r.short r.authors (omega arith) (subst (λ (z : Stage). load w ≤ alive z * (1 + (v.until - v.from))) (sym st) (le_refl _)) (λ _. lives) (λ k _ o. o) (λ _. refl)
            (home_stays r.constant s.views r.log s.homes id v w at (sym (ap turning st)) r.home)
            record { front = f.front; told = f.told; known = f.known; ticket = λ _. (omega arith, omega arith); turn = λ h. absurd (omega arith); mine = λ _. f.mine lives; spare = λ _. f.spare lives; kin = λ _. f.kin lives; guests = λ _. f.guests lives; range = λ _. f.range lives; own = λ _. f.own lives; fresh = λ _. f.fresh lives }
            (λ j u ne e g. record { front = g.front; told = g.told; known = g.known; ticket = λ h. ((g.ticket h).0, let b = (g.ticket h).1 in omega arith); turn = g.turn; mine = g.mine; spare = g.spare; kin = g.kin; guests = g.guests; range = g.range; own = g.own; fresh = g.fresh })
            (λ j u ne e _ h q. let b = ((r.each j u e).ticket h).1 in let q' : r.drawn ≡ u.at = q in omega arith),
        (r.drawn, ap (λ (ws : List ℕ). get_or ws 0 0) r.words_are, refl, refl),
      )

  -- a ticket that is served modulo 2 ^ 64 is served
  same_ticket : (s : St) (r : R s) (a : ℕ) → r.served ≤ a → a < r.drawn → r.served % 2 ^ 64 ≡ a % 2 ^ 64 → a ≡ r.served
  same_ticket s r a low high e = let b : ℕ = waiting s.views in let was : r.served + b ≡ r.drawn = r.waits in let c : ℕ = weight s.views in let l : b ≤ c = light s.views in let m : c ≤ 2 ^ 32 = r.weighs in
      sym (one_turn r.served a (2 ^ 64) low (omega arith) e)

  abbrev pub Goes : St → ℕ → ℕ → M → (ℕ → M → Type 0) → ℕ → Type 0
  Goes s k id me then x = (w : View E) × (a : Act (Option T)) × Valid s.homes me.1 a × R (stepped s k x id me.1 w a) × then (get_or s.words k 0) (w, carried_after me.1 a)

  -- nothing changes
  pub stays : (s : St) (r : R s) (id : ℕ) (me : M) (then : ℕ → M → Type 0) → get_elem? s.views id ≡ some me.0 → noting me.0.stage ≡ 0 → then (get_or s.words 1 0) me → Goes s 1 id me then (get_or s.words 1 0)
  stays s r id me then at none' told = let f = r.each id me.0 at in (
    me.0,
    keeps,
    tt,
    moved s r id me.0 me.0 at (set s.words 1 (get_or s.words 1 0)) s.homes r.drawn r.served r.log r.ends refl (ap (λ (ws : List ℕ). set ws 1 (get_or ws 1 0)) r.words_are) (marks_same s r id me.0 me.0 at none' refl refl) r.short r.authors (omega arith) (le_refl _) (λ a. a) (λ k _ o. o) (λ _. refl)
        (home_stays r.constant s.views r.log s.homes id me.0 me.0 at refl r.home) f (λ j u ne e g. g)
        (λ j u ne e hw hu. (r.pairs id j me.0 u at e (λ q. ne (sym q))).0 hw hu),
    told,
  )

  -- the value is at home where a view that waits is served
  is_home : (s : St) (r : R s) (id : ℕ) (v : View E) → get_elem? s.views id ≡ some v → 1 ≤ holding v.stage → turning v.stage ≡ 0 → v.at ≡ r.served
      → (x : T) × (s.homes ≡ some (Some x) ∷ []) × (entries x ≡ r.log) × ((j : ℕ) (u : View E) → get_elem? s.views j ≡ some u → turning u.stage ≡ 0) × (constant_of x ≡ r.constant)
  is_home s r id v at holds not is = ⊎_elim (λ h. h)
      (λ h. let j : ℕ = h.1.0 in let u : View E = h.1.1 in let f = r.each j u h.1.2 in let t : turning u.stage ≡ 1 = h.1.3 in
      let ne : j ≢ id = λ q. let e : u ≡ v = some-injective u v (sym h.1.2 ∙ ap (get_elem? s.views) q ∙ at) in let e' : turning u.stage ≡ turning v.stage = ap (λ (z : View E). turning z.stage) e in omega arith in
      absurd ((r.pairs j id u v h.1.2 at ne).0 (holds_turn u.stage t) holds ((f.turn (turn_now u.stage (let g : 1 ≤ turning u.stage = omega arith in g))).0 ∙ sym is)))
      r.home

  pub looks : (n id : ℕ) (me : M) → me.0.stage ≡ Waiting → Allows R n id me 1 (λ x. x) (looked entries constant_of by (step n 1 0 0 none) me)
  looks n id me st s r wide at _ = let v : View E = me.0 in let f = r.each id v at in let word : ℕ = get_or s.words 1 0 in let found : word ≡ r.served % 2 ^ 64 = ap (λ (ws : List ℕ). get_or ws 1 0) r.words_are in
      let holds : 1 ≤ holding v.stage = subst (λ (z : Stage). 1 ≤ holding z) (sym st) (le_refl 1) in let lives : 1 ≤ alive v.stage = subst (λ (z : Stage). 1 ≤ alive z) (sym st) (le_refl 1) in
      let told = looked entries constant_of by (step n 1 0 0 none) me in let one : holding v.stage ≡ 1 = ap holding st in let not : turning v.stage ≡ 0 = ap turning st in
      dite (ℕ_discrete word (v.at % 2 ^ 64))
      (λ hit. let is : v.at ≡ r.served = same_ticket s r v.at (f.ticket holds).0 (f.ticket holds).1 (sym found ∙ hit) in let h = is_home s r id v at holds not is in let x : T = h.0 in
      let w : View E = record v { stage = Turn; seen = entries x } in let m = f.mine lives in (
        w,
        takes 0 (Some x),
        ap (λ (hs : Homes). get_elem? hs 0) h.1,
        moved s r id v w at (set s.words 1 word) (set s.homes 0 none) r.drawn r.served r.log r.ends refl (ap (λ (ws : List ℕ). set ws 1 (get_or ws 1 0)) r.words_are)
            (stay_marks s r id v w at (ap noting st) (λ p j u ne e n o. absurd (one_turning s r j id u v e at ne (note_turns u.stage n) holds is))) r.short r.authors (omega arith)
            (subst (λ (z : Stage). load w ≤ alive z * (1 + (v.until - v.from))) (sym st) (le_refl _)) (λ _. lives) (λ k _ o. o) (λ _. refl)
            (inr (ap (λ (hs : Homes). set hs 0 none) h.1, (id, w, set_there s.views id v w at, refl)))
            record {
              front = ([], sym h.2 ∙ sym (append-nil (entries x)));
              told = f.told;
              known = f.known;
              ticket = λ _. f.ticket holds;
              turn = λ _. (is, h.2);
              mine = λ _. (m.0, ap (of by v.number) h.2 ∙ m.0);
              spare = λ _. f.spare lives;
              kin = λ _. ((f.kin lives).0, subst (λ (l : List E). Made by l v.kin) (sym h.2) (f.kin lives).0);
              guests = λ _. f.guests lives;
              range = λ _. f.range lives;
              own = λ _. f.own lives;
              fresh = λ _. f.fresh lives;
            }
            (λ j u ne e g. g)
            (λ j u ne e hw hu. (r.pairs id j v u at e (λ q. ne (sym q))).0 holds hu),
        ((λ _. (x, refl, refl, (f.front.0, h.2 ∙ f.front.1), ap (of by v.number) h.2 ∙ m.0, λ k o. ap (of by k) h.2 ∙ f.spare lives k o, h.4 ∙ sym (r.constants id v at lives), subst (Authored by) (sym h.2) r.authors, subst (λ (l : List E). Made by l v.kin) (sym h.2) (f.kin lives).0, (f.known.0, h.2 ∙ f.known.1))), λ miss. absurd (miss hit)),
      ))
      (λ miss. stays s r id me told at (ap noting st) ((λ hit. absurd (miss hit)), λ _. refl))

  -- while a view has the turn, the value is out, and no other view has the turn
  is_out : (s : St) (r : R s) (id : ℕ) (v : View E) → get_elem? s.views id ≡ some v → turning v.stage ≡ 1 → s.homes ≡ none ∷ []
  is_out s r id v at t = ⊎_elim (λ h. let z : turning v.stage ≡ 0 = h.3 id v at in absurd (omega arith)) (λ h. h.0) r.home

  pub notes : (n id : ℕ) (me : M) (x : T) (e : E) → me.0.stage ≡ Turn → me.1 ≡ (0, Some x) ∷ [] → entries x ≡ me.0.seen ++ e ∷ [] → by e ≡ me.0.number → length me.0.seen + 1 < 2 ^ 64
      → (y : ℕ) → Allows R n id me 2 (λ z. (z + 1) % 2 ^ 64) (λ z. noted entries by (step n 2 1 0 none) me y)
  notes n id me x e st has adds author room y s r wide at _ = let v : View E = me.0 in let f = r.each id v at in let word : ℕ = get_or s.words 2 0 in
      let holds : 1 ≤ holding v.stage = subst (λ (z : Stage). 1 ≤ holding z) (sym st) (le_refl 1) in let lives : 1 ≤ alive v.stage = subst (λ (z : Stage). 1 ≤ alive z) (sym st) (le_refl 1) in
      let turns : turning v.stage ≡ 1 = ap turning st in let one : holding v.stage ≡ 1 = ap holding st in let t = f.turn (turn_now v.stage (let g : 1 ≤ turning v.stage = omega arith in g)) in let here : v.seen ≡ r.log = t.1 in
      let log : List E = carried entries me.1 in let is : log ≡ entries x = ap (carried entries) has in let grows : log ≡ r.log ++ e ∷ [] = is ∙ adds ∙ ap (λ (l : List E). l ++ e ∷ []) here in
      let long : length log ≡ length r.log + 1 = ap length grows ∙ length-append r.log (e ∷ []) in let room' : length r.log + 1 < 2 ^ 64 = subst (λ (l : List E). length l + 1 < 2 ^ 64) here room in
      let m = f.mine lives in let w : View E = record v { stage = Noted; place = length v.seen; marked = []; seen = log; mine = of by v.number log } in
      let longer_by : (old : List E) → StartsWith r.log old → StartsWith log old = λ old q. (q.0 ++ e ∷ [], grows ∙ ap (λ (l : List E). l ++ e ∷ []) q.1 ∙ append_assoc old q.0 (e ∷ [])) in
      let short_of : (old : List E) → StartsWith r.log old → length old ≤ length r.log = λ old q. let l : length r.log ≡ length old + length q.0 = ap length q.1 ∙ length-append old q.0 in omega arith in
      let note_marks : (k : ℕ) → k < length r.ends → Marked (fin r.constant) (set s.views id w) log k (get_or r.ends k 0) = λ k h. let old = r.marks k h in (
        (λ nz. ap (λ (l : List E). fin r.constant l k) grows ∙ laws.stays r.constant r.log (e ∷ []) k (get_or r.ends k 0 - 1) (old.0 nz)),
        (λ z p fp. ⊎_elim
            (λ was. let q = old.1 z p was in absurd (dite (ℕ_discrete q.at id)
            (λ same. let e' : noting v.stage ≡ 1 = subst (λ (x : View E). noting x.stage ≡ 1) (some-injective q.view v (sym q.there ∙ ap (get_elem? s.views) same ∙ at)) q.notes in let e₀ : noting v.stage ≡ 0 = ap noting st in omega arith)
            (λ other'. one_turning s r q.at id q.view v q.there at other' (note_turns q.view.stage q.notes) holds t.0)))
            (λ now. record {
              at = id;
              view = w;
              there = set_there s.views id v w at;
              notes = refl;
              place = ap length here ∙ sym now;
              unmarked = refl;
              unseen = λ i u ne eu. let pl : p ≡ length r.log = now in ⊎_elim (λ tt'. absurd (ne tt'.0)) (λ tt'. let fu = r.each i u tt'.1 in let a = short_of u.seen fu.front in let b = short_of u.told fu.told in (omega arith, omega arith)) (at_set s.views id i w u eu);
            })
            (laws.fresh r.constant r.log e k p (ap (λ (l : List E). fin r.constant l k) (sym grows) ∙ fp))),
      ) in
      let other : (j : ℕ) (u : View E) → j ≢ id → get_elem? s.views j ≡ some u → 1 ≤ alive u.stage → (k : ℕ) → Owns u k → by e ≢ k =
      λ j u ne eu au k o q. (r.pairs id j v u at eu (λ z. ne (sym z))).1 lives au k (inl (sym q ∙ author)) o in
      let mine_not : (k : ℕ) → Has v k → by e ≢ k = λ k o q. f.own lives (subst (Has v) (sym q ∙ author) o) in
      let longer_made : (ks : List (Kin E)) → ((k : ℕ) → IsKin ks k → by e ≢ k) → Made by r.log ks → Made by log ks = λ ks ne a. subst (λ (l : List E). Made by l ks) (sym grows) (made_more by r.log e ks ne a) in
      let kept : Made by log v.kin = longer_made v.kin (λ k i. mine_not k (inr (inl i))) (f.kin lives).0 in (
        w,
        keeps,
        tt,
        moved s r id v w at (set s.words 2 ((word + 1) % 2 ^ 64)) s.homes r.drawn r.served log r.ends refl
            (ap (λ (ws : List ℕ). set ws 2 ((get_or ws 2 0 + 1) % 2 ^ 64)) r.words_are ∙ ap (λ (k : ℕ). (r.drawn % 2 ^ 64) ∷ (r.served % 2 ^ 64) ∷ k ∷ r.ends) (mod-eq_of_lt room' ∙ sym long))
            note_marks
            (omega arith) (subst (Authored by) (sym grows) (All-append (λ (e : E). by e < 2 ^ 32) r.log (e ∷ []) r.authors (All-cons (λ (e : E). by e < 2 ^ 32) e [] (subst (λ (n : ℕ). n < 2 ^ 32) (sym author) (f.range lives).0) (All-nil (λ (e : E). by e < 2 ^ 32)))))
            (omega arith) (subst (λ (z : Stage). load w ≤ alive z * (1 + (v.until - v.from))) (sym st) (le_refl _)) (λ _. lives) (λ k _ o. o) (λ _. refl)
            (inr (is_out s r id v at turns, (id, w, set_there s.views id v w at, refl)))
            record {
              front = ([], sym (append-nil log));
              told = longer_by v.told f.told;
              known = longer_by v.known f.known;
              ticket = λ _. f.ticket holds;
              turn = λ _. (t.0, refl);
              mine = λ _. (refl, refl);
              spare = λ _ k o. ap (of by k) grows ∙ of_snoc by k r.log e (λ q. f.own lives (subst (Has v) (sym q ∙ author) (inl o))) ∙ f.spare lives k o;
              kin = λ _. (kept, kept);
              guests = λ _. (longer_made v.guests (λ k i. mine_not k (inr (inr i))) (f.guests lives).0, (f.guests lives).1);
              range = λ _. f.range lives;
              own = λ _. f.own lives;
              fresh = λ _. f.fresh lives;
            }
            (λ j u ne eu g. record {
              front = (g.front.0 ++ e ∷ [], grows ∙ ap (λ (l : List E). l ++ e ∷ []) g.front.1 ∙ append_assoc u.seen g.front.0 (e ∷ []));
              told = longer_by u.told g.told;
              known = longer_by u.known g.known;
              ticket = g.ticket;
              turn = λ h. let hu : 1 ≤ holding u.stage = turn_holds u.stage h in absurd ((r.pairs id j v u at eu (λ z. ne (sym z))).0 holds hu (t.0 ∙ sym (g.turn h).0));
              mine = λ au. (ap (of by u.number) grows ∙ of_snoc by u.number r.log e (other j u ne eu au u.number (inl refl)) ∙ (g.mine au).0, (g.mine au).1);
              spare = λ au k o. ap (of by k) grows ∙ of_snoc by k r.log e (other j u ne eu au k (inr (inl o))) ∙ g.spare au k o;
              kin = λ au. (longer_made u.kin (λ k i. other j u ne eu au k (inr (inr (inl i)))) (g.kin au).0, (g.kin au).1);
              guests = λ au. (longer_made u.guests (λ k i. other j u ne eu au k (inr (inr (inr i)))) (g.guests au).0, (g.guests au).1);
              range = g.range;
              own = g.own;
              fresh = g.fresh;
            })
            (λ j u ne eu hw hu. (r.pairs id j v u at eu (λ q. ne (sym q))).0 holds hu),
        (refl, refl, m.1, kept),
      )

  pub passes : (n id : ℕ) (me : M) (x : T) → turning me.0.stage ≡ 1 → (noting me.0.stage ≡ 1 → (k : ℕ) → fin me.0.constant me.0.seen k ≡ Some me.0.place → is_in k me.0.marked ≡ true) → me.1 ≡ (0, Some x) ∷ [] → entries x ≡ me.0.seen → constant_of x ≡ me.0.constant
      → (y : ℕ) → Allows R n id me 1 (λ z. (z + 1) % 2 ^ 64) (λ z. passed (step n 1 1 0 none) me y)
  passes n id me x turns all has same alike y s r wide at _ = let v : View E = me.0 in let f = r.each id v at in let word : ℕ = get_or s.words 1 0 in
      let holds : 1 ≤ holding v.stage = holds_turn v.stage turns in let al : alive v.stage ≡ 1 = turn_alive v.stage turns in let lives : 1 ≤ alive v.stage = omega arith in
      let one : holding v.stage ≡ 1 = turn_one v.stage turns in let t = f.turn (turn_now v.stage (let g : 1 ≤ turning v.stage = omega arith in g)) in
      let w : View E = record v { stage = Idle; at = 0 } in let out = is_out s r id v at turns in
      let later : (j : ℕ) (u : View E) → j ≢ id → get_elem? s.views j ≡ some u → Fits by r.drawn r.served r.log u → 1 ≤ holding u.stage → r.served + 1 ≤ u.at =
      λ j u ne eu g hu. let a = (g.ticket hu).0 in let b : v.at ≢ u.at = (r.pairs id j v u at eu (λ q. ne (sym q))).0 holds hu in let c : v.at ≡ r.served = t.0 in omega arith in
      let pass_marks : (k : ℕ) → k < length r.ends → Marked (fin r.constant) (set s.views id w) r.log k (get_or r.ends k 0) = λ k h. let old = r.marks k h in (
        old.0,
        λ z p fp. let q = old.1 z p fp in absurd (dite (ℕ_discrete q.at id)
            (λ here. let e' : q.view ≡ v = some-injective q.view v (sym q.there ∙ ap (get_elem? s.views) here ∙ at) in let no' : is_in k v.marked ≡ false = subst (λ (u : View E). is_in k u.marked ≡ false) e' q.unmarked in
            let yes' : is_in k v.marked ≡ true = all (subst (λ (u : View E). noting u.stage ≡ 1) e' q.notes) k (ap (λ (c : ℕ). fin c v.seen k) (r.constants id v at lives) ∙ ap (λ (l : List E). fin r.constant l k) t.1 ∙ fp ∙ ap Some (sym q.place ∙ ap (λ (u : View E). u.place) e')) in
            let no'' : true ≡ false = sym yes' ∙ no' in cc)
            (λ other'. one_turning s r q.at id q.view v q.there at other' (note_turns q.view.stage q.notes) holds t.0)),
      ) in (
        w,
        gives,
        tt,
        moved s r id v w at (set s.words 1 ((word + 1) % 2 ^ 64)) (put_back s.homes me.1) r.drawn (r.served + 1) r.log r.ends refl
            (ap (λ (ws : List ℕ). set ws 1 ((get_or ws 1 0 + 1) % 2 ^ 64)) r.words_are ∙ ap (λ (k : ℕ). (r.drawn % 2 ^ 64) ∷ k ∷ length r.log ∷ r.ends) (next_mod r.served (2 ^ 64)))
            pass_marks r.short r.authors (omega arith) (subst (λ (n : ℕ). load w ≤ n * (1 + (v.until - v.from))) (sym al) (le_refl _)) (λ _. lives) (λ k _ o. o) (λ _. refl)
            (inl (
              x,
              ap (put_back s.homes) has ∙ ap (λ (hs : Homes). set hs 0 (some (Some x))) out,
              same ∙ t.1,
              λ j u e. ⊎_elim (λ q. subst (λ (z : View E). turning z.stage ≡ 0) q.1 refl)
                  (λ q. turn_zero u.stage (λ h'. let h = turn_now u.stage h' in (r.pairs id j v u at q.1 (λ z. q.0 (sym z))).0 holds (turn_holds u.stage h) (t.0 ∙ sym ((r.each j u q.1).turn h).0)))
                  (at_set s.views id j w u e),
              alike ∙ r.constants id v at lives,
            ))
            record { front = f.front; told = f.told; known = f.known; ticket = λ h. absurd (omega arith); turn = λ h. absurd (omega arith); mine = λ _. f.mine lives; spare = λ _. f.spare lives; kin = λ _. f.kin lives; guests = λ _. f.guests lives; range = λ _. f.range lives; own = λ _. f.own lives; fresh = λ _. f.fresh lives }
            (λ j u ne eu g. record {
              front = g.front;
              told = g.told;
              known = g.known;
              ticket = λ h. (later j u ne eu g h, (g.ticket h).1);
              turn = λ h. let hu : 1 ≤ holding u.stage = turn_holds u.stage h in absurd ((r.pairs id j v u at eu (λ z. ne (sym z))).0 holds hu (t.0 ∙ sym (g.turn h).0));
              mine = g.mine;
              spare = g.spare;
              kin = g.kin;
              guests = g.guests;
              range = g.range;
              own = g.own;
              fresh = g.fresh;
            })
            (λ j u ne eu hw _. absurd (omega arith)),
        (refl, refl),
      )

  -- the view with the turn gives the value back for good
  pub lays : (n id : ℕ) (me : M) (x : T) → me.0.stage ≡ Turn → me.1 ≡ (0, Some x) ∷ [] → entries x ≡ me.0.seen → constant_of x ≡ me.0.constant
      → (y : ℕ) → Allows R n id me 1 (λ z. z) (λ z. laid (step n 1 0 0 none) me y)
  lays n id me x st has same alike y s r wide at _ = let v : View E = me.0 in let f = r.each id v at in let word : ℕ = get_or s.words 1 0 in
      let holds : 1 ≤ holding v.stage = subst (λ (z : Stage). 1 ≤ holding z) (sym st) (le_refl 1) in let lives : 1 ≤ alive v.stage = subst (λ (z : Stage). 1 ≤ alive z) (sym st) (le_refl 1) in
      let turns : turning v.stage ≡ 1 = ap turning st in let one : holding v.stage ≡ 1 = ap holding st in let t = f.turn (turn_now v.stage (let g : 1 ≤ turning v.stage = omega arith in g)) in
      let w : View E = record v { stage = Last } in let out = is_out s r id v at turns in (
        w,
        gives,
        tt,
        moved s r id v w at (set s.words 1 word) (put_back s.homes me.1) r.drawn r.served r.log r.ends refl (ap (λ (ws : List ℕ). set ws 1 (get_or ws 1 0)) r.words_are) (marks_same s r id v w at (ap noting st) refl refl)
            r.short r.authors (omega arith) (subst (λ (z : Stage). load w ≤ alive z * (1 + (v.until - v.from))) (sym st) (le_refl _)) (λ _. lives) (λ k _ o. o) (λ _. refl)
            (inl (
              x,
              ap (put_back s.homes) has ∙ ap (λ (hs : Homes). set hs 0 (some (Some x))) out,
              same ∙ t.1,
              λ j u e. ⊎_elim (λ q. subst (λ (z : View E). turning z.stage ≡ 0) q.1 refl)
                  (λ q. turn_zero u.stage (λ h'. let h = turn_now u.stage h' in (r.pairs id j v u at q.1 (λ z. q.0 (sym z))).0 holds (turn_holds u.stage h) (t.0 ∙ sym ((r.each j u q.1).turn h).0)))
                  (at_set s.views id j w u e),
              alike ∙ r.constants id v at lives,
            ))
            record { front = f.front; told = f.told; known = f.known; ticket = λ _. f.ticket holds; turn = λ _. t; mine = λ _. f.mine lives; spare = λ _. f.spare lives; kin = λ _. f.kin lives; guests = λ _. f.guests lives; range = λ _. f.range lives; own = λ _. f.own lives; fresh = λ _. f.fresh lives }
            (λ j u ne eu g. g)
            (λ j u ne eu hw hu. (r.pairs id j v u at eu (λ q. ne (sym q))).0 holds hu),
        (refl, refl),
      )

  -- at the end the value is at home, and stands for the history
  pub ends_whole : (id : ℕ) (v : View E) → v.stage ≡ Last → (ws : List ℕ) (xs : List (Option T)) → Final (Seen R id v) ws xs
      → (x : T) × (get_elem? xs 0 ≡ some (Some x)) × (entries x ≡ v.seen) × (of by v.number v.seen ≡ v.mine) × (constant_of x ≡ v.constant) × Made by v.seen v.kin
  ends_whole id v st ws xs end = let s = end.0 in let r = end.1.0 in let at = end.1.1 in let f = r.each id v at in
      let now : 1 ≤ served_now v.stage = subst (λ (z : Stage). 1 ≤ served_now z) (sym st) (le_refl 1) in let t = f.turn now in
      let lives : 1 ≤ alive v.stage = subst (λ (z : Stage). 1 ≤ alive z) (sym st) (le_refl 1) in
      let h = is_home s r id v at (turn_holds v.stage now) (ap turning st) t.0 in
      (h.0, end.4 0 (Some h.0) (ap (λ (hs : Homes). get_elem? hs 0) h.1), h.2 ∙ sym t.1, (f.mine lives).1, h.4 ∙ sym (r.constants id v at lives), (f.kin lives).1)

  set_four : (a b c k n : ℕ) (es : List ℕ) → set (a ∷ b ∷ c ∷ es) (k + 3) n ≡ a ∷ b ∷ c ∷ set es k n
  set_four a b c k n es = ap (λ (i : ℕ). set (a ∷ b ∷ c ∷ es) i n) (let g : k + 3 ≡ suc (suc (suc k)) = omega arith in g)

  get_four : (a b c k : ℕ) (es : List ℕ) → get_or (a ∷ b ∷ c ∷ es) (k + 3) 0 ≡ get_or es k 0
  get_four a b c k es = ap (λ (i : ℕ). get_or (a ∷ b ∷ c ∷ es) i 0) (let g : k + 3 ≡ suc (suc (suc k)) = omega arith in g)

  -- the end of the word k is marked after it was noted
  pub marks_one : (n id : ℕ) (me : M) (k : ℕ) → me.0.stage ≡ Noted → fin me.0.constant me.0.seen k ≡ Some me.0.place
      → (y : ℕ) → Allows R n id me (k + 3) (λ _. me.0.place + 1) (λ _. marked_one (step n (k + 3) (me.0.place + 1) 0 none) me y)
  marks_one n id me k st ends y s r wide at _ = let v : View E = me.0 in let f = r.each id v at in let new : ℕ = v.place + 1 in
      let holds : 1 ≤ holding v.stage = subst (λ (z : Stage). 1 ≤ holding z) (sym st) (le_refl 1) in let turns : turning v.stage ≡ 1 = ap turning st in let lives : 1 ≤ alive v.stage = subst (λ (z : Stage). 1 ≤ alive z) (sym st) (le_refl 1) in
      let t = f.turn (turn_now v.stage (let g : 1 ≤ turning v.stage = omega arith in g)) in let one : noting v.stage ≡ 1 = ap noting st in
      let ended : fin r.constant v.seen k ≡ Some v.place = ap (λ (c : ℕ). fin c v.seen k) (sym (r.constants id v at lives)) ∙ ends in
      let w : View E = record v { marked = (k + 3 - 3) ∷ v.marked } in let back : k + 3 - 3 ≡ k = omega arith in
      let marks' : (i : ℕ) → i < length (set r.ends k new) → Marked (fin r.constant) (set s.views id w) r.log i (get_or (set r.ends k new) i 0) = λ i h. let h' : i < length r.ends = subst (λ (m : ℕ). i < m) (length-set r.ends k new) h in
      dite (ℕ_discrete i k)
      (λ here. let g : get_or (set r.ends k new) i 0 ≡ new = ap (λ (j : ℕ). get_or (set r.ends k new) j 0) here ∙ get_or-set_same r.ends k new 0 (subst (λ (j : ℕ). j < length r.ends) here h') in
      ((λ _. ap (λ (l : List E). fin r.constant l i) (sym t.1) ∙ ap (fin r.constant v.seen) here ∙ ended ∙ ap Some (let q : v.place ≡ new - 1 = omega arith in q ∙ ap (λ (j : ℕ). j - 1) (sym g))), λ z. absurd (omega arith)))
      (λ other'. let g : get_or (set r.ends k new) i 0 ≡ get_or r.ends i 0 = get_or-set_other r.ends k i new 0 other' in let old = r.marks i h' in
      subst (Marked (fin r.constant) (set s.views id w) r.log i) (sym g) (
        old.0,
        λ z p fp. let q = old.1 z p fp in dite (ℕ_discrete q.at id)
            (λ me'. let e' : q.view ≡ v = some-injective q.view v (sym q.there ∙ ap (get_elem? s.views) me' ∙ at) in record {
              at = id;
              view = w;
              there = set_there s.views id v w at;
              notes = one;
              place = sym (ap (λ (u : View E). u.place) e') ∙ q.place;
              unmarked = ap (λ (b : Bool). b || is_in i v.marked) (ne_eqb i (k + 3 - 3) (λ x. other' (x ∙ back))) ∙ subst (λ (u : View E). is_in i u.marked ≡ false) e' q.unmarked;
              unseen = λ j u ne eu. ⊎_elim (λ x. absurd (ne x.0)) (λ x. q.unseen j u (λ z'. ne (z' ∙ me')) x.1) (at_set s.views id j w u eu);
            })
            (λ no'. absurd (one_turning s r q.at id q.view v q.there at no' (note_turns q.view.stage q.notes) holds t.0)),
      )) in (
        w,
        keeps,
        tt,
        moved s r id v w at (set s.words (k + 3) new) s.homes r.drawn r.served r.log (set r.ends k new) (length-set r.ends k new)
            (ap (λ (ws : List ℕ). set ws (k + 3) new) r.words_are ∙ set_four (r.drawn % 2 ^ 64) (r.served % 2 ^ 64) (length r.log) k new r.ends) marks' r.short r.authors (omega arith) (le_refl _) (λ a. a) (λ i _ o. o) (λ _. refl)
            (home_stays r.constant s.views r.log s.homes id v w at refl r.home)
            record { front = f.front; told = f.told; known = f.known; ticket = f.ticket; turn = f.turn; mine = f.mine; spare = f.spare; kin = f.kin; guests = f.guests; range = f.range; own = f.own; fresh = f.fresh } (λ j u ne e g. g)
            (λ j u ne e hw hu. (r.pairs id j v u at e (λ q. ne (sym q))).0 holds hu),
        (refl, refl),
      )

  -- what an end word tells without the lock
  pub loads : (n id : ℕ) (me : M) (k : ℕ) → me.0.stage ≡ Idle → (s : St) → (r : R s) → k < length r.ends → length s.homes ≡ n → get_elem? s.views id ≡ some me.0
      → Goes s (k + 3) id me (loaded fin (step n (k + 3) 0 0 none) me) (get_or s.words (k + 3) 0)
  loads n id me k st s r near wide at = let v : View E = me.0 in let f = r.each id v at in let word : ℕ = get_or s.words (k + 3) 0 in let back : k + 3 - 3 ≡ k = omega arith in let told = loaded fin (step n (k + 3) 0 0 none) me in
      let idle : holding v.stage ≡ 0 = ap holding st in let lives : 1 ≤ alive v.stage = subst (λ (z : Stage). 1 ≤ alive z) (sym st) (le_refl 1) in let same_constant : v.constant ≡ r.constant = r.constants id v at lives in
      let found : word ≡ get_or r.ends k 0 = ap (λ (ws : List ℕ). get_or ws (k + 3) 0) r.words_are ∙ get_four (r.drawn % 2 ^ 64) (r.served % 2 ^ 64) (length r.log) k r.ends in
      let m = r.marks k near in
      let same_words : set s.words (k + 3) word ≡ s.words = set_same s.words (k + 3) in
      let goes : (w : View E) → w.stage ≡ v.stage → w.seen ≡ v.seen → w.told ≡ v.told → load w ≤ load v → (1 ≤ alive w.stage → 1 ≤ alive v.stage) → ((i : ℕ) → 1 ≤ alive w.stage → Owns w i → Owns v i) → (1 ≤ alive w.stage → w.constant ≡ v.constant) → Fits by r.drawn r.served r.log w
      → told word (w, me.1) → Goes s (k + 3) id me told word = λ w ws wn wt wl wa wo wc wf wtold. (
        w,
        keeps,
        tt,
        moved s r id v w at (set s.words (k + 3) word) s.homes r.drawn r.served r.log r.ends refl (same_words ∙ r.words_are)
            (marks_same s r id v w at (ap noting st) wn wt) r.short r.authors
            (let g : holding w.stage ≡ holding v.stage = ap holding ws in omega arith) wl wa wo wc (home_stays r.constant s.views r.log s.homes id v w at (ap turning ws) r.home) wf (λ j u ne e g. g)
            (λ j u ne e hw hu. let g : holding w.stage ≡ holding v.stage = ap holding ws in absurd (omega arith)),
        wtold,
      ) in
      dite (ℕ_discrete word 0)
      (λ zero'. goes v refl refl refl (le_refl _) (λ a. a) (λ i _ o. o) (λ _. refl) f (
        (λ nz. absurd (nz zero')),
        (λ _. (
          refl,
          ap (fin v.constant v.seen) back ∙ unseen (fin v.constant v.seen k) (λ p e. let here : fin r.constant v.seen k ≡ Some p = ap (λ (c : ℕ). fin c v.seen k) (sym same_constant) ∙ e in
              let log' : fin r.constant r.log k ≡ Some p = ap (λ (l : List E). fin r.constant l k) f.front.1 ∙ laws.stays r.constant v.seen f.front.0 k p here in
              let q = m.1 (sym found ∙ zero') p log' in let ne : id ≢ q.at = λ x. let e' : v ≡ q.view = some-injective v q.view (sym at ∙ ap (get_elem? s.views) x ∙ q.there) in let a : noting v.stage ≡ noting q.view.stage = ap (λ (u : View E). noting u.stage) e' in
              let b : noting v.stage ≡ 0 = ap noting st in let c : noting q.view.stage ≡ 1 = q.notes in omega arith in
              let low : length v.seen ≤ p = (q.unseen id v ne at).0 in let high : p < length v.seen = laws.within r.constant v.seen k p here in omega arith),
        )),
        refl,
      ))
      (λ more. goes (record v { known = r.log }) refl refl refl (le_refl _) (λ a. a) (λ i _ o. o) (λ _. refl)
      record { front = f.front; told = f.told; known = ([], sym (append-nil r.log)); ticket = f.ticket; turn = f.turn; mine = f.mine; spare = f.spare; kin = f.kin; guests = f.guests; range = f.range; own = f.own; fresh = f.fresh }
      ((λ _. (refl, ap (fin v.constant r.log) back ∙ ap (λ (c : ℕ). fin c r.log k) same_constant ∙ m.0 (λ z. more (found ∙ z)) ∙ ap (λ (j : ℕ). Some (j - 1)) (sym found))), (λ z. absurd (more z)), refl))
