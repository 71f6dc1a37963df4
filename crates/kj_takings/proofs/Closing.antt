-- Taking, and closing, of worlds that are alike.
use Rattle.std.proofs.Common.{◌≡◌, ◌∙◌, refl, sym, ap, subst, ℕ, ◌<◌, List, [], ◌∷◌, Bool, true, false, ◌||◌, ◌&&◌, ◌==◌, Option, None, Some, arith, reverse}
use Rattle.std.specs.Prelude.{is_some, nat_eq, filter, not, cond}
use Rattle.std.proofs.lemmas.Bool.{false≢true}
use Rattle.std.proofs.lemmas.Bool.Decides.{nat_tests}
use Rattle.kj_model.specs.World.{World, State, Named, Held, Promise, CellOf, AskCell, HubOf, Group, Canceler, RequestOf, Asked, Ended, held_at}
use Rattle.kj_model.specs.Changes.{silent, unnamed, without_name, with_new}
use Rattle.kj_model.specs.Free.{Holding, Every, free, each_freed, reference_gone}
use Rattle.kj_model.specs.Effects.{hub_unnamed}
use Rattle.kj_model.specs.Calls.{closed_held, each_closed, hubs_of, hubs_closed, detached_closed, names_closed, left_over_closed, close, ask_taken_in, take_ask_of, take_ended_of, take_abandoned_of}
use Rattle.kj_ownership.specs.Kept.{is_spent}
use Rattle.kj_takings.specs.Alike.{Lists, with_lists, as_taken, name_as_taken, firm_names, AllAbove, AreRising, LooseAreSpent, Sorted, Alike}
use Rattle.kj_takings.specs.Calls.{firmed, loosened, loosened_by, first_request, first_cell}
use Rattle.kj_takings.proofs.Names.{found_taken, firm_loose, firm_kept, firm_without, sorted_without, length_without, absent_without, sorted_with, firm_with, firm_with_loose, held_firm, held_spent, firm_no_loose, named_again, rising_firm, same_name}
use Rattle.kj_takings.proofs.Worlds.{Near, read_alike, unnamed_near}
use Rattle.kj_takings.proofs.Calm.{Same, Tame, tame_none, tame_then, tame_read, tame_world}
use Rattle.kj_takings.proofs.Frees.{each_tame, reference_tame, free_tame}
use Rattle.kj_takings.proofs.Effects.{hub_near}
use Rattle.kj_takings.proofs.Refusals.{same_back}

-- one side has other lists
pub relisted : (loose : ℕ → Bool) (l : Lists) (w v : World) → firm_names loose l.names ≡ firm_names loose w.names → Sorted loose l.names → Alike loose w v → Alike loose (with_lists l w) v
relisted loose l w v e s a = record {
  lists = a.lists;
  seen = a.seen;
  same = a.same ∙ sym e;
  left = s;
  right = a.right;
  awaited = a.awaited;
}

near_itself : (loose : ℕ → Bool) (k : ℕ) (w v : World) → Near loose k w v → Near loose k v v
near_itself loose k w v r = record {
  alike = record {
    lists = record { names = v.names; asks = v.asks; ended = v.ended; abandoned = v.abandoned };
    seen = refl;
    same = refl;
    left = r.alike.right;
    right = r.alike.right;
    awaited = λ a e. r.alike.awaited a (read_alike loose k (λ u. u.awaited) w v (λ l u. refl) r ∙ e);
  };
  left = r.right;
  right = r.right;
}

near_both : (loose : ℕ → Bool) (k : ℕ) (u v w : World) → Near loose k u v → Near loose k v w → Near loose k u w
near_both loose k u v w a b = record {
  alike = record {
    lists = b.alike.lists;
    seen = b.alike.seen ∙ ap (with_lists b.alike.lists) a.alike.seen;
    same = b.alike.same ∙ a.alike.same;
    left = a.alike.left;
    right = b.alike.right;
    awaited = a.alike.awaited;
  };
  left = a.left;
  right = b.right;
}

same_both : (loose : ℕ → Bool) (k : ℕ) (s t u : State) → Same loose k s t → Same loose k t u → Same loose k s u
same_both loose k s t u a b = record { world = near_both loose k s.world t.world u.world a.world b.world; past = b.past ∙ a.past }

-- a loose name goes on one side
loose_gone : (loose : ℕ → Bool) (c k : ℕ) (w v : World) → loose c ≡ true → Near loose k w v → Near loose k (unnamed c w) v
loose_gone loose c k w v l r =
    let m = length_without c w.names in
    let p = r.left in
    record {
      alike = relisted loose (record { names = without_name c w.names; asks = w.asks; ended = w.ended; abandoned = w.abandoned }) w v (firm_without loose c w.names ∙ firm_no_loose loose c w.names l) (sorted_without loose c w.names r.alike.left) r.alike;
      left = omega (arith, m, p);
      right = r.right;
    }

-- what a name holds is closed
held_tame : (loose : ℕ → Bool) (h : Held) → Tame loose (closed_held h)
held_tame loose (Promise root) = free_tame loose (Holding []) root
held_tame loose (CellOf cell) = tame_none loose
held_tame loose (AskCell cell is_taken) = tame_none loose
held_tame loose (HubOf hub) = tame_then loose (silent (hub_unnamed hub)) (reference_gone (Holding []) (free (Holding [])) hub) (tame_world loose (hub_unnamed hub) (hub_near loose hub)) (reference_tame loose (Holding []) (free (Holding [])) (free_tame loose (Holding [])) hub)
held_tame loose (Group error tasks empty) = each_tame loose (free (Holding [])) (free_tame loose (Holding [])) (reverse tasks)
held_tame loose (Canceler wraps) = tame_none loose
held_tame loose (RequestOf None) = tame_none loose
held_tame loose (RequestOf (Some node)) = free_tame loose (Holding []) node

held_untold : (h : Held) (s : State) → closed_held (as_taken h) s ≡ closed_held h s
held_untold (AskCell cell is_taken) s = refl
held_untold (Promise root) s = refl
held_untold (CellOf cell) s = refl
held_untold (HubOf hub) s = refl
held_untold (Group error tasks empty) s = refl
held_untold (Canceler wraps) s = refl
held_untold (RequestOf None) s = refl
held_untold (RequestOf (Some node)) s = refl

spent_closed : (h : Held) (s : State) → is_spent (Some h) ≡ true → closed_held h s ≡ s
spent_closed (AskCell cell is_taken) s e = refl
spent_closed (RequestOf None) s e = refl
spent_closed (RequestOf (Some node)) s e = absurd (false≢true e)
spent_closed (Promise root) s e = absurd (false≢true e)
spent_closed (CellOf cell) s e = absurd (false≢true e)
spent_closed (HubOf hub) s e = absurd (false≢true e)
spent_closed (Group error tasks empty) s e = absurd (false≢true e)
spent_closed (Canceler wraps) s e = absurd (false≢true e)

-- all names, against the firm ones
abbrev ClosedFirm : (ℕ → Bool) → List Named → Type 0
ClosedFirm loose xs = (k : ℕ) (s t : State) → Same loose k s t → Same loose k (each_closed xs s) (each_closed (firm_names loose xs) t)

closed_more : (loose : ℕ → Bool) (x : Named) (xs : List Named) → (loose x.name ≡ true → is_spent (Some x.held) ≡ true) → ClosedFirm loose xs → ClosedFirm loose (x ∷ xs)
closed_more loose x xs spent ih k s t r = decide (loose x.name) refl
  where
    decide : (b : Bool) → loose x.name ≡ b → Same loose k (each_closed (x ∷ xs) s) (each_closed (firm_names loose (x ∷ xs)) t)
    decide true e =
        let u = silent (unnamed x.name) s in
        let n : Same loose k u t = record { world = loose_gone loose x.name k s.world t.world e r.world; past = r.past } in
        let y = subst (λ (z : State). Same loose k z t) (sym (spent_closed x.held u (spent e))) n in
        subst (λ (ys : List Named). Same loose k (each_closed (x ∷ xs) s) (each_closed ys t)) (sym (firm_loose loose x xs e)) (ih k (closed_held x.held u) t y)
    decide false e =
        let u = silent (unnamed x.name) s in
        let v = silent (unnamed x.name) t in
        let n = tame_world loose (unnamed x.name) (unnamed_near loose x.name) k s t r in
        let y = subst (Same loose k (closed_held x.held u)) (sym (held_untold x.held v)) (held_tame loose x.held k u v n) in
        subst (λ (ys : List Named). Same loose k (each_closed (x ∷ xs) s) (each_closed ys t)) (sym (firm_kept loose x xs e)) (ih k (closed_held x.held u) (closed_held (as_taken x.held) v) y)

closed_firm : (loose : ℕ → Bool) (xs : List Named) → LooseAreSpent loose xs → ClosedFirm loose xs
closed_firm loose [] h = λ k s t r. r
closed_firm loose (x ∷ xs) h = closed_more loose x xs h.0 (closed_firm loose xs h.1)

names_tame : (loose : ℕ → Bool) → Tame loose names_closed
names_tame loose k s t r =
    let fs = firm_names loose s.world.names in
    let here = closed_firm loose s.world.names r.world.alike.left.spent k s t r in
    let self : Same loose k t t = record { world = near_itself loose k s.world t.world r.world; past = refl } in
    let there = closed_firm loose t.world.names r.world.alike.right.spent k t t self in
    same_both loose k (names_closed s) (each_closed fs t) (names_closed t) here (subst (λ (ys : List Named). Same loose k (each_closed ys t) (names_closed t)) r.world.alike.same (same_back loose k (names_closed t) (each_closed (firm_names loose t.world.names) t) there))

-- the closing
left_tame : (loose : ℕ → Bool) → Tame loose left_over_closed
left_tame loose = tame_read loose (λ w. w.left_over) (λ ns. each_freed (free (Holding [])) ns) (λ l w. refl) (λ ns. each_tame loose (free (Holding [])) (free_tame loose (Holding [])) ns)

detached_tame : (loose : ℕ → Bool) → Tame loose detached_closed
detached_tame loose = tame_read loose (λ w. reverse w.detached) (λ ns. each_freed (free (Holding [])) ns) (λ l w. refl) (λ ns. each_tame loose (free (Holding [])) (free_tame loose (Holding [])) ns)

hubs_tame : (loose : ℕ → Bool) → Tame loose hubs_closed
hubs_tame loose = tame_read loose (λ w. hubs_of w.nodes) (λ ns. each_freed (free Every) ns) (λ l w. refl) (λ ns. each_tame loose (free Every) (free_tame loose Every) ns)

pub close_tame : (loose : ℕ → Bool) → Tame loose close
close_tame loose k s t r =
    let a = left_tame loose k s t r in
    let b = names_tame loose k (left_over_closed s) (left_over_closed t) a in
    let c = detached_tame loose k (names_closed (left_over_closed s)) (names_closed (left_over_closed t)) b in
    hubs_tame loose k (detached_closed (names_closed (left_over_closed s))) (detached_closed (names_closed (left_over_closed t))) c

-- one name more is loose
self_name : (n : ℕ) → nat_eq n n ≡ true
self_name n = grind (arith, nat_tests)

loose_more : (b : Bool) (loose : ℕ → Bool) (n : ℕ) → loose n ≡ true → b || loose n ≡ true
loose_more true loose n e = refl
loose_more false loose n e = e

firm_loosened : (c : ℕ) (loose : ℕ → Bool) (xs : List Named) → firm_names (loosened c loose) xs ≡ without_name c (firm_names loose xs)
firm_loosened c loose [] = refl
firm_loosened c loose (x ∷ xs) = decide (nat_eq x.name c) (loose x.name) refl refl (firm_loosened c loose xs)
  where
    here : (b : Bool) → nat_eq x.name c ≡ b → without_name c (name_as_taken x ∷ firm_names loose xs) ≡ cond (not b) (name_as_taken x ∷ without_name c (firm_names loose xs)) (without_name c (firm_names loose xs))
    here b e = ap (λ (a : Bool). cond (not a) (name_as_taken x ∷ without_name c (firm_names loose xs)) (without_name c (firm_names loose xs))) e

    decide : (b l : Bool) → nat_eq x.name c ≡ b → loose x.name ≡ l → firm_names (loosened c loose) xs ≡ without_name c (firm_names loose xs) → firm_names (loosened c loose) (x ∷ xs) ≡ without_name c (firm_names loose (x ∷ xs))
    decide true true e h ih = firm_loose (loosened c loose) x xs (ap (λ (b : Bool). b || loose x.name) e) ∙ ih ∙ ap (without_name c) (sym (firm_loose loose x xs h))
    decide true false e h ih = firm_loose (loosened c loose) x xs (ap (λ (b : Bool). b || loose x.name) e) ∙ ih ∙ sym (here true e) ∙ ap (without_name c) (sym (firm_kept loose x xs h))
    decide false true e h ih = firm_loose (loosened c loose) x xs (ap (λ (b : Bool). b || loose x.name) e ∙ h) ∙ ih ∙ ap (without_name c) (sym (firm_loose loose x xs h))
    decide false false e h ih = firm_kept (loosened c loose) x xs (ap (λ (b : Bool). b || loose x.name) e ∙ h) ∙ ap (λ ys. name_as_taken x ∷ ys) ih ∙ sym (here false e) ∙ ap (without_name c) (sym (firm_kept loose x xs h))

spent_loosened : (c : ℕ) (loose : ℕ → Bool) (xs : List Named) → AreRising xs → is_spent (held_at c xs) ≡ true → LooseAreSpent loose xs → LooseAreSpent (loosened c loose) xs
spent_loosened c loose [] r e h = tt
spent_loosened c loose (x ∷ xs) r e h = decide (nat_eq x.name c) refl (spent_loosened c loose xs r.1)
  where
    at_or : Bool → Option Held
    at_or true = Some x.held
    at_or false = held_at c xs

    held_is : (b : Bool) → nat_eq x.name c ≡ b → held_at c (x ∷ xs) ≡ at_or b
    held_is true d = rw d refl
    held_is false d = rw d refl

    none_above : (n : ℕ) (ys : List Named) → AllAbove n ys → held_at n ys ≡ None
    none_above n [] a = refl
    none_above n (y ∷ ys) a = later (nat_eq y.name n) refl (none_above n ys a.1)
      where
        apart : nat_eq y.name n ≡ true → n < y.name → ⊥
        apart d l = absurd (grind (arith, nat_tests))

        later : (b : Bool) → nat_eq y.name n ≡ b → held_at n ys ≡ None → held_at n (y ∷ ys) ≡ None
        later true d ih = absurd (apart d a.0)
        later false d ih = rw d ih

    decide : (b : Bool) → nat_eq x.name c ≡ b → (is_spent (held_at c xs) ≡ true → LooseAreSpent loose xs → LooseAreSpent (loosened c loose) xs) → LooseAreSpent (loosened c loose) (x ∷ xs)
    decide true d ih =
        let above = subst (λ (n : ℕ). AllAbove n xs) (same_name x.name c d) r.0 in
        (λ l. ap is_spent (sym (held_is true d)) ∙ e, ih (ap is_spent (none_above c xs above)) h.1)
    decide false d ih = (λ l. h.0 (sym (ap (λ (b : Bool). b || loose x.name) d) ∙ l), ih (ap is_spent (sym (held_is false d)) ∙ e) h.1)

spent_taken : (h : Option Held) → is_spent (found_taken h) ≡ is_spent h
spent_taken None = refl
spent_taken (Some (Promise root)) = refl
spent_taken (Some (CellOf cell)) = refl
spent_taken (Some (AskCell cell is_taken)) = refl
spent_taken (Some (HubOf hub)) = refl
spent_taken (Some (Group error tasks empty)) = refl
spent_taken (Some (Canceler wraps)) = refl
spent_taken (Some (RequestOf None)) = refl
spent_taken (Some (RequestOf (Some node))) = refl

spent_too : (loose : ℕ → Bool) (c : ℕ) (w v : World) → Alike loose w v → is_spent (held_at c w.names) ≡ true → is_spent (held_at c v.names) ≡ true
spent_too loose c w v a e = decide (loose c) refl
  where
    decide : (b : Bool) → loose c ≡ b → is_spent (held_at c v.names) ≡ true
    decide true l = held_spent loose c v.names l a.right.spent
    decide false l = sym (spent_taken (held_at c v.names)) ∙ ap is_spent (sym (held_firm loose c v.names l) ∙ ap (held_at c) a.same ∙ held_firm loose c w.names l) ∙ spent_taken (held_at c w.names) ∙ e

pub widened : (loose : ℕ → Bool) (c : ℕ) (w v : World) → is_spent (held_at c w.names) ≡ true → w.awaited ≡ None → Alike loose w v → Alike (loosened c loose) w v
widened loose c w v e none a = record {
  lists = a.lists;
  seen = a.seen;
  same = firm_loosened c loose v.names ∙ ap (without_name c) a.same ∙ sym (firm_loosened c loose w.names);
  left = record { spent = spent_loosened c loose w.names a.left.rising e a.left.spent; rising = a.left.rising };
  right = record { spent = spent_loosened c loose v.names a.right.rising (spent_too loose c w v a e) a.right.spent; rising = a.right.rising };
  awaited = λ b h. absurd (false≢true (ap is_some (sym none ∙ h)));
}

-- an ask is taken on one side
ask_case : (loose : ℕ → Bool) (c : ℕ) (h : Option Held) (more : List Asked) (w v : World) → held_at c w.names ≡ h → Alike loose w v → Alike loose (ask_taken_in c h (record w { asks = more })) v
ask_case loose c None more w v e a = relisted loose (record { names = w.names; asks = more; ended = w.ended; abandoned = w.abandoned }) w v refl a.left a
ask_case loose c (Some (AskCell cell is_taken)) more w v e a =
    let x : Named = record { name = c; held = AskCell cell true } in
    let less = sorted_without loose c w.names a.left in
    relisted loose (record { names = with_new x (without_name c w.names); asks = more; ended = w.ended; abandoned = w.abandoned }) w v (firm_same (loose c) refl) (sorted_with loose x (without_name c w.names) (λ l. refl) (absent_without c w.names) less) a
  where
    firm_same : (b : Bool) → loose c ≡ b → firm_names loose (with_new (record { name = c; held = AskCell cell true }) (without_name c w.names)) ≡ firm_names loose w.names
    firm_same true l = firm_with_loose loose (record { name = c; held = AskCell cell true }) (without_name c w.names) l ∙ firm_without loose c w.names ∙ firm_no_loose loose c w.names l
    firm_same false l =
        let x : Named = record { name = c; held = AskCell cell true } in
        firm_with loose x (without_name c w.names) l (sorted_without loose c w.names a.left).rising
        ∙ ap (with_new x) (firm_without loose c w.names)
        ∙ named_again c (AskCell cell true) (firm_names loose w.names) (rising_firm loose w.names a.left.rising) (held_firm loose c w.names l ∙ ap found_taken e)
ask_case loose c (Some (Promise root)) more w v e a = relisted loose (record { names = w.names; asks = more; ended = w.ended; abandoned = w.abandoned }) w v refl a.left a
ask_case loose c (Some (CellOf cell)) more w v e a = relisted loose (record { names = w.names; asks = more; ended = w.ended; abandoned = w.abandoned }) w v refl a.left a
ask_case loose c (Some (HubOf hub)) more w v e a = relisted loose (record { names = w.names; asks = more; ended = w.ended; abandoned = w.abandoned }) w v refl a.left a
ask_case loose c (Some (Group error tasks empty)) more w v e a = relisted loose (record { names = w.names; asks = more; ended = w.ended; abandoned = w.abandoned }) w v refl a.left a
ask_case loose c (Some (Canceler wraps)) more w v e a = relisted loose (record { names = w.names; asks = more; ended = w.ended; abandoned = w.abandoned }) w v refl a.left a
ask_case loose c (Some (RequestOf request)) more w v e a = relisted loose (record { names = w.names; asks = more; ended = w.ended; abandoned = w.abandoned }) w v refl a.left a

pub ask_alike : (loose : ℕ → Bool) (asks : List Asked) (w v : World) → Alike loose w v → Alike loose (take_ask_of asks w).0 v
ask_alike loose [] w v a = a
ask_alike loose (x ∷ more) w v a = ask_case loose x.cell (held_at x.cell w.names) more w v refl a

-- a name goes with what was taken
goes_alike : (loose : ℕ → Bool) (c : ℕ) (asks : List Asked) (ended : List Ended) (abandoned : List ℕ) (w v : World) → is_spent (held_at c w.names) ≡ true → w.awaited ≡ None → Alike loose w v → Alike (loosened c loose) (with_lists (record { names = without_name c w.names; asks = asks; ended = ended; abandoned = abandoned }) w) v
goes_alike loose c asks ended abandoned w v e none a =
    let x = widened loose c w v e none a in
    let l : loosened c loose c ≡ true = ap (λ (b : Bool). b || loose c) (self_name c) in
    relisted (loosened c loose) (record { names = without_name c w.names; asks = asks; ended = ended; abandoned = abandoned }) w v (firm_without (loosened c loose) c w.names ∙ firm_no_loose (loosened c loose) c w.names l) (sorted_without (loosened c loose) c w.names x.left) x

pub ended_alike : (loose : ℕ → Bool) (ended : List Ended) (w v : World) → ((e : Ended) (more : List Ended) → ended ≡ e ∷ more → is_spent (held_at e.request w.names) ≡ true) → w.awaited ≡ None → Alike loose w v → Alike (loosened_by (first_request ended) loose) (take_ended_of ended w).0 v
ended_alike loose [] w v h none a = a
ended_alike loose (e ∷ more) w v h none a = goes_alike loose e.request w.asks more w.abandoned w v (h e more refl) none a

pub abandoned_alike : (loose : ℕ → Bool) (cells : List ℕ) (w v : World) → ((c : ℕ) (more : List ℕ) → cells ≡ c ∷ more → is_spent (held_at c w.names) ≡ true) → w.awaited ≡ None → Alike loose w v → Alike (loosened_by (first_cell cells) loose) (take_abandoned_of cells w).0 v
abandoned_alike loose [] w v h none a = a
abandoned_alike loose (c ∷ more) w v h none a = goes_alike loose c (filter (λ (x : Asked). not (x.cell == c)) w.asks) w.ended more w v (h c more refl) none a

-- a name that is in neither is firm
firm_firmed : (c : ℕ) (loose : ℕ → Bool) (xs : List Named) → held_at c xs ≡ None → firm_names (firmed c loose) xs ≡ firm_names loose xs
firm_firmed c loose [] e = refl
firm_firmed c loose (x ∷ xs) e = decide (nat_eq x.name c) (loose x.name) refl refl (firm_firmed c loose xs)
  where
    found : nat_eq x.name c ≡ true → Some x.held ≡ None
    found d = sym (rw d refl) ∙ e

    later : nat_eq x.name c ≡ false → held_at c xs ≡ None
    later d = sym (rw d refl) ∙ e

    decide : (b l : Bool) → nat_eq x.name c ≡ b → loose x.name ≡ l → (held_at c xs ≡ None → firm_names (firmed c loose) xs ≡ firm_names loose xs) → firm_names (firmed c loose) (x ∷ xs) ≡ firm_names loose (x ∷ xs)
    decide true l d h ih = absurd (false≢true (sym (ap is_some (found d))))
    decide false true d h ih = firm_loose (firmed c loose) x xs (ap (λ (b : Bool). not b && loose x.name) d ∙ h) ∙ ih (later d) ∙ sym (firm_loose loose x xs h)
    decide false false d h ih = firm_kept (firmed c loose) x xs (ap (λ (b : Bool). not b && loose x.name) d ∙ h) ∙ ap (λ ys. name_as_taken x ∷ ys) (ih (later d)) ∙ sym (firm_kept loose x xs h)

less_loose : (a b : Bool) → not a && b ≡ true → b ≡ true
less_loose false b e = e
less_loose true b e = absurd (false≢true e)

spent_firmed : (c : ℕ) (loose : ℕ → Bool) (xs : List Named) → LooseAreSpent loose xs → LooseAreSpent (firmed c loose) xs
spent_firmed c loose [] h = tt
spent_firmed c loose (x ∷ xs) h = (λ l. h.0 (less_loose (nat_eq x.name c) (loose x.name) l), spent_firmed c loose xs h.1)

firm_awaited : (a b : Bool) → b ≡ false → not a && b ≡ false
firm_awaited true b e = refl
firm_awaited false b e = e

pub narrowed : (loose : ℕ → Bool) (c : ℕ) (w v : World) → held_at c w.names ≡ None → held_at c v.names ≡ None → Alike loose w v → Alike (firmed c loose) w v
narrowed loose c w v e h a = record {
  lists = a.lists;
  seen = a.seen;
  same = firm_firmed c loose v.names h ∙ a.same ∙ sym (firm_firmed c loose w.names e);
  left = record { spent = spent_firmed c loose w.names a.left.spent; rising = a.left.rising };
  right = record { spent = spent_firmed c loose v.names a.right.spent; rising = a.right.rising };
  awaited = λ b x. firm_awaited (nat_eq b.name c) (loose b.name) (a.awaited b x);
}
