-- A taking call tells the first of its list, which is listed no more.
use Rattle.std.proofs.Common.{◌≡◌, ℕ, ◌+◌, ◌≤◌, ◌<◌, List, [], ◌∷◌, Bool, true, false, not, cond, ◌||◌, ◌&&◌, Option, None, Some, arith, refl, sym, ap, ◌∙◌, subst, ◌==◌}
use Rattle.std.specs.Prelude.{nat_eq, filter}
use Rattle.std.proofs.lemmas.Bool.{false≢true}
use Rattle.std.proofs.lemmas.Bool.Decides.{nat_tests}
use Rattle.std.proofs.lemmas.List.{append-nil}
use Rattle.kj_model.specs.Nodes.{Entry}
use Rattle.kj_model.specs.World.{World, Held, AskCell, RequestOf, Asked, Ended, held_at}
use Rattle.kj_model.specs.Changes.{named, unnamed}
use Rattle.kj_model.specs.Framed.{times}
use Rattle.kj_model.proofs.Spared.{same_number}
use Rattle.kj_ownership.specs.Standing.{one_if}
use Rattle.kj_takings.specs.Told.{ask_cells, ended_names, is_untaken, is_request, has_ended, is_lost_ask, ask_node, StartsWith}
use Rattle.kj_takings.proofs.ToldListed.{Tales, Listed, new_apart}
use Rattle.kj_takings.proofs.ToldChanges.{changed, forgotten, same_times, same_here, other_named, named_here, let_go, gone_stays, other_stays}

pub whole : {A : Type 0} (xs : List A) → StartsWith xs xs
whole {A} xs = ([], sym (append-nil xs))

first_here : (c : ℕ) (xs : List ℕ) → times c (c ∷ xs) ≡ 1 + times c xs
first_here c xs = let e = same_here c in grind (arith, nat_tests)

first_other : (c d : ℕ) (xs : List ℕ) → nat_eq c d ≡ false → times d (c ∷ xs) ≡ times d xs
first_other c d xs e = grind (arith, nat_tests)

-- what is listed holds what it should
no_count : (t n : ℕ) → t ≡ 1 + n → t ≡ 0 → ⊥
no_count t n a b = omega (arith, a, b)

untaken_is : (o : Option Held) (n : ℕ) → 1 + n ≡ one_if (is_untaken o) → (p : ℕ) × (o ≡ Some (AskCell p false))
untaken_is (Some (AskCell p false)) n e = (p, refl)
untaken_is (Some (AskCell p true)) n e = absurd (no_count (1 + n) n refl e)
untaken_is None n e = absurd (no_count (1 + n) n refl e)
untaken_is (Some _) n e = absurd (no_count (1 + n) n refl e)

ended_is : (o : Option Held) (n : ℕ) → 1 + n ≡ one_if (has_ended o) → o ≡ Some (RequestOf None)
ended_is (Some (RequestOf None)) n e = refl
ended_is (Some (RequestOf (Some m))) n e = absurd (no_count (1 + n) n refl e)
ended_is None n e = absurd (no_count (1 + n) n refl e)
ended_is (Some _) n e = absurd (no_count (1 + n) n refl e)

lost_is : (nodes : List Entry) (o : Option Held) (n : ℕ) → 1 + n ≤ one_if (is_lost_ask nodes o) → (p : ℕ) × (b : Bool) × (o ≡ Some (AskCell p b))
lost_is nodes (Some (AskCell p b)) n e = (p, b, refl)
lost_is nodes None n e = absurd (none n e)
  where
    none : (n : ℕ) → 1 + n ≤ 0 → ⊥
    none n e = omega (arith, e)
lost_is nodes (Some _) n e = absurd (none n e)
  where
    none : (n : ℕ) → 1 + n ≤ 0 → ⊥
    none n e = omega (arith, e)

-- one number more is told
abbrev pub and_told : ℕ → (ℕ → Bool) → ℕ → Bool
and_told p told n = (p == n) || told n

told_before : (p q : ℕ) (told : ℕ → Bool) → and_told p told q ≡ true → (p ≡ q → ⊥) → told q ≡ true
told_before p q told t apart = decide (nat_eq p q) refl
  where
    decide : (b : Bool) → nat_eq p q ≡ b → told q ≡ true
    decide true e = absurd (apart (sym (same_number p q e)))
    decide false e = sym (ap (λ (b : Bool). b || told q) e) ∙ t

told_as_before : (p q : ℕ) (told : ℕ → Bool) → (p ≡ q → ⊥) → and_told p told q ≡ told q
told_as_before p q told apart = decide (nat_eq p q) refl
  where
    decide : (b : Bool) → nat_eq p q ≡ b → and_told p told q ≡ told q
    decide true e = absurd (apart (sym (same_number p q e)))
    decide false e = ap (λ (b : Bool). b || told q) e

yes_told : (p : ℕ) (told : ℕ → Bool) → and_told p told p ≡ true
yes_told p told = ap (λ (b : Bool). b || told p) (same_here p)

told_or : (P : ℕ → Type 0) (p q : ℕ) (told : ℕ → Bool) → and_told p told q ≡ true → P p → (told q ≡ true → P q) → P q
told_or P p q told t h k = decide (nat_eq p q) refl
  where
    decide : (b : Bool) → nat_eq p q ≡ b → P q
    decide true e = subst P (sym (same_number p q e)) h
    decide false e = k (sym (ap (λ (b : Bool). b || told q) e) ∙ t)

differs : (c d : ℕ) → nat_eq c d ≡ false → c ≡ d → ⊥
differs c d e h = let a = same_here c in false≢true (sym e ∙ subst (λ (k : ℕ). nat_eq c k ≡ true) h a)

-- an ask is told: its cell may get a reply now
abbrev pub ask_tale : ℕ → List Asked → Tales → Tales
ask_tale p more told = record told { asks = and_told p told.asks; first_asks = more }

no_cell : (p q : ℕ) (a b : Bool) → ◌≡◌ {A = Option Held} (Some (AskCell p a)) (Some (AskCell q b)) → (q ≡ p) × (b ≡ a)
no_cell p q a b e = (ap node (sym e), ap flag (sym e))
  where
    node : Option Held → ℕ
    node (Some (AskCell cell is_taken)) = cell
    node other = p

    flag : Option Held → Bool
    flag (Some (AskCell cell is_taken)) = is_taken
    flag other = a

pub ask_told_listed : (told : Tales) (a : Asked) (more : List Asked) (p : ℕ) (w : World) → w.asks ≡ a ∷ more → held_at a.cell w.names ≡ Some (AskCell p false) → Listed told w → Listed (ask_tale p more told) (named a.cell (AskCell p true) (record w { asks = more }))
ask_told_listed told a more p w is at g = changed c told (ask_tale p more told) w v (record {
  nodes = refl;
  next = refl;
  apart = new_apart c held w.names;
  others = λ d e. other_named c d held w e;
  asks = λ d e. sym (first_other c d (ask_cells more) e) ∙ ap (λ (xs : List Asked). times d (ask_cells xs)) (sym is);
  ended = λ d e. refl;
  abandoned = λ d e. refl;
  asks_here = none_here ∙ ap (λ o. one_if (is_untaken o)) (sym (named_here c held w));
  ended_here = g.ended c ∙ ap (λ o. one_if (has_ended o)) at ∙ ap (λ o. one_if (has_ended o)) (sym (named_here c held w));
  abandoned_here = (let x = g.abandoned c in let y : one_if (is_lost_ask w.nodes (held_at c w.names)) ≡ one_if (is_lost_ask w.nodes (held_at c v.names)) = ap (λ o. one_if (is_lost_ask w.nodes o)) at ∙ ap (λ o. one_if (is_lost_ask w.nodes o)) (sym (named_here c held w)) in omega (arith, x, y));
  cell_here = λ q b e. (let y = no_cell p q true b (sym (named_here c held w) ∙ e) in record {
    built = subst (λ (k : ℕ). k < w.next) (sym y.0) (g.built c p false at);
    taken = subst (λ (k : ℕ). and_told p told.asks k ≡ b) (sym y.0) (yes_told p told.asks ∙ sym y.1);
    untold = λ t. g.untold c p false at (subst (λ (k : ℕ). told.lost k ≡ true) y.0 t);
    alone = λ d f n h. differs c d n (g.cells c d p false f at (subst (λ (k : ℕ). held_at d w.names ≡ Some (AskCell k f)) y.0 h));
  });
  taken = λ d q b e h. told_as_before p q told.asks (λ s. differs c d e (g.cells c d p false b at (subst (λ (k : ℕ). held_at d w.names ≡ Some (AskCell k b)) (sym s) h))) ∙ g.taken d q b h;
  untold = λ d q b e h t. g.untold d q b h t;
  old_asks = λ q t. told_or (λ (k : ℕ). k < w.next) p q told.asks t (g.built c p false at) (g.old_asks q);
  old_lost = g.old_lost;
  requests = λ d e. refl;
  request_here = ap is_request (named_here c held w) ∙ sym (ap is_request at) ∙ g.requests c;
  cells = λ d q e t. t;
  stays_here = λ q t. ap ask_node (named_here c held w) ∙ sym (ap ask_node at) ∙ g.stay c q t;
  first_asks = λ h. whole more;
  first_ended = λ h. h;
  first_lost = λ h. h;
}) g
  where
    c : ℕ
    c = a.cell

    held : Held
    held = AskCell p true

    v : World
    v = named c held (record w { asks = more })

    none_here : times c (ask_cells more) ≡ 0
    none_here =
        let x = g.asks c in
        let y : one_if (is_untaken (held_at c w.names)) ≡ 1 = ap (λ o. one_if (is_untaken o)) at in
        let z : times c (ask_cells w.asks) ≡ 1 + times c (ask_cells more) = ap (λ (xs : List Asked). times c (ask_cells xs)) is ∙ first_here c (ask_cells more) in
        omega (arith, x, y, z)

-- an end is told: its name goes
abbrev pub end_tale : ℕ → List Ended → Tales → Tales
end_tale c more told = record told { requests = λ d. told.requests d && not (c == d); first_ended = more }

kept_and : (b c : Bool) → c ≡ false → b && not c ≡ b
kept_and true c e = ap not e
kept_and false c e = refl

gone_and : (b c : Bool) → c ≡ true → b && not c ≡ false
gone_and true c e = ap not e
gone_and false c e = refl

no_node : (p : ℕ) → ◌≡◌ {A = Option ℕ} None (Some p) → ⊥
no_node p e = cc

pub end_told_listed : (told : Tales) (x : Ended) (more : List Ended) (w : World) → w.ended ≡ x ∷ more → held_at x.request w.names ≡ Some (RequestOf None) → Listed told w → Listed (end_tale x.request more told) (unnamed x.request (record w { ended = more }))
end_told_listed told x more w is at g = forgotten c told (end_tale c more told) w.asks more w.abandoned w (record {
  asks_gone = λ d. same_times c d (times d (ask_cells w.asks)) (λ e. subst (λ (k : ℕ). times k (ask_cells w.asks) ≡ 0) e no_asks);
  ended_gone = λ d. gone d (nat_eq c d) refl;
  abandoned_gone = λ d. same_times c d (times d w.abandoned) (λ e. subst (λ (k : ℕ). times k w.abandoned ≡ 0) e no_lost);
  taken = λ d q b e f. g.taken d q b f;
  untold = λ d q b e f t. g.untold d q b f t;
  old_asks = g.old_asks;
  old_lost = g.old_lost;
  requests = λ d e. kept_and (told.requests d) (c == d) e;
  no_request = gone_and (told.requests c) (c == c) (same_here c);
  cells = λ d q e t. t;
  none_stays = λ q t. no_node q (sym (ap ask_node at) ∙ g.stay c q t);
  first_asks = λ h. h;
  first_ended = λ h. whole more;
  first_lost = λ h. h;
}) g
  where
    c : ℕ
    c = x.request

    no_asks : times c (ask_cells w.asks) ≡ 0
    no_asks = g.asks c ∙ ap (λ o. one_if (is_untaken o)) at

    no_lost : times c w.abandoned ≡ 0
    no_lost = let a = g.abandoned c in let b : one_if (is_lost_ask w.nodes (held_at c w.names)) ≡ 0 = ap (λ o. one_if (is_lost_ask w.nodes o)) at in omega (arith, a, b)

    gone : (d : ℕ) (b : Bool) → nat_eq c d ≡ b → times d told.pending + times d (ended_names more) ≡ cond (c == d) 0 (times d told.pending + times d (ended_names w.ended))
    gone d true e = subst (λ (k : ℕ). times k told.pending + times k (ended_names more) ≡ 0) (sym (same_number c d e)) none ∙ sym (ap (λ (b : Bool). cond b 0 (times d told.pending + times d (ended_names w.ended))) e)
      where
        none : times c told.pending + times c (ended_names more) ≡ 0
        none =
            let a = g.ended c in
            let b : one_if (has_ended (held_at c w.names)) ≡ 1 = ap (λ o. one_if (has_ended o)) at in
            let f : times c (ended_names w.ended) ≡ 1 + times c (ended_names more) = ap (λ (xs : List Ended). times c (ended_names xs)) is ∙ first_here c (ended_names more) in
            omega (arith, a, b, f)
    gone d false e =
        let f : times d (ended_names w.ended) ≡ times d (ended_names more) = ap (λ (xs : List Ended). times d (ended_names xs)) is ∙ first_other c d (ended_names more) e in
        ap (λ (n : ℕ). times d told.pending + n) (sym f) ∙ sym (ap (λ (b : Bool). cond b 0 (times d told.pending + times d (ended_names w.ended))) e)

-- a cell is told as abandoned: its name goes, and an ask of it that is still listed
abbrev pub lost_tale : ℕ → ℕ → List Asked → List ℕ → Tales → Tales
lost_tale c p asks more told = record told { lost = and_told p told.lost; cells = let_go c told.cells; first_asks = asks; first_lost = more }

asks_without : (c d : ℕ) (xs : List Asked) → times d (ask_cells (filter (λ (a : Asked). not (a.cell == c)) xs)) ≡ cond (c == d) 0 (times d (ask_cells xs))
asks_without c d [] = grind arith
asks_without c d (x ∷ xs) = decide (nat_eq x.cell c) refl (asks_without c d xs)
  where
    goes : nat_eq x.cell c ≡ true → filter (λ (a : Asked). not (a.cell == c)) (x ∷ xs) ≡ filter (λ (a : Asked). not (a.cell == c)) xs
    goes e = grind (arith, nat_tests)

    stays : nat_eq x.cell c ≡ false → filter (λ (a : Asked). not (a.cell == c)) (x ∷ xs) ≡ x ∷ filter (λ (a : Asked). not (a.cell == c)) xs
    stays e = grind (arith, nat_tests)

    less : (t : ℕ) → nat_eq x.cell c ≡ true → t ≡ cond (c == d) 0 (times d (ask_cells xs)) → t ≡ cond (c == d) 0 (times d (x.cell ∷ ask_cells xs))
    less t e h = grind (arith, nat_tests)

    as_many : (t : ℕ) → nat_eq x.cell c ≡ false → t ≡ cond (c == d) 0 (times d (ask_cells xs)) → cond (x.cell == d) 1 0 + t ≡ cond (c == d) 0 (times d (x.cell ∷ ask_cells xs))
    as_many t e h = grind (arith, nat_tests)

    decide : (b : Bool) → nat_eq x.cell c ≡ b → times d (ask_cells (filter (λ (a : Asked). not (a.cell == c)) xs)) ≡ cond (c == d) 0 (times d (ask_cells xs)) → times d (ask_cells (filter (λ (a : Asked). not (a.cell == c)) (x ∷ xs))) ≡ cond (c == d) 0 (times d (ask_cells (x ∷ xs)))
    decide true e ih = ap (λ (ys : List Asked). times d (ask_cells ys)) (goes e) ∙ less (times d (ask_cells (filter (λ (a : Asked). not (a.cell == c)) xs))) e ih
    decide false e ih = ap (λ (ys : List Asked). times d (ask_cells ys)) (stays e) ∙ as_many (times d (ask_cells (filter (λ (a : Asked). not (a.cell == c)) xs))) e ih

pub lost_told_listed : (told : Tales) (c : ℕ) (more : List ℕ) (p : ℕ) (f : Bool) (w : World) → w.abandoned ≡ c ∷ more → held_at c w.names ≡ Some (AskCell p f) → Listed told w → Listed (lost_tale c p (filter (λ (a : Asked). not (a.cell == c)) w.asks) more told) (unnamed c (record w { abandoned = more; asks = filter (λ (a : Asked). not (a.cell == c)) w.asks }))
lost_told_listed told c more p f w is at g = forgotten c told (lost_tale c p asks more told) asks w.ended more w (record {
  asks_gone = λ d. asks_without c d w.asks;
  ended_gone = λ d. same_times c d (times d told.pending + times d (ended_names w.ended)) (λ e. subst (λ (k : ℕ). times k told.pending + times k (ended_names w.ended) ≡ 0) e no_ends);
  abandoned_gone = λ d. gone d (nat_eq c d) refl;
  taken = λ d q b e h. g.taken d q b h;
  untold = λ d q b e h t. g.untold d q b h (told_before p q told.lost t (λ s. differs c d e (g.cells c d p f b at (subst (λ (k : ℕ). held_at d w.names ≡ Some (AskCell k b)) (sym s) h))));
  old_asks = g.old_asks;
  old_lost = λ q t. told_or (λ (k : ℕ). k < w.next) p q told.lost t (g.built c p f at) (g.old_lost q);
  requests = λ d e. refl;
  no_request = sym (g.requests c) ∙ ap is_request at;
  cells = λ d q e t. other_stays c d q told.cells e t;
  none_stays = λ q t. gone_stays c q told.cells t;
  first_asks = λ h. whole asks;
  first_ended = λ h. h;
  first_lost = λ h. whole more;
}) g
  where
    asks : List Asked
    asks = filter (λ (a : Asked). not (a.cell == c)) w.asks

    no_ends : times c told.pending + times c (ended_names w.ended) ≡ 0
    no_ends = g.ended c ∙ ap (λ o. one_if (has_ended o)) at

    few : (n : ℕ) (b : Bool) → 1 + n ≤ one_if b → n ≡ 0
    few n true e = omega (arith, e)
    few n false e = omega (arith, e)

    gone : (d : ℕ) (b : Bool) → nat_eq c d ≡ b → times d more ≡ cond (c == d) 0 (times d w.abandoned)
    gone d true e = subst (λ (k : ℕ). times k more ≡ 0) (sym (same_number c d e)) none ∙ sym (ap (λ (b : Bool). cond b 0 (times d w.abandoned)) e)
      where
        none : times c more ≡ 0
        none = few (times c more) (is_lost_ask w.nodes (held_at c w.names)) (subst (λ (n : ℕ). n ≤ one_if (is_lost_ask w.nodes (held_at c w.names))) (ap (times c) is ∙ first_here c more) (g.abandoned c))
    gone d false e = sym (ap (times d) is ∙ first_other c d more e) ∙ sym (ap (λ (b : Bool). cond b 0 (times d w.abandoned)) e)

-- what the first of each list holds
pub first_ask : (told : Tales) (a : Asked) (more : List Asked) (w : World) → w.asks ≡ a ∷ more → Listed told w → (p : ℕ) × (held_at a.cell w.names ≡ Some (AskCell p false))
first_ask told a more w is g = untaken_is (held_at a.cell w.names) (times a.cell (ask_cells more)) (sym (first_here a.cell (ask_cells more)) ∙ ap (λ (xs : List Asked). times a.cell (ask_cells xs)) (sym is) ∙ g.asks a.cell)

pub first_end : (told : Tales) (x : Ended) (more : List Ended) (w : World) → told.pending ≡ [] → w.ended ≡ x ∷ more → Listed told w → held_at x.request w.names ≡ Some (RequestOf None)
first_end told x more w none is g = ended_is (held_at x.request w.names) (times x.request (ended_names more)) count
  where
    count : 1 + times x.request (ended_names more) ≡ one_if (has_ended (held_at x.request w.names))
    count =
        let a = g.ended x.request in
        let b : times x.request told.pending ≡ 0 = ap (times x.request) none in
        let d : times x.request (ended_names w.ended) ≡ 1 + times x.request (ended_names more) = ap (λ (xs : List Ended). times x.request (ended_names xs)) is ∙ first_here x.request (ended_names more) in
        omega (arith, a, b, d)

pub first_cell : (told : Tales) (c : ℕ) (more : List ℕ) (w : World) → w.abandoned ≡ c ∷ more → Listed told w → (p : ℕ) × (b : Bool) × (held_at c w.names ≡ Some (AskCell p b))
first_cell told c more w is g = lost_is w.nodes (held_at c w.names) (times c more) (subst (λ (n : ℕ). n ≤ one_if (is_lost_ask w.nodes (held_at c w.names))) (ap (times c) is ∙ first_here c more) (g.abandoned c))
