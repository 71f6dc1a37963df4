-- Changes of what one name holds and of the lists with it.
use Rattle.std.proofs.Common.{◌≡◌, ℕ, ◌+◌, ◌≤◌, ◌<◌, List, [], ◌∷◌, ◌++◌, Bool, true, false, not, cond, ◌||◌, Option, None, Some, arith, refl, sym, ap, ◌∙◌, subst, ◌==◌, append_assoc}
use Rattle.std.specs.Prelude.{nat_eq}
use Rattle.std.proofs.lemmas.Bool.{false≢true}
use Rattle.std.proofs.lemmas.Bool.Decides.{nat_tests}
use Rattle.kj_base.specs.declared.outcomes.Outcome.{Outcome}
use Rattle.kj_model.specs.Nodes.{Entry, dropped}
use Rattle.kj_model.specs.World.{World, Named, Held, AskCell, RequestOf, Asked, Ended, held_at}
use Rattle.kj_model.specs.Changes.{named, unnamed}
use Rattle.kj_model.specs.Effects.{with_ask, with_ended, without_abandoned}
use Rattle.kj_model.specs.Framed.{times, NamesApart}
use Rattle.kj_model.proofs.Spared.{same_number}
use Rattle.kj_model.proofs.Counts.{times_app}
use Rattle.kj_ownership.specs.Standing.{one_if}
use Rattle.kj_ownership.proofs.Shapes.{held_named, held_unnamed}
use Rattle.kj_ownership.proofs.Tasks.{dropped_times}
use Rattle.kj_takings.specs.Told.{ask_cells, ended_names, is_untaken, is_request, has_ended, is_lost_ask, ask_node, StartsWith}
use Rattle.std.proofs.lemmas.List.Elements.{filter-append}
use Rattle.kj_takings.proofs.ToldListed.{kind, kind_ask, running, same_untaken, same_ended, same_request, same_node, same_lost, Tales, Listed, Leaves, left_apart, new_apart}

-- the cell of an ask under the name that changed: built, told of as it stands, and under no other name
pub record CellHere (told : Tales) (c p : ℕ) (b : Bool) (next : ℕ) (names : List Named) : Type 0 where
  pub built : p < next
  pub taken : told.asks p ≡ b
  pub untold : told.lost p ≡ true → ⊥
  pub alone : (d : ℕ) (a : Bool) → nat_eq c d ≡ false → held_at d names ≡ Some (AskCell p a) → ⊥

-- only name c holds something else, and only it may stand elsewhere in the lists
pub record ChangesAt (c : ℕ) (before after : Tales) (w v : World) : Type 0 where
  pub nodes : v.nodes ≡ w.nodes
  pub next : v.next ≡ w.next
  pub apart : NamesApart w.names → NamesApart v.names
  pub others : (d : ℕ) → nat_eq c d ≡ false → held_at d v.names ≡ held_at d w.names
  pub asks : (d : ℕ) → nat_eq c d ≡ false → times d (ask_cells v.asks) ≡ times d (ask_cells w.asks)
  pub ended : (d : ℕ) → nat_eq c d ≡ false → times d after.pending + times d (ended_names v.ended) ≡ times d before.pending + times d (ended_names w.ended)
  pub abandoned : (d : ℕ) → nat_eq c d ≡ false → times d v.abandoned ≡ times d w.abandoned
  pub asks_here : times c (ask_cells v.asks) ≡ one_if (is_untaken (held_at c v.names))
  pub ended_here : times c after.pending + times c (ended_names v.ended) ≡ one_if (has_ended (held_at c v.names))
  pub abandoned_here : times c v.abandoned ≤ one_if (is_lost_ask v.nodes (held_at c v.names))
  pub cell_here : (p : ℕ) (b : Bool) → held_at c v.names ≡ Some (AskCell p b) → CellHere after c p b v.next w.names
  pub taken : (d p : ℕ) (b : Bool) → nat_eq c d ≡ false → held_at d w.names ≡ Some (AskCell p b) → after.asks p ≡ b
  pub untold : (d p : ℕ) (b : Bool) → nat_eq c d ≡ false → held_at d w.names ≡ Some (AskCell p b) → after.lost p ≡ true → ⊥
  pub old_asks : (p : ℕ) → after.asks p ≡ true → p < v.next
  pub old_lost : (p : ℕ) → after.lost p ≡ true → p < v.next
  pub requests : (d : ℕ) → nat_eq c d ≡ false → after.requests d ≡ before.requests d
  pub request_here : is_request (held_at c v.names) ≡ after.requests c
  pub cells : (d p : ℕ) → nat_eq c d ≡ false → after.cells d ≡ Some p → before.cells d ≡ Some p
  pub stays_here : (p : ℕ) → after.cells c ≡ Some p → ask_node (held_at c v.names) ≡ Some p
  pub first_asks : StartsWith before.first_asks w.asks → StartsWith after.first_asks v.asks
  pub first_ended : StartsWith before.first_ended w.ended → StartsWith after.first_ended v.ended
  pub first_lost : StartsWith before.first_lost w.abandoned → StartsWith after.first_lost v.abandoned

pub changed : (c : ℕ) (before after : Tales) (w v : World) → ChangesAt c before after w v → Listed before w → Listed after v
changed c before after w v h g = record {
  apart = h.apart g.apart;
  asks = λ d. by_asks d (nat_eq c d) refl;
  ended = λ d. by_ended d (nat_eq c d) refl;
  abandoned = λ d. by_lost d (nat_eq c d) refl;
  cells = λ d e p a b x y. both_cells d e p a b x y (nat_eq c d) (nat_eq c e) refl refl;
  built = λ d p b x. (cell d p b x (nat_eq c d) refl).0;
  taken = λ d p b x. (cell d p b x (nat_eq c d) refl).1;
  untold = λ d p b x. (cell d p b x (nat_eq c d) refl).2;
  old_asks = h.old_asks;
  old_lost = h.old_lost;
  requests = λ d. by_requests d (nat_eq c d) refl;
  stay = λ d p t. by_cells d p t (nat_eq c d) refl;
  first_asks = h.first_asks g.first_asks;
  first_ended = h.first_ended g.first_ended;
  first_lost = h.first_lost g.first_lost;
}
  where
    by_requests : (d : ℕ) (q : Bool) → nat_eq c d ≡ q → is_request (held_at d v.names) ≡ after.requests d
    by_requests d true e = subst (λ (k : ℕ). is_request (held_at k v.names) ≡ after.requests k) (sym (same_number c d e)) h.request_here
    by_requests d false e = ap is_request (h.others d e) ∙ g.requests d ∙ sym (h.requests d e)

    by_cells : (d p : ℕ) → after.cells d ≡ Some p → (q : Bool) → nat_eq c d ≡ q → ask_node (held_at d v.names) ≡ Some p
    by_cells d p t true e = ap (λ (k : ℕ). ask_node (held_at k v.names)) (same_number c d e) ∙ h.stays_here p (ap after.cells (sym (same_number c d e)) ∙ t)
    by_cells d p t false e = ap ask_node (h.others d e) ∙ g.stay d p (h.cells d p e t)

    by_asks : (d : ℕ) (q : Bool) → nat_eq c d ≡ q → times d (ask_cells v.asks) ≡ one_if (is_untaken (held_at d v.names))
    by_asks d true e = subst (λ (k : ℕ). times k (ask_cells v.asks) ≡ one_if (is_untaken (held_at k v.names))) (sym (same_number c d e)) h.asks_here
    by_asks d false e = h.asks d e ∙ g.asks d ∙ ap (λ o. one_if (is_untaken o)) (sym (h.others d e))

    by_ended : (d : ℕ) (q : Bool) → nat_eq c d ≡ q → times d after.pending + times d (ended_names v.ended) ≡ one_if (has_ended (held_at d v.names))
    by_ended d true e = subst (λ (k : ℕ). times k after.pending + times k (ended_names v.ended) ≡ one_if (has_ended (held_at k v.names))) (sym (same_number c d e)) h.ended_here
    by_ended d false e = h.ended d e ∙ g.ended d ∙ ap (λ o. one_if (has_ended o)) (sym (h.others d e))

    by_lost : (d : ℕ) (q : Bool) → nat_eq c d ≡ q → times d v.abandoned ≤ one_if (is_lost_ask v.nodes (held_at d v.names))
    by_lost d true e = subst (λ (k : ℕ). times k v.abandoned ≤ one_if (is_lost_ask v.nodes (held_at k v.names))) (sym (same_number c d e)) h.abandoned_here
    by_lost d false e =
        let a = h.abandoned d e in
        let b = g.abandoned d in
        let x : one_if (is_lost_ask v.nodes (held_at d v.names)) ≡ one_if (is_lost_ask w.nodes (held_at d w.names)) = ap (λ (ns : List Entry). one_if (is_lost_ask ns (held_at d v.names))) h.nodes ∙ ap (λ o. one_if (is_lost_ask w.nodes o)) (h.others d e) in
        omega (arith, a, b, x)

    here : (d p : ℕ) (b : Bool) → nat_eq c d ≡ true → held_at d v.names ≡ Some (AskCell p b) → CellHere after c p b v.next w.names
    here d p b e x = h.cell_here p b (subst (λ (k : ℕ). held_at k v.names ≡ Some (AskCell p b)) (same_number c d e) x)

    cell : (d p : ℕ) (b : Bool) → held_at d v.names ≡ Some (AskCell p b) → (q : Bool) → nat_eq c d ≡ q → (p < v.next) × (after.asks p ≡ b) × (after.lost p ≡ true → ⊥)
    cell d p b x true e = let k = here d p b e x in (k.built, k.taken, k.untold)
    cell d p b x false e =
        let y = sym (h.others d e) ∙ x in
        let k = g.built d p b y in
        let n = h.next in
        (omega (arith, k, n), h.taken d p b e y, h.untold d p b e y)

    both_cells : (d e p : ℕ) (a b : Bool) → held_at d v.names ≡ Some (AskCell p a) → held_at e v.names ≡ Some (AskCell p b) → (q r : Bool) → nat_eq c d ≡ q → nat_eq c e ≡ r → d ≡ e
    both_cells d e p a b x y true true f k = same_number c d f ∙ sym (same_number c e k)
    both_cells d e p a b x y true false f k = absurd ((here d p a f x).alone e b k (sym (h.others e k) ∙ y))
    both_cells d e p a b x y false true f k = absurd ((here e p b k y).alone d a f (sym (h.others d f) ∙ x))
    both_cells d e p a b x y false false f k = g.cells d e p a b (sym (h.others d f) ∙ x) (sym (h.others e k) ∙ y)

-- what the other names hold
pub same_here : (c : ℕ) → nat_eq c c ≡ true
same_here c = grind (arith, nat_tests)

pub other_named : (c d : ℕ) (held : Held) (w : World) → nat_eq c d ≡ false → held_at d (named c held w).names ≡ held_at d w.names
other_named c d held w e = held_named d c held w ∙ ap (λ b. cond b (Some held) (held_at d w.names)) e

pub named_here : (c : ℕ) (held : Held) (w : World) → held_at c (named c held w).names ≡ Some held
named_here c held w = held_named c c held w ∙ ap (λ b. cond b (Some held) (held_at c w.names)) (same_here c)

other_unnamed : (c d : ℕ) (w : World) → nat_eq c d ≡ false → held_at d (unnamed c w).names ≡ held_at d w.names
other_unnamed c d w e = held_unnamed d c w.names ∙ ap (λ b. cond b None (held_at d w.names)) e

pub unnamed_here : (c : ℕ) (w : World) → held_at c (unnamed c w).names ≡ None
unnamed_here c w = held_unnamed c c w.names ∙ ap (λ b. cond b None (held_at c w.names)) (same_here c)

-- counts in lists
no_more : (c d : ℕ) (xs : List ℕ) → nat_eq c d ≡ false → times d (c ∷ xs) ≡ times d xs
no_more c d xs e = grind (arith, nat_tests)

one_here : (c : ℕ) (xs : List ℕ) → times c (c ∷ xs) ≡ 1 + times c xs
one_here c xs = let e = same_here c in grind (arith, nat_tests)

cells_last : (d : ℕ) (xs : List Asked) (a : Asked) → times d (ask_cells (xs ++ a ∷ [])) ≡ times d (ask_cells xs) + times d (a.cell ∷ [])
cells_last d [] a = omega arith
cells_last d (x ∷ xs) a = let h = cells_last d xs a in omega (arith, h)

names_last : (d : ℕ) (xs : List Ended) (e : Ended) → times d (ended_names (xs ++ e ∷ [])) ≡ times d (ended_names xs) + times d (e.request ∷ [])
names_last d [] e = omega arith
names_last d (x ∷ xs) e = let h = names_last d xs e in omega (arith, h)

-- what holds neither an ask's cell nor a request that has ended
record Plain (o : Option Held) : Type 0 where
  untaken : one_if (is_untaken o) ≡ 0
  ended : one_if (has_ended o) ≡ 0
  lost : (nodes : List Entry) → one_if (is_lost_ask nodes o) ≡ 0

plain_like : (p o : Option Held) → kind o ≡ kind p → Plain p → Plain o
plain_like p o e h = record {
  untaken = ap one_if (same_untaken p o e) ∙ h.untaken;
  ended = ap one_if (same_ended p o e) ∙ h.ended;
  lost = λ nodes. ap one_if (same_lost nodes p o e) ∙ h.lost nodes;
}

plain_none : (o : Option Held) → kind o ≡ None → Plain o
plain_none o e = plain_like None o e (record { untaken = refl; ended = refl; lost = λ nodes. refl })

plain_running : (o : Option Held) → kind o ≡ running → Plain o
plain_running o e = plain_like running o e (record { untaken = refl; ended = refl; lost = λ nodes. refl })

no_cell : (p : ℕ) (b : Bool) → ◌≡◌ {A = Option Held} None (Some (AskCell p b)) → ⊥
no_cell p b e = cc

-- an ask comes
cell_is : (m p : ℕ) (a b : Bool) → ◌≡◌ {A = Option Held} (Some (AskCell m a)) (Some (AskCell p b)) → (p ≡ m) × (b ≡ a)
cell_is m p a b e = (ap node (sym e), ap flag (sym e))
  where
    node : Option Held → ℕ
    node (Some (AskCell cell is_taken)) = cell
    node other = m

    flag : Option Held → Bool
    flag (Some (AskCell cell is_taken)) = is_taken
    flag other = a

longer : {A : Type 0} (front xs : List A) (x : A) → StartsWith front xs → StartsWith front (xs ++ x ∷ [])
longer {A} front xs x h = (h.0 ++ x ∷ [], ap (λ (ys : List A). ys ++ x ∷ []) h.1 ∙ append_assoc front h.0 (x ∷ []))

no_stay : (o : Option Held) (p : ℕ) → kind o ≡ None → ask_node o ≡ Some p → ⊥
no_stay o p e h = no_number p (sym (same_node None o e) ∙ h)
  where
    no_number : (p : ℕ) → ◌≡◌ {A = Option ℕ} None (Some p) → ⊥
    no_number p e = cc

not_running : (o : Option Held) (p : ℕ) → kind o ≡ running → ask_node o ≡ Some p → ⊥
not_running o p e h = no_stay None p refl (sym (same_node running o e) ∙ h)

pub no_true : (b : Bool) → (b ≡ true → ⊥) → b ≡ false
no_true true h = absurd (h refl)
no_true false h = refl

pub ask_listed : (told : Tales) (c target step : ℕ) (words : List ℕ) (w v : World) → Leaves w v → w.next < v.next → kind (held_at c w.names) ≡ None → Listed told w → Listed told (with_ask c target step words (named c (AskCell w.next false) v))
ask_listed told c target step words w v l grows new g = changed c told told v x (record {
  nodes = refl;
  next = refl;
  apart = new_apart c held v.names;
  others = λ d e. other_named c d held v e;
  asks = λ d e. (let a = cells_last d v.asks ask in let b = no_more c d [] e in omega (arith, a, b));
  ended = λ d e. refl;
  abandoned = λ d e. refl;
  asks_here = asks_more;
  ended_here = k.ended c ∙ free.ended ∙ ap (λ o. one_if (has_ended o)) (sym (named_here c held v));
  abandoned_here = (let a = k.abandoned c in let b = free.lost v.nodes in omega (arith, a, b));
  cell_here = λ p b e. here p b (cell_is w.next p false b (sym (named_here c held v) ∙ e));
  taken = λ d p b e f. k.taken d p b f;
  untold = λ d p b e f t. k.untold d p b f t;
  old_asks = k.old_asks;
  old_lost = k.old_lost;
  requests = λ d e. refl;
  request_here = ap is_request (named_here c held v) ∙ sym (same_request None (held_at c v.names) (l.kinds c ∙ new)) ∙ k.requests c;
  cells = λ d p e t. t;
  stays_here = λ p t. absurd (no_stay (held_at c v.names) p (l.kinds c ∙ new) (k.stay c p t));
  first_asks = λ h. longer told.first_asks v.asks ask h;
  first_ended = λ h. h;
  first_lost = λ h. h;
}) k
  where
    held : Held
    held = AskCell w.next false

    ask : Asked
    ask = record { cell = c; target = target; step = step; words = words }

    x : World
    x = with_ask c target step words (named c held v)

    k : Listed told v
    k = l.listed told g

    free : Plain (held_at c v.names)
    free = plain_none (held_at c v.names) (l.kinds c ∙ new)

    asks_more : times c (ask_cells x.asks) ≡ one_if (is_untaken (held_at c x.names))
    asks_more =
        let a = cells_last c v.asks ask in
        let b = one_here c [] in
        let d : times c (ask_cells v.asks) ≡ 0 = k.asks c ∙ free.untaken in
        let e : one_if (is_untaken (held_at c x.names)) ≡ 1 = ap (λ o. one_if (is_untaken o)) (named_here c held v) in
        omega (arith, a, b, d, e)

    less : (p : ℕ) → p < w.next → p ≡ w.next → ⊥
    less p a e = omega (arith, a, e)

    here : (p : ℕ) (b : Bool) → (p ≡ w.next) × (b ≡ false) → CellHere told c p b v.next v.names
    here p b e = record {
      built = (let a = e.0 in omega (arith, a, grows));
      taken = no_true (told.asks p) (λ t. less p (g.old_asks p t) e.0) ∙ sym e.1;
      untold = λ t. less p (g.old_lost p t) e.0;
      alone = λ d a f at. less p (g.built d p a (kind_ask (held_at d w.names) p a (sym (l.kinds d) ∙ ap kind at))) e.0;
    }

-- a request begins
abbrev pub begun_by : ℕ → Tales → Tales
begun_by c told = record told { requests = λ d. (c == d) || told.requests d }

no_ask : (n : Option ℕ) (p : ℕ) (b : Bool) → ◌≡◌ {A = Option Held} (Some (RequestOf n)) (Some (AskCell p b)) → ⊥
no_ask n p b e = cc

no_or : (b c : Bool) → b ≡ false → b || c ≡ c
no_or false c e = refl
no_or true c e = absurd (false≢true (sym e))

yes_or : (b c : Bool) → b ≡ true → b || c ≡ true
yes_or true c e = refl
yes_or false c e = absurd (false≢true e)

pub begin_listed : (told : Tales) (c n : ℕ) (w : World) → kind (held_at c w.names) ≡ None → Listed told w → Listed (begun_by c told) (named c (RequestOf (Some n)) w)
begin_listed told c n w new g = changed c told (begun_by c told) w v (record {
  nodes = refl;
  next = refl;
  apart = new_apart c held w.names;
  others = λ d e. other_named c d held w e;
  asks = λ d e. refl;
  ended = λ d e. refl;
  abandoned = λ d e. refl;
  asks_here = g.asks c ∙ free.untaken ∙ ap (λ o. one_if (is_untaken o)) (sym (named_here c held w));
  ended_here = g.ended c ∙ free.ended ∙ ap (λ o. one_if (has_ended o)) (sym (named_here c held w));
  abandoned_here = (let a = g.abandoned c in let b = free.lost w.nodes in omega (arith, a, b));
  cell_here = λ p b e. absurd (no_ask (Some n) p b (sym (named_here c held w) ∙ e));
  taken = λ d p b e f. g.taken d p b f;
  untold = λ d p b e f t. g.untold d p b f t;
  old_asks = g.old_asks;
  old_lost = g.old_lost;
  requests = λ d e. no_or (c == d) (told.requests d) e;
  request_here = ap is_request (named_here c held w) ∙ sym (yes_or (c == c) (told.requests c) (same_here c));
  cells = λ d p e t. t;
  stays_here = λ p t. absurd (no_stay (held_at c w.names) p new (g.stay c p t));
  first_asks = λ h. h;
  first_ended = λ h. h;
  first_lost = λ h. h;
}) g
  where
    held : Held
    held = RequestOf (Some n)

    v : World
    v = named c held w

    free : Plain (held_at c w.names)
    free = plain_none (held_at c w.names) new

-- a request ends, and that is listed later
abbrev pub pending : ℕ → Tales → Tales
pending c told = record told { pending = c ∷ told.pending }

pub end_pends : (told : Tales) (c : ℕ) (w : World) → kind (held_at c w.names) ≡ running → Listed told w → Listed (pending c told) (named c (RequestOf None) w)
end_pends told c w runs g = changed c told (pending c told) w v (record {
  nodes = refl;
  next = refl;
  apart = new_apart c (RequestOf None) w.names;
  others = λ d e. other_named c d (RequestOf None) w e;
  asks = λ d e. refl;
  ended = λ d e. (let a = no_more c d told.pending e in omega (arith, a));
  abandoned = λ d e. refl;
  asks_here = g.asks c ∙ free.untaken ∙ ap (λ o. one_if (is_untaken o)) (sym (named_here c (RequestOf None) w));
  ended_here = ends;
  abandoned_here = (let a = g.abandoned c in let b = free.lost w.nodes in omega (arith, a, b));
  cell_here = λ p b e. absurd (no_ask None p b (sym (named_here c (RequestOf None) w) ∙ e));
  taken = λ d p b e f. g.taken d p b f;
  untold = λ d p b e f t. g.untold d p b f t;
  old_asks = g.old_asks;
  old_lost = g.old_lost;
  requests = λ d e. refl;
  request_here = ap is_request (named_here c (RequestOf None) w) ∙ sym (same_request running (held_at c w.names) runs) ∙ g.requests c;
  cells = λ d p e t. t;
  stays_here = λ p t. absurd (not_running (held_at c w.names) p runs (g.stay c p t));
  first_asks = λ h. h;
  first_ended = λ h. h;
  first_lost = λ h. h;
}) g
  where
    v : World
    v = named c (RequestOf None) w

    free : Plain (held_at c w.names)
    free = plain_running (held_at c w.names) runs

    ends : times c (c ∷ told.pending) + times c (ended_names v.ended) ≡ one_if (has_ended (held_at c v.names))
    ends =
        let a = one_here c told.pending in
        let b : times c told.pending + times c (ended_names w.ended) ≡ 0 = g.ended c ∙ free.ended in
        let e : one_if (has_ended (held_at c v.names)) ≡ 1 = ap (λ o. one_if (has_ended o)) (named_here c (RequestOf None) w) in
        omega (arith, a, b, e)

pub end_listed : (told : Tales) (c : ℕ) (o : Outcome) (w : World) → Listed (pending c told) w → Listed told (with_ended c o w)
end_listed told c o w g = record {
  apart = g.apart;
  asks = g.asks;
  ended = λ d. (let a = g.ended d in let b = names_last d w.ended (record { request = c; outcome = o }) in let e = split d in omega (arith, a, b, e));
  abandoned = g.abandoned;
  cells = g.cells;
  built = g.built;
  taken = g.taken;
  untold = g.untold;
  old_asks = g.old_asks;
  old_lost = g.old_lost;
  requests = g.requests;
  stay = g.stay;
  first_asks = g.first_asks;
  first_ended = longer told.first_ended w.ended (record { request = c; outcome = o }) g.first_ended;
  first_lost = g.first_lost;
}
  where
    split : (d : ℕ) → times d (c ∷ told.pending) ≡ times d (c ∷ []) + times d told.pending
    split d = times_app d (c ∷ []) told.pending

-- what is told and listed where a name goes
pub record Forgets (c : ℕ) (before after : Tales) (asks : List Asked) (ended : List Ended) (abandoned : List ℕ) (w : World) : Type 0 where
  pub asks_gone : (d : ℕ) → times d (ask_cells asks) ≡ cond (c == d) 0 (times d (ask_cells w.asks))
  pub ended_gone : (d : ℕ) → times d after.pending + times d (ended_names ended) ≡ cond (c == d) 0 (times d before.pending + times d (ended_names w.ended))
  pub abandoned_gone : (d : ℕ) → times d abandoned ≡ cond (c == d) 0 (times d w.abandoned)
  pub taken : (d p : ℕ) (b : Bool) → nat_eq c d ≡ false → held_at d w.names ≡ Some (AskCell p b) → after.asks p ≡ b
  pub untold : (d p : ℕ) (b : Bool) → nat_eq c d ≡ false → held_at d w.names ≡ Some (AskCell p b) → after.lost p ≡ true → ⊥
  pub old_asks : (p : ℕ) → after.asks p ≡ true → p < w.next
  pub old_lost : (p : ℕ) → after.lost p ≡ true → p < w.next
  pub requests : (d : ℕ) → nat_eq c d ≡ false → after.requests d ≡ before.requests d
  pub no_request : after.requests c ≡ false
  pub cells : (d p : ℕ) → nat_eq c d ≡ false → after.cells d ≡ Some p → before.cells d ≡ Some p
  pub none_stays : (p : ℕ) → after.cells c ≡ Some p → ⊥
  pub first_asks : StartsWith before.first_asks w.asks → StartsWith after.first_asks asks
  pub first_ended : StartsWith before.first_ended w.ended → StartsWith after.first_ended ended
  pub first_lost : StartsWith before.first_lost w.abandoned → StartsWith after.first_lost abandoned

-- a name goes
pub forgotten : (c : ℕ) (before after : Tales) (asks : List Asked) (ended : List Ended) (abandoned : List ℕ) (w : World) → Forgets c before after asks ended abandoned w → Listed before w → Listed after (record (unnamed c w) { asks = asks; ended = ended; abandoned = abandoned })
forgotten c before after asks ended abandoned w h g = changed c before after w v (record {
  nodes = refl;
  next = refl;
  apart = left_apart c w.names;
  others = λ d e. other_unnamed c d w e;
  asks = λ d e. h.asks_gone d ∙ ap (λ b. cond b 0 (times d (ask_cells w.asks))) e;
  ended = λ d e. h.ended_gone d ∙ ap (λ b. cond b 0 (times d before.pending + times d (ended_names w.ended))) e;
  abandoned = λ d e. h.abandoned_gone d ∙ ap (λ b. cond b 0 (times d w.abandoned)) e;
  asks_here = h.asks_gone c ∙ ap (λ b. cond b 0 (times c (ask_cells w.asks))) (same_here c) ∙ ap (λ o. one_if (is_untaken o)) (sym (unnamed_here c w));
  ended_here = h.ended_gone c ∙ ap (λ b. cond b 0 (times c before.pending + times c (ended_names w.ended))) (same_here c) ∙ ap (λ o. one_if (has_ended o)) (sym (unnamed_here c w));
  abandoned_here = (let a : times c abandoned ≡ 0 = h.abandoned_gone c ∙ ap (λ b. cond b 0 (times c w.abandoned)) (same_here c) in omega (arith, a));
  cell_here = λ p b e. absurd (no_cell p b (sym (unnamed_here c w) ∙ e));
  taken = h.taken;
  untold = h.untold;
  old_asks = h.old_asks;
  old_lost = h.old_lost;
  requests = h.requests;
  request_here = ap is_request (unnamed_here c w) ∙ sym h.no_request;
  cells = h.cells;
  stays_here = λ p t. absurd (h.none_stays p t);
  first_asks = h.first_asks;
  first_ended = h.first_ended;
  first_lost = h.first_lost;
}) g
  where
    v : World
    v = record (unnamed c w) { asks = asks; ended = ended; abandoned = abandoned }

pub same_times : (c d n : ℕ) → (c ≡ d → n ≡ 0) → n ≡ cond (c == d) 0 n
same_times c d n h = decide (nat_eq c d) refl
  where
    decide : (b : Bool) → nat_eq c d ≡ b → n ≡ cond b 0 n
    decide true e = h (sym (same_number c d e))
    decide false e = refl

-- an ask's cell lets its name go
abbrev pub let_go : ℕ → (ℕ → Option ℕ) → ℕ → Option ℕ
let_go c cells d = cond (c == d) None (cells d)

pub gone_stays : (c p : ℕ) (cells : ℕ → Option ℕ) → let_go c cells c ≡ Some p → ⊥
gone_stays c p cells e = no_number p (sym (ap (λ (b : Bool). cond b None (cells c)) (same_here c)) ∙ e)
  where
    no_number : (p : ℕ) → ◌≡◌ {A = Option ℕ} None (Some p) → ⊥
    no_number p e = cc

pub other_stays : (c d p : ℕ) (cells : ℕ → Option ℕ) → nat_eq c d ≡ false → let_go c cells d ≡ Some p → cells d ≡ Some p
other_stays c d p cells e t = sym (ap (λ (b : Bool). cond b None (cells d)) e) ∙ t

-- a reply of an ask that was taken
abbrev pub replied_to : ℕ → Tales → Tales
replied_to c told = record told { cells = let_go c told.cells; first_lost = dropped c told.first_lost }

pub reply_listed : (told : Tales) (c p : ℕ) (w : World) → held_at c w.names ≡ Some (AskCell p true) → Listed told w → Listed (replied_to c told) (without_abandoned c (unnamed c w))
reply_listed told c p w at g = forgotten c told (replied_to c told) w.asks w.ended (dropped c w.abandoned) w (record {
  asks_gone = λ d. same_times c d (times d (ask_cells w.asks)) (λ e. subst (λ (k : ℕ). times k (ask_cells w.asks) ≡ 0) e no_asks);
  ended_gone = λ d. same_times c d (times d told.pending + times d (ended_names w.ended)) (λ e. subst (λ (k : ℕ). times k told.pending + times k (ended_names w.ended) ≡ 0) e no_ends);
  abandoned_gone = λ d. dropped_times c d w.abandoned ∙ drops d (nat_eq c d) refl;
  taken = λ d q b e f. g.taken d q b f;
  untold = λ d q b e f t. g.untold d q b f t;
  old_asks = g.old_asks;
  old_lost = g.old_lost;
  requests = λ d e. refl;
  no_request = sym (g.requests c) ∙ ap is_request at;
  cells = λ d q e t. other_stays c d q told.cells e t;
  none_stays = λ q t. gone_stays c q told.cells t;
  first_asks = λ h. h;
  first_ended = λ h. h;
  first_lost = λ h. (dropped c h.0, ap (dropped c) h.1 ∙ filter-append (λ x. not (x == c)) told.first_lost h.0);
}) g
  where
    no_asks : times c (ask_cells w.asks) ≡ 0
    no_asks = g.asks c ∙ ap (λ o. one_if (is_untaken o)) at

    no_ends : times c told.pending + times c (ended_names w.ended) ≡ 0
    no_ends = g.ended c ∙ ap (λ o. one_if (has_ended o)) at

    swap : (d : ℕ) (b : Bool) → nat_eq c d ≡ b → nat_eq d c ≡ b
    swap d true e = grind (arith, nat_tests)
    swap d false e = grind (arith, nat_tests)

    drops : (d : ℕ) (b : Bool) → nat_eq c d ≡ b → cond (not (d == c)) (times d w.abandoned) 0 ≡ cond (c == d) 0 (times d w.abandoned)
    drops d true e = ap (λ q. cond (not q) (times d w.abandoned) 0) (swap d true e) ∙ sym (ap (λ q. cond q 0 (times d w.abandoned)) e)
    drops d false e = ap (λ q. cond (not q) (times d w.abandoned) 0) (swap d false e) ∙ sym (ap (λ q. cond q 0 (times d w.abandoned)) e)
