-- Each call leaves the lists so that they tell each once; so a taking call frees a name that is spent.
use Rattle.std.proofs.Common.{◌≡◌, ℕ, ◌+◌, ◌≤◌, List, [], ◌∷◌, Bool, true, false, not, cond, ◌||◌, ◌&&◌, Option, None, Some, arith, refl, sym, ap, ◌∙◌, subst, ◌==◌}
use Rattle.std.specs.Prelude.{nat_eq, drop}
use Rattle.std.proofs.lemmas.Bool.{false≢true}
use Rattle.std.proofs.lemmas.Bool.Decides.{nat_tests}
use Rattle.kj_base.specs.Commands.{Command, Begin, Reply}
use Rattle.kj_base.specs.declared.numbers.Limits.{Limits}
use Rattle.kj_model.specs.World.{World, State, Setting, Held, AskCell, RequestOf, Asked, Ended, held_at, new_world}
use Rattle.kj_model.specs.Apply.{Refused, refusal, applied, apply}
use Rattle.kj_model.specs.Calls.{Call, CallApply, CallTurn, CallRun, CallWait, CallTakeAsk, CallTakeEnded, CallTakeAbandoned, CallClose, Reply as ReplyOf, Applied, TurnedBy, WaitedBy, TookAsk, TookEnded, TookAbandoned, ask_taken_in, take_ask_of, take_ended_of, take_abandoned_of, turn, run, wait, call, calls}
use Rattle.kj_model.specs.Framed.{times}
use Rattle.kj_model.specs.Nodes.{Entry}
use Rattle.kj_ownership.specs.Fits.{Fits}
use Rattle.kj_ownership.specs.Kept.{Kept, is_open, is_spent, TakesSpent}
use Rattle.kj_ownership.specs.Standing.{one_if}
use Rattle.kj_ownership.proofs.Calls.{rests_of}
use Rattle.kj_ownership.proofs.Premises.{allowed, found_none, new_absent}
use Rattle.kj_takings.specs.Told.{ask_cells, ended_names, is_request, has_request, has_ended, is_lost_ask, ask_node, is_begin_of, is_done, begins, begun, tells_end, ends_told, request_after, lets_go, asks_but, asks_left, ended_left, abandoned_left, StartsWith, NoneCloses, IsReached, first_asked, first_lost, ask_told, lost_told, told_in, TellsOnce}
use Rattle.kj_takings.proofs.ToldListed.{Tales, Listed, absent_kind, same_request}
use Rattle.kj_takings.proofs.ToldChanges.{no_true}
use Rattle.kj_takings.proofs.ToldCommands.{told_if, command_listed}
use Rattle.kj_takings.proofs.ToldTakings.{whole, and_told, ask_tale, end_tale, lost_tale, ask_told_listed, end_told_listed, lost_told_listed, first_ask, first_end, first_cell}
use Rattle.kj_takings.proofs.ToldTurns.{turn_listed, run_listed}
use Rattle.kj_takings.proofs.ToldWaits.{wait_listed}

first_here : (c : ℕ) (xs : List ℕ) → 1 ≤ times c (c ∷ xs)
first_here c xs = let e : nat_eq c c ≡ true = grind (arith, nat_tests) in grind (arith, nat_tests)

clash : (t : ℕ) → 1 ≤ t → t ≡ 0 → ⊥
clash t a b = omega (arith, a, b)

none_left : (t n : ℕ) → t ≤ n → n ≡ 0 → t ≡ 0
none_left t n a b = omega (arith, a, b)

ended_spent : (o : Option Held) (t : ℕ) → 1 ≤ t → t ≡ one_if (has_ended o) → is_spent o ≡ true
ended_spent (Some (RequestOf None)) t a e = refl
ended_spent (Some (RequestOf (Some n))) t a e = absurd (clash t a e)
ended_spent None t a e = refl
ended_spent (Some _) t a e = absurd (clash t a e)

lost_spent : (nodes : List Entry) (o : Option Held) (t : ℕ) → 1 ≤ t → t ≤ one_if (is_lost_ask nodes o) → is_spent o ≡ true
lost_spent nodes (Some (AskCell cell b)) t a e = refl
lost_spent nodes (Some (RequestOf None)) t a e = refl
lost_spent nodes (Some (RequestOf (Some n))) t a e = absurd (clash t a (none_left t 0 e refl))
lost_spent nodes None t a e = refl
lost_spent nodes (Some _) t a e = absurd (clash t a (none_left t 0 e refl))

-- where each is told once, a taking call frees a name that leaves no root
pub told_spent : (c : Call) (w : World) → TellsOnce w → TakesSpent c w
told_spent CallTakeEnded w g = λ e more is. ended_spent (held_at e.request w.names) (times e.request (ended_names w.ended)) (subst (λ (xs : List Ended). 1 ≤ times e.request (ended_names xs)) (sym is) (first_here e.request (ended_names more))) (g.ended e.request)
told_spent CallTakeAbandoned w g = λ cell more is. lost_spent w.nodes (held_at cell w.names) (times cell w.abandoned) (subst (λ (xs : List ℕ). 1 ≤ times cell xs) (sym is) (first_here cell more)) (g.abandoned cell)
told_spent _ w g = tt

-- a new loop
abbrev pub no_tales : Tales
no_tales = record { asks = λ p. false; lost = λ p. false; pending = []; requests = λ n. false; cells = λ n. None; first_asks = []; first_ended = []; first_lost = [] }

no_cell : (p : ℕ) (b : Bool) → ◌≡◌ {A = Option Held} None (Some (AskCell p b)) → ⊥
no_cell p b e = cc

no_number : (p : ℕ) → ◌≡◌ {A = Option ℕ} None (Some p) → ⊥
no_number p e = cc

pub new_listed : (limits : Limits) → Listed no_tales (new_world limits)
new_listed limits = record {
  apart = λ c. omega arith;
  asks = λ c. refl;
  ended = λ c. refl;
  abandoned = λ c. omega arith;
  cells = λ c d p a b e f. absurd (no_cell p a e);
  built = λ c p b e. absurd (no_cell p b e);
  taken = λ c p b e. absurd (no_cell p b e);
  untold = λ c p b e t. no_cell p b e;
  old_asks = λ p t. absurd (false≢true t);
  old_lost = λ p t. absurd (false≢true t);
  requests = λ c. refl;
  stay = λ c p t. absurd (no_number p t);
  first_asks = whole [];
  first_ended = whole [];
  first_lost = whole [];
}

-- at the beginning of a call all names of cells are there, and each list is its own front
abbrev pub afresh : World → Tales → Tales
afresh w told = record told { cells = λ n. ask_node (held_at n w.names); first_asks = w.asks; first_ended = w.ended; first_lost = w.abandoned }

pub afresh_listed : (told : Tales) (w : World) → Listed told w → Listed (afresh w told) w
afresh_listed told w g = record {
  apart = g.apart;
  asks = g.asks;
  ended = g.ended;
  abandoned = g.abandoned;
  cells = g.cells;
  built = g.built;
  taken = g.taken;
  untold = g.untold;
  old_asks = g.old_asks;
  old_lost = g.old_lost;
  requests = g.requests;
  stay = λ c p t. t;
  first_asks = whole w.asks;
  first_ended = whole w.ended;
  first_lost = whole w.abandoned;
}

-- what is told after a call, and listed
pub record Goes (told : Tales) (c : Call) (reply : ReplyOf) (w v : World) : Type 0 where
  pub after : Tales
  pub listed : Listed after v
  pub pending : after.pending ≡ told.pending
  pub requests : (n : ℕ) → after.requests n ≡ request_after n c reply (told.requests n)
  pub new : (n : ℕ) → begins n c reply ≡ true → told.requests n ≡ false
  pub was : (n : ℕ) → tells_end n reply ≡ true → told.requests n ≡ true
  pub asks : (p : ℕ) → one_if (after.asks p) ≡ times p (ask_told c w) + one_if (told.asks p)
  pub lost : (p : ℕ) → one_if (after.lost p) ≡ times p (lost_told c w) + one_if (told.lost p)
  pub cells : (n p : ℕ) → lets_go n c reply ≡ false → told.cells n ≡ Some p → after.cells n ≡ Some p
  pub first_asks : told.first_asks ≡ w.asks → after.first_asks ≡ asks_left c w
  pub first_ended : told.first_ended ≡ w.ended → after.first_ended ≡ ended_left c w
  pub first_lost : told.first_lost ≡ w.abandoned → after.first_lost ≡ abandoned_left c reply w

-- a command
command_requests : (c : Command) (o : Option Refused) (told : Tales) (n : ℕ) → (told_if o c told).requests n ≡ request_after n (CallApply c) (Applied o) (told.requests n)
command_requests c (Some refused) told n = refl
command_requests (Begin request step words) None told n = refl
command_requests c None told n = refl

command_cells : (c : Command) (o : Option Refused) (told : Tales) (n p : ℕ) → lets_go n (CallApply c) (Applied o) ≡ false → told.cells n ≡ Some p → (told_if o c told).cells n ≡ Some p
command_cells c (Some refused) told n p e t = t
command_cells (Reply cell outcome) None told n p e t = ap (λ (b : Bool). cond b None (told.cells n)) e ∙ t
command_cells c None told n p e t = t

command_lost : (c : Command) (o : Option Refused) (told : Tales) (w : World) → told.first_lost ≡ w.abandoned → (told_if o c told).first_lost ≡ abandoned_left (CallApply c) (Applied o) w
command_lost (Reply cell outcome) (Some refused) told w e = e
command_lost (Reply cell outcome) None told w e = ap (Rattle.kj_model.specs.Nodes.dropped cell) e
command_lost c (Some refused) told w e = e
command_lost c None told w e = e

command_tells : (c : Command) (o : Option Refused) (told : Tales) → ((told_if o c told).pending ≡ told.pending) × ((told_if o c told).asks ≡ told.asks) × ((told_if o c told).lost ≡ told.lost) × ((told_if o c told).first_asks ≡ told.first_asks) × ((told_if o c told).first_ended ≡ told.first_ended)
command_tells c (Some refused) told = (refl, refl, refl, refl, refl)
command_tells (Begin request step words) None told = (refl, refl, refl, refl, refl)
command_tells (Reply cell outcome) None told = (refl, refl, refl, refl, refl)
command_tells c None told = (refl, refl, refl, refl, refl)

refused_none : (o : Option Refused) (c : Command) (s : State) → is_done (Applied (applied o c s).1) ≡ true → o ≡ None
refused_none None c s e = refl
refused_none (Some refused) c s e = absurd (false≢true e)

and_both : (a b : Bool) → a && b ≡ true → (a ≡ true) × (b ≡ true)
and_both true true e = (refl, refl)
and_both true false e = absurd (false≢true e)
and_both false b e = absurd (false≢true e)

absent_request : (n : ℕ) (w : World) → times n (Rattle.kj_model.specs.Framed.name_numbers w.names) ≡ 0 → is_request (held_at n w.names) ≡ false
absent_request n w z = same_request None (held_at n w.names) (absent_kind n w.names z)

begin_new : (setting : Setting) (c : Command) (n : ℕ) (s : State) → is_begin_of n (CallApply c) ≡ true → refusal setting false c s ≡ None → is_request (held_at n s.world.names) ≡ false
begin_new setting (Begin request step words) n s e none =
    let a = allowed setting false (Begin request step words) s none in
    subst (λ (k : ℕ). is_request (held_at k s.world.names) ≡ false) (sym (Rattle.kj_model.proofs.Spared.same_number request n e)) (absent_request request s.world (new_absent request false s.world.names (found_none _ _ _ a.untaken).0))
begin_new setting c n s e none = absurd (false≢true e)

command_goes : (told : Tales) (setting : Setting) (c : Command) (s : State) → Listed told s.world → Goes told (CallApply c) (Applied (apply setting false c s).1) s.world (apply setting false c s).0.world
command_goes told setting c s g =
    let o = (apply setting false c s).1 in
    let t = command_tells c o told in
    record {
      after = told_if o c told;
      listed = command_listed setting false c s told g;
      pending = t.0;
      requests = command_requests c o told;
      new = λ n b. (let x = and_both (is_done (Applied o)) (is_begin_of n (CallApply c)) b in sym (g.requests n) ∙ begin_new setting c n s x.1 (refused_none (refusal setting false c s) c s x.0));
      was = λ n e. absurd (false≢true e);
      asks = λ p. (let x = ap (λ (f : ℕ → Bool). one_if (f p)) t.1 in omega (arith, x));
      lost = λ p. (let x = ap (λ (f : ℕ → Bool). one_if (f p)) t.2 in omega (arith, x));
      cells = command_cells c o told;
      first_asks = λ e. t.3 ∙ e;
      first_ended = λ e. t.4 ∙ e;
      first_lost = command_lost c o told s.world;
    }

-- a call that tells nothing
abbrev pub Quiet : Call → ReplyOf → Type 0
Quiet c reply = (told : Tales) (w v : World) → Listed told v → Goes told c reply w v

turned_goes : (turned : Rattle.kj_model.specs.Calls.Turned) → Quiet CallTurn (TurnedBy turned)
turned_goes turned told w v g = record {
  after = told;
  listed = g;
  pending = refl;
  requests = λ n. refl;
  new = λ n b. absurd (false≢true b);
  was = λ n e. absurd (false≢true e);
  asks = λ p. omega arith;
  lost = λ p. omega arith;
  cells = λ n p e t. t;
  first_asks = λ e. e;
  first_ended = λ e. e;
  first_lost = λ e. e;
}

run_goes : (turns : ℕ) (turned : Rattle.kj_model.specs.Calls.Turned) → Quiet (CallRun turns) (TurnedBy turned)
run_goes turns turned told w v g = record {
  after = told;
  listed = g;
  pending = refl;
  requests = λ n. refl;
  new = λ n b. absurd (false≢true b);
  was = λ n e. absurd (false≢true e);
  asks = λ p. omega arith;
  lost = λ p. omega arith;
  cells = λ n p e t. t;
  first_asks = λ e. e;
  first_ended = λ e. e;
  first_lost = λ e. e;
}

wait_goes : (name turns : ℕ) (waited : Rattle.kj_model.specs.Calls.Waited) → Quiet (CallWait name turns) (WaitedBy waited)
wait_goes name turns waited told w v g = record {
  after = told;
  listed = g;
  pending = refl;
  requests = λ n. refl;
  new = λ n b. absurd (false≢true b);
  was = λ n e. absurd (false≢true e);
  asks = λ p. omega arith;
  lost = λ p. omega arith;
  cells = λ n p e t. t;
  first_asks = λ e. e;
  first_ended = λ e. e;
  first_lost = λ e. e;
}

-- the taking calls
told_more : (p q : ℕ) (told : ℕ → Bool) → told p ≡ false → one_if (and_told p told q) ≡ times q (p ∷ []) + one_if (told q)
told_more p q told e = decide (nat_eq p q) refl
  where
    here : nat_eq p q ≡ true → told q ≡ false → one_if (and_told p told q) ≡ times q (p ∷ []) + one_if (told q)
    here d f = grind (arith, nat_tests)

    decide : (b : Bool) → nat_eq p q ≡ b → one_if (and_told p told q) ≡ times q (p ∷ []) + one_if (told q)
    decide true d = here d (ap told (Rattle.kj_model.proofs.Spared.same_number p q d) ∙ e)
    decide false d = grind (arith, nat_tests)

ask_goes : (told : Tales) (xs : List Asked) (w : World) → w.asks ≡ xs → Listed told w → Goes told CallTakeAsk (TookAsk (take_ask_of xs w).1) w (take_ask_of xs w).0
ask_goes told [] w is g = record {
  after = told;
  listed = g;
  pending = refl;
  requests = λ n. refl;
  new = λ n b. absurd (false≢true b);
  was = λ n e. absurd (false≢true e);
  asks = λ p. (let x : times p (first_asked w.asks w) ≡ 0 = ap (λ (ys : List Asked). times p (first_asked ys w)) is in omega (arith, x));
  lost = λ p. omega arith;
  cells = λ n p e t. t;
  first_asks = λ e. e ∙ is ∙ sym (ap (λ (ys : List Asked). drop 1 ys) is);
  first_ended = λ e. e;
  first_lost = λ e. e;
}
ask_goes told (a ∷ more) w is g =
    let h = first_ask told a more w is g in
    let at = h.1 in
    record {
      after = ask_tale h.0 more told;
      listed = subst (λ (o : Option Held). Listed (ask_tale h.0 more told) (ask_taken_in a.cell o (record w { asks = more }))) (sym at) (ask_told_listed told a more h.0 w is at g);
      pending = refl;
      requests = λ n. refl;
      new = λ n b. absurd (false≢true b);
      was = λ n e. absurd (false≢true e);
      asks = λ p. told_more h.0 p told.asks (g.taken a.cell h.0 false at) ∙ ap (λ (ns : List ℕ). times p ns + one_if (told.asks p)) (sym (ap (λ (ys : List Asked). first_asked ys w) is ∙ ap Rattle.kj_takings.specs.Told.cell_node at));
      lost = λ p. omega arith;
      cells = λ n p e t. t;
      first_asks = λ e. sym (ap (λ (ys : List Asked). drop 1 ys) is);
      first_ended = λ e. e;
      first_lost = λ e. e;
    }

ended_goes : (told : Tales) (xs : List Ended) (w : World) → told.pending ≡ [] → w.ended ≡ xs → Listed told w → Goes told CallTakeEnded (TookEnded (take_ended_of xs w).1) w (take_ended_of xs w).0
ended_goes told [] w none is g = record {
  after = told;
  listed = g;
  pending = refl;
  requests = λ n. refl;
  new = λ n b. absurd (false≢true b);
  was = λ n e. absurd (false≢true e);
  asks = λ p. omega arith;
  lost = λ p. omega arith;
  cells = λ n p e t. t;
  first_asks = λ e. e;
  first_ended = λ e. e ∙ is ∙ sym (ap (λ (ys : List Ended). drop 1 ys) is);
  first_lost = λ e. e;
}
ended_goes told (x ∷ more) w none is g =
    let at = first_end told x more w none is g in
    record {
      after = end_tale x.request more told;
      listed = end_told_listed told x more w is at g;
      pending = refl;
      requests = λ n. swapped (told.requests n) (x.request == n);
      new = λ n b. absurd (false≢true b);
      was = λ n e. sym (g.requests n) ∙ ap (λ (k : ℕ). is_request (held_at k w.names)) (Rattle.kj_model.proofs.Spared.same_number x.request n e) ∙ ap is_request at;
      asks = λ p. omega arith;
      lost = λ p. omega arith;
      cells = λ n p e t. t;
      first_asks = λ e. e;
      first_ended = λ e. sym (ap (λ (ys : List Ended). drop 1 ys) is);
      first_lost = λ e. e;
    }
  where
    swapped : (a b : Bool) → a && not b ≡ not b && a
    swapped true true = refl
    swapped true false = refl
    swapped false true = refl
    swapped false false = refl

abandoned_goes : (told : Tales) (xs : List ℕ) (w : World) → w.abandoned ≡ xs → Listed told w → Goes told CallTakeAbandoned (TookAbandoned (take_abandoned_of xs w).1) w (take_abandoned_of xs w).0
abandoned_goes told [] w is g = record {
  after = told;
  listed = g;
  pending = refl;
  requests = λ n. refl;
  new = λ n b. absurd (false≢true b);
  was = λ n e. absurd (false≢true e);
  asks = λ p. omega arith;
  lost = λ p. (let x : times p (first_lost w.abandoned w) ≡ 0 = ap (λ (ys : List ℕ). times p (first_lost ys w)) is in omega (arith, x));
  cells = λ n p e t. t;
  first_asks = λ e. e ∙ sym (ap (λ (ys : List ℕ). asks_but ys w.asks) is);
  first_ended = λ e. e;
  first_lost = λ e. e ∙ is ∙ sym (ap (λ (ys : List ℕ). drop 1 ys) is);
}
abandoned_goes told (c ∷ more) w is g =
    let h = first_cell told c more w is g in
    let at = h.2 in
    record {
      after = lost_tale c h.0 (asks_but (c ∷ more) w.asks) more told;
      listed = lost_told_listed told c more h.0 h.1 w is at g;
      pending = refl;
      requests = λ n. refl;
      new = λ n b. absurd (false≢true b);
      was = λ n e. absurd (false≢true e);
      asks = λ p. omega arith;
      lost = λ p. told_more h.0 p told.lost (no_true (told.lost h.0) (g.untold c h.0 h.1 at)) ∙ ap (λ (ns : List ℕ). times p ns + one_if (told.lost p)) (sym (ap (λ (ys : List ℕ). first_lost ys w) is ∙ ap Rattle.kj_takings.specs.Told.cell_node at));
      cells = λ n p e t. goes n p (c == n) e t;
      first_asks = λ e. sym (ap (λ (ys : List ℕ). asks_but ys w.asks) is);
      first_ended = λ e. e;
      first_lost = λ e. sym (ap (λ (ys : List ℕ). drop 1 ys) is);
    }
  where
    goes : (n p : ℕ) (b : Bool) → b || (is_done (TookAbandoned (Some c)) && Rattle.kj_takings.specs.Told.is_reply_to n CallTakeAbandoned) ≡ false → told.cells n ≡ Some p → cond b None (told.cells n) ≡ Some p
    goes n p true e t = absurd (false≢true (sym e))
    goes n p false e t = t

pub call_goes : (told : Tales) (setting : Setting) (c : Call) (s : State) → Fits setting → is_open c ≡ true → Kept s → told.pending ≡ [] → Listed told s.world → Goes told c (call setting c s).1 s.world (call setting c s).0.world
call_goes told setting (CallApply c) s fits opens k none g = command_goes told setting c s g
call_goes told setting CallTurn s fits opens k none g = turned_goes (turn setting s).1 told s.world (turn setting s).0.world (turn_listed told setting s fits (rests_of s k) g)
call_goes told setting (CallRun turns) s fits opens k none g = run_goes turns (run setting turns s).1 told s.world (run setting turns s).0.world (run_listed told setting turns s fits (rests_of s k) g)
call_goes told setting (CallWait name turns) s fits opens k none g = wait_goes name turns (wait setting name turns s).1 told s.world (wait setting name turns s).0.world (wait_listed told setting name turns s fits (rests_of s k) k.none_awaited g)
call_goes told setting CallTakeAsk s fits opens k none g = ask_goes told s.world.asks s.world refl g
call_goes told setting CallTakeEnded s fits opens k none g = ended_goes told s.world.ended s.world none refl g
call_goes told setting CallTakeAbandoned s fits opens k none g = abandoned_goes told s.world.abandoned s.world refl g
call_goes told setting CallClose s fits opens k none g = absurd (false≢true opens)
