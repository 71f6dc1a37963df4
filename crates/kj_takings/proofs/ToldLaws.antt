-- What one call of a loop does to names of requests, to the lists and to the cells of asks.
use Rattle.std.proofs.Common.{◌≡◌, ℕ, ◌+◌, ◌≤◌, List, [], ◌∷◌, ◌++◌, Bool, true, false, not, ◌||◌, Option, None, Some, arith, refl, sym, ap, ◌∙◌, subst}
use Rattle.std.specs.Prelude.{nat_eq}
use Rattle.std.proofs.lemmas.Bool.{false≢true}
use Rattle.std.proofs.lemmas.Bool.Decides.{nat_tests}
use Rattle.kj_base.specs.Commands.{Stop, Reply}
use Rattle.kj_base.specs.declared.numbers.Limits.{Limits}
use Rattle.kj_base.specs.declared.outcomes.Outcome.{Outcome}
use Rattle.kj_model.specs.World.{World, State, Setting, Named, Held, AskCell, RequestOf, Asked, Ended, held_at, new_state}
use Rattle.kj_model.specs.Changes.{silent, named}
use Rattle.kj_model.specs.Free.{Guard, free, usual}
use Rattle.kj_model.specs.Effects.{node_named, effect}
use Rattle.kj_model.specs.Apply.{Refused, refusal, refused_stopped, refused_unknown, refused_wrong, refused_busy, refused_full, is_busy_at, is_full, applied}
use Rattle.kj_model.specs.Uses.{IsAsk, is_name, is_live_request, found_if, has_role}
use Rattle.kj_model.specs.Calls.{Call, CallApply, CallTakeAsk, CallTakeEnded, CallTakeAbandoned, Reply as ReplyOf, Applied, TookAsk, TookEnded, TookAbandoned, take_ask_of, take_ended_of, take_abandoned_of, call, calls}
use Rattle.kj_model.specs.Framed.{times}
use Rattle.kj_ownership.specs.Fits.{Fits}
use Rattle.kj_ownership.specs.Kept.{is_open}
use Rattle.kj_ownership.specs.Standing.{one_if}
use Rattle.kj_ownership.proofs.Premises.{allowed, found_none, request_is}
use Rattle.kj_takings.specs.Told.{ask_cells, ended_names, is_untaken, has_request, has_ended, is_lost_ask, ask_node, is_done, begins, request_after, lets_go, asks_left, ended_left, abandoned_left, StartsWith, LeavesList, NoneCloses, IsReached}
use Rattle.kj_takings.proofs.ToldListed.{Tales, Listed, same_ended}
use Rattle.kj_takings.proofs.ToldFrees.{free_leaves}
use Rattle.kj_takings.proofs.ToldChanges.{named_here, unnamed_here}
use Rattle.kj_takings.proofs.ToldTakings.{first_ask, first_end}
use Rattle.kj_takings.proofs.ToldLoops.{tells, goes_on, reached, reached_goes}

-- a loop that has made some calls
pub new_is_reached : (setting : Setting) (limits : Limits) → IsReached setting (new_state limits)
new_is_reached setting limits = record { limits = limits; before = []; opens = tt; here = refl }

opens_more : (cs : List Call) (c : Call) → NoneCloses cs → is_open c ≡ true → NoneCloses (cs ++ c ∷ [])
opens_more [] c h e = (e, tt)
opens_more (d ∷ cs) c h e = (h.0, opens_more cs c h.1 e)

calls_more : (setting : Setting) (cs : List Call) (c : Call) (s : State) → (calls setting (cs ++ c ∷ []) s).0 ≡ (call setting c (calls setting cs s).0).0
calls_more setting [] c s = refl
calls_more setting (d ∷ cs) c s = calls_more setting cs c (call setting d s).0

pub next_is_reached : (setting : Setting) (c : Call) (s : State) → is_open c ≡ true → IsReached setting s → IsReached setting (call setting c s).0
next_is_reached setting c s opens r = record {
  limits = r.limits;
  before = r.before ++ c ∷ [];
  opens = opens_more r.before c r.opens opens;
  here = ap (λ (t : State). (call setting c t).0) r.here ∙ sym (calls_more setting r.before c (new_state r.limits));
}

-- names of requests
pub requests_after : (setting : Setting) (c : Call) (s : State) (n : ℕ) → Fits setting → is_open c ≡ true → IsReached setting s → has_request (call setting c s).0.world n ≡ request_after n c (call setting c s).1 (has_request s.world n)
requests_after setting c s n fits opens r =
    let x = reached_goes setting c s fits opens r in
    x.2.listed.requests n ∙ x.2.requests n ∙ ap (request_after n c (call setting c s).1) (sym (x.1.requests n))

pub begins_new : (setting : Setting) (c : Call) (s : State) (n : ℕ) → Fits setting → is_open c ≡ true → IsReached setting s → begins n c (call setting c s).1 ≡ true → has_request s.world n ≡ false
begins_new setting c s n fits opens r b = let x = reached_goes setting c s fits opens r in x.1.requests n ∙ x.2.new n b

stop_ends : (guard : Guard) (request : ℕ) (s : State) → has_ended (held_at request (effect guard (Stop request) s).world.names) ≡ true
stop_ends guard request s =
    let t = silent (named request (RequestOf None)) s in
    let l = free_leaves guard (node_named request s.world) t in
    same_ended (held_at request t.world.names) (held_at request (free guard (node_named request s.world) t).world.names) (l.kinds request) ∙ ap has_ended (named_here request (RequestOf None) s.world)

stopped_at : (setting : Setting) (request : ℕ) (s : State) (o : Option Refused) → refusal setting false (Stop request) s ≡ o → is_done (Applied (applied o (Stop request) s).1) ≡ true → (is_live_request (held_at request s.world.names) ≡ true) × (has_ended (held_at request (applied o (Stop request) s).0.world.names) ≡ true)
stopped_at setting request s (Some refused) e d = absurd (false≢true d)
stopped_at setting request s None e d =
    let a = allowed setting false (Stop request) s e in
    let h = request_is (held_at request s.world.names) (found_none _ _ _ a.right).0 in
    (ap is_live_request h.1, stop_ends (usual s.world) request s)

pub stops_live : (setting : Setting) (request : ℕ) (s : State) → is_done (call setting (CallApply (Stop request)) s).1 ≡ true → (is_live_request (held_at request s.world.names) ≡ true) × (has_ended (held_at request (call setting (CallApply (Stop request)) s).0.world.names) ≡ true)
stops_live setting request s d = stopped_at setting request s (refusal setting false (Stop request) s) refl d

-- the lists
pub asks_stay : (setting : Setting) (c : Call) (s : State) → Fits setting → is_open c ≡ true → IsReached setting s → StartsWith (asks_left c s.world) (call setting c s).0.world.asks
asks_stay setting c s fits opens r =
    let x = reached_goes setting c s fits opens r in
    subst (λ (front : List Asked). StartsWith front (call setting c s).0.world.asks) (x.2.first_asks refl) x.2.listed.first_asks

pub ended_stay : (setting : Setting) (c : Call) (s : State) → Fits setting → is_open c ≡ true → IsReached setting s → StartsWith (ended_left c s.world) (call setting c s).0.world.ended
ended_stay setting c s fits opens r =
    let x = reached_goes setting c s fits opens r in
    subst (λ (front : List Ended). StartsWith front (call setting c s).0.world.ended) (x.2.first_ended refl) x.2.listed.first_ended

pub abandoned_stay : (setting : Setting) (c : Call) (s : State) → Fits setting → is_open c ≡ true → IsReached setting s → StartsWith (abandoned_left c (call setting c s).1 s.world) (call setting c s).0.world.abandoned
abandoned_stay setting c s fits opens r =
    let x = reached_goes setting c s fits opens r in
    subst (λ (front : List ℕ). StartsWith front (call setting c s).0.world.abandoned) (x.2.first_lost refl) x.2.listed.first_lost

-- what is taken
none_told : {A : Type 0} (x : A) → ◌≡◌ {A = Option A} (Some x) None → ⊥
none_told x e = cc

same_told : {A : Type 0} (x y : A) → ◌≡◌ {A = Option A} (Some x) (Some y) → x ≡ y
same_told x y e = cc

ask_of : (o p : Option Asked) → TookAsk o ≡ TookAsk p → o ≡ p
ask_of o p e = cc

end_of : (o p : Option Ended) → TookEnded o ≡ TookEnded p → o ≡ p
end_of o p e = cc

cell_of : (o p : Option ℕ) → TookAbandoned o ≡ TookAbandoned p → o ≡ p
cell_of o p e = cc

no_ask_at : (xs : List Asked) (w : World) → (take_ask_of xs w).1 ≡ None → xs ≡ []
no_ask_at [] w e = refl
no_ask_at (a ∷ more) w e = absurd (none_told a e)

pub no_ask : (setting : Setting) (s : State) → (call setting CallTakeAsk s).1 ≡ TookAsk None → s.world.asks ≡ []
no_ask setting s e = no_ask_at s.world.asks s.world (ask_of _ None e)

no_end_at : (xs : List Ended) (w : World) → (take_ended_of xs w).1 ≡ None → xs ≡ []
no_end_at [] w e = refl
no_end_at (a ∷ more) w e = absurd (none_told a e)

pub no_end : (setting : Setting) (s : State) → (call setting CallTakeEnded s).1 ≡ TookEnded None → s.world.ended ≡ []
no_end setting s e = no_end_at s.world.ended s.world (end_of _ None e)

no_cell_at : (xs : List ℕ) (w : World) → (take_abandoned_of xs w).1 ≡ None → xs ≡ []
no_cell_at [] w e = refl
no_cell_at (a ∷ more) w e = absurd (none_told a e)

pub no_cell : (setting : Setting) (s : State) → (call setting CallTakeAbandoned s).1 ≡ TookAbandoned None → s.world.abandoned ≡ []
no_cell setting s e = no_cell_at s.world.abandoned s.world (cell_of _ None e)

-- the first of a list
ask_first : (xs : List Asked) (w : World) (a : Asked) → (take_ask_of xs w).1 ≡ Some a → (more : List Asked) × (xs ≡ a ∷ more)
ask_first [] w a e = absurd (none_told a (sym e))
ask_first (b ∷ more) w a e = (more, ap (λ (y : Asked). y ∷ more) (same_told b a e))

end_first : (xs : List Ended) (w : World) (a : Ended) → (take_ended_of xs w).1 ≡ Some a → (more : List Ended) × (xs ≡ a ∷ more)
end_first [] w a e = absurd (none_told a (sym e))
end_first (b ∷ more) w a e = (more, ap (λ (y : Ended). y ∷ more) (same_told b a e))

cell_first : (xs : List ℕ) (w : World) (a : ℕ) → (take_abandoned_of xs w).1 ≡ Some a → (more : List ℕ) × (xs ≡ a ∷ more)
cell_first [] w a e = absurd (none_told a (sym e))
cell_first (b ∷ more) w a e = (more, ap (λ (y : ℕ). y ∷ more) (same_told b a e))

-- after an ask was told its cell is that of an ask that was taken
ask_held : (told : Tales) (a : Asked) (more : List Asked) (s : State) → s.world.asks ≡ a ∷ more → Listed told s.world → (p : ℕ) × (held_at a.cell (Rattle.kj_model.specs.Calls.take_ask s.world).0.names ≡ Some (AskCell p true))
ask_held told a more s is g =
    let h = first_ask told a more s.world is g in
    (h.0, ap (λ (xs : List Asked). held_at a.cell (take_ask_of xs s.world).0.names) is ∙ ap (λ (o : Option Held). held_at a.cell (Rattle.kj_model.specs.Calls.ask_taken_in a.cell o (record s.world { asks = more })).names) h.1 ∙ named_here a.cell (AskCell h.0 true) (record s.world { asks = more }))

pub ask_taken : (setting : Setting) (s : State) (a : Asked) → Fits setting → IsReached setting s → (call setting CallTakeAsk s).1 ≡ TookAsk (Some a) → (p : ℕ) × (held_at a.cell (call setting CallTakeAsk s).0.world.names ≡ Some (AskCell p true))
ask_taken setting s a fits r e =
    let x = reached setting s fits r in
    let f = ask_first s.world.asks s.world a (ask_of _ (Some a) e) in
    ask_held x.0 a f.0 s f.1 x.1.listed

pub ask_leaves : (setting : Setting) (s : State) (a : Asked) → Fits setting → IsReached setting s → (call setting CallTakeAsk s).1 ≡ TookAsk (Some a) → LeavesList a.cell (ask_cells s.world.asks) (ask_cells (call setting CallTakeAsk s).0.world.asks)
ask_leaves setting s a fits r e =
    let x = reached setting s fits r in
    let f = ask_first s.world.asks s.world a (ask_of _ (Some a) e) in
    let h = first_ask x.0 a f.0 s.world f.1 x.1.listed in
    let k = ask_taken setting s a fits r e in
    let y = goes_on x.0 setting CallTakeAsk s fits refl x.1 in
    record {
      was = x.1.listed.asks a.cell ∙ ap (λ (o : Option Held). one_if (is_untaken o)) h.1;
      gone = y.listed.asks a.cell ∙ ap (λ (o : Option Held). one_if (is_untaken o)) k.1;
    }

pub end_goes : (setting : Setting) (s : State) (a : Ended) → (call setting CallTakeEnded s).1 ≡ TookEnded (Some a) → held_at a.request (call setting CallTakeEnded s).0.world.names ≡ None
end_goes setting s a e =
    let f = end_first s.world.ended s.world a (end_of _ (Some a) e) in
    ap (λ (xs : List Ended). held_at a.request (take_ended_of xs s.world).0.names) f.1 ∙ unnamed_here a.request (record s.world { ended = f.0 })

pub end_had_ended : (setting : Setting) (s : State) (a : Ended) → Fits setting → IsReached setting s → (call setting CallTakeEnded s).1 ≡ TookEnded (Some a) → has_ended (held_at a.request s.world.names) ≡ true
end_had_ended setting s a fits r e =
    let x = reached setting s fits r in
    let f = end_first s.world.ended s.world a (end_of _ (Some a) e) in
    ap has_ended (first_end x.0 a f.0 s.world x.1.none f.1 x.1.listed)

pub end_leaves : (setting : Setting) (s : State) (a : Ended) → Fits setting → IsReached setting s → (call setting CallTakeEnded s).1 ≡ TookEnded (Some a) → LeavesList a.request (ended_names s.world.ended) (ended_names (call setting CallTakeEnded s).0.world.ended)
end_leaves setting s a fits r e =
    let x = reached setting s fits r in
    let y = goes_on x.0 setting CallTakeEnded s fits refl x.1 in
    record {
      was = (tells x.0 s x.1).ended a.request ∙ ap one_if (end_had_ended setting s a fits r e);
      gone = (tells _ (call setting CallTakeEnded s).0 y).ended a.request ∙ ap (λ (o : Option Held). one_if (has_ended o)) (end_goes setting s a e);
    }

pub cell_goes : (setting : Setting) (s : State) (c : ℕ) → (call setting CallTakeAbandoned s).1 ≡ TookAbandoned (Some c) → held_at c (call setting CallTakeAbandoned s).0.world.names ≡ None
cell_goes setting s c e =
    let f = cell_first s.world.abandoned s.world c (cell_of _ (Some c) e) in
    ap (λ (xs : List ℕ). held_at c (take_abandoned_of xs s.world).0.names) f.1 ∙ unnamed_here c s.world

one_of : (t : ℕ) (b : Bool) → 1 ≤ t → t ≤ one_if b → t ≡ 1
one_of t true a e = omega (arith, a, e)
one_of t false a e = absurd (omega (arith, a, e))

none_of : (t : ℕ) (b : Bool) → b ≡ false → t ≤ one_if b → t ≡ 0
none_of t true e h = absurd (false≢true (sym e))
none_of t false e h = omega (arith, h)

pub cell_leaves : (setting : Setting) (s : State) (c : ℕ) → Fits setting → IsReached setting s → (call setting CallTakeAbandoned s).1 ≡ TookAbandoned (Some c) → LeavesList c s.world.abandoned (call setting CallTakeAbandoned s).0.world.abandoned
cell_leaves setting s c fits r e =
    let x = reached setting s fits r in
    let y = goes_on x.0 setting CallTakeAbandoned s fits refl x.1 in
    let f = cell_first s.world.abandoned s.world c (cell_of _ (Some c) e) in
    let v = (call setting CallTakeAbandoned s).0.world in
    record {
      was = one_of (times c s.world.abandoned) (is_lost_ask s.world.nodes (held_at c s.world.names)) (subst (λ (xs : List ℕ). 1 ≤ times c xs) (sym f.1) (first_here c f.0)) (x.1.listed.abandoned c);
      gone = none_of (times c v.abandoned) (is_lost_ask v.nodes (held_at c v.names)) (ap (is_lost_ask v.nodes) (cell_goes setting s c e)) (y.listed.abandoned c);
    }
  where
    first_here : (c : ℕ) (xs : List ℕ) → 1 ≤ times c (c ∷ xs)
    first_here c xs = let e : nat_eq c c ≡ true = grind (arith, nat_tests) in grind (arith, nat_tests)

-- the cells of asks
node_is : (o : Option Held) (p : ℕ) → ask_node o ≡ Some p → (b : Bool) × (o ≡ Some (AskCell p b))
node_is (Some (AskCell q b)) p e = (b, ap (λ (n : ℕ). Some (AskCell n b)) (same_told q p e))
node_is None p e = absurd (none_told p (sym e))
node_is (Some _) p e = absurd (none_told p (sym e))

pub cell_stays : (setting : Setting) (c : Call) (s : State) (n p : ℕ) (b : Bool) → Fits setting → is_open c ≡ true → IsReached setting s → lets_go n c (call setting c s).1 ≡ false → held_at n s.world.names ≡ Some (AskCell p b) → (d : Bool) × (held_at n (call setting c s).0.world.names ≡ Some (AskCell p d))
cell_stays setting c s n p b fits opens r keeps at =
    let x = reached_goes setting c s fits opens r in
    node_is (held_at n (call setting c s).0.world.names) p (x.2.listed.stay n p (x.2.cells n p keeps (ap ask_node at)))

one_more : (a b : Bool) (t : ℕ) → one_if a ≡ t + one_if b → b ≡ true → a ≡ true
one_more true b t e h = refl
one_more false b t e h = absurd (nothing t (ap one_if h))
  where
    nothing : (t : ℕ) → one_if b ≡ 1 → ⊥
    nothing t f = omega (arith, e, f)

pub taken_stays : (setting : Setting) (c : Call) (s : State) (n p : ℕ) → Fits setting → is_open c ≡ true → IsReached setting s → lets_go n c (call setting c s).1 ≡ false → held_at n s.world.names ≡ Some (AskCell p true) → held_at n (call setting c s).0.world.names ≡ Some (AskCell p true)
taken_stays setting c s n p fits opens r keeps at =
    let x = reached_goes setting c s fits opens r in
    let k = node_is (held_at n (call setting c s).0.world.names) p (x.2.listed.stay n p (x.2.cells n p keeps (ap ask_node at))) in
    let t = one_more (x.2.after.asks p) (x.0.asks p) _ (x.2.asks p) (x.1.taken n p true at) in
    k.1 ∙ ap (λ (b : Bool). Some (AskCell p b)) (sym (x.2.listed.taken n p k.0 k.1) ∙ t)

-- a reply to such a cell
there : (n : ℕ) (names : List Named) (h : Held) → held_at n names ≡ Some h → is_name n names ≡ true
there n [] h e = absurd (none_told h (sym e))
there n (x ∷ xs) h e = decide (nat_eq x.name n) refl (there n xs h)
  where
    here : nat_eq x.name n ≡ true → is_name n (x ∷ xs) ≡ true
    here d = grind (arith, nat_tests)

    later : nat_eq x.name n ≡ false → (held_at n xs ≡ Some h → is_name n xs ≡ true) → held_at n (x ∷ xs) ≡ Some h → is_name n (x ∷ xs) ≡ true
    later d ih e = grind (arith, nat_tests)

    decide : (b : Bool) → nat_eq x.name n ≡ b → (held_at n xs ≡ Some h → is_name n xs ≡ true) → is_name n (x ∷ xs) ≡ true
    decide true d ih = here d
    decide false d ih = later d ih e

reply_at : (setting : Setting) (n : ℕ) (o : Outcome) (s : State) (b d e : Bool) (f : Option ℕ) → s.world.stopped ≡ b → is_name n s.world.names ≡ d → has_role IsAsk (held_at n s.world.names) ≡ e → s.world.firing ≡ f → b ≡ false → d ≡ true → e ≡ true → f ≡ None → refusal setting false (Reply n o) s ≡ refused_full (is_full setting (Reply n o) s.world)
reply_at setting n o s b d e f h1 h2 h3 h4 k1 k2 k3 k4 =
    ap (λ (x : Bool). refused_stopped x setting false (Reply n o) s) (h1 ∙ k1)
    ∙ ap (λ (x : Bool). refused_unknown (found_if (not x || false) n None) setting (Reply n o) s) (h2 ∙ k2)
    ∙ ap (λ (x : Bool). refused_wrong (found_if (not x) n None) setting (Reply n o) s) (h3 ∙ k3)
    ∙ ap (λ (x : Option ℕ). refused_busy (is_busy_at x (Reply n o) s) setting (Reply n o) s) (h4 ∙ k4)

pub reply_goes : (setting : Setting) (n p : ℕ) (o : Outcome) (s : State) → Fits setting → IsReached setting s → s.world.stopped ≡ false → held_at n s.world.names ≡ Some (AskCell p true) → refusal setting false (Reply n o) s ≡ refused_full (is_full setting (Reply n o) s.world)
reply_goes setting n p o s fits r runs at =
    let x = reached setting s fits r in
    reply_at setting n o s s.world.stopped (is_name n s.world.names) (has_role IsAsk (held_at n s.world.names)) s.world.firing refl refl refl refl runs (there n s.world.names (AskCell p true) at) (ap (has_role IsAsk) at) x.1.kept.calm
