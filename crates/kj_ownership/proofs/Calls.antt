-- Each call keeps what a state keeps between two calls.
use Rattle.std.proofs.Common.{◌≡◌, ℕ, List, [], ◌∷◌, Bool, true, false, Option, None, Some, arith, refl, sym, ◌∙◌, subst, ◌==◌}
use Rattle.std.specs.Prelude.{nat_eq, filter, not}
use Rattle.std.proofs.lemmas.Bool.{false≢true}
use Rattle.std.proofs.lemmas.Bool.Decides.{nat_tests}
use Rattle.kj_base.specs.declared.numbers.Limits.{Limits}
use Rattle.kj_base.specs.Commands.{Command}
use Rattle.kj_model.specs.World.{World, State, Setting, Named, Held, AskCell, RequestOf, Asked, Ended, held_at, new_state}
use Rattle.kj_model.specs.Changes.{silent, unnamed}
use Rattle.kj_model.specs.Apply.{Refused, refusal, applied}
use Rattle.kj_model.specs.Calls.{ask_taken_in, ask_taken, take_ask_of, take_ended_of, take_abandoned_of, Call, CallApply, CallTurn, CallRun, CallWait, CallTakeAsk, CallTakeEnded, CallTakeAbandoned, CallClose, call, turn, run, wait}
use Rattle.kj_model.specs.Framed.{times, name_numbers}
use Rattle.kj_ownership.specs.Fits.{Fits}
use Rattle.kj_ownership.specs.Kept.{Rests, Kept, is_spent, TakesSpent, is_open}
use Rattle.kj_model.proofs.Spared.{no_form}
use Rattle.kj_model.proofs.Members.{in_none}
use Rattle.kj_model.proofs.Counts.{without_absent}
use Rattle.kj_ownership.proofs.Cancels.{new_owned}
use Rattle.kj_ownership.proofs.Reached.{Reached, reached_unnamed, reached_renamed, reached_lists}
use Rattle.kj_ownership.proofs.Premises.{allowed}
use Rattle.kj_ownership.proofs.Walks.{reached_here}
use Rattle.kj_ownership.proofs.Applied.{command_went}
use Rattle.kj_ownership.proofs.Turns.{Passes, turn_passes, run_passes}
use Rattle.kj_ownership.proofs.Waits.{IsWaited, wait_is}

pub rests_of : (s : State) → Kept s → Rests s
rests_of s k = record { owned = k.owned; shaped = k.shaped; calm = k.calm; left_over = k.left_over }

kept_passes : (s t : State) → Kept s → Passes s t → Kept t
kept_passes s t k p = record { owned = p.rests.owned; shaped = p.rests.shaped; calm = p.rests.calm; none_awaited = p.awaited k.none_awaited; left_over = p.rests.left_over }

kept_waited : (t : State) → IsWaited t → Kept t
kept_waited t w = record { owned = w.rests.owned; shaped = w.rests.shaped; calm = w.rests.calm; none_awaited = w.none; left_over = w.rests.left_over }

-- commands
applied_keeps : (o : Option Refused) (setting : Setting) (c : Command) (s : State) → refusal setting false c s ≡ o → Fits setting → Kept s → Kept (applied o c s).0
applied_keeps (Some refused) setting c s is fits k = k
applied_keeps None setting c s is fits k =
    let a = allowed setting false c s is in
    let w = command_went setting false c s fits a k.owned k.shaped in
    record { owned = w.standing; shaped = w.shaped; calm = w.same.firing ∙ k.calm; none_awaited = w.same.awaited ∙ k.none_awaited; left_over = λ runs. w.same.left_over ∙ k.left_over a.runs }

-- a change that keeps names, or takes one that leaves no root
kept_reached : (s t : State) → Kept s → (t.world.stopped ≡ s.world.stopped) → Reached [] [] [] s t → Kept t
kept_reached s t k stopped r = record { owned = r.standing; shaped = r.shaped; calm = r.stays.same.firing ∙ k.calm; none_awaited = r.stays.same.awaited ∙ k.none_awaited; left_over = λ runs. r.stays.same.left_over ∙ k.left_over (sym stopped ∙ runs) }

none_there : (c : ℕ) (ys : List Named) → held_at c ys ≡ None → times c (name_numbers ys) ≡ 0
none_there c [] e = refl
none_there c (y ∷ ys) e = decide (nat_eq y.name c) refl (none_there c ys)
  where
    no_held : (h : Held) → ◌≡◌ {A = Option Held} (Some h) None → ⊥
    no_held h e = cc

    decide : (b : Bool) → nat_eq y.name c ≡ b → (held_at c ys ≡ None → times c (name_numbers ys) ≡ 0) → times c (name_numbers (y ∷ ys)) ≡ 0
    decide true d ih = absurd (no_held y.held (sym (here d) ∙ e))
      where
        here : nat_eq y.name c ≡ true → held_at c (y ∷ ys) ≡ Some y.held
        here d = grind (arith, nat_tests)
    decide false d ih = let z = ih (sym (there d) ∙ e) in count d z
      where
        there : nat_eq y.name c ≡ false → held_at c (y ∷ ys) ≡ held_at c ys
        there d = grind (arith, nat_tests)

        count : nat_eq y.name c ≡ false → times c (name_numbers ys) ≡ 0 → times c (name_numbers (y ∷ ys)) ≡ 0
        count d z = grind (arith, nat_tests)

spent_goes : (o : Option Held) (name : ℕ) (s t : State) → held_at name t.world.names ≡ o → is_spent o ≡ true → Reached [] [] [] s t → Reached [] [] [] s (silent (unnamed name) t)
spent_goes None name s t at q r = subst (λ (ns : List Named). Reached [] [] [] s (record { world = record t.world { names = ns }; past = t.past })) (sym (without_absent name t.world.names (none_there name t.world.names at))) r
spent_goes (Some (AskCell cell b)) name s t at q r = reached_unnamed name (AskCell cell b) [] [] [] s t at r
spent_goes (Some (RequestOf None)) name s t at q r = reached_unnamed name (RequestOf None) [] [] [] s t at r
spent_goes (Some (RequestOf (Some n))) name s t at q r = absurd (false≢true q)
spent_goes (Some _) name s t at q r = absurd (false≢true q)

-- the taking calls
ask_in : (o : Option Held) (name : ℕ) (s t : State) → held_at name t.world.names ≡ o → Reached [] [] [] s t → Reached [] [] [] s (silent (ask_taken_in name o) t)
ask_in (Some (AskCell cell b)) name s t at r = reached_renamed name (AskCell cell b) (AskCell cell true) [] [] [] s t at refl (λ m. refl) (λ p i. absurd (in_none p i)) r
ask_in None name s t at r = r
ask_in (Some _) name s t at r = r

ask_stops : (o : Option Held) (name : ℕ) (w : World) → (ask_taken_in name o w).stopped ≡ w.stopped
ask_stops (Some (AskCell cell b)) name w = refl
ask_stops None name w = refl
ask_stops (Some _) name w = refl

asks_keep : (xs : List Asked) (s : State) → Kept s → Kept (record { world = (take_ask_of xs s.world).0; past = s.past })
asks_keep [] s k = k
asks_keep (a ∷ more) s k =
    let r = reached_lists more s.world.ended s.world.abandoned [] [] [] s s (reached_here [] [] [] s k.owned k.shaped) in
    let t : State = record { world = record s.world { asks = more }; past = s.past } in
    kept_reached s (silent (ask_taken a) t) k (ask_stops (held_at a.cell s.world.names) a.cell t.world) (ask_in (held_at a.cell s.world.names) a.cell s t refl r)

ended_keep : (xs : List Ended) (s : State) → s.world.ended ≡ xs → TakesSpent CallTakeEnded s.world → Kept s → Kept (record { world = (take_ended_of xs s.world).0; past = s.past })
ended_keep [] s is spent k = k
ended_keep (e ∷ more) s is spent k =
    let r = reached_lists s.world.asks more s.world.abandoned [] [] [] s s (reached_here [] [] [] s k.owned k.shaped) in
    let t : State = record { world = record s.world { ended = more }; past = s.past } in
    kept_reached s (silent (unnamed e.request) t) k refl (spent_goes (held_at e.request s.world.names) e.request s t refl (spent e more is) r)

abandoned_keep : (xs : List ℕ) (s : State) → s.world.abandoned ≡ xs → TakesSpent CallTakeAbandoned s.world → Kept s → Kept (record { world = (take_abandoned_of xs s.world).0; past = s.past })
abandoned_keep [] s is spent k = k
abandoned_keep (cell ∷ more) s is spent k =
    let asks = filter (λ (a : Asked). not (a.cell == cell)) s.world.asks in
    let r = reached_lists asks s.world.ended more [] [] [] s s (reached_here [] [] [] s k.owned k.shaped) in
    let t : State = record { world = record s.world { abandoned = more; asks = asks }; past = s.past } in
    kept_reached s (silent (unnamed cell) t) k refl (spent_goes (held_at cell s.world.names) cell s t refl (spent cell more is) r)

pub call_keeps : (setting : Setting) (c : Call) (s : State) → Fits setting → is_open c ≡ true → TakesSpent c s.world → Kept s → Kept (call setting c s).0
call_keeps setting (CallApply command) s fits opens spent k = applied_keeps (refusal setting false command s) setting command s refl fits k
call_keeps setting CallTurn s fits opens spent k = kept_passes s (turn setting s).0 k (turn_passes setting s fits (rests_of s k))
call_keeps setting (CallRun turns) s fits opens spent k = kept_passes s (run setting turns s).0 k (run_passes setting turns s fits (rests_of s k))
call_keeps setting (CallWait name turns) s fits opens spent k = kept_waited (wait setting name turns s).0 (wait_is setting name turns s fits (rests_of s k) k.none_awaited)
call_keeps setting CallTakeAsk s fits opens spent k = asks_keep s.world.asks s k
call_keeps setting CallTakeEnded s fits opens spent k = ended_keep s.world.ended s refl spent k
call_keeps setting CallTakeAbandoned s fits opens spent k = abandoned_keep s.world.abandoned s refl spent k
call_keeps setting CallClose s fits opens spent k = absurd (false≢true opens)

-- a new state
pub new_kept : (limits : Limits) → Kept (new_state limits)
new_kept limits = record {
  owned = new_owned limits;
  shaped = record {
    winners = λ m left right side e. absurd (no_form _ e);
    parts = λ q p o. absurd (in_none p o);
    names = λ c p i. absurd (in_none p i);
    awaited = λ p i. absurd (in_none p i);
    detached = λ p i. absurd (in_none p i);
    left_over = λ p f i. absurd (in_none p i);
  };
  calm = refl;
  none_awaited = refl;
  left_over = λ runs. refl;
}
