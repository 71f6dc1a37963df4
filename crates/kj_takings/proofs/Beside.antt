-- Calls beside one another.
use Rattle.std.proofs.Common.{◌≡◌, ◌∙◌, refl, sym, ap, zero, ℕ, ◌+◌, ◌≤◌, List, [], ◌∷◌, ◌++◌, length, Bool, true, false, Option, None, Some, arith}
use Rattle.std.specs.Prelude.{is_some, drop}
use Rattle.std.proofs.lemmas.Bool.{false≢true}
use Rattle.kj_base.specs.Commands.{Command, All, Fast, Reply}
use Rattle.kj_base.specs.Record.{Item}
use Rattle.kj_base.specs.declared.numbers.Limits.{Limits}
use Rattle.kj_model.specs.World.{World, State, Setting, Ended, held_at, new_state}
use Rattle.kj_model.specs.Changes.{frees_in}
use Rattle.kj_model.specs.Grown.{Grows}
use Rattle.kj_model.specs.Uses.{uses_of}
use Rattle.kj_model.specs.Apply.{Refused, apply}
use Rattle.kj_model.specs.Calls.{Call, CallApply, CallTurn, CallRun, CallWait, CallTakeAsk, CallTakeEnded, CallTakeAbandoned, CallClose, Reply as ReplyOf, Applied, TurnedBy, WaitedBy, Closed, turn, run, wait, close, call, calls}
use Rattle.kj_takings.specs.Alike.{Alike, AlikeStates, Sorted, AreRising}
use Rattle.kj_takings.specs.Spared.{names_of, names_in, spared_in, HasRoom}
use Rattle.kj_takings.specs.Calls.{is_taking, told_since, RepliesFair, but_why, wait_but_why, reply_but_why, loosened_by, name_freed, firmed, none_loose, CallFits, Step, Both, Left, Right, Settled, left_calls, right_calls, TakingFits, IsNowhere, StepsFit, loose_after, plain_replies}
use Rattle.kj_takings.proofs.Calm.{Same, Calm, less_same}
use Rattle.kj_takings.proofs.Refusals.{AllFair, apply_same}
use Rattle.kj_takings.proofs.Values.{asks_none, no_asks}
use Rattle.kj_takings.proofs.Turns.{turn_calm, run_calm, wait_calm, wait_loose}
use Rattle.kj_ownership.specs.Fits.{Fits}
use Rattle.kj_ownership.specs.Kept.{is_open}
use Rattle.kj_takings.specs.Told.{IsReached}
use Rattle.kj_takings.proofs.ToldLoops.{reached_spent, reached_kept}
use Rattle.kj_takings.proofs.ToldLaws.{next_is_reached}
use Rattle.kj_takings.proofs.Closing.{close_tame, ask_alike, ended_alike, abandoned_alike, narrowed}

-- what was told since
drop_append : (xs ys : List Item) → drop (length xs) (xs ++ ys) ≡ ys
drop_append [] ys = refl
drop_append (x ∷ xs) ys = drop_append xs ys

told_is : (s t : State) (g : Grows s t) → told_since s t ≡ g.0
told_is s t g = ap (drop (length s.past)) g.1 ∙ drop_append s.past g.0

-- states that are alike with room
with_room : (loose : ℕ → Bool) (k : ℕ) (s t : State) → AlikeStates loose s t → HasRoom k s.world → HasRoom k t.world → Same loose k s t
with_room loose k s t a l r = record { world = record { alike = a.world; left = l; right = r }; past = a.past }

pub without_room : (loose : ℕ → Bool) (k : ℕ) (s t : State) → Same loose k s t → AlikeStates loose s t
without_room loose k s t r = record { world = r.world.alike; past = r.past }

abbrev pub Alikes : {A : Type 0} → (ℕ → Bool) → State × A → State × A → Type 0
Alikes loose x y = AlikeStates loose x.0 y.0 × (x.1 ≡ y.1)

by_calm : {A : Type 0} (loose : ℕ → Bool) (c : ℕ) (f : State → State × A) (s t : State) → Calm loose c f → AlikeStates loose s t → spared_in loose (told_since s (f s).0) ≡ true → HasRoom (names_in (told_since s (f s).0) + c) s.world → HasRoom (names_in (told_since s (f s).0) + c) t.world → Alikes loose (f s) (f t)
by_calm loose c f s t h a sp l r =
    let g = h.grows s in
    let e = told_is s (f s).0 g in
    let x = with_room loose (names_in (told_since s (f s).0) + c) s t a l r in
    let y = less_same loose (names_in (told_since s (f s).0) + c) (names_in g.0 + (c + 0)) s t (more (names_in (told_since s (f s).0)) (names_in g.0) c (ap names_in e)) x in
    let z = h.keeps s t 0 (ap (spared_in loose) (sym e) ∙ sp) y in
    (without_room loose 0 (f s).0 (f t).0 z.0, z.1)
  where
    more : (m n c : ℕ) → m ≡ n → n + (c + 0) ≤ m + c
    more m n c e = omega (arith, e)

-- a command
fair_uses : (loose : ℕ → Bool) (c : Command) (w v : World) → RepliesFair loose c w v → AllFair loose w v (uses_of c)
fair_uses loose (Reply cell outcome) w v f = (λ e. f, tt)
fair_uses loose (All name sources) w v f = asks_none (uses_of (All name sources)) (no_asks sources) loose w v
fair_uses loose (Fast name sources) w v f = asks_none (uses_of (Fast name sources)) (no_asks sources) loose w v
fair_uses loose c w v f = asks_none (uses_of c) refl loose w v

why_same : (o p : Option Refused) → is_some o ≡ is_some p → but_why o ≡ but_why p
why_same None None e = refl
why_same (Some a) (Some b) e = refl
why_same None (Some b) e = absurd (false≢true e)
why_same (Some a) None e = absurd (false≢true (sym e))

apply_alike : (loose : ℕ → Bool) (setting : Setting) (c : Command) (s t : State) → AlikeStates loose s t → CallFits loose setting (CallApply c) s t → AlikeStates loose (apply setting false c s).0 (apply setting false c t).0 × (but_why (apply setting false c s).1 ≡ but_why (apply setting false c t).1)
apply_alike loose setting c s t a f =
    let m = names_in (told_since s (apply setting false c s).0) in
    let x = less_same loose (m + names_of c) (names_of c + 0) s t (omega arith) (with_room loose (m + names_of c) s t a f.left f.right) in
    let y = apply_same loose setting false c 0 s t f.fair.0 (fair_uses loose c s.world t.world f.fair.1) x in
    (without_room loose 0 (apply setting false c s).0 (apply setting false c t).0 y.0, why_same (apply setting false c s).1 (apply setting false c t).1 y.1)

-- a wait
wait_alike : (loose : ℕ → Bool) (setting : Setting) (name turns : ℕ) (s t : State) → AlikeStates loose s t → CallFits loose setting (CallWait name turns) s t → AlikeStates loose (wait setting name turns s).0 (wait setting name turns t).0 × (wait_but_why (wait setting name turns s).1 ≡ wait_but_why (wait setting name turns t).1)
wait_alike loose setting name turns s t a f = decide (loose name) refl
  where
    decide : (b : Bool) → loose name ≡ b → AlikeStates loose (wait setting name turns s).0 (wait setting name turns t).0 × (wait_but_why (wait setting name turns s).1 ≡ wait_but_why (wait setting name turns t).1)
    decide false e = by_calm loose (turns + 1) (λ u. let r = wait setting name turns u in (r.0, wait_but_why r.1)) s t (wait_calm loose setting name turns e) a f.spared f.left f.right
    decide true e =
        let m = names_in (told_since s (wait setting name turns s).0) in
        let x = wait_loose loose setting name turns (m + (turns + 1)) s t e (with_room loose (m + (turns + 1)) s t a f.left f.right) in
        (without_room loose (m + (turns + 1)) (wait setting name turns s).0 (wait setting name turns t).0 x.0, x.1)

-- the closing
close_alike : (loose : ℕ → Bool) (setting : Setting) (s t : State) → AlikeStates loose s t → CallFits loose setting CallClose s t → AlikeStates loose (close s) (close t) × (frees_in (drop (length s.past) (close s).past) ≡ frees_in (drop (length t.past) (close t).past))
close_alike loose setting s t a f =
    let m = names_in (told_since s (close s)) + zero in
    let x = close_tame loose m s t (with_room loose m s t a f.left f.right) in
    (without_room loose m (close s) (close t) x, ap (λ (xs : List Item). frees_in (drop (length xs) (close s).past)) (sym a.past) ∙ ap (λ (xs : List Item). frees_in (drop (length t.past) xs)) (sym x.past))

-- a call that takes nothing
pub call_alike : (loose : ℕ → Bool) (setting : Setting) (c : Call) (s t : State) → is_taking c ≡ false → CallFits loose setting c s t → AlikeStates loose s t → AlikeStates loose (call setting c s).0 (call setting c t).0 × (reply_but_why (call setting c s).1 ≡ reply_but_why (call setting c t).1)
call_alike loose setting (CallApply c) s t e f a = let x = apply_alike loose setting c s t a f in (x.0, ap Applied x.1)
call_alike loose setting CallTurn s t e f a = let x = by_calm loose 1 (turn setting) s t (turn_calm loose setting) a f.spared f.left f.right in (x.0, ap TurnedBy x.1)
call_alike loose setting (CallRun turns) s t e f a = let x = by_calm loose turns (run setting turns) s t (run_calm loose setting turns) a f.spared f.left f.right in (x.0, ap TurnedBy x.1)
call_alike loose setting (CallWait name turns) s t e f a = let x = wait_alike loose setting name turns s t a f in (x.0, ap WaitedBy x.1)
call_alike loose setting CallClose s t e f a = let x = close_alike loose setting s t a f in (x.0, ap Closed x.1)
call_alike loose setting CallTakeAsk s t e f a = absurd (false≢true (sym e))
call_alike loose setting CallTakeEnded s t e f a = absurd (false≢true (sym e))
call_alike loose setting CallTakeAbandoned s t e f a = absurd (false≢true (sym e))

-- the other way round
pub alike_back : (loose : ℕ → Bool) (w v : World) → Alike loose w v → Alike loose v w
alike_back loose w v a = record {
  lists = record { names = w.names; asks = w.asks; ended = w.ended; abandoned = w.abandoned };
  seen = sym (ap (Rattle.kj_takings.specs.Alike.with_lists (record { names = w.names; asks = w.asks; ended = w.ended; abandoned = w.abandoned })) a.seen);
  same = sym a.same;
  left = a.right;
  right = a.left;
  awaited = λ b e. a.awaited b (sym (ap (λ (u : World). u.awaited) a.seen) ∙ e);
}

pub states_back : (loose : ℕ → Bool) (s t : State) → AlikeStates loose s t → AlikeStates loose t s
states_back loose s t a = record { world = alike_back loose s.world t.world a.world; past = sym a.past }

-- a taking call on one side
pub taking_alike : (loose : ℕ → Bool) (setting : Setting) (c : Call) (s t : State) → TakingFits c s → AlikeStates loose s t → AlikeStates (loosened_by (name_freed c s.world) loose) (call setting c s).0 t
taking_alike loose setting CallTakeAsk s t f a = record { world = ask_alike loose s.world.asks s.world t.world a.world; past = a.past }
taking_alike loose setting CallTakeEnded s t f a = record { world = ended_alike loose s.world.ended s.world t.world f.spent f.unawaited a.world; past = a.past }
taking_alike loose setting CallTakeAbandoned s t f a = record { world = abandoned_alike loose s.world.abandoned s.world t.world f.spent f.unawaited a.world; past = a.past }
taking_alike loose setting (CallApply c) s t f a = absurd (false≢true f.taking)
taking_alike loose setting CallTurn s t f a = absurd (false≢true f.taking)
taking_alike loose setting (CallRun turns) s t f a = absurd (false≢true f.taking)
taking_alike loose setting (CallWait name turns) s t f a = absurd (false≢true f.taking)
taking_alike loose setting CallClose s t f a = absurd (false≢true f.taking)

pub taking_beside : (loose : ℕ → Bool) (setting : Setting) (c : Call) (s t : State) → TakingFits c t → AlikeStates loose s t → AlikeStates (loosened_by (name_freed c t.world) loose) s (call setting c t).0
taking_beside loose setting c s t f a = states_back (loosened_by (name_freed c t.world) loose) (call setting c t).0 s (taking_alike loose setting c t s f (states_back loose s t a))

pub settled_alike : (loose : ℕ → Bool) (name : ℕ) (s t : State) → IsNowhere name s t → AlikeStates loose s t → AlikeStates (firmed name loose) s t
settled_alike loose name s t n a = record { world = narrowed loose name s.world t.world n.left n.right a.world; past = a.past }

-- what is asked of a taking call is given in each state that a loop reaches
taking_fits : (setting : Setting) (c : Call) (s : State) → Fits setting → IsReached setting s → is_taking c ≡ true → TakingFits c s
taking_fits setting c s fits r e = record { taking = e; spent = reached_spent setting c s fits r; unawaited = (reached_kept setting s fits r).none_awaited }

taking_opens : (c : Call) → is_taking c ≡ true → is_open c ≡ true
taking_opens CallClose e = absurd (false≢true e)
taking_opens c e = refl

-- steps beside one another
pub steps_alike : (setting : Setting) (loose : ℕ → Bool) (steps : List Step) (s t : State) → Fits setting → IsReached setting s → IsReached setting t → StepsFit setting loose steps s t → AlikeStates loose s t → AlikeStates (loose_after setting loose steps s t) (calls setting (left_calls steps) s).0 (calls setting (right_calls steps) t).0
steps_alike setting loose [] s t fits l r f a = a
steps_alike setting loose (Both c ∷ []) s t fits l r f a = (call_alike loose setting c s t f.0 f.2 a).0
steps_alike setting loose (Both c ∷ x ∷ more) s t fits l r f a = steps_alike setting loose (x ∷ more) (call setting c s).0 (call setting c t).0 fits (next_is_reached setting c s f.1 l) (next_is_reached setting c t f.1 r) f.3 (call_alike loose setting c s t f.0 f.2 a).0
steps_alike setting loose (Left c ∷ more) s t fits l r f a = steps_alike setting (loosened_by (name_freed c s.world) loose) more (call setting c s).0 t fits (next_is_reached setting c s (taking_opens c f.0) l) r f.1 (taking_alike loose setting c s t (taking_fits setting c s fits l f.0) a)
steps_alike setting loose (Right c ∷ more) s t fits l r f a = steps_alike setting (loosened_by (name_freed c t.world) loose) more s (call setting c t).0 fits l (next_is_reached setting c t (taking_opens c f.0) r) f.1 (taking_beside loose setting c s t (taking_fits setting c t fits r f.0) a)
steps_alike setting loose (Settled name ∷ more) s t fits l r f a = steps_alike setting (firmed name loose) more s t fits l r f.1 (settled_alike loose name s t f.0 a)

pub same_record : (setting : Setting) (loose : ℕ → Bool) (steps : List Step) (s t : State) → Fits setting → IsReached setting s → IsReached setting t → StepsFit setting loose steps s t → AlikeStates loose s t → (calls setting (right_calls steps) t).0.past ≡ (calls setting (left_calls steps) s).0.past
same_record setting loose steps s t fits l r f a = (steps_alike setting loose steps s t fits l r f a).past

taking_reply : (c : Call) (cs : List Call) (r : ReplyOf) (rs : List ReplyOf) → is_taking c ≡ true → plain_replies (c ∷ cs) (r ∷ rs) ≡ plain_replies cs rs
taking_reply CallTakeAsk cs r rs e = refl
taking_reply CallTakeEnded cs r rs e = refl
taking_reply CallTakeAbandoned cs r rs e = refl
taking_reply (CallApply c) cs r rs e = absurd (false≢true e)
taking_reply CallTurn cs r rs e = absurd (false≢true e)
taking_reply (CallRun turns) cs r rs e = absurd (false≢true e)
taking_reply (CallWait name turns) cs r rs e = absurd (false≢true e)
taking_reply CallClose cs r rs e = absurd (false≢true e)

plain_reply : (c : Call) (cs : List Call) (r : ReplyOf) (rs : List ReplyOf) → is_taking c ≡ false → plain_replies (c ∷ cs) (r ∷ rs) ≡ reply_but_why r ∷ plain_replies cs rs
plain_reply CallTakeAsk cs r rs e = absurd (false≢true (sym e))
plain_reply CallTakeEnded cs r rs e = absurd (false≢true (sym e))
plain_reply CallTakeAbandoned cs r rs e = absurd (false≢true (sym e))
plain_reply (CallApply c) cs r rs e = refl
plain_reply CallTurn cs r rs e = refl
plain_reply (CallRun turns) cs r rs e = refl
plain_reply (CallWait name turns) cs r rs e = refl
plain_reply CallClose cs r rs e = refl

both_replies : (setting : Setting) (loose : ℕ → Bool) (c : Call) (cs ds : List Call) (s t : State) → is_taking c ≡ false → CallFits loose setting c s t → AlikeStates loose s t → plain_replies ds (calls setting ds (call setting c t).0).1 ≡ plain_replies cs (calls setting cs (call setting c s).0).1 → plain_replies (c ∷ ds) (calls setting (c ∷ ds) t).1 ≡ plain_replies (c ∷ cs) (calls setting (c ∷ cs) s).1
both_replies setting loose c cs ds s t e f a same =
    let x = call setting c s in
    let y = call setting c t in
    let h = call_alike loose setting c s t e f a in
    let ls = (calls setting cs x.0).1 in
    let rs = (calls setting ds y.0).1 in
    plain_reply c ds y.1 rs e ∙ ap (λ (r : ReplyOf). r ∷ plain_replies ds rs) (sym h.1) ∙ ap (λ (l : List ReplyOf). reply_but_why x.1 ∷ l) same ∙ sym (plain_reply c cs x.1 ls e)

pub same_replies : (setting : Setting) (loose : ℕ → Bool) (steps : List Step) (s t : State) → Fits setting → IsReached setting s → IsReached setting t → StepsFit setting loose steps s t → AlikeStates loose s t → plain_replies (right_calls steps) (calls setting (right_calls steps) t).1 ≡ plain_replies (left_calls steps) (calls setting (left_calls steps) s).1
same_replies setting loose [] s t fits l r f a = refl
same_replies setting loose (Both c ∷ []) s t fits l r f a = both_replies setting loose c [] [] s t f.0 f.2 a refl
same_replies setting loose (Both c ∷ x ∷ more) s t fits l r f a = both_replies setting loose c (left_calls (x ∷ more)) (right_calls (x ∷ more)) s t f.0 f.2 a (same_replies setting loose (x ∷ more) (call setting c s).0 (call setting c t).0 fits (next_is_reached setting c s f.1 l) (next_is_reached setting c t f.1 r) f.3 (call_alike loose setting c s t f.0 f.2 a).0)
same_replies setting loose (Left c ∷ more) s t fits l r f a =
    let x = call setting c s in
    same_replies setting (loosened_by (name_freed c s.world) loose) more x.0 t fits (next_is_reached setting c s (taking_opens c f.0) l) r f.1 (taking_alike loose setting c s t (taking_fits setting c s fits l f.0) a) ∙ sym (taking_reply c (left_calls more) x.1 (calls setting (left_calls more) x.0).1 f.0)
same_replies setting loose (Right c ∷ more) s t fits l r f a =
    let y = call setting c t in
    taking_reply c (right_calls more) y.1 (calls setting (right_calls more) y.0).1 f.0 ∙ same_replies setting (loosened_by (name_freed c t.world) loose) more s y.0 fits l (next_is_reached setting c t (taking_opens c f.0) r) f.1 (taking_beside loose setting c s t (taking_fits setting c t fits r f.0) a)
same_replies setting loose (Settled name ∷ more) s t fits l r f a = same_replies setting (firmed name loose) more s t fits l r f.1 (settled_alike loose name s t f.0 a)

-- a state is alike itself
sorted_firm : (names : List Rattle.kj_model.specs.World.Named) → AreRising names → Sorted none_loose names
sorted_firm names r = record { spent = spent names; rising = r }
  where
    spent : (xs : List Rattle.kj_model.specs.World.Named) → Rattle.kj_takings.specs.Alike.LooseAreSpent none_loose xs
    spent [] = tt
    spent (x ∷ xs) = (λ e. absurd (false≢true e), spent xs)

pub alike_itself : (s : State) → AreRising s.world.names → AlikeStates none_loose s s
alike_itself s r = record {
  world = record {
    lists = record { names = s.world.names; asks = s.world.asks; ended = s.world.ended; abandoned = s.world.abandoned };
    seen = refl;
    same = refl;
    left = sorted_firm s.world.names r;
    right = sorted_firm s.world.names r;
    awaited = λ a e. refl;
  };
  past = refl;
}

pub new_alike : (limits : Limits) → AlikeStates none_loose (new_state limits) (new_state limits)
new_alike limits = alike_itself (new_state limits) tt
