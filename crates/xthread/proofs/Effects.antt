-- What each answer of the board makes of what is kept behind the lock.
use Rattle.std.proofs.Common.{◌≡◌, ℕ, ◌<◌, ◌≤◌, ◌≢◌, ◌⊎◌, Bool, cond, ne_eqb, true, false, List, [], ◌∷◌, ◌++◌, length, sym, refl, ap, eq-eqb, ◌∙◌, subst, inl, inr, ⊎_elim, arith, Some}
use Rattle.std.specs.Prelude.{slice_get, slice_set}
use Rattle.std.proofs.lemmas.Option.{slice_get_past, slice_get_within}
use Rattle.kj_base.specs.declared.numbers.StepId.{StepId}
use Rattle.kj_base.specs.declared.outcomes.Outcome.{Outcome}
use Rattle.executor_core.specs.declared.request.State.{State}
use Rattle.executor_core.specs.declared.request.State.TheVariants.{Executing, Canceling, Stopping, Done as DoneState, Spent}
use Rattle.executor_core.specs.declared.request.Request.{Request}
use Rattle.executor_core.specs.declared.entry.Entry.{Entry}
use Rattle.executor_core.specs.declared.call.Call.{Call}
use Rattle.executor_core.specs.declared.call.Call.TheVariants as call
use Rattle.executor_core.specs.declared.call.Reply.{Reply}
use Rattle.executor_core.specs.declared.call.Reply.TheVariants as reply
use Rattle.executor_core.specs.Acts.{Desk, act, MayAct, running_state, IsOwn, IsRunning, NoneRuns, with_state, submitted, nexted, finished, cancelled, collected, closes}
use Rattle.executor_core.specs.Lines.{Logged, logged}
use Rattle.executor_core.specs.Histories.{entry, of_caller, times, is_submit, is_start, Outstanding, Unfinished, AllFinished}
use Rattle.executor_core.proofs.Answered.{submit_ok, next_start, next_stop, finish_done, cancel_withdrawn, cancel_asked, collect_ended, close_open}
use Rattle.executor_core.proofs.Legal.{never_started, never_submitted, started_once, starts_same, few_times, mine_last}
use Rattle.executor_core.proofs.Own.{new_outstanding, new_unfinished, unfinished_stays, outstanding_own, unfinished_runs, runs_unfinished, finished_none, still_outstanding}
use Rattle.executor_core.proofs.Steps.{unstarted, at_state, canceling_runs}
use Rattle.xthread.specs.declared.place.Place.{Place}
use Rattle.xthread.specs.declared.place.Place.TheVariants.{Waiting, Away, Finished}
use Rattle.xthread.specs.declared.answers.Back.{Back}
use Rattle.xthread.specs.declared.answers.Back.TheVariants.{Unstarted, Ran}
use Rattle.xthread.specs.Stock.{Book, book, Sound, Whole, Stock, Came, IsBack}
use Rattle.xthread.specs.Answers.{board, FitsRequest, BackFits}
use Rattle.xthread.proofs.Grows.{came_same, came_set, came_more, whole_grows, whole_same, sound, room, stock_more, stock_set, stock_state, stock_shut, runs_away, payload_at, back_at}

module _ {P : Type 0} (fits : P → ℕ → List ℕ → Type 0) where
  -- the request that went to another state still has its step and words
  still_fits : (b d : Desk) (r : ℕ) (q : Request) (st : State) (p : P) → slice_get b.requests r ≡ Some q → d ≡ with_state b r st → fits p q.step.0 q.words → FitsRequest fits d r p
  still_fits b d r q st p at is f = subst (λ (x : Desk). FitsRequest fits x r p) (sym is) (⊎_elim (λ h. (record q { state = st }, h.2, f)) (λ h. absurd (h.0 refl)) (at_state b.requests r q st at r))

-- what an arm of a call keeps behind the lock, once its entry was noted: there was room for it
pub record Arm {P R : Type 0} (fits : P → ℕ → List ℕ → Type 0) (b : Desk) (es : List Entry) (log_room room : ℕ) (d : Desk) (places : List (Place P R)) (e : Entry) : Type 0 where
  pub has_room : length es < log_room
  pub limit : d.limit ≡ b.limit
  pub whole : (es' : List Entry) (log_room' : ℕ) (ps' : List (Place P R)) (room' : ℕ) → es' ≡ es ++ e ∷ [] → log_room' ≡ log_room → ps' ≡ places → room' ≡ room → Whole fits d es' log_room' ps' room'

-- the reply of a typed answer
pub answered : {A : Type 0} {d : Desk} {x y : A} {z : Desk × Reply} (f : A → Reply) → x ≡ y → (d, f x) ≡ z → (d, f y) ≡ z
answered {d = d} f is did = ap (λ w. (d, f w)) (sym is) ∙ did

-- the book behind the lock has the entry more
pub grown : {limit limit' : ℕ} {es es' : List Entry} {old : Book} (e : Entry) → limit' ≡ limit → es' ≡ es ++ e ∷ [] → book limit es ≡ old → book limit' es' ≡ book old.limit (old.entries ++ e ∷ [])
grown {limit = limit} {es' = es'} e same longer is = ap (λ n. book n es') same ∙ ap (book limit) longer ∙ ap (λ (x : Book). book x.limit (x.entries ++ e ∷ [])) is

-- what a log has, and its room
pub noted : {es : List Entry} {room : ℕ} {a : Logged} → a ≡ logged es room → a.entries ≡ es
noted is = ap (λ (l : Logged). l.entries) is

pub room_kept : {es : List Entry} {room : ℕ} {a : Logged} → a ≡ logged es room → a.room ≡ room
room_kept is = ap (λ (l : Logged). l.room) is

-- the caller asked for the end of a request that stays its own
pub asked_own : {limit : ℕ} {es es' : List Entry} {old : Book} (k r : ℕ) → book limit es ≡ old → Outstanding (of_caller k old.entries) r → es' ≡ es ++ entry k (call.Cancel r) reply.Asked ∷ [] → Outstanding (of_caller k es') r
asked_own {es = es} k r is u longer = subst (λ (l : List Entry). Outstanding (of_caller k l) r) (sym longer)
    (still_outstanding k r es (entry k (call.Cancel r) reply.Asked) refl refl (subst (λ (x : Book). Outstanding (of_caller k x.entries) r) (sym is) u))

pub submit_own : {es' : List Entry} (es : List Entry) (k : ℕ) (step : StepId) (words : List ℕ) (r : ℕ) → es' ≡ es ++ entry k (call.Submit step words) (reply.Ticket r) ∷ [] → Outstanding (of_caller k es') r
submit_own es k step words r longer = let e : Entry = entry k (call.Submit step words) (reply.Ticket r) in
    subst (λ (l : List Entry). Outstanding l r) (sym (ap (of_caller k) longer ∙ mine_last k es e refl)) (new_outstanding r (of_caller k es) e (eq-eqb r r refl) refl)

pub start_runs : {es' : List Entry} (es : List Entry) (r : ℕ) (step : StepId) (words : List ℕ) → es' ≡ es ++ entry 0 call.Next (reply.Start r step words) ∷ [] → Unfinished (of_caller 0 es') r
start_runs es r step words longer = let e : Entry = entry 0 call.Next (reply.Start r step words) in
    subst (λ (l : List Entry). Unfinished l r) (sym (ap (of_caller 0) longer ∙ mine_last 0 es e refl)) (new_unfinished r (of_caller 0 es) e (eq-eqb r r refl) refl)

module _ {P R : Type 0} {fits : P → ℕ → List ℕ → Type 0} {b d : Desk} {es : List Entry} {lr pr : ℕ} where
  pub arm_sound : {places : List (Place P R)} {e : Entry} {es' : List Entry} → Arm fits b es lr pr d places e → es' ≡ es ++ e ∷ [] → Sound (book d.limit es')
  arm_sound {places = places} {es' = es'} a longer = sound fits d es' lr places pr (a.whole es' lr places pr longer refl refl refl)

  pub arm_board : {places : List (Place P R)} {e : Entry} {es' : List Entry} → Arm fits b es lr pr d places e → es' ≡ es ++ e ∷ [] → d ≡ board (book d.limit es')
  arm_board {places = places} {es' = es'} a longer = (a.whole es' lr places pr longer refl refl refl).board_is

module _ {P R : Type 0} {fits : P → ℕ → List ℕ → Type 0} {b : Desk} {es : List Entry} {lr pr : ℕ} {ps : List (Place P R)} where
  -- the target's condition
  pub runs : {old : Book} (r : ℕ) → Whole fits b es lr ps pr → book b.limit es ≡ old → Unfinished (of_caller 0 old.entries) r → IsRunning b r
  runs r w is u = subst (λ (x : Desk). IsRunning x r) (sym w.board_is) (unfinished_runs b.limit es w.legal r (subst (λ (x : Book). Unfinished (of_caller 0 x.entries) r) (sym is) u))

  pub none_runs : {old : Book} → Whole fits b es lr ps pr → book b.limit es ≡ old → AllFinished (of_caller 0 old.entries) → NoneRuns b
  none_runs w is all = subst NoneRuns (sym w.board_is) (finished_none b.limit es w.legal (subst (λ (x : Book). AllFinished (of_caller 0 x.entries)) (sym is) all))

  -- the submitter's condition
  pub owns : {old : Book} (k r : ℕ) → Whole fits b es lr ps pr → book b.limit es ≡ old → Outstanding (of_caller k old.entries) r → IsOwn b k r
  owns k r w is u = subst (λ (x : Desk). IsOwn x k r) (sym w.board_is) (outstanding_own b.limit es w.legal k r (subst (λ (x : Book). Outstanding (of_caller k x.entries) r) (sym is) u))

  pub within : {r : ℕ} {q : Request} → Whole fits b es lr ps pr → slice_get b.requests r ≡ Some q → r < length ps
  within {r = r} {q = q} w at = let l = slice_get_within b.requests r q at in let e = w.stock.0 in omega arith

module _ {P R : Type 0} {fits : P → ℕ → List ℕ → Type 0} {b d : Desk} {es : List Entry} {lr pr : ℕ} {ps : List (Place P R)} where
  arm : (places : List (Place P R)) (k : ℕ) (c : Call) (r : Reply) → Whole fits b es lr ps pr → MayAct b k c → (d, r) ≡ act b k c → d ≢ b → d.limit ≡ b.limit
      → Stock fits d.requests places → Came (es ++ entry k c r ∷ []) places → Arm fits b es lr pr d places (entry k c r)
  arm places k c r w may did changes same stock came = record {
    has_room = room fits b d es lr ps pr k c r w may did changes;
    limit = same;
    whole = λ es' lr' ps' pr' longer log_same places_are room_same.
        whole_grows fits b d es es' lr lr' ps ps' pr pr' k c r w may did changes same longer log_same (let S : List (Place P R) → Type 0 = λ x. Stock fits d.requests x in subst S (sym places_are) stock)
        (let C : List (Place P R) → Type 0 = λ x. Came es' x in subst C (sym places_are) (subst (λ (l : List Entry). Came l places) (sym longer) came)) room_same;
  }

  -- nothing changed
  pub same_sound : Whole fits b es lr ps pr → d ≡ b → Sound (book d.limit es)
  same_sound w same = sound fits d es lr ps pr (whole_same fits b d es lr ps pr w same)

  pub submit_arm : (k : ℕ) (step : StepId) (words : List ℕ) (p : P) (r : ℕ) → Whole fits b es lr ps pr → fits p step.0 words → (d, reply.Ticket r) ≡ submitted b k step words
      → Arm fits b es lr pr d (ps ++ Waiting p ∷ []) (entry k (call.Submit step words) (reply.Ticket r)) × (length ps < pr)
  submit_arm k step words p r w f did = let h = submit_ok b k step words d r did in let same : d.limit ≡ b.limit = ap (λ (x : Desk). x.limit) h.2 in
      let stock = stock_more fits b.requests ps k step words p w.stock f in (
        arm (ps ++ Waiting p ∷ []) k (call.Submit step words) (reply.Ticket r) w tt did h.3 same (subst (λ (x : Desk). Stock fits x.requests (ps ++ Waiting p ∷ [])) (sym h.2) stock)
            (came_more es (entry k (call.Submit step words) (reply.Ticket r)) ps p (λ _. refl) (never_started b.limit es w.legal (length ps) (ap unstarted (ap (λ (x : Desk). slice_get x.requests (length ps)) (sym w.board_is) ∙ slice_get_past b.requests (length ps) (let a = w.stock.0 in omega arith)))) w.came),
        (let a = w.stock.0 in let e = h.1 in let l = w.fits_in in omega arith),
      )

  -- the number is new for its caller, and its own from now on
  pub submit_fresh : {old : Book} (k : ℕ) (step : StepId) (words : List ℕ) (r : ℕ) → Whole fits b es lr ps pr → book b.limit es ≡ old → (d, reply.Ticket r) ≡ submitted b k step words → times (is_submit r) (of_caller k old.entries) ≡ 0
  submit_fresh k step words r w is did = let h = submit_ok b k step words d r did in subst (λ (x : Book). times (is_submit r) (of_caller k x.entries) ≡ 0) is
      (never_submitted b.limit es w.legal k r (ap (λ (x : Desk). slice_get x.requests r) (sym w.board_is) ∙ slice_get_past b.requests r (let e = h.0 in omega arith)))

  pub start_arm : {r : ℕ} {step : StepId} {words : List ℕ} → Whole fits b es lr ps pr → (d, reply.Start r step words) ≡ nexted b → Arm fits b es lr pr d (slice_set ps r Away) (entry 0 call.Next (reply.Start r step words))
  start_arm {r = r} {step = step} {words = words} w did = let h = next_start b d r step words did in let q = h.0 in let is = h.5 in let same : d.limit ≡ b.limit = ap (λ (x : Desk). x.limit) is in
      let stock = stock_set fits b.requests ps r q Executing Away w.stock h.1 refl in
      arm (slice_set ps r Away) 0 call.Next (reply.Start r step words) w refl did h.6 same (subst (λ (x : Desk). Stock fits x.requests (slice_set ps r Away)) (sym is) stock)
      (came_set es (entry 0 call.Next (reply.Start r step words)) ps r Away (λ k ne. ne_eqb r k (λ x. ne (sym x))) tt w.came)

  pub start_payload : {r : ℕ} {step : StepId} {words : List ℕ} → Whole fits b es lr ps pr → (d, reply.Start r step words) ≡ nexted b → (p : P) × (slice_get ps r ≡ Some (Waiting p)) × fits p step.0 words
  start_payload {r = r} {step = step} {words = words} w did = let h = next_start b d r step words did in let q = h.0 in let p = payload_at fits b.requests ps r q w.stock h.1 h.2 in
      (p.0, p.1, subst (λ (z : List ℕ). fits p.0 step.0 z) h.4 (subst (λ (z : StepId). fits p.0 z.0 q.words) h.3 p.2))

  pub start_fresh : {old : Book} {r : ℕ} {step : StepId} {words : List ℕ} → Whole fits b es lr ps pr → book b.limit es ≡ old → (d, reply.Start r step words) ≡ nexted b → times (is_start r) (of_caller 0 old.entries) ≡ 0
  start_fresh {r = r} {step = step} {words = words} w old_is did = let h = next_start b d r step words did in let q = h.0 in
      let at = ap (λ (x : Desk). slice_get x.requests r) (sym w.board_is) ∙ h.1 in
      let none = never_started b.limit es w.legal r (ap unstarted at ∙ ap (λ (b : Bool). cond {A = ℕ} b 1 0) h.2) in let few = few_times (is_start r) 0 es in
      let x : ℕ = times (is_start r) es in let y : ℕ = times (is_start r) (of_caller 0 es) in let none' : x ≡ 0 = none in let few' : y ≤ x = few in let g : y ≡ 0 = omega arith in
      subst (λ (x : Book). times (is_start r) (of_caller 0 x.entries) ≡ 0) old_is g

  pub stop_arm : {r : ℕ} → Whole fits b es lr ps pr → (d, reply.Stop r) ≡ nexted b → Arm fits b es lr pr d ps (entry 0 call.Next (reply.Stop r))
  stop_arm {r = r} w did = let h = next_stop b d r did in let q = h.0 in let is = h.3 in let same : d.limit ≡ b.limit = ap (λ (x : Desk). x.limit) is in
      let stock = stock_state fits b.requests ps r q Stopping w.stock h.1 (λ place k. runs_away fits q.state q.step q.words place (canceling_runs q.state h.2) k) in
      arm ps 0 call.Next (reply.Stop r) w refl did h.4 same (subst (λ (x : Desk). Stock fits x.requests ps) (sym is) stock) (came_same es (entry 0 call.Next (reply.Stop r)) ps (λ _. refl) w.came)

  pub stop_runs : {es' : List Entry} {r : ℕ} → Whole fits b es lr ps pr → (d, reply.Stop r) ≡ nexted b → es' ≡ es ++ entry 0 call.Next (reply.Stop r) ∷ [] → Unfinished (of_caller 0 es') r
  stop_runs {r = r} w did longer = let h = next_stop b d r did in let q = h.0 in let e : Entry = entry 0 call.Next (reply.Stop r) in
      let was = runs_unfinished b.limit es w.legal r (q, (ap (λ (x : Desk). slice_get x.requests r) (sym w.board_is) ∙ h.1), canceling_runs q.state h.2) in
      subst (λ (l : List Entry). Unfinished l r) (sym (ap (of_caller 0) longer ∙ mine_last 0 es e refl)) (unfinished_stays r (of_caller 0 es) e refl was)

  pub finish_arm : (r : ℕ) (o : Outcome) (x : R) → Whole fits b es lr ps pr → IsRunning b r → (d, reply.Done) ≡ finished b r o → Arm fits b es lr pr d (slice_set ps r (Finished x)) (entry 0 (call.Finish r o) reply.Done)
  finish_arm r o x w run did = let h = finish_done b d r o run did in let q = run.0 in let is = h.0 in let same : d.limit ≡ b.limit = ap (λ (y : Desk). y.limit) is in
      let stock = stock_set fits b.requests ps r q (DoneState o) (Finished x) w.stock run.1 (inr (x, refl)) in
      arm (slice_set ps r (Finished x)) 0 (call.Finish r o) reply.Done w (refl, run) did h.1 same (subst (λ (y : Desk). Stock fits y.requests (slice_set ps r (Finished x))) (sym is) stock)
      (came_set es (entry 0 (call.Finish r o) reply.Done) ps r (Finished x) (λ _ _. refl) (starts_same es (entry 0 (call.Finish r o) reply.Done) r refl ∙ started_once b.limit es w.legal r q (ap (λ (y : Desk). slice_get y.requests r) (sym w.board_is) ∙ run.1) run.2) w.came)

  pub withdraw_arm : {k r : ℕ} → Whole fits b es lr ps pr → IsOwn b k r → (d, reply.Withdrawn) ≡ cancelled b r → Arm fits b es lr pr d (slice_set ps r Away) (entry k (call.Cancel r) reply.Withdrawn)
  withdraw_arm {k = k} {r = r} w own did = let h = cancel_withdrawn b d k r own did in let q = own.0 in let is = h.1 in let same : d.limit ≡ b.limit = ap (λ (y : Desk). y.limit) is in
      let stock = stock_set fits b.requests ps r q Spent Away w.stock own.1 refl in
      arm (slice_set ps r Away) k (call.Cancel r) reply.Withdrawn w own did h.2 same (subst (λ (y : Desk). Stock fits y.requests (slice_set ps r Away)) (sym is) stock)
      (came_set es (entry k (call.Cancel r) reply.Withdrawn) ps r Away (λ _ _. refl) tt w.came)

  pub withdraw_payload : {k : ℕ} (r : ℕ) → Whole fits b es lr ps pr → IsOwn b k r → (d, reply.Withdrawn) ≡ cancelled b r → (p : P) × (slice_get ps r ≡ Some (Waiting p)) × FitsRequest fits d r p
  withdraw_payload {k = k} r w own did = let h = cancel_withdrawn b d k r own did in let q = own.0 in let p = payload_at fits b.requests ps r q w.stock own.1 h.0 in
      (p.0, p.1, still_fits fits b d r q Spent p.0 own.1 h.1 p.2)

  pub ask_arm : {k r : ℕ} → Whole fits b es lr ps pr → IsOwn b k r → (d, reply.Asked) ≡ cancelled b r → Arm fits b es lr pr d ps (entry k (call.Cancel r) reply.Asked)
  ask_arm {k = k} {r = r} w own did = let h = cancel_asked b d k r own did in let q = own.0 in let is = h.1 in let same : d.limit ≡ b.limit = ap (λ (y : Desk). y.limit) is in
      let stock = stock_state fits b.requests ps r q Canceling w.stock own.1 (λ place k. runs_away fits q.state q.step q.words place (ap running_state h.0) k) in
      arm ps k (call.Cancel r) reply.Asked w own did h.2 same (subst (λ (y : Desk). Stock fits y.requests ps) (sym is) stock) (came_same es (entry k (call.Cancel r) reply.Asked) ps (λ _. refl) w.came)

  pub collect_arm : {k r : ℕ} {o : Outcome} → Whole fits b es lr ps pr → IsOwn b k r → (d, reply.Ended o) ≡ collected b r → Arm fits b es lr pr d (slice_set ps r Away) (entry k (call.Collect r) (reply.Ended o))
  collect_arm {k = k} {r = r} {o = o} w own did = let h = collect_ended b d k r o own did in let q = own.0 in let is = h.1 in let same : d.limit ≡ b.limit = ap (λ (y : Desk). y.limit) is in
      let stock = stock_set fits b.requests ps r q Spent Away w.stock own.1 refl in
      arm (slice_set ps r Away) k (call.Collect r) (reply.Ended o) w own did h.2 same (subst (λ (y : Desk). Stock fits y.requests (slice_set ps r Away)) (sym is) stock)
      (came_set es (entry k (call.Collect r) (reply.Ended o)) ps r Away (λ _ _. refl) tt w.came)

  pub collect_back : {k : ℕ} {o : Outcome} (r : ℕ) → Whole fits b es lr ps pr → IsOwn b k r → (d, reply.Ended o) ≡ collected b r → ((p : P) × (slice_get ps r ≡ Some (Waiting p)) × FitsRequest fits d r p) ⊎ ((x : R) × (slice_get ps r ≡ Some (Finished x)))
  collect_back {k = k} {o = o} r w own did = let h = collect_ended b d k r o own did in let q = own.0 in
      ⊎_elim (λ z. inl (z.0, z.1, still_fits fits b d r q Spent z.0 own.1 h.1 z.2)) (λ z. inr z) (back_at fits b.requests ps r q o w.stock own.1 h.0)

  pub collect_place : {k : ℕ} {o : Outcome} (r : ℕ) → Whole fits b es lr ps pr → IsOwn b k r → (d, reply.Ended o) ≡ collected b r → ((p : P) × (slice_get ps r ≡ Some (Waiting p))) ⊎ ((x : R) × (slice_get ps r ≡ Some (Finished x)))
  collect_place r w own did = ⊎_elim (λ z. inl (z.0, z.1)) (λ z. inr z) (collect_back r w own did)

  pub close_arm : Whole fits b es lr ps pr → NoneRuns b → b.closed ≡ false → (d, reply.Done) ≡ closes b → Arm fits b es lr pr d ps (entry 0 call.Close reply.Done) × (d.closed ≡ true)
  close_arm w none opened did = let h = close_open b d none opened did in let is = h.0 in let same : d.limit ≡ b.limit = ap (λ (y : Desk). y.limit) is in
      let stock = stock_shut fits b.requests ps w.stock in (
        arm ps 0 call.Close reply.Done w (refl, none) did h.1 same (subst (λ (y : Desk). Stock fits y.requests ps) (sym is) stock) (came_same es (entry 0 call.Close reply.Done) ps (λ _. refl) w.came),
        ap (λ (y : Desk). y.closed) is,
      )

module _ {P R : Type 0} (fits : P → ℕ → List ℕ → Type 0) where
  -- what was given back fits, where it never started
  pub back_fits : (d : Desk) (ps : List (Place P R)) (r : ℕ) (back : Back P R) → ((p : P) × (slice_get ps r ≡ Some (Waiting p)) × FitsRequest fits d r p) ⊎ ((x : R) × (slice_get ps r ≡ Some (Finished x))) → IsBack (slice_get ps r) back → BackFits fits d r back
  back_fits d ps r (Unstarted p) h is = ⊎_elim (λ z. let same : z.0 ≡ p = let e = z.1 in cc in subst (FitsRequest fits d r) same z.2) (λ z. let e = z.1 in absurd cc) h
  back_fits d ps r (Ran x) h is = tt
