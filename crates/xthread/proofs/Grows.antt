-- What is kept behind the lock, after a call that changes the board.
use Rattle.std.proofs.Common.{◌≡◌, ℕ, zero, suc, ◌<◌, ◌≤◌, ◌≢◌, ◌⊎◌, true, false, cond, List, [], ◌∷◌, ◌++◌, map, length, set, sym, refl, ap, ◌∙◌, subst, inl, inr, ⊎_elim, arith, length-append, length-set, Option, Some, None}
use mathlib.Core.Logic.{dite}
use native.Mathlib.Decide.{ℕ_discrete}
use Rattle.std.specs.Prelude.{slice_get, slice_set}
use Rattle.std.specs.Option.{option_map}
use Rattle.std.proofs.lemmas.List.{length-map}
use Rattle.std.proofs.lemmas.Option.{slice_get-map}
use Rattle.kj_base.specs.declared.numbers.StepId.{StepId}
use Rattle.kj_base.specs.declared.outcomes.Outcome.{Outcome}
use Rattle.executor_core.specs.declared.request.State.{State}
use Rattle.executor_core.specs.declared.request.State.TheVariants.{Queued, Executing, Canceling, Stopping, Done as DoneState, Spent}
use Rattle.executor_core.specs.declared.request.Request.{Request}
use Rattle.executor_core.specs.declared.entry.Entry.{Entry}
use Rattle.executor_core.specs.declared.call.Call.{Call}
use Rattle.executor_core.specs.declared.call.Reply.{Reply}
use Rattle.executor_core.specs.Acts.{Desk, act, MayAct, is_queued, queued_state, running_state, set_state, new_request, shut, disconnected}
use Rattle.executor_core.specs.Histories.{entry, Legal, board_of, starts_in, is_start}
use Rattle.executor_core.proofs.Answered.{grows}
use Rattle.executor_core.proofs.Legal.{short, starts_same}
use Rattle.executor_core.proofs.Steps.{at_state, get_snoc, get_else, past}
use Rattle.xthread.specs.Answers.{BackTells}
use Rattle.xthread.specs.declared.answers.Back.{Back}
use Rattle.xthread.specs.declared.answers.Back.TheVariants.{Unstarted, Ran}
use Rattle.xthread.specs.declared.place.Place.{Place}
use Rattle.xthread.specs.declared.place.Place.TheVariants.{Waiting, Away, Finished}
use Rattle.xthread.specs.Stock.{Whole, Keeps, Stock, HasPayload, HasResult, IsBack, Since, Came}

module _ {A : Type 0} where
  out_of : (xs : List A) (k : ℕ) (x : A) → k ≡ length xs → slice_get xs k ≡ Some x → ⊥
  out_of [] k x e h = cc
  out_of (y ∷ ys) zero x e h = omega arith
  out_of (y ∷ ys) (suc k) x e h = out_of ys k x (omega arith) h

  was_set : (xs : List A) (i k : ℕ) (a b : A) → k ≡ i → slice_get (set xs i a) k ≡ Some b → a ≡ b
  was_set [] i k a b e h = cc
  was_set (x ∷ xs) zero zero a b e h = cc
  was_set (x ∷ xs) zero (suc k) a b e h = absurd (omega arith)
  was_set (x ∷ xs) (suc i) zero a b e h = absurd (omega arith)
  was_set (x ∷ xs) (suc i) (suc k) a b e h = was_set xs i k a b (omega arith) h

  pub missing : {B : Type 0} (rs : List B) (ps : List A) (r : ℕ) (q : B) → length ps ≡ length rs → slice_get rs r ≡ Some q → slice_get ps r ≡ None → ⊥
  missing [] ps r q l at is = cc
  missing (x ∷ rs) [] r q l at is = omega arith
  missing (x ∷ rs) (y ∷ ps) zero q l at is = cc
  missing (x ∷ rs) (y ∷ ps) (suc r) q l at is = missing rs ps r q (omega arith) at is

set_is : (rs : List Request) (r : ℕ) (q : Request) (st : State) → slice_get rs r ≡ Some q → set_state rs r st ≡ set rs r (record q { state = st })
set_is rs r q st at = ap (λ (o : Option Request). elim o as (λ _. List Request) [ None ↦ rs | Some q ↦ slice_set rs r (record q { state = st }) ]) at

-- what is kept tells of the history whether its request started
module _ {P R : Type 0} where
  pub came_same : (es : List Entry) (e : Entry) (ps : List (Place P R)) → ((r : ℕ) → is_start r e ≡ false) → Came es ps → Came (es ++ e ∷ []) ps
  came_same es e ps none h r place at = subst (λ (n : ℕ). Since n place) (sym (starts_same es e r (none r))) (h r place at)

  pub came_set : (es : List Entry) (e : Entry) (ps : List (Place P R)) (r : ℕ) (new : Place P R) → ((k : ℕ) → k ≢ r → is_start k e ≡ false) → Since (starts_in (es ++ e ∷ []) r) new → Came es ps → Came (es ++ e ∷ []) (slice_set ps r new)
  came_set es e ps r new none here h k place at = dite (ℕ_discrete k r)
      (λ is. subst (λ (n : ℕ). Since (starts_in (es ++ e ∷ []) n) place) (sym is) (subst (λ (y : Place P R). Since (starts_in (es ++ e ∷ []) r) y) (was_set ps r k new place is at) here))
      (λ ne. subst (λ (n : ℕ). Since n place) (sym (starts_same es e k (none k ne))) (h k place (sym (get_else ps r k new ne) ∙ at)))

  pub came_more : (es : List Entry) (e : Entry) (ps : List (Place P R)) (p : P) → ((r : ℕ) → is_start r e ≡ false) → starts_in es (length ps) ≡ 0 → Came es ps → Came (es ++ e ∷ []) (ps ++ Waiting p ∷ [])
  came_more es e ps p none new h k place at = ⊎_elim
      (λ g. let is : Waiting p ≡ place = (let a = g.2 in cc) in subst (λ (y : Place P R). Since (starts_in (es ++ e ∷ []) k) y) is (starts_same es e k (none k) ∙ ap (starts_in es) g.0 ∙ new))
      (λ g. subst (λ (n : ℕ). Since n place) (sym (starts_same es e k (none k))) (h k place (sym g ∙ at)))
      (get_snoc ps (Waiting p) k)

  pub back_tells : (es : List Entry) (e : Entry) (ps : List (Place P R)) (r : ℕ) (back : Back P R) → is_start r e ≡ false → Came es ps → IsBack (slice_get ps r) back → BackTells (es ++ e ∷ []) r back
  back_tells es e ps r (Unstarted p) none h is = starts_same es e r none ∙ h r (Waiting p) is
  back_tells es e ps r (Ran x) none h is = starts_same es e r none ∙ h r (Finished x) is

module _ {P R : Type 0} (fits : P → ℕ → List ℕ → Type 0) where
  -- a call that changes the board
  pub whole_grows : (b d : Desk) (es es' : List Entry) (lr lr' : ℕ) (ps ps' : List (Place P R)) (pr pr' : ℕ) (k : ℕ) (call : Call) (reply : Reply)
      → Whole fits b es lr ps pr → MayAct b k call → (d, reply) ≡ act b k call → d ≢ b → d.limit ≡ b.limit
      → es' ≡ es ++ entry k call reply ∷ [] → lr' ≡ lr → Stock fits d.requests ps' → Came es' ps' → pr' ≡ pr → Whole fits d es' lr' ps' pr'
  whole_grows b d es es' lr lr' ps ps' pr pr' k call reply w may did changes same longer log_same stock came room_same =
      let g = grows b.limit es b d k call reply w.legal w.board_is may did changes in let l = w.log_fits in let f = w.fits_in in let s = w.small in
      record {
        legal = subst (λ (n : ℕ). Legal n es') (sym same) (subst (Legal b.limit) (sym longer) g.0);
        board_is = g.1 ∙ ap (board_of b.limit) (sym longer) ∙ ap (λ (n : ℕ). board_of n es') (sym same);
        stock = stock;
        came = came;
        log_fits = omega arith;
        fits_in = omega arith;
        small = omega arith;
      }

  -- a call that does not
  pub whole_same : (b d : Desk) (es : List Entry) (lr : ℕ) (ps : List (Place P R)) (pr : ℕ) → Whole fits b es lr ps pr → d ≡ b → Whole fits d es lr ps pr
  whole_same b d es lr ps pr w same = let Q : Desk → Type 0 = λ x. Whole fits x es lr ps pr in subst Q (sym same) w

  -- there is room for the entry
  pub room : (b d : Desk) (es : List Entry) (lr : ℕ) (ps : List (Place P R)) (pr : ℕ) (k : ℕ) (call : Call) (reply : Reply) → Whole fits b es lr ps pr → MayAct b k call → (d, reply) ≡ act b k call → d ≢ b → length es < lr
  room b d es lr ps pr k call reply w may did changes = let g = grows b.limit es b d k call reply w.legal w.board_is may did changes in
      let s = short b.limit (es ++ entry k call reply ∷ []) g.0 in let l = w.log_fits in let n = length-append es (entry k call reply ∷ []) in omega arith

  pub sound : (d : Desk) (es : List Entry) (lr : ℕ) (ps : List (Place P R)) (pr : ℕ) → Whole fits d es lr ps pr → Legal d.limit es × (length es ≤ 6291457)
  sound d es lr ps pr w = let s = short d.limit es w.legal in let l = w.small in (w.legal, omega arith)

  -- a request more, and its payload
  pub stock_more : (rs : List Request) (ps : List (Place P R)) (k : ℕ) (step : StepId) (words : List ℕ) (p : P) → Stock fits rs ps → fits p step.0 words → Stock fits (rs ++ new_request k step words ∷ []) (ps ++ Waiting p ∷ [])
  stock_more rs ps k step words p s f = let q : Request = new_request k step words in (
    (let a = length-append ps (Waiting p ∷ []) in let b = length-append rs (q ∷ []) in let c = s.0 in omega arith),
    λ r x place at there. ⊎_elim
        (λ h. let same : q ≡ x = let e = h.2 in cc in let here : slice_get (ps ++ Waiting p ∷ []) r ≡ Some (Waiting p) =
        ⊎_elim (λ g. g.2) (λ g. absurd (past ps (Waiting p) r (h.0 ∙ sym s.0) g)) (get_snoc ps (Waiting p) r) in
        let is : Waiting p ≡ place = cc in subst (λ (y : Request). Keeps fits y.state y.step y.words place) same (p, sym is, f))
        (λ h. ⊎_elim (λ g. absurd (out_of rs r x (g.0 ∙ s.0) (sym h ∙ at))) (λ g. s.1 r x place (sym h ∙ at) (sym g ∙ there)) (get_snoc ps (Waiting p) r))
        (get_snoc rs q r),
  )

  -- another state and another place for one request
  pub stock_set : (rs : List Request) (ps : List (Place P R)) (r : ℕ) (q : Request) (st : State) (new : Place P R) → Stock fits rs ps → slice_get rs r ≡ Some q → Keeps fits st q.step q.words new → Stock fits (set_state rs r st) (slice_set ps r new)
  stock_set rs ps r q st new s at keeps = (
    length-set ps r new ∙ s.0 ∙ sym (length-set rs r (record q { state = st })) ∙ sym (ap length (set_is rs r q st at)),
    λ k x place there here. ⊎_elim
        (λ h. let same : record q { state = st } ≡ x = let e = h.2 in cc in subst (λ (y : Request). Keeps fits y.state y.step y.words place) same
        (subst (λ (y : Place P R). Keeps fits st q.step q.words y) (was_set ps r k new place h.0 here) keeps))
        (λ h. s.1 k x place (sym h.1 ∙ there) (sym (get_else ps r k new h.0) ∙ here)) (at_state rs r q st at k),
  )

  -- another state for one request, of which the same is kept
  pub stock_state : (rs : List Request) (ps : List (Place P R)) (r : ℕ) (q : Request) (st : State) → Stock fits rs ps → slice_get rs r ≡ Some q → ((place : Place P R) → Keeps fits q.state q.step q.words place → Keeps fits st q.step q.words place) → Stock fits (set_state rs r st) ps
  stock_state rs ps r q st s at keeps = (
    s.0 ∙ sym (length-set rs r (record q { state = st })) ∙ sym (ap length (set_is rs r q st at)),
    λ k x place there here. ⊎_elim
        (λ h. let same : record q { state = st } ≡ x = let e = h.2 in cc in subst (λ (y : Request). Keeps fits y.state y.step y.words place) same (keeps place (s.1 r q place at (ap (slice_get ps) (sym h.0) ∙ here))))
        (λ h. s.1 k x place (sym h.1 ∙ there) here) (at_state rs r q st at k),
  )

  -- nothing is kept for a request that runs
  pub runs_away : (st : State) (step : StepId) (words : List ℕ) (place : Place P R) → running_state st ≡ true → Keeps fits st step words place → place ≡ Away
  runs_away Queued step words place e k = absurd cc
  runs_away Executing step words place e k = k
  runs_away Canceling step words place e k = k
  runs_away Stopping step words place e k = k
  runs_away (DoneState o) step words place e k = absurd cc
  runs_away Spent step words place e k = absurd cc

  queued_payload : (st : State) (step : StepId) (words : List ℕ) (place : Place P R) → queued_state st ≡ true → Keeps fits st step words place → HasPayload fits step words place
  queued_payload Queued step words place e k = k
  queued_payload Executing step words place e k = absurd cc
  queued_payload Canceling step words place e k = absurd cc
  queued_payload Stopping step words place e k = absurd cc
  queued_payload (DoneState o) step words place e k = absurd cc
  queued_payload Spent step words place e k = absurd cc

  -- a request that is closed while it is queued keeps its payload
  keeps_shut : (q : Request) (place : Place P R) → Keeps fits q.state q.step q.words place → Keeps fits (shut q).state (shut q).step (shut q).words place
  keeps_shut q place k = let Q : Request → Type 0 = λ y. Keeps fits y.state y.step y.words place in
      elim (is_queued q) as (λ b. is_queued q ≡ b → Q (cond b (record q { state = DoneState disconnected }) q)) [
        | true ↦ λ e. inl (queued_payload q.state q.step q.words place e k)
        | false ↦ λ e. k
      ] refl

  pub stock_shut : (rs : List Request) (ps : List (Place P R)) → Stock fits rs ps → Stock fits (map shut rs) ps
  stock_shut rs ps s = (
    s.0 ∙ sym (length-map rs shut),
    λ r x place at here. elim (slice_get rs r) as (λ o. slice_get rs r ≡ o → option_map shut o ≡ Some x → Keeps fits x.state x.step x.words place) [
      | None ↦ λ is e. absurd cc
      | Some q ↦ λ is e. let same : shut q ≡ x = cc in subst (λ (y : Request). Keeps fits y.state y.step y.words place) same (keeps_shut q place (s.1 r q place is here))
    ] refl (sym (slice_get-map shut rs r) ∙ at),
  )

  -- what is kept for a queued request
  pub payload_at : (rs : List Request) (ps : List (Place P R)) (r : ℕ) (q : Request) → Stock fits rs ps → slice_get rs r ≡ Some q → queued_state q.state ≡ true → (p : P) × (slice_get ps r ≡ Some (Waiting p)) × fits p q.step.0 q.words
  payload_at rs ps r q s at w = elim (slice_get ps r) as (λ o. slice_get ps r ≡ o → (p : P) × (o ≡ Some (Waiting p)) × fits p q.step.0 q.words) [
    | None ↦ λ is. absurd (missing rs ps r q s.0 at is)
    | Some place ↦ λ is. let h = queued_payload q.state q.step q.words place w (s.1 r q place at is) in (h.0, ap Some h.1, h.2)
  ] refl

  done_keeps : (st : State) (step : StepId) (words : List ℕ) (place : Place P R) (o : Outcome) → st ≡ DoneState o → Keeps fits st step words place → HasPayload fits step words place ⊎ HasResult fits place
  done_keeps st step words place o e k = subst (λ (x : State). Keeps fits x step words place) e k

  -- what is kept for a request that has ended
  pub back_at : (rs : List Request) (ps : List (Place P R)) (r : ℕ) (q : Request) (o : Outcome) → Stock fits rs ps → slice_get rs r ≡ Some q → q.state ≡ DoneState o
      → ((p : P) × (slice_get ps r ≡ Some (Waiting p)) × fits p q.step.0 q.words) ⊎ ((x : R) × (slice_get ps r ≡ Some (Finished x)))
  back_at rs ps r q o s at w = elim (slice_get ps r) as (λ z. slice_get ps r ≡ z → ((p : P) × (z ≡ Some (Waiting p)) × fits p q.step.0 q.words) ⊎ ((x : R) × (z ≡ Some (Finished x)))) [
    | None ↦ λ is. absurd (missing rs ps r q s.0 at is)
    | Some place ↦ λ is. ⊎_elim (λ h. inl (h.0, ap Some h.1, h.2)) (λ h. inr (h.0, ap Some h.1)) (done_keeps q.state q.step q.words place o w (s.1 r q place at is))
  ] refl
