-- Which requests the closing ends: those whose payloads are kept after it.
use Rattle.std.proofs.Common.{◌≡◌, ℕ, ◌<◌, ◌≤◌, ◌⊎◌, Bool, true, false, cond, List, [], ◌∷◌, ◌++◌, map, length, sym, refl, ap, ◌∙◌, subst, inl, inr, ⊎_elim, arith, Some, None}
use Rattle.std.specs.Prelude.{slice_get}
use Rattle.std.specs.Option.{option_map}
use Rattle.std.specs.Bool.{OnTrue, OnFalse}
use Rattle.std.proofs.lemmas.List.{length-map}
use Rattle.std.proofs.lemmas.Option.{slice_get-map, slice_get_within}
use Rattle.kj_base.specs.declared.numbers.StepId.{StepId}
use Rattle.kj_base.specs.declared.outcomes.Outcome.{Outcome}
use Rattle.executor_core.specs.declared.request.State.{State}
use Rattle.executor_core.specs.declared.request.State.TheVariants.{Queued, Executing, Canceling, Stopping, Done as DoneState, Spent}
use Rattle.executor_core.specs.declared.request.Request.{Request}
use Rattle.executor_core.specs.declared.entry.Entry.{Entry}
use Rattle.executor_core.specs.declared.call.Call.{Call}
use Rattle.executor_core.specs.declared.call.Call.TheVariants as call
use Rattle.executor_core.specs.declared.call.Reply.{Reply}
use Rattle.executor_core.specs.declared.call.Reply.TheVariants as reply
use Rattle.executor_core.specs.Acts.{Desk, desk, act, is_queued, queued_state, shut, disconnected}
use Rattle.executor_core.specs.Histories.{entry, fresh, Legal, board_of, starts_in, waits}
use Rattle.executor_core.proofs.Moves.{Shift, Starts, Stops, Finishes, Withdraws, Asks, Collects, Move, Submits, Sets, Closes}
use Rattle.executor_core.proofs.Legal.{move_of, legal_prefix, after_append, never_started, starts_same}
use Rattle.executor_core.proofs.Steps.{unstarted}
use Rattle.executor_core.proofs.Ends.{done_started}
use Rattle.xthread.specs.declared.place.Place.{Place}
use Rattle.xthread.specs.declared.place.Place.TheVariants.{Waiting}
use Rattle.xthread.specs.Stock.{Book, book, Whole, Keeps, Since}
use Rattle.xthread.proofs.Grows.{missing}

abbrev pub closing : Entry
closing = entry 0 call.Close reply.Done

no_close : (k r : ℕ) (q : Request) (c : Call) (x : Reply) (st : State) → Shift k r q c x st → c ≡ call.Close → ⊥
no_close k r q _ _ _ (Starts t w) e = cc
no_close k r q _ _ _ (Stops t w) e = cc
no_close k r q _ _ _ (Finishes o t w) e = cc
no_close k r q _ _ _ (Withdraws t w) e = cc
no_close k r q _ _ _ (Asks t w) e = cc
no_close k r q _ _ _ (Collects o t w) e = cc

close_moves : (d : Desk) (k : ℕ) (c : Call) (x : Reply) (d' : Desk) → Move d k c x d' → c ≡ call.Close → (d' ≡ desk d.limit true (map shut d.requests)) × (d.closed ≡ false)
close_moves d k _ _ _ (Submits step words opened room) e = absurd cc
close_moves d k c x _ (Sets _ _ r q st at shift) e = absurd (no_close k r q c x st shift e)
close_moves d k _ _ _ (Closes target none opened) e = (refl, opened)

-- before the closing the board was open, and each request was what it is but for being shut
record Before (limit : ℕ) (b : Desk) (es before : List Entry) : Type 0 where
  legal : Legal limit before
  opened : (board_of limit before).closed ≡ false
  shuts : b.requests ≡ map shut (board_of limit before).requests

before_closing : (limit : ℕ) (b : Desk) (es before : List Entry) → Legal limit es → b ≡ board_of limit es → es ≡ before ++ closing ∷ [] → Before limit b es before
before_closing limit b es before l is longer = let h = legal_prefix (fresh limit) before (closing ∷ []) (subst (Legal limit) longer l) in
    let d : Desk = board_of limit before in let m = close_moves d 0 call.Close reply.Done (act d 0 call.Close).0 (move_of d closing [] h.1) refl in record {
      legal = h.0;
      opened = m.1;
      shuts = ap (λ (x : Desk). x.requests) (is ∙ ap (board_of limit) longer ∙ after_append (fresh limit) before (closing ∷ []) ∙ m.0);
    }

-- the request as it was
was : (rs ss : List Request) (r : ℕ) (q : Request) → ss ≡ map shut rs → slice_get ss r ≡ Some q → (x : Request) × (slice_get rs r ≡ Some x) × (shut x ≡ q)
was rs ss r q is at = elim (slice_get rs r) as (λ o. option_map shut o ≡ Some q → (x : Request) × (o ≡ Some x) × (shut x ≡ q)) [
  | None ↦ λ e. absurd cc
  | Some x ↦ λ e. (x, refl, (let g : shut x ≡ q = cc in g))
] (sym (slice_get-map shut rs r) ∙ ap (λ (l : List Request). slice_get l r) (sym is) ∙ at)

module _ {P : Type 0} (R : Type 0) (fits : P → ℕ → List ℕ → Type 0) where
  -- a payload is kept of what waits or has ended
  keeps_payload : (st : State) (step : StepId) (words : List ℕ) (p : P) → Keeps {P = P} {R = R} fits st step words (Waiting p) → (queued_state st ≡ true) ⊎ ((o : Outcome) × (st ≡ DoneState o))
  keeps_payload Queued step words p k = inl refl
  keeps_payload Executing step words p k = absurd cc
  keeps_payload Canceling step words p k = absurd cc
  keeps_payload Stopping step words p k = absurd cc
  keeps_payload (DoneState o) step words p k = inr (o, refl)
  keeps_payload Spent step words p k = absurd cc

  unstarted_waits : (b : Desk) (es before : List Entry) (r : ℕ) (p : P) → Before b.limit b es before → es ≡ before ++ closing ∷ [] → starts_in es r ≡ 0 → (x : Request) → slice_get (board_of b.limit before).requests r ≡ Some x
      → Keeps {P = P} {R = R} fits (shut x).state (shut x).step (shut x).words (Waiting p) → waits (slice_get (board_of b.limit before).requests r) ≡ 1
  unstarted_waits b es before r p w longer none x at k = elim (is_queued x) as (λ c. is_queued x ≡ c → Keeps {P = P} {R = R} fits (cond c (record x { state = DoneState disconnected }) x).state (cond c (record x { state = DoneState disconnected }) x).step (cond c (record x { state = DoneState disconnected }) x).words (Waiting p) → waits (slice_get (board_of b.limit before).requests r) ≡ 1) [
    | true ↦ λ is k. ap waits at ∙ ap (λ (c : Bool). cond {A = ℕ} c 1 0) is
    | false ↦ λ is k. ⊎_elim (λ z. ap waits at ∙ ap (λ (c : Bool). cond {A = ℕ} c 1 0) z)
        (λ z. absurd (let h = done_started b.limit before w.legal w.opened r x z.0 at z.1 in let s = ap (λ (l : List Entry). starts_in l r) longer ∙ starts_same before closing r refl in
        let a : ℕ = starts_in before r in let c : ℕ = starts_in es r in let h' : 1 ≤ a = h in let s' : c ≡ a = s in let n : c ≡ 0 = none in omega arith))
        (keeps_payload x.state x.step x.words p k)
  ] refl k

module _ {P R : Type 0} {fits : P → ℕ → List ℕ → Type 0} {b : Desk} {es : List Entry} {lr pr : ℕ} {ps : List (Place P R)} where
  -- what waits there was never started, so that its request waited for its start until the closing
  pub waiting_waits : {old : Book} (r : ℕ) (p : P) → Whole fits b es lr ps pr → book b.limit es ≡ old → slice_get ps r ≡ Some (Waiting p) → (before : List Entry) → old.entries ≡ before ++ closing ∷ [] → waits (slice_get (board_of old.limit before).requests r) ≡ 1
  waiting_waits r p w view at before more = let longer : es ≡ before ++ closing ∷ [] = ap (λ (x : Book). x.entries) view ∙ more in let h = before_closing b.limit b es before w.legal w.board_is longer in
      let g = elim (slice_get b.requests r) as (λ o. slice_get b.requests r ≡ o → waits (slice_get (board_of b.limit before).requests r) ≡ 1) [
        | None ↦ λ none. absurd (missing ps b.requests r (Waiting p) (sym w.stock.0) at none)
        | Some q ↦ λ is. let x = was (board_of b.limit before).requests b.requests r q h.shuts is in
            unstarted_waits R fits b es before r p h longer (w.came r (Waiting p) at) x.0 x.1 (subst (λ (y : Request). Keeps {P = P} {R = R} fits y.state y.step y.words (Waiting p)) (sym x.2) (w.stock.1 r q (Waiting p) is at))
      ] refl in
      subst (λ (x : Book). waits (slice_get (board_of x.limit before).requests r) ≡ 1) view g

  -- where none waits, its request didn't
  none_waits : (before : List Entry) (r : ℕ) → Before b.limit b es before → es ≡ before ++ closing ∷ [] → Whole fits b es lr ps pr → ((p : P) → slice_get ps r ≡ Some (Waiting p) → ⊥) → (x : Request) → slice_get (board_of b.limit before).requests r ≡ Some x → queued_state x.state ≡ true → ⊥
  none_waits before r w longer v none x at is = let q : Request = record x { state = DoneState disconnected } in
      let shuts : shut x ≡ q = ap (λ (c : Bool). cond c q x) is in
      let now : slice_get b.requests r ≡ Some q = ap (λ (l : List Request). slice_get l r) w.shuts ∙ slice_get-map shut (board_of b.limit before).requests r ∙ ap (option_map shut) at ∙ ap Some shuts in
      elim (slice_get ps r) as (λ o. slice_get ps r ≡ o → ⊥) [
        | None ↦ λ e. missing b.requests ps r q v.stock.0 now e
        | Some place ↦ λ e. ⊎_elim (λ z. none z.0 (e ∙ ap Some z.1))
            (λ z. let s : starts_in es r ≡ 1 = subst (λ (y : Place P R). Since (starts_in es r) y) z.1 (v.came r place e) in let u : unstarted (slice_get (board_of b.limit before).requests r) ≡ 1 = ap unstarted at ∙ ap (λ (c : Bool). cond {A = ℕ} c 1 0) is in
            let n = never_started b.limit before w.legal r u in let t = ap (λ (l : List Entry). starts_in l r) longer ∙ starts_same before closing r refl in
            let a : ℕ = starts_in before r in let c : ℕ = starts_in es r in let n' : a ≡ 0 = n in let t' : c ≡ a = t in let s' : c ≡ 1 = s in omega arith)
            (v.stock.1 r q place now e)
      ] refl

  pub other_waits : {old : Book} (r : ℕ) → Whole fits b es lr ps pr → book b.limit es ≡ old → ((p : P) → slice_get ps r ≡ Some (Waiting p) → ⊥) → (before : List Entry) → old.entries ≡ before ++ closing ∷ [] → waits (slice_get (board_of old.limit before).requests r) ≡ 0
  other_waits r w view none before more = let longer : es ≡ before ++ closing ∷ [] = ap (λ (x : Book). x.entries) view ∙ more in let h = before_closing b.limit b es before w.legal w.board_is longer in
      let g = elim (slice_get (board_of b.limit before).requests r) as (λ o. slice_get (board_of b.limit before).requests r ≡ o → waits o ≡ 0) [
        | None ↦ λ e. refl
        | Some x ↦ λ e. elim (queued_state x.state) as (λ c. queued_state x.state ≡ c → cond {A = ℕ} c 1 0 ≡ 0) [
          | true ↦ λ is. absurd (none_waits before r h longer w none x e is)
          | false ↦ λ is. refl
        ] refl
      ] refl in
      subst (λ (x : Book). waits (slice_get (board_of x.limit before).requests r) ≡ 0) view g

  -- so whether one waits there tells whether its request did
  pub kept_waits : {old : Book} (r : ℕ) (place : Place P R) (kept : Bool) → Whole fits b es lr ps pr → book b.limit es ≡ old → slice_get ps r ≡ Some place → OnTrue kept ((p : P) × (place ≡ Waiting p)) → OnFalse kept ((p : P) → place ≡ Waiting p → ⊥)
      → (before : List Entry) → old.entries ≡ before ++ closing ∷ [] → waits (slice_get (board_of old.limit before).requests r) ≡ cond kept 1 0
  kept_waits r place true w view at kept empty before more = waiting_waits r kept.0 w view (at ∙ ap Some kept.1) before more
  kept_waits r place false w view at kept empty before more = other_waits r w view (λ p e. let h = at in empty p (let g : place ≡ Waiting p = cc in g)) before more

-- what the closing ends was submitted
pub waiting_below : (limit : ℕ) (before : List Entry) (r : ℕ) → Legal limit (before ++ closing ∷ []) → waits (slice_get (board_of limit before).requests r) ≡ 1 → r < length (board_of limit (before ++ closing ∷ [])).requests
waiting_below limit before r l w = let h = before_closing limit (board_of limit (before ++ closing ∷ [])) (before ++ closing ∷ []) before l refl refl in let rs : List Request = (board_of limit before).requests in
    let a = ap length h.shuts ∙ length-map rs shut in
    elim (slice_get rs r) as (λ o. slice_get rs r ≡ o → waits o ≡ 1 → r < length (board_of limit (before ++ closing ∷ [])).requests) [
      | None ↦ λ e w. absurd (omega arith)
      | Some x ↦ λ e w. let k = slice_get_within rs r x e in omega arith
    ] refl w
