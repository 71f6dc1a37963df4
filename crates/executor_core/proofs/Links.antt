-- What each change of the board leaves linked.
use Rattle.std.proofs.Common.{◌≡◌, ◌≢◌, ℕ, ◌+◌, ◌<◌, ◌≤◌, Bool, true, false, cond, List, [], ◌∷◌, ◌++◌, map, set, length, length-set, length-append, refl, ap, ◌∙◌, subst, sym, arith, le_refl, ⊎_elim, Option, Some, None}
use Rattle.std.specs.List.{All, Contains}
use Rattle.std.specs.List.Sorted.{IsPermutation}
use Rattle.std.specs.BinaryHeap.{heap_len, heap_capacity}
use Rattle.std.proofs.lemmas.List.{length-map}
use Rattle.std.proofs.lemmas.List.Elements.{All-nil, All-cons, All-weaker, Contains-append_right}
use Rattle.std.proofs.lemmas.List.Sorted.{All-permutation, Contains-permutation}
use Rattle.std.proofs.lemmas.Option.{slice_get-map, slice_get_within}
use mathlib.Core.Logic.{dite}
use native.Mathlib.Decide.{ℕ_discrete}
use Rattle.std.specs.Prelude.{slice_get, slice_set}
use Rattle.std.specs.Option.{option_map}
use Rattle.executor_core.specs.declared.asked.Asked.{Asked}
use Rattle.executor_core.specs.declared.chain.Chain.{Chain}
use Rattle.executor_core.specs.declared.request.State.{State}
use Rattle.executor_core.specs.declared.request.State.TheVariants.{Queued, Executing, Canceling, Stopping, Done as DoneState, Spent}
use Rattle.executor_core.specs.declared.request.Request.{Request}
use Rattle.executor_core.specs.Acts.{is_queued, queued_state, canceling_state, running_state, set_state, shut, disconnected}
use Rattle.executor_core.specs.Asks.{Asks, Linked, Ordered, numbers, total, askable, askable_state, askable_weight}
use Rattle.executor_core.specs.Chains.{Marks, IsChain, Without, With, bit, marks}
use Rattle.executor_core.proofs.Asking.{total_set, total_snoc, total_closes, total_least, contains_first}
use Rattle.executor_core.proofs.Chains.{same_chain}
use Rattle.executor_core.proofs.Steps.{at_state, get_snoc, past}

abbrev pub mark : Bool → ℕ
mark b = cond b 1 0

waits_askable : (st : State) → queued_state st ≡ true → askable_state st ≡ true
waits_askable Queued e = refl
waits_askable Executing e = refl
waits_askable Canceling e = absurd cc
waits_askable Stopping e = absurd cc
waits_askable (DoneState o) e = absurd cc
waits_askable Spent e = absurd cc

pub runs_not_waits : (st : State) → running_state st ≡ true → queued_state st ≡ false
runs_not_waits Queued e = absurd cc
runs_not_waits Executing e = refl
runs_not_waits Canceling e = refl
runs_not_waits Stopping e = refl
runs_not_waits (DoneState o) e = refl
runs_not_waits Spent e = refl

pub canceling_not_askable : (st : State) → canceling_state st ≡ true → askable_state st ≡ false
canceling_not_askable Queued e = absurd cc
canceling_not_askable Executing e = absurd cc
canceling_not_askable Canceling e = refl
canceling_not_askable Stopping e = absurd cc
canceling_not_askable (DoneState o) e = absurd cc
canceling_not_askable Spent e = absurd cc

waits_quiet : (st : State) → queued_state st ≡ true → canceling_state st ≡ false
waits_quiet Queued e = refl
waits_quiet Executing e = refl
waits_quiet Canceling e = absurd cc
waits_quiet Stopping e = refl
waits_quiet (DoneState o) e = refl
waits_quiet Spent e = refl

pub same_is_chain : (w v : Marks) (limit : ℕ) (c : Chain) → ((k : ℕ) → v k ≡ w k) → IsChain w limit c → IsChain v limit c
same_is_chain w v limit c same h = (same_chain w v c.first c.end c.bound c.before.items c.after.items same h.0, h.1, h.2, h.3)

-- a removal, and an addition, of a chain
abbrev pub Removes : Chain → Chain → ℕ → Type 0
Removes c d r = (w v : Marks) (limit : ℕ) → IsChain w limit c → w r ≡ 1 → Without w v r → IsChain v limit d

abbrev pub Adds : Chain → Chain → ℕ → Type 0
Adds c d r = (w v : Marks) (limit : ℕ) → IsChain w limit c → With w v r → IsChain v limit d

most_one : (b : Bool) → mark b ≤ 1
most_one true = omega arith
most_one false = omega arith

module _ (rs : List Request) (r : ℕ) (q : Request) (st : State) (at : slice_get rs r ≡ Some q) where
  pub length_state : length (set_state rs r st) ≡ length rs
  length_state = ap (λ (o : Option Request). length (elim o as (λ _. List Request) [ None ↦ rs | Some q ↦ slice_set rs r (record q { state = st }) ])) at ∙ length-set rs r (record q { state = st })

  set_else : (p : State → Bool) (k : ℕ) → k ≢ r → marks p (set_state rs r st) k ≡ marks p rs k
  set_else p k ne = ⊎_elim (λ h. absurd (ne h.0)) (λ h. ap (bit p) h.1) (at_state rs r q st at k)

  set_here : (p : State → Bool) → marks p (set_state rs r st) r ≡ mark (p st)
  set_here p = ⊎_elim (λ h. ap (bit p) h.2) (λ h. absurd (h.0 refl)) (at_state rs r q st at r)

  pub here : (p : State → Bool) (b : Bool) → p q.state ≡ b → marks p rs r ≡ mark b
  here p b e = ap (bit p) at ∙ ap mark e

  stays : (p : State → Bool) → p st ≡ p q.state → (k : ℕ) → marks p (set_state rs r st) k ≡ marks p rs k
  stays p same k = dite (ℕ_discrete k r)
      (λ e. ap (marks p (set_state rs r st)) e ∙ set_here p ∙ ap mark same ∙ sym (ap (bit p) at) ∙ sym (ap (marks p rs) e))
      (λ ne. set_else p k ne)

  out : (p : State → Bool) → p st ≡ false → Without (marks p rs) (marks p (set_state rs r st)) r
  out p no_more = (set_else p, set_here p ∙ ap mark no_more)

  -- what is to be told was to be told before
  told_else : (asked : Asked) → ((k : ℕ) → marks canceling_state rs k ≡ 1 → Contains (numbers asked) k) → canceling_state st ≡ false → (k : ℕ) → marks canceling_state (set_state rs r st) k ≡ 1 → Contains (numbers asked) k
  told_else asked told t k one = dite (ℕ_discrete k r)
      (λ e. let zero : marks canceling_state (set_state rs r st) k ≡ 0 = ap (marks canceling_state (set_state rs r st)) e ∙ set_here canceling_state ∙ ap mark t in absurd (let z : ⊥ = omega arith in z))
      (λ ne. told k (sym (set_else canceling_state k ne) ∙ one))

  askable_change : askable (set_state rs r st) + mark (askable_state q.state) ≡ askable rs + mark (askable_state st)
  askable_change = let x : Request = record q { state = st } in let is : set_state rs r st ≡ set rs r x = ap (λ (o : Option Request). elim o as (λ _. List Request) [ None ↦ rs | Some q ↦ slice_set rs r (record q { state = st }) ]) at in
      ap (λ (l : List Request). total askable_weight l + mark (askable_state q.state)) is ∙ total_set askable_weight rs r q x at

  module _ (limit : ℕ) (waiting : Chain) (asked : Asked) (l : Linked limit rs waiting asked) where
    -- the request is not to be told, and may be asked to end only where it could be before
    quiet_asks : canceling_state st ≡ false → mark (askable_state st) ≤ mark (askable_state q.state) → Asks limit (set_state rs r st) asked
    quiet_asks t less = let a = l.asks in let long = length_state in let change = askable_change in let fits = a.fits in record {
      ordered = a.ordered;
      within = subst (λ (n : ℕ). All (λ k. k < n) (numbers asked)) (sym long) a.within;
      told = told_else asked a.told t;
      fits = omega arith;
      room = a.room;
    }

    -- it waits as before
    pub set_linked : queued_state st ≡ queued_state q.state → canceling_state st ≡ false → mark (askable_state st) ≤ mark (askable_state q.state) → Linked limit (set_state rs r st) waiting asked
    set_linked w t less = let long = length_state in let a = l.waiting_in in record {
      waits = same_is_chain (marks queued_state rs) (marks queued_state (set_state rs r st)) limit waiting (stays queued_state w) l.waits;
      waiting_in = omega arith;
      asks = quiet_asks t less;
    }

    -- it waits no longer
    pub leave_linked : (waiting' : Chain) → Removes waiting waiting' r → waiting'.bound ≡ waiting.bound → queued_state q.state ≡ true → queued_state st ≡ false → canceling_state st ≡ false → Linked limit (set_state rs r st) waiting' asked
    leave_linked waiting' removes bound was w t = let long = length_state in let a = l.waiting_in in record {
      waits = removes (marks queued_state rs) (marks queued_state (set_state rs r st)) limit l.waits (here queued_state true was) (out queued_state w);
      waiting_in = omega arith;
      asks = quiet_asks t (subst (λ (b : Bool). mark (askable_state st) ≤ mark b) (sym (waits_askable q.state was)) (most_one (askable_state st)));
    }

    -- there is room for one more that is asked to end
    pub asks_room : askable_state q.state ≡ true → length rs ≤ limit → heap_len asked.heap < heap_capacity asked.heap
    asks_room may small = let a = l.asks in let fits = a.fits in let room = a.room in let some = total_least askable_weight rs r q at in let one : mark (askable_state q.state) ≡ 1 = ap mark may in
        let w : ℕ = mark (askable_state q.state) in let n : ℕ = askable rs in let some' : w ≤ n = some in omega arith

    -- its end is asked, and it is entered
    pub ask_linked : (asked' : Asked) → IsPermutation (r ∷ numbers asked) (numbers asked') → (Ordered asked → Ordered asked') → heap_len asked'.heap ≡ heap_len asked.heap + 1 → heap_capacity asked.heap ≤ heap_capacity asked'.heap
        → queued_state st ≡ queued_state q.state → askable_state q.state ≡ true → askable_state st ≡ false → Linked limit (set_state rs r st) waiting asked'
    ask_linked asked' p order more large w may no_more = let long = length_state in let b = l.waiting_in in let a = l.asks in let fits = a.fits in let room = a.room in
        let change = askable_change in let one : mark (askable_state q.state) ≡ 1 = ap mark may in let none : mark (askable_state st) ≡ 0 = ap mark no_more in
        let there : r < length (set_state rs r st) = subst (λ (n : ℕ). r < n) (sym long) (slice_get_within rs r q at) in
        let within : All (λ k. k < length (set_state rs r st)) (numbers asked) = subst (λ (n : ℕ). All (λ k. k < n) (numbers asked)) (sym long) a.within in record {
          waits = same_is_chain (marks queued_state rs) (marks queued_state (set_state rs r st)) limit waiting (stays queued_state w) l.waits;
          waiting_in = omega arith;
          asks = record {
            ordered = order a.ordered;
            within = All-permutation (λ k. k < length (set_state rs r st)) (r ∷ numbers asked) (numbers asked') p (All-cons (λ k. k < length (set_state rs r st)) r (numbers asked) there within);
            told = λ k one. Contains-permutation (r ∷ numbers asked) (numbers asked') k p (dite (ℕ_discrete k r)
                (λ e. subst (Contains (r ∷ numbers asked)) (sym e) (contains_first r (numbers asked)))
                (λ ne. Contains-append_right (r ∷ []) (numbers asked) k (a.told k (sym (set_else canceling_state k ne) ∙ one))));
            fits = omega arith;
            room = omega arith;
          };
        }

one_mark : (b : Bool) → mark b ≡ 1 → b ≡ true
one_mark true e = refl
one_mark false e = absurd (omega arith)

-- the request that is in such a state
pub of_mark : (p : State → Bool) (rs : List Request) (r : ℕ) → marks p rs r ≡ 1 → (q : Request) × (slice_get rs r ≡ Some q) × (p q.state ≡ true)
of_mark p rs r e = elim (slice_get rs r) as (λ o. slice_get rs r ≡ o → bit p o ≡ 1 → (q : Request) × (o ≡ Some q) × (p q.state ≡ true)) [
  | None ↦ λ is e. absurd (omega arith)
  | Some q ↦ λ is e. (q, refl, one_mark (p q.state) e)
] refl e

pub no_mark : (p : State → Bool) (rs : List Request) (k : ℕ) (q : Request) → marks p rs k ≡ 0 → slice_get rs k ≡ Some q → p q.state ≡ false
no_mark p rs k q e at = elim (p q.state) as (λ b. mark b ≡ 0 → b ≡ false) [ true ↦ λ z. absurd (omega arith) | false ↦ λ z. refl ] (sym (ap (bit p) at) ∙ e)

pub new_linked : (limit : ℕ) (waiting : Chain) (asked : Asked) → IsChain (marks queued_state []) limit waiting → waiting.bound ≡ 0 → numbers asked ≡ [] → Ordered asked → heap_len asked.heap ≡ 0 → heap_capacity asked.heap ≡ limit → Linked limit [] waiting asked
new_linked limit waiting asked w bound none order empty room = record {
  waits = w;
  waiting_in = (let z : waiting.bound ≤ 0 = omega arith in z);
  asks = record {
    ordered = order;
    within = subst (λ (l : List ℕ). All (λ k. k < 0) l) (sym none) (All-nil (λ k. k < 0));
    told = λ k one. absurd (let z : ⊥ = omega arith in z);
    fits = (let z : heap_len asked.heap + 0 ≤ 0 = omega arith in z);
    room = omega arith;
  };
}

-- a request more, which waits
module _ (rs : List Request) (q : Request) (wait : queued_state q.state ≡ true) where
  snoc_same : (p : State → Bool) → p q.state ≡ false → (k : ℕ) → marks p (rs ++ q ∷ []) k ≡ marks p rs k
  snoc_same p no_more k = ⊎_elim (λ h. ap (bit p) h.2 ∙ ap mark no_more ∙ sym (ap (bit p) h.1)) (λ h. ap (bit p) h) (get_snoc rs q k)

  snoc_with : With (marks queued_state rs) (marks queued_state (rs ++ q ∷ [])) (length rs)
  snoc_with = (
    (λ k ne. ⊎_elim (λ h. absurd (ne h.0)) (λ h. ap (bit queued_state) h) (get_snoc rs q k)),
    ⊎_elim (λ h. ap (bit queued_state) h.2 ∙ ap mark wait) (λ h. absurd (past rs q (length rs) refl h)) (get_snoc rs q (length rs)),
  )

  pub submit_linked : (limit : ℕ) (waiting waiting' : Chain) (asked : Asked) → Linked limit rs waiting asked → Adds waiting waiting' (length rs) → waiting'.bound ≡ length rs + 1 → Linked limit (rs ++ q ∷ []) waiting' asked
  submit_linked limit waiting waiting' asked l adds bound = let long = length-append rs (q ∷ []) in let a = l.asks in let fits = a.fits in let more = total_snoc askable_weight rs q in let one : mark (askable_state q.state) ≡ 1 = ap mark (waits_askable q.state wait) in record {
    waits = adds (marks queued_state rs) (marks queued_state (rs ++ q ∷ [])) limit l.waits snoc_with;
    waiting_in = omega arith;
    asks = record {
      ordered = a.ordered;
      within = All-weaker (λ k. k < length rs) (λ k. k < length (rs ++ q ∷ [])) (λ k low. omega arith) (numbers asked) a.within;
      told = λ k one. a.told k (sym (snoc_same canceling_state (waits_quiet q.state wait) k) ∙ one);
      fits = (let n : ℕ = askable rs in let m : ℕ = askable (rs ++ q ∷ []) in let w : ℕ = mark (askable_state q.state) in let more' : m ≡ n + w = more in let one' : w ≡ 1 = one in let z : heap_len asked.heap + m ≤ length (rs ++ q ∷ []) = omega arith in z);
      room = a.room;
    };
  }

shut_waits : (o : Option Request) → bit queued_state (option_map shut o) ≡ 0
shut_waits None = refl
shut_waits (Some q) = elim (is_queued q) as (λ b. is_queued q ≡ b → bit queued_state (Some (cond b (record q { state = DoneState disconnected }) q)) ≡ 0) [ true ↦ λ e. refl | false ↦ λ e. ap mark e ] refl

shut_else : (p : State → Bool) → p (DoneState disconnected) ≡ false → ((st : State) → queued_state st ≡ true → p st ≡ false) → (o : Option Request) → bit p (option_map shut o) ≡ bit p o
shut_else p ended waits None = refl
shut_else p ended waits (Some q) = elim (is_queued q) as (λ b. is_queued q ≡ b → bit p (Some (cond b (record q { state = DoneState disconnected }) q)) ≡ bit p (Some q)) [
  | true ↦ λ e. ap mark (ended ∙ sym (waits q.state e))
  | false ↦ λ e. refl
] refl

shut_askable : (q : Request) → askable_weight (shut q).state ≤ askable_weight q.state
shut_askable q = elim (is_queued q) as (λ b. askable_weight (cond b (record q { state = DoneState disconnected }) q).state ≤ askable_weight q.state) [
  | true ↦ (let n : ℕ = askable_weight q.state in let z : 0 ≤ n = omega arith in z)
  | false ↦ le_refl _
]

pub close_linked : (limit : ℕ) (rs : List Request) (waiting waiting' : Chain) (asked : Asked) → Linked limit rs waiting asked
    → ((w v : Marks) (limit : ℕ) → IsChain w limit waiting → ((k : ℕ) → v k ≡ 0) → IsChain v limit waiting') → waiting'.bound ≡ waiting.bound → Linked limit (map shut rs) waiting' asked
close_linked limit rs waiting waiting' asked l clears bound = let long = length-map rs shut in let b = l.waiting_in in let a = l.asks in let fits = a.fits in let less = total_closes askable_weight shut_askable rs in record {
  waits = clears (marks queued_state rs) (marks queued_state (map shut rs)) limit l.waits (λ k. ap (bit queued_state) (slice_get-map shut rs k) ∙ shut_waits (slice_get rs k));
  waiting_in = omega arith;
  asks = record {
    ordered = a.ordered;
    within = subst (λ (n : ℕ). All (λ k. k < n) (numbers asked)) (sym long) a.within;
    told = λ k one. a.told k (sym (ap (bit canceling_state) (slice_get-map shut rs k) ∙ shut_else canceling_state refl waits_quiet (slice_get rs k)) ∙ one);
    fits = omega arith;
    room = a.room;
  };
}
