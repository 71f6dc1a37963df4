-- What a pass is told by a whole turn: it takes the value, the value changes or not, and the pass notes the entry or leaves.
use Rattle.std.proofs.Common.{◌≡◌, ℕ, ◌<◌, List, [], ◌∷◌, ◌++◌, sym, ap, ◌∙◌, subst, append_assoc, Some}
use Rattle.count_lock.specs.declared.kept.Kept.{Ghosts}
use Rattle.count_lock.specs.declared.pass.Pass.{Pass}
use Rattle.count_lock.specs.declared.lock.CountLock.{CountLock}
use Rattle.count_lock.specs.Passes.{constant, seen, known, mine, number, IsSamePass}
use Rattle.executor_core.specs.declared.entry.Entry.{Entry}
use Rattle.executor_core.specs.declared.call.Call.{Call}
use Rattle.executor_core.specs.declared.call.Reply.{Reply}
use Rattle.executor_core.specs.Acts.{act}
use Rattle.executor_core.specs.Histories.{Legal, board_of, of_caller}
use Rattle.executor_core.specs.declared.call.Call.TheVariants.{Collect}
use Rattle.executor_core.specs.declared.call.Reply.TheVariants.{NotYet, Ended}
use Rattle.executor_core.specs.Ends.{end_of}
use Rattle.executor_core.proofs.Ends.{own_below, end_stays, placed_collects}
use Rattle.xthread.specs.Stock.{Book, Grown, Sound}
use Rattle.xthread.specs.Answers.{board, Unchanged}
use Rattle.xthread.specs.Told.{Holds, Told, Gains, Stays, EndKnown, board_seen}
use Rattle.xthread.specs.Turns.{Taken, Noted, Left}
use Rattle.xthread.specs.declared.ticket.Ticket.{Ticket}
use Rattle.executor_core.specs.Histories.{Outstanding}

module _ {T : Type 0} {g : Ghosts T Entry} {p m q : Pass T Entry g} where
  chain : IsSamePass p m → IsSamePass m q → IsSamePass p q
  chain a b = record { table = b.table ∙ a.table; constant = b.constant ∙ a.constant; number = b.number ∙ a.number; from = b.from ∙ a.from; until = b.until ∙ a.until }

-- the same entry, written in another way
pub noted_as : {T : Type 0} {g : Ghosts T Entry} {m q : Pass T Entry g} {e f : Entry} → Noted m q e → e ≡ f → Noted m q f
noted_as {m = m} {q = q} n is = subst (λ (x : Entry). Noted m q x) is n

module _ {T : Type 0} {g : Ghosts T Entry} {l : CountLock T Entry} {p m q : Pass T Entry g} {v : Book} where
  pub grown_gains : {e f : Entry} → Taken l p m v → Noted m q e → e ≡ f → Gains p q f
  grown_gains {e = e} t n is = record {
    before = seen m;
    whole = n.longer ∙ ap (λ (x : Entry). seen m ++ x ∷ []) is;
    longer = t.longer;
    own = n.own ∙ ap (λ (l : List Entry). l ++ e ∷ []) t.own ∙ ap (λ (x : Entry). mine p ++ x ∷ []) is;
  }

  pub left_own : Taken l p m v → Left m q → mine q ≡ mine p
  left_own t n = n.own ∙ t.own

module _ {T : Type 0} {g : Ghosts T Entry} {l : CountLock T Entry} {p m : Pass T Entry g} {v a : Book} where
  pub taken_own : Taken l p m v → a ≡ v → of_caller (number p) a.entries ≡ mine p
  taken_own t is = ap (λ (x : Book). of_caller (number p) x.entries) is ∙ ap (of_caller (number p)) t.entries ∙ ap (λ (k : ℕ). of_caller k (seen m)) (sym (t.same.number)) ∙ t.accounts.mine ∙ t.own

module _ {T : Type 0} {g : Ghosts T Entry} {l : CountLock T Entry} {p m q : Pass T Entry g} {v a : Book} where
  pub left_board : Taken l p m v → Left m q → a ≡ v → board a ≡ board_seen q
  left_board t n is = ap (λ (x : Book). board x) is ∙ ap (λ (k : ℕ). board_of k v.entries) (t.limit ∙ sym n.same.constant) ∙ ap (board_of (constant q)) (t.entries ∙ sym n.longer)

module _ {T : Type 0} {g : Ghosts T Entry} {l : CountLock T Entry} {p m q : Pass T Entry g} {v a b : Book} where
  -- a call of this pass that changed nothing
  pub left_stays : {k : ℕ} {call : Call} {reply : Reply} → Taken l p m v → Left m q → a ≡ v → number p ≡ k → Unchanged a b k call reply → Stays p q call reply
  left_stays {k = k} {call = call} t n is who u = record {
    own = left_own t n;
    answer = ap (λ d. (act d (number q) call).1) (sym (left_board t n is)) ∙ ap (λ i. (act (board a) i call).1) ((chain t.same n.same).number ∙ who) ∙ u.answer;
  }

  -- the history of the value, which is the pass's now
  pub grown_entries : {e : Entry} → Taken l p m v → Noted m q e → a ≡ v → Grown a b e → (b.entries ≡ seen q) × (b.limit ≡ constant q)
  grown_entries {e = e} t n is grew = (
    ap (λ (x : Book). x.entries) grew ∙ ap (λ (x : Book). x.entries ++ e ∷ []) is ∙ ap (λ (l : List Entry). l ++ e ∷ []) t.entries ∙ sym n.longer,
    ap (λ (x : Book). x.limit) grew ∙ ap (λ (x : Book). x.limit) is ∙ t.limit ∙ sym n.same.constant,
  )

  pub grown_told : {e : Entry} → Taken l p m v → Noted m q e → a ≡ v → Grown a b e → Sound b → Told l p q
  grown_told {e = e} t n is grew s = let h = grown_entries t n is grew in record {
    same = chain t.same n.same;
    kin_same = n.kin_same ∙ t.kin_same;
    ready = record {
      lock = record { table = n.same.table ∙ t.lock.table; constant = n.same.constant ∙ t.lock.constant };
      words = t.words ∙ sym n.same.constant;
      rests = n.rests;
      legal = subst (λ (k : ℕ). Legal k (seen q)) h.1 (subst (Legal b.limit) h.0 s.0);
    };
    longer = (t.longer.0 ++ e ∷ [], n.longer ∙ ap (λ (l : List Entry). l ++ e ∷ []) t.longer.1 ∙ append_assoc (seen p) t.longer.0 (e ∷ []));
    knows = (t.knows.0 ++ e ∷ [], n.longer ∙ ap (λ (l : List Entry). l ++ e ∷ []) t.knows.1 ∙ append_assoc (known p) t.knows.0 (e ∷ []));
    accounts = n.accounts t.accounts;
    unsplit = λ u. n.longer ∙ ap (λ (l : List Entry). l ++ e ∷ []) (t.unsplit u) ∙ sym n.own;
  }

  -- the entries of the value with the pass's number are its own
  pub grown_own : {e : Entry} → Taken l p m v → Noted m q e → a ≡ v → Grown a b e → of_caller (number p) b.entries ≡ mine q
  grown_own t n is grew = let h = grown_entries t n is grew in
      ap (of_caller (number p)) h.0 ∙ ap (λ (k : ℕ). of_caller k (seen q)) (sym ((chain t.same n.same).number)) ∙ (n.accounts t.accounts).mine

  pub grown_board : {e : Entry} → Taken l p m v → Noted m q e → a ≡ v → Grown a b e → board b ≡ board_seen q
  grown_board t n is grew = let h = grown_entries t n is grew in ap (λ (k : ℕ). board_of k b.entries) h.1 ∙ ap (board_of (constant q)) h.0

  pub left_told : Taken l p m v → Left m q → a ≡ v → b ≡ a → Sound b → Told l p q
  left_told t n is same s = let w : b ≡ v = same ∙ is in record {
    same = chain t.same n.same;
    kin_same = n.kin_same ∙ t.kin_same;
    ready = record {
      lock = record { table = n.same.table ∙ t.lock.table; constant = n.same.constant ∙ t.lock.constant };
      words = t.words ∙ sym n.same.constant;
      rests = n.rests;
      legal = subst (λ (k : ℕ). Legal k (seen q)) (ap (λ (x : Book). x.limit) w ∙ t.limit ∙ sym n.same.constant) (subst (Legal b.limit) (ap (λ (x : Book). x.entries) w ∙ t.entries ∙ sym n.longer) s.0);
    };
    longer = (t.longer.0, n.longer ∙ t.longer.1);
    knows = (t.knows.0, n.longer ∙ t.knows.1);
    accounts = n.accounts t.accounts;
    unsplit = λ u. n.longer ∙ t.unsplit u ∙ sym n.own;
  }

  -- a ticket that is held still
  pub grown_holds : {e : Entry} {t : Ticket} → Taken l p m v → Noted m q e → a ≡ v → Grown a b e → Sound b → t.owner.table_id ≡ p.seat.table_id → t.owner.number ≡ number p → Outstanding (of_caller (number p) b.entries) t.request → Holds q t
  grown_holds {t = t} k n is grew s table caller u = record {
    table = table ∙ sym (chain k.same n.same).table;
    caller = caller ∙ sym (chain k.same n.same).number;
    below = subst (λ (x : ℕ). t.request < x) (grown_entries k n is grew).1 (own_below b.limit b.entries (number p) t.request s.0 u);
    open_yet = subst (λ (l : List Entry). Outstanding l t.request) (grown_own k n is grew) u;
  }

module _ {T : Type 0} {g : Ghosts T Entry} {l : CountLock T Entry} {p m q : Pass T Entry g} {v : Book} where
  pub left_holds : {t : Ticket} → Taken l p m v → Left m q → Holds p t → Holds q t
  left_holds {t = t} k n h = record {
    table = h.table ∙ sym (chain k.same n.same).table;
    caller = h.caller ∙ sym (chain k.same n.same).number;
    below = subst (λ (x : ℕ). t.request < x) (sym (chain k.same n.same).constant) h.below;
    open_yet = subst (λ (l : List Entry). Outstanding l t.request) (sym (left_own k n)) h.open_yet;
  }

-- a submitter that knew of the end is given the outcome
pub known_collects : {T : Type 0} {g : Ghosts T Entry} {l : CountLock T Entry} {p q : Pass T Entry g} (t : Ticket) → Told l p q → Stays p q (Collect t.request) NotYet → Holds q t → EndKnown p t.request → ⊥
known_collects {p = p} {q = q} t told stays holds k = let r : ℕ = t.request in
    let is_end : end_of (constant q) (seen q) r ≡ Some k.place = ap (λ (l : List Entry). end_of (constant q) l r) told.knows.1 ∙ ap (λ (n : ℕ). end_of n (known p ++ told.knows.0) r) told.same.constant ∙ end_stays (constant p) (known p) told.knows.0 r k.place k.is_end in
    let h = placed_collects (constant q) (seen q) (number q) r k.place told.ready.legal (subst (λ (l : List Entry). Outstanding l r) (sym told.accounts.mine) holds.open_yet) is_end in
    let e : NotYet ≡ Ended h.0 = sym stays.answer ∙ h.1 in cc
