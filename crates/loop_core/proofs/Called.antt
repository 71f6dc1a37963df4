-- What a call did, part by part.
use Rattle.std.proofs.Common.{◌≡◌, ◌∙◌, ℕ, List, [], ◌++◌, Option, None, Some, Bool, is_some, refl, sym, ap, subst, append_assoc}
use Rattle.std.proofs.lemmas.List.{append-nil}
use Rattle.kj_base.specs.Counts.{HasLacked}
use Rattle.kj_base.specs.Record.{Item}
use Rattle.promise_commands.specs.Telling.{Telling}
use Rattle.kj_model.specs.Log.{passing}
use Rattle.kj_model.specs.World.{State, Setting}
use Rattle.promise_walks.specs.Values.{Answer, Agrees, Rule, setting_of}
use Rattle.promise_walks.proofs.Answering.{agrees_append}
use Rattle.promise_walks.proofs.Composed.{hears_none, hears_then}
use Rattle.promise_turns.specs.Acting.{IsMissing}
use Rattle.promise_turns.proofs.Answering.{told_agrees, told_answer}
use Rattle.loop_core.specs.Calls.{CallIs, CallLacks, ComesTo}

-- the state to which a call in which no step lacked memory leads, with answers that always find it
pub led : {E : Type 0} (A B : State → Type 0) (rule : Rule) (f g : Setting → State → E) (a b : Telling) (k l : ℕ)
    → (p : CallIs A B rule f g a b k l) → p.missing ≡ None → (s : State) → A s
    → ComesTo B (f (setting_of rule (told_answer (Some passing) (s.past ++ p.items))) s) (g (setting_of rule (told_answer (Some passing) (s.past ++ p.items)))) (s.past ++ p.items)
led A B rule f g a b k l p none s old =
    let answer : Answer = told_answer (Some passing) (s.past ++ p.items) in
    p.leads answer s old (told_agrees (Some passing) s.past p.items) (subst (λ (o : Option ℕ). IsMissing answer (s.past ++ p.items) o) (sym none) tt)

-- the count stands where no step lacked memory
pub stands_still : {E : Type 0} (A B : State → Type 0) (rule : Rule) (f g : Setting → State → E) (a b : Telling) (k l : ℕ)
    → (p : CallIs A B rule f g a b k l) → p.missing ≡ None → (s : State) → A s → l ≡ k
stands_still A B rule f g a b k l p none s old = subst (λ (o : Option ℕ). HasLacked (is_some o) k l) none (p.counts s old)

-- one part after another; in the first no step lacked memory
pub call_then : {E : Type 0} (A B C : State → Type 0) (rule : Rule) (f g h : Setting → State → E) (a b c : Telling) (k l m : ℕ)
    → (p : CallIs A B rule f g a b k l) → p.missing ≡ None → CallIs B C rule g h b c l m → CallIs A C rule f h a c k m
call_then A B C rule f g h a b c k l m p none q = record {
  items = p.items ++ q.items;
  missing = q.missing;
  told = hears_then a b c p.items q.items p.told q.told;
  counts = λ s old.
      let r = led A B rule f g a b k l p none s old in
      subst (λ (n : ℕ). HasLacked (is_some q.missing) n m) (stands_still A B rule f g a b k l p none s old) (q.counts r.state r.stands);
  leads = λ answer s old agrees lacking.
      let said = agrees_append answer s.past p.items q.items agrees in
      let r = p.leads answer s old said.0 (subst (λ (o : Option ℕ). IsMissing answer (s.past ++ p.items) o) (sym none) tt) in
      let past : r.state.past ++ q.items ≡ s.past ++ (p.items ++ q.items) = ap (λ (xs : List Item). xs ++ q.items) r.past_is ∙ append_assoc s.past p.items q.items in
      let t = q.leads answer r.state r.stands (subst (λ (xs : List Item). Agrees answer xs q.items) (sym r.past_is) said.1) (subst (λ (xs : List Item). IsMissing answer xs q.missing) (sym past) lacking) in
      record { state = t.state; stands = t.stands; past_is = t.past_is ∙ past; ends = t.ends ∙ r.ends };
}

-- nothing is told
pub call_silent : {E : Type 0} (A B : State → Type 0) (rule : Rule) (f g : Setting → State → E) (a : Telling) (k : ℕ)
    → ((answer : Answer) (s : State) → A s → ComesTo B (f (setting_of rule answer) s) (g (setting_of rule answer)) s.past)
    → CallIs A B rule f g a a k k
call_silent A B rule f g a k same = record {
  items = [];
  missing = None;
  told = hears_none a;
  counts = λ s old. refl;
  leads = λ answer s old agrees lacking.
      let r = same answer s old in
      record { state = r.state; stands = r.stands; past_is = r.past_is ∙ sym (append-nil s.past); ends = r.ends };
}

-- what is done with an end is done with both
pub call_in : {E F : Type 0} (A B : State → Type 0) (rule : Rule) (f g : Setting → State → E) (h : Setting → E → F) (a b : Telling) (k l : ℕ)
    → CallIs A B rule f g a b k l → CallIs A B rule (λ setting s. h setting (f setting s)) (λ setting s. h setting (g setting s)) a b k l
call_in A B rule f g h a b k l p = record {
  items = p.items;
  missing = p.missing;
  told = p.told;
  counts = p.counts;
  leads = λ answer s old agrees lacking.
      let r = p.leads answer s old agrees lacking in
      record { state = r.state; stands = r.stands; past_is = r.past_is; ends = ap (h (setting_of rule answer)) r.ends };
}

-- a call in which no step lacked memory
pub record Found {E : Type 0} (A B : State → Type 0) (rule : Rule) (f g : Setting → State → E) (a b : Telling) (k l : ℕ) : Type 0 where
  pub call : CallIs A B rule f g a b k l
  pub none : call.missing ≡ None

-- the same by what is told of it
pub found_only : {E : Type 0} (lacks : Bool) (A B : State → Type 0) (rule : Rule) (f g : Setting → State → E) (a b : Telling) (k l : ℕ) → Found A B rule f g a b k l → CallLacks lacks A B rule f g a b k l
found_only lacks A B rule f g a b k l p = record { call = p.call; only = λ e. p.none }

-- from fewer states
pub call_less : {E : Type 0} (A B C : State → Type 0) (rule : Rule) (f g : Setting → State → E) (a b : Telling) (k l : ℕ) → ((s : State) → C s → A s) → CallIs A B rule f g a b k l → CallIs C B rule f g a b k l
call_less A B C rule f g a b k l less p = record {
  items = p.items;
  missing = p.missing;
  told = p.told;
  counts = λ s old. p.counts s (less s old);
  leads = λ answer s old agrees lacking. p.leads answer s (less s old) agrees lacking;
}

-- the same from another definition, where they agree on each state at which the loop stood
pub call_from : {E : Type 0} (A B : State → Type 0) (rule : Rule) (f g h : Setting → State → E) (a b : Telling) (k l : ℕ) → ((setting : Setting) (s : State) → A s → f setting s ≡ h setting s) → CallIs A B rule f g a b k l → CallIs A B rule h g a b k l
call_from A B rule f g h a b k l same p = record {
  items = p.items;
  missing = p.missing;
  told = p.told;
  counts = p.counts;
  leads = λ answer s old agrees lacking.
      let r = p.leads answer s old agrees lacking in
      record { state = r.state; stands = r.stands; past_is = r.past_is; ends = r.ends ∙ same (setting_of rule answer) s old };
}

-- nothing was done yet
pub found_none : {E : Type 0} (A : State → Type 0) (rule : Rule) (f : Setting → State → E) (a : Telling) (k : ℕ) → Found A A rule f f a a k k
unfolding call_silent
found_none A rule f a k = record {
  call = call_silent A A rule f f a k (λ answer s old. record { state = s; stands = old; past_is = refl; ends = refl });
  none = refl;
}

-- two such parts
pub found_then : {E : Type 0} (A B C : State → Type 0) (rule : Rule) (f g h : Setting → State → E) (a b c : Telling) (k l m : ℕ)
    → Found A B rule f g a b k l → Found B C rule g h b c l m → Found A C rule f h a c k m
unfolding call_then
found_then A B C rule f g h a b c k l m p q = record {
  call = call_then A B C rule f g h a b c k l m p.call p.none q.call;
  none = q.none;
}

-- what is done with an end is done with both
pub found_in : {E F : Type 0} (A B : State → Type 0) (rule : Rule) (f g : Setting → State → E) (h : Setting → E → F) (a b : Telling) (k l : ℕ)
    → Found A B rule f g a b k l → Found A B rule (λ setting s. h setting (f setting s)) (λ setting s. h setting (g setting s)) a b k l
unfolding call_in
found_in A B rule f g h a b k l p = record {
  call = call_in A B rule f g h a b k l p.call;
  none = p.none;
}
