-- One part of what is done after another.
use Rattle.std.proofs.Common.{◌≡◌, ◌∙◌, sym, ap, subst, refl, ℕ, List, [], ◌++◌, Option, None, Some, true, append_assoc}
use Rattle.std.specs.Prelude.{is_some}
use Rattle.std.proofs.lemmas.List.{append-nil}
use Rattle.std.proofs.lemmas.Bool.{false≢true}
use Rattle.kj_base.specs.Counts.{HasLacked}
use Rattle.kj_base.specs.Record.{Item}
use Rattle.promise_commands.specs.Telling.{Telling, Hears}
use Rattle.kj_model.specs.World.{World, State, Setting}
use Rattle.kj_model.specs.Changes.{silent}
use Rattle.promise_walks.specs.Walks.{Moved, Moves}
use Rattle.promise_walks.specs.Values.{Answer, Agrees, Valued, Rule, Goes, Lacks, gave, setting_of}
use Rattle.promise_walks.proofs.Composed.{hears_none, hears_then}
use Rattle.promise_walks.proofs.Answering.{agrees_append}
use Rattle.promise_turns.specs.Acting.{Acts, Anywhere, IsMissing}

-- a part after which this is left to do, and then what may ask for answers
pub acts_on : (Old Mid New : World → Type 0) (rule : Rule) (From : Setting → State → Type 0) (change f : Setting → State → State) (xs : List Item) (a b c : Telling) (k l m : ℕ)
    → Hears a xs b → l ≡ k
    → ((answer : Answer) (s : State) → Old s.world → From (setting_of rule answer) s → Agrees answer s.past xs → Moved Mid (change (setting_of rule answer) s) (f (setting_of rule answer)) (s.past ++ xs))
    → Acts Mid New rule Anywhere f (λ s. s) b c l m
    → Acts Old New rule From change (λ s. s) a c k m
acts_on Old Mid New rule From change f xs a b c k l m told still first d = record {
  items = xs ++ d.items;
  missing = d.missing;
  told = hears_then a b c xs d.items told d.told;
  lacks = subst (λ (n : ℕ). HasLacked (is_some d.missing) n m) still d.lacks;
  goes = λ answer s old from agrees lacking.
      let split = agrees_append answer s.past xs d.items agrees in
      let r = first answer s old from split.0 in
      let past = joined s r.state r.past_is in
      let q = d.goes answer r.state r.stands tt (later answer s r.state r.past_is split.1) (behind answer s r.state r.past_is lacking) in
      record { state = q.state; stands = q.stands; past_is = q.past_is ∙ past; ends = q.ends ∙ r.ends };
  stops = λ answer s old from agrees lacking some.
      let split = agrees_append answer s.past xs d.items agrees in
      let r = first answer s old from split.0 in
      d.stops answer r.state r.stands tt (later answer s r.state r.past_is split.1) (behind answer s r.state r.past_is lacking) some;
}
  where
    joined : (s t : State) → t.past ≡ s.past ++ xs → t.past ++ d.items ≡ s.past ++ (xs ++ d.items)
    joined s t past = ap (λ (l : List Item). l ++ d.items) past ∙ append_assoc s.past xs d.items

    later : (answer : Answer) (s t : State) → t.past ≡ s.past ++ xs → Agrees answer (s.past ++ xs) d.items → Agrees answer t.past d.items
    later answer s t past agrees = subst (λ (l : List Item). Agrees answer l d.items) (sym past) agrees

    behind : (answer : Answer) (s t : State) → t.past ≡ s.past ++ xs → IsMissing answer (s.past ++ (xs ++ d.items)) d.missing → IsMissing answer (t.past ++ d.items) d.missing
    behind answer s t past lacking = subst (λ (l : List Item). IsMissing answer l d.missing) (sym (joined s t past)) lacking

-- an evaluation, and then what may ask for answers
pub acts_more : {X : Type 0} (Old Mid New P : World → Type 0) (rule : Rule) (From : Setting → State → Type 0) (valued : Setting → State → Valued X) (x : X) (change f : Setting → State → State) (xs : List Item) (a b c : Telling) (k l m : ℕ)
    → Hears a xs b → l ≡ k → Goes Old Mid rule valued (gave x) xs
    → Acts (λ w. Mid w × P w) New rule Anywhere f (λ s. s) b c l m
    → ((setting : Setting) (s : State) → From setting s → (valued setting s).1 ≡ Some x → P (valued setting s).0.world)
    → ((setting : Setting) (s : State) → Old s.world → From setting s → (valued setting s).1 ≡ Some x → f setting (valued setting s).0 ≡ change setting s)
    → Acts Old New rule From change (λ s. s) a c k m
acts_more {X} Old Mid New P rule From valued x change f xs a b c k l m told still goes d holds same =
    acts_on Old (λ w. Mid w × P w) New rule From change f xs a b c k l m told still
    (λ answer s old from agrees.
    let setting : Setting = setting_of rule answer in
    let r = goes answer s old agrees in
    let here : r.state ≡ (valued setting s).0 = ap (λ (v : Valued X). v.0) r.ends in
    let given : (valued setting s).1 ≡ Some x = sym (ap (λ (v : Valued X). v.1) r.ends) in
    record {
      state = r.state;
      stands = (r.stands, subst (λ (t : State). P t.world) (sym here) (holds setting s from given));
      past_is = r.past_is;
      ends = ap (f setting) here ∙ same setting s old from given;
    })
    d

-- a change that asks for no answer, from any state
acts_moved : (Old New : World → Type 0) (rule : Rule) (f : Setting → State → State) (ys : List Item) (a b : Telling) (k l : ℕ)
    → Hears a ys b → l ≡ k → ((setting : Setting) → Moves Old New (f setting) (λ s. s) ys) → Acts Old New rule Anywhere f (λ s. s) a b k l
acts_moved Old New rule f ys a b k l told still moves = record {
  items = ys;
  missing = None;
  told = told;
  lacks = still;
  goes = λ answer s old from agrees missing. moves (setting_of rule answer) s old;
  stops = λ answer s old from agrees lacking some. absurd (false≢true some);
}

-- an evaluation, and then a change that asks for no answer
pub acts_then : {X : Type 0} (Old Mid New P : World → Type 0) (rule : Rule) (From : Setting → State → Type 0) (valued : Setting → State → Valued X) (x : X) (change f : Setting → State → State) (xs ys : List Item) (a b c : Telling) (k l m : ℕ)
    → Hears a xs b → Hears b ys c → l ≡ k → m ≡ l → Goes Old Mid rule valued (gave x) xs
    → ((setting : Setting) → Moves (λ w. Mid w × P w) New (f setting) (λ s. s) ys)
    → ((setting : Setting) (s : State) → From setting s → (valued setting s).1 ≡ Some x → P (valued setting s).0.world)
    → ((setting : Setting) (s : State) → Old s.world → From setting s → (valued setting s).1 ≡ Some x → f setting (valued setting s).0 ≡ change setting s)
    → Acts Old New rule From change (λ s. s) a c k m
acts_then {X} Old Mid New P rule From valued x change f xs ys a b c k l m told then none still goes moves holds same =
    acts_more Old Mid New P rule From valued x change f xs a b c k l m told none goes (acts_moved (λ w. Mid w × P w) New rule f ys b c l m then still moves) holds same

-- an evaluation that found no memory, and nothing more
pub acts_lacking : {X : Type 0} (Old New : World → Type 0) (rule : Rule) (From : Setting → State → Type 0) (valued : Setting → State → Valued X) (change : Setting → State → State) (xs : List Item) (a b : Telling) (k l : ℕ)
    → Hears a xs b → HasLacked true k l → Lacks Old New rule valued xs
    → ((setting : Setting) (s : State) → (valued setting s).1 ≡ None → (valued setting s).0.world.stopped ≡ true)
    → ((setting : Setting) (s : State) → Old s.world → From setting s → (valued setting s).1 ≡ None → (valued setting s).0 ≡ change setting s)
    → Acts Old New rule From change (λ s. s) a b k l
acts_lacking {X} Old New rule From valued change xs a b k l told rose lacks stops same = record {
  items = xs;
  missing = Some lacks.step;
  told = told;
  lacks = rose;
  goes = λ answer s old from agrees missing.
      let setting : Setting = setting_of rule answer in
      let r = lacks.moves answer s old agrees missing in
      let given : (valued setting s).1 ≡ None = sym (ap (λ (v : Valued X). v.1) r.ends) in
      record {
        state = r.state;
        stands = r.stands;
        past_is = r.past_is;
        ends = ap (λ (v : Valued X). v.0) r.ends ∙ same setting s old from given;
      };
  stops = λ answer s old from agrees missing some.
      let r = lacks.moves answer s old agrees missing in
      ap (λ (v : Valued X). v.0.world.stopped) r.ends ∙ stops (setting_of rule answer) s (sym (ap (λ (v : Valued X). v.1) r.ends));
}

-- a change that asks for no answer
pub acts_once : (Old New P : World → Type 0) (rule : Rule) (From : Setting → State → Type 0) (change : Setting → State → State) (f : State → State) (ys : List Item) (a b : Telling) (k l : ℕ)
    → Hears a ys b → l ≡ k → Moves (λ w. Old w × P w) New f (λ s. s) ys
    → ((setting : Setting) (s : State) → Old s.world → From setting s → P s.world)
    → ((setting : Setting) (s : State) → Old s.world → From setting s → f s ≡ change setting s)
    → Acts Old New rule From change (λ s. s) a b k l
acts_once Old New P rule From change f ys a b k l told still moves holds same = record {
  items = ys;
  missing = None;
  told = told;
  lacks = still;
  goes = λ answer s old from agrees missing.
      let setting : Setting = setting_of rule answer in
      let q = moves s (old, holds setting s old from) in
      record { state = q.state; stands = q.stands; past_is = q.past_is; ends = q.ends ∙ same setting s old from };
  stops = λ answer s old from agrees lacking some. absurd (false≢true some);
}

-- nothing is told
pub acts_silent : {E : Type 0} (Old New : World → Type 0) (rule : Rule) (From : Setting → State → Type 0) (change : Setting → State → E) (view : State → E) (g : World → World) (a : Telling) (k : ℕ)
    → ((setting : Setting) (s : State) → Old s.world → From setting s → New (g s.world) × (view (silent g s) ≡ change setting s))
    → Acts Old New rule From change view a a k k
acts_silent Old New rule From change view g a k same = record {
  items = [];
  missing = None;
  told = hears_none a;
  lacks = refl;
  goes = λ answer s old from agrees missing.
      let q = same (setting_of rule answer) s old from in
      record { state = silent g s; stands = q.0; past_is = sym (append-nil s.past); ends = q.1 };
  stops = λ answer s old from agrees lacking some. absurd (false≢true some);
}

-- of fewer states
pub acts_less : {E : Type 0} (Old New : World → Type 0) (rule : Rule) (From Less : Setting → State → Type 0) (change : Setting → State → E) (view : State → E) (a b : Telling) (k l : ℕ)
    → ((setting : Setting) (s : State) → Old s.world → Less setting s → From setting s)
    → Acts Old New rule From change view a b k l → Acts Old New rule Less change view a b k l
acts_less Old New rule From Less change view a b k l less d = record {
  items = d.items;
  missing = d.missing;
  told = d.told;
  lacks = d.lacks;
  goes = λ answer s old from agrees missing. d.goes answer s old (less (setting_of rule answer) s old from) agrees missing;
  stops = λ answer s old from agrees missing some. d.stops answer s old (less (setting_of rule answer) s old from) agrees missing some;
}

-- by another definition of the same
pub acts_same : {E : Type 0} (Old New : World → Type 0) (rule : Rule) (From : Setting → State → Type 0) (change whole : Setting → State → E) (view : State → E) (a b : Telling) (k l : ℕ)
    → ((setting : Setting) (s : State) → change setting s ≡ whole setting s)
    → Acts Old New rule From change view a b k l → Acts Old New rule From whole view a b k l
acts_same Old New rule From change whole view a b k l same d = record {
  items = d.items;
  missing = d.missing;
  told = d.told;
  lacks = d.lacks;
  goes = λ answer s old from agrees missing.
      let r = d.goes answer s old from agrees missing in
      record { state = r.state; stands = r.stands; past_is = r.past_is; ends = r.ends ∙ same (setting_of rule answer) s };
  stops = λ answer s old from agrees missing some. d.stops answer s old from agrees missing some;
}

-- and then a change that isn't told
pub acts_after : {E : Type 0} (Old Then New : World → Type 0) (rule : Rule) (From : Setting → State → Type 0) (change : Setting → State → State) (whole : Setting → State → E) (view : State → E) (h : World → World) (a b : Telling) (k l : ℕ)
    → Acts Old Then rule From change (λ s. s) a b k l
    → ((w : World) → Then w → New (h w))
    → ((w : World) → (h w).stopped ≡ w.stopped)
    → ((setting : Setting) (s : State) → Old s.world → From setting s → New (h (change setting s).world) → view (silent h (change setting s)) ≡ whole setting s)
    → Acts Old New rule From whole view a b k l
acts_after Old Then New rule From change whole view h a b k l d ends runs same = record {
  items = d.items;
  missing = d.missing;
  told = d.told;
  lacks = d.lacks;
  goes = λ answer s old from agrees missing.
      let setting : Setting = setting_of rule answer in
      let r = d.goes answer s old from agrees missing in
      record {
        state = silent h r.state;
        stands = ends r.state.world r.stands;
        past_is = r.past_is;
        ends = ap (λ (t : State). view (silent h t)) r.ends ∙ same setting s old from (subst (λ (t : State). New (h t.world)) r.ends (ends r.state.world r.stands));
      };
  stops = λ answer s old from agrees missing some. runs (d.goes answer s old from agrees missing).state.world ∙ d.stops answer s old from agrees missing some;
}

-- and before that one that isn't told
pub acts_before : {E : Type 0} (Old Mid New : World → Type 0) (rule : Rule) (From Fires : Setting → State → Type 0) (change whole : Setting → State → E) (view : State → E) (g : World → World) (a b : Telling) (k l : ℕ)
    → Acts Mid New rule Fires change view a b k l
    → ((w : World) → Old w → Mid (g w))
    → ((setting : Setting) (s : State) → Old s.world → From setting s → Fires setting (silent g s) × (change setting (silent g s) ≡ whole setting s))
    → Acts Old New rule From whole view a b k l
acts_before Old Mid New rule From Fires change whole view g a b k l d begins same = record {
  items = d.items;
  missing = d.missing;
  told = d.told;
  lacks = d.lacks;
  goes = λ answer s old from agrees missing.
      let setting : Setting = setting_of rule answer in
      let p = same setting s old from in
      let r = d.goes answer (silent g s) (begins s.world old) p.0 agrees missing in
      record { state = r.state; stands = r.stands; past_is = r.past_is; ends = r.ends ∙ p.1 };
  stops = λ answer s old from agrees missing some. d.stops answer (silent g s) (begins s.world old) (same (setting_of rule answer) s old from).0 agrees missing some;
}
