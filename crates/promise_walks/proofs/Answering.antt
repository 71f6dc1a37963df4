-- Evaluations one after another.
use Rattle.std.proofs.Common.{◌≡◌, ◌∙◌, sym, ap, subst, List, [], ◌∷◌, ◌++◌, None, Result, Ok, Err, append_assoc}
use Rattle.std.proofs.lemmas.List.{append-nil}
use Rattle.kj_base.specs.declared.memory.NoMemory.{NoMemory}
use Rattle.kj_base.specs.Record.{Item, Run, Free}
use Rattle.promise_commands.specs.Telling.{Telling, Hears}
use Rattle.kj_model.specs.World.{World, State, Setting}
use Rattle.promise_walks.specs.Walks.{Moved}
use Rattle.promise_walks.specs.Values.{Valued, Rule, Answer, setting_of, Agrees, Goes, Lacks, Answered, Gives, Walked}
use Rattle.promise_walks.proofs.Composed.{hears_none, hears_then}

pub agrees_append : (answer : Answer) (past xs ys : List Item) → Agrees answer past (xs ++ ys) → Agrees answer past xs × Agrees answer (past ++ xs) ys
agrees_append answer past [] ys h = (tt, subst (λ l. Agrees answer l ys) (sym (append-nil past)) h)
agrees_append answer past (Run n step o a ∷ xs) ys h =
    let r = agrees_append answer (past ++ Run n step o a ∷ []) xs ys h.1 in
    ((h.0, r.0), subst (λ l. Agrees answer l ys) (append_assoc past (Run n step o a ∷ []) xs) r.1)
agrees_append answer past (Free n ∷ xs) ys h =
    let r = agrees_append answer (past ++ Free n ∷ []) xs ys h in
    (r.0, subst (λ l. Agrees answer l ys) (append_assoc past (Free n ∷ []) xs) r.1)

pub goes_then : {X : Type 0} (A B C : World → Type 0) (rule : Rule) (f g h : Setting → State → Valued X) (xs ys : List Item) → Goes A B rule f g xs → Goes B C rule g h ys → Goes A C rule f h (xs ++ ys)
goes_then A B C rule f g h xs ys m n answer s a agrees =
    let split = agrees_append answer s.past xs ys agrees in
    let r = m answer s a split.0 in
    let q = n answer r.state r.stands (subst (λ l. Agrees answer l ys) (sym r.past_is) split.1) in
    record {
      state = q.state;
      stands = q.stands;
      past_is = q.past_is ∙ ap (λ (l : List Item). l ++ ys) r.past_is ∙ append_assoc s.past xs ys;
      ends = q.ends ∙ r.ends;
    }

pub lacks_then : {X : Type 0} (A B C : World → Type 0) (rule : Rule) (f g : Setting → State → Valued X) (xs ys : List Item) → Goes A B rule f g xs → Lacks B C rule g ys → Lacks A C rule f (xs ++ ys)
lacks_then A B C rule f g xs ys m n = record {
  step = n.step;
  moves = λ answer s a agrees none.
      let split = agrees_append answer s.past xs ys agrees in
      let r = m answer s a split.0 in
      let past : r.state.past ++ ys ≡ s.past ++ (xs ++ ys) = ap (λ (l : List Item). l ++ ys) r.past_is ∙ append_assoc s.past xs ys in
      let q = n.moves answer r.state r.stands (subst (λ l. Agrees answer l ys) (sym r.past_is) split.1) (ap (λ (l : List Item). answer l n.step) past ∙ none) in
      record { state = q.state; stands = q.stands; past_is = q.past_is ∙ past; ends = q.ends ∙ r.ends };
}

pub answered_then : {X A : Type 0} (P Q R : World → Type 0) (rule : Rule) (f g : Setting → State → Valued X) (view : A → Setting → State → Valued X) (xs ys : List Item) (result : Result A NoMemory) → Goes P Q rule f g xs → Answered Q R rule g view ys result → Answered P R rule f view (xs ++ ys) result
answered_then P Q R rule f g view xs ys (Ok a) m n = goes_then P Q R rule f g (view a) xs ys m n
answered_then P Q R rule f g view xs ys (Err e) m n = lacks_then P Q R rule f g xs ys m n

pub gives_then : {X A : Type 0} (P Q R : World → Type 0) (rule : Rule) (f g : Setting → State → Valued X) (view : A → Setting → State → Valued X) (a b c : Telling) (result : Result A NoMemory) (xs : List Item) → Hears a xs b → Goes P Q rule f g xs → Gives Q R rule g view b c result → Gives P R rule f view a c result
gives_then P Q R rule f g view a b c result xs told m n = record {
  items = xs ++ n.items;
  told = hears_then a b c xs n.items told n.told;
  same = answered_then P Q R rule f g view xs n.items result m n.same;
}

-- a change that asks for no answer, and then what is left to do
pub goes_by : {X : Type 0} (A B : World → Type 0) (rule : Rule) (change : State → State) (f g : Setting → State → Valued X) (xs : List Item) → ((s : State) → A s.world → Moved B (change s) (λ t. t) (s.past ++ xs)) → ((setting : Setting) (s : State) → g setting (change s) ≡ f setting s) → Goes A B rule f g xs
goes_by A B rule change f g xs m same answer s a agrees =
    let r = m s a in
    record { state = r.state; stands = r.stands; past_is = r.past_is; ends = ap (g (setting_of rule answer)) r.ends ∙ same (setting_of rule answer) s }

-- an equation where this world stands
pub goes_here : {X : Type 0} (A : World → Type 0) (rule : Rule) (f g : Setting → State → Valued X) → ((setting : Setting) (s : State) → A s.world → f setting s ≡ g setting s) → Goes A A rule f g []
goes_here A rule f g same answer s a agrees = record { state = s; stands = a; past_is = sym (append-nil s.past); ends = sym (same (setting_of rule answer) s a) }

-- the same from another definition, where they agree on each world that stood
pub goes_from : {X : Type 0} (P Q : World → Type 0) (rule : Rule) (f g h : Setting → State → Valued X) (xs : List Item) → ((setting : Setting) (s : State) → P s.world → f setting s ≡ g setting s) → Goes P Q rule f h xs → Goes P Q rule g h xs
goes_from P Q rule f g h xs same m answer s p agrees =
    let r = m answer s p agrees in record { state = r.state; stands = r.stands; past_is = r.past_is; ends = r.ends ∙ same (setting_of rule answer) s p }

answered_from : {X A : Type 0} (P Q : World → Type 0) (rule : Rule) (f g : Setting → State → Valued X) (view : A → Setting → State → Valued X) (xs : List Item) (result : Result A NoMemory) → ((setting : Setting) (s : State) → P s.world → f setting s ≡ g setting s) → Answered P Q rule f view xs result → Answered P Q rule g view xs result
answered_from P Q rule f g view xs (Ok a) same m = goes_from P Q rule f g (view a) xs same m
answered_from P Q rule f g view xs (Err e) same m = record {
  step = m.step;
  moves = λ answer s p agrees none. let r = m.moves answer s p agrees none in record { state = r.state; stands = r.stands; past_is = r.past_is; ends = r.ends ∙ same (setting_of rule answer) s p };
}

-- the same from another definition, where they agree on each world that stood
pub gives_from : {X A : Type 0} (P Q : World → Type 0) (rule : Rule) (f g : Setting → State → Valued X) (view : A → Setting → State → Valued X) (a b : Telling) (result : Result A NoMemory) → ((setting : Setting) (s : State) → P s.world → f setting s ≡ g setting s) → Gives P Q rule f view a b result → Gives P Q rule g view a b result
gives_from P Q rule f g view a b result same n = record { items = n.items; told = n.told; same = answered_from P Q rule f g view n.items result same n.same }

pub goes_over : {X Y : Type 0} (P Q : World → Type 0) (rule : Rule) (over : Setting → Valued X → Valued Y) (f g : Setting → State → Valued X) (xs : List Item) → Goes P Q rule f g xs → Goes P Q rule (λ setting s. over setting (f setting s)) (λ setting s. over setting (g setting s)) xs
goes_over P Q rule over f g xs m answer s p agrees =
    let r = m answer s p agrees in record { state = r.state; stands = r.stands; past_is = r.past_is; ends = ap (over (setting_of rule answer)) r.ends }

answered_over : {X Y A : Type 0} (P Q : World → Type 0) (rule : Rule) (over : Setting → Valued X → Valued Y) (f : Setting → State → Valued X) (view : A → Setting → State → Valued X) (xs : List Item) (result : Result A NoMemory) → ((setting : Setting) (s : State) → over setting (s, None) ≡ (s, None))
    → Answered P Q rule f view xs result → Answered P Q rule (λ setting s. over setting (f setting s)) (λ x setting s. over setting (view x setting s)) xs result
answered_over P Q rule over f view xs (Ok x) none m = goes_over P Q rule over f (view x) xs m
answered_over P Q rule over f view xs (Err e) none m = record {
  step = m.step;
  moves = λ answer s p agrees lacks. let r = m.moves answer s p agrees lacks in record { state = r.state; stands = r.stands; past_is = r.past_is; ends = sym (none (setting_of rule answer) r.state) ∙ ap (over (setting_of rule answer)) r.ends };
}

-- what goes on with what was given, and passes want of memory
pub gives_over : {X Y A : Type 0} (P Q : World → Type 0) (rule : Rule) (over : Setting → Valued X → Valued Y) (f : Setting → State → Valued X) (view : A → Setting → State → Valued X) (a b : Telling) (result : Result A NoMemory) → ((setting : Setting) (s : State) → over setting (s, None) ≡ (s, None))
    → Gives P Q rule f view a b result → Gives P Q rule (λ setting s. over setting (f setting s)) (λ x setting s. over setting (view x setting s)) a b result
gives_over P Q rule over f view a b result none n = record { items = n.items; told = n.told; same = answered_over P Q rule over f view n.items result none n.same }

-- another view of the same result
pub gives_as : {X A B : Type 0} (P Q : World → Type 0) (rule : Rule) (f : Setting → State → Valued X) (view : A → Setting → State → Valued X) (other : B → Setting → State → Valued X) (a b : Telling) (x : A) (y : B)
    → ((setting : Setting) (s : State) → Q s.world → view x setting s ≡ other y setting s) → Gives P Q rule f view a b (Ok x) → Gives P Q rule f other a b (Ok y)
gives_as P Q rule f view other a b x y same n = record {
  items = n.items;
  told = n.told;
  same = λ answer s p agrees. let r = n.same answer s p agrees in record { state = r.state; stands = r.stands; past_is = r.past_is; ends = sym (same (setting_of rule answer) r.state r.stands) ∙ r.ends };
}

-- want of memory in any view
pub gives_none : {X A B : Type 0} (P Q : World → Type 0) (rule : Rule) (f : Setting → State → Valued X) (view : A → Setting → State → Valued X) (other : B → Setting → State → Valued X) (a b : Telling) (e : NoMemory) → Gives P Q rule f view a b (Err e) → Gives P Q rule f other a b (Err e)
gives_none P Q rule f view other a b e n = record { items = n.items; told = n.told; same = n.same }

-- nothing was done yet
pub walked_begun : {X : Type 0} (P : World → Type 0) (rule : Rule) (f g : Setting → State → Valued X) (a : Telling) → ((setting : Setting) (s : State) → g setting s ≡ f setting s) → Walked P P rule f g a a
walked_begun P rule f g a same = record {
  items = [];
  told = hears_none a;
  goes = λ answer s stands agrees. record { state = s; stands = stands; past_is = sym (append-nil s.past); ends = same (setting_of rule answer) s };
}

-- ---- the walk so far

pub walked_on : {X A : Type 0} (P Q R : World → Type 0) (rule : Rule) (f g : Setting → State → Valued X) (view : A → Setting → State → Valued X) (a b c : Telling) (x : A)
    → Walked P Q rule f g a b → Gives Q R rule g view b c (Ok x) → Walked P R rule f (view x) a c
walked_on P Q R rule f g view a b c x w n = record {
  items = w.items ++ n.items;
  told = hears_then a b c w.items n.items w.told n.told;
  goes = goes_then P Q R rule f g (view x) w.items n.items w.goes n.same;
}

pub walked_fails : {X A B : Type 0} (P Q R : World → Type 0) (rule : Rule) (f g : Setting → State → Valued X) (view : A → Setting → State → Valued X) (other : B → Setting → State → Valued X) (a b c : Telling) (e : NoMemory)
    → Walked P Q rule f g a b → Gives Q R rule g view b c (Err e) → Gives P R rule f other a c (Err e)
walked_fails P Q R rule f g view other a b c e w n = record {
  items = w.items ++ n.items;
  told = hears_then a b c w.items n.items w.told n.told;
  same = lacks_then P Q R rule f g w.items n.items w.goes n.same;
}

-- what is left to do, said in another way where this world stands
pub walked_as : {X : Type 0} (P Q : World → Type 0) (rule : Rule) (f g h : Setting → State → Valued X) (a b : Telling) → ((setting : Setting) (s : State) → Q s.world → g setting s ≡ h setting s) → Walked P Q rule f g a b → Walked P Q rule f h a b
walked_as P Q rule f g h a b same w = record {
  items = w.items;
  told = w.told;
  goes = λ answer s p agrees. let r = w.goes answer s p agrees in record { state = r.state; stands = r.stands; past_is = r.past_is; ends = sym (same (setting_of rule answer) r.state r.stands) ∙ r.ends };
}

-- nothing is left to do
pub walked_gives : {X A : Type 0} (P Q : World → Type 0) (rule : Rule) (f : Setting → State → Valued X) (view : A → Setting → State → Valued X) (a b : Telling) (x : A) → Walked P Q rule f (view x) a b → Gives P Q rule f view a b (Ok x)
walked_gives P Q rule f view a b x w = record { items = w.items; told = w.told; same = w.goes }
