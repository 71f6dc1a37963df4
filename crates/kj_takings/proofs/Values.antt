-- Running steps and evaluating trees keeps states alike.
use Rattle.std.proofs.Common.{◌≡◌, ◌∙◌, refl, sym, ap, subst, append_assoc, zero, suc, ℕ, ◌+◌, List, [], ◌∷◌, ◌++◌, Bool, true, false, ◌||◌, Option, None, Some, arith}
use Rattle.std.specs.Prelude.{is_some}
use Rattle.std.specs.List.{list_any}
use Rattle.std.proofs.lemmas.Bool.{false≢true}
use Rattle.kj_base.specs.declared.outcomes.Outcome.{Outcome}
use Rattle.kj_base.specs.Commands.{Command, All, Fast, Reply, Action}
use Rattle.kj_base.specs.declared.endings.Ending.{Ending}
use Rattle.kj_base.specs.declared.endings.Ending.TheVariants.{Value as Give, Throw, Promise as GivePromise, Input}
use Rattle.kj_base.specs.Record.{Item, Run}
use Rattle.kj_model.specs.Outcomes.{void, joined}
use Rattle.kj_model.specs.Nodes.{Form, Fired, Keeps as KeepsOutcome, Gone, Then, Race, Join, Side, Ready, Cell, Branch, Eager, Wrap, form_at}
use Rattle.kj_model.specs.World.{World, State, Setting, Held, Promise, held_at, depth_of}
use Rattle.kj_model.specs.Changes.{silent, put, unnamed}
use Rattle.kj_model.specs.Free.{free, usual}
use Rattle.kj_model.specs.Grown.{Grows}
use Rattle.kj_model.specs.Uses.{Use, IsSource, used_as, uses_of, is_outside}
use Rattle.kj_model.specs.Apply.{Refused, apply, applied, refusal, refused_stopped, refused_inside}
use Rattle.kj_model.specs.Value.{Given, Gave, took_if, holds_firing, promise_taken, promise_ended, ended, ended_if, rest_applied, all_applied, acted, with_item, with_stopped, answered, run_step, chosen, step_passed, freed, then_valued, given_outcome, then_of, side_valued, side_of, value_side, rest_valued, all_valued, kept_in, join_valued, or_void, content_outcome, hub_outcome, winner_valued, value_form, value_to, value, value_link}
use Rattle.kj_model.proofs.Growing.{stays, quiet, then_grows, apply_grows, freed_grows}
use Rattle.kj_ownership.specs.Kept.{is_spent}
use Rattle.kj_takings.specs.Alike.{Lists, with_lists}
use Rattle.kj_takings.specs.Spared.{names_of, names_of_all, names_in, spares, all_spare, spared_in}
use Rattle.kj_takings.proofs.Names.{found_taken, held_spent}
use Rattle.kj_takings.proofs.Worlds.{blind, held_alike, read_alike, put_near, unnamed_near}
use Rattle.kj_takings.proofs.Calm.{Same, Tame, tame_read, tame_world, less_same, Calm, CalmOnly, only, pure, bind, then_calm, reads, reads_world, quietly, calm_tame, both_true}
use Rattle.kj_takings.proofs.Frees.{free_tame}
use Rattle.kj_takings.proofs.Refusals.{is_ask, AllFair, apply_same}

-- commands of a step
pub asks_none : (us : List Use) → list_any (λ (u : Use). is_ask u.role) us ≡ false → (loose : ℕ → Bool) (w v : World) → AllFair loose w v us
asks_none [] e loose w v = tt
asks_none (u ∷ us) e loose w v =
    let p = parts (is_ask u.role) (list_any (λ (x : Use). is_ask x.role) us) e in
    (λ h. absurd (false≢true (sym p.0 ∙ h)), asks_none us p.1 loose w v)
  where
    parts : (a b : Bool) → a || b ≡ false → (a ≡ false) × (b ≡ false)
    parts false b h = (refl, h)
    parts true b h = absurd (false≢true (sym h))

pub no_asks : (sources : List ℕ) → list_any (λ (u : Use). is_ask u.role) (used_as IsSource sources) ≡ false
no_asks [] = refl
no_asks (source ∷ more) = no_asks more

inside_asks : (c : Command) → is_outside c ≡ false → list_any (λ (u : Use). is_ask u.role) (uses_of c) ≡ false
inside_asks (All name sources) e = no_asks sources
inside_asks (Fast name sources) e = no_asks sources
inside_asks (Reply cell outcome) e = absurd (false≢true (sym e))
inside_asks _ e = refl

outside_refused : (setting : Setting) (c : Command) (s : State) → is_outside c ≡ true → is_some (refusal setting true c s) ≡ true
outside_refused setting c s e = at_one s.world.stopped
  where
    at_one : (b : Bool) → is_some (refused_stopped b setting true c s) ≡ true
    at_one true = refl
    at_one false = ap (λ (x : Bool). is_some (refused_inside x setting c s)) e

refused_same : (o : Option Refused) (c : Command) (s : State) → is_some o ≡ true → ((applied o c s).0 ≡ s) × (is_some (applied o c s).1 ≡ true)
refused_same None c s e = absurd (false≢true e)
refused_same (Some refused) c s e = (refl, refl)

inside_same : (loose : ℕ → Bool) (setting : Setting) (c : Command) (k : ℕ) (s t : State) → spares loose c ≡ true → Same loose (names_of c + k) s t → Same loose k (apply setting true c s).0 (apply setting true c t).0 × (is_some (apply setting true c s).1 ≡ is_some (apply setting true c t).1)
inside_same loose setting c k s t sp r = decide (is_outside c) refl
  where
    decide : (b : Bool) → is_outside c ≡ b → Same loose k (apply setting true c s).0 (apply setting true c t).0 × (is_some (apply setting true c s).1 ≡ is_some (apply setting true c t).1)
    decide false e = apply_same loose setting true c k s t sp (asks_none (uses_of c) (inside_asks c e) loose s.world t.world) r
    decide true e =
        let p = refused_same (refusal setting true c s) c s (outside_refused setting c s e) in
        let q = refused_same (refusal setting true c t) c t (outside_refused setting c t e) in
        (subst (λ (u : State). Same loose k u (apply setting true c t).0) (sym p.0) (subst (Same loose k s) (sym q.0) (less_same loose (names_of c + k) k s t (omega arith) r)), p.1 ∙ sym q.1)

-- an answer beside alike states
abbrev pub SameBoth : {A : Type 0} → (ℕ → Bool) → ℕ → State × A → State × A → Type 0
SameBoth loose k x y = Same loose k x.0 y.0 × (x.1 ≡ y.1)

rest_same : (loose : ℕ → Bool) (k : ℕ) (o p : Option Refused) (rest : State → State × Bool) (s t : State) → is_some o ≡ is_some p → Same loose k s t → SameBoth loose k (rest s) (rest t) → SameBoth loose k (rest_applied o rest s) (rest_applied p rest t)
rest_same loose k (Some a) (Some b) rest s t e r h = (r, refl)
rest_same loose k None None rest s t e r h = h
rest_same loose k (Some a) None rest s t e r h = absurd (false≢true (sym e))
rest_same loose k None (Some b) rest s t e r h = absurd (false≢true e)

commands_same : (loose : ℕ → Bool) (setting : Setting) (cs : List Command) (k : ℕ) (s t : State) → all_spare loose cs ≡ true → Same loose (names_of_all cs + k) s t → SameBoth loose k (all_applied setting cs s) (all_applied setting cs t)
commands_same loose setting [] k s t sp r = (less_same loose (zero + k) k s t (omega arith) r, refl)
commands_same loose setting (c ∷ cs) k s t sp r =
    let p = both_true (spares loose c) (all_spare loose cs) sp in
    let a = apply setting true c s in
    let b = apply setting true c t in
    let x = inside_same loose setting c (names_of_all cs + k) s t p.0 (less_same loose (names_of_all (c ∷ cs) + k) (names_of c + (names_of_all cs + k)) s t (omega arith) r) in
    rest_same loose k a.1 b.1 (all_applied setting cs) a.0 b.0 x.1 (less_same loose (names_of_all cs + k) k a.0 b.0 (omega arith) x.0) (commands_same loose setting cs k a.0 b.0 p.1 x.0)

commands_grow : (setting : Setting) (cs : List Command) (s : State) → Grows s (all_applied setting cs s).0
commands_grow setting [] s = stays s
commands_grow setting (c ∷ cs) s = rest_grows (apply setting true c s).1 s (apply setting true c s).0 (all_applied setting cs) (apply_grows setting true c s) (commands_grow setting cs)
  where
    rest_grows : (r : Option Refused) (s a : State) (rest : State → State × Bool) → Grows s a → ((b : State) → Grows b (rest b).0) → Grows s (rest_applied r rest a).0
    rest_grows (Some refused) s a rest g h = g
    rest_grows None s a rest g h = then_grows s a (rest a).0 g (h a)

-- how a step ends
took_same : (loose : ℕ → Bool) (b : Bool) (name root k : ℕ) (s t : State) → Same loose k s t → SameBoth loose k (took_if b name root s) (took_if b name root t)
took_same loose true name root k s t r = (r, refl)
took_same loose false name root k s t r = (tame_world loose (unnamed name) (unnamed_near loose name) k s t r, refl)

holds_same : (o : Option ℕ) (root : ℕ) (l : Lists) (w : World) → holds_firing o root (with_lists l w) ≡ holds_firing o root w
holds_same None root l w = refl
holds_same (Some n) root l w = refl

taken_case : (loose : ℕ → Bool) (name : ℕ) (h : Option Held) (k : ℕ) (s t : State) → Same loose k s t → SameBoth loose k (promise_taken name h s) (promise_taken name h t)
taken_case loose name (Some (Promise root)) k s t r =
    subst (λ (b : Bool). SameBoth loose k (took_if (holds_firing s.world.firing root s.world) name root s) (took_if b name root t)) (read_alike loose k (λ u. holds_firing u.firing root u) s.world t.world (λ l u. holds_same u.firing root l u) r.world) (took_same loose (holds_firing s.world.firing root s.world) name root k s t r)
taken_case loose name None k s t r = (r, refl)
taken_case loose name (Some _) k s t r = (r, refl)

promise_untold : (name : ℕ) (h : Option Held) (s : State) → promise_taken name (found_taken h) s ≡ promise_taken name h s
promise_untold name None s = refl
promise_untold name (Some (Promise root)) s = refl
promise_untold name (Some _) s = refl

promise_spent : (name : ℕ) (h : Option Held) (s : State) → is_spent h ≡ true → promise_taken name h s ≡ promise_taken name None s
promise_spent name None s e = refl
promise_spent name (Some (Promise root)) s e = absurd (false≢true e)
promise_spent name (Some _) s e = refl

taken_same : (loose : ℕ → Bool) (name k : ℕ) (s t : State) → Same loose k s t → SameBoth loose k (promise_taken name (held_at name s.world.names) s) (promise_taken name (held_at name t.world.names) t)
taken_same loose name k s t r = decide (loose name) refl
  where
    through : (o p h : Option Held) → promise_taken name h s ≡ promise_taken name o s → promise_taken name h t ≡ promise_taken name p t → SameBoth loose k (promise_taken name o s) (promise_taken name p t)
    through o p h e f = subst (λ (x : State × Given). SameBoth loose k x (promise_taken name p t)) e (subst (λ (x : State × Given). SameBoth loose k (promise_taken name h s) x) f (taken_case loose name h k s t r))

    decide : (b : Bool) → loose name ≡ b → SameBoth loose k (promise_taken name (held_at name s.world.names) s) (promise_taken name (held_at name t.world.names) t)
    decide true e =
        let x = held_spent loose name s.world.names e r.world.alike.left.spent in
        let y = held_spent loose name t.world.names e r.world.alike.right.spent in
        through (held_at name s.world.names) (held_at name t.world.names) None (sym (promise_spent name (held_at name s.world.names) s x)) (sym (promise_spent name (held_at name t.world.names) t y))
    decide false e =
        let same = held_alike loose k name s.world t.world e r.world in
        through (held_at name s.world.names) (held_at name t.world.names) (found_taken (held_at name s.world.names)) (promise_untold name (held_at name s.world.names) s) (ap (λ (h : Option Held). promise_taken name h t) (sym same) ∙ promise_untold name (held_at name t.world.names) t)

promise_same : (loose : ℕ → Bool) (under : Bool) (name k : ℕ) (s t : State) → Same loose k s t → SameBoth loose k (promise_ended under name s) (promise_ended under name t)
promise_same loose true name k s t r = taken_same loose name k s t r
promise_same loose false name k s t r = (r, refl)

ended_same : (loose : ℕ → Bool) (e : Ending) (under : Bool) (input : Outcome) (k : ℕ) (s t : State) → Same loose k s t → SameBoth loose k (ended e under input s) (ended e under input t)
ended_same loose (Give words) under input k s t r = (r, refl)
ended_same loose (Throw exception) under input k s t r = (r, refl)
ended_same loose (GivePromise name) under input k s t r = promise_same loose under name.0 k s t r
ended_same loose Input under input k s t r = (r, refl)

ended_case : (loose : ℕ → Bool) (b : Bool) (e : Ending) (under : Bool) (input : Outcome) (k : ℕ) (s t : State) → Same loose k s t → SameBoth loose k (ended_if b e under input s) (ended_if b e under input t)
ended_case loose true e under input k s t r = ended_same loose e under input k s t r
ended_case loose false e under input k s t r = (r, refl)

acted_same : (loose : ℕ → Bool) (setting : Setting) (action : Action) (under : Bool) (input : Outcome) (k : ℕ) (s t : State) → all_spare loose action.commands ≡ true → Same loose (names_of_all action.commands + k) s t → SameBoth loose k (acted setting action under input s) (acted setting action under input t)
acted_same loose setting action under input k s t sp r =
    let x = all_applied setting action.commands s in
    let y = all_applied setting action.commands t in
    let a = commands_same loose setting action.commands k s t sp r in
    subst (λ (b : Bool). SameBoth loose k (ended_if x.1 action.ending under input x.0) (ended_if b action.ending under input y.0)) a.1 (ended_case loose x.1 action.ending under input k x.0 y.0 a.0)

took_grows : (b : Bool) (name root : ℕ) (s : State) → Grows s (took_if b name root s).0
took_grows true name root s = stays s
took_grows false name root s = quiet (unnamed name) s

taken_grows : (name : ℕ) (o : Option Held) (s : State) → Grows s (promise_taken name o s).0
taken_grows name (Some (Promise root)) s = took_grows (holds_firing s.world.firing root s.world) name root s
taken_grows name None s = stays s
taken_grows name (Some _) s = stays s

promise_grows : (under : Bool) (name : ℕ) (s : State) → Grows s (promise_ended under name s).0
promise_grows true name s = taken_grows name (held_at name s.world.names) s
promise_grows false name s = stays s

ended_grows : (b : Bool) (e : Ending) (under : Bool) (input : Outcome) (s : State) → Grows s (ended_if b e under input s).0
ended_grows true (Give words) under input s = stays s
ended_grows true (Throw exception) under input s = stays s
ended_grows true (GivePromise name) under input s = promise_grows under name.0 s
ended_grows true Input under input s = stays s
ended_grows false e under input s = stays s

acted_grows : (setting : Setting) (action : Action) (under : Bool) (input : Outcome) (s : State) → Grows s (acted setting action under input s).0
acted_grows setting action under input s =
    let r = all_applied setting action.commands s in
    then_grows s r.0 (acted setting action under input s).0 (commands_grow setting action.commands s) (ended_grows r.1 action.ending under input r.0)

-- a step runs
abbrev pub CalmValue : {A : Type 0} → (ℕ → Bool) → (State → State × A) → Type 0
CalmValue loose f = Calm loose 0 f

told_same : (loose : ℕ → Bool) (item : Item) (k : ℕ) (s t : State) → Same loose k s t → Same loose k (with_item item s) (with_item item t)
told_same loose item k s t r = record { world = r.world; past = ap (λ l. l ++ item ∷ []) r.past }

answered_calm : (loose : ℕ → Bool) (setting : Setting) (o : Option Action) (under : Bool) (n step : ℕ) (input : Outcome) → CalmValue loose (answered setting o under n step input)
answered_calm loose setting None under n step input = bind loose 0 0 (only (silent with_stopped)) (λ a s. (s, None)) (quietly loose with_stopped (blind loose with_stopped (λ l w. refl) (λ w. record { names = refl; limits = refl; awaited = refl }))) (λ a. pure loose None)
answered_calm loose setting (Some action) under n step input = record {
  grows = λ s.
      let g = acted_grows setting action under input (with_item (Run n step input action) s) in
      (Run n step input action ∷ g.0, g.1 ∙ append_assoc s.past (Run n step input action ∷ []) g.0);
  keeps = λ s t k e r.
      let item = Run n step input action in
      let more = (acted_grows setting action under input (with_item item s)).0 in
      let p = both_true (all_spare loose action.commands) (spared_in loose more) e in
      let x = told_same loose item (names_of_all action.commands + k) s t (less_same loose (names_in (item ∷ more) + (0 + k)) (names_of_all action.commands + k) s t (omega arith) r) in
      let y = acted_same loose setting action under input k (with_item item s) (with_item item t) p.0 x in
      (y.0, ap Some y.1);
}

pub run_step_calm : (loose : ℕ → Bool) (setting : Setting) (under : Bool) (n step : ℕ) (input : Outcome) → CalmValue loose (run_step setting under n step input)
run_step_calm loose setting under n step input = bind loose 0 0 (λ s. (s, setting.answer s.past step)) (λ o. answered setting o under n step input) (reads loose (λ s. setting.answer s.past step) (λ s t k r. ap (λ (l : List Item). setting.answer l step) (sym r.past))) (λ o. answered_calm loose setting o under n step input)

step_calm : (loose : ℕ → Bool) (setting : Setting) (under : Bool) (n : ℕ) (step : Option ℕ) (o : Outcome) → CalmValue loose (step_passed setting under n step o)
step_calm loose setting under n None o = pure loose (Some (Gave o))
step_calm loose setting under n (Some step) o = run_step_calm loose setting under n step o

usual_same : (l : Lists) (w : World) → usual (with_lists l w) ≡ usual w
usual_same l w = refl

pub freed_tame : (loose : ℕ → Bool) (n : ℕ) → Tame loose (freed n)
freed_tame loose n = tame_read loose usual (λ g. free g n) usual_same (λ g. free_tame loose g n)

pub freed_calm : (loose : ℕ → Bool) (n : ℕ) → CalmOnly loose 0 (freed n)
freed_calm loose n = calm_tame loose (freed n) (freed_grows n) (freed_tame loose n)

then_valued_calm : (loose : ℕ → Bool) (setting : Setting) (under : Bool) (n : ℕ) (v e : Option ℕ) (t : ℕ) (o : Option Outcome) → CalmValue loose (then_valued setting under n v e t o)
then_valued_calm loose setting under n v e t None = pure loose None
then_valued_calm loose setting under n v e t (Some o) =
    bind loose 0 0 (only (λ s. silent (put n (Then v e None)) (freed t s))) (λ a. step_passed setting under n (chosen v e o) o)
    (then_calm loose (freed t) (silent (put n (Then v e None))) (freed_calm loose t) (quietly loose (put n (Then v e None)) (put_near loose n (Then v e None))))
    (λ a. step_calm loose setting under n (chosen v e o) o)

-- trees
abbrev pub ValuesCalm : (ℕ → Bool) → (ℕ → State → State × Option Outcome) → Type 0
ValuesCalm loose f = (n : ℕ) → CalmValue loose (f n)

then_of_calm : (loose : ℕ → Bool) (setting : Setting) (f : ℕ → State → State × Option Outcome) → ValuesCalm loose f → (under : Bool) (n : ℕ) (o : Option Form) → CalmValue loose (then_of setting f under n o)
then_of_calm loose setting f h under n (Some (Then v e (Some t))) = bind loose 0 0 (f t) (λ o. then_valued setting under n v e t o) (h t) (λ o. then_valued_calm loose setting under n v e t o)
then_of_calm loose setting f h under n (Some (Then v e None)) = pure loose (Some (Gave void))
then_of_calm loose setting f h under n None = pure loose (Some (Gave void))
then_of_calm loose setting f h under n (Some _) = pure loose (Some (Gave void))

side_valued_calm : (loose : ℕ → Bool) (side t : ℕ) (o : Option Outcome) → CalmValue loose (side_valued side t o)
side_valued_calm loose side t None = pure loose None
side_valued_calm loose side t (Some o) =
    bind loose 0 0 (only (λ s. silent (put side (Side Gone)) (freed t s))) (λ a s. (s, Some o))
    (then_calm loose (freed t) (silent (put side (Side Gone))) (freed_calm loose t) (quietly loose (put side (Side Gone)) (put_near loose side (Side Gone))))
    (λ a. pure loose (Some o))

side_of_calm : (loose : ℕ → Bool) (f : ℕ → State → State × Option Outcome) → ValuesCalm loose f → (side : ℕ) (o : Option Form) → CalmValue loose (side_of f side o)
side_of_calm loose f h side (Some (Side (Fired t))) = bind loose 0 0 (f t) (λ o. side_valued side t o) (h t) (λ o. side_valued_calm loose side t o)
side_of_calm loose f h side (Some (Side (KeepsOutcome o))) = pure loose (Some o)
side_of_calm loose f h side (Some (Side _)) = pure loose (Some void)
side_of_calm loose f h side None = pure loose (Some void)
side_of_calm loose f h side (Some _) = pure loose (Some void)

pub form_reads : (loose : ℕ → Bool) (n : ℕ) → Calm loose 0 (λ s. (s, form_at n s.world.nodes))
form_reads loose n = reads_world loose (λ w. form_at n w.nodes) (λ l u. refl)

side_calm : (loose : ℕ → Bool) (f : ℕ → State → State × Option Outcome) → ValuesCalm loose f → ValuesCalm loose (value_side f)
side_calm loose f h side = bind loose 0 0 (λ s. (s, form_at side s.world.nodes)) (λ o. side_of f side o) (form_reads loose side) (λ o. side_of_calm loose f h side o)

rest_calm : (loose : ℕ → Bool) (r : Option Outcome) (rest : Outcome → State → State × Option Outcome) → ((o : Outcome) → CalmValue loose (rest o)) → CalmValue loose (rest_valued r rest)
rest_calm loose None rest h = pure loose None
rest_calm loose (Some o) rest h = h o

sides_calm : (loose : ℕ → Bool) (f : ℕ → State → State × Option Outcome) → ValuesCalm loose f → (sides : List ℕ) (outcomes : List Outcome) → CalmValue loose (all_valued f outcomes sides)
sides_calm loose f h [] outcomes = pure loose (Some (joined outcomes))
sides_calm loose f h (side ∷ sides) outcomes = bind loose 0 0 (value_side f side) (λ r. rest_valued r (λ o. all_valued f (outcomes ++ o ∷ []) sides)) (side_calm loose f h side) (λ r. rest_calm loose r (λ o. all_valued f (outcomes ++ o ∷ []) sides) (λ o. sides_calm loose f h sides (outcomes ++ o ∷ [])))

join_calm : (loose : ℕ → Bool) (fast : Bool) (f : ℕ → State → State × Option Outcome) → ValuesCalm loose f → (sides : List ℕ) → CalmValue loose (join_valued fast f sides)
join_calm loose true f h sides = reads_world loose (λ w. Some (joined (kept_in w.nodes sides))) (λ l u. refl)
join_calm loose false f h sides = sides_calm loose f h sides []

winner_calm : (loose : ℕ → Bool) (f : ℕ → State → State × Option Outcome) → ValuesCalm loose f → (o : Option ℕ) → CalmValue loose (winner_valued f o)
winner_calm loose f h None = pure loose (Some void)
winner_calm loose f h (Some side) = side_calm loose f h side

value_form_calm : (loose : ℕ → Bool) (setting : Setting) (f : ℕ → State → State × Option Outcome) → ValuesCalm loose f → (n : ℕ) (o : Option Form) → CalmValue loose (value_form setting f n o)
value_form_calm loose setting f h n (Some (Race left right winner)) = winner_calm loose f h winner
value_form_calm loose setting f h n (Some (Join fast sides)) = join_calm loose fast f h sides
value_form_calm loose setting f h n (Some (Then v e tree)) = bind loose 0 0 (then_of setting f false n (Some (Then v e tree))) (λ g s. (s, given_outcome g)) (then_of_calm loose setting f h false n (Some (Then v e tree))) (λ g. pure loose (given_outcome g))
value_form_calm loose setting f h n (Some (Branch hub)) = reads_world loose (λ w. Some (hub_outcome (form_at hub w.nodes))) (λ l u. refl)
value_form_calm loose setting f h n (Some (Ready o)) = pure loose (Some o)
value_form_calm loose setting f h n (Some (Cell o)) = pure loose (Some (or_void o))
value_form_calm loose setting f h n (Some (Eager content)) = pure loose (Some (content_outcome content))
value_form_calm loose setting f h n (Some (Wrap canceler content)) = pure loose (Some (content_outcome content))
value_form_calm loose setting f h n None = pure loose (Some void)
value_form_calm loose setting f h n (Some _) = pure loose (Some void)

value_to_calm : (loose : ℕ → Bool) (setting : Setting) (k : ℕ) → ValuesCalm loose (value_to setting k)
unfolding value_to
value_to_calm loose setting zero n = pure loose (Some void)
value_to_calm loose setting (suc k) n = bind loose 0 0 (λ s. (s, form_at n s.world.nodes)) (λ o. value_form setting (value_to setting k) n o) (form_reads loose n) (λ o. value_form_calm loose setting (value_to setting k) (value_to_calm loose setting k) n o)

pub value_calm : (loose : ℕ → Bool) (setting : Setting) → ValuesCalm loose (value setting)
value_calm loose setting n = bind loose 0 0 (λ s. (s, depth_of s.world)) (λ d. value_to setting d n) (reads_world loose depth_of (λ l u. refl)) (λ d. value_to_calm loose setting d n)

pub link_calm : (loose : ℕ → Bool) (setting : Setting) (n : ℕ) → CalmValue loose (value_link setting n)
link_calm loose setting n = bind loose 0 0 (λ s. (s, form_at n s.world.nodes)) (λ o. then_of setting (value setting) true n o) (form_reads loose n) (λ o. then_of_calm loose setting (value setting) (value_calm loose setting) true n o)
