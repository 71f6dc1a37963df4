-- What a line is read as, is what it means.
use Rattle.std.proofs.Common.{◌≡◌, ◌⊎◌, ℕ, ◌<◌, ◌≤◌, ◌^◌, ◌%◌, ◌==◌, ◌&&◌, lit<, lit≤, List, [], ◌∷◌, Option, None, Some, Bool, true, false, cond, refl, sym, ap, ◌∙◌, subst, arith, length, map, nat_lt, nat_le, inl, inr}
use Rattle.std.specs.Prelude.{codes, decimal}
use Rattle.std.specs.List.{onto_first, count_by}
use Rattle.std.proofs.lemmas.Bool.{cases_Bool}
use Rattle.std.proofs.lemmas.Bool.Decides.{nat_tests}
use Rattle.std.proofs.lemmas.List.{length-map}
use Rattle.std.proofs.lemmas.List.Splits.{length-slice_split}
use Rattle.kj_base.specs.declared.numbers.StepId.{StepId}
use Rattle.kj_base.specs.declared.numbers.Name.{Name}
use Rattle.kj_base.specs.declared.numbers.Limits.{Limits}
use Rattle.kj_base.specs.declared.outcomes.Exception.{Exception}
use Rattle.kj_base.specs.declared.endings.Ending.TheVariants.{Value, Throw, Promise, Input}
use Rattle.promise_commands.specs.declared.command.Command.{Command}
use Rattle.promise_commands.specs.declared.command.Command.TheVariants.{Now, Broken, Later, Last, Pair, Then, Chain, Eager, Fork, Branch, Race, All, Fast, Fulfil, Reject, DropCell, Detach, NewSet, Add, OnEmpty, Clear, NewCanceler, Cancel, Drop}
use Rattle.promise_script.specs.declared.meaning.Meaning.{Meaning}
use Rattle.promise_script.specs.declared.meaning.Meaning.TheVariants.{Nothing, Limits as LimitsLine, Do, Turn, Run, Wait, Step, Close}
use Rattle.promise_script.specs.declared.verbs.Maker.{Maker}
use Rattle.promise_script.specs.declared.verbs.Maker.TheVariants.{Now as NowWord, Fail as FailWord, Later as LaterWord, Last as LastWord, Pair as PairWord, Empty as EmptyWord}
use Rattle.promise_script.specs.declared.verbs.Combiner.{Combiner}
use Rattle.promise_script.specs.declared.verbs.Combiner.TheVariants.{Then as ThenWord, Chain as ChainWord, Eager as EagerWord, Fork as ForkWord, Branch as BranchWord, Race as RaceWord, All as AllWord, Fast as FastWord}
use Rattle.promise_script.specs.declared.verbs.User.{User}
use Rattle.promise_script.specs.declared.verbs.User.TheVariants.{Fulfil as FulfilWord, Reject as RejectWord, DropCell as DropCellWord, Detach as DetachWord, Set as SetWord, Add as AddWord, Clear as ClearWord, Canceler as CancelerWord, Cancel as CancelWord, Drop as DropWord}
use Rattle.promise_script.specs.declared.verbs.Verb.{Verb}
use Rattle.promise_script.specs.declared.verbs.Verb.TheVariants.{Make, Combine, Use, Limits as LimitsWord, Turn as TurnWord, Run as RunWord, Wait as WaitWord, Step as StepWord, Value as ValueWord, Throw as ThrowWord, Promise as PromiseWord, Input as InputWord}
use Rattle.promise_script.specs.ScriptText.{name_word, exception_words, command_words, meaning_words, NameFits, StepFits, WordsFit, NamesFit, CommandFits, LimitsFit, MeaningFits, words_of, is_remark, Spells, Means}
use Rattle.promise_script.specs.Decode.{given, both, or_else, and_then, number_read, to_step, words_read, names_read, exception_read, one_name, two_names, one_step, two_steps, name_and, maker_read, combiner_read, user_read, other_read, verb_read, made_by, combined_by, used_by, limits_fit, limits_of, limits_read, one_number, turns_read, bare, meaning_read, words_meaning, text_read}
use Rattle.promise_script.proofs.Numbers.{read_is, read_sound}
use Rattle.promise_script.proofs.Shapes.{Sound, Complete, given_some, both_some, both_are, first_sound, words_sound, words_complete, names_sound, names_complete, one_name_sound, name_complete, TwoNamesFit, two_names_words, two_names_sound, two_names_complete, one_step_words, one_step_sound, one_step_complete, TwoStepsFit, two_steps_words, two_steps_sound, two_steps_complete, CodeFits, exception_sound, exception_complete, NameAndFits, name_and_words, name_and_sound, name_and_complete}

-- ---- first words

abbrev maker_text : Maker → List ℕ
maker_text NowWord = codes "now"
maker_text FailWord = codes "fail"
maker_text LaterWord = codes "later"
maker_text LastWord = codes "last"
maker_text PairWord = codes "pair"
maker_text EmptyWord = codes "empty"

maker_sound : (w : List ℕ) (v : Maker) → maker_read w ≡ Some v → w ≡ maker_text v
maker_sound w v e = first_sound maker_text w (NowWord ∷ FailWord ∷ LaterWord ∷ LastWord ∷ PairWord ∷ EmptyWord ∷ []) v e

abbrev combiner_text : Combiner → List ℕ
combiner_text ThenWord = codes "then"
combiner_text ChainWord = codes "chain"
combiner_text EagerWord = codes "eager"
combiner_text ForkWord = codes "fork"
combiner_text BranchWord = codes "branch"
combiner_text RaceWord = codes "race"
combiner_text AllWord = codes "all"
combiner_text FastWord = codes "fast"

combiner_sound : (w : List ℕ) (v : Combiner) → combiner_read w ≡ Some v → w ≡ combiner_text v
combiner_sound w v e = first_sound combiner_text w (ThenWord ∷ ChainWord ∷ EagerWord ∷ ForkWord ∷ BranchWord ∷ RaceWord ∷ AllWord ∷ FastWord ∷ []) v e

abbrev user_text : User → List ℕ
user_text FulfilWord = codes "fulfil"
user_text RejectWord = codes "reject"
user_text DropCellWord = codes "dropcell"
user_text DetachWord = codes "detach"
user_text SetWord = codes "set"
user_text AddWord = codes "add"
user_text ClearWord = codes "clear"
user_text CancelerWord = codes "canceler"
user_text CancelWord = codes "cancel"
user_text DropWord = codes "drop"

user_sound : (w : List ℕ) (v : User) → user_read w ≡ Some v → w ≡ user_text v
user_sound w v e = first_sound user_text w (FulfilWord ∷ RejectWord ∷ DropCellWord ∷ DetachWord ∷ SetWord ∷ AddWord ∷ ClearWord ∷ CancelerWord ∷ CancelWord ∷ DropWord ∷ []) v e

abbrev verb_text : Verb → List ℕ
verb_text (Make v) = maker_text v
verb_text (Combine v) = combiner_text v
verb_text (Use v) = user_text v
verb_text LimitsWord = codes "limits"
verb_text TurnWord = codes "turn"
verb_text RunWord = codes "run"
verb_text WaitWord = codes "wait"
verb_text StepWord = codes "step"
verb_text ValueWord = codes "value"
verb_text ThrowWord = codes "throw"
verb_text PromiseWord = codes "promise"
verb_text InputWord = codes "input"

other_sound : (w : List ℕ) (v : Verb) → other_read w ≡ Some v → w ≡ verb_text v
other_sound w v e = first_sound verb_text w (LimitsWord ∷ TurnWord ∷ RunWord ∷ WaitWord ∷ StepWord ∷ ValueWord ∷ ThrowWord ∷ PromiseWord ∷ InputWord ∷ []) v e

either_some : {A : Type 0} (a b : Option A) (x : A) → or_else a b ≡ Some x → (a ≡ Some x) ⊎ (b ≡ Some x)
either_some None b x e = inr e
either_some (Some y) b x e = inl e

verb_sound : (w : List ℕ) (v : Verb) → verb_read w ≡ Some v → w ≡ verb_text v
verb_sound w v e = first (either_some (given Make (maker_read w)) (or_else (given Combine (combiner_read w)) (or_else (given Use (user_read w)) (other_read w))) v e)
  where
    third : (given Use (user_read w) ≡ Some v) ⊎ (other_read w ≡ Some v) → w ≡ verb_text v
    third (inl e) = let g = given_some Use (user_read w) v e in user_sound w g.0 g.1 ∙ ap verb_text g.2
    third (inr e) = other_sound w v e

    second : (given Combine (combiner_read w) ≡ Some v) ⊎ (or_else (given Use (user_read w)) (other_read w) ≡ Some v) → w ≡ verb_text v
    second (inl e) = let g = given_some Combine (combiner_read w) v e in combiner_sound w g.0 g.1 ∙ ap verb_text g.2
    second (inr e) = third (either_some (given Use (user_read w)) (other_read w) v e)

    first : (given Make (maker_read w) ≡ Some v) ⊎ (or_else (given Combine (combiner_read w)) (or_else (given Use (user_read w)) (other_read w)) ≡ Some v) → w ≡ verb_text v
    first (inl e) = let g = given_some Make (maker_read w) v e in maker_sound w g.0 g.1 ∙ ap verb_text g.2
    first (inr e) = second (either_some (given Combine (combiner_read w)) (or_else (given Use (user_read w)) (other_read w)) v e)

-- ---- commands

abbrev Commanded : List (List ℕ) → Command → Type 0
Commanded ws c = CommandFits c × (ws ≡ command_words c)

command_from : {A : Type 0} (read : List (List ℕ) → Option A) (F : A → Type 0) (T : A → List (List ℕ)) (f : A → Command) (word : List ℕ) (ps : List (List ℕ)) (c : Command)
    → Sound read F T → ((x : A) → F x → CommandFits (f x)) → ((x : A) → word ∷ T x ≡ command_words (f x)) → given f (read ps) ≡ Some c → Commanded (word ∷ ps) c
command_from read F T f word ps c sound fits text e =
    let g = given_some f (read ps) c e in
    let s = sound ps g.0 g.1 in
    let here : Commanded (word ∷ ps) (f g.0) = (fits g.0 s.0, ap (λ (xs : List (List ℕ)). word ∷ xs) s.1 ∙ text g.0) in
    subst (λ (d : Command). Commanded (word ∷ ps) d) g.2 here

abbrev words_words : List ℕ → List (List ℕ)
words_words ws = map decimal ws

abbrev names_words : List Name → List (List ℕ)
names_words names = map name_word names

abbrev one_words : Name → List (List ℕ)
one_words n = name_word n ∷ []

valued_sound : Sound (name_and words_read) (NameAndFits WordsFit) (name_and_words words_words)
valued_sound = name_and_sound words_read WordsFit words_words words_sound

valued_complete : Complete (name_and words_read) (NameAndFits WordsFit) (name_and_words words_words)
valued_complete = name_and_complete words_read WordsFit words_words words_complete

broken_sound : Sound (name_and exception_read) (NameAndFits CodeFits) (name_and_words exception_words)
broken_sound = name_and_sound exception_read CodeFits exception_words exception_sound

broken_complete : Complete (name_and exception_read) (NameAndFits CodeFits) (name_and_words exception_words)
broken_complete = name_and_complete exception_read CodeFits exception_words exception_complete

joined_sound : Sound (name_and names_read) (NameAndFits NamesFit) (name_and_words names_words)
joined_sound = name_and_sound names_read NamesFit names_words names_sound

joined_complete : Complete (name_and names_read) (NameAndFits NamesFit) (name_and_words names_words)
joined_complete = name_and_complete names_read NamesFit names_words names_complete

raced_sound : Sound (name_and two_names) (NameAndFits TwoNamesFit) (name_and_words two_names_words)
raced_sound = name_and_sound two_names TwoNamesFit two_names_words two_names_sound

raced_complete : Complete (name_and two_names) (NameAndFits TwoNamesFit) (name_and_words two_names_words)
raced_complete = name_and_complete two_names TwoNamesFit two_names_words two_names_complete

grouped_sound : Sound (name_and one_step) (NameAndFits StepFits) (name_and_words one_step_words)
grouped_sound = name_and_sound one_step StepFits one_step_words one_step_sound

grouped_complete : Complete (name_and one_step) (NameAndFits StepFits) (name_and_words one_step_words)
grouped_complete = name_and_complete one_step StepFits one_step_words one_step_complete

source_sound : Sound (name_and two_steps) (NameAndFits TwoStepsFit) (name_and_words two_steps_words)
source_sound = name_and_sound two_steps TwoStepsFit two_steps_words two_steps_sound

source_complete : Complete (name_and two_steps) (NameAndFits TwoStepsFit) (name_and_words two_steps_words)
source_complete = name_and_complete two_steps TwoStepsFit two_steps_words two_steps_complete

continued_sound : Sound (name_and (name_and two_steps)) (NameAndFits (NameAndFits TwoStepsFit)) (name_and_words (name_and_words two_steps_words))
continued_sound = name_and_sound (name_and two_steps) (NameAndFits TwoStepsFit) (name_and_words two_steps_words) source_sound

continued_complete : Complete (name_and (name_and two_steps)) (NameAndFits (NameAndFits TwoStepsFit)) (name_and_words (name_and_words two_steps_words))
continued_complete = name_and_complete (name_and two_steps) (NameAndFits TwoStepsFit) (name_and_words two_steps_words) source_complete

one_sound : Sound one_name NameFits one_words
one_sound = one_name_sound

two_sound : Sound two_names TwoNamesFit two_names_words
two_sound = two_names_sound

made_sound : (v : Maker) (ps : List (List ℕ)) (c : Command) → made_by v ps ≡ Some c → Commanded (maker_text v ∷ ps) c
made_sound NowWord ps c e = command_from (name_and words_read) (NameAndFits WordsFit) (name_and_words words_words) (λ (p : Name × List ℕ). Now p.0 p.1) (codes "now") ps c valued_sound (λ p fits. fits) (λ p. refl) e
made_sound FailWord ps c e = command_from (name_and exception_read) (NameAndFits CodeFits) (name_and_words exception_words) (λ (p : Name × Exception). Broken p.0 p.1) (codes "fail") ps c broken_sound (λ p fits. fits) (λ p. refl) e
made_sound LaterWord ps c e = command_from (one_name) (NameFits) (one_words) (λ (p : Name). Later p) (codes "later") ps c one_sound (λ p fits. fits) (λ p. refl) e
made_sound LastWord ps c e = command_from (one_name) (NameFits) (one_words) (λ (p : Name). Last p) (codes "last") ps c one_sound (λ p fits. fits) (λ p. refl) e
made_sound PairWord ps c e = command_from (two_names) (TwoNamesFit) (two_names_words) (λ (p : Name × Name). Pair p.0 p.1) (codes "pair") ps c two_sound (λ p fits. fits) (λ p. refl) e
made_sound EmptyWord ps c e = command_from (two_names) (TwoNamesFit) (two_names_words) (λ (p : Name × Name). OnEmpty p.0 p.1) (codes "empty") ps c two_sound (λ p fits. fits) (λ p. refl) e

combined_sound : (v : Combiner) (ps : List (List ℕ)) (c : Command) → combined_by v ps ≡ Some c → Commanded (combiner_text v ∷ ps) c
combined_sound ThenWord ps c e = command_from (name_and (name_and two_steps)) (NameAndFits (NameAndFits TwoStepsFit)) (name_and_words (name_and_words two_steps_words)) (λ (p : Name × (Name × (Option StepId × Option StepId))). Then p.0 p.1.0 p.1.1.0 p.1.1.1) (codes "then") ps c continued_sound (λ p fits. (fits.0, fits.1.0, fits.1.1.0, fits.1.1.1)) (λ p. refl) e
combined_sound ChainWord ps c e = command_from (name_and (name_and two_steps)) (NameAndFits (NameAndFits TwoStepsFit)) (name_and_words (name_and_words two_steps_words)) (λ (p : Name × (Name × (Option StepId × Option StepId))). Chain p.0 p.1.0 p.1.1.0 p.1.1.1) (codes "chain") ps c continued_sound (λ p fits. (fits.0, fits.1.0, fits.1.1.0, fits.1.1.1)) (λ p. refl) e
combined_sound EagerWord ps c e = command_from (two_names) (TwoNamesFit) (two_names_words) (λ (p : Name × Name). Eager p.0 p.1) (codes "eager") ps c two_sound (λ p fits. fits) (λ p. refl) e
combined_sound ForkWord ps c e = command_from (two_names) (TwoNamesFit) (two_names_words) (λ (p : Name × Name). Fork p.0 p.1) (codes "fork") ps c two_sound (λ p fits. fits) (λ p. refl) e
combined_sound BranchWord ps c e = command_from (two_names) (TwoNamesFit) (two_names_words) (λ (p : Name × Name). Branch p.0 p.1) (codes "branch") ps c two_sound (λ p fits. fits) (λ p. refl) e
combined_sound RaceWord ps c e = command_from (name_and two_names) (NameAndFits TwoNamesFit) (name_and_words two_names_words) (λ (p : Name × (Name × Name)). Race p.0 p.1.0 p.1.1) (codes "race") ps c raced_sound (λ p fits. (fits.0, fits.1.0, fits.1.1)) (λ p. refl) e
combined_sound AllWord ps c e = command_from (name_and names_read) (NameAndFits NamesFit) (name_and_words names_words) (λ (p : Name × List Name). All p.0 p.1) (codes "all") ps c joined_sound (λ p fits. fits) (λ p. refl) e
combined_sound FastWord ps c e = command_from (name_and names_read) (NameAndFits NamesFit) (name_and_words names_words) (λ (p : Name × List Name). Fast p.0 p.1) (codes "fast") ps c joined_sound (λ p fits. fits) (λ p. refl) e

used_sound : (v : User) (ps : List (List ℕ)) (c : Command) → used_by v ps ≡ Some c → Commanded (user_text v ∷ ps) c
used_sound FulfilWord ps c e = command_from (name_and words_read) (NameAndFits WordsFit) (name_and_words words_words) (λ (p : Name × List ℕ). Fulfil p.0 p.1) (codes "fulfil") ps c valued_sound (λ p fits. fits) (λ p. refl) e
used_sound RejectWord ps c e = command_from (name_and exception_read) (NameAndFits CodeFits) (name_and_words exception_words) (λ (p : Name × Exception). Reject p.0 p.1) (codes "reject") ps c broken_sound (λ p fits. fits) (λ p. refl) e
used_sound DropCellWord ps c e = command_from (one_name) (NameFits) (one_words) (λ (p : Name). DropCell p) (codes "dropcell") ps c one_sound (λ p fits. fits) (λ p. refl) e
used_sound DetachWord ps c e = command_from (one_name) (NameFits) (one_words) (λ (p : Name). Detach p) (codes "detach") ps c one_sound (λ p fits. fits) (λ p. refl) e
used_sound SetWord ps c e = command_from (name_and one_step) (NameAndFits StepFits) (name_and_words one_step_words) (λ (p : Name × Option StepId). NewSet p.0 p.1) (codes "set") ps c grouped_sound (λ p fits. fits) (λ p. refl) e
used_sound AddWord ps c e = command_from (two_names) (TwoNamesFit) (two_names_words) (λ (p : Name × Name). Add p.0 p.1) (codes "add") ps c two_sound (λ p fits. fits) (λ p. refl) e
used_sound ClearWord ps c e = command_from (one_name) (NameFits) (one_words) (λ (p : Name). Clear p) (codes "clear") ps c one_sound (λ p fits. fits) (λ p. refl) e
used_sound CancelerWord ps c e = command_from (one_name) (NameFits) (one_words) (λ (p : Name). NewCanceler p) (codes "canceler") ps c one_sound (λ p fits. fits) (λ p. refl) e
used_sound CancelWord ps c e = command_from (one_name) (NameFits) (one_words) (λ (p : Name). Cancel p) (codes "cancel") ps c one_sound (λ p fits. fits) (λ p. refl) e
used_sound DropWord ps c e = command_from (one_name) (NameFits) (one_words) (λ (p : Name). Drop p) (codes "drop") ps c one_sound (λ p fits. fits) (λ p. refl) e

-- ---- lines

abbrev Said : List (List ℕ) → Meaning → Type 0
Said ws m = MeaningFits m × (ws ≡ meaning_words m)

said_from : {A : Type 0} (read : List (List ℕ) → Option A) (F : A → Type 0) (T : A → List (List ℕ)) (f : A → Meaning) (word : List ℕ) (ps : List (List ℕ)) (m : Meaning)
    → Sound read F T → ((x : A) → F x → MeaningFits (f x)) → ((x : A) → word ∷ T x ≡ meaning_words (f x)) → given f (read ps) ≡ Some m → Said (word ∷ ps) m
said_from read F T f word ps m sound fits text e =
    let g = given_some f (read ps) m e in
    let s = sound ps g.0 g.1 in
    let here : Said (word ∷ ps) (f g.0) = (fits g.0 s.0, ap (λ (xs : List (List ℕ)). word ∷ xs) s.1 ∙ text g.0) in
    subst (λ (d : Meaning). Said (word ∷ ps) d) g.2 here

pub then_some : {A B : Type 0} (f : A → Option B) (o : Option A) (y : B) → and_then f o ≡ Some y → (x : A) × (o ≡ Some x) × (f x ≡ Some y)
then_some f None y e = absurd (cc (e))
then_some f (Some x) y e = (x, refl, e)

two_tests : (a b : Bool) → (a && b) ≡ true → (a ≡ true) × (b ≡ true)
two_tests true true e = (refl, refl)
two_tests true false e = absurd (cc (e))
two_tests false true e = absurd (cc (e))
two_tests false false e = absurd (cc (e))

le_of : (m n : ℕ) → nat_le m n ≡ true → m ≤ n
le_of m n h = grind (arith, nat_tests)

test_le : (m n : ℕ) → m ≤ n → nat_le m n ≡ true
test_le m n h = grind (arith, nat_tests)

same_of : (m n : ℕ) → (m == n) ≡ true → m ≡ n
same_of m n h = grind (arith, nat_tests)

test_same : (m n : ℕ) → m ≡ n → (m == n) ≡ true
test_same m n h = grind (arith, nat_tests)

limits_from_test : (l : Limits) → limits_fit l.slots l.names ≡ true → LimitsFit l
limits_from_test l e =
    let s = l.slots in
    let n = l.names in
    let t4 = two_tests (nat_le 8 s && nat_le s 4194304 && (s % 8 == 0) && nat_le 1 n) (nat_le n 1048576) e in
    let t3 = two_tests (nat_le 8 s && nat_le s 4194304 && (s % 8 == 0)) (nat_le 1 n) t4.0 in
    let t2 = two_tests (nat_le 8 s && nat_le s 4194304) (s % 8 == 0) t3.0 in
    let t1 = two_tests (nat_le 8 s) (nat_le s 4194304) t2.0 in
    (le_of 8 s t1.0, le_of s 4194304 t1.1, same_of (s % 8) 0 t2.1, le_of 1 n t3.1, le_of n 1048576 t4.1)

limits_test : (l : Limits) → LimitsFit l → limits_fit l.slots l.names ≡ true
limits_test l fits =
    let a = test_le 8 l.slots fits.0 in
    let b = test_le l.slots 4194304 fits.1 in
    let c = test_same (l.slots % 8) 0 fits.2 in
    let d = test_le 1 l.names fits.3 in
    let e = test_le l.names 1048576 fits.4 in
    λ i. a i && b i && c i && d i && e i

abbrev limits_words : Limits → List (List ℕ)
limits_words l = decimal l.slots ∷ decimal l.names ∷ []

limits_of_some : (p : ℕ × ℕ) (l : Limits) → limits_of p ≡ Some l → LimitsFit l × (p.0 ≡ l.slots) × (p.1 ≡ l.names)
limits_of_some p l e = by (limits_fit p.0 p.1) refl e
  where
    by : (b : Bool) → limits_fit p.0 p.1 ≡ b → cond b (Some (let x : Limits = record { slots = p.0; names = p.1 } in x)) None ≡ Some l → LimitsFit l × (p.0 ≡ l.slots) × (p.1 ≡ l.names)
    by true test e =
        let same : (let x : Limits = record { slots = p.0; names = p.1 } in x) ≡ l = cc (e) in
        let slots : p.0 ≡ l.slots = ap (λ (x : Limits). x.slots) same in
        let names : p.1 ≡ l.names = ap (λ (x : Limits). x.names) same in
        (limits_from_test l ((λ i. limits_fit (sym slots i) (sym names i)) ∙ test), slots, names)
    by false test e = absurd (cc (e))

limits_sound : Sound limits_read LimitsFit limits_words
limits_sound [] l e = absurd (cc (e))
limits_sound (s ∷ []) l e = absurd (cc (e))
limits_sound (s ∷ n ∷ []) l e =
    let found = then_some limits_of (both (number_read (2 ^ 32) s) (number_read (2 ^ 32) n)) l e in
    let pair = both_some (number_read (2 ^ 32) s) (number_read (2 ^ 32) n) found.0 found.1 in
    let fit = limits_of_some found.0 l found.2 in
    let slots = (read_sound (2 ^ 32) found.0.0 s pair.0).1 ∙ ap decimal fit.1 in
    let names = (read_sound (2 ^ 32) found.0.1 n pair.1).1 ∙ ap decimal fit.2 in
    (fit.0, λ i. slots i ∷ names i ∷ [])
limits_sound (s ∷ n ∷ x ∷ ps) l e = absurd (cc (e))

limits_complete : Complete limits_read LimitsFit limits_words
limits_complete l fits =
    let slots = read_is (2 ^ 32) l.slots (decimal l.slots) (omega (arith, fits.1)) (omega (arith, fits.1)) refl in
    let names = read_is (2 ^ 32) l.names (decimal l.names) (omega (arith, fits.4)) (omega (arith, fits.4)) refl in
    ap (λ o. and_then limits_of o) (both_are (number_read (2 ^ 32) (decimal l.slots)) (number_read (2 ^ 32) (decimal l.names)) l.slots l.names slots names)
    ∙ ap (λ (b : Bool). cond b (Some l) None) (limits_test l fits)

abbrev NumberFits : ℕ → Type 0
NumberFits n = n < 2 ^ 32

abbrev number_words : ℕ → List (List ℕ)
number_words n = decimal n ∷ []

number_sound : Sound one_number NumberFits number_words
number_sound [] n e = absurd (cc (e))
number_sound (w ∷ []) n e = let s = read_sound (2 ^ 32) n w e in (s.0, λ i. s.1 i ∷ [])
number_sound (w ∷ x ∷ ps) n e = absurd (cc (e))

number_complete : Complete one_number NumberFits number_words
number_complete n fits = read_is (2 ^ 32) n (decimal n) (omega (arith, fits)) fits refl

abbrev TurnsFit : ℕ → Type 0
TurnsFit n = n ≤ 1000000

turns_sound : Sound turns_read TurnsFit number_words
turns_sound ps n e =
    let found = then_some (λ k. cond (nat_lt 1000000 k) None (Some k)) (one_number ps) n e in
    let s = number_sound ps found.0 found.1 in
    let few = by found.0 (nat_lt 1000000 found.0) refl found.2 in
    (few.0, s.1 ∙ ap number_words few.1)
  where
    small : (k : ℕ) → nat_lt 1000000 k ≡ false → k ≤ 1000000
    small k h = grind (arith, nat_tests)

    by : (k : ℕ) (b : Bool) → nat_lt 1000000 k ≡ b → cond b None (Some k) ≡ Some n → (n ≤ 1000000) × (k ≡ n)
    by k true test e = absurd (cc (e))
    by k false test e = let same : k ≡ n = cc (e) in (omega (arith, small k test, same), same)

turns_complete : Complete turns_read TurnsFit number_words
turns_complete n fits =
    ap (λ o. and_then (λ k. cond (nat_lt 1000000 k) None (Some k)) o) (number_complete n (omega (arith, fits)))
    ∙ ap (λ (b : Bool). cond b None (Some n)) (small n fits)
  where
    small : (k : ℕ) → k ≤ 1000000 → nat_lt 1000000 k ≡ false
    small k h = grind (arith, nat_tests)

awaited_sound : Sound (name_and turns_read) (NameAndFits TurnsFit) (name_and_words number_words)
awaited_sound = name_and_sound turns_read TurnsFit number_words turns_sound

awaited_complete : Complete (name_and turns_read) (NameAndFits TurnsFit) (name_and_words number_words)
awaited_complete = name_and_complete turns_read TurnsFit number_words turns_complete

bare_said : (word : List ℕ) (x m : Meaning) (ps : List (List ℕ)) → MeaningFits x → word ∷ [] ≡ meaning_words x → bare x ps ≡ Some m → Said (word ∷ ps) m
bare_said word x m [] fits text e = let same : x ≡ m = cc (e) in subst (λ (d : Meaning). Said (word ∷ []) d) same (fits, text)
bare_said word x m (p ∷ ps) fits text e = absurd (cc (e))

do_said : (ws : List (List ℕ)) (m : Meaning) (o : Option Command) → ((c : Command) → o ≡ Some c → Commanded ws c) → given Do o ≡ Some m → Said ws m
do_said ws m o sound e =
    let g = given_some Do o m e in
    subst (λ (d : Meaning). Said ws d) g.2 (sound g.0 g.1)

meaning_said : (v : Verb) (ps : List (List ℕ)) (m : Meaning) → meaning_read v ps ≡ Some m → Said (verb_text v ∷ ps) m
meaning_said (Make v) ps m e = do_said (maker_text v ∷ ps) m (made_by v ps) (made_sound v ps) e
meaning_said (Combine v) ps m e = do_said (combiner_text v ∷ ps) m (combined_by v ps) (combined_sound v ps) e
meaning_said (Use v) ps m e = do_said (user_text v ∷ ps) m (used_by v ps) (used_sound v ps) e
meaning_said LimitsWord ps m e = said_from limits_read LimitsFit limits_words (λ (l : Limits). LimitsLine l) (codes "limits") ps m limits_sound (λ l fits. fits) (λ l. refl) e
meaning_said TurnWord ps m e = bare_said (codes "turn") Turn m ps tt refl e
meaning_said RunWord ps m e = said_from turns_read TurnsFit number_words (λ (n : ℕ). Run n) (codes "run") ps m turns_sound (λ n fits. fits) (λ n. refl) e
meaning_said WaitWord ps m e = said_from (name_and turns_read) (NameAndFits TurnsFit) (name_and_words number_words) (λ (p : Name × ℕ). Wait p.0 p.1) (codes "wait") ps m awaited_sound (λ p fits. fits) (λ p. refl) e
meaning_said StepWord ps m e = said_from one_number NumberFits number_words (λ (n : ℕ). Step (to_step n)) (codes "step") ps m number_sound (λ n fits. fits) (λ n. refl) e
meaning_said ValueWord ps m e = said_from words_read WordsFit words_words (λ (ws : List ℕ). Close (Value ws)) (codes "value") ps m words_sound (λ ws fits. fits) (λ ws. refl) e
meaning_said ThrowWord ps m e = said_from exception_read CodeFits exception_words (λ (x : Exception). Close (Throw x)) (codes "throw") ps m exception_sound (λ x fits. fits) (λ x. refl) e
meaning_said PromiseWord ps m e = said_from one_name NameFits one_words (λ (n : Name). Close (Promise n)) (codes "promise") ps m one_sound (λ n fits. fits) (λ n. refl) e
meaning_said InputWord ps m e = bare_said (codes "input") (Close Input) m ps tt refl e

pub words_said : (ws : List (List ℕ)) (m : Meaning) → words_meaning ws ≡ Some m → Said ws m
words_said [] m e = absurd (cc (e))
words_said (w ∷ ps) m e =
    let found = then_some (λ v. meaning_read v ps) (verb_read w) m e in
    let word = verb_sound w found.0 found.1 in
    let said = meaning_said found.0 ps m found.2 in
    (said.0, ap (λ (x : List ℕ). x ∷ ps) word ∙ said.1)

-- a meaning that words say
abbrev IsSaid : Meaning → Type 0
IsSaid Nothing = ⊥
IsSaid (LimitsLine l) = Unit {0}
IsSaid (Do c) = Unit {0}
IsSaid Turn = Unit {0}
IsSaid (Run n) = Unit {0}
IsSaid (Wait p n) = Unit {0}
IsSaid (Step s) = Unit {0}
IsSaid (Close x) = Unit {0}

nothing_unsaid : (ws : List (List ℕ)) → words_meaning ws ≡ Some Nothing → ⊥
nothing_unsaid [] e = cc (e)
nothing_unsaid (w ∷ ps) e = let s : w ∷ ps ≡ [] = (words_said (w ∷ ps) Nothing e).1 in cc (s)

means_from : (text : List ℕ) (m : Meaning) → words_meaning (words_of text) ≡ Some m → Means text m
means_from text Nothing e = absurd (nothing_unsaid (words_of text) e)
means_from text (LimitsLine l) e = words_said (words_of text) (LimitsLine l) e
means_from text (Do c) e = words_said (words_of text) (Do c) e
means_from text Turn e = words_said (words_of text) Turn e
means_from text (Run n) e = words_said (words_of text) (Run n) e
means_from text (Wait p n) e = words_said (words_of text) (Wait p n) e
means_from text (Step s) e = words_said (words_of text) (Step s) e
means_from text (Close x) e = words_said (words_of text) (Close x) e

-- what a line is read as, it means
pub text_sound : (text : List ℕ) (m : Meaning) → text_read text ≡ Some m → Means text m
text_sound text m e = by (is_remark text) refl e
  where
    by : (b : Bool) → is_remark text ≡ b → cond b (Some Nothing) (words_meaning (words_of text)) ≡ Some m → Means text m
    by true remark e = let same : Nothing ≡ m = cc (e) in subst (λ (d : Meaning). Means text d) same remark
    by false other e = means_from text m e

-- ---- the other way

-- the first octet of some words
abbrev first_octet : List (List ℕ) → ℕ
first_octet [] = 0
first_octet ([] ∷ ws) = 0
first_octet ((c ∷ cs) ∷ ws) = c

command_letter : (c : Command) → 96 < first_octet (command_words c)
command_letter (Now n v) = lit< tt
command_letter (Broken n x) = lit< tt
command_letter (Later n) = lit< tt
command_letter (Last n) = lit< tt
command_letter (Pair n s) = lit< tt
command_letter (Then n s v x) = lit< tt
command_letter (Chain n s v x) = lit< tt
command_letter (Eager n s) = lit< tt
command_letter (Fork n s) = lit< tt
command_letter (Branch n s) = lit< tt
command_letter (Race n a b) = lit< tt
command_letter (All n ps) = lit< tt
command_letter (Fast n ps) = lit< tt
command_letter (Fulfil n v) = lit< tt
command_letter (Reject n x) = lit< tt
command_letter (DropCell n) = lit< tt
command_letter (Detach n) = lit< tt
command_letter (NewSet n s) = lit< tt
command_letter (Add n s) = lit< tt
command_letter (OnEmpty n s) = lit< tt
command_letter (Clear n) = lit< tt
command_letter (NewCanceler n) = lit< tt
command_letter (Cancel n) = lit< tt
command_letter (Drop n) = lit< tt

-- a line begins with a letter
letter_first : (m : Meaning) → IsSaid m → 96 < first_octet (meaning_words m)
letter_first Nothing said = absurd said
letter_first (LimitsLine l) said = lit< tt
letter_first (Do c) said = command_letter c
letter_first Turn said = lit< tt
letter_first (Run n) said = lit< tt
letter_first (Wait p n) said = lit< tt
letter_first (Step s) said = lit< tt
letter_first (Close (Value ws)) said = lit< tt
letter_first (Close (Throw x)) said = lit< tt
letter_first (Close (Promise n)) said = lit< tt
letter_first (Close Input) said = lit< tt

mark_first : (ws : List (List ℕ)) → first_octet (onto_first 35 ws) ≤ 35
mark_first [] = lit≤ tt
mark_first (w ∷ ws) = lit≤ tt

-- a remark's words say nothing
no_remark : (text : List ℕ) (m : Meaning) → IsSaid m → words_of text ≡ meaning_words m → is_remark text ≡ true → ⊥
no_remark [] m said same remark = omega (arith, ap first_octet same, letter_first m said)
no_remark (c ∷ cs) m said same remark =
    let mark : c ≡ 35 = same_of c 35 remark in
    let marked : onto_first 35 (words_of cs) ≡ meaning_words m = subst (λ (x : ℕ). words_of (x ∷ cs) ≡ meaning_words m) mark same in
    omega (arith, ap first_octet marked, letter_first m said, mark_first (words_of cs))

command_back : (c : Command) → CommandFits c → words_meaning (command_words c) ≡ Some (Do c)
command_back (Now n v) fits = ap (λ (o : Option (Name × List ℕ)). given Do (given (λ (p : Name × List ℕ). Now p.0 p.1) o)) (valued_complete (n, v) fits)
command_back (Broken n x) fits = ap (λ (o : Option (Name × Exception)). given Do (given (λ (p : Name × Exception). Broken p.0 p.1) o)) (broken_complete (n, x) fits)
command_back (Later n) fits = ap (λ (o : Option (Name)). given Do (given (λ (p : Name). Later p) o)) (name_complete n fits)
command_back (Last n) fits = ap (λ (o : Option (Name)). given Do (given (λ (p : Name). Last p) o)) (name_complete n fits)
command_back (Pair n s) fits = ap (λ (o : Option (Name × Name)). given Do (given (λ (p : Name × Name). Pair p.0 p.1) o)) (two_names_complete (n, s) fits)
command_back (Then n s v x) fits = ap (λ (o : Option (Name × (Name × (Option StepId × Option StepId)))). given Do (given (λ (p : Name × (Name × (Option StepId × Option StepId))). Then p.0 p.1.0 p.1.1.0 p.1.1.1) o)) (continued_complete (n, (s, (v, x))) (fits.0, (fits.1, (fits.2, fits.3))))
command_back (Chain n s v x) fits = ap (λ (o : Option (Name × (Name × (Option StepId × Option StepId)))). given Do (given (λ (p : Name × (Name × (Option StepId × Option StepId))). Chain p.0 p.1.0 p.1.1.0 p.1.1.1) o)) (continued_complete (n, (s, (v, x))) (fits.0, (fits.1, (fits.2, fits.3))))
command_back (Eager n s) fits = ap (λ (o : Option (Name × Name)). given Do (given (λ (p : Name × Name). Eager p.0 p.1) o)) (two_names_complete (n, s) fits)
command_back (Fork n s) fits = ap (λ (o : Option (Name × Name)). given Do (given (λ (p : Name × Name). Fork p.0 p.1) o)) (two_names_complete (n, s) fits)
command_back (Branch n s) fits = ap (λ (o : Option (Name × Name)). given Do (given (λ (p : Name × Name). Branch p.0 p.1) o)) (two_names_complete (n, s) fits)
command_back (Race n a b) fits = ap (λ (o : Option (Name × (Name × Name))). given Do (given (λ (p : Name × (Name × Name)). Race p.0 p.1.0 p.1.1) o)) (raced_complete (n, (a, b)) (fits.0, (fits.1, fits.2)))
command_back (All n ps) fits = ap (λ (o : Option (Name × List Name)). given Do (given (λ (p : Name × List Name). All p.0 p.1) o)) (joined_complete (n, ps) fits)
command_back (Fast n ps) fits = ap (λ (o : Option (Name × List Name)). given Do (given (λ (p : Name × List Name). Fast p.0 p.1) o)) (joined_complete (n, ps) fits)
command_back (Fulfil n v) fits = ap (λ (o : Option (Name × List ℕ)). given Do (given (λ (p : Name × List ℕ). Fulfil p.0 p.1) o)) (valued_complete (n, v) fits)
command_back (Reject n x) fits = ap (λ (o : Option (Name × Exception)). given Do (given (λ (p : Name × Exception). Reject p.0 p.1) o)) (broken_complete (n, x) fits)
command_back (DropCell n) fits = ap (λ (o : Option (Name)). given Do (given (λ (p : Name). DropCell p) o)) (name_complete n fits)
command_back (Detach n) fits = ap (λ (o : Option (Name)). given Do (given (λ (p : Name). Detach p) o)) (name_complete n fits)
command_back (NewSet n s) fits = ap (λ (o : Option (Name × Option StepId)). given Do (given (λ (p : Name × Option StepId). NewSet p.0 p.1) o)) (grouped_complete (n, s) fits)
command_back (Add n s) fits = ap (λ (o : Option (Name × Name)). given Do (given (λ (p : Name × Name). Add p.0 p.1) o)) (two_names_complete (n, s) fits)
command_back (OnEmpty n s) fits = ap (λ (o : Option (Name × Name)). given Do (given (λ (p : Name × Name). OnEmpty p.0 p.1) o)) (two_names_complete (n, s) fits)
command_back (Clear n) fits = ap (λ (o : Option (Name)). given Do (given (λ (p : Name). Clear p) o)) (name_complete n fits)
command_back (NewCanceler n) fits = ap (λ (o : Option (Name)). given Do (given (λ (p : Name). NewCanceler p) o)) (name_complete n fits)
command_back (Cancel n) fits = ap (λ (o : Option (Name)). given Do (given (λ (p : Name). Cancel p) o)) (name_complete n fits)
command_back (Drop n) fits = ap (λ (o : Option (Name)). given Do (given (λ (p : Name). Drop p) o)) (name_complete n fits)

meaning_back : (m : Meaning) → IsSaid m → MeaningFits m → words_meaning (meaning_words m) ≡ Some m
meaning_back Nothing said fits = absurd said
meaning_back (LimitsLine l) said fits = ap (λ (o : Option Limits). given LimitsLine o) (limits_complete l fits)
meaning_back (Do c) said fits = command_back c fits
meaning_back Turn said fits = refl
meaning_back (Run n) said fits = ap (λ (o : Option ℕ). given Run o) (turns_complete n fits)
meaning_back (Wait p n) said fits = ap (λ (o : Option (Name × ℕ)). given (λ (q : Name × ℕ). Wait q.0 q.1) o) (awaited_complete (p, n) fits)
meaning_back (Step s) said fits = ap (λ (o : Option ℕ). given (λ n. Step (to_step n)) o) (number_complete s.0 fits)
meaning_back (Close (Value ws)) said fits = ap (λ (o : Option (List ℕ)). given (λ words. Close (Value words)) o) (words_complete ws fits)
meaning_back (Close (Throw x)) said fits = ap (λ (o : Option Exception). given (λ y. Close (Throw y)) o) (exception_complete x fits)
meaning_back (Close (Promise n)) said fits = ap (λ (o : Option Name). given (λ y. Close (Promise y)) o) (name_complete n fits)
meaning_back (Close Input) said fits = refl

said_read : (text : List ℕ) (m : Meaning) → IsSaid m → Spells text m → text_read text ≡ Some m
said_read text m said spells = by (cases_Bool (is_remark text))
  where
    by : (is_remark text ≡ true) ⊎ (is_remark text ≡ false) → text_read text ≡ Some m
    by (inl remark) = absurd (no_remark text m said spells.1 remark)
    by (inr other) =
        ap (λ (b : Bool). cond b (Some Nothing) (words_meaning (words_of text))) other
        ∙ ap words_meaning spells.1 ∙ meaning_back m said spells.0

-- what a line means, it is read as
pub text_complete : (text : List ℕ) (m : Meaning) → Means text m → text_read text ≡ Some m
text_complete text Nothing remark = ap (λ (b : Bool). cond b (Some Nothing) (words_meaning (words_of text))) remark
text_complete text (LimitsLine l) spells = said_read text (LimitsLine l) tt spells
text_complete text (Do c) spells = said_read text (Do c) tt spells
text_complete text Turn spells = said_read text Turn tt spells
text_complete text (Run n) spells = said_read text (Run n) tt spells
text_complete text (Wait p n) spells = said_read text (Wait p n) tt spells
text_complete text (Step s) spells = said_read text (Step s) tt spells
text_complete text (Close x) spells = said_read text (Close x) tt spells

-- a line means one thing
pub one_meaning : (text : List ℕ) (a b : Meaning) → Means text a → Means text b → a ≡ b
one_meaning text a b f g =
    let same : Some a ≡ Some b = sym (text_complete text a f) ∙ text_complete text b g in
    cc (same)

-- ---- how many words

command_few : (c : Command) → CommandFits c → length (command_words c) ≤ 18
command_few (Now n v) fits = omega (arith, length-map v decimal, fits.1.0)
command_few (Broken n x) fits = lit≤ tt
command_few (Later n) fits = lit≤ tt
command_few (Last n) fits = lit≤ tt
command_few (Pair n s) fits = lit≤ tt
command_few (Then n s v x) fits = lit≤ tt
command_few (Chain n s v x) fits = lit≤ tt
command_few (Eager n s) fits = lit≤ tt
command_few (Fork n s) fits = lit≤ tt
command_few (Branch n s) fits = lit≤ tt
command_few (Race n a b) fits = lit≤ tt
command_few (All n ps) fits = omega (arith, length-map ps name_word, fits.1.0)
command_few (Fast n ps) fits = omega (arith, length-map ps name_word, fits.1.0)
command_few (Fulfil n v) fits = omega (arith, length-map v decimal, fits.1.0)
command_few (Reject n x) fits = lit≤ tt
command_few (DropCell n) fits = lit≤ tt
command_few (Detach n) fits = lit≤ tt
command_few (NewSet n s) fits = lit≤ tt
command_few (Add n s) fits = lit≤ tt
command_few (OnEmpty n s) fits = lit≤ tt
command_few (Clear n) fits = lit≤ tt
command_few (NewCanceler n) fits = lit≤ tt
command_few (Cancel n) fits = lit≤ tt
command_few (Drop n) fits = lit≤ tt

few_words : (m : Meaning) → MeaningFits m → length (meaning_words m) ≤ 18
few_words Nothing fits = lit≤ tt
few_words (LimitsLine l) fits = lit≤ tt
few_words (Do c) fits = command_few c fits
few_words Turn fits = lit≤ tt
few_words (Run n) fits = lit≤ tt
few_words (Wait p n) fits = lit≤ tt
few_words (Step s) fits = lit≤ tt
few_words (Close (Value ws)) fits = omega (arith, length-map ws decimal, fits.0)
few_words (Close (Throw x)) fits = lit≤ tt
few_words (Close (Promise n)) fits = lit≤ tt
few_words (Close Input) fits = lit≤ tt

-- a line of more words says nothing
pub many_words : (text : List ℕ) → is_remark text ≡ false → 17 < count_by (λ c. c == 32) text → text_read text ≡ None
many_words text other many =
    ap (λ (b : Bool). cond b (Some Nothing) (words_meaning (words_of text))) other ∙ by (words_meaning (words_of text)) refl
  where
    by : (o : Option Meaning) → words_meaning (words_of text) ≡ o → o ≡ None
    by None e = refl
    by (Some m) e =
        let said = words_said (words_of text) m e in
        absurd (omega (arith, few_words m said.0, ap length said.1, length-slice_split (λ (c : ℕ). c == 32) text, many))
