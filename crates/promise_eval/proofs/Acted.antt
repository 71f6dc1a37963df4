-- Commands of a step, one after another, told with what they free.
use Rattle.std.proofs.Common.{◌≡◌, ◌∙◌, sym, ap, subst, refl, ℕ, suc, ◌+◌, ◌<◌, List, [], ◌∷◌, ◌++◌, Option, None, Some, Bool, true, false, length, get_or, drop, append_assoc, arith}
use Rattle.std.specs.Prelude.{Result, Ok, Err, is_err}
use Rattle.std.proofs.Math.Seq.{drop-cons}
use Rattle.std.proofs.lemmas.Bool.{false≢true}
use Rattle.std.proofs.lemmas.List.{append-nil}
use Rattle.kj_base.specs.declared.outcomes.Outcome.{Outcome}
use Rattle.kj_base.specs.Commands.{Action, Command}
use Rattle.kj_base.specs.Record.{Item}
use Rattle.promise_commands.specs.Telling.{Telling}
use Rattle.kj_model.specs.World.{World, State, Setting}
use Rattle.kj_model.specs.Apply.{Refused, apply}
use Rattle.kj_model.specs.Value.{Given, acted, all_applied, ended, ended_if, rest_applied}
use Rattle.promise_apply.specs.Applying.{DoesCommand}
use Rattle.promise_commands.specs.Commands.{command_of}
use Rattle.promise_commands.specs.Refusals.{refusal_of, refused_of}
use Rattle.promise_commands.specs.declared.command.Command.{Command as CommandCase}
use Rattle.promise_commands.specs.declared.refused.Refused.{Refused as RefusedCase}
use Rattle.promise_walks.specs.Values.{Answer, Rule, setting_of}
use Rattle.promise_walks.proofs.Composed.{hears_none, hears_then}
use Rattle.promise_eval.specs.Done.{Did, IsDone, commands_of}

-- nothing was done yet
pub did_none : {E : Type 0} (A : World → Type 0) (rule : Rule) (f : Setting → State → E) (a : Telling) → Did A A rule f f a a
did_none A rule f a = record {
  items = [];
  told = hears_none a;
  moves = λ answer s old. record { state = s; stands = old; past_is = sym (append-nil s.past); ends = refl };
}

-- one part after another
pub did_then : {E : Type 0} (A B C : World → Type 0) (rule : Rule) (f g h : Setting → State → E) (a b c : Telling)
    → Did A B rule f g a b → Did B C rule g h b c → Did A C rule f h a c
did_then A B C rule f g h a b c p q = record {
  items = p.items ++ q.items;
  told = hears_then a b c p.items q.items p.told q.told;
  moves = λ answer s old.
      let r = p.moves answer s old in
      let t = q.moves answer r.state r.stands in
      record {
        state = t.state;
        stands = t.stands;
        past_is = t.past_is ∙ ap (λ (xs : List Item). xs ++ q.items) r.past_is ∙ append_assoc s.past p.items q.items;
        ends = t.ends ∙ r.ends;
      };
}

-- the same from another definition
pub did_from : {E : Type 0} (A B : World → Type 0) (rule : Rule) (f g h : Setting → State → E) (a b : Telling)
    → ((setting : Setting) (s : State) → f setting s ≡ g setting s) → Did A B rule f h a b → Did A B rule g h a b
did_from A B rule f g h a b same p = record {
  items = p.items;
  told = p.told;
  moves = λ answer s old.
      let r = p.moves answer s old in
      record { state = r.state; stands = r.stands; past_is = r.past_is; ends = r.ends ∙ same (setting_of rule answer) s };
}

-- a command that had its effect
pub did_first : (A B : World → Type 0) (rule : Rule) (c : Command) (cs : List Command) (a b : Telling)
    → DoesCommand A B rule None c a b
    → Did A B rule (λ setting s. all_applied setting (c ∷ cs) s) (λ setting s. all_applied setting cs s) a b
did_first A B rule c cs a b done = record {
  items = done.items;
  told = done.told;
  moves = λ answer s old.
      let setting : Setting = setting_of rule answer in
      let r = done.applied answer true s old in
      record {
        state = (apply setting true c s).0;
        stands = r.stands;
        past_is = r.past_is;
        ends = sym (ap (λ (o : Option Refused). rest_applied o (all_applied setting cs) (apply setting true c s).0) r.reply);
      };
}

-- a command that was refused
pub did_refused : (A B : World → Type 0) (rule : Rule) (refused : Refused) (c : Command) (cs : List Command) (a b : Telling)
    → DoesCommand A B rule (Some refused) c a b
    → Did A B rule (λ setting s. all_applied setting (c ∷ cs) s) (λ setting s. (s, false)) a b
did_refused A B rule refused c cs a b done = record {
  items = done.items;
  told = done.told;
  moves = λ answer s old.
      let setting : Setting = setting_of rule answer in
      let r = done.applied answer true s old in
      record {
        state = (apply setting true c s).0;
        stands = r.stands;
        past_is = r.past_is;
        ends = sym (ap (λ (o : Option Refused). rest_applied o (all_applied setting cs) (apply setting true c s).0) r.reply);
      };
}

-- commands, and then what an action gives, where the one agrees with the other
pub did_ended : (A B C : World → Type 0) (rule : Rule) (action : Action) (under_chain b : Bool) (input : Outcome) (given : Given) (x y : Telling)
    → Did A B rule (λ setting s. all_applied setting action.commands s) (λ setting s. (s, b)) x y
    → ((s : State) → B s.world → IsDone C s.past given (ended_if b action.ending under_chain input s))
    → Did A C rule (λ setting s. acted setting action under_chain input s) (λ setting s. (s, given)) x y
did_ended A B C rule action under_chain b input given x y all done = record {
  items = all.items;
  told = all.told;
  moves = λ answer s old.
      let setting : Setting = setting_of rule answer in
      let r = all.moves answer s old in
      let e = done r.state r.stands in
      let whole : State × Given = ended_if b action.ending under_chain input r.state in
      record {
        state = whole.0;
        stands = e.stands;
        past_is = e.past_is ∙ r.past_is;
        ends = sym (ap (λ (p : State × Bool). ended_if p.1 action.ending under_chain input p.0) (sym r.ends) ∙ ap (λ (g : Given). (whole.0, g)) e.answer_is);
      };
}

up : (i : ℕ) → suc i ≡ i + 1
up i = omega arith

-- the command at a place stands before the others
pub at_place : (commands : List CommandCase) (i : ℕ) (c : CommandCase) → i < length commands → get_or commands i c ≡ c → commands_of (drop i commands) ≡ command_of c ∷ commands_of (drop (i + 1) commands)
at_place commands i c low is =
    ap commands_of (drop-cons commands i c low)
    ∙ ap (λ (x : CommandCase). command_of x ∷ commands_of (drop (suc i) commands)) is
    ∙ ap (λ (k : ℕ). command_of c ∷ commands_of (drop k commands)) (up i)

none_refused : (r : Result (Unit {0}) RefusedCase) → is_err r ≡ false → refusal_of r ≡ None
none_refused (Ok x) h = refl
none_refused (Err e) h = absurd (false≢true (sym h))

some_refused : (r : Result (Unit {0}) RefusedCase) → is_err r ≡ true → (refused : Refused) × (refusal_of r ≡ Some refused)
some_refused (Ok x) h = absurd (false≢true h)
some_refused (Err e) h = (refused_of e, refl)

-- a command of a list that was refused
pub did_refused_at : (A B : World → Type 0) (rule : Rule) (r : Result (Unit {0}) RefusedCase) (commands : List CommandCase) (i : ℕ) (c : CommandCase) (a b : Telling)
    → is_err r ≡ true → commands_of (drop i commands) ≡ command_of c ∷ commands_of (drop (i + 1) commands) → DoesCommand A B rule (refusal_of r) (command_of c) a b
    → Did A B rule (λ setting s. all_applied setting (commands_of (drop i commands)) s) (λ setting s. (s, false)) a b
did_refused_at A B rule r commands i c a b err place done =
    let some = some_refused r err in
    let cs = commands_of (drop (i + 1) commands) in
    did_from A B rule (λ setting s. all_applied setting (command_of c ∷ cs) s) (λ setting s. all_applied setting (commands_of (drop i commands)) s) (λ setting s. (s, false)) a b
    (λ setting s. ap (λ (xs : List Command). all_applied setting xs s) (sym place))
    (did_refused A B rule some.0 (command_of c) cs a b (subst (λ (o : Option Refused). DoesCommand A B rule o (command_of c) a b) some.1 done))

-- and one that had its effect
pub did_first_at : (A B : World → Type 0) (rule : Rule) (r : Result (Unit {0}) RefusedCase) (commands : List CommandCase) (i : ℕ) (c : CommandCase) (a b : Telling)
    → is_err r ≡ false → commands_of (drop i commands) ≡ command_of c ∷ commands_of (drop (i + 1) commands) → DoesCommand A B rule (refusal_of r) (command_of c) a b
    → Did A B rule (λ setting s. all_applied setting (commands_of (drop i commands)) s) (λ setting s. all_applied setting (commands_of (drop (i + 1) commands)) s) a b
did_first_at A B rule r commands i c a b ok place done =
    let cs = commands_of (drop (i + 1) commands) in
    did_from A B rule (λ setting s. all_applied setting (command_of c ∷ cs) s) (λ setting s. all_applied setting (commands_of (drop i commands)) s) (λ setting s. all_applied setting cs s) a b
    (λ setting s. ap (λ (xs : List Command). all_applied setting xs s) (sym place))
    (did_first A B rule (command_of c) cs a b (subst (λ (o : Option Refused). DoesCommand A B rule o (command_of c) a b) (none_refused r ok) done))
