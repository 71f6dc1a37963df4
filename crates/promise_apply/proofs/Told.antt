-- Commands of which nothing is told.
use Rattle.std.proofs.Common.{◌∙◌, [], Option, sym}
use Rattle.std.proofs.lemmas.List.{append-nil}
use Rattle.kj_base.specs.Commands.{Command}
use Rattle.promise_commands.specs.Telling.{Telling}
use Rattle.kj_model.specs.World.{World}
use Rattle.kj_model.specs.Apply.{Refused}
use Rattle.promise_walks.proofs.Composed.{hears_none}
use Rattle.promise_apply.specs.Applying.{Applies, DoesCommand, Rule}

-- a command that is applied, and nothing was run or freed
pub silent_does : (Old New : World → Type 0) (rule : Rule) (refused : Option Refused) (c : Command) (told : Telling)
    → Applies Old New rule refused c → DoesCommand Old New rule refused c told told
silent_does Old New rule refused c told applies = record {
  items = [];
  told = hears_none told;
  applied = λ answer inside s old.
      let r = applies answer inside s old in
      record { reply = r.reply; stands = r.stands; past_is = r.past_is ∙ sym (append-nil s.past) };
}
