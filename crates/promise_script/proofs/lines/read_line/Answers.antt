-- What is read is the meaning, and where none is read there is none.
use Rattle.std.proofs.Common.{◌≡◌, ℕ, List, Option, None, Some, Result, Ok, Err, IfOk, IfSome, sym, ◌∙◌}
use Rattle.kj_base.specs.declared.memory.NoMemory.{NoMemory}
use Rattle.promise_script.specs.declared.meaning.Meaning.{Meaning}
use Rattle.promise_script.specs.ScriptText.{Means}
use Rattle.promise_script.specs.Decode.{text_read}
use Rattle.promise_script.proofs.Meanings.{text_sound, text_complete}
use Rattle.promise_script.proofs.lines.read_line.Goals as goal

found : (r : Result (Option Meaning) NoMemory) (text : List ℕ) → IfOk r (λ m. m ≡ text_read text) → IfOk r (λ o. IfSome o (λ m. Means text m))
found (Err e) text is = is
found (Ok None) text is = tt
found (Ok (Some m)) text is = text_sound text m (sym is)

none : (r : Result (Option Meaning) NoMemory) (text : List ℕ) → IfOk r (λ m. m ≡ text_read text) → r ≡ Ok None → (m : Meaning) → Means text m → ⊥
none (Err e) text is same m means = cc (same)
none (Ok o) text is same m means = let empty : o ≡ None = cc (same) in let other : None ≡ Some m = sym empty ∙ is ∙ text_complete text m means in cc (other)

pub returns-clause-meaning : goal.returns-clause-meaning
returns-clause-meaning c = found c.find_meaning.result c.args.text.now c.find_meaning.ensures

pub returns-clause-none : goal.returns-clause-none
returns-clause-none c = none c.find_meaning.result c.args.text.now c.find_meaning.ensures
