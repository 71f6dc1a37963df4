-- Octets that were read one by one are a word; a shorter word is found without help.
use Rattle.std.proofs.Common.{arith, rules, sym, ap, codes}
use Rattle.std.proofs.lemmas.Slice.Eq.{text_from_reads}
use Rattle.promise_script.specs.Decode.{other_read}
use Rattle.promise_script.proofs.verbs.read_other.Goals as goal

pub returns-in-limits : goal.returns-in-limits
returns-in-limits c = ap other_read (sym (text_from_reads c.args.word.now (codes "limits") (omega arith) (search rules)))

pub returns-in-promise : goal.returns-in-promise
returns-in-promise c = ap other_read (sym (text_from_reads c.args.word.now (codes "promise") (omega arith) (search rules)))
