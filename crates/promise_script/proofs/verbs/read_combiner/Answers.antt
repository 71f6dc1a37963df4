-- Octets that were read one by one are a word; a shorter word is found without help.
use Rattle.std.proofs.Common.{arith, rules, sym, ap, codes}
use Rattle.std.proofs.lemmas.Slice.Eq.{text_from_reads}
use Rattle.promise_script.specs.Decode.{combiner_read}
use Rattle.promise_script.proofs.verbs.read_combiner.Goals as goal

pub returns-in-branch : goal.returns-in-branch
returns-in-branch c = ap combiner_read (sym (text_from_reads c.args.word.now (codes "branch") (omega arith) (search rules)))
