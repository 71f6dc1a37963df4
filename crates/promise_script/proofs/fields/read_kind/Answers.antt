-- Octets that were read one by one are a word; a shorter word is found without help.
use Rattle.std.proofs.Common.{arith, rules, sym, ap, codes}
use Rattle.std.proofs.lemmas.Slice.Eq.{text_from_reads}
use Rattle.promise_script.specs.Decode.{kind_read}
use Rattle.promise_script.proofs.fields.read_kind.Goals as goal

pub returns-in-failed : goal.returns-in-failed
returns-in-failed c = ap kind_read (sym (text_from_reads c.args.word.now (codes "failed") (omega arith) (search rules)))

pub returns-in-overloaded : goal.returns-in-overloaded
returns-in-overloaded c = ap kind_read (sym (text_from_reads c.args.word.now (codes "overloaded") (omega arith) (search rules)))

pub returns-in-disconnected : goal.returns-in-disconnected
returns-in-disconnected c = ap kind_read (sym (text_from_reads c.args.word.now (codes "disconnected") (omega arith) (search rules)))

pub returns-in-unimplemented : goal.returns-in-unimplemented
returns-in-unimplemented c = ap kind_read (sym (text_from_reads c.args.word.now (codes "unimplemented") (omega arith) (search rules)))
