-- Octets that were read one by one are a word; a shorter word is found without help.
use Rattle.std.proofs.Common.{arith, rules, sym, ap, codes}
use Rattle.std.proofs.lemmas.Slice.Eq.{text_from_reads}
use Rattle.promise_script.specs.Decode.{user_read}
use Rattle.promise_script.proofs.verbs.read_user.Goals as goal

pub returns-in-fulfil : goal.returns-in-fulfil
returns-in-fulfil c = ap user_read (sym (text_from_reads c.args.word.now (codes "fulfil") (omega arith) (search rules)))

pub returns-in-reject : goal.returns-in-reject
returns-in-reject c = ap user_read (sym (text_from_reads c.args.word.now (codes "reject") (omega arith) (search rules)))

pub returns-in-detach : goal.returns-in-detach
returns-in-detach c = ap user_read (sym (text_from_reads c.args.word.now (codes "detach") (omega arith) (search rules)))

pub returns-in-cancel : goal.returns-in-cancel
returns-in-cancel c = ap user_read (sym (text_from_reads c.args.word.now (codes "cancel") (omega arith) (search rules)))

pub returns-in-dropcell : goal.returns-in-dropcell
returns-in-dropcell c = ap user_read (sym (text_from_reads c.args.word.now (codes "dropcell") (omega arith) (search rules)))

pub returns-in-canceler : goal.returns-in-canceler
returns-in-canceler c = ap user_read (sym (text_from_reads c.args.word.now (codes "canceler") (omega arith) (search rules)))
