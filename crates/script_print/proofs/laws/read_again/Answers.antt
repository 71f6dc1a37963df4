-- What is printed is read again.
use Rattle.script_print.proofs.Again.{read_again}
use Rattle.script_print.proofs.Kept.{one_text, printable}
use Rattle.script_print.proofs.Sizes.{no_longer}
use Rattle.script_print.proofs.laws.read_again.Goals as goal

pub returns-clause-printable : goal.returns-clause-printable
returns-clause-printable c = printable

pub returns-clause-again : goal.returns-clause-again
returns-clause-again c = read_again

pub returns-clause-one_text : goal.returns-clause-one_text
returns-clause-one_text c = one_text

pub returns-clause-short : goal.returns-clause-short
returns-clause-short c = no_longer
