-- The form that was found is the form of the words.
use Rattle.std.proofs.Common.{◌≡◌, ◌⊎◌, inl, inr, refl, subst}
use Rattle.kj_serve.specs.declared.forms.Form.{Form}
use Rattle.kj_serve.specs.declared.forms.Form.TheVariants.{Make}
use Rattle.kj_serve.specs.Outside.{Outside, NoFault, outside_of}
use Rattle.kj_serve.specs.Words.{texts_of, IsFormOf}
use Rattle.kj_serve.specs.Make.{MakeEnds}
use Rattle.kj_serve.specs.Ends.{Ends}
use Rattle.kj_serve.proofs.OneForm.{one_form}
use Rattle.kj_serve.proofs.command.kj_main.Goals as goal

pub returns-in-Some-Make-clause-form : goal.returns-in-Some-Make-clause-form
returns-in-Some-Make-clause-form g c form is =
    let m = c.in-Some-Make in
    let before : Outside = outside_of g.I.Source.left g.I.Source.faults g.O.Sink.taken g.O.Sink.faults c.args.input.now c.args.output.now in
    let after : Outside = outside_of g.I.Source.left g.I.Source.faults g.O.Sink.taken g.O.Sink.faults c.args.input.now c.make_command.new.output in
    let e = c.make_command.ensures in
    let makes : NoFault before after → (c.make_command.result ≡ 0) ⊎ (c.make_command.result ≡ 5) = λ fine. elim e.statuses [ inl a ↦ inl a | inr a ↦ elim a [ inl b ↦ absurd (fine.writes (e.cause b)) | inr b ↦ inr b ] ] in
    let ends : MakeEnds m.number m.conns m.requests c.make_command.result before after = record { done = e.done; write_failed = λ four. (e.cause four, e.front four); no_memory = e.no_memory; statuses = e.statuses; makes = makes; unread = (refl, refl) } in
    subst (λ (f : Form). Ends f c.make_command.result before after) (one_form (texts_of c.args.words.now) (Make m.number m.conns m.requests) form (subst (λ (f : Form). IsFormOf (texts_of c.args.words.now) f) m.field-0-is m.ensures.found) is) ends
