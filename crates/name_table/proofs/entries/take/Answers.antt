use Rattle.std.proofs.Common.{◌≡◌, ℕ, true, false, sym, ap, ◌∙◌, remove, subst}
use Rattle.std.specs.Prelude.{IsSome}
use Rattle.std.proofs.lemmas.Bool.{false≢true}
use Rattle.name_table.specs.Entries.{is_name_at, rank}
use Rattle.name_table.proofs.Ranks.{taken_there, stays_absent, absent_is}
use Rattle.name_table.proofs.entries.take.Goals as goal

pub returns-then-is_at-clause-items : goal.returns-then-is_at-clause-items
returns-then-is_at-clause-items c =
    let n = c.args.name.0 in
    let es = c.args.entries.now.items in
    let place = c.place_of-place.ensures.place in
    let here : is_name_at n es (rank n es) ≡ true = sym (ap (is_name_at n es) place) ∙ sym c.is_at.ensures ∙ c.if-is_at.true in
    c.remove.ensures.items ∙ ap (λ (i : ℕ). remove es i) place ∙ taken_there n es c.requires here

pub returns-else-is_at-clause-items : goal.returns-else-is_at-clause-items
returns-else-is_at-clause-items c =
    let n = c.args.name.0 in
    let es = c.args.entries.now.items in
    let place = c.place_of-place.ensures.place in
    let absent : is_name_at n es (rank n es) ≡ false = sym (ap (is_name_at n es) place) ∙ sym c.is_at.ensures ∙ c.if-is_at.false in
    sym (stays_absent n es c.requires absent)

pub returns-else-is_at-clause-gone : goal.returns-else-is_at-clause-gone
returns-else-is_at-clause-gone c some =
    let n = c.args.name.0 in
    let es = c.args.entries.now.items in
    let place = c.place_of-place.ensures.place in
    let absent : is_name_at n es (rank n es) ≡ false = sym (ap (is_name_at n es) place) ∙ sym c.is_at.ensures ∙ c.if-is_at.false in
    absurd (false≢true (subst IsSome (absent_is n es c.requires absent) some))
