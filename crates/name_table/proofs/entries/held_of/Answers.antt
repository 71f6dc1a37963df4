use Rattle.std.proofs.Common.{ℕ, ap, ◌∙◌}
use Rattle.std.specs.Prelude.{slice_get}
use Rattle.name_table.specs.Entries.{held_if}
use Rattle.name_table.proofs.Ranks.{found_is}
use Rattle.name_table.proofs.entries.held_of.Goals as goal

pub returns : goal.returns
returns c =
    let n = c.args.name.0 in
    let es = c.args.entries.now.items in
    c.held_at.ensures ∙ ap (λ (place : ℕ). held_if n (slice_get es place)) c.place_of.ensures.place ∙ found_is n es c.requires
