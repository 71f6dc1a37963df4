use Rattle.std.proofs.Common.{◌≡◌, ℕ, true, false, sym, ap, ◌∙◌, insert, slice_set}
use Rattle.name_table.specs.Entries.{is_name_at, rank}
use Rattle.name_table.proofs.Ranks.{put_there, put_anew}
use Rattle.name_table.proofs.entries.put.Goals as goal

pub returns-then-is_at-clause-items : goal.returns-then-is_at-clause-items
returns-then-is_at-clause-items c =
    let x = c.args.entry in
    let es = c.args.entries.now.items in
    let place = c.place_of-place.ensures.place in
    let here : is_name_at x.name.0 es (rank x.name.0 es) ≡ true = sym (ap (is_name_at x.name.0 es) place) ∙ sym c.is_at.ensures ∙ c.if-is_at.true in
    ap (λ (i : ℕ). slice_set es i x) place ∙ put_there x es c.requires.rising here

pub returns-else-is_at-clause-items : goal.returns-else-is_at-clause-items
returns-else-is_at-clause-items c =
    let x = c.args.entry in
    let es = c.args.entries.now.items in
    let place = c.place_of-place.ensures.place in
    let absent : is_name_at x.name.0 es (rank x.name.0 es) ≡ false = sym (ap (is_name_at x.name.0 es) place) ∙ sym c.is_at.ensures ∙ c.if-is_at.false in
    c.insert_at.ensures.items ∙ ap (λ (i : ℕ). insert es i x) place ∙ put_anew x es c.requires.rising absent
