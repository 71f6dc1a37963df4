-- A row of two may become a row of one.
use Rattle.std.specs.Prelude.{[]}
use Rattle.kj_base.specs.Store.{slot_number}
use Rattle.kj_base.proofs.store.place_two.Goals as goal

pub place-first-requires-clause-fits : goal.place-first-requires-clause-fits
place-first-requires-clause-fits g c = g.met.S.Store.one_of_two c.args.store.now [] (slot_number c.args.before) [] c.requires.fits
