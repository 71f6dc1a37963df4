use Rattle.std.proofs.Common.{arith, refl}
use Rattle.executor_core.specs.Acts.{finished}
use Rattle.xthread.proofs.Effects.{noted, room_kept, grown, arm_sound, runs, within, finish_arm}
use Rattle.xthread.proofs.guarded.Guarded.finish.Goals as goal

pub finish-requires : goal.finish-requires
finish-requires g c = let run = runs c.args.request c.self.invariant c.self.view_is c.requires in (finish_arm {d = (finished c.self.inside.board c.args.request c.args.outcome).0} c.args.request c.args.outcome c.args.given c.self.invariant run refl).has_room

pub index_mut-requires : goal.index_mut-requires
index_mut-requires g c = let run = runs c.args.request c.self.invariant c.self.view_is c.requires in let h = within c.self.invariant run.1 in let ok = c.self.inside.places.ok.0 in omega arith

pub finish-requires-2 : goal.finish-requires-2
finish-requires-2 g c = runs c.args.request c.self.invariant c.self.view_is c.requires

pub invariant_of-self : goal.invariant_of-self
invariant_of-self g c = (finish_arm c.args.request c.args.outcome c.args.given c.self.invariant (runs c.args.request c.self.invariant c.self.view_is c.requires) c.finish-2.ensures).whole _ _ _ _ (noted c.finish.ensures) (room_kept c.finish.ensures) refl refl

pub returns-clause-sound : goal.returns-clause-sound
returns-clause-sound g c = arm_sound (finish_arm c.args.request c.args.outcome c.args.given c.self.invariant (runs c.args.request c.self.invariant c.self.view_is c.requires) c.finish-2.ensures) (noted c.finish.ensures)

pub returns-clause-told : goal.returns-clause-told
returns-clause-told g c = grown _ (finish_arm c.args.request c.args.outcome c.args.given c.self.invariant (runs c.args.request c.self.invariant c.self.view_is c.requires) c.finish-2.ensures).limit (noted c.finish.ensures) c.self.view_is
