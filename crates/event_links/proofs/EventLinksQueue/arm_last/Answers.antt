use Rattle.std.proofs.Common.{◌≡◌, arith, ap, refl}
use Rattle.kj_base.specs.Queue.{AtLast}
use Rattle.event_links.specs.EventLinks.{Sized}
use Rattle.event_links.proofs.Kept.{IsPut, is_put, kept_put, last_put, breadth_below, moved_to, depth_within, now_point}
use Rattle.event_links.proofs.EventLinksQueue.arm_last.Goals as goal

pub insert_before-requires-clause-place : goal.insert_before-requires-clause-place
insert_before-requires-clause-place c = breadth_below c.self.inside c.self.invariant

pub invariant_of-self : goal.invariant_of-self
invariant_of-self c =
    let q = c.self.inside in
    let p : IsPut c.self.inside c.insert_before.new.self c.self.inside.breadth c.args.event =
    (let s : c.self.inside.size ≡ c.args.self.now.size = ap (λ (v : Sized). v.size) c.self.view_is in
    is_put c.self.inside c.insert_before.new.self c.self.inside.breadth c.args.event (c.if-is_alone.ensures.unlisted refl) (omega arith) c.self.invariant.breadth c.insert_before.ensures.list c.insert_before.ensures.others c.insert_before.ensures.size) in
    rw c.moved-self-inside.ensures
    (kept_put AtLast q c.insert_before.new.self q.breadth c.args.event (moved_to q.depth q.breadth c.args.event) c.args.event c.self.invariant p (last_put q c.insert_before.new.self c.args.event c.self.invariant p)
    (depth_within q c.insert_before.new.self c.args.event c.self.invariant p) (now_point q c.insert_before.new.self q.breadth c.args.event p))

pub returns-then-is_alone-clause-armed : goal.returns-then-is_alone-clause-armed
returns-then-is_alone-clause-armed c = rw (← c.self.view_is) (rw c.moved-self-inside.ensures (last_put c.self.inside c.insert_before.new.self c.args.event c.self.invariant (let s : c.self.inside.size ≡ c.args.self.now.size = ap (λ (v : Sized). v.size) c.self.view_is in
    is_put c.self.inside c.insert_before.new.self c.self.inside.breadth c.args.event (c.if-is_alone.ensures.unlisted refl) (omega arith) c.self.invariant.breadth c.insert_before.ensures.list c.insert_before.ensures.others c.insert_before.ensures.size)))
