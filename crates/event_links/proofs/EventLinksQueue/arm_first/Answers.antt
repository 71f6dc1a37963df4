use Rattle.std.proofs.Common.{◌≡◌, arith, ap, refl}
use Rattle.kj_base.specs.Queue.{DepthFirst}
use Rattle.event_links.specs.EventLinks.{Sized}
use Rattle.event_links.proofs.Kept.{IsPut, is_put, kept_put, first_put, depth_below, still_point}
use Rattle.event_links.proofs.EventLinksQueue.arm_first.Goals as goal

pub insert_before-requires-clause-place : goal.insert_before-requires-clause-place
insert_before-requires-clause-place c = depth_below c.self.inside c.self.invariant

put_is : (c : goal.After-insert_before) → IsPut c.self.inside c.insert_before.new.self c.self.inside.depth c.args.event
put_is c =
    let s : c.self.inside.size ≡ c.args.self.now.size = ap (λ (v : Sized). v.size) c.self.view_is in
    is_put c.self.inside c.insert_before.new.self c.self.inside.depth c.args.event (c.if-is_alone.ensures.unlisted refl) (omega arith) c.self.invariant.depth c.insert_before.ensures.list c.insert_before.ensures.others
    c.insert_before.ensures.size

pub invariant_of-self : goal.invariant_of-self
invariant_of-self c =
    let q = c.self.inside in
    let p = put_is c in
    kept_put DepthFirst q c.insert_before.new.self q.depth c.args.event q.depth q.breadth c.self.invariant p (first_put q c.insert_before.new.self c.args.event c.self.invariant p)
    (still_point q c.insert_before.new.self q.depth c.args.event q.depth p c.self.invariant.depth) (still_point q c.insert_before.new.self q.depth c.args.event q.breadth p c.self.invariant.breadth)

pub returns-then-is_alone-clause-armed : goal.returns-then-is_alone-clause-armed
returns-then-is_alone-clause-armed c = rw (← c.self.view_is) (first_put c.self.inside c.insert_before.new.self c.args.event c.self.invariant (put_is c))
