use Rattle.std.proofs.Common.{◌≡◌, ◌∙◌, arith, ap}
use Rattle.std.specs.Prelude.{unwrap_or}
use Rattle.linked_lists.specs.Lists.{is_in}
use Rattle.event_links.specs.EventLinks.{Sized}
use Rattle.event_links.proofs.Kept.{IsTaken, behind_of, moved_to, member_below, kept_left, events_left}
use Rattle.event_links.proofs.EventLinks.take_out.Goals as goal

pub remove-requires : goal.remove-requires
remove-requires c =
    let t = ap (λ (v : Sized). is_in c.args.event v.events.list) c.self.view_is ∙ c.requires in
    omega (arith, member_below c.self.inside c.args.event c.self.invariant t, c.self.invariant.size)

taken : (c : goal.After-remove) → IsTaken c.self.inside c.remove.new.self c.args.event
taken c =
    let t = ap (λ (v : Sized). is_in c.args.event v.events.list) c.self.view_is ∙ c.requires in
    record { alone = c.remove.ensures.alone; others = c.remove.ensures.others; size = c.remove.ensures.size; there = t; below = member_below c.self.inside c.args.event c.self.invariant t }

behind_is : (c : goal.After-remove) → c.unwrap_or-behind.result ≡ behind_of c.self.inside c.args.event
behind_is c = c.unwrap_or-behind.ensures ∙ ap (λ r. unwrap_or r c.self.inside.size) c.after.ensures.after

depth_is : (c : goal.After-remove) → c.moved-self-inside.result ≡ moved_to c.self.inside.depth c.args.event (behind_of c.self.inside c.args.event)
depth_is c = c.moved-self-inside.ensures ∙ ap (moved_to c.self.inside.depth c.args.event) (behind_is c)

breadth_is : (c : goal.After-remove) → c.moved-self-inside-2.result ≡ moved_to c.self.inside.breadth c.args.event (behind_of c.self.inside c.args.event)
breadth_is c = c.moved-self-inside-2.ensures ∙ ap (moved_to c.self.inside.breadth c.args.event) (behind_is c)

pub invariant_of-self : goal.invariant_of-self
invariant_of-self c = rw (depth_is c, breadth_is c) (kept_left c.self.inside c.remove.new.self c.args.event c.self.invariant (taken c))

pub returns-clause-events : goal.returns-clause-events
returns-clause-events c =
    rw (← c.self.view_is) (rw (depth_is c, breadth_is c) (events_left c.self.inside c.remove.new.self c.args.event c.self.invariant (taken c)))
