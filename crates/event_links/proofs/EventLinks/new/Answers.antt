use Rattle.event_links.proofs.Kept.{kept_new}
use Rattle.event_links.proofs.EventLinks.new.Goals as goal

pub invariant_of-result : goal.invariant_of-result
invariant_of-result c = kept_new c.in_ok-lists.lists c.args.size c.in_ok-lists.ensures.alone c.in_ok-lists.ensures.size
