use Rattle.std.proofs.Common.{◌∙◌, ap}
use Rattle.std.specs.Prelude.{unwrap_or}
use Rattle.event_links.proofs.Kept.{kept_rewound, events_rewound}
use Rattle.event_links.proofs.EventLinksQueue.rewind.Goals as goal

pub invariant_of-self : goal.invariant_of-self
invariant_of-self c = rw (c.unwrap_or-self-inside.ensures ∙ ap (λ r. unwrap_or r c.self.inside.size) c.first.ensures.first) (kept_rewound c.self.inside c.self.invariant)

pub returns-clause-rewound : goal.returns-clause-rewound
returns-clause-rewound c = rw (← c.self.view_is) (rw (c.unwrap_or-self-inside.ensures ∙ ap (λ r. unwrap_or r c.self.inside.size) c.first.ensures.first) (events_rewound c.self.inside))
