use Rattle.std.proofs.Common.{◌≡◌, ◌∙◌, true, false, arith, ap, sym, refl}
use Rattle.std.proofs.lemmas.Bool.{false≢true}
use Rattle.kj_base.specs.Queue.{is_armed}
use Rattle.event_links.specs.EventLinks.{Sized}
use Rattle.event_links.proofs.Kept.{armed_if, disarmed_there, disarmed_absent}
use Rattle.event_links.proofs.EventLinksQueue.disarm.Goals as goal

pub returns-then-not-is_alone-clause-disarmed : goal.returns-then-not-is_alone-clause-disarmed
returns-then-not-is_alone-clause-disarmed c =
    let s : c.self.inside.size ≡ c.args.self.now.size = ap (λ (v : Sized). v.size) c.self.view_is in
    let there : is_armed c.args.event c.args.self.now.events ≡ true =
    ap (λ (v : Sized). is_armed c.args.event v.events) (sym c.self.view_is) ∙ armed_if c.self.inside c.args.event c.self.invariant (omega arith) (λ e. false≢true (c.if-not-is_alone.ensures.alone.1 e)) in
    c.take_out.ensures.events ∙ sym (disarmed_there c.args.event c.args.self.now.events there)

pub returns-else-not-is_alone-clause-disarmed : goal.returns-else-not-is_alone-clause-disarmed
returns-else-not-is_alone-clause-disarmed c =
    let s : c.self.inside.size ≡ c.args.self.now.size = ap (λ (v : Sized). v.size) c.self.view_is in
    let absent : is_armed c.args.event c.args.self.now.events ≡ false =
    ap (λ (v : Sized). is_armed c.args.event v.events) (sym c.self.view_is) ∙ c.if-not-is_alone.ensures.unlisted refl c.self.inside.size (λ e. absurd (omega arith)) in
    sym (disarmed_absent c.args.event c.args.self.now.events absent)
