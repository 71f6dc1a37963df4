use Rattle.std.proofs.Common.{◌≡◌, ◌∙◌, sym, ap, ◌-◌, ◌+◌, ◌∷◌, [], length, arith, List, subst, refl}
use Rattle.std.proofs.lemmas.List.{length-append}
use Rattle.kj_base.specs.Record.{Free}
use Rattle.kj_model.specs.Changes.{gone}
use Rattle.kj_model.specs.Free.{free_to}
use Rattle.promise_walks.specs.declared.freeing.Frame.{Frame}
use Rattle.promise_walks.specs.Walks.{guard_of, left_as}
use Rattle.promise_walks.specs.Stacks.{AreUnlisted, finish, weigh, cost}
use Rattle.promise_walks.proofs.Composed.{hears_none}
use Rattle.promise_walks.proofs.Finished.{finished_next, finished_none, weight_falls, weight_gone}
use Rattle.promise_walks.proofs.Unlisted.{unlisted_pop, unlisted_push, unlisted_stay}
use Rattle.promise_walks.proofs.freeing.go_on.Goals as goal

pub close-requires : goal.close-requires
close-requires g c = record { unlisted = (unlisted_pop (g.N.Nodes.is_listed c.args.nodes.now) c.args.stack.now.items c.args.frame c.requires.unlisted).1 }

pub open-requires-clause-unlisted : goal.open-requires-clause-unlisted
open-requires-clause-unlisted g c =
    let is_listed = g.N.Nodes.is_listed c.args.nodes.now in
    let fs = c.args.stack.now.items in
    let f = c.args.frame in
    let h : Frame = record { node = f.node; parts = c.rest.result; leaving = f.leaving } in
    let r = unlisted_pop is_listed fs f c.requires.unlisted in
    subst (λ (l : List Frame). AreUnlisted is_listed l) (sym c.put_last.ensures.items) (unlisted_push is_listed fs h r.0 r.1)

pub returns-then-frame-eq0-clause-does : goal.returns-then-frame-eq0-clause-does
returns-then-frame-eq0-clause-does g c =
    let f = c.args.frame in
    record {
      items = Free f.node.number.0 ∷ [];
      told = c.close.ensures.told;
      moves = λ s stands. record {
        state = gone f.node.number.0 (left_as f.node.number.0 f.leaving s);
        stands = c.close.ensures.stands s.world stands;
        past_is = refl;
        ends = sym (finished_none (guard_of c.args.guard) (g.N.Nodes.slots c.args.nodes.now + 1) c.args.stack.now.items f s (omega (arith, c.requires.bound)) c.if-frame-eq0.true);
      };
    }

pub returns-then-frame-eq0-clause-weight : goal.returns-then-frame-eq0-clause-weight
returns-then-frame-eq0-clause-weight g c = weight_gone (g.N.Nodes.slots c.args.nodes.now + 1) c.args.stack.now.items c.args.frame (omega (arith, c.requires.bound))

pub returns-then-frame-eq0-clause-unlisted : goal.returns-then-frame-eq0-clause-unlisted
returns-then-frame-eq0-clause-unlisted g c =
    let is_listed = g.N.Nodes.is_listed c.args.nodes.now in
    let fs = c.args.stack.now.items in
    unlisted_stay is_listed (g.N.Nodes.is_listed c.close.new.nodes) fs c.close.ensures.listed (unlisted_pop is_listed fs c.args.frame c.requires.unlisted).0

pub returns-clause-does : goal.returns-clause-does
returns-clause-does g c =
    let f = c.args.frame in
    let guard = guard_of c.args.guard in
    let d = g.N.Nodes.slots c.args.nodes.now + 1 in
    let fs = c.args.stack.now.items in
    let h : Frame = record { node = f.node; parts = c.rest.result; leaving = f.leaving } in
    record {
      items = [];
      told = hears_none (g.S.Steps.told c.args.steps.now);
      moves = λ s stands. let r = c.open.ensures.moves s stands in record {
        state = r.state;
        stands = r.stands;
        past_is = r.past_is;
        ends = r.ends
            ∙ ap (λ (l : List Frame). finish guard d l (free_to guard (d - length l) f.parts.next.number.0 s)) c.put_last.ensures.items
            ∙ finished_next guard d fs f h s (omega (arith, c.requires.bound)) c.rest.ensures.count c.rest.ensures.next refl refl;
      };
    }

pub returns-clause-weight : goal.returns-clause-weight
returns-clause-weight g c =
    let f = c.args.frame in
    let d = g.N.Nodes.slots c.args.nodes.now + 1 in
    let fs = c.args.stack.now.items in
    let h : Frame = record { node = f.node; parts = c.rest.result; leaving = f.leaving } in
    let len : d - length c.put_last.new.items.items ≡ d - length fs - 1 = omega (arith, ap length c.put_last.ensures.items, length-append fs (h ∷ [])) in
    let e = weight_falls d fs f h (omega (arith, c.requires.bound)) c.rest.ensures.count in
    let p = ap (weigh d) c.put_last.ensures.items in
    omega (arith, c.open.ensures.weight, e, p, ap cost len)
