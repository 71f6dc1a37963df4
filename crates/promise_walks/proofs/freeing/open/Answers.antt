use Rattle.std.proofs.Common.{◌≡◌, ◌∙◌, sym, ap, ℕ, suc, ◌-◌, ◌+◌, ◌<◌, length, arith, List, subst, Option, None, Some, refl}
use Rattle.std.proofs.lemmas.Bool.Decides.{nat_tests}
use Rattle.std.proofs.lemmas.List.{append-nil}
use Rattle.kj_model.specs.Nodes.{Form, form_at}
use Rattle.kj_model.specs.World.{State}
use Rattle.kj_model.specs.Free.{free_to}
use Rattle.promise_walks.specs.declared.freeing.Frame.{Frame}
use Rattle.promise_walks.specs.Shapes.{SeesShape}
use Rattle.promise_walks.specs.Walks.{Both, guard_of}
use Rattle.promise_walks.specs.Stacks.{AreUnlisted, finish, weigh, cost}
use Rattle.promise_walks.proofs.Composed.{moves_not}
use Rattle.promise_walks.proofs.Entered.{free_none, free_zero}
use Rattle.promise_walks.proofs.Finished.{finish_push, pushed_weight}
use Rattle.promise_walks.proofs.Unlisted.{unlisted_stay, unlisted_push}
use Rattle.promise_walks.proofs.freeing.open.Goals as goal

unseen : (o : Option Form) → SeesShape None o → o ≡ None
unseen None h = refl
unseen (Some form) h = absurd h

pub returns-then-is_deep-clause-moves : goal.returns-then-is_deep-clause-moves
returns-then-is_deep-clause-moves g c s stands =
    let guard = guard_of c.args.guard in
    let n = c.args.node.number.0 in
    let d = g.N.Nodes.slots c.args.nodes.now + 1 in
    let fs = c.args.stack.now.items in
    let zero_left : d - length fs ≡ 0 = grind (arith, nat_tests, c.if-is_deep.true, c.is_deep.ensures, c.slots.ensures, c.len.ensures) in
    moves_not (Both (g.N.Nodes.stands c.args.nodes.now) (g.M.Names.stands c.args.names.now)) (λ (t : State). finish guard d fs (free_to guard (d - length fs) n t)) (finish guard d fs)
    (λ t. ap (λ (j : ℕ). finish guard d fs (free_to guard j n t)) zero_left ∙ ap (λ (u : State). finish guard d fs u) (free_zero guard n t)) s stands

pub returns-in_default-clause-moves : goal.returns-in_default-clause-moves
returns-in_default-clause-moves g c s stands =
    let guard = guard_of c.args.guard in
    let n = c.args.node.number.0 in
    let d = g.N.Nodes.slots c.args.nodes.now + 1 in
    let fs = c.args.stack.now.items in
    record {
      state = s;
      stands = stands;
      past_is = sym (append-nil s.past);
      ends = sym (ap (λ (u : State). finish guard d fs u) (free_none guard (d - length fs) n s (unseen (form_at n s.world.nodes) (c.in_default.ensures.shape s.world stands.0))));
    }

pub returns-clause-moves : goal.returns-clause-moves
returns-clause-moves g c s stands =
    let guard = guard_of c.args.guard in
    let n = c.args.node.number.0 in
    let d = g.N.Nodes.slots c.args.nodes.now + 1 in
    let fs = c.args.stack.now.items in
    let within : length fs < d = grind (arith, nat_tests, c.if-is_deep.false, c.is_deep.ensures, c.slots.ensures, c.len.ensures) in
    let k = d - length fs - 1 in
    let here : d - length fs ≡ suc k = omega (arith, within) in
    let r = c.enter-frame.ensures.enters k s stands in
    record {
      state = r.state;
      stands = r.stands;
      past_is = r.past_is;
      ends = ap (λ (l : List Frame). finish guard d l r.state) c.put_last.ensures.items
          ∙ finish_push guard d k fs c.enter-frame.result r.state (omega (arith, within))
          ∙ ap (λ (u : State). finish guard d fs u) r.ends
          ∙ ap (λ (j : ℕ). finish guard d fs (free_to guard j n s)) (sym here);
    }

pub returns-clause-weight : goal.returns-clause-weight
returns-clause-weight g c =
    let d = g.N.Nodes.slots c.args.nodes.now + 1 in
    let fs = c.args.stack.now.items in
    let within : length fs < d = grind (arith, nat_tests, c.if-is_deep.false, c.is_deep.ensures, c.slots.ensures, c.len.ensures) in
    subst (λ (l : List Frame). weigh d l < weigh d fs + cost (d - length fs)) (sym c.put_last.ensures.items) (pushed_weight d fs c.enter-frame.result within (omega arith))

pub returns-clause-unlisted : goal.returns-clause-unlisted
returns-clause-unlisted g c =
    let before = g.N.Nodes.is_listed c.args.nodes.now in
    let now = g.N.Nodes.is_listed c.enter-frame.new.nodes in
    let fs = c.args.stack.now.items in
    subst (λ (l : List Frame). AreUnlisted now l) (sym c.put_last.ensures.items)
    (unlisted_push now fs c.enter-frame.result (unlisted_stay before now fs c.enter-frame.ensures.listed c.requires.unlisted) c.enter-frame.ensures.unlisted)
