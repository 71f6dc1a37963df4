use Rattle.std.proofs.Common.{◌≡◌, ◌∙◌, sym, ap, ℕ, ◌-◌, ◌+◌, ◌++◌, ◌∷◌, [], length, arith, List, subst, refl}
use Rattle.kj_model.specs.World.{World, State}
use Rattle.kj_model.specs.Free.{free_to}
use Rattle.promise_walks.specs.declared.freeing.Frame.{Frame}
use Rattle.promise_walks.specs.Walks.{Both, Does, guard_of}
use Rattle.promise_walks.specs.Stacks.{AreUnlisted, finish}
use Rattle.promise_walks.proofs.Composed.{does_then, hears_none, falls_then, rises_then}
use Rattle.promise_walks.proofs.freeing.free_tree.Goals as goal

pub open-requires-clause-unlisted : goal.open-requires-clause-unlisted
open-requires-clause-unlisted g c = rw c.clear.ensures.items tt

pub go_on-requires-clause-unlisted : goal.go_on-requires-clause-unlisted
go_on-requires-clause-unlisted g c = subst (λ (l : List Frame). AreUnlisted (g.N.Nodes.is_listed c.falling.nodes) l) c.in-Some.ensures.items c.falling.invariant.unlisted

pub falling-init : goal.falling-init
falling-init g c =
    let guard = guard_of c.args.guard in
    let root = c.args.root.number.0 in
    let d = g.N.Nodes.slots c.args.nodes.now + 1 in
    let done = c.open.ensures in
    let same : g.N.Nodes.slots c.open.new.nodes + 1 ≡ d = ap (λ (j : ℕ). j + 1) done.slots in
    let all : d - 0 ≡ d = omega arith in
    record {
      does = record {
        items = [];
        told = hears_none (g.S.Steps.told c.args.steps.now);
        moves = λ s stands. let r = done.moves s stands in record {
          state = r.state;
          stands = r.stands;
          past_is = r.past_is;
          ends = ap (λ (j : ℕ). finish guard j c.open.new.stack.items r.state) same ∙ r.ends
              ∙ ap (λ (l : List Frame). finish guard d l (free_to guard (d - length l) root s)) c.clear.ensures.items
              ∙ ap (λ (j : ℕ). free_to guard j root s) all;
        };
      };
      lacks = refl;
      unlisted = done.unlisted;
      taken = done.taken;
      listed = done.listed;
      plain = done.plain;
      next = done.next;
      slots = done.slots;
      roots = λ name. refl;
      count = refl;
      limit = refl;
      over = refl;
      bound = omega (arith, done.bound, same);
      stack_room = omega (arith, done.stack_room, c.requires.stack_room, c.clear.ensures.capacity, same);
      room = omega (arith, done.room, c.requires.room, same);
      stack_more = omega (arith, done.stack_room, c.clear.ensures.capacity);
      more = done.room;
    }

pub falling-preserved : goal.falling-preserved
falling-preserved g c =
    let guard = guard_of c.args.guard in
    let before = c.falling.invariant in
    let d = g.N.Nodes.slots c.falling.nodes + 1 in
    let done = c.go_on.ensures in
    let same : g.N.Nodes.slots c.go_on.new.nodes + 1 ≡ d = ap (λ (j : ℕ). j + 1) done.slots in
    let A : World → Type 0 = Both (g.N.Nodes.stands c.args.nodes.now) (g.M.Names.stands c.args.names.now) in
    let B : World → Type 0 = Both (g.N.Nodes.stands c.falling.nodes) (g.M.Names.stands c.falling.names) in
    let C : World → Type 0 = Both (g.N.Nodes.stands c.go_on.new.nodes) (g.M.Names.stands c.go_on.new.names) in
    let first : State → State = free_to guard (g.N.Nodes.slots c.args.nodes.now + 1) c.args.root.number.0 in
    let now = subst (λ (l : List Frame). Does A B first (finish guard d l) (g.S.Steps.told c.args.steps.now) (g.S.Steps.told c.falling.steps)) c.in-Some.ensures.items before.does in
    let next = does_then A B C first (finish guard d (c.pop.new.self.items ++ c.in-Some.frame ∷ [])) (finish guard d c.go_on.new.stack.items) _ _ _ now done.does in
    record {
      does = subst (λ (j : ℕ). Does A C first (finish guard j c.go_on.new.stack.items) (g.S.Steps.told c.args.steps.now) (g.S.Steps.told c.go_on.new.steps)) (sym same) next;
      lacks = done.lacks ∙ before.lacks;
      unlisted = done.unlisted;
      taken = falls_then _ _ _ before.taken done.taken;
      listed = falls_then _ _ _ before.listed done.listed;
      plain = rises_then _ _ _ before.plain done.plain;
      next = done.next ∙ before.next;
      slots = done.slots ∙ before.slots;
      roots = λ name. done.roots name ∙ before.roots name;
      count = done.count ∙ before.count;
      limit = done.limit ∙ before.limit;
      over = done.over ∙ before.over;
      bound = omega (arith, done.bound, same);
      stack_room = omega (arith, done.stack_room, before.stack_room, same, c.pop.ensures.capacity);
      room = omega (arith, done.room, before.room, same);
      stack_more = omega (arith, done.stack_room, before.stack_more, c.pop.ensures.capacity);
      more = omega (arith, done.room, before.more);
    }
