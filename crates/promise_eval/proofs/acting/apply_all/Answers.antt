use Rattle.std.proofs.Common.{◌≡◌, ◌∙◌, ◌≤◌, ◌+◌, ℕ, List, [], ◌∷◌, true, false, refl, sym, ap, subst, drop, arith}
use Rattle.kj_model.specs.World.{World, State, Setting}
use Rattle.kj_model.specs.Value.{all_applied}
use Rattle.promise_commands.specs.declared.command.Command.{Command}
use Rattle.promise_commands.specs.Commands.{command_of}
use Rattle.promise_walks.specs.Walks.{Both}
use Rattle.promise_eval.specs.Done.{Did, commands_of}
use Rattle.promise_eval.proofs.Acted.{did_first_at, did_none, did_refused_at, did_then, at_place}
use Rattle.promise_eval.proofs.acting.apply_all.Goals as goal

same_room : (n : ℕ) → n ≤ n
same_room n = omega arith

more_room : (a b c : ℕ) → a ≤ b → b ≤ c → a ≤ c
more_room a b c h k = omega (arith, h, k)

pub loop-i-init : goal.loop-i-init
loop-i-init g c = record {
  applied = did_none (Both (g.N.Nodes.stands c.args.nodes.now) (g.M.Names.stands c.args.names.now)) g.N.Nodes.rule (λ setting s. all_applied setting (commands_of c.args.commands.now) s) (g.S.Steps.told c.args.steps.now);
  lacks = refl;
  free = c.requires.free;
  few = c.requires.few;
  slots = refl;
  plain = λ n h. h;
  over = refl;
  frames_room = same_room _;
  room = same_room _;
}

pub returns-then-is_err-clause-applied : goal.returns-then-is_err-clause-applied
returns-then-is_err-clause-applied g c =
    let A : World → Type 0 = Both (g.N.Nodes.stands c.args.nodes.now) (g.M.Names.stands c.args.names.now) in
    let B : World → Type 0 = Both (g.N.Nodes.stands c.loop-i.nodes) (g.M.Names.stands c.loop-i.names) in
    let C : World → Type 0 = Both (g.N.Nodes.stands c.apply.new.nodes) (g.M.Names.stands c.apply.new.names) in
    did_then A B C g.N.Nodes.rule (λ setting s. all_applied setting (commands_of c.args.commands.now) s) (λ setting s. all_applied setting (commands_of (drop c.loop-i.i c.args.commands.now)) s) (λ setting s. (s, false)) _ _ _
    c.loop-i.invariant.applied
    (did_refused_at B C g.N.Nodes.rule c.apply.result c.args.commands.now c.loop-i.i c.index-commands-i.result _ _ (sym c.is_err.ensures.value ∙ c.if-is_err.true) (at_place c.args.commands.now c.loop-i.i c.index-commands-i.result (omega (arith, c.loop-i-test.true)) (sym c.index-commands-i.is)) c.apply.ensures.applied)

pub loop-i-preserved : goal.loop-i-preserved
loop-i-preserved g c =
    let A : World → Type 0 = Both (g.N.Nodes.stands c.args.nodes.now) (g.M.Names.stands c.args.names.now) in
    let B : World → Type 0 = Both (g.N.Nodes.stands c.loop-i.nodes) (g.M.Names.stands c.loop-i.names) in
    let C : World → Type 0 = Both (g.N.Nodes.stands c.apply.new.nodes) (g.M.Names.stands c.apply.new.names) in
    record {
      applied =
          did_then A B C g.N.Nodes.rule (λ setting s. all_applied setting (commands_of c.args.commands.now) s) (λ setting s. all_applied setting (commands_of (drop c.loop-i.i c.args.commands.now)) s) (λ setting s. all_applied setting (commands_of (drop (c.loop-i.i + 1) c.args.commands.now)) s) _ _ _
          c.loop-i.invariant.applied
          (did_first_at B C g.N.Nodes.rule c.apply.result c.args.commands.now c.loop-i.i c.index-commands-i.result _ _ (sym c.is_err.ensures.value ∙ c.if-is_err.false) (at_place c.args.commands.now c.loop-i.i c.index-commands-i.result (omega (arith, c.loop-i-test.true)) (sym c.index-commands-i.is)) c.apply.ensures.applied);
      lacks = c.apply.ensures.lacks ∙ c.loop-i.invariant.lacks;
      free = c.apply.ensures.free;
      few = c.apply.ensures.few;
      slots = c.apply.ensures.slots ∙ c.loop-i.invariant.slots;
      plain = λ n h. c.apply.ensures.plain n (c.loop-i.invariant.plain n h);
      over = c.apply.ensures.over ∙ c.loop-i.invariant.over;
      frames_room = more_room _ _ _ c.loop-i.invariant.frames_room c.apply.ensures.frames_room;
      room = more_room _ _ _ c.loop-i.invariant.room c.apply.ensures.search_room;
    }
