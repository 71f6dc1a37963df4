-- Turn by turn.
use Rattle.std.proofs.Common.{ℕ, suc, ◌≡◌, ◌∙◌, ◌-◌, ◌≤◌, length, refl, subst, arith}
use Rattle.std.specs.Prelude.{max}
use Rattle.std.proofs.Math.Nat.{le-max_left, le-max_right, max-le}
use Rattle.kj_model.specs.Calls.{run}
use Rattle.kj_model.specs.World.{State, Setting}
use Rattle.promise_turns.specs.Turns.{turned_as}
use Rattle.promise_turns.specs.declared.turned.Turned.{Turned}
use Rattle.loop_core.specs.Calls.{CallIs}
use Rattle.loop_core.specs.Loops.{StandsAt}
use Rattle.loop_core.proofs.Called.{Found, call_then, found_none, found_then}
use Rattle.loop_core.proofs.Turning.{TurnIs, first_fired, last_memory, last_turn, turn_called, turn_memory}
use Rattle.loop_core.proofs.running.run_over.Goals as goal

no_more : (a : ℕ) → a ≤ max 1 a
no_more a = le-max_right 1 a

few_then : (a b c : ℕ) → b ≤ max 1 a → c ≤ max 1 b → c ≤ max 1 a
few_then a b c x y = let m : max 1 b ≤ max 1 a = max-le (le-max_left 1 a) x in omega (arith, y, m)

pub loop-left-init : goal.loop-left-init
loop-left-init g c =
    let A : State → Type 0 = StandsAt g.N.Nodes.rule (g.N.Nodes.stands c.args.over.now.nodes) (g.M.Names.stands c.args.over.now.names) in
    (no_more (length (g.M.Names.over c.args.over.now.names)), found_none A g.N.Nodes.rule (λ setting. run setting c.args.turns) _ _)

pub loop-left-preserved : goal.loop-left-preserved
loop-left-preserved g c =
    let A : State → Type 0 = StandsAt g.N.Nodes.rule (g.N.Nodes.stands c.args.over.now.nodes) (g.M.Names.stands c.args.over.now.names) in
    let B : State → Type 0 = StandsAt g.N.Nodes.rule (g.N.Nodes.stands c.loop-left.over.nodes) (g.M.Names.stands c.loop-left.over.names) in
    let C : State → Type 0 = StandsAt g.N.Nodes.rule (g.N.Nodes.stands c.turn.new.over.nodes) (g.M.Names.stands c.turn.new.over.names) in
    let rest : ℕ = c.loop-left.left - 1 in
    let same : suc rest ≡ c.loop-left.left = omega (arith, c.loop-left-test.true) in
    let turned = subst (λ (t : Turned). TurnIs g.N.Nodes.rule (g.N.Nodes.stands c.loop-left.over.nodes) (g.M.Names.stands c.loop-left.over.names) (g.N.Nodes.stands c.turn.new.over.nodes) (g.M.Names.stands c.turn.new.over.names) t (g.S.Steps.told c.loop-left.steps) (g.S.Steps.told c.turn.new.steps) (g.S.Steps.lacks c.loop-left.steps) (g.S.Steps.lacks c.turn.new.steps)) c.in-Fired.is (record { acts = c.turn.ensures.turns; memory = c.turn.ensures.memory }) in
    let first = subst (λ (k : ℕ). Found B C g.N.Nodes.rule (λ (setting : Setting). run setting k) (λ (setting : Setting). run setting rest) (g.S.Steps.told c.loop-left.steps) (g.S.Steps.told c.turn.new.steps) (g.S.Steps.lacks c.loop-left.steps) (g.S.Steps.lacks c.turn.new.steps)) same
    (first_fired g.N.Nodes.rule (g.N.Nodes.stands c.loop-left.over.nodes) (g.M.Names.stands c.loop-left.over.names) (g.N.Nodes.stands c.turn.new.over.nodes) (g.M.Names.stands c.turn.new.over.names) rest _ _ _ _ turned) in
    (few_then (length (g.M.Names.over c.args.over.now.names)) (length (g.M.Names.over c.loop-left.over.names)) (length (g.M.Names.over c.turn.new.over.names)) c.loop-left.invariant.0 c.turn.ensures.over, found_then A B C g.N.Nodes.rule (λ (setting : Setting). run setting c.args.turns) (λ (setting : Setting). run setting c.loop-left.left) (λ (setting : Setting). run setting rest) _ _ _ _ _ _ c.loop-left.invariant.1 first)

pub returns-in_default : goal.returns-in_default
returns-in_default g c =
    let A : State → Type 0 = StandsAt g.N.Nodes.rule (g.N.Nodes.stands c.args.over.now.nodes) (g.M.Names.stands c.args.over.now.names) in
    let B : State → Type 0 = StandsAt g.N.Nodes.rule (g.N.Nodes.stands c.loop-left.over.nodes) (g.M.Names.stands c.loop-left.over.names) in
    let C : State → Type 0 = StandsAt g.N.Nodes.rule (g.N.Nodes.stands c.turn.new.over.nodes) (g.M.Names.stands c.turn.new.over.names) in
    let rest : ℕ = c.loop-left.left - 1 in
    let same : suc rest ≡ c.loop-left.left = omega (arith, c.loop-left-test.true) in
    let t : TurnIs g.N.Nodes.rule (g.N.Nodes.stands c.loop-left.over.nodes) (g.M.Names.stands c.loop-left.over.names) (g.N.Nodes.stands c.turn.new.over.nodes) (g.M.Names.stands c.turn.new.over.names) c.turn.result (g.S.Steps.told c.loop-left.steps) (g.S.Steps.told c.turn.new.steps) (g.S.Steps.lacks c.loop-left.steps) (g.S.Steps.lacks c.turn.new.steps) = record { acts = c.turn.ensures.turns; memory = c.turn.ensures.memory } in
    let call = turn_called g.N.Nodes.rule (g.N.Nodes.stands c.loop-left.over.nodes) (g.M.Names.stands c.loop-left.over.names) (g.N.Nodes.stands c.turn.new.over.nodes) (g.M.Names.stands c.turn.new.over.names) c.turn.result _ _ _ _ t in
    let last = subst (λ (k : ℕ). CallIs B C g.N.Nodes.rule (λ (setting : Setting). run setting k) (λ (setting : Setting). turned_as c.turn.result) (g.S.Steps.told c.loop-left.steps) (g.S.Steps.told c.turn.new.steps) (g.S.Steps.lacks c.loop-left.steps) (g.S.Steps.lacks c.turn.new.steps)) same (last_turn B C g.N.Nodes.rule rest c.turn.result _ _ _ _ c.in_default.not-Fired call) in
    record {
      turns = call_then A B C g.N.Nodes.rule (λ (setting : Setting). run setting c.args.turns) (λ (setting : Setting). run setting c.loop-left.left) (λ (setting : Setting). turned_as c.turn.result) _ _ _ _ _ _ c.loop-left.invariant.1.call c.loop-left.invariant.1.none last;
      memory = last_memory A B g.N.Nodes.rule (λ (setting : Setting). run setting c.args.turns) (λ (setting : Setting). run setting c.loop-left.left) c.turn.result _ _ _ _ _ c.loop-left.invariant.1
          (turn_memory g.N.Nodes.rule (g.N.Nodes.stands c.loop-left.over.nodes) (g.M.Names.stands c.loop-left.over.names) (g.N.Nodes.stands c.turn.new.over.nodes) (g.M.Names.stands c.turn.new.over.names) c.turn.result _ _ _ _ t);
      over = few_then (length (g.M.Names.over c.args.over.now.names)) (length (g.M.Names.over c.loop-left.over.names)) (length (g.M.Names.over c.turn.new.over.names)) c.loop-left.invariant.0 c.turn.ensures.over;
    }
