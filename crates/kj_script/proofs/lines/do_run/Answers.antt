-- Turn by turn.
use Rattle.std.proofs.Common.{◌≡◌, ◌∙◌, ◌-◌, ℕ, suc, [], ap, sym, subst, arith}
use Rattle.kj_model.specs.Calls.{Turned, turn}
use Rattle.kj_model.specs.Log.{Logged, run_lines, run_rest, scripted, turned_line}
use Rattle.kj_model.specs.World.{State}
use Rattle.promise_steps.specs.Kept.{told_by}
use Rattle.promise_turns.specs.Turns.{turned_of}
use Rattle.promise_walks.specs.Values.{setting_of}
use Rattle.loop_core.specs.Loops.{StandsAt}
use Rattle.kj_script.specs.Running.{Shows}
use Rattle.kj_script.proofs.Logs.{run_ends}
use Rattle.kj_script.proofs.lines.do_run.Goals as goal

pub loop-left-preserved : goal.loop-left-preserved
loop-left-preserved g c bodies log shows =
    let setting = setting_of g.N.Nodes.rule (scripted bodies) in
    let before = c.loop-left.invariant bodies log shows in
    let now : Logged = before.0 in
    let e = c.in_ok-make_turn.ensures in
    let r = turn setting now.state in
    let rest : ℕ = c.loop-left.left - 1 in
    let same : suc rest ≡ c.loop-left.left = omega (arith, c.loop-left-test.true) in
    let fired : r.1 ≡ turned_of c.in_ok-make_turn.field-0 = e.turned bodies now before.1 in
    let there = ap (λ (k : ℕ). run_lines setting k now) (sym same)
    ∙ ap (λ (t : Turned). run_rest (run_lines setting rest) t (turned_line [] r.0 t now)) (fired ∙ ap turned_of c.in-Fired.is)
    ∙ ap (λ (t : Turned). run_lines setting rest (turned_line [] r.0 t now)) (sym (ap turned_of c.in-Fired.is)) in
    (turned_line [] r.0 (turned_of c.in_ok-make_turn.field-0) now, e.shows bodies now before.1, before.2 ∙ there)

pub returns-in_default : goal.returns-in_default
returns-in_default g c bodies log shows =
    let New : State → Type 0 = StandsAt g.N.Nodes.rule (g.N.Nodes.stands c.make_turn.new.over.nodes) (g.M.Names.stands c.make_turn.new.over.names) in
    let setting = setting_of g.N.Nodes.rule (scripted bodies) in
    let before = c.loop-left.invariant bodies log shows in
    let now : Logged = before.0 in
    let e = c.in_ok-make_turn.ensures in
    let r = turn setting now.state in
    let rest : ℕ = c.loop-left.left - 1 in
    let same : suc rest ≡ c.loop-left.left = omega (arith, c.loop-left-test.true) in
    let there = before.2 ∙ ap (λ (k : ℕ). run_lines setting k now) (sym same)
    ∙ run_ends (run_lines setting rest) r.1 c.in_ok-make_turn.field-0 r.0 now (e.turned bodies now before.1) c.in_default.not-Fired in
    subst (λ (l : Logged). Shows bodies New (told_by c.make_turn.new.steps) c.make_turn.new.text l) (sym there) (e.shows bodies now before.1)

pub returns : goal.returns
returns g c bodies log shows =
    let New : State → Type 0 = StandsAt g.N.Nodes.rule (g.N.Nodes.stands c.loop-left.over.nodes) (g.M.Names.stands c.loop-left.over.names) in
    let setting = setting_of g.N.Nodes.rule (scripted bodies) in
    let before = c.loop-left.invariant bodies log shows in
    let now : Logged = before.0 in
    let none : c.loop-left.left ≡ 0 = omega (arith, c.loop-left-test.false) in
    subst (λ (l : Logged). Shows bodies New (told_by c.loop-left.steps) c.loop-left.text l) (sym (before.2 ∙ ap (λ (k : ℕ). run_lines setting k now) none)) before.1
