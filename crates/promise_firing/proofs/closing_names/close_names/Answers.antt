use Rattle.std.proofs.Common.{◌≡◌, ◌∙◌, ◌≤◌, ◌-◌, sym, ap, subst, ℕ, refl, length, arith}
use Rattle.kj_model.specs.World.{World}
use Rattle.kj_model.specs.Calls.{names_closed}
use Rattle.promise_names.specs.Held.{name_number}
use Rattle.promise_walks.specs.Walks.{Both}
use Rattle.promise_walks.proofs.Composed.{does_then}
use Rattle.promise_firing.specs.Closed.{name_closed}
use Rattle.promise_walks.proofs.Changing.{does_onward, does_more, does_ends}
use Rattle.promise_firing.proofs.Named.{first_goes, no_name_goes, no_first}
use Rattle.promise_firing.proofs.Kept.{keeps_same, keeps_then}
use Rattle.promise_firing.proofs.closing_names.close_names.Goals as goal

pub closing-init : goal.closing-init
closing-init g c =
    let A : World → Type 0 = Both (g.N.Nodes.stands c.args.nodes.now) (g.M.Names.stands c.args.names.now) in
    record {
      does = does_more A (λ w. A w × (length w.names ≤ c.len-left.result)) names_closed (g.S.Steps.told c.args.steps.now)
          (λ w stands. (stands, let all = c.len-left.ensures.names w stands.1 in omega (arith, all)));
      lacks = refl;
      kept = keeps_same _ c.requires.sound;
      over = refl;
    }

pub closing-preserved : goal.closing-preserved
closing-preserved g c =
    let before = c.closing.invariant in
    let done = c.close_name.ensures in
    let name = c.in-Some.name.0 in
    let A : World → Type 0 = Both (g.N.Nodes.stands c.args.nodes.now) (g.M.Names.stands c.args.names.now) in
    let B : World → Type 0 = Both (g.N.Nodes.stands c.closing.nodes) (g.M.Names.stands c.closing.names) in
    let C : World → Type 0 = Both (g.N.Nodes.stands c.close_name.new.nodes) (g.M.Names.stands c.close_name.new.names) in
    let P : World → Type 0 = λ w. B w × (length w.names ≤ c.closing.left) in
    let Q : World → Type 0 = λ w. C w × (length w.names ≤ c.closing.left - 1) in
    let step = does_onward P B C Q (name_closed name) names_closed names_closed _ _ (λ w p. p.0) done.does
    (λ s p stands.
    let r = first_goes name s (sym (c.first.ensures s.world p.0.1) ∙ ap name_number c.in-Some.is) (g.met.M.Names.rising c.closing.names s.world p.0.1) (g.met.M.Names.rising c.close_name.new.names (name_closed name s).world stands.1) in
    (r.same, (stands, let less = r.less in let few = p.1 in omega (arith, less, few)))) in
    record {
      does = does_then A P Q names_closed names_closed names_closed _ _ _ before.does step;
      lacks = done.lacks ∙ before.lacks;
      kept = keeps_then _ _ _ before.kept done.kept;
      over = done.over ∙ before.over;
    }

pub returns-in_default-clause-does : goal.returns-in_default-clause-does
returns-in_default-clause-does g c =
    let A : World → Type 0 = Both (g.N.Nodes.stands c.args.nodes.now) (g.M.Names.stands c.args.names.now) in
    let B : World → Type 0 = Both (g.N.Nodes.stands c.closing.nodes) (g.M.Names.stands c.closing.names) in
    let P : World → Type 0 = λ w. B w × (length w.names ≤ c.closing.left) in
    does_ends A P B names_closed names_closed _ _ (λ w p. p.0) (λ s p. no_name_goes s (sym (c.first.ensures s.world p.0.1) ∙ ap name_number c.in_default.is)) c.closing.invariant.does

pub returns-clause-does : goal.returns-clause-does
returns-clause-does g c =
    let A : World → Type 0 = Both (g.N.Nodes.stands c.args.nodes.now) (g.M.Names.stands c.args.names.now) in
    let B : World → Type 0 = Both (g.N.Nodes.stands c.closing.nodes) (g.M.Names.stands c.closing.names) in
    let P : World → Type 0 = λ w. B w × (length w.names ≤ c.closing.left) in
    let zero_left : c.closing.left ≡ 0 = omega (arith, c.closing-test.false) in
    does_ends A P B names_closed names_closed _ _ (λ w p. p.0)
    (λ s p. no_name_goes s (no_first s.world (subst (λ (k : ℕ). length s.world.names ≤ k) zero_left p.1))) c.closing.invariant.does
