use Rattle.std.proofs.Common.{◌≡◌, ◌∙◌, sym, ap, ℕ, ◌+◌, ◌<◌, [], Bool, true, false, arith}
use Rattle.std.proofs.lemmas.List.{append-nil}
use Rattle.kj_model.specs.Nodes.{form_at}
use Rattle.kj_model.specs.Free.{free_to, each_freed, is_guarded, reference_gone}
use Rattle.promise_nodes.specs.Shown.{run_from}
use Rattle.promise_nodes.specs.Kept.{is_unreferenced}
use Rattle.promise_walks.specs.Walks.{guard_of}
use Rattle.promise_walks.specs.Stacks.{falls_count}
use Rattle.promise_walks.proofs.Composed.{does_from, hears_none}
use Rattle.promise_walks.proofs.Entered.{unreferenced_counts}
use Rattle.promise_walks.proofs.freeing.free_unreferenced.Goals as goal

one_falls : (last kept : Bool) (count : ℕ) → count ≡ falls_count last kept → 0 < count → count ≡ 1
one_falls false kept count is some = absurd (omega (arith, is, some))
one_falls true true count is some = absurd (omega (arith, is, some))
one_falls true false count is some = is

pub returns-clause-does : goal.returns-clause-does
returns-clause-does g c =
    let guard = guard_of c.args.guard in
    let d = g.N.Nodes.slots c.args.nodes.now + 1 in
    let hub = c.args.hub.number.0 in
    let count = c.count_falling-count.result in
    does_from _ _ (free_to guard d hub) (reference_gone guard (free_to guard d) hub) (λ s. s) _ _
    (λ s stands.
    let w = s.world in
    let last = is_unreferenced (form_at hub w.nodes) in
    let kept = is_guarded guard hub w in
    let is : count ≡ falls_count last kept = c.count_falling-count.ensures.count w stands.0 ∙ ap (λ (b : Bool). falls_count b kept) (c.is_unreferenced-is_last.ensures w stands.0) in
    let one : count ≡ 1 = one_falls last kept count is (omega (arith, c.if-count-eq0.false)) in
    ap (λ (j : ℕ). each_freed (free_to guard d) (run_from j hub) s) (sym one ∙ is) ∙ sym (unreferenced_counts guard (free_to guard d) hub (form_at hub w.nodes) s))
    c.free_tree.ensures.does

pub returns-then-count-eq0-clause-does : goal.returns-then-count-eq0-clause-does
returns-then-count-eq0-clause-does g c =
    let guard = guard_of c.args.guard in
    let d = g.N.Nodes.slots c.args.nodes.now + 1 in
    let hub = c.args.hub.number.0 in
    record {
      items = [];
      told = hears_none (g.S.Steps.told c.args.steps.now);
      moves = λ s stands. record {
        state = s;
        stands = stands;
        past_is = sym (append-nil s.past);
        ends =
            let w = s.world in
            let last = is_unreferenced (form_at hub w.nodes) in
            let kept = is_guarded guard hub w in
            let is : c.count_falling-count.result ≡ falls_count last kept = c.count_falling-count.ensures.count w stands.0 ∙ ap (λ (b : Bool). falls_count b kept) (c.is_unreferenced-is_last.ensures w stands.0) in
            sym (unreferenced_counts guard (free_to guard d) hub (form_at hub w.nodes) s
            ∙ ap (λ (j : ℕ). each_freed (free_to guard d) (run_from j hub) s) (sym is ∙ c.if-count-eq0.true));
      };
    }
