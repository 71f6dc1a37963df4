use Rattle.std.proofs.Common.{◌≡◌, ◌∙◌, ◌-◌, sym, ap, ℕ, Some, Bool, inl, inr}
use Rattle.std.specs.Prelude.{◌==◌, if◌then◌else◌}
use Rattle.std.proofs.lemmas.Bool.{cases_eq}
use Rattle.kj_model.specs.Nodes.{is_in}
use Rattle.promise_nodes.specs.Shown.{run_from}
use Rattle.promise_graph.specs.declared.fields.Marks.{Marks}
use Rattle.promise_graph.specs.Kept.{taker_at}
use Rattle.promise_graph.proofs.Lists.{some_same, equal_yes, equal_not}
use Rattle.promise_graph.proofs.Runs.{run_step, taken_step}
use Rattle.promise_graph.proofs.owners.take_parts.Goals as goal

pub taking-preserved : goal.taking-preserved
taking-preserved g c =
    let now = c.take_part.ensures in
    let was = c.taking.invariant in
    let owners = c.take_part.new.marks.owners in
    record {
      others = now.others ∙ ap (λ (x : Marks). record x { owners = owners }) was.others;
      all = now.all ∙ ap (λ (x : Marks). x.slots) was.others;
      takers = λ s n l.
          let at = c.taking.at in
          let one : taker_at c.take_part.new.marks s ≡ (if at == n then c.args.taker.number.0 else taker_at c.taking.marks s) = elim (cases_eq at n) [
            | inl p ↦ now.here s (l ∙ ap (λ (j : ℕ). Some j) (sym p)) ∙ ap (λ (b : Bool). if b then c.args.taker.number.0 else taker_at c.taking.marks s) (sym (equal_yes at n p))
            | inr d ↦ now.elsewhere s (λ e. d (some_same at n (sym e ∙ l))) ∙ ap (λ (b : Bool). if b then c.args.taker.number.0 else taker_at c.taking.marks s) (sym (equal_not at n d))
          ] in
          ap (λ (y : ℕ). if is_in n (run_from (c.taking.left - 1) c.saturating_add-at.result) then c.args.taker.number.0 else y) one
          ∙ sym (taken_step (at == n) (is_in n (run_from (c.taking.left - 1) c.saturating_add-at.result)) c.args.taker.number.0 (taker_at c.taking.marks s))
          ∙ ap (λ (b : Bool). if b then c.args.taker.number.0 else taker_at c.taking.marks s) (sym (run_step n c.taking.left at c.saturating_add-at.result c.taking-test.true c.saturating_add-at.ensures))
          ∙ was.takers s n l;
    }
