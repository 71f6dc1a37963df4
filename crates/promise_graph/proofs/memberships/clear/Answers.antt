use Rattle.std.proofs.Common.{◌∙◌, ◌<◌, ℕ, length, Option, sym, ap, inl, inr, subst}
use Rattle.std.specs.Prelude.{IsSome}
use Rattle.std.proofs.lemmas.Bool.{cases_eq, false≢true}
use Rattle.kj_base.specs.declared.numbers.Name.{Name}
use Rattle.promise_graph.specs.Memberships.{list_at, slots_in}
use Rattle.promise_graph.proofs.Buckets.{first_low, first_listed, none_first, dropped_short, dropped_none, one_list, out_of_list}
use Rattle.promise_graph.proofs.memberships.clear.Goals as goal

pub leave-requires-clause-within : goal.leave-requires-clause-within
leave-requires-clause-within c = first_low c.clearing.x c.args.slots c.args.list.0 c.in-Some.slot c.clearing.invariant.kept (sym c.newest.ensures ∙ c.in-Some.is)

pub clearing-smaller : goal.clearing-smaller
clearing-smaller c =
    let xs = slots_in c.clearing.x c.args.slots c.args.list.0 in
    subst (λ (n : ℕ). n < length xs) (sym (ap length (c.leave.ensures.left.each c.args.list.0))) (dropped_short xs c.in-Some.slot (sym c.newest.ensures ∙ c.in-Some.is))

pub clearing-preserved : goal.clearing-preserved
clearing-preserved c =
    let x = c.clearing.x in
    let slot = c.in-Some.slot in
    let listed = first_listed x c.args.slots c.args.list.0 slot c.clearing.invariant.kept (sym c.newest.ensures ∙ c.in-Some.is) in
    record {
      kept = c.leave.ensures.kept;
      elsewhere = λ other d.
          c.leave.ensures.left.each other
          ∙ dropped_none slot (slots_in x c.args.slots other) (out_of_list x c.args.slots other slot (one_list (list_at x slot) c.args.list.0 other listed d))
          ∙ c.clearing.invariant.elsewhere other d;
      lists = λ s h. elim (cases_eq s slot) [
        | inl e ↦ absurd (false≢true (subst (λ (o : Option Name). IsSome o) (ap (list_at c.leave.new.x) e ∙ c.leave.ensures.left.gone) h))
        | inr d ↦ c.clearing.invariant.lists s (subst (λ (o : Option Name). IsSome o) (c.leave.ensures.left.lists s d) h)
      ];
    }

pub returns-clause-cleared : goal.returns-clause-cleared
returns-clause-cleared c = record {
  here = none_first (slots_in c.clearing.x c.args.slots c.args.list.0) (sym c.newest.ensures ∙ c.in_default.is);
  elsewhere = c.clearing.invariant.elsewhere;
  lists = c.clearing.invariant.lists;
}
