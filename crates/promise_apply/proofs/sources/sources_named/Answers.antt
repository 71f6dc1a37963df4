use Rattle.std.proofs.Common.{◌≡◌, ℕ, suc, ◌+◌, List, [], ◌∷◌, ◌++◌, Some, false, get_or, take, drop, sym, ap, subst, ◌∙◌, arith}
use Rattle.std.proofs.Math.Seq.{drop-cons}
use Rattle.std.proofs.lemmas.List.{take_more}
use Rattle.kj_base.specs.declared.numbers.Name.{Name}
use Rattle.kj_model.specs.Nodes.{is_in}
use Rattle.promise_commands.specs.Commands.{name_numbers}
use Rattle.promise_nodes.specs.Shown.{link_number}
use Rattle.promise_apply.specs.Joining.{AreSources, are_sources, source_names}
use Rattle.promise_apply.specs.declared.sources.Source.{Source}
use Rattle.promise_apply.proofs.Sided.{sources_more, names_more, numbers_more, sources_step}
use Rattle.promise_apply.proofs.sources.sources_named.Goals as goal

up : (i : ℕ) → suc i ≡ i + 1
up i = omega arith

pub loop-name-preserved : goal.loop-name-preserved
loop-name-preserved g c =
    let roots = g.M.Names.roots c.args.names.now in
    let wanted = c.args.wanted.now in
    let found = c.loop-name.found.items in
    let i = c.loop-name.name-index in
    let low = c.loop-name-test.true in
    let now = c.loop-name.invariant in
    let blank : Name = record { 0 = 0 } in
    let n = get_or wanted i blank in
    let s : Source = record { name = n; root = c.in-Some.root } in
    let items : c.push.new.self.items ≡ found ++ s ∷ [] = c.push.ensures.items in
    let fresh : is_in n.0 (source_names found) ≡ false = ap (λ (ss : List Source). is_in n.0 (source_names ss)) (sym c.as_slice.ensures.value) ∙ sym c.if-is_among.ensures in
    let root : roots n.0 ≡ Some c.in-Some.root.number.0 = sym (sym (ap link_number c.in-Some.is) ∙ c.root_named.ensures) in
    let few = now.few in
    let long = c.push.ensures.len in
    let names : source_names (found ++ s ∷ []) ≡ source_names found ++ n.0 ∷ [] = names_more found s in
    record {
      sources = subst (AreSources roots) (sym items) (sources_more roots found s now.sources root fresh);
      names = ap source_names items ∙ names ∙ ap (λ (ns : List ℕ). ns ++ n.0 ∷ []) now.names ∙ sym (ap name_numbers (take_more wanted i blank low) ∙ numbers_more (take i wanted) n);
      few = omega (arith, few, long);
      rest = ap (λ (ss : List Source). are_sources roots (source_names ss) (name_numbers (drop (i + 1) wanted))) items
          ∙ ap (λ (ns : List ℕ). are_sources roots ns (name_numbers (drop (i + 1) wanted))) names
          ∙ sym (sources_step roots (source_names found) n.0 c.in-Some.root.number.0 (name_numbers (drop (i + 1) wanted)) fresh root)
          ∙ sym (ap (λ (ns : List Name). are_sources roots (source_names found) (name_numbers ns)) (drop-cons wanted i blank low ∙ ap (λ (k : ℕ). n ∷ drop k wanted) (up i)))
          ∙ now.rest;
    }
