use Rattle.std.proofs.Common.{◌≡◌, ℕ, ◌+◌, ◌<◌, [], ◌∷◌, Some, false, refl, sym, ap, subst, ◌∙◌, arith}
use Rattle.std.specs.Prelude.{nat_eq}
use Rattle.std.proofs.lemmas.Bool.Decides.{nat_tests}
use Rattle.kj_base.specs.Commands.{step_of}
use Rattle.kj_model.specs.Nodes.{Chain, is_in}
use Rattle.kj_model.specs.World.{Promise, held_at}
use Rattle.kj_model.specs.Changes.{named}
use Rattle.kj_model.specs.Places.{built}
use Rattle.kj_model.specs.Effects.{over_built, chain_built}
use Rattle.kj_model.specs.Listening.{listened}
use Rattle.promise_names.specs.Held.{AreFree, HasRoot, IsListless}
use Rattle.promise_names.proofs.Listless.{none_listed}
use Rattle.promise_apply.specs.Building.{over_shown}
use Rattle.promise_apply.specs.declared.building.Over.TheVariants.{Then as ThenCase}
use Rattle.promise_nodes.proofs.Same.{built_names, named_lists}
use Rattle.promise_apply.proofs.Same.{named_nodes, listened_names}
use Rattle.promise_apply.proofs.Live.{built_held}
use Rattle.promise_apply.proofs.Roots.{free_more}
use Rattle.promise_apply.proofs.Sided.{free_taken, free_later}
use Rattle.promise_apply.proofs.chaining.build_chain.Goals as goal

pub take_source-then-requires-clause-fits : goal.take_source-then-requires-clause-fits
take_source-then-requires-clause-fits g c = g.met.N.Nodes.one_of_two c.args.nodes.now [] (Some c.args.root.number.0) [] c.requires.fits

pub returns-clause-stands : goal.returns-clause-stands
returns-clause-stands g c w both held listless =
    let source = c.args.source.0 in
    let name = c.args.name.0 in
    let over = over_built (over_shown (ThenCase c.args.value c.args.error)) source w in
    let taken = c.take_source-then.ensures.stands w both held in
    let n = c.take_source-then.result.number.0 in
    let m = c.build-chain.result.number.0 in
    let next = g.met.N.Nodes.next_is c.args.nodes.now w both.0 in
    let number : n ≡ w.next = c.take_source-then.ensures.number ∙ sym next in
    let second : m ≡ w.next + 1 = c.build-chain.ensures.number ∙ c.take_source-then.ensures.next ∙ ap (λ (k : ℕ). k + 1) (sym next) in
    let b = built (Some n) (Chain n) over in
    let u = named name (Promise m) b in
    let nodes = c.build-chain.ensures.stands over taken.0 in
    let names = g.met.M.Names.nodes_free c.take_source-then.new.names over b (built_names (Some n) (Chain n) over) taken.1 in
    let free = subst IsListless (sym (ap (held_at name) (built_held (Some n) (Chain n) over))) listless in
    let set = c.set.ensures.stands b [] names free tt in
    let kept = g.met.N.Nodes.names_free c.build-chain.new.self b u (named_nodes name (Promise m) b) (named_lists name (Promise m) b (sym (none_listed (held_at name b.names) free))) nodes in
    let listens = c.listen.ensures.stands u kept in
    let after = g.met.M.Names.nodes_free c.set.new.self u (listened n u) (listened_names n u) set in
    let same : listened n u ≡ chain_built name source (step_of c.args.value) (step_of c.args.error) w =
    ap (λ (x : ℕ). listened x (named name (Promise m) (built (Some x) (Chain x) over))) number
    ∙ ap (λ (y : ℕ). listened w.next (named name (Promise y) (built (Some w.next) (Chain w.next) over))) second in
    (subst (g.N.Nodes.stands c.listen.new.nodes) same listens, subst (g.M.Names.stands c.set.new.self) same after)

not_in : (n k next : ℕ) → n ≡ next → k < next → is_in k (n ∷ []) ≡ false
not_in n k next e low = let apart : nat_eq n k ≡ false = grind (arith, nat_tests) in rw apart refl

pub returns-clause-free : goal.returns-clause-free
returns-clause-free g c =
    let next = g.N.Nodes.next c.args.nodes.now in
    let then = c.take_source-then in
    let roots = g.M.Names.roots then.new.names in
    let roots2 = g.M.Names.roots c.set.new.self in
    let taken = g.N.Nodes.is_taken then.new.nodes in
    let taken2 = g.N.Nodes.is_taken c.build-chain.new.self in
    let taken3 = g.N.Nodes.is_taken c.listen.new.nodes in
    let number : c.build-chain.result.number.0 ≡ next + 1 = c.build-chain.ensures.number ∙ then.ensures.next in
    let has = subst (λ (n : ℕ). HasRoot roots roots2 c.args.name.0 (Some n)) number c.set.ensures.root in
    let free2 = free_taken roots taken taken2 next then.ensures.free (λ k low h. c.build-chain.ensures.taken k h (not_in then.result.number.0 k next then.ensures.number low)) in
    let free3 = free_more roots roots2 taken2 taken2 (next + 1) c.args.name.0 (free_later roots taken2 next (next + 1) free2 (omega arith)) has (λ n h. h) (ap taken2 (sym number) ∙ c.build-chain.ensures.root) in
    let free4 = free_taken roots2 taken2 taken3 (next + 1 + 1) free3 (λ k low h. c.listen.ensures.taken k h) in
    let last : g.N.Nodes.next c.listen.new.nodes ≡ next + 1 + 1 = c.listen.ensures.next ∙ c.build-chain.ensures.next ∙ ap (λ (n : ℕ). n + 1) then.ensures.next in
    subst (λ (n : ℕ). AreFree roots2 taken3 n) (sym last) free4
