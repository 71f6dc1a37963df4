use Rattle.std.proofs.Common.{◌≡◌, ℕ, suc, ◌+◌, ◌≤◌, ◌<◌, List, [], ◌∷◌, ◌++◌, None, Bool, true, false, IsTrue, length, get_or, drop, refl, sym, ap, subst, ◌∙◌, arith}
use Rattle.std.specs.Prelude.{nat_eq}
use Rattle.std.proofs.lemmas.Bool.{false≢true}
use Rattle.std.proofs.lemmas.Bool.Decides.{nat_tests}
use Rattle.std.proofs.Math.Seq.{drop-cons}
use Rattle.kj_base.specs.Places.{row}
use Rattle.kj_model.specs.Nodes.{is_in}
use Rattle.promise_apply.specs.Building.{Both}
use Rattle.promise_apply.specs.Joining.{AreSources, source_trees, tree_rows}
use Rattle.kj_base.specs.declared.nodes.Link.{Link}
use Rattle.promise_apply.specs.declared.sources.Source.{Source}
use Rattle.promise_apply.proofs.Sided.{IsSided, sided_more, sources_left, free_gone, first_row, sources_built, run_all, free_later}
use Rattle.promise_apply.proofs.joining.build_sides.Goals.{then-i-eq0, else-i-eq0}
use Rattle.promise_apply.proofs.joining.build_sides.Goals as goal

up : (i : ℕ) → suc i ≡ i + 1
up i = omega arith

-- the source at a place stands before the others
at_place : (sources : List Source) (i : ℕ) → i < length sources → drop i sources ≡ get_or sources i (record { name = record { 0 = 0 }; root = record { slot = record { 0 = 0 }; number = record { 0 = 0 } } }) ∷ drop (i + 1) sources
at_place sources i low = drop-cons sources i (record { name = record { 0 = 0 }; root = record { slot = record { 0 = 0 }; number = record { 0 = 0 } } }) low ∙ ap (λ (k : ℕ). get_or sources i (record { name = record { 0 = 0 }; root = record { slot = record { 0 = 0 }; number = record { 0 = 0 } } }) ∷ drop k sources) (up i)

fallen : (b c : Bool) → c ≡ false → (b ≡ true → c ≡ true) → b ≡ false
fallen true c h f = absurd (false≢true (sym h ∙ f refl))
fallen false c h f = refl

-- the Sides so far were taken by nobody, and nor was the new one
sides_case : (taken taken' : ℕ → Bool) (t n next side m : ℕ) (b : Bool) → nat_eq m side ≡ b → n ≤ m → m < next + 1 → t < n → side ≡ next → taken' side ≡ false
    → ((k : ℕ) → n ≤ k → k < next → taken k ≡ false) → ((k : ℕ) → taken' k ≡ true → is_in k (t ∷ []) ≡ false → taken k ≡ true) → taken' m ≡ false
sides_case taken taken' t n next side m true e low high tree is new before rises =
    let same : m ≡ side = grind (arith, nat_tests) in subst (λ (k : ℕ). taken' k ≡ false) (sym same) new
sides_case taken taken' t n next side m false e low high tree is new before rises =
    let apart : nat_eq t m ≡ false = grind (arith, nat_tests) in
    let other : nat_eq m next ≡ false = subst (λ (k : ℕ). nat_eq m k ≡ false) is e in
    let below : m < next = grind (arith, nat_tests) in
    fallen (taken' m) (taken m) (before m low below) (λ h. rises m h (rw apart refl))

pub take_source-side-requires-clause-fits : goal.take_source-side-requires-clause-fits
take_source-side-requires-clause-fits g c =
    let sources = c.args.sources.now in
    let i = c.loop-i.i in
    let rest = tree_rows (source_trees (drop (i + 1) sources)) ++ row None 1 ∷ [] in
    first_row (g.N.Nodes.room c.loop-i.nodes) (g.met.N.Nodes.left_out c.loop-i.nodes) _ rest
    (subst (λ (ss : List Source). IsTrue (g.N.Nodes.room c.loop-i.nodes (tree_rows (source_trees ss) ++ row None 1 ∷ []))) (at_place sources i c.loop-i-test.true) c.loop-i.invariant.fits)

pub loop-i-preserved : goal.loop-i-preserved
loop-i-preserved g c =
    let sources = c.args.sources.now in
    let i = c.loop-i.i in
    let n = g.N.Nodes.next c.args.nodes.now in
    let now = c.loop-i.invariant in
    let take = c.take_source-side.ensures in
    let roots = g.M.Names.roots c.loop-i.names in
    let roots2 = g.M.Names.roots c.take_source-side.new.names in
    let taken = g.N.Nodes.is_taken c.loop-i.nodes in
    let taken2 = g.N.Nodes.is_taken c.take_source-side.new.nodes in
    let s = get_or sources i (record { name = record { 0 = 0 }; root = record { slot = record { 0 = 0 }; number = record { 0 = 0 } } }) in
    let left = drop (i + 1) sources in
    let place : drop i sources ≡ s ∷ left = at_place sources i c.loop-i-test.true in
    let all : AreSources roots (s ∷ left) = subst (AreSources roots) place now.sources in
    let built = now.next in
    let later = free_later roots taken n (g.N.Nodes.next c.loop-i.nodes) now.free (omega (arith, built)) in
    let rows = subst (λ (ss : List Source). IsTrue (g.N.Nodes.room c.loop-i.nodes (tree_rows (source_trees ss) ++ row None 1 ∷ []))) place now.fits in
    let counted = take.count in
    let counted_before = now.count in
    let next_after = take.next in
    let first : c.if-i-eq0.first.number.0 ≡ n = elim c.if-i-eq0.branch [
      | then-i-eq0 w ↦ ap (λ (l : Link). l.number.0) w.first-is ∙ take.number ∙ built ∙ (let zero = w.if-i-eq0.true in omega (arith, zero))
      | else-i-eq0 w ↦ ap (λ (l : Link). l.number.0) w.first-is ∙ now.first
    ] in
    record {
      sources = sources_left roots roots2 s.name.0 left take.roots all.1 all.2;
      fits = take.rest (tree_rows (source_trees left) ++ row None 1 ∷ []) 1 (omega arith) (sources_built roots taken (g.N.Nodes.next c.loop-i.nodes) left later all.2) rows;
      next = omega (arith, built, next_after);
      first = first;
      free = free_gone roots roots2 taken taken2 n (g.N.Nodes.next c.loop-i.nodes) s.name.0 now.free take.roots take.free;
      sides = λ m low high. sides_case taken taken2 s.root.number.0 n (g.N.Nodes.next c.loop-i.nodes) c.take_source-side.result.number.0 m (nat_eq m c.take_source-side.result.number.0) refl low (omega (arith, high, built)) (now.free.built s.name.0 s.root.number.0 all.0) take.number take.root
          (λ k a b. now.sides k a (omega (arith, b, built))) take.taken;
      count = omega (arith, counted, counted_before);
      limit = take.limit ∙ now.limit;
      slots = take.slots ∙ now.slots;
      plain = λ m h. take.plain m (now.plain m h);
      over = take.over ∙ now.over;
      stands = λ w both held. sided_more (Both (g.N.Nodes.stands c.loop-i.nodes) (g.M.Names.stands c.loop-i.names)) (Both (g.N.Nodes.stands c.take_source-side.new.nodes) (g.M.Names.stands c.take_source-side.new.names)) s left sources w all.1 take.stands
          (subst (λ (ss : List Source). IsSided (Both (g.N.Nodes.stands c.loop-i.nodes) (g.M.Names.stands c.loop-i.names)) ss sources w) place (now.stands w both held));
    }

pub returns-clause-sides : goal.returns-clause-sides
returns-clause-sides g c =
    let n = g.N.Nodes.next c.args.nodes.now in
    let few = c.requires.few in
    let numbers = c.requires.numbers in
    let end = c.loop-i-test.false in
    run_all (λ (m : ℕ). g.N.Nodes.is_taken c.loop-i.nodes m ≡ false) (length c.args.sources.now) n (omega (arith, few, numbers)) (λ m low high. c.loop-i.invariant.sides m low (omega (arith, high, end)))

pub returns-clause-built : goal.returns-clause-built
returns-clause-built g c =
    let n = g.N.Nodes.next c.args.nodes.now in
    let few = c.requires.few in
    let numbers = c.requires.numbers in
    let end = c.loop-i-test.false in
    let next = c.loop-i.invariant.next in
    run_all (λ (m : ℕ). m < g.N.Nodes.next c.loop-i.nodes) (length c.args.sources.now) n (omega (arith, few, numbers)) (λ m low high. omega (arith, high, end, next))
