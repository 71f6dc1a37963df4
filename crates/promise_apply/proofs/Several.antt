-- The names of a join that pass.
use Rattle.std.proofs.Common.{◌≡◌, ℕ, ◌+◌, length, List, [], ◌∷◌, ◌++◌, Option, None, Some, Bool, true, false, refl, sym, ap, ◌∙◌, arith, subst}
use Rattle.std.specs.Prelude.{not, ◌&&◌, ◌||◌, ◌==◌, is_some, map}
use Rattle.kj_base.specs.Places.{Row, row}
use Rattle.kj_base.specs.declared.numbers.Name.{Name}
use Rattle.kj_model.specs.Nodes.{is_in}
use Rattle.kj_model.specs.World.{World, Promise, held_at}
use Rattle.kj_model.specs.Effects.{node_named}
use Rattle.kj_model.specs.Uses.{Use, use_as, used_as, new_over, IsNew, IsSource, is_name, is_promise, is_source, used_before, first_failing, is_unknown, is_wrong}
use Rattle.kj_model.specs.Apply.{before_source}
use Rattle.promise_commands.specs.Commands.{name_numbers}
use Rattle.promise_apply.specs.Applying.{ArePassed, count_new, count_sources}
use Rattle.promise_apply.specs.Joining.{AreHeld, AreSources, are_sources, rows_before, source_names}
use Rattle.promise_apply.specs.declared.sources.Source.{Source}
use Rattle.promise_apply.proofs.Counted.{passed_first, or_parts, not_false}
use Rattle.promise_apply.proofs.Passed.{promise_root, promise_held}

-- names that hold promises have their roots
abbrev pub AreRooted : (ℕ → Option ℕ) → World → Type 0
AreRooted roots w = (n root : ℕ) → held_at n w.names ≡ Some (Promise root) → roots n ≡ Some root

-- the rows of sources that pass
pub rows_known : (roots : ℕ → Option ℕ) (ns : List ℕ) (w : World) (before : List Use) → AreRooted roots w → first_failing (is_wrong w) before (used_as IsSource ns) ≡ None → rows_before roots ns ≡ map (λ (n : ℕ). before_source 1 n w) ns
rows_known roots [] w before law h = refl
rows_known roots (n ∷ ns) w before law h =
    let p = passed_first (is_wrong w) before (use_as IsSource n) (used_as IsSource ns) h in
    let has = not_false (is_promise (held_at n w.names)) p.0 in
    ap (λ (o : Option ℕ). row o 1 ∷ rows_before roots ns) (promise_root (held_at n w.names) (roots n) has (law n))
    ∙ ap (λ (rs : List Row). before_source 1 n w ∷ rs) (rows_known roots ns w (before ++ use_as IsSource n ∷ []) law p.1)

-- and what their names hold
pub held_known : (roots : ℕ → Option ℕ) (sources : List Source) (w : World) (before : List Use) → AreRooted roots w → AreSources roots sources → first_failing (is_wrong w) before (used_as IsSource (source_names sources)) ≡ None → AreHeld sources w
held_known roots [] w before law all h = tt
held_known roots (s ∷ ss) w before law all h =
    let p = passed_first (is_wrong w) before (use_as IsSource s.name.0) (used_as IsSource (source_names ss)) h in
    let has = not_false (is_promise (held_at s.name.0 w.names)) p.0 in (
      promise_held (held_at s.name.0 w.names) (roots s.name.0) s.root.number.0 has (law s.name.0) all.0,
      held_known roots ss w (before ++ use_as IsSource s.name.0 ∷ []) law all.2 p.1,
    )

-- the others pass where all do
pub rest_wrong : (name : ℕ) (ns : List ℕ) (w : World) → ArePassed (new_over name ns) w → first_failing (is_wrong w) (use_as IsNew name ∷ []) (used_as IsSource ns) ≡ None
rest_wrong name ns w p = (passed_first (is_wrong w) [] (use_as IsNew name) (used_as IsSource ns) p.wrong).1

pub rest_unknown : (name : ℕ) (ns : List ℕ) (w : World) → ArePassed (new_over name ns) w → first_failing (is_unknown w) (use_as IsNew name ∷ []) (used_as IsSource ns) ≡ None
rest_unknown name ns w p = (passed_first (is_unknown w) [] (use_as IsNew name) (used_as IsSource ns) p.unknown).1

used_in : (n : ℕ) (bs : List ℕ) → used_before is_source n (used_as IsSource bs) ≡ is_in n bs
used_in n [] = refl
used_in n (b ∷ bs) = ap (λ (t : Bool). (b == n) || t) (used_in n bs)

uses_more : (bs : List ℕ) (n : ℕ) → used_as IsSource bs ++ use_as IsSource n ∷ [] ≡ used_as IsSource (bs ++ n ∷ [])
uses_more [] n = refl
uses_more (b ∷ bs) n = ap (λ (us : List Use). use_as IsSource b ∷ us) (uses_more bs n)

some_is : (o : Option ℕ) (r : ℕ) → o ≡ Some r → is_some o ≡ true
some_is o r h = rw h refl

three_true : (a b c : Bool) → a ≡ false → b ≡ true → c ≡ true → (not a && (b && c)) ≡ true
three_true a b c h k l = rw (h, k, l) refl

-- so each is there, once
pub all_found : (name : ℕ) (roots : ℕ → Option ℕ) (ns bs : List ℕ) (w : World) → AreRooted roots w
    → first_failing (is_unknown w) (use_as IsNew name ∷ used_as IsSource bs) (used_as IsSource ns) ≡ None → first_failing (is_wrong w) (use_as IsNew name ∷ used_as IsSource bs) (used_as IsSource ns) ≡ None → are_sources roots bs ns ≡ true
all_found name roots [] bs w law h k = refl
all_found name roots (n ∷ ns) bs w law h k =
    let before = use_as IsNew name ∷ used_as IsSource bs in
    let p = passed_first (is_unknown w) before (use_as IsSource n) (used_as IsSource ns) h in
    let q = passed_first (is_wrong w) before (use_as IsSource n) (used_as IsSource ns) k in
    let once = (or_parts (not (is_name n w.names)) (used_before is_source n before) p.0).1 in
    let has = not_false (is_promise (held_at n w.names)) q.0 in
    let fresh : is_in n bs ≡ false = sym (used_in n bs) ∙ once in
    three_true (is_in n bs) (is_some (roots n)) (are_sources roots (bs ++ n ∷ []) ns) fresh
    (some_is (roots n) (node_named n w) (promise_root (held_at n w.names) (roots n) has (law n)))
    (all_found name roots ns (bs ++ n ∷ []) w law
    (subst (λ (us : List Use). first_failing (is_unknown w) (use_as IsNew name ∷ us) (used_as IsSource ns) ≡ None) (uses_more bs n) p.1)
    (subst (λ (us : List Use). first_failing (is_wrong w) (use_as IsNew name ∷ us) (used_as IsSource ns) ≡ None) (uses_more bs n) q.1))

zero_plus : (n : ℕ) → 0 + n ≡ n
zero_plus n = omega arith

news_none : (ns : List ℕ) → count_new (used_as IsSource ns) ≡ 0
news_none [] = refl
news_none (n ∷ ns) = zero_plus (count_new (used_as IsSource ns)) ∙ news_none ns

-- one name comes
pub one_new : (name : ℕ) (ns : List ℕ) → count_new (new_over name ns) ≡ 1
one_new name ns = let h = news_none ns in omega (arith, h)

sources_all : (ns : List ℕ) → count_sources (used_as IsSource ns) ≡ length ns
sources_all [] = refl
sources_all (n ∷ ns) = let h = sources_all ns in omega (arith, h)

-- and the sources go
pub all_go : (name : ℕ) (ns : List ℕ) → count_sources (new_over name ns) ≡ length ns
all_go name ns = zero_plus (count_sources (used_as IsSource ns)) ∙ sources_all ns

-- as many numbers as names
pub numbers_long : (names : List Name) → length (name_numbers names) ≡ length names
numbers_long [] = refl
numbers_long (n ∷ ns) = let h = numbers_long ns in omega (arith, h)
