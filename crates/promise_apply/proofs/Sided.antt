-- Sides over sources, one after another, and trees that get listeners.
use Rattle.std.proofs.Common.{◌≡◌, ℕ, ◌+◌, ◌<◌, ◌≤◌, length, List, [], ◌∷◌, ◌++◌, Option, None, Some, Bool, true, false, refl, sym, ap, ◌∙◌, arith, subst}
use Rattle.std.specs.Prelude.{zero, suc, nat_eq, ◌||◌, ◌==◌, ◌^◌, IsTrue}
use Rattle.kj_base.specs.Places.{Row, row}
use Rattle.std.specs.List.{list_any, AllByRecursion}
use Rattle.std.proofs.lemmas.Bool.{false≢true}
use Rattle.std.proofs.lemmas.Bool.Decides.{nat_tests}
use Rattle.kj_model.specs.Nodes.{is_in}
use Rattle.kj_model.specs.World.{World, Promise, held_at}
use Rattle.kj_model.specs.Changes.{unnamed, without_name}
use Rattle.kj_model.specs.Effects.{node_of, node_named, over_built, sides_built, each_listened, trees_named}
use Rattle.kj_model.specs.Listening.{listened}
use Rattle.kj_model.proofs.Counts.{held_without}
use Rattle.promise_names.specs.Held.{AreFree, HasRoot}
use Rattle.promise_nodes.specs.Kept.{SameNames, AreRowsBuilt}
use Rattle.promise_nodes.specs.Shown.{run_from, next_number}
use Rattle.promise_apply.specs.Building.{over_shown}
use Rattle.kj_base.specs.declared.numbers.Name.{Name}
use Rattle.promise_commands.specs.Commands.{name_numbers}
use Rattle.promise_apply.specs.Joining.{AreHeld, AreSources, are_sources, source_names, source_trees, tree_rows, rows_before}
use Rattle.promise_apply.specs.declared.sources.Source.{Source}
use Rattle.promise_apply.specs.declared.building.Over.TheVariants.{Side as SideCase}
use Rattle.promise_apply.proofs.Same.{listened_names}
use Rattle.promise_apply.proofs.Live.{built_held}

-- a world from which the trees that are left come to the same
pub record IsListening (Now : World → Type 0) (left all : List ℕ) (w : World) : Type 0 where
  pub world : World
  pub stands : Now world
  pub ends : each_listened left world ≡ each_listened all w

-- one tree more
pub listening_more : (Now New : World → Type 0) (n : ℕ) (left all : List ℕ) (w : World) → ((v : World) → Now v → New (listened n v)) → IsListening Now (n ∷ left) all w → IsListening New left all w
listening_more Now New n left all w step so = record { world = listened n so.world; stands = step so.world so.stands; ends = so.ends }

-- all of them
pub listening_all : (Now : World → Type 0) (left all : List ℕ) (w : World) → left ≡ [] → IsListening Now left all w → Now (each_listened all w)
listening_all Now left all w none so = subst Now (sym (ap (λ (ns : List ℕ). each_listened ns so.world) none) ∙ so.ends) so.stands

-- names stay
pub each_names : (P : World → Type 0) → ((w v : World) → SameNames w v → P w → P v) → (ns : List ℕ) (w : World) → P w → P (each_listened ns w)
each_names P free [] w p = p
each_names P free (n ∷ ns) w p = each_names P free ns (listened n w) (free w (listened n w) (listened_names n w) p)

-- a world from which the sources that are left come to the same
pub record IsSided (Now : World → Type 0) (left all : List Source) (w : World) : Type 0 where
  pub world : World
  pub stands : Now world
  pub held : AreHeld left world
  pub ends : sides_built (source_names left) world ≡ sides_built (source_names all) w

or_first : (a b : Bool) → (a || b) ≡ false → a ≡ false
or_first true b h = h
or_first false b h = refl

or_second : (a b : Bool) → (a || b) ≡ false → b ≡ false
or_second true b h = absurd (false≢true (sym h))
or_second false b h = h

turned : (a b : ℕ) → nat_eq a b ≡ false → nat_eq b a ≡ false
turned a b h = grind (arith, nat_tests)

held_left : (n : ℕ) (left : List Source) (w v : World) → v.names ≡ without_name n w.names → is_in n (source_names left) ≡ false → AreHeld left w → AreHeld left v
held_left n [] w v same apart h = tt
held_left n (s ∷ ss) w v same apart h = (
  ap (held_at s.name.0) same ∙ held_without s.name.0 n w.names (turned s.name.0 n (or_first (s.name.0 == n) (is_in n (source_names ss)) apart)) ∙ h.0,
  held_left n ss w v same (or_second (s.name.0 == n) (is_in n (source_names ss)) apart) h.1,
)

-- one Side more
pub sided_more : (Now New : World → Type 0) (s : Source) (left all : List Source) (w : World) → is_in s.name.0 (source_names left) ≡ false
    → ((v : World) → Now v → held_at s.name.0 v.names ≡ Some (Promise s.root.number.0) → New (over_built (over_shown SideCase) s.name.0 v)) → IsSided Now (s ∷ left) all w → IsSided New left all w
sided_more Now New s left all w apart step so =
    let v = so.world in
    let t = node_named s.name.0 v in
    record {
      world = over_built (over_shown SideCase) s.name.0 v;
      stands = step v so.stands so.held.0;
      held = held_left s.name.0 left v (over_built (over_shown SideCase) s.name.0 v) (built_held (Some t) (over_shown SideCase t) (unnamed s.name.0 v)) apart so.held.1;
      ends = so.ends;
    }

-- all of them
pub sided_all : (Now : World → Type 0) (left all : List Source) (w : World) → left ≡ [] → IsSided Now left all w → Now (sides_built (source_names all) w)
sided_all Now left all w none so = subst Now (sym (ap (λ (ss : List Source). sides_built (source_names ss) so.world) none) ∙ so.ends) so.stands

not_same : (a b : ℕ) → nat_eq b a ≡ false → a ≡ b → ⊥
not_same a b h e = let t : nat_eq b a ≡ true = grind (arith, nat_tests) in absurd (false≢true (sym h ∙ t))

-- the sources that are left, when one went
pub sources_left : (roots roots' : ℕ → Option ℕ) (n : ℕ) (left : List Source) → HasRoot roots roots' n None → is_in n (source_names left) ≡ false → AreSources roots left → AreSources roots' left
sources_left roots roots' n [] has apart h = tt
sources_left roots roots' n (s ∷ ss) has apart h = (
  has.1 s.name.0 (λ e. not_same n s.name.0 (or_first (s.name.0 == n) (is_in n (source_names ss)) apart) (sym e)) ∙ h.0,
  h.1,
  sources_left roots roots' n ss has (or_second (s.name.0 == n) (is_in n (source_names ss)) apart) h.2,
)

is_none : (root : ℕ) → ◌≡◌ {A = Option ℕ} None (Some root) → ⊥
is_none root e = cc

below_case : (roots roots' : ℕ → Option ℕ) (taken : ℕ → Bool) (next n : ℕ) → AreFree roots taken next → HasRoot roots roots' n None → (b : Bool) (m root : ℕ) → nat_eq n m ≡ b → roots' m ≡ Some root → root < next
below_case roots roots' taken next n free has true m root e h =
    let same : m ≡ n = grind (arith, nat_tests) in absurd (is_none root (sym has.0 ∙ ap roots' (sym same) ∙ h))
below_case roots roots' taken next n free has false m root e h = free.built m root (sym (has.1 m (not_same m n e)) ∙ h)

-- trees are as before, below the same number
pub free_gone : (roots roots' : ℕ → Option ℕ) (taken taken' : ℕ → Bool) (next next' n : ℕ) → AreFree roots taken next → HasRoot roots roots' n None → AreFree roots' taken' next' → AreFree roots' taken' next
free_gone roots roots' taken taken' next next' n free has after = record {
  untaken = after.untaken;
  built = λ m root h. below_case roots roots' taken next n free has (nat_eq n m) m root refl h;
  apart = after.apart;
}

-- and below a higher one
pub free_later : (roots : ℕ → Option ℕ) (taken : ℕ → Bool) (next next' : ℕ) → AreFree roots taken next → next ≤ next' → AreFree roots taken next'
free_later roots taken next next' free more = record {
  untaken = free.untaken;
  built = λ m root h. let low = free.built m root h in omega (arith, low, more);
  apart = free.apart;
}

fallen : (b c : Bool) → c ≡ false → (b ≡ true → c ≡ true) → b ≡ false
fallen true c h f = absurd (false≢true (sym h ∙ f refl))
fallen false c h f = refl

-- nodes that were taken since have higher numbers
pub free_taken : (roots : ℕ → Option ℕ) (taken taken' : ℕ → Bool) (next : ℕ) → AreFree roots taken next → ((n : ℕ) → n < next → taken' n ≡ true → taken n ≡ true) → AreFree roots taken' next
free_taken roots taken taken' next free falls = record {
  untaken = λ m root h. fallen (taken' root) (taken root) (free.untaken m root h) (falls root (free.built m root h));
  built = free.built;
  apart = free.apart;
}

-- a name among those of sources
pub named_in : (n : ℕ) (sources : List Source) → list_any (λ (s : Source). s.name.0 == n) sources ≡ is_in n (source_names sources)
named_in n [] = refl
named_in n (s ∷ ss) = ap (λ (b : Bool). (s.name.0 == n) || b) (named_in n ss)

not_last : (n : ℕ) (xs : List Source) (s : Source) → is_in n (source_names xs) ≡ false → nat_eq s.name.0 n ≡ false → is_in n (source_names (xs ++ s ∷ [])) ≡ false
not_last n [] s h k = rw k refl
not_last n (x ∷ xs) s h k =
    let first : nat_eq x.name.0 n ≡ false = or_first (x.name.0 == n) (is_in n (source_names xs)) h in
    rw first (not_last n xs s (or_second (x.name.0 == n) (is_in n (source_names xs)) h) k)

-- one source more
pub sources_more : (roots : ℕ → Option ℕ) (xs : List Source) (s : Source) → AreSources roots xs → roots s.name.0 ≡ Some s.root.number.0 → is_in s.name.0 (source_names xs) ≡ false → AreSources roots (xs ++ s ∷ [])
sources_more roots [] s all h apart = (h, refl, tt)
sources_more roots (x ∷ xs) s all h apart = (
  all.0,
  not_last x.name.0 xs s all.1 (turned x.name.0 s.name.0 (or_first (x.name.0 == s.name.0) (is_in s.name.0 (source_names xs)) apart)),
  sources_more roots xs s all.2 h (or_second (x.name.0 == s.name.0) (is_in s.name.0 (source_names xs)) apart),
)

-- the first row alone
pub first_row : (room : List Row → Bool) → ((front : List Row) (left : Row) (back : List Row) → IsTrue (room (front ++ left ∷ back)) → IsTrue (room (front ++ back))) → (r : Row) (rest : List Row) → IsTrue (room (r ∷ rest)) → IsTrue (room (r ∷ []))
first_row room law r [] h = h
first_row room law r (x ∷ rest) h = first_row room law r rest (law (r ∷ []) x rest h)

-- the rows of sources are before nodes that were built
pub sources_built : (roots : ℕ → Option ℕ) (taken : ℕ → Bool) (next : ℕ) (sources : List Source) → AreFree roots taken next → AreSources roots sources → AreRowsBuilt next (tree_rows (source_trees sources) ++ row None 1 ∷ [])
sources_built roots taken next [] free all = (tt, tt)
sources_built roots taken next (s ∷ ss) free all = (free.built s.name.0 s.root.number.0 all.0, sources_built roots taken next ss free all.2)

-- the rows before the sources' roots are those before their trees
pub rows_same : (roots : ℕ → Option ℕ) (sources : List Source) → AreSources roots sources → rows_before roots (source_names sources) ≡ tree_rows (source_trees sources)
rows_same roots [] all = refl
rows_same roots (s ∷ ss) all =
    ap (λ (o : Option ℕ). row o 1 ∷ rows_before roots (source_names ss)) all.0
    ∙ ap (λ (rs : List Row). row (Some s.root.number.0) 1 ∷ rs) (rows_same roots ss all.2)

-- their trees are what their names hold
pub trees_same : (sources : List Source) (w : World) → AreHeld sources w → source_trees sources ≡ trees_named (source_names sources) w
trees_same [] w held = refl
trees_same (s ∷ ss) w held =
    ap (λ (n : ℕ). n ∷ source_trees ss) (sym (ap node_of held.0))
    ∙ ap (λ (ns : List ℕ). node_named s.name.0 w ∷ ns) (trees_same ss w held.1)

run_next : (n count : ℕ) → n + suc count < 2 ^ 64 → next_number n ≡ n + 1
run_next n count low = omega (arith, low)

run_low : (n count : ℕ) → n + suc count < 2 ^ 64 → n + 1 + count < 2 ^ 64
run_low n count low = omega (arith, low)

run_first : (n count : ℕ) → n < n + suc count
run_first n count = omega arith

run_above : (m n count : ℕ) → n + 1 ≤ m → n ≤ m
run_above m n count h = omega (arith, h)

run_below : (m n count : ℕ) → m < n + 1 + count → m < n + suc count
run_below m n count h = omega (arith, h)

-- what holds of numbers that follow each other
pub run_all : (P : ℕ → Type 0) (count n : ℕ) → n + count < 2 ^ 64 → ((m : ℕ) → n ≤ m → m < n + count → P m) → AllByRecursion P (run_from count n)
run_all P zero n low h = tt
run_all P (suc count) n low h = (
  h n (omega arith) (run_first n count),
  subst (λ (k : ℕ). AllByRecursion P (run_from count k)) (sym (run_next n count low))
      (run_all P count (n + 1) (run_low n count low) (λ m a b. h m (run_above m n count a) (run_below m n count b))),
)

below : (k n : ℕ) → k < n → nat_eq n k ≡ false
below k n h = grind (arith, nat_tests)

below_next : (k n : ℕ) → k < n → k < n + 1
below_next k n h = omega (arith, h)

-- a lower number isn't among them
pub run_misses : (k count n : ℕ) → n + count < 2 ^ 64 → k < n → is_in k (run_from count n) ≡ false
run_misses k zero n low h = refl
run_misses k (suc count) n low h =
    let apart : nat_eq n k ≡ false = below k n h in
    rw apart (subst (λ (m : ℕ). is_in k (run_from count m) ≡ false) (sym (run_next n count low)) (run_misses k count (n + 1) (run_low n count low) (below_next k n h)))

-- as many names as sources
pub names_long : (sources : List Source) → length (source_names sources) ≡ length sources
names_long [] = refl
names_long (s ∷ ss) = let h = names_long ss in omega (arith, h)

pub names_more : (sources : List Source) (s : Source) → source_names (sources ++ s ∷ []) ≡ source_names sources ++ s.name.0 ∷ []
names_more [] s = refl
names_more (x ∷ xs) s = ap (λ (ns : List ℕ). x.name.0 ∷ ns) (names_more xs s)

pub numbers_more : (names : List Name) (n : Name) → name_numbers (names ++ n ∷ []) ≡ name_numbers names ++ n.0 ∷ []
numbers_more [] n = refl
numbers_more (x ∷ xs) n = ap (λ (ns : List ℕ). x.0 ∷ ns) (numbers_more xs n)

-- one name that is a source
pub sources_step : (roots : ℕ → Option ℕ) (before : List ℕ) (n root : ℕ) (more : List ℕ) → is_in n before ≡ false → roots n ≡ Some root → are_sources roots before (n ∷ more) ≡ are_sources roots (before ++ n ∷ []) more
sources_step roots before n root more fresh has = rw (fresh, has) refl
