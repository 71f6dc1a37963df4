-- The rows of a command go before different roots; so a store of arenas refuses alike whether or not it counts slots.
use Rattle.std.proofs.Common.{◌≡◌, ℕ, ◌+◌, ◌≤◌, List, [], ◌∷◌, ◌++◌, Bool, true, false, Option, None, Some, arith, refl, sym, ap, ◌∙◌, subst, length}
use Rattle.std.specs.Prelude.{nat_eq, nat_le, nat_lt, map, not, ◌||◌, ◌&&◌, ◌^◌}
use Rattle.std.proofs.lemmas.Bool.{or_parts}
use Rattle.std.proofs.lemmas.Bool.Decides.{nat_tests}
use Rattle.kj_base.specs.Places.{Row, counts, arenas_fit, table_fits}
use Rattle.kj_base.specs.Record.{Item}
use Rattle.kj_base.specs.Store.{is_named}
use Rattle.kj_base.specs.Commands.{Command, Action, Now, Broken, Later, Last, Pair, Then, Chain, Eager, Fork, Branch, Race, All, Fast, Fulfil, Reject, DropCell, NewSet, Add, Clear, OnEmpty, NewCanceler, Wrap, Cancel, Detach, Drop, Ask, Begin, Stop, Reply}
use Rattle.kj_model.specs.Nodes.{is_in}
use Rattle.kj_model.specs.World.{World, State, Held, Promise, held_at}
use Rattle.kj_model.specs.Changes.{without_name}
use Rattle.kj_model.specs.Effects.{node_of, node_named}
use Rattle.kj_model.specs.Uses.{IsNew, IsSource, use_as, used_as, uses_of, first_failing, is_unknown, is_wrong, is_taken, is_outside}
use Rattle.kj_model.specs.Apply.{Refused, before_source, anew, rows, is_none, names_after, is_busy, refused_full, refused_busy, refused_taken, refused_wrong, refused_unknown, refused_inside, refused_stopped, applied, apply}
use Rattle.kj_model.specs.Owned.{held_roots, name_roots, awaited_roots, tree_roots}
use Rattle.kj_model.specs.Framed.{times, held_total}
use Rattle.kj_model.proofs.Freed.{or_false, swapped}
use Rattle.kj_model.proofs.Counts.{held_split, held_without}
use Rattle.kj_model.proofs.Spared.{same_number}
use Rattle.kj_model.proofs.Once.{false_by}
use Rattle.kj_ownership.proofs.Premises.{AreSources, sources_are, found_none, promise_is}
use Rattle.kj_ownership.proofs.Stays.{name_roots_total, roots_app}
use Rattle.kj_paths.specs.Rows.{IsFirst, GoesAlone, GoApart, counted_fit, over_store}
use Rattle.kj_base.specs.Places.{Spot, spot_of}
use Rattle.kj_paths.proofs.Laid.{Laid}
use Rattle.kj_paths.proofs.Moves.{left_apart}
use Rattle.kj_paths.proofs.Rows.{enough_apart}

-- a promise stands under one name, and is the first of its arena
self_times : (t : ℕ) → times t (t ∷ []) ≡ 1
self_times t = (let e : nat_eq t t ≡ true = grind (arith, nat_tests) in grind (arith, nat_tests))

roots_many : (w : World) (source t : ℕ) → Laid [] w → held_at source w.names ≡ Some (Promise t) → held_total (λ (h : Held). times t (held_roots h)) (without_name source w.names) + 1 ≤ times t (tree_roots w)
roots_many w source t g at =
    let a = roots_app t (name_roots w.names) (awaited_roots w.awaited) w.left_over w.detached in
    let b = name_roots_total t w.names in
    let c = held_split (λ (h : Held). times t (held_roots h)) source w.names (Promise t) at g.names in
    let d = self_times t in
    omega (arith, a, b, c, d)

root_first : (w : World) (source t : ℕ) (x : Spot) → Laid [] w → held_at source w.names ≡ Some (Promise t) → spot_of t w.spots ≡ Some x → IsFirst x w
root_first w source t x g at bt m y ct k l = let a = roots_many w source t g at in let b = g.root m t y x ct bt k l in omega (arith, a, b)

no_other : (w : World) (c d t : ℕ) → Laid [] w → held_at c w.names ≡ Some (Promise t) → held_at d w.names ≡ Some (Promise t) → nat_eq c d ≡ false → ⊥
no_other w c d t g at bt apart =
    let a = roots_many w c t g at in
    let e : held_at d (without_name c w.names) ≡ Some (Promise t) = held_without d c w.names apart ∙ bt in
    let k = held_split (λ (h : Held). times t (held_roots h)) d (without_name c w.names) (Promise t) e (left_apart c w.names g.names) in
    let i = self_times t in
    let o = g.once t in
    omega (arith, a, k, i, o)

-- rows before sources
node_is : (source t : ℕ) (w : World) → held_at source w.names ≡ Some (Promise t) → node_named source w ≡ t
node_is source t w at = ap node_of at

abbrev sources_rows : World → List ℕ → List Row
sources_rows w sources = map (λ source. before_source 1 source w) sources ++ anew 1 ∷ []

not_named : (w : World) (c t : ℕ) (more : List ℕ) → Laid [] w → held_at c w.names ≡ Some (Promise t) → is_in c more ≡ false → AreSources w.names more → is_named t (sources_rows w more) ≡ false
not_named w c t [] g at out a = refl
not_named w c t (d ∷ more) g at out a =
    let p = or_parts (nat_eq d c) (is_in c more) out in
    or_false (nat_eq (node_named d w) t) (is_named t (sources_rows w more))
    (false_by (nat_eq (node_named d w) t) (λ e. no_other w c d t g at (subst (λ (k : ℕ). held_at d w.names ≡ Some (Promise k)) (sym (node_is d a.0 w a.1) ∙ sym (same_number (node_named d w) t e)) a.1) (swapped d c p.0)))
    (not_named w c t more g at p.1 a.3)

alone : (w : World) (source t : ℕ) (others : List Row) → Laid [] w → held_at source w.names ≡ Some (Promise t) → is_named t others ≡ false → GoesAlone w (Some (node_named source w)) others
alone w source t others g at named = subst (λ (k : ℕ). GoesAlone w (Some k) others) (sym (node_is source t w at)) (λ x bt. (root_first w source t x g at bt, named))

sources_apart : (w : World) (sources : List ℕ) → Laid [] w → AreSources w.names sources → GoApart w (sources_rows w sources)
sources_apart w [] g a = (omega arith, tt, tt)
sources_apart w (source ∷ more) g a = (omega arith, alone w source a.0 (sources_rows w more) g a.1 (not_named w source a.0 more g a.1 a.2 a.3), sources_apart w more g a.3)

one_apart : (w : World) (count source t : ℕ) → count ≤ 8 → Laid [] w → held_at source w.names ≡ Some (Promise t) → GoApart w (before_source count source w ∷ [])
one_apart w count source t h g at = (h, alone w source t [] g at refl, tt)

new_apart : (w : World) (count : ℕ) → count ≤ 8 → GoApart w (anew count ∷ [])
new_apart w count h = (h, tt, tt)

-- the sources of a command with a new name
sources_of : (name : ℕ) (sources : List ℕ) (w : World) → first_failing (is_unknown w) [] (use_as IsNew name ∷ used_as IsSource sources) ≡ None → first_failing (is_wrong w) [] (use_as IsNew name ∷ used_as IsSource sources) ≡ None → AreSources w.names sources
sources_of name sources w known right = sources_are w (use_as IsNew name ∷ []) sources (found_none (is_unknown w [] (use_as IsNew name)) name (first_failing (is_unknown w) (use_as IsNew name ∷ []) (used_as IsSource sources)) known).1 (use_as IsNew name ∷ []) (found_none (is_wrong w [] (use_as IsNew name)) name (first_failing (is_wrong w) (use_as IsNew name ∷ []) (used_as IsSource sources)) right).1

one_small : 1 ≤ 8
one_small = omega arith

pub rows_apart : (c : Command) (s : State) → Laid [] s.world → first_failing (is_unknown s.world) [] (uses_of c) ≡ None → first_failing (is_wrong s.world) [] (uses_of c) ≡ None → GoApart s.world (rows c s.world)
rows_apart (Now name words) s st known right = new_apart s.world 1 one_small
rows_apart (Broken name exception) s st known right = new_apart s.world 1 one_small
rows_apart (Later name) s st known right = new_apart s.world 1 one_small
rows_apart (Last name) s st known right = new_apart s.world 1 one_small
rows_apart (Pair name cell) s st known right = new_apart s.world 1 one_small
rows_apart (Then name source v e) s st known right = let a = sources_of name (source ∷ []) s.world known right in one_apart s.world 1 source a.0 one_small st a.1
rows_apart (Chain name source v e) s st known right = let a = sources_of name (source ∷ []) s.world known right in one_apart s.world 2 source a.0 (omega arith) st a.1
rows_apart (Eager name source) s st known right = let a = sources_of name (source ∷ []) s.world known right in one_apart s.world 1 source a.0 one_small st a.1
rows_apart (Fork hub source) s st known right = new_apart s.world 1 one_small
rows_apart (Branch name hub) s st known right = new_apart s.world 1 one_small
rows_apart (Race name left right) s st known wrong = sources_apart s.world (left ∷ right ∷ []) st (sources_of name (left ∷ right ∷ []) s.world known wrong)
rows_apart (All name sources) s st known right = sources_apart s.world sources st (sources_of name sources s.world known right)
rows_apart (Fast name sources) s st known right = sources_apart s.world sources st (sources_of name sources s.world known right)
rows_apart (Fulfil cell words) s st known right = tt
rows_apart (Reject cell exception) s st known right = tt
rows_apart (DropCell cell) s st known right = tt
rows_apart (NewSet group error) s st known right = tt
rows_apart (Add group source) s st known right = let p = found_none _ _ _ right in let q = found_none _ _ _ p.1 in let t = promise_is (held_at source s.world.names) q.0 in one_apart s.world 1 source t.0 one_small st t.1
rows_apart (Clear group) s st known right = tt
rows_apart (OnEmpty name group) s st known right = new_apart s.world 1 one_small
rows_apart (NewCanceler canceler) s st known right = tt
rows_apart (Wrap name canceler source) s st known right = let p = found_none _ _ _ right in let t = promise_is (held_at source s.world.names) (found_none _ _ _ p.1).0 in one_apart s.world 1 source t.0 one_small st t.1
rows_apart (Cancel canceler) s st known right = tt
rows_apart (Detach source) s st known right = let t = promise_is (held_at source s.world.names) (found_none _ _ _ right).0 in one_apart s.world 1 source t.0 one_small st t.1
rows_apart (Drop name) s st known right = tt
rows_apart (Ask name cell target step words) s st known right = new_apart s.world 1 one_small
rows_apart (Begin request step words) s st known right = (omega arith, tt, (omega arith, tt, tt))
rows_apart (Stop request) s st known right = tt
rows_apart (Reply cell outcome) s st known right = tt

-- refusals
le_is : (a b : ℕ) → a ≤ b → nat_le a b ≡ true
le_is a b h = grind (arith, nat_tests)

fits_alike : (c : Command) (s : State) → Laid [] s.world → first_failing (is_unknown s.world) [] (uses_of c) ≡ None → first_failing (is_wrong s.world) [] (uses_of c) ≡ None → arenas_fit s.world.limits.slots s.world.spots (rows c s.world) ≡ counted_fit s.world.limits.slots s.world.spots (rows c s.world)
fits_alike c s st known right = decide (arenas_fit s.world.limits.slots s.world.spots (rows c s.world)) refl
  where
    decide : (b : Bool) → arenas_fit s.world.limits.slots s.world.spots (rows c s.world) ≡ b → b ≡ (b && table_fits s.world.limits.slots s.world.spots (rows c s.world))
    decide true e = sym (le_is (length s.world.spots + counts (rows c s.world)) s.world.limits.slots (enough_apart s.world.limits.slots s.world (rows c s.world) (record { once = st.apart; places = st.place; alone = st.alone }) (rows_apart c s st known right) e))
    decide false e = refl

module _ (answer : List Item → ℕ → Option Action) (c : Command) (s : State) (st : Laid [] s.world) where
  busy_alike : (b : Bool) → first_failing (is_unknown s.world) [] (uses_of c) ≡ None → first_failing (is_wrong s.world) [] (uses_of c) ≡ None → refused_busy b (over_store arenas_fit answer) c s ≡ refused_busy b (over_store counted_fit answer) c s
  busy_alike true known right = refl
  busy_alike false known right = ap (λ b. refused_full (not b || nat_lt s.world.limits.names (names_after c s.world) || (not (is_none (rows c s.world)) && nat_lt (2 ^ 63) s.world.next))) (fits_alike c s st known right)

  taken_alike : (o : Option ℕ) → first_failing (is_unknown s.world) [] (uses_of c) ≡ None → first_failing (is_wrong s.world) [] (uses_of c) ≡ None → refused_taken o (over_store arenas_fit answer) c s ≡ refused_taken o (over_store counted_fit answer) c s
  taken_alike (Some name) known right = refl
  taken_alike None known right = busy_alike (is_busy c s) known right

  wrong_alike : (o : Option ℕ) → first_failing (is_wrong s.world) [] (uses_of c) ≡ o → first_failing (is_unknown s.world) [] (uses_of c) ≡ None → refused_wrong o (over_store arenas_fit answer) c s ≡ refused_wrong o (over_store counted_fit answer) c s
  wrong_alike (Some name) e known = refl
  wrong_alike None e known = taken_alike (first_failing (is_taken s.world) [] (uses_of c)) known e

  unknown_alike : (o : Option ℕ) → first_failing (is_unknown s.world) [] (uses_of c) ≡ o → refused_unknown o (over_store arenas_fit answer) c s ≡ refused_unknown o (over_store counted_fit answer) c s
  unknown_alike (Some name) e = refl
  unknown_alike None e = wrong_alike (first_failing (is_wrong s.world) [] (uses_of c)) refl e

  inside_alike : (b : Bool) → refused_inside b (over_store arenas_fit answer) c s ≡ refused_inside b (over_store counted_fit answer) c s
  inside_alike true = refl
  inside_alike false = unknown_alike (first_failing (is_unknown s.world) [] (uses_of c)) refl

  stopped_alike : (b inside : Bool) → refused_stopped b (over_store arenas_fit answer) inside c s ≡ refused_stopped b (over_store counted_fit answer) inside c s
  stopped_alike true inside = refl
  stopped_alike false inside = inside_alike (inside && is_outside c)

pub apply_alike : (answer : List Item → ℕ → Option Action) (inside : Bool) (c : Command) (s : State) → Laid [] s.world → apply (over_store arenas_fit answer) inside c s ≡ apply (over_store counted_fit answer) inside c s
apply_alike answer inside c s st = ap (λ (o : Option Refused). applied o c s) (stopped_alike answer c s st s.world.stopped inside)
