-- What a host may rest on: no command is refused as full, and Busy read off what would go.
use Rattle.std.proofs.Common.{◌≡◌, ℕ, ◌+◌, ◌*◌, ◌≤◌, List, [], ◌∷◌, ◌++◌, length, drop, Bool, true, false, not, Option, Some, arith, refl, sym, ap, ◌∙◌, ◌||◌, ◌&&◌}
use Rattle.std.specs.Prelude.{nat_lt, nat_le, map, flat_map, ◌^◌}
use Rattle.std.specs.List.{list_any}
use Rattle.std.proofs.lemmas.Bool.Decides.{nat_tests}
use Rattle.std.proofs.Math.Seq.{drop-length}
use Rattle.kj_base.specs.Commands.{Command, Drop, Stop}
use Rattle.kj_base.specs.Record.{Item}
use Rattle.kj_base.specs.Places.{Spot, counts}
use Rattle.kj_model.specs.Nodes.{Form, Hub, is_in, form_at}
use Rattle.std.specs.Prelude.{None}
use Rattle.kj_model.specs.World.{World, State, Setting, Held, Promise, HubOf, RequestOf, held_at, depth_of}
use Rattle.kj_model.specs.Changes.{silent, named, unnamed}
use Rattle.kj_model.specs.Places.{table_fits}
use Rattle.kj_model.specs.Free.{Holding, free, free_unreferenced}
use Rattle.kj_model.specs.Effects.{dropped_held, hub_unnamed, node_of}
use Rattle.kj_model.specs.Apply.{is_free_of, would_free, rows, names_after, is_none, is_full, apply}
use Rattle.kj_model.specs.Calls.{hubs_of}
use Rattle.kj_model.specs.Falling.{falling, hub_falling}
use Rattle.kj_model.specs.Owned.{tree_roots, numbers}
use Rattle.kj_model.specs.Trees.{tree_numbers}
use Rattle.kj_ownership.specs.Standing.{Owned}
use Rattle.kj_ownership.specs.Stems.{stem, Frames, is_steady}
use Rattle.kj_ownership.specs.Shapes.{Shaped}
use Rattle.kj_ownership.specs.Fits.{Fits}
use Rattle.kj_ownership.specs.Going.{hub_goes}
use Rattle.kj_model.proofs.Falling.{node_frees}
use Rattle.kj_ownership.proofs.Busy.{told_more}
use Rattle.kj_ownership.proofs.Sizes.{live_are_few, trees_bound}
use Rattle.kj_ownership.proofs.Applied.{commands_keep}

-- the plain table takes no more nodes than it has slots
le_of : (a b : ℕ) → nat_le a b ≡ true → a ≤ b
le_of a b e = grind (arith, nat_tests)

pub table_takes : (setting : Setting) → setting.fits ≡ table_fits → Fits setting
table_takes setting is slots spots rows e = le_of (length spots + counts rows) slots (ap (λ f. f slots spots rows) (sym is) ∙ e)

-- no command is refused as full
of_le : (a b : ℕ) → a ≤ b → nat_le a b ≡ true
of_le a b h = grind (arith, nat_tests)

not_less : (a b : ℕ) → b ≤ a → nat_lt a b ≡ false
not_less a b h = grind (arith, nat_tests)

length_map : {A : Type 0} (f : A → ℕ) (xs : List A) → length (map f xs) ≡ length xs
length_map f [] = refl
length_map f (x ∷ xs) = let h = length_map f xs in omega (arith, h)

none_full : (a b c : Bool) → a ≡ true → b ≡ false → c ≡ false → (not a || b || c) ≡ false
none_full a b c x y z = (λ i. not (x i) || y i || z i)

and_false : (a b : Bool) → b ≡ false → (a && b) ≡ false
and_false true b e = e
and_false false b e = refl

fits_in : (spots nodes live trees roots k rows slots : ℕ) → spots ≡ live → live ≤ trees → trees ≤ roots * k → roots * k + rows ≤ slots → spots + rows ≤ slots
fits_in spots nodes live trees roots k rows slots a b c d = le_trans spots live trees (roots * k) rows slots a b c d
  where
    le_trans : (s l t m r w : ℕ) → s ≡ l → l ≤ t → t ≤ m → m + r ≤ w → s + r ≤ w
    le_trans s l t m r w a b c d = omega (arith, a, b, c, d)

pub never_full : (setting : Setting) (c : Command) (s : State) (k : ℕ) → setting.fits ≡ table_fits → Owned s → ((r : ℕ) → is_in r (tree_roots s.world ++ hubs_of s.world.nodes) ≡ true → length (tree_numbers (depth_of s.world) s.world.nodes r) ≤ k)
    → length (tree_roots s.world ++ hubs_of s.world.nodes) * k + counts (rows c s.world) ≤ s.world.limits.slots → names_after c s.world ≤ s.world.limits.names → s.world.next ≤ 2 ^ 63 → is_full setting c s.world ≡ false
never_full setting c s k is o trees room names numbers_left =
    let w = s.world in
    let roots = tree_roots w ++ hubs_of w.nodes in
    let few = live_are_few s o in
    let bound = trees_bound (tree_numbers (depth_of w) w.nodes) k roots trees in
    let a : length w.spots ≡ length (numbers w.nodes) = sym (length_map (λ (x : Spot). x.number) w.spots) ∙ ap length o.spots in
    let fits : setting.fits w.limits.slots w.spots (rows c w) ≡ true = ap (λ f. f w.limits.slots w.spots (rows c w)) is ∙ of_le (length w.spots + counts (rows c w)) w.limits.slots (fits_in (length w.spots) 0 (length (numbers w.nodes)) (length (flat_map (tree_numbers (depth_of w) w.nodes) roots)) (length roots) k (counts (rows c w)) w.limits.slots a few bound room) in
    none_full (setting.fits w.limits.slots w.spots (rows c w)) (nat_lt w.limits.names (names_after c w)) (not (is_none (rows c w)) && nat_lt (2 ^ 63) w.next) fits (not_less w.limits.names (names_after c w) names) (and_false (not (is_none (rows c w))) (nat_lt (2 ^ 63) w.next) (not_less (2 ^ 63) w.next numbers_left))

-- Busy read off what would go
pub drop_would_free : (f name r : ℕ) (s : State) → held_at name s.world.names ≡ Some (Promise r) → would_free f (Drop name) s ≡ is_in f (falling (Holding []) (unnamed name s.world) (depth_of s.world) [] [] r)
drop_would_free f name r s at =
    let s1 = silent (unnamed name) s in
    let ns = falling (Holding []) s1.world (depth_of s.world) [] [] r in
    ap (λ (o : Option Held). list_any (is_free_of f) (drop (length s.past) (dropped_held (Holding []) name o s).past)) at
    ∙ ap (λ (xs : List Item). list_any (is_free_of f) (drop (length s.past) xs)) (node_frees (Holding []) (depth_of s.world) r s1).told
    ∙ told_more f s.past ns

hub_case : (f hub : ℕ) (o : Option Form) (s : State)
    → list_any (is_free_of f) (drop (length s.past) (free_unreferenced (Holding []) (free (Holding [])) hub o s).past) ≡ is_in f (hub_falling (Holding []) s.world (λ n. falling (Holding []) s.world (depth_of s.world) [] [] n) [] hub o)
hub_case f hub (Some (Hub content false [])) s =
    ap (λ (xs : List Item). list_any (is_free_of f) (drop (length s.past) xs)) (node_frees (Holding []) (depth_of s.world) hub s).told
    ∙ told_more f s.past (falling (Holding []) s.world (depth_of s.world) [] [] hub)
hub_case f hub (Some (Hub content false (b ∷ branches))) s = ap (list_any (is_free_of f)) (drop-length s.past)
hub_case f hub (Some (Hub content true branches)) s = ap (list_any (is_free_of f)) (drop-length s.past)
hub_case f hub None s = ap (list_any (is_free_of f)) (drop-length s.past)
hub_case f hub (Some _) s = ap (list_any (is_free_of f)) (drop-length s.past)

pub drop_hub_would_free : (f name hub : ℕ) (s : State) → held_at name s.world.names ≡ Some (HubOf hub) → would_free f (Drop name) s ≡ is_in f (hub_goes hub (hub_unnamed hub (unnamed name s.world)))
drop_hub_would_free f name hub s at =
    let s1 = silent (λ (w : World). hub_unnamed hub (unnamed name w)) s in
    ap (λ (o : Option Held). list_any (is_free_of f) (drop (length s.past) (dropped_held (Holding []) name o s).past)) at
    ∙ hub_case f hub (form_at hub s1.world.nodes) s1

pub stop_would_free : (f request n : ℕ) (s : State) → held_at request s.world.names ≡ Some (RequestOf (Some n)) → would_free f (Stop request) s ≡ is_in f (falling (Holding []) (named request (RequestOf None) s.world) (depth_of s.world) [] [] n)
stop_would_free f request n s at =
    let s1 = silent (named request (RequestOf None)) s in
    let ns = falling (Holding []) s1.world (depth_of s.world) [] [] n in
    ap (λ (x : ℕ). list_any (is_free_of f) (drop (length s.past) (free (Holding []) x s1).past)) (ap node_of at)
    ∙ ap (λ (xs : List Item). list_any (is_free_of f) (drop (length s.past) xs)) (node_frees (Holding []) (depth_of s.world) n s1).told
    ∙ told_more f s.past ns

-- while a step runs, a command leaves the nodes that are being evaluated
pub spares : (setting : Setting) (c : Command) (s : State) (n : ℕ) (fs : List ℕ) → Fits setting → Owned s → Shaped s.world → Frames s.world n fs → is_steady (form_at n s.world.nodes) ≡ true → (m : ℕ) → is_in m (n ∷ fs) ≡ true → stem (form_at m (apply setting true c s).0.world.nodes) ≡ stem (form_at m s.world.nodes)
spares setting c s n fs fits o sh f y = (commands_keep setting fits c s n fs o sh f y).forms
