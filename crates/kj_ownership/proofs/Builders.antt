-- The commands that build nodes over sources.
use Rattle.std.proofs.Common.{◌≡◌, inl, inr, ℕ, ◌+◌, ◌<◌, ◌≤◌, suc, List, [], ◌∷◌, ◌++◌, length, Bool, true, false, cond, Option, None, Some, arith, refl, sym, ap, ◌∙◌, subst, ◌==◌}
use Rattle.std.specs.Prelude.{nat_eq}
use Rattle.std.proofs.lemmas.Bool.{or_parts}
use Rattle.std.proofs.lemmas.Bool.Decides.{nat_tests}
use Rattle.kj_base.specs.declared.numbers.Limits.{Limits}
use Rattle.kj_model.specs.Nodes.{Entry, Form, Waits, Side, form_at, parts_of, is_in}
use Rattle.kj_model.specs.World.{World, State, Named, Held, Promise, held_at}
use Rattle.kj_model.specs.Changes.{silent, named, unnamed, without_name}
use Rattle.kj_model.specs.Places.{built}
use Rattle.kj_model.specs.Effects.{node_of, node_named, leaf_built, over_built, over_named, sides_built, numbers_from}
use Rattle.kj_model.specs.Framed.{times, name_numbers}
use Rattle.kj_ownership.specs.Standing.{IsRecorded, Standing}
use Rattle.kj_ownership.specs.Shapes.{Kind, OfTree, OfSide, suits, part_kind, held_kind, roots_found, is_tree, Shaped}
use Rattle.kj_model.proofs.Spared.{same_number}
use Rattle.kj_model.proofs.Freed.{swapped}
use Rattle.kj_model.proofs.Members.{in_either, in_one, in_self, in_none}
use Rattle.kj_model.proofs.Once.{false_by}
use Rattle.kj_model.proofs.Counts.{times_app, new_names, without_times, held_there}
use Rattle.kj_ownership.proofs.Moves.{built_grows, app_other, app_new, not_live}
use Rattle.kj_ownership.proofs.Commands.{IsPlain}
use Rattle.kj_ownership.proofs.Shapes.{has_winner, no_winner, held_named, held_unnamed}
use Rattle.kj_ownership.proofs.Reached.{Reached, reached_none, reached_unnamed, reached_named, reached_plain, reached_permuted}
use Rattle.kj_ownership.proofs.Premises.{AreSources}

-- a world after a node was built
pub record Built (form : Form) (w v : World) : Type 0 where
  pub next : v.next ≡ w.next + 1
  pub limits : v.limits ≡ w.limits
  pub size : length v.nodes ≡ suc (length w.nodes)
  pub names : v.names ≡ w.names
  pub at : form_at w.next v.nodes ≡ Some form
  pub others : (m : ℕ) → nat_eq w.next m ≡ false → form_at m v.nodes ≡ form_at m w.nodes

length_last : (es : List Entry) (e : Entry) → length (es ++ e ∷ []) ≡ suc (length es)
length_last [] e = refl
length_last (x ∷ es) e = let h = length_last es e in omega (arith, h)

pub built_is : (before : Option ℕ) (form : Form) (s : State) → IsRecorded s → Built form s.world (built before form s.world)
built_is before form s rec =
    let g = built_grows before form s.world in
    let e : Entry = record { number = s.world.next; form = form } in record {
      next = ap (λ (w : World). w.next) g.3;
      limits = ap (λ (w : World). w.limits) g.3;
      size = ap (λ (w : World). length w.nodes) g.3 ∙ length_last s.world.nodes e;
      names = ap (λ (w : World). w.names) g.3;
      at = ap (λ (w : World). form_at s.world.next w.nodes) g.3 ∙ app_new e s.world.nodes (not_live s rec);
      others = λ m d. ap (λ (w : World). form_at m w.nodes) g.3 ∙ app_other m e s.world.nodes d;
    }

-- a name that stays absent
pub absent_named : (c d : ℕ) (h : Held) (w : World) → nat_eq d c ≡ false → times c (name_numbers w.names) ≡ 0 → times c (name_numbers (named d h w).names) ≡ 0
absent_named c d h w n z = new_names c (record { name = d; held = h }) (without_name d w.names) ∙ (λ i. cond (n i) 1 0 + without_times c d w.names i) ∙ (λ i. 0 + cond (n i) 0 (times c (name_numbers w.names))) ∙ omega (arith, z)

pub absent_unnamed : (c d : ℕ) (w : World) → times c (name_numbers w.names) ≡ 0 → times c (name_numbers (unnamed d w).names) ≡ 0
absent_unnamed c d w z = without_times c d w.names ∙ by_case (d == c)
  where
    by_case : (b : Bool) → cond b 0 (times c (name_numbers w.names)) ≡ 0
    by_case true = refl
    by_case false = z

-- a name that is there isn't one that is absent
pub absent_other : (c d : ℕ) (h : Held) (names : List Named) → times c (name_numbers names) ≡ 0 → held_at d names ≡ Some h → nat_eq c d ≡ false
absent_other c d h names z at = false_by (nat_eq c d) (λ e. clash (times d (name_numbers names)) (held_there d names h at) (subst (λ (y : ℕ). times y (name_numbers names) ≡ 0) (sym (same_number c d e)) z))
  where
    clash : (t : ℕ) → 1 ≤ t → t ≡ 0 → ⊥
    clash t a b = omega (arith, a, b)

-- names that hold different things differ
pub held_apart : (c d : ℕ) (g h : Held) (names : List Named) → (◌≡◌ {A = Option Held} (Some g) (Some h) → ⊥) → held_at c names ≡ Some g → held_at d names ≡ Some h → nat_eq c d ≡ false
held_apart c d g h names never at_c at_d = false_by (nat_eq c d) (λ e. never (sym at_c ∙ subst (λ (y : ℕ). held_at y names ≡ Some h) (same_number c d e) at_d))

-- what another name holds stays
pub held_kept : (c d : ℕ) (h : Held) (w : World) → nat_eq d c ≡ false → held_at c (named d h w).names ≡ held_at c w.names
held_kept c d h w n = held_named c d h w ∙ ap (λ b. cond b (Some h) (held_at c w.names)) n

pub held_left : (c d : ℕ) (w : World) → nat_eq d c ≡ false → held_at c (unnamed d w).names ≡ held_at c w.names
held_left c d w n = held_unnamed c d w.names ∙ ap (λ b. cond b None (held_at c w.names)) n

pub node_is : (source t : ℕ) (w : World) → held_at source w.names ≡ Some (Promise t) → node_named source w ≡ t
node_is source t w at = ap node_of at

-- one root alone
pub one_suits : (n : ℕ) (k : Kind) (o : ℕ → Option Form) → suits k (o n) ≡ true → (p : ℕ) → is_in p (n ∷ []) ≡ true → suits k (o p) ≡ true
one_suits n k o h p i = subst (λ (y : ℕ). suits k (o y) ≡ true) (in_one p n i) h

-- a form of a promise
pub record IsPromised (form : Form) : Type 0 where
  pub plain : IsPlain form
  pub tree : is_tree form ≡ true
  pub winner : has_winner (Some form) ≡ false

-- a new name for a node that was built
pub promised : (name : ℕ) (form : Form) (before : Option ℕ) (s t : State) → IsPromised form → times name (name_numbers t.world.names) ≡ 0 → length t.world.nodes < t.world.limits.slots → ((p : ℕ) → is_in p (parts_of form) ≡ true → suits (part_kind (Some form)) (form_at p t.world.nodes) ≡ true) → Reached (parts_of form ++ []) [] [] s t → Reached [] [] [] s (silent (λ w. named name (Promise w.next) (built before form w)) t)
promised name form before s t is fresh room fit r =
    let b = built_is before form t r.standing.recorded in
    let a = reached_plain before form [] [] s t is.plain room fit (λ l k x e. no_winner (Some form) l k x is.winner e) r in
    reached_named name (Promise t.world.next) [] [] [] s (silent (built before form) t) (ap (λ (ns : List Named). times name (name_numbers ns)) b.names ∙ fresh)
    (one_suits t.world.next OfTree (λ p. form_at p (built before form t.world).nodes) (ap (suits OfTree) b.at ∙ is.tree)) a

-- a leaf under a new name
pub leaf_reached : (name : ℕ) (form : Form) (s : State) → IsPromised form → parts_of form ≡ [] → times name (name_numbers s.world.names) ≡ 0 → length s.world.nodes < s.world.limits.slots → Standing [] [] [] s → Shaped s.world → Reached [] [] [] s (silent (leaf_built name form) s)
leaf_reached name form s is none fresh room st sh = promised name form None s s is fresh room (λ p i. absurd (in_none p (sym (ap (is_in p) none) ∙ i))) (subst (λ (ps : List ℕ). Reached (ps ++ []) [] [] s s) (sym none) (reached_none s st sh))

-- what a source holds is a tree
pub source_suits : (source t : ℕ) (w : World) → held_at source w.names ≡ Some (Promise t) → Shaped w → suits OfTree (form_at t w.nodes) ≡ true
source_suits source t w at sh = subst (λ (o : Option Held). suits (held_kind source o) (form_at t w.nodes) ≡ true) at (sh.names source t (subst (λ (o : Option Held). is_in t (roots_found o) ≡ true) (sym at) (in_self t [])))

-- a node over the tree of a source
pub over_reached : (source t : ℕ) (form : ℕ → Form) (loose : List ℕ) (s u : State) → held_at source u.world.names ≡ Some (Promise t) → length u.world.nodes < u.world.limits.slots → IsPlain (form t) → parts_of (form t) ≡ t ∷ [] → has_winner (Some (form t)) ≡ false → suits (part_kind (Some (form t))) (form_at t u.world.nodes) ≡ true → Reached loose [] [] s u → Reached (u.world.next ∷ loose) [] [] s (silent (over_built form source) u)
over_reached source t form loose s u at room plain parts winner fit r =
    let u1 = silent (unnamed source) u in
    let a = reached_unnamed source (Promise t) loose [] [] s u at r in
    let b = reached_plain (Some t) (form t) loose [] s u1 plain room (λ p i. one_suits t (part_kind (Some (form t))) (λ q. form_at q u.world.nodes) fit p (sym (ap (is_in p) parts) ∙ i)) (λ l k x e. no_winner (Some (form t)) l k x winner e) (subst (λ (ps : List ℕ). Reached (ps ++ loose) [] [] s u1) (sym parts) a) in
    subst (λ (x : ℕ). Reached (u.world.next ∷ loose) [] [] s (record { world = built (Some x) (form x) (unnamed source u.world); past = u.past })) (sym (node_is source t u.world at)) b

-- the world after it
pub over_is : (source t : ℕ) (form : ℕ → Form) (u : State) → held_at source u.world.names ≡ Some (Promise t) → IsRecorded u → Built (form t) (unnamed source u.world) (over_built form source u.world)
over_is source t form u at rec = subst (λ (x : ℕ). Built (form t) (unnamed source u.world) (built (Some x) (form x) (unnamed source u.world))) (sym (node_is source t u.world at)) (built_is (Some t) (form t) (silent (unnamed source) u) rec)

-- a promise over the tree of a source
pub over_promised : (name source t : ℕ) (form : ℕ → Form) (s : State) → held_at source s.world.names ≡ Some (Promise t) → times name (name_numbers s.world.names) ≡ 0 → length s.world.nodes < s.world.limits.slots → IsPromised (form t) → parts_of (form t) ≡ t ∷ [] → part_kind (Some (form t)) ≡ OfTree → Standing [] [] [] s → Shaped s.world → Reached [] [] [] s (silent (over_named name form source) s)
over_promised name source t form s at fresh room is parts kind st sh =
    let a = over_reached source t form [] s s at room is.plain parts is.winner (subst (λ (k : Kind). suits k (form_at t s.world.nodes) ≡ true) (sym kind) (source_suits source t s.world at sh)) (reached_none s st sh) in
    let b = over_is source t form s at st.recorded in
    reached_named name (Promise s.world.next) [] [] [] s (silent (over_built form source) s) (ap (λ (ns : List Named). times name (name_numbers ns)) b.names ∙ absent_unnamed name source s.world fresh)
    (one_suits s.world.next OfTree (λ p. form_at p (over_built form source s.world).nodes) (ap (suits OfTree) b.at ∙ is.tree)) a

-- Sides over sources
side_plain : (t : ℕ) → IsPlain (Side (Waits t))
side_plain t = record { root = λ n. refl; name = λ n. refl; branch = λ n. refl; fresh = refl; refs = λ n. refl }

-- Sides that stand nowhere yet
pub record SidesBuilt (made loose sources : List ℕ) (s u v : State) : Type 0 where
  pub reached : Reached (made ++ loose) [] [] s v
  pub sides : (p : ℕ) → is_in p made ≡ true → suits OfSide (form_at p v.world.nodes) ≡ true
  pub others : (m : ℕ) → m < u.world.next → form_at m v.world.nodes ≡ form_at m u.world.nodes
  pub limits : v.world.limits ≡ u.world.limits
  pub size : length v.world.nodes ≡ length u.world.nodes + length sources
  pub absent : (c : ℕ) → times c (name_numbers u.world.names) ≡ 0 → times c (name_numbers v.world.names) ≡ 0

sources_left : (source : ℕ) (more : List ℕ) (w v : World) → v.names ≡ (unnamed source w).names → is_in source more ≡ false → AreSources w.names more → AreSources v.names more
sources_left source [] w v e f a = tt
sources_left source (m ∷ more) w v e f a =
    let p = or_parts (m == source) (is_in source more) f in
    (a.0, ap (held_at m) e ∙ held_left m source w (swapped m source p.0) ∙ a.1, a.2, sources_left source more w v e p.1 a.3)

sides_step : (source : ℕ) (more loose : List ℕ) (s u : State) → AreSources u.world.names (source ∷ more) → length u.world.nodes + length (source ∷ more) ≤ u.world.limits.slots → Reached loose [] [] s u
    → (AreSources (over_built (λ t. Side (Waits t)) source u.world).names more → length (over_built (λ t. Side (Waits t)) source u.world).nodes + length more ≤ (over_built (λ t. Side (Waits t)) source u.world).limits.slots → Reached (u.world.next ∷ loose) [] [] s (silent (over_built (λ t. Side (Waits t)) source) u)
    → SidesBuilt (numbers_from (over_built (λ t. Side (Waits t)) source u.world).next more) (u.world.next ∷ loose) more s (silent (over_built (λ t. Side (Waits t)) source) u) (silent (sides_built more) (silent (over_built (λ t. Side (Waits t)) source) u)))
    → SidesBuilt (numbers_from u.world.next (source ∷ more)) loose (source ∷ more) s u (silent (sides_built (source ∷ more)) u)
sides_step source more loose s u a room r ih =
    record {
      reached = reached_permuted (numbers_from u1.world.next more ++ (n ∷ loose)) (numbers_from n (source ∷ more) ++ loose) [] s v
          (λ m. let x = times_app m (numbers_from (n + 1) more) loose in let y = times_app m (numbers_from u1.world.next more) (n ∷ loose) in let z : times m (numbers_from u1.world.next more) ≡ times m (numbers_from (n + 1) more) = ap (λ k. times m (numbers_from k more)) b.next in omega (arith, x, y, z))
          rest.reached;
      sides = λ p i. elim (in_either p (n ∷ []) (numbers_from (n + 1) more) i) [
        | inl x ↦ subst (λ (y : ℕ). suits OfSide (form_at y v.world.nodes) ≡ true) (in_one p n x) (ap (suits OfSide) (rest.others n (subst (λ (k : ℕ). n < k) (sym b.next) (omega arith)) ∙ b.at))
        | inr y ↦ rest.sides p (subst (λ (k : ℕ). is_in p (numbers_from k more) ≡ true) (sym b.next) y)
      ];
      others = λ m l. rest.others m (subst (λ (k : ℕ). m < k) (sym b.next) (omega (arith, l))) ∙ b.others m (differs m n l);
      limits = rest.limits ∙ b.limits;
      size = (let x = rest.size in let y = b.size in omega (arith, x, y));
      absent = λ c z. rest.absent c (ap (λ (ns : List Named). times c (name_numbers ns)) b.names ∙ absent_unnamed c source u.world z);
    }
  where
    n : ℕ
    n = u.world.next

    u1 : State
    u1 = silent (over_built (λ t. Side (Waits t)) source) u

    v : State
    v = silent (sides_built more) u1

    b : Built (Side (Waits a.0)) (unnamed source u.world) u1.world
    b = over_is source a.0 (λ t. Side (Waits t)) u a.1 r.standing.recorded

    less_room : length u.world.nodes < u.world.limits.slots
    less_room = omega (arith, room)

    r1 : Reached (u.world.next ∷ loose) [] [] s (silent (over_built (λ t. Side (Waits t)) source) u)
    r1 = over_reached source a.0 (λ t. Side (Waits t)) loose s u a.1 less_room (side_plain a.0) refl refl (source_suits source a.0 u.world a.1 r.shaped) r

    more_room : length u1.world.nodes + length more ≤ u1.world.limits.slots
    more_room = let x = b.size in let y = ap (λ (l : Limits). l.slots) b.limits in omega (arith, room, x, y)

    rest : SidesBuilt (numbers_from u1.world.next more) (u.world.next ∷ loose) more s u1 v
    rest = ih (sources_left source more u.world u1.world b.names a.2 a.3) more_room r1

    differs : (m k : ℕ) → m < k → nat_eq k m ≡ false
    differs m k l = grind (arith, nat_tests)

pub sides_reached : (sources loose : List ℕ) (s u : State) → AreSources u.world.names sources → length u.world.nodes + length sources ≤ u.world.limits.slots → Reached loose [] [] s u → SidesBuilt (numbers_from u.world.next sources) loose sources s u (silent (sides_built sources) u)
sides_reached [] loose s u a room r = record { reached = r; sides = λ p i. absurd (in_none p i); others = λ m l. refl; limits = refl; size = omega arith; absent = λ c z. z }
sides_reached (source ∷ more) loose s u a room r = sides_step source more loose s u a room r (λ a2 room2 r2. sides_reached more (u.world.next ∷ loose) s (silent (over_built (λ t. Side (Waits t)) source) u) a2 room2 r2)
