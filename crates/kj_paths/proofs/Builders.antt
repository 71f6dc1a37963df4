-- Nodes over the trees of sources.
use Rattle.std.proofs.Common.{◌≡◌, ℕ, ◌+◌, ◌≤◌, List, [], ◌∷◌, ◌++◌, false, Option, None, Some, arith, refl, sym, ap, ◌∙◌, subst}
use Rattle.std.specs.Prelude.{nat_eq}
use Rattle.std.proofs.lemmas.Bool.{or_parts}
use Rattle.kj_model.specs.Nodes.{Form, Waits, Side, parts_of, is_in}
use Rattle.kj_model.specs.World.{World, Named, Promise, held_at}
use Rattle.kj_model.specs.Changes.{unnamed, without_name}
use Rattle.kj_model.specs.Places.{built}
use Rattle.kj_model.specs.Listening.{listened}
use Rattle.kj_model.specs.Effects.{node_of, node_named, leaf_built, over_built, over_named, sides_built, numbers_from, each_listened}
use Rattle.kj_model.specs.Framed.{times}
use Rattle.kj_model.proofs.Freed.{swapped}
use Rattle.kj_model.proofs.Members.{in_self}
use Rattle.kj_model.proofs.Counts.{times_app, held_without}
use Rattle.kj_ownership.proofs.Moves.{built_grows, root_out}
use Rattle.kj_ownership.proofs.Premises.{AreSources}
use Rattle.kj_paths.proofs.Laid.{Laid, laid_fewer}
use Rattle.kj_paths.proofs.Built.{built_laid}
use Rattle.kj_paths.proofs.Moves.{named_laid, unnamed_laid, listened_laid}

-- what a built node leaves
pub built_next : (before : Option ℕ) (form : Form) (w : World) → (built before form w).next ≡ w.next + 1
built_next before form w = ap (λ (v : World). v.next) (built_grows before form w).3

pub built_names : (before : Option ℕ) (form : Form) (w : World) → (built before form w).names ≡ w.names
built_names before form w = ap (λ (v : World). v.names) (built_grows before form w).3

-- a node without parts, or over loose ones, under a new name
pub leaf_laid : (name : ℕ) (form : Form) (loose : List ℕ) (w : World) → root_out w.next (Some form) ≡ w.next ∷ [] → Laid (parts_of form ++ loose) w → Laid loose (leaf_built name form w)
leaf_laid name form loose w out g = named_laid name (Promise w.next) loose (built None form w) (subst (λ (ns : List ℕ). Laid (ns ++ loose) (built None form w)) out (built_laid None form loose w tt g))

-- a node over one loose node
pub over_one : (t : ℕ) (form : Form) (loose : List ℕ) (w : World) → parts_of form ≡ t ∷ [] → root_out w.next (Some form) ≡ w.next ∷ [] → Laid (t ∷ loose) w → Laid (w.next ∷ loose) (built (Some t) form w)
over_one t form loose w parts out g = subst (λ (ns : List ℕ). Laid (ns ++ loose) (built (Some t) form w)) out (built_laid (Some t) form loose w (ap (is_in t) parts ∙ in_self t []) (subst (λ (ps : List ℕ). Laid (ps ++ loose) w) (sym parts) g))

-- a node over the tree of a source
pub over_laid : (source t : ℕ) (form : ℕ → Form) (loose : List ℕ) (w : World) → held_at source w.names ≡ Some (Promise t) → parts_of (form t) ≡ t ∷ [] → root_out w.next (Some (form t)) ≡ w.next ∷ [] → Laid loose w → Laid (w.next ∷ loose) (over_built form source w)
over_laid source t form loose w at parts out g = subst (λ (k : ℕ). Laid (w.next ∷ loose) (built (Some k) (form k) (unnamed source w))) (sym (ap node_of at)) (over_one t (form t) loose (unnamed source w) parts out (unnamed_laid source (Promise t) loose w at g))

pub over_named_laid : (name source t : ℕ) (form : ℕ → Form) (loose : List ℕ) (w : World) → held_at source w.names ≡ Some (Promise t) → parts_of (form t) ≡ t ∷ [] → root_out w.next (Some (form t)) ≡ w.next ∷ [] → Laid loose w → Laid loose (over_named name form source w)
over_named_laid name source t form loose w at parts out g = named_laid name (Promise w.next) loose (over_built form source w) (over_laid source t form loose w at parts out g)

pub each_listened_laid : (ns loose : List ℕ) (w : World) → Laid loose w → Laid loose (each_listened ns w)
each_listened_laid [] loose w g = g
each_listened_laid (n ∷ ns) loose w g = each_listened_laid ns loose (listened n w) (listened_laid n loose w g)

-- Sides over sources
sources_less : (c : ℕ) (names : List Named) (sources : List ℕ) → is_in c sources ≡ false → AreSources names sources → AreSources (without_name c names) sources
sources_less c names [] i a = tt
sources_less c names (s ∷ more) i a = let p = or_parts (nat_eq s c) (is_in c more) i in (a.0, held_without s c names (swapped s c p.0) ∙ a.1, a.2, sources_less c names more p.1 a.3)

over_names : (source : ℕ) (form : ℕ → Form) (w : World) → (over_built form source w).names ≡ without_name source w.names
over_names source form w = built_names (Some (node_named source w)) (form (node_named source w)) (unnamed source w)

over_next : (source : ℕ) (form : ℕ → Form) (w : World) → (over_built form source w).next ≡ w.next + 1
over_next source form w = built_next (Some (node_named source w)) (form (node_named source w)) (unnamed source w)

shuffled : (n : ℕ) (ms loose : List ℕ) (m : ℕ) → times m ((n ∷ ms) ++ loose) ≤ times m (ms ++ (n ∷ loose))
shuffled n ms loose m =
    let a = times_app m (n ∷ ms) loose in
    let b = times_app m ms (n ∷ loose) in
    omega (arith, a, b)

pub sides_laid : (sources loose : List ℕ) (w : World) → AreSources w.names sources → Laid loose w → Laid (numbers_from w.next sources ++ loose) (sides_built sources w)
sides_laid [] loose w a g = g
sides_laid (source ∷ more) loose w a g =
    let v = over_built (λ t. Side (Waits t)) source w in
    let h = over_laid source a.0 (λ t. Side (Waits t)) loose w a.1 refl refl g in
    let b : AreSources v.names more = subst (λ (ns : List Named). AreSources ns more) (sym (over_names source (λ t. Side (Waits t)) w)) (sources_less source w.names more a.2 a.3) in
    let r = sides_laid more (w.next ∷ loose) v b h in
    let e : numbers_from v.next more ≡ numbers_from (w.next + 1) more = ap (λ k. numbers_from k more) (over_next source (λ t. Side (Waits t)) w) in
    laid_fewer (numbers_from v.next more ++ (w.next ∷ loose)) ((w.next ∷ numbers_from (w.next + 1) more) ++ loose) (sides_built more v)
    (λ m. subst (λ (ns : List ℕ). times m ((w.next ∷ numbers_from (w.next + 1) more) ++ loose) ≤ times m (ns ++ (w.next ∷ loose))) (sym e) (shuffled w.next (numbers_from (w.next + 1) more) loose m)) r

-- Race, All, Fast
pub join_laid : (name : ℕ) (form : List ℕ → Form) (sources : List ℕ) (w : World) → ((sides : List ℕ) → parts_of (form sides) ≡ sides) → ((n : ℕ) (sides : List ℕ) → root_out n (Some (form sides)) ≡ n ∷ []) → AreSources w.names sources → Laid [] w → Laid [] (leaf_built name (form (numbers_from w.next sources)) (sides_built sources w))
join_laid name form sources w parts out a g = leaf_laid name (form (numbers_from w.next sources)) [] (sides_built sources w) (out (sides_built sources w).next (numbers_from w.next sources)) (subst (λ (ps : List ℕ). Laid (ps ++ []) (sides_built sources w)) (sym (parts (numbers_from w.next sources))) (sides_laid sources [] w a g))

-- a node over the newest, whose number is known
pub over_newest : (k : ℕ) (t : ℕ) (form : Form) (w : World) → w.next ≡ k → parts_of form ≡ t ∷ [] → ((n : ℕ) → root_out n (Some form) ≡ n ∷ []) → Laid (t ∷ []) w → Laid (k ∷ []) (built (Some t) form w)
over_newest k t form w e parts out g = subst (λ (n : ℕ). Laid (n ∷ []) (built (Some t) form w)) e (over_one t form [] w parts (out w.next) g)
