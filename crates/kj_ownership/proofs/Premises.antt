-- What a command that isn't refused may rest on.
use Rattle.std.proofs.Common.{◌≡◌, ℕ, ◌+◌, ◌≤◌, List, [], ◌∷◌, ◌++◌, length, Bool, true, false, not, Option, None, Some, arith, refl, sym, ap, ◌&&◌, ◌||◌, ◌==◌}
use Rattle.std.specs.Prelude.{nat_eq, map}
use Rattle.std.proofs.lemmas.Bool.{false≢true, or_parts}
use Rattle.std.proofs.lemmas.Bool.Decides.{nat_tests}
use Rattle.kj_base.specs.Commands.{Command}
use Rattle.kj_base.specs.Places.{Spot, counts}
use Rattle.kj_model.specs.Nodes.{Entry, is_in}
use Rattle.kj_model.specs.World.{World, State, Setting, Named, Held, Promise, CellOf, AskCell, HubOf, Group, Canceler, RequestOf, held_at}
use Rattle.kj_model.specs.Uses.{Role, IsSource, IsCell, IsAsk, IsHub, IsGroup, IsCanceler, IsRequest, Use, use_as, used_as, uses_of, is_outside, found_if, first_failing, is_source, used_before, is_name, is_unknown, has_role, is_wrong, is_taken}
use Rattle.kj_model.specs.Apply.{Refused, rows, is_busy, is_full, refusal, refused_stopped, refused_inside, refused_unknown, refused_wrong, refused_taken, refused_busy, refused_full}
use Rattle.kj_model.specs.Owned.{numbers}
use Rattle.kj_model.specs.Framed.{times, name_numbers}
use Rattle.kj_ownership.specs.Fits.{Fits}
use Rattle.kj_model.proofs.Freed.{or_false, swapped}

-- a command that isn't refused
pub record Allowed (setting : Setting) (inside : Bool) (c : Command) (s : State) : Type 0 where
  pub runs : s.world.stopped ≡ false
  pub outside : (inside && is_outside c) ≡ false
  pub known : first_failing (is_unknown s.world) [] (uses_of c) ≡ None
  pub right : first_failing (is_wrong s.world) [] (uses_of c) ≡ None
  pub untaken : first_failing (is_taken s.world) [] (uses_of c) ≡ None
  pub calm : is_busy c s ≡ false
  pub roomy : is_full setting c s.world ≡ false

no_refusal : (r : Refused) → ◌≡◌ {A = Option Refused} (Some r) None → ⊥
no_refusal r e = cc

stopped_none : (b : Bool) (setting : Setting) (inside : Bool) (c : Command) (s : State) → refused_stopped b setting inside c s ≡ None → (b ≡ false) × (refused_inside (inside && is_outside c) setting c s ≡ None)
stopped_none true setting inside c s e = absurd (no_refusal _ e)
stopped_none false setting inside c s e = (refl, e)

inside_none : (b : Bool) (setting : Setting) (c : Command) (s : State) → refused_inside b setting c s ≡ None → (b ≡ false) × (refused_unknown (first_failing (is_unknown s.world) [] (uses_of c)) setting c s ≡ None)
inside_none true setting c s e = absurd (no_refusal _ e)
inside_none false setting c s e = (refl, e)

unknown_none : (o : Option ℕ) (setting : Setting) (c : Command) (s : State) → refused_unknown o setting c s ≡ None → (o ≡ None) × (refused_wrong (first_failing (is_wrong s.world) [] (uses_of c)) setting c s ≡ None)
unknown_none (Some name) setting c s e = absurd (no_refusal _ e)
unknown_none None setting c s e = (refl, e)

wrong_none : (o : Option ℕ) (setting : Setting) (c : Command) (s : State) → refused_wrong o setting c s ≡ None → (o ≡ None) × (refused_taken (first_failing (is_taken s.world) [] (uses_of c)) setting c s ≡ None)
wrong_none (Some name) setting c s e = absurd (no_refusal _ e)
wrong_none None setting c s e = (refl, e)

taken_none : (o : Option ℕ) (setting : Setting) (c : Command) (s : State) → refused_taken o setting c s ≡ None → (o ≡ None) × (refused_busy (is_busy c s) setting c s ≡ None)
taken_none (Some name) setting c s e = absurd (no_refusal _ e)
taken_none None setting c s e = (refl, e)

busy_none : (b : Bool) (setting : Setting) (c : Command) (s : State) → refused_busy b setting c s ≡ None → (b ≡ false) × (refused_full (is_full setting c s.world) ≡ None)
busy_none true setting c s e = absurd (no_refusal _ e)
busy_none false setting c s e = (refl, e)

full_none : (b : Bool) → refused_full b ≡ None → b ≡ false
full_none true e = absurd (no_refusal _ e)
full_none false e = refl

pub allowed : (setting : Setting) (inside : Bool) (c : Command) (s : State) → refusal setting inside c s ≡ None → Allowed setting inside c s
allowed setting inside c s e =
    let a = stopped_none s.world.stopped setting inside c s e in
    let b = inside_none (inside && is_outside c) setting c s a.1 in
    let d = unknown_none (first_failing (is_unknown s.world) [] (uses_of c)) setting c s b.1 in
    let f = wrong_none (first_failing (is_wrong s.world) [] (uses_of c)) setting c s d.1 in
    let g = taken_none (first_failing (is_taken s.world) [] (uses_of c)) setting c s f.1 in
    let h = busy_none (is_busy c s) setting c s g.1 in
    record { runs = a.0; outside = b.0; known = d.0; right = f.0; untaken = g.0; calm = h.0; roomy = full_none (is_full setting c s.world) h.1 }

-- no name fails
pub found_none : (b : Bool) (name : ℕ) (rest : Option ℕ) → found_if b name rest ≡ None → (b ≡ false) × (rest ≡ None)
found_none true name rest e = absurd (no_number name e)
  where
    no_number : (x : ℕ) → ◌≡◌ {A = Option ℕ} (Some x) None → ⊥
    no_number x e = cc
found_none false name rest e = (refl, e)

-- room for the nodes of a command
length_map : {A : Type 0} (f : A → ℕ) (xs : List A) → length (map f xs) ≡ length xs
length_map f [] = refl
length_map f (x ∷ xs) = let h = length_map f xs in omega (arith, h)

not_false : (b : Bool) → not b ≡ false → b ≡ true
not_false true e = refl
not_false false e = absurd (false≢true (sym e))

pub room_for : (setting : Setting) (c : Command) (w : World) → Fits setting → is_full setting c w ≡ false → map (λ (x : Spot). x.number) w.spots ≡ numbers w.nodes → length w.nodes + counts (rows c w) ≤ w.limits.slots
room_for setting c w fits f spots =
    let a = not_false (setting.fits w.limits.slots w.spots (rows c w)) (or_parts (not (setting.fits w.limits.slots w.spots (rows c w))) _ (or_parts _ _ f).0).0 in
    let b = fits w.limits.slots w.spots (rows c w) a in
    let d = length_map (λ (x : Spot). x.number) w.spots in
    let e = length_map (λ (x : Entry). x.number) w.nodes in
    let g : length (map (λ (x : Spot). x.number) w.spots) ≡ length (numbers w.nodes) = ap length spots in
    omega (arith, b, d, e, g)

-- a name that isn't there
name_absent_more : (name : ℕ) (x : Named) (xs : List Named) → is_name name (x ∷ xs) ≡ false → (is_name name xs ≡ false → times name (name_numbers xs) ≡ 0) → times name (name_numbers (x ∷ xs)) ≡ 0
name_absent_more name x xs f h = grind (arith, nat_tests)

pub name_absent : (name : ℕ) (names : List Named) → is_name name names ≡ false → times name (name_numbers names) ≡ 0
name_absent name [] f = refl
name_absent name (x ∷ xs) f = name_absent_more name x xs f (name_absent name xs)

pub new_absent : (name : ℕ) (b : Bool) (names : List Named) → (is_name name names || b) ≡ false → times name (name_numbers names) ≡ 0
new_absent name b names f = name_absent name names (or_parts (is_name name names) b f).0

-- what a name of each role holds
pub promise_is : (o : Option Held) → not (has_role IsSource o) ≡ false → (t : ℕ) × (o ≡ Some (Promise t))
promise_is (Some (Promise t)) e = (t, refl)
promise_is None e = absurd (false≢true (sym e))
promise_is (Some _) e = absurd (false≢true (sym e))

pub cell_is : (o : Option Held) → not (has_role IsCell o) ≡ false → (n : ℕ) × (o ≡ Some (CellOf n))
cell_is (Some (CellOf n)) e = (n, refl)
cell_is None e = absurd (false≢true (sym e))
cell_is (Some _) e = absurd (false≢true (sym e))

pub ask_is : (o : Option Held) → not (has_role IsAsk o) ≡ false → (n : ℕ) × (b : Bool) × (o ≡ Some (AskCell n b))
ask_is (Some (AskCell n b)) e = (n, b, refl)
ask_is None e = absurd (false≢true (sym e))
ask_is (Some _) e = absurd (false≢true (sym e))

pub hub_is : (o : Option Held) → not (has_role IsHub o) ≡ false → (n : ℕ) × (o ≡ Some (HubOf n))
hub_is (Some (HubOf n)) e = (n, refl)
hub_is None e = absurd (false≢true (sym e))
hub_is (Some _) e = absurd (false≢true (sym e))

pub group_is : (o : Option Held) → not (has_role IsGroup o) ≡ false → (error : Option ℕ) × (tasks : List ℕ) × (empty : Option ℕ) × (o ≡ Some (Group error tasks empty))
group_is (Some (Group error tasks empty)) e = (error, tasks, empty, refl)
group_is None e = absurd (false≢true (sym e))
group_is (Some _) e = absurd (false≢true (sym e))

pub canceler_is : (o : Option Held) → not (has_role IsCanceler o) ≡ false → (wraps : List ℕ) × (o ≡ Some (Canceler wraps))
canceler_is (Some (Canceler wraps)) e = (wraps, refl)
canceler_is None e = absurd (false≢true (sym e))
canceler_is (Some _) e = absurd (false≢true (sym e))

pub request_is : (o : Option Held) → not (has_role IsRequest o) ≡ false → (n : ℕ) × (o ≡ Some (RequestOf (Some n)))
request_is (Some (RequestOf (Some n))) e = (n, refl)
request_is (Some (RequestOf None)) e = absurd (false≢true (sym e))
request_is None e = absurd (false≢true (sym e))
request_is (Some _) e = absurd (false≢true (sym e))

-- sources: promises, each named once
abbrev pub AreSources : List Named → List ℕ → Type 0
AreSources names [] = Unit {0}
AreSources names (source ∷ more) = (t : ℕ) × (held_at source names ≡ Some (Promise t)) × (is_in source more ≡ false) × AreSources names more

used_more : (test : Role → Bool) (m : ℕ) (before : List Use) (u : Use) → used_before test m (before ++ u ∷ []) ≡ false → (used_before test m before ≡ false) × ((test u.role && (u.name == m)) ≡ false)
used_more test m [] u f = (refl, (or_parts (test u.role && (u.name == m)) false f).0)
used_more test m (x ∷ before) u f =
    let p = or_parts (test x.role && (x.name == m)) (used_before test m (before ++ u ∷ [])) f in
    let q = used_more test m before u p.1 in
    (or_false (test x.role && (x.name == m)) (used_before test m before) p.0 q.0, q.1)

or_first : (a b : Bool) → (a || b) ≡ false → b ≡ false
or_first a b f = (or_parts a b f).1

apart_later : (w : World) (source : ℕ) (before : List Use) (more : List ℕ) → ((m : ℕ) → used_before is_source m before ≡ false → nat_eq source m ≡ false) → first_failing (is_unknown w) before (used_as IsSource more) ≡ None → is_in source more ≡ false
apart_later w source before [] h e = refl
apart_later w source before (m ∷ more) h e =
    let p = found_none (is_unknown w before (use_as IsSource m)) m (first_failing (is_unknown w) (before ++ use_as IsSource m ∷ []) (used_as IsSource more)) e in
    let d : nat_eq source m ≡ false = h m (or_first (not (is_name m w.names)) (used_before is_source m before) p.0) in
    or_false (m == source) (is_in source more) (swapped source m d) (apart_later w source (before ++ use_as IsSource m ∷ []) more (λ k f. h k (used_more is_source k before (use_as IsSource m) f).0) p.1)

pub sources_are : (w : World) (before : List Use) (sources : List ℕ) → first_failing (is_unknown w) before (used_as IsSource sources) ≡ None → (before2 : List Use) → first_failing (is_wrong w) before2 (used_as IsSource sources) ≡ None → AreSources w.names sources
sources_are w before [] e before2 f = tt
sources_are w before (source ∷ more) e before2 f =
    let p = found_none (is_unknown w before (use_as IsSource source)) source (first_failing (is_unknown w) (before ++ use_as IsSource source ∷ []) (used_as IsSource more)) e in
    let q = found_none (is_wrong w before2 (use_as IsSource source)) source (first_failing (is_wrong w) (before2 ++ use_as IsSource source ∷ []) (used_as IsSource more)) f in
    let t = promise_is (held_at source w.names) q.0 in
    (t.0, t.1, apart_later w source (before ++ use_as IsSource source ∷ []) more (λ m g. (used_more is_source m before (use_as IsSource source) g).1) p.1, sources_are w (before ++ use_as IsSource source ∷ []) more p.1 (before2 ++ use_as IsSource source ∷ []) q.1)
