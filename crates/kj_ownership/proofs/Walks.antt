-- While a step runs under a node: what each part of a command keeps, the nodes that are being evaluated too.
use Rattle.std.proofs.Common.{◌≡◌, inl, inr, ℕ, List, [], ◌∷◌, ◌++◌, true, false, Option, None, Some, arith, refl, sym, ap, ◌∙◌, subst}
use Rattle.std.specs.Prelude.{option_to_list}
use Rattle.kj_model.specs.Nodes.{form_at, is_in}
use Rattle.kj_model.specs.World.{World, State, Held, Group, held_at, depth_of}
use Rattle.kj_model.specs.Changes.{silent, named}
use Rattle.kj_model.specs.Outcomes.{void}
use Rattle.kj_base.specs.Queue.{DepthFirst}
use Rattle.kj_model.specs.Free.{Guard, Holding, free, each_freed, usual, free_to}
use Rattle.kj_model.specs.Effects.{emptied, now_empty}
use Rattle.kj_model.specs.Falling.{falling}
use Rattle.kj_model.specs.Framed.{times}
use Rattle.kj_ownership.specs.Owners.{is_live, owns}
use Rattle.kj_ownership.specs.Standing.{Climbs, Placed, Standing}
use Rattle.kj_ownership.specs.Stems.{stem, Frames, is_steady}
use Rattle.kj_ownership.specs.Shapes.{Shaped}
use Rattle.kj_model.proofs.Members.{in_either, in_left, in_right, in_one, in_self, in_none}
use Rattle.kj_model.proofs.Once.{both_ways, false_by}
use Rattle.kj_model.proofs.Falling.{node_frees}
use Rattle.kj_ownership.proofs.Flat.{node_goes}
use Rattle.kj_ownership.proofs.Stays.{one_place, places_one, live_after, owner_live, owns_before, live_before, climbs_stay}
use Rattle.kj_ownership.proofs.Kept.{standing_frees}
use Rattle.kj_ownership.proofs.Climb.{path_stays}
use Rattle.kj_ownership.proofs.Commands.{tended_open, loose_comes, fuel_for, head_count, free_loose}
use Rattle.kj_ownership.proofs.Frames.{framed_tended, within_more, owner_on, frames_same, stem_stays}
use Rattle.kj_ownership.proofs.Shapes.{shaped_freed}
use Rattle.kj_ownership.proofs.Evaluates.{Evals, OwnerStays, SameTurn, turn_both, owner_both, steady_same}
use Rattle.kj_ownership.proofs.Reached.{Reached, reached_renamed, reached_settled, framed_live, framed_cell, stays_refl, stays_owner}

-- a command with none behind it
pub reached_here : (loose out lone : List ℕ) (s : State) → Standing loose out lone s → Shaped s.world → Reached loose out lone s s
reached_here loose out lone s st sh = record { standing = st; shaped = sh; stays = stays_refl s.world }

-- what a part of a command keeps
pub record Went (loose out : List ℕ) (s t : State) : Type 0 where
  pub standing : Standing loose out [] t
  pub shaped : Shaped t.world
  pub same : SameTurn s.world t.world

pub went_reached : (loose out : List ℕ) (s t : State) → Reached loose out [] s t → Went loose out s t
went_reached loose out s t r = record { standing = r.standing; shaped = r.shaped; same = r.stays.same }

pub went_both : (l1 o1 l2 o2 : List ℕ) (s t u : State) → Went l1 o1 s t → Went l2 o2 t u → Went l2 o2 s u
went_both l1 o1 l2 o2 s t u a b = record { standing = b.standing; shaped = b.shaped; same = turn_both s.world t.world u.world a.same b.same }

-- what a free keeps
pub shaped_free_to : (guard : Guard) (k n : ℕ) (s : State) → Shaped s.world → Shaped (free_to guard k n s).world
shaped_free_to guard k n s sh =
    let ns = falling guard s.world k [] [] n in
    let f = node_frees guard k n s in
    shaped_freed ns s (free_to guard k n s) f (λ q p o. owns_before ns s (free_to guard k n s) q p f o) sh

pub turn_free_to : (guard : Guard) (k n : ℕ) (s : State) → SameTurn s.world (free_to guard k n s).world
turn_free_to guard k n s = let same = (node_frees guard k n s).frame.same in record { firing = same.firing; awaited = same.awaited; left_over = same.left_over }

pub went_free : (guard : Guard) (r : ℕ) (loose out : List ℕ) (s t : State) → Went (r ∷ loose) out s t → Went loose out s (free guard r t)
went_free guard r loose out s t w = record {
  standing = free_loose guard r loose out t w.standing;
  shaped = shaped_free_to guard (depth_of t.world) r t w.shaped;
  same = turn_both s.world t.world (free guard r t).world w.same (turn_free_to guard (depth_of t.world) r t);
}

pub went_each : (guard : Guard) (ns loose out : List ℕ) (s t : State) → Went (ns ++ loose) out s t → Went loose out s (each_freed (free guard) ns t)
went_each guard [] loose out s t w = w
went_each guard (n ∷ ns) loose out s t w = went_each guard ns loose out s (free guard n t) (went_free guard n (ns ++ loose) out s t w)

-- a set may be empty now
emptied_reached : (o : Option Held) (group : ℕ) (loose : List ℕ) (s t : State) → held_at group t.world.names ≡ o → Reached loose [] [] s t → Reached loose [] [] s (silent (emptied group o) t)
emptied_reached (Some (Group error [] (Some cell))) group loose s t at r = reached_settled DepthFirst cell void loose [] [] s (silent (named group (Group error [] None)) t) (reached_renamed group (Group error [] (Some cell)) (Group error [] None) loose loose [] s t at refl (λ m. refl) (λ p i. absurd (in_none p i)) r)
emptied_reached (Some (Group error [] None)) group loose s t at r = r
emptied_reached (Some (Group error (task ∷ tasks) empty)) group loose s t at r = r
emptied_reached None group loose s t at r = r
emptied_reached (Some _) group loose s t at r = r

pub empty_now_reached : (group : ℕ) (loose : List ℕ) (s t : State) → Reached loose [] [] s t → Reached loose [] [] s (silent (now_empty group) t)
empty_now_reached group loose s t r = emptied_reached (held_at group t.world.names) group loose s t refl r

-- the same, while nodes are being evaluated
pub record Walks (loose out : List ℕ) (s t : State) (n : ℕ) (fs : List ℕ) : Type 0 where
  pub went : Went loose out s t
  pub frames : Frames t.world n fs
  pub owner : OwnerStays s.world t.world
  pub forms : (m : ℕ) → is_in m (n ∷ fs) ≡ true → stem (form_at m t.world.nodes) ≡ stem (form_at m s.world.nodes)

pub walks_both : (l1 o1 l2 o2 : List ℕ) (s t u : State) (n : ℕ) (fs : List ℕ) → Walks l1 o1 s t n fs → Walks l2 o2 t u n fs → Walks l2 o2 s u n fs
walks_both l1 o1 l2 o2 s t u n fs a b = record { went = went_both l1 o1 l2 o2 s t u a.went b.went; frames = b.frames; owner = owner_both s.world t.world u.world a.went.same a.owner b.owner; forms = λ m i. b.forms m i ∙ a.forms m i }

pub walks_reached : (loose out : List ℕ) (s t : State) (n : ℕ) (fs : List ℕ) → Frames s.world n fs → is_steady (form_at n s.world.nodes) ≡ true → Reached loose out [] s t → Walks loose out s t n fs
walks_reached loose out s t n fs f y r =
    let forms = λ (m : ℕ) (i : is_in m (n ∷ fs) ≡ true). r.stays.forms m (framed_live s.world n m fs f i) (framed_cell s.world n m fs f y i) in
    record { went = went_reached loose out s t r; frames = frames_same s.world t.world n fs r.stays.same.firing r.stays.same.awaited forms f; owner = stays_owner s.world t.world r.stays; forms = forms }

pub walks_evals : (s t : State) (n : ℕ) (fs : List ℕ) → Walks [] [] s t n fs → Evals s t (n ∷ fs)
walks_evals s t n fs w = record { owned = w.went.standing; shaped = w.went.shaped; same = w.went.same; rest = w.frames; owner = w.owner; forms = w.forms }

pub walks_steady : (loose out : List ℕ) (s t : State) (n : ℕ) (fs : List ℕ) → Walks loose out s t n fs → is_steady (form_at n s.world.nodes) ≡ true → is_steady (form_at n t.world.nodes) ≡ true
walks_steady loose out s t n fs w y = steady_same (form_at n s.world.nodes) (form_at n t.world.nodes) (w.forms n (in_self n fs)) y

-- a climb is determined by where it begins
pub climb_one : (loose : List ℕ) (w : World) (x m : ℕ) (ys zs : List ℕ) → Placed loose w → is_live x w.nodes ≡ true → Climbs w.nodes x ys → Climbs w.nodes x zs → is_in m (x ∷ ys) ≡ true → is_in m (x ∷ zs) ≡ true
climb_one loose w x m [] zs pl live c d i = in_left m (x ∷ []) zs i
climb_one loose w x m (y ∷ ys) [] pl live c d i = absurd (both_ways (owns y x w.nodes) c.0 (d y))
climb_one loose w x m (y ∷ ys) (z ∷ zs) pl live c d i =
    let same = one_place loose w x y z pl live c.0 d.0 in
    elim (in_either m (x ∷ []) (y ∷ ys) i) [
      | inl a ↦ in_left m (x ∷ []) (z ∷ zs) a
      | inr b ↦ in_right m (x ∷ []) (z ∷ zs) (subst (λ (q : ℕ). is_in m (q ∷ zs) ≡ true) same (climb_one loose w y m ys zs pl (owner_live y x w.nodes c.0) c.1 (subst (λ (q : ℕ). Climbs w.nodes q zs) (sym same) d.1) b))
    ]

-- the root of a climb is the root of the climb of each node on it
pub root_above : (w : World) (x r f : ℕ) (ys : List ℕ) → Climbs w.nodes x ys → ((q : ℕ) → owns q r w.nodes ≡ false) → is_in r (x ∷ ys) ≡ true → is_in f (x ∷ ys) ≡ true → (zs : List ℕ) × Climbs w.nodes f zs × (is_in r (f ∷ zs) ≡ true)
root_above w x r f [] c top i j = let a = in_one f x j in ([], subst (λ (y : ℕ). Climbs w.nodes y []) a c, subst (λ (y : ℕ). is_in r (y ∷ []) ≡ true) a i)
root_above w x r f (y ∷ ys) c top i j = elim (in_either f (x ∷ []) (y ∷ ys) j) [
  | inl a ↦ (let e = in_one f x a in (y ∷ ys, subst (λ (z : ℕ). Climbs w.nodes z (y ∷ ys)) e c, subst (λ (z : ℕ). is_in r (z ∷ y ∷ ys) ≡ true) e i))
  | inr b ↦ elim (in_either r (x ∷ []) (y ∷ ys) i) [
    | inl d ↦ absurd (both_ways (owns y x w.nodes) c.0 (subst (λ (z : ℕ). owns y z w.nodes ≡ false) (sym (in_one r x d)) (top y)))
    | inr e ↦ root_above w y r f ys c.1 top e b
  ]
]

-- roots that stand on no climb from where the step runs
abbrev pub AreOff : List ℕ → ℕ → State → Type 0
AreOff ns n s = (r : ℕ) → is_in r ns ≡ true → is_live r s.world.nodes ≡ true → (ys : List ℕ) → Climbs s.world.nodes n ys → is_in r (n ∷ ys) ≡ false

-- a root that stands nowhere, off the climb, is freed
pub walks_free : (r : ℕ) (loose : List ℕ) (s : State) (n : ℕ) (fs : List ℕ) → Standing (r ∷ loose) [] [] s → Shaped s.world → Frames s.world n fs → AreOff (r ∷ []) n s → Walks loose [] s (free (usual s.world) r s) n fs × ((m : ℕ) → AreOff (m ∷ []) n s → AreOff (m ∷ []) n (free (usual s.world) r s))
walks_free r loose s n fs st sh f off =
    let both = framed_tended [] [] (r ∷ loose) s n fs st f in
    let tended = both.0 in
    let gs = option_to_list s.world.firing in
    let opens = tended_open (r ∷ loose) [] [] gs s n st tended in
    let comes = λ (live : is_live r s.world.nodes ≡ true). loose_comes (Holding gs) (r ∷ loose) [] [] (n ∷ tended.above) s r st (in_self r loose) (off r (in_self r []) live tended.above tended.climbs) live in
    let d = depth_of s.world in
    let fuel = fuel_for s st.room in
    let t = free (Holding gs) r s in
    let ns = falling (Holding gs) s.world d [] [] r in
    let fr = node_frees (Holding gs) d r s in
    let away = λ (m : ℕ) (i : is_in m (n ∷ tended.above) ≡ true). path_stays (Holding gs) d r (r ∷ loose) [] (n ∷ tended.above) s st opens comes fuel m i in
    let stems = λ (m : ℕ) (i : is_in m (n ∷ tended.above) ≡ true). ap stem (fr.forms m) ∙ stem_stays (is_in m ns) (λ b. is_in b ns) m s.world.nodes (form_at m s.world.nodes) (away m i) in
    let forms : (m : ℕ) → is_in m (n ∷ fs) ≡ true → stem (form_at m t.world.nodes) ≡ stem (form_at m s.world.nodes) = λ m i. stems m (within_more n m fs tended.above both.1 i) in
    let st2 = standing_frees (Holding gs) d r (r ∷ loose) loose [] (n ∷ tended.above) s st opens comes fuel (λ m e. head_count m r (times m loose) e) (λ m. omega arith) in
    let goes = node_goes (Holding gs) s.world d (places_one (r ∷ loose) [] s.world st.placed st.hubs) [] [] (n ∷ tended.above) r opens comes (omega (arith, fuel)) in
    let climbs2 : Climbs t.world.nodes n tended.above = climbs_stay ns (r ∷ []) (n ∷ tended.above) s t n tended.above fr goes (away n (in_self n tended.above)) tended.live tended.climbs in
    let live2 : is_live n t.world.nodes ≡ true = live_after ns s t n fr (away n (in_self n tended.above)) tended.live in (
      record {
        went = record { standing = st2; shaped = shaped_free_to (Holding gs) d r s sh; same = turn_free_to (Holding gs) d r s };
        frames = frames_same s.world t.world n fs fr.frame.same.firing fr.frame.same.awaited forms f;
        owner = λ b q fires own. stems q (owner_on (Holding gs) s.world n fs tended.above b q f both.1 opens fires own);
        forms = forms;
      },
      λ x x_off m i live ys c. false_by (is_in m (n ∷ ys)) (λ j. both_ways (is_in m (n ∷ tended.above)) (climb_one loose t.world n m ys tended.above st2.placed live2 c climbs2 j) (x_off m i (live_before ns s t m fr live).1 tended.above tended.climbs)),
    )
