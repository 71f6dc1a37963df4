-- The commands that free nodes, but for Cancel.
use Rattle.std.proofs.Common.{◌≡◌, inl, inr, ℕ, List, [], ◌∷◌, ◌++◌, Bool, true, false, cond, Option, None, Some, arith, refl, sym, ap, ◌∙◌, subst}
use Rattle.std.specs.Prelude.{nat_eq, option_to_list, reverse}
use Rattle.std.proofs.lemmas.Bool.Decides.{nat_tests}
use Rattle.kj_base.specs.declared.outcomes.Outcome.{Outcome}
use Rattle.kj_base.specs.Queue.{Way, DepthFirst}
use Rattle.kj_model.specs.Listening.{settled_form}
use Rattle.std.proofs.lemmas.Bool.{false≢true}
use Rattle.kj_model.specs.Outcomes.{cancelled, void}
use Rattle.kj_model.specs.Nodes.{Form, Cell, Content, Hub, form_at, is_in}
use Rattle.kj_model.specs.World.{World, State, Held, Promise, HubOf, Group, Canceler, RequestOf, held_at, depth_of}
use Rattle.kj_model.specs.Changes.{silent, put, named, unnamed}
use Rattle.kj_model.specs.Free.{Guard, Holding, free, each_freed, usual, free_unless, free_unreferenced, reference_gone, is_guarded}
use Rattle.kj_model.specs.Effects.{node_of, now_empty, emptied, cleared, cleared_in, hub_unnamed, hub_unnamed_in, stopped_request, with_ended}
use Rattle.kj_model.specs.Falling.{falling}
use Rattle.kj_model.specs.Framed.{stripped}
use Rattle.kj_ownership.specs.Owners.{is_live, is_hub_form}
use Rattle.kj_ownership.specs.Standing.{Standing, Owned}
use Rattle.kj_ownership.specs.Stems.{stem, Frames, is_steady}
use Rattle.kj_ownership.specs.Shapes.{Shaped}
use Rattle.kj_model.proofs.Members.{in_none}
use Rattle.kj_model.proofs.Counts.{times_app}
use Rattle.kj_model.proofs.Falling.{node_frees}
use Rattle.kj_ownership.proofs.Flat.{Comes}
use Rattle.kj_ownership.proofs.Kept.{standing_frees}
use Rattle.kj_ownership.proofs.Climb.{path_stays}
use Rattle.kj_ownership.proofs.Closing.{times_reverse}
use Rattle.kj_ownership.proofs.Commands.{tended_open, fuel_for}
use Rattle.kj_ownership.proofs.Frames.{framed_tended, within_more, owner_on, frames_same, stem_stays}
use Rattle.kj_ownership.proofs.Hubs.{hub_unnamed_standing, reference_standing, hub_comes}
use Rattle.kj_ownership.proofs.Shapes.{held_named, shaped_put}
use Rattle.kj_ownership.proofs.Evaluates.{SameTurn, turn_both}
use Rattle.kj_ownership.proofs.Reached.{Stays, announced_only, Reached, reached_none, reached_unnamed, reached_renamed, reached_lists, stays_both}
use Rattle.kj_ownership.proofs.Made.{hub_suits, stays_hub}
use Rattle.kj_ownership.proofs.Walks.{Went, went_reached, went_both, went_free, went_each, shaped_free_to, turn_free_to, empty_now_reached, reached_here, Walks, walks_both, walks_reached, walks_steady}
use Rattle.kj_ownership.proofs.Calm.{Tells, roots_off, walks_each, hub_off}

-- the tasks of a set stand nowhere
clear_start : (group : ℕ) (error : Option ℕ) (tasks : List ℕ) (empty : Option ℕ) (s : State) → held_at group s.world.names ≡ Some (Group error tasks empty) → Owned s → Shaped s.world → Reached (reverse tasks ++ []) [] [] s (silent (named group (Group error [] empty)) s)
clear_start group error tasks empty s at st sh = reached_renamed group (Group error tasks empty) (Group error [] empty) [] (reverse tasks ++ []) [] s s at refl (λ m. (let a = times_app m (reverse tasks) [] in let b = times_app m tasks [] in let c = times_reverse m tasks in omega (arith, a, b, c))) (λ p i. absurd (in_none p i)) (reached_none s st sh)

went_empty : (group : ℕ) (s t : State) → Went [] [] s t → Went [] [] s (silent (now_empty group) t)
went_empty group s t w = went_both [] [] [] [] s t (silent (now_empty group) t) w (went_reached [] [] t (silent (now_empty group) t) (empty_now_reached group [] t t (reached_here [] [] [] t w.standing w.shaped)))

went_none : (s : State) → Owned s → Shaped s.world → Went [] [] s s
went_none s st sh = went_reached [] [] s s (reached_none s st sh)

cleared_in_went : (o : Option Held) (guard : Guard) (group : ℕ) (s : State) → held_at group s.world.names ≡ o → Owned s → Shaped s.world → Went [] [] s (cleared_in guard group o s)
cleared_in_went (Some (Group error (task ∷ tasks) empty)) guard group s at st sh =
    let s1 = silent (named group (Group error [] empty)) s in
    went_empty group s (each_freed (free guard) (reverse (task ∷ tasks)) s1) (went_each guard (reverse (task ∷ tasks)) [] [] s s1 (went_reached (reverse (task ∷ tasks) ++ []) [] s s1 (clear_start group error (task ∷ tasks) empty s at st sh)))
cleared_in_went (Some (Group error [] empty)) guard group s at st sh = went_none s st sh
cleared_in_went None guard group s at st sh = went_none s st sh
cleared_in_went (Some _) guard group s at st sh = went_none s st sh

pub cleared_went : (guard : Guard) (group : ℕ) (s : State) → Owned s → Shaped s.world → Went [] [] s (cleared guard group s)
cleared_went guard group s st sh = cleared_in_went (held_at group s.world.names) guard group s refl st sh

-- while nodes are being evaluated
walks_none : (s : State) (n : ℕ) (fs : List ℕ) → Owned s → Shaped s.world → Frames s.world n fs → Walks [] [] s s n fs
walks_none s n fs st sh f = record { went = went_none s st sh; frames = f; owner = λ b q g e. refl; forms = λ m i. refl }

cleared_in_walks : (o : Option Held) (group : ℕ) (s : State) (n : ℕ) (fs : List ℕ) → held_at group s.world.names ≡ o → Owned s → Shaped s.world → Frames s.world n fs → is_steady (form_at n s.world.nodes) ≡ true → ((f : ℕ) → s.world.firing ≡ Some f → Tells f s (cleared_in (Holding []) group o s) → ⊥) → Walks [] [] s (cleared_in (usual s.world) group o s) n fs
cleared_in_walks (Some (Group error (task ∷ tasks) empty)) group s n fs at st sh f y calm =
    let ns = reverse (task ∷ tasks) in
    let s1 = silent (named group (Group error [] empty)) s in
    let r1 = clear_start group error (task ∷ tasks) empty s at st sh in
    let a = walks_reached (ns ++ []) [] s s1 n fs f y r1 in
    let off = roots_off ns [] s1 n fs r1.standing a.frames (λ g fires t. calm g fires (record { more = t.more; told = t.told; has = t.has })) in
    let s2 = each_freed (free (usual s.world)) ns s1 in
    let b = walks_each ns [] s1 n fs s.world.firing refl r1.standing r1.shaped a.frames off in
    let c = walks_both (ns ++ []) [] [] [] s s1 s2 n fs a b in
    let d = walks_reached [] [] s2 (silent (now_empty group) s2) n fs c.frames (walks_steady [] [] s s2 n fs c y) (empty_now_reached group [] s2 s2 (reached_here [] [] [] s2 c.went.standing c.went.shaped)) in
    walks_both [] [] [] [] s s2 (silent (now_empty group) s2) n fs c d
cleared_in_walks (Some (Group error [] empty)) group s n fs at st sh f y calm = walks_none s n fs st sh f
cleared_in_walks None group s n fs at st sh f y calm = walks_none s n fs st sh f
cleared_in_walks (Some _) group s n fs at st sh f y calm = walks_none s n fs st sh f

pub cleared_walks : (group : ℕ) (s : State) (n : ℕ) (fs : List ℕ) → Owned s → Shaped s.world → Frames s.world n fs → is_steady (form_at n s.world.nodes) ≡ true → ((f : ℕ) → s.world.firing ≡ Some f → Tells f s (cleared (Holding []) group s) → ⊥) → Walks [] [] s (cleared (usual s.world) group s) n fs
cleared_walks group s n fs st sh f y calm = cleared_in_walks (held_at group s.world.names) group s n fs refl st sh f y calm

-- a set that was cleared has no task
each_at : (guard : Guard) (ns : List ℕ) (c : ℕ) (s : State) → stripped (held_at c (each_freed (free guard) ns s).world.names) ≡ stripped (held_at c s.world.names)
each_at guard [] c s = refl
each_at guard (n ∷ ns) c s = each_at guard ns c (free guard n s) ∙ (node_frees guard (depth_of s.world) n s).frame.at c

abbrev is_set : Option Held → Bool
is_set (Some (Group error tasks empty)) = true
is_set other = false

unstrip_set : (o : Option Held) (error : Option ℕ) (tasks : List ℕ) (empty : Option ℕ) → stripped o ≡ Some (Group error tasks empty) → o ≡ Some (Group error tasks empty)
unstrip_set None error tasks empty e = e
unstrip_set (Some (Canceler wraps)) error tasks empty e = absurd (false≢true (ap is_set e))
unstrip_set (Some _) error tasks empty e = e

-- no task is left
pub record HasNone (group : ℕ) (s : State) : Type 0 where
  pub error : Option ℕ
  pub empty : Option ℕ
  pub at : held_at group s.world.names ≡ Some (Group error [] empty)

settled_names : (o : Option Form) (way : Way) (n : ℕ) (outcome : Outcome) (w : World) → (settled_form way n outcome o w).names ≡ w.names
settled_names (Some (Cell None)) way n outcome w = ap (λ (v : World). v.names) (announced_only way n (put n (Cell (Some outcome)) w)).same
settled_names (Some (Cell (Some done))) way n outcome w = refl
settled_names None way n outcome w = refl
settled_names (Some _) way n outcome w = refl

named_here : (group : ℕ) (h : Held) (w : World) → held_at group (named group h w).names ≡ Some h
named_here group h w = held_named group group h w ∙ ap (λ b. cond b (Some h) (held_at group w.names)) (self group)
  where
    self : (d : ℕ) → nat_eq d d ≡ true
    self d = grind (arith, nat_tests)

emptied_held : (group : ℕ) (error : Option ℕ) (empty : Option ℕ) (s : State) → held_at group s.world.names ≡ Some (Group error [] empty) → HasNone group (silent (emptied group (Some (Group error [] empty))) s)
emptied_held group error None s at = record { error = error; empty = None; at = at }
emptied_held group error (Some cell) s at = record { error = error; empty = None; at = ap (held_at group) (settled_names (form_at cell (named group (Group error [] None) s.world).nodes) DepthFirst cell void (named group (Group error [] None) s.world)) ∙ named_here group (Group error [] None) s.world }

cleared_held : (guard : Guard) (group : ℕ) (error : Option ℕ) (tasks : List ℕ) (empty : Option ℕ) (s : State) → held_at group s.world.names ≡ Some (Group error tasks empty) → HasNone group (cleared_in guard group (Some (Group error tasks empty)) s)
cleared_held guard group error [] empty s at = record { error = error; empty = empty; at = at }
cleared_held guard group error (task ∷ tasks) empty s at =
    let s1 = silent (named group (Group error [] empty)) s in
    let s2 = each_freed (free guard) (reverse (task ∷ tasks)) s1 in
    let at2 = unstrip_set (held_at group s2.world.names) error [] empty (each_at guard (reverse (task ∷ tasks)) group s1 ∙ ap stripped (named_here group (Group error [] empty) s.world)) in
    subst (λ (o : Option Held). HasNone group (silent (emptied group o) s2)) (sym at2) (emptied_held group error empty s2 at2)

-- the name of a set goes after its tasks
set_unnamed : (name : ℕ) (s t : State) → HasNone name t → Went [] [] s t → Went [] [] s (silent (unnamed name) t)
set_unnamed name s t h w = went_both [] [] [] [] s t (silent (unnamed name) t) w (went_reached [] [] t (silent (unnamed name) t) (reached_unnamed name (Group h.error [] h.empty) [] [] [] t t h.at (reached_here [] [] [] t w.standing w.shaped)))

pub drop_set_went : (guard : Guard) (name : ℕ) (error : Option ℕ) (tasks : List ℕ) (empty : Option ℕ) (s : State) → held_at name s.world.names ≡ Some (Group error tasks empty) → Owned s → Shaped s.world → Went [] [] s (silent (unnamed name) (cleared guard name s))
drop_set_went guard name error tasks empty s at st sh =
    subst (λ (o : Option Held). Went [] [] s (silent (unnamed name) (cleared_in guard name o s))) (sym at)
    (set_unnamed name s (cleared_in guard name (Some (Group error tasks empty)) s) (cleared_held guard name error tasks empty s at) (cleared_in_went (Some (Group error tasks empty)) guard name s at st sh))

pub drop_set_walks : (name : ℕ) (error : Option ℕ) (tasks : List ℕ) (empty : Option ℕ) (s : State) (n : ℕ) (fs : List ℕ) → held_at name s.world.names ≡ Some (Group error tasks empty) → Owned s → Shaped s.world → Frames s.world n fs → is_steady (form_at n s.world.nodes) ≡ true → ((f : ℕ) → s.world.firing ≡ Some f → Tells f s (cleared (Holding []) name s) → ⊥) → Walks [] [] s (silent (unnamed name) (cleared (usual s.world) name s)) n fs
drop_set_walks name error tasks empty s n fs at st sh f y calm =
    let t = cleared (usual s.world) name s in
    let a = cleared_walks name s n fs st sh f y calm in
    let h = subst (λ (o : Option Held). HasNone name (cleared_in (usual s.world) name o s)) (sym at) (cleared_held (usual s.world) name error tasks empty s at) in
    walks_both [] [] [] [] s t (silent (unnamed name) t) n fs a (walks_reached [] [] t (silent (unnamed name) t) n fs a.frames (walks_steady [] [] s t n fs a y) (reached_unnamed name (Group h.error [] h.empty) [] [] [] t t h.at (reached_here [] [] [] t a.went.standing a.went.shaped)))

-- Drop of a promise
pub drop_promise_went : (guard : Guard) (name r : ℕ) (s : State) → held_at name s.world.names ≡ Some (Promise r) → Owned s → Shaped s.world → Went [] [] s (free guard r (silent (unnamed name) s))
drop_promise_went guard name r s at st sh = went_free guard r [] [] s (silent (unnamed name) s) (went_reached (r ∷ []) [] s (silent (unnamed name) s) (reached_unnamed name (Promise r) [] [] [] s s at (reached_none s st sh)))

pub drop_promise_walks : (name r : ℕ) (s : State) (n : ℕ) (fs : List ℕ) → held_at name s.world.names ≡ Some (Promise r) → Owned s → Shaped s.world → Frames s.world n fs → is_steady (form_at n s.world.nodes) ≡ true → ((f : ℕ) → s.world.firing ≡ Some f → Tells f s (free (Holding []) r (silent (unnamed name) s)) → ⊥) → Walks [] [] s (free (usual s.world) r (silent (unnamed name) s)) n fs
drop_promise_walks name r s n fs at st sh f y calm =
    let s1 = silent (unnamed name) s in
    let r1 = reached_unnamed name (Promise r) [] [] [] s s at (reached_none s st sh) in
    let a = walks_reached (r ∷ []) [] s s1 n fs f y r1 in
    let off = roots_off (r ∷ []) [] s1 n fs r1.standing a.frames (λ g fires t. calm g fires (record { more = t.more; told = t.told; has = t.has })) in
    walks_both (r ∷ []) [] [] [] s s1 (free (usual s.world) r s1) n fs a (walks_each (r ∷ []) [] s1 n fs s.world.firing refl r1.standing r1.shaped a.frames off)

-- a hub's name goes
reached_unnamed_in : (o : Option Form) (h : ℕ) (out : List ℕ) (s t : State) → form_at h t.world.nodes ≡ o → Standing [] out [] (silent (hub_unnamed_in h o) t) → Shaped t.world → Stays s.world t.world → Reached [] out [] s (silent (hub_unnamed_in h o) t)
reached_unnamed_in (Some (Hub c is_named bs)) h out s t at st sh stays = record { standing = st; shaped = shaped_put h (Hub c false bs) (Hub c is_named bs) t.world at (hub_suits c is_named false bs bs) sh; stays = stays_both s.world t.world (put h (Hub c false bs) t.world) stays (stays_hub h c is_named false bs bs t.world at) }
reached_unnamed_in None h out s t at st sh stays = record { standing = st; shaped = sh; stays = stays }
reached_unnamed_in (Some _) h out s t at st sh stays = record { standing = st; shaped = sh; stays = stays }

hub_start : (name h : ℕ) (s : State) → held_at name s.world.names ≡ Some (HubOf h) → Owned s → Shaped s.world → Reached [] [] [] s (silent (λ w. hub_unnamed h (unnamed name w)) s)
hub_start name h s at st sh =
    let s1 = silent (unnamed name) s in
    let r1 = reached_unnamed name (HubOf h) [] [] [] s s at (reached_none s st sh) in
    reached_unnamed_in (form_at h s1.world.nodes) h [] s s1 refl (hub_unnamed_standing h [] [] s1 r1.standing) r1.shaped r1.stays

unless_went : (b : Bool) (guard : Guard) (h : ℕ) (s : State) → Shaped s.world → Shaped (free_unless b (free guard) h s).world × SameTurn s.world (free_unless b (free guard) h s).world
unless_went true guard h s sh = (sh, record { firing = refl; awaited = refl; left_over = refl })
unless_went false guard h s sh = (shaped_free_to guard (depth_of s.world) h s sh, turn_free_to guard (depth_of s.world) h s)

referenced_went : (o : Option Form) (guard : Guard) (h : ℕ) (s : State) → Shaped s.world → Shaped (free_unreferenced guard (free guard) h o s).world × SameTurn s.world (free_unreferenced guard (free guard) h o s).world
referenced_went (Some (Hub c false [])) guard h s sh = unless_went (is_guarded guard h s.world) guard h s sh
referenced_went (Some (Hub c false (b ∷ bs))) guard h s sh = (sh, record { firing = refl; awaited = refl; left_over = refl })
referenced_went (Some (Hub c true bs)) guard h s sh = (sh, record { firing = refl; awaited = refl; left_over = refl })
referenced_went None guard h s sh = (sh, record { firing = refl; awaited = refl; left_over = refl })
referenced_went (Some _) guard h s sh = (sh, record { firing = refl; awaited = refl; left_over = refl })

pub drop_hub_went : (guard : Guard) (name h : ℕ) (s : State) → held_at name s.world.names ≡ Some (HubOf h) → Owned s → Shaped s.world → Went [] [] s (reference_gone guard (free guard) h (silent (λ w. hub_unnamed h (unnamed name w)) s))
drop_hub_went guard name h s at st sh =
    let s1 = silent (λ w. hub_unnamed h (unnamed name w)) s in
    let r = hub_start name h s at st sh in
    let a = referenced_went (form_at h s1.world.nodes) guard h s1 r.shaped in
    record { standing = reference_standing guard h [] [] s1 r.standing; shaped = a.0; same = turn_both s.world s1.world (reference_gone guard (free guard) h s1).world r.stays.same a.1 }

unless_walks : (b : Bool) (h : ℕ) (c : Content) (s : State) (n : ℕ) (fs : List ℕ) → is_guarded (usual s.world) h s.world ≡ b → form_at h s.world.nodes ≡ Some (Hub c false []) → Owned s → Shaped s.world → Frames s.world n fs → Walks [] [] s (free_unless b (free (usual s.world)) h s) n fs
unless_walks true h c s n fs is at st sh f = walks_none s n fs st sh f
unless_walks false h c s n fs is at st sh f =
    let both = framed_tended [] [] [] s n fs st f in
    let tended = both.0 in
    let gs = option_to_list s.world.firing in
    let opens = tended_open [] [] [] gs s n st tended in
    let d = depth_of s.world in
    let fuel = fuel_for s st.room in
    let off = hub_off [] [] s n h fs st f (ap is_hub_form at) is tended.above tended.climbs in
    let here = hub_comes (Holding gs) [] [] s h c st at in
    let comes : is_live h s.world.nodes ≡ true → Comes (Holding gs) s.world [] (n ∷ tended.above) h = λ live. record {
      off = off;
      up = λ q own. absurd (in_none q (here.up q own));
      lost = λ u. elim (here.lost u) [ inl g ↦ inl (λ b b_at. absurd (false≢true (g b b_at))) | inr g ↦ inr g ];
    } in
    let t = free (Holding gs) h s in
    let ns = falling (Holding gs) s.world d [] [] h in
    let fr = node_frees (Holding gs) d h s in
    let stems = λ (m : ℕ) (i : is_in m (n ∷ tended.above) ≡ true). ap stem (fr.forms m) ∙ stem_stays (is_in m ns) (λ b. is_in b ns) m s.world.nodes (form_at m s.world.nodes) (path_stays (Holding gs) d h [] [] (n ∷ tended.above) s st opens comes fuel m i) in
    let forms : (m : ℕ) → is_in m (n ∷ fs) ≡ true → stem (form_at m t.world.nodes) ≡ stem (form_at m s.world.nodes) = λ m i. stems m (within_more n m fs tended.above both.1 i) in
    record {
      went = record { standing = standing_frees (Holding gs) d h [] [] [] (n ∷ tended.above) s st opens comes fuel (λ m e. refl) (λ m. omega arith); shaped = shaped_free_to (Holding gs) d h s sh; same = turn_free_to (Holding gs) d h s };
      frames = frames_same s.world t.world n fs fr.frame.same.firing fr.frame.same.awaited forms f;
      owner = λ b q fires own. stems q (owner_on (Holding gs) s.world n fs tended.above b q f both.1 opens fires own);
      forms = forms;
    }

referenced_walks : (o : Option Form) (h : ℕ) (s : State) (n : ℕ) (fs : List ℕ) → form_at h s.world.nodes ≡ o → Owned s → Shaped s.world → Frames s.world n fs → Walks [] [] s (free_unreferenced (usual s.world) (free (usual s.world)) h o s) n fs
referenced_walks (Some (Hub c false [])) h s n fs at st sh f = unless_walks (is_guarded (usual s.world) h s.world) h c s n fs refl at st sh f
referenced_walks (Some (Hub c false (b ∷ bs))) h s n fs at st sh f = walks_none s n fs st sh f
referenced_walks (Some (Hub c true bs)) h s n fs at st sh f = walks_none s n fs st sh f
referenced_walks None h s n fs at st sh f = walks_none s n fs st sh f
referenced_walks (Some _) h s n fs at st sh f = walks_none s n fs st sh f

hub_unnamed_firing : (o : Option Form) (h : ℕ) (w : World) → (hub_unnamed_in h o w).firing ≡ w.firing
hub_unnamed_firing None h w = refl
hub_unnamed_firing (Some (Hub c a bs)) h w = refl
hub_unnamed_firing (Some _) h w = refl

pub drop_hub_walks : (name h : ℕ) (s : State) (n : ℕ) (fs : List ℕ) → held_at name s.world.names ≡ Some (HubOf h) → Owned s → Shaped s.world → Frames s.world n fs → is_steady (form_at n s.world.nodes) ≡ true → Walks [] [] s (reference_gone (usual s.world) (free (usual s.world)) h (silent (λ w. hub_unnamed h (unnamed name w)) s)) n fs
drop_hub_walks name h s n fs at st sh f y =
    let s1 = silent (λ w. hub_unnamed h (unnamed name w)) s in
    let r = hub_start name h s at st sh in
    let a = walks_reached [] [] s s1 n fs f y r in
    let b = referenced_walks (form_at h s1.world.nodes) h s1 n fs refl r.standing r.shaped a.frames in
    let fires : s1.world.firing ≡ s.world.firing = hub_unnamed_firing (form_at h (unnamed name s.world).nodes) h (unnamed name s.world) in
    subst (λ (o : Option ℕ). Walks [] [] s (reference_gone (Holding (option_to_list o)) (free (Holding (option_to_list o))) h s1) n fs) fires
    (walks_both [] [] [] [] s s1 (reference_gone (usual s1.world) (free (usual s1.world)) h s1) n fs a b)

-- Stop
pub stop_went : (guard : Guard) (request n : ℕ) (s : State) → held_at request s.world.names ≡ Some (RequestOf (Some n)) → Owned s → Shaped s.world → Went [] [] s (stopped_request guard request s)
stop_went guard request n s at st sh =
    let s1 = silent (named request (RequestOf None)) s in
    let r1 = reached_renamed request (RequestOf (Some n)) (RequestOf None) [] (n ∷ []) [] s s at refl (λ m. refl) (λ p i. absurd (in_none p i)) (reached_none s st sh) in
    let a = went_free guard n [] [] s s1 (went_reached (n ∷ []) [] s s1 r1) in
    let t = free guard n s1 in
    let b = went_both [] [] [] [] s t (silent (with_ended request cancelled) t) a (went_reached [] [] t (silent (with_ended request cancelled) t) (reached_lists t.world.asks (t.world.ended ++ record { request = request; outcome = cancelled } ∷ []) t.world.abandoned [] [] [] t t (reached_here [] [] [] t a.standing a.shaped))) in
    subst (λ (x : ℕ). Went [] [] s (silent (with_ended request cancelled) (free guard x s1))) (sym (ap node_of at)) b
