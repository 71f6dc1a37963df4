-- Evaluating a tree keeps what a world keeps, where each command does.
use Rattle.std.proofs.Common.{◌||◌, zero, suc, ◌≡◌, inl, inr, ℕ, ◌+◌, ◌≤◌, List, [], ◌∷◌, ◌++◌, Bool, true, false, cond, Option, None, Some, arith, refl, sym, ap, ◌∙◌, subst, ◌&&◌, ◌==◌}
use Rattle.std.specs.Prelude.{nat_eq, nat_lt, is_some, option_to_list}
use Rattle.std.specs.List.{list_any}
use Rattle.std.proofs.lemmas.Bool.{or_parts}
use Rattle.std.proofs.lemmas.Bool.Decides.{nat_tests}
use Rattle.kj_base.specs.declared.outcomes.Outcome.{Outcome}
use Rattle.kj_base.specs.Commands.{Command, Action}
use Rattle.kj_base.specs.declared.endings.Ending.{Ending}
use Rattle.kj_base.specs.declared.endings.Ending.TheVariants.{Value as Give, Throw, Promise, Input}
use Rattle.kj_base.specs.Record.{Item, Run, Free}
use Rattle.kj_model.specs.Nodes.{Entry, Form, Then, Race, Join, Side, Waits, Fired, Keeps, Gone, Hub, form_at, parts_of, parts_found, is_in}
use Rattle.kj_model.specs.World.{World, State, Setting, depth_of}
use Rattle.kj_model.specs.Changes.{silent, put, frees_in}
use Rattle.kj_model.specs.Free.{Holding, usual}
use Rattle.kj_model.specs.Apply.{Refused, apply}
use Rattle.kj_model.specs.Value.{freed, answered, ended_if, ended, all_applied, rest_applied, with_item, with_stopped, step_passed, chosen, then_valued, then_of, side_valued, side_of, value_side, rest_valued, all_valued, join_valued, winner_valued, value_form, value_to}
use Rattle.kj_model.specs.Falling.{falling, is_branch_of}
use Rattle.kj_model.specs.Owned.{numbers, is_run_of, IsInOrder, awaited_roots}
use Rattle.kj_ownership.specs.Owners.{is_live, owns, is_hub_form}
use Rattle.kj_model.specs.Framed.{times}
use Rattle.kj_ownership.specs.Standing.{one_if, IsRecorded, Owned}
use Rattle.kj_ownership.specs.Stems.{stem, is_walked, is_steady, fires, Frames}
use Rattle.kj_ownership.specs.Shapes.{Shaped}
use Rattle.kj_ownership.proofs.Shapes.{SuitsAs, shaped_put, shaped_freed, empty_suits}
use Rattle.kj_model.proofs.Spared.{same_number, form_put_same, form_put_other}
use Rattle.kj_model.proofs.Members.{Within, in_right, in_self}
use Rattle.kj_model.proofs.Once.{both_ways, false_by}
use Rattle.kj_model.proofs.Falling.{node_frees}
use Rattle.kj_ownership.proofs.Flat.{live_number}
use Rattle.kj_model.proofs.Freed.{or_false}
use Rattle.kj_ownership.proofs.Stays.{in_times, hub_unowned, owns_before}
use Rattle.kj_ownership.proofs.Commands.{Tended, tended_open, tree_freed}
use Rattle.kj_ownership.proofs.Changed.{put_standing}
use Rattle.kj_ownership.proofs.Climb.{climb_apart}
use Rattle.kj_ownership.proofs.Frames.{walk_same, framed_tended, within_more, fires_in, owner_on, owner_apart, stem_of, stem_parts, stem_owns, climb_stems, path_stems, frames_same}

-- what stands above
abbrev pub Rest : World → List ℕ → Type 0
Rest w [] = Unit {0}
Rest w (m ∷ ms) = Frames w m ms

-- what a turn sets, and its steps leave
pub record SameTurn (w v : World) : Type 0 where
  pub firing : v.firing ≡ w.firing
  pub awaited : v.awaited ≡ w.awaited
  pub left_over : v.left_over ≡ w.left_over

pub turn_refl : (w : World) → SameTurn w w
turn_refl w = record { firing = refl; awaited = refl; left_over = refl }

pub turn_both : (u v w : World) → SameTurn u v → SameTurn v w → SameTurn u w
turn_both u v w a b = record { firing = b.firing ∙ a.firing; awaited = b.awaited ∙ a.awaited; left_over = b.left_over ∙ a.left_over }

pub turn_freed : (t : ℕ) (s : State) → SameTurn s.world (freed t s).world
turn_freed t s = let same = (node_frees (usual s.world) (depth_of s.world) t s).frame.same in record { firing = same.firing; awaited = same.awaited; left_over = same.left_over }

-- the owner of the node that fires keeps its form
abbrev pub OwnerStays : World → World → Type 0
OwnerStays w v = (b q : ℕ) → w.firing ≡ Some b → owns q b w.nodes ≡ true → stem (form_at q v.nodes) ≡ stem (form_at q w.nodes)

pub owner_both : (u v w : World) → SameTurn u v → OwnerStays u v → OwnerStays v w → OwnerStays u w
owner_both u v w same a c b q fires own =
    let e = a b q fires own in
    c b q (same.firing ∙ fires) (stem_owns q b u v e own) ∙ e

-- from one state to a later one, while these nodes are being evaluated
pub record Evals (s t : State) (fs : List ℕ) : Type 0 where
  pub owned : Owned t
  pub shaped : Shaped t.world
  pub same : SameTurn s.world t.world
  pub rest : Rest t.world fs
  pub owner : OwnerStays s.world t.world
  pub forms : (m : ℕ) → is_in m fs ≡ true → stem (form_at m t.world.nodes) ≡ stem (form_at m s.world.nodes)

pub evals_none : (s : State) (fs : List ℕ) → Owned s → Shaped s.world → Rest s.world fs → Evals s s fs
evals_none s fs o w r = record { owned = o; shaped = w; same = turn_refl s.world; rest = r; owner = λ b q g e. refl; forms = λ m i. refl }

pub evals_both : (s t u : State) (fs : List ℕ) → Evals s t fs → Evals t u fs → Evals s u fs
evals_both s t u fs a b = record { owned = b.owned; shaped = b.shaped; same = turn_both s.world t.world u.world a.same b.same; rest = b.rest; owner = owner_both s.world t.world u.world a.same a.owner b.owner; forms = λ m i. b.forms m i ∙ a.forms m i }

pub rest_of : (w : World) (n : ℕ) (fs : List ℕ) → Frames w n fs → Rest w fs
rest_of w n [] f = tt
rest_of w n (m ∷ ms) f = f.4

pub evals_less : (s t : State) (n : ℕ) (fs : List ℕ) → Evals s t (n ∷ fs) → Evals s t fs
evals_less s t n fs e = record { owned = e.owned; shaped = e.shaped; same = e.same; rest = rest_of t.world n fs e.rest; owner = e.owner; forms = λ m i. e.forms m (in_right m (n ∷ []) fs i) }

-- each command that isn't refused keeps it all (the hypothesis)
abbrev pub CommandsKeep : Setting → Type 0
CommandsKeep setting = (c : Command) (s : State) (n : ℕ) (fs : List ℕ) → Owned s → Shaped s.world → Frames s.world n fs → is_steady (form_at n s.world.nodes) ≡ true → Evals s (apply setting true c s).0 (n ∷ fs)

-- so does a list of them
stem_steady : (o : Option Form) → is_steady (stem o) ≡ is_steady o
stem_steady None = refl
stem_steady (Some (Hub content is_named branches)) = refl
stem_steady (Some _) = refl

pub steady_same : (o p : Option Form) → stem p ≡ stem o → is_steady o ≡ true → is_steady p ≡ true
steady_same o p e h = sym (stem_steady p) ∙ ap is_steady e ∙ stem_steady o ∙ h

rest_keeps : (o : Option Refused) (rest : State → State × Bool) (s : State) (n : ℕ) (fs : List ℕ) → ((t : State) → Owned t → Shaped t.world → Frames t.world n fs → is_steady (form_at n t.world.nodes) ≡ true → Evals t (rest t).0 (n ∷ fs)) → Owned s → Shaped s.world → Frames s.world n fs → is_steady (form_at n s.world.nodes) ≡ true → Evals s (rest_applied o rest s).0 (n ∷ fs)
rest_keeps None rest s n fs h o w f y = h s o w f y
rest_keeps (Some refused) rest s n fs h o w f y = evals_none s (n ∷ fs) o w f

pub all_keep : (setting : Setting) (cs : List Command) (s : State) (n : ℕ) (fs : List ℕ) → CommandsKeep setting → Owned s → Shaped s.world → Frames s.world n fs → is_steady (form_at n s.world.nodes) ≡ true → Evals s (all_applied setting cs s).0 (n ∷ fs)
all_keep setting [] s n fs keep o w f y = evals_none s (n ∷ fs) o w f
all_keep setting (c ∷ cs) s n fs keep o w f y =
    let r = apply setting true c s in
    let a = keep c s n fs o w f y in
    evals_both s r.0 (rest_applied r.1 (all_applied setting cs) r.0).0 (n ∷ fs) a (rest_keeps r.1 (all_applied setting cs) r.0 n fs (λ t o2 w2 f2 y2. all_keep setting cs t n fs keep o2 w2 f2 y2) a.owned a.shaped a.rest (steady_same (form_at n s.world.nodes) (form_at n r.0.world.nodes) (a.forms n (in_self n fs)) y))

-- an ending that isn't under a Chain changes nothing
ended_same : (ending : Ending) (input : Outcome) (s : State) → (ended ending false input s).0 ≡ s
ended_same (Give words) input s = refl
ended_same (Throw exception) input s = refl
ended_same (Promise name) input s = refl
ended_same Input input s = refl

ended_if_same : (b : Bool) (ending : Ending) (input : Outcome) (s : State) → (ended_if b ending false input s).0 ≡ s
ended_if_same true ending input s = ended_same ending input s
ended_if_same false ending input s = refl

-- a run is told while its node lives
order_run : (xs : List Item) (n step : ℕ) (input : Outcome) (action : Action) → IsInOrder xs → times n (frees_in xs) ≡ 0 → IsInOrder (xs ++ Run n step input action ∷ [])
order_run [] n step input action h z = tt
order_run (Run m step2 input2 action2 ∷ xs) n step input action h z = order_run xs n step input action h z
order_run (Free m ∷ xs) n step input action h z = (not_run xs h.0, order_run xs n step input action h.1 (later (nat_eq m n) (times n (frees_in xs)) z))
  where
    later : (b : Bool) (t : ℕ) → cond b 1 0 + t ≡ 0 → t ≡ 0
    later true t e = omega (arith, e)
    later false t e = omega (arith, e)

    differs : nat_eq n m ≡ false
    differs = grind (arith, nat_tests)

    not_run : (ys : List Item) → list_any (is_run_of m) ys ≡ false → list_any (is_run_of m) (ys ++ Run n step input action ∷ []) ≡ false
    not_run [] e = or_false (n == m) false differs refl
    not_run (Free k ∷ ys) e = not_run ys e
    not_run (Run k a b c ∷ ys) e = let p = or_parts (k == m) (list_any (is_run_of m) ys) e in or_false (k == m) (list_any (is_run_of m) (ys ++ Run n step input action ∷ [])) p.0 (not_run ys p.1)

never_freed : (s : State) (n : ℕ) → IsRecorded s → is_live n s.world.nodes ≡ true → times n (frees_in s.past) ≡ 0
never_freed s n rec live = none_left (times n (numbers s.world.nodes)) (times n (frees_in s.past)) (nat_lt 0 n && nat_lt n s.world.next) (rec n) (in_times n (numbers s.world.nodes) (live_number n s.world.nodes live))
  where
    none_left : (a r : ℕ) (b : Bool) → a + r ≡ one_if b → 1 ≤ a → r ≡ 0
    none_left a r true e h = omega (arith, e, h)
    none_left a r false e h = omega (arith, e, h)

told_frees : (xs : List Item) (n step : ℕ) (input : Outcome) (action : Action) → frees_in (xs ++ Run n step input action ∷ []) ≡ frees_in xs
told_frees [] n step input action = refl
told_frees (Free m ∷ xs) n step input action = ap (λ ys. m ∷ ys) (told_frees xs n step input action)
told_frees (Run m a b c ∷ xs) n step input action = told_frees xs n step input action

pub told_owned : (s : State) (n step : ℕ) (input : Outcome) (action : Action) → is_live n s.world.nodes ≡ true → Owned s → Owned (with_item (Run n step input action) s)
told_owned s n step input action live o = record {
  placed = o.placed;
  names = o.names;
  hubs = o.hubs;
  below = o.below;
  recorded = λ m. ap (λ (ys : List ℕ). times m (numbers s.world.nodes) + times m ys) (told_frees s.past n step input action) ∙ o.recorded m;
  in_order = order_run s.past n step input action o.in_order (never_freed s n o.recorded live);
  room = o.room;
  queue = o.queue;
  queued = o.queued;
  spots = o.spots;
}

pub stopped_owned : (s : State) → Owned s → Owned (silent with_stopped s)
stopped_owned s o = record {
  placed = record { once = o.placed.once; climbs = o.placed.climbs };
  names = o.names;
  hubs = record { name = o.hubs.name; branches = o.hubs.branches };
  below = record { positive = o.below.positive; places = o.below.places; names = o.below.names; branches = o.below.branches };
  recorded = o.recorded;
  in_order = o.in_order;
  room = o.room;
  queue = o.queue;
  queued = o.queued;
  spots = o.spots;
}

pub stopped_shaped : (w : World) → Shaped w → Shaped (with_stopped w)
stopped_shaped w sh = record { winners = sh.winners; parts = sh.parts; names = sh.names; awaited = sh.awaited; detached = sh.detached; left_over = sh.left_over }

pub frame_live : (w : World) (n : ℕ) (fs : List ℕ) → Frames w n fs → is_live n w.nodes ≡ true
frame_live w n [] (inl b) = b.1
frame_live w n [] (inr b) = b.1
frame_live w n (m ∷ ms) f = f.0

-- a step that runs under a node that is being evaluated
pub step_keeps : (setting : Setting) (a : Option Action) (n step : ℕ) (input : Outcome) (s : State) (fs : List ℕ) → CommandsKeep setting → Owned s → Shaped s.world → Frames s.world n fs → is_steady (form_at n s.world.nodes) ≡ true → Evals s (answered setting a false n step input s).0 (n ∷ fs)
step_keeps setting None n step input s fs keep o w f y = record { owned = stopped_owned s o; shaped = stopped_shaped s.world w; same = record { firing = refl; awaited = refl; left_over = refl }; rest = frames_same s.world (with_stopped s.world) n fs refl refl (λ m i. refl) f; owner = λ b q g e. refl; forms = λ m i. refl }
step_keeps setting (Some action) n step input s fs keep o w f y =
    let t = with_item (Run n step input action) s in
    let r = all_applied setting action.commands t in
    let e = all_keep setting action.commands t n fs keep (told_owned s n step input action (frame_live s.world n fs f) o) w f y in
    let e2 : Evals s r.0 (n ∷ fs) = record { owned = e.owned; shaped = e.shaped; same = e.same; rest = e.rest; owner = e.owner; forms = e.forms } in
    subst (λ (u : State). Evals s u (n ∷ fs)) (sym (ended_if_same r.1 action.ending input r.0)) e2

passed_keeps : (setting : Setting) (step : Option ℕ) (n : ℕ) (o : Outcome) (s : State) (fs : List ℕ) → CommandsKeep setting → Owned s → Shaped s.world → Frames s.world n fs → is_steady (form_at n s.world.nodes) ≡ true → Evals s (step_passed setting false n step o s).0 (n ∷ fs)
passed_keeps setting None n o s fs keep ow w f y = evals_none s (n ∷ fs) ow w f
passed_keeps setting (Some step) n o s fs keep ow w f y = step_keeps setting (setting.answer s.past step) n step o s fs keep ow w f y

-- a tree was evaluated: it is freed, and its owner has none
pub shaped_free : (s : State) (t : ℕ) → Shaped s.world → Shaped (freed t s).world
shaped_free s t w =
    let f = node_frees (usual s.world) (depth_of s.world) t s in
    shaped_freed (falling (usual s.world) s.world (depth_of s.world) [] [] t) s (freed t s) f (λ q p o. owns_before (falling (usual s.world) s.world (depth_of s.world) [] [] t) s (freed t s) q p f o) w

-- the nodes above keep their stems, and node n is live and no hub
frames_put : (w v : World) (n : ℕ) (fs : List ℕ) → v.firing ≡ w.firing → v.awaited ≡ w.awaited → ((m : ℕ) → is_in m fs ≡ true → stem (form_at m v.nodes) ≡ stem (form_at m w.nodes)) → is_live n v.nodes ≡ true → is_hub_form (form_at n v.nodes) ≡ false → Frames w n fs → Frames v n fs
frames_put w v n [] f a s live hub (inl b) = inl (f ∙ b.0, live)
frames_put w v n [] f a s live hub (inr b) = inr (f ∙ b.0, live, ap (λ o. is_in n (awaited_roots o)) a ∙ b.2)
frames_put w v n (m ∷ ms) f a s live hub b = (
  live,
  ap (is_in n) (sym (stem_parts (form_at m v.nodes)) ∙ ap parts_found (s m (in_self m ms)) ∙ stem_parts (form_at m w.nodes)) ∙ b.1,
  hub,
  walk_same w v m f (s m (in_self m ms)) ∙ b.3,
  frames_same w v m ms f a s b.4,
)

times_other : (p t : ℕ) → nat_eq t p ≡ false → times p (t ∷ []) ≡ 0
times_other p t d = grind (arith, nat_tests)

-- what one form leaves of a tree that was evaluated
pub record Clears (old new : Form) (t : ℕ) : Type 0 where
  pub parts : parts_of old ≡ t ∷ []
  pub none : parts_of new ≡ []
  pub old_hub : is_hub_form (Some old) ≡ false
  pub new_hub : is_hub_form (Some new) ≡ false
  pub branch : (h : ℕ) → is_branch_of h (Some new) ≡ is_branch_of h (Some old)
  pub suits : SuitsAs old new

pub tree_cleared : (s : State) (n t : ℕ) (fs : List ℕ) (old new : Form) → Owned s → Shaped s.world → Frames s.world n fs → form_at n s.world.nodes ≡ Some old → Clears old new t → Evals s (silent (put n new) (freed t s)) fs × Frames (put n new (freed t s).world) n fs × (form_at n (put n new (freed t s).world).nodes ≡ Some new)
tree_cleared s n t fs old new o w f at c =
    let both = framed_tended [] [] [] s n fs o f in
    let own : owns n t s.world.nodes ≡ true = ap (λ (x : Option Form). is_in t (parts_found x)) at ∙ ap (is_in t) c.parts ∙ in_self t [] in
    let s1 = freed t s in
    let same = (node_frees (usual s.world) (depth_of s.world) t s).frame.same in
    let tf = tree_freed (option_to_list s.world.firing) [] [] s n t o both.0 own in
    let at1 = tf.form old c.old_hub at in
    let new_at = is_n s1 at1 in
    let forms : (m : ℕ) → is_in m fs ≡ true → stem (form_at m (put n new s1.world).nodes) ≡ stem (form_at m s.world.nodes) = λ m i.
    (let d : nat_eq n m ≡ false = false_by (nat_eq n m) (λ e. both_ways (is_in n fs) (subst (λ (y : ℕ). is_in y fs ≡ true) (same_number n m e) i) (off both.0 both.1)) in ap stem (form_put_other n m new s1.world.nodes d) ∙ path_stems [] [] s n t fs o f own m (in_right m (n ∷ []) fs i)) in
    let fr = frames_put s.world (put n new s1.world) n fs same.firing same.awaited forms (ap is_some new_at) (ap is_hub_form new_at ∙ c.new_hub) f in
    let owned : Owned (silent (put n new) s1) = put_standing n new old [] [] [] s1 at1 c.new_hub c.old_hub c.branch
    (λ p live. ap (times p) c.none ∙ sym (ap (times p) c.parts ∙ times_other p t (false_by (nat_eq t p) (λ e. both_ways (is_live t s1.world.nodes) (subst (λ (y : ℕ). is_live y s1.world.nodes ≡ true) (same_number t p e) live) tf.went))))
    (λ p. subst (λ (ps : List ℕ). times p ps ≤ times p (parts_of old)) (sym c.none) (omega arith)) tf.standing in
    (record { owned = owned; shaped = shaped_put n new old s1.world at1 c.suits (shaped_free s t w); same = record { firing = same.firing; awaited = same.awaited; left_over = same.left_over }; rest = rest_of (put n new s1.world) n fs fr; owner = owner both.0 both.1; forms = forms }, fr, new_at)
  where
    is_n : (s1 : State) → form_at n s1.world.nodes ≡ Some old → form_at n (put n new s1.world).nodes ≡ Some new
    is_n s1 h = form_put_same n new old s1.world.nodes h

    owner : (td : Tended (option_to_list s.world.firing) s n) → Within fs td.above → OwnerStays s.world (put n new (freed t s).world)
    owner td within b q fires own_b =
        let opens = tended_open [] [] [] (option_to_list s.world.firing) s n o td in
        let b_on = within_more n b fs td.above within (fires_in s.world n fs b f fires) in
        let own : owns n t s.world.nodes ≡ true = ap (λ (x : Option Form). is_in t (parts_found x)) at ∙ ap (is_in t) c.parts ∙ in_self t [] in
        ap stem (form_put_other n q new (freed t s).world.nodes (owner_apart s n fs td.above b q o f within td.live (opens.live b b_on) td.climbs fires own_b))
        ∙ climb_stems [] [] s n t td o own q (owner_on (Holding (option_to_list s.world.firing)) s.world n fs td.above b q f within opens fires own_b)

    off : (td : Tended (option_to_list s.world.firing) s n) → Within fs td.above → is_in n fs ≡ false
    off td within = false_by (is_in n fs) (λ i. both_ways (is_in n td.above) (within n i) (climb_apart [] s.world n td.above o.placed td.live td.climbs).0)

-- the evaluation of each node, by this bound
abbrev pub EvaluatesTo : Setting → ℕ → Type 0
EvaluatesTo setting k = (n : ℕ) (s : State) (fs : List ℕ) → Owned s → Shaped s.world → Rest s.world fs → (is_live n s.world.nodes ≡ true → Frames s.world n fs) → Evals s (value_to setting k n s).0 fs

-- a part of a node that is being evaluated
part_frames : (s : State) (n t : ℕ) (fs : List ℕ) → Owned s → Frames s.world n fs → is_walked (form_at n s.world.nodes) ≡ true → owns n t s.world.nodes ≡ true → is_live t s.world.nodes ≡ true → Frames s.world t (n ∷ fs)
part_frames s n t fs o f wk own live = (live, own, false_by (is_hub_form (form_at t s.world.nodes)) (λ h. both_ways (owns n t s.world.nodes) own (hub_unowned [] s.world t n o.placed h)), ap (λ b. b || fires s.world.firing n) wk, f)

owns_of : (n t : ℕ) (nodes : List Entry) (f : Form) → form_at n nodes ≡ Some f → is_in t (parts_of f) ≡ true → owns n t nodes ≡ true
owns_of n t nodes f at i = ap (λ (x : Option Form). is_in t (parts_found x)) at ∙ i

pub part_value : (setting : Setting) (k n t : ℕ) (f : Form) (s : State) (fs : List ℕ) → EvaluatesTo setting k → Owned s → Shaped s.world → Frames s.world n fs → form_at n s.world.nodes ≡ Some f → is_walked (Some f) ≡ true → is_in t (parts_of f) ≡ true → Evals s (value_to setting k t s).0 (n ∷ fs)
part_value setting k n t f s fs ev o w fr at wk i = ev t s (n ∷ fs) o w fr (λ live. part_frames s n t fs o fr (ap is_walked at ∙ wk) (owns_of n t s.world.nodes f at i) live)

pub kept_form : (s r : State) (n : ℕ) (fs : List ℕ) (f : Form) → is_hub_form (Some f) ≡ false → stem (Some f) ≡ Some f → form_at n s.world.nodes ≡ Some f → Evals s r (n ∷ fs) → form_at n r.world.nodes ≡ Some f
kept_form s r n fs f hub st at e = stem_of (form_at n r.world.nodes) f hub (e.forms n (in_self n fs) ∙ ap stem at ∙ st)

-- a Then
pub then_clears : (v e : Option ℕ) (t : ℕ) → Clears (Then v e (Some t)) (Then v e None) t
then_clears v e t = record { parts = refl; none = refl; old_hub = refl; new_hub = refl; branch = λ h. refl; suits = empty_suits (Then v e (Some t)) (Then v e None) (record { tree = refl; link = refl; side = refl; task = refl; request = λ n. refl; ended = λ h. h }) refl refl }

then_valued_keeps : (setting : Setting) (n t : ℕ) (v e : Option ℕ) (o : Option Outcome) (s : State) (fs : List ℕ) → CommandsKeep setting → Owned s → Shaped s.world → Frames s.world n fs → form_at n s.world.nodes ≡ Some (Then v e (Some t)) → Evals s (then_valued setting false n v e t o s).0 fs
then_valued_keeps setting n t v e None s fs keep ow w fr at = evals_none s fs ow w (rest_of s.world n fs fr)
then_valued_keeps setting n t v e (Some o) s fs keep ow w fr at =
    let c = tree_cleared s n t fs (Then v e (Some t)) (Then v e None) ow w fr at (then_clears v e t) in
    let s2 = silent (put n (Then v e None)) (freed t s) in
    let p = passed_keeps setting (chosen v e o) n o s2 fs keep c.0.owned c.0.shaped c.1 (ap is_steady c.2) in
    evals_both s s2 (step_passed setting false n (chosen v e o) o s2).0 fs c.0 (evals_less s2 (step_passed setting false n (chosen v e o) o s2).0 n fs p)

then_keeps : (setting : Setting) (k n : ℕ) (v e tree : Option ℕ) (s : State) (fs : List ℕ) → CommandsKeep setting → EvaluatesTo setting k → Owned s → Shaped s.world → Frames s.world n fs → form_at n s.world.nodes ≡ Some (Then v e tree) → Evals s (then_of setting (value_to setting k) false n (Some (Then v e tree)) s).0 fs
then_keeps setting k n v e None s fs keep ev o w fr at = evals_none s fs o w (rest_of s.world n fs fr)
then_keeps setting k n v e (Some t) s fs keep ev o w fr at =
    let r = value_to setting k t s in
    let a = part_value setting k n t (Then v e (Some t)) s fs ev o w fr at refl (in_self t []) in
    let at2 = kept_form s r.0 n fs (Then v e (Some t)) refl refl at a in
    evals_both s r.0 (then_valued setting false n v e t r.1 r.0).0 fs (evals_less s r.0 n fs a) (then_valued_keeps setting n t v e r.1 r.0 fs keep a.owned a.shaped a.rest at2)

-- a Side that has fired
side_clears : (t : ℕ) → Clears (Side (Fired t)) (Side Gone) t
side_clears t = record { parts = refl; none = refl; old_hub = refl; new_hub = refl; branch = λ h. refl; suits = empty_suits (Side (Fired t)) (Side Gone) (record { tree = refl; link = refl; side = refl; task = refl; request = λ n. refl; ended = λ h. h }) refl refl }

side_valued_keeps : (side t : ℕ) (o : Option Outcome) (s : State) (fs : List ℕ) → Owned s → Shaped s.world → Frames s.world side fs → form_at side s.world.nodes ≡ Some (Side (Fired t)) → Evals s (side_valued side t o s).0 fs
side_valued_keeps side t None s fs o w fr at = evals_none s fs o w (rest_of s.world side fs fr)
side_valued_keeps side t (Some outcome) s fs o w fr at = (tree_cleared s side t fs (Side (Fired t)) (Side Gone) o w fr at (side_clears t)).0

side_keeps : (setting : Setting) (k side : ℕ) (o : Option Form) (s : State) (fs : List ℕ) → EvaluatesTo setting k → Owned s → Shaped s.world → Rest s.world fs → (is_live side s.world.nodes ≡ true → Frames s.world side fs) → form_at side s.world.nodes ≡ o → Evals s (side_of (value_to setting k) side o s).0 fs
side_keeps setting k side (Some (Side (Fired t))) s fs ev o w rest fr at =
    let f = fr (ap is_some at) in
    let r = value_to setting k t s in
    let a = part_value setting k side t (Side (Fired t)) s fs ev o w f at refl (in_self t []) in
    let at2 = kept_form s r.0 side fs (Side (Fired t)) refl refl at a in
    evals_both s r.0 (side_valued side t r.1 r.0).0 fs (evals_less s r.0 side fs a) (side_valued_keeps side t r.1 r.0 fs a.owned a.shaped a.rest at2)
side_keeps setting k side (Some (Side (Keeps outcome))) s fs ev o w rest fr at = evals_none s fs o w rest
side_keeps setting k side (Some (Side (Waits t))) s fs ev o w rest fr at = evals_none s fs o w rest
side_keeps setting k side (Some (Side Gone)) s fs ev o w rest fr at = evals_none s fs o w rest
side_keeps setting k side None s fs ev o w rest fr at = evals_none s fs o w rest
side_keeps setting k side (Some _) s fs ev o w rest fr at = evals_none s fs o w rest

part_side : (setting : Setting) (k n side : ℕ) (f : Form) (s : State) (fs : List ℕ) → EvaluatesTo setting k → Owned s → Shaped s.world → Frames s.world n fs → form_at n s.world.nodes ≡ Some f → is_walked (Some f) ≡ true → is_in side (parts_of f) ≡ true → Evals s (value_side (value_to setting k) side s).0 (n ∷ fs)
part_side setting k n side f s fs ev o w fr at wk i = side_keeps setting k side (form_at side s.world.nodes) s (n ∷ fs) ev o w fr (λ live. part_frames s n side fs o fr (ap is_walked at ∙ wk) (owns_of n side s.world.nodes f at i) live) refl

-- the Sides of an All
rest_valued_keeps : (o : Option Outcome) (rest : Outcome → State → State × Option Outcome) (s : State) (fs : List ℕ) → ((outcome : Outcome) → Evals s (rest outcome s).0 fs) → Evals s s fs → Evals s (rest_valued o rest s).0 fs
rest_valued_keeps None rest s fs h e = e
rest_valued_keeps (Some outcome) rest s fs h e = h outcome

all_sides : (setting : Setting) (k n : ℕ) (fast : Bool) (all : List ℕ) (outcomes : List Outcome) (sides : List ℕ) (s : State) (fs : List ℕ) → EvaluatesTo setting k → ((x : ℕ) → is_in x sides ≡ true → is_in x all ≡ true) → Owned s → Shaped s.world → Frames s.world n fs → form_at n s.world.nodes ≡ Some (Join fast all) → Evals s (all_valued (value_to setting k) outcomes sides s).0 (n ∷ fs)
all_sides setting k n fast all outcomes [] s fs ev within o w fr at = evals_none s (n ∷ fs) o w fr
all_sides setting k n fast all outcomes (side ∷ sides) s fs ev within o w fr at =
    let r = value_side (value_to setting k) side s in
    let a = part_side setting k n side (Join fast all) s fs ev o w fr at refl (within side (in_self side sides)) in
    let at2 = kept_form s r.0 n fs (Join fast all) refl refl at a in
    evals_both s r.0 (rest_valued r.1 (λ x. all_valued (value_to setting k) (outcomes ++ x ∷ []) sides) r.0).0 (n ∷ fs) a
    (rest_valued_keeps r.1 (λ x. all_valued (value_to setting k) (outcomes ++ x ∷ []) sides) r.0 (n ∷ fs) (λ x. all_sides setting k n fast all (outcomes ++ x ∷ []) sides r.0 fs ev (λ y i. within y (in_right y (side ∷ []) sides i)) a.owned a.shaped a.rest at2) (evals_none r.0 (n ∷ fs) a.owned a.shaped a.rest))

join_keeps : (setting : Setting) (k n : ℕ) (fast : Bool) (sides : List ℕ) (s : State) (fs : List ℕ) → EvaluatesTo setting k → Owned s → Shaped s.world → Frames s.world n fs → form_at n s.world.nodes ≡ Some (Join fast sides) → Evals s (join_valued fast (value_to setting k) sides s).0 fs
join_keeps setting k n true sides s fs ev o w fr at = evals_none s fs o w (rest_of s.world n fs fr)
join_keeps setting k n false sides s fs ev o w fr at = evals_less s (all_valued (value_to setting k) [] sides s).0 n fs (all_sides setting k n false sides [] sides s fs ev (λ x i. i) o w fr at)

race_keeps : (setting : Setting) (k n left right : ℕ) (winner : Option ℕ) (s : State) (fs : List ℕ) → EvaluatesTo setting k → Owned s → Shaped s.world → Frames s.world n fs → form_at n s.world.nodes ≡ Some (Race left right winner) → Evals s (winner_valued (value_to setting k) winner s).0 fs
race_keeps setting k n left right None s fs ev o w fr at = evals_none s fs o w (rest_of s.world n fs fr)
race_keeps setting k n left right (Some side) s fs ev o w fr at = evals_less s (value_side (value_to setting k) side s).0 n fs (part_side setting k n side (Race left right (Some side)) s fs ev o w fr at refl (w.winners n left right side at))

form_keeps : (setting : Setting) (k n : ℕ) (form : Option Form) (s : State) (fs : List ℕ) → CommandsKeep setting → EvaluatesTo setting k → Owned s → Shaped s.world → Rest s.world fs → (is_live n s.world.nodes ≡ true → Frames s.world n fs) → form_at n s.world.nodes ≡ form → Evals s (value_form setting (value_to setting k) n form s).0 fs
form_keeps setting k n (Some (Then v e tree)) s fs keep ev o w rest fr at = then_keeps setting k n v e tree s fs keep ev o w (fr (ap is_some at)) at
form_keeps setting k n (Some (Race left right winner)) s fs keep ev o w rest fr at = race_keeps setting k n left right winner s fs ev o w (fr (ap is_some at)) at
form_keeps setting k n (Some (Join fast sides)) s fs keep ev o w rest fr at = join_keeps setting k n fast sides s fs ev o w (fr (ap is_some at)) at
form_keeps setting k n None s fs keep ev o w rest fr at = evals_none s fs o w rest
form_keeps setting k n (Some _) s fs keep ev o w rest fr at = evals_none s fs o w rest

-- the law: evaluating a tree keeps all, and the nodes above stay as they are
pub value_keeps : (setting : Setting) (k : ℕ) → CommandsKeep setting → EvaluatesTo setting k
unfolding value_to
value_keeps setting zero keep n s fs o w rest fr = evals_none s fs o w rest
value_keeps setting (suc k) keep n s fs o w rest fr = form_keeps setting k n (form_at n s.world.nodes) s fs keep (value_keeps setting k keep) o w rest fr refl
