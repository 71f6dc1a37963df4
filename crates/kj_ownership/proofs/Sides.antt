-- The Side of a Race or of a join that fires.
use Rattle.std.proofs.Common.{◌≡◌, ℕ, ◌+◌, ◌≤◌, List, [], ◌∷◌, Bool, true, false, cond, Option, None, Some, arith, refl, sym, ap, ◌∙◌, subst, ◌==◌}
use Rattle.std.specs.Prelude.{nat_eq, is_some, option_to_list, find}
use Rattle.std.proofs.lemmas.Bool.{false≢true}
use Rattle.std.proofs.lemmas.Bool.Decides.{nat_tests}
use Rattle.kj_base.specs.Queue.{DepthFirst}
use Rattle.kj_model.specs.Nodes.{Entry, Form, Stage, Waits, Fired, Keeps, Gone, Side, Race, Join, form_at, parts_of, parts_found, parts_at, is_in, with_form, owner_of}
use Rattle.kj_model.specs.World.{State, Setting, depth_of}
use Rattle.kj_model.specs.Changes.{silent, put, frees_in}
use Rattle.kj_model.specs.Listening.{announced, join_ready}
use Rattle.kj_model.specs.Free.{Holding, usual}
use Rattle.kj_model.specs.Value.{freed}
use Rattle.kj_model.specs.Fire.{other_side, tree_freed, race_won, announced_if, all_fired, fast_announced, side_fired_under, side_fired_by, side_fired}
use Rattle.kj_model.specs.Falling.{falling, is_branch_of}
use Rattle.kj_model.specs.Owned.{numbers}
use Rattle.kj_model.specs.Framed.{times}
use Rattle.kj_ownership.specs.Owners.{is_live, owns, is_hub_form}
use Rattle.kj_ownership.specs.Standing.{one_if, owned_times, IsRecorded, Owned}
use Rattle.kj_ownership.specs.Shapes.{Kind, OfSide, suits, part_kind, Shaped}
use Rattle.kj_ownership.specs.Fits.{Fits}
use Rattle.kj_ownership.specs.Firing.{race_decided, loser}
use Rattle.kj_model.proofs.Spared.{same_number, form_put_same, form_put_other}
use Rattle.kj_model.proofs.Members.{in_self, in_right}
use Rattle.kj_model.proofs.Once.{both_ways, false_by}
use Rattle.kj_model.proofs.Freed.{or_false}
use Rattle.kj_model.proofs.Falling.{node_frees}
use Rattle.kj_ownership.proofs.Flat.{Open, Comes, live_number, open_path, part_comes}
use Rattle.kj_ownership.proofs.Stays.{one_place, places_one, hub_unowned, at_least, owner_live}
use Rattle.kj_ownership.proofs.Kept.{standing_frees}
use Rattle.kj_ownership.proofs.Climb.{path_stays, root_goes}
use Rattle.kj_ownership.proofs.Commands.{Tended, tended_open, owned_off, fuel_for, same_form, unnamed_hub}
use Rattle.kj_ownership.proofs.Changed.{put_standing}
use Rattle.kj_ownership.proofs.Shapes.{SuitsAs, suits_alike, empty_suits, no_winner, shaped_put}
use Rattle.kj_ownership.proofs.Evaluates.{CommandsKeep, turn_freed, shaped_free}
use Rattle.kj_ownership.proofs.Walks.{Went, went_both}
use Rattle.kj_ownership.proofs.Firing.{AfterKeeps, went_none, announced_after, plain_fires, side_keeps}

-- the owner that is found
found_is : (p : Entry → Bool) (e : Entry) (es : List Entry) → find p es ≡ Some e → p e ≡ true
found_is p e [] h = absurd (no_entry e h)
  where
    no_entry : (e : Entry) → ◌≡◌ {A = Option Entry} None (Some e) → ⊥
    no_entry e h = cc
found_is p e (x ∷ xs) h = more (p x) refl h (found_is p e xs)
  where
    more : (b : Bool) → p x ≡ b → find p (x ∷ xs) ≡ Some e → (find p xs ≡ Some e → p e ≡ true) → p e ≡ true
    more true q h ih = grind arith
    more false q h ih = grind arith

found_form : (p : Entry → Bool) (e : Entry) (es : List Entry) → ((m : ℕ) → times m (numbers es) ≤ 1) → find p es ≡ Some e → (form_at e.number es ≡ Some e.form) × (1 ≤ times e.number (numbers es))
found_form p e [] apart h = absurd (no_entry e h)
  where
    no_entry : (e : Entry) → ◌≡◌ {A = Option Entry} None (Some e) → ⊥
    no_entry e h = cc
found_form p e (x ∷ xs) apart h = more (p x) refl h (found_form p e xs (λ m. (let a = apart m in omega (arith, a))))
  where
    here : (x : Entry) → (form_at x.number (x ∷ xs) ≡ Some x.form) × (1 ≤ times x.number (numbers (x ∷ xs)))
    here x = (grind (arith, nat_tests), grind (arith, nat_tests))

    entry_is : (x y : Entry) → ◌≡◌ {A = Option Entry} (Some x) (Some y) → x ≡ y
    entry_is x y h = cc

    later : (b : Bool) → nat_eq x.number e.number ≡ b → (form_at e.number xs ≡ Some e.form) × (1 ≤ times e.number (numbers xs)) → (form_at e.number (x ∷ xs) ≡ Some e.form) × (1 ≤ times e.number (numbers (x ∷ xs)))
    later true d r = absurd (clash (cond (x.number == e.number) 1 0) (times e.number (numbers xs)) (ap (λ b. cond b 1 0) d) (apart e.number) r.1)
      where
        clash : (a t : ℕ) → a ≡ 1 → a + t ≤ 1 → 1 ≤ t → ⊥
        clash a t u v w = omega (arith, u, v, w)
    later false d r = (grind (arith, nat_tests), (let a = r.1 in omega (arith, a)))

    more : (b : Bool) → p x ≡ b → find p (x ∷ xs) ≡ Some e → (find p xs ≡ Some e → (form_at e.number xs ≡ Some e.form) × (1 ≤ times e.number (numbers xs))) → (form_at e.number (x ∷ xs) ≡ Some e.form) × (1 ≤ times e.number (numbers (x ∷ xs)))
    more true q h ih = let same : x ≡ e = entry_is x e (first q h) in subst (λ (y : Entry). (form_at y.number (x ∷ xs) ≡ Some y.form) × (1 ≤ times y.number (numbers (x ∷ xs)))) same (here x)
      where
        first : p x ≡ true → find p (x ∷ xs) ≡ Some e → Some x ≡ Some e
        first q h = grind arith
    more false q h ih = later (nat_eq x.number e.number) refl (ih (rest q h))
      where
        rest : p x ≡ false → find p (x ∷ xs) ≡ Some e → find p xs ≡ Some e
        rest q h = grind arith

pub numbers_apart : (s : State) → IsRecorded s → (m : ℕ) → times m (numbers s.world.nodes) ≤ 1
numbers_apart s rec m = most (times m (numbers s.world.nodes)) (times m (frees_in s.past)) _ (rec m)
  where
    most : (a r : ℕ) (b : Bool) → a + r ≡ one_if b → a ≤ 1
    most a r true e = omega (arith, e)
    most a r false e = omega (arith, e)

pub owner_found : (n : ℕ) (e : Entry) (nodes : List Entry) → ((m : ℕ) → times m (numbers nodes) ≤ 1) → owner_of n nodes ≡ Some e → (form_at e.number nodes ≡ Some e.form) × (owns e.number n nodes ≡ true)
owner_found n e nodes apart h =
    let at = found_form (λ (x : Entry). is_in n (parts_of x.form)) e nodes apart h in
    (at.0, ap (λ (o : Option Form). is_in n (parts_found o)) at.0 ∙ found_is (λ (x : Entry). is_in n (parts_of x.form)) e nodes h)

pub owner_is : (n : ℕ) (e : Entry) (s : State) → IsRecorded s → owner_of n s.world.nodes ≡ Some e → (form_at e.number s.world.nodes ≡ Some e.form) × (owns e.number n s.world.nodes ≡ true)
owner_is n e s rec h = owner_found n e s.world.nodes (numbers_apart s rec) h

-- one form in place of another that owns the same
pub went_put : (n : ℕ) (form old : Form) (s : State) → form_at n s.world.nodes ≡ Some old → is_hub_form (Some form) ≡ false → is_hub_form (Some old) ≡ false → ((h : ℕ) → is_branch_of h (Some form) ≡ is_branch_of h (Some old)) → parts_of form ≡ parts_of old → SuitsAs old form → Owned s → Shaped s.world → Went [] [] s (silent (put n form) s)
went_put n form old s at new_hub old_hub branch parts as_old st sh = record {
  standing = put_standing n form old [] [] [] s at new_hub old_hub branch (λ p live. ap (times p) parts) (λ p. subst (λ (ps : List ℕ). times p ps ≤ times p (parts_of old)) (sym parts) (omega arith)) st;
  shaped = shaped_put n form old s.world at as_old sh;
  same = record { firing = refl; awaited = refl; left_over = refl };
}

fired_suits : (t : ℕ) → SuitsAs (Side (Waits t)) (Side (Fired t))
fired_suits t = record {
  suits = suits_alike (Side (Waits t)) (Side (Fired t)) (record { tree = refl; link = refl; side = refl; task = refl; request = λ n. refl; ended = λ h. h });
  parts = λ p i. i;
  kind = λ p i. refl;
  winner = λ l r x e. absurd (no_winner (Some (Side (Fired t))) l r x refl e);
}

side_fired_went : (side t : ℕ) (s : State) → form_at side s.world.nodes ≡ Some (Side (Waits t)) → Owned s → Shaped s.world → Went [] [] s (silent (put side (Side (Fired t))) s)
side_fired_went side t s at st sh = went_put side (Side (Fired t)) (Side (Waits t)) s at refl refl (λ h. refl) refl (fired_suits t) st sh

-- joins
if_after : (b : Bool) (n : ℕ) → AfterKeeps (announced_if b n)
if_after true n s st sh = announced_after n s st sh
if_after false n s st sh = went_none s st sh

all_went : (join : ℕ) (sides : List ℕ) (side t : ℕ) (s : State) → form_at side s.world.nodes ≡ Some (Side (Waits t)) → Owned s → Shaped s.world → Went [] [] s (silent (all_fired join sides side t) s)
all_went join sides side t s at st sh =
    let s1 = silent (put side (Side (Fired t))) s in
    let a = side_fired_went side t s at st sh in
    went_both [] [] [] [] s s1 (silent (announced_if (join_ready false sides s1.world.nodes) join) s1) a (if_after (join_ready false sides s1.world.nodes) join s1 a.standing a.shaped)

fast_after : (b : Bool) (join : ℕ) (sides : List ℕ) → AfterKeeps (fast_announced b join sides)
fast_after true join sides s st sh = went_none s st sh
fast_after false join sides s st sh = if_after (join_ready true sides s.world.nodes) join s st sh

-- a Race: the Side that didn't fire
other_in : (b : Bool) (left right : ℕ) → is_in (other_side b left right) (left ∷ right ∷ []) ≡ true
other_in true left right = in_right right (left ∷ []) (right ∷ []) (in_self right [])
other_in false left right = in_self left (right ∷ [])

twice : (side left right : ℕ) → nat_eq left side ≡ true → nat_eq right side ≡ true → 2 ≤ times side (left ∷ right ∷ [])
twice side left right a b = grind (arith, nat_tests)

other_apart : (s : State) (race left right side : ℕ) (winner : Option ℕ) (b : Bool) → (left == side) ≡ b → form_at race s.world.nodes ≡ Some (Race left right winner) → is_live side s.world.nodes ≡ true → Owned s → nat_eq side (other_side b left right) ≡ false
other_apart s race left right side winner false e at live st = swap left side e
  where
    swap : (a b : ℕ) → nat_eq a b ≡ false → nat_eq b a ≡ false
    swap a b h = grind (arith, nat_tests)
other_apart s race left right side winner true e at live st = false_by (nat_eq side right) (λ d.
    let two : 2 ≤ times side (parts_at race s.world.nodes) = subst (λ (o : Option Form). 2 ≤ times side (parts_found o)) (sym at) (twice side left right e (swap side right d)) in
    let least = at_least (λ q. times side (parts_at q s.world.nodes)) race 2 (numbers s.world.nodes) (live_number race s.world.nodes (ap is_some at)) two in
    clash (owned_times side s.world.nodes) _ _ _ least (st.placed.once side live))
  where
    swap : (a b : ℕ) → nat_eq a b ≡ true → nat_eq b a ≡ true
    swap a b h = grind (arith, nat_tests)

    clash : (d a b c : ℕ) → 2 ≤ d → a + (b + (c + d)) ≡ 1 → ⊥
    clash d a b c x y = omega (arith, x, y)

-- the other Side: its tree goes, while the climb of the one that fires stays
pub record OtherFreed (race other t : ℕ) (s u : State) : Type 0 where
  pub went : Went [] [] s u
  pub at : form_at other u.world.nodes ≡ form_at other s.world.nodes
  pub dead : is_live t u.world.nodes ≡ false
  pub stays : is_in race (falling (usual s.world) s.world (depth_of s.world) [] [] t) ≡ false

pub other_freed : (race side other t : ℕ) (form : Form) (s : State) → Owned s → Shaped s.world → s.world.firing ≡ Some side → owns race side s.world.nodes ≡ true → owns race other s.world.nodes ≡ true → is_live side s.world.nodes ≡ true → nat_eq side other ≡ false → form_at other s.world.nodes ≡ Some form → is_hub_form (Some form) ≡ false → owns other t s.world.nodes ≡ true → OtherFreed race other t s (freed t s)
other_freed race side other t form s st sh firing own own_other live d at plain own_t =
    let w = s.world in
    let gs = option_to_list w.firing in
    let race_live = owner_live race side w.nodes own in
    let cr = st.placed.climbs race race_live in
    let above = race ∷ cr.0 in
    let path = side ∷ above in
    let guards : is_in side gs ≡ true = subst (λ (o : Option ℕ). is_in side (option_to_list o) ≡ true) (sym firing) (in_self side []) in
    let tended : Tended gs s side = record { live = live; above = race ∷ cr.0; climbs = (own, cr.1); hubs = λ h i u. record { node = side; above = race ∷ cr.0; guards = guards; climbs = (own, cr.1); holds_hub = i; on = λ m j. j } } in
    let opens : Open (Holding gs) w [] [] (side ∷ race ∷ cr.0) = tended_open [] [] [] gs s side st tended in
    let other_live : is_live other w.nodes ≡ true = ap is_some at in
    let off : is_in other (side ∷ race ∷ cr.0) ≡ false = or_false (side == other) (is_in other (race ∷ cr.0)) d (owned_off [] [] [] s race other cr.0 st race_live other_live own_other cr.1) in
    let comes : Comes (Holding gs) w [] (side ∷ race ∷ cr.0) other = record {
      off = off;
      up = λ q o. subst (λ (y : ℕ). is_in y (side ∷ race ∷ cr.0) ≡ true) (one_place [] w other race q st.placed other_live own_other o) (in_right race (side ∷ []) (race ∷ cr.0) (in_self race cr.0));
      lost = λ u. absurd (both_ways (owns race other w.nodes) own_other (hub_unowned [] w other race st.placed (unnamed_hub (form_at other w.nodes) u)));
    } in
    let one = places_one [] [] w st.placed st.hubs in
    let wide = open_path (Holding gs) w [] [] (side ∷ race ∷ cr.0) other opens comes other_live refl in
    let t_comes = λ (t_live : is_live t w.nodes ≡ true). part_comes (Holding gs) w [] (side ∷ race ∷ cr.0) other t one opens.up off comes.up own_t t_live in
    let dp = depth_of w in
    let fuel = fuel_for s st.room in
    let ns = falling (Holding gs) w dp [] [] t in
    let fr = node_frees (Holding gs) dp t s in
    let away = path_stays (Holding gs) dp t [] [] (other ∷ side ∷ race ∷ cr.0) s st wide t_comes fuel in
    record {
      went = record { standing = standing_frees (Holding gs) dp t [] [] [] (other ∷ side ∷ race ∷ cr.0) s st wide t_comes fuel (λ m e. refl) (λ m. omega arith); shaped = shaped_free s t sh; same = turn_freed t s };
      at = fr.forms other ∙ same_form (is_in other ns) (λ b. is_in b ns) other w.nodes (form_at other w.nodes) form (away other (in_self other (side ∷ race ∷ cr.0))) at plain ∙ sym at;
      dead = root_goes (Holding gs) dp t [] [] (other ∷ side ∷ race ∷ cr.0) s st wide t_comes fuel;
      stays = away race (in_right race (other ∷ side ∷ []) (race ∷ cr.0) (in_self race cr.0));
    }

times_other : (p t : ℕ) → nat_eq t p ≡ false → times p (t ∷ []) ≡ 0
times_other p t d = grind (arith, nat_tests)

gone_suits : (stage : Stage) → SuitsAs (Side stage) (Side Gone)
gone_suits stage = empty_suits (Side stage) (Side Gone) (record { tree = refl; link = refl; side = refl; task = refl; request = λ n. refl; ended = λ h. h }) refl refl

side_gone : (other t : ℕ) (stage : Stage) (s : State) → form_at other s.world.nodes ≡ Some (Side stage) → parts_of (Side stage) ≡ t ∷ [] → is_live t s.world.nodes ≡ false → Owned s → Shaped s.world → Went [] [] s (silent (put other (Side Gone)) s)
side_gone other t stage s at parts dead st sh = record {
  standing = put_standing other (Side Gone) (Side stage) [] [] [] s at refl refl (λ h. refl)
      (λ p live. sym (ap (times p) parts ∙ times_other p t (false_by (nat_eq t p) (λ e. both_ways (is_live t s.world.nodes) (subst (λ (y : ℕ). is_live y s.world.nodes ≡ true) (same_number t p e) live) dead))))
      (λ p. omega arith) st;
  shaped = shaped_put other (Side Gone) (Side stage) s.world at (gone_suits stage) sh;
  same = record { firing = refl; awaited = refl; left_over = refl };
}

put_dead_more : (n : ℕ) (form : Form) (e : Entry) (es : List Entry) → is_live n (e ∷ es) ≡ false → (is_live n es ≡ false → with_form n form es ≡ es) → with_form n form (e ∷ es) ≡ e ∷ es
put_dead_more n form e es d h = grind (arith, nat_tests)

put_dead : (n : ℕ) (form : Form) (es : List Entry) → is_live n es ≡ false → with_form n form es ≡ es
put_dead n form [] d = refl
put_dead n form (e ∷ es) d = put_dead_more n form e es d (put_dead n form es)

with_tree : (stage : Stage) (t race side other : ℕ) (s : State) → form_at other s.world.nodes ≡ Some (Side stage) → parts_of (Side stage) ≡ t ∷ [] → tree_freed (Some (Side stage)) s ≡ freed t s → Owned s → Shaped s.world → s.world.firing ≡ Some side → owns race side s.world.nodes ≡ true → owns race other s.world.nodes ≡ true → is_live side s.world.nodes ≡ true → nat_eq side other ≡ false → Went [] [] s (silent (λ w. announced DepthFirst race (put other (Side Gone) w)) (tree_freed (Some (Side stage)) s))
with_tree stage t race side other s at parts same st sh firing own own_other live d =
    let own_t : owns other t s.world.nodes ≡ true = ap (λ (o : Option Form). is_in t (parts_found o)) at ∙ ap (is_in t) parts ∙ in_self t [] in
    let u = freed t s in
    let r = other_freed race side other t (Side stage) s st sh firing own own_other live d at refl own_t in
    let v = silent (put other (Side Gone)) u in
    let g = side_gone other t stage u (r.at ∙ at) parts r.dead r.went.standing r.went.shaped in
    let h = went_both [] [] [] [] s u v r.went g in
    subst (λ (x : State). Went [] [] s (silent (λ w. announced DepthFirst race (put other (Side Gone) w)) x)) (sym same)
    (went_both [] [] [] [] s v (silent (announced DepthFirst race) v) h (announced_after race v h.standing h.shaped))

without_tree : (stage : Stage) (race other : ℕ) (s : State) → form_at other s.world.nodes ≡ Some (Side stage) → parts_of (Side stage) ≡ [] → Owned s → Shaped s.world → Went [] [] s (silent (λ w. announced DepthFirst race (put other (Side Gone) w)) s)
without_tree stage race other s at parts st sh =
    let v = silent (put other (Side Gone)) s in
    let g = went_put other (Side Gone) (Side stage) s at refl refl (λ h. refl) (sym parts) (gone_suits stage) st sh in
    went_both [] [] [] [] s v (silent (announced DepthFirst race) v) g (announced_after race v g.standing g.shaped)

-- the tree of the other Side goes, and the Race is ready
other_ends : (o : Option Form) (race side other : ℕ) (s : State) → form_at other s.world.nodes ≡ o → suits OfSide o ≡ true → Owned s → Shaped s.world → s.world.firing ≡ Some side → owns race side s.world.nodes ≡ true → owns race other s.world.nodes ≡ true → is_live side s.world.nodes ≡ true → nat_eq side other ≡ false → Went [] [] s (silent (λ w. announced DepthFirst race (put other (Side Gone) w)) (tree_freed o s))
other_ends (Some (Side (Waits t))) race side other s at suit st sh firing own own_other live d = with_tree (Waits t) t race side other s at refl refl st sh firing own own_other live d
other_ends (Some (Side (Fired t))) race side other s at suit st sh firing own own_other live d = with_tree (Fired t) t race side other s at refl refl st sh firing own own_other live d
other_ends (Some (Side (Keeps o))) race side other s at suit st sh firing own own_other live d = without_tree (Keeps o) race other s at refl st sh
other_ends (Some (Side Gone)) race side other s at suit st sh firing own own_other live d = without_tree Gone race other s at refl st sh
other_ends None race side other s at suit st sh firing own own_other live d =
    subst (λ (es : List Entry). Went [] [] s (silent (λ w. announced DepthFirst race (record w { nodes = es })) s)) (sym (put_dead other (Side Gone) s.world.nodes (ap is_some at))) (announced_after race s st sh)
other_ends (Some _) race side other s at suit st sh firing own own_other live d = absurd (false≢true suit)

-- the Race that was decided
race_suits : (left right side : ℕ) → is_in side (left ∷ right ∷ []) ≡ true → SuitsAs (Race left right None) (Race left right (Some side))
race_suits left right side i = record {
  suits = suits_alike (Race left right None) (Race left right (Some side)) (record { tree = refl; link = refl; side = refl; task = refl; request = λ n. refl; ended = λ h. h });
  parts = λ p j. j;
  kind = λ p j. refl;
  winner = λ l r x e. subst (λ (xs : List ℕ). is_in x xs ≡ true) (ap parts_found e) (subst (λ (y : ℕ). is_in y (left ∷ right ∷ []) ≡ true) (ap (winner_in side) e) i);
}
  where
    winner_in : ℕ → Option Form → ℕ
    winner_in other (Some (Race l r (Some x))) = x
    winner_in other o = other

-- the first Side of a Race has fired
pub record IsDecided (race left right side t : ℕ) (s u : State) : Type 0 where
  pub went : Went [] [] s u
  pub at : form_at race u.world.nodes ≡ Some (Race left right (Some side))
  pub owns_side : owns race side u.world.nodes ≡ true
  pub owns_other : owns race (loser left right side) u.world.nodes ≡ true
  pub side_at : form_at side u.world.nodes ≡ Some (Side (Fired t))
  pub suit : suits OfSide (form_at (loser left right side) s.world.nodes) ≡ true
  pub other_at : form_at (loser left right side) u.world.nodes ≡ form_at (loser left right side) s.world.nodes
  pub apart : nat_eq side (loser left right side) ≡ false
  pub race_apart : nat_eq race (loser left right side) ≡ false

pub is_decided : (race left right side t : ℕ) (s : State) → Owned s → Shaped s.world → form_at race s.world.nodes ≡ Some (Race left right None) → owns race side s.world.nodes ≡ true → form_at side s.world.nodes ≡ Some (Side (Waits t)) → IsDecided race left right side t s (silent (race_decided race left right side t) s)
is_decided race left right side t s st sh at own side_at =
    let other = loser left right side in
    let side_live : is_live side s.world.nodes ≡ true = ap is_some side_at in
    let side_in : is_in side (left ∷ right ∷ []) ≡ true = sym (ap (λ (o : Option Form). is_in side (parts_found o)) at) ∙ own in
    let race_side : nat_eq side race ≡ false = false_by (nat_eq side race) (λ e. false≢true (sym (ap is_race side_at) ∙ ap is_race (subst (λ (y : ℕ). form_at y s.world.nodes ≡ Some (Race left right None)) (same_number side race e) at))) in
    let a = side_fired_went side t s side_at st sh in
    let s1 = silent (put side (Side (Fired t))) s in
    let at1 : form_at race s1.world.nodes ≡ Some (Race left right None) = form_put_other side race (Side (Fired t)) s.world.nodes race_side ∙ at in
    let b = went_put race (Race left right (Some side)) (Race left right None) s1 at1 refl refl (λ h. refl) refl (race_suits left right side side_in) a.standing a.shaped in
    let s2 = silent (put race (Race left right (Some side))) s1 in
    let at2 : form_at race s2.world.nodes ≡ Some (Race left right (Some side)) = form_put_same race (Race left right (Some side)) (Race left right None) s1.world.nodes at1 in
    let own_before : owns race other s.world.nodes ≡ true = ap (λ (o : Option Form). is_in other (parts_found o)) at ∙ other_in (left == side) left right in
    let suit : suits OfSide (form_at other s.world.nodes) ≡ true = subst (λ (k : Kind). suits k (form_at other s.world.nodes) ≡ true) (ap part_kind at) (sh.parts race other own_before) in
    let race_other : nat_eq race other ≡ false = false_by (nat_eq race other) (λ e. false≢true (ap (suits OfSide) (sym at) ∙ subst (λ (y : ℕ). suits OfSide (form_at y s.world.nodes) ≡ true) (same_number race other e) suit)) in
    let d = other_apart s race left right side None (left == side) refl at side_live st in
    record {
      went = went_both [] [] [] [] s s1 s2 a b;
      at = at2;
      owns_side = ap (λ (o : Option Form). is_in side (parts_found o)) at2 ∙ side_in;
      owns_other = ap (λ (o : Option Form). is_in other (parts_found o)) at2 ∙ other_in (left == side) left right;
      side_at = form_put_other race side (Race left right (Some side)) s1.world.nodes (swap side race race_side) ∙ form_put_same side (Side (Fired t)) (Side (Waits t)) s.world.nodes side_at;
      suit = suit;
      other_at = form_put_other race other (Race left right (Some side)) s1.world.nodes race_other ∙ form_put_other side other (Side (Fired t)) s.world.nodes d;
      apart = d;
      race_apart = race_other;
    }
  where
    is_race : Option Form → Bool
    is_race (Some (Race l r w)) = true
    is_race other = false

    swap : (a b : ℕ) → nat_eq a b ≡ false → nat_eq b a ≡ false
    swap a b h = grind (arith, nat_tests)

race_went : (race left right side t : ℕ) (s : State) → Owned s → Shaped s.world → s.world.firing ≡ Some side → form_at race s.world.nodes ≡ Some (Race left right None) → owns race side s.world.nodes ≡ true → form_at side s.world.nodes ≡ Some (Side (Waits t)) → Went [] [] s (race_won race left right side (loser left right side) t s)
race_went race left right side t s st sh firing at own side_at =
    let other = loser left right side in
    let s2 = silent (race_decided race left right side t) s in
    let r = is_decided race left right side t s st sh at own side_at in
    let e = other_ends (form_at other s.world.nodes) race side other s2 r.other_at r.suit r.went.standing r.went.shaped (r.went.same.firing ∙ firing) r.owns_side r.owns_other (ap is_some r.side_at) r.apart in
    went_both [] [] [] [] s s2 (race_won race left right side other t s) r.went e

-- the Side under its owner
under : (setting : Setting) (owner : ℕ) (form : Form) (side t : ℕ) (s : State) → Fits setting → CommandsKeep setting → Owned s → Shaped s.world → s.world.firing ≡ Some side → form_at owner s.world.nodes ≡ Some form → owns owner side s.world.nodes ≡ true → form_at side s.world.nodes ≡ Some (Side (Waits t)) → Went [] [] s (side_fired_under setting owner form side t s)
under setting owner (Race left right None) side t s fits commands st sh firing at own side_at = race_went owner left right side t s st sh firing at own side_at
under setting owner (Race left right (Some winner)) side t s fits commands st sh firing at own side_at = went_none s st sh
under setting owner (Join true sides) side t s fits commands st sh firing at own side_at = plain_fires setting (fast_announced (join_ready true sides s.world.nodes) owner sides) side t (Side (Waits t)) s fits commands (fast_after (join_ready true sides s.world.nodes) owner sides) (side_keeps t) refl st sh firing side_at
under setting owner (Join false sides) side t s fits commands st sh firing at own side_at = all_went owner sides side t s side_at st sh
under setting owner _ side t s fits commands st sh firing at own side_at = went_none s st sh

by_owner : (o : Option Entry) (setting : Setting) (side t : ℕ) (s : State) → owner_of side s.world.nodes ≡ o → Fits setting → CommandsKeep setting → Owned s → Shaped s.world → s.world.firing ≡ Some side → form_at side s.world.nodes ≡ Some (Side (Waits t)) → Went [] [] s (side_fired_by setting o side t s)
by_owner None setting side t s is fits commands st sh firing at = went_none s st sh
by_owner (Some e) setting side t s is fits commands st sh firing at = let r = owner_is side e s st.recorded is in under setting e.number e.form side t s fits commands st sh firing r.0 r.1 at

pub side_fires : (setting : Setting) (n : ℕ) (stage : Stage) (s : State) → Fits setting → CommandsKeep setting → Owned s → Shaped s.world → s.world.firing ≡ Some n → form_at n s.world.nodes ≡ Some (Side stage) → Went [] [] s (side_fired setting n stage s)
side_fires setting n (Waits t) s fits commands st sh firing at = by_owner (owner_of n s.world.nodes) setting n t s refl fits commands st sh firing at
side_fires setting n (Fired t) s fits commands st sh firing at = went_none s st sh
side_fires setting n (Keeps o) s fits commands st sh firing at = went_none s st sh
side_fires setting n Gone s fits commands st sh firing at = went_none s st sh
