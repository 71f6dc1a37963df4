-- Each command that frees nothing, where it isn't refused.
use Rattle.std.proofs.Common.{◌≡◌, ℕ, ◌+◌, ◌<◌, ◌≤◌, List, [], ◌∷◌, ◌++◌, length, Bool, true, false, cond, Option, None, Some, arith, refl, sym, ap, ◌∙◌, subst, ◌||◌, ◌==◌}
use Rattle.std.specs.Prelude.{nat_eq, map, is_some}
use Rattle.std.specs.List.{fold}
use Rattle.std.proofs.lemmas.Bool.{false≢true, or_parts}
use Rattle.std.proofs.lemmas.Bool.Decides.{nat_tests}
use Rattle.kj_base.specs.declared.outcomes.Outcome.TheVariants.{Value, Broken as BrokenBy}
use Rattle.kj_base.specs.Commands.{Command, Now, Broken, Later, Last, Pair, Then, Chain, Eager, Fork, Branch, Race, All, Fast, Fulfil, Reject, DropCell, NewSet, Add, Clear, OnEmpty, NewCanceler, Wrap, Cancel, Detach, Drop, Ask, Begin, Stop, Reply}
use Rattle.kj_base.specs.Places.{Row, counts}
use Rattle.kj_model.specs.Nodes.{Form, Content, Hub, Branch as BranchNode, form_at}
use Rattle.kj_model.specs.World.{World, State, Setting, Named, Held, Promise, CellOf, HubOf, held_at}
use Rattle.kj_model.specs.Changes.{silent, put, without_name}
use Rattle.kj_model.specs.Places.{built}
use Rattle.kj_model.specs.Free.{Guard}
use Rattle.kj_model.specs.Uses.{IsNew, use_as, used_before, is_new, is_name}
use Rattle.kj_model.specs.Apply.{before_source, anew}
use Rattle.kj_model.specs.Effects.{effect, node_of, leaf_built, with_branch_in, branch_built}
use Rattle.kj_model.specs.Falling.{is_branch_of}
use Rattle.kj_model.specs.Owned.{is_hub_name}
use Rattle.kj_model.specs.Framed.{times, held_total, name_numbers}
use Rattle.kj_ownership.specs.Owners.{is_live, is_hub_form}
use Rattle.kj_ownership.specs.Standing.{one_if, Standing, Owned}
use Rattle.kj_ownership.specs.Stems.{stem}
use Rattle.kj_ownership.specs.Shapes.{OfTree, suits, Shaped}
use Rattle.kj_ownership.specs.Fits.{Fits}
use Rattle.kj_model.proofs.Spared.{same_number}
use Rattle.kj_model.proofs.Members.{in_none}
use Rattle.kj_model.proofs.Once.{both_ways, false_by}
use Rattle.kj_model.proofs.Counts.{held_split}
use Rattle.kj_ownership.proofs.Moves.{not_live}
use Rattle.kj_ownership.proofs.Changed.{at_put}
use Rattle.kj_ownership.proofs.Hubs.{branch_keeps}
use Rattle.kj_ownership.proofs.Shapes.{no_winner, SuitsAs, suits_alike, shaped_put}
use Rattle.kj_ownership.proofs.Reached.{Stays, stays_both, Reached, reached_none, reached_named, reached_built}
use Rattle.kj_ownership.proofs.Premises.{Allowed, found_none, new_absent, room_for, promise_is, cell_is, ask_is, hub_is, group_is, canceler_is}
use Rattle.kj_ownership.proofs.Builders.{Built, built_is, leaf_reached, one_suits}
use Rattle.kj_ownership.proofs.Makes.{ready_promised, later_promised, last_promised, over_sources, pair_reached, then_reached, eager_reached, chain_reached, fork_reached, race_reached, join_reached, settled_reached, dropped_reached, replied_reached, set_reached, canceler_reached, added_reached, detached_reached, empty_reached, wrap_reached, ask_reached, request_reached}

-- a hub with another name flag or other branches
pub hub_suits : (c : Content) (a b : Bool) (xs ys : List ℕ) → SuitsAs (Hub c a xs) (Hub c b ys)
hub_suits c a b xs ys = record {
  suits = suits_alike (Hub c a xs) (Hub c b ys) (record { tree = refl; link = refl; side = refl; task = refl; request = λ n. refl; ended = λ h. h });
  parts = λ p i. i;
  kind = λ p i. refl;
  winner = λ l r x e. absurd (no_winner (Some (Hub c b ys)) l r x refl e);
}

pub stays_hub : (h : ℕ) (c : Content) (a b : Bool) (xs ys : List ℕ) (w : World) → form_at h w.nodes ≡ Some (Hub c a xs) → Stays w (put h (Hub c b ys) w)
stays_hub h c a b xs ys w at = record { forms = λ m live cell. at_put h m (Hub c b ys) (Hub c a xs) w.nodes (Option Form) stem at refl; same = record { firing = refl; awaited = refl; left_over = refl } }

-- a branch of what is no live hub needs no hub that lists it
no_lone : (n h : ℕ) (loose out : List ℕ) (s : State) → form_at n s.world.nodes ≡ Some (BranchNode h) → is_hub_form (form_at h s.world.nodes) ≡ false → Standing loose out (n ∷ []) s → Standing loose out [] s
no_lone n h loose out s at no_hub st = record {
  placed = st.placed;
  names = st.names;
  hubs = record { name = st.hubs.name; branches = λ g c is_named bs g_at b. ap (λ t. times b bs + t) (none g c is_named bs g_at b (nat_eq n b) refl (is_branch_of g (form_at b s.world.nodes)) refl) ∙ st.hubs.branches g c is_named bs g_at b };
  below = st.below;
  recorded = st.recorded;
  in_order = st.in_order;
  room = st.room;
  queue = st.queue;
  queued = st.queued;
  spots = st.spots;
}
  where
    none : (g : ℕ) (c : Content) (is_named : Bool) (bs : List ℕ) → form_at g s.world.nodes ≡ Some (Hub c is_named bs) → (b : ℕ) (d : Bool) → nat_eq n b ≡ d → (r : Bool) → is_branch_of g (form_at b s.world.nodes) ≡ r → ◌≡◌ {A = ℕ} (cond r 0 0) (cond r (times b (n ∷ [])) 0)
    none g c is_named bs g_at b d e false is = refl
    none g c is_named bs g_at b false e true is = grind (arith, nat_tests)
    none g c is_named bs g_at b true e true is =
        let is_h : nat_eq h g ≡ true = sym (ap (is_branch_of g) (subst (λ (y : ℕ). form_at y s.world.nodes ≡ Some (BranchNode h)) (sym (same_number n b e)) at)) ∙ is in
        absurd (both_ways (is_hub_form (form_at h s.world.nodes)) (subst (λ (y : ℕ). is_hub_form (form_at y s.world.nodes) ≡ true) (same_number h g is_h) (ap is_hub_form g_at)) no_hub)

branch_dead : (name h : ℕ) (s : State) → is_hub_form (form_at h s.world.nodes) ≡ false → Owned s → Reached [] [] (s.world.next ∷ []) s (silent (leaf_built name (BranchNode h)) s) → Reached [] [] [] s (silent (leaf_built name (BranchNode h)) s)
branch_dead name h s no_hub st r = record { standing = no_lone s.world.next h [] [] (silent (leaf_built name (BranchNode h)) s) b.at (later (nat_eq s.world.next h) refl) r.standing; shaped = r.shaped; stays = r.stays }
  where
    b : Built (BranchNode h) s.world (built None (BranchNode h) s.world)
    b = built_is None (BranchNode h) s st.recorded

    later : (d : Bool) → nat_eq s.world.next h ≡ d → is_hub_form (form_at h (built None (BranchNode h) s.world).nodes) ≡ false
    later true e = ap is_hub_form (subst (λ (y : ℕ). form_at y (built None (BranchNode h) s.world).nodes ≡ Some (BranchNode h)) (sym (same_number s.world.next h e)) (built_is None (BranchNode h) s st.recorded).at)
    later false e = ap is_hub_form ((built_is None (BranchNode h) s st.recorded).others h e) ∙ no_hub

-- Branch
branch_in : (o : Option Form) (guard : Guard) (name hub h : ℕ) (s : State) → form_at h s.world.nodes ≡ o → held_at hub s.world.names ≡ Some (HubOf h) → times name (name_numbers s.world.names) ≡ 0 → length s.world.nodes < s.world.limits.slots → Owned s → Shaped s.world → Reached [] [] (s.world.next ∷ []) s (silent (leaf_built name (BranchNode h)) s) → Reached [] [] [] s (silent (λ w. with_branch_in w.next h o (leaf_built name (BranchNode h) w)) s)
branch_in (Some (Hub c is_named bs)) guard name hub h s at held fresh room st sh r = record {
  standing = subst (λ (o : Option Form). Owned (silent (λ w. with_branch_in w.next h o (leaf_built name (BranchNode h) w)) s)) at
      (subst (λ (x : ℕ). Owned (silent (λ w. with_branch_in w.next x (form_at x w.nodes) (leaf_built name (BranchNode x) w)) s)) (ap node_of held)
      (branch_keeps guard name hub h c is_named bs s (ap node_of held) at fresh room st));
  shaped = shaped_put h (Hub c is_named (bs ++ s.world.next ∷ [])) (Hub c is_named bs) v at2 (hub_suits c is_named is_named bs (bs ++ s.world.next ∷ [])) r.shaped;
  stays = stays_both s.world v (put h (Hub c is_named (bs ++ s.world.next ∷ [])) v) r.stays (stays_hub h c is_named is_named bs (bs ++ s.world.next ∷ []) v at2);
}
  where
    v : World
    v = leaf_built name (BranchNode h) s.world

    off : nat_eq s.world.next h ≡ false
    off = false_by (nat_eq s.world.next h) (λ e. not_next (same_number s.world.next h e))
      where
        not_next : h ≡ s.world.next → ⊥
        not_next e =
            let l = not_live s st.recorded in
            both_ways (is_live h s.world.nodes) (ap is_some at) (subst (λ (y : ℕ). is_live y s.world.nodes ≡ false) (sym e) l)

    at2 : form_at h (leaf_built name (BranchNode h) s.world).nodes ≡ Some (Hub c is_named bs)
    at2 = (built_is None (BranchNode h) s st.recorded).others h off ∙ at
branch_in None guard name hub h s at held fresh room st sh r = branch_dead name h s (ap is_hub_form at) st r
branch_in (Some _) guard name hub h s at held fresh room st sh r = branch_dead name h s (ap is_hub_form at) st r

-- a hub that is named has a number below the next
hub_below : (hub h n : ℕ) (s : State) → held_at hub s.world.names ≡ Some (HubOf h) → Owned s → s.world.next < n → (h == n) ≡ false
hub_below hub h n s at st l = false_by (h == n) (λ e.
    let same = same_number h n e in
    let z = st.below.names n (omega (arith, l)) in
    let a = held_split (λ (x : Held). one_if (is_hub_name n x)) hub s.world.names (HubOf h) at st.names in
    clash (held_total (λ (x : Held). one_if (is_hub_name n x)) s.world.names) (one_if (h == n)) (held_total (λ (x : Held). one_if (is_hub_name n x)) (without_name hub s.world.names)) z a (ap one_if e))
  where
    clash : (t a b : ℕ) → t + 0 ≡ 0 → t ≡ a + b → a ≡ 1 → ⊥
    clash t a b x y z = omega (arith, x, y, z)

pub branch_reached : (guard : Guard) (name hub h : ℕ) (s : State) → held_at hub s.world.names ≡ Some (HubOf h) → times name (name_numbers s.world.names) ≡ 0 → length s.world.nodes < s.world.limits.slots → Owned s → Shaped s.world → Reached [] [] [] s (silent (branch_built name hub) s)
branch_reached guard name hub h s at fresh room st sh =
    let r1 : Reached (s.world.next ∷ []) [] (s.world.next ∷ []) s (silent (built None (BranchNode h)) s) = reached_built None (BranchNode h) [] [] s s refl room (λ n l. hub_below hub h n s at st l) (λ p i. absurd (in_none p i)) (λ l k x e. no_winner (Some (BranchNode h)) l k x refl e) (reached_none s st sh) in
    let b = built_is None (BranchNode h) s st.recorded in
    let r2 = reached_named name (Promise s.world.next) [] [] (s.world.next ∷ []) s (silent (built None (BranchNode h)) s) (ap (λ (ns : List Named). times name (name_numbers ns)) b.names ∙ fresh) (one_suits s.world.next OfTree (λ p. form_at p (built None (BranchNode h) s.world).nodes) (ap (suits OfTree) b.at)) r1 in
    subst (λ (x : ℕ). Reached [] [] [] s (silent (λ w. with_branch_in w.next x (form_at x w.nodes) (leaf_built name (BranchNode x) w)) s)) (sym (ap node_of at))
    (branch_in (form_at h s.world.nodes) guard name hub h s refl at fresh room st sh r2)

-- the commands that free nothing
abbrev pub is_making : Command → Bool
is_making (Clear group) = false
is_making (Cancel canceler) = false
is_making (Drop name) = false
is_making (Stop request) = false
is_making other = true

less_one : (n s : ℕ) → n + 1 ≤ s → n < s
less_one n s h = omega (arith, h)

less_three : (n s : ℕ) → n + 3 ≤ s → n + 2 < s
less_three n s h = omega (arith, h)

added_counts : (k : ℕ) (sources : List ℕ) (w : World) → fold ◌+◌ k (map (λ (r : Row). r.count) (map (λ source. before_source 1 source w) sources ++ anew 1 ∷ [])) ≡ k + length sources + 1
added_counts k [] w = omega arith
added_counts k (source ∷ sources) w = let h = added_counts (k + 1) sources w in h ∙ omega arith

join_counts : (sources : List ℕ) (w : World) → counts (map (λ source. before_source 1 source w) sources ++ anew 1 ∷ []) ≡ length sources + 1
join_counts sources w = added_counts 0 sources w ∙ omega arith

less_join : (n k c s : ℕ) → c ≡ k + 1 → n + c ≤ s → n + k < s
less_join n k c s e h = omega (arith, e, h)

-- the second of two new names is no first
new_apart : (name cell : ℕ) (w : World) → (is_name cell w.names || used_before is_new cell (use_as IsNew name ∷ [])) ≡ false → nat_eq name cell ≡ false
new_apart name cell w f = (or_parts (name == cell) false (or_parts (is_name cell w.names) (used_before is_new cell (use_as IsNew name ∷ [])) f).1).0

pub made : (setting : Setting) (inside : Bool) (guard : Guard) (c : Command) (s : State) → Fits setting → Allowed setting inside c s → Owned s → Shaped s.world → is_making c ≡ true → Reached [] [] [] s (effect guard c s)
made setting inside guard (Now name words) s fits a st sh m = leaf_reached name _ s (ready_promised (Value words)) refl (new_absent name false s.world.names (found_none _ _ _ a.untaken).0) (less_one _ _ (room_for setting (Now name words) s.world fits a.roomy st.spots)) st sh
made setting inside guard (Broken name exception) s fits a st sh m = leaf_reached name _ s (ready_promised (BrokenBy exception)) refl (new_absent name false s.world.names (found_none _ _ _ a.untaken).0) (less_one _ _ (room_for setting (Broken name exception) s.world fits a.roomy st.spots)) st sh
made setting inside guard (Later name) s fits a st sh m = leaf_reached name _ s later_promised refl (new_absent name false s.world.names (found_none _ _ _ a.untaken).0) (less_one _ _ (room_for setting (Later name) s.world fits a.roomy st.spots)) st sh
made setting inside guard (Last name) s fits a st sh m = leaf_reached name _ s last_promised refl (new_absent name false s.world.names (found_none _ _ _ a.untaken).0) (less_one _ _ (room_for setting (Last name) s.world fits a.roomy st.spots)) st sh
made setting inside guard (Pair name cell) s fits a st sh m =
    let p = found_none _ _ _ a.untaken in
    let q = found_none _ _ _ p.1 in
    pair_reached name cell (λ n. CellOf n) s (λ n. refl) (λ n. refl) (new_absent name false s.world.names p.0) (new_absent cell _ s.world.names q.0) (new_apart name cell s.world q.0) (less_one _ _ (room_for setting (Pair name cell) s.world fits a.roomy st.spots)) st sh
made setting inside guard (Then name source v e) s fits a st sh m = then_reached name source v e s (over_sources name (source ∷ []) s.world a.known a.right a.untaken) (less_one _ _ (room_for setting (Then name source v e) s.world fits a.roomy st.spots)) st sh
made setting inside guard (Chain name source v e) s fits a st sh m = chain_reached name source v e s (over_sources name (source ∷ []) s.world a.known a.right a.untaken) (room_for setting (Chain name source v e) s.world fits a.roomy st.spots) st sh
made setting inside guard (Eager name source) s fits a st sh m = eager_reached name source s (over_sources name (source ∷ []) s.world a.known a.right a.untaken) (less_one _ _ (room_for setting (Eager name source) s.world fits a.roomy st.spots)) st sh
made setting inside guard (Fork hub source) s fits a st sh m = fork_reached hub source s (over_sources hub (source ∷ []) s.world a.known a.right a.untaken) (less_one _ _ (room_for setting (Fork hub source) s.world fits a.roomy st.spots)) st sh
made setting inside guard (Branch name hub) s fits a st sh m =
    let h = hub_is (held_at hub s.world.names) (found_none _ _ _ a.right).0 in
    branch_reached guard name hub h.0 s h.1 (new_absent name false s.world.names (found_none _ _ _ a.untaken).0) (less_one _ _ (room_for setting (Branch name hub) s.world fits a.roomy st.spots)) st sh
made setting inside guard (Race name left right) s fits a st sh m = race_reached name left right s (over_sources name (left ∷ right ∷ []) s.world a.known a.right a.untaken) (less_three _ _ (room_for setting (Race name left right) s.world fits a.roomy st.spots)) st sh
made setting inside guard (All name sources) s fits a st sh m = join_reached false name sources s (over_sources name sources s.world a.known a.right a.untaken) (less_join _ _ _ _ (join_counts sources s.world) (room_for setting (All name sources) s.world fits a.roomy st.spots)) st sh
made setting inside guard (Fast name sources) s fits a st sh m = join_reached true name sources s (over_sources name sources s.world a.known a.right a.untaken) (less_join _ _ _ _ (join_counts sources s.world) (room_for setting (Fast name sources) s.world fits a.roomy st.spots)) st sh
made setting inside guard (Fulfil cell words) s fits a st sh m = settled_reached cell (Value words) s st sh
made setting inside guard (Reject cell exception) s fits a st sh m = settled_reached cell (BrokenBy exception) s st sh
made setting inside guard (DropCell cell) s fits a st sh m = let h = cell_is (held_at cell s.world.names) (found_none _ _ _ a.right).0 in dropped_reached cell h.0 s h.1 st sh
made setting inside guard (NewSet group error) s fits a st sh m = set_reached group error s (new_absent group false s.world.names (found_none _ _ _ a.untaken).0) st sh
made setting inside guard (Add group source) s fits a st sh m =
    let p = found_none _ _ _ a.right in
    let q = found_none _ _ _ p.1 in
    let g = group_is (held_at group s.world.names) p.0 in
    let t = promise_is (held_at source s.world.names) q.0 in
    added_reached group source t.0 g.0 g.1 g.2 s g.3 t.1 (less_one _ _ (room_for setting (Add group source) s.world fits a.roomy st.spots)) st sh
made setting inside guard (Clear group) s fits a st sh m = absurd (false≢true m)
made setting inside guard (OnEmpty name group) s fits a st sh m = empty_reached name group s (new_absent name false s.world.names (found_none _ _ _ a.untaken).0) (less_one _ _ (room_for setting (OnEmpty name group) s.world fits a.roomy st.spots)) st sh
made setting inside guard (NewCanceler canceler) s fits a st sh m = canceler_reached canceler s (new_absent canceler false s.world.names (found_none _ _ _ a.untaken).0) st sh
made setting inside guard (Wrap name canceler source) s fits a st sh m =
    let p = found_none _ _ _ a.right in
    let c = canceler_is (held_at canceler s.world.names) p.0 in
    let t = promise_is (held_at source s.world.names) (found_none _ _ _ p.1).0 in
    wrap_reached name canceler source t.0 c.0 s c.1 t.1 (new_absent name false s.world.names (found_none _ _ _ a.untaken).0) (less_one _ _ (room_for setting (Wrap name canceler source) s.world fits a.roomy st.spots)) st sh
made setting inside guard (Cancel canceler) s fits a st sh m = absurd (false≢true m)
made setting inside guard (Detach source) s fits a st sh m = let t = promise_is (held_at source s.world.names) (found_none _ _ _ a.right).0 in detached_reached source t.0 s t.1 (less_one _ _ (room_for setting (Detach source) s.world fits a.roomy st.spots)) st sh
made setting inside guard (Drop name) s fits a st sh m = absurd (false≢true m)
made setting inside guard (Ask name cell target step words) s fits a st sh m =
    let p = found_none _ _ _ a.untaken in
    let q = found_none _ _ _ p.1 in
    ask_reached name cell target step words s (new_absent name false s.world.names p.0) (new_absent cell _ s.world.names q.0) (new_apart name cell s.world q.0) (less_one _ _ (room_for setting (Ask name cell target step words) s.world fits a.roomy st.spots)) st sh
made setting inside guard (Begin request step words) s fits a st sh m = request_reached request step words s (new_absent request false s.world.names (found_none _ _ _ a.untaken).0) (room_for setting (Begin request step words) s.world fits a.roomy st.spots) st sh
made setting inside guard (Stop request) s fits a st sh m = absurd (false≢true m)
made setting inside guard (Reply cell outcome) s fits a st sh m = let h = ask_is (held_at cell s.world.names) (found_none _ _ _ a.right).0 in replied_reached cell h.0 h.1 outcome s h.2 st sh
