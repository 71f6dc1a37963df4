-- A node whose event fires outlives its tree.
use Rattle.std.proofs.Common.{◌≡◌, inl, ℕ, ◌+◌, ◌≤◌, List, [], ◌∷◌, Bool, true, false, cond, Option, None, Some, arith, refl, sym, ap, ◌∙◌}
use Rattle.std.specs.Prelude.{is_some, option_to_list}
use Rattle.std.proofs.lemmas.Bool.{false≢true}
use Rattle.kj_base.specs.Record.{Item}
use Rattle.kj_model.specs.Nodes.{Form, Hub, form_at, is_in}
use Rattle.kj_model.specs.World.{World, State, Setting, depth_of}
use Rattle.kj_model.specs.Free.{Holding, usual}
use Rattle.kj_model.specs.Value.{value, freed}
use Rattle.kj_model.specs.Fire.{branches_of}
use Rattle.kj_model.specs.Falling.{falling, is_branch_of}
use Rattle.kj_model.specs.Framed.{times}
use Rattle.kj_ownership.specs.Owners.{is_live, owns}
use Rattle.kj_ownership.specs.Standing.{one_if, Owned}
use Rattle.kj_ownership.specs.Stems.{stem}
use Rattle.kj_ownership.specs.Fits.{Fits}
use Rattle.kj_ownership.specs.Firing.{IsFiring, world_freed, Outlives, BranchesOutlive}
use Rattle.kj_model.proofs.Members.{in_self, in_none}
use Rattle.kj_model.proofs.Falling.{node_frees}
use Rattle.kj_ownership.proofs.Stays.{in_times, live_after, owner_live}
use Rattle.kj_ownership.proofs.Climb.{path_stays}
use Rattle.kj_ownership.proofs.Commands.{tended_open, owned_comes, fuel_for, tree_freed}
use Rattle.kj_ownership.proofs.Frames.{framed_tended, stem_owns}
use Rattle.kj_ownership.proofs.Fires.{fired_frames}
use Rattle.kj_ownership.proofs.Evaluates.{Evals, value_keeps, frame_live}
use Rattle.kj_ownership.proofs.Applied.{commands_keep}

-- what a free leaves is read off the nodes, whatever was told before
pub outlives_out : (m t : ℕ) (w : World) → is_in m (falling (usual w) w (depth_of w) [] [] t) ≡ false → is_live m w.nodes ≡ true → Outlives m t w
outlives_out m t w out live past =
    let s : State = record { world = w; past = past } in
    live_after (falling (usual w) w (depth_of w) [] [] t) s (freed t s) m (node_frees (usual w) (depth_of w) t s) out live

forms_freed : (m t : ℕ) (past : List Item) (s : State) → form_at m (world_freed t past s.world).nodes ≡ form_at m (freed t s).world.nodes
forms_freed m t past s = (node_frees (usual s.world) (depth_of s.world) t (record { world = s.world; past = past })).forms m ∙ sym ((node_frees (usual s.world) (depth_of s.world) t s).forms m)

-- the tree is freed, and the node stays
pub fired_outlives : (n t : ℕ) (s : State) → IsFiring n s → owns n t s.world.nodes ≡ true → Outlives n t s.world
fired_outlives n t s f own =
    let gs = option_to_list s.world.firing in
    let td = (framed_tended [] [] [] s n [] f.owned (inl (f.fires, f.live))).0 in
    let comes = owned_comes (Holding gs) [] [] [] s n t td.above f.owned f.live own td.climbs in
    outlives_out n t s.world (path_stays (Holding gs) (depth_of s.world) t [] [] (n ∷ td.above) s f.owned (tended_open [] [] [] gs s n f.owned td) comes (fuel_for s f.owned.room) n (in_self n td.above)) f.live

-- so does its owner
pub owner_outlives : (n q t : ℕ) (s : State) → IsFiring n s → owns n t s.world.nodes ≡ true → owns q n s.world.nodes ≡ true → Outlives q t s.world
owner_outlives n q t s f own own_n =
    let gs = option_to_list s.world.firing in
    let td = (framed_tended [] [] [] s n [] f.owned (inl (f.fires, f.live))).0 in
    let opens = tended_open [] [] [] gs s n f.owned td in
    let comes = owned_comes (Holding gs) [] [] [] s n t td.above f.owned f.live own td.climbs in
    outlives_out q t s.world (path_stays (Holding gs) (depth_of s.world) t [] [] (n ∷ td.above) s f.owned opens comes (fuel_for s f.owned.room) q (opens.up n q (in_self n td.above) own_n)) (owner_live q n s.world.nodes own_n)

-- the branches of a hub
branch_live : (hub : ℕ) (o : Option Form) → is_branch_of hub o ≡ true → is_some o ≡ true
branch_live hub (Some f) e = refl
branch_live hub None e = absurd (false≢true e)

branch_counted : (t : ℕ) (r : Bool) → t + cond r 0 0 ≡ one_if r → 1 ≤ t → r ≡ true
branch_counted t true e l = refl
branch_counted t false e l = absurd (clash t e l)
  where
    clash : (t : ℕ) → t + 0 ≡ 0 → 1 ≤ t → ⊥
    clash t e l = omega (arith, e, l)

branches_found : (o : Option Form) (hub : ℕ) (s : State) → form_at hub s.world.nodes ≡ o → Owned s → (b : ℕ) → is_in b (branches_of o) ≡ true → is_live b s.world.nodes ≡ true
branches_found (Some (Hub content is_named branches)) hub s at st b i = branch_live hub (form_at b s.world.nodes) (branch_counted (times b branches) (is_branch_of hub (form_at b s.world.nodes)) (st.hubs.branches hub content is_named branches at b) (in_times b branches i))
branches_found None hub s at st b i = absurd (in_none b i)
branches_found (Some _) hub s at st b i = absurd (in_none b i)

branches_outlive : (n t : ℕ) (s : State) → IsFiring n s → owns n t s.world.nodes ≡ true → BranchesOutlive n t s.world
branches_outlive n t s f own past b i =
    let td = (framed_tended [] [] [] s n [] f.owned (inl (f.fires, f.live))).0 in
    let tf = tree_freed (option_to_list s.world.firing) [] [] s n t f.owned td own in
    ap is_some (forms_freed b t past s) ∙ branches_found (form_at n (freed t s).world.nodes) n (freed t s) refl tf.standing b (sym (ap (λ (o : Option Form). is_in b (branches_of o)) (forms_freed n t past s)) ∙ i)

-- the tree is evaluated before
pub value_evals : (setting : Setting) (n t : ℕ) (s : State) → Fits setting → IsFiring n s → owns n t s.world.nodes ≡ true → Evals s (value setting t s).0 (n ∷ [])
value_evals setting n t s fits f own = value_keeps setting (depth_of s.world) (commands_keep setting fits) t s (n ∷ []) f.owned f.shaped (inl (f.fires, f.live)) (λ t_live. fired_frames s n t f.owned f.fires f.live own t_live)

pub evals_firing : (s t : State) (n : ℕ) → Evals s t (n ∷ []) → IsFiring n s → IsFiring n t
evals_firing s t n e f = record { owned = e.owned; shaped = e.shaped; fires = e.same.firing ∙ f.fires; live = frame_live t.world n [] e.rest }

evals_owns : (s u : State) (n t : ℕ) → Evals s u (n ∷ []) → owns n t s.world.nodes ≡ true → owns n t u.world.nodes ≡ true
evals_owns s u n t e own = stem_owns n t s.world u.world (e.forms n (in_self n [])) own

pub value_firing : (setting : Setting) (n t : ℕ) (s : State) → Fits setting → IsFiring n s → owns n t s.world.nodes ≡ true → IsFiring n (value setting t s).0
value_firing setting n t s fits f own = evals_firing s (value setting t s).0 n (value_evals setting n t s fits f own) f

pub value_form : (setting : Setting) (n t : ℕ) (s : State) → Fits setting → IsFiring n s → owns n t s.world.nodes ≡ true → stem (form_at n (value setting t s).0.world.nodes) ≡ stem (form_at n s.world.nodes)
value_form setting n t s fits f own = (value_evals setting n t s fits f own).forms n (in_self n [])

pub value_left_over : (setting : Setting) (n t : ℕ) (s : State) → Fits setting → IsFiring n s → owns n t s.world.nodes ≡ true → (value setting t s).0.world.left_over ≡ s.world.left_over
value_left_over setting n t s fits f own = (value_evals setting n t s fits f own).same.left_over

pub value_awaited : (setting : Setting) (n t : ℕ) (s : State) → Fits setting → IsFiring n s → owns n t s.world.nodes ≡ true → (value setting t s).0.world.awaited ≡ s.world.awaited
value_awaited setting n t s fits f own = (value_evals setting n t s fits f own).same.awaited

pub value_outlives : (setting : Setting) (n t : ℕ) (s : State) → Fits setting → IsFiring n s → owns n t s.world.nodes ≡ true → Outlives n t (value setting t s).0.world
value_outlives setting n t s fits f own = let e = value_evals setting n t s fits f own in fired_outlives n t (value setting t s).0 (evals_firing s (value setting t s).0 n e f) (evals_owns s (value setting t s).0 n t e own)

pub value_branches : (setting : Setting) (n t : ℕ) (s : State) → Fits setting → IsFiring n s → owns n t s.world.nodes ≡ true → BranchesOutlive n t (value setting t s).0.world
value_branches setting n t s fits f own = let e = value_evals setting n t s fits f own in branches_outlive n t (value setting t s).0 (evals_firing s (value setting t s).0 n e f) (evals_owns s (value setting t s).0 n t e own)

pub value_owner : (setting : Setting) (n tree owner : ℕ) (s : State) → Fits setting → IsFiring n s → owns n tree s.world.nodes ≡ true → owns owner n s.world.nodes ≡ true → stem (form_at owner (value setting tree s).0.world.nodes) ≡ stem (form_at owner s.world.nodes)
value_owner setting n tree owner s fits f own own_n = (value_evals setting n tree s fits f own).owner n owner f.fires own_n

pub value_owner_outlives : (setting : Setting) (n tree owner : ℕ) (s : State) → Fits setting → IsFiring n s → owns n tree s.world.nodes ≡ true → owns owner n s.world.nodes ≡ true → Outlives owner tree (value setting tree s).0.world
value_owner_outlives setting n tree owner s fits f own own_n =
    let u = (value setting tree s).0 in
    let e = value_evals setting n tree s fits f own in
    owner_outlives n owner tree u (evals_firing s u n e f) (evals_owns s u n tree e own) (stem_owns owner n s.world u.world (e.owner n owner f.fires own_n) own_n)
