-- An event that fires: nodes that keep an outcome in place of their tree.
use Rattle.std.proofs.Common.{◌≡◌, inl, ℕ, ◌+◌, List, [], ◌∷◌, Bool, true, false, cond, Option, None, Some, arith, refl, sym, ap, ◌∙◌, subst}
use Rattle.std.specs.Prelude.{nat_eq, is_some, option_to_list}
use Rattle.std.proofs.lemmas.Bool.{false≢true}
use Rattle.std.proofs.lemmas.Bool.Decides.{nat_tests}
use Rattle.kj_base.specs.declared.outcomes.Outcome.{Outcome}
use Rattle.kj_base.specs.Queue.{DepthFirst}
use Rattle.kj_model.specs.Nodes.{Entry, Form, Content, Tree, Kept, Eager, Wrap, Hub, Side, Waits, Keeps, form_at, parts_found, is_in, with_form, kept_form}
use Rattle.kj_model.specs.World.{World, State, Setting, Held, depth_of}
use Rattle.kj_model.specs.Changes.{silent, put}
use Rattle.kj_model.specs.Listening.{announced}
use Rattle.kj_model.specs.Value.{value, freed}
use Rattle.kj_model.specs.Fire.{kept_at, kept_then, kept_from, each_announced, branches_of, branches_announced}
use Rattle.kj_model.specs.Free.{usual}
use Rattle.kj_model.specs.Trees.{none_if}
use Rattle.kj_model.specs.Falling.{branches_staying, some_staying, falling, is_branch_of}
use Rattle.kj_model.specs.Outcomes.{void}
use Rattle.kj_model.specs.Owned.{is_hub_name}
use Rattle.kj_model.specs.Framed.{times, held_total}
use Rattle.kj_ownership.specs.Owners.{is_live, owns, is_hub_form}
use Rattle.kj_ownership.specs.Standing.{one_if, Owned}
use Rattle.kj_ownership.specs.Stems.{stem, Frames}
use Rattle.kj_ownership.specs.Shapes.{Shaped}
use Rattle.kj_ownership.specs.Fits.{Fits}
use Rattle.kj_model.proofs.Spared.{no_form, same_number, form_put_same, form_put_other}
use Rattle.kj_model.proofs.Members.{in_self}
use Rattle.kj_model.proofs.Once.{both_ways, false_by}
use Rattle.kj_model.proofs.Falling.{node_frees}
use Rattle.kj_ownership.proofs.Commands.{tree_freed}
use Rattle.kj_ownership.proofs.Changed.{forms_standing, put_same}
use Rattle.kj_ownership.proofs.Frames.{framed_tended}
use Rattle.kj_ownership.proofs.Fires.{fired_frames}
use Rattle.kj_ownership.proofs.Shapes.{empty_suits, shaped_put}
use Rattle.kj_ownership.proofs.Evaluates.{Evals, turn_both, turn_freed, shaped_free, CommandsKeep, value_keeps, Clears, tree_cleared, kept_form as form_kept}
use Rattle.kj_ownership.proofs.Reached.{reached_none, reached_announced}
use Rattle.kj_ownership.proofs.Walks.{Went, went_both, went_reached}

-- from the state in which an event begins to fire to the one after it
pub record Fires (s t : State) : Type 0 where
  pub owned : Owned t
  pub shaped : Shaped t.world
  pub awaited : s.world.awaited ≡ None → t.world.awaited ≡ None
  pub left_over : s.world.left_over ≡ [] → t.world.stopped ≡ false → t.world.left_over ≡ []

pub fires_went : (s t : State) → Went [] [] s t → Fires s t
fires_went s t w = record { owned = w.standing; shaped = w.shaped; awaited = λ e. w.same.awaited ∙ e; left_over = λ e r. w.same.left_over ∙ e }

pub evals_went : (s t : State) (fs : List ℕ) → Evals s t fs → Went [] [] s t
evals_went s t fs e = record { standing = e.owned; shaped = e.shaped; same = e.same }

pub went_none : (s : State) → Owned s → Shaped s.world → Went [] [] s s
went_none s st sh = went_reached [] [] s s (reached_none s st sh)

-- what is done after an outcome is kept
abbrev pub AfterKeeps : (World → World) → Type 0
AfterKeeps after = (s : State) → Owned s → Shaped s.world → Went [] [] s (silent after s)

pub announced_after : (n : ℕ) → AfterKeeps (announced DepthFirst n)
announced_after n s st sh = went_reached [] [] s (silent (announced DepthFirst n) s) (reached_announced DepthFirst n [] [] [] s s (reached_none s st sh))

each_after : (ns : List ℕ) → AfterKeeps (each_announced ns)
each_after [] s st sh = went_none s st sh
each_after (n ∷ ns) s st sh =
    let a = announced_after n s st sh in
    let t = silent (announced DepthFirst n) s in
    went_both [] [] [] [] s t (silent (each_announced ns) t) a (each_after ns t a.standing a.shaped)

pub branches_after : (hub : ℕ) → AfterKeeps (branches_announced hub)
branches_after hub s st sh = each_after (branches_of (form_at hub s.world.nodes)) s st sh

-- no hub
kept_plain : (after : World → World) (n t : ℕ) (old : Form) (o : Option Outcome) (s : State) → AfterKeeps after → ((x : Outcome) → Clears old (kept_form x old) t) → Owned s → Shaped s.world → Frames s.world n [] → form_at n s.world.nodes ≡ Some old → Went [] [] s (kept_then after n t o s)
kept_plain after n t old None s keep clears st sh f at = went_none s st sh
kept_plain after n t old (Some o) s keep clears st sh f at =
    let cl = clears o in
    let new = kept_form o old in
    let c = tree_cleared s n t [] old new st sh f at cl in
    let td = framed_tended [] [] [] s n [] st f in
    let own : owns n t s.world.nodes ≡ true = ap (λ (x : Option Form). is_in t (parts_found x)) at ∙ ap (is_in t) cl.parts ∙ in_self t [] in
    let tf = tree_freed (option_to_list s.world.firing) [] [] s n t st td.0 own in
    let at1 : form_at n (freed t s).world.nodes ≡ Some old = tf.form old cl.old_hub at in
    let s2 = silent (put n new) (freed t s) in
    subst (λ (x : Option Form). Went [] [] s (silent (λ w. after (kept_at n o x w)) (freed t s))) (sym at1)
    (went_both [] [] [] [] s s2 (silent after s2) (evals_went s s2 [] c.0) (keep s2 c.0.owned c.0.shaped))

pub plain_fires : (setting : Setting) (after : World → World) (n t : ℕ) (old : Form) (s : State) → Fits setting → CommandsKeep setting → AfterKeeps after → ((x : Outcome) → Clears old (kept_form x old) t) → stem (Some old) ≡ Some old → Owned s → Shaped s.world → s.world.firing ≡ Some n → form_at n s.world.nodes ≡ Some old → Went [] [] s (kept_from setting after n (Tree t) s)
plain_fires setting after n t old s fits commands keep clears same st sh firing at =
    let cl = clears void in
    let live : is_live n s.world.nodes ≡ true = ap is_some at in
    let own : owns n t s.world.nodes ≡ true = ap (λ (x : Option Form). is_in t (parts_found x)) at ∙ ap (is_in t) cl.parts ∙ in_self t [] in
    let r = value setting t s in
    let e = value_keeps setting (depth_of s.world) commands t s (n ∷ []) st sh (inl (firing, live)) (λ t_live. fired_frames s n t st firing live own t_live) in
    went_both [] [] [] [] s r.0 (kept_then after n t r.1 r.0) (evals_went s r.0 (n ∷ []) e) (kept_plain after n t old r.1 r.0 keep clears e.owned e.shaped e.rest (form_kept s r.0 n [] old cl.old_hub same at e))

-- a hub: its name and branches may change while its tree is evaluated
record HubForm (content : Content) (o : Option Form) : Type 0 where
  is_named : Bool
  branches : List ℕ
  form : o ≡ Some (Hub content is_named branches)

content_of : Option Form → Content → Content
content_of (Some (Hub content is_named branches)) other = content
content_of o other = other

stem_back : (content : Content) (o : Option Form) → stem o ≡ Some (Hub content true []) → HubForm content o
unfolding content_of
stem_back content (Some (Hub c a bs)) e = record { is_named = a; branches = bs; form = (λ i. Some (Hub (content_of (e i) content) a bs)) }
stem_back content None e = absurd (no_form (Hub content true []) e)
stem_back content (Some _) e = absurd (false≢true (ap is_hub_form e))

staying_form : (content : Content) (c : Bool) (out : ℕ → Bool) (n : ℕ) (nodes : List Entry) (o : Option Form) → c ≡ false → HubForm content o → HubForm content (none_if c (some_staying out n nodes o))
staying_form content true out n nodes o e h = absurd (false≢true (sym e))
staying_form content false out n nodes o e h = subst (λ (x : Option Form). HubForm content (some_staying out n nodes x)) (sym h.form) (record { is_named = h.is_named; branches = branches_staying out n nodes h.branches; form = refl })

times_other : (p t : ℕ) → nat_eq t p ≡ false → times p (t ∷ []) ≡ 0
times_other p t d = grind (arith, nat_tests)

hub_forms : (x y : Form) → ◌≡◌ {A = Option Form} (Some x) (Some y) → x ≡ y
hub_forms x y e = cc

named_in : Form → Bool
named_in (Hub content is_named branches) = is_named
named_in other = false

listed_in : Form → List ℕ
listed_in (Hub content is_named branches) = branches
listed_in other = []

-- a hub keeps an outcome in place of a tree that went
hub_kept : (h t : ℕ) (a : Bool) (bs : List ℕ) (o : Outcome) (s : State) → form_at h s.world.nodes ≡ Some (Hub (Tree t) a bs) → is_live t s.world.nodes ≡ false → Owned s → Owned (silent (put h (Hub (Kept o) a bs)) s)
unfolding named_in listed_in
hub_kept h t a bs o s at dead st =
    let form = Hub (Kept o) a bs in
    let same = put_same h form (Hub (Tree t) a bs) s.world.nodes at refl (λ g. refl) (λ p live. sym (times_other p t (false_by (nat_eq t p) (λ e. both_ways (is_live t s.world.nodes) (subst (λ (y : ℕ). is_live y s.world.nodes ≡ true) (same_number t p e) live) dead)))) (λ p. omega arith) in
    forms_standing [] [] [] [] [] (with_form h form s.world.nodes) s same (record {
      name = λ g c is_named xs g_at. name_at g c is_named xs (nat_eq h g) refl g_at;
      branches = λ g c is_named xs g_at b. ap (λ r. times b xs + cond r 0 0) (same.branches g b) ∙ branch_at g c is_named xs b (nat_eq h g) refl g_at ∙ ap one_if (sym (same.branches g b));
    }) (λ g. omega arith) st
  where
    here : (g : ℕ) (f : Form) → nat_eq h g ≡ true → form_at g (with_form h (Hub (Kept o) a bs) s.world.nodes) ≡ Some f → Hub (Kept o) a bs ≡ f
    here g f e g_at = hub_forms (Hub (Kept o) a bs) f (sym (subst (λ (y : ℕ). form_at y (with_form h (Hub (Kept o) a bs) s.world.nodes) ≡ Some (Hub (Kept o) a bs)) (sym (same_number h g e)) (form_put_same h (Hub (Kept o) a bs) (Hub (Tree t) a bs) s.world.nodes at)) ∙ g_at)

    name_at : (g : ℕ) (c : Content) (is_named : Bool) (xs : List ℕ) (d : Bool) → nat_eq h g ≡ d → form_at g (with_form h (Hub (Kept o) a bs) s.world.nodes) ≡ Some (Hub c is_named xs) → held_total (λ (x : Held). one_if (is_hub_name g x)) s.world.names + 0 ≡ one_if is_named
    name_at g c is_named xs true e g_at = subst (λ (y : ℕ). held_total (λ (x : Held). one_if (is_hub_name y x)) s.world.names + 0 ≡ one_if is_named) (sym (same_number h g e)) (st.hubs.name h (Tree t) a bs at ∙ ap one_if (ap named_in (here g (Hub c is_named xs) e g_at)))
    name_at g c is_named xs false e g_at = st.hubs.name g c is_named xs (sym (form_put_other h g (Hub (Kept o) a bs) s.world.nodes e) ∙ g_at)

    branch_at : (g : ℕ) (c : Content) (is_named : Bool) (xs : List ℕ) (b : ℕ) (d : Bool) → nat_eq h g ≡ d → form_at g (with_form h (Hub (Kept o) a bs) s.world.nodes) ≡ Some (Hub c is_named xs) → times b xs + cond (is_branch_of g (form_at b s.world.nodes)) 0 0 ≡ one_if (is_branch_of g (form_at b s.world.nodes))
    branch_at g c is_named xs b true e g_at = subst (λ (y : ℕ). times b xs + cond (is_branch_of y (form_at b s.world.nodes)) 0 0 ≡ one_if (is_branch_of y (form_at b s.world.nodes))) (sym (same_number h g e)) (ap (λ ys. times b ys + cond (is_branch_of h (form_at b s.world.nodes)) 0 0) (sym (ap listed_in (here g (Hub c is_named xs) e g_at))) ∙ st.hubs.branches h (Tree t) a bs at b)
    branch_at g c is_named xs b false e g_at = st.hubs.branches g c is_named xs (sym (form_put_other h g (Hub (Kept o) a bs) s.world.nodes e) ∙ g_at) b

hub_then : (n t : ℕ) (o : Option Outcome) (s : State) → Owned s → Shaped s.world → Frames s.world n [] → HubForm (Tree t) (form_at n s.world.nodes) → Went [] [] s (kept_then (branches_announced n) n t o s)
hub_then n t None s st sh f h = went_none s st sh
hub_then n t (Some o) s st sh f h =
    let td = framed_tended [] [] [] s n [] st f in
    let own : owns n t s.world.nodes ≡ true = ap (λ (x : Option Form). is_in t (parts_found x)) h.form ∙ in_self t [] in
    let tf = tree_freed (option_to_list s.world.firing) [] [] s n t st td.0 own in
    let s1 = freed t s in
    let ns = falling (usual s.world) s.world (depth_of s.world) [] [] t in
    let out : is_in n ns ≡ false = false_by (is_in n ns) (λ i. both_ways (is_in n (n ∷ [])) (in_self n []) (tf.stays n i)) in
    let h1 = subst (HubForm (Tree t)) (sym ((node_frees (usual s.world) (depth_of s.world) t s).forms n)) (staying_form (Tree t) (is_in n ns) (λ b. is_in b ns) n s.world.nodes (form_at n s.world.nodes) out h) in
    let new = Hub (Kept o) h1.is_named h1.branches in
    let s2 = silent (put n new) s1 in
    let st2 = hub_kept n t h1.is_named h1.branches o s1 h1.form tf.went tf.standing in
    let sh2 = shaped_put n new (Hub (Tree t) h1.is_named h1.branches) s1.world h1.form (empty_suits (Hub (Tree t) h1.is_named h1.branches) new (record { tree = refl; link = refl; side = refl; task = refl; request = λ x. refl; ended = λ e. e }) refl refl) (shaped_free s t sh) in
    let same = turn_both s.world s1.world s2.world (turn_freed t s) (record { firing = refl; awaited = refl; left_over = refl }) in
    subst (λ (x : Option Form). Went [] [] s (silent (λ w. branches_announced n (kept_at n o x w)) s1)) (sym h1.form)
    (went_both [] [] [] [] s s2 (silent (branches_announced n) s2) (record { standing = st2; shaped = sh2; same = same }) (branches_after n s2 st2 sh2))

pub hub_fires : (setting : Setting) (n t : ℕ) (a : Bool) (bs : List ℕ) (s : State) → CommandsKeep setting → Owned s → Shaped s.world → s.world.firing ≡ Some n → form_at n s.world.nodes ≡ Some (Hub (Tree t) a bs) → Went [] [] s (kept_from setting (branches_announced n) n (Tree t) s)
hub_fires setting n t a bs s commands st sh firing at =
    let live : is_live n s.world.nodes ≡ true = ap is_some at in
    let own : owns n t s.world.nodes ≡ true = ap (λ (x : Option Form). is_in t (parts_found x)) at ∙ in_self t [] in
    let r = value setting t s in
    let e = value_keeps setting (depth_of s.world) commands t s (n ∷ []) st sh (inl (firing, live)) (λ t_live. fired_frames s n t st firing live own t_live) in
    went_both [] [] [] [] s r.0 (kept_then (branches_announced n) n t r.1 r.0) (evals_went s r.0 (n ∷ []) e) (hub_then n t r.1 r.0 e.owned e.shaped e.rest (stem_back (Tree t) (form_at n r.0.world.nodes) (e.forms n (in_self n []) ∙ ap stem at)))

-- an Eager, a Wrap, a Side of a fast join
eager_clears : (t : ℕ) (o : Outcome) → Clears (Eager (Tree t)) (Eager (Kept o)) t
eager_clears t o = record { parts = refl; none = refl; old_hub = refl; new_hub = refl; branch = λ h. refl; suits = empty_suits (Eager (Tree t)) (Eager (Kept o)) (record { tree = refl; link = refl; side = refl; task = refl; request = λ n. refl; ended = λ h. h }) refl refl }

wrap_clears : (c t : ℕ) (o : Outcome) → Clears (Wrap c (Tree t)) (Wrap c (Kept o)) t
wrap_clears c t o = record { parts = refl; none = refl; old_hub = refl; new_hub = refl; branch = λ h. refl; suits = empty_suits (Wrap c (Tree t)) (Wrap c (Kept o)) (record { tree = refl; link = refl; side = refl; task = refl; request = λ n. refl; ended = λ h. h }) refl refl }

pub side_keeps : (t : ℕ) (o : Outcome) → Clears (Side (Waits t)) (Side (Keeps o)) t
side_keeps t o = record { parts = refl; none = refl; old_hub = refl; new_hub = refl; branch = λ h. refl; suits = empty_suits (Side (Waits t)) (Side (Keeps o)) (record { tree = refl; link = refl; side = refl; task = refl; request = λ n. refl; ended = λ h. h }) refl refl }

pub eager_fires : (setting : Setting) (n : ℕ) (content : Content) (s : State) → Fits setting → CommandsKeep setting → Owned s → Shaped s.world → s.world.firing ≡ Some n → form_at n s.world.nodes ≡ Some (Eager content) → Went [] [] s (kept_from setting (announced DepthFirst n) n content s)
eager_fires setting n (Tree t) s fits commands st sh firing at = plain_fires setting (announced DepthFirst n) n t (Eager (Tree t)) s fits commands (announced_after n) (eager_clears t) refl st sh firing at
eager_fires setting n (Kept o) s fits commands st sh firing at = went_none s st sh

pub wrap_fires : (setting : Setting) (n c : ℕ) (content : Content) (s : State) → Fits setting → CommandsKeep setting → Owned s → Shaped s.world → s.world.firing ≡ Some n → form_at n s.world.nodes ≡ Some (Wrap c content) → Went [] [] s (kept_from setting (announced DepthFirst n) n content s)
wrap_fires setting n c (Tree t) s fits commands st sh firing at = plain_fires setting (announced DepthFirst n) n t (Wrap c (Tree t)) s fits commands (announced_after n) (wrap_clears c t) refl st sh firing at
wrap_fires setting n c (Kept o) s fits commands st sh firing at = went_none s st sh
