-- A hub loses its name, or gets a branch.
use Rattle.std.proofs.Common.{◌≡◌, inl, ℕ, ◌+◌, ◌<◌, ◌≤◌, List, [], ◌∷◌, ◌++◌, length, Bool, true, false, cond, Option, None, Some, arith, refl, sym, ap, ◌∙◌, subst, ◌==◌}
use Rattle.std.specs.Prelude.{nat_eq, is_some}
use Rattle.std.proofs.lemmas.Bool.{false≢true}
use Rattle.std.proofs.lemmas.Bool.Decides.{nat_tests}
use Rattle.kj_model.specs.Nodes.{Form, Content, Branch, Hub, form_at, with_form}
use Rattle.kj_model.specs.World.{World, State, Held, Promise, depth_of}
use Rattle.kj_model.specs.Changes.{silent, put}
use Rattle.kj_model.specs.Free.{Guard, free, is_guarded, free_unless, free_unreferenced, reference_gone}
use Rattle.kj_model.specs.Effects.{hub_unnamed, hub_unnamed_in, with_branch_in, leaf_built, node_named, effect}
use Rattle.kj_model.specs.Falling.{is_branch_of}
use Rattle.kj_model.specs.Owned.{is_hub_name}
use Rattle.kj_ownership.specs.Owners.{is_live, owns, is_hub_form}
use Rattle.kj_model.specs.Framed.{times, held_total, name_numbers}
use Rattle.kj_ownership.specs.Standing.{one_if, Standing, Owned}
use Rattle.kj_model.proofs.Spared.{no_form, same_number, form_put_same, form_put_other}
use Rattle.kj_model.proofs.Once.{both_ways, false_by}
use Rattle.kj_ownership.proofs.Flat.{Comes}
use Rattle.kj_ownership.proofs.Stays.{hub_unowned}
use Rattle.kj_ownership.proofs.Kept.{standing_frees}
use Rattle.kj_ownership.proofs.Climb.{none_open}
use Rattle.kj_ownership.proofs.Commands.{fuel_for, built_names}
use Rattle.kj_model.proofs.Counts.{times_app}
use Rattle.kj_ownership.proofs.Moves.{built_standing, built_grows, app_other, app_new, not_live, live_below}
use Rattle.kj_model.specs.Places.{built}
use Rattle.kj_base.specs.Commands.{Branch as BranchCommand}
use Rattle.kj_ownership.proofs.Changed.{forms_standing, put_same, named_standing}

hub_in : (x y : Form) → ◌≡◌ {A = Option Form} (Some x) (Some y) → x ≡ y
hub_in x y e = cc

named_in : Form → Bool
named_in (Hub content is_named branches) = is_named
named_in other = false

listed_in : Form → List ℕ
listed_in (Hub content is_named branches) = branches
listed_in other = []

-- another name or other branches of a hub
pub hub_put : (h : ℕ) (content : Content) (old_named new_named : Bool) (old_branches new_branches loose out out2 lone lone2 : List ℕ) (s : State) → form_at h s.world.nodes ≡ Some (Hub content old_named old_branches)
    → held_total (λ (x : Held). one_if (is_hub_name h x)) s.world.names + times h out2 ≡ one_if new_named
    → ((g : ℕ) → nat_eq h g ≡ false → times g out2 ≡ times g out)
    → ((g : ℕ) → times g out2 ≤ times g out)
    → ((b : ℕ) → times b new_branches + cond (is_branch_of h (form_at b s.world.nodes)) (times b lone2) 0 ≡ one_if (is_branch_of h (form_at b s.world.nodes)))
    → ((g b : ℕ) → nat_eq h g ≡ false → cond (is_branch_of g (form_at b s.world.nodes)) (times b lone2) 0 ≡ cond (is_branch_of g (form_at b s.world.nodes)) (times b lone) 0)
    → Standing loose out lone s → Standing loose out2 lone2 (silent (put h (Hub content new_named new_branches)) s)
unfolding named_in listed_in
hub_put h content old_named new_named old_branches new_branches loose out out2 lone lone2 s at name names fewer branches others st =
    let form = Hub content new_named new_branches in
    let same = put_same h form (Hub content old_named old_branches) s.world.nodes at refl (λ g. refl) (λ p live. refl) (λ p. omega arith) in
    forms_standing loose out out2 lone lone2 (with_form h form s.world.nodes) s same
    (record {
      name = λ g c is_named bs g_at. name_at g c is_named bs (nat_eq h g) refl g_at;
      branches = λ g c is_named bs g_at b. ap (λ r. times b bs + cond r (times b lone2) 0) (same.branches g b) ∙ branch_at g c is_named bs b (nat_eq h g) refl g_at ∙ ap one_if (sym (same.branches g b));
    })
    fewer st
  where
    form_in : Form
    form_in = Hub content new_named new_branches

    here : (g : ℕ) (f : Form) → nat_eq h g ≡ true → form_at g (with_form h form_in s.world.nodes) ≡ Some f → form_in ≡ f
    here g f e g_at = hub_in form_in f (sym (subst (λ (y : ℕ). form_at y (with_form h form_in s.world.nodes) ≡ Some form_in) (sym (same_number h g e)) (form_put_same h form_in (Hub content old_named old_branches) s.world.nodes at)) ∙ g_at)

    name_at : (g : ℕ) (c : Content) (is_named : Bool) (bs : List ℕ) (d : Bool) → nat_eq h g ≡ d → form_at g (with_form h form_in s.world.nodes) ≡ Some (Hub c is_named bs) → held_total (λ (x : Held). one_if (is_hub_name g x)) s.world.names + times g out2 ≡ one_if is_named
    name_at g c is_named bs true e g_at = subst (λ (y : ℕ). held_total (λ (x : Held). one_if (is_hub_name y x)) s.world.names + times y out2 ≡ one_if is_named) (sym (same_number h g e)) (name ∙ ap one_if (ap named_in (here g (Hub c is_named bs) e g_at)))
    name_at g c is_named bs false e g_at = ap (λ t. held_total (λ (x : Held). one_if (is_hub_name g x)) s.world.names + t) (names g e) ∙ st.hubs.name g c is_named bs (sym (form_put_other h g form_in s.world.nodes e) ∙ g_at)

    branch_at : (g : ℕ) (c : Content) (is_named : Bool) (bs : List ℕ) (b : ℕ) (d : Bool) → nat_eq h g ≡ d → form_at g (with_form h form_in s.world.nodes) ≡ Some (Hub c is_named bs) → times b bs + cond (is_branch_of g (form_at b s.world.nodes)) (times b lone2) 0 ≡ one_if (is_branch_of g (form_at b s.world.nodes))
    branch_at g c is_named bs b true e g_at = subst (λ (y : ℕ). times b bs + cond (is_branch_of y (form_at b s.world.nodes)) (times b lone2) 0 ≡ one_if (is_branch_of y (form_at b s.world.nodes))) (sym (same_number h g e)) (ap (λ xs. times b xs + cond (is_branch_of h (form_at b s.world.nodes)) (times b lone2) 0) (sym (ap listed_in (here g (Hub c is_named bs) e g_at))) ∙ branches b)
    branch_at g c is_named bs b false e g_at = ap (λ t. times b bs + t) (others g b e) ∙ st.hubs.branches g c is_named bs (sym (form_put_other h g form_in s.world.nodes e) ∙ g_at) b

head_other : (h g t : ℕ) → nat_eq h g ≡ false → t ≡ cond (h == g) 1 0 + t
head_other h g t e = grind (arith, nat_tests)

-- a name of no hub is out
fewer_names : (h : ℕ) (loose out : List ℕ) (s : State) → ((c : Content) (n : Bool) (bs : List ℕ) → form_at h s.world.nodes ≡ Some (Hub c n bs) → ⊥) → Standing loose (h ∷ out) [] s → Standing loose out [] s
fewer_names h loose out s no_hub st = record {
  placed = st.placed;
  names = st.names;
  hubs = record { name = λ g c n bs g_at. ap (λ t. held_total (λ (x : Held). one_if (is_hub_name g x)) s.world.names + t) (head_other h g (times g out) (false_by (nat_eq h g) (λ e. no_hub c n bs (subst (λ (y : ℕ). form_at y s.world.nodes ≡ Some (Hub c n bs)) (same_number h g e) g_at)))) ∙ st.hubs.name g c n bs g_at; branches = st.hubs.branches };
  below = record { positive = st.below.positive; places = st.below.places; names = λ n l. (let a = st.below.names n l in omega (arith, a)); branches = st.below.branches };
  recorded = st.recorded;
  in_order = st.in_order;
  room = st.room;
  queue = st.queue;
  queued = st.queued;
  spots = st.spots;
}

-- a hub's name goes: the hub is marked so
unnamed_in : (o : Option Form) (h : ℕ) (loose out : List ℕ) (s : State) → form_at h s.world.nodes ≡ o → Standing loose (h ∷ out) [] s → Standing loose out [] (silent (hub_unnamed_in h o) s)
unnamed_in (Some (Hub content is_named branches)) h loose out s at st =
    hub_put h content is_named false branches branches loose (h ∷ out) out [] [] s at
    (none_left is_named (held_total (λ (x : Held). one_if (is_hub_name h x)) s.world.names) (times h out) (nat_eq h h) (self h) (st.hubs.name h content is_named branches at))
    (λ g e. head_other h g (times g out) e)
    (λ g. omega arith)
    (λ b. st.hubs.branches h content is_named branches at b)
    (λ g b e. refl) st
  where
    self : (n : ℕ) → nat_eq n n ≡ true
    self n = grind (arith, nat_tests)

    none_left : (n : Bool) (a t : ℕ) (b : Bool) → b ≡ true → a + (cond b 1 0 + t) ≡ one_if n → a + t ≡ 0
    none_left true a t true e f = omega (arith, f)
    none_left false a t true e f = omega (arith, f)
    none_left n a t false e f = absurd (false≢true e)
unnamed_in None h loose out s at st = fewer_names h loose out s (λ c n bs e. no_form (Hub c n bs) (sym at ∙ e)) st
unnamed_in (Some _) h loose out s at st = fewer_names h loose out s (λ c n bs e. false≢true (ap is_hub_form (sym at ∙ e))) st

pub hub_unnamed_standing : (h : ℕ) (loose out : List ℕ) (s : State) → Standing loose (h ∷ out) [] s → Standing loose out [] (silent (hub_unnamed h) s)
hub_unnamed_standing h loose out s st = unnamed_in (form_at h s.world.nodes) h loose out s refl st

-- a reference went: the hub goes where none is left and the guard lets it
pub hub_comes : (guard : Guard) (loose out : List ℕ) (s : State) (h : ℕ) (content : Content) → Standing loose out [] s → form_at h s.world.nodes ≡ Some (Hub content false []) → Comes guard s.world [] [] h
hub_comes guard loose out s h content st at = record {
  off = refl;
  up = λ q own. absurd (both_ways (owns q h s.world.nodes) own (hub_unowned loose s.world h q st.placed (ap is_hub_form at)));
  lost = λ u. inl (λ b b_at. absurd (no_branch (is_branch_of h (form_at b s.world.nodes)) (ap (is_branch_of h) b_at ∙ self h) (st.hubs.branches h content false [] at b)));
}
  where
    self : (n : ℕ) → nat_eq n n ≡ true
    self n = grind (arith, nat_tests)

    no_branch : (r : Bool) → r ≡ true → 0 + cond r 0 0 ≡ one_if r → ⊥
    no_branch true e f = omega (arith, f)
    no_branch false e f = false≢true e

unless_standing : (b : Bool) (guard : Guard) (loose out : List ℕ) (s : State) (h : ℕ) (content : Content) → Standing loose out [] s → form_at h s.world.nodes ≡ Some (Hub content false []) → Standing loose out [] (free_unless b (free guard) h s)
unless_standing true guard loose out s h content st at = st
unless_standing false guard loose out s h content st at = standing_frees guard (depth_of s.world) h loose loose out [] s st (none_open guard s.world) (λ live. hub_comes guard loose out s h content st at) (fuel_for s st.room) (λ m e. refl) (λ m. omega arith)

referenced_in : (o : Option Form) (guard : Guard) (h : ℕ) (loose out : List ℕ) (s : State) → form_at h s.world.nodes ≡ o → Standing loose out [] s → Standing loose out [] (free_unreferenced guard (free guard) h o s)
referenced_in (Some (Hub content false [])) guard h loose out s at st = unless_standing (is_guarded guard h s.world) guard loose out s h content st at
referenced_in (Some (Hub content false (b ∷ bs))) guard h loose out s at st = st
referenced_in (Some (Hub content true bs)) guard h loose out s at st = st
referenced_in None guard h loose out s at st = st
referenced_in (Some _) guard h loose out s at st = st

pub reference_standing : (guard : Guard) (h : ℕ) (loose out : List ℕ) (s : State) → Standing loose out [] s → Standing loose out [] (reference_gone guard (free guard) h s)
reference_standing guard h loose out s st = referenced_in (form_at h s.world.nodes) guard h loose out s refl st

-- Branch
pub branch_keeps : (guard : Guard) (name hub h : ℕ) (content : Content) (is_named : Bool) (branches : List ℕ) (s : State) → node_named hub s.world ≡ h → form_at h s.world.nodes ≡ Some (Hub content is_named branches) → times name (name_numbers s.world.names) ≡ 0 → length s.world.nodes < s.world.limits.slots → Owned s → Owned (effect guard (BranchCommand name hub) s)
branch_keeps guard name hub h content is_named branches s is at fresh room st =
    subst (λ (x : ℕ). Owned (silent (λ w. with_branch_in w.next x (form_at x w.nodes) (leaf_built name (Branch x) w)) s)) (sym is)
    (subst (λ (o : Option Form). Owned (silent (λ w. with_branch_in w.next h o (leaf_built name (Branch h) w)) s)) (sym at) listed)
  where
    live : is_live h s.world.nodes ≡ true
    live = ap is_some at

    below : h < s.world.next
    below = live_below s h st.recorded live

    st2 : Standing [] [] (s.world.next ∷ []) (silent (leaf_built name (Branch h)) s)
    st2 = named_standing name (Promise s.world.next) [] [] (s.world.next ∷ []) (silent (built None (Branch h)) s) (built_names None (Branch h) name s.world fresh)
        (built_standing None (Branch h) [] [] s refl room (λ n l. false_by (nat_eq h n) (λ e. too_far n h s.world.next (same_number h n e) below l)) st)
      where
        too_far : (n h next : ℕ) → n ≡ h → h < next → next < n → ⊥
        too_far n h next e a b = omega (arith, e, a, b)

    forms : (m : ℕ) → form_at m (leaf_built name (Branch h) s.world).nodes ≡ form_at m (s.world.nodes ++ record { number = s.world.next; form = Branch h } ∷ [])
    forms m = let g = built_grows None (Branch h) s.world in ap (λ (w : World). form_at m w.nodes) g.3

    at2 : form_at h (leaf_built name (Branch h) s.world).nodes ≡ Some (Hub content is_named branches)
    at2 = forms h ∙ app_other h (record { number = s.world.next; form = Branch h }) s.world.nodes (apart_from h s.world.next below) ∙ at
      where
        apart_from : (m n : ℕ) → m < n → nat_eq n m ≡ false
        apart_from m n l = grind (arith, nat_tests)

    at_next : form_at s.world.next (leaf_built name (Branch h) s.world).nodes ≡ Some (Branch h)
    at_next = forms s.world.next ∙ app_new (record { number = s.world.next; form = Branch h }) s.world.nodes (not_live s st.recorded)

    is_of : (g b : ℕ) → nat_eq s.world.next b ≡ true → is_branch_of g (form_at b (leaf_built name (Branch h) s.world).nodes) ≡ (h == g)
    is_of g b e = ap (is_branch_of g) (subst (λ (y : ℕ). form_at y (leaf_built name (Branch h) s.world).nodes ≡ Some (Branch h)) (sym (same_number s.world.next b e)) at_next)

    listed : Owned (silent (λ w. put h (Hub content is_named (branches ++ w.next ∷ [])) (leaf_built name (Branch h) w)) s)
    listed = hub_put h content is_named is_named branches (branches ++ s.world.next ∷ []) [] [] [] (s.world.next ∷ []) [] (silent (leaf_built name (Branch h)) s) at2
        (st2.hubs.name h content is_named branches at2)
        (λ g e. refl)
        (λ g. omega arith)
        (λ b. added b (nat_eq s.world.next b) refl (is_branch_of h (form_at b (leaf_built name (Branch h) s.world).nodes)) refl (st2.hubs.branches h content is_named branches at2 b))
        (λ g b e. others g b e (nat_eq s.world.next b) refl (is_branch_of g (form_at b (leaf_built name (Branch h) s.world).nodes)) refl)
        st2
      where
        self : (n : ℕ) → nat_eq n n ≡ true
        self n = grind (arith, nat_tests)

        added : (b : ℕ) (d : Bool) → nat_eq s.world.next b ≡ d → (r : Bool) → is_branch_of h (form_at b (leaf_built name (Branch h) s.world).nodes) ≡ r → times b branches + cond r (cond (s.world.next == b) 1 0 + 0) 0 ≡ one_if r → times b (branches ++ s.world.next ∷ []) + cond r 0 0 ≡ one_if r
        added b true e true is old = let a = times_app b branches (s.world.next ∷ []) in omega (arith, a, old)
        added b true e false is old = absurd (false≢true (sym is ∙ is_of h b e ∙ self h))
        added b false e true is old = let a = times_app b branches (s.world.next ∷ []) in omega (arith, a, old)
        added b false e false is old = let a = times_app b branches (s.world.next ∷ []) in let z : cond (s.world.next == b) 1 0 ≡ 0 = ap (λ (c : Bool). one_if c) e in omega (arith, a, z, old)

        others : (g b : ℕ) → nat_eq h g ≡ false → (d : Bool) → nat_eq s.world.next b ≡ d → (r : Bool) → is_branch_of g (form_at b (leaf_built name (Branch h) s.world).nodes) ≡ r → ◌≡◌ {A = ℕ} (cond r 0 0) (cond r (cond (s.world.next == b) 1 0 + 0) 0)
        others g b n true e true is = absurd (false≢true (sym n ∙ sym (is_of g b e) ∙ is))
        others g b n true e false is = refl
        others g b n false e true is = ap (λ (c : Bool). one_if c + 0) (sym e)
        others g b n false e false is = refl
