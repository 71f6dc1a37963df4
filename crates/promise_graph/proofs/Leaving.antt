-- A branch leaves its hub.
use Rattle.std.proofs.Common.{◌≡◌, ◌≢◌, ℕ, ◌<◌, List, [], ◌∷◌, Option, None, Some, Bool, true, false, cond, not, map, refl, sym, ap, ◌∙◌, inl, inr, subst}
use Rattle.std.specs.Prelude.{◌==◌, unwrap_or}
use Rattle.std.specs.List.{AllByRecursion}
use Rattle.std.proofs.lemmas.Bool.{cases_eq, false≢true}
use Rattle.kj_base.specs.declared.nodes.Node.{Node}
use Rattle.kj_base.specs.declared.nodes.Form.{Form as FormCase}
use Rattle.kj_base.specs.declared.nodes.Form.TheVariants.{Hub as HubCase}
use Rattle.kj_model.specs.Nodes.{Content, Form, Hub, Entry as Seen, form_at, with_form, dropped}
use Rattle.kj_model.specs.World.{World}
use Rattle.kj_model.specs.Fire.{branches_of}
use Rattle.kj_model.specs.Free.{without_branch, without_branch_in}
use Rattle.promise_nodes.specs.Shown.{shown}
use Rattle.promise_nodes.specs.Kept.{is_hub, hub_of as hub_in}
use Rattle.promise_graph.specs.declared.fields.Marks.{Marks}
use Rattle.promise_graph.specs.declared.fields.Rings.{Rings}
use Rattle.promise_graph.specs.Slots.{number_of, number_at}
use Rattle.promise_graph.specs.Rings.{next_at, prev_at, IsPath, IsOut, AreApart, ArePaired, IsCut}
use Rattle.promise_graph.specs.Kept.{AreNumbered, hub_of}
use Rattle.promise_graph.specs.Standing.{HasNodes, HasRing}
use Rattle.promise_graph.proofs.Lists.{some_same, none_some, equal_yes, equal_not, all_filter}
use Rattle.promise_graph.proofs.Numbered.{one_slot}
use Rattle.promise_graph.proofs.Entries.{put_other, put_same, put_none, put_once}
use Rattle.promise_graph.proofs.Forms.{hub_any}
use Rattle.promise_graph.proofs.Cutting.{has_ring_without}

drop_here : (b x : ℕ) (xs : List ℕ) → x ≡ b → dropped b (x ∷ xs) ≡ dropped b xs
drop_here b x xs e = ap (λ (t : Bool). cond (not t) (x ∷ dropped b xs) (dropped b xs)) (equal_yes x b e)

drop_there : (b x : ℕ) (xs : List ℕ) → x ≢ b → dropped b (x ∷ xs) ≡ x ∷ dropped b xs
drop_there b x xs d = ap (λ (t : Bool). cond (not t) (x ∷ dropped b xs) (dropped b xs)) (equal_not x b d)

module _ (old new : Rings) (b slots : ℕ) (c : IsCut old new b) (k : ArePaired old slots) (low : b < slots) where
  next_same : (a x : ℕ) → a ≢ b → x ≢ b → next_at old a ≡ x → next_at new a ≡ x
  next_same a x da dx e = c.other_next a da (λ q. dx (sym e ∙ ap (next_at old) q ∙ k.forth b low)) ∙ e

  prev_same : (z a : ℕ) → z ≢ b → a ≢ b → prev_at old z ≡ a → prev_at new z ≡ a
  prev_same z a dz da e = c.other_prev z dz (λ q. da (sym e ∙ ap (prev_at old) q ∙ k.back b low)) ∙ e

  next_over : (a y : ℕ) → a ≢ b → prev_at old b ≡ a → next_at old b ≡ y → next_at new a ≡ y
  next_over a y da e f = ap (next_at new) (sym e) ∙ c.closed_next (λ q. da (sym e ∙ q)) ∙ f

  prev_over : (a y : ℕ) → y ≢ b → prev_at old b ≡ a → next_at old b ≡ y → prev_at new y ≡ a
  prev_over a y dy e f = ap (prev_at new) (sym f) ∙ c.closed_prev (λ q. dy (sym f ∙ q)) ∙ e

  pub path_dropped : (a z : ℕ) (xs : List ℕ) → IsPath (next_at old) (prev_at old) a xs z → a ≢ b → z ≢ b → AreApart z xs → IsPath (next_at new) (prev_at new) a (dropped b xs) z
  path_dropped a z [] p da dz apart = (next_same a z da dz p.0, prev_same z a dz da p.1)
  path_dropped a z (x ∷ []) p da dz apart = elim (cases_eq x b) [
    | inl e ↦ subst (λ (l : List ℕ). IsPath (next_at new) (prev_at new) a l z) (sym (drop_here b x [] e)) (next_over a z da (ap (prev_at old) (sym e) ∙ p.1) (ap (next_at old) (sym e) ∙ p.2.0), prev_over a z dz (ap (prev_at old) (sym e) ∙ p.1) (ap (next_at old) (sym e) ∙ p.2.0))
    | inr d ↦ subst (λ (l : List ℕ). IsPath (next_at new) (prev_at new) a l z) (sym (drop_there b x [] d)) (next_same a x da d p.0, prev_same x a d da p.1, (next_same x z d dz p.2.0, prev_same z x dz d p.2.1))
  ]
  path_dropped a z (x ∷ y ∷ ys) p da dz apart = elim (cases_eq x b) [
    | inl e ↦ (let dy : y ≢ b = (λ q. apart.1.0 (e ∙ sym q)) in
        subst (λ (l : List ℕ). IsPath (next_at new) (prev_at new) a l z) (sym (drop_here b x (y ∷ ys) e ∙ drop_there b y ys dy))
        (next_over a y da (ap (prev_at old) (sym e) ∙ p.1) (ap (next_at old) (sym e) ∙ p.2.0), prev_over a y dy (ap (prev_at old) (sym e) ∙ p.1) (ap (next_at old) (sym e) ∙ p.2.0), path_dropped y z ys p.2.2 dy dz apart.2.2))
    | inr d ↦ subst (λ (l : List ℕ). IsPath (next_at new) (prev_at new) a l z) (sym (drop_there b x (y ∷ ys) d)) (next_same a x da d p.0, prev_same x a d da p.1, path_dropped x z (y ∷ ys) p.2 d dz apart.2)
  ]

out_dropped : (b x : ℕ) (xs : List ℕ) → IsOut x xs → IsOut x (dropped b xs)
out_dropped b x xs h = all_filter (λ y. x ≢ y) (λ y. x ≢ y) (λ y. not (y == b)) (λ y t d. d) xs h

apart_case : (t : Bool) (b h x : ℕ) (xs : List ℕ) → h ≢ x → IsOut x (dropped b xs) → AreApart h (dropped b xs) → AreApart h (cond t (x ∷ dropped b xs) (dropped b xs))
apart_case true b h x xs d out apart = (d, out, apart)
apart_case false b h x xs d out apart = apart

pub apart_dropped : (b h : ℕ) (xs : List ℕ) → AreApart h xs → AreApart h (dropped b xs)
apart_dropped b h [] a = tt
apart_dropped b h (x ∷ xs) a = apart_case (not (x == b)) b h x xs a.0 (out_dropped b x xs a.1) (apart_dropped b h xs a.2)

-- numbers go as their slots
pub map_dropped : (f : ℕ → ℕ) (b n : ℕ) (xs : List ℕ) → AllByRecursion (λ x. (f x == n) ≡ (x == b)) xs → dropped n (map f xs) ≡ map f (dropped b xs)
map_dropped f b n [] h = refl
map_dropped f b n (x ∷ xs) h = ap (λ (t : Bool). cond (not t) (f x ∷ dropped n (map f xs)) (dropped n (map f xs))) h.0 ∙ drop_case (x == b) (map_dropped f b n xs h.1)
  where
    drop_case : (t : Bool) → dropped n (map f xs) ≡ map f (dropped b xs) → cond (not t) (f x ∷ dropped n (map f xs)) (dropped n (map f xs)) ≡ map f (cond (not t) (x ∷ dropped b xs) (dropped b xs))
    drop_case true e = e
    drop_case false e = λ i. f x ∷ e i

pub number_there : (o : Option Node) (hub : ℕ) → hub_of o ≡ Some hub → number_of o ≡ Some (unwrap_or (number_of o) 0)
number_there None hub h = absurd (none_some hub h)
number_there (Some node) hub h = refl

abbrev pub is_hub_there : Option Form → Bool
is_hub_there None = false
is_hub_there (Some f) = is_hub f

split_hub : (R : Type 0) (o : Option Form) → ((content : Content) (named : Bool) (branches : List ℕ) → o ≡ Some (Hub content named branches) → R) → (is_hub_there o ≡ false → R) → R
split_hub R None f g = g refl
split_hub R (Some (Hub content named branches)) f g = f content named branches refl
split_hub R (Some other) f g = g refl

without_same : (n hub : ℕ) (o : Option Form) (w : World) → is_hub_there o ≡ false → without_branch_in n hub o w ≡ w
without_same n hub None w h = refl
without_same n hub (Some (Hub content named branches)) w h = absurd (false≢true (sym h))
without_same n hub (Some other) w h = refl

-- a hub with other branches
abbrev pub with_branches : List ℕ → Form → Form
with_branches cs (Hub content named bs) = Hub content named cs
with_branches cs other = other

pub shown_again : (cs ds : List ℕ) (form : FormCase) → with_branches cs (shown ds form) ≡ shown cs form
shown_again cs ds (HubCase content is_named) = refl
shown_again cs ds other = refl

pub no_both : (hub : ℕ) (f : Form) → is_hub f ≡ true → hub_in f ≡ Some hub → ⊥
no_both hub (Hub content named branches) t e = none_some hub e
no_both hub other t e = false≢true t

module _ (at : ℕ → Option Node) (m : Marks) (r : Rings) (b n hub : ℕ) (k : AreNumbered at m) (live : number_at at b ≡ Some n) (of_hub : hub_of (at b) ≡ Some hub) (c : IsCut m.rings r b) (paired : ArePaired m.rings m.slots) (low : b < m.slots) where
  number_test : (x : ℕ) → hub_of (at x) ≡ Some hub → (unwrap_or (number_at at x) 0 == n) ≡ (x == b)
  number_test x h = elim (cases_eq x b) [
    | inl p ↦ equal_yes (unwrap_or (number_at at x) 0) n (ap (λ (i : ℕ). unwrap_or (number_at at i) 0) p ∙ ap (λ (o : Option ℕ). unwrap_or o 0) live) ∙ sym (equal_yes x b p)
    | inr d ↦ equal_not (unwrap_or (number_at at x) 0) n (λ e. d (one_slot at m k x b n (number_there (at x) hub h ∙ ap (λ (j : ℕ). Some j) e) live)) ∙ sym (equal_not x b d)
  ]

  all_tests : (xs : List ℕ) → AllByRecursion (λ x. hub_of (at x) ≡ Some hub) xs → AllByRecursion (λ x. (unwrap_or (number_at at x) 0 == n) ≡ (x == b)) xs
  all_tests [] h = tt
  all_tests (x ∷ xs) h = (number_test x h.0, all_tests xs h.1)

  -- its own hub's ring is the others
  ring_dropped : (h : ℕ) (branches : List ℕ) → h ≢ b → HasRing at m.rings h hub branches → HasRing at r h hub (dropped n branches)
  ring_dropped h branches d ring = record {
    members = dropped b ring.members;
    ring = path_dropped m.rings r b m.slots c paired low h h ring.members ring.ring d d ring.apart;
    apart = apart_dropped b h ring.members ring.apart;
    each = all_filter (λ x. hub_of (at x) ≡ Some hub) (λ x. hub_of (at x) ≡ Some hub) (λ x. not (x == b)) (λ x t e. e) ring.members ring.each;
    named = ap (dropped n) ring.named ∙ map_dropped (λ x. unwrap_or (number_at at x) 0) b n ring.members (all_tests ring.members ring.each);
  }

  -- another hub's ring stays
  ring_other : (h number : ℕ) (branches : List ℕ) → h ≢ b → number ≢ hub → HasRing at m.rings h number branches → HasRing at r h number branches
  ring_other h number branches d e ring = has_ring_without at at m.rings r b m.slots h number branches c paired low (λ x y. refl) (λ q. d (sym q))
      (λ x is moved q. e (some_same number hub (sym is ∙ ap (λ (i : ℕ). hub_of (at i)) (sym q) ∙ of_hub))) ring

  hub_apart : (s : ℕ) (node : Node) → at s ≡ Some node → is_hub (shown [] node.form) ≡ true → s ≢ b
  hub_apart s node h t q = no_both hub (shown [] node.form) t (sym (ap hub_of h) ∙ ap (λ (i : ℕ). hub_of (at i)) q ∙ of_hub)

  -- without its branch in the hub
  hub_without : (es : List Seen) (content : Content) (named : Bool) (branches : List ℕ) → form_at hub es ≡ Some (Hub content named branches) → HasNodes at m.rings es → HasNodes at r (with_form hub (Hub content named (dropped n branches)) es)
  hub_without es content named branches e has =
      let f : Form = Hub content named (dropped n branches) in
      let found : form_at hub (with_form hub f es) ≡ Some f = put_same hub f (Hub content named branches) es e in
      record {
        there = λ s node h. elim (cases_eq node.number.0 hub) [
          | inl p ↦ (let was = some_same (Hub content named branches) _ (sym e ∙ ap (λ (j : ℕ). form_at j es) (sym p) ∙ has.there s node h) in
              subst (λ (j : ℕ). form_at j (with_form hub f es) ≡ Some (shown (branches_of (form_at j (with_form hub f es))) node.form)) (sym p)
              (found ∙ ap (λ (x : Form). Some x) (ap (with_branches (dropped n branches)) was ∙ shown_again (dropped n branches) _ node.form) ∙ ap (λ (o : Option Form). Some (shown (branches_of o) node.form)) (sym found)))
          | inr d ↦ (let same = put_other node.number.0 hub f es d in same ∙ has.there s node h ∙ ap (λ (o : Option Form). Some (shown (branches_of o) node.form)) (sym same))
        ];
        absent = λ j a. put_none j hub f es (has.absent j a);
        once = put_once hub f es has.once;
        rings = λ s node h t. elim (cases_eq node.number.0 hub) [
          | inl p ↦ subst (λ (j : ℕ). HasRing at r s j (branches_of (form_at j (with_form hub f es)))) (sym p)
              (subst (λ (o : Option Form). HasRing at r s hub (branches_of o)) (sym found)
              (ring_dropped s branches (hub_apart s node h t) (subst (λ (o : Option Form). HasRing at m.rings s hub (branches_of o)) e (subst (λ (j : ℕ). HasRing at m.rings s j (branches_of (form_at j es))) p (has.rings s node h t)))))
          | inr d ↦ subst (λ (o : Option Form). HasRing at r s node.number.0 (branches_of o)) (sym (put_other node.number.0 hub f es d)) (ring_other s node.number.0 (branches_of (form_at node.number.0 es)) (hub_apart s node h t) d (has.rings s node h t))
        ];
      }

  -- nothing changes in the nodes where there is no such hub
  none_without : (es : List Seen) → is_hub_there (form_at hub es) ≡ false → HasNodes at m.rings es → HasNodes at r es
  none_without es no_hub has = record {
    there = has.there;
    absent = has.absent;
    once = has.once;
    rings = λ s node h t. ring_other s node.number.0 (branches_of (form_at node.number.0 es)) (hub_apart s node h t)
        (λ p. false≢true (sym no_hub ∙ ap (λ (j : ℕ). is_hub_there (form_at j es)) (sym p) ∙ ap is_hub_there (has.there s node h) ∙ hub_any (branches_of (form_at node.number.0 es)) node.form ∙ t)) (has.rings s node h t);
  }

  pub nodes_left : (w : World) → HasNodes at m.rings w.nodes → HasNodes at r (without_branch n hub w).nodes
  nodes_left w has = split_hub (HasNodes at r (without_branch n hub w).nodes) (form_at hub w.nodes)
      (λ content named branches e. subst (λ (o : Option Form). HasNodes at r (without_branch_in n hub o w).nodes) (sym e) (hub_without w.nodes content named branches e has))
      (λ no_hub. subst (λ (v : World). HasNodes at r v.nodes) (sym (without_same n hub (form_at hub w.nodes) w no_hub)) (none_without w.nodes no_hub has))

  -- only nodes change
  pub only_nodes : (w : World) → without_branch n hub w ≡ record w { nodes = (without_branch n hub w).nodes }
  only_nodes w = split_hub (without_branch n hub w ≡ record w { nodes = (without_branch n hub w).nodes }) (form_at hub w.nodes)
      (λ content named branches e. subst (λ (o : Option Form). without_branch_in n hub o w ≡ record w { nodes = (without_branch_in n hub o w).nodes }) (sym e) refl)
      (λ no_hub. without_same n hub (form_at hub w.nodes) w no_hub ∙ ap (λ (v : World). record w { nodes = v.nodes }) (sym (without_same n hub (form_at hub w.nodes) w no_hub)))
