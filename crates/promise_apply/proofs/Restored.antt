-- A hub that lost its name and has it again.
use Rattle.std.proofs.Common.{◌≡◌, ◌∙◌, ℕ, List, [], ◌∷◌, Option, None, Some, Bool, true, false, refl, sym, ap, subst, arith}
use Rattle.std.specs.Prelude.{nat_eq, ◌&&◌}
use Rattle.std.proofs.lemmas.Bool.Decides.{nat_tests}
use Rattle.kj_base.specs.declared.nodes.Content.{Content as ContentCase}
use Rattle.kj_base.specs.declared.nodes.Form.{Form as FormCase}
use Rattle.kj_base.specs.declared.nodes.Form.TheVariants.{Hub as HubCase}
use Rattle.kj_model.specs.Nodes.{Content, Form, Entry, Hub, form_at, is_in, parts_found, parts_of, with_form}
use Rattle.kj_model.specs.World.{World, depth_of}
use Rattle.kj_model.specs.Free.{Holding}
use Rattle.kj_model.specs.Falling.{falling, hub_falling}
use Rattle.kj_ownership.specs.Going.{hub_goes}
use Rattle.kj_model.specs.Changes.{put}
use Rattle.kj_model.specs.Effects.{hub_unnamed, hub_unnamed_in}
use Rattle.kj_model.specs.Fire.{branches_of}
use Rattle.kj_model.proofs.Spared.{form_put_same}
use Rattle.promise_nodes.specs.Kept.{AddsNone, KeepsKind, is_unreferenced, put_form}
use Rattle.promise_nodes.specs.Once.{AreOnce}
use Rattle.promise_nodes.specs.Shown.{content_shown, shown}
use Rattle.promise_apply.specs.Dropping.{SeesHub, frees_firing, hub_frees_firing}

some_none : (f : Form) → ◌≡◌ {A = Option Form} (Some f) None → ⊥
some_none f e = cc

some_form : (f g : Form) → ◌≡◌ {A = Option Form} (Some f) (Some g) → f ≡ g
some_form f g e = cc

same_is : (a b : ℕ) → nat_eq a b ≡ true → a ≡ b
same_is a b h = grind (arith, nat_tests)

absent_case : (b : Bool) (n : ℕ) (form : Form) (e : Entry) (es : List Entry) → nat_eq e.number n ≡ b → (form_at n es ≡ None → with_form n form es ≡ es) → form_at n (e ∷ es) ≡ None → with_form n form (e ∷ es) ≡ e ∷ es
absent_case true n form e es k ih none = absurd (some_none e.form (rw k at none))
absent_case false n form e es k ih none = rw k (ap (λ (xs : List Entry). e ∷ xs) (ih (rw k at none)))

-- a node that isn't there gets no form
absent : (n : ℕ) (form : Form) (es : List Entry) → form_at n es ≡ None → with_form n form es ≡ es
absent n form [] none = refl
absent n form (e ∷ es) none = absent_case (nat_eq e.number n) n form e es refl (absent n form es) none

entry_with : Entry → Form → Entry
entry_with e form = record { number = e.number; form = form }

back_case : (b : Bool) (n : ℕ) (old form : Form) (e : Entry) (es : List Entry) → nat_eq e.number n ≡ b → (AreOnce es → form_at n es ≡ Some old → with_form n old (with_form n form es) ≡ es)
    → AreOnce (e ∷ es) → form_at n (e ∷ es) ≡ Some old → with_form n old (with_form n form (e ∷ es)) ≡ e ∷ es
back_case true n old form e es k ih once at =
    let same : e.form ≡ old = some_form e.form old (rw k at at) in
    let none : form_at n es ≡ None = subst (λ (m : ℕ). form_at m es ≡ None) (same_is e.number n k) once.0 in
    let rest : with_form n old (with_form n form es) ≡ es = ap (with_form n old) (absent n form es none) ∙ absent n old es none in
    rw (k, k) (λ i. record { number = e.number; form = sym same i } ∷ rest i)
back_case false n old form e es k ih once at =
    let rest : with_form n old (with_form n form es) ≡ es = ih once.1 (rw k at at) in
    rw (k, k) (ap (λ (xs : List Entry). e ∷ xs) rest)

-- a node has its form again
pub put_back : (n : ℕ) (old form : Form) (es : List Entry) → AreOnce es → form_at n es ≡ Some old → with_form n old (with_form n form es) ≡ es
put_back n old form [] once at = refl
put_back n old form (e ∷ es) once at = back_case (nat_eq e.number n) n old form e es refl (put_back n old form es) once at

-- the form of a hub that is put back
pub record PutsBack (hub : ℕ) (form : FormCase) (w v : World) : Type 0 where
  pub kind : KeepsKind form (form_at hub v.nodes)
  pub adds : AddsNone v hub (shown [] form)
  pub again : put_form hub form v ≡ w

back_form : (hub : ℕ) (content : ContentCase) (is_named : Bool) (branches : List ℕ) (c : Content) (named : Bool) (w : World) → c ≡ content_shown content → named ≡ is_named → AreOnce w.nodes → form_at hub w.nodes ≡ Some (Hub c named branches)
    → PutsBack hub (HubCase content is_named) w (put hub (Hub c false branches) w)
back_form hub content is_named branches c named w c_is named_is once at =
    let old : Form = Hub c named branches in
    let bare : Form = Hub c false branches in
    let v : World = put hub bare w in
    let now : form_at hub v.nodes ≡ Some bare = form_put_same hub bare old w.nodes at in
    let form : FormCase = HubCase content is_named in
    let is : shown (branches_of (form_at hub v.nodes)) form ≡ old = ap (λ (o : Option Form). shown (branches_of o) form) now ∙ (λ i. Hub (sym c_is i) (sym named_is i) branches) in
    let nodes : with_form hub old (with_form hub bare w.nodes) ≡ w.nodes = put_back hub old bare w.nodes once at in
    record {
      kind = subst (λ (o : Option Form). KeepsKind form o) (sym now) (refl, refl);
      adds = λ m there. subst (λ (o : Option Form). is_in m (parts_found o) ≡ true) (sym now) (subst (λ (x : Content). is_in m (parts_of (Hub x false branches)) ≡ true) (sym c_is) there);
      again = ap (λ (x : Form). put hub x v) is ∙ ap (λ (es : List Entry). record w { nodes = es }) nodes;
    }

back_case_of : (hub : ℕ) (form : FormCase) (o : Option Form) (w : World) → form_at hub w.nodes ≡ o → AreOnce w.nodes → SeesHub (Some form) o → PutsBack hub form w (hub_unnamed_in hub o w)
back_case_of hub (HubCase content is_named) (Some (Hub c named branches)) w at once sees = back_form hub content is_named branches c named w sees.0 sees.1 once at
back_case_of hub (HubCase content is_named) None w at once sees = absurd sees
back_case_of hub (HubCase content is_named) (Some _) w at once sees = absurd sees
back_case_of hub _ o w at once sees = absurd sees

-- what is put back is the form that it had
pub puts_back : (hub : ℕ) (form : FormCase) (w : World) → AreOnce w.nodes → SeesHub (Some form) (form_at hub w.nodes) → PutsBack hub form w (hub_unnamed hub w)
puts_back hub form w once sees = back_case_of hub form (form_at hub w.nodes) w refl once sees

-- ---- what the test finds

unnamed_fires_case : (hub : ℕ) (o : Option Form) (w : World) → (hub_unnamed_in hub o w).firing ≡ w.firing
unnamed_fires_case hub (Some (Hub content is_named branches)) w = refl
unnamed_fires_case hub None w = refl
unnamed_fires_case hub (Some _) w = refl

-- the same event fires
unnamed_fires : (hub : ℕ) (w : World) → (hub_unnamed hub w).firing ≡ w.firing
unnamed_fires hub w = unnamed_fires_case hub (form_at hub w.nodes) w

and_false : (b : Bool) → (b && false) ≡ false
and_false true = refl
and_false false = refl

goes_case : (f hub : ℕ) (o : Option Form) (v : World)
    → is_in f (hub_falling (Holding []) v (λ n. falling (Holding []) v (depth_of v) [] [] n) [] hub o) ≡ (is_unreferenced o && is_in f (falling (Holding []) v (depth_of v) [] [] hub))
goes_case f hub (Some (Hub content false [])) v = refl
goes_case f hub (Some (Hub content false (b ∷ branches))) v = refl
goes_case f hub (Some (Hub content true branches)) v = refl
goes_case f hub None v = refl
goes_case f hub (Some _) v = refl

test_at : (firing : Option ℕ) (hub : ℕ) (v w : World) → v ≡ hub_unnamed hub w → hub_frees_firing firing hub w ≡ (is_unreferenced (form_at hub v.nodes) && frees_firing firing hub v)
test_at None hub v w is = sym (and_false (is_unreferenced (form_at hub v.nodes)))
test_at (Some f) hub v w is = ap (λ (x : World). is_in f (hub_goes hub x)) (sym is) ∙ goes_case f hub (form_at hub v.nodes) v

-- a hub goes where neither name nor branch is left
pub hub_tested : (hub : ℕ) (w : World) → hub_frees_firing w.firing hub w ≡ (is_unreferenced (form_at hub (hub_unnamed hub w).nodes) && frees_firing (hub_unnamed hub w).firing hub (hub_unnamed hub w))
hub_tested hub w =
    test_at w.firing hub (hub_unnamed hub w) w refl
    ∙ ap (λ (o : Option ℕ). is_unreferenced (form_at hub (hub_unnamed hub w).nodes) && frees_firing o hub (hub_unnamed hub w)) (sym (unnamed_fires hub w))

none_case : (o : Option Form) → SeesHub None o → is_unreferenced o ≡ false
none_case (Some (Hub content is_named branches)) sees = absurd sees
none_case None sees = refl
none_case (Some _) sees = refl

none_unnamed : (hub : ℕ) (o : Option Form) (w : World) → SeesHub None o → hub_unnamed_in hub o w ≡ w
none_unnamed hub (Some (Hub content is_named branches)) w sees = absurd sees
none_unnamed hub None w sees = refl
none_unnamed hub (Some _) w sees = refl

-- what is no hub doesn't go
pub no_hub_tested : (hub : ℕ) (w : World) → SeesHub None (form_at hub w.nodes) → false ≡ hub_frees_firing w.firing hub w
no_hub_tested hub w sees =
    sym (test_at w.firing hub w w (sym (none_unnamed hub (form_at hub w.nodes) w sees))
    ∙ ap (λ (b : Bool). b && frees_firing w.firing hub w) (none_case (form_at hub w.nodes) sees))
