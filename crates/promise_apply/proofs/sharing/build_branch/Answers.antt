use Rattle.std.proofs.Common.{◌≡◌, ℕ, List, [], ◌∷◌, ◌++◌, Option, None, Some, Bool, true, false, refl, sym, ap, subst, ◌∙◌, arith}
use Rattle.std.specs.Prelude.{nat_eq}
use Rattle.std.proofs.lemmas.Bool.Decides.{nat_tests}
use Rattle.kj_model.specs.Nodes.{Form, Branch, Hub, Entry, form_at}
use Rattle.kj_model.specs.World.{World}
use Rattle.kj_model.specs.Effects.{node_of, leaf_built, with_branch_in, branch_built}
use Rattle.promise_nodes.specs.Kept.{SameNames}
use Rattle.promise_apply.proofs.sharing.build_branch.Goals as goal

none_isnt : (form : Form) → ◌≡◌ {A = Option Form} (Some form) None → ⊥
none_isnt form e = cc

last_case : (b : Bool) (n : ℕ) (form : Form) (e : Entry) (es : List Entry) → nat_eq e.number n ≡ b → form_at n (e ∷ es) ≡ None → (form_at n es ≡ None → form_at n (es ++ record { number = n; form = form } ∷ []) ≡ Some form)
    → form_at n (e ∷ es ++ record { number = n; form = form } ∷ []) ≡ Some form
last_case true n form e es h none ih = absurd (none_isnt e.form (rw h at none))
last_case false n form e es h none ih = rw h (ih (rw h at none))

-- the last node, which wasn't there
last_form : (n : ℕ) (form : Form) (es : List Entry) → form_at n es ≡ None → form_at n (es ++ record { number = n; form = form } ∷ []) ≡ Some form
last_form n form [] none = let same : nat_eq n n ≡ true = grind (arith, nat_tests) in rw same refl
last_form n form (e ∷ es) none = last_case (nat_eq e.number n) n form e es refl none (last_form n form es)

other_case : (b : Bool) (n m : ℕ) (form : Form) (e : Entry) (es : List Entry) → nat_eq e.number m ≡ b → form_at m (es ++ record { number = n; form = form } ∷ []) ≡ form_at m es
    → form_at m (e ∷ es ++ record { number = n; form = form } ∷ []) ≡ form_at m (e ∷ es)
other_case true n m form e es h ih = rw h refl
other_case false n m form e es h ih = rw h ih

-- the others
other_form : (n m : ℕ) (form : Form) (es : List Entry) → nat_eq n m ≡ false → form_at m (es ++ record { number = n; form = form } ∷ []) ≡ form_at m es
other_form n m form [] apart = rw apart refl
other_form n m form (e ∷ es) apart = other_case (nat_eq e.number m) n m form e es refl (other_form n m form es apart)

seen_case : (b : Bool) (n hub : ℕ) (es : List Entry) (v : World) → nat_eq n hub ≡ b → form_at n es ≡ None
    → with_branch_in n hub (form_at hub (es ++ record { number = n; form = Branch hub } ∷ [])) v ≡ with_branch_in n hub (form_at hub es) v
seen_case true n hub es v h none =
    let same : n ≡ hub = grind (arith, nat_tests) in
    ap (λ (f : Option Form). with_branch_in n hub f v) (subst (λ (m : ℕ). form_at m (es ++ record { number = n; form = Branch hub } ∷ []) ≡ Some (Branch hub)) same (last_form n (Branch hub) es none))
    ∙ sym (ap (λ (f : Option Form). with_branch_in n hub f v) (subst (λ (m : ℕ). form_at m es ≡ None) same none))
seen_case false n hub es v h none = ap (λ (f : Option Form). with_branch_in n hub f v) (other_form n hub (Branch hub) es h)

branched_names : (n hub : ℕ) (f : Option Form) (w : World) → SameNames w (with_branch_in n hub f w)
branched_names n hub (Some (Hub content is_named branches)) w = refl
branched_names n hub None w = refl
branched_names n hub (Some _) w = refl

pub returns-clause-stands : goal.returns-clause-stands
returns-clause-stands g c w both held listless =
    let leaf = c.build_leaf-branch in
    let name = c.args.name.0 in
    let h = c.args.hub.number.0 in
    let b = leaf.result.number.0 in
    let next = g.met.N.Nodes.next_is c.args.nodes.now w both.0 in
    let number : w.next ≡ b = next ∙ sym leaf.ensures.number in
    let v = leaf_built name (Branch h) w in
    let stood = leaf.ensures.stands w both listless in
    let anew : form_at w.next w.nodes ≡ None = subst (λ (m : ℕ). form_at m w.nodes ≡ None) (sym next) (leaf.ensures.anew w both.0) in
    let at : form_at b v.nodes ≡ Some (Branch h) = subst (λ (m : ℕ). form_at m v.nodes ≡ Some (Branch h)) number (last_form w.next (Branch h) w.nodes anew) in
    let joined = c.join_hub.ensures.stands v stood.0 at in
    let u = with_branch_in b h (form_at h v.nodes) v in
    let names = g.met.M.Names.nodes_free leaf.new.names v u (branched_names b h (form_at h v.nodes) v) stood.1 in
    let same : u ≡ branch_built name c.args._hub_name.0 w =
    ap (λ (m : ℕ). with_branch_in m h (form_at h v.nodes) v) (sym number)
    ∙ seen_case (nat_eq w.next h) w.next h w.nodes v refl anew
    ∙ ap (λ (m : ℕ). with_branch_in w.next m (form_at m w.nodes) (leaf_built name (Branch m) w)) (sym (ap node_of held)) in
    (subst (g.N.Nodes.stands c.join_hub.new.self) same joined, subst (g.M.Names.stands leaf.new.names) same names)
