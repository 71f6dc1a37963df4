-- Each node that goes is of the tree, or of the tree of a hub whose branches all go.
use Rattle.std.proofs.Common.{zero, suc, ◌≡◌, ◌⊎◌, inl, inr, ℕ, List, [], ◌∷◌, ◌++◌, Bool, true, false, not, cond, Option, None, Some, refl, ap, ◌∙◌, subst, ◌||◌, ◌&&◌}
use Rattle.std.specs.Prelude.{flat_map}
use Rattle.std.proofs.lemmas.Bool.{false≢true}
use Rattle.kj_model.specs.Nodes.{Entry, Form, Content, Branch, Hub, form_at, parts_of, is_in}
use Rattle.kj_model.specs.World.{World}
use Rattle.kj_model.specs.Free.{Guard, is_guarded}
use Rattle.kj_model.specs.Trees.{tree_numbers, none_if}
use Rattle.kj_model.specs.Falling.{is_branch_of, branches_staying, some_staying, form_then, without_all, unless_kept, hub_falling, reference_falling, each_falling, form_falling, falling, HubFalls, Reason, OfTree, OfHub, is_unnamed_hub}
use Rattle.kj_model.proofs.Freed.{in_app}
use Rattle.kj_model.proofs.Spared.{no_form}
use Rattle.kj_model.proofs.Falling.{some_if}
use Rattle.kj_model.proofs.Members.{Within, in_either, in_left, in_right, in_one, in_self, in_none, tree_more, tree_of}

pub no_cons : (b : ℕ) (xs : List ℕ) → ◌≡◌ {A = List ℕ} (b ∷ xs) [] → ⊥
no_cons b xs e = cc

-- what stays once fewer branches are out is nothing once more are
less_more : (o p r : Bool) (b : ℕ) (xs ys : List ℕ) → (o ≡ true → p ≡ true) → (xs ≡ [] → ys ≡ []) → cond (not (o && r)) (b ∷ xs) xs ≡ [] → cond (not (p && r)) (b ∷ ys) ys ≡ []
less_more true true true b xs ys h k e = k e
less_more true false true b xs ys h k e = absurd (false≢true (h refl))
less_more true p false b xs ys h k e = absurd (no_cons b xs e)
less_more false p r b xs ys h k e = absurd (no_cons b xs e)

staying_less : (p q : ℕ → Bool) (hub : ℕ) (nodes : List Entry) (bs : List ℕ) → ((b : ℕ) → p b ≡ true → q b ≡ true) → branches_staying p hub nodes bs ≡ [] → branches_staying q hub nodes bs ≡ []
staying_less p q hub nodes [] h e = refl
staying_less p q hub nodes (b ∷ bs) h e = less_more (p b) (q b) (is_branch_of hub (form_at b nodes)) b (branches_staying p hub nodes bs) (branches_staying q hub nodes bs) (h b) (staying_less p q hub nodes bs h) e

-- a hub that stands without a name and a branch once some are out
abbrev pub branches_in : Option Form → List ℕ
branches_in (Some (Hub content is_named branches)) = branches
branches_in other = []

pub hub_left : (out : ℕ → Bool) (hub : ℕ) (ns : List ℕ) (nodes : List Entry) (c : Bool) (o : Option Form) (content : Content) → form_at hub nodes ≡ o → ((b : ℕ) → out b ≡ true → is_in b ns ≡ true) → none_if c (some_staying out hub nodes o) ≡ Some (Hub content false []) → HubFalls hub ns nodes
hub_left out hub ns nodes true o content at h e = absurd (no_form (Hub content false []) e)
hub_left out hub ns nodes false None content at h e = absurd (no_form (Hub content false []) e)
hub_left out hub ns nodes false (Some (Hub d false bs)) content at h e = record { content = d; branches = bs; form = at; left = staying_less out (λ b. is_in b ns) hub nodes bs h (ap branches_in e) }
hub_left out hub ns nodes false (Some (Hub d true bs)) content at h e = absurd (false≢true (ap is_unnamed_hub e))
hub_left out hub ns nodes false (Some _) content at h e = absurd (false≢true (ap is_unnamed_hub e))

-- what goes with a node, if anything, includes the node
form_self : (guard : Guard) (w : World) (falls : List ℕ → List ℕ → ℕ → List ℕ) (way done : List ℕ) (n m : ℕ) (o : Option Form) → is_in m (form_falling guard w falls way done n o) ≡ true → is_in n (form_falling guard w falls way done n o) ≡ true
form_self guard w falls way done n m None h = absurd (in_none m h)
form_self guard w falls way done n m (Some form) h =
    let below = each_falling (falls way) done (parts_of form) in
    in_right n below (reference_falling guard w falls way (done ++ below) n form ++ n ∷ []) (in_right n (reference_falling guard w falls way (done ++ below) n form) (n ∷ []) (in_self n []))

pub falling_self : (guard : Guard) (w : World) (k : ℕ) (way done : List ℕ) (n m : ℕ) → is_in m (falling guard w k way done n) ≡ true → is_in n (falling guard w k way done n) ≡ true
unfolding falling
falling_self guard w zero way done n m h = absurd (in_none m h)
falling_self guard w (suc k) way done n m h = form_self guard w (falling guard w k) way done n m (none_if (is_in n done) (form_at n w.nodes)) h

-- it is of the tree of such a hub
abbrev HubReason : ℕ → List Entry → List ℕ → ℕ → Type 0
HubReason k nodes ns m = (hub : ℕ) × HubFalls hub ns nodes × (is_in hub ns ≡ true) × (is_in m (tree_numbers k nodes hub) ≡ true)

abbrev pub HasReasons : Guard → World → ℕ → Type 0
HasReasons guard w k = (way done ns : List ℕ) (n : ℕ) → Within way ns → Within done ns → Within (falling guard w k way done n) ns → (m : ℕ) → is_in m (falling guard w k way done n) ≡ true → Reason k w.nodes ns n m

part_reason : (k : ℕ) (nodes : List Entry) (ns : List ℕ) (p m : ℕ) (ps : List ℕ) → Reason k nodes ns p m → (is_in m (flat_map (tree_numbers k nodes) (p ∷ ps)) ≡ true) ⊎ HubReason k nodes ns m
part_reason k nodes ns p m ps (OfTree a) = inl (in_left m (tree_numbers k nodes p) (flat_map (tree_numbers k nodes) ps) a)
part_reason k nodes ns p m ps (OfHub hub f i a) = inr (hub, f, i, a)

each_reason : (guard : Guard) (w : World) (k : ℕ) (way done ns ps : List ℕ) → HasReasons guard w k → Within way ns → Within done ns → Within (each_falling (falling guard w k way) done ps) ns → (m : ℕ) → is_in m (each_falling (falling guard w k way) done ps) ≡ true
    → (is_in m (flat_map (tree_numbers k w.nodes) ps) ≡ true) ⊎ HubReason k w.nodes ns m
each_reason guard w k way done ns [] has a b c m h = absurd (in_none m h)
each_reason guard w k way done ns (p ∷ ps) has a b c m h =
    let first = falling guard w k way done p in
    let rest = each_falling (falling guard w k way) (done ++ first) ps in
    elim (in_either m first rest h) [
      | inl x ↦ part_reason k w.nodes ns p m ps (has way done ns p a b (λ j i. c j (in_left j first rest i)) m x)
      | inr y ↦ elim (each_reason guard w k way (done ++ first) ns ps has a (λ j i. elim (in_either j done first i) [ inl d ↦ b j d | inr f ↦ c j (in_left j first rest f) ]) (λ j i. c j (in_right j first rest i)) m y) [
        | inl t ↦ inl (in_right m (tree_numbers k w.nodes p) (flat_map (tree_numbers k w.nodes) ps) t)
        | inr u ↦ inr u
      ]
    ]

hub_reason : (k : ℕ) (nodes : List Entry) (ns : List ℕ) (hub m : ℕ) → HubFalls hub ns nodes → is_in hub ns ≡ true → Reason k nodes ns hub m → HubReason k nodes ns m
hub_reason k nodes ns hub m f i (OfTree a) = (hub, f, i, a)
hub_reason k nodes ns hub m f i (OfHub h g j a) = (h, g, j, a)

kept_reason : (guard : Guard) (w : World) (k : ℕ) (way done ns : List ℕ) (hub : ℕ) (b : Bool) → HasReasons guard w k → Within way ns → Within done ns → HubFalls hub ns w.nodes → Within (unless_kept b (falling guard w k way done) hub) ns → (m : ℕ) → is_in m (unless_kept b (falling guard w k way done) hub) ≡ true → HubReason k w.nodes ns m
kept_reason guard w k way done ns hub true has a b f c m h = absurd (in_none m h)
kept_reason guard w k way done ns hub false has a b f c m h = hub_reason k w.nodes ns hub m f (c hub (falling_self guard w k way done hub m h)) (has way done ns hub a b c m h)

out_within : (way done ns : List ℕ) → Within way ns → Within done ns → (b : ℕ) → (is_in b way || is_in b done) ≡ true → is_in b ns ≡ true
out_within way done ns a c b h = elim (in_either b way done (in_app b way done ∙ h)) [ inl x ↦ a b x | inr y ↦ c b y ]

unnamed_reason : (guard : Guard) (w : World) (k : ℕ) (way done ns : List ℕ) (hub : ℕ) (o : Option Form) → form_then way done hub w.nodes ≡ o → HasReasons guard w k → Within way ns → Within done ns → Within (hub_falling guard w (falling guard w k way done) done hub o) ns → (m : ℕ) → is_in m (hub_falling guard w (falling guard w k way done) done hub o) ≡ true → HubReason k w.nodes ns m
unnamed_reason guard w k way done ns hub (Some (Hub content false [])) at has a b c m h =
    kept_reason guard w k way done ns hub (is_guarded guard hub (without_all done w)) has a b
    (hub_left (λ x. is_in x way || is_in x done) hub ns w.nodes (is_in hub done) (form_at hub w.nodes) content refl (out_within way done ns a b) at) c m h
unnamed_reason guard w k way done ns hub (Some (Hub content false (x ∷ xs))) at has a b c m h = absurd (in_none m h)
unnamed_reason guard w k way done ns hub (Some (Hub content true bs)) at has a b c m h = absurd (in_none m h)
unnamed_reason guard w k way done ns hub None at has a b c m h = absurd (in_none m h)
unnamed_reason guard w k way done ns hub (Some _) at has a b c m h = absurd (in_none m h)

with_self : (n : ℕ) (way ns : List ℕ) → is_in n ns ≡ true → Within way ns → Within (n ∷ way) ns
with_self n way ns i a m h = elim (in_either m (n ∷ []) way h) [ inl x ↦ subst (λ (y : ℕ). is_in y ns ≡ true) (in_one m n x) i | inr y ↦ a m y ]

reference_reason : (guard : Guard) (w : World) (k : ℕ) (way done ns : List ℕ) (n : ℕ) (form : Form) → HasReasons guard w k → Within way ns → Within done ns → is_in n ns ≡ true → Within (reference_falling guard w (falling guard w k) way done n form) ns → (m : ℕ) → is_in m (reference_falling guard w (falling guard w k) way done n form) ≡ true → HubReason k w.nodes ns m
reference_reason guard w k way done ns n (Branch hub) has a b i c m h = unnamed_reason guard w k (n ∷ way) done ns hub (form_then (n ∷ way) done hub w.nodes) refl has (with_self n way ns i a) b c m h
reference_reason guard w k way done ns n _ has a b i c m h = absurd (in_none m h)

of_hub : (k : ℕ) (nodes : List Entry) (ns : List ℕ) (n m : ℕ) → HubReason k nodes ns m → Reason (suc k) nodes ns n m
of_hub k nodes ns n m r = OfHub r.0 r.1 r.2 (tree_more k nodes r.0 m r.3)

form_reason : (guard : Guard) (w : World) (k : ℕ) (way done ns : List ℕ) (n : ℕ) (o : Option Form) → none_if (is_in n done) (form_at n w.nodes) ≡ o → HasReasons guard w k → Within way ns → Within done ns → Within (form_falling guard w (falling guard w k) way done n o) ns → (m : ℕ) → is_in m (form_falling guard w (falling guard w k) way done n o) ≡ true → Reason (suc k) w.nodes ns n m
form_reason guard w k way done ns n None at has a b c m h = absurd (in_none m h)
form_reason guard w k way done ns n (Some form) at has a b c m h =
    let below = each_falling (falling guard w k way) done (parts_of form) in
    let ref = reference_falling guard w (falling guard w k) way (done ++ below) n form in
    let trees = flat_map (tree_numbers k w.nodes) (parts_of form) in
    let whole = tree_of k w.nodes n form (some_if (is_in n done) (form_at n w.nodes) form at) in
    let below_in : Within below ns = λ j i. c j (in_left j below (ref ++ n ∷ []) i) in
    let self_in : is_in n ns ≡ true = c n (in_right n below (ref ++ n ∷ []) (in_right n ref (n ∷ []) (in_self n []))) in
    let done_in : Within (done ++ below) ns = λ j i. elim (in_either j done below i) [ inl d ↦ b j d | inr f ↦ below_in j f ] in
    elim (in_either m below (ref ++ n ∷ []) h) [
      | inl x ↦ elim (each_reason guard w k way done ns (parts_of form) has a b below_in m x) [
        | inl t ↦ OfTree (ap (is_in m) whole ∙ in_left m trees (n ∷ []) t)
        | inr u ↦ of_hub k w.nodes ns n m u
      ]
      | inr y ↦ elim (in_either m ref (n ∷ []) y) [
        | inl r ↦ of_hub k w.nodes ns n m (reference_reason guard w k way (done ++ below) ns n form has a done_in self_in (λ j i. c j (in_right j below (ref ++ n ∷ []) (in_left j ref (n ∷ []) i))) m r)
        | inr s ↦ OfTree (ap (is_in m) whole ∙ in_right m trees (n ∷ []) s)
      ]
    ]

pub node_reason : (guard : Guard) (w : World) (k : ℕ) → HasReasons guard w k
unfolding falling
node_reason guard w zero way done ns n a b c m h = absurd (in_none m h)
node_reason guard w (suc k) way done ns n a b c m h = form_reason guard w k way done ns n (none_if (is_in n done) (form_at n w.nodes)) refl (node_reason guard w k) a b c m h

-- the law
pub reasons : (guard : Guard) (w : World) (k n m : ℕ) → is_in m (falling guard w k [] [] n) ≡ true → Reason k w.nodes (falling guard w k [] [] n) n m
reasons guard w k n m h = let ns = falling guard w k [] [] n in node_reason guard w k [] [] ns n (λ j i. absurd (in_none j i)) (λ j i. absurd (in_none j i)) (λ j i. i) m h
