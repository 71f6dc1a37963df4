-- The nodes of a tree go in the order of the tree, whatever hubs go between them.
use Rattle.std.proofs.Common.{zero, suc, ◌≡◌, inl, inr, ℕ, List, [], ◌∷◌, ◌++◌, Bool, true, false, cond, Option, None, Some, refl, sym, ap, ◌∙◌, subst, ◌||◌}
use Rattle.std.specs.Prelude.{flat_map, filter, map}
use Rattle.std.proofs.lemmas.List.Elements.{filter-append}
use Rattle.kj_base.specs.Record.{Free}
use Rattle.kj_model.specs.Nodes.{Entry, Form, Branch, Hub, form_at, parts_of, is_in}
use Rattle.kj_model.specs.World.{World, State}
use Rattle.kj_model.specs.Changes.{frees_in}
use Rattle.kj_model.specs.Free.{Guard, Every, is_guarded, free_to}
use Rattle.kj_model.specs.Trees.{some_parts, over_parts, tree_numbers, none_if, AreApart, HubsStay, Frees}
use Rattle.kj_model.specs.Falling.{form_then, without_all, unless_kept, hub_falling, reference_falling, each_falling, form_falling, falling, Reason, OfTree, OfHub, is_unnamed_hub, AreDisjoint, StandApart}
use Rattle.kj_model.proofs.Freed.{AllOut, none_none, apart_left, apart_right, apart_out, tree_freed}
use Rattle.kj_model.proofs.Spared.{tree_freed_by}
use Rattle.kj_model.proofs.Falling.{node_falls}
use Rattle.kj_model.proofs.Members.{Within, in_either, in_left, in_right, in_one, in_self, in_none}
use Rattle.kj_model.proofs.Reasons.{node_reason}
use Rattle.kj_model.proofs.Once.{both_ways, false_by, out_both, hub_unnamed}

-- those of these numbers that are in the list
abbrev pub kept_in : List ℕ → List ℕ → List ℕ
kept_in tree ns = filter (λ m. is_in m tree) ns

kept_none : (tree xs : List ℕ) → AreDisjoint xs tree → kept_in tree xs ≡ []
kept_none tree [] d = refl
kept_none tree (x ∷ xs) d = ap (λ b. cond b (x ∷ kept_in tree xs) (kept_in tree xs)) (d x (in_self x xs)) ∙ kept_none tree xs (λ m i. d m (in_right m (x ∷ []) xs i))

kept_one : (tree : List ℕ) (n : ℕ) → is_in n tree ≡ true → kept_in tree (n ∷ []) ≡ n ∷ []
kept_one tree n i = ap (λ b. cond b (n ∷ []) []) i

in_kept : (m : ℕ) (tree xs : List ℕ) → is_in m tree ≡ true → is_in m xs ≡ true → is_in m (kept_in tree xs) ≡ true
in_kept m tree [] t i = i
in_kept m tree (x ∷ xs) t i = elim (in_either m (x ∷ []) xs i) [
  | inl a ↦ ap (λ b. is_in m (cond b (x ∷ kept_in tree xs) (kept_in tree xs))) (subst (λ (y : ℕ). is_in y tree ≡ true) (sym (in_one m x a)) t) ∙ in_left m (x ∷ []) (kept_in tree xs) a
  | inr c ↦ more (is_in x tree) m x (kept_in tree xs) (in_kept m tree xs t c)
]
  where
    more : (b : Bool) (m x : ℕ) (ys : List ℕ) → is_in m ys ≡ true → is_in m (cond b (x ∷ ys) ys) ≡ true
    more true m x ys i = in_right m (x ∷ []) ys i
    more false m x ys i = i

pub out_disjoint : (ys xs : List ℕ) → AllOut ys xs → AreDisjoint ys xs
out_disjoint [] xs h m i = absurd (in_none m i)
out_disjoint (y ∷ ys) xs h m i = elim (in_either m (y ∷ []) ys i) [
  | inl a ↦ subst (λ (x : ℕ). is_in x xs ≡ false) (in_one m y a) h.0
  | inr b ↦ out_disjoint ys xs h.1 m b
]

-- the trees of hubs without a name are elsewhere
abbrev Elsewhere : List Entry → List ℕ → Type 0
Elsewhere nodes tree = (j hub : ℕ) → is_unnamed_hub (form_at hub nodes) ≡ true → AreDisjoint (tree_numbers j nodes hub) tree

reason_out : (k : ℕ) (nodes : List Entry) (tree ns : List ℕ) (hub m : ℕ) → Elsewhere nodes tree → is_unnamed_hub (form_at hub nodes) ≡ true → Reason k nodes ns hub m → is_in m tree ≡ false
reason_out k nodes tree ns hub m e u (OfTree a) = e k hub u m a
reason_out k nodes tree ns hub m e u (OfHub h f i a) = e k h (ap is_unnamed_hub f.form) m a

hub_out : (guard : Guard) (w : World) (k : ℕ) (tree way done : List ℕ) (hub : ℕ) → Elsewhere w.nodes tree → is_unnamed_hub (form_at hub w.nodes) ≡ true → AreDisjoint (falling guard w k way done hub) tree
hub_out guard w k tree way done hub e u m i =
    let ns = falling guard w k way done hub in
    reason_out k w.nodes tree ((way ++ done) ++ ns) hub m e u
    (node_reason guard w k way done ((way ++ done) ++ ns) hub (λ x j. in_left x (way ++ done) ns (in_left x way done j)) (λ x j. in_left x (way ++ done) ns (in_right x way done j)) (λ x j. in_right x (way ++ done) ns j) m i)

kept_out : (guard : Guard) (w : World) (k : ℕ) (tree way done : List ℕ) (hub : ℕ) (b : Bool) → Elsewhere w.nodes tree → is_unnamed_hub (form_at hub w.nodes) ≡ true → kept_in tree (unless_kept b (falling guard w k way done) hub) ≡ []
kept_out guard w k tree way done hub true e u = refl
kept_out guard w k tree way done hub false e u = kept_none tree (falling guard w k way done hub) (hub_out guard w k tree way done hub e u)

unnamed_out : (guard : Guard) (w : World) (k : ℕ) (tree way done : List ℕ) (hub : ℕ) (o : Option Form) → Elsewhere w.nodes tree → form_then way done hub w.nodes ≡ o → kept_in tree (hub_falling guard w (falling guard w k way done) done hub o) ≡ []
unnamed_out guard w k tree way done hub (Some (Hub content false [])) e is = kept_out guard w k tree way done hub (is_guarded guard hub (without_all done w)) e (hub_unnamed (λ b. is_in b way || is_in b done) hub w.nodes (is_in hub done) (form_at hub w.nodes) content is)
unnamed_out guard w k tree way done hub (Some (Hub content false (b ∷ bs))) e is = refl
unnamed_out guard w k tree way done hub (Some (Hub content true bs)) e is = refl
unnamed_out guard w k tree way done hub None e is = refl
unnamed_out guard w k tree way done hub (Some _) e is = refl

reference_out : (guard : Guard) (w : World) (k : ℕ) (tree way done : List ℕ) (n : ℕ) (form : Form) → Elsewhere w.nodes tree → kept_in tree (reference_falling guard w (falling guard w k) way done n form) ≡ []
reference_out guard w k tree way done n (Branch hub) e = unnamed_out guard w k tree (n ∷ way) done hub (form_then (n ∷ way) done hub w.nodes) e refl
reference_out guard w k tree way done n _ e = refl

abbrev GoesInOrder : Guard → World → List ℕ → ℕ → Type 0
GoesInOrder guard w tree k = (way done : List ℕ) (n : ℕ) → Within (tree_numbers k w.nodes n) tree → AreApart (tree_numbers k w.nodes n) → AreDisjoint (tree_numbers k w.nodes n) done → kept_in tree (falling guard w k way done n) ≡ tree_numbers k w.nodes n

each_ordered : (guard : Guard) (w : World) (tree : List ℕ) (k : ℕ) (way done ps : List ℕ) → GoesInOrder guard w tree k → Within (flat_map (tree_numbers k w.nodes) ps) tree → AreApart (flat_map (tree_numbers k w.nodes) ps) → AreDisjoint (flat_map (tree_numbers k w.nodes) ps) done
    → kept_in tree (each_falling (falling guard w k way) done ps) ≡ flat_map (tree_numbers k w.nodes) ps
each_ordered guard w tree k way done [] go t a d = refl
each_ordered guard w tree k way done (p ∷ ps) go t a d =
    let first = falling guard w k way done p in
    let mine = tree_numbers k w.nodes p in
    let rest = flat_map (tree_numbers k w.nodes) ps in
    let f = go way done p (λ m i. t m (in_left m mine rest i)) (apart_left mine rest a) (λ m i. d m (in_left m mine rest i)) in
    let away : AreDisjoint rest (done ++ first) = λ m i. out_both m done first (d m (in_right m mine rest i)) (false_by (is_in m first) (λ x. both_ways (is_in m mine) (ap (is_in m) (sym f) ∙ in_kept m tree first (t m (in_right m mine rest i)) x) (out_disjoint rest mine (apart_out mine rest a) m i))) in
    filter-append (λ m. is_in m tree) first (each_falling (falling guard w k way) (done ++ first) ps)
    ∙ ap (λ xs. xs ++ kept_in tree (each_falling (falling guard w k way) (done ++ first) ps)) f
    ∙ ap (λ xs. mine ++ xs) (each_ordered guard w tree k way (done ++ first) ps go (λ m i. t m (in_right m mine rest i)) (apart_right mine rest a) away)

form_ordered : (guard : Guard) (w : World) (tree : List ℕ) (k : ℕ) (way done : List ℕ) (n : ℕ) (o : Option Form) → Elsewhere w.nodes tree → GoesInOrder guard w tree k → Within (over_parts (tree_numbers k w.nodes) n (some_parts o)) tree → AreApart (over_parts (tree_numbers k w.nodes) n (some_parts o)) → AreDisjoint (over_parts (tree_numbers k w.nodes) n (some_parts o)) done
    → kept_in tree (form_falling guard w (falling guard w k) way done n o) ≡ over_parts (tree_numbers k w.nodes) n (some_parts o)
form_ordered guard w tree k way done n None e go t a d = refl
form_ordered guard w tree k way done n (Some form) e go t a d =
    let trees = flat_map (tree_numbers k w.nodes) (parts_of form) in
    let below = each_falling (falling guard w k way) done (parts_of form) in
    let ref = reference_falling guard w (falling guard w k) way (done ++ below) n form in
    filter-append (λ m. is_in m tree) below (ref ++ n ∷ [])
    ∙ ap (λ xs. xs ++ kept_in tree (ref ++ n ∷ [])) (each_ordered guard w tree k way done (parts_of form) go (λ m i. t m (in_left m trees (n ∷ []) i)) (apart_left trees (n ∷ []) a) (λ m i. d m (in_left m trees (n ∷ []) i)))
    ∙ ap (λ xs. trees ++ xs) (filter-append (λ m. is_in m tree) ref (n ∷ []) ∙ ap (λ xs. xs ++ kept_in tree (n ∷ [])) (reference_out guard w k tree way (done ++ below) n form e) ∙ kept_one tree n (t n (in_right n trees (n ∷ []) (in_self n []))))

-- a node that isn't live, or that hasn't gone
still_there : (k : ℕ) (nodes : List Entry) (done : List ℕ) (n : ℕ) (o : Option Form) → AreDisjoint (over_parts (tree_numbers k nodes) n (some_parts o)) done → none_if (is_in n done) o ≡ o
still_there k nodes done n None d = none_none (is_in n done)
still_there k nodes done n (Some form) d = ap (λ b. none_if b (Some form)) (d n (in_right n (flat_map (tree_numbers k nodes) (parts_of form)) (n ∷ []) (in_self n [])))

node_ordered : (guard : Guard) (w : World) (tree : List ℕ) (k : ℕ) → Elsewhere w.nodes tree → GoesInOrder guard w tree k
unfolding falling tree_numbers
node_ordered guard w tree zero e way done n t a d = refl
node_ordered guard w tree (suc k) e way done n t a d =
    ap (λ o. kept_in tree (form_falling guard w (falling guard w k) way done n o)) (still_there k w.nodes done n (form_at n w.nodes) d)
    ∙ form_ordered guard w tree k way done n (form_at n w.nodes) e (node_ordered guard w tree k e) t a d

-- the law
pub in_order : (guard : Guard) (w : World) (k n : ℕ) → StandApart n w.nodes → filter (λ m. is_in m (tree_numbers k w.nodes n)) (falling guard w k [] [] n) ≡ tree_numbers k w.nodes n
in_order guard w k n st = node_ordered guard w (tree_numbers k w.nodes n) k (λ j hub u. st.elsewhere j k hub u) [] [] n (λ m i. i) (st.tree k) (λ m i. refl)

-- what was freed is told
pub frees_map : (ns : List ℕ) → frees_in (map Free ns) ≡ ns
frees_map [] = refl
frees_map (n ∷ ns) = ap (λ ms. n ∷ ms) (frees_map ns)

one_list : (w : World) (ms ns : List ℕ) (new : State) → Frees ms (record { world = w; past = [] }) new → Frees ns (record { world = w; past = [] }) new → ms ≡ ns
one_list w ms ns new f g = sym (frees_map ms) ∙ ap frees_in (sym f.told ∙ g.told) ∙ frees_map ns

-- where no hub goes it is the tree
pub only_tree : (guard : Guard) (w : World) (k n : ℕ) → AreApart (tree_numbers k w.nodes n) → HubsStay (tree_numbers k w.nodes n) w.nodes → falling guard w k [] [] n ≡ tree_numbers k w.nodes n
only_tree guard w k n a stay = let s : State = record { world = w; past = [] } in one_list w (falling guard w k [] [] n) (tree_numbers k w.nodes n) (free_to guard k n s) (node_falls guard k n s) (tree_freed_by guard k n s a stay)

pub every_tree : (w : World) (k n : ℕ) → AreApart (tree_numbers k w.nodes n) → falling Every w k [] [] n ≡ tree_numbers k w.nodes n
every_tree w k n a = let s : State = record { world = w; past = [] } in one_list w (falling Every w k [] [] n) (tree_numbers k w.nodes n) (free_to Every k n s) (node_falls Every k n s) (tree_freed k n s a)
