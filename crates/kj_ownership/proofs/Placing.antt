-- Forms suit their places when a tree takes the place of another.
use Rattle.std.proofs.Common.{◌≡◌, ◌⊎◌, inl, inr, ℕ, List, [], ◌∷◌, Bool, true, false, Option, None, Some, arith, refl, sym, ap, ◌∙◌, subst}
use Rattle.std.specs.Prelude.{nat_eq, is_some, map, option_to_list}
use Rattle.std.proofs.lemmas.Bool.{false≢true}
use Rattle.std.proofs.lemmas.Bool.Decides.{nat_tests}
use Rattle.kj_model.specs.Nodes.{Form, Tree, Kept, Waits, Fired, Keeps, Gone, Ready, Then, Chain, Eager, Wrap, Hub, Side, Race, Join, Task, Request, form_at, parts_found, is_in, renamed, renamed_form, with_tree_renamed}
use Rattle.kj_model.specs.World.{World, Named, Held, Promise, Group, RequestOf, Awaited, held_at}
use Rattle.kj_model.specs.Fire.{held_renamed, named_renamed, awaited_renamed, replaced}
use Rattle.kj_model.specs.Owned.{awaited_roots}
use Rattle.kj_model.specs.Framed.{times, NamesApart}
use Rattle.kj_ownership.specs.Owners.{owns}
use Rattle.kj_ownership.specs.Shapes.{Kind, OfTree, OfLink, OfSide, OfTask, OfRequest, OfEnded, is_tree, is_link, is_side, is_task, is_request, is_ended, suits, part_kind, held_kind, roots_found, Shaped}
use Rattle.kj_model.proofs.Members.{in_one, in_none}
use Rattle.kj_model.proofs.Once.{false_by}
use Rattle.kj_ownership.proofs.Stays.{out_times}
use Rattle.kj_ownership.proofs.Replaced.{some_renamed, form_renamed, is_fixed, fixed_roots, IsTreePlace}
use Rattle.kj_ownership.proofs.Makes.{held_suits}
use Rattle.kj_ownership.proofs.Tasks.{total_by_at}

-- the kinds of forms stay
tree_renamed : (n root : ℕ) (f : Form) → is_tree (renamed_form n root f) ≡ is_tree f
tree_renamed n root (Ready o) = refl
tree_renamed n root _ = refl

link_renamed : (n root : ℕ) (f : Form) → is_link (renamed_form n root f) ≡ is_link f
link_renamed n root (Ready o) = refl
link_renamed n root _ = refl

side_renamed : (n root : ℕ) (f : Form) → is_side (renamed_form n root f) ≡ is_side f
side_renamed n root (Ready o) = refl
side_renamed n root _ = refl

task_renamed : (n root : ℕ) (f : Form) → is_task (renamed_form n root f) ≡ is_task f
task_renamed n root (Ready o) = refl
task_renamed n root _ = refl

request_renamed : (n root name : ℕ) (f : Form) → is_request name (renamed_form n root f) ≡ is_request name f
request_renamed n root name (Ready o) = refl
request_renamed n root name _ = refl

ended_renamed : (n root : ℕ) (f : Form) → is_ended (renamed_form n root f) ≡ is_ended f
ended_renamed n root (Task None) = refl
ended_renamed n root (Task (Some t)) = refl
ended_renamed n root _ = refl

suits_renamed : (n root : ℕ) (k : Kind) (o : Option Form) → suits k (some_renamed n root o) ≡ suits k o
suits_renamed n root k None = refl
suits_renamed n root OfTree (Some f) = tree_renamed n root f
suits_renamed n root OfLink (Some f) = link_renamed n root f
suits_renamed n root OfSide (Some f) = side_renamed n root f
suits_renamed n root OfTask (Some f) = task_renamed n root f
suits_renamed n root (OfRequest name) (Some f) = request_renamed n root name f
suits_renamed n root OfEnded (Some f) = ended_renamed n root f

kind_renamed : (n root : ℕ) (o : Option Form) → part_kind (some_renamed n root o) ≡ part_kind o
kind_renamed n root None = refl
kind_renamed n root (Some (Ready o)) = refl
kind_renamed n root (Some _) = refl

is_race : Option Form → Bool
is_race (Some (Race l r w)) = true
is_race other = false

race_renamed : (n root left right side : ℕ) (o : Option Form) → some_renamed n root o ≡ Some (Race left right (Some side)) → o ≡ Some (Race left right (Some side))
unfolding is_race
race_renamed n root left right side None e = e
race_renamed n root left right side (Some (Race a b w)) e = e
race_renamed n root left right side (Some _) e = absurd (false≢true (ap is_race e))

-- a place after is one before, or that of the tree that came
one_renamed : (n root p t : ℕ) → is_in p (renamed n root t ∷ []) ≡ true → (is_in p (t ∷ []) ≡ true) ⊎ (p ≡ root)
one_renamed n root p t i = decide (nat_eq t n) refl
  where
    there : nat_eq t n ≡ true → renamed n root t ≡ root
    there e = grind (arith, nat_tests)

    same : nat_eq t n ≡ false → renamed n root t ≡ t
    same e = grind (arith, nat_tests)

    decide : (b : Bool) → nat_eq t n ≡ b → (is_in p (t ∷ []) ≡ true) ⊎ (p ≡ root)
    decide true e = inr (sym (in_one p root (subst (λ (y : ℕ). is_in p (y ∷ []) ≡ true) (there e) i)))
    decide false e = inl (subst (λ (y : ℕ). is_in p (y ∷ []) ≡ true) (same e) i)

of_tree : {A : Type 0} (p root : ℕ) (k : Kind) → k ≡ OfTree → A ⊎ (p ≡ root) → A ⊎ ((p ≡ root) × (k ≡ OfTree))
of_tree p root k e (inl a) = inl a
of_tree p root k e (inr b) = inr (b, e)

in_renamed : (n root p : ℕ) (o : Option Form) → is_in p (parts_found (some_renamed n root o)) ≡ true → (is_in p (parts_found o) ≡ true) ⊎ ((p ≡ root) × (part_kind o ≡ OfTree))
in_renamed n root p None i = absurd (in_none p i)
in_renamed n root p (Some (Then v e (Some t))) i = of_tree p root OfTree refl (one_renamed n root p t i)
in_renamed n root p (Some (Then v e None)) i = absurd (in_none p i)
in_renamed n root p (Some (Chain link)) i = inl i
in_renamed n root p (Some (Race a b w)) i = inl i
in_renamed n root p (Some (Join fast sides)) i = inl i
in_renamed n root p (Some (Eager (Tree t))) i = of_tree p root OfTree refl (one_renamed n root p t i)
in_renamed n root p (Some (Eager (Kept o))) i = absurd (in_none p i)
in_renamed n root p (Some (Wrap c (Tree t))) i = of_tree p root OfTree refl (one_renamed n root p t i)
in_renamed n root p (Some (Wrap c (Kept o))) i = absurd (in_none p i)
in_renamed n root p (Some (Hub (Tree t) a bs)) i = of_tree p root OfTree refl (one_renamed n root p t i)
in_renamed n root p (Some (Hub (Kept o) a bs)) i = absurd (in_none p i)
in_renamed n root p (Some (Side (Waits t))) i = of_tree p root OfTree refl (one_renamed n root p t i)
in_renamed n root p (Some (Side (Fired t))) i = of_tree p root OfTree refl (one_renamed n root p t i)
in_renamed n root p (Some (Side (Keeps o))) i = absurd (in_none p i)
in_renamed n root p (Some (Side Gone)) i = absurd (in_none p i)
in_renamed n root p (Some (Task None)) i = absurd (in_none p i)
in_renamed n root p (Some (Task (Some t))) i = of_tree p root OfTree refl (one_renamed n root p t i)
in_renamed n root p (Some (Request r None)) i = absurd (in_none p i)
in_renamed n root p (Some (Request r (Some t))) i = of_tree p root OfTree refl (one_renamed n root p t i)
in_renamed n root p (Some _) i = absurd (in_none p i)

-- names
held_some : ℕ → ℕ → Option Held → Option Held
held_some n root None = None
held_some n root (Some h) = Some (held_renamed n root h)

held_more : (n root c : ℕ) (x : Named) (xs : List Named) → held_at c (map (named_renamed n root) xs) ≡ held_some n root (held_at c xs) → held_at c (map (named_renamed n root) (x ∷ xs)) ≡ held_some n root (held_at c (x ∷ xs))
unfolding held_some
held_more n root c x xs h = grind (arith, nat_tests)

names_renamed : (n root c : ℕ) (xs : List Named) → held_at c (map (named_renamed n root) xs) ≡ held_some n root (held_at c xs)
unfolding held_some
names_renamed n root c [] = refl
names_renamed n root c (x ∷ xs) = held_more n root c x xs (names_renamed n root c xs)

root_renamed : (n root c p : ℕ) (o : Option Held) → is_in p (roots_found (held_some n root o)) ≡ true → (is_in p (roots_found o) ≡ true) ⊎ ((p ≡ root) × (held_kind c o ≡ OfTree))
unfolding held_some
root_renamed n root c p None i = absurd (in_none p i)
root_renamed n root c p (Some (Promise t)) i = of_tree p root OfTree refl (one_renamed n root p t i)
root_renamed n root c p (Some _) i = inl i

held_kind_renamed : (n root c : ℕ) (o : Option Held) → held_kind c (held_some n root o) ≡ held_kind c o
unfolding held_some
held_kind_renamed n root c None = refl
held_kind_renamed n root c (Some (Promise t)) = refl
held_kind_renamed n root c (Some _) = refl

waits_renamed : (n root p : ℕ) (a : Option Awaited) → is_in p (awaited_roots (awaited_renamed n root a)) ≡ true → (is_in p (awaited_roots a) ≡ true) ⊎ (p ≡ root)
waits_renamed n root p None i = absurd (in_none p i)
waits_renamed n root p (Some a) i = one_renamed n root p a.root i

pub shaped_replaced : (n root : ℕ) (w : World) → suits OfTree (form_at root w.nodes) ≡ true → Shaped w → Shaped (replaced n root w)
shaped_replaced n root w tree sh = record {
  winners = λ m left right side e. sh.winners m left right side (race_renamed n root left right side (form_at m w.nodes) (sym (form_renamed n root m w.nodes) ∙ e));
  parts = λ q p o. elim (in_renamed n root p (form_at q w.nodes) (sym (ap (λ (f : Option Form). is_in p (parts_found f)) (form_renamed n root q w.nodes)) ∙ o)) [
    | inl i ↦ by_kind p (part_kind (form_at q (with_tree_renamed n root w.nodes))) (part_kind (form_at q w.nodes)) (kinds q) (sh.parts q p i)
    | inr r ↦ by_kind p (part_kind (form_at q (with_tree_renamed n root w.nodes))) (part_kind (form_at q w.nodes)) (kinds q) (of_root p (part_kind (form_at q w.nodes)) r.0 r.1)
  ];
  names = λ c p i. elim (root_renamed n root c p (held_at c w.names) (sym (ap (λ (h : Option Held). is_in p (roots_found h)) (names_renamed n root c w.names)) ∙ i)) [
    | inl j ↦ by_kind p (held_kind c (held_at c (map (named_renamed n root) w.names))) (held_kind c (held_at c w.names)) (held_kinds c) (sh.names c p j)
    | inr r ↦ by_kind p (held_kind c (held_at c (map (named_renamed n root) w.names))) (held_kind c (held_at c w.names)) (held_kinds c) (of_root p (held_kind c (held_at c w.names)) r.0 r.1)
  ];
  awaited = λ p i. elim (waits_renamed n root p w.awaited i) [ inl j ↦ moved p OfTree (sh.awaited p j) | inr e ↦ moved p OfTree (of_root p OfTree e refl) ];
  detached = λ p i. moved p OfTask (sh.detached p i);
  left_over = λ p f i. moved p OfEnded (sh.left_over p f i);
}
  where
    moved : (p : ℕ) (k : Kind) → suits k (form_at p w.nodes) ≡ true → suits k (form_at p (with_tree_renamed n root w.nodes)) ≡ true
    moved p k s = ap (suits k) (form_renamed n root p w.nodes) ∙ suits_renamed n root k (form_at p w.nodes) ∙ s

    by_kind : (p : ℕ) (new old : Kind) → new ≡ old → suits old (form_at p w.nodes) ≡ true → suits new (form_at p (with_tree_renamed n root w.nodes)) ≡ true
    by_kind p new old e s = subst (λ (k : Kind). suits k (form_at p (with_tree_renamed n root w.nodes)) ≡ true) (sym e) (ap (suits old) (form_renamed n root p w.nodes) ∙ suits_renamed n root old (form_at p w.nodes) ∙ s)

    kinds : (q : ℕ) → part_kind (form_at q (with_tree_renamed n root w.nodes)) ≡ part_kind (form_at q w.nodes)
    kinds q = ap part_kind (form_renamed n root q w.nodes) ∙ kind_renamed n root (form_at q w.nodes)

    held_kinds : (c : ℕ) → held_kind c (held_at c (map (named_renamed n root) w.names)) ≡ held_kind c (held_at c w.names)
    held_kinds c = ap (held_kind c) (names_renamed n root c w.names) ∙ held_kind_renamed n root c (held_at c w.names)

    of_root : (p : ℕ) (k : Kind) → p ≡ root → k ≡ OfTree → suits k (form_at p w.nodes) ≡ true
    of_root p k e f = subst (λ (j : Kind). suits j (form_at p w.nodes) ≡ true) (sym f) (subst (λ (y : ℕ). suits OfTree (form_at y w.nodes) ≡ true) (sym e) tree)

-- the place of a Chain is one that a tree can take
fixed_chain : (o : Option Form) (link : ℕ) → is_fixed o ≡ true → suits (part_kind o) (Some (Chain link)) ≡ true → ⊥
fixed_chain (Some (Chain l)) link f s = false≢true s
fixed_chain (Some (Race a b w)) link f s = false≢true s
fixed_chain (Some (Join fast sides)) link f s = false≢true s
fixed_chain None link f s = false≢true f
fixed_chain (Some _) link f s = false≢true f

held_chain : (n c link : ℕ) (h : Held) (w : World) → held_at c w.names ≡ Some h → form_at n w.nodes ≡ Some (Chain link) → Shaped w → times n (fixed_roots h) ≡ 0
held_chain n c link (Group error tasks empty) w at_c at sh = out_times n tasks (false_by (is_in n tasks) (λ i. false≢true (ap (suits OfTask) (sym at) ∙ held_suits c n (Group error tasks empty) w at_c sh i)))
held_chain n c link (RequestOf r) w at_c at sh = out_times n (option_to_list r) (false_by (is_in n (option_to_list r)) (λ i. false≢true (ap (suits (held_kind c (Some (RequestOf r)))) (sym at) ∙ held_suits c n (RequestOf r) w at_c sh i)))
held_chain n c link _ w at_c at sh = refl

pub chain_place : (n link : ℕ) (w : World) → form_at n w.nodes ≡ Some (Chain link) → is_some w.firing ≡ true → NamesApart w.names → Shaped w → IsTreePlace n w
chain_place n link w at firing apart sh = record {
  forms = λ q f. out_times n _ (false_by (owns q n w.nodes) (λ o. fixed_chain (form_at q w.nodes) link f (ap (suits (part_kind (form_at q w.nodes))) (sym at) ∙ sh.parts q n o)));
  helds = total_by_at (λ (h : Held). times n (fixed_roots h)) w.names apart (λ c h at_c. held_chain n c link h w at_c at sh);
  left_over = out_times n w.left_over (false_by (is_in n w.left_over) (λ i. false≢true (ap (suits OfEnded) (sym at) ∙ sh.left_over n firing i)));
  detached = out_times n w.detached (false_by (is_in n w.detached) (λ i. false≢true (ap (suits OfTask) (sym at) ∙ sh.detached n i)));
}
