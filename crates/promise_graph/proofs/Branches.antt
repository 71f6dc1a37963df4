-- The branches that a hub's ring has.
use Rattle.std.proofs.Common.{◌≡◌, ◌≢◌, ℕ, List, [], ◌∷◌, ◌++◌, Option, None, Some, Bool, true, false, map, refl, sym, ap, ◌∙◌, subst}
use Rattle.std.specs.Prelude.{◌==◌, unwrap_or, slice_index_or, if◌then◌else◌}
use Rattle.std.specs.List.{AllByRecursion}
use Rattle.std.proofs.lemmas.Bool.{false≢true}
use Rattle.kj_base.specs.Queue.{first_of}
use Rattle.kj_base.specs.declared.nodes.Node.{Node}
use Rattle.kj_base.specs.declared.nodes.Form.{Form as FormCase}
use Rattle.kj_base.specs.declared.nodes.Form.TheVariants.{Hub as HubCase}
use Rattle.kj_model.specs.Nodes.{Form, Hub, Entry as Seen, form_at}
use Rattle.kj_model.specs.Fire.{branches_of}
use Rattle.promise_nodes.specs.Shown.{shown}
use Rattle.promise_nodes.specs.Kept.{is_unreferenced, is_hub}
use Rattle.promise_graph.specs.declared.fields.Marks.{Marks}
use Rattle.promise_graph.specs.Slots.{number_of, number_at}
use Rattle.promise_graph.specs.Rings.{next_at, prev_at, IsPath, AreApart}
use Rattle.promise_graph.specs.Kept.{AreNumbered, hub_of}
use Rattle.promise_graph.specs.Named.{is_nameless}
use Rattle.promise_graph.specs.Standing.{HasRing, HasNodes}
use Rattle.promise_graph.proofs.Lists.{none_some, equal_yes, equal_not, is_some_of}
use Rattle.promise_graph.proofs.Numbered.{one_slot}
use Rattle.promise_graph.proofs.Leaving.{number_there, is_hub_there}
use Rattle.promise_graph.proofs.Forms.{hub_any}
use Rattle.promise_graph.proofs.Owning.{live_out}

abbrev rest_of : List ℕ → List ℕ
rest_of [] = []
rest_of (x ∷ xs) = xs

has_some : (front : List ℕ) (n : ℕ) (back : List ℕ) → front ++ n ∷ back ≡ [] → ⊥
has_some [] n back e = none_some n (sym (ap first_of e))
has_some (f ∷ front) n back e = none_some f (sym (ap first_of e))

abbrev pub is_empty : List ℕ → Bool
is_empty [] = true
is_empty (x ∷ xs) = false

nameless_case : (bs : List ℕ) (form : FormCase) → is_nameless (shown [] form) ≡ true → is_unreferenced (Some (shown bs form)) ≡ is_empty bs
nameless_case [] (HubCase content false) h = refl
nameless_case (x ∷ xs) (HubCase content false) h = refl
nameless_case bs (HubCase content true) h = absurd (false≢true h)
nameless_case bs other h = absurd (false≢true h)

empty_case : (at : ℕ → Option Node) (next prev : ℕ → ℕ) (h : ℕ) (xs : List ℕ) → IsPath next prev h xs h → AreApart h xs → (next h == h) ≡ is_empty (map (λ x. unwrap_or (number_at at x) 0) xs)
empty_case at next prev h [] p a = equal_yes (next h) h p.0
empty_case at next prev h (x ∷ xs) p a = equal_not (next h) h (λ e. a.0 (sym e ∙ p.0))

-- a hub without a name is unreferenced where it is alone in its ring
pub unreferenced_alone : (at : ℕ → Option Node) (m : Marks) (h n : ℕ) (bs : List ℕ) (form : FormCase) → HasRing at m.rings h n bs → is_nameless (shown [] form) ≡ true → (next_at m.rings h == h) ≡ is_unreferenced (Some (shown bs form))
unreferenced_alone at m h n bs form ring nameless =
    empty_case at (next_at m.rings) (prev_at m.rings) h ring.members ring.ring ring.apart ∙ ap is_empty (sym ring.named) ∙ sym (nameless_case bs form nameless)

module _ (at : ℕ → Option Node) (m : Marks) (h n : ℕ) (k : AreNumbered at m) (live : number_at at h ≡ Some n) where
  number_is : (s j : ℕ) → number_at at s ≡ Some j → slice_index_or m.numbers.items s 0 ≡ j
  number_is s j e = k.each s (k.low s (is_some_of (number_at at s) j e)) ∙ ap (λ (o : Option ℕ). unwrap_or o 0) e

  pub hub_slot : (s : ℕ) → s ≡ h → (if slice_index_or m.numbers.items s 0 == n then None else Some (slice_index_or m.numbers.items s 0)) ≡ None
  hub_slot s e = ap (λ (b : Bool). if b then None else Some (slice_index_or m.numbers.items s 0)) (equal_yes (slice_index_or m.numbers.items s 0) n (number_is s n (ap (number_at at) e ∙ live)))

  pub branch_slot : (s x : ℕ) → s ≡ x → h ≢ x → hub_of (at x) ≡ Some n → (if slice_index_or m.numbers.items s 0 == n then None else Some (slice_index_or m.numbers.items s 0)) ≡ Some (unwrap_or (number_at at x) 0)
  branch_slot s x e d b =
      let number : slice_index_or m.numbers.items s 0 ≡ unwrap_or (number_at at x) 0 = number_is s (unwrap_or (number_at at x) 0) (ap (number_at at) e ∙ number_there (at x) n b) in
      let other : unwrap_or (number_at at x) 0 ≢ n = (λ q. d (sym (one_slot at m k x h n (number_there (at x) n b ∙ ap (λ (j : ℕ). Some j) q) live))) in
      ap (λ (j : ℕ). if j == n then None else Some j) number ∙ ap (λ (t : Bool). if t then None else Some (unwrap_or (number_at at x) 0)) (equal_not (unwrap_or (number_at at x) 0) n other)

  first_case : (xs : List ℕ) → IsPath (next_at m.rings) (prev_at m.rings) h xs h → AreApart h xs → AllByRecursion (λ s. hub_of (at s) ≡ Some n) xs
      → (if slice_index_or m.numbers.items (next_at m.rings h) 0 == n then None else Some (slice_index_or m.numbers.items (next_at m.rings h) 0)) ≡ first_of (map (λ s. unwrap_or (number_at at s) 0) xs)
  first_case [] p a e = hub_slot (next_at m.rings h) p.0
  first_case (x ∷ xs) p a e = branch_slot (next_at m.rings h) x p.0 a.0 e.0

  pub first_of_ring : (bs : List ℕ) → HasRing at m.rings h n bs → (if slice_index_or m.numbers.items (next_at m.rings h) 0 == n then None else Some (slice_index_or m.numbers.items (next_at m.rings h) 0)) ≡ first_of bs
  first_of_ring bs ring = first_case ring.members ring.ring ring.apart ring.each ∙ ap first_of (sym ring.named)

  -- ---- the next branch

  next_of : (a nb b : ℕ) (xs front back : List ℕ) → IsPath (next_at m.rings) (prev_at m.rings) a xs h → AreApart h xs → AllByRecursion (λ s. hub_of (at s) ≡ Some n) xs → map (λ s. unwrap_or (number_at at s) 0) xs ≡ front ++ nb ∷ back → number_at at b ≡ Some nb
      → (if slice_index_or m.numbers.items (next_at m.rings b) 0 == n then None else Some (slice_index_or m.numbers.items (next_at m.rings b) 0)) ≡ first_of back
  next_of a nb b [] front back p apart e same live_b = absurd (has_some front nb back (sym same))
  next_of a nb b (x ∷ []) [] back p apart e same live_b =
      let here : x ≡ b = one_slot at m k x b nb (number_there (at x) n e.0 ∙ ap first_of same) live_b in
      hub_slot (next_at m.rings b) (ap (next_at m.rings) (sym here) ∙ p.2.0) ∙ ap first_of (ap rest_of same)
  next_of a nb b (x ∷ y ∷ ys) [] back p apart e same live_b =
      let here : x ≡ b = one_slot at m k x b nb (number_there (at x) n e.0 ∙ ap first_of same) live_b in
      branch_slot (next_at m.rings b) y (ap (next_at m.rings) (sym here) ∙ p.2.0) apart.2.0 e.1.0 ∙ ap first_of (ap rest_of same)
  next_of a nb b (x ∷ xs) (f ∷ front) back p apart e same live_b = next_of x nb b xs front back p.2 apart.2 e.1 (ap rest_of same) live_b

  pub next_of_ring : (nb b : ℕ) (bs front back : List ℕ) → HasRing at m.rings h n bs → bs ≡ front ++ nb ∷ back → number_at at b ≡ Some nb
      → (if slice_index_or m.numbers.items (next_at m.rings b) 0 == n then None else Some (slice_index_or m.numbers.items (next_at m.rings b) 0)) ≡ first_of back
  next_of_ring nb b bs front back ring same live_b = next_of h nb b ring.members front back ring.ring ring.apart ring.each (sym ring.named ∙ same) live_b

-- a branch of a hub's ring is live, and its form says so
member_of : (R : Type 0) (at : ℕ → Option Node) (n nb : ℕ) (xs front back : List ℕ) → AllByRecursion (λ s. hub_of (at s) ≡ Some n) xs → map (λ s. unwrap_or (number_at at s) 0) xs ≡ front ++ nb ∷ back → ((x : ℕ) → number_at at x ≡ Some nb → hub_of (at x) ≡ Some n → R) → R
member_of R at n nb [] front back e same out = absurd (has_some front nb back (sym same))
member_of R at n nb (x ∷ xs) [] back e same out = out x (number_there (at x) n e.0 ∙ ap first_of same) e.0
member_of R at n nb (x ∷ xs) (f ∷ front) back e same out = member_of R at n nb xs front back e.1 (ap rest_of same) out

pub member_of_ring : (R : Type 0) (at : ℕ → Option Node) (m : Marks) (h n nb : ℕ) (bs front back : List ℕ) → HasRing at m.rings h n bs → bs ≡ front ++ nb ∷ back → ((x : ℕ) → number_at at x ≡ Some nb → hub_of (at x) ≡ Some n → R) → R
member_of_ring R at m h n nb bs front back ring same out = member_of R at n nb ring.members front back ring.each (sym ring.named ∙ same) out

no_branches : (o : Option Form) → is_hub_there o ≡ false → branches_of o ≡ []
no_branches None h = refl
no_branches (Some (Hub content named branches)) h = absurd (false≢true (sym h))
no_branches (Some other) h = refl

-- a hub with a branch is live, and has a ring
pub ring_of : (R : Type 0) (at : ℕ → Option Node) (m : Marks) (es : List Seen) (hub nb : ℕ) (front back : List ℕ) → AreNumbered at m → HasNodes at m.rings es → branches_of (form_at hub es) ≡ front ++ nb ∷ back
    → ((h : ℕ) → number_at at h ≡ Some hub → HasRing at m.rings h hub (branches_of (form_at hub es)) → R) → R
ring_of R at m es hub nb front back k has same out = by_form (form_at hub es) refl
  where
    ring_at : (f : Form) → form_at hub es ≡ Some f → is_hub f ≡ true → R
    ring_at f e t = live_out R at m es k has hub f e (λ s node l number form.
        out s (ap number_of l ∙ ap (λ (j : ℕ). Some j) number)
        (subst (λ (j : ℕ). HasRing at m.rings s j (branches_of (form_at j es))) number (has.rings s node l (sym (hub_any _ node.form) ∙ ap is_hub (sym form) ∙ t))))

    by_bool : (f : Form) (b : Bool) → is_hub f ≡ b → form_at hub es ≡ Some f → R
    by_bool f true t e = ring_at f e t
    by_bool f false t e = absurd (has_some front nb back (sym same ∙ ap branches_of e ∙ no_branches (Some f) t))

    by_form : (o : Option Form) → form_at hub es ≡ o → R
    by_form None e = absurd (has_some front nb back (sym same ∙ ap branches_of e))
    by_form (Some f) e = by_bool f (is_hub f) refl e
