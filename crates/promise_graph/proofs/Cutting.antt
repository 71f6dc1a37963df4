-- A slot leaves its ring, and the other rings stay.
use Rattle.std.proofs.Common.{◌≡◌, ◌≢◌, ℕ, ◌<◌, List, [], ◌∷◌, Option, Some, map, refl, sym, ap, ◌∙◌, inl, inr}
use Rattle.std.specs.Prelude.{unwrap_or}
use Rattle.std.specs.List.{AllByRecursion}
use Rattle.std.proofs.lemmas.Bool.{cases_eq}
use Rattle.kj_base.specs.declared.nodes.Node.{Node}
use Rattle.promise_graph.specs.declared.fields.Rings.{Rings}
use Rattle.promise_graph.specs.Slots.{number_at}
use Rattle.promise_graph.specs.Rings.{next_at, prev_at, IsPath, IsRing, IsOut, AreApart, ArePaired, IsCut}
use Rattle.promise_graph.specs.Kept.{hub_of}
use Rattle.promise_graph.specs.Standing.{HasRing}

-- a path stays where its slots have the same slots beside them
pub path_same : (next prev next' prev' : ℕ → ℕ) (a b : ℕ) (xs : List ℕ) → IsPath next prev a xs b → next' a ≡ next a → AllByRecursion (λ x. next' x ≡ next x) xs → AllByRecursion (λ x. prev' x ≡ prev x) xs → prev' b ≡ prev b → IsPath next' prev' a xs b
path_same next prev next' prev' a b [] p ha hn hp hb = (ha ∙ p.0, hb ∙ p.1)
path_same next prev next' prev' a b (x ∷ xs) p ha hn hp hb = (ha ∙ p.0, hp.0 ∙ p.1, path_same next prev next' prev' x b xs p.2 hn.0 hn.1 hp.1 hb)

-- what is before a slot that isn't on the path isn't on the path
pub out_before : (next prev : ℕ → ℕ) (s p a b : ℕ) (xs : List ℕ) → IsPath next prev a xs b → next p ≡ s → IsOut s xs → s ≢ b → (p ≢ a) × IsOut p xs
out_before next prev s p a b [] path e out d = ((λ same. d (sym e ∙ ap next same ∙ path.0)), tt)
out_before next prev s p a b (x ∷ xs) path e out d = let rest = out_before next prev s p x b xs path.2 e out.1 d in ((λ same. out.0 (sym e ∙ ap next same ∙ path.0)), (rest.0, rest.1))

-- nor is what is behind it
out_behind : (next prev : ℕ → ℕ) (s q a b : ℕ) (xs : List ℕ) → IsPath next prev a xs b → prev q ≡ s → s ≢ a → IsOut s xs → IsOut q xs × (q ≢ b)
out_behind next prev s q a b [] path e d out = (tt, (λ same. d (sym e ∙ ap prev same ∙ path.1)))
out_behind next prev s q a b (x ∷ xs) path e d out = let rest = out_behind next prev s q x b xs path.2 e out.0 out.1 in (((λ same. d (sym e ∙ ap prev same ∙ path.1)), rest.0), rest.1)

pub out_swap : (s : ℕ) (P : ℕ → Type 0) (xs : List ℕ) → IsOut s xs → ((x : ℕ) → x ≢ s → P x) → AllByRecursion P xs
out_swap s P [] out f = tt
out_swap s P (x ∷ xs) out f = (f x (λ e. out.0 (sym e)), out_swap s P xs out.1 f)

pub out_both : (s t : ℕ) (P : ℕ → Type 0) (xs : List ℕ) → IsOut s xs → IsOut t xs → ((x : ℕ) → x ≢ s → x ≢ t → P x) → AllByRecursion P xs
out_both s t P [] out out' f = tt
out_both s t P (x ∷ xs) out out' f = (f x (λ e. out.0 (sym e)) (λ e. out'.0 (sym e)), out_both s t P xs out.1 out'.1 f)

-- a ring stays where a slot that isn't on it leaves its own
pub ring_without : (old new : Rings) (s slots h : ℕ) (xs : List ℕ) → IsCut old new s → ArePaired old slots → s < slots → IsRing (next_at old) (prev_at old) h xs → s ≢ h → IsOut s xs → IsRing (next_at new) (prev_at new) h xs
ring_without old new s slots h xs c k low ring d out =
    let before = out_before (next_at old) (prev_at old) s (prev_at old s) h h xs ring (k.forth s low) out d in
    let behind = out_behind (next_at old) (prev_at old) s (next_at old s) h h xs ring (k.back s low) d out in
    path_same (next_at old) (prev_at old) (next_at new) (prev_at new) h h xs ring
    (c.other_next h (λ e. d (sym e)) (λ e. before.0 (sym e)))
    (out_both s (prev_at old s) (λ x. next_at new x ≡ next_at old x) xs out before.1 (λ x a b. c.other_next x a b))
    (out_both s (next_at old s) (λ x. prev_at new x ≡ prev_at old x) xs out behind.0 (λ x a b. c.other_prev x a b))
    (c.other_prev h (λ e. d (sym e)) (λ e. behind.1 (sym e)))

-- a slot that is in no ring is not on one
pub alone_out : (next prev : ℕ → ℕ) (s a h : ℕ) (xs : List ℕ) → IsPath next prev a xs h → AreApart h xs → next s ≡ s → IsOut s xs
alone_out next prev s a h [] p apart e = tt
alone_out next prev s a h (x ∷ []) p apart e = ((λ same. apart.0 (sym p.2.0 ∙ ap next (sym same) ∙ e ∙ same)), tt)
alone_out next prev s a h (x ∷ y ∷ ys) p apart e = ((λ same. apart.1.0 (sym same ∙ sym e ∙ ap next same ∙ p.2.0)), alone_out next prev s x h (y ∷ ys) p.2 apart.2 e)

-- what was in no ring is in none afterwards
pub alone_still : (old new : Rings) (s slots x : ℕ) → IsCut old new s → ArePaired old slots → s < slots → next_at old x ≡ x → next_at new x ≡ x
alone_still old new s slots x c k low e = elim (cases_eq x s) [
  | inl p ↦ ap (next_at new) p ∙ c.alone ∙ sym p
  | inr d ↦ c.other_next x d (λ q. d (sym e ∙ ap (next_at old) q ∙ k.forth s low)) ∙ e
]

-- ---- the ring of a hub

all_same : (P R : ℕ → Type 0) → ((x : ℕ) → P x → R x) → (xs : List ℕ) → AllByRecursion P xs → AllByRecursion R xs
all_same P R f [] h = tt
all_same P R f (x ∷ xs) h = (f x h.0, all_same P R f xs h.1)

pub named_same : (f g : ℕ → ℕ) (xs : List ℕ) → AllByRecursion (λ x. g x ≡ f x) xs → map f xs ≡ map g xs
named_same f g [] h = refl
named_same f g (x ∷ xs) h = λ i. sym h.0 i ∷ named_same f g xs h.1 i

-- a hub's ring stays where another slot goes and leaves its own
pub has_ring_without : (at new : ℕ → Option Node) (old rings : Rings) (s slots h number : ℕ) (branches : List ℕ) → IsCut old rings s → ArePaired old slots → s < slots → ((x : ℕ) → x ≢ s → new x ≡ at x) → s ≢ h
    → ((x : ℕ) → hub_of (at x) ≡ Some number → next_at old s ≢ s → s ≢ x) → HasRing at old h number branches → HasRing new rings h number branches
has_ring_without at new old rings s slots h number branches c k low others d apart ring =
    let out : IsOut s ring.members = elim (cases_eq (next_at old s) s) [
      | inl p ↦ alone_out (next_at old) (prev_at old) s h h ring.members ring.ring ring.apart p
      | inr e ↦ all_same (λ x. hub_of (at x) ≡ Some number) (λ x. s ≢ x) (λ x b. apart x b e) ring.members ring.each
    ] in
    let same : AllByRecursion (λ x. new x ≡ at x) ring.members = out_swap s (λ x. new x ≡ at x) ring.members out others in
    record {
      members = ring.members;
      ring = ring_without old rings s slots h ring.members c k low ring.ring d out;
      apart = ring.apart;
      each = both_all ring.members ring.each same;
      named = ring.named ∙ named_same (λ x. unwrap_or (number_at at x) 0) (λ x. unwrap_or (number_at new x) 0) ring.members (all_same (λ x. new x ≡ at x) (λ x. unwrap_or (number_at new x) 0 ≡ unwrap_or (number_at at x) 0) (λ x e. number_as x e) ring.members same);
    }
  where
    both_all : (xs : List ℕ) → AllByRecursion (λ x. hub_of (at x) ≡ Some number) xs → AllByRecursion (λ x. new x ≡ at x) xs → AllByRecursion (λ x. hub_of (new x) ≡ Some number) xs
    both_all [] a b = tt
    both_all (x ∷ xs) a b = (ap hub_of b.0 ∙ a.0, both_all xs a.1 b.1)

    number_as : (x : ℕ) → new x ≡ at x → unwrap_or (number_at new x) 0 ≡ unwrap_or (number_at at x) 0
    number_as x e = ap (λ (o : Option Node). unwrap_or (Rattle.promise_graph.specs.Slots.number_of o) 0) e
