-- The stack of a free, against the recursion.
use Rattle.std.proofs.Common.{◌≡◌, ℕ, zero, suc, ◌+◌, ◌-◌, ◌*◌, ◌<◌, List, [], ◌∷◌, ◌++◌, sym, ap, ◌∙◌, arith, length}
use Rattle.kj_model.specs.World.{State}
use Rattle.std.proofs.lemmas.List.{length-append}
use Rattle.kj_model.specs.Changes.{gone}
use Rattle.kj_model.specs.Free.{Guard, free_to, each_freed}
use Rattle.promise_nodes.specs.Shown.{next_number, run_from}
use Rattle.promise_names.specs.declared.names.Leaving.{Leaving}
use Rattle.promise_walks.specs.declared.freeing.Frame.{Frame}
use Rattle.promise_walks.specs.Shapes.{numbers_of}
use Rattle.promise_walks.specs.Walks.{left_as}
use Rattle.promise_walks.specs.Stacks.{finish, rest, weigh, cost}
use Rattle.promise_walks.proofs.Costs.{fits_cost}

pub finish_push : (g : Guard) (d k : ℕ) (fs : List Frame) (f : Frame) (s : State) → d ≡ length fs + suc k → finish g d (fs ++ f ∷ []) s ≡ finish g d fs (rest g k f s)
finish_push g zero k [] f s e = absurd (omega (arith, e))
finish_push g (suc d) k [] f s e = let same : d ≡ k = omega (arith, e) in ap (λ (j : ℕ). rest g j f s) same
finish_push g zero k (x ∷ fs) f s e = absurd (omega (arith, e))
finish_push g (suc d) k (x ∷ fs) f s e = ap (λ (t : State). rest g d x t) (finish_push g d k fs f s (omega (arith, e)))

pub weigh_push : (d k : ℕ) (fs : List Frame) (f : Frame) → d ≡ length fs + suc k → weigh d (fs ++ f ∷ []) ≡ weigh d fs + (1 + f.parts.count * cost k)
weigh_push zero k [] f e = absurd (omega (arith, e))
weigh_push (suc d) k [] f e = let same : d ≡ k = omega (arith, e) in ap (λ (j : ℕ). (1 + f.parts.count * cost j) + 0) same ∙ omega arith
weigh_push zero k (x ∷ fs) f e = absurd (omega (arith, e))
weigh_push (suc d) k (x ∷ fs) f e = let h = weigh_push d k fs f (omega (arith, e)) in omega (arith, h)

-- the same for the stack
pub pushed_weight : (d : ℕ) (fs : List Frame) (f : Frame) → length fs < d → f.parts.count < 256 → weigh d (fs ++ f ∷ []) < weigh d fs + cost (d - length fs)
pushed_weight d fs f h small =
    let k = d - length fs - 1 in
    let here : d - length fs ≡ suc k = omega (arith, h) in
    let e = weigh_push d k fs f (omega (arith, h)) in
    let c = ap cost here in
    omega (arith, e, c, fits_cost f.parts.count k small)

pub weight_falls : (d : ℕ) (fs : List Frame) (f h : Frame) → length fs < d → f.parts.count ≡ h.parts.count + 1 → weigh d (fs ++ h ∷ []) + cost (d - length fs - 1) ≡ weigh d (fs ++ f ∷ [])
weight_falls d fs f x within c =
    let k = d - length fs - 1 in
    let e = weigh_push d k fs f (omega (arith, within)) in
    let g = weigh_push d k fs x (omega (arith, within)) in
    let m : f.parts.count * cost k ≡ x.parts.count * cost k + cost k = ap (λ (j : ℕ). j * cost k) c ∙ omega arith in
    omega (arith, e, g, m)

pub weight_gone : (d : ℕ) (fs : List Frame) (f : Frame) → length fs < d → weigh d fs < weigh d (fs ++ f ∷ [])
weight_gone d fs f h = let k = d - length fs - 1 in let e = weigh_push d k fs f (omega (arith, h)) in omega (arith, e)

-- the next part of a node, and the others
pub rested : (g : Guard) (k : ℕ) (f h : Frame) (s : State) → f.parts.count ≡ h.parts.count + 1 → h.parts.next.number.0 ≡ next_number f.parts.next.number.0 → h.node.number.0 ≡ f.node.number.0 → h.leaving ≡ f.leaving
    → rest g k h (free_to g k f.parts.next.number.0 s) ≡ rest g k f s
rested g k f h s c m n l =
    let up : suc h.parts.count ≡ f.parts.count = omega (arith, c) in
    ap (λ (j : ℕ). gone j (left_as j h.leaving (each_freed (free_to g k) (numbers_of h.parts) (free_to g k f.parts.next.number.0 s)))) n
    ∙ ap (λ (j : Leaving). gone f.node.number.0 (left_as f.node.number.0 j (each_freed (free_to g k) (numbers_of h.parts) (free_to g k f.parts.next.number.0 s)))) l
    ∙ ap (λ (j : ℕ). gone f.node.number.0 (left_as f.node.number.0 f.leaving (each_freed (free_to g k) (run_from h.parts.count j) (free_to g k f.parts.next.number.0 s)))) m
    ∙ ap (λ (j : ℕ). gone f.node.number.0 (left_as f.node.number.0 f.leaving (each_freed (free_to g k) (run_from j f.parts.next.number.0) s))) up

-- what is to do with the last, before its next part
pub finished_next : (g : Guard) (d : ℕ) (fs : List Frame) (f h : Frame) (s : State) → length fs < d → f.parts.count ≡ h.parts.count + 1 → h.parts.next.number.0 ≡ next_number f.parts.next.number.0 → h.node.number.0 ≡ f.node.number.0 → h.leaving ≡ f.leaving
    → finish g d (fs ++ h ∷ []) (free_to g (d - length (fs ++ h ∷ [])) f.parts.next.number.0 s) ≡ finish g d (fs ++ f ∷ []) s
finished_next g d fs f h s within c m n l =
    let k = d - length fs - 1 in
    let len : length (fs ++ h ∷ []) ≡ length fs + 1 = omega (arith, length-append fs (h ∷ [])) in
    let left : d - length (fs ++ h ∷ []) ≡ k = omega (arith, len) in
    ap (λ (j : ℕ). finish g d (fs ++ h ∷ []) (free_to g j f.parts.next.number.0 s)) left
    ∙ finish_push g d k fs h (free_to g k f.parts.next.number.0 s) (omega (arith, within))
    ∙ ap (λ (t : State). finish g d fs t) (rested g k f h s c m n l)
    ∙ sym (finish_push g d k fs f s (omega (arith, within)))

-- what is to do where no part is left
pub finished_none : (g : Guard) (d : ℕ) (fs : List Frame) (f : Frame) (s : State) → length fs < d → f.parts.count ≡ 0
    → finish g d (fs ++ f ∷ []) s ≡ finish g d fs (gone f.node.number.0 (left_as f.node.number.0 f.leaving s))
finished_none g d fs f s within c =
    let k = d - length fs - 1 in
    finish_push g d k fs f s (omega (arith, within))
    ∙ ap (λ (j : ℕ). finish g d fs (gone f.node.number.0 (left_as f.node.number.0 f.leaving (each_freed (free_to g k) (run_from j f.parts.next.number.0) s)))) c
