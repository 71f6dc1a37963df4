-- The stack of an evaluation, against the recursion.
use Rattle.std.proofs.Common.{◌≡◌, ◌∙◌, sym, ap, refl, arith, ℕ, zero, suc, ◌+◌, ◌-◌, ◌*◌, ◌<◌, ◌≤◌, List, [], ◌∷◌, ◌++◌, Option, None, Some, Bool, true, false, length, mul-le-mul_right}
use Rattle.std.proofs.lemmas.List.{length-append}
use Rattle.kj_base.specs.Commands.{step_of}
use Rattle.kj_base.specs.declared.nodes.Link.{Link}
use Rattle.kj_base.specs.declared.outcomes.Outcome.{Outcome}
use Rattle.kj_model.specs.Nodes.{Form, Branch, Then as ThenForm, Side, Join, Fired, form_at}
use Rattle.kj_model.specs.Outcomes.{joined, void}
use Rattle.kj_model.specs.World.{State, Setting}
use Rattle.kj_model.specs.Value.{value_form, value_side, value_to, side_of, then_of, then_valued, side_valued, outcome_given, rest_valued, hub_outcome, kept_in, Given, Gave}
use Rattle.promise_nodes.specs.Shown.{next_number, run_from}
use Rattle.promise_walks.specs.declared.shape.Parts.{Parts}
use Rattle.promise_walks.specs.declared.sums.Sum.{Sum}
use Rattle.promise_walks.specs.declared.sums.Sum.TheVariants.{Words as WordsSum}
use Rattle.promise_walks.specs.declared.pending.Continuation.{Continuation}
use Rattle.promise_walks.specs.declared.pending.Pending.{Pending}
use Rattle.promise_walks.specs.declared.pending.Pending.TheVariants.{Then, Won, Part}
use Rattle.promise_walks.specs.Shapes.{numbers_of}
use Rattle.promise_walks.specs.Sums.{plus}
use Rattle.promise_walks.specs.Values.{Valued, Valuing}
use Rattle.promise_walks.specs.Climbs.{ArePlain, all_summed, climb, closed, cost, node_of, pending_weight, weigh}
use Rattle.promise_walks.proofs.Summed.{all_is_summed}

-- ---- the stack

pub climb_push : (setting : Setting) (d k : ℕ) (fs : List Pending) (f : Pending) (r : Valued Outcome) → d ≡ length fs + suc k → climb setting d (fs ++ f ∷ []) r ≡ climb setting d fs (closed setting k f r)
climb_push setting zero k [] f r e = absurd (omega (arith, e))
climb_push setting (suc d) k [] f r e = let same : d ≡ k = omega (arith, e) in ap (λ (j : ℕ). closed setting j f r) same
climb_push setting zero k (x ∷ fs) f r e = absurd (omega (arith, e))
climb_push setting (suc d) k (x ∷ fs) f r e = ap (closed setting d x) (climb_push setting d k fs f r (omega (arith, e)))

-- down below a node
pub down_push : (setting : Setting) (d k : ℕ) (fs : List Pending) (f : Pending) (t : ℕ) (s : State) → d ≡ length fs + suc k
    → climb setting d (fs ++ f ∷ []) (value_to setting (d - length (fs ++ f ∷ [])) t s) ≡ climb setting d fs (closed setting k f (value_to setting k t s))
down_push setting d k fs f t s e =
    let level : d - length (fs ++ f ∷ []) ≡ k = omega (arith, length-append fs (f ∷ []), e) in
    ap (λ (j : ℕ). climb setting d (fs ++ f ∷ []) (value_to setting j t s)) level
    ∙ climb_push setting d k fs f (value_to setting k t s) e

-- want of memory goes up unchanged
closed_none : (setting : Setting) (k : ℕ) (f : Pending) (s : State) → closed setting k f (s, None) ≡ (s, None)
closed_none setting k (Then then) s = refl
closed_none setting k (Won side tree) s = refl
closed_none setting k (Part side tree behind sum) s = refl

pub climb_none : (setting : Setting) (d : ℕ) (fs : List Pending) (s : State) → climb setting d fs (s, None) ≡ (s, None)
climb_none setting d [] s = refl
climb_none setting zero (f ∷ fs) s = refl
climb_none setting (suc d) (f ∷ fs) s = ap (closed setting d f) (climb_none setting d fs s) ∙ closed_none setting d f s

-- ---- Sides

-- the first part, and the others
pub numbers_next : (x y : Parts) → x.count ≡ y.count + 1 → y.next.number.0 ≡ next_number x.next.number.0 → numbers_of x ≡ x.next.number.0 ∷ numbers_of y
numbers_next x y c m =
    let up : x.count ≡ suc y.count = omega (arith, c) in
    ap (λ (j : ℕ). run_from j x.next.number.0) up ∙ ap (λ (j : ℕ). x.next.number.0 ∷ run_from y.count j) (sym m)

pub numbers_none : (x : Parts) → x.count ≡ 0 → numbers_of x ≡ []
numbers_none x c = ap (λ (j : ℕ). run_from j x.next.number.0) c

-- the tree of a Side is evaluated first
pub side_fired : (value : Valuing) (side tree : ℕ) (o : Option Form) (s : State) → o ≡ Some (Side (Fired tree)) → side_of value side o s ≡ side_valued side tree (value tree s).1 (value tree s).0
side_fired value side tree o s e = rw e refl

pub summed_part : (setting : Setting) (k : ℕ) (sum : Sum) (side tree : Link) (behind : Parts) (s : State) → form_at side.number.0 s.world.nodes ≡ Some (Side (Fired tree.number.0))
    → all_summed (value_to setting k) sum (side.number.0 ∷ numbers_of behind) s ≡ closed setting k (Part side tree behind sum) (value_to setting k tree.number.0 s)
summed_part setting k sum side tree behind s e =
    ap (λ (q : Valued Outcome). rest_valued q.1 (λ o. all_summed (value_to setting k) (plus sum o) (numbers_of behind)) q.0) (side_fired (value_to setting k) side.number.0 tree.number.0 (form_at side.number.0 s.world.nodes) s e)

-- an outcome that is known joins the sum
pub summed_known : (value : Valuing) (sum : Sum) (side : ℕ) (sides : List ℕ) (o : Outcome) (s : State) → value_side value side s ≡ (s, Some o) → all_summed value sum (side ∷ sides) s ≡ all_summed value (plus sum o) sides s
summed_known value sum side sides o s e = ap (λ (q : Valued Outcome). rest_valued q.1 (λ p. all_summed value (plus sum p) sides) q.0) e

-- ---- nodes

pub value_none : (setting : Setting) (n : ℕ) (s : State) → value_to setting 0 n s ≡ (s, Some void)
unfolding value_to
value_none setting n s = refl

pub value_here : (setting : Setting) (k n : ℕ) (s : State) → value_to setting (suc k) n s ≡ value_form setting (value_to setting k) n (form_at n s.world.nodes) s
unfolding value_to
value_here setting k n s = refl

pub value_branch : (setting : Setting) (value : Valuing) (n hub : ℕ) (o : Option Form) (s : State) → o ≡ Some (Branch hub) → value_form setting value n o s ≡ (s, Some (hub_outcome (form_at hub s.world.nodes)))
value_branch setting value n hub o s h = rw h refl

pub value_then : (setting : Setting) (k : ℕ) (then : Continuation) (o : Option Form) (s : State) → o ≡ Some (ThenForm (step_of then.value) (step_of then.error) (Some then.tree.number.0)) → value_form setting (value_to setting k) then.node.number.0 o s ≡ closed setting k (Then then) (value_to setting k then.tree.number.0 s)
value_then setting k then o s h = rw h refl

pub value_kept : (setting : Setting) (value : Valuing) (n : ℕ) (sides : List ℕ) (o : Option Form) (s : State) → o ≡ Some (Join true sides) → value_form setting value n o s ≡ (s, Some (joined (kept_in s.world.nodes sides)))
value_kept setting value n sides o s h = rw h refl

join_form : (setting : Setting) (value : Valuing) (n : ℕ) (sides : List ℕ) (o : Option Form) (s : State) → o ≡ Some (Join false sides) → value_form setting value n o s ≡ Rattle.kj_model.specs.Value.all_valued value [] sides s
join_form setting value n sides o s h = rw h refl

pub value_sides : (setting : Setting) (value : Valuing) (n : ℕ) (sides : List ℕ) (o : Option Form) (s : State) → o ≡ Some (Join false sides) → value_form setting value n o s ≡ all_summed value (WordsSum []) sides s
value_sides setting value n sides o s h = join_form setting value n sides o s h ∙ all_is_summed value sides s

-- the Then of a Chain
pub then_link : (setting : Setting) (value : Valuing) (n : ℕ) (v e : Option ℕ) (t : ℕ) (o : Option Form) (s : State) → o ≡ Some (ThenForm v e (Some t)) → then_of setting value true n o s ≡ then_valued setting true n v e t (value t s).1 (value t s).0
then_link setting value n v e t o s h = rw h refl

-- ---- weights

pub weigh_push : (d k : ℕ) (fs : List Pending) (f : Pending) → d ≡ length fs + suc k → weigh d (fs ++ f ∷ []) ≡ weigh d fs + pending_weight k f
weigh_push zero k [] f e = absurd (omega (arith, e))
weigh_push (suc d) k [] f e = let same : d ≡ k = omega (arith, e) in ap (λ (j : ℕ). pending_weight j f + 0) same ∙ omega arith
weigh_push zero k (x ∷ fs) f e = absurd (omega (arith, e))
weigh_push (suc d) k (x ∷ fs) f e = let h = weigh_push d k fs f (omega (arith, e)) in omega (arith, h)

-- one node more on the stack
pub one_more : (d k : ℕ) (fs : List Pending) (f : Pending) → d ≡ length fs + suc k → pending_weight k f ≡ 1 → weigh d (fs ++ f ∷ []) + cost (d - length (fs ++ f ∷ [])) < weigh d fs + cost (d - length fs)
one_more d k fs f e one =
    let level : d - length (fs ++ f ∷ []) ≡ k = omega (arith, length-append fs (f ∷ []), e) in
    let here : d - length fs ≡ suc k = omega (arith, e) in
    omega (arith, weigh_push d k fs f e, one, ap cost level, ap cost here)

-- what is known has no turn more
pub cost_more : (d k : ℕ) (fs : List Pending) → d ≡ length fs + suc k → 0 < cost (d - length fs)
cost_more d k fs e = let here : d - length fs ≡ suc k = omega (arith, e) in omega (arith, ap cost here)

pub one_gone : (d k : ℕ) (fs : List Pending) (f : Pending) → d ≡ length fs + suc k → 0 < pending_weight k f → weigh d fs + 0 < weigh d (fs ++ f ∷ [])
one_gone d k fs f e p = let w = weigh_push d k fs f e in omega (arith, w, p)

pub part_fits : (d k : ℕ) (fs : List Pending) (side tree : Link) (behind : Parts) (count : ℕ) (sum : Sum) → d ≡ length fs + suc k → behind.count < count
    → weigh d (fs ++ Part side tree behind sum ∷ []) + cost (d - length (fs ++ Part side tree behind sum ∷ [])) ≤ weigh d fs + count * (cost k + 1)
part_fits d k fs side tree behind count sum e less =
    let f : Pending = Part side tree behind sum in
    let left = behind.count in
    let level : d - length (fs ++ f ∷ []) ≡ k = omega (arith, length-append fs (f ∷ []), e) in
    let m : (left + 1) * (cost k + 1) ≤ count * (cost k + 1) = mul-le-mul_right {m = left + 1} {n = count} (cost k + 1) (omega (arith, less)) in
    let split : (left + 1) * (cost k + 1) ≡ left * (cost k + 1) + (cost k + 1) = omega arith in
    omega (arith, weigh_push d k fs f e, ap cost level, m, split)

pub sides_fit : (d k : ℕ) (fs : List Pending) (count : ℕ) → d ≡ length fs + suc k → count < 256 → count * (cost k + 1) < cost (d - length fs)
sides_fit d k fs c e h =
    let here : d - length fs ≡ suc k = omega (arith, e) in
    let m : c * (cost k + 1) ≤ 255 * (cost k + 1) = mul-le-mul_right {m = c} {n = 255} (cost k + 1) (omega (arith, h)) in omega (arith, m, ap cost here)

-- ---- plain nodes

pub plain_stay : (old new : ℕ → Bool) (fs : List Pending) → ((n : ℕ) → old n ≡ true → new n ≡ true) → ArePlain old fs → ArePlain new fs
plain_stay old new [] rises h = tt
plain_stay old new (f ∷ fs) rises h = (rises (node_of f) h.0, plain_stay old new fs rises h.1)

pub plain_push : (is_plain : ℕ → Bool) (fs : List Pending) (f : Pending) → ArePlain is_plain fs → is_plain (node_of f) ≡ true → ArePlain is_plain (fs ++ f ∷ [])
plain_push is_plain [] f h k = (k, tt)
plain_push is_plain (x ∷ fs) f h k = (h.0, plain_push is_plain fs f h.1 k)

pub plain_pop : (is_plain : ℕ → Bool) (fs : List Pending) (f : Pending) → ArePlain is_plain (fs ++ f ∷ []) → ArePlain is_plain fs × (is_plain (node_of f) ≡ true)
plain_pop is_plain [] f h = (tt, h.0)
plain_pop is_plain (x ∷ fs) f h = let r = plain_pop is_plain fs f h.1 in ((h.0, r.0), r.1)
