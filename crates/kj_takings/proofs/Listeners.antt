-- What is armed has a ready tree.
use Rattle.std.proofs.Common.{◌≡◌, ◌∙◌, inl, inr, refl, sym, ap, subst, zero, suc, ℕ, ◌+◌, ◌≤◌, ◌<◌, List, [], ◌∷◌, Bool, true, false, not, ◌&&◌, ◌||◌, Option, None, Some, arith}
use Rattle.std.specs.Prelude.{is_some, nat_eq, nat_lt}
use Rattle.std.specs.List.{list_any}
use Rattle.std.proofs.lemmas.Bool.{false≢true}
use Rattle.std.proofs.lemmas.Bool.Decides.{nat_tests}
use Rattle.kj_base.specs.Queue.{Way}
use Rattle.kj_base.specs.declared.outcomes.Outcome.{Outcome}
use Rattle.kj_base.specs.declared.numbers.Limits.{Limits}
use Rattle.kj_model.specs.Nodes.{Entry, Form, Content, Tree, Kept, Stage, Waits, Fired, Keeps, Gone, Ready, Later, Last, Cell, Branch, Then, Chain, Eager, Wrap, Hub, Side, Race, Join, Task, Request, form_at, with_form, owner_of, has_event, parts_of, is_in}
use Rattle.kj_model.specs.World.{World, State, Awaited, depth_of, new_state}
use Rattle.kj_model.specs.Changes.{silent, put, arm_listener, frees_in}
use Rattle.kj_model.specs.Owned.{numbers}
use Rattle.kj_model.specs.Framed.{times}
use Rattle.kj_model.specs.Listening.{ready, ready_found, ready_form, hub_ready, join_ready, waits, keeps_exception, listener, listener_from, listener_over, listener_if, root_listener, wait_if, announced, listened, listened_if, listened_way, is_last, settled, settled_form}
use Rattle.kj_model.proofs.Members.{in_one, in_none, in_right, in_self}
use Rattle.kj_model.proofs.Once.{false_by}
use Rattle.kj_model.specs.Places.{built}
use Rattle.kj_model.specs.Owned.{tree_roots}
use Rattle.kj_ownership.proofs.Builders.{built_is}
use Rattle.kj_ownership.proofs.Moves.{built_grows}
use Rattle.kj_model.proofs.Spared.{same_number, form_put_same, form_put_other}
use Rattle.kj_ownership.specs.Owners.{is_live, owns}
use Rattle.kj_ownership.specs.Shapes.{Shaped, OfSide, suits, part_kind}
use Rattle.kj_ownership.specs.Standing.{IsRecorded, Owned}
use Rattle.kj_ownership.proofs.Changed.{in_armed, put_standing}
use Rattle.kj_ownership.proofs.Flat.{live_number}
use Rattle.kj_ownership.proofs.Shapes.{shaped_put, empty_suits}
use Rattle.kj_ownership.proofs.Sides.{owner_is}
use Rattle.kj_ownership.proofs.Stays.{in_times, at_least, owner_live}
use Rattle.kj_takings.specs.Arming.{content_tree, tree_of, IsReady, HasReadyTree, QueueReady}

number_in : (x y : ℕ) → ◌≡◌ {A = Option ℕ} (Some x) (Some y) → x ≡ y
number_in x y e = cc

none_is : (y : ℕ) → ◌≡◌ {A = Option ℕ} None (Some y) → ⊥
none_is y e = cc

-- the part of a node with an event is its tree
one_tree : (r n t : ℕ) → is_in n (r ∷ []) ≡ true → ◌≡◌ {A = Option ℕ} (Some r) (Some t) → n ≡ t
one_tree r n t i e = sym (in_one n r i) ∙ number_in r t e

content_is : (c : Content) (n t : ℕ) → is_in n (Rattle.kj_model.specs.Nodes.content_parts c) ≡ true → content_tree c ≡ Some t → n ≡ t
content_is (Tree r) n t i e = one_tree r n t i e
content_is (Kept o) n t i e = absurd (none_is t e)

tree_is : (form : Form) (n t : ℕ) → is_in n (parts_of form) ≡ true → tree_of (Some form) ≡ Some t → n ≡ t
tree_is (Chain link) n t i e = one_tree link n t i e
tree_is (Eager content) n t i e = content_is content n t i e
tree_is (Wrap c content) n t i e = content_is content n t i e
tree_is (Hub content is_named branches) n t i e = content_is content n t i e
tree_is (Side (Waits r)) n t i e = one_tree r n t i e
tree_is (Side (Fired r)) n t i e = absurd (none_is t e)
tree_is (Side (Keeps o)) n t i e = absurd (none_is t e)
tree_is (Side Gone) n t i e = absurd (none_is t e)
tree_is (Task (Some r)) n t i e = one_tree r n t i e
tree_is (Task None) n t i e = absurd (none_is t e)
tree_is (Request name (Some r)) n t i e = one_tree r n t i e
tree_is (Request name None) n t i e = absurd (none_is t e)
tree_is _ n t i e = absurd (none_is t e)

-- what owns a ready tree and has no event is ready itself
side_unready : (k : ℕ) (nodes : List Entry) (o : Option Form) → suits OfSide o ≡ true → ready_found (ready k nodes) nodes o ≡ true → ⊥
side_unready k nodes (Some (Side stage)) s r = false≢true r
side_unready k nodes None s r = false≢true r
side_unready k nodes (Some _) s r = false≢true s

no_side : (k n : ℕ) (nodes : List Entry) → suits OfSide (form_at n nodes) ≡ true → ready k nodes n ≡ true → ⊥
no_side zero n nodes s r = false≢true r
no_side (suc k) n nodes s r = side_unready k nodes (form_at n nodes) s r

above_ready : (form : Form) (q n k : ℕ) (nodes : List Entry) → form_at q nodes ≡ Some form → is_in n (parts_of form) ≡ true → has_event form ≡ false → suits (part_kind (Some form)) (form_at n nodes) ≡ true → ready k nodes n ≡ true → IsReady nodes q
above_ready (Then v e (Some r)) q n k nodes at i h s d = (suc k, ap (ready_found (ready k nodes) nodes) at ∙ ap (ready k nodes) (in_one n r i) ∙ d)
above_ready (Then v e None) q n k nodes at i h s d = absurd (in_none n i)
above_ready (Race left right winner) q n k nodes at i h s d = absurd (no_side k n nodes s d)
above_ready (Join fast sides) q n k nodes at i h s d = absurd (no_side k n nodes s d)
above_ready (Ready o) q n k nodes at i h s d = absurd (in_none n i)
above_ready Later q n k nodes at i h s d = absurd (in_none n i)
above_ready Last q n k nodes at i h s d = absurd (in_none n i)
above_ready (Cell o) q n k nodes at i h s d = absurd (in_none n i)
above_ready (Branch hub) q n k nodes at i h s d = absurd (in_none n i)
above_ready _ q n k nodes at i h s d = absurd (false≢true (sym h))

-- 0 is no node
none_zero : (s : State) → IsRecorded s → is_live 0 s.world.nodes ≡ true → ⊥
none_zero s rec live = no_sum (times 0 (numbers s.world.nodes)) (times 0 (frees_in s.past)) (rec 0) (in_times 0 (numbers s.world.nodes) (live_number 0 s.world.nodes live))
  where
    no_sum : (a b : ℕ) → a + b ≡ 0 → 1 ≤ a → ⊥
    no_sum a b e l = omega (arith, e, l)

tree_live : (o : Option Form) (t : ℕ) → tree_of o ≡ Some t → is_some o ≡ true
tree_live None t e = absurd (none_is t e)
tree_live (Some form) t e = refl

-- who listens to a ready tree has it, or one over it that is ready
root_ready : (o : Option Awaited) (n e k : ℕ) (s : State) → IsRecorded s → s.world.awaited ≡ o → ready k s.world.nodes n ≡ true → root_listener o n ≡ Some e → HasReadyTree s.world e
root_ready None n e k s rec is d h = absurd (none_is e h)
root_ready (Some a) n e k s rec is d h = decide (nat_eq a.root n) refl
  where
    root_or : Option Awaited → ℕ
    root_or None = 0
    root_or (Some b) = b.root

    decide : (b : Bool) → nat_eq a.root n ≡ b → HasReadyTree s.world e
    decide false q = absurd (none_is e (sym (ap wait_if q) ∙ h))
    decide true q =
        let zero_is = number_in 0 e (sym (ap wait_if q) ∙ h) in
        record {
          node = λ t x. absurd (none_zero s rec (tree_live (form_at 0 s.world.nodes) t (ap (λ (m : ℕ). tree_of (form_at m s.world.nodes)) zero_is ∙ x)));
          wait = λ z b x. (k, ap (ready k s.world.nodes) (ap root_or (sym x ∙ is) ∙ sym (same_number a.root n q)) ∙ d);
        }

if_ready : (b : Bool) (above : ℕ → Option ℕ) (owner : Entry) (n e k : ℕ) (s : State) → IsRecorded s → Shaped s.world → has_event owner.form ≡ b → form_at owner.number s.world.nodes ≡ Some owner.form → owns owner.number n s.world.nodes ≡ true → ready k s.world.nodes n ≡ true → ((m j : ℕ) → ready j s.world.nodes m ≡ true → above m ≡ Some e → HasReadyTree s.world e) → listener_if b above owner.number ≡ Some e → HasReadyTree s.world e
if_ready true above owner n e k s rec sh has at own d ih h =
    let same = number_in owner.number e h in
    let part = sym (ap (λ (o : Option Form). is_in n (Rattle.kj_model.specs.Nodes.parts_found o)) at) ∙ own in
    subst (HasReadyTree s.world) same (record {
      node = λ t x. (k, ap (ready k s.world.nodes) (sym (tree_is owner.form n t part (ap tree_of (sym at) ∙ x))) ∙ d);
      wait = λ z b x. absurd (none_zero s rec (ap (λ (m : ℕ). is_live m s.world.nodes) (sym z) ∙ ap is_some at));
    })
if_ready false above owner n e k s rec sh has at own d ih h =
    let part = sym (ap (λ (o : Option Form). is_in n (Rattle.kj_model.specs.Nodes.parts_found o)) at) ∙ own in
    let fits = ap (λ (o : Option Form). suits (part_kind o) (form_at n s.world.nodes)) (sym at) ∙ sh.parts owner.number n own in
    let r = above_ready owner.form owner.number n k s.world.nodes at part has fits d in
    ih owner.number r.0 r.1 h

over_ready : (o : Option Entry) (above : ℕ → Option ℕ) (n e k : ℕ) (s : State) → owner_of n s.world.nodes ≡ o → IsRecorded s → Shaped s.world → ready k s.world.nodes n ≡ true → ((m j : ℕ) → ready j s.world.nodes m ≡ true → above m ≡ Some e → HasReadyTree s.world e) → listener_over above s.world.awaited n o ≡ Some e → HasReadyTree s.world e
over_ready None above n e k s is rec sh d ih h = root_ready s.world.awaited n e k s rec refl d h
over_ready (Some owner) above n e k s is rec sh d ih h =
    let p = owner_is n owner s rec is in
    if_ready (has_event owner.form) above owner n e k s rec sh refl p.0 p.1 d ih h

from_ready : (i n e k : ℕ) (s : State) → IsRecorded s → Shaped s.world → ready k s.world.nodes n ≡ true → listener_from i s.world n ≡ Some e → HasReadyTree s.world e
from_ready zero n e k s rec sh d h = absurd (none_is e h)
from_ready (suc i) n e k s rec sh d h = over_ready (owner_of n s.world.nodes) (listener_from i s.world) n e k s refl rec sh d (λ m j x y. from_ready i m e j s rec sh x y) h

pub listener_ready : (n e : ℕ) (s : State) → Owned s → Shaped s.world → IsReady s.world.nodes n → listener n s.world ≡ Some e → HasReadyTree s.world e
listener_ready n e s o sh d h = from_ready (depth_of s.world) n e d.0 s o.recorded sh d.1 h

-- arming
arm_case : (way : Way) (o : Option ℕ) (w : World) → ((e : ℕ) → o ≡ Some e → HasReadyTree w e) → QueueReady w → QueueReady (arm_listener way o w)
arm_case way None w h q = λ e i. q e i
arm_case way (Some x) w h q = λ e i. elim (in_armed way e x w.queue i) [
  | inl same ↦ let r = subst (HasReadyTree w) same (h x refl) in record { node = r.node; wait = r.wait }
  | inr old ↦ let r = q e old in record { node = r.node; wait = r.wait }
]

pub announced_ready : (way : Way) (n : ℕ) (s : State) → Owned s → Shaped s.world → IsReady s.world.nodes n → QueueReady s.world → QueueReady (announced way n s.world)
announced_ready way n s o sh d q = arm_case way (listener n s.world) s.world (λ e h. listener_ready n e s o sh d h) q

listened_case : (b : Bool) (n : ℕ) (s : State) → ready (depth_of s.world) s.world.nodes n ≡ b → Owned s → Shaped s.world → QueueReady s.world → QueueReady (listened_if b n s.world)
listened_case true n s e o sh q = announced_ready (listened_way (is_last (depth_of s.world) s.world.nodes n)) n s o sh (depth_of s.world, e) q
listened_case false n s e o sh q = q

pub listened_ready : (n : ℕ) (s : State) → Owned s → Shaped s.world → QueueReady s.world → QueueReady (listened n s.world)
listened_ready n s o sh q = listened_case (ready (depth_of s.world) s.world.nodes n) n s refl o sh q

-- a cell that gets its outcome: what was ready is ready still
waits_cell : (n x : ℕ) (o : Outcome) (nodes : List Entry) → form_at n nodes ≡ Some (Cell None) → (waits (form_at x (with_form n (Cell (Some o)) nodes)) ≡ waits (form_at x nodes)) × (keeps_exception (form_at x (with_form n (Cell (Some o)) nodes)) ≡ keeps_exception (form_at x nodes))
waits_cell n x o nodes at = decide (nat_eq n x) refl
  where
    decide : (b : Bool) → nat_eq n x ≡ b → (waits (form_at x (with_form n (Cell (Some o)) nodes)) ≡ waits (form_at x nodes)) × (keeps_exception (form_at x (with_form n (Cell (Some o)) nodes)) ≡ keeps_exception (form_at x nodes))
    decide false e = let s = form_put_other n x (Cell (Some o)) nodes e in (ap waits s, ap keeps_exception s)
    decide true e =
        let same = same_number n x e in
        let new = ap (λ (m : ℕ). form_at m (with_form n (Cell (Some o)) nodes)) same ∙ form_put_same n (Cell (Some o)) (Cell None) nodes at in
        let old = ap (λ (m : ℕ). form_at m nodes) same ∙ at in
        (ap waits new ∙ sym (ap waits old), ap keeps_exception new ∙ sym (ap keeps_exception old))

any_same : (f g : ℕ → Bool) (xs : List ℕ) → ((x : ℕ) → f x ≡ g x) → list_any f xs ≡ list_any g xs
any_same f g [] h = refl
any_same f g (x ∷ xs) h = ap (λ (b : Bool). b || list_any f xs) (h x) ∙ ap (λ (b : Bool). g x || b) (any_same f g xs h)

join_cell : (fast : Bool) (sides : List ℕ) (n : ℕ) (o : Outcome) (nodes : List Entry) → form_at n nodes ≡ Some (Cell None) → join_ready fast sides (with_form n (Cell (Some o)) nodes) ≡ join_ready fast sides nodes
join_cell fast sides n o nodes at =
    let new = with_form n (Cell (Some o)) nodes in
    let a = any_same (λ side. keeps_exception (form_at side new)) (λ side. keeps_exception (form_at side nodes)) sides (λ x. (waits_cell n x o nodes at).1) in
    let b = any_same (λ side. waits (form_at side new)) (λ side. waits (form_at side nodes)) sides (λ x. (waits_cell n x o nodes at).0) in
    ap (λ (c : Bool). (fast && c) || not (list_any (λ side. waits (form_at side new)) sides)) a ∙ ap (λ (c : Bool). (fast && list_any (λ side. keeps_exception (form_at side nodes)) sides) || not c) b

hub_cell : (hub n : ℕ) (o : Outcome) (nodes : List Entry) → form_at n nodes ≡ Some (Cell None) → hub_ready (form_at hub nodes) ≡ true → hub_ready (form_at hub (with_form n (Cell (Some o)) nodes)) ≡ true
hub_cell hub n o nodes at h = decide (nat_eq n hub) refl
  where
    decide : (b : Bool) → nat_eq n hub ≡ b → hub_ready (form_at hub (with_form n (Cell (Some o)) nodes)) ≡ true
    decide false e = ap hub_ready (form_put_other n hub (Cell (Some o)) nodes e) ∙ h
    decide true e = absurd (false≢true (sym (ap hub_ready (ap (λ (m : ℕ). form_at m nodes) (same_number n hub e) ∙ at)) ∙ h))

form_cell : (k n : ℕ) (o : Outcome) (nodes : List Entry) (form : Form) → form_at n nodes ≡ Some (Cell None) → ((m : ℕ) → ready k nodes m ≡ true → ready k (with_form n (Cell (Some o)) nodes) m ≡ true) → ready_form (ready k nodes) nodes form ≡ true → ready_form (ready k (with_form n (Cell (Some o)) nodes)) (with_form n (Cell (Some o)) nodes) form ≡ true
form_cell k n o nodes (Then v e (Some t)) at ih h = ih t h
form_cell k n o nodes (Then v e None) at ih h = h
form_cell k n o nodes (Branch hub) at ih h = hub_cell hub n o nodes at h
form_cell k n o nodes (Join fast sides) at ih h = join_cell fast sides n o nodes at ∙ h
form_cell k n o nodes _ at ih h = h

found_cell : (k n : ℕ) (o : Outcome) (nodes : List Entry) (f : Option Form) → form_at n nodes ≡ Some (Cell None) → ((m : ℕ) → ready k nodes m ≡ true → ready k (with_form n (Cell (Some o)) nodes) m ≡ true) → ready_found (ready k nodes) nodes f ≡ true → ready_found (ready k (with_form n (Cell (Some o)) nodes)) (with_form n (Cell (Some o)) nodes) f ≡ true
found_cell k n o nodes None at ih h = h
found_cell k n o nodes (Some form) at ih h = form_cell k n o nodes form at ih h

cell_rises : (k n : ℕ) (o : Outcome) (nodes : List Entry) (m : ℕ) → form_at n nodes ≡ Some (Cell None) → ready k nodes m ≡ true → ready k (with_form n (Cell (Some o)) nodes) m ≡ true
cell_rises zero n o nodes m at h = h
cell_rises (suc k) n o nodes m at h = decide (nat_eq n m) refl (λ x. cell_rises k n o nodes x at)
  where
    decide : (b : Bool) → nat_eq n m ≡ b → ((x : ℕ) → ready k nodes x ≡ true → ready k (with_form n (Cell (Some o)) nodes) x ≡ true) → ready (suc k) (with_form n (Cell (Some o)) nodes) m ≡ true
    decide false e ih =
        let new = with_form n (Cell (Some o)) nodes in
        ap (ready_found (ready k new) new) (form_put_other n m (Cell (Some o)) nodes e) ∙ found_cell k n o nodes (form_at m nodes) at ih h
    decide true e ih =
        let new = with_form n (Cell (Some o)) nodes in
        ap (ready_found (ready k new) new) (ap (λ (x : ℕ). form_at x new) (same_number n m e) ∙ form_put_same n (Cell (Some o)) (Cell None) nodes at)

cell_queue : (n : ℕ) (o : Outcome) (w : World) → form_at n w.nodes ≡ Some (Cell None) → QueueReady w → QueueReady (put n (Cell (Some o)) w)
cell_queue n o w at q e i = record {
  node = λ t x. let r = (q e i).node t (tree_before (nat_eq n e) refl t x) in (r.0, cell_rises r.0 n o w.nodes t at r.1);
  wait = λ z a x. let r = (q e i).wait z a x in (r.0, cell_rises r.0 n o w.nodes a.root at r.1);
}
  where
    tree_before : (b : Bool) → nat_eq n e ≡ b → (t : ℕ) → tree_of (form_at e (with_form n (Cell (Some o)) w.nodes)) ≡ Some t → tree_of (form_at e w.nodes) ≡ Some t
    tree_before false d t x = sym (ap tree_of (form_put_other n e (Cell (Some o)) w.nodes d)) ∙ x
    tree_before true d t x = absurd (none_is t (sym (ap tree_of (ap (λ (m : ℕ). form_at m (with_form n (Cell (Some o)) w.nodes)) (same_number n e d) ∙ form_put_same n (Cell (Some o)) (Cell None) w.nodes at)) ∙ x))

settled_cell : (way : Way) (n : ℕ) (o : Outcome) (s : State) → form_at n s.world.nodes ≡ Some (Cell None) → Owned s → Shaped s.world → QueueReady s.world → QueueReady (announced way n (put n (Cell (Some o)) s.world))
settled_cell way n o s at st sh q =
    let t = silent (put n (Cell (Some o))) s in
    let owned = put_standing n (Cell (Some o)) (Cell None) [] [] [] s at refl refl (λ h. refl) (λ p l. refl) (λ p. omega arith) st in
    let shaped = shaped_put n (Cell (Some o)) (Cell None) s.world at (empty_suits (Cell None) (Cell (Some o)) (record { tree = refl; link = refl; side = refl; task = refl; request = λ m. refl; ended = λ h. h }) refl refl) sh in
    let d : IsReady t.world.nodes n = (suc zero, ap (ready_found (ready zero t.world.nodes) t.world.nodes) (form_put_same n (Cell (Some o)) (Cell None) s.world.nodes at)) in
    announced_ready way n t owned shaped d (cell_queue n o s.world at q)

settled_case : (way : Way) (n : ℕ) (o : Outcome) (f : Option Form) (s : State) → form_at n s.world.nodes ≡ f → Owned s → Shaped s.world → QueueReady s.world → QueueReady (settled_form way n o f s.world)
settled_case way n o (Some (Cell None)) s at st sh q = settled_cell way n o s at st sh q
settled_case way n o (Some (Cell (Some x))) s at st sh q = q
settled_case way n o None s at st sh q = q
settled_case way n o (Some _) s at st sh q = q

pub settled_ready : (way : Way) (n : ℕ) (o : Outcome) (s : State) → Owned s → Shaped s.world → QueueReady s.world → QueueReady (settled way n o s.world)
settled_ready way n o s st sh q = settled_case way n o (form_at n s.world.nodes) s refl st sh q

-- a new loop
pub new_ready : (limits : Limits) → QueueReady (new_state limits).world
new_ready limits e i = absurd (in_none e i)

-- a node more: what was ready is ready still
any_in : (f g : ℕ → Bool) (xs : List ℕ) → ((x : ℕ) → is_in x xs ≡ true → f x ≡ g x) → list_any f xs ≡ list_any g xs
any_in f g [] h = refl
any_in f g (x ∷ xs) h = ap (λ (b : Bool). b || list_any f xs) (h x (in_self x xs)) ∙ ap (λ (b : Bool). g x || b) (any_in f g xs (λ y i. h y (in_right y (x ∷ []) xs i)))

-- nodes with one more, which nobody owns
record OneMore (n : ℕ) (es fs : List Entry) : Type 0 where
  others : (m : ℕ) → nat_eq n m ≡ false → form_at m fs ≡ form_at m es
  none : form_at n es ≡ None
  unowned : (q : ℕ) → owns q n es ≡ false

other_side : (n m x : ℕ) (es fs : List Entry) → OneMore n es fs → owns m x es ≡ true → form_at x fs ≡ form_at x es
other_side n m x es fs more own = decide (nat_eq n x) refl
  where
    decide : (b : Bool) → nat_eq n x ≡ b → form_at x fs ≡ form_at x es
    decide false e = more.others x e
    decide true e = absurd (false≢true (sym (more.unowned m) ∙ ap (λ (y : ℕ). owns m y es) (sym (same_number n x e)) ∙ own))

join_more : (fast : Bool) (sides : List ℕ) (n m : ℕ) (es fs : List Entry) → OneMore n es fs → form_at m es ≡ Some (Join fast sides) → join_ready fast sides fs ≡ join_ready fast sides es
join_more fast sides n m es fs more at =
    let same : (x : ℕ) → is_in x sides ≡ true → form_at x fs ≡ form_at x es = λ x i. other_side n m x es fs more (ap (λ (o : Option Form). is_in x (Rattle.kj_model.specs.Nodes.parts_found o)) at ∙ i) in
    let a = any_in (λ side. keeps_exception (form_at side fs)) (λ side. keeps_exception (form_at side es)) sides (λ x i. ap keeps_exception (same x i)) in
    let b = any_in (λ side. waits (form_at side fs)) (λ side. waits (form_at side es)) sides (λ x i. ap waits (same x i)) in
    ap (λ (c : Bool). (fast && c) || not (list_any (λ side. waits (form_at side fs)) sides)) a ∙ ap (λ (c : Bool). (fast && list_any (λ side. keeps_exception (form_at side es)) sides) || not c) b

hub_more : (hub n : ℕ) (es fs : List Entry) → OneMore n es fs → hub_ready (form_at hub es) ≡ true → hub_ready (form_at hub fs) ≡ true
hub_more hub n es fs more h = decide (nat_eq n hub) refl
  where
    decide : (b : Bool) → nat_eq n hub ≡ b → hub_ready (form_at hub fs) ≡ true
    decide false e = ap hub_ready (more.others hub e) ∙ h
    decide true e = absurd (false≢true (sym (ap hub_ready (ap (λ (m : ℕ). form_at m es) (same_number n hub e) ∙ more.none)) ∙ h))

form_more : (k n m : ℕ) (es fs : List Entry) (f : Option Form) → OneMore n es fs → form_at m es ≡ f → ((x : ℕ) → ready k es x ≡ true → ready k fs x ≡ true) → ready_found (ready k es) es f ≡ true → ready_found (ready k fs) fs f ≡ true
form_more k n m es fs None more at ih h = h
form_more k n m es fs (Some (Then v e (Some t))) more at ih h = ih t h
form_more k n m es fs (Some (Then v e None)) more at ih h = h
form_more k n m es fs (Some (Branch hub)) more at ih h = hub_more hub n es fs more h
form_more k n m es fs (Some (Join fast sides)) more at ih h = join_more fast sides n m es fs more at ∙ h
form_more k n m es fs (Some _) more at ih h = h

more_rises : (k n m : ℕ) (es fs : List Entry) → OneMore n es fs → ready k es m ≡ true → ready k fs m ≡ true
more_rises zero n m es fs more h = h
more_rises (suc k) n m es fs more h = decide (nat_eq n m) refl (λ x. more_rises k n x es fs more)
  where
    decide : (b : Bool) → nat_eq n m ≡ b → ((x : ℕ) → ready k es x ≡ true → ready k fs x ≡ true) → ready (suc k) fs m ≡ true
    decide false e ih = ap (ready_found (ready k fs) fs) (more.others m e) ∙ form_more k n m es fs (form_at m es) more refl ih h
    decide true e ih = absurd (false≢true (sym (ap (ready_found (ready k es) es) (ap (λ (x : ℕ). form_at x es) (same_number n m e) ∙ more.none)) ∙ h))

-- the next number is no node, and nobody owns it
next_dead : (s : State) → IsRecorded s → form_at s.world.next s.world.nodes ≡ None
next_dead s rec = dead (form_at s.world.next s.world.nodes) refl
  where
    no_sum : (a b m : ℕ) → a + b ≡ Rattle.kj_ownership.specs.Standing.one_if (nat_lt 0 m && nat_lt m m) → 1 ≤ a → ⊥
    no_sum a b m e l = absurd (grind (arith, nat_tests))

    dead : (o : Option Form) → form_at s.world.next s.world.nodes ≡ o → form_at s.world.next s.world.nodes ≡ None
    dead None e = e
    dead (Some form) e = absurd (no_sum (times s.world.next (numbers s.world.nodes)) (times s.world.next (frees_in s.past)) s.world.next (rec s.world.next) (in_times s.world.next (numbers s.world.nodes) (live_number s.world.next s.world.nodes (ap is_some e))))

next_alone : (s : State) → Owned s → (q : ℕ) → owns q s.world.next s.world.nodes ≡ false
next_alone s o q = false_by (owns q s.world.next s.world.nodes) (λ own.
    let z = o.below.places s.world.next (omega arith) in
    let i = at_least (λ r. times s.world.next (Rattle.kj_model.specs.Nodes.parts_at r s.world.nodes)) q 1 (numbers s.world.nodes) (live_number q s.world.nodes (owner_live q s.world.next s.world.nodes own)) (in_times s.world.next (Rattle.kj_model.specs.Nodes.parts_at q s.world.nodes) own) in
    no_place (times s.world.next (tree_roots s.world)) (Rattle.kj_ownership.specs.Standing.owned_times s.world.next s.world.nodes) i z)
  where
    no_place : (c d : ℕ) → 1 ≤ d → 0 + (c + d) ≡ 0 → ⊥
    no_place c d h z = omega (arith, h, z)

no_event : (n next : ℕ) (awaited live : Bool) → nat_eq next n ≡ true → 0 < next → Rattle.std.specs.Prelude.cond (nat_eq n 0) awaited live ≡ true → live ≡ true
no_event n next awaited live e l h = grind (arith, nat_tests)

one_more : (before : Option ℕ) (form : Form) (s : State) → Owned s → OneMore s.world.next s.world.nodes (built before form s.world).nodes
one_more before form s o = record { others = (built_is before form s o.recorded).others; none = next_dead s o.recorded; unowned = next_alone s o }

built_queue : (before : Option ℕ) (form : Form) (s : State) → Owned s → QueueReady s.world → (e : ℕ) → is_in e s.world.queue.list ≡ true → (v : World) → v.nodes ≡ (built before form s.world).nodes → v.awaited ≡ s.world.awaited → HasReadyTree v e
built_queue before form s o q e i v nodes waits_on = record {
  node = λ t x.
      let r = (q e i).node t (old (nat_eq s.world.next e) refl t (sym (ap (λ (es : List Entry). tree_of (form_at e es)) nodes) ∙ x)) in
      (r.0, ap (λ (es : List Entry). ready r.0 es t) nodes ∙ more_rises r.0 s.world.next t s.world.nodes (built before form s.world).nodes (one_more before form s o) r.1);
  wait = λ z a x.
      let r = (q e i).wait z a (sym waits_on ∙ x) in
      (r.0, ap (λ (es : List Entry). ready r.0 es a.root) nodes ∙ more_rises r.0 s.world.next a.root s.world.nodes (built before form s.world).nodes (one_more before form s o) r.1);
}
  where
    old : (b : Bool) → nat_eq s.world.next e ≡ b → (t : ℕ) → tree_of (form_at e (built before form s.world).nodes) ≡ Some t → tree_of (form_at e s.world.nodes) ≡ Some t
    old false d t x = sym (ap tree_of ((one_more before form s o).others e d)) ∙ x
    old true d t x =
        let live = no_event e s.world.next (is_some s.world.awaited) (is_live e s.world.nodes) d o.below.positive (o.queued e i) in
        absurd (false≢true (sym (ap is_some (ap (λ (m : ℕ). form_at m s.world.nodes) (same_number s.world.next e d) ∙ (one_more before form s o).none)) ∙ live))

pub built_ready : (before : Option ℕ) (form : Form) (s : State) → Owned s → QueueReady s.world → QueueReady (built before form s.world)
built_ready before form s o q e i =
    let g = built_grows before form s.world in
    built_queue before form s o q e (ap (λ (w : World). is_in e w.queue.list) (sym g.3) ∙ i) (built before form s.world) refl (ap (λ (w : World). w.awaited) g.3)
