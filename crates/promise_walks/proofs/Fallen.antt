-- What goes with a node, against the marks and the stack of the walk.
use Rattle.std.proofs.Common.{◌≡◌, ℕ, zero, suc, ◌+◌, ◌-◌, ◌<◌, List, [], ◌∷◌, ◌++◌, Option, None, Some, Bool, true, false, refl, sym, ap, subst, ◌∙◌, arith, length}
use Rattle.std.specs.Prelude.{◌==◌, ◌||◌, if◌then◌else◌, IsSome}
use Rattle.std.proofs.lemmas.Bool.Decides.{nat_tests}
use Rattle.std.proofs.lemmas.List.{append_assoc, append-nil, length-append}
use Rattle.std.proofs.lemmas.List.Folds.{list_any-append}
use Rattle.kj_base.specs.declared.nodes.Link.{Link}
use Rattle.kj_model.specs.Nodes.{Form, Ready, Later, Last, Cell, Branch, Then, Chain, Eager, Wrap, Hub, Side, Race, Join, Task, Request, form_at, parts_of, is_in}
use Rattle.kj_model.specs.World.{World}
use Rattle.kj_model.specs.Free.{Holding}
use Rattle.kj_model.specs.Trees.{none_if}
use Rattle.kj_model.specs.Falling.{falling, each_falling, form_falling, reference_falling, hub_falling, form_then}
use Rattle.promise_nodes.specs.Shown.{link_number, next_number, run_from}
use Rattle.promise_nodes.specs.declared.nodes.Mark.{Mark}
use Rattle.promise_nodes.specs.declared.nodes.Mark.TheVariants.{Left, Gone}
use Rattle.promise_nodes.specs.Kept.{IsLive, IsMarked, is_unreferenced}
use Rattle.promise_names.specs.declared.names.Leaving.{Leaving}
use Rattle.promise_names.specs.declared.names.Leaving.TheVariants.{Nothing}
use Rattle.promise_walks.specs.declared.freeing.Frame.{Frame}
use Rattle.promise_walks.specs.declared.shape.Shape.{Shape}
use Rattle.promise_walks.specs.Shapes.{numbers_of, hub_of, SeesShape}
use Rattle.promise_walks.specs.Stacks.{falls_count}
use Rattle.promise_walks.specs.Falls.{mark_by, AreMarks, hub_found, way_by, way_with, way_of, rest_gone, all_gone, AreThere, Leads, IsEntered, SeesLeft}

-- ---- the marks

left_case : (old : ℕ → Mark) (way gone : List ℕ) (n x : ℕ) (b : Bool) → (x == n) ≡ b → old x ≡ mark_by (is_in x way) (is_in x gone) → is_in n gone ≡ false
    → (if b then Left else old x) ≡ mark_by (is_in x (n ∷ way)) (is_in x gone)
left_case old way gone n x true e h stays =
    let same : x ≡ n = grind (arith, nat_tests, e) in
    let here : (n == x) ≡ true = grind (arith, nat_tests, same) in
    sym (ap (λ (c : Bool). mark_by (c || is_in x way) (is_in x gone)) here ∙ ap (mark_by true) (ap (λ (j : ℕ). is_in j gone) same ∙ stays))
left_case old way gone n x false e h stays =
    let other : (n == x) ≡ false = grind (arith, nat_tests, e) in
    h ∙ ap (λ (c : Bool). mark_by (c || is_in x way) (is_in x gone)) (sym other)

-- a node that isn't gone is on the way
pub marks_left : (old new : ℕ → Mark) (way gone : List ℕ) (n : ℕ) → AreMarks old way gone → is_in n gone ≡ false → IsMarked n Left old new → AreMarks new (n ∷ way) gone
marks_left old new way gone n h stays m x = m x ∙ left_case old way gone n x (x == n) refl (h x) stays

way_other : (o : Option ℕ) (n x : ℕ) (way : List ℕ) → (n == x) ≡ false → is_in x (way_by o n way) ≡ is_in x way
way_other None n x way h = refl
way_other (Some hub) n x way h = ap (λ (c : Bool). c || is_in x way) h

or_here : (a : Bool) → (a || (true || false)) ≡ true
or_here true = refl
or_here false = refl

or_none : (a : Bool) → a ≡ (a || (false || false))
or_none true = refl
or_none false = refl

in_more : (n x : ℕ) (gone : List ℕ) (b : Bool) → (n == x) ≡ b → is_in x (gone ++ n ∷ []) ≡ (is_in x gone || (b || false))
in_more n x gone b e = list_any-append (λ (m : ℕ). m == x) gone (n ∷ []) ∙ ap (λ (c : Bool). is_in x gone || (c || false)) e

gone_case : (old : ℕ → Mark) (o : Option ℕ) (way gone : List ℕ) (n x : ℕ) (b : Bool) → (x == n) ≡ b → old x ≡ mark_by (is_in x (way_by o n way)) (is_in x gone)
    → (if b then Gone else old x) ≡ mark_by (is_in x way) (is_in x (gone ++ n ∷ []))
gone_case old o way gone n x true e h =
    let here : (n == x) ≡ true = grind (arith, nat_tests, e) in
    sym (ap (mark_by (is_in x way)) (in_more n x gone true here ∙ or_here (is_in x gone)))
gone_case old o way gone n x false e h =
    let other : (n == x) ≡ false = grind (arith, nat_tests, e) in
    h ∙ ap (λ (c : Bool). mark_by c (is_in x gone)) (way_other o n x way other)
    ∙ ap (mark_by (is_in x way)) (or_none (is_in x gone) ∙ sym (in_more n x gone false other))

-- a node is gone, and no longer on the way
pub marks_gone : (old new : ℕ → Mark) (o : Option ℕ) (way gone : List ℕ) (n : ℕ) → AreMarks old (way_by o n way) gone → IsMarked n Gone old new → AreMarks new way (gone ++ n ∷ [])
marks_gone old new o way gone n h m x = m x ∙ gone_case old o way gone n x (x == n) refl (h x)

-- ---- what goes with a node

pub falling_zero : (w : World) (way gone : List ℕ) (n : ℕ) → falling (Holding []) w 0 way gone n ≡ []
unfolding falling
falling_zero w way gone n = refl

pub falling_none : (w : World) (k : ℕ) (way gone : List ℕ) (n : ℕ) → none_if (is_in n gone) (form_at n w.nodes) ≡ None → falling (Holding []) w k way gone n ≡ []
unfolding falling
falling_none w zero way gone n e = refl
falling_none w (suc k) way gone n e = ap (form_falling (Holding []) w (falling (Holding []) w k) way gone n) e

no_reference : (w : World) (falls : List ℕ → List ℕ → ℕ → List ℕ) (way gone : List ℕ) (n : ℕ) (form : Form) → hub_of form ≡ None → reference_falling (Holding []) w falls way gone n form ≡ []
no_reference w falls way gone n (Ready outcome) h = refl
no_reference w falls way gone n Later h = refl
no_reference w falls way gone n Last h = refl
no_reference w falls way gone n (Cell outcome) h = refl
no_reference w falls way gone n (Branch hub) h = cc
no_reference w falls way gone n (Then value error tree) h = refl
no_reference w falls way gone n (Chain link) h = refl
no_reference w falls way gone n (Eager content) h = refl
no_reference w falls way gone n (Wrap canceler content) h = refl
no_reference w falls way gone n (Hub content is_named branches) h = refl
no_reference w falls way gone n (Side stage) h = refl
no_reference w falls way gone n (Race left right winner) h = refl
no_reference w falls way gone n (Join is_fast sides) h = refl
no_reference w falls way gone n (Task tree) h = refl
no_reference w falls way gone n (Request name tree) h = refl

form_entered : (w : World) (k : ℕ) (way gone : List ℕ) (node : Link) (o : Option Form) (shape : Shape) (leaving : Leaving) → SeesShape (Some shape) o → shape.hub ≡ None
    → gone ++ form_falling (Holding []) w (falling (Holding []) w k) way gone node.number.0 o ≡ rest_gone w k (way_with o node.number.0 way) (record { node = node; parts = shape.parts; leaving = leaving }) gone
form_entered w k way gone node None shape leaving sees no_hub = absurd sees
form_entered w k way gone node (Some form) shape leaving sees no_hub =
    let n = node.number.0 in
    let none : hub_of form ≡ None = sees.hub ∙ ap link_number no_hub in
    let falls = falling (Holding []) w k in
    let below = each_falling (falls way) gone (parts_of form) in
    ap (λ (l : List ℕ). gone ++ (below ++ (l ++ n ∷ []))) (no_reference w falls way (gone ++ below) n form none)
    ∙ sym (append_assoc gone below (n ∷ []))
    ∙ ap (λ (ns : List ℕ). (gone ++ each_falling (falls way) gone ns) ++ n ∷ []) sees.parts
    ∙ ap (λ (h : Option ℕ). (gone ++ each_falling (falls (way_by h n way)) gone (numbers_of shape.parts)) ++ n ∷ []) (sym none)

falling_stays : (w : World) (k : ℕ) (way gone : List ℕ) (n : ℕ) → is_in n gone ≡ false → falling (Holding []) w (suc k) way gone n ≡ form_falling (Holding []) w (falling (Holding []) w k) way gone n (form_at n w.nodes)
unfolding falling
falling_stays w k way gone n h = ap (λ (b : Bool). form_falling (Holding []) w (falling (Holding []) w k) way gone n (none_if b (form_at n w.nodes))) h

-- a node that is no branch is entered
pub entered : (w : World) (marks : ℕ → Mark) (way gone : List ℕ) (node : Link) (shape : Shape) → AreMarks marks way gone → is_in node.number.0 gone ≡ false → SeesShape (Some shape) (form_at node.number.0 w.nodes) → shape.hub ≡ None
    → IsEntered w marks way gone node.number.0 (record { node = node; parts = shape.parts; leaving = shape.leaving })
entered w marks way gone node shape h stays sees no_hub = record {
  node_is = refl;
  marks_are = subst (λ (o : Option ℕ). AreMarks marks (way_by o node.number.0 way) gone) (sym (no_branch (form_at node.number.0 w.nodes) sees)) h;
  falls = λ k. ap (λ (l : List ℕ). gone ++ l) (falling_stays w k way gone node.number.0 stays) ∙ form_entered w k way gone node (form_at node.number.0 w.nodes) shape shape.leaving sees no_hub;
}
  where
    no_branch : (o : Option Form) → SeesShape (Some shape) o → hub_found o ≡ None
    no_branch None sees = absurd sees
    no_branch (Some form) sees = sees.hub ∙ ap link_number no_hub

hub_counts : (w : World) (falls : List ℕ → ℕ → List ℕ) (gone : List ℕ) (hub : ℕ) (o : Option Form) → hub_falling (Holding []) w (falls gone) gone hub o ≡ each_falling falls gone (run_from (falls_count (is_unreferenced o) false) hub)
hub_counts w falls gone hub None = refl
hub_counts w falls gone hub (Some (Ready outcome)) = refl
hub_counts w falls gone hub (Some Later) = refl
hub_counts w falls gone hub (Some Last) = refl
hub_counts w falls gone hub (Some (Cell outcome)) = refl
hub_counts w falls gone hub (Some (Branch other)) = refl
hub_counts w falls gone hub (Some (Then value error tree)) = refl
hub_counts w falls gone hub (Some (Chain link)) = refl
hub_counts w falls gone hub (Some (Eager content)) = refl
hub_counts w falls gone hub (Some (Wrap canceler content)) = refl
hub_counts w falls gone hub (Some (Hub content true branches)) = refl
hub_counts w falls gone hub (Some (Hub content false [])) = sym (append-nil (falls gone hub))
hub_counts w falls gone hub (Some (Hub content false (b ∷ branches))) = refl
hub_counts w falls gone hub (Some (Side stage)) = refl
hub_counts w falls gone hub (Some (Race left right winner)) = refl
hub_counts w falls gone hub (Some (Join fast sides)) = refl
hub_counts w falls gone hub (Some (Task tree)) = refl
hub_counts w falls gone hub (Some (Request name tree)) = refl

-- a branch is entered: it is on the way, and the hub goes like a part of it
pub entered_branch : (w : World) (marks : ℕ → Mark) (way gone : List ℕ) (node hub : Link) (count : ℕ) → AreMarks marks (node.number.0 ∷ way) gone → is_in node.number.0 gone ≡ false → form_at node.number.0 w.nodes ≡ Some (Branch hub.number.0)
    → count ≡ falls_count (is_unreferenced (form_then (node.number.0 ∷ way) gone hub.number.0 w.nodes)) false
    → IsEntered w marks way gone node.number.0 (record { node = node; parts = record { next = hub; count = count }; leaving = Nothing })
entered_branch w marks way gone node hub count h stays is c =
    let n = node.number.0 in
    let m = hub.number.0 in
    record {
      node_is = refl;
      marks_are = subst (λ (o : Option ℕ). AreMarks marks (way_by o n way) gone) (sym (ap hub_found is)) h;
      falls = λ k.
          let falls = falling (Holding []) w k (n ∷ way) in
          ap (λ (l : List ℕ). gone ++ l) (falling_stays w k way gone n stays ∙ ap (form_falling (Holding []) w (falling (Holding []) w k) way gone n) is)
          ∙ ap (λ (l : List ℕ). gone ++ (hub_falling (Holding []) w (falls l) l m (form_then (n ∷ way) l m w.nodes) ++ n ∷ [])) (append-nil gone)
          ∙ ap (λ (l : List ℕ). gone ++ (l ++ n ∷ [])) (hub_counts w falls gone m (form_then (n ∷ way) gone m w.nodes) ∙ ap (λ (j : ℕ). each_falling falls gone (run_from j m)) (sym c))
          ∙ sym (append_assoc gone (each_falling falls gone (run_from count m)) (n ∷ []))
          ∙ ap (λ (o : Option ℕ). (gone ++ each_falling (falling (Holding []) w k (way_by o n way)) gone (run_from count m)) ++ n ∷ []) (sym (ap hub_found is));
    }

-- a branch lives
pub is_there : (o : Option Form) (form : Form) → o ≡ Some form → IsSome o
is_there o form e = rw e refl

-- a node that is seen lives
pub live_left : (o : Option Form) (shape : Shape) → SeesShape (Some shape) o → IsSome o
live_left None shape sees = absurd sees
live_left (Some form) shape sees = refl

-- a node that isn't gone is seen where it lives
pub seen_left : (shape : Option Shape) (is_gone : Bool) (o : Option Form) → is_gone ≡ false → SeesShape shape o → SeesLeft shape is_gone o
seen_left None is_gone None h sees = ap (λ (b : Bool). none_if b None) h
seen_left None is_gone (Some form) h sees = absurd sees
seen_left (Some shape) is_gone o h sees = (h, sees)

-- ---- the stack

pub way_push : (w : World) (way : List ℕ) (fs : List Frame) (f : Frame) → way_of w way (fs ++ f ∷ []) ≡ way_with (form_at f.node.number.0 w.nodes) f.node.number.0 (way_of w way fs)
way_push w way [] f = refl
way_push w way (x ∷ fs) f = way_push w (way_with (form_at x.node.number.0 w.nodes) x.node.number.0 way) fs f

pub all_push : (w : World) (d k : ℕ) (way : List ℕ) (fs : List Frame) (f : Frame) (gone : List ℕ) → d ≡ length fs + suc k → all_gone w d way (fs ++ f ∷ []) gone ≡ all_gone w d way fs (rest_gone w k (way_of w way (fs ++ f ∷ [])) f gone)
all_push w zero k way [] f gone e = absurd (omega (arith, e))
all_push w (suc d) k way [] f gone e = let same : d ≡ k = omega (arith, e) in ap (λ (j : ℕ). rest_gone w j (way_of w way (f ∷ [])) f gone) same
all_push w zero k way (x ∷ fs) f gone e = absurd (omega (arith, e))
all_push w (suc d) k way (x ∷ fs) f gone e =
    let on = way_with (form_at x.node.number.0 w.nodes) x.node.number.0 way in
    ap (λ (l : List ℕ). rest_gone w d on x l) (all_push w d k on fs f gone (omega (arith, e)))

pub there_push : (w : World) (fs : List Frame) (f : Frame) → AreThere w fs → IsLive w f.node.number.0 → AreThere w (fs ++ f ∷ [])
there_push w [] f h k = (k, tt)
there_push w (x ∷ fs) f h k = (h.0, there_push w fs f h.1 k)

pub there_pop : (w : World) (fs : List Frame) (f : Frame) → AreThere w (fs ++ f ∷ []) → AreThere w fs × IsLive w f.node.number.0
there_pop w [] f h = (tt, h.0)
there_pop w (x ∷ fs) f h = let r = there_pop w fs f h.1 in ((h.0, r.0), r.1)

-- the next part of a node, and the others
rested : (w : World) (k : ℕ) (way : List ℕ) (f h : Frame) (gone : List ℕ) → f.parts.count ≡ h.parts.count + 1 → h.parts.next.number.0 ≡ next_number f.parts.next.number.0 → h.node.number.0 ≡ f.node.number.0
    → rest_gone w k way h (gone ++ falling (Holding []) w k way gone f.parts.next.number.0) ≡ rest_gone w k way f gone
rested w k way f h gone c m n =
    let falls = falling (Holding []) w k way in
    let first = falls gone f.parts.next.number.0 in
    let up : suc h.parts.count ≡ f.parts.count = omega (arith, c) in
    ap (λ (j : ℕ). ((gone ++ first) ++ each_falling falls (gone ++ first) (numbers_of h.parts)) ++ j ∷ []) n
    ∙ ap (λ (j : ℕ). ((gone ++ first) ++ each_falling falls (gone ++ first) (run_from h.parts.count j)) ++ f.node.number.0 ∷ []) m
    ∙ ap (λ (l : List ℕ). l ++ f.node.number.0 ∷ []) (append_assoc gone first (each_falling falls (gone ++ first) (run_from h.parts.count (next_number f.parts.next.number.0))))
    ∙ ap (λ (j : ℕ). (gone ++ each_falling falls gone (run_from j f.parts.next.number.0)) ++ f.node.number.0 ∷ []) up

-- the way is the same with another frame of the same node
pub way_same : (w : World) (fs : List Frame) (f h : Frame) → h.node.number.0 ≡ f.node.number.0 → way_of w [] (fs ++ h ∷ []) ≡ way_of w [] (fs ++ f ∷ [])
way_same w fs f h n = way_push w [] fs h ∙ ap (λ (j : ℕ). way_with (form_at j w.nodes) j (way_of w [] fs)) n ∙ sym (way_push w [] fs f)

-- with the last node, before its next part
pub next_gone : (w : World) (d : ℕ) (fs : List Frame) (f h : Frame) (gone : List ℕ) → length fs < d → f.parts.count ≡ h.parts.count + 1 → h.parts.next.number.0 ≡ next_number f.parts.next.number.0 → h.node.number.0 ≡ f.node.number.0
    → all_gone w d [] (fs ++ h ∷ []) (gone ++ falling (Holding []) w (d - length (fs ++ h ∷ [])) (way_of w [] (fs ++ h ∷ [])) gone f.parts.next.number.0) ≡ all_gone w d [] (fs ++ f ∷ []) gone
next_gone w d fs f h gone within c m n =
    let k = d - length fs - 1 in
    let len : length (fs ++ h ∷ []) ≡ length fs + 1 = omega (arith, length-append fs (h ∷ [])) in
    let left : d - length (fs ++ h ∷ []) ≡ k = omega (arith, len) in
    let way = way_of w [] (fs ++ h ∷ []) in
    ap (λ (j : ℕ). all_gone w d [] (fs ++ h ∷ []) (gone ++ falling (Holding []) w j way gone f.parts.next.number.0)) left
    ∙ all_push w d k [] fs h (gone ++ falling (Holding []) w k way gone f.parts.next.number.0) (omega (arith, within))
    ∙ ap (all_gone w d [] fs) (rested w k way f h gone c m n)
    ∙ ap (λ (l : List ℕ). all_gone w d [] fs (rest_gone w k l f gone)) (way_same w fs f h n)
    ∙ sym (all_push w d k [] fs f gone (omega (arith, within)))

-- where no part is left, the node is gone
pub none_gone : (w : World) (d : ℕ) (fs : List Frame) (f : Frame) (gone : List ℕ) → length fs < d → f.parts.count ≡ 0 → all_gone w d [] fs (gone ++ f.node.number.0 ∷ []) ≡ all_gone w d [] (fs ++ f ∷ []) gone
none_gone w d fs f gone within c =
    let k = d - length fs - 1 in
    let way = way_of w [] (fs ++ f ∷ []) in
    ap (λ (l : List ℕ). all_gone w d [] fs (l ++ f.node.number.0 ∷ [])) (sym (append-nil gone))
    ∙ ap (λ (j : ℕ). all_gone w d [] fs ((gone ++ each_falling (falling (Holding []) w k way) gone (run_from j f.parts.next.number.0)) ++ f.node.number.0 ∷ [])) (sym c)
    ∙ sym (all_push w d k [] fs f gone (omega (arith, within)))

-- a node that is entered is put on the stack
pub led_on : (w : World) (d : ℕ) (marks : ℕ → Mark) (fs : List Frame) (f : Frame) (gone : List ℕ) (n : ℕ) → length fs < d → AreThere w fs → IsLive w n → IsEntered w marks (way_of w [] fs) gone n f
    → Leads w d marks (fs ++ f ∷ []) (all_gone w d [] fs (gone ++ falling (Holding []) w (d - length fs) (way_of w [] fs) gone n))
led_on w d marks fs f gone n within there live is =
    let k = d - length fs - 1 in
    let here : d - length fs ≡ suc k = omega (arith, within) in
    let way = way_of w [] fs in
    let on : way_of w [] (fs ++ f ∷ []) ≡ way_with (form_at n w.nodes) n way = way_push w [] fs f ∙ ap (λ (j : ℕ). way_with (form_at j w.nodes) j way) is.node_is in
    record {
      gone = gone;
      marks_are = subst (λ (l : List ℕ). AreMarks marks l gone) (sym on) is.marks_are;
      there = there_push w fs f there (subst (λ (j : ℕ). IsLive w j) (sym is.node_is) live);
      ends = all_push w d k [] fs f gone (omega (arith, within))
          ∙ ap (λ (l : List ℕ). all_gone w d [] fs (rest_gone w k l f gone)) on
          ∙ ap (all_gone w d [] fs) (sym (is.falls k))
          ∙ ap (λ (j : ℕ). all_gone w d [] fs (gone ++ falling (Holding []) w j way gone n)) (sym here);
    }

-- nothing goes with a node, and nothing is put on the stack
pub led_by_none : (w : World) (d k : ℕ) (marks : ℕ → Mark) (fs : List Frame) (gone : List ℕ) (n : ℕ) → AreMarks marks (way_of w [] fs) gone → AreThere w fs → falling (Holding []) w k (way_of w [] fs) gone n ≡ []
    → Leads w d marks fs (all_gone w d [] fs (gone ++ falling (Holding []) w k (way_of w [] fs) gone n))
led_by_none w d k marks fs gone n h there none = record {
  gone = gone;
  marks_are = h;
  there = there;
  ends = ap (all_gone w d [] fs) (sym (ap (λ (l : List ℕ). gone ++ l) none ∙ append-nil gone));
}

-- the last node is gone
pub led_gone : (w : World) (d : ℕ) (old new : ℕ → Mark) (fs : List Frame) (f : Frame) (end : List ℕ) → length fs < d → f.parts.count ≡ 0 → IsMarked f.node.number.0 Gone old new → Leads w d old (fs ++ f ∷ []) end → Leads w d new fs end
led_gone w d old new fs f end within c m l =
    let n = f.node.number.0 in
    record {
      gone = l.gone ++ n ∷ [];
      marks_are = marks_gone old new (hub_found (form_at n w.nodes)) (way_of w [] fs) l.gone n (subst (λ (way : List ℕ). AreMarks old way l.gone) (way_push w [] fs f) l.marks_are) m;
      there = (there_pop w fs f l.there).0;
      ends = none_gone w d fs f l.gone within c ∙ l.ends;
    }

-- what goes with a node comes before what is left on the stack
abbrev pub Looks : World → ℕ → (ℕ → Mark) → (ℕ → Mark) → List Frame → List Frame → ℕ → Type 0
Looks w d old new fs now n = (gone : List ℕ) → AreMarks old (way_of w [] fs) gone → AreThere w fs → Leads w d new now (all_gone w d [] fs (gone ++ falling (Holding []) w (d - length fs) (way_of w [] fs) gone n))

-- the last node waits for its next part
pub led_next : (w : World) (d : ℕ) (old new : ℕ → Mark) (fs now : List Frame) (f h : Frame) (end : List ℕ) → length fs < d → f.parts.count ≡ h.parts.count + 1 → h.parts.next.number.0 ≡ next_number f.parts.next.number.0 → h.node.number.0 ≡ f.node.number.0
    → Looks w d old new (fs ++ h ∷ []) now f.parts.next.number.0
    → Leads w d old (fs ++ f ∷ []) end → Leads w d new now end
led_next w d old new fs now f h end within c m n done l =
    let p = there_pop w fs f l.there in
    let r = done l.gone (subst (λ (way : List ℕ). AreMarks old way l.gone) (sym (way_same w fs f h n)) l.marks_are) (there_push w fs h p.0 (subst (λ (j : ℕ). IsLive w j) (sym n) p.1)) in
    subst (λ (e : List ℕ). Leads w d new now e) (next_gone w d fs f h l.gone within c m n ∙ l.ends) r

-- one more tree falls: nothing is on the stack at first
pub led_first : (w : World) (d : ℕ) (old new : ℕ → Mark) (fs now : List Frame) (gone : List ℕ) (n : ℕ) → fs ≡ [] → AreMarks old [] gone → Looks w d old new fs now n → Leads w d new now (gone ++ falling (Holding []) w d [] gone n)
led_first w d old new fs now gone n none marks looks =
    let by : Looks w d old new [] now n = subst (λ (l : List Frame). Looks w d old new l now n) none looks in
    let all : d - 0 ≡ d = omega arith in
    subst (λ (j : ℕ). Leads w d new now (gone ++ falling (Holding []) w j [] gone n)) all (by gone marks tt)

-- nothing is left on the stack
pub led_last : (w : World) (d : ℕ) (marks : ℕ → Mark) (fs : List Frame) (end : List ℕ) → fs ≡ [] → Leads w d marks fs end → AreMarks marks [] end
led_last w d marks fs end none leads = by fs none leads
  where
    by : (l : List Frame) → l ≡ [] → Leads w d marks l end → AreMarks marks [] end
    by [] e h = subst (AreMarks marks []) h.ends h.marks_are
    by (f ∷ l) e h = absurd (nil_more e)
      where
        nil_more : ◌≡◌ {A = List Frame} (f ∷ l) [] → ⊥
        nil_more q = cc
