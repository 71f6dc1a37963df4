-- Freeing a node frees exactly what goes with it, hubs too.
use Rattle.std.proofs.Common.{append_assoc, zero, suc, ◌≡◌, ℕ, List, [], ◌∷◌, ◌++◌, Bool, true, false, not, cond, Option, None, Some, arith, refl, sym, ap, ◌∙◌, subst, ◌||◌, ◌&&◌, ◌==◌}
use Rattle.std.specs.Prelude.{map, nat_eq, filter}
use Rattle.std.specs.List.{list_any}
use Rattle.std.proofs.lemmas.List.{append-nil, map-append}
use Rattle.std.proofs.lemmas.Bool.{false≢true}
use Rattle.std.proofs.lemmas.Bool.Decides.{nat_tests}
use Rattle.kj_base.specs.Record.{Free}
use Rattle.kj_model.specs.Nodes.{Entry, Form, Cell, Branch, Wrap, Hub, form_at, without, parts_of, parts_at, parts_found, dropped, is_in, holds}
use Rattle.kj_model.specs.World.{World, State, Held, held_at, Canceler, Named, depth_of}
use Rattle.kj_model.specs.Changes.{silent, gone, gone_world}
use Rattle.kj_model.specs.Free.{Guard, Holding, Every, is_guarded, free_unless, free_to, free_form, each_freed, unlinked, free_unreferenced, without_branch, without_branch_in, without_wrap_in, abandoned_as, ask_of}
use Rattle.kj_model.specs.Trees.{some_parts, none_if, Frees}
use Rattle.kj_model.specs.Falling.{is_branch_of, branches_staying, form_staying, some_staying, form_then, without_all, unless_kept, hub_falling, reference_falling, each_falling, form_falling, falling}
use Rattle.kj_model.specs.Framed.{Framed, FreedBy}
use Rattle.kj_model.proofs.Counts.{framed_none, framed_gone, framed_branch, framed_abandoned, framed_wrap}
use Rattle.kj_model.proofs.Freed.{in_app, none_none, none_twice, or_none}
use Rattle.kj_model.proofs.Spared.{no_form, same_number, form_without_same, form_without_other, form_put_same, form_put_other}

-- a world that is left after some nodes went and the branches on the way left their hubs
record Stands (w : World) (way done : List ℕ) (v : World) : Type 0 where
  limits : v.limits ≡ w.limits
  forms : (m : ℕ) → form_at m v.nodes ≡ form_then way done m w.nodes
  frame : Framed w done v

-- these nodes went, in this order
record Fell (w : World) (way done ns : List ℕ) (old new : State) : Type 0 where
  told : new.past ≡ old.past ++ map Free ns
  stands : Stands w way (done ++ ns) new.world

fell_none : (w : World) (way done : List ℕ) (s t : State) → t.past ≡ s.past → Stands w way done t.world → Fell w way done [] s t
fell_none w way done s t same st = record { told = same ∙ sym (append-nil s.past); stands = subst (λ ds. Stands w way ds t.world) (sym (append-nil done)) st }

fell_both : (w : World) (way done ms ns : List ℕ) (a b c : State) → Fell w way done ms a b → Fell w way (done ++ ms) ns b c → Fell w way done (ms ++ ns) a c
fell_both w way done ms ns a b c f g = record {
  told = g.told ∙ ap (λ ts. ts ++ map Free ns) f.told ∙ append_assoc a.past (map Free ms) (map Free ns) ∙ ap (λ ts. a.past ++ ts) (sym (map-append Free ms ns));
  stands = subst (λ ds. Stands w way ds c.world) (append_assoc done ms ns) g.stands;
}

-- a change of the ways out that no branch sees leaves the forms
staying_same : (p q : ℕ → Bool) (n : ℕ) (nodes : List Entry) (o : Option Form) → ((b : ℕ) → (p b && is_branch_of n (form_at b nodes)) ≡ (q b && is_branch_of n (form_at b nodes))) → some_staying p n nodes o ≡ some_staying q n nodes o
staying_same p q n nodes None h = refl
staying_same p q n nodes (Some form) h = ap Some (form_same p q n nodes form h)
  where
    list_same : (p q : ℕ → Bool) (n : ℕ) (nodes : List Entry) (bs : List ℕ) → ((b : ℕ) → (p b && is_branch_of n (form_at b nodes)) ≡ (q b && is_branch_of n (form_at b nodes))) → branches_staying p n nodes bs ≡ branches_staying q n nodes bs
    list_same p q n nodes [] h = refl
    list_same p q n nodes (b ∷ bs) h = ap (λ t. cond (not t) (b ∷ branches_staying p n nodes bs) (branches_staying p n nodes bs)) (h b) ∙ ap (λ rest. cond (not (q b && is_branch_of n (form_at b nodes))) (b ∷ rest) rest) (list_same p q n nodes bs h)

    form_same : (p q : ℕ → Bool) (n : ℕ) (nodes : List Entry) (form : Form) → ((b : ℕ) → (p b && is_branch_of n (form_at b nodes)) ≡ (q b && is_branch_of n (form_at b nodes))) → form_staying p n nodes form ≡ form_staying q n nodes form
    form_same p q n nodes (Hub content is_named branches) h = ap (λ bs. Hub content is_named bs) (list_same p q n nodes branches h)
    form_same p q n nodes _ h = refl

-- while no branch is out the forms stand as before
staying_all : (n : ℕ) (nodes : List Entry) (o : Option Form) → some_staying (λ b. false) n nodes o ≡ o
staying_all n nodes None = refl
staying_all n nodes (Some form) = ap Some (form_all n nodes form)
  where
    list_all : (n : ℕ) (nodes : List Entry) (bs : List ℕ) → branches_staying (λ b. false) n nodes bs ≡ bs
    list_all n nodes [] = refl
    list_all n nodes (b ∷ bs) = ap (λ rest. b ∷ rest) (list_all n nodes bs)

    form_all : (n : ℕ) (nodes : List Entry) (form : Form) → form_staying (λ b. false) n nodes form ≡ form
    form_all n nodes (Hub content is_named branches) = ap (λ bs. Hub content is_named bs) (list_all n nodes branches)
    form_all n nodes _ = refl

starts : (w : World) → Stands w [] [] w
starts w = record { limits = refl; forms = λ m. sym (staying_all m w.nodes (form_at m w.nodes)); frame = framed_none w }

-- what stays owns what it owned, and has the same references
parts_staying : (out : ℕ → Bool) (n : ℕ) (nodes : List Entry) (form : Form) → parts_of (form_staying out n nodes form) ≡ parts_of form
parts_staying out n nodes (Hub content is_named branches) = refl
parts_staying out n nodes _ = refl

unlinked_staying : (guard : Guard) (free : ℕ → State → State) (out : ℕ → Bool) (n : ℕ) (nodes : List Entry) (form : Form) (s : State) → unlinked guard free n (form_staying out n nodes form) s ≡ unlinked guard free n form s
unlinked_staying guard free out n nodes (Hub content is_named branches) s = refl
unlinked_staying guard free out n nodes _ s = refl

none_staying : (b : Bool) (out : ℕ → Bool) (n : ℕ) (nodes : List Entry) (o : Option Form) → none_if b (some_staying out n nodes o) ≡ some_staying out n nodes (none_if b o)
none_staying true out n nodes o = refl
none_staying false out n nodes o = refl

pub some_if : (b : Bool) (o : Option Form) (form : Form) → none_if b o ≡ Some form → o ≡ Some form
some_if true o form e = absurd (no_form form e)
some_if false o form e = e

-- a node goes
form_without_if : (b : Bool) (n m : ℕ) (es : List Entry) → nat_eq n m ≡ b → form_at m (without n es) ≡ none_if b (form_at m es)
form_without_if true n m es e = let same : n ≡ m = sym (same_number n m e) in subst (λ (x : ℕ). form_at x (without n es) ≡ None) same (form_without_same n es)
form_without_if false n m es e = form_without_other n m es e

passed : (e a g : Bool) → ((e || a) || g) ≡ (a || (g || (e || false)))
passed true true g = refl
passed true false true = refl
passed true false false = refl
passed false true g = refl
passed false false true = refl
passed false false false = refl

gone_stands : (w : World) (way done : List ℕ) (n : ℕ) (v : World) → Stands w (n ∷ way) done v → Stands w way (done ++ n ∷ []) (gone_world n v)
gone_stands w way done n v st = record {
  limits = st.limits;
  frame = framed_gone w done n v st.frame;
  forms = λ m.
      form_without_if (n == m) n m v.nodes refl
      ∙ ap (none_if (n == m)) (st.forms m)
      ∙ none_twice (is_in m done) (n == m) (some_staying (λ b. is_in b (n ∷ way) || is_in b done) m w.nodes (form_at m w.nodes))
      ∙ ap (λ c. none_if c (some_staying (λ b. is_in b (n ∷ way) || is_in b done) m w.nodes (form_at m w.nodes))) (ap (λ c. is_in m done || c) (or_none (n == m)) ∙ sym (in_app m done (n ∷ [])))
      ∙ ap (none_if (is_in m (done ++ n ∷ []))) (staying_same (λ b. is_in b (n ∷ way) || is_in b done) (λ b. is_in b way || is_in b (done ++ n ∷ [])) m w.nodes (form_at m w.nodes)
      (λ b. ap (λ c. c && is_branch_of m (form_at b w.nodes)) (passed (n == b) (is_in b way) (is_in b done) ∙ ap (λ c. is_in b way || c) (sym (in_app b done (n ∷ []))))));
}

-- a node that is no branch goes on its way
way_same : (w : World) (way done : List ℕ) (n m : ℕ) → is_branch_of m (form_at n w.nodes) ≡ false → form_then way done m w.nodes ≡ form_then (n ∷ way) done m w.nodes
way_same w way done n m other = ap (none_if (is_in m done)) (staying_same (λ b. is_in b way || is_in b done) (λ b. is_in b (n ∷ way) || is_in b done) m w.nodes (form_at m w.nodes) (λ b. each (n == b) (is_in b way) (is_in b done) (is_branch_of m (form_at b w.nodes)) (λ e. subst (λ (x : ℕ). is_branch_of m (form_at x w.nodes) ≡ false) (sym (same_number n b e)) other)))
  where
    each : (e a g r : Bool) → (e ≡ true → r ≡ false) → ((a || g) && r) ≡ (((e || a) || g) && r)
    each false a g r h = refl
    each true a g true h = absurd (false≢true (sym (h refl)))
    each true true g false h = refl
    each true false true false h = refl
    each true false false false h = refl

away_stands : (w : World) (way done : List ℕ) (n : ℕ) (v : World) → ((m : ℕ) → is_branch_of m (form_at n w.nodes) ≡ false) → Stands w way done v → Stands w (n ∷ way) done v
away_stands w way done n v other st = record { limits = st.limits; forms = λ m. st.forms m ∙ way_same w way done n m (other m); frame = st.frame }

-- a branch leaves its hub
abbrev form_dropped : ℕ → Option Form → Option Form
form_dropped n (Some (Hub content is_named branches)) = Some (Hub content is_named (dropped n branches))
form_dropped n other = other

dropped_here : (n hub : ℕ) (o : Option Form) (v : World) → form_at hub v.nodes ≡ o → form_at hub (without_branch_in n hub o v).nodes ≡ form_dropped n o
dropped_here n hub (Some (Hub content is_named branches)) v at = form_put_same hub (Hub content is_named (dropped n branches)) (Hub content is_named branches) v.nodes at
dropped_here n hub None v at = at
dropped_here n hub (Some _) v at = at

dropped_there : (n hub m : ℕ) (o : Option Form) (v : World) → nat_eq hub m ≡ false → form_at m (without_branch_in n hub o v).nodes ≡ form_at m v.nodes
dropped_there n hub m (Some (Hub content is_named branches)) v d = form_put_other hub m (Hub content is_named (dropped n branches)) v.nodes d
dropped_there n hub m None v d = refl
dropped_there n hub m (Some _) v d = refl

dropped_limits : (n hub : ℕ) (o : Option Form) (v : World) → (without_branch_in n hub o v).limits ≡ v.limits
dropped_limits n hub (Some (Hub content is_named branches)) v = refl
dropped_limits n hub None v = refl
dropped_limits n hub (Some _) v = refl

drop_more : (n x : ℕ) (e o r : Bool) (ys zs : List ℕ) → nat_eq x n ≡ e → (e ≡ true → r ≡ true) → dropped n ys ≡ zs → dropped n (cond (not (o && r)) (x ∷ ys) ys) ≡ cond (not ((e || o) && r)) (x ∷ zs) zs
drop_more n x true o false ys zs is h d = absurd (false≢true (h refl))
drop_more n x true true true ys zs is h d = d
drop_more n x true false true ys zs is h d = ap (λ t. cond (not t) (x ∷ dropped n ys) (dropped n ys)) is ∙ d
drop_more n x false true true ys zs is h d = d
drop_more n x false true false ys zs is h d = ap (λ t. cond (not t) (x ∷ dropped n ys) (dropped n ys)) is ∙ ap (λ ts. x ∷ ts) d
drop_more n x false false true ys zs is h d = ap (λ t. cond (not t) (x ∷ dropped n ys) (dropped n ys)) is ∙ ap (λ ts. x ∷ ts) d
drop_more n x false false false ys zs is h d = ap (λ t. cond (not t) (x ∷ dropped n ys) (dropped n ys)) is ∙ ap (λ ts. x ∷ ts) d

turned : (x n : ℕ) → nat_eq x n ≡ nat_eq n x
turned x n = grind (arith, nat_tests)

drop_staying : (n hub : ℕ) (way done : List ℕ) (nodes : List Entry) (bs : List ℕ) → is_branch_of hub (form_at n nodes) ≡ true → dropped n (branches_staying (λ b. is_in b way || is_in b done) hub nodes bs) ≡ branches_staying (λ b. is_in b (n ∷ way) || is_in b done) hub nodes bs
drop_staying n hub way done nodes [] is = refl
drop_staying n hub way done nodes (x ∷ xs) is =
    drop_more n x (n == x) (is_in x way || is_in x done) (is_branch_of hub (form_at x nodes)) (branches_staying (λ b. is_in b way || is_in b done) hub nodes xs) (branches_staying (λ b. is_in b (n ∷ way) || is_in b done) hub nodes xs)
    (turned x n) (λ e. subst (λ (y : ℕ). is_branch_of hub (form_at y nodes) ≡ true) (sym (same_number n x e)) is) (drop_staying n hub way done nodes xs is)
    ∙ ap (λ t. cond (not (t && is_branch_of hub (form_at x nodes))) (x ∷ branches_staying (λ b. is_in b (n ∷ way) || is_in b done) hub nodes xs) (branches_staying (λ b. is_in b (n ∷ way) || is_in b done) hub nodes xs)) (grouped (n == x) (is_in x way) (is_in x done))
  where
    grouped : (a b c : Bool) → (a || (b || c)) ≡ ((a || b) || c)
    grouped true b c = refl
    grouped false b c = refl

drop_form : (n hub : ℕ) (way done : List ℕ) (nodes : List Entry) (c : Bool) (o : Option Form) → is_branch_of hub (form_at n nodes) ≡ true → form_dropped n (none_if c (some_staying (λ b. is_in b way || is_in b done) hub nodes o)) ≡ none_if c (some_staying (λ b. is_in b (n ∷ way) || is_in b done) hub nodes o)
drop_form n hub way done nodes true o is = refl
drop_form n hub way done nodes false None is = refl
drop_form n hub way done nodes false (Some (Hub content is_named branches)) is = ap (λ bs. Some (Hub content is_named bs)) (drop_staying n hub way done nodes branches is)
drop_form n hub way done nodes false (Some _) is = refl

pub self : (n : ℕ) → nat_eq n n ≡ true
self n = grind (arith, nat_tests)

branch_form : (b : Bool) (w : World) (way done : List ℕ) (n hub m : ℕ) (v : World) → nat_eq hub m ≡ b → form_at n w.nodes ≡ Some (Branch hub) → Stands w way done v → form_at m (without_branch n hub v).nodes ≡ form_then (n ∷ way) done m w.nodes
branch_form true w way done n hub m v e at st =
    subst (λ (x : ℕ). form_at x (without_branch n hub v).nodes ≡ form_then (n ∷ way) done x w.nodes) (sym (same_number hub m e))
    (dropped_here n hub (form_at hub v.nodes) v refl ∙ ap (form_dropped n) (st.forms hub) ∙ drop_form n hub way done w.nodes (is_in hub done) (form_at hub w.nodes) (ap (is_branch_of hub) at ∙ self hub))
branch_form false w way done n hub m v e at st = dropped_there n hub m (form_at hub v.nodes) v e ∙ st.forms m ∙ way_same w way done n m (ap (is_branch_of m) at ∙ e)

branch_stands : (w : World) (way done : List ℕ) (n hub : ℕ) (v : World) → form_at n w.nodes ≡ Some (Branch hub) → Stands w way done v → Stands w (n ∷ way) done (without_branch n hub v)
branch_stands w way done n hub v at st = record { frame = framed_branch w done n hub (form_at hub v.nodes) v st.frame; limits = dropped_limits n hub (form_at hub v.nodes) v ∙ st.limits; forms = λ m. branch_form (nat_eq hub m) w way done n hub m v refl at st }

-- the guard sees the same in what is left as in the world without the nodes that went
left_more : (m : ℕ) (done : List ℕ) (e : Entry) (es : List Entry) → form_at m (filter (λ (x : Entry). not (is_in x.number done)) es) ≡ none_if (is_in m done) (form_at m es) → form_at m (filter (λ (x : Entry). not (is_in x.number done)) (e ∷ es)) ≡ none_if (is_in m done) (form_at m (e ∷ es))
left_more m done e es h = grind (arith, nat_tests)

pub form_left : (m : ℕ) (done : List ℕ) (es : List Entry) → form_at m (filter (λ (x : Entry). not (is_in x.number done)) es) ≡ none_if (is_in m done) (form_at m es)
form_left m done [] = sym (none_none (is_in m done))
form_left m done (e ∷ es) = left_more m done e es (form_left m done es)

pub found_staying : (c : Bool) (out : ℕ → Bool) (n : ℕ) (nodes : List Entry) (o : Option Form) → parts_found (none_if c (some_staying out n nodes o)) ≡ parts_found (none_if c o)
found_staying true out n nodes o = refl
found_staying false out n nodes None = refl
found_staying false out n nodes (Some form) = parts_staying out n nodes form

parts_left : (w : World) (way done : List ℕ) (v : World) → Stands w way done v → (m : ℕ) → parts_at m v.nodes ≡ parts_at m (without_all done w).nodes
parts_left w way done v st m = ap parts_found (st.forms m) ∙ found_staying (is_in m done) (λ b. is_in b way || is_in b done) m w.nodes (form_at m w.nodes) ∙ ap parts_found (sym (form_left m done w.nodes))

holds_same : (k : ℕ) (xs ys : List Entry) (n root : ℕ) → ((m : ℕ) → parts_at m xs ≡ parts_at m ys) → holds k xs n root ≡ holds k ys n root
holds_same zero xs ys n root h = refl
holds_same (suc k) xs ys n root h = λ i. (root == n) || list_any (λ r. holds_same k xs ys n r h i) (h root i)

guarded_same : (guard : Guard) (hub : ℕ) (w : World) (way done : List ℕ) (v : World) → Stands w way done v → is_guarded guard hub v ≡ is_guarded guard hub (without_all done w)
guarded_same Every hub w way done v st = refl
guarded_same (Holding ns) hub w way done v st =
    ap (λ limits. list_any (λ n. holds (depth_of (record w { limits = limits })) v.nodes n hub) ns) st.limits
    ∙ (λ i. list_any (λ n. holds_same (depth_of w) v.nodes (without_all done w).nodes n hub (parts_left w way done v st) i) ns)

-- each node by this bound goes as it was read
abbrev FallsTo : Guard → World → ℕ → Type 0
FallsTo guard w k = (way done : List ℕ) (n : ℕ) (s : State) → Stands w way done s.world → Fell w way done (falling guard w k way done n) s (free_to guard k n s)

each_fell : (guard : Guard) (w : World) (k : ℕ) (way done ns : List ℕ) (s : State) → FallsTo guard w k → Stands w way done s.world → Fell w way done (each_falling (falling guard w k way) done ns) s (each_freed (free_to guard k) ns s)
each_fell guard w k way done [] s falls st = fell_none w way done s s refl st
each_fell guard w k way done (n ∷ ns) s falls st =
    let first = falling guard w k way done n in
    let t = free_to guard k n s in
    let f = falls way done n s st in
    fell_both w way done first (each_falling (falling guard w k way) (done ++ first) ns) s t (each_freed (free_to guard k) ns t) f (each_fell guard w k way (done ++ first) ns t falls f.stands)

kept_fell : (guard : Guard) (w : World) (k : ℕ) (b : Bool) (way done : List ℕ) (hub : ℕ) (s : State) → FallsTo guard w k → Stands w way done s.world → Fell w way done (unless_kept b (falling guard w k way done) hub) s (free_unless b (free_to guard k) hub s)
kept_fell guard w k true way done hub s falls st = fell_none w way done s s refl st
kept_fell guard w k false way done hub s falls st = falls way done hub s st

hub_fell : (guard : Guard) (w : World) (k : ℕ) (way done : List ℕ) (hub : ℕ) (o : Option Form) (s : State) → FallsTo guard w k → Stands w way done s.world → Fell w way done (hub_falling guard w (falling guard w k way done) done hub o) s (free_unreferenced guard (free_to guard k) hub o s)
hub_fell guard w k way done hub (Some (Hub content false [])) s falls st =
    subst (λ b. Fell w way done (unless_kept (is_guarded guard hub (without_all done w)) (falling guard w k way done) hub) s (free_unless b (free_to guard k) hub s)) (sym (guarded_same guard hub w way done s.world st))
    (kept_fell guard w k (is_guarded guard hub (without_all done w)) way done hub s falls st)
hub_fell guard w k way done hub (Some (Hub content false (b ∷ bs))) s falls st = fell_none w way done s s refl st
hub_fell guard w k way done hub (Some (Hub content true bs)) s falls st = fell_none w way done s s refl st
hub_fell guard w k way done hub None s falls st = fell_none w way done s s refl st
hub_fell guard w k way done hub (Some _) s falls st = fell_none w way done s s refl st

abandoned_stands : (w : World) (way done : List ℕ) (x : Option Named) (v : World) → Stands w way done v → Stands w way done (abandoned_as x v)
abandoned_stands w way done None v st = st
abandoned_stands w way done (Some x) v st = record { limits = st.limits; forms = st.forms; frame = framed_abandoned w done (Some x) v st.frame }

wrap_stands : (w : World) (way done : List ℕ) (n canceler : ℕ) (h : Option Held) (v : World) → held_at canceler v.names ≡ h → Stands w way done v → Stands w way done (without_wrap_in n canceler h v)
wrap_stands w way done n canceler (Some (Canceler wraps)) v at st = record { limits = st.limits; forms = st.forms; frame = framed_wrap w done n canceler (Some (Canceler wraps)) v at st.frame }
wrap_stands w way done n canceler None v at st = st
wrap_stands w way done n canceler (Some _) v at st = st

unlinked_fell : (guard : Guard) (w : World) (k : ℕ) (way done : List ℕ) (n : ℕ) (form : Form) (s : State) → FallsTo guard w k → form_at n w.nodes ≡ Some form → Stands w way done s.world → Fell w (n ∷ way) done (reference_falling guard w (falling guard w k) way done n form) s (unlinked guard (free_to guard k) n form s)
unlinked_fell guard w k way done n (Branch hub) s falls at st =
    let t = silent (without_branch n hub) s in
    let after = branch_stands w way done n hub s.world at st in
    let f : Fell w (n ∷ way) done (hub_falling guard w (falling guard w k (n ∷ way) done) done hub (form_then (n ∷ way) done hub w.nodes)) t (free_unreferenced guard (free_to guard k) hub (form_at hub t.world.nodes) t) =
    subst (λ (o : Option Form). Fell w (n ∷ way) done (hub_falling guard w (falling guard w k (n ∷ way) done) done hub o) t (free_unreferenced guard (free_to guard k) hub (form_at hub t.world.nodes) t)) (after.forms hub)
    (hub_fell guard w k (n ∷ way) done hub (form_at hub t.world.nodes) t falls after) in
    record { told = f.told; stands = f.stands }
unlinked_fell guard w k way done n (Cell None) s falls at st = fell_none w (n ∷ way) done s (silent (λ v. abandoned_as (ask_of n v.names) v) s) refl (abandoned_stands w (n ∷ way) done (ask_of n s.world.names) s.world (away_stands w way done n s.world (λ m. ap (is_branch_of m) at) st))
unlinked_fell guard w k way done n (Cell (Some outcome)) s falls at st = fell_none w (n ∷ way) done s s refl (away_stands w way done n s.world (λ m. ap (is_branch_of m) at) st)
unlinked_fell guard w k way done n (Wrap canceler content) s falls at st = fell_none w (n ∷ way) done s (silent (λ v. without_wrap_in n canceler (held_at canceler v.names) v) s) refl (wrap_stands w (n ∷ way) done n canceler (held_at canceler s.world.names) s.world refl (away_stands w way done n s.world (λ m. ap (is_branch_of m) at) st))
unlinked_fell guard w k way done n _ s falls at st = fell_none w (n ∷ way) done s s refl (away_stands w way done n s.world (λ m. ap (is_branch_of m) at) st)

gone_fell : (w : World) (way done ns : List ℕ) (n : ℕ) (s t : State) → Fell w (n ∷ way) done ns s t → Fell w way done (ns ++ n ∷ []) s (gone n t)
gone_fell w way done ns n s t f = record {
  told = ap (λ ts. ts ++ Free n ∷ []) f.told ∙ append_assoc s.past (map Free ns) (Free n ∷ []) ∙ ap (λ ts. s.past ++ ts) (sym (map-append Free ns (n ∷ [])));
  stands = subst (λ ds. Stands w way ds (gone_world n t.world)) (append_assoc done ns (n ∷ [])) (gone_stands w way (done ++ ns) n t.world f.stands);
}

form_fell : (guard : Guard) (w : World) (k : ℕ) (way done : List ℕ) (n : ℕ) (o : Option Form) (s : State) → FallsTo guard w k → none_if (is_in n done) (form_at n w.nodes) ≡ o → Stands w way done s.world
    → Fell w way done (form_falling guard w (falling guard w k) way done n o) s (free_form guard (free_to guard k) n (some_staying (λ b. is_in b way || is_in b done) n w.nodes o) s)
form_fell guard w k way done n None s falls at st = fell_none w way done s s refl st
form_fell guard w k way done n (Some form) s falls at st =
    let out : ℕ → Bool = λ b. is_in b way || is_in b done in
    let below = each_falling (falling guard w k way) done (parts_of form) in
    let t = each_freed (free_to guard k) (parts_of form) s in
    let f = each_fell guard w k way done (parts_of form) s falls st in
    let g = unlinked_fell guard w k way (done ++ below) n form t falls (some_if (is_in n done) (form_at n w.nodes) form at) f.stands in
    let h = gone_fell w way (done ++ below) (reference_falling guard w (falling guard w k) way (done ++ below) n form) n t (unlinked guard (free_to guard k) n form t) g in
    let whole = fell_both w way done below (reference_falling guard w (falling guard w k) way (done ++ below) n form ++ n ∷ []) s t (gone n (unlinked guard (free_to guard k) n form t)) f h in
    subst (λ (r : State). Fell w way done (form_falling guard w (falling guard w k) way done n (Some form)) s r)
    (sym (ap (λ ps. gone n (unlinked guard (free_to guard k) n (form_staying out n w.nodes form) (each_freed (free_to guard k) ps s))) (parts_staying out n w.nodes form)
    ∙ ap (gone n) (unlinked_staying guard (free_to guard k) out n w.nodes form t)))
    whole

node_fell : (guard : Guard) (w : World) (k : ℕ) → FallsTo guard w k
unfolding free_to falling
node_fell guard w zero way done n s st = fell_none w way done s s refl st
node_fell guard w (suc k) way done n s st =
    subst (λ (o : Option Form). Fell w way done (form_falling guard w (falling guard w k) way done n (none_if (is_in n done) (form_at n w.nodes))) s (free_form guard (free_to guard k) n o s))
    (sym (st.forms n ∙ none_staying (is_in n done) (λ b. is_in b way || is_in b done) n w.nodes (form_at n w.nodes)))
    (form_fell guard w k way done n (none_if (is_in n done) (form_at n w.nodes)) s (node_fell guard w k) refl st)

some_parts_then : (c : Bool) (out : ℕ → Bool) (n : ℕ) (nodes : List Entry) (o : Option Form) → some_parts (none_if c (some_staying out n nodes o)) ≡ none_if c (some_parts o)
some_parts_then true out n nodes o = refl
some_parts_then false out n nodes None = refl
some_parts_then false out n nodes (Some form) = ap Some (parts_staying out n nodes form)

-- the law
pub node_falls : (guard : Guard) (k n : ℕ) (s : State) → Frees (falling guard s.world k [] [] n) s (free_to guard k n s)
node_falls guard k n s =
    let ns = falling guard s.world k [] [] n in
    let f = node_fell guard s.world k [] [] n s (starts s.world) in
    record { told = f.told; nodes = λ m. ap some_parts (f.stands.forms m) ∙ some_parts_then (is_in m ns) (λ b. is_in b ns) m s.world.nodes (form_at m s.world.nodes) }

-- the same law with its frame
pub node_frees : (guard : Guard) (k n : ℕ) (s : State) → FreedBy (falling guard s.world k [] [] n) s (free_to guard k n s)
node_frees guard k n s = let f = node_fell guard s.world k [] [] n s (starts s.world) in record { told = f.told; limits = f.stands.limits; forms = f.stands.forms; frame = f.stands.frame }

-- one node goes, which is no branch
pub gone_freed : (n : ℕ) (s : State) → ((m : ℕ) → is_branch_of m (form_at n s.world.nodes) ≡ false) → FreedBy (n ∷ []) s (gone n s)
gone_freed n s other = let st = gone_stands s.world [] [] n s.world (away_stands s.world [] [] n s.world other (starts s.world)) in record { told = refl; limits = st.limits; forms = st.forms; frame = st.frame }

-- trees one after another
pub each_frees : (guard : Guard) (k : ℕ) (ns : List ℕ) (s : State)
    → FreedBy (each_falling (falling guard s.world k []) [] ns) s (each_freed (free_to guard k) ns s)
each_frees guard k ns s =
    let w = s.world in
    let f = each_fell guard w k [] [] ns s (node_fell guard w k) (starts w) in record {
      told = f.told;
      limits = f.stands.limits;
      forms = f.stands.forms;
      frame = f.stands.frame;
    }
