-- What goes with a node goes once and goes whole, where each node has one place; no tree is read.
use Rattle.std.proofs.Common.{append_assoc, zero, suc, ◌≡◌, ◌⊎◌, inl, inr, ℕ, ◌+◌, ◌<◌, ◌≤◌, List, [], ◌∷◌, ◌++◌, length, Bool, true, false, not, cond, Option, None, Some, arith, refl, sym, ap, ◌∙◌, subst, ◌||◌, ◌==◌}
use Rattle.std.specs.Prelude.{nat_eq, is_some}
use Rattle.std.proofs.lemmas.Bool.{false≢true, or_parts}
use Rattle.std.proofs.lemmas.Bool.Decides.{nat_tests}
use Rattle.kj_model.specs.Nodes.{Entry, Form, Content, Branch, Hub, form_at, parts_of, parts_found, is_in, dropped}
use Rattle.kj_model.specs.World.{World}
use Rattle.kj_model.specs.Free.{Guard, is_guarded}
use Rattle.kj_model.specs.Trees.{none_if, AreApart}
use Rattle.kj_ownership.specs.Owners.{is_live, owns, is_hub_form, OnePlace}
use Rattle.kj_model.specs.Falling.{is_branch_of, form_then, without_all, unless_kept, hub_falling, reference_falling, each_falling, form_falling, falling, is_unnamed_hub, AreDisjoint}
use Rattle.kj_model.specs.Owned.{numbers}
use Rattle.kj_model.proofs.Freed.{or_false}
use Rattle.kj_model.proofs.Spared.{same_number}
use Rattle.kj_model.proofs.Falling.{some_if, self}
use Rattle.kj_model.proofs.Members.{Within, in_either, in_left, in_right, in_one, in_self, in_none}
use Rattle.kj_model.proofs.Once.{both_ways, false_by, out_both, out_parts, apart_join, none_in, hub_unnamed, hub_lost, widened, no_hub, way_more, or_more}

-- a list without repeats whose members are all in another is no longer
dropped_more : (x y : ℕ) (b : Bool) (ys zs : List ℕ) → nat_eq y x ≡ b → is_in x (y ∷ ys) ≡ true → length zs ≤ length ys → (is_in x ys ≡ true → suc (length zs) ≤ length ys) → suc (length (cond (not b) (y ∷ zs) zs)) ≤ length (y ∷ ys)
dropped_more x y true ys zs e i l h = omega (arith, l)
dropped_more x y false ys zs e i l h =
    let there : is_in x ys ≡ true = ap (λ c. c || is_in x ys) (sym e) ∙ i in
    let g = h there in omega (arith, g)

drop_le_more : (b : Bool) (y : ℕ) (ys zs : List ℕ) → length zs ≤ length ys → length (cond (not b) (y ∷ zs) zs) ≤ length (y ∷ ys)
drop_le_more true y ys zs l = omega (arith, l)
drop_le_more false y ys zs l = omega (arith, l)

drop_le : (x : ℕ) (ys : List ℕ) → length (dropped x ys) ≤ length ys
drop_le x [] = omega arith
drop_le x (y ∷ ys) = drop_le_more (nat_eq y x) y ys (dropped x ys) (drop_le x ys)

drop_less : (x : ℕ) (ys : List ℕ) → is_in x ys ≡ true → suc (length (dropped x ys)) ≤ length ys
drop_less x [] i = absurd (in_none x i)
drop_less x (y ∷ ys) i = dropped_more x y (nat_eq y x) ys (dropped x ys) refl i (drop_le x ys) (drop_less x ys)

in_dropped_more : (x y m : ℕ) (ys : List ℕ) → nat_eq x m ≡ false → (is_in m ys ≡ true → is_in m (dropped x ys) ≡ true) → is_in m (y ∷ ys) ≡ true → is_in m (dropped x (y ∷ ys)) ≡ true
in_dropped_more x y m ys d h i = grind (arith, nat_tests)

in_dropped : (x m : ℕ) (ys : List ℕ) → nat_eq x m ≡ false → is_in m ys ≡ true → is_in m (dropped x ys) ≡ true
in_dropped x m [] d i = i
in_dropped x m (y ∷ ys) d i = in_dropped_more x y m ys d (in_dropped x m ys d) i

pub few : (xs ys : List ℕ) → AreApart xs → Within xs ys → length xs ≤ length ys
few [] ys a h = omega arith
few (x ∷ xs) ys a h =
    let l = drop_less x ys (h x (in_self x xs)) in
    let m = few xs (dropped x ys) a.1 (λ m i. in_dropped x m ys (false_by (nat_eq x m) (λ e. both_ways (is_in x xs) (subst (λ (y : ℕ). is_in y xs ≡ true) (same_number x m e) i) a.0)) (h m (in_right m (x ∷ []) xs i))) in
    omega (arith, l, m)

-- live nodes are numbers of nodes
number_more : (m : ℕ) (e : Entry) (es : List Entry) → (is_live m es ≡ true → is_in m (numbers es) ≡ true) → is_live m (e ∷ es) ≡ true → is_in m (numbers (e ∷ es)) ≡ true
number_more m e es h i = grind (arith, nat_tests)

pub live_number : (m : ℕ) (es : List Entry) → is_live m es ≡ true → is_in m (numbers es) ≡ true
live_number m [] i = absurd (false≢true i)
live_number m (e ∷ es) i = number_more m e es (live_number m es) i

length_numbers : (es : List Entry) → length (numbers es) ≡ length es
length_numbers [] = refl
length_numbers (e ∷ es) = let h = length_numbers es in omega (arith, h)

-- no more live nodes stand apart than there are nodes
pub few_live : (nodes : List Entry) (xs : List ℕ) → AreApart xs → ((m : ℕ) → is_in m xs ≡ true → is_live m nodes ≡ true) → length xs ≤ length nodes
few_live nodes xs a h = let l = length_numbers nodes in let f = few xs (numbers nodes) a (λ m i. live_number m nodes (h m i)) in omega (arith, l, f)

-- the path: closed upwards; its hubs are kept by the guard, or lost their branches
pub record Open (guard : Guard) (w : World) (way done path : List ℕ) : Type 0 where
  pub up : (x q : ℕ) → is_in x path ≡ true → owns q x w.nodes ≡ true → is_in q path ≡ true
  pub lost : (h : ℕ) → is_in h path ≡ true → is_unnamed_hub (form_at h w.nodes) ≡ true → ((b : ℕ) → form_at b w.nodes ≡ Some (Branch h) → (is_in b path || is_in b done) ≡ true) ⊎ ((gone : List ℕ) → AreDisjoint gone path → is_guarded guard h (without_all gone w) ≡ true)
  pub way_in : Within way path
  pub apart : AreApart path
  pub live : (m : ℕ) → is_in m path ≡ true → is_live m w.nodes ≡ true
  pub off : AreDisjoint done path

-- a node that isn't on the path, and whose owner is
pub record Comes (guard : Guard) (w : World) (done path : List ℕ) (n : ℕ) : Type 0 where
  pub off : is_in n path ≡ false
  pub up : (q : ℕ) → owns q n w.nodes ≡ true → is_in q path ≡ true
  pub lost : is_unnamed_hub (form_at n w.nodes) ≡ true → ((b : ℕ) → form_at b w.nodes ≡ Some (Branch n) → (is_in b path || is_in b done) ≡ true) ⊎ ((gone : List ℕ) → is_guarded guard n (without_all gone w) ≡ true)

-- these go: once each, off the path, live, with all that they own; and each of the targets goes or went
pub record Goes (w : World) (path done targets ns : List ℕ) : Type 0 where
  pub apart : AreApart ns
  pub new : AreDisjoint ns path
  pub fresh : AreDisjoint ns done
  pub live : (m : ℕ) → is_in m ns ≡ true → is_live m w.nodes ≡ true
  pub closed : (q p : ℕ) → is_in q ns ≡ true → owns q p w.nodes ≡ true → is_live p w.nodes ≡ true → is_in p (done ++ ns) ≡ true
  pub took : (m : ℕ) → is_in m targets ≡ true → is_live m w.nodes ≡ true → is_in m (done ++ ns) ≡ true

goes_none : (w : World) (path done targets : List ℕ) → ((m : ℕ) → is_in m targets ≡ true → is_live m w.nodes ≡ true → is_in m done ≡ true) → Goes w path done targets []
goes_none w path done targets took = record { apart = tt; new = λ m i. absurd (in_none m i); fresh = λ m i. absurd (in_none m i); live = λ m i. absurd (in_none m i); closed = λ q p i. absurd (in_none q i); took = λ m i l. in_left m done [] (took m i l) }

goes_both : (w : World) (path done ts us xs ys : List ℕ) → Goes w path done ts xs → Goes w path (done ++ xs) us ys → Goes w path done (ts ++ us) (xs ++ ys)
goes_both w path done ts us xs ys f g = record {
  apart = apart_join xs ys f.apart g.apart (λ m i. (out_parts m done xs (g.fresh m i)).1);
  new = λ m i. elim (in_either m xs ys i) [ inl a ↦ f.new m a | inr b ↦ g.new m b ];
  fresh = λ m i. elim (in_either m xs ys i) [ inl a ↦ f.fresh m a | inr b ↦ (out_parts m done xs (g.fresh m b)).0 ];
  live = λ m i. elim (in_either m xs ys i) [ inl a ↦ f.live m a | inr b ↦ g.live m b ];
  closed = λ q p i o l. subst (λ (zs : List ℕ). is_in p zs ≡ true) (append_assoc done xs ys) (elim (in_either q xs ys i) [ inl a ↦ in_left p (done ++ xs) ys (f.closed q p a o l) | inr b ↦ g.closed q p b o l ]);
  took = λ m i l. subst (λ (zs : List ℕ). is_in m zs ≡ true) (append_assoc done xs ys) (elim (in_either m ts us i) [ inl a ↦ in_left m (done ++ xs) ys (f.took m a l) | inr b ↦ g.took m b l ]);
}

-- more nodes went
open_more : (guard : Guard) (w : World) (way done path ns : List ℕ) → AreDisjoint ns path → Open guard w way done path → Open guard w way (done ++ ns) path
open_more guard w way done path ns new o = record {
  up = o.up;
  lost = λ h i u. elim (o.lost h i u) [ inl f ↦ inl (λ b at. or_more (is_in b path) (is_in b done) (is_in b (done ++ ns)) (in_left b done ns) (f b at)) | inr g ↦ inr g ];
  way_in = o.way_in;
  apart = o.apart;
  live = o.live;
  off = λ m i. elim (in_either m done ns i) [ inl a ↦ o.off m a | inr b ↦ new m b ];
}

abbrev pub GoesWhole : Guard → World → ℕ → Type 0
GoesWhole guard w k = (way done path : List ℕ) (n : ℕ) → Open guard w way done path → (is_live n w.nodes ≡ true → Comes guard w done path n) → length w.nodes < k + length path → Goes w path done (n ∷ []) (falling guard w k way done n)

-- a path with a node more
on_path : (n b : ℕ) (path done : List ℕ) → (is_in b path || is_in b done) ≡ true → (is_in b (n ∷ path) || is_in b done) ≡ true
on_path n b path done h = either_more (n == b) (is_in b path) (is_in b done) h
  where
    either_more : (a b c : Bool) → (b || c) ≡ true → ((a || b) || c) ≡ true
    either_more true b c h = refl
    either_more false b c h = h

less_disjoint : (n : ℕ) (gone path : List ℕ) → AreDisjoint gone (n ∷ path) → AreDisjoint gone path
less_disjoint n gone path d m i = (or_parts (n == m) (is_in m path) (d m i)).1

pub open_path : (guard : Guard) (w : World) (way done path : List ℕ) (n : ℕ) → Open guard w way done path → Comes guard w done path n → is_live n w.nodes ≡ true → is_in n done ≡ false → Open guard w way done (n ∷ path)
open_path guard w way done path n o c live fresh = record {
  up = λ x q i own. elim (in_either x (n ∷ []) path i) [
    | inl a ↦ in_right q (n ∷ []) path (c.up q (subst (λ (y : ℕ). owns q y w.nodes ≡ true) (sym (in_one x n a)) own))
    | inr b ↦ in_right q (n ∷ []) path (o.up x q b own)
  ];
  lost = λ h i u. elim (in_either h (n ∷ []) path i) [
    | inl a ↦ elim (c.lost (subst (λ (y : ℕ). is_unnamed_hub (form_at y w.nodes) ≡ true) (sym (in_one h n a)) u)) [
      | inl f ↦ inl (λ b at. on_path n b path done (f b (subst (λ (y : ℕ). form_at b w.nodes ≡ Some (Branch y)) (sym (in_one h n a)) at)))
      | inr g ↦ inr (λ gone d. subst (λ (y : ℕ). is_guarded guard y (without_all gone w) ≡ true) (in_one h n a) (g gone))
    ]
    | inr b ↦ elim (o.lost h b u) [ inl f ↦ inl (λ b at. on_path n b path done (f b at)) | inr g ↦ inr (λ gone d. g gone (less_disjoint n gone path d)) ]
  ];
  way_in = λ m i. in_right m (n ∷ []) path (o.way_in m i);
  apart = (c.off, o.apart);
  live = λ m i. elim (in_either m (n ∷ []) path i) [ inl a ↦ subst (λ (y : ℕ). is_live y w.nodes ≡ true) (in_one m n a) live | inr b ↦ o.live m b ];
  off = λ m i. or_false (n == m) (is_in m path) (false_by (n == m) (λ e. both_ways (is_in n done) (subst (λ (y : ℕ). is_in y done ≡ true) (same_number n m e) i) fresh)) (o.off m i);
}

-- the parts of a live node
parts_at_form : (n p : ℕ) (nodes : List Entry) (form : Form) → form_at n nodes ≡ Some form → is_in p (parts_of form) ≡ true → owns n p nodes ≡ true
parts_at_form n p nodes form at i = ap (λ (o : Option Form). is_in p (parts_found o)) at ∙ i

form_parts_at : (n p : ℕ) (nodes : List Entry) (form : Form) → form_at n nodes ≡ Some form → owns n p nodes ≡ true → is_in p (parts_of form) ≡ true
form_parts_at n p nodes form at i = sym (ap (λ (o : Option Form). is_in p (parts_found o)) at) ∙ i

unnamed_is_hub : (o : Option Form) → is_unnamed_hub o ≡ true → is_hub_form o ≡ true
unnamed_is_hub None u = absurd (false≢true u)
unnamed_is_hub (Some (Hub content false branches)) u = refl
unnamed_is_hub (Some (Hub content true branches)) u = refl
unnamed_is_hub (Some _) u = absurd (false≢true u)

pub part_comes : (guard : Guard) (w : World) (done path : List ℕ) (n p : ℕ) → OnePlace w.nodes → ((x q : ℕ) → is_in x path ≡ true → owns q x w.nodes ≡ true → is_in q path ≡ true) → is_in n path ≡ false → ((q : ℕ) → owns q n w.nodes ≡ true → is_in q path ≡ true) → owns n p w.nodes ≡ true → is_live p w.nodes ≡ true → Comes guard w done (n ∷ path) p
part_comes guard w done path n p one up off above own live = record {
  off = false_by (is_in p (n ∷ path)) (λ i. elim (in_either p (n ∷ []) path i) [
    | inl a ↦ both_ways (is_in n path) (above n (subst (λ (y : ℕ). owns n y w.nodes ≡ true) (sym (in_one p n a)) own)) off
    | inr b ↦ both_ways (is_in n path) (up p n b own) off
  ]);
  up = λ q own2. subst (λ (y : ℕ). is_in y (n ∷ path) ≡ true) (one.one p n q live own own2) (in_self n path);
  lost = λ u. absurd (both_ways (owns n p w.nodes) own (one.hubs p n (unnamed_is_hub (form_at p w.nodes) u)));
}

each_goes : (guard : Guard) (w : World) (k : ℕ) (way done path : List ℕ) (n : ℕ) (ps : List ℕ) → GoesWhole guard w k → OnePlace w.nodes → Open guard w way done (n ∷ path) → ((x q : ℕ) → is_in x path ≡ true → owns q x w.nodes ≡ true → is_in q path ≡ true) → is_in n path ≡ false → ((q : ℕ) → owns q n w.nodes ≡ true → is_in q path ≡ true) → length w.nodes < k + length (n ∷ path) → ((p : ℕ) → is_in p ps ≡ true → owns n p w.nodes ≡ true)
    → Goes w (n ∷ path) done ps (each_falling (falling guard w k way) done ps)
each_goes guard w k way done path n [] goes one o up off above fuel own = goes_none w (n ∷ path) done [] (λ m i l. absurd (in_none m i))
each_goes guard w k way done path n (p ∷ ps) goes one o up off above fuel own =
    let first = falling guard w k way done p in
    let f = goes way done (n ∷ path) p o (λ live. part_comes guard w done path n p one up off above (own p (in_self p ps)) live) fuel in
    goes_both w (n ∷ path) done (p ∷ []) ps first (each_falling (falling guard w k way) (done ++ first) ps) f
    (each_goes guard w k way (done ++ first) path n ps goes one (open_more guard w way done (n ∷ path) first f.new o) up off above fuel (λ q i. own q (in_right q (p ∷ []) ps i)))

-- a hub whose last branch is this node
hub_comes : (guard : Guard) (w : World) (way done path : List ℕ) (n hub : ℕ) (content : Content) → OnePlace w.nodes → Open guard w way done path → is_in n path ≡ false → is_in n done ≡ false → form_at n w.nodes ≡ Some (Branch hub) → form_then (n ∷ way) done hub w.nodes ≡ Some (Hub content false []) → is_guarded guard hub (without_all done w) ≡ false → Comes guard w done (n ∷ path) hub
hub_comes guard w way done path n hub content one o off fresh at is free =
    let u = hub_unnamed (λ b. is_in b (n ∷ way) || is_in b done) hub w.nodes (is_in hub done) (form_at hub w.nodes) content is in
    record {
      off = or_false (n == hub) (is_in hub path) (false_by (n == hub) (λ e. no_hub hub n w.nodes at u (sym (same_number n hub e)))) (false_by (is_in hub path) (λ i. elim (o.lost hub i u) [
        | inl f ↦ both_ways (is_in n path || is_in n done) (f n at) (or_false (is_in n path) (is_in n done) off fresh)
        | inr g ↦ both_ways (is_guarded guard hub (without_all done w)) (g done o.off) free
      ]));
      up = λ q own. absurd (both_ways (owns q hub w.nodes) own (one.hubs hub q (unnamed_is_hub (form_at hub w.nodes) u)));
      lost = λ v. inl (λ b b_at. widened (n ∷ way) (n ∷ path) done b (way_more n way path o.way_in) (hub_lost (λ b. is_in b (n ∷ way) || is_in b done) hub b w.nodes (is_in hub done) (form_at hub w.nodes) content (λ d bs e. one.listed b hub d bs b_at e) (ap (is_branch_of hub) b_at ∙ self hub) is));
    }

no_targets : (w : World) (path done ts ns : List ℕ) → Goes w path done ts ns → Goes w path done [] ns
no_targets w path done ts ns g = record { apart = g.apart; new = g.new; fresh = g.fresh; live = g.live; closed = g.closed; took = λ m i. absurd (in_none m i) }

on_way : (guard : Guard) (w : World) (way done path : List ℕ) (n : ℕ) → Within way path → Open guard w way done (n ∷ path) → Open guard w (n ∷ way) done (n ∷ path)
on_way guard w way done path n h o = record { up = o.up; lost = o.lost; way_in = way_more n way path h; apart = o.apart; live = o.live; off = o.off }

kept_goes : (guard : Guard) (w : World) (k : ℕ) (way done path : List ℕ) (hub : ℕ) (b : Bool) → GoesWhole guard w k → Open guard w way done path → (b ≡ false → Comes guard w done path hub) → length w.nodes < k + length path → Goes w path done [] (unless_kept b (falling guard w k way done) hub)
kept_goes guard w k way done path hub true goes o c fuel = goes_none w path done [] (λ m i l. absurd (in_none m i))
kept_goes guard w k way done path hub false goes o c fuel = no_targets w path done (hub ∷ []) (falling guard w k way done hub) (goes way done path hub o (λ live. c refl) fuel)

hub_goes : (guard : Guard) (w : World) (k : ℕ) (way done path : List ℕ) (hub : ℕ) (form : Option Form) → GoesWhole guard w k → Open guard w way done path → ((content : Content) → form ≡ Some (Hub content false []) → is_guarded guard hub (without_all done w) ≡ false → Comes guard w done path hub) → length w.nodes < k + length path → Goes w path done [] (hub_falling guard w (falling guard w k way done) done hub form)
hub_goes guard w k way done path hub (Some (Hub content false [])) goes o c fuel = kept_goes guard w k way done path hub (is_guarded guard hub (without_all done w)) goes o (c content refl) fuel
hub_goes guard w k way done path hub (Some (Hub content false (b ∷ bs))) goes o c fuel = goes_none w path done [] (λ m i l. absurd (in_none m i))
hub_goes guard w k way done path hub (Some (Hub content true bs)) goes o c fuel = goes_none w path done [] (λ m i l. absurd (in_none m i))
hub_goes guard w k way done path hub None goes o c fuel = goes_none w path done [] (λ m i l. absurd (in_none m i))
hub_goes guard w k way done path hub (Some _) goes o c fuel = goes_none w path done [] (λ m i l. absurd (in_none m i))

reference_goes : (guard : Guard) (w : World) (k : ℕ) (way done path : List ℕ) (n : ℕ) (form : Form) → GoesWhole guard w k → OnePlace w.nodes → Open guard w way done path → Open guard w way done (n ∷ path) → is_in n path ≡ false → is_in n done ≡ false → form_at n w.nodes ≡ Some form → length w.nodes < k + length (n ∷ path) → Goes w (n ∷ path) done [] (reference_falling guard w (falling guard w k) way done n form)
reference_goes guard w k way done path n (Branch hub) goes one o p off fresh at fuel =
    hub_goes guard w k (n ∷ way) done (n ∷ path) hub (form_then (n ∷ way) done hub w.nodes) goes (on_way guard w way done path n o.way_in p) (λ content is free. hub_comes guard w way done path n hub content one o off fresh at is free) fuel
reference_goes guard w k way done path n _ goes one o p off fresh at fuel = goes_none w (n ∷ path) done [] (λ m i l. absurd (in_none m i))

-- the node itself goes last
goes_last : (w : World) (path done ns : List ℕ) (n : ℕ) (form : Form) → form_at n w.nodes ≡ Some form → is_live n w.nodes ≡ true → Goes w (n ∷ path) done (parts_of form ++ []) ns → is_in n path ≡ false → is_in n done ≡ false → Goes w path done (n ∷ []) (ns ++ n ∷ [])
goes_last w path done ns n form at live g off fresh =
    let away : is_in n ns ≡ false = false_by (is_in n ns) (λ i. both_ways (is_in n (n ∷ path)) (in_self n path) (g.new n i)) in
    record {
      apart = apart_join ns (n ∷ []) g.apart (refl, tt) (λ m i. subst (λ (y : ℕ). is_in y ns ≡ false) (in_one m n i) away);
      new = λ m i. elim (in_either m ns (n ∷ []) i) [ inl a ↦ (or_parts (n == m) (is_in m path) (g.new m a)).1 | inr b ↦ subst (λ (y : ℕ). is_in y path ≡ false) (in_one m n b) off ];
      fresh = λ m i. elim (in_either m ns (n ∷ []) i) [ inl a ↦ g.fresh m a | inr b ↦ subst (λ (y : ℕ). is_in y done ≡ false) (in_one m n b) fresh ];
      live = λ m i. elim (in_either m ns (n ∷ []) i) [ inl a ↦ g.live m a | inr b ↦ subst (λ (y : ℕ). is_live y w.nodes ≡ true) (in_one m n b) live ];
      closed = λ q p i own l. subst (λ (zs : List ℕ). is_in p zs ≡ true) (append_assoc done ns (n ∷ [])) (in_left p (done ++ ns) (n ∷ []) (elim (in_either q ns (n ∷ []) i) [
        | inl a ↦ g.closed q p a own l
        | inr b ↦ g.took p (in_left p (parts_of form) [] (form_parts_at n p w.nodes form at (subst (λ (y : ℕ). owns y p w.nodes ≡ true) (sym (in_one q n b)) own))) l
      ]));
      took = λ m i l. in_right m done (ns ++ n ∷ []) (in_right m ns (n ∷ []) i);
    }

form_live : (n : ℕ) (nodes : List Entry) (form : Form) → form_at n nodes ≡ Some form → is_live n nodes ≡ true
form_live n nodes form at = ap is_some at

went : (b : Bool) (o : Option Form) → none_if b o ≡ None → is_some o ≡ true → b ≡ true
went true o e l = refl
went false o e l = absurd (both_ways (is_some o) l (ap is_some e))

form_goes : (guard : Guard) (w : World) (k : ℕ) (way done path : List ℕ) (n : ℕ) (o : Option Form) → GoesWhole guard w k → OnePlace w.nodes → none_if (is_in n done) (form_at n w.nodes) ≡ o → Open guard w way done path → (is_live n w.nodes ≡ true → Comes guard w done path n) → length w.nodes < k + length (n ∷ path) → Goes w path done (n ∷ []) (form_falling guard w (falling guard w k) way done n o)
form_goes guard w k way done path n None goes one is o c fuel = goes_none w path done (n ∷ []) (λ m i l. let same = in_one m n i in subst (λ (y : ℕ). is_in y done ≡ true) same (went (is_in n done) (form_at n w.nodes) is (subst (λ (y : ℕ). is_live y w.nodes ≡ true) (sym same) l)))
form_goes guard w k way done path n (Some form) goes one is o c fuel =
    let at = some_if (is_in n done) (form_at n w.nodes) form is in
    let fresh = none_in (is_in n done) (form_at n w.nodes) form is in
    let live = form_live n w.nodes form at in
    let come = c live in
    let p = open_path guard w way done path n o come live fresh in
    let below = each_falling (falling guard w k way) done (parts_of form) in
    let ref = reference_falling guard w (falling guard w k) way (done ++ below) n form in
    let f = each_goes guard w k way done path n (parts_of form) goes one p o.up come.off come.up fuel (λ q i. parts_at_form n q w.nodes form at i) in
    let away : is_in n below ≡ false = false_by (is_in n below) (λ i. both_ways (is_in n (n ∷ path)) (in_self n path) (f.new n i)) in
    let less : AreDisjoint below path = λ m i. (or_parts (n == m) (is_in m path) (f.new m i)).1 in
    let g = reference_goes guard w k way (done ++ below) path n form goes one (open_more guard w way done path below less o) (open_more guard w way done (n ∷ path) below f.new p) come.off (out_both n done below fresh away) at fuel in
    subst (Goes w path done (n ∷ [])) (append_assoc below ref (n ∷ [])) (goes_last w path done (below ++ ref) n form at live (goes_both w (n ∷ path) done (parts_of form) [] below ref f g) come.off fresh)

no_fuel : (a b : ℕ) → a < 0 + b → b ≤ a → ⊥
no_fuel a b h l = omega (arith, h, l)

less_fuel : (a k b : ℕ) (xs : List ℕ) (n : ℕ) → a < suc k + length xs → a < k + length (n ∷ xs)
less_fuel a k b xs n h = omega (arith, h)

pub node_goes : (guard : Guard) (w : World) (k : ℕ) → OnePlace w.nodes → GoesWhole guard w k
unfolding falling
node_goes guard w zero one way done path n o c fuel = absurd (no_fuel (length w.nodes) (length path) fuel (few_live w.nodes path o.apart o.live))
node_goes guard w (suc k) one way done path n o c fuel = form_goes guard w k way done path n (none_if (is_in n done) (form_at n w.nodes)) (node_goes guard w k one) one refl o c (less_fuel (length w.nodes) k 0 path n fuel)
