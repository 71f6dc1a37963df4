-- Moves that place nothing: names, lists, the queue, and a form in place of another.
use Rattle.std.proofs.Common.{◌≡◌, ℕ, ◌+◌, ◌≤◌, List, [], ◌∷◌, ◌++◌, Bool, true, false, cond, Option, None, Some, arith, refl, sym, ap, ◌∙◌, subst, ◌==◌}
use Rattle.std.specs.Prelude.{nat_eq, is_some}
use Rattle.std.proofs.lemmas.Bool.{false≢true}
use Rattle.std.proofs.lemmas.Bool.Decides.{nat_tests}
use Rattle.kj_base.specs.Queue.{Way}
use Rattle.kj_model.specs.Nodes.{Entry, Form, form_at, parts_of, parts_found, is_in, with_form}
use Rattle.kj_model.specs.World.{World, Named, Held, Awaited, held_at}
use Rattle.kj_model.specs.Changes.{put, named, unnamed, with_new, without_name}
use Rattle.kj_model.specs.Listening.{announced, listened}
use Rattle.kj_model.specs.Owned.{held_roots, name_roots, awaited_roots, tree_roots}
use Rattle.kj_model.specs.Framed.{times, held_total, name_numbers, NamesApart}
use Rattle.kj_model.proofs.Spared.{same_number, form_put_same, form_put_other}
use Rattle.kj_model.proofs.Counts.{times_app, new_names, new_held, without_times, held_split}
use Rattle.kj_ownership.specs.Owners.{is_live, owns, is_hub_form}
use Rattle.kj_ownership.specs.Standing.{one_if}
use Rattle.kj_ownership.proofs.Stays.{name_roots_total, roots_app}
use Rattle.kj_ownership.proofs.Reached.{QueueOnly, announced_only, listened_only}
use Rattle.kj_paths.proofs.Laid.{Laid, laid_shrinks, laid_roots}

-- the queue
queue_laid : (loose : List ℕ) (w v : World) → QueueOnly w v → Laid loose w → Laid loose v
queue_laid loose w v o g = subst (Laid loose) (sym o.same) (laid_roots loose loose w (record w { queue = o.queue }) refl refl refl refl (λ a. a) (λ a m. omega arith) g)

pub announced_laid : (way : Way) (n : ℕ) (loose : List ℕ) (w : World) → Laid loose w → Laid loose (announced way n w)
announced_laid way n loose w g = queue_laid loose w (announced way n w) (announced_only way n w) g

pub listened_laid : (n : ℕ) (loose : List ℕ) (w : World) → Laid loose w → Laid loose (listened n w)
listened_laid n loose w g = queue_laid loose w (listened n w) (listened_only n w) g

-- roots of another map of names
roots_names : (m : ℕ) (names : List Named) (w : World) → times m (tree_roots (record w { names = names })) + times m (name_roots w.names) ≡ times m (tree_roots w) + times m (name_roots names)
roots_names m names w =
    let a = roots_app m (name_roots names) (awaited_roots w.awaited) w.left_over w.detached in
    let b = roots_app m (name_roots w.names) (awaited_roots w.awaited) w.left_over w.detached in
    omega (arith, a, b)

pub names_laid : (l1 l2 : List ℕ) (names : List Named) (w : World) → (NamesApart w.names → NamesApart names) → (NamesApart w.names → (m : ℕ) → times m l2 + times m (name_roots names) ≤ times m l1 + times m (name_roots w.names)) → Laid l1 w → Laid l2 (record w { names = names })
names_laid l1 l2 names w apart roots g = laid_roots l1 l2 w (record w { names = names }) refl refl refl refl apart (λ a m. let r = roots a m in let b = roots_names m names w in omega (arith, r, b)) g

-- names that are left are apart, and have no more roots
pub left_apart : (name : ℕ) (names : List Named) → NamesApart names → NamesApart (without_name name names)
left_apart name names a c = let t = without_times c name names in let b = a c in less (name == c) (times c (name_numbers (without_name name names))) (times c (name_numbers names)) t b
  where
    less : (b : Bool) (a t : ℕ) → a ≡ cond b 0 t → t ≤ 1 → a ≤ 1
    less true a t e h = omega (arith, e)
    less false a t e h = omega (arith, e, h)

new_apart : (name : ℕ) (held : Held) (names : List Named) → NamesApart names → NamesApart (with_new (record { name = name; held = held }) (without_name name names))
new_apart name held names a c =
    let x : Named = record { name = name; held = held } in
    let t = without_times c name names in
    let n = new_names c x (without_name name names) in
    let b = a c in
    less (name == c) (times c (name_numbers (with_new x (without_name name names)))) (times c (name_numbers (without_name name names))) (times c (name_numbers names)) n t b
  where
    less : (b : Bool) (r a t : ℕ) → r ≡ cond b 1 0 + a → a ≡ cond b 0 t → t ≤ 1 → r ≤ 1
    less true r a t n e h = omega (arith, n, e)
    less false r a t n e h = omega (arith, n, e, h)

held_less : (f : Held → ℕ) (d : ℕ) (names : List Named) → held_total f (without_name d names) ≤ held_total f names
held_less f d [] = omega arith
held_less f d (x ∷ xs) = more (held_less f d xs)
  where
    more : held_total f (without_name d xs) ≤ held_total f xs → held_total f (without_name d (x ∷ xs)) ≤ held_total f (x ∷ xs)
    more h = grind (arith, nat_tests)

-- a name comes, or holds something else
pub named_laid : (name : ℕ) (held : Held) (loose : List ℕ) (w : World) → Laid (held_roots held ++ loose) w → Laid loose (named name held w)
named_laid name held loose w g =
    let x : Named = record { name = name; held = held } in
    let names = with_new x (without_name name w.names) in
    names_laid (held_roots held ++ loose) loose names w (new_apart name held w.names)
    (λ a m.
    let b = name_roots_total m names in
    let c = new_held (λ (y : Held). times m (held_roots y)) x (without_name name w.names) in
    let d = held_less (λ (y : Held). times m (held_roots y)) name w.names in
    let e = name_roots_total m w.names in
    let f = times_app m (held_roots held) loose in
    omega (arith, b, c, d, e, f)) g

-- the same, where what it held stands no more
pub renamed_laid : (name : ℕ) (old held : Held) (l1 l2 : List ℕ) (w : World) → held_at name w.names ≡ Some old → ((m : ℕ) → times m (held_roots held) + times m l2 ≤ times m (held_roots old) + times m l1) → Laid l1 w → Laid l2 (named name held w)
renamed_laid name old held l1 l2 w at less g =
    let x : Named = record { name = name; held = held } in
    let names = with_new x (without_name name w.names) in
    names_laid l1 l2 names w (new_apart name held w.names)
    (λ a m.
    let b = name_roots_total m names in
    let c = new_held (λ (y : Held). times m (held_roots y)) x (without_name name w.names) in
    let d = held_split (λ (y : Held). times m (held_roots y)) name w.names old at a in
    let e = name_roots_total m w.names in
    let f = less m in
    omega (arith, b, c, d, e, f)) g

-- a name goes
pub unnamed_laid : (name : ℕ) (held : Held) (loose : List ℕ) (w : World) → held_at name w.names ≡ Some held → Laid loose w → Laid (held_roots held ++ loose) (unnamed name w)
unnamed_laid name held loose w at g = names_laid loose (held_roots held ++ loose) (without_name name w.names) w (left_apart name w.names)
    (λ a m.
    let b = name_roots_total m (without_name name w.names) in
    let d = held_split (λ (y : Held). times m (held_roots y)) name w.names held at a in
    let e = name_roots_total m w.names in
    let f = times_app m (held_roots held) loose in
    omega (arith, b, d, e, f)) g

pub unnamed_lost : (name : ℕ) (loose : List ℕ) (w : World) → Laid loose w → Laid loose (unnamed name w)
unnamed_lost name loose w g = names_laid loose loose (without_name name w.names) w (left_apart name w.names)
    (λ a m.
    let b = name_roots_total m (without_name name w.names) in
    let d = held_less (λ (y : Held). times m (held_roots y)) name w.names in
    let e = name_roots_total m w.names in
    omega (arith, b, d, e)) g

-- other roots than those of names
pub others_laid : (l1 l2 : List ℕ) (awaited : Option Awaited) (left_over detached : List ℕ) (w : World) → ((m : ℕ) → times m l2 + (times m (awaited_roots awaited) + (times m left_over + times m detached)) ≤ times m l1 + (times m (awaited_roots w.awaited) + (times m w.left_over + times m w.detached))) → Laid l1 w → Laid l2 (record w { awaited = awaited; left_over = left_over; detached = detached })
others_laid l1 l2 awaited left_over detached w h g = laid_roots l1 l2 w (record w { awaited = awaited; left_over = left_over; detached = detached }) refl refl refl refl (λ a. a)
    (λ a m.
    let b = roots_app m (name_roots w.names) (awaited_roots awaited) left_over detached in
    let c = roots_app m (name_roots w.names) (awaited_roots w.awaited) w.left_over w.detached in
    let d = h m in
    omega (arith, b, c, d)) g

-- a form in place of one that owns as much
pub record Lessens (form old : Form) : Type 0 where
  pub parts : (p : ℕ) → is_in p (parts_of form) ≡ true → is_in p (parts_of old) ≡ true
  pub hub : one_if (is_hub_form (Some form)) ≤ one_if (is_hub_form (Some old))

put_none : (n : ℕ) (form : Form) (es : List Entry) → form_at n es ≡ None → form_at n (with_form n form es) ≡ None
put_none n form [] h = refl
put_none n form (e ∷ es) h = more (put_none n form es) h
  where
    more : (form_at n es ≡ None → form_at n (with_form n form es) ≡ None) → form_at n (e ∷ es) ≡ None → form_at n (with_form n form (e ∷ es)) ≡ None
    more ih h = grind (arith, nat_tests)

pub put_laid : (n : ℕ) (form : Form) (loose : List ℕ) (w : World) → ((old : Form) → form_at n w.nodes ≡ Some old → Lessens form old) → Laid loose w → Laid loose (put n form w)
put_laid n form loose w less g = laid_shrinks loose loose w (put n form w) (record {
  names = λ a. a;
  stands = λ a m. (let h = hubs m (nat_eq n m) refl in omega (arith, h));
  owners = λ q m o. owners q m (nat_eq n q) refl o;
  owner_spot = λ q m o. refl;
  live = λ m l. live m (nat_eq n m) refl l;
  spots = λ m x at. at;
  apart = λ a. a;
  next = refl;
  next_key = refl;
}) g
  where
    hub_at : (o : Option Form) → form_at n w.nodes ≡ o → one_if (is_hub_form (form_at n (put n form w).nodes)) ≤ one_if (is_hub_form (form_at n w.nodes))
    hub_at None at = let h : one_if (is_hub_form (form_at n (put n form w).nodes)) ≡ 0 = ap (λ (o : Option Form). one_if (is_hub_form o)) (put_none n form w.nodes at) in omega (arith, h)
    hub_at (Some old) at =
        let h : one_if (is_hub_form (form_at n (put n form w).nodes)) ≡ one_if (is_hub_form (Some form)) = ap (λ (o : Option Form). one_if (is_hub_form o)) (form_put_same n form old w.nodes at) in
        let k : one_if (is_hub_form (form_at n w.nodes)) ≡ one_if (is_hub_form (Some old)) = ap (λ (o : Option Form). one_if (is_hub_form o)) at in
        let l = (less old at).hub in
        omega (arith, h, k, l)

    hubs : (m : ℕ) (b : Bool) → nat_eq n m ≡ b → one_if (is_hub_form (form_at m (put n form w).nodes)) ≤ one_if (is_hub_form (form_at m w.nodes))
    hubs m true e = subst (λ (k : ℕ). one_if (is_hub_form (form_at k (put n form w).nodes)) ≤ one_if (is_hub_form (form_at k w.nodes))) (sym (same_number n m e)) (hub_at (form_at n w.nodes) refl)
    hubs m false e = let h : one_if (is_hub_form (form_at m (put n form w).nodes)) ≡ one_if (is_hub_form (form_at m w.nodes)) = ap (λ (o : Option Form). one_if (is_hub_form o)) (form_put_other n m form w.nodes e) in omega (arith, h)

    owner_at : (m : ℕ) (o : Option Form) → form_at n w.nodes ≡ o → owns n m (put n form w).nodes ≡ true → owns n m w.nodes ≡ true
    owner_at m None at o = absurd (false≢true (sym (ap (λ (a : Option Form). is_in m (parts_found a)) (put_none n form w.nodes at)) ∙ o))
    owner_at m (Some old) at o = ap (λ (a : Option Form). is_in m (parts_found a)) at ∙ (less old at).parts m (sym (ap (λ (a : Option Form). is_in m (parts_found a)) (form_put_same n form old w.nodes at)) ∙ o)

    owners : (q m : ℕ) (b : Bool) → nat_eq n q ≡ b → owns q m (put n form w).nodes ≡ true → owns q m w.nodes ≡ true
    owners q m true e o = subst (λ (k : ℕ). owns k m w.nodes ≡ true) (sym (same_number n q e)) (owner_at m (form_at n w.nodes) refl (subst (λ (k : ℕ). owns k m (put n form w).nodes ≡ true) (same_number n q e) o))
    owners q m false e o = sym (ap (λ (a : Option Form). is_in m (parts_found a)) (form_put_other n q form w.nodes e)) ∙ o

    live_at : (o : Option Form) → form_at n w.nodes ≡ o → is_live n (put n form w).nodes ≡ true → is_live n w.nodes ≡ true
    live_at None at l = absurd (false≢true (sym (ap is_some (put_none n form w.nodes at)) ∙ l))
    live_at (Some old) at l = ap is_some at

    live : (m : ℕ) (b : Bool) → nat_eq n m ≡ b → is_live m (put n form w).nodes ≡ true → is_live m w.nodes ≡ true
    live m true e l = subst (λ (k : ℕ). is_live k w.nodes ≡ true) (sym (same_number n m e)) (live_at (form_at n w.nodes) refl (subst (λ (k : ℕ). is_live k (put n form w).nodes ≡ true) (same_number n m e) l))
    live m false e l = sym (ap is_some (form_put_other n m form w.nodes e)) ∙ l

-- a form without parts that is no hub
pub bare_laid : (n : ℕ) (form : Form) (loose : List ℕ) (w : World) → parts_of form ≡ [] → is_hub_form (Some form) ≡ false → Laid loose w → Laid loose (put n form w)
bare_laid n form loose w none hub g = put_laid n form loose w (λ old at. record { parts = λ p i. absurd (false≢true (sym (ap (is_in p) none) ∙ i)); hub = (let h : one_if (is_hub_form (Some form)) ≡ 0 = ap one_if hub in omega (arith, h)) }) g
