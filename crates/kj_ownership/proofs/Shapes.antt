-- Forms that suit their places stay so over the moves of which commands are made.
use Rattle.std.proofs.Common.{◌≡◌, ℕ, ◌+◌, ◌≤◌, List, [], ◌∷◌, ◌++◌, Bool, true, false, cond, Option, None, Some, arith, refl, sym, ap, ◌∙◌, subst, ◌==◌}
use Rattle.std.specs.Prelude.{nat_eq, nat_lt, is_some}
use Rattle.std.proofs.lemmas.Bool.{false≢true}
use Rattle.std.proofs.lemmas.Bool.Decides.{nat_tests}
use Rattle.kj_base.specs.Places.{Spot}
use Rattle.kj_model.specs.Nodes.{Entry, Form, Race, Hub, form_at, parts_of, parts_at, parts_found, is_in, with_form}
use Rattle.kj_model.specs.World.{World, State, Named, Held, Canceler, held_at}
use Rattle.kj_model.specs.Changes.{put, named, unnamed, without_name, with_new}
use Rattle.kj_model.specs.Trees.{none_if}
use Rattle.kj_model.specs.Falling.{some_staying}
use Rattle.kj_model.specs.Framed.{times, FreedBy, name_numbers, stripped}
use Rattle.kj_model.specs.Owned.{held_roots, name_roots, awaited_roots, tree_roots, numbers}
use Rattle.kj_model.specs.Places.{built}
use Rattle.kj_ownership.proofs.Flat.{live_number}
use Rattle.kj_ownership.proofs.Stays.{in_times, at_least, owner_live, roots_app}
use Rattle.kj_ownership.proofs.Moves.{grown, built_grows, app_other, app_new, not_live}
use Rattle.kj_ownership.specs.Owners.{owns}
use Rattle.kj_ownership.specs.Standing.{Below, Standing, owned_times}
use Rattle.kj_ownership.specs.Stems.{HasWinners}
use Rattle.kj_ownership.specs.Shapes.{is_tree, is_link, is_side, is_task, is_request, is_ended, Kind, OfTree, OfLink, OfSide, OfTask, OfRequest, OfEnded, suits, part_kind, held_kind, roots_found, Shaped}
use Rattle.kj_model.proofs.Spared.{no_form, same_number, form_put_same, form_put_other}
use Rattle.kj_model.proofs.Members.{in_none, in_left, in_right}
use Rattle.kj_model.proofs.Once.{both_ways, false_by}
use Rattle.kj_model.proofs.Counts.{without_times, none_first, held_without}

-- from one world to another without new nodes: forms suit where they suited, and each place was one of the same kind
pub shaped_from : (w v : World) → ((p : ℕ) (k : Kind) → suits k (form_at p w.nodes) ≡ true → suits k (form_at p v.nodes) ≡ true)
    → ((q p : ℕ) → owns q p v.nodes ≡ true → (owns q p w.nodes ≡ true) × (part_kind (form_at q v.nodes) ≡ part_kind (form_at q w.nodes)))
    → ((c p : ℕ) → is_in p (roots_found (held_at c v.names)) ≡ true → (is_in p (roots_found (held_at c w.names)) ≡ true) × (held_kind c (held_at c v.names) ≡ held_kind c (held_at c w.names)))
    → ((p : ℕ) → is_in p (awaited_roots v.awaited) ≡ true → is_in p (awaited_roots w.awaited) ≡ true)
    → ((p : ℕ) → is_in p v.detached ≡ true → is_in p w.detached ≡ true)
    → ((p : ℕ) → is_some v.firing ≡ true → is_in p v.left_over ≡ true → (is_some w.firing ≡ true) × (is_in p w.left_over ≡ true))
    → HasWinners v.nodes → Shaped w → Shaped v
shaped_from w v forms parts names awaited detached left winners sh = record {
  winners = winners;
  parts = λ q p o. let r = parts q p o in subst (λ (k : Kind). suits k (form_at p v.nodes) ≡ true) (sym r.1) (forms p (part_kind (form_at q w.nodes)) (sh.parts q p r.0));
  names = λ c p i. let r = names c p i in subst (λ (k : Kind). suits k (form_at p v.nodes) ≡ true) (sym r.1) (forms p (held_kind c (held_at c w.names)) (sh.names c p r.0));
  awaited = λ p i. forms p OfTree (sh.awaited p (awaited p i));
  detached = λ p i. forms p OfTask (sh.detached p (detached p i));
  left_over = λ p f i. let r = left p f i in forms p OfEnded (sh.left_over p r.0 r.1);
}

-- the same nodes and places
pub shaped_names : (w v : World) → v.nodes ≡ w.nodes → ((c p : ℕ) → is_in p (roots_found (held_at c v.names)) ≡ true → suits (held_kind c (held_at c v.names)) (form_at p w.nodes) ≡ true) → v.awaited ≡ w.awaited → v.detached ≡ w.detached → v.left_over ≡ w.left_over → v.firing ≡ w.firing → Shaped w → Shaped v
shaped_names w v nodes names awaited detached left firing sh = record {
  winners = subst HasWinners (sym nodes) sh.winners;
  parts = λ q p o. subst (λ (es : List Entry). suits (part_kind (form_at q es)) (form_at p es) ≡ true) (sym nodes) (sh.parts q p (subst (λ (es : List Entry). owns q p es ≡ true) nodes o));
  names = λ c p i. subst (λ (es : List Entry). suits (held_kind c (held_at c v.names)) (form_at p es) ≡ true) (sym nodes) (names c p i);
  awaited = λ p i. subst (λ (es : List Entry). suits OfTree (form_at p es) ≡ true) (sym nodes) (sh.awaited p (ap (λ o. is_in p (awaited_roots o)) (sym awaited) ∙ i));
  detached = λ p i. subst (λ (es : List Entry). suits OfTask (form_at p es) ≡ true) (sym nodes) (sh.detached p (ap (is_in p) (sym detached) ∙ i));
  left_over = λ p f i. subst (λ (es : List Entry). suits OfEnded (form_at p es) ≡ true) (sym nodes) (sh.left_over p (ap is_some (sym firing) ∙ f) (ap (is_in p) (sym left) ∙ i));
}

-- what a name holds after a name came or went
pub held_unnamed : (c d : ℕ) (names : List Named) → held_at c (without_name d names) ≡ cond (d == c) None (held_at c names)
held_unnamed c d names = decide (nat_eq d c) refl
  where
    absent : (c : ℕ) (ys : List Named) → times c (name_numbers ys) ≡ 0 → held_at c ys ≡ None
    absent c [] z = refl
    absent c (y ∷ ys) z = let p = none_first c y ys z in step y ys p.0 (absent c ys p.1)
      where
        step : (y : Named) (ys : List Named) → nat_eq y.name c ≡ false → held_at c ys ≡ None → held_at c (y ∷ ys) ≡ None
        step y ys d h = grind (arith, nat_tests)

    decide : (b : Bool) → nat_eq d c ≡ b → held_at c (without_name d names) ≡ cond (d == c) None (held_at c names)
    decide true e = absent c (without_name d names) (without_times c d names ∙ ap (λ b. cond b 0 (times c (name_numbers names))) e) ∙ ap (λ b. cond b None (held_at c names)) (sym e)
    decide false e = held_without c d names e ∙ ap (λ b. cond b None (held_at c names)) (sym e)

new_more : (c : ℕ) (x y : Named) (b : Bool) (ys : List Named) → nat_lt x.name y.name ≡ b → (nat_eq x.name c ≡ true → nat_eq y.name c ≡ false) → held_at c (with_new x ys) ≡ cond (x.name == c) (Some x.held) (held_at c ys) → held_at c (with_new x (y ∷ ys)) ≡ cond (x.name == c) (Some x.held) (held_at c (y ∷ ys))
new_more c x y true ys e d h = here (nat_eq x.name c) refl
  where
    here : (b : Bool) → nat_eq x.name c ≡ b → held_at c (with_new x (y ∷ ys)) ≡ cond (x.name == c) (Some x.held) (held_at c (y ∷ ys))
    here true f = grind (arith, nat_tests)
    here false f = grind (arith, nat_tests)
new_more c x y false ys e d h = here (nat_eq x.name c) (nat_eq y.name c) refl refl
  where
    here : (b g : Bool) → nat_eq x.name c ≡ b → nat_eq y.name c ≡ g → held_at c (with_new x (y ∷ ys)) ≡ cond (x.name == c) (Some x.held) (held_at c (y ∷ ys))
    here true true f g = absurd (both_ways (nat_eq y.name c) g (d f))
    here true false f g = grind (arith, nat_tests)
    here false true f g = grind (arith, nat_tests)
    here false false f g = grind (arith, nat_tests)

held_new : (c : ℕ) (x : Named) (ys : List Named) → times x.name (name_numbers ys) ≡ 0 → held_at c (with_new x ys) ≡ cond (x.name == c) (Some x.held) (held_at c ys)
held_new c x [] z = single (nat_eq x.name c) refl
  where
    single : (b : Bool) → nat_eq x.name c ≡ b → held_at c (x ∷ []) ≡ cond (x.name == c) (Some x.held) None
    single true e = grind (arith, nat_tests)
    single false e = grind (arith, nat_tests)
held_new c x (y ∷ ys) z =
    let p = none_first x.name y ys z in
    new_more c x y (nat_lt x.name y.name) ys refl (λ e. subst (λ (m : ℕ). nat_eq y.name m ≡ false) (sym (same_number x.name c e)) p.0) (held_new c x ys p.1)

pub held_named : (c d : ℕ) (h : Held) (w : World) → held_at c (named d h w).names ≡ cond (d == c) (Some h) (held_at c w.names)
held_named c d h w =
    held_new c (record { name = d; held = h }) (without_name d w.names) (without_times d d w.names ∙ self (nat_eq d d) (times d (name_numbers w.names)) (same d))
    ∙ by_case (nat_eq d c) refl
  where
    same : (d : ℕ) → nat_eq d d ≡ true
    same d = grind (arith, nat_tests)

    self : (b : Bool) (t : ℕ) → b ≡ true → cond b 0 t ≡ 0
    self true t e = refl
    self false t e = absurd (false≢true e)

    by_case : (b : Bool) → nat_eq d c ≡ b → cond (d == c) (Some h) (held_at c (without_name d w.names)) ≡ cond (d == c) (Some h) (held_at c w.names)
    by_case true e = ap (λ b. cond b (Some h) (held_at c (without_name d w.names))) e ∙ ap (λ b. cond b (Some h) (held_at c w.names)) (sym e)
    by_case false e = ap (λ o. cond (d == c) (Some h) o) (held_without c d w.names e)

-- a name goes
pub shaped_unnamed : (name : ℕ) (w : World) → Shaped w → Shaped (unnamed name w)
shaped_unnamed name w sh = shaped_names w (unnamed name w) refl (λ c p i. by_case c p (nat_eq name c) refl i) refl refl refl refl sh
  where
    by_case : (c p : ℕ) (b : Bool) → nat_eq name c ≡ b → is_in p (roots_found (held_at c (without_name name w.names))) ≡ true → suits (held_kind c (held_at c (without_name name w.names))) (form_at p w.nodes) ≡ true
    by_case c p true e i = absurd (in_none p (sym (ap (λ o. is_in p (roots_found o)) (held_unnamed c name w.names ∙ ap (λ b. cond b None (held_at c w.names)) e)) ∙ i))
    by_case c p false e i =
        let same = held_unnamed c name w.names ∙ ap (λ b. cond b None (held_at c w.names)) e in
        subst (λ (o : Option Held). suits (held_kind c o) (form_at p w.nodes) ≡ true) (sym same) (sh.names c p (sym (ap (λ o. is_in p (roots_found o)) same) ∙ i))

-- a name comes, or holds something else
pub shaped_named : (name : ℕ) (held : Held) (w : World) → ((p : ℕ) → is_in p (held_roots held) ≡ true → suits (held_kind name (Some held)) (form_at p w.nodes) ≡ true) → Shaped w → Shaped (named name held w)
shaped_named name held w fit sh = shaped_names w (named name held w) refl (λ c p i. by_case c p (nat_eq name c) refl i) refl refl refl refl sh
  where
    by_case : (c p : ℕ) (b : Bool) → nat_eq name c ≡ b → is_in p (roots_found (held_at c (named name held w).names)) ≡ true → suits (held_kind c (held_at c (named name held w).names)) (form_at p w.nodes) ≡ true
    by_case c p true e i =
        let same = held_named c name held w ∙ ap (λ b. cond b (Some held) (held_at c w.names)) e in
        subst (λ (o : Option Held). suits (held_kind c o) (form_at p w.nodes) ≡ true) (sym same)
        (subst (λ (m : ℕ). suits (held_kind m (Some held)) (form_at p w.nodes) ≡ true) (sym (same_number name c e)) (fit p (sym (ap (λ o. is_in p (roots_found o)) same) ∙ i)))
    by_case c p false e i =
        let same = held_named c name held w ∙ ap (λ b. cond b (Some held) (held_at c w.names)) e in
        subst (λ (o : Option Held). suits (held_kind c o) (form_at p w.nodes) ≡ true) (sym same) (sh.names c p (sym (ap (λ o. is_in p (roots_found o)) same) ∙ i))

-- one form in place of another
pub record SuitsAs (old new : Form) : Type 0 where
  pub suits : (k : Kind) → suits k (Some old) ≡ true → suits k (Some new) ≡ true
  pub parts : (p : ℕ) → is_in p (parts_of new) ≡ true → is_in p (parts_of old) ≡ true
  pub kind : (p : ℕ) → is_in p (parts_of new) ≡ true → part_kind (Some new) ≡ part_kind (Some old)
  pub winner : (left right side : ℕ) → ◌≡◌ {A = Option Form} (Some new) (Some (Race left right (Some side))) → is_in side (left ∷ right ∷ []) ≡ true

-- forms that suit the same places
pub record Alike (old new : Form) : Type 0 where
  pub tree : is_tree old ≡ is_tree new
  pub link : is_link old ≡ is_link new
  pub side : is_side old ≡ is_side new
  pub task : is_task old ≡ is_task new
  pub request : (name : ℕ) → is_request name old ≡ is_request name new
  pub ended : is_ended old ≡ true → is_ended new ≡ true

pub suits_alike : (old new : Form) → Alike old new → (k : Kind) → suits k (Some old) ≡ true → suits k (Some new) ≡ true
suits_alike old new a OfTree h = sym a.tree ∙ h
suits_alike old new a OfLink h = sym a.link ∙ h
suits_alike old new a OfSide h = sym a.side ∙ h
suits_alike old new a OfTask h = sym a.task ∙ h
suits_alike old new a (OfRequest name) h = sym (a.request name) ∙ h
suits_alike old new a OfEnded h = a.ended h

-- no winner is named
abbrev pub has_winner : Option Form → Bool
has_winner (Some (Race left right (Some side))) = true
has_winner other = false

pub no_winner : (o : Option Form) (left right side : ℕ) → has_winner o ≡ false → o ≡ Some (Race left right (Some side)) → ⊥
no_winner o left right side f e = both_ways (has_winner o) (ap has_winner e) f

-- a form without parts in place of one that suits the same places
pub empty_suits : (old new : Form) → Alike old new → parts_of new ≡ [] → has_winner (Some new) ≡ false → SuitsAs old new
empty_suits old new a none f = record {
  suits = suits_alike old new a;
  parts = λ p i. absurd (in_none p (sym (ap (is_in p) none) ∙ i));
  kind = λ p i. absurd (in_none p (sym (ap (is_in p) none) ∙ i));
  winner = λ l r x e. absurd (no_winner (Some new) l r x f e);
}

pub shaped_put : (n : ℕ) (form old : Form) (w : World) → form_at n w.nodes ≡ Some old → SuitsAs old form → Shaped w → Shaped (put n form w)
shaped_put n form old w at keep sh =
    shaped_from w (put n form w)
    (λ p k s. by_form p k (nat_eq n p) refl s)
    (λ q p o. by_owner q p (nat_eq n q) refl o)
    (λ c p i. (i, refl)) (λ p i. i) (λ p i. i) (λ p f i. (f, i))
    (λ m left right side is. by_winner m left right side (nat_eq n m) refl is) sh
  where
    new_at : form_at n (with_form n form w.nodes) ≡ Some form
    new_at = form_put_same n form old w.nodes at

    here : (m : ℕ) → nat_eq n m ≡ true → form_at m (with_form n form w.nodes) ≡ Some form
    here m e = subst (λ (y : ℕ). form_at y (with_form n form w.nodes) ≡ Some form) (sym (same_number n m e)) new_at

    before : (m : ℕ) → nat_eq n m ≡ true → form_at m w.nodes ≡ Some old
    before m e = subst (λ (y : ℕ). form_at y w.nodes ≡ Some old) (sym (same_number n m e)) at

    by_form : (p : ℕ) (k : Kind) (b : Bool) → nat_eq n p ≡ b → suits k (form_at p w.nodes) ≡ true → suits k (form_at p (with_form n form w.nodes)) ≡ true
    by_form p k true e s = ap (suits k) (here p e) ∙ keep.suits k (sym (ap (suits k) (before p e)) ∙ s)
    by_form p k false e s = ap (suits k) (form_put_other n p form w.nodes e) ∙ s

    by_owner : (q p : ℕ) (b : Bool) → nat_eq n q ≡ b → owns q p (with_form n form w.nodes) ≡ true → (owns q p w.nodes ≡ true) × (part_kind (form_at q (with_form n form w.nodes)) ≡ part_kind (form_at q w.nodes))
    by_owner q p true e o =
        let i : is_in p (parts_of form) ≡ true = sym (ap (λ (x : Option Form). is_in p (parts_found x)) (here q e)) ∙ o in
        (ap (λ (x : Option Form). is_in p (parts_found x)) (before q e) ∙ keep.parts p i, ap part_kind (here q e) ∙ keep.kind p i ∙ sym (ap part_kind (before q e)))
    by_owner q p false e o =
        let same = form_put_other n q form w.nodes e in
        (sym (ap (λ (x : Option Form). is_in p (parts_found x)) same) ∙ o, ap part_kind same)

    by_winner : (m left right side : ℕ) (b : Bool) → nat_eq n m ≡ b → form_at m (with_form n form w.nodes) ≡ Some (Race left right (Some side)) → is_in side (left ∷ right ∷ []) ≡ true
    by_winner m left right side true e is = keep.winner left right side (sym (here m e) ∙ is)
    by_winner m left right side false e is = sh.winners m left right side (sym (form_put_other n m form w.nodes e) ∙ is)

-- a free
pub suits_staying : (k : Kind) (c : Bool) (out : ℕ → Bool) (n : ℕ) (nodes : List Entry) (o : Option Form) → suits k o ≡ true → suits k (none_if c (some_staying out n nodes o)) ≡ true
suits_staying k true out n nodes o s = refl
suits_staying k false out n nodes None s = s
suits_staying OfTree false out n nodes (Some (Hub content is_named branches)) s = s
suits_staying OfLink false out n nodes (Some (Hub content is_named branches)) s = s
suits_staying OfSide false out n nodes (Some (Hub content is_named branches)) s = s
suits_staying OfTask false out n nodes (Some (Hub content is_named branches)) s = s
suits_staying (OfRequest name) false out n nodes (Some (Hub content is_named branches)) s = s
suits_staying OfEnded false out n nodes (Some (Hub content is_named branches)) s = s
suits_staying k false out n nodes (Some _) s = s

kind_staying : (c : Bool) (out : ℕ → Bool) (n : ℕ) (nodes : List Entry) (o : Option Form) → c ≡ false → part_kind (none_if c (some_staying out n nodes o)) ≡ part_kind o
kind_staying true out n nodes o e = absurd (false≢true (sym e))
kind_staying false out n nodes None e = refl
kind_staying false out n nodes (Some (Hub content is_named branches)) e = refl
kind_staying false out n nodes (Some _) e = refl

race_staying : (left right side : ℕ) (c : Bool) (out : ℕ → Bool) (n : ℕ) (nodes : List Entry) (o : Option Form) → none_if c (some_staying out n nodes o) ≡ Some (Race left right (Some side)) → o ≡ Some (Race left right (Some side))
race_staying left right side true out n nodes o e = absurd (no_form (Race left right (Some side)) e)
race_staying left right side false out n nodes None e = e
race_staying left right side false out n nodes (Some (Hub content is_named branches)) e = absurd (hub_race e)
  where
    is_race : Option Form → Bool
    is_race (Some (Race l r w)) = true
    is_race other = false

    hub_race : {bs : List ℕ} → ◌≡◌ {A = Option Form} (Some (Hub content is_named bs)) (Some (Race left right (Some side))) → ⊥
    hub_race {bs} q = false≢true (ap is_race q)
race_staying left right side false out n nodes (Some _) e = e

stripped_roots : (o : Option Held) → roots_found (stripped o) ≡ roots_found o
stripped_roots None = refl
stripped_roots (Some (Canceler wraps)) = refl
stripped_roots (Some _) = refl

stripped_kind : (c : ℕ) (o : Option Held) → held_kind c (stripped o) ≡ held_kind c o
stripped_kind c None = refl
stripped_kind c (Some (Canceler wraps)) = refl
stripped_kind c (Some _) = refl

pub shaped_freed : (ns : List ℕ) (s t : State) → FreedBy ns s t → ((q p : ℕ) → owns q p t.world.nodes ≡ true → (is_in q ns ≡ false) × (owns q p s.world.nodes ≡ true)) → Shaped s.world → Shaped t.world
shaped_freed ns s t f owners sh =
    let out = λ (b : ℕ). is_in b ns in
    let same = f.frame.same in
    shaped_from s.world t.world
    (λ p k h. ap (suits k) (f.forms p) ∙ suits_staying k (is_in p ns) out p s.world.nodes (form_at p s.world.nodes) h)
    (λ q p o. let r = owners q p o in (r.1, ap part_kind (f.forms q) ∙ kind_staying (is_in q ns) out q s.world.nodes (form_at q s.world.nodes) r.0))
    (λ c p i. let at = f.frame.at c in (
      ap (is_in p) (sym (stripped_roots (held_at c s.world.names)) ∙ ap roots_found (sym at) ∙ stripped_roots (held_at c t.world.names)) ∙ i,
      sym (stripped_kind c (held_at c t.world.names)) ∙ ap (held_kind c) at ∙ stripped_kind c (held_at c s.world.names),
    ))
    (λ p i. ap (λ o. is_in p (awaited_roots o)) (sym same.awaited) ∙ i)
    (λ p i. ap (is_in p) (sym same.detached) ∙ i)
    (λ p fi i. (ap is_some (sym same.firing) ∙ fi, ap (is_in p) (sym same.left_over) ∙ i))
    (λ m left right side is. sh.winners m left right side (race_staying left right side (is_in m ns) out m s.world.nodes (form_at m s.world.nodes) (sym (f.forms m) ∙ is)))
    sh

-- a place under a name is one of the roots
pub name_in : (c p : ℕ) (names : List Named) → is_in p (roots_found (held_at c names)) ≡ true → is_in p (name_roots names) ≡ true
name_in c p [] i = absurd (in_none p i)
name_in c p (x ∷ xs) i = decide (nat_eq x.name c) refl (name_in c p xs)
  where
    decide : (b : Bool) → nat_eq x.name c ≡ b → (is_in p (roots_found (held_at c xs)) ≡ true → is_in p (name_roots xs) ≡ true) → is_in p (name_roots (x ∷ xs)) ≡ true
    decide true e ih =
        let at : held_at c (x ∷ xs) ≡ Some x.held = grind (arith, nat_tests) in
        in_left p (held_roots x.held) (name_roots xs) (sym (ap (λ o. is_in p (roots_found o)) at) ∙ i)
    decide false e ih =
        let at : held_at c (x ∷ xs) ≡ held_at c xs = grind (arith, nat_tests) in
        in_right p (held_roots x.held) (name_roots xs) (ih (sym (ap (λ o. is_in p (roots_found o)) at) ∙ i))

-- the next number stands in no place
clash : (m : ℕ) (xs : List ℕ) → times m xs ≡ 0 → is_in m xs ≡ true → ⊥
clash m xs z i = let a = in_times m xs i in none (times m xs) z a
  where
    none : (t : ℕ) → t ≡ 0 → 1 ≤ t → ⊥
    none t z h = omega (arith, z, h)

pub record NextIsNew (more : List ℕ) (w : World) : Type 0 where
  pub more_out : is_in w.next more ≡ false
  pub owners : (q : ℕ) → owns q w.next w.nodes ≡ false
  pub names : is_in w.next (name_roots w.names) ≡ false
  pub awaited : is_in w.next (awaited_roots w.awaited) ≡ false
  pub detached : is_in w.next w.detached ≡ false
  pub left_over : is_in w.next w.left_over ≡ false

pub next_is_new : (more out : List ℕ) (w : World) → Below more out w → NextIsNew more w
next_is_new more out w b =
    let z = b.places w.next (omega arith) in
    let r = roots_app w.next (name_roots w.names) (awaited_roots w.awaited) w.left_over w.detached in
    record {
      more_out = false_by (is_in w.next more) (λ i. clash w.next more (omega (arith, z)) i);
      owners = λ q. false_by (owns q w.next w.nodes) (λ o.
          let least = at_least (λ x. times w.next (parts_at x w.nodes)) q 1 (numbers w.nodes) (live_number q w.nodes (owner_live q w.next w.nodes o)) (in_times w.next (parts_at q w.nodes) o) in
          too_many (times w.next more) (times w.next (tree_roots w)) (owned_times w.next w.nodes) z least);
      names = false_by (is_in w.next (name_roots w.names)) (λ i. clash w.next (name_roots w.names) (omega (arith, z, r)) i);
      awaited = false_by (is_in w.next (awaited_roots w.awaited)) (λ i. clash w.next (awaited_roots w.awaited) (omega (arith, z, r)) i);
      detached = false_by (is_in w.next w.detached) (λ i. clash w.next w.detached (omega (arith, z, r)) i);
      left_over = false_by (is_in w.next w.left_over) (λ i. clash w.next w.left_over (omega (arith, z, r)) i);
    }
  where
    too_many : (a b c : ℕ) → a + (b + c) ≡ 0 → 1 ≤ c → ⊥
    too_many a b c z h = omega (arith, z, h)

-- a place that isn't the next number's
apart_from : (n p : ℕ) (xs : List ℕ) → is_in n xs ≡ false → is_in p xs ≡ true → nat_eq n p ≡ false
apart_from n p xs f i = false_by (nat_eq n p) (λ e. both_ways (is_in n xs) (subst (λ (y : ℕ). is_in y xs ≡ true) (same_number n p e) i) f)

-- one node more
pub shaped_grown : (form : Form) (x : Spot) (key : ℕ) (loose out lone : List ℕ) (s : State) → Standing (parts_of form ++ loose) out lone s → ((p : ℕ) → is_in p (parts_of form) ≡ true → suits (part_kind (Some form)) (form_at p s.world.nodes) ≡ true)
    → ((left right side : ℕ) → ◌≡◌ {A = Option Form} (Some form) (Some (Race left right (Some side))) → ⊥) → Shaped s.world → Shaped (grown form x key s.world)
shaped_grown form x key loose out lone s st fit never sh = record {
  winners = λ m left right side is. winner m left right side (nat_eq next m) refl is;
  parts = λ q p o. by_owner q p (nat_eq next q) refl o;
  names = λ c p i. keeps p (held_kind c (held_at c s.world.names)) (apart_from next p (name_roots s.world.names) new.names (name_in c p s.world.names i)) (sh.names c p i);
  awaited = λ p i. keeps p OfTree (apart_from next p (awaited_roots s.world.awaited) new.awaited i) (sh.awaited p i);
  detached = λ p i. keeps p OfTask (apart_from next p s.world.detached new.detached i) (sh.detached p i);
  left_over = λ p f i. keeps p OfEnded (apart_from next p s.world.left_over new.left_over i) (sh.left_over p f i);
}
  where
    next : ℕ
    next = s.world.next

    e : Entry
    e = record { number = s.world.next; form = form }

    new : NextIsNew (parts_of form ++ loose) s.world
    new = next_is_new (parts_of form ++ loose) out s.world st.below

    keeps : (p : ℕ) (k : Kind) → nat_eq s.world.next p ≡ false → suits k (form_at p s.world.nodes) ≡ true → suits k (form_at p (grown form x key s.world).nodes) ≡ true
    keeps p k d h = ap (suits k) (app_other p (record { number = s.world.next; form = form }) s.world.nodes d) ∙ h

    winner : (m left right side : ℕ) (b : Bool) → nat_eq s.world.next m ≡ b → form_at m (grown form x key s.world).nodes ≡ Some (Race left right (Some side)) → is_in side (left ∷ right ∷ []) ≡ true
    winner m left right side true d is = absurd (never left right side (sym (app_new (record { number = s.world.next; form = form }) s.world.nodes (not_live s st.recorded)) ∙ subst (λ (y : ℕ). form_at y (grown form x key s.world).nodes ≡ Some (Race left right (Some side))) (same_number s.world.next m d) is))
    winner m left right side false d is = sh.winners m left right side (sym (app_other m (record { number = s.world.next; form = form }) s.world.nodes d) ∙ is)

    by_owner : (q p : ℕ) (b : Bool) → nat_eq s.world.next q ≡ b → owns q p (grown form x key s.world).nodes ≡ true → suits (part_kind (form_at q (grown form x key s.world).nodes)) (form_at p (grown form x key s.world).nodes) ≡ true
    by_owner q p true d o =
        let at : form_at q (grown form x key s.world).nodes ≡ Some form = subst (λ (y : ℕ). form_at y (grown form x key s.world).nodes ≡ Some form) (sym (same_number s.world.next q d)) (app_new (record { number = s.world.next; form = form }) s.world.nodes (not_live s st.recorded)) in
        let i : is_in p (parts_of form) ≡ true = sym (ap (λ (y : Option Form). is_in p (parts_found y)) at) ∙ o in
        subst (λ (y : Option Form). suits (part_kind y) (form_at p (grown form x key s.world).nodes) ≡ true) (sym at)
        (keeps p (part_kind (Some form)) (apart_from s.world.next p (parts_of form ++ loose) new.more_out (in_left p (parts_of form) loose i)) (fit p i))
    by_owner q p false d o =
        let at = app_other q (record { number = s.world.next; form = form }) s.world.nodes d in
        let own : owns q p s.world.nodes ≡ true = sym (ap (λ (y : Option Form). is_in p (parts_found y)) at) ∙ o in
        subst (λ (y : Option Form). suits (part_kind y) (form_at p (grown form x key s.world).nodes) ≡ true) (sym at)
        (keeps p (part_kind (form_at q s.world.nodes)) (false_by (nat_eq s.world.next p) (λ i. both_ways (owns q s.world.next s.world.nodes) (subst (λ (y : ℕ). owns q y s.world.nodes ≡ true) (same_number s.world.next p i) own) (new.owners q))) (sh.parts q p own))

pub shaped_built : (before : Option ℕ) (form : Form) (loose out lone : List ℕ) (s : State) → Standing (parts_of form ++ loose) out lone s → ((p : ℕ) → is_in p (parts_of form) ≡ true → suits (part_kind (Some form)) (form_at p s.world.nodes) ≡ true)
    → ((left right side : ℕ) → ◌≡◌ {A = Option Form} (Some form) (Some (Race left right (Some side))) → ⊥) → Shaped s.world → Shaped (built before form s.world)
shaped_built before form loose out lone s st fit never sh = let g = built_grows before form s.world in subst Shaped (sym g.3) (shaped_grown form g.0 g.1 loose out lone s st fit never sh)
