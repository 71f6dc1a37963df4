-- Trees that go before or after the name of a set goes or holds something else.
use Rattle.std.proofs.Common.{◌≡◌, ◌∙◌, refl, sym, ap, subst, zero, suc, ℕ, List, [], ◌∷◌, Bool, true, false, cond, Option, None, Some, arith}
use Rattle.std.specs.Prelude.{nat_eq, nat_lt}
use Rattle.std.proofs.lemmas.Bool.Decides.{nat_tests}
use Rattle.kj_model.specs.Nodes.{Form, Cell, Branch, Wrap, Hub, form_at, parts_of, dropped}
use Rattle.kj_model.specs.World.{World, State, Named, Held, Promise, CellOf, AskCell, HubOf, Group, Canceler, RequestOf, held_at, depth_of}
use Rattle.kj_model.specs.Changes.{silent, put, gone, with_names, without_name, with_new, named}
use Rattle.kj_model.specs.Free.{Guard, Holding, Every, is_guarded, free_unless, free_unreferenced, reference_gone, without_branch_in, without_branch, without_wrap_in, without_wrap, ask_of, is_ask_of, abandoned_as, unlinked, each_freed, free_form, free_to, free}
use Rattle.kj_model.proofs.Counts.{held_without}
use Rattle.promise_nodes.proofs.Listed.{held_named}
use Rattle.promise_names.specs.Once.{AreRising}
use Rattle.promise_names.specs.Held.{IsSet}
use Rattle.promise_names.proofs.Rising.{rising_absent, rising_named, rising_without, without_twice, without_with, with_twice}

-- nothing, or a set
abbrev pub IsSetOrNone : Option Held → Type 0
IsSetOrNone None = Unit {0}
IsSetOrNone held = IsSet held

-- a name more, where it holds something
abbrev with_held : ℕ → Option Held → List Named → List Named
with_held name None xs = xs
with_held name (Some held) xs = with_new (record { name = name; held = held }) xs

-- the names where this one holds this, or is gone
abbrev pub renamed_as : ℕ → Option Held → List Named → List Named
renamed_as name o xs = with_held name o (without_name name xs)

-- the same in a state
abbrev pub with_renamed : ℕ → Option Held → State → State
with_renamed name o s = silent (λ w. with_names (renamed_as name o w.names) w) s

-- names by rising number, of which this one is a set's
abbrev pub HasSet : ℕ → List Named → Type 0
HasSet name xs = AreRising xs × IsSet (held_at name xs)

-- a change before or after the name's
abbrev pub Commutes : ℕ → Option Held → (State → State) → Type 0
Commutes name o f = (s : State) → HasSet name s.world.names → (f (with_renamed name o s) ≡ with_renamed name o (f s)) × HasSet name (f s).world.names

-- ---- names

held_first : (c : ℕ) (x : Named) (xs : List Named) (b : Bool) → nat_eq x.name c ≡ b → held_at c (x ∷ xs) ≡ cond b (Some x.held) (held_at c xs)
held_first c x xs true e = rw e refl
held_first c x xs false e = rw e refl

same_is : (a b : ℕ) → nat_eq a b ≡ true → a ≡ b
same_is a b e = grind (arith, nat_tests)

turned : (a b : ℕ) (c : Bool) → nat_eq a b ≡ c → nat_eq b a ≡ c
turned a b true e = grind (arith, nat_tests)
turned a b false e = grind (arith, nat_tests)

ask_first : (n : ℕ) (x : Named) (xs : List Named) → is_ask_of n x.held ≡ false → ask_of n (x ∷ xs) ≡ ask_of n xs
ask_first n x xs e = rw e refl

-- what the name holds is no ask
abbrev NoAsk : ℕ → Option Held → Type 0
NoAsk n None = Unit {0}
NoAsk n (Some held) = is_ask_of n held ≡ false

set_no_ask : (n : ℕ) (o : Option Held) → IsSet o → NoAsk n o
set_no_ask n (Some (Group error tasks empty)) is = refl
set_no_ask n None is = tt
set_no_ask n (Some (Promise root)) is = refl
set_no_ask n (Some (CellOf cell)) is = refl
set_no_ask n (Some (AskCell cell is_taken)) is = absurd is
set_no_ask n (Some (HubOf hub)) is = refl
set_no_ask n (Some (Canceler wraps)) is = refl
set_no_ask n (Some (RequestOf request)) is = refl

ask_same : (n : ℕ) (x : Named) (xs ys : List Named) (b : Bool) → is_ask_of n x.held ≡ b → ask_of n xs ≡ ask_of n ys → ask_of n (x ∷ xs) ≡ ask_of n (x ∷ ys)
ask_same n x xs ys true e h = rw e refl
ask_same n x xs ys false e h = rw e h

ask_without : (n name : ℕ) (xs : List Named) → AreRising xs → NoAsk n (held_at name xs) → ask_of n (without_name name xs) ≡ ask_of n xs
ask_without n name [] r calm = refl
ask_without n name (x ∷ xs) r calm = decide (nat_eq x.name name) refl (ask_without n name xs r.1)
  where
    decide : (b : Bool) → nat_eq x.name name ≡ b → (NoAsk n (held_at name xs) → ask_of n (without_name name xs) ≡ ask_of n xs) → ask_of n (without_name name (x ∷ xs)) ≡ ask_of n (x ∷ xs)
    decide true e ih =
        let here : is_ask_of n x.held ≡ false = subst (NoAsk n) (held_first name x xs true e) calm in
        let absent : held_at name xs ≡ None = ap (λ (k : ℕ). held_at k xs) (sym (same_is x.name name e)) ∙ rising_absent x xs r in
        let rest : without_name name (x ∷ xs) ≡ without_name name xs = rw e refl in
        ap (ask_of n) rest ∙ ih (subst (NoAsk n) (sym absent) tt) ∙ sym (ask_first n x xs here)
    decide false e ih =
        let rest : without_name name (x ∷ xs) ≡ x ∷ without_name name xs = rw e refl in
        ap (ask_of n) rest ∙ ask_same n x (without_name name xs) xs (is_ask_of n x.held) refl (ih (subst (NoAsk n) (held_first name x xs false e) calm))

ask_with : (n : ℕ) (x : Named) (ys : List Named) → is_ask_of n x.held ≡ false → ask_of n (with_new x ys) ≡ ask_of n ys
ask_with n x [] e = ask_first n x [] e
ask_with n x (y ∷ ys) e = decide (nat_lt x.name y.name) refl (ask_with n x ys e)
  where
    decide : (b : Bool) → nat_lt x.name y.name ≡ b → ask_of n (with_new x ys) ≡ ask_of n ys → ask_of n (with_new x (y ∷ ys)) ≡ ask_of n (y ∷ ys)
    decide true l ih = let is : with_new x (y ∷ ys) ≡ x ∷ y ∷ ys = rw l refl in ap (ask_of n) is ∙ ask_first n x (y ∷ ys) e
    decide false l ih = let is : with_new x (y ∷ ys) ≡ y ∷ with_new x ys = rw l refl in ap (ask_of n) is ∙ ask_same n y (with_new x ys) ys (is_ask_of n y.held) refl ih

ask_held : (n name : ℕ) (o : Option Held) (ys : List Named) → IsSetOrNone o → ask_of n (with_held name o ys) ≡ ask_of n ys
ask_held n name None ys is = refl
ask_held n name (Some held) ys is = ask_with n (record { name = name; held = held }) ys (set_no_ask n (Some held) is)

module _ (name : ℕ) (o : Option Held) (set : IsSetOrNone o) where
  ask_renamed : (n : ℕ) (xs : List Named) → HasSet name xs → ask_of n (renamed_as name o xs) ≡ ask_of n xs
  ask_renamed n xs has = ask_held n name o (without_name name xs) set ∙ ask_without n name xs has.0 (set_no_ask n (held_at name xs) has.1)

  -- another name holds something else before or after
  put_held : (x : Named) (xs : List Named) (p : Option Held) → nat_eq x.name name ≡ false → AreRising xs → with_held name p (without_name name (with_new x (without_name x.name xs))) ≡ with_new x (without_name x.name (with_held name p (without_name name xs)))
  put_held x xs None n r = without_with name x (without_name x.name xs) n (rising_without x.name xs r) ∙ ap (with_new x) (without_twice name x.name xs)
  put_held x xs (Some held) n r =
      let y : Named = record { name = name; held = held } in
      let turn = turned x.name name false n in
      ap (with_new y) (without_with name x (without_name x.name xs) n (rising_without x.name xs r) ∙ ap (with_new x) (without_twice name x.name xs))
      ∙ with_twice y x (without_name x.name (without_name name xs)) turn
      ∙ ap (with_new x) (sym (without_with x.name y (without_name name xs) turn (rising_without name xs r)))

  -- another name holds the same as before
  other_held : (c : ℕ) (xs : List Named) (p : Option Held) → nat_eq name c ≡ false → held_at c (with_held name p (without_name name xs)) ≡ held_at c xs
  other_held c xs None n = held_without c name xs n
  other_held c xs (Some held) n = held_with c xs held n
    where
      held_with : (c : ℕ) (xs : List Named) (held : Held) → nat_eq name c ≡ false → held_at c (with_new (record { name = name; held = held }) (without_name name xs)) ≡ held_at c xs
      held_with c xs held n = put_other c (record { name = name; held = held }) (without_name name xs) n ∙ held_without c name xs n
        where
          put_other : (c : ℕ) (x : Named) (ys : List Named) → nat_eq x.name c ≡ false → held_at c (with_new x ys) ≡ held_at c ys
          put_other c x [] n = held_first c x [] false n
          put_other c x (y ∷ ys) n = decide (nat_lt x.name y.name) refl (put_other c x ys n)
            where
              decide : (b : Bool) → nat_lt x.name y.name ≡ b → held_at c (with_new x ys) ≡ held_at c ys → held_at c (with_new x (y ∷ ys)) ≡ held_at c (y ∷ ys)
              decide true l ih = let is : with_new x (y ∷ ys) ≡ x ∷ y ∷ ys = rw l refl in ap (held_at c) is ∙ held_first c x (y ∷ ys) false n
              decide false l ih =
                  let is : with_new x (y ∷ ys) ≡ y ∷ with_new x ys = rw l refl in
                  ap (held_at c) is ∙ held_first c y (with_new x ys) (nat_eq y.name c) refl ∙ ap (λ (h : Option Held). cond (nat_eq y.name c) (Some y.held) h) ih ∙ sym (held_first c y ys (nat_eq y.name c) refl)

  -- what the set's name holds then
  own_held : (xs : List Named) (p : Option Held) → IsSetOrNone p → (w : World) → w.names ≡ xs → IsSetOrNone (held_at name (with_held name p (without_name name xs)))
  own_held xs None is w e = subst IsSetOrNone (sym (gone_at name xs)) tt
    where
      gone_at : (c : ℕ) (xs : List Named) → held_at c (without_name c xs) ≡ None
      gone_at c [] = refl
      gone_at c (x ∷ xs) = decide (nat_eq x.name c) refl (gone_at c xs)
        where
          decide : (b : Bool) → nat_eq x.name c ≡ b → held_at c (without_name c xs) ≡ None → held_at c (without_name c (x ∷ xs)) ≡ None
          decide true e ih = let is : without_name c (x ∷ xs) ≡ without_name c xs = rw e refl in ap (held_at c) is ∙ ih
          decide false e ih = let is : without_name c (x ∷ xs) ≡ x ∷ without_name c xs = rw e refl in ap (held_at c) is ∙ held_first c x (without_name c xs) false e ∙ ih
  own_held xs (Some held) is w e =
      let at : held_at name (named name held w).names ≡ Some held = held_named name name held w ∙ ap (λ (b : Bool). cond b (Some held) (held_at name w.names)) (self name) in
      subst IsSetOrNone (sym (ap (λ (ys : List Named). held_at name (with_new (record { name = name; held = held }) (without_name name ys))) (sym e) ∙ at)) is
    where
      self : (n : ℕ) → nat_eq n n ≡ true
      self n = grind (arith, nat_tests)

  -- ---- changes put together

  none_commutes : Commutes name o (λ s. s)
  none_commutes s has = (refl, has)

  then_commutes : (f g : State → State) → Commutes name o f → Commutes name o g → Commutes name o (λ s. g (f s))
  then_commutes f g c d s has = let p = c s has in let q = d (f s) p.1 in (ap g p.0 ∙ q.0, q.1)

  by_form : (n : ℕ) (op : Option Form → State → State) → ((form : Option Form) → Commutes name o (op form)) → Commutes name o (λ s. op (form_at n s.world.nodes) s)
  by_form n op c s has = c (form_at n s.world.nodes) s has

  put_commutes : (n : ℕ) (form : Form) → Commutes name o (silent (put n form))
  put_commutes n form s has = (refl, has)

  gone_commutes : (n : ℕ) → Commutes name o (gone n)
  gone_commutes n s has = (refl, has)

  each_commutes : (f : ℕ → State → State) → ((n : ℕ) → Commutes name o (f n)) → (ns : List ℕ) → Commutes name o (each_freed f ns)
  each_commutes f c [] = none_commutes
  each_commutes f c (n ∷ ns) = then_commutes (f n) (each_freed f ns) (c n) (each_commutes f c ns)

  unless_commutes : (b : Bool) (f : ℕ → State → State) (hub : ℕ) → ((n : ℕ) → Commutes name o (f n)) → Commutes name o (free_unless b f hub)
  unless_commutes true f hub c = none_commutes
  unless_commutes false f hub c = c hub

  guarded_same : (guard : Guard) (hub : ℕ) (s : State) → is_guarded guard hub (with_renamed name o s).world ≡ is_guarded guard hub s.world
  guarded_same (Holding nodes) hub s = refl
  guarded_same Every hub s = refl

  unreferenced_commutes : (guard : Guard) (f : ℕ → State → State) (hub : ℕ) (form : Option Form) → ((n : ℕ) → Commutes name o (f n)) → Commutes name o (free_unreferenced guard f hub form)
  unreferenced_commutes guard f hub (Some (Hub content false [])) c s has =
      let p = unless_commutes (is_guarded guard hub s.world) f hub c s has in
      (ap (λ (b : Bool). free_unless b f hub (with_renamed name o s)) (guarded_same guard hub s) ∙ p.0, p.1)
  unreferenced_commutes guard f hub (Some (Hub content false (b ∷ bs))) c s has = (refl, has)
  unreferenced_commutes guard f hub (Some (Hub content true branches)) c s has = (refl, has)
  unreferenced_commutes guard f hub None c s has = (refl, has)
  unreferenced_commutes guard f hub (Some _) c s has = (refl, has)

  reference_commutes : (guard : Guard) (f : ℕ → State → State) (hub : ℕ) → ((n : ℕ) → Commutes name o (f n)) → Commutes name o (reference_gone guard f hub)
  reference_commutes guard f hub c = by_form hub (free_unreferenced guard f hub) (λ form. unreferenced_commutes guard f hub form c)

  branch_case : (n hub : ℕ) (form : Option Form) → Commutes name o (silent (without_branch_in n hub form))
  branch_case n hub (Some (Hub content is_named branches)) s has = (refl, has)
  branch_case n hub None s has = (refl, has)
  branch_case n hub (Some _) s has = (refl, has)

  branch_commutes : (n hub : ℕ) → Commutes name o (silent (without_branch n hub))
  branch_commutes n hub s has = branch_case n hub (form_at hub s.world.nodes) s has

  no_canceler : (n c : ℕ) (p : Option Held) (w : World) → IsSetOrNone p → without_wrap_in n c p w ≡ w
  no_canceler n c None w is = refl
  no_canceler n c (Some (Group error tasks empty)) w is = refl
  no_canceler n c (Some (Canceler wraps)) w is = absurd is
  no_canceler n c (Some _) w is = absurd is

  set_or_none : (p : Option Held) → IsSet p → IsSetOrNone p
  set_or_none None is = tt
  set_or_none (Some held) is = is

  own_wrap : (n : ℕ) → Commutes name o (silent (without_wrap n name))
  own_wrap n s has =
      let w = s.world in
      let v = with_names (renamed_as name o w.names) w in
      let here = no_canceler n name (held_at name w.names) w (set_or_none (held_at name w.names) has.1) in
      let there = no_canceler n name (held_at name v.names) v (own_held w.names o set w refl) in (
        ap (λ (u : World). let t : State = record { world = u; past = s.past } in t) there
            ∙ sym (ap (λ (u : World). let t : State = record { world = with_names (renamed_as name o u.names) u; past = s.past } in t) here),
        subst (λ (u : World). HasSet name u.names) (sym here) has,
      )

  wrap_case : (n c : ℕ) (p : Option Held) → nat_eq c name ≡ false → Commutes name o (silent (without_wrap_in n c p))
  wrap_case n c (Some (Canceler wraps)) d s has =
      let x : Named = record { name = c; held = Canceler (dropped n wraps) } in
      let w = s.world in
      let at : held_at name (named c (Canceler (dropped n wraps)) w).names ≡ held_at name w.names =
      held_named name c (Canceler (dropped n wraps)) w ∙ ap (λ (b : Bool). cond b (Some (Canceler (dropped n wraps))) (held_at name w.names)) d in (
        ap (λ (ys : List Named). let t : State = record { world = with_names ys w; past = s.past } in t) (sym (put_held x w.names o d has.0)),
        (rising_named x w.names has.0, subst IsSet (sym at) has.1),
      )
  wrap_case n c None d s has = (refl, has)
  wrap_case n c (Some _) d s has = (refl, has)

  other_wrap : (n c : ℕ) → nat_eq c name ≡ false → Commutes name o (silent (without_wrap n c))
  other_wrap n c d s has =
      let w = s.world in
      let same : held_at c (renamed_as name o w.names) ≡ held_at c w.names = other_held c w.names o (turned c name false d) in
      let p = wrap_case n c (held_at c w.names) d s has in
      (ap (λ (h : Option Held). silent (without_wrap_in n c h) (with_renamed name o s)) same ∙ p.0, p.1)

  wrap_decided : (b : Bool) (n c : ℕ) → nat_eq c name ≡ b → Commutes name o (silent (without_wrap n c))
  wrap_decided true n c e = subst (λ (k : ℕ). Commutes name o (silent (without_wrap n k))) (sym (same_is c name e)) (own_wrap n)
  wrap_decided false n c e = other_wrap n c e

  abandoned_case : (p : Option Named) → Commutes name o (silent (abandoned_as p))
  abandoned_case None s has = (refl, has)
  abandoned_case (Some x) s has = (refl, has)

  abandoned_commutes : (n : ℕ) → Commutes name o (silent (λ w. abandoned_as (ask_of n w.names) w))
  abandoned_commutes n s has =
      let p = abandoned_case (ask_of n s.world.names) s has in
      (ap (λ (q : Option Named). silent (abandoned_as q) (with_renamed name o s)) (ask_renamed n s.world.names has) ∙ p.0, p.1)

  unlinked_commutes : (guard : Guard) (f : ℕ → State → State) (n : ℕ) (form : Form) → ((n : ℕ) → Commutes name o (f n)) → Commutes name o (unlinked guard f n form)
  unlinked_commutes guard f n (Cell None) c = abandoned_commutes n
  unlinked_commutes guard f n (Cell (Some outcome)) c = none_commutes
  unlinked_commutes guard f n (Branch hub) c = then_commutes (silent (without_branch n hub)) (reference_gone guard f hub) (branch_commutes n hub) (reference_commutes guard f hub c)
  unlinked_commutes guard f n (Wrap canceler content) c = wrap_decided (nat_eq canceler name) n canceler refl
  unlinked_commutes guard f n _ c = none_commutes

  form_commutes : (guard : Guard) (f : ℕ → State → State) (n : ℕ) (form : Option Form) → ((n : ℕ) → Commutes name o (f n)) → Commutes name o (free_form guard f n form)
  form_commutes guard f n None c = none_commutes
  form_commutes guard f n (Some form) c =
      then_commutes (λ s. unlinked guard f n form (each_freed f (parts_of form) s)) (gone n)
      (then_commutes (each_freed f (parts_of form)) (unlinked guard f n form) (each_commutes f c (parts_of form)) (unlinked_commutes guard f n form c))
      (gone_commutes n)

  free_to_commutes : (guard : Guard) (k n : ℕ) → Commutes name o (free_to guard k n)
  unfolding free_to
  free_to_commutes guard zero n = none_commutes
  free_to_commutes guard (suc k) n = by_form n (free_form guard (free_to guard k) n) (λ form. form_commutes guard (free_to guard k) n form (free_to_commutes guard k))

  free_commutes : (guard : Guard) (n : ℕ) → Commutes name o (free guard n)
  free_commutes guard n s has = free_to_commutes guard (depth_of s.world) n s has

  -- trees that go one after another
  pub frees_commute : (guard : Guard) (ns : List ℕ) → Commutes name o (each_freed (free guard) ns)
  frees_commute guard ns = each_commutes (free guard) (free_commutes guard) ns
