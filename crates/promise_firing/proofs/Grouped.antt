-- The set of a task, as lists show it.
use Rattle.std.proofs.Common.{◌≡◌, ◌∙◌, ℕ, suc, List, [], ◌∷◌, Option, None, Some, Bool, true, false, arith, refl, sym, ap, subst, length}
use Rattle.std.specs.Prelude.{nat_eq, find}
use Rattle.std.proofs.lemmas.Bool.{false≢true}
use Rattle.std.proofs.lemmas.Bool.Decides.{nat_tests}
use Rattle.kj_base.specs.Commands.{step_of}
use Rattle.kj_base.specs.declared.numbers.StepId.{StepId}
use Rattle.kj_base.specs.declared.nodes.Link.{Link}
use Rattle.kj_model.specs.Nodes.{dropped, is_in}
use Rattle.kj_model.specs.World.{World, Named, Held, Promise, CellOf, AskCell, HubOf, Group, Canceler, RequestOf, held_at}
use Rattle.kj_model.specs.Effects.{wraps_of}
use Rattle.kj_model.specs.Fire.{group_of, has_task}
use Rattle.kj_model.proofs.Once.{false_by}
use Rattle.kj_model.proofs.Spared.{same_number}
use Rattle.kj_ownership.proofs.Tasks.{not_found}
use Rattle.promise_nodes.specs.Shown.{link_number}
use Rattle.promise_nodes.specs.Members.{AreApart, AreEachOnce, IsNoMember, lists_in, members_of}
use Rattle.promise_nodes.proofs.Listed.{dropped_none}
use Rattle.promise_names.specs.Once.{AreOnce}
use Rattle.promise_names.specs.Held.{SeesHeld, held_shown}
use Rattle.promise_names.specs.declared.names.Held.{Held as HeldCase}
use Rattle.promise_names.specs.declared.names.Held.TheVariants.{Promise as PromiseCase, CellOf as CellCase, AskCell as AskCase, HubOf as HubCase, Group as GroupCase, Canceler as CancelerCase, RequestOf as RequestCase}
use Rattle.promise_firing.specs.Closed.{is_set}

-- a set has its tasks as members
pub has_member : (n : ℕ) (h : Held) → has_task n h ≡ true → is_in n (members_of (Some h)) ≡ true
has_member n (Group error tasks empty) e = e
has_member n (Promise root) e = absurd (false≢true e)
has_member n (CellOf cell) e = absurd (false≢true e)
has_member n (AskCell cell is_taken) e = absurd (false≢true e)
has_member n (HubOf hub) e = absurd (false≢true e)
has_member n (Canceler wraps) e = absurd (false≢true e)
has_member n (RequestOf request) e = absurd (false≢true e)

-- a name that has this task
record Has (n : ℕ) (x : Named) (names : List Named) : Type 0 where
  at : held_at x.name names ≡ Some x.held
  has : has_task n x.held ≡ true

found : (n : ℕ) (x : Named) (names : List Named) → AreOnce names → group_of n names ≡ Some x → Has n x names
found n x [] once e = absurd (none x e)
  where
    none : (x : Named) → ◌≡◌ {A = Option Named} None (Some x) → ⊥
    none x e = cc
found n x (y ∷ ys) once e = more (has_task n y.held) refl (found n x ys once.1)
  where
    name_is : (a b : Named) → ◌≡◌ {A = Option Named} (Some a) (Some b) → a ≡ b
    name_is a b h = cc

    here : (z : Named) → held_at z.name (z ∷ ys) ≡ Some z.held
    here z = grind (arith, nat_tests)

    skip : nat_eq y.name x.name ≡ false → held_at x.name (y ∷ ys) ≡ held_at x.name ys
    skip d = grind (arith, nat_tests)

    clash : (o : Option Held) (h : Held) → o ≡ None → o ≡ Some h → ⊥
    clash o h a b = cc

    more : (b : Bool) → has_task n y.held ≡ b → (group_of n ys ≡ Some x → Has n x ys) → Has n x (y ∷ ys)
    more true q ih =
        let same : y ≡ x = name_is y x (first q e) in
        record {
          at = subst (λ (z : Named). held_at z.name (y ∷ ys) ≡ Some z.held) same (here y);
          has = subst (λ (z : Named). has_task n z.held ≡ true) same q;
        }
      where
        first : has_task n y.held ≡ true → group_of n (y ∷ ys) ≡ Some x → Some y ≡ Some x
        first q h = grind arith
    more false q ih =
        let r = ih (rest q e) in
        let apart = false_by (nat_eq y.name x.name) (λ d. clash (held_at x.name ys) x.held (subst (λ (c : ℕ). held_at c ys ≡ None) (sym (same_number y.name x.name d)) once.0) r.at) in
        record { at = skip apart ∙ r.at; has = r.has }
      where
        rest : has_task n y.held ≡ false → group_of n (y ∷ ys) ≡ Some x → group_of n ys ≡ Some x
        rest q h = grind arith

has_in : (n : ℕ) (x : Named) (w : World) → Has n x w.names → is_in n (lists_in w x.name) ≡ true
has_in n x w h = ap (λ (o : Option Held). is_in n (members_of o)) h.at ∙ has_member n x.held h.has

-- a member of no list has no set
pub no_group : (n : ℕ) (w : World) → AreOnce w.names → IsNoMember n (lists_in w) → group_of n w.names ≡ None
no_group n w once none = by_found (group_of n w.names) refl
  where
    by_found : (o : Option Named) → group_of n w.names ≡ o → o ≡ None
    by_found None e = refl
    by_found (Some x) e = absurd (false≢true (sym (none x.name) ∙ has_in n x w (found n x w.names once e)))

-- a member of a set has it as its set
pub group_is : (n group : ℕ) (h : Held) (w : World) → AreOnce w.names → AreApart (lists_in w) → held_at group w.names ≡ Some h → has_task n h ≡ true
    → group_of n w.names ≡ Some (record { name = group; held = h })
group_is n group h w once apart at has = by_found (group_of n w.names) refl
  where
    held_is : (a b : Held) → ◌≡◌ {A = Option Held} (Some a) (Some b) → a ≡ b
    held_is a b e = cc

    named_is : (x : Named) (c : ℕ) (k : Held) → x.name ≡ c → x.held ≡ k → x ≡ record { name = c; held = k }
    named_is x c k a b = ap (λ (m : ℕ). record { name = m; held = x.held }) a ∙ ap (λ (j : Held). record { name = c; held = j }) b

    by_found : (o : Option Named) → group_of n w.names ≡ o → o ≡ Some (record { name = group; held = h })
    by_found None e = absurd (false≢true (sym (not_found (λ (x : Named). has_task n x.held) group h w.names (λ a b same. ap (has_task n) same) e at) ∙ has))
    by_found (Some x) e =
        let f = found n x w.names once e in
        let same : x.name ≡ group = apart n x.name group (has_in n x w f) (ap (λ (o : Option Held). is_in n (members_of o)) at ∙ has_member n h has) in
        ap Some (named_is x group h same (held_is x.held h (sym f.at ∙ ap (λ (c : ℕ). held_at c w.names) same ∙ at)))

-- a list has one member less without one that stands once
pub one_less : (n : ℕ) (ns : List ℕ) → AreEachOnce ns → is_in n ns ≡ true → length ns ≡ suc (length (dropped n ns))
one_less n [] once e = absurd (false≢true e)
one_less n (m ∷ ms) once e = by_number (nat_eq m n) refl (one_less n ms once.1)
  where
    by_number : (b : Bool) → nat_eq m n ≡ b → (is_in n ms ≡ true → length ms ≡ suc (length (dropped n ms))) → suc (length ms) ≡ suc (length (dropped n (m ∷ ms)))
    by_number true d ih = ap suc (sym (ap length (goes d ∙ dropped_none n ms (subst (λ (k : ℕ). is_in k ms ≡ false) (sym (same_number m n d)) once.0))))
      where
        goes : nat_eq m n ≡ true → dropped n (m ∷ ms) ≡ dropped n ms
        goes d = rw d refl
    by_number false d ih = ap suc (ih (later d e) ∙ sym (ap length (stays d)))
      where
        stays : nat_eq m n ≡ false → dropped n (m ∷ ms) ≡ m ∷ dropped n ms
        stays d = rw d refl

        later : nat_eq m n ≡ false → is_in n (m ∷ ms) ≡ true → is_in n ms ≡ true
        later d e = grind (arith, nat_tests)

-- a set, as names show it
pub record IsSetSeen (error : Option StepId) (tasks : ℕ) (empty : Option Link) (seen : Option Held) : Type 0 where
  pub members : List ℕ
  pub counted : length members ≡ tasks
  pub is : seen ≡ Some (Group (step_of error) members (link_number empty))

pub set_seen : (error : Option StepId) (tasks : ℕ) (empty : Option Link) (seen : Option Held) → SeesHeld (Some (GroupCase error tasks empty)) seen → IsSetSeen error tasks empty seen
set_seen error tasks empty None sees = absurd sees
set_seen error tasks empty (Some held) sees = record { members = sees.members; counted = sees.counted; is = ap Some sees.is }
