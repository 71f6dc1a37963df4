-- What no call but a few lets rise.
use Rattle.std.proofs.Common.{◌≡◌, ◌≢◌, ℕ, Option, None, Some, Bool, true, false, not, refl, sym, ap, ◌∙◌, arith}
use Rattle.std.specs.Prelude.{◌==◌, ◌&&◌, nat_lt}
use Rattle.std.proofs.lemmas.Bool.{false≢true}
use Rattle.std.proofs.lemmas.Bool.Decides.{nat_tests}
use Rattle.kj_base.specs.declared.nodes.Node.{Node}
use Rattle.promise_graph.specs.declared.fields.Marks.{Marks}
use Rattle.promise_graph.specs.Slots.{number_at, Finds, slot_of}
use Rattle.promise_graph.specs.Rings.{next_at}
use Rattle.promise_graph.specs.Kept.{AreNumbered, Falls, is_taken, is_taken_at, taker_at, is_listed, is_listed_at, is_plain, is_plain_at, is_plain_node, hub_of, is_there}
use Rattle.promise_graph.proofs.Lists.{not_equal, differs, both, first_of_both, second_of_both}
use Rattle.promise_graph.proofs.Numbered.{slot_live, slot_is}

-- a node that is live afterwards was live in this slot before, as what it is
pub record Stays (old new : ℕ → Option Node) (m m' : Marks) (s n : ℕ) : Type 0 where
  pub number : number_at old s ≡ Some n
  pub hub : hub_of (new s) ≡ hub_of (old s)
  pub plain : is_plain_node (new s) ≡ is_plain_node (old s)
  pub taker : taker_at m' s ≢ 0 → taker_at m s ≢ 0
  pub ring : next_at m'.rings s ≢ s → next_at m.rings s ≢ s

taken_in : (at : ℕ → Option Node) (m : Marks) → AreNumbered at m → (s n : ℕ) → number_at at s ≡ Some n → taker_at m s ≢ 0 → is_taken m n ≡ true
taken_in at m k s n h d = ap (is_taken_at m) (slot_live at m k s n h) ∙ differs (taker_at m s) 0 d

pub taken_by : (at : ℕ → Option Node) (m : Marks) → AreNumbered at m → (s n : ℕ) → number_at at s ≡ Some n → taker_at m s ≢ 0 → is_taken m n ≡ true
taken_by = taken_in

-- a taken node is live and has a taker
pub taken_out : (R : Type 0) (at : ℕ → Option Node) (m : Marks) → AreNumbered at m → (n : ℕ) → is_taken m n ≡ true → ((s : ℕ) → number_at at s ≡ Some n → taker_at m s ≢ 0 → R) → R
taken_out R at m k n h f = out (slot_of n m.numbers.items) (slot_is at m k n) h
  where
    out : (o : Option ℕ) → Finds at n o → is_taken_at m o ≡ true → R
    out None g t = absurd (false≢true t)
    out (Some s) g t = f s g (not_equal (taker_at m s) 0 t)

-- a live node that isn't taken has none
pub untaken : (at : ℕ → Option Node) (m : Marks) → AreNumbered at m → (s n : ℕ) → number_at at s ≡ Some n → is_taken m n ≡ false → taker_at m s ≡ 0
untaken at m k s n h f = none_case (taker_at m s == 0) refl (sym (ap (is_taken_at m) (slot_live at m k s n h)) ∙ f)
  where
    none_case : (b : Bool) → (taker_at m s == 0) ≡ b → not (taker_at m s == 0) ≡ false → taker_at m s ≡ 0
    none_case true e h = grind (arith, nat_tests)
    none_case false e h = absurd (false≢true (sym h ∙ ap not e))

pub listed_in : (at : ℕ → Option Node) (m : Marks) → AreNumbered at m → (s n : ℕ) → number_at at s ≡ Some n → is_there (hub_of (at s)) ≡ true → next_at m.rings s ≢ s → is_listed at m n ≡ true
listed_in at m k s n h b d = ap (is_listed_at at m) (slot_live at m k s n h) ∙ both (is_there (hub_of (at s))) (not (next_at m.rings s == s)) b (differs (next_at m.rings s) s d)

-- a listed node is a live branch in a ring
pub listed_out : (R : Type 0) (at : ℕ → Option Node) (m : Marks) → AreNumbered at m → (n : ℕ) → is_listed at m n ≡ true → ((s : ℕ) → number_at at s ≡ Some n → is_there (hub_of (at s)) ≡ true → next_at m.rings s ≢ s → R) → R
listed_out R at m k n h f = out (slot_of n m.numbers.items) (slot_is at m k n) h
  where
    out : (o : Option ℕ) → Finds at n o → is_listed_at at m o ≡ true → R
    out None g t = absurd (false≢true t)
    out (Some s) g t = f s g (first_of_both _ _ t) (not_equal (next_at m.rings s) s (second_of_both _ _ t))

pub unlisted : (at : ℕ → Option Node) (m : Marks) → AreNumbered at m → (s n : ℕ) → number_at at s ≡ Some n → is_listed at m n ≡ false → is_there (hub_of (at s)) ≡ true → next_at m.rings s ≡ s
unlisted at m k s n h f b = alone_case (next_at m.rings s == s) refl (sym (ap (is_listed_at at m) (slot_live at m k s n h)) ∙ f)
  where
    alone_case : (c : Bool) → (next_at m.rings s == s) ≡ c → (is_there (hub_of (at s)) && not (next_at m.rings s == s)) ≡ false → next_at m.rings s ≡ s
    alone_case true e t = grind (arith, nat_tests)
    alone_case false e t = absurd (false≢true (sym t ∙ both (is_there (hub_of (at s))) (not (next_at m.rings s == s)) b (ap not e)))

pub plain_out : (at : ℕ → Option Node) (m : Marks) → AreNumbered at m → (s n : ℕ) → number_at at s ≡ Some n → is_plain at m n ≡ true → is_plain_node (at s) ≡ true
plain_out at m k s n h t = sym (ap (is_plain_at at) (slot_live at m k s n h)) ∙ second_of_both (nat_lt n m.next) _ t

module _ (old new : ℕ → Option Node) (m m' : Marks) (k : AreNumbered old m) (k' : AreNumbered new m') (next_is : m'.next ≡ m.next) (slots_are : m'.slots ≡ m.slots) (stays : (s n : ℕ) → number_at new s ≡ Some n → Stays old new m m' s n) where
  plain_case : (n : ℕ) (o : Option ℕ) → Finds new n o → is_plain old m n ≡ true → is_plain_at new o ≡ true
  plain_case n None g h = refl
  plain_case n (Some s) g h = (stays s n g).plain ∙ plain_out old m k s n (stays s n g).number h

  pub falls : Falls old new m m'
  falls = record {
    taken = λ n h. taken_out (is_taken m n ≡ true) new m' k' n h (λ s g d. taken_in old m k s n (stays s n g).number ((stays s n g).taker d));
    listed = λ n h. listed_out (is_listed old m n ≡ true) new m' k' n h (λ s g b d. listed_in old m k s n (stays s n g).number (sym (ap is_there (stays s n g).hub) ∙ b) ((stays s n g).ring d));
    plain = λ n h. both (nat_lt n m'.next) _ (ap (nat_lt n) next_is ∙ first_of_both (nat_lt n m.next) _ h) (plain_case n (slot_of n m'.numbers.items) (slot_is new m' k' n) h);
    next_is = next_is;
    slots_are = slots_are;
  }
