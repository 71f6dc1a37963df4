-- Changes of two worlds that are alike.
use Rattle.std.proofs.Common.{◌≡◌, ◌∙◌, refl, sym, ap, subst, zero, suc, ℕ, ◌≤◌, List, length, Bool, true, false, Option, None, Some, arith}
use Rattle.std.specs.Prelude.{nat_lt, is_some, map}
use Rattle.std.proofs.lemmas.Bool.{false≢true}
use Rattle.kj_base.specs.declared.numbers.Limits.{Limits}
use Rattle.kj_base.specs.declared.outcomes.Outcome.{Outcome}
use Rattle.kj_base.specs.Places.{Spot, spot_of}
use Rattle.kj_base.specs.Queue.{Way}
use Rattle.kj_model.specs.Nodes.{Form, Cell, Entry, form_at, owner_of, has_event}
use Rattle.kj_model.specs.World.{World, Named, Held, Awaited, Asked, Ended, held_at, depth_of}
use Rattle.kj_model.specs.Changes.{named, unnamed, with_names, without_name, with_new, arm_listener, put}
use Rattle.kj_model.specs.Places.{placed, placed_if, placed_over, built}
use Rattle.kj_model.specs.Listening.{listener, listener_from, listener_over, listener_if, announced, listened, listened_if, listened_way, is_last, ready, settled, settled_form}
use Rattle.kj_model.specs.Fire.{named_renamed, replaced, awaited_renamed}
use Rattle.kj_ownership.specs.Kept.{is_spent}
use Rattle.kj_takings.specs.Alike.{Lists, with_lists, name_as_taken, firm_names, AreRising, Sorted, Alike}
use Rattle.kj_takings.specs.Spared.{HasRoom}
use Rattle.kj_takings.proofs.Names.{found_taken, firm_without, sorted_without, length_without, length_present, absent_without, sorted_with, length_with, firm_with, firm_with_loose, held_firm, held_spent, firm_renamed, sorted_renamed, length_renamed}

-- alike, with room for so many names more
pub record Near (loose : ℕ → Bool) (k : ℕ) (w v : World) : Type 0 where
  pub alike : Alike loose w v
  pub left : HasRoom k w
  pub right : HasRoom k v

-- a change that keeps them so
abbrev pub Keeps : (ℕ → Bool) → (World → World) → Type 0
Keeps loose op = (k : ℕ) (w v : World) → Near loose k w v → Near loose k (op w) (op v)

-- what a change leaves
pub record Leaves (w u : World) : Type 0 where
  pub names : u.names ≡ w.names
  pub limits : u.limits ≡ w.limits
  pub awaited : u.awaited ≡ w.awaited

room_left : (k : ℕ) (w u : World) → Leaves w u → HasRoom k w → HasRoom k u
room_left k w u l h =
    let a = ap length l.names in
    let b = ap (λ (x : Limits). x.names) l.limits in
    omega (arith, a, b, h)

-- a change that doesn't see the lists
pub blind : (loose : ℕ → Bool) (op : World → World) → ((l : Lists) (w : World) → op (with_lists l w) ≡ with_lists l (op w)) → ((w : World) → Leaves w (op w)) → Keeps loose op
blind loose op same leaves k w v r =
    let a = r.alike in
    let x = leaves w in
    let y = leaves v in
    record {
      alike = record {
        lists = a.lists;
        seen = ap op a.seen ∙ same a.lists w;
        same = ap (firm_names loose) y.names ∙ a.same ∙ ap (firm_names loose) (sym x.names);
        left = subst (Sorted loose) (sym x.names) a.left;
        right = subst (Sorted loose) (sym y.names) a.right;
        awaited = λ b e. a.awaited b (sym x.awaited ∙ e);
      };
      left = room_left k w (op w) x r.left;
      right = room_left k v (op v) y r.right;
    }

pub both_leave : (u v w : World) → Leaves u v → Leaves v w → Leaves u w
both_leave u v w a b = record { names = b.names ∙ a.names; limits = b.limits ∙ a.limits; awaited = b.awaited ∙ a.awaited }

-- less room
pub less_room : (loose : ℕ → Bool) (j k : ℕ) (w v : World) → k ≤ j → Near loose j w v → Near loose k w v
less_room loose j k w v l r = let a = r.left in let b = r.right in record { alike = r.alike; left = omega (arith, l, a); right = omega (arith, l, b) }

-- what both see
pub held_alike : (loose : ℕ → Bool) (k c : ℕ) (w v : World) → loose c ≡ false → Near loose k w v → found_taken (held_at c v.names) ≡ found_taken (held_at c w.names)
held_alike loose k c w v f r = sym (held_firm loose c v.names f) ∙ ap (held_at c) r.alike.same ∙ held_firm loose c w.names f

-- the change at one of two worlds that are seen as one
pub seen_as : (loose : ℕ → Bool) (op : World → World) (k j : ℕ) (w v : World) → Near loose k w v → ((l : Lists) → Near loose k w (with_lists l w) → Near loose j (op w) (op (with_lists l w))) → Near loose j (op w) (op v)
seen_as loose op k j w v r h =
    let e = r.alike.seen in
    let l = r.alike.lists in
    subst (λ (x : World). Near loose j (op w) (op x)) (sym e) (h l (subst (Near loose k w) e r))

-- listeners
from_same : (k : ℕ) (l : Lists) (w : World) (n : ℕ) → listener_from k (with_lists l w) n ≡ listener_from k w n
from_same zero l w n = refl
from_same (suc k) l w n = over_same (owner_of n w.nodes) (from_same k l w)
  where
    if_same : (b : Bool) (f g : ℕ → Option ℕ) (m : ℕ) → ((x : ℕ) → f x ≡ g x) → listener_if b f m ≡ listener_if b g m
    if_same true f g m h = refl
    if_same false f g m h = h m

    over_same : (o : Option Entry) → ((x : ℕ) → listener_from k (with_lists l w) x ≡ listener_from k w x) → listener_over (listener_from k (with_lists l w)) w.awaited n o ≡ listener_over (listener_from k w) w.awaited n o
    over_same None h = refl
    over_same (Some owner) h = if_same (has_event owner.form) (listener_from k (with_lists l w)) (listener_from k w) owner.number h

arm_same : (way : Way) (o : Option ℕ) (l : Lists) (w : World) → arm_listener way o (with_lists l w) ≡ with_lists l (arm_listener way o w)
arm_same way None l w = refl
arm_same way (Some e) l w = refl

arm_leaves : (way : Way) (o : Option ℕ) (w : World) → Leaves w (arm_listener way o w)
arm_leaves way None w = record { names = refl; limits = refl; awaited = refl }
arm_leaves way (Some e) w = record { names = refl; limits = refl; awaited = refl }

pub announced_near : (loose : ℕ → Bool) (way : Way) (n : ℕ) → Keeps loose (announced way n)
announced_near loose way n = blind loose (announced way n) (λ l w. ap (λ (o : Option ℕ). arm_listener way o (with_lists l w)) (from_same (depth_of w) l w n) ∙ arm_same way (listener n w) l w) (λ w. arm_leaves way (listener n w) w)

listened_case : (loose : ℕ → Bool) (b : Bool) (n k : ℕ) (w v : World) → is_last (depth_of v) v.nodes n ≡ is_last (depth_of w) w.nodes n → Near loose k w v → Near loose k (listened_if b n w) (listened_if b n v)
listened_case loose false n k w v e r = r
listened_case loose true n k w v e r = subst (λ (b : Bool). Near loose k (listened_if true n w) (announced (listened_way b) n v)) (sym e) (announced_near loose (listened_way (is_last (depth_of w) w.nodes n)) n k w v r)

pub listened_near : (loose : ℕ → Bool) (n : ℕ) → Keeps loose (listened n)
listened_near loose n k w v r = seen_as loose (listened n) k k w v r (λ l s. listened_case loose (ready (depth_of w) w.nodes n) n k w (with_lists l w) refl s)

pub put_near : (loose : ℕ → Bool) (n : ℕ) (form : Form) → Keeps loose (put n form)
put_near loose n form = blind loose (put n form) (λ l w. refl) (λ w. record { names = refl; limits = refl; awaited = refl })

settled_case : (loose : ℕ → Bool) (way : Way) (n : ℕ) (o : Outcome) (f : Option Form) → Keeps loose (settled_form way n o f)
settled_case loose way n o (Some (Cell None)) k w v r = announced_near loose way n k (put n (Cell (Some o)) w) (put n (Cell (Some o)) v) (put_near loose n (Cell (Some o)) k w v r)
settled_case loose way n o (Some (Cell (Some x))) k w v r = r
settled_case loose way n o None k w v r = r
settled_case loose way n o (Some _) k w v r = r

pub settled_near : (loose : ℕ → Bool) (way : Way) (n : ℕ) (o : Outcome) → Keeps loose (settled way n o)
settled_near loose way n o k w v r = seen_as loose (settled way n o) k k w v r (λ l s. settled_case loose way n o (form_at n w.nodes) k w (with_lists l w) s)

-- a node that is built
placed_same : (before : Option ℕ) (l : Lists) (w : World) → placed before (with_lists l w) ≡ with_lists l (placed before w)
placed_same None l w = refl
placed_same (Some n) l w = over (spot_of n w.spots)
  where
    by_place : (b : Bool) (x : Spot) → placed_if b x (with_lists l w) ≡ with_lists l (placed_if b x w)
    by_place true x = refl
    by_place false x = refl

    over : (o : Option Spot) → placed_over o (with_lists l w) ≡ with_lists l (placed_over o w)
    over None = refl
    over (Some x) = by_place (nat_lt 0 x.place) x

placed_leaves : (before : Option ℕ) (w : World) → Leaves w (placed before w)
placed_leaves None w = record { names = refl; limits = refl; awaited = refl }
placed_leaves (Some n) w = over (spot_of n w.spots)
  where
    by_place : (b : Bool) (x : Spot) → Leaves w (placed_if b x w)
    by_place true x = record { names = refl; limits = refl; awaited = refl }
    by_place false x = record { names = refl; limits = refl; awaited = refl }

    over : (o : Option Spot) → Leaves w (placed_over o w)
    over None = record { names = refl; limits = refl; awaited = refl }
    over (Some x) = by_place (nat_lt 0 x.place) x

pub built_near : (loose : ℕ → Bool) (before : Option ℕ) (form : Form) → Keeps loose (built before form)
built_near loose before form = blind loose (built before form) (λ l w. ap (λ (u : World). record u { nodes = u.nodes; next = u.next }) refl ∙ numbered_same l w) (λ w. let p = placed_leaves before w in record { names = p.names; limits = p.limits; awaited = p.awaited })
  where
    numbered_same : (l : Lists) (w : World) → built before form (with_lists l w) ≡ with_lists l (built before form w)
    numbered_same l w = ap (Rattle.kj_model.specs.Places.numbered form) (placed_same before l w)

-- names
pub unnamed_near : (loose : ℕ → Bool) (c : ℕ) → Keeps loose (unnamed c)
unnamed_near loose c k w v r =
    let a = r.alike in
    let x = length_without c w.names in
    let y = length_without c v.names in
    let p = r.left in
    let q = r.right in
    record {
      alike = record {
        lists = record { names = without_name c v.names; asks = a.lists.asks; ended = a.lists.ended; abandoned = a.lists.abandoned };
        seen = ap (λ (u : World). with_names (without_name c v.names) u) a.seen;
        same = firm_without loose c v.names ∙ ap (without_name c) a.same ∙ sym (firm_without loose c w.names);
        left = sorted_without loose c w.names a.left;
        right = sorted_without loose c v.names a.right;
        awaited = a.awaited;
      };
      left = omega (arith, x, p);
      right = omega (arith, y, q);
    }

firm_named : (loose : ℕ → Bool) (x : Named) (xs ys : List Named) → AreRising xs → AreRising ys → firm_names loose ys ≡ firm_names loose xs → firm_names loose (with_new x ys) ≡ firm_names loose (with_new x xs)
firm_named loose x xs ys p q e = decide (loose x.name) refl
  where
    decide : (b : Bool) → loose x.name ≡ b → firm_names loose (with_new x ys) ≡ firm_names loose (with_new x xs)
    decide true h = firm_with_loose loose x ys h ∙ e ∙ sym (firm_with_loose loose x xs h)
    decide false h = firm_with loose x ys h q ∙ ap (with_new (name_as_taken x)) e ∙ sym (firm_with loose x xs h p)

named_alike : (loose : ℕ → Bool) (c : ℕ) (held : Held) (w v : World) → (loose c ≡ true → is_spent (Some held) ≡ true) → Alike loose w v → Alike loose (named c held w) (named c held v)
named_alike loose c held w v h a =
    let x : Named = record { name = c; held = held } in
    let left = sorted_without loose c w.names a.left in
    let right = sorted_without loose c v.names a.right in
    record {
      lists = record { names = with_new x (without_name c v.names); asks = a.lists.asks; ended = a.lists.ended; abandoned = a.lists.abandoned };
      seen = ap (λ (u : World). with_names (with_new x (without_name c v.names)) u) a.seen;
      same = firm_named loose x (without_name c w.names) (without_name c v.names) left.rising right.rising (firm_without loose c v.names ∙ ap (without_name c) a.same ∙ sym (firm_without loose c w.names));
      left = sorted_with loose x (without_name c w.names) h (absent_without c w.names) left;
      right = sorted_with loose x (without_name c v.names) h (absent_without c v.names) right;
      awaited = a.awaited;
    }

-- a new name takes room for one
pub new_near : (loose : ℕ → Bool) (c : ℕ) (held : Held) (k : ℕ) (w v : World) → (loose c ≡ true → is_spent (Some held) ≡ true) → Near loose (suc k) w v → Near loose k (named c held w) (named c held v)
new_near loose c held k w v h r =
    let x : Named = record { name = c; held = held } in
    let a = length_with x (without_name c w.names) in
    let b = length_with x (without_name c v.names) in
    let m = length_without c w.names in
    let n = length_without c v.names in
    let p = r.left in
    let q = r.right in
    record { alike = named_alike loose c held w v h r.alike; left = omega (arith, a, m, p); right = omega (arith, b, n, q) }

-- one that is there takes none
pub named_near : (loose : ℕ → Bool) (c : ℕ) (held : Held) (k : ℕ) (w v : World) → (loose c ≡ true → is_spent (Some held) ≡ true) → is_some (held_at c w.names) ≡ true → is_some (held_at c v.names) ≡ true → Near loose k w v → Near loose k (named c held w) (named c held v)
named_near loose c held k w v h i j r =
    let x : Named = record { name = c; held = held } in
    let a = length_with x (without_name c w.names) in
    let b = length_with x (without_name c v.names) in
    let m = length_present c w.names i in
    let n = length_present c v.names j in
    let p = r.left in
    let q = r.right in
    record { alike = named_alike loose c held w v h r.alike; left = omega (arith, a, m, p); right = omega (arith, b, n, q) }

-- a tree in place of another
pub replaced_near : (loose : ℕ → Bool) (old new : ℕ) → Keeps loose (replaced old new)
replaced_near loose old new k w v r =
    let a = r.alike in
    let x = length_renamed old new w.names in
    let y = length_renamed old new v.names in
    let p = r.left in
    let q = r.right in
    record {
      alike = record {
        lists = record { names = map (named_renamed old new) v.names; asks = a.lists.asks; ended = a.lists.ended; abandoned = a.lists.abandoned };
        seen = ap (replaced old new) a.seen ∙ ap (λ (ns : List Named). with_names (map (named_renamed old new) ns) (replaced old new (with_lists a.lists w))) (ap (λ (u : World). u.names) (sym a.seen));
        same = firm_renamed loose old new v.names ∙ ap (map (named_renamed old new)) a.same ∙ sym (firm_renamed loose old new w.names);
        left = sorted_renamed loose old new w.names a.left;
        right = sorted_renamed loose old new v.names a.right;
        awaited = λ b e. firm_after w.awaited a.awaited b e;
      };
      left = omega (arith, x, p);
      right = omega (arith, y, q);
    }
  where
    firm_after : (o : Option Awaited) → ((a : Awaited) → o ≡ Some a → loose a.name ≡ false) → (b : Awaited) → awaited_renamed old new o ≡ Some b → loose b.name ≡ false
    firm_after None h b e = absurd (false≢true (ap is_some e))
    firm_after (Some a) h b e = ap (λ (o : Option Awaited). name_loose o) (sym e) ∙ h a refl
      where
        name_loose : Option Awaited → Bool
        name_loose None = false
        name_loose (Some x) = loose x.name

-- lists that change in any way
pub lists_near : (loose : ℕ → Bool) (k : ℕ) (qs bs : List Asked) (es fs : List Ended) (cs ds : List ℕ) (w v : World) → Near loose k w v → Near loose k (record w { asks = qs; ended = es; abandoned = cs }) (record v { asks = bs; ended = fs; abandoned = ds })
lists_near loose k qs bs es fs cs ds w v r =
    let a = r.alike in
    record {
      alike = record {
        lists = record { names = v.names; asks = bs; ended = fs; abandoned = ds };
        seen = ap (λ (u : World). record u { names = v.names; asks = bs; ended = fs; abandoned = ds }) a.seen;
        same = a.same;
        left = a.left;
        right = a.right;
        awaited = a.awaited;
      };
      left = r.left;
      right = r.right;
    }

-- what is read off both, but for lists and names
pub read_alike : {A : Type 0} (loose : ℕ → Bool) (k : ℕ) (r : World → A) (w v : World) → ((l : Lists) (u : World) → r (with_lists l u) ≡ r u) → Near loose k w v → r w ≡ r v
read_alike loose k r w v h n = sym (ap r n.alike.seen ∙ h n.alike.lists w)

-- both have this name
pub record Both (c : ℕ) (w v : World) : Type 0 where
  pub left : is_some (held_at c w.names) ≡ true
  pub right : is_some (held_at c v.names) ≡ true

pub some_taken : (o : Option Held) → is_some (found_taken o) ≡ is_some o
some_taken None = refl
some_taken (Some h) = refl

-- a change that goes by what a name holds, where it doesn't see whether an ask was taken, and does nothing for what is spent
pub by_held : (loose : ℕ → Bool) (op : Option Held → World → World) (c k j : ℕ) (w v : World) → k ≤ j → ((h : Option Held) (u : World) → op (found_taken h) u ≡ op h u) → ((h : Option Held) (u : World) → is_spent h ≡ true → op h u ≡ u) → ((h : Option Held) → (is_some h ≡ true → Both c w v) → loose c ≡ false → Near loose k (op h w) (op h v)) → Near loose j w v → Near loose k (op (held_at c w.names) w) (op (held_at c v.names) v)
by_held loose op c k j w v less untold none step r = decide (loose c) refl
  where
    decide : (b : Bool) → loose c ≡ b → Near loose k (op (held_at c w.names) w) (op (held_at c v.names) v)
    decide true e =
        let x = none (held_at c w.names) w (held_spent loose c w.names e r.alike.left.spent) in
        let y = none (held_at c v.names) v (held_spent loose c v.names e r.alike.right.spent) in
        subst (λ (u : World). Near loose k u (op (held_at c v.names) v)) (sym x) (subst (Near loose k w) (sym y) (less_room loose j k w v less r))
    decide false e =
        let h = found_taken (held_at c w.names) in
        let same = held_alike loose j c w v e r in
        let x = untold (held_at c w.names) w in
        let y = ap (λ (o : Option Held). op o v) (sym same) ∙ untold (held_at c v.names) v in
        let n = step h (λ i. record { left = sym (some_taken (held_at c w.names)) ∙ i; right = sym (some_taken (held_at c v.names)) ∙ ap is_some same ∙ i }) e in
        subst (λ (u : World). Near loose k u (op (held_at c v.names) v)) x (subst (Near loose k (op h w)) y n)
