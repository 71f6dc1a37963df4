-- What stays listed over single changes of a world.
use Rattle.std.proofs.Common.{◌≡◌, ℕ, ◌+◌, ◌≤◌, ◌<◌, List, [], ◌∷◌, Bool, true, false, not, cond, Option, None, Some, arith, refl, sym, ap, ◌∙◌, subst, ◌==◌}
use Rattle.std.specs.Prelude.{nat_eq, is_some, map}
use Rattle.std.proofs.lemmas.Bool.{false≢true}
use Rattle.std.proofs.lemmas.Bool.Decides.{nat_tests}
use Rattle.kj_base.specs.Queue.{Way}
use Rattle.kj_model.specs.Nodes.{Entry, Form, form_at, with_form}
use Rattle.kj_model.specs.World.{World, Named, Held, Promise, CellOf, AskCell, HubOf, Group, Canceler, RequestOf, Asked, Ended, held_at}
use Rattle.kj_model.specs.Changes.{put, named, unnamed, with_new, without_name, gone_world}
use Rattle.kj_model.specs.Places.{built}
use Rattle.kj_model.specs.Listening.{announced, listened}
use Rattle.kj_model.specs.Fire.{held_renamed, named_renamed, replaced}
use Rattle.kj_model.specs.Framed.{times, name_numbers, NamesApart}
use Rattle.kj_model.proofs.Spared.{same_number, form_put_other, form_without_other, form_without_same}
use Rattle.kj_model.proofs.Counts.{new_names, without_times, held_there}
use Rattle.kj_ownership.specs.Owners.{is_live}
use Rattle.kj_ownership.specs.Standing.{one_if}
use Rattle.kj_ownership.proofs.Moves.{built_grows, app_other}
use Rattle.kj_ownership.proofs.Reached.{QueueOnly, announced_only, listened_only}
use Rattle.kj_ownership.proofs.Replaced.{form_renamed, live_renamed}
use Rattle.kj_ownership.proofs.Shapes.{held_named, held_unnamed}
use Rattle.kj_takings.specs.Told.{ask_cells, ended_names, is_untaken, is_request, has_ended, is_lost_ask, ask_node, StartsWith, TellsOnce}

-- what a name holds, where it is an ask's cell or a request; the node of a request is left out
abbrev pub kind : Option Held → Option Held
kind (Some (AskCell cell is_taken)) = Some (AskCell cell is_taken)
kind (Some (RequestOf None)) = Some (RequestOf None)
kind (Some (RequestOf (Some node))) = Some (RequestOf (Some 0))
kind other = None

-- a request that runs
abbrev pub running : Option Held
running = Some (RequestOf (Some 0))

-- the nodes of the cells whose asks were told, and of those that were told as abandoned; names whose end isn't listed yet;
-- the names of requests; names with the cells that they hold still; and what stands first in the lists
pub record Tales : Type 0 where
  pub asks : ℕ → Bool
  pub lost : ℕ → Bool
  pub pending : List ℕ
  pub requests : ℕ → Bool
  pub cells : ℕ → Option ℕ
  pub first_asks : List Asked
  pub first_ended : List Ended
  pub first_lost : List ℕ

-- the lists tell each once, after these tales; and no two names have the cell of one ask
pub record Listed (told : Tales) (w : World) : Type 0 where
  pub apart : NamesApart w.names
  pub asks : (c : ℕ) → times c (ask_cells w.asks) ≡ one_if (is_untaken (held_at c w.names))
  pub ended : (c : ℕ) → times c told.pending + times c (ended_names w.ended) ≡ one_if (has_ended (held_at c w.names))
  pub abandoned : (c : ℕ) → times c w.abandoned ≤ one_if (is_lost_ask w.nodes (held_at c w.names))
  pub cells : (c d p : ℕ) (a b : Bool) → held_at c w.names ≡ Some (AskCell p a) → held_at d w.names ≡ Some (AskCell p b) → c ≡ d
  pub built : (c p : ℕ) (b : Bool) → held_at c w.names ≡ Some (AskCell p b) → p < w.next
  pub taken : (c p : ℕ) (b : Bool) → held_at c w.names ≡ Some (AskCell p b) → told.asks p ≡ b
  pub untold : (c p : ℕ) (b : Bool) → held_at c w.names ≡ Some (AskCell p b) → told.lost p ≡ true → ⊥
  pub old_asks : (p : ℕ) → told.asks p ≡ true → p < w.next
  pub old_lost : (p : ℕ) → told.lost p ≡ true → p < w.next
  pub requests : (c : ℕ) → is_request (held_at c w.names) ≡ told.requests c
  pub stay : (c p : ℕ) → told.cells c ≡ Some p → ask_node (held_at c w.names) ≡ Some p
  pub first_asks : StartsWith told.first_asks w.asks
  pub first_ended : StartsWith told.first_ended w.ended
  pub first_lost : StartsWith told.first_lost w.abandoned

-- no list is touched, names hold the same where they may be listed, and no node comes back
pub record Spares (w v : World) : Type 0 where
  pub asks : v.asks ≡ w.asks
  pub ended : v.ended ≡ w.ended
  pub abandoned : v.abandoned ≡ w.abandoned
  pub next : w.next ≤ v.next
  pub live : (p : ℕ) → p < w.next → is_live p v.nodes ≡ true → is_live p w.nodes ≡ true
  pub apart : NamesApart w.names → NamesApart v.names
  pub kinds : (c : ℕ) → kind (held_at c v.names) ≡ kind (held_at c w.names)

-- a change after which the lists still tell each once
pub record Leaves (w v : World) : Type 0 where
  pub kinds : (c : ℕ) → kind (held_at c v.names) ≡ kind (held_at c w.names)
  pub listed : (told : Tales) → Listed told w → Listed told v

pub leaves_none : (w : World) → Leaves w w
leaves_none w = record { kinds = λ c. refl; listed = λ told g. g }

pub leaves_then : (u v w : World) → Leaves u v → Leaves v w → Leaves u w
leaves_then u v w a b = record { kinds = λ c. b.kinds c ∙ a.kinds c; listed = λ told g. b.listed told (a.listed told g) }

-- kinds
no_held : (h : Held) → ◌≡◌ {A = Option Held} None (Some h) → ⊥
no_held h e = cc

none_runs : (p : ℕ) (b : Bool) → running ≡ Some (AskCell p b) → ⊥
none_runs p b e = cc

none_kept : (p : ℕ) (b : Bool) → ◌≡◌ {A = Option Held} (Some (RequestOf None)) (Some (AskCell p b)) → ⊥
none_kept p b e = cc

pub kind_ask : (o : Option Held) (p : ℕ) (b : Bool) → kind o ≡ Some (AskCell p b) → o ≡ Some (AskCell p b)
kind_ask (Some (AskCell cell is_taken)) p b e = e
kind_ask (Some (RequestOf None)) p b e = absurd (none_kept p b e)
kind_ask (Some (RequestOf (Some n))) p b e = absurd (none_runs p b e)
kind_ask None p b e = absurd (no_held _ e)
kind_ask (Some _) p b e = absurd (no_held _ e)

untaken_kind : (o : Option Held) → is_untaken o ≡ is_untaken (kind o)
untaken_kind (Some (AskCell cell is_taken)) = refl
untaken_kind (Some (RequestOf None)) = refl
untaken_kind (Some (RequestOf (Some n))) = refl
untaken_kind None = refl
untaken_kind (Some _) = refl

ended_kind : (o : Option Held) → has_ended o ≡ has_ended (kind o)
ended_kind (Some (AskCell cell is_taken)) = refl
ended_kind (Some (RequestOf None)) = refl
ended_kind (Some (RequestOf (Some n))) = refl
ended_kind None = refl
ended_kind (Some _) = refl

request_kind : (o : Option Held) → is_request o ≡ is_request (kind o)
request_kind (Some (AskCell cell is_taken)) = refl
request_kind (Some (RequestOf None)) = refl
request_kind (Some (RequestOf (Some n))) = refl
request_kind None = refl
request_kind (Some _) = refl

node_kind : (o : Option Held) → ask_node o ≡ ask_node (kind o)
node_kind (Some (AskCell cell is_taken)) = refl
node_kind (Some (RequestOf None)) = refl
node_kind (Some (RequestOf (Some n))) = refl
node_kind None = refl
node_kind (Some _) = refl

lost_kind : (nodes : List Entry) (o : Option Held) → is_lost_ask nodes o ≡ is_lost_ask nodes (kind o)
lost_kind nodes (Some (AskCell cell is_taken)) = refl
lost_kind nodes (Some (RequestOf None)) = refl
lost_kind nodes (Some (RequestOf (Some n))) = refl
lost_kind nodes None = refl
lost_kind nodes (Some _) = refl

pub same_untaken : (o p : Option Held) → kind p ≡ kind o → is_untaken p ≡ is_untaken o
same_untaken o p e = untaken_kind p ∙ ap is_untaken e ∙ sym (untaken_kind o)

pub same_ended : (o p : Option Held) → kind p ≡ kind o → has_ended p ≡ has_ended o
same_ended o p e = ended_kind p ∙ ap has_ended e ∙ sym (ended_kind o)

pub same_request : (o p : Option Held) → kind p ≡ kind o → is_request p ≡ is_request o
same_request o p e = request_kind p ∙ ap is_request e ∙ sym (request_kind o)

pub same_node : (o p : Option Held) → kind p ≡ kind o → ask_node p ≡ ask_node o
same_node o p e = node_kind p ∙ ap ask_node e ∙ sym (node_kind o)

pub same_lost : (nodes : List Entry) (o p : Option Held) → kind p ≡ kind o → is_lost_ask nodes p ≡ is_lost_ask nodes o
same_lost nodes o p e = lost_kind nodes p ∙ ap (is_lost_ask nodes) e ∙ sym (lost_kind nodes o)

not_less : (a b : Bool) → (b ≡ true → a ≡ true) → one_if (not a) ≤ one_if (not b)
not_less true b h = omega arith
not_less false true h = absurd (false≢true (h refl))
not_less false false h = omega arith

-- where no node comes back, no fewer cells are lost
pub lost_more : (o : Option Held) (old new : List Entry) → ((p : ℕ) (b : Bool) → o ≡ Some (AskCell p b) → is_live p new ≡ true → is_live p old ≡ true) → one_if (is_lost_ask old o) ≤ one_if (is_lost_ask new o)
lost_more (Some (AskCell cell is_taken)) old new h = not_less (is_live cell old) (is_live cell new) (h cell is_taken refl)
lost_more (Some (RequestOf None)) old new h = omega arith
lost_more (Some (RequestOf (Some n))) old new h = omega arith
lost_more None old new h = omega arith
lost_more (Some _) old new h = omega arith

spared : (told : Tales) (w v : World) → Spares w v → Listed told w → Listed told v
spared told w v s g = record {
  apart = s.apart g.apart;
  asks = λ c. ap (λ (xs : List Asked). times c (ask_cells xs)) s.asks ∙ g.asks c ∙ ap one_if (sym (same_untaken (held_at c w.names) (held_at c v.names) (s.kinds c)));
  ended = λ c. ap (λ (xs : List Ended). times c told.pending + times c (ended_names xs)) s.ended ∙ g.ended c ∙ ap one_if (sym (same_ended (held_at c w.names) (held_at c v.names) (s.kinds c)));
  abandoned = λ c. fewer c;
  cells = λ c d p a b e f. g.cells c d p a b (back c p a e) (back d p b f);
  built = λ c p b e. (let k = g.built c p b (back c p b e) in let n = s.next in omega (arith, k, n));
  taken = λ c p b e. g.taken c p b (back c p b e);
  untold = λ c p b e. g.untold c p b (back c p b e);
  old_asks = λ p e. (let k = g.old_asks p e in let n = s.next in omega (arith, k, n));
  old_lost = λ p e. (let k = g.old_lost p e in let n = s.next in omega (arith, k, n));
  requests = λ c. same_request (held_at c w.names) (held_at c v.names) (s.kinds c) ∙ g.requests c;
  stay = λ c p e. same_node (held_at c w.names) (held_at c v.names) (s.kinds c) ∙ g.stay c p e;
  first_asks = (g.first_asks.0, s.asks ∙ g.first_asks.1);
  first_ended = (g.first_ended.0, s.ended ∙ g.first_ended.1);
  first_lost = (g.first_lost.0, s.abandoned ∙ g.first_lost.1);
}
  where
    back : (c p : ℕ) (b : Bool) → held_at c v.names ≡ Some (AskCell p b) → held_at c w.names ≡ Some (AskCell p b)
    back c p b e = kind_ask (held_at c w.names) p b (sym (s.kinds c) ∙ ap kind e)

    fewer : (c : ℕ) → times c v.abandoned ≤ one_if (is_lost_ask v.nodes (held_at c v.names))
    fewer c =
        let a : times c v.abandoned ≡ times c w.abandoned = ap (times c) s.abandoned in
        let b = g.abandoned c in
        let d = lost_more (held_at c w.names) w.nodes v.nodes (λ p b e. s.live p (g.built c p b e)) in
        let f : one_if (is_lost_ask v.nodes (held_at c v.names)) ≡ one_if (is_lost_ask v.nodes (held_at c w.names)) = ap one_if (same_lost v.nodes (held_at c w.names) (held_at c v.names) (s.kinds c)) in
        omega (arith, a, b, d, f)

pub leaves_of : (w v : World) → Spares w v → Leaves w v
leaves_of w v s = record { kinds = s.kinds; listed = λ told g. spared told w v s g }

-- names, nodes and lists stay
pub stays : (w v : World) → v.asks ≡ w.asks → v.ended ≡ w.ended → v.abandoned ≡ w.abandoned → v.next ≡ w.next → v.nodes ≡ w.nodes → v.names ≡ w.names → Leaves w v
stays w v a b c d e f = leaves_of w v (record {
  asks = a;
  ended = b;
  abandoned = c;
  next = omega (arith, d);
  live = λ p l h. sym (ap (is_live p) e) ∙ h;
  apart = λ h. subst NamesApart (sym f) h;
  kinds = λ n. ap (λ (ns : List Named). kind (held_at n ns)) f;
})

-- the queue
queue_leaves : (w v : World) → QueueOnly w v → Leaves w v
queue_leaves w v o = subst (Leaves w) (sym o.same) (stays w (record w { queue = o.queue }) refl refl refl refl refl refl)

pub announced_leaves : (way : Way) (n : ℕ) (w : World) → Leaves w (announced way n w)
announced_leaves way n w = queue_leaves w (announced way n w) (announced_only way n w)

pub listened_leaves : (n : ℕ) (w : World) → Leaves w (listened n w)
listened_leaves n w = queue_leaves w (listened n w) (listened_only n w)

-- a form in place of another
put_none : (n : ℕ) (form : Form) (es : List Entry) → form_at n es ≡ None → form_at n (with_form n form es) ≡ None
put_none n form [] h = refl
put_none n form (e ∷ es) h = more (put_none n form es) h
  where
    more : (form_at n es ≡ None → form_at n (with_form n form es) ≡ None) → form_at n (e ∷ es) ≡ None → form_at n (with_form n form (e ∷ es)) ≡ None
    more ih h = grind (arith, nat_tests)

put_live : (n m : ℕ) (form : Form) (es : List Entry) → is_live m (with_form n form es) ≡ true → is_live m es ≡ true
put_live n m form es l = decide (nat_eq n m) refl
  where
    here : (o : Option Form) → form_at n es ≡ o → is_live n (with_form n form es) ≡ true → is_live n es ≡ true
    here None at l = absurd (false≢true (sym (ap is_some (put_none n form es at)) ∙ l))
    here (Some old) at l = ap is_some at

    decide : (b : Bool) → nat_eq n m ≡ b → is_live m es ≡ true
    decide true e = subst (λ (k : ℕ). is_live k es ≡ true) (sym (same_number n m e)) (here (form_at n es) refl (subst (λ (k : ℕ). is_live k (with_form n form es) ≡ true) (same_number n m e) l))
    decide false e = sym (ap is_some (form_put_other n m form es e)) ∙ l

pub put_leaves : (n : ℕ) (form : Form) (w : World) → Leaves w (put n form w)
put_leaves n form w = leaves_of w (put n form w) (record { asks = refl; ended = refl; abandoned = refl; next = omega arith; live = λ p l h. put_live n p form w.nodes h; apart = λ a. a; kinds = λ c. refl })

-- a node more
pub built_leaves : (before : Option ℕ) (form : Form) (w : World) → Leaves w (built before form w)
built_leaves before form w =
    let g = built_grows before form w in
    let e : Entry = record { number = w.next; form = form } in
    subst (Leaves w) (sym g.3) (leaves_of w _ (record {
      asks = refl;
      ended = refl;
      abandoned = refl;
      next = omega arith;
      live = λ p l h. sym (ap is_some (app_other p e w.nodes (apart p l))) ∙ h;
      apart = λ a. a;
      kinds = λ c. refl;
    }))
  where
    apart : (p : ℕ) → p < w.next → nat_eq w.next p ≡ false
    apart p l = grind (arith, nat_tests)

-- a node less
gone_live : (n m : ℕ) (w : World) → is_live m (gone_world n w).nodes ≡ true → is_live m w.nodes ≡ true
gone_live n m w l = decide (nat_eq n m) refl
  where
    decide : (b : Bool) → nat_eq n m ≡ b → is_live m w.nodes ≡ true
    decide true e = absurd (false≢true (sym (ap is_some (subst (λ (k : ℕ). form_at k (gone_world n w).nodes ≡ None) (sym (same_number n m e)) (form_without_same n w.nodes))) ∙ l))
    decide false e = sym (ap is_some (form_without_other n m w.nodes e)) ∙ l

pub gone_leaves : (n : ℕ) (w : World) → Leaves w (gone_world n w)
gone_leaves n w = leaves_of w (gone_world n w) (record { asks = refl; ended = refl; abandoned = refl; next = omega arith; live = λ p l h. gone_live n p w h; apart = λ a. a; kinds = λ c. refl })

-- names
pub left_apart : (name : ℕ) (names : List Named) → NamesApart names → NamesApart (without_name name names)
left_apart name names a c = let t = without_times c name names in let b = a c in less (name == c) (times c (name_numbers (without_name name names))) (times c (name_numbers names)) t b
  where
    less : (b : Bool) (a t : ℕ) → a ≡ cond b 0 t → t ≤ 1 → a ≤ 1
    less true a t e h = omega (arith, e)
    less false a t e h = omega (arith, e, h)

pub new_apart : (name : ℕ) (held : Held) (names : List Named) → NamesApart names → NamesApart (with_new (record { name = name; held = held }) (without_name name names))
new_apart name held names a c =
    let x : Named = record { name = name; held = held } in
    let t = without_times c name names in
    let n = new_names c x (without_name name names) in
    let b = a c in
    less (name == c) (times c (name_numbers (with_new x (without_name name names)))) (times c (name_numbers (without_name name names))) (times c (name_numbers names)) n t b
  where
    less : (b : Bool) (r a t : ℕ) → r ≡ cond b 1 0 + a → a ≡ cond b 0 t → t ≤ 1 → r ≤ 1
    less true r a t n e h = omega (arith, n, e)
    less false r a t n e h = omega (arith, n, e, h)

at_name : (c d : ℕ) (h : Option Held) (names : List Named) → kind h ≡ kind (held_at d names) → kind (cond (d == c) h (held_at c names)) ≡ kind (held_at c names)
at_name c d h names e = decide (nat_eq d c) refl
  where
    decide : (b : Bool) → nat_eq d c ≡ b → kind (cond b h (held_at c names)) ≡ kind (held_at c names)
    decide true f = e ∙ sym (ap (λ (k : ℕ). kind (held_at k names)) (same_number d c f))
    decide false f = refl

-- a name that is in no list holds something else that is in none
pub named_leaves : (name : ℕ) (held : Held) (w : World) → kind (Some held) ≡ None → kind (held_at name w.names) ≡ None → Leaves w (named name held w)
named_leaves name held w k e = leaves_of w (named name held w) (record { asks = refl; ended = refl; abandoned = refl; next = omega arith; live = λ p l h. h; apart = new_apart name held w.names; kinds = λ c. ap kind (held_named c name held w) ∙ at_name c name (Some held) w.names (k ∙ sym e) })

pub unnamed_leaves : (name : ℕ) (w : World) → kind (held_at name w.names) ≡ None → Leaves w (unnamed name w)
unnamed_leaves name w e = leaves_of w (unnamed name w) (record { asks = refl; ended = refl; abandoned = refl; next = omega arith; live = λ p l h. h; apart = left_apart name w.names; kinds = λ c. ap kind (held_unnamed c name w.names) ∙ at_name c name None w.names (sym e) })

-- a name that isn't there
pub absent_kind : (c : ℕ) (names : List Named) → times c (name_numbers names) ≡ 0 → kind (held_at c names) ≡ None
absent_kind c names z = decide (held_at c names) refl
  where
    clash : (t : ℕ) → 1 ≤ t → t ≡ 0 → ⊥
    clash t a b = omega (arith, a, b)

    decide : (o : Option Held) → held_at c names ≡ o → kind o ≡ None
    decide None e = refl
    decide (Some h) e = absurd (clash (times c (name_numbers names)) (held_there c names h e) z)

-- a tree in another's place
renamed_kind : (old new : ℕ) (h : Held) → kind (Some (held_renamed old new h)) ≡ kind (Some h)
renamed_kind old new (Promise root) = refl
renamed_kind old new (CellOf cell) = refl
renamed_kind old new (AskCell cell is_taken) = refl
renamed_kind old new (HubOf hub) = refl
renamed_kind old new (Group error tasks empty) = refl
renamed_kind old new (Canceler wraps) = refl
renamed_kind old new (RequestOf request) = refl

renamed_at : (old new c : ℕ) (xs : List Named) → kind (held_at c (map (named_renamed old new) xs)) ≡ kind (held_at c xs)
renamed_at old new c [] = refl
renamed_at old new c (x ∷ xs) = decide (nat_eq x.name c) refl (renamed_at old new c xs)
  where
    first : (y : Named) (ys : List Named) → nat_eq y.name c ≡ true → held_at c (y ∷ ys) ≡ Some y.held
    first y ys d = grind (arith, nat_tests)

    later : (y : Named) (ys : List Named) → nat_eq y.name c ≡ false → held_at c (y ∷ ys) ≡ held_at c ys
    later y ys d = grind (arith, nat_tests)

    decide : (b : Bool) → nat_eq x.name c ≡ b → kind (held_at c (map (named_renamed old new) xs)) ≡ kind (held_at c xs) → kind (held_at c (map (named_renamed old new) (x ∷ xs))) ≡ kind (held_at c (x ∷ xs))
    decide true d ih = ap kind (first (named_renamed old new x) (map (named_renamed old new) xs) d) ∙ renamed_kind old new x.held ∙ sym (ap kind (first x xs d))
    decide false d ih = ap kind (later (named_renamed old new x) (map (named_renamed old new) xs) d) ∙ ih ∙ sym (ap kind (later x xs d))

renamed_numbers : (old new : ℕ) (xs : List Named) → name_numbers (map (named_renamed old new) xs) ≡ name_numbers xs
renamed_numbers old new [] = refl
renamed_numbers old new (x ∷ xs) = ap (λ ns. x.name ∷ ns) (renamed_numbers old new xs)

pub replaced_leaves : (old new : ℕ) (w : World) → Leaves w (replaced old new w)
replaced_leaves old new w = leaves_of w (replaced old new w) (record { asks = refl; ended = refl; abandoned = refl; next = omega arith; live = λ p l h. sym (ap is_some (form_renamed old new p w.nodes) ∙ live_renamed old new (form_at p w.nodes)) ∙ h; apart = λ a c. subst (λ (ns : List ℕ). times c ns ≤ 1) (sym (renamed_numbers old new w.names)) (a c); kinds = λ c. renamed_at old new c w.names })

-- so each is told once
pub tells_once : (told : Tales) (w : World) → told.pending ≡ [] → Listed told w → TellsOnce w
tells_once told w e g = record {
  asks = g.asks;
  ended = λ c. (let a = g.ended c in let b : times c told.pending ≡ 0 = ap (times c) e in omega (arith, a, b));
  abandoned = g.abandoned;
}
