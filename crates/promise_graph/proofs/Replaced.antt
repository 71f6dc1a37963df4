-- A tree takes the place of another.
use Rattle.std.proofs.Common.{◌≡◌, ◌≢◌, ℕ, ◌<◌, List, [], ◌∷◌, Option, None, Some, Bool, true, false, cond, length, arith, refl, sym, ap, ◌∙◌, inl, inr, subst}
use Rattle.std.specs.Prelude.{◌==◌, ◌||◌, IsSome}
use Rattle.std.proofs.lemmas.Bool.{cases_eq, false≢true}
use Rattle.std.proofs.lemmas.Bool.Decides.{nat_tests}
use Rattle.kj_base.specs.Queue.{Events}
use Rattle.kj_base.specs.Places.{Spot}
use Rattle.kj_base.specs.Store.{KeepsOthers}
use Rattle.kj_base.specs.declared.nodes.Node.{Node}
use Rattle.kj_base.specs.declared.nodes.Link.{Link}
use Rattle.kj_base.specs.declared.nodes.Form.{Form as FormCase}
use Rattle.kj_model.specs.Nodes.{Tree, Kept, Waits, Fired, Keeps, Gone, Form, Ready, Later, Last, Cell, Branch, Then, Chain, Eager, Wrap, Hub, Side, Race, Join, Task, Request, Entry as Seen, form_at, is_in, parts_of, owner_of, with_form, with_tree_renamed, renamed, renamed_if, renamed_form}
use Rattle.kj_model.specs.World.{World}
use Rattle.kj_model.specs.Fire.{branches_of}
use Rattle.promise_nodes.specs.Shown.{shown, SeesOwner}
use Rattle.promise_nodes.specs.Kept.{IsLive, RisesIn, is_hub, hub_of as hub_in, put_form, tree_replaced}
use Rattle.promise_nodes.specs.Once.{AreOnce}
use Rattle.promise_graph.specs.declared.fields.Marks.{Marks}
use Rattle.promise_graph.specs.Slots.{number_of, number_at, Finds, slot_of}
use Rattle.promise_graph.specs.Kept.{AreNumbered, IsKept, taker_at, is_taken, form_parts, is_same_kind}
use Rattle.promise_graph.specs.Standing.{HasNodes, AreOwned, IsSeen, Stands}
use Rattle.promise_graph.specs.Rows.{IsReplaced}
use Rattle.promise_graph.proofs.Lists.{some_same, none_some}
use Rattle.promise_graph.proofs.Numbered.{slot_is}
use Rattle.promise_graph.proofs.Falling.{taken_by, taken_out, untaken}
use Rattle.promise_graph.proofs.Forms.{kind_kept}
use Rattle.promise_graph.proofs.Entries.{put_nobody}
use Rattle.promise_graph.proofs.Put.{node_of, number_same, slot_case}
use Rattle.promise_graph.proofs.Owning.{here, there_case, owner_none, owner_took}
use Rattle.promise_graph.proofs.Adding.{sound_owners, seen_owners}

-- ---- the form with the new tree

hub_renamed : (o n : ℕ) (f : Form) → is_hub (renamed_form o n f) ≡ is_hub f
hub_renamed o n (Ready outcome) = refl
hub_renamed o n Later = refl
hub_renamed o n Last = refl
hub_renamed o n (Cell outcome) = refl
hub_renamed o n (Branch hub) = refl
hub_renamed o n (Then value error tree) = refl
hub_renamed o n (Chain link) = refl
hub_renamed o n (Eager content) = refl
hub_renamed o n (Wrap canceler content) = refl
hub_renamed o n (Hub content named branches) = refl
hub_renamed o n (Side stage) = refl
hub_renamed o n (Race left right winner) = refl
hub_renamed o n (Join fast sides) = refl
hub_renamed o n (Task tree) = refl
hub_renamed o n (Request name tree) = refl

hub_in_renamed : (o n : ℕ) (f : Form) → hub_in (renamed_form o n f) ≡ hub_in f
hub_in_renamed o n (Ready outcome) = refl
hub_in_renamed o n Later = refl
hub_in_renamed o n Last = refl
hub_in_renamed o n (Cell outcome) = refl
hub_in_renamed o n (Branch hub) = refl
hub_in_renamed o n (Then value error tree) = refl
hub_in_renamed o n (Chain link) = refl
hub_in_renamed o n (Eager content) = refl
hub_in_renamed o n (Wrap canceler content) = refl
hub_in_renamed o n (Hub content named branches) = refl
hub_in_renamed o n (Side stage) = refl
hub_in_renamed o n (Race left right winner) = refl
hub_in_renamed o n (Join fast sides) = refl
hub_in_renamed o n (Task tree) = refl
hub_in_renamed o n (Request name tree) = refl

-- it is of the same kind
pub replaced_kind : (o n : ℕ) (old form : FormCase) → ((branches : List ℕ) → shown branches form ≡ renamed_form o n (shown branches old)) → is_same_kind old form ≡ true
replaced_kind o n old form h = kind_kept [] old form (ap is_hub (h []) ∙ hub_renamed o n (shown [] old), ap hub_in (h []) ∙ hub_in_renamed o n (shown [] old))

one_case : (b c : Bool) (j o n t : ℕ) → (t == o) ≡ b → (renamed_if b n t == j) ≡ c → (c || false) ≡ true → j ≢ n → ((t == j) || false) ≡ true
one_case b false j o n t p q h d = absurd (false≢true h)
one_case true true j o n t p q h d = absurd (d (grind (arith, nat_tests)))
one_case false true j o n t p q h d = ap (λ (x : Bool). x || false) q

one_renamed : (j o n t : ℕ) → is_in j (renamed o n t ∷ []) ≡ true → j ≢ n → is_in j (t ∷ []) ≡ true
one_renamed j o n t h d = one_case (t == o) (renamed o n t == j) j o n t refl refl h d

-- each tree of it is the new one, or one that the form had
parts_renamed : (j o n : ℕ) (f : Form) → is_in j (parts_of (renamed_form o n f)) ≡ true → j ≢ n → is_in j (parts_of f) ≡ true
parts_renamed j o n (Ready outcome) h d = h
parts_renamed j o n Later h d = h
parts_renamed j o n Last h d = h
parts_renamed j o n (Cell outcome) h d = h
parts_renamed j o n (Branch hub) h d = h
parts_renamed j o n (Then value error None) h d = h
parts_renamed j o n (Then value error (Some t)) h d = one_renamed j o n t h d
parts_renamed j o n (Chain link) h d = h
parts_renamed j o n (Eager (Tree t)) h d = one_renamed j o n t h d
parts_renamed j o n (Eager (Kept outcome)) h d = h
parts_renamed j o n (Wrap canceler (Tree t)) h d = one_renamed j o n t h d
parts_renamed j o n (Wrap canceler (Kept outcome)) h d = h
parts_renamed j o n (Hub (Tree t) named branches) h d = one_renamed j o n t h d
parts_renamed j o n (Hub (Kept outcome) named branches) h d = h
parts_renamed j o n (Side (Waits t)) h d = one_renamed j o n t h d
parts_renamed j o n (Side (Fired t)) h d = one_renamed j o n t h d
parts_renamed j o n (Side (Keeps outcome)) h d = h
parts_renamed j o n (Side Gone) h d = h
parts_renamed j o n (Race left right winner) h d = h
parts_renamed j o n (Join fast sides) h d = h
parts_renamed j o n (Task None) h d = h
parts_renamed j o n (Task (Some t)) h d = one_renamed j o n t h d
parts_renamed j o n (Request name None) h d = h
parts_renamed j o n (Request name (Some t)) h d = one_renamed j o n t h d

still_case : (b : Bool) (n t : ℕ) → (b || false) ≡ false → renamed_if b n t ≡ t
still_case true n t h = absurd (false≢true (sym h))
still_case false n t h = refl

one_still : (o n t : ℕ) → is_in o (t ∷ []) ≡ false → renamed o n t ≡ t
one_still o n t h = still_case (t == o) n t h

-- a form without the old tree stays as it is
form_still : (o n : ℕ) (f : Form) → is_in o (parts_of f) ≡ false → renamed_form o n f ≡ f
form_still o n (Ready outcome) h = refl
form_still o n Later h = refl
form_still o n Last h = refl
form_still o n (Cell outcome) h = refl
form_still o n (Branch hub) h = refl
form_still o n (Then value error None) h = refl
form_still o n (Then value error (Some t)) h = ap (λ (x : ℕ). Then value error (Some x)) (one_still o n t h)
form_still o n (Chain link) h = refl
form_still o n (Eager (Tree t)) h = ap (λ (x : ℕ). Eager (Tree x)) (one_still o n t h)
form_still o n (Eager (Kept outcome)) h = refl
form_still o n (Wrap canceler (Tree t)) h = ap (λ (x : ℕ). Wrap canceler (Tree x)) (one_still o n t h)
form_still o n (Wrap canceler (Kept outcome)) h = refl
form_still o n (Hub (Tree t) named branches) h = ap (λ (x : ℕ). Hub (Tree x) named branches) (one_still o n t h)
form_still o n (Hub (Kept outcome) named branches) h = refl
form_still o n (Side (Waits t)) h = ap (λ (x : ℕ). Side (Waits x)) (one_still o n t h)
form_still o n (Side (Fired t)) h = ap (λ (x : ℕ). Side (Fired x)) (one_still o n t h)
form_still o n (Side (Keeps outcome)) h = refl
form_still o n (Side Gone) h = refl
form_still o n (Race left right winner) h = refl
form_still o n (Join fast sides) h = refl
form_still o n (Task None) h = refl
form_still o n (Task (Some t)) h = ap (λ (x : ℕ). Task (Some x)) (one_still o n t h)
form_still o n (Request name None) h = refl
form_still o n (Request name (Some t)) h = ap (λ (x : ℕ). Request name (Some x)) (one_still o n t h)

-- ---- the nodes

entry_with : Seen → Form → Seen
entry_with e f = record { number = e.number; form = f }

nobody_case : (b : Bool) (o n : ℕ) (e : Seen) (es : List Seen) → is_in o (parts_of e.form) ≡ b → cond b (Some e) (owner_of o es) ≡ None → (owner_of o es ≡ None → with_tree_renamed o n es ≡ es) → with_tree_renamed o n (e ∷ es) ≡ e ∷ es
nobody_case true o n e es p h k = absurd (none_some e (sym h))
nobody_case false o n e es p h k = λ i. record { number = e.number; form = form_still o n e.form p i } ∷ k h i

-- nothing changes where nobody owns the old tree
pub renamed_nobody : (o n : ℕ) (es : List Seen) → owner_of o es ≡ None → with_tree_renamed o n es ≡ es
renamed_nobody o n [] h = refl
renamed_nobody o n (e ∷ es) h = nobody_case (is_in o (parts_of e.form)) o n e es refl h (renamed_nobody o n es)

-- each node that owns o is node a
abbrev IsOnly : ℕ → ℕ → List Seen → Type 0
IsOnly o a es = (b : ℕ) (x : Form) → form_at b es ≡ Some x → is_in o (parts_of x) ≡ true → b ≡ a

only_rest : (o a : ℕ) (e : Seen) (es : List Seen) → AreOnce (e ∷ es) → IsOnly o a (e ∷ es) → IsOnly o a es
only_rest o a e es once only b x h i = only b x (there_case (e.number == b) b x e es refl once.0 h) i

other_out : (b : Bool) (o a : ℕ) (e : Seen) (es : List Seen) → (e.number == a) ≡ false → IsOnly o a (e ∷ es) → is_in o (parts_of e.form) ≡ b → is_in o (parts_of e.form) ≡ false
other_out true o a e es t only i = absurd (let same = only e.number e.form (here e es) i in false≢true (sym t ∙ (let p : (e.number == a) ≡ true = grind (arith, nat_tests) in p)))
other_out false o a e es t only i = i

put_case : (c : Bool) (o n a : ℕ) (f : Form) (e : Seen) (es : List Seen) → (e.number == a) ≡ c → AreOnce (e ∷ es) → IsOnly o a (e ∷ es) → form_at a (e ∷ es) ≡ Some f
    → (form_at a es ≡ Some f → with_tree_renamed o n es ≡ with_form a (renamed_form o n f) es) → with_tree_renamed o n (e ∷ es) ≡ with_form a (renamed_form o n f) (e ∷ es)
put_case true o n a f e es t once only h k =
    let same : e.number ≡ a = grind (arith, nat_tests) in
    let form : e.form ≡ f = some_same e.form f (rw t at h) in
    let none : form_at a es ≡ None = ap (λ (j : ℕ). form_at j es) (sym same) ∙ once.0 in
    let rest : with_tree_renamed o n es ≡ with_form a (renamed_form o n f) es = renamed_nobody o n es (owner_none o es once.1 (λ b x g i. none_some x (sym none ∙ ap (λ (j : ℕ). form_at j es) (sym (only_rest o a e es once only b x g i)) ∙ g))) ∙ sym (put_nobody a (renamed_form o n f) es none) in
    rw t (λ i. record { number = e.number; form = renamed_form o n (form i) } ∷ rest i)
put_case false o n a f e es t once only h k =
    let still = form_still o n e.form (other_out (is_in o (parts_of e.form)) o a e es t only refl) in
    let rest = k (rw t at h) in
    rw t (λ i. record { number = e.number; form = still i } ∷ rest i)

-- only the owner's form changes
renamed_put : (o n a : ℕ) (f : Form) (es : List Seen) → AreOnce es → IsOnly o a es → form_at a es ≡ Some f → with_tree_renamed o n es ≡ with_form a (renamed_form o n f) es
renamed_put o n a f [] once only h = refl
renamed_put o n a f (e ∷ es) once only h = put_case (e.number == a) o n a f e es refl once only h (renamed_put o n a f es once.1 (only_rest o a e es once only))

owns_case : (b : Bool) (n : ℕ) (x e : Seen) (es : List Seen) → is_in n (parts_of x.form) ≡ b → cond b (Some x) (owner_of n es) ≡ Some e → (owner_of n es ≡ Some e → is_in n (parts_of e.form) ≡ true) → is_in n (parts_of e.form) ≡ true
owns_case true n x e es p h k = ap (λ (y : Seen). is_in n (parts_of y.form)) (sym (some_same x e h)) ∙ p
owns_case false n x e es p h k = k h

owner_owns : (n : ℕ) (e : Seen) (es : List Seen) → owner_of n es ≡ Some e → is_in n (parts_of e.form) ≡ true
owner_owns n e [] h = absurd (none_some e h)
owner_owns n e (x ∷ es) h = owns_case (is_in n (parts_of x.form)) n x e es refl h (owner_owns n e es)

-- the owner that is seen is the only one
only_owner : (R : Type 0) (at : ℕ → Option Node) (m : Marks) (es : List Seen) (link : Link) (t n : ℕ) → AreNumbered at m → HasNodes at m.rings es → AreOwned at m → number_at at t ≡ Some n → SeesOwner es (Some link) (owner_of n es)
    → ((f : Form) → form_at link.number.0 es ≡ Some f → IsOnly n link.number.0 es → R) → R
only_owner R at m es link t n k has owned live sees out = by_owner (owner_of n es) refl sees
  where
    by_owner : (o : Option Seen) → owner_of n es ≡ o → SeesOwner es (Some link) o → R
    by_owner None is h = absurd h
    by_owner (Some e) is h =
        let own = owner_took at m es k has owned t n live e.number e.form h.1 (owner_owns n e es is) in
        out e.form (ap (λ (j : ℕ). form_at j es) h.0 ∙ h.1) (λ b x g i. owner_took at m es k has owned t n live b x g i ∙ sym (h.0 ∙ own))

live_out : (R : Type 0) (at : ℕ → Option Node) (m : Marks) (es : List Seen) → AreNumbered at m → HasNodes at m.rings es → (n : ℕ) → IsSome (form_at n es) → ((t : ℕ) → number_at at t ≡ Some n → R) → R
live_out R at m es k has n live out = by_slot (slot_of n m.numbers.items) (slot_is at m k n)
  where
    by_slot : (o : Option ℕ) → Finds at n o → R
    by_slot None h = absurd (false≢true (subst (λ (x : Option Form). IsSome x) (has.absent n h) live))
    by_slot (Some t) h = out t h

-- ---- all that is known

pub record Swapped (at new : ℕ → Option Node) (m last : Marks) (slot owner old tree : ℕ) (form : FormCase) : Type 0 where
  pub numbered : AreNumbered at m
  pub live : number_at at slot ≡ Some owner
  pub changed : new slot ≡ Some (record { number = record { 0 = owner }; form = form })
  pub others : KeepsOthers at new slot
  pub replaced : IsReplaced (at slot) old tree form
  pub root : is_taken m tree ≡ false
  pub built : tree < m.next
  pub same : last ≡ record m { owners = last.owners }
  pub all : length last.owners.items ≡ m.slots
  pub takes : (s : ℕ) → number_at new s ≡ Some tree → taker_at last s ≡ owner
  pub keeps : (s : ℕ) → number_at new s ≢ Some tree → taker_at last s ≡ taker_at m s

module _ (at new : ℕ → Option Node) (m last : Marks) (slot owner old tree : ℕ) (form : FormCase) (f : Swapped at new m last slot owner old tree form) where
  k : AreNumbered at m
  k = f.numbered

  abbrev node : Node
  node = record { number = record { 0 = owner }; form = form }

  was : (x : Node) × (at slot ≡ Some x)
  was = node_of (at slot) owner f.live

  is_form : (branches : List ℕ) → shown branches form ≡ renamed_form old tree (shown branches was.0.form)
  is_form branches = f.replaced was.0 branches was.1

  kind : is_same_kind was.0.form form ≡ true
  kind = replaced_kind old tree was.0.form form is_form

  same_number : (s : ℕ) → number_at new s ≡ number_at at s
  same_number = number_same at new m slot owner form node was.0 k f.live refl refl was.1 f.changed f.others kind

  by_node : (P : ℕ → Node → Type 0) → P slot node → ((s : ℕ) (other : Node) → s ≢ slot → other.number.0 ≢ owner → at s ≡ Some other → P s other) → (s : ℕ) (other : Node) → new s ≡ Some other → P s other
  by_node = slot_case at new m slot owner form node was.0 k f.live refl refl was.1 f.changed f.others kind

  was_number : was.0.number.0 ≡ owner
  was_number = some_same was.0.number.0 owner (sym (ap number_of was.1) ∙ f.live)

  other_tree : (s j : ℕ) → number_at new s ≡ Some j → j ≢ tree → taker_at last s ≡ taker_at m s
  other_tree s j l d = f.keeps s (λ e. d (some_same j tree (sym l ∙ e)))

  -- a tree of the owner's new form was one of its old form
  part_was : (j : ℕ) → is_in j (form_parts form) ≡ true → j ≢ tree → is_in j (form_parts was.0.form) ≡ true
  part_was j i d = parts_renamed j old tree (shown [] was.0.form) (ap (λ (x : Form). is_in j (parts_of x)) (sym (is_form [])) ∙ i) d

  owned_swapped : AreOwned at m → AreOwned new last
  owned_swapped o = record {
    owner_is = λ s t j other h l i. elim (cases_eq j tree) [
      | inl p ↦ f.takes t (l ∙ ap (λ (x : ℕ). Some x) p) ∙ by_node (λ s other. is_in j (form_parts other.form) ≡ true → owner ≡ other.number.0)
          (λ i. refl)
          (λ s other d e before i.
          let took = o.owner_is s t j other before (sym (same_number t) ∙ l) i in
          let free = untaken at m k t tree (sym (same_number t) ∙ l ∙ ap (λ (x : ℕ). Some x) p) f.root in
          let positive = (k.given s other.number.0 (ap number_of before)).0 in
          absurd (omega (arith, took, free, positive))) s other h i
      | inr d ↦ other_tree t j l d ∙ by_node (λ s other. is_in j (form_parts other.form) ≡ true → taker_at m t ≡ other.number.0)
          (λ i. o.owner_is slot t j was.0 was.1 (sym (same_number t) ∙ l) (part_was j i d) ∙ was_number)
          (λ s other x e before i. o.owner_is s t j other before (sym (same_number t) ∙ l) i) s other h i
    ];
    below = λ s j other h i. elim (cases_eq j tree) [
      | inl p ↦ (let low = f.built in let next = ap (λ (x : Marks). x.next) f.same in omega (arith, p, low, next))
      | inr d ↦ (let next = ap (λ (x : Marks). x.next) f.same in let low = by_node (λ s other. is_in j (form_parts other.form) ≡ true → j < m.next)
          (λ i. o.below slot j was.0 was.1 (part_was j i d))
          (λ s other x e before i. o.below s j other before i) s other h i in omega (arith, low, next))
    ];
  }

  some_out : (o : Option ℕ) → IsSome o → (n : ℕ) × (o ≡ Some n)
  some_out None h = absurd (false≢true h)
  some_out (Some n) h = (n, refl)

  pub kept_swapped : (bare : ℕ → Bool) (q : Events) (slots size : ℕ) → IsKept new bare q slots size m → IsKept new bare q slots size last
  kept_swapped bare q slots size kept = record {
    sound = sound_owners new q slots size m last f.same kept.sound;
    owned = record {
      all_owners = f.all ∙ sym (ap (λ (x : Marks). x.slots) f.same);
      bare_is = λ s h e.
          let n = some_out (number_at new s) h in
          elim (cases_eq n.0 tree) [
            | inl p ↦ absurd (let took = f.takes s (n.1 ∙ ap (λ (x : ℕ). Some x) p) in let positive = (k.given slot owner f.live).0 in omega (arith, took, positive, e))
            | inr d ↦ kept.owned.bare_is s h (sym (other_tree s n.0 n.1 d) ∙ e)
          ];
    };
  }

  pub taken_swapped : AreNumbered new last → RisesIn (tree ∷ []) (is_taken m) (is_taken last)
  taken_swapped k' n h out = taken_out (is_taken m n ≡ true) new last k' n h (λ s l d.
      taken_by at m k s n (sym (same_number s) ∙ l) (λ e. d (other_tree s n l (λ p. false≢true (sym out ∙ in_one n p)) ∙ e)))
    where
      in_one : (n : ℕ) → n ≡ tree → is_in n (tree ∷ []) ≡ true
      in_one n p = let t : (tree == n) ≡ true = grind (arith, nat_tests) in ap (λ (b : Bool). b || false) t

  pub stands_swapped : (q q' : Events) (sp sp' : List Spot → Type 0) (link : Link) (w : World) → link.number.0 ≡ owner → Stands at q sp m w → IsLive w old → SeesOwner w.nodes (Some link) (owner_of old w.nodes) → IsSeen new q' sp' m (put_form owner form w)
      → Stands new q' sp' last (tree_replaced old tree w)
  stands_swapped q q' sp sp' link w is st live sees seen =
      let es = w.nodes in
      let bs = branches_of (form_at owner es) in
      let found : form_at owner es ≡ Some (shown bs was.0.form) = subst (λ (j : ℕ). form_at j es ≡ Some (shown (branches_of (form_at j es)) was.0.form)) was_number (st.seen.nodes.there slot was.0 was.1) in
      let same : with_tree_renamed old tree es ≡ with_form owner (shown bs form) es = live_out (with_tree_renamed old tree es ≡ with_form owner (shown bs form) es) at m es k st.seen.nodes old live (λ t l.
      only_owner (with_tree_renamed old tree es ≡ with_form owner (shown bs form) es) at m es link t old k st.seen.nodes st.owned l sees (λ x h only.
      renamed_put old tree owner (shown bs was.0.form) es st.seen.nodes.once (λ b y g i. only b y g i ∙ is) found
      ∙ ap (λ (y : Form). with_form owner y es) (sym (is_form bs)))) in
      record {
        seen = subst (λ (l : List Seen). IsSeen new q' sp' last (record w { nodes = l })) (sym same) (seen_owners new q' sp' m last (put_form owner form w) f.same seen);
        owned = owned_swapped st.owned;
      }

none_out : (es : List Seen) (o : Option Seen) → SeesOwner es None o → o ≡ None
none_out es None h = refl
none_out es (Some e) h = absurd h

-- nothing changes where no owner is seen
pub stands_still : (at : ℕ → Option Node) (q : Events) (sp : List Spot → Type 0) (m : Marks) (o n : ℕ) (w : World) → Stands at q sp m w → SeesOwner w.nodes None (owner_of o w.nodes) → Stands at q sp m (tree_replaced o n w)
stands_still at q sp m o n w st sees = subst (λ (l : List Seen). Stands at q sp m (record w { nodes = l })) (sym (renamed_nobody o n w.nodes (none_out w.nodes (owner_of o w.nodes) sees))) st
