-- A Drop of a promise that isn't busy leaves the nodes that are being evaluated.
use Rattle.std.proofs.Common.{◌≡◌, inl, inr, ℕ, ◌+◌, ◌≤◌, List, [], ◌∷◌, ◌++◌, length, drop, true, false, Option, Some, arith, refl, sym, ap, ◌∙◌, subst, ◌||◌, ◌==◌}
use Rattle.std.specs.Prelude.{map}
use Rattle.std.specs.List.{list_any}
use Rattle.std.proofs.lemmas.Bool.{or_parts}
use Rattle.kj_base.specs.Record.{Item, Free}
use Rattle.kj_model.specs.Nodes.{form_at, is_in}
use Rattle.kj_model.specs.World.{World, State, Held, Promise, held_at, depth_of}
use Rattle.kj_model.specs.Changes.{silent, unnamed}
use Rattle.kj_model.specs.Free.{Holding}
use Rattle.kj_model.specs.Effects.{dropped_held}
use Rattle.kj_model.specs.Apply.{is_free_of, would_free, would_settle, is_busy_at, is_busy}
use Rattle.kj_base.specs.Commands.{Drop as DropCommand}
use Rattle.kj_model.specs.Falling.{falling}
use Rattle.kj_model.specs.Owned.{tree_roots}
use Rattle.kj_ownership.specs.Owners.{is_live, owns, is_hub_form}
use Rattle.kj_model.specs.Framed.{times}
use Rattle.kj_ownership.specs.Standing.{one_if, owned_times, Climbs, Standing}
use Rattle.kj_ownership.specs.Stems.{Begins, Frames}
use Rattle.kj_model.proofs.Members.{Within, in_either, in_right, in_one, in_self}
use Rattle.kj_model.proofs.Once.{both_ways, false_by}
use Rattle.kj_model.proofs.Falling.{node_frees}
use Rattle.kj_ownership.proofs.Flat.{Goes, node_goes}
use Rattle.kj_ownership.proofs.Stays.{places_one, loose_unowned, owner_live, in_times, unowned}
use Rattle.kj_ownership.proofs.Climb.{none_open}
use Rattle.kj_ownership.proofs.Commands.{loose_comes, fuel_for}
use Rattle.kj_ownership.proofs.Frames.{within_more, awaited_count}

-- what goes takes the nodes under it along
pub goes_down : (w : World) (path ts ns : List ℕ) (x q : ℕ) (ys : List ℕ) → Goes w path [] ts ns → is_live x w.nodes ≡ true → Climbs w.nodes x ys → is_in q (x ∷ ys) ≡ true → is_in q ns ≡ true → is_in x ns ≡ true
goes_down w path ts ns x q [] g live c i j = subst (λ (y : ℕ). is_in y ns ≡ true) (sym (in_one q x i)) j
goes_down w path ts ns x q (y ∷ ys) g live c i j = elim (in_either q (x ∷ []) (y ∷ ys) i) [
  | inl a ↦ subst (λ (z : ℕ). is_in z ns ≡ true) (sym (in_one q x a)) j
  | inr b ↦ g.closed y x (goes_down w path ts ns y q ys g (owner_live y x w.nodes c.0) c.1 b j) c.0 live
]

-- where the top of a climb goes, each node of it goes
pub top_goes : (w : World) (path ts ns : List ℕ) (x r f : ℕ) (ys : List ℕ) → Goes w path [] ts ns → is_live x w.nodes ≡ true → Climbs w.nodes x ys → ((q : ℕ) → owns q r w.nodes ≡ false) → is_in r (x ∷ ys) ≡ true → is_in f (x ∷ ys) ≡ true → is_in r ns ≡ true → is_in f ns ≡ true
top_goes w path ts ns x r f [] g live c top i j k = subst (λ (y : ℕ). is_in y ns ≡ true) (sym (in_one r x i) ∙ in_one f x j) k
top_goes w path ts ns x r f (y ∷ ys) g live c top i j k = elim (in_either f (x ∷ []) (y ∷ ys) j) [
  | inl a ↦ subst (λ (z : ℕ). is_in z ns ≡ true) (in_one f x a) (goes_down w path ts ns x r (y ∷ ys) g live c i k)
  | inr b ↦ elim (in_either r (x ∷ []) (y ∷ ys) i) [
    | inl d ↦ absurd (both_ways (owns y x w.nodes) c.0 (subst (λ (z : ℕ). owns y z w.nodes ≡ false) (sym (in_one r x d)) (top y)))
    | inr e ↦ top_goes w path ts ns y r f ys g (owner_live y x w.nodes c.0) c.1 top e b k
  ]
]

-- the record of what was freed
pub told_more : (n : ℕ) (xs : List Item) (ns : List ℕ) → list_any (is_free_of n) (drop (length xs) (xs ++ map Free ns)) ≡ is_in n ns
told_more n [] [] = refl
told_more n [] (m ∷ ns) = ap (λ b. (m == n) || b) (told_more n [] ns)
told_more n (x ∷ xs) ns = told_more n xs ns

pub last_of : (w : World) (n : ℕ) (fs : List ℕ) → Frames w n fs → (b : ℕ) × (is_in b (n ∷ fs) ≡ true) × Begins w b
last_of w n [] f = (n, in_self n [], f)
last_of w n (m ∷ ms) f = let r = last_of w m ms f.4 in (r.0, in_right r.0 (n ∷ []) (m ∷ ms) r.1, r.2)

-- a root that stands nowhere isn't among the nodes that are being evaluated, where freeing it wouldn't free what fires
pub root_off : (s : State) (n r : ℕ) (fs above : List ℕ) → Standing (r ∷ []) [] [] s → Frames s.world n fs → Within fs above → is_live n s.world.nodes ≡ true → Climbs s.world.nodes n above → is_live r s.world.nodes ≡ true
    → ((f : ℕ) → s.world.firing ≡ Some f → is_in f (falling (Holding []) s.world (depth_of s.world) [] [] r) ≡ false) → is_in r (n ∷ above) ≡ false
root_off s n r fs above st f within live c r_live calm = false_by (is_in r (n ∷ above)) (λ i. by_begin (last_of s.world n fs f) i)
  where
    top : (q : ℕ) → owns q r s.world.nodes ≡ false
    top q = loose_unowned (r ∷ []) s.world r q st.placed r_live (in_self r [])

    goes : Goes s.world [] [] (r ∷ []) (falling (Holding []) s.world (depth_of s.world) [] [] r)
    goes = node_goes (Holding []) s.world (depth_of s.world) (places_one (r ∷ []) [] s.world st.placed st.hubs) [] [] [] r (none_open (Holding []) s.world) (loose_comes (Holding []) (r ∷ []) [] [] [] s r st (in_self r []) refl) (let l = fuel_for s st.room in omega (arith, l))

    two : (a b c d : ℕ) → a + (b + (c + d)) ≡ 1 → 1 ≤ a → 1 ≤ b → ⊥
    two a b c d e g h = omega (arith, e, g, h)

    tops : (x : ℕ) (ys : List ℕ) → Climbs s.world.nodes x ys → is_in r (x ∷ ys) ≡ true → {b : ℕ} → is_in b (x ∷ ys) ≡ true → ((q : ℕ) → owns q b s.world.nodes ≡ false) → r ≡ b
    tops x [] c2 i {b} j none = sym (in_one r x i) ∙ in_one b x j
    tops x (y ∷ ys) c2 i {b} j none = elim (in_either r (x ∷ []) (y ∷ ys) i) [
      | inl a ↦ absurd (both_ways (owns y x s.world.nodes) c2.0 (subst (λ (z : ℕ). owns y z s.world.nodes ≡ false) (sym (in_one r x a)) (top y)))
      | inr d ↦ elim (in_either b (x ∷ []) (y ∷ ys) j) [
        | inl a ↦ absurd (both_ways (owns y x s.world.nodes) c2.0 (subst (λ (z : ℕ). owns y z s.world.nodes ≡ false) (sym (in_one b x a)) (none y)))
        | inr e ↦ tops y ys c2.1 d {b = b} e none
      ]
    ]

    by_begin : (b : ℕ) × (is_in b (n ∷ fs) ≡ true) × Begins s.world b → is_in r (n ∷ above) ≡ true → ⊥
    by_begin (b, on, inl g) i = both_ways (is_in b (falling (Holding []) s.world (depth_of s.world) [] [] r)) (top_goes s.world [] (r ∷ []) (falling (Holding []) s.world (depth_of s.world) [] [] r) n r b above goes live c top i (within_more n b fs above within on) (goes.took r (in_self r []) r_live)) (calm b g.0)
    by_begin (b, on, inr g) i =
        let a = awaited_count s b g.2 in
        let b_top : (q : ℕ) → owns q b s.world.nodes ≡ false = λ q. unowned (r ∷ []) s.world b q st.placed g.1 (omega (arith, a)) in
        let same = tops n above c i (within_more n b fs above within on) b_top in
        let one = st.placed.once b g.1 in
        let here : 1 ≤ times b (r ∷ []) = subst (λ (y : ℕ). 1 ≤ times y (r ∷ [])) same (in_times r (r ∷ []) (in_self r [])) in
        two (times b (r ∷ [])) (times b (tree_roots s.world)) (one_if (is_hub_form (form_at b s.world.nodes))) (owned_times b s.world.nodes) one here a

-- Drop of a promise, where it isn't busy
pub calm_drop : (name r : ℕ) (s : State) → held_at name s.world.names ≡ Some (Promise r) → is_busy (DropCommand name) s ≡ false → (f : ℕ) → s.world.firing ≡ Some f → is_in f (falling (Holding []) (unnamed name s.world) (depth_of s.world) [] [] r) ≡ false
calm_drop name r s at calm f fires =
    let s1 = silent (unnamed name) s in
    let ns = falling (Holding []) s1.world (depth_of s.world) [] [] r in
    let at_f : is_busy_at (Some f) (DropCommand name) s ≡ false = subst (λ (o : Option ℕ). is_busy_at o (DropCommand name) s ≡ false) fires calm in
    let freed_not : would_free f (DropCommand name) s ≡ false = (or_parts (would_settle f (DropCommand name) s.world) (would_free f (DropCommand name) s) at_f).1 in
    let told = (node_frees (Holding []) (depth_of s.world) r s1).told in
    sym (told_more f s.past ns)
    ∙ ap (λ (xs : List Item). list_any (is_free_of f) (drop (length s.past) xs)) (sym told)
    ∙ ap (λ (o : Option Held). list_any (is_free_of f) (drop (length s.past) (dropped_held (Holding []) name o s).past)) (sym at)
    ∙ freed_not
