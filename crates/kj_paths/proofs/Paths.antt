-- The paths of a world in which each live node stands in one place; lists of calls.
use Rattle.std.proofs.Common.{◌≡◌, ℕ, ◌+◌, ◌≤◌, ◌<◌, List, [], ◌∷◌, Bool, true, false, cond, Option, Some, arith, refl, sym, ap, ◌∙◌, subst, ◌==◌}
use Rattle.std.specs.Prelude.{nat_eq, map}
use Rattle.std.proofs.lemmas.Bool.{false≢true}
use Rattle.std.proofs.lemmas.Bool.Decides.{nat_tests}
use Rattle.kj_base.specs.Places.{Spot, spot_of}
use Rattle.kj_model.specs.Nodes.{parts_at, is_in}
use Rattle.kj_base.specs.declared.numbers.Limits.{Limits}
use Rattle.kj_model.specs.World.{World, State, Setting, new_state}
use Rattle.kj_model.specs.Calls.{Call, call, calls, close}
use Rattle.kj_model.specs.Owned.{numbers}
use Rattle.kj_model.specs.Framed.{times, total}
use Rattle.kj_model.proofs.Once.{both_ways, false_by}
use Rattle.kj_ownership.specs.Owners.{is_live}
use Rattle.kj_ownership.specs.Standing.{Owned}
use Rattle.kj_ownership.proofs.Flat.{live_number}
use Rattle.kj_ownership.proofs.Moves.{number_live}
use Rattle.kj_ownership.proofs.Stays.{in_times, out_times}
use Rattle.kj_ownership.specs.Fits.{Fits}
use Rattle.kj_ownership.specs.Kept.{Kept}
use Rattle.kj_ownership.proofs.Closing.{close_frees_all}
use Rattle.kj_ownership.proofs.Sides.{numbers_apart}
use Rattle.kj_takings.specs.Told.{NoneCloses, IsReached}
use Rattle.kj_takings.proofs.ToldLoops.{reached_kept}
use Rattle.kj_takings.proofs.ToldLaws.{new_is_reached, next_is_reached}
use Rattle.kj_paths.specs.Paths.{NextBefore, Paths, is_used, LivesIn}
use Rattle.kj_paths.proofs.Laid.{Laid, no_spot, new_laid}
use Rattle.kj_paths.proofs.Built.{number_spot}
use Rattle.kj_paths.proofs.Calls.{call_laid, close_laid}

-- spots and their numbers
pub spot_number : (n : ℕ) (x : Spot) (xs : List Spot) → spot_of n xs ≡ Some x → is_in n (map (λ (y : Spot). y.number) xs) ≡ true
spot_number n x [] at = absurd (no_spot x at)
spot_number n x (y ∷ ys) at = decide (nat_eq y.number n) refl (λ h. spot_number n x ys h)
  where
    skip : nat_eq y.number n ≡ false → spot_of n (y ∷ ys) ≡ spot_of n ys
    skip e = grind (arith, nat_tests)

    more : is_in n (map (λ (z : Spot). z.number) ys) ≡ true → is_in n (map (λ (z : Spot). z.number) (y ∷ ys)) ≡ true
    more h = grind (arith, nat_tests)

    here : nat_eq y.number n ≡ true → is_in n (map (λ (z : Spot). z.number) (y ∷ ys)) ≡ true
    here e = grind (arith, nat_tests)

    decide : (b : Bool) → nat_eq y.number n ≡ b → (spot_of n ys ≡ Some x → is_in n (map (λ (z : Spot). z.number) ys) ≡ true) → is_in n (map (λ (z : Spot). z.number) (y ∷ ys)) ≡ true
    decide true e ih = here e
    decide false e ih = more (ih (sym (skip e) ∙ at))

-- who owns a node that is owned
some_owner : (f : ℕ → List ℕ) (n : ℕ) (xs : List ℕ) → 1 ≤ total (λ q. times n (f q)) xs → (q : ℕ) × (is_in n (f q) ≡ true)
some_owner f n [] h = absurd (omega (arith, h))
some_owner f n (x ∷ xs) h = decide (is_in n (f x)) refl (λ k. some_owner f n xs k)
  where
    decide : (b : Bool) → is_in n (f x) ≡ b → (1 ≤ total (λ q. times n (f q)) xs → (q : ℕ) × (is_in n (f q) ≡ true)) → (q : ℕ) × (is_in n (f q) ≡ true)
    decide true e ih = (x, e)
    decide false e ih = ih (let z = out_times n (f x) e in omega (arith, z, h))

pub paths_of : (s : State) → Owned s → Laid [] s.world → Paths s.world
paths_of s st g = record {
  placed = λ n l. number_spot n s.world.spots (ap (is_in n) st.spots ∙ live_number n s.world.nodes l);
  live = λ n x at. live_at n x at;
  once = λ n. subst (λ (ns : List ℕ). times n ns ≤ 1) (sym st.spots) (numbers_apart s st.recorded n);
  places = g.place;
  keys = g.key;
  alone = g.alone;
  paths = λ m n x y at bt k p. path m n x y at bt k p;
}
  where
    live_at : (n : ℕ) (x : Spot) → spot_of n s.world.spots ≡ Some x → is_live n s.world.nodes ≡ true
    live_at n x at = number_live n s.world.nodes (sym (ap (is_in n) st.spots) ∙ spot_number n x s.world.spots at)

    path : (m n : ℕ) (x y : Spot) → spot_of m s.world.spots ≡ Some x → spot_of n s.world.spots ≡ Some y → x.key ≡ y.key → x.place < y.place → NextBefore n y s.world
    path m n x y at bt k p =
        let a = g.root m n x y at bt k p in
        let b = st.placed.once n (live_at n y bt) in
        let o = some_owner (λ q. parts_at q s.world.nodes) n (numbers s.world.nodes) (omega (arith, a, b)) in
        let h = g.owner m n x y o.0 at bt k p o.1 in
        record { number = o.0; spot = h.spot; placed = h.placed; key = h.key; place = h.place; owner = o.1 }

-- arenas in use
used_more : (key : ℕ) (y : Spot) (ys : List Spot) → is_used key (y ∷ ys) ≡ true → nat_eq y.key key ≡ false → is_used key ys ≡ true
used_more key y ys u e = grind (arith, nat_tests)

used_spot : (key : ℕ) (xs : List Spot) → ((n : ℕ) → times n (map (λ (x : Spot). x.number) xs) ≤ 1) → is_used key xs ≡ true → (x : Spot) × (spot_of x.number xs ≡ Some x) × (x.key ≡ key) × (is_in x.number (map (λ (x : Spot). x.number) xs) ≡ true)
used_spot key [] a u = absurd (false≢true u)
used_spot key (y ∷ ys) a u = decide (nat_eq y.key key) refl (λ h. used_spot key ys (λ n. (let k = a n in omega (arith, k))) h)
  where
    self : spot_of y.number (y ∷ ys) ≡ Some y
    self = grind (arith, nat_tests)

    in_first : is_in y.number (map (λ (x : Spot). x.number) (y ∷ ys)) ≡ true
    in_first = grind (arith, nat_tests)

    same : nat_eq y.key key ≡ true → y.key ≡ key
    same e = grind (arith, nat_tests)

    skip : (n : ℕ) → nat_eq y.number n ≡ false → spot_of n (y ∷ ys) ≡ spot_of n ys
    skip n e = grind (arith, nat_tests)

    more : (n : ℕ) → is_in n (map (λ (x : Spot). x.number) ys) ≡ true → is_in n (map (λ (x : Spot). x.number) (y ∷ ys)) ≡ true
    more n i = grind (arith, nat_tests)

    twice : (c t : ℕ) → c ≡ 1 → c + t ≤ 1 → 1 ≤ t → ⊥
    twice c t e h k = omega (arith, e, h, k)

    differs : (n : ℕ) → is_in n (map (λ (x : Spot). x.number) ys) ≡ true → nat_eq y.number n ≡ false
    differs n i = false_by (nat_eq y.number n) (λ e. twice (cond (y.number == n) 1 0) (times n (map (λ (x : Spot). x.number) ys)) (ap (λ b. cond b 1 0) e) (a n) (in_times n (map (λ (x : Spot). x.number) ys) i))

    decide : (b : Bool) → nat_eq y.key key ≡ b → (is_used key ys ≡ true → (x : Spot) × (spot_of x.number ys ≡ Some x) × (x.key ≡ key) × (is_in x.number (map (λ (x : Spot). x.number) ys) ≡ true)) → (x : Spot) × (spot_of x.number (y ∷ ys) ≡ Some x) × (x.key ≡ key) × (is_in x.number (map (λ (x : Spot). x.number) (y ∷ ys)) ≡ true)
    decide true e ih = (y, self, same e, in_first)
    decide false e ih = let r = ih (used_more key y ys u e) in (r.0, skip r.0.number (differs r.0.number r.3) ∙ r.1, r.2, more r.0.number r.3)

-- where an arena is in use, a node lives there
pub used_lives : (w : World) (key : ℕ) → Paths w → is_used key w.spots ≡ true → LivesIn key w
used_lives w key p u = let r = used_spot key w.spots p.once u in record { number = r.0.number; spot = r.0; live = p.live r.0.number r.0 r.1; placed = r.1; here = r.2 }

pub spot_used : (n : ℕ) (x : Spot) (key : ℕ) (xs : List Spot) → spot_of n xs ≡ Some x → x.key ≡ key → is_used key xs ≡ true
spot_used n x key [] at e = absurd (no_spot x at)
spot_used n x key (y ∷ ys) at e = decide (nat_eq y.number n) refl (λ h. spot_used n x key ys h e)
  where
    skip : nat_eq y.number n ≡ false → spot_of n (y ∷ ys) ≡ spot_of n ys
    skip d = grind (arith, nat_tests)

    first : nat_eq y.number n ≡ true → spot_of n (y ∷ ys) ≡ Some y
    first d = grind (arith, nat_tests)

    here : y.key ≡ key → is_used key (y ∷ ys) ≡ true
    here d = grind (arith, nat_tests)

    more : is_used key ys ≡ true → is_used key (y ∷ ys) ≡ true
    more h = grind (arith, nat_tests)

    same : (a b : Spot) → ◌≡◌ {A = Option Spot} (Some a) (Some b) → a ≡ b
    same a b h = cc

    decide : (b : Bool) → nat_eq y.number n ≡ b → (spot_of n ys ≡ Some x → is_used key ys ≡ true) → is_used key (y ∷ ys) ≡ true
    decide true d ih = here (ap (λ (s : Spot). s.key) (same y x (sym (first d) ∙ at)) ∙ e)
    decide false d ih = more (ih (sym (skip d) ∙ at))

-- and where none lives it is in no use
pub lives_used : (w : World) (key : ℕ) → LivesIn key w → is_used key w.spots ≡ true
lives_used w key l = spot_used l.number l.spot key w.spots l.placed l.here

-- the next arena is free
pub next_unused : (w : World) → Paths w → is_used w.next_key w.spots ≡ false
next_unused w p = false_by (is_used w.next_key w.spots) (λ u. (let l = used_lives w w.next_key p u in let k = p.keys l.number l.spot l.placed in let h = l.here in omega (arith, k, h)))

-- lists of calls
pub calls_laid : (setting : Setting) (cs : List Call) (s : State) → Fits setting → NoneCloses cs → IsReached setting s → Laid [] s.world → Laid [] (calls setting cs s).0.world
calls_laid setting [] s fits opens r g = g
calls_laid setting (c ∷ cs) s fits opens r g = calls_laid setting cs (call setting c s).0 fits opens.1 (next_is_reached setting c s opens.0 r) (call_laid setting c s fits (reached_kept setting s fits r) g)

pub record KeptLaid (s : State) : Type 0 where
  pub kept : Kept s
  pub laid : Laid [] s.world

after : (setting : Setting) (limits : Limits) (cs : List Call) → Fits setting → NoneCloses cs → KeptLaid (calls setting cs (new_state limits)).0
after setting limits cs fits opens = record {
  kept = reached_kept setting (calls setting cs (new_state limits)).0 fits (record { limits = limits; before = cs; opens = opens; here = refl });
  laid = calls_laid setting cs (new_state limits) fits opens (new_is_reached setting limits) (new_laid limits);
}

pub calls_paths : (setting : Setting) (limits : Limits) (cs : List Call) → Fits setting → NoneCloses cs → Paths (calls setting cs (new_state limits)).0.world
calls_paths setting limits cs fits opens = let k = after setting limits cs fits opens in paths_of (calls setting cs (new_state limits)).0 k.kept.owned k.laid

pub close_paths : (setting : Setting) (limits : Limits) (cs : List Call) → Fits setting → NoneCloses cs → Paths (close (calls setting cs (new_state limits)).0).world
close_paths setting limits cs fits opens =
    let s = (calls setting cs (new_state limits)).0 in
    let k = after setting limits cs fits opens in
    paths_of (close s) (close_frees_all s k.kept.owned k.kept.none_awaited).owned (close_laid s k.laid)

pub close_unused : (setting : Setting) (limits : Limits) (cs : List Call) → Fits setting → NoneCloses cs → (key : ℕ) → is_used key (close (calls setting cs (new_state limits)).0).world.spots ≡ false
close_unused setting limits cs fits opens key =
    let s = (calls setting cs (new_state limits)).0 in
    let k = after setting limits cs fits opens in
    false_by (is_used key (close s).world.spots) (λ u. (let l = used_lives (close s).world key (close_paths setting limits cs fits opens) u in both_ways (is_live l.number (close s).world.nodes) l.live ((close_frees_all s k.kept.owned k.kept.none_awaited).none l.number)))
