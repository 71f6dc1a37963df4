-- What a loop keeps of where its nodes lie, whatever else holds.
use Rattle.std.proofs.Common.{◌≡◌, ℕ, ◌+◌, ◌≤◌, ◌<◌, List, [], ◌∷◌, Bool, true, false, cond, Option, None, Some, arith, refl, sym, ap, ◌∙◌, subst}
use Rattle.std.specs.Prelude.{filter, map}
use Rattle.std.proofs.lemmas.Bool.{false≢true}
use Rattle.std.proofs.lemmas.Bool.Decides.{nat_tests}
use Rattle.kj_base.specs.Places.{Spot, spot_of}
use Rattle.kj_model.specs.Nodes.{form_at}
use Rattle.kj_model.specs.World.{World, new_world}
use Rattle.kj_model.specs.Owned.{tree_roots}
use Rattle.kj_model.specs.Framed.{times, NamesApart}
use Rattle.kj_ownership.specs.Owners.{is_live, owns, is_hub_form}
use Rattle.kj_ownership.specs.Standing.{one_if}
use Rattle.kj_base.specs.declared.numbers.Limits.{Limits}

-- how often a node stands where no node owns it: among these, as a root, or as a hub
abbrev pub stands : List ℕ → World → ℕ → ℕ
stands loose w m = times m loose + (times m (tree_roots w) + one_if (is_hub_form (form_at m w.nodes)))

-- a live node that is one place before that one in its arena
pub record IsBefore (q : ℕ) (y : Spot) (w : World) : Type 0 where
  pub spot : Spot
  pub placed : spot_of q w.spots ≡ Some spot
  pub key : spot.key ≡ y.key
  pub place : spot.place + 1 ≡ y.place

-- no number has two spots
abbrev pub Once : List Spot → Type 0
Once xs = (n : ℕ) → times n (map (λ (x : Spot). x.number) xs) ≤ 1

-- no node stands twice where none owns it, and what stands so has no owner; numbers from the next on stand nowhere; and
-- where a node isn't the first of its arena, it doesn't stand so, and who owns it is one place before it
pub record Laid (loose : List ℕ) (w : World) : Type 0 where
  pub names : NamesApart w.names
  pub once : (m : ℕ) → stands loose w m ≤ 1
  pub unowned : (m q : ℕ) → 1 ≤ stands loose w m → owns q m w.nodes ≡ true → ⊥
  pub fresh : (m : ℕ) → w.next ≤ m → stands loose w m ≡ 0
  pub fresh_owner : (m q : ℕ) → w.next ≤ m → owns q m w.nodes ≡ true → ⊥
  pub fresh_live : (m : ℕ) → w.next ≤ m → is_live m w.nodes ≡ true → ⊥
  pub fresh_spot : (m : ℕ) (x : Spot) → w.next ≤ m → spot_of m w.spots ≡ Some x → ⊥
  pub apart : Once w.spots
  pub place : (m : ℕ) (x : Spot) → spot_of m w.spots ≡ Some x → x.place < 8
  pub key : (m : ℕ) (x : Spot) → spot_of m w.spots ≡ Some x → x.key < w.next_key
  pub alone : (m n : ℕ) (x y : Spot) → spot_of m w.spots ≡ Some x → spot_of n w.spots ≡ Some y → x.key ≡ y.key → x.place ≡ y.place → m ≡ n
  pub root : (m n : ℕ) (x y : Spot) → spot_of m w.spots ≡ Some x → spot_of n w.spots ≡ Some y → x.key ≡ y.key → x.place < y.place → stands loose w n ≡ 0
  pub owner : (m n : ℕ) (x y : Spot) (q : ℕ) → spot_of m w.spots ≡ Some x → spot_of n w.spots ≡ Some y → x.key ≡ y.key → x.place < y.place → owns q n w.nodes ≡ true → IsBefore q y w

-- from one world to another in which no node stands or is owned where it didn't, and none was placed
pub record Shrinks (l1 l2 : List ℕ) (w v : World) : Type 0 where
  pub names : NamesApart w.names → NamesApart v.names
  pub stands : NamesApart w.names → (m : ℕ) → stands l2 v m ≤ stands l1 w m
  pub owners : (q m : ℕ) → owns q m v.nodes ≡ true → owns q m w.nodes ≡ true
  pub owner_spot : (q m : ℕ) → owns q m v.nodes ≡ true → spot_of q v.spots ≡ spot_of q w.spots
  pub live : (m : ℕ) → is_live m v.nodes ≡ true → is_live m w.nodes ≡ true
  pub spots : (m : ℕ) (x : Spot) → spot_of m v.spots ≡ Some x → spot_of m w.spots ≡ Some x
  pub apart : Once w.spots → Once v.spots
  pub next : v.next ≡ w.next
  pub next_key : v.next_key ≡ w.next_key

pub laid_shrinks : (l1 l2 : List ℕ) (w v : World) → Shrinks l1 l2 w v → Laid l1 w → Laid l2 v
laid_shrinks l1 l2 w v s g = record {
  names = s.names g.names;
  once = λ m. let a = s.stands g.names m in let b = g.once m in omega (arith, a, b);
  unowned = λ m q h o. g.unowned m q (let a = s.stands g.names m in omega (arith, a, h)) (s.owners q m o);
  fresh = λ m h. let a = s.stands g.names m in let b = g.fresh m (subst (λ (k : ℕ). k ≤ m) s.next h) in omega (arith, a, b);
  fresh_owner = λ m q h o. g.fresh_owner m q (subst (λ (k : ℕ). k ≤ m) s.next h) (s.owners q m o);
  fresh_live = λ m h l. g.fresh_live m (subst (λ (k : ℕ). k ≤ m) s.next h) (s.live m l);
  fresh_spot = λ m x h at. g.fresh_spot m x (subst (λ (k : ℕ). k ≤ m) s.next h) (s.spots m x at);
  apart = s.apart g.apart;
  place = λ m x at. g.place m x (s.spots m x at);
  key = λ m x at. subst (λ (k : ℕ). x.key < k) (sym s.next_key) (g.key m x (s.spots m x at));
  alone = λ m n x y at bt. g.alone m n x y (s.spots m x at) (s.spots n y bt);
  root = λ m n x y at bt k p. let a = s.stands g.names n in let b = g.root m n x y (s.spots m x at) (s.spots n y bt) k p in omega (arith, a, b);
  owner = λ m n x y q at bt k p o. (let b = g.owner m n x y q (s.spots m x at) (s.spots n y bt) k p (s.owners q n o) in record { spot = b.spot; placed = s.owner_spot q n o ∙ b.placed; key = b.key; place = b.place });
}

-- the same nodes in the same places
pub laid_roots : (l1 l2 : List ℕ) (w v : World) → v.nodes ≡ w.nodes → v.spots ≡ w.spots → v.next ≡ w.next → v.next_key ≡ w.next_key → (NamesApart w.names → NamesApart v.names) → (NamesApart w.names → (m : ℕ) → times m l2 + times m (tree_roots v) ≤ times m l1 + times m (tree_roots w)) → Laid l1 w → Laid l2 v
laid_roots l1 l2 w v nodes spots next key names roots = laid_shrinks l1 l2 w v (record {
  names = names;
  stands = λ a m. let r = roots a m in let h : one_if (is_hub_form (form_at m v.nodes)) ≡ one_if (is_hub_form (form_at m w.nodes)) = ap (λ es. one_if (is_hub_form (form_at m es))) nodes in omega (arith, r, h);
  owners = λ q m o. sym (ap (owns q m) nodes) ∙ o;
  owner_spot = λ q m o. ap (spot_of q) spots;
  live = λ m l. sym (ap (is_live m) nodes) ∙ l;
  spots = λ m x at. sym (ap (spot_of m) spots) ∙ at;
  apart = λ a. subst Once (sym spots) a;
  next = next;
  next_key = key;
})

-- the loose nodes in another order, or fewer of them
pub laid_fewer : (l1 l2 : List ℕ) (w : World) → ((m : ℕ) → times m l2 ≤ times m l1) → Laid l1 w → Laid l2 w
laid_fewer l1 l2 w h = laid_roots l1 l2 w w refl refl refl refl (λ a. a) (λ a m. let k = h m in omega (arith, k))

-- nothing is something
pub no_spot : (x : Spot) → ◌≡◌ {A = Option Spot} None (Some x) → ⊥
no_spot x e = cc

-- the spots of nodes that are left
left_more : (m : ℕ) (p : ℕ → Bool) (x : Spot) (xs : List Spot) → spot_of m (filter (λ (y : Spot). p y.number) xs) ≡ cond (p m) (spot_of m xs) None → spot_of m (filter (λ (y : Spot). p y.number) (x ∷ xs)) ≡ cond (p m) (spot_of m (x ∷ xs)) None
left_more m p x xs h = grind (arith, nat_tests)

none_either : {A : Type 0} (b : Bool) → ◌≡◌ {A = Option A} (cond b None None) None
none_either true = refl
none_either false = refl

pub spot_left : (m : ℕ) (p : ℕ → Bool) (xs : List Spot) → spot_of m (filter (λ (y : Spot). p y.number) xs) ≡ cond (p m) (spot_of m xs) None
spot_left m p [] = sym (none_either (p m))
spot_left m p (x ∷ xs) = left_more m p x xs (spot_left m p xs)

-- a new world
pub new_laid : (limits : Limits) → Laid [] (new_world limits)
new_laid limits = record {
  names = λ c. omega arith;
  once = λ m. omega arith;
  unowned = λ m q h o. false≢true o;
  fresh = λ m h. refl;
  fresh_owner = λ m q h o. false≢true o;
  fresh_live = λ m h o. false≢true o;
  fresh_spot = λ m x h at. no_spot x at;
  apart = λ n. omega arith;
  place = λ m x at. absurd (no_spot x at);
  key = λ m x at. absurd (no_spot x at);
  alone = λ m n x y at bt. absurd (no_spot x at);
  root = λ m n x y at bt. absurd (no_spot x at);
  owner = λ m n x y q at bt. absurd (no_spot x at);
}

-- spots that are left are apart
once_left : (p : ℕ → Bool) (n : ℕ) (xs : List Spot) → times n (map (λ (x : Spot). x.number) (filter (λ (y : Spot). p y.number) xs)) ≤ times n (map (λ (x : Spot). x.number) xs)
once_left p n [] = omega arith
once_left p n (x ∷ xs) = more (p x.number) (once_left p n xs)
  where
    more : (b : Bool) → times n (map (λ (y : Spot). y.number) (filter (λ (y : Spot). p y.number) xs)) ≤ times n (map (λ (y : Spot). y.number) xs) → times n (map (λ (y : Spot). y.number) (cond b (x ∷ filter (λ (y : Spot). p y.number) xs) (filter (λ (y : Spot). p y.number) xs))) ≤ times n (map (λ (y : Spot). y.number) (x ∷ xs))
    more true h = omega (arith, h)
    more false h = omega (arith, h)

pub spots_once : (p : ℕ → Bool) (xs : List Spot) → Once xs → Once (filter (λ (y : Spot). p y.number) xs)
spots_once p xs a n = let k = once_left p n xs in let h = a n in omega (arith, k, h)
