-- The way over the branches of a hub.
use Rattle.std.proofs.Common.{◌≡◌, ◌∙◌, refl, sym, ap, subst, ℕ, ◌≤◌, ◌+◌, ◌-◌, List, [], ◌∷◌, ◌++◌, Option, None, Some, Bool, true, false, IsSome, length, arith, append_assoc}
use Rattle.std.specs.Prelude.{nat_eq}
use Rattle.std.proofs.lemmas.Bool.Decides.{nat_tests}
use Rattle.kj_base.specs.Queue.{DepthFirst, Way, first_of}
use Rattle.kj_model.specs.Nodes.{Entry, form_at, is_in}
use Rattle.kj_model.specs.World.{World}
use Rattle.kj_model.specs.Changes.{arm_listener}
use Rattle.kj_model.specs.Listening.{announced, listener}
use Rattle.kj_model.specs.Fire.{branches_of, each_announced, branches_announced}
use Rattle.promise_nodes.specs.Kept.{IsLive}
use Rattle.promise_firing.specs.Left.{AreLeft}
use Rattle.promise_firing.specs.Outliving.{BranchesLive}

armed_nodes : (way : Way) (by : Option ℕ) (w : World) → (arm_listener way by w).nodes ≡ w.nodes
armed_nodes way None w = refl
armed_nodes way (Some n) w = refl

-- nodes stay when a listener is armed
pub announced_nodes : (way : Way) (n : ℕ) (w : World) → (announced way n w).nodes ≡ w.nodes
announced_nodes way n w = armed_nodes way (listener n w) w

none_some : (b : ℕ) → ◌≡◌ {A = Option ℕ} (Some b) None → ⊥
none_some b e = cc

some_same : (a b : ℕ) → ◌≡◌ {A = Option ℕ} (Some a) (Some b) → a ≡ b
some_same a b e = cc

empty_first : (l : List ℕ) → first_of l ≡ None → l ≡ []
empty_first [] h = refl
empty_first (m ∷ ms) h = absurd (none_some m h)

empty_few : (l : List ℕ) → length l ≤ 0 → l ≡ []
empty_few [] h = refl
empty_few (m ∷ ms) h = absurd (omega (arith, h))

-- a list that begins with this number
abbrev Begins : ℕ → List ℕ → Type 0
Begins n l = (rest : List ℕ) × (l ≡ n ∷ rest)

begins : (l : List ℕ) (n : ℕ) → first_of l ≡ Some n → Begins n l
begins [] n h = cc
begins (m ∷ ms) n h = (ms, ap (λ (k : ℕ). k ∷ ms) (some_same m n h))

in_case : (b : Bool) (n m : ℕ) (ms ns : List ℕ) → nat_eq m n ≡ b → is_in n (ms ++ n ∷ ns) ≡ true → is_in n ((m ∷ ms) ++ n ∷ ns) ≡ true
in_case true n m ms ns e h = rw e refl
in_case false n m ms ns e h = rw e h

in_middle : (n : ℕ) (ms ns : List ℕ) → is_in n (ms ++ n ∷ ns) ≡ true
in_middle n [] ns = let same : nat_eq n n ≡ true = grind (arith, nat_tests) in rw same refl
in_middle n (m ∷ ms) ns = in_case (nat_eq m n) n m ms ns refl (in_middle n ms ns)

-- no branch was announced
pub all_left : (Now : World → Type 0) (hub : ℕ) (w : World) (at : Option ℕ) (most : ℕ) → Now w → at ≡ first_of (branches_of (form_at hub w.nodes)) → length (branches_of (form_at hub w.nodes)) ≤ most → AreLeft Now hub w at most
all_left Now hub w at most stands first few = record {
  now = w;
  front = [];
  back = branches_of (form_at hub w.nodes);
  stands = stands;
  nodes = refl;
  branches = refl;
  first = first;
  ends = refl;
  few = few;
}

-- the next one is announced, and it lives
pub record Next (Now : World → Type 0) (hub : ℕ) (w : World) (branch most : ℕ) : Type 0 where
  pub now : World
  pub front : List ℕ
  pub back : List ℕ
  pub stands : Now now
  pub nodes : now.nodes ≡ w.nodes
  pub branches : branches_of (form_at hub w.nodes) ≡ front ++ branch ∷ back
  pub lives : IsLive now branch
  pub ends : each_announced back (announced DepthFirst branch now) ≡ branches_announced hub w
  pub few : length back + 1 ≤ most

pub next_left : (Now : World → Type 0) (hub : ℕ) (w : World) (at : Option ℕ) (branch most : ℕ) → at ≡ Some branch → BranchesLive hub w → AreLeft Now hub w at most → Next Now hub w branch most
next_left Now hub w at branch most is live l =
    let b = begins l.back branch (sym l.first ∙ is) in
    let all : branches_of (form_at hub w.nodes) ≡ l.front ++ branch ∷ b.0 = l.branches ∙ ap (λ (k : List ℕ). l.front ++ k) b.1 in
    record {
      now = l.now;
      front = l.front;
      back = b.0;
      stands = l.stands;
      nodes = l.nodes;
      branches = all;
      lives = subst (λ (nodes : List Entry). IsSome (form_at branch nodes)) (sym l.nodes) (live branch (ap (is_in branch) all ∙ in_middle branch l.front b.0));
      ends = sym (ap (λ (k : List ℕ). each_announced k l.now) b.1) ∙ l.ends;
      few = let few = l.few in let len = ap length b.1 in omega (arith, few, len);
    }

-- after it the others are left
pub announced_left : (Now Then : World → Type 0) (hub : ℕ) (w : World) (at : Option ℕ) (branch most : ℕ) (n : Next Now hub w branch most) → Then (announced DepthFirst branch n.now) → at ≡ first_of n.back → AreLeft Then hub w at (most - 1)
announced_left Now Then hub w at branch most n stands first = record {
  now = announced DepthFirst branch n.now;
  front = n.front ++ branch ∷ [];
  back = n.back;
  stands = stands;
  nodes = announced_nodes DepthFirst branch n.now ∙ n.nodes;
  branches = n.branches ∙ sym (append_assoc n.front (branch ∷ []) n.back);
  first = first;
  ends = n.ends;
  few = let few = n.few in omega (arith, few);
}

none_left : (Now : World → Type 0) (hub : ℕ) (w : World) (now : World) (back : List ℕ) → back ≡ [] → Now now → each_announced back now ≡ branches_announced hub w → Now (branches_announced hub w)
none_left Now hub w now back e stands ends = subst Now (sym (ap (λ (k : List ℕ). each_announced k now) e) ∙ ends) stands

-- no branch is left
pub left_none : (Now : World → Type 0) (hub : ℕ) (w : World) (at : Option ℕ) (most : ℕ) → at ≡ None → AreLeft Now hub w at most → Now (branches_announced hub w)
left_none Now hub w at most is l = none_left Now hub w l.now l.back (empty_first l.back (sym l.first ∙ is)) l.stands l.ends

pub left_zero : (Now : World → Type 0) (hub : ℕ) (w : World) (at : Option ℕ) → AreLeft Now hub w at 0 → Now (branches_announced hub w)
left_zero Now hub w at l = none_left Now hub w l.now l.back (empty_few l.back l.few) l.stands l.ends
