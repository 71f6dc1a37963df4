-- Hubs whose branches left, against the marks.
use Rattle.std.proofs.Common.{◌≡◌, ℕ, ◌+◌, ◌-◌, ◌≤◌, List, [], ◌∷◌, ◌++◌, Option, None, Some, Bool, true, false, cond, refl, sym, ap, ◌∙◌, arith, length}
use Rattle.std.specs.Prelude.{◌&&◌, not}
use Rattle.std.proofs.lemmas.List.{append_assoc}
use Rattle.kj_base.specs.Queue.{first_of}
use Rattle.kj_model.specs.Nodes.{Form, Ready, Later, Last, Cell, Branch, Then, Chain, Eager, Wrap, Hub, Side, Race, Join, Task, Request, Content, Entry, form_at, is_in}
use Rattle.kj_model.specs.Fire.{branches_of}
use Rattle.kj_model.specs.Trees.{none_if}
use Rattle.kj_model.specs.Falling.{is_branch_of, is_unnamed_hub, branches_staying, some_staying, form_then}
use Rattle.promise_nodes.specs.Kept.{is_unreferenced}
use Rattle.promise_walks.specs.Falls.{is_off, is_nothing, are_off, AreSeen}

-- ---- the branches of a hub

none_some : (b : ℕ) → ◌≡◌ {A = Option ℕ} (Some b) None → ⊥
none_some b e = cc

some_same : (a b : ℕ) → ◌≡◌ {A = Option ℕ} (Some a) (Some b) → a ≡ b
some_same a b e = cc

empty_first : (l : List ℕ) → first_of l ≡ None → l ≡ []
empty_first [] h = refl
empty_first (m ∷ ms) h = absurd (none_some m h)

empty_few : (l : List ℕ) → length l ≤ 0 → l ≡ []
empty_few [] h = refl
empty_few (m ∷ ms) h = absurd (omega (arith, h))

abbrev Begins : ℕ → List ℕ → Type 0
Begins n l = (rest : List ℕ) × (l ≡ n ∷ rest)

begins : (l : List ℕ) (n : ℕ) → first_of l ≡ Some n → Begins n l
begins [] n h = cc
begins (m ∷ ms) n h = (ms, ap (λ (k : ℕ). k ∷ ms) (some_same m n h))

-- no branch was looked at
pub all_seen : (out : ℕ → Bool) (hub : ℕ) (nodes : List Entry) (at : Option ℕ) (most : ℕ) → at ≡ first_of (branches_of (form_at hub nodes)) → length (branches_of (form_at hub nodes)) ≤ most → AreSeen out hub nodes at most
all_seen out hub nodes at most first few = record {
  front = [];
  back = branches_of (form_at hub nodes);
  branches = refl;
  first = first;
  stay = refl;
  few = few;
}

-- the next one is looked at
pub record Next (out : ℕ → Bool) (hub : ℕ) (nodes : List Entry) (branch most : ℕ) : Type 0 where
  pub front : List ℕ
  pub back : List ℕ
  pub branches : branches_of (form_at hub nodes) ≡ front ++ branch ∷ back
  pub stay : branches_staying out hub nodes (branches_of (form_at hub nodes)) ≡ branches_staying out hub nodes (branch ∷ back)
  pub few : length back + 1 ≤ most

pub next_seen : (out : ℕ → Bool) (hub : ℕ) (nodes : List Entry) (at : Option ℕ) (branch most : ℕ) → at ≡ Some branch → AreSeen out hub nodes at most → Next out hub nodes branch most
next_seen out hub nodes at branch most is l =
    let b = begins l.back branch (sym l.first ∙ is) in
    record {
      front = l.front;
      back = b.0;
      branches = l.branches ∙ ap (λ (k : List ℕ). l.front ++ k) b.1;
      stay = l.stay ∙ ap (branches_staying out hub nodes) b.1;
      few = let few = l.few in let len = ap length b.1 in omega (arith, few, len);
    }

-- it doesn't stay
pub seen_off : (out : ℕ → Bool) (hub : ℕ) (nodes : List Entry) (at : Option ℕ) (branch most : ℕ) (n : Next out hub nodes branch most) → (out branch && is_branch_of hub (form_at branch nodes)) ≡ true → at ≡ first_of n.back → AreSeen out hub nodes at (most - 1)
seen_off out hub nodes at branch most n off first = record {
  front = n.front ++ branch ∷ [];
  back = n.back;
  branches = n.branches ∙ sym (append_assoc n.front (branch ∷ []) n.back);
  first = first;
  stay = n.stay ∙ ap (λ (b : Bool). cond (not b) (branch ∷ branches_staying out hub nodes n.back) (branches_staying out hub nodes n.back)) off;
  few = let few = n.few in omega (arith, few);
}

-- it stays
pub seen_on : (out : ℕ → Bool) (hub : ℕ) (nodes : List Entry) (branch most : ℕ) (n : Next out hub nodes branch most) → (out branch && is_branch_of hub (form_at branch nodes)) ≡ false → false ≡ is_nothing (branches_staying out hub nodes (branches_of (form_at hub nodes)))
seen_on out hub nodes branch most n on =
    sym (ap is_nothing n.stay ∙ ap (λ (b : Bool). is_nothing (cond (not b) (branch ∷ branches_staying out hub nodes n.back) (branches_staying out hub nodes n.back))) on)

nothing_left : (out : ℕ → Bool) (hub : ℕ) (nodes : List Entry) (at : Option ℕ) (most : ℕ) (l : AreSeen out hub nodes at most) → l.back ≡ [] → true ≡ is_nothing (branches_staying out hub nodes (branches_of (form_at hub nodes)))
nothing_left out hub nodes at most l e = sym (ap is_nothing (l.stay ∙ ap (branches_staying out hub nodes) e))

-- none stays
pub none_seen : (out : ℕ → Bool) (hub : ℕ) (nodes : List Entry) (at : Option ℕ) (most : ℕ) → at ≡ None → AreSeen out hub nodes at most → true ≡ is_nothing (branches_staying out hub nodes (branches_of (form_at hub nodes)))
none_seen out hub nodes at most is l = nothing_left out hub nodes at most l (empty_first l.back (sym l.first ∙ is))

pub zero_seen : (out : ℕ → Bool) (hub : ℕ) (nodes : List Entry) (at : Option ℕ) (most : ℕ) → most ≡ 0 → AreSeen out hub nodes at most → true ≡ is_nothing (branches_staying out hub nodes (branches_of (form_at hub nodes)))
zero_seen out hub nodes at most none l = nothing_left out hub nodes at most l (empty_few l.back (let few = l.few in omega (arith, few, none)))

-- ---- a hub

nothing_is : (content : Content) (l : List ℕ) → is_nothing l ≡ is_unreferenced (Some (Hub content false l))
nothing_is content [] = refl
nothing_is content (n ∷ ns) = refl

staying_is : (out : ℕ → Bool) (hub : ℕ) (nodes : List Entry) (o : Option Form) → (is_unnamed_hub o && is_nothing (branches_staying out hub nodes (branches_of o))) ≡ is_unreferenced (some_staying out hub nodes o)
staying_is out hub nodes None = refl
staying_is out hub nodes (Some (Ready outcome)) = refl
staying_is out hub nodes (Some Later) = refl
staying_is out hub nodes (Some Last) = refl
staying_is out hub nodes (Some (Cell outcome)) = refl
staying_is out hub nodes (Some (Branch other)) = refl
staying_is out hub nodes (Some (Then value error tree)) = refl
staying_is out hub nodes (Some (Chain link)) = refl
staying_is out hub nodes (Some (Eager content)) = refl
staying_is out hub nodes (Some (Wrap canceler content)) = refl
staying_is out hub nodes (Some (Hub content true branches)) = refl
staying_is out hub nodes (Some (Hub content false branches)) = nothing_is content (branches_staying out hub nodes branches)
staying_is out hub nodes (Some (Side stage)) = refl
staying_is out hub nodes (Some (Race left right winner)) = refl
staying_is out hub nodes (Some (Join fast sides)) = refl
staying_is out hub nodes (Some (Task tree)) = refl
staying_is out hub nodes (Some (Request name tree)) = refl

pub goes_gone : (way gone : List ℕ) (hub : ℕ) (nodes : List Entry) → is_in hub gone ≡ true → false ≡ is_unreferenced (form_then way gone hub nodes)
goes_gone way gone hub nodes h = sym (ap (λ (b : Bool). is_unreferenced (none_if b (some_staying (is_off way gone) hub nodes (form_at hub nodes)))) h)

pub goes_by : (way gone : List ℕ) (hub : ℕ) (nodes : List Entry) (unnamed : Bool) → is_in hub gone ≡ false → unnamed ≡ true → unnamed ≡ is_unnamed_hub (form_at hub nodes)
    → are_off way gone hub nodes (branches_of (form_at hub nodes)) ≡ is_unreferenced (form_then way gone hub nodes)
goes_by way gone hub nodes unnamed h holds is =
    ap (λ (b : Bool). b && are_off way gone hub nodes (branches_of (form_at hub nodes))) (sym holds ∙ is)
    ∙ staying_is (is_off way gone) hub nodes (form_at hub nodes)
    ∙ sym (ap (λ (b : Bool). is_unreferenced (none_if b (some_staying (is_off way gone) hub nodes (form_at hub nodes)))) h)
