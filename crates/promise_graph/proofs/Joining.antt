-- A branch joins its hub.
use Rattle.std.proofs.Common.{◌≡◌, ◌≢◌, ℕ, ◌<◌, List, [], ◌∷◌, ◌++◌, Option, None, Some, Bool, true, false, map, refl, sym, ap, ◌∙◌, inl, inr, subst}
use Rattle.std.specs.Prelude.{unwrap_or}
use Rattle.std.specs.List.{AllByRecursion}
use Rattle.std.proofs.lemmas.Bool.{cases_eq, false≢true}
use Rattle.kj_base.specs.declared.nodes.Node.{Node}
use Rattle.kj_model.specs.Nodes.{Content, Form, Hub, Entry as Seen, form_at, with_form}
use Rattle.kj_model.specs.World.{World}
use Rattle.kj_model.specs.Fire.{branches_of}
use Rattle.kj_model.specs.Effects.{with_branch_in}
use Rattle.promise_nodes.specs.Shown.{shown}
use Rattle.promise_nodes.specs.Kept.{is_hub}
use Rattle.promise_graph.specs.declared.fields.Marks.{Marks}
use Rattle.promise_graph.specs.declared.fields.Rings.{Rings}
use Rattle.promise_graph.specs.Slots.{number_of, number_at}
use Rattle.promise_graph.specs.Rings.{next_at, prev_at, IsPath, IsRing, IsOut, AreApart, ArePaired, IsJoined}
use Rattle.promise_graph.specs.Kept.{AreNumbered, hub_of, is_hub_node, is_there}
use Rattle.promise_graph.specs.Standing.{HasNodes, HasRing}
use Rattle.promise_graph.proofs.Lists.{some_same, all_append, map_append}
use Rattle.promise_graph.proofs.Numbered.{one_slot}
use Rattle.promise_graph.proofs.Entries.{put_other, put_same, put_none, put_once}
use Rattle.promise_graph.proofs.Cutting.{path_same, out_before, out_both, alone_out}
use Rattle.promise_graph.proofs.Leaving.{with_branches, shown_again, is_hub_there, no_both}

-- no other node is this one
other_form : (at : ℕ → Option Node) (m : Marks) (k : AreNumbered at m) (h hub : ℕ) → number_at at h ≡ Some hub → (s : ℕ) (node : Node) → at s ≡ Some node → node.number.0 ≡ hub → s ≡ h
other_form at m k h hub live s node e p = one_slot at m k s h hub (ap number_of e ∙ ap (λ (j : ℕ). Some j) p) live

out_more : (x b : ℕ) (xs : List ℕ) → IsOut x xs → x ≢ b → IsOut x (xs ++ b ∷ [])
out_more x b xs h d = all_append (λ y. x ≢ y) xs (b ∷ []) h (d, tt)

pub apart_more : (h b : ℕ) (xs : List ℕ) → AreApart h xs → h ≢ b → IsOut b xs → AreApart h (xs ++ b ∷ [])
apart_more h b [] a d out = (d, tt, tt)
apart_more h b (x ∷ xs) a d out = (a.0, out_more x b xs a.1 (λ e. out.0 (sym e)), apart_more h b xs a.2 d out.1)

module _ (old new : Rings) (b h slots : ℕ) (c : IsJoined old new b h) (k : ArePaired old slots) (low : h < slots) where
  pub path_joined : (a : ℕ) (xs : List ℕ) → IsPath (next_at old) (prev_at old) a xs h → a ≢ b → IsOut b xs → AreApart h xs → IsPath (next_at new) (prev_at new) a (xs ++ b ∷ []) h
  path_joined a [] p d out apart = (ap (next_at new) (sym p.1) ∙ c.last_next, c.new_prev ∙ p.1, (c.new_next, c.hub_prev))
  path_joined a (x ∷ xs) p d out apart = (
    c.other_next a d (λ e. apart.0 (sym (k.forth h low) ∙ ap (next_at old) (sym e) ∙ p.0)) ∙ p.0,
    c.other_prev x (λ e. out.0 (sym e)) (λ e. apart.0 (sym e)) ∙ p.1,
    path_joined x xs p.2 (λ e. out.0 (sym e)) out.1 apart.2,
  )

  -- another ring stays
  ring_beside : (s : ℕ) (xs : List ℕ) → IsRing (next_at old) (prev_at old) s xs → s ≢ b → IsOut b xs → h ≢ s → IsOut h xs → IsRing (next_at new) (prev_at new) s xs
  ring_beside s xs ring d out e apart =
      let before = out_before (next_at old) (prev_at old) h (prev_at old h) s s xs ring (k.forth h low) apart e in
      path_same (next_at old) (prev_at old) (next_at new) (prev_at new) s s xs ring
      (c.other_next s d (λ q. before.0 (sym q)))
      (out_both b (prev_at old h) (λ x. next_at new x ≡ next_at old x) xs out before.1 (λ x y z. c.other_next x y z))
      (out_both b h (λ x. prev_at new x ≡ prev_at old x) xs out apart (λ x y z. c.other_prev x y z))
      (c.other_prev s d (λ q. e (sym q)))

all_same : (P R : ℕ → Type 0) → ((x : ℕ) → P x → R x) → (xs : List ℕ) → AllByRecursion P xs → AllByRecursion R xs
all_same P R f [] h = tt
all_same P R f (x ∷ xs) h = (f x h.0, all_same P R f xs h.1)

module _ (at : ℕ → Option Node) (m : Marks) (r : Rings) (b n h hub : ℕ) (k : AreNumbered at m) (live : number_at at b ≡ Some n) (hub_live : number_at at h ≡ Some hub) (of_hub : hub_of (at b) ≡ Some hub) (is_one : is_hub_node (at h) ≡ true)
    (c : IsJoined m.rings r b h) (paired : ArePaired m.rings m.slots) (low : h < m.slots) (alone : next_at m.rings b ≡ b) where
  no_hub : (o : Option Node) (j : ℕ) → is_hub_node o ≡ true → hub_of o ≡ Some j → ⊥
  no_hub None j t e = false≢true t
  no_hub (Some node) j t e = no_both j (shown [] node.form) t e

  hub_not : (x j : ℕ) → hub_of (at x) ≡ Some j → h ≢ x
  hub_not x j e q = no_hub (at h) j is_one (ap (λ (i : ℕ). hub_of (at i)) q ∙ e)

  ring_joined : (s : ℕ) (branches : List ℕ) → s ≡ h → HasRing at m.rings s hub branches → HasRing at r s hub (branches ++ n ∷ [])
  ring_joined s branches same ring0 =
      let ring = subst (λ (i : ℕ). HasRing at m.rings i hub branches) same ring0 in
      let out : IsOut b ring.members = alone_out (next_at m.rings) (prev_at m.rings) b h h ring.members ring.ring ring.apart alone in
      let apart : h ≢ b = hub_not b hub of_hub in
      subst (λ (i : ℕ). HasRing at r i hub (branches ++ n ∷ [])) (sym same) (record {
        members = ring.members ++ b ∷ [];
        ring = path_joined m.rings r b h m.slots c paired low h ring.members ring.ring apart out ring.apart;
        apart = apart_more h b ring.members ring.apart apart out;
        each = all_append (λ x. hub_of (at x) ≡ Some hub) ring.members (b ∷ []) ring.each (of_hub, tt);
        named = ap (λ (l : List ℕ). l ++ n ∷ []) ring.named
            ∙ ap (λ (j : ℕ). map (λ x. unwrap_or (number_at at x) 0) ring.members ++ j ∷ []) (sym (ap (λ (o : Option ℕ). unwrap_or o 0) live))
            ∙ sym (map_append (λ x. unwrap_or (number_at at x) 0) ring.members (b ∷ []));
      })

  ring_stays : (s number : ℕ) (branches : List ℕ) → s ≢ h → s ≢ b → HasRing at m.rings s number branches → HasRing at r s number branches
  ring_stays s number branches d e ring =
      let out : IsOut b ring.members = alone_out (next_at m.rings) (prev_at m.rings) b s s ring.members ring.ring ring.apart alone in
      let apart : IsOut h ring.members = all_same (λ x. hub_of (at x) ≡ Some number) (λ x. h ≢ x) (λ x o. hub_not x number o) ring.members ring.each in
      record {
        members = ring.members;
        ring = ring_beside m.rings r b h m.slots c paired low s ring.members ring.ring e out (λ q. d (sym q)) apart;
        apart = ring.apart;
        each = ring.each;
        named = ring.named;
      }

  hub_apart : (s : ℕ) (node : Node) → at s ≡ Some node → is_hub (shown [] node.form) ≡ true → s ≢ b
  hub_apart s node e t q = no_both hub (shown [] node.form) t (sym (ap hub_of e) ∙ ap (λ (i : ℕ). hub_of (at i)) q ∙ of_hub)

  hub_joined : (es : List Seen) (content : Content) (named : Bool) (branches : List ℕ) → form_at hub es ≡ Some (Hub content named branches) → HasNodes at m.rings es → HasNodes at r (with_form hub (Hub content named (branches ++ n ∷ [])) es)
  hub_joined es content named branches e has =
      let f : Form = Hub content named (branches ++ n ∷ []) in
      let found : form_at hub (with_form hub f es) ≡ Some f = put_same hub f (Hub content named branches) es e in
      record {
        there = λ s node l. elim (cases_eq node.number.0 hub) [
          | inl p ↦ (let was = some_same (Hub content named branches) _ (sym e ∙ ap (λ (j : ℕ). form_at j es) (sym p) ∙ has.there s node l) in
              subst (λ (j : ℕ). form_at j (with_form hub f es) ≡ Some (shown (branches_of (form_at j (with_form hub f es))) node.form)) (sym p)
              (found ∙ ap (λ (x : Form). Some x) (ap (with_branches (branches ++ n ∷ [])) was ∙ shown_again (branches ++ n ∷ []) _ node.form) ∙ ap (λ (o : Option Form). Some (shown (branches_of o) node.form)) (sym found)))
          | inr d ↦ (let same = put_other node.number.0 hub f es d in same ∙ has.there s node l ∙ ap (λ (o : Option Form). Some (shown (branches_of o) node.form)) (sym same))
        ];
        absent = λ j a. put_none j hub f es (has.absent j a);
        once = put_once hub f es has.once;
        rings = λ s node l t. elim (cases_eq node.number.0 hub) [
          | inl p ↦ subst (λ (j : ℕ). HasRing at r s j (branches_of (form_at j (with_form hub f es)))) (sym p)
              (subst (λ (o : Option Form). HasRing at r s hub (branches_of o)) (sym found)
              (ring_joined s branches (other_form at m k h hub hub_live s node l p) (subst (λ (o : Option Form). HasRing at m.rings s hub (branches_of o)) e (subst (λ (j : ℕ). HasRing at m.rings s j (branches_of (form_at j es))) p (has.rings s node l t)))))
          | inr d ↦ subst (λ (o : Option Form). HasRing at r s node.number.0 (branches_of o)) (sym (put_other node.number.0 hub f es d))
              (ring_stays s node.number.0 (branches_of (form_at node.number.0 es)) (λ q. d (some_same node.number.0 hub (sym (ap number_of l) ∙ ap (number_at at) q ∙ hub_live))) (hub_apart s node l t) (has.rings s node l t))
        ];
      }

  hub_split : (R : Type 0) (o : Option Form) → is_hub_there o ≡ true → ((content : Content) (named : Bool) (branches : List ℕ) → o ≡ Some (Hub content named branches) → R) → R
  hub_split R None t f = absurd (false≢true t)
  hub_split R (Some (Hub content named branches)) t f = f content named branches refl
  hub_split R (Some other) t f = absurd (false≢true t)

  pub nodes_joined : (w : World) → is_hub_there (form_at hub w.nodes) ≡ true → HasNodes at m.rings w.nodes → HasNodes at r (with_branch_in n hub (form_at hub w.nodes) w).nodes
  nodes_joined w t has = hub_split (HasNodes at r (with_branch_in n hub (form_at hub w.nodes) w).nodes) (form_at hub w.nodes) t
      (λ content named branches e. subst (λ (o : Option Form). HasNodes at r (with_branch_in n hub o w).nodes) (sym e) (hub_joined w.nodes content named branches e has))

  pub only_joined : (w : World) → is_hub_there (form_at hub w.nodes) ≡ true → with_branch_in n hub (form_at hub w.nodes) w ≡ record w { nodes = (with_branch_in n hub (form_at hub w.nodes) w).nodes }
  only_joined w t = hub_split (with_branch_in n hub (form_at hub w.nodes) w ≡ record w { nodes = (with_branch_in n hub (form_at hub w.nodes) w).nodes }) (form_at hub w.nodes) t
      (λ content named branches e. subst (λ (o : Option Form). with_branch_in n hub o w ≡ record w { nodes = (with_branch_in n hub o w).nodes }) (sym e) refl)

  -- what was in no ring is in none, but for the branch
  pub alone_joined : (s : ℕ) → is_there (hub_of (at s)) ≡ true → s ≢ b → next_at m.rings s ≡ s → next_at r s ≡ s
  alone_joined s t d e = c.other_next s d (λ q. is_hub_not (hub_of (at s)) refl t (sym (paired.forth h low) ∙ ap (next_at m.rings) (sym q) ∙ e)) ∙ e
    where
      is_hub_not : (o : Option ℕ) → hub_of (at s) ≡ o → is_there o ≡ true → h ≡ s → ⊥
      is_hub_not None g t q = false≢true t
      is_hub_not (Some j) g t q = hub_not s j g q

-- nothing changes where there is no such hub
pub joins_none : (n hub : ℕ) (o : Option Form) (w : World) → is_hub_there o ≡ false → with_branch_in n hub o w ≡ w
joins_none n hub None w h = refl
joins_none n hub (Some (Hub content named branches)) w h = absurd (false≢true (sym h))
joins_none n hub (Some other) w h = refl
