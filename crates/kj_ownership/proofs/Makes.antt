-- The commands that free nothing.
use Rattle.std.proofs.Common.{◌≡◌, inl, inr, ℕ, ◌+◌, ◌<◌, ◌≤◌, suc, List, [], ◌∷◌, ◌++◌, length, Bool, true, false, Option, None, Some, arith, refl, sym, ap, ◌∙◌, subst}
use Rattle.std.specs.Prelude.{nat_eq}
use Rattle.std.proofs.lemmas.Bool.Decides.{nat_tests}
use Rattle.kj_base.specs.declared.numbers.Limits.{Limits}
use Rattle.kj_base.specs.declared.outcomes.Outcome.{Outcome}
use Rattle.kj_base.specs.declared.outcomes.Outcome.TheVariants.{Value}
use Rattle.kj_base.specs.Queue.{DepthFirst, BreadthFirst}
use Rattle.kj_model.specs.Outcomes.{void, fulfiller_dropped}
use Rattle.kj_model.specs.Nodes.{Form, Content, Tree, Ready, Later, Last, Cell, Then, Chain, Eager, Wrap, Hub, Race, Join, Task, Request, form_at, parts_of, is_in, dropped}
use Rattle.kj_model.specs.World.{World, State, Named, Held, Promise, CellOf, AskCell, HubOf, Group, Canceler, RequestOf, held_at}
use Rattle.kj_model.specs.Changes.{silent, named, unnamed}
use Rattle.kj_model.specs.Places.{built}
use Rattle.kj_model.specs.Listening.{listened}
use Rattle.kj_model.specs.Uses.{IsNew, IsSource, use_as, used_as, new_over, first_failing, is_unknown, is_wrong, is_taken}
use Rattle.kj_model.specs.Effects.{node_named, leaf_built, over_built, over_named, over_listening, chain_built, fork_built, sides_built, numbers_from, each_listened, trees_named, race_built, join_built, cell_settled, cell_dropped, added, added_in, detached_built, empty_built, empty_built_in, wrapped_in, wrap_built, ask_built, request_built, replied, without_abandoned, with_detached}
use Rattle.kj_model.specs.Owned.{held_roots}
use Rattle.kj_model.specs.Framed.{times, name_numbers}
use Rattle.kj_ownership.specs.Standing.{Owned}
use Rattle.kj_ownership.specs.Shapes.{Kind, OfTree, OfLink, OfSide, OfTask, OfRequest, suits, part_kind, held_kind, roots_found, Shaped}
use Rattle.kj_model.proofs.Members.{in_none, in_either}
use Rattle.kj_model.proofs.Counts.{times_app}
use Rattle.kj_ownership.proofs.Commands.{IsPlain}
use Rattle.kj_ownership.proofs.Changed.{held_hubs}
use Rattle.kj_ownership.proofs.Shapes.{has_winner, no_winner}
use Rattle.kj_ownership.proofs.Reached.{Reached, reached_none, reached_unnamed, reached_named, reached_renamed, reached_built, reached_plain, reached_listened, reached_settled, reached_lists, reached_detached}
use Rattle.kj_ownership.proofs.Premises.{found_none, new_absent, sources_are, AreSources}
use Rattle.kj_ownership.proofs.Builders.{built_is, IsPromised, promised, leaf_reached, over_reached, over_is, over_promised, one_suits, source_suits, absent_named, absent_unnamed, absent_other, held_apart, held_kept, held_left, node_is, sides_reached}

-- forms of promises
pub ready_promised : (o : Outcome) → IsPromised (Ready o)
ready_promised o = record { plain = record { root = λ n. refl; name = λ n. refl; branch = λ n. refl; fresh = refl; refs = λ n. refl }; tree = refl; winner = refl }

pub later_promised : IsPromised Later
later_promised = record { plain = record { root = λ n. refl; name = λ n. refl; branch = λ n. refl; fresh = refl; refs = λ n. refl }; tree = refl; winner = refl }

pub last_promised : IsPromised Last
last_promised = record { plain = record { root = λ n. refl; name = λ n. refl; branch = λ n. refl; fresh = refl; refs = λ n. refl }; tree = refl; winner = refl }

pub cell_promised : IsPromised (Cell None)
cell_promised = record { plain = record { root = λ n. refl; name = λ n. refl; branch = λ n. refl; fresh = refl; refs = λ n. refl }; tree = refl; winner = refl }

then_promised : (v e t : Option ℕ) → IsPromised (Then v e t)
then_promised v e t = record { plain = record { root = λ n. refl; name = λ n. refl; branch = λ n. refl; fresh = refl; refs = λ n. refl }; tree = refl; winner = refl }

chain_promised : (n : ℕ) → IsPromised (Chain n)
chain_promised link = record { plain = record { root = λ n. refl; name = λ n. refl; branch = λ n. refl; fresh = refl; refs = λ n. refl }; tree = refl; winner = refl }

eager_promised : (c : Content) → IsPromised (Eager c)
eager_promised c = record { plain = record { root = λ n. refl; name = λ n. refl; branch = λ n. refl; fresh = refl; refs = λ n. refl }; tree = refl; winner = refl }

wrap_promised : (canceler : ℕ) (c : Content) → IsPromised (Wrap canceler c)
wrap_promised canceler c = record { plain = record { root = λ n. refl; name = λ n. refl; branch = λ n. refl; fresh = refl; refs = λ n. refl }; tree = refl; winner = refl }

race_promised : (left right : ℕ) → IsPromised (Race left right None)
race_promised left right = record { plain = record { root = λ n. refl; name = λ n. refl; branch = λ n. refl; fresh = refl; refs = λ n. refl }; tree = refl; winner = refl }

join_promised : (fast : Bool) (sides : List ℕ) → IsPromised (Join fast sides)
join_promised fast sides = record { plain = record { root = λ n. refl; name = λ n. refl; branch = λ n. refl; fresh = refl; refs = λ n. refl }; tree = refl; winner = refl }

task_plain : (t : Option ℕ) → IsPlain (Task t)
task_plain t = record { root = λ n. refl; name = λ n. refl; branch = λ n. refl; fresh = refl; refs = λ n. refl }

request_plain : (name : ℕ) (t : Option ℕ) → IsPlain (Request name t)
request_plain r t = record { root = λ n. refl; name = λ n. refl; branch = λ n. refl; fresh = refl; refs = λ n. refl }

-- a new name over sources
pub record OverSources (name : ℕ) (sources : List ℕ) (w : World) : Type 0 where
  pub fresh : times name (name_numbers w.names) ≡ 0
  pub promises : AreSources w.names sources

pub over_sources : (name : ℕ) (sources : List ℕ) (w : World) → first_failing (is_unknown w) [] (new_over name sources) ≡ None → first_failing (is_wrong w) [] (new_over name sources) ≡ None → first_failing (is_taken w) [] (new_over name sources) ≡ None → OverSources name sources w
over_sources name sources w known right taken = record {
  fresh = new_absent name false w.names (found_none (is_taken w [] (use_as IsNew name)) name (first_failing (is_taken w) (use_as IsNew name ∷ []) (used_as IsSource sources)) taken).0;
  promises = sources_are w (use_as IsNew name ∷ []) sources (found_none (is_unknown w [] (use_as IsNew name)) name (first_failing (is_unknown w) (use_as IsNew name ∷ []) (used_as IsSource sources)) known).1 (use_as IsNew name ∷ []) (found_none (is_wrong w [] (use_as IsNew name)) name (first_failing (is_wrong w) (use_as IsNew name ∷ []) (used_as IsSource sources)) right).1;
}

-- what a name holds suits
pub held_suits : (c p : ℕ) (h : Held) (w : World) → held_at c w.names ≡ Some h → Shaped w → is_in p (held_roots h) ≡ true → suits (held_kind c (Some h)) (form_at p w.nodes) ≡ true
held_suits c p h w at sh i = subst (λ (o : Option Held). suits (held_kind c o) (form_at p w.nodes) ≡ true) at (sh.names c p (subst (λ (o : Option Held). is_in p (roots_found o) ≡ true) (sym at) i))

-- what another name holds, after a leaf was built
leaf_held : (c name : ℕ) (form : Form) (s : State) → Owned s → nat_eq name c ≡ false → held_at c (leaf_built name form s.world).names ≡ held_at c s.world.names
leaf_held c name form s st n = held_kept c name (Promise s.world.next) (built None form s.world) n ∙ ap (held_at c) (built_is None form s st.recorded).names

leaf_absent : (c name : ℕ) (form : Form) (s : State) → Owned s → nat_eq name c ≡ false → times c (name_numbers s.world.names) ≡ 0 → times c (name_numbers (leaf_built name form s.world).names) ≡ 0
leaf_absent c name form s st n z = absent_named c name (Promise s.world.next) (built None form s.world) n (ap (λ (ns : List Named). times c (name_numbers ns)) (built_is None form s st.recorded).names ∙ z)

-- a cell under two names
pub pair_reached : (name cell : ℕ) (held : ℕ → Held) (s : State) → ((n : ℕ) → held_roots (held n) ≡ []) → ((n : ℕ) → held_hubs (held n) ≡ []) → times name (name_numbers s.world.names) ≡ 0 → times cell (name_numbers s.world.names) ≡ 0 → nat_eq name cell ≡ false → length s.world.nodes < s.world.limits.slots → Owned s → Shaped s.world → Reached [] [] [] s (silent (λ w. named cell (held w.next) (leaf_built name (Cell None) w)) s)
pair_reached name cell held s roots hubs fresh cell_fresh n room st sh =
    let a = leaf_reached name (Cell None) s cell_promised refl fresh room st sh in
    let t = silent (leaf_built name (Cell None)) s in
    reached_named cell (held s.world.next) [] [] [] s t (leaf_absent cell name (Cell None) s st n cell_fresh) (λ p i. absurd (in_none p (sym (ap (is_in p) (roots s.world.next)) ∙ i)))
    (subst (λ (hs : List ℕ). Reached (held_roots (held s.world.next) ++ []) (hs ++ []) [] s t) (sym (hubs s.world.next)) (subst (λ (rs : List ℕ). Reached (rs ++ []) [] [] s t) (sym (roots s.world.next)) a))

-- Then
pub then_reached : (name source : ℕ) (v e : Option ℕ) (s : State) → OverSources name (source ∷ []) s.world → length s.world.nodes < s.world.limits.slots → Owned s → Shaped s.world → Reached [] [] [] s (silent (over_named name (λ t. Then v e (Some t)) source) s)
then_reached name source v e s o room st sh = let a = o.promises in over_promised name source a.0 (λ t. Then v e (Some t)) s a.1 o.fresh room (then_promised v e (Some a.0)) refl refl st sh

-- Eager
pub eager_reached : (name source : ℕ) (s : State) → OverSources name (source ∷ []) s.world → length s.world.nodes < s.world.limits.slots → Owned s → Shaped s.world → Reached [] [] [] s (silent (over_listening name (λ t. Eager (Tree t)) source) s)
eager_reached name source s o room st sh = let a = o.promises in reached_listened (node_named source s.world) [] [] [] s (silent (over_named name (λ t. Eager (Tree t)) source) s) (over_promised name source a.0 (λ t. Eager (Tree t)) s a.1 o.fresh room (eager_promised (Tree a.0)) refl refl st sh)

-- Chain
pub chain_reached : (name source : ℕ) (v e : Option ℕ) (s : State) → OverSources name (source ∷ []) s.world → length s.world.nodes + 2 ≤ s.world.limits.slots → Owned s → Shaped s.world → Reached [] [] [] s (silent (chain_built name source v e) s)
chain_reached name source v e s o room st sh =
    let a = o.promises in
    let n = s.world.next in
    let form = λ (t : ℕ). Then v e (Some t) in
    let s1 = silent (over_built (λ t. Then v e (Some t)) source) s in
    let b = over_is source a.0 (λ t. Then v e (Some t)) s a.1 st.recorded in
    let r1 = over_reached source a.0 (λ t. Then v e (Some t)) [] s s a.1 (omega (arith, room)) (then_promised v e (Some a.0)).plain refl refl (source_suits source a.0 s.world a.1 sh) (reached_none s st sh) in
    let slots : s1.world.limits.slots ≡ s.world.limits.slots = ap (λ (l : Limits). l.slots) b.limits in
    let size = b.size in
    let r2 = promised name (Chain n) (Some n) s s1 (chain_promised n) (ap (λ (ns : List Named). times name (name_numbers ns)) b.names ∙ absent_unnamed name source s.world o.fresh) (omega (arith, room, slots, size)) (one_suits n OfLink (λ p. form_at p s1.world.nodes) (ap (suits OfLink) b.at)) r1 in
    let r3 = subst (λ (k : ℕ). Reached [] [] [] s (record { world = named name (Promise k) (built (Some n) (Chain n) s1.world); past = s.past })) b.next r2 in
    reached_listened n [] [] [] s (silent (λ w. named name (Promise (n + 1)) (built (Some n) (Chain n) (over_built (λ t. Then v e (Some t)) source w))) s) r3

-- Fork
pub fork_reached : (hub source : ℕ) (s : State) → OverSources hub (source ∷ []) s.world → length s.world.nodes < s.world.limits.slots → Owned s → Shaped s.world → Reached [] [] [] s (silent (fork_built hub source) s)
fork_reached hub source s o room st sh =
    let a = o.promises in
    let u = node_named source s.world in
    let same = node_is source a.0 s.world a.1 in
    let s1 = silent (unnamed source) s in
    let form = Hub (Tree u) true [] in
    let s2 = silent (built None form) s1 in
    let r1 = reached_unnamed source (Promise a.0) [] [] [] s s a.1 (reached_none s st sh) in
    let r2 : Reached (u ∷ []) [] [] s s1 = subst (λ (x : ℕ). Reached (x ∷ []) [] [] s s1) (sym same) r1 in
    let r3 : Reached [] (s.world.next ∷ []) [] s s2 = reached_built None form [] [] s s1 refl room (λ n h. refl) (one_suits u OfTree (λ p. form_at p s.world.nodes) (subst (λ (x : ℕ). suits OfTree (form_at x s.world.nodes) ≡ true) (sym same) (source_suits source a.0 s.world a.1 sh))) (λ l k x e. no_winner (Some form) l k x refl e) r2 in
    let b = built_is None form s1 r1.standing.recorded in
    reached_listened u [] [] [] s (silent (named hub (HubOf s.world.next)) s2) (reached_named hub (HubOf s.world.next) [] [] [] s s2 (ap (λ (ns : List Named). times hub (name_numbers ns)) b.names ∙ absent_unnamed hub source s.world o.fresh) (λ p i. absurd (in_none p i)) r3)

-- Race, All, Fast
each_reached : (ns loose : List ℕ) (s t : State) → Reached loose [] [] s t → Reached loose [] [] s (silent (each_listened ns) t)
each_reached [] loose s t r = r
each_reached (n ∷ ns) loose s t r = each_reached ns loose s (silent (listened n) t) (reached_listened n loose [] [] s t r)

pub sides_promised : (name : ℕ) (form : List ℕ → Form) (sources : List ℕ) (s : State) → ((sides : List ℕ) → parts_of (form sides) ≡ sides) → ((sides : List ℕ) → part_kind (Some (form sides)) ≡ OfSide) → IsPromised (form (numbers_from s.world.next sources)) → OverSources name sources s.world → length s.world.nodes + length sources < s.world.limits.slots → Owned s → Shaped s.world
    → Reached [] [] [] s (silent (λ w. each_listened (trees_named sources w) (leaf_built name (form (numbers_from w.next sources)) (sides_built sources w))) s)
sides_promised name form sources s parts kind is o room st sh =
    let ns = numbers_from s.world.next sources in
    let v = silent (sides_built sources) s in
    let b = sides_reached sources [] s s o.promises (omega (arith, room)) (reached_none s st sh) in
    let slots : v.world.limits.slots ≡ s.world.limits.slots = ap (λ (l : Limits). l.slots) b.limits in
    let size = b.size in
    each_reached (trees_named sources s.world) [] s (silent (leaf_built name (form ns)) v)
    (promised name (form ns) None s v is (b.absent name o.fresh) (omega (arith, room, slots, size))
    (λ p i. subst (λ (k : Kind). suits k (form_at p v.world.nodes) ≡ true) (sym (kind ns)) (b.sides p (sym (ap (is_in p) (parts ns)) ∙ i)))
    (subst (λ (ps : List ℕ). Reached (ps ++ []) [] [] s v) (sym (parts ns)) b.reached))

pub race_reached : (name left right : ℕ) (s : State) → OverSources name (left ∷ right ∷ []) s.world → length s.world.nodes + 2 < s.world.limits.slots → Owned s → Shaped s.world → Reached [] [] [] s (silent (race_built name left right) s)
race_reached name left right s o room st sh =
    let sources = left ∷ right ∷ [] in
    let n = s.world.next in
    let v = silent (sides_built sources) s in
    let form = Race n (n + 1) None in
    let b = sides_reached sources [] s s o.promises (omega (arith, room)) (reached_none s st sh) in
    let slots : v.world.limits.slots ≡ s.world.limits.slots = ap (λ (l : Limits). l.slots) b.limits in
    let size = b.size in
    each_reached (trees_named sources s.world) [] s (silent (leaf_built name form) v)
    (promised name form None s v (race_promised n (n + 1)) (b.absent name o.fresh) (omega (arith, room, slots, size)) (λ p i. b.sides p i) b.reached)

pub join_reached : (fast : Bool) (name : ℕ) (sources : List ℕ) (s : State) → OverSources name sources s.world → length s.world.nodes + length sources < s.world.limits.slots → Owned s → Shaped s.world → Reached [] [] [] s (silent (join_built fast name sources) s)
join_reached fast name sources s o room st sh = sides_promised name (λ sides. Join fast sides) sources s (λ sides. refl) (λ sides. refl) (join_promised fast (numbers_from s.world.next sources)) o room st sh

-- cells
pub settled_reached : (cell : ℕ) (o : Outcome) (s : State) → Owned s → Shaped s.world → Reached [] [] [] s (silent (cell_settled cell o) s)
settled_reached cell o s st sh = reached_settled DepthFirst (node_named cell s.world) o [] [] [] s s (reached_none s st sh)

pub dropped_reached : (cell n : ℕ) (s : State) → held_at cell s.world.names ≡ Some (CellOf n) → Owned s → Shaped s.world → Reached [] [] [] s (silent (cell_dropped cell) s)
dropped_reached cell n s at st sh = reached_settled DepthFirst (node_named cell s.world) fulfiller_dropped [] [] [] s (silent (unnamed cell) s) (reached_unnamed cell (CellOf n) [] [] [] s s at (reached_none s st sh))

pub replied_reached : (cell n : ℕ) (taken : Bool) (o : Outcome) (s : State) → held_at cell s.world.names ≡ Some (AskCell n taken) → Owned s → Shaped s.world → Reached [] [] [] s (silent (replied cell o) s)
replied_reached cell n taken o s at st sh = reached_settled BreadthFirst (node_named cell s.world) o [] [] [] s (silent (λ w. without_abandoned cell (unnamed cell w)) s) (reached_lists s.world.asks s.world.ended (dropped cell s.world.abandoned) [] [] [] s (silent (unnamed cell) s) (reached_unnamed cell (AskCell n taken) [] [] [] s s at (reached_none s st sh)))

-- sets and cancelers
pub set_reached : (group : ℕ) (error : Option ℕ) (s : State) → times group (name_numbers s.world.names) ≡ 0 → Owned s → Shaped s.world → Reached [] [] [] s (silent (named group (Group error [] None)) s)
set_reached group error s fresh st sh = reached_named group (Group error [] None) [] [] [] s s fresh (λ p i. absurd (in_none p i)) (reached_none s st sh)

pub canceler_reached : (canceler : ℕ) (s : State) → times canceler (name_numbers s.world.names) ≡ 0 → Owned s → Shaped s.world → Reached [] [] [] s (silent (named canceler (Canceler [])) s)
canceler_reached canceler s fresh st sh = reached_named canceler (Canceler []) [] [] [] s s fresh (λ p i. absurd (in_none p i)) (reached_none s st sh)

promise_no_group : (t : ℕ) (error : Option ℕ) (tasks : List ℕ) (empty : Option ℕ) → ◌≡◌ {A = Option Held} (Some (Promise t)) (Some (Group error tasks empty)) → ⊥
promise_no_group t error tasks empty e = cc

pub added_reached : (group source t : ℕ) (error : Option ℕ) (tasks : List ℕ) (empty : Option ℕ) (s : State) → held_at group s.world.names ≡ Some (Group error tasks empty) → held_at source s.world.names ≡ Some (Promise t) → length s.world.nodes < s.world.limits.slots → Owned s → Shaped s.world → Reached [] [] [] s (silent (added group source) s)
added_reached group source t error tasks empty s at_group at room st sh =
    let n = s.world.next in
    let s1 = silent (over_built (λ root. Task (Some root)) source) s in
    let r1 = over_reached source t (λ root. Task (Some root)) [] s s at room (task_plain (Some t)) refl refl (source_suits source t s.world at sh) (reached_none s st sh) in
    let b = over_is source t (λ root. Task (Some root)) s at st.recorded in
    let n_apart = held_apart source group (Promise t) (Group error tasks empty) s.world.names (promise_no_group t error tasks empty) at at_group in
    let at1 : held_at group s1.world.names ≡ Some (Group error tasks empty) = ap (held_at group) b.names ∙ held_left group source s.world n_apart ∙ at_group in
    let r2 = reached_renamed group (Group error tasks empty) (Group error (tasks ++ n ∷ []) empty) (n ∷ []) [] [] s s1 at1 refl (λ m. let x = times_app m (tasks ++ n ∷ []) [] in let y = times_app m tasks (n ∷ []) in omega (arith, x, y))
    (λ p i. elim (in_either p tasks (n ∷ []) i) [
      | inl x ↦ held_suits group p (Group error tasks empty) s1.world at1 r1.shaped x
      | inr y ↦ one_suits n OfTask (λ q. form_at q s1.world.nodes) (ap (suits OfTask) b.at) p y
    ]) r1 in
    subst (λ (o : Option Held). Reached [] [] [] s (silent (λ w. listened (node_named source w) (added_in group w.next o (over_built (λ root. Task (Some root)) source w))) s)) (sym at_group)
    (reached_listened (node_named source s.world) [] [] [] s (silent (named group (Group error (tasks ++ n ∷ []) empty)) s1) r2)

pub detached_reached : (source t : ℕ) (s : State) → held_at source s.world.names ≡ Some (Promise t) → length s.world.nodes < s.world.limits.slots → Owned s → Shaped s.world → Reached [] [] [] s (silent (detached_built source) s)
detached_reached source t s at room st sh =
    let n = s.world.next in
    let s1 = silent (over_built (λ root. Task (Some root)) source) s in
    let r1 = over_reached source t (λ root. Task (Some root)) [] s s at room (task_plain (Some t)) refl refl (source_suits source t s.world at sh) (reached_none s st sh) in
    let b = over_is source t (λ root. Task (Some root)) s at st.recorded in
    reached_listened (node_named source s.world) [] [] [] s (silent (with_detached n) s1) (reached_detached n [] [] s s1 (ap (suits OfTask) b.at) r1)

empty_in : (o : Option Held) (name group : ℕ) (s : State) → held_at group s.world.names ≡ o → times name (name_numbers s.world.names) ≡ 0 → length s.world.nodes < s.world.limits.slots → Owned s → Shaped s.world → Reached [] [] [] s (silent (empty_built_in name group o) s)
empty_in (Some (Group error (task ∷ tasks) empty)) name group s at fresh room st sh =
    let old = Group error (task ∷ tasks) empty in
    let s1 = silent (leaf_built name (Cell None)) s in
    let r1 = leaf_reached name (Cell None) s cell_promised refl fresh room st sh in
    let at1 : held_at group s1.world.names ≡ Some old = leaf_held group name (Cell None) s st (absent_other name group old s.world.names fresh at) ∙ at in
    reached_renamed group old (Group error (task ∷ tasks) (Some s.world.next)) [] [] [] s s1 at1 refl (λ m. refl) (λ p i. held_suits group p old s1.world at1 r1.shaped i) r1
empty_in (Some (Group error [] empty)) name group s at fresh room st sh = leaf_reached name (Ready void) s (ready_promised void) refl fresh room st sh
empty_in None name group s at fresh room st sh = leaf_reached name (Ready void) s (ready_promised void) refl fresh room st sh
empty_in (Some _) name group s at fresh room st sh = leaf_reached name (Ready void) s (ready_promised void) refl fresh room st sh

pub empty_reached : (name group : ℕ) (s : State) → times name (name_numbers s.world.names) ≡ 0 → length s.world.nodes < s.world.limits.slots → Owned s → Shaped s.world → Reached [] [] [] s (silent (empty_built name group) s)
empty_reached name group s fresh room st sh = empty_in (held_at group s.world.names) name group s refl fresh room st sh

promise_no_canceler : (t : ℕ) (wraps : List ℕ) → ◌≡◌ {A = Option Held} (Some (Promise t)) (Some (Canceler wraps)) → ⊥
promise_no_canceler t wraps e = cc

pub wrap_reached : (name canceler source t : ℕ) (wraps : List ℕ) (s : State) → held_at canceler s.world.names ≡ Some (Canceler wraps) → held_at source s.world.names ≡ Some (Promise t) → times name (name_numbers s.world.names) ≡ 0 → length s.world.nodes < s.world.limits.slots → Owned s → Shaped s.world → Reached [] [] [] s (silent (wrap_built name canceler source) s)
wrap_reached name canceler source t wraps s at_canceler at fresh room st sh =
    let n = s.world.next in
    let form = λ (x : ℕ). Wrap canceler (Tree x) in
    let s1 = silent (over_named name (λ x. Wrap canceler (Tree x)) source) s in
    let r1 = over_promised name source t (λ x. Wrap canceler (Tree x)) s at fresh room (wrap_promised canceler (Tree t)) refl refl st sh in
    let b = over_is source t (λ x. Wrap canceler (Tree x)) s at st.recorded in
    let n_apart = held_apart source canceler (Promise t) (Canceler wraps) s.world.names (promise_no_canceler t wraps) at at_canceler in
    let at1 : held_at canceler s1.world.names ≡ Some (Canceler wraps) = held_kept canceler name (Promise n) (over_built (λ x. Wrap canceler (Tree x)) source s.world) (absent_other name canceler (Canceler wraps) s.world.names fresh at_canceler) ∙ ap (held_at canceler) b.names ∙ held_left canceler source s.world n_apart ∙ at_canceler in
    let r2 = reached_renamed canceler (Canceler wraps) (Canceler (wraps ++ n ∷ [])) [] [] [] s s1 at1 refl (λ m. refl) (λ p i. absurd (in_none p i)) r1 in
    subst (λ (o : Option Held). Reached [] [] [] s (silent (λ w. listened (node_named source w) (wrapped_in canceler w.next o (over_named name (λ x. Wrap canceler (Tree x)) source w))) s)) (sym at_canceler)
    (reached_listened (node_named source s.world) [] [] [] s (silent (named canceler (Canceler (wraps ++ n ∷ []))) s1) r2)

-- an ask
pub ask_reached : (name cell target step : ℕ) (words : List ℕ) (s : State) → times name (name_numbers s.world.names) ≡ 0 → times cell (name_numbers s.world.names) ≡ 0 → nat_eq name cell ≡ false → length s.world.nodes < s.world.limits.slots → Owned s → Shaped s.world → Reached [] [] [] s (silent (ask_built name cell target step words) s)
ask_reached name cell target step words s fresh cell_fresh n room st sh =
    let t = silent (λ w. named cell (AskCell w.next false) (leaf_built name (Cell None) w)) s in
    reached_lists (t.world.asks ++ record { cell = cell; target = target; step = step; words = words } ∷ []) t.world.ended t.world.abandoned [] [] [] s t (pair_reached name cell (λ x. AskCell x false) s (λ x. refl) (λ x. refl) fresh cell_fresh n room st sh)

-- one more node of a path, whose number is known
record PlainBuilt (form : Form) (k : ℕ) (s v : State) (w : World) : Type 0 where
  reached : Reached (k ∷ []) [] [] s v
  next : v.world.next ≡ k + 1
  at : form_at k v.world.nodes ≡ Some form
  size : length v.world.nodes ≡ suc (length w.nodes)
  slots : v.world.limits.slots ≡ w.limits.slots
  names : v.world.names ≡ w.names

plain_at : (before : Option ℕ) (form : Form) (k : ℕ) (s t : State) → t.world.next ≡ k → IsPlain form → length t.world.nodes < t.world.limits.slots → ((p : ℕ) → is_in p (parts_of form) ≡ true → suits (part_kind (Some form)) (form_at p t.world.nodes) ≡ true) → has_winner (Some form) ≡ false → Reached (parts_of form ++ []) [] [] s t → PlainBuilt form k s (silent (built before form) t) t.world
plain_at before form k s t next plain room fit winner r =
    let b = built_is before form t r.standing.recorded in
    let v = silent (built before form) t in
    let a = reached_plain before form [] [] s t plain room fit (λ l i x e. no_winner (Some form) l i x winner e) r in
    record {
      reached = subst (λ (n : ℕ). Reached (n ∷ []) [] [] s v) next a;
      next = b.next ∙ ap (λ n. n + 1) next;
      at = subst (λ (n : ℕ). form_at n v.world.nodes ≡ Some form) next b.at;
      size = b.size;
      slots = ap (λ (l : Limits). l.slots) b.limits;
      names = b.names;
    }

-- a request
pub request_reached : (request step : ℕ) (words : List ℕ) (s : State) → times request (name_numbers s.world.names) ≡ 0 → length s.world.nodes + 4 ≤ s.world.limits.slots → Owned s → Shaped s.world → Reached [] [] [] s (silent (request_built request step words) s)
request_reached request step words s fresh room st sh =
    let n = s.world.next in
    let a = plain_at None (Ready (Value words)) n s s refl (ready_promised (Value words)).plain (omega (arith, room)) (λ p i. absurd (in_none p i)) refl (reached_none s st sh) in
    let s1 = silent (built None (Ready (Value words))) s in
    let asz = a.size in let al = a.slots in let an = a.next in
    let b = plain_at (Some n) (Then (Some step) None (Some n)) (n + 1) s s1 an (then_promised (Some step) None (Some n)).plain (omega (arith, room, asz, al)) (one_suits n OfTree (λ p. form_at p s1.world.nodes) (ap (suits OfTree) a.at)) refl a.reached in
    let s2 = silent (built (Some n) (Then (Some step) None (Some n))) s1 in
    let bs = b.size in let bl = b.slots in let bn = b.next in
    let c = plain_at (Some (n + 1)) (Chain (n + 1)) (n + 2) s s2 (omega (arith, bn)) (chain_promised (n + 1)).plain (omega (arith, room, asz, al, bs, bl)) (one_suits (n + 1) OfLink (λ p. form_at p s2.world.nodes) (ap (suits OfLink) b.at)) refl b.reached in
    let s3 = silent (built (Some (n + 1)) (Chain (n + 1))) s2 in
    let cs = c.size in let cl = c.slots in let cn = c.next in
    let d = plain_at (Some (n + 2)) (Request request (Some (n + 2))) (n + 3) s s3 (omega (arith, cn)) (request_plain request (Some (n + 2))) (omega (arith, room, asz, al, bs, bl, cs, cl)) (one_suits (n + 2) OfTree (λ p. form_at p s3.world.nodes) (ap (suits OfTree) c.at)) refl c.reached in
    let s4 = silent (built (Some (n + 2)) (Request request (Some (n + 2)))) s3 in
    let names : s4.world.names ≡ s.world.names = d.names ∙ c.names ∙ b.names ∙ a.names in
    let r = reached_named request (RequestOf (Some (n + 3))) [] [] [] s s4 (ap (λ (ns : List Named). times request (name_numbers ns)) names ∙ fresh) (one_suits (n + 3) (OfRequest request) (λ p. form_at p s4.world.nodes) (ap (suits (OfRequest request)) d.at ∙ self request)) d.reached in
    reached_listened (n + 1) [] [] [] s (silent (named request (RequestOf (Some (n + 3)))) s4) r
  where
    self : (d : ℕ) → nat_eq d d ≡ true
    self d = grind (arith, nat_tests)
