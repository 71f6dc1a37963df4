-- Each command.
use Rattle.std.proofs.Common.{◌≡◌, ℕ, ◌+◌, List, [], ◌∷◌, ◌++◌, Bool, true, false, Option, None, Some, arith, refl, sym, ap, ◌∙◌, subst}
use Rattle.std.specs.Prelude.{nat_eq, is_some}
use Rattle.kj_base.specs.declared.outcomes.Outcome.TheVariants.{Value, Broken as BrokenBy}
use Rattle.kj_base.specs.Queue.{DepthFirst, BreadthFirst}
use Rattle.kj_base.specs.Commands.{Command, Now, Broken, Later, Last, Pair, Then, Chain, Eager, Fork, Branch, Race, All, Fast, Fulfil, Reject, DropCell, NewSet, Add, Clear, OnEmpty, NewCanceler, Wrap, Cancel, Detach, Drop, Ask, Begin, Stop, Reply}
use Rattle.kj_model.specs.Nodes.{Form, Tree, Ready, Later as LaterNode, Last as LastNode, Cell, Branch as BranchNode, Then as ThenNode, Chain as ChainNode, Eager as EagerNode, Wrap as WrapNode, Hub, Race as RaceNode, Join, Request, form_at}
use Rattle.kj_model.specs.World.{World, State, Setting, Promise, CellOf, AskCell, HubOf, Group, Canceler, RequestOf, held_at}
use Rattle.kj_model.specs.Changes.{silent, named, unnamed}
use Rattle.kj_model.specs.Places.{built}
use Rattle.kj_model.specs.Outcomes.{fulfiller_dropped}
use Rattle.kj_model.specs.Free.{Guard, free, usual}
use Rattle.kj_model.specs.Effects.{node_of, node_named, leaf_built, over_built, over_named, with_branch_in, branch_built, trees_named, without_abandoned, sides_built, numbers_from, chain_built, fork_built, request_built, effect}
use Rattle.kj_model.specs.Apply.{Refused, refusal, applied, apply}
use Rattle.kj_model.proofs.Spared.{same_number}
use Rattle.kj_model.proofs.Once.{false_by}
use Rattle.kj_ownership.proofs.Moves.{app_other}
use Rattle.kj_ownership.proofs.Premises.{Allowed, allowed, found_none, new_absent, promise_is, group_is}
use Rattle.kj_ownership.proofs.Makes.{over_sources}
use Rattle.kj_paths.proofs.Laid.{Laid}
use Rattle.kj_paths.proofs.Built.{built_laid}
use Rattle.kj_paths.proofs.Moves.{listened_laid, named_laid, unnamed_laid, unnamed_lost}
use Rattle.kj_paths.proofs.Freed.{free_laid}
use Rattle.kj_paths.proofs.Builders.{built_next, leaf_laid, over_laid, over_named_laid, each_listened_laid, sides_laid, join_laid, over_newest}
use Rattle.kj_paths.proofs.Effects.{lists_laid, settled_laid, cleared_laid, added_laid, detached_laid, empty_at, wrapped_laid, canceled_laid, hub_put, drop_laid}

-- Branch
branch_at : (n h : ℕ) (o : Option Form) (loose : List ℕ) (w v : World) → form_at h w.nodes ≡ o → (is_some o ≡ true → form_at h v.nodes ≡ form_at h w.nodes) → Laid loose v → Laid loose (with_branch_in n h o v)
branch_at n h (Some (Hub content is_named branches)) loose w v at same g = hub_put h content is_named is_named (branches ++ n ∷ []) branches loose v (same refl ∙ at) g
branch_at n h None loose w v at same g = g
branch_at n h (Some _) loose w v at same g = g

branch_laid : (name hub : ℕ) (w : World) → Laid [] w → Laid [] (branch_built name hub w)
branch_laid name hub w g =
    let h = node_named hub w in
    branch_at w.next h (form_at h w.nodes) [] w (leaf_built name (BranchNode h) w) refl
    (λ l. app_other h (record { number = w.next; form = BranchNode h }) w.nodes (false_by (nat_eq w.next h) (λ e. let s = same_number w.next h e in g.fresh_live h (omega (arith, s)) l)))
    (leaf_laid name (BranchNode h) [] w refl g)

-- Chain
chain_laid : (name source t : ℕ) (v e : Option ℕ) (w : World) → held_at source w.names ≡ Some (Promise t) → Laid [] w → Laid [] (chain_built name source v e w)
chain_laid name source t v e w at g =
    let u = over_built (λ k. ThenNode v e (Some k)) source w in
    let a = over_laid source t (λ k. ThenNode v e (Some k)) [] w at refl refl g in
    let b = over_newest (w.next + 1) w.next (ChainNode w.next) u (built_next (Some (node_named source w)) (ThenNode v e (Some (node_named source w))) (unnamed source w)) refl (λ n. refl) a in
    let c = built (Some w.next) (ChainNode w.next) u in
    listened_laid w.next [] (named name (Promise (w.next + 1)) c) (named_laid name (Promise (w.next + 1)) [] c b)

-- Fork
fork_laid : (hub source t : ℕ) (w : World) → held_at source w.names ≡ Some (Promise t) → Laid [] w → Laid [] (fork_built hub source w)
fork_laid hub source t w at g =
    let k = node_named source w in
    let a = subst (λ (n : ℕ). Laid (n ∷ []) (unnamed source w)) (sym (ap node_of at)) (unnamed_laid source (Promise t) [] w at g) in
    let b = built None (Hub (Tree k) true []) (unnamed source w) in
    listened_laid k [] (named hub (HubOf w.next) b) (named_laid hub (HubOf w.next) [] b (built_laid None (Hub (Tree k) true []) [] (unnamed source w) tt a))

-- Begin
plus_two : (a n : ℕ) → a ≡ n + 1 → a + 1 ≡ n + 2
plus_two a n e = omega (arith, e)

plus_three : (a n : ℕ) → a ≡ n + 2 → a + 1 ≡ n + 3
plus_three a n e = omega (arith, e)

request_laid : (request step : ℕ) (words : List ℕ) (w : World) → Laid [] w → Laid [] (request_built request step words w)
request_laid request step words w g =
    let n = w.next in
    let b1 = built None (Ready (Value words)) w in
    let n1 = built_next None (Ready (Value words)) w in
    let b2 = built (Some n) (ThenNode (Some step) None (Some n)) b1 in
    let n2 : b2.next ≡ n + 2 = built_next (Some n) (ThenNode (Some step) None (Some n)) b1 ∙ plus_two b1.next n n1 in
    let b3 = built (Some (n + 1)) (ChainNode (n + 1)) b2 in
    let n3 : b3.next ≡ n + 3 = built_next (Some (n + 1)) (ChainNode (n + 1)) b2 ∙ plus_three b2.next n n2 in
    let b4 = built (Some (n + 2)) (Request request (Some (n + 2))) b3 in
    let a1 : Laid (n ∷ []) b1 = built_laid None (Ready (Value words)) [] w tt g in
    let a2 = over_newest (n + 1) n (ThenNode (Some step) None (Some n)) b1 n1 refl (λ k. refl) a1 in
    let a3 = over_newest (n + 2) (n + 1) (ChainNode (n + 1)) b2 n2 refl (λ k. refl) a2 in
    let a4 = over_newest (n + 3) (n + 2) (Request request (Some (n + 2))) b3 n3 refl (λ k. refl) a3 in
    listened_laid (n + 1) [] (named request (RequestOf (Some (n + 3))) b4) (named_laid request (RequestOf (Some (n + 3))) [] b4 a4)

-- a command that isn't refused
effect_laid : (setting : Setting) (inside : Bool) (guard : Guard) (c : Command) (s : State) → Allowed setting inside c s → Laid [] s.world → Laid [] (effect guard c s).world
effect_laid setting inside guard (Now name words) s a g = leaf_laid name (Ready (Value words)) [] s.world refl g
effect_laid setting inside guard (Broken name exception) s a g = leaf_laid name (Ready (BrokenBy exception)) [] s.world refl g
effect_laid setting inside guard (Later name) s a g = leaf_laid name LaterNode [] s.world refl g
effect_laid setting inside guard (Last name) s a g = leaf_laid name LastNode [] s.world refl g
effect_laid setting inside guard (Pair name cell) s a g = named_laid cell (CellOf s.world.next) [] (leaf_built name (Cell None) s.world) (leaf_laid name (Cell None) [] s.world refl g)
effect_laid setting inside guard (Then name source v e) s a g = let p = (over_sources name (source ∷ []) s.world a.known a.right a.untaken).promises in over_named_laid name source p.0 (λ t. ThenNode v e (Some t)) [] s.world p.1 refl refl g
effect_laid setting inside guard (Chain name source v e) s a g = let p = (over_sources name (source ∷ []) s.world a.known a.right a.untaken).promises in chain_laid name source p.0 v e s.world p.1 g
effect_laid setting inside guard (Eager name source) s a g = let p = (over_sources name (source ∷ []) s.world a.known a.right a.untaken).promises in listened_laid (node_named source s.world) [] (over_named name (λ t. EagerNode (Tree t)) source s.world) (over_named_laid name source p.0 (λ t. EagerNode (Tree t)) [] s.world p.1 refl refl g)
effect_laid setting inside guard (Fork hub source) s a g = let p = (over_sources hub (source ∷ []) s.world a.known a.right a.untaken).promises in fork_laid hub source p.0 s.world p.1 g
effect_laid setting inside guard (Branch name hub) s a g = branch_laid name hub s.world g
effect_laid setting inside guard (Race name left right) s a g =
    let p = (over_sources name (left ∷ right ∷ []) s.world a.known a.right a.untaken).promises in
    let w = s.world in
    each_listened_laid (trees_named (left ∷ right ∷ []) w) [] (leaf_built name (RaceNode w.next (w.next + 1) None) (sides_built (left ∷ right ∷ []) w))
    (leaf_laid name (RaceNode w.next (w.next + 1) None) [] (sides_built (left ∷ right ∷ []) w) refl (sides_laid (left ∷ right ∷ []) [] w p g))
effect_laid setting inside guard (All name sources) s a g = let p = (over_sources name sources s.world a.known a.right a.untaken).promises in let w = s.world in each_listened_laid (trees_named sources w) [] (leaf_built name (Join false (numbers_from w.next sources)) (sides_built sources w)) (join_laid name (Join false) sources w (λ ns. refl) (λ n ns. refl) p g)
effect_laid setting inside guard (Fast name sources) s a g = let p = (over_sources name sources s.world a.known a.right a.untaken).promises in let w = s.world in each_listened_laid (trees_named sources w) [] (leaf_built name (Join true (numbers_from w.next sources)) (sides_built sources w)) (join_laid name (Join true) sources w (λ ns. refl) (λ n ns. refl) p g)
effect_laid setting inside guard (Fulfil cell words) s a g = settled_laid DepthFirst (node_named cell s.world) (Value words) [] s.world g
effect_laid setting inside guard (Reject cell exception) s a g = settled_laid DepthFirst (node_named cell s.world) (BrokenBy exception) [] s.world g
effect_laid setting inside guard (DropCell cell) s a g = settled_laid DepthFirst (node_named cell s.world) fulfiller_dropped [] (unnamed cell s.world) (unnamed_lost cell [] s.world g)
effect_laid setting inside guard (NewSet group error) s a g = named_laid group (Group error [] None) [] s.world g
effect_laid setting inside guard (Add group source) s a g =
    let p = found_none _ _ _ a.right in
    let q = found_none _ _ _ p.1 in
    let h = group_is (held_at group s.world.names) p.0 in
    let t = promise_is (held_at source s.world.names) q.0 in
    added_laid group source t.0 h.0 h.1 h.2 s.world h.3 t.1 g
effect_laid setting inside guard (Clear group) s a g = cleared_laid guard group s g
effect_laid setting inside guard (OnEmpty name group) s a g = empty_at name group (held_at group s.world.names) s.world refl (new_absent name false s.world.names (found_none _ _ _ a.untaken).0) g
effect_laid setting inside guard (NewCanceler canceler) s a g = named_laid canceler (Canceler []) [] s.world g
effect_laid setting inside guard (Wrap name canceler source) s a g =
    let p = found_none _ _ _ a.right in
    let t = promise_is (held_at source s.world.names) (found_none _ _ _ p.1).0 in
    let w = s.world in
    let v = over_named name (λ k. WrapNode canceler (Tree k)) source w in
    listened_laid (node_named source w) [] _ (wrapped_laid canceler w.next (held_at canceler w.names) v (over_named_laid name source t.0 (λ k. WrapNode canceler (Tree k)) [] w t.1 refl refl g))
effect_laid setting inside guard (Cancel canceler) s a g = canceled_laid guard canceler s g
effect_laid setting inside guard (Detach source) s a g = let t = promise_is (held_at source s.world.names) (found_none _ _ _ a.right).0 in detached_laid source t.0 s.world t.1 g
effect_laid setting inside guard (Drop name) s a g = drop_laid guard name (held_at name s.world.names) s g
effect_laid setting inside guard (Ask name cell target step words) s a g =
    let w = s.world in
    let v = named cell (AskCell w.next false) (leaf_built name (Cell None) w) in
    lists_laid _ v.ended v.abandoned [] v (named_laid cell (AskCell w.next false) [] (leaf_built name (Cell None) w) (leaf_laid name (Cell None) [] w refl g))
effect_laid setting inside guard (Begin request step words) s a g = request_laid request step words s.world g
effect_laid setting inside guard (Stop request) s a g =
    let n = node_named request s.world in
    let t = silent (named request (RequestOf None)) s in
    let u = free guard n t in
    lists_laid u.world.asks _ u.world.abandoned [] u.world (free_laid guard n [] t (named_laid request (RequestOf None) [] s.world g))
effect_laid setting inside guard (Reply cell outcome) s a g =
    let w = s.world in
    let v = unnamed cell w in
    settled_laid BreadthFirst (node_named cell w) outcome [] (without_abandoned cell v) (lists_laid v.asks v.ended _ [] v (unnamed_lost cell [] w g))

applied_laid : (setting : Setting) (inside : Bool) (c : Command) (s : State) (o : Option Refused) → refusal setting inside c s ≡ o → Laid [] s.world → Laid [] (applied o c s).0.world
applied_laid setting inside c s (Some refused) e g = g
applied_laid setting inside c s None e g = effect_laid setting inside (usual s.world) c s (allowed setting inside c s e) g

-- refused or not
pub apply_laid : (setting : Setting) (inside : Bool) (c : Command) (s : State) → Laid [] s.world → Laid [] (apply setting inside c s).0.world
apply_laid setting inside c s g = applied_laid setting inside c s (refusal setting inside c s) refl g
