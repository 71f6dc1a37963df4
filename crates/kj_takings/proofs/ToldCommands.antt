-- Each command leaves the lists so that they tell each once.
use Rattle.std.proofs.Common.{◌≡◌, ℕ, ◌+◌, ◌<◌, List, [], ◌∷◌, ◌++◌, Bool, true, false, not, Option, None, Some, arith, refl, sym, ap, subst}
use Rattle.std.proofs.lemmas.Bool.{false≢true}
use Rattle.kj_base.specs.declared.outcomes.Outcome.TheVariants.{Value, Broken as BrokenBy}
use Rattle.kj_base.specs.Queue.{DepthFirst, BreadthFirst}
use Rattle.kj_base.specs.Commands.{Command, Now, Broken, Later, Last, Pair, Then, Chain, Eager, Fork, Branch, Race, All, Fast, Fulfil, Reject, DropCell, NewSet, Add, Clear, OnEmpty, NewCanceler, Wrap, Cancel, Detach, Drop, Ask, Begin, Stop, Reply}
use Rattle.kj_model.specs.Nodes.{Form, Tree, Ready, Later as LaterNode, Last as LastNode, Cell, Branch as BranchNode, Then as ThenNode, Chain as ChainNode, Eager as EagerNode, Wrap as WrapNode, Hub, Race as RaceNode, Join, Request, form_at}
use Rattle.kj_model.specs.World.{World, State, Setting, Held, Promise, CellOf, AskCell, HubOf, Group, Canceler, RequestOf, held_at}
use Rattle.kj_model.specs.Changes.{silent, named, unnamed}
use Rattle.kj_model.specs.Places.{built}
use Rattle.kj_model.specs.Listening.{listened}
use Rattle.kj_model.specs.Outcomes.{cancelled, fulfiller_dropped}
use Rattle.kj_model.specs.Free.{Guard, free, usual}
use Rattle.kj_model.specs.Effects.{node_named, leaf_built, over_built, over_named, with_branch_in, trees_named, each_listened, wrapped_in, without_abandoned, sides_built, numbers_from, chain_built, fork_built, request_built, effect}
use Rattle.kj_model.specs.Apply.{Refused, refusal, applied, apply}
use Rattle.kj_model.specs.Uses.{is_outside, is_taken_ask}
use Rattle.kj_ownership.proofs.Moves.{built_grows}
use Rattle.kj_ownership.proofs.Premises.{Allowed, allowed, found_none, new_absent, promise_is, cell_is, request_is}
use Rattle.kj_ownership.proofs.Makes.{over_sources}
use Rattle.kj_takings.proofs.ToldListed.{kind, Tales, Listed, Leaves, leaves_none, leaves_then, listened_leaves, put_leaves, built_leaves, named_leaves, unnamed_leaves, absent_kind}
use Rattle.kj_takings.proofs.ToldFrees.{free_leaves}
use Rattle.kj_takings.proofs.ToldChanges.{ask_listed, begun_by, begin_listed, end_pends, end_listed, replied_to, reply_listed, pending}
use Rattle.kj_takings.proofs.ToldEffects.{still, leaf_leaves, over_leaves, over_named_leaves, each_listened_leaves, plain_sources, sides_leaves, settled_leaves, cleared_leaves, added_leaves, detached_leaves, empty_leaves, wrapped_leaves, canceled_leaves, drop_leaves}

branch_at : (n h : ℕ) (o : Option Form) (w : World) → Leaves w (with_branch_in n h o w)
branch_at n h (Some (Hub content is_named branches)) w = put_leaves h (Hub content is_named (branches ++ n ∷ [])) w
branch_at n h None w = leaves_none w
branch_at n h (Some _) w = leaves_none w

chain_leaves : (name source : ℕ) (v e : Option ℕ) (w : World) → kind (held_at name w.names) ≡ None → kind (held_at source w.names) ≡ None → Leaves w (chain_built name source v e w)
chain_leaves name source v e w n p =
    let a = over_built (λ t. ThenNode v e (Some t)) source w in
    let b = built (Some w.next) (ChainNode w.next) a in
    let l = leaves_then w a b (over_leaves (λ t. ThenNode v e (Some t)) source w p) (built_leaves (Some w.next) (ChainNode w.next) a) in
    let x = named name (Promise (w.next + 1)) b in
    leaves_then w x (listened w.next x) (leaves_then w b x l (named_leaves name (Promise (w.next + 1)) b refl (still name w b l n))) (listened_leaves w.next x)

fork_leaves : (hub source : ℕ) (w : World) → kind (held_at hub w.names) ≡ None → kind (held_at source w.names) ≡ None → Leaves w (fork_built hub source w)
fork_leaves hub source w n p =
    let t = node_named source w in
    let a = unnamed source w in
    let b = built None (Hub (Tree t) true []) a in
    let l = leaves_then w a b (unnamed_leaves source w p) (built_leaves None (Hub (Tree t) true []) a) in
    let x = named hub (HubOf w.next) b in
    leaves_then w x (listened t x) (leaves_then w b x l (named_leaves hub (HubOf w.next) b refl (still hub w b l n))) (listened_leaves t x)

request_listed : (request step : ℕ) (words : List ℕ) (w : World) (told : Tales) → kind (held_at request w.names) ≡ None → Listed told w → Listed (begun_by request told) (request_built request step words w)
request_listed request step words w told e g =
    let n = w.next in
    let a = built None (Ready (Value words)) w in
    let b = built (Some n) (ThenNode (Some step) None (Some n)) a in
    let c = built (Some (n + 1)) (ChainNode (n + 1)) b in
    let d = built (Some (n + 2)) (Request request (Some (n + 2))) c in
    let l = leaves_then w c d (leaves_then w b c (leaves_then w a b (built_leaves None (Ready (Value words)) w) (built_leaves (Some n) (ThenNode (Some step) None (Some n)) a)) (built_leaves (Some (n + 1)) (ChainNode (n + 1)) b)) (built_leaves (Some (n + 2)) (Request request (Some (n + 2))) c) in
    let x = named request (RequestOf (Some (n + 3))) d in
    (listened_leaves (n + 1) x).listed (begun_by request told) (begin_listed told request (n + 3) d (still request w d l e) (l.listed told g))

join_leaves : (name : ℕ) (form : Form) (sources trees : List ℕ) (w : World) → kind (held_at name w.names) ≡ None → Leaves w (sides_built sources w) → Leaves w (each_listened trees (leaf_built name form (sides_built sources w)))
join_leaves name form sources trees w n l =
    let v = sides_built sources w in
    let x = leaf_built name form v in
    leaves_then w x (each_listened trees x) (leaves_then w v x l (leaf_leaves name form v (still name w v l n))) (each_listened_leaves trees x)

grows : (name : ℕ) (form : Form) (w : World) → w.next < (leaf_built name form w).next
grows name form w = let e : (leaf_built name form w).next ≡ w.next + 1 = ap (λ (v : World). v.next) (built_grows None form w).3 in omega (arith, e)

taken_ask : (o : Option Held) → not (is_taken_ask o) ≡ false → (p : ℕ) × (o ≡ Some (AskCell p true))
taken_ask (Some (AskCell p true)) e = (p, refl)
taken_ask (Some (AskCell p false)) e = absurd (false≢true (sym e))
taken_ask None e = absurd (false≢true (sym e))
taken_ask (Some _) e = absurd (false≢true (sym e))

-- what is told after a command: a request more, or an ask's cell less
abbrev pub told_after : Command → Tales → Tales
told_after (Begin request step words) told = begun_by request told
told_after (Reply cell outcome) told = replied_to cell told
told_after other told = told

inside_after : (c : Command) (told : Tales) → is_outside c ≡ false → told_after c told ≡ told
inside_after (Begin request step words) told e = absurd (false≢true (sym e))
inside_after (Stop request) told e = refl
inside_after (Reply cell outcome) told e = absurd (false≢true (sym e))
inside_after c told e = refl

effect_listed : (setting : Setting) (inside : Bool) (guard : Guard) (c : Command) (s : State) (told : Tales) → Allowed setting inside c s → Listed told s.world → Listed (told_after c told) (effect guard c s).world
effect_listed setting inside guard (Now name words) s told a g = (leaf_leaves name (Ready (Value words)) s.world (absent_kind name s.world.names (new_absent name false s.world.names (found_none _ _ _ a.untaken).0))).listed told g
effect_listed setting inside guard (Broken name exception) s told a g = (leaf_leaves name (Ready (BrokenBy exception)) s.world (absent_kind name s.world.names (new_absent name false s.world.names (found_none _ _ _ a.untaken).0))).listed told g
effect_listed setting inside guard (Later name) s told a g = (leaf_leaves name LaterNode s.world (absent_kind name s.world.names (new_absent name false s.world.names (found_none _ _ _ a.untaken).0))).listed told g
effect_listed setting inside guard (Last name) s told a g = (leaf_leaves name LastNode s.world (absent_kind name s.world.names (new_absent name false s.world.names (found_none _ _ _ a.untaken).0))).listed told g
effect_listed setting inside guard (Pair name cell) s told a g =
    let w = s.world in
    let p = found_none _ _ _ a.untaken in
    let v = leaf_built name (Cell None) w in
    let l = leaf_leaves name (Cell None) w (absent_kind name w.names (new_absent name false w.names p.0)) in
    (named_leaves cell (CellOf w.next) v refl (still cell w v l (absent_kind cell w.names (new_absent cell _ w.names (found_none _ _ _ p.1).0)))).listed told (l.listed told g)
effect_listed setting inside guard (Then name source v e) s told a g = let p = over_sources name (source ∷ []) s.world a.known a.right a.untaken in (over_named_leaves name (λ t. ThenNode v e (Some t)) source s.world (absent_kind name s.world.names p.fresh) (plain_sources s.world (source ∷ []) p.promises).0).listed told g
effect_listed setting inside guard (Chain name source v e) s told a g = let p = over_sources name (source ∷ []) s.world a.known a.right a.untaken in (chain_leaves name source v e s.world (absent_kind name s.world.names p.fresh) (plain_sources s.world (source ∷ []) p.promises).0).listed told g
effect_listed setting inside guard (Eager name source) s told a g =
    let w = s.world in
    let p = over_sources name (source ∷ []) w a.known a.right a.untaken in
    let v = over_named name (λ t. EagerNode (Tree t)) source w in
    (listened_leaves (node_named source w) v).listed told ((over_named_leaves name (λ t. EagerNode (Tree t)) source w (absent_kind name w.names p.fresh) (plain_sources w (source ∷ []) p.promises).0).listed told g)
effect_listed setting inside guard (Fork hub source) s told a g = let p = over_sources hub (source ∷ []) s.world a.known a.right a.untaken in (fork_leaves hub source s.world (absent_kind hub s.world.names p.fresh) (plain_sources s.world (source ∷ []) p.promises).0).listed told g
effect_listed setting inside guard (Branch name hub) s told a g =
    let w = s.world in
    let h = node_named hub w in
    (branch_at w.next h (form_at h w.nodes) (leaf_built name (BranchNode h) w)).listed told ((leaf_leaves name (BranchNode h) w (absent_kind name w.names (new_absent name false w.names (found_none _ _ _ a.untaken).0))).listed told g)
effect_listed setting inside guard (Race name left right) s told a g =
    let w = s.world in
    let p = over_sources name (left ∷ right ∷ []) w a.known a.right a.untaken in
    (join_leaves name (RaceNode w.next (w.next + 1) None) (left ∷ right ∷ []) (trees_named (left ∷ right ∷ []) w) w (absent_kind name w.names p.fresh) (sides_leaves (left ∷ right ∷ []) w (plain_sources w (left ∷ right ∷ []) p.promises))).listed told g
effect_listed setting inside guard (All name sources) s told a g =
    let w = s.world in
    let p = over_sources name sources w a.known a.right a.untaken in
    (join_leaves name (Join false (numbers_from w.next sources)) sources (trees_named sources w) w (absent_kind name w.names p.fresh) (sides_leaves sources w (plain_sources w sources p.promises))).listed told g
effect_listed setting inside guard (Fast name sources) s told a g =
    let w = s.world in
    let p = over_sources name sources w a.known a.right a.untaken in
    (join_leaves name (Join true (numbers_from w.next sources)) sources (trees_named sources w) w (absent_kind name w.names p.fresh) (sides_leaves sources w (plain_sources w sources p.promises))).listed told g
effect_listed setting inside guard (Fulfil cell words) s told a g = (settled_leaves DepthFirst (node_named cell s.world) (Value words) s.world).listed told g
effect_listed setting inside guard (Reject cell exception) s told a g = (settled_leaves DepthFirst (node_named cell s.world) (BrokenBy exception) s.world).listed told g
effect_listed setting inside guard (DropCell cell) s told a g =
    let h = cell_is (held_at cell s.world.names) (found_none _ _ _ a.right).0 in
    (settled_leaves DepthFirst (node_named cell s.world) fulfiller_dropped (unnamed cell s.world)).listed told ((unnamed_leaves cell s.world (ap kind h.1)).listed told g)
effect_listed setting inside guard (NewSet group error) s told a g = (named_leaves group (Group error [] None) s.world refl (absent_kind group s.world.names (new_absent group false s.world.names (found_none _ _ _ a.untaken).0))).listed told g
effect_listed setting inside guard (Add group source) s told a g =
    let q = found_none _ _ _ (found_none _ _ _ a.right).1 in
    let t = promise_is (held_at source s.world.names) q.0 in
    (added_leaves group source s.world (ap kind t.1)).listed told g
effect_listed setting inside guard (Clear group) s told a g = (cleared_leaves guard group s).listed told g
effect_listed setting inside guard (OnEmpty name group) s told a g = (empty_leaves name group (held_at group s.world.names) s.world refl (absent_kind name s.world.names (new_absent name false s.world.names (found_none _ _ _ a.untaken).0))).listed told g
effect_listed setting inside guard (NewCanceler canceler) s told a g = (named_leaves canceler (Canceler []) s.world refl (absent_kind canceler s.world.names (new_absent canceler false s.world.names (found_none _ _ _ a.untaken).0))).listed told g
effect_listed setting inside guard (Wrap name canceler source) s told a g =
    let w = s.world in
    let p = found_none _ _ _ a.right in
    let t = promise_is (held_at source w.names) (found_none _ _ _ p.1).0 in
    let n = absent_kind name w.names (new_absent name false w.names (found_none _ _ _ a.untaken).0) in
    let v = over_named name (λ k. WrapNode canceler (Tree k)) source w in
    let l = over_named_leaves name (λ k. WrapNode canceler (Tree k)) source w n (ap kind t.1) in
    let x = wrapped_in canceler w.next (held_at canceler w.names) v in
    (listened_leaves (node_named source w) x).listed told ((wrapped_leaves canceler w.next (held_at canceler w.names) w v refl l).listed told (l.listed told g))
effect_listed setting inside guard (Cancel canceler) s told a g = (canceled_leaves guard canceler s).listed told g
effect_listed setting inside guard (Detach source) s told a g = let t = promise_is (held_at source s.world.names) (found_none _ _ _ a.right).0 in (detached_leaves source s.world (ap kind t.1)).listed told g
effect_listed setting inside guard (Drop name) s told a g = (drop_leaves guard name (held_at name s.world.names) s refl).listed told g
effect_listed setting inside guard (Ask name cell target step words) s told a g =
    let w = s.world in
    let p = found_none _ _ _ a.untaken in
    let l = leaf_leaves name (Cell None) w (absent_kind name w.names (new_absent name false w.names p.0)) in
    ask_listed told cell target step words w (leaf_built name (Cell None) w) l (grows name (Cell None) w) (absent_kind cell w.names (new_absent cell _ w.names (found_none _ _ _ p.1).0)) g
effect_listed setting inside guard (Begin request step words) s told a g = request_listed request step words s.world told (absent_kind request s.world.names (new_absent request false s.world.names (found_none _ _ _ a.untaken).0)) g
effect_listed setting inside guard (Stop request) s told a g =
    let h = request_is (held_at request s.world.names) (found_none _ _ _ a.right).0 in
    let t = silent (named request (RequestOf None)) s in
    let u = free guard (node_named request s.world) t in
    end_listed told request cancelled u.world ((free_leaves guard (node_named request s.world) t).listed (pending request told) (end_pends told request s.world (ap kind h.1) g))
effect_listed setting inside guard (Reply cell outcome) s told a g =
    let w = s.world in
    let h = taken_ask (held_at cell w.names) (found_none _ _ _ a.right).0 in
    (settled_leaves BreadthFirst (node_named cell w) outcome (without_abandoned cell (unnamed cell w))).listed (replied_to cell told) (reply_listed told cell h.0 w h.1 g)

-- what is told after a call of a command, refused or not
abbrev pub told_if : Option Refused → Command → Tales → Tales
told_if (Some refused) c told = told
told_if None c told = told_after c told

applied_listed : (setting : Setting) (inside : Bool) (c : Command) (s : State) (told : Tales) (o : Option Refused) → refusal setting inside c s ≡ o → Listed told s.world → Listed (told_if (applied o c s).1 c told) (applied o c s).0.world
applied_listed setting inside c s told (Some refused) e g = g
applied_listed setting inside c s told None e g = effect_listed setting inside (usual s.world) c s told (allowed setting inside c s e) g

pub command_listed : (setting : Setting) (inside : Bool) (c : Command) (s : State) (told : Tales) → Listed told s.world → Listed (told_if (apply setting inside c s).1 c told) (apply setting inside c s).0.world
command_listed setting inside c s told g = applied_listed setting inside c s told (refusal setting inside c s) refl g

-- a step's commands begin no request and give no reply
inside_listed : (setting : Setting) (c : Command) (s : State) (told : Tales) (o : Option Refused) → refusal setting true c s ≡ o → Listed told s.world → Listed told (applied o c s).0.world
inside_listed setting c s told (Some refused) e g = g
inside_listed setting c s told None e g =
    let a = allowed setting true c s e in
    subst (λ (t : Tales). Listed t (effect (usual s.world) c s).world) (inside_after c told a.outside) (effect_listed setting true (usual s.world) c s told a g)

pub apply_listed : (setting : Setting) (c : Command) (s : State) (told : Tales) → Listed told s.world → Listed told (apply setting true c s).0.world
apply_listed setting c s told g = inside_listed setting c s told (refusal setting true c s) refl g
