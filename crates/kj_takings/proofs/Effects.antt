-- The effect of a command keeps states alike, where its names are firm.
use Rattle.std.proofs.Common.{◌≡◌, ◌∙◌, refl, sym, ap, subst, suc, ℕ, ◌+◌, List, [], ◌∷◌, ◌++◌, Bool, true, false, Option, None, Some, arith, reverse}
use Rattle.std.specs.Prelude.{is_some}
use Rattle.std.proofs.lemmas.Bool.{false≢true}
use Rattle.kj_base.specs.declared.outcomes.Outcome.{Outcome}
use Rattle.kj_base.specs.declared.outcomes.Outcome.TheVariants.{Value, Broken as BrokenBy}
use Rattle.kj_base.specs.Queue.{DepthFirst, BreadthFirst}
use Rattle.kj_base.specs.Commands.{Command, Now, Broken, Later, Last, Pair, Then, Chain, Eager, Fork, Branch, Race, All, Fast, Fulfil, Reject, DropCell, NewSet, Add, Clear, OnEmpty, NewCanceler, Wrap, Cancel, Detach, Drop, Ask, Begin, Stop, Reply}
use Rattle.kj_model.specs.Outcomes.{void, cancelled, fulfiller_dropped}
use Rattle.kj_model.specs.Nodes.{Form, Tree, Kept, Waits, Ready, Later as LaterNode, Last as LastNode, Cell, Branch as BranchNode, Then as ThenNode, Chain as ChainNode, Eager as EagerNode, Wrap as WrapNode, Hub, Side, Race as RaceNode, Join, Task, Request, form_at}
use Rattle.kj_model.specs.World.{World, State, Held, Promise, CellOf, AskCell, HubOf, Group, Canceler, RequestOf, held_at}
use Rattle.kj_model.specs.Changes.{silent, put, named, unnamed}
use Rattle.kj_model.specs.Places.{built}
use Rattle.kj_model.specs.Listening.{listened, settled, announced}
use Rattle.kj_model.specs.Free.{Guard, free, each_freed, guarded_too}
use Rattle.kj_model.specs.Uses.{Use, IsSource, used_as, uses_of}
use Rattle.kj_model.specs.Effects.{node_of, node_named, leaf_built, over_built, over_named, over_listening, chain_built, fork_built, with_branch_in, branch_built, sides_built, numbers_from, each_listened, trees_named, race_built, join_built, cell_settled, cell_dropped, added_in, added, with_detached, detached_built, emptied, now_empty, cleared_in, cleared, empty_built_in, empty_built, wrapped_in, wrap_built, disarmed_node, wrap_cancelled, each_cancelled, wraps_of, canceled, hub_unnamed_in, hub_unnamed, dropped_held, with_ask, ask_built, request_built, with_ended, stopped_request, without_abandoned, replied, effect}
use Rattle.kj_ownership.specs.Kept.{is_spent}
use Rattle.kj_takings.specs.Spared.{names_of}
use Rattle.kj_takings.proofs.Names.{found_taken}
use Rattle.kj_takings.proofs.Worlds.{Near, Keeps, Both, blind, less_room, held_alike, read_alike, announced_near, listened_near, put_near, settled_near, built_near, unnamed_near, new_near, named_near, lists_near, by_held}
use Rattle.kj_takings.proofs.Calm.{Same, Tame, tame_none, tame_then, tame_world, less_same}
use Rattle.kj_takings.proofs.Frees.{by_form, by_form_near, each_tame, reference_tame, free_tame}

-- each of these names is firm
abbrev pub AllFirm : (ℕ → Bool) → List Use → Type 0
AllFirm loose [] = Unit {0}
AllFirm loose (u ∷ us) = (loose u.name ≡ false) × AllFirm loose us

-- a change that may take room: from j to k
abbrev pub Moves : (ℕ → Bool) → ℕ → ℕ → (World → World) → Type 0
Moves loose j k op = (w v : World) → Near loose j w v → Near loose k (op w) (op v)

abbrev pub MovesStates : (ℕ → Bool) → ℕ → ℕ → (State → State) → Type 0
MovesStates loose j k f = (s t : State) → Same loose j s t → Same loose k (f s) (f t)

moves_world : (loose : ℕ → Bool) (j k : ℕ) (op : World → World) → Moves loose j k op → MovesStates loose j k (silent op)
moves_world loose j k op h s t r = record { world = h s.world t.world r.world; past = r.past }

-- what both see
node_taken : (h : Option Held) → node_of (found_taken h) ≡ node_of h
node_taken None = refl
node_taken (Some (Promise root)) = refl
node_taken (Some (CellOf cell)) = refl
node_taken (Some (AskCell cell is_taken)) = refl
node_taken (Some (HubOf hub)) = refl
node_taken (Some (Group error tasks empty)) = refl
node_taken (Some (Canceler wraps)) = refl
node_taken (Some (RequestOf None)) = refl
node_taken (Some (RequestOf (Some n))) = refl

pub node_alike : (loose : ℕ → Bool) (k c : ℕ) (w v : World) → loose c ≡ false → Near loose k w v → node_named c w ≡ node_named c v
node_alike loose k c w v f r = sym (node_taken (held_at c w.names)) ∙ ap node_of (sym (held_alike loose k c w v f r)) ∙ node_taken (held_at c v.names)

by_node : (loose : ℕ → Bool) (c j k : ℕ) (op : ℕ → World → World) → loose c ≡ false → ((n : ℕ) → Moves loose j k (op n)) → Moves loose j k (λ w. op (node_named c w) w)
by_node loose c j k op f h w v r = subst (λ n. Near loose k (op (node_named c w) w) (op n v)) (node_alike loose j c w v f r) (h (node_named c w) w v r)

by_next : (loose : ℕ → Bool) (j k : ℕ) (op : ℕ → World → World) → ((n : ℕ) → Moves loose j k (op n)) → Moves loose j k (λ w. op w.next w)
by_next loose j k op h w v r = subst (λ n. Near loose k (op w.next w) (op n v)) (read_alike loose j (λ u. u.next) w v (λ l u. refl) r) (h w.next w v r)

pub by_firm : (loose : ℕ → Bool) (c j k : ℕ) (op : Option Held → World → World) → loose c ≡ false → ((h : Option Held) (u : World) → op (found_taken h) u ≡ op h u) → ((h : Option Held) → Moves loose j k (op h)) → Moves loose j k (λ w. op (held_at c w.names) w)
by_firm loose c j k op f untold h w v r =
    let o = found_taken (held_at c w.names) in
    let same = held_alike loose j c w v f r in
    subst (λ (u : World). Near loose k u (op (held_at c v.names) v)) (untold (held_at c w.names) w) (subst (Near loose k (op o w)) (ap (λ (x : Option Held). op x v) (sym same) ∙ untold (held_at c v.names) v) (h o w v r))

pub by_firm_state : (loose : ℕ → Bool) (c j k : ℕ) (op : Option Held → State → State) → loose c ≡ false → ((h : Option Held) (u : State) → op (found_taken h) u ≡ op h u) → ((h : Option Held) → MovesStates loose j k (op h)) → MovesStates loose j k (λ s. op (held_at c s.world.names) s)
by_firm_state loose c j k op f untold h s t r =
    let o = found_taken (held_at c s.world.names) in
    let same = held_alike loose j c s.world t.world f r.world in
    subst (λ (u : State). Same loose k u (op (held_at c t.world.names) t)) (untold (held_at c s.world.names) s) (subst (Same loose k (op o s)) (ap (λ (x : Option Held). op x t) (sym same) ∙ untold (held_at c t.world.names) t) (h o s t r))

firm_new : (loose : ℕ → Bool) (c : ℕ) (held : Held) → loose c ≡ false → loose c ≡ true → is_spent (Some held) ≡ true
firm_new loose c held f e = absurd (false≢true (sym f ∙ e))

new_firm : (loose : ℕ → Bool) (c : ℕ) (held : Held) (k : ℕ) → loose c ≡ false → Moves loose (suc k) k (named c held)
new_firm loose c held k f w v r = new_near loose c held k w v (firm_new loose c held f) r

-- leaves, and nodes over a tree
leaf_near : (loose : ℕ → Bool) (name : ℕ) (form : Form) (k : ℕ) → loose name ≡ false → Moves loose (suc k) k (leaf_built name form)
leaf_near loose name form k f = by_next loose (suc k) k (λ n w. named name (Promise n) (built None form w)) (λ n w v r. new_firm loose name (Promise n) k f (built None form w) (built None form v) (built_near loose None form (suc k) w v r))

over_near : (loose : ℕ → Bool) (form : ℕ → Form) (source k : ℕ) → loose source ≡ false → Moves loose k k (over_built form source)
over_near loose form source k f = by_node loose source k k (λ t w. built (Some t) (form t) (unnamed source w)) f (λ t w v r. built_near loose (Some t) (form t) k (unnamed source w) (unnamed source v) (unnamed_near loose source k w v r))

over_named_near : (loose : ℕ → Bool) (name : ℕ) (form : ℕ → Form) (source k : ℕ) → loose name ≡ false → loose source ≡ false → Moves loose (suc k) k (over_named name form source)
over_named_near loose name form source k f g = by_next loose (suc k) k (λ n w. named name (Promise n) (over_built form source w)) (λ n w v r. new_firm loose name (Promise n) k f (over_built form source w) (over_built form source v) (over_near loose form source (suc k) g w v r))

eager_near : (loose : ℕ → Bool) (name : ℕ) (form : ℕ → Form) (source k : ℕ) → loose name ≡ false → loose source ≡ false → Moves loose (suc k) k (over_listening name form source)
eager_near loose name form source k f g = by_node loose source (suc k) k (λ t w. listened t (over_named name form source w)) g (λ t w v r. listened_near loose t k (over_named name form source w) (over_named name form source v) (over_named_near loose name form source k f g w v r))

chain_near : (loose : ℕ → Bool) (name source : ℕ) (x e : Option ℕ) (k : ℕ) → loose name ≡ false → loose source ≡ false → Moves loose (suc k) k (chain_built name source x e)
chain_near loose name source x e k f g =
    let form : ℕ → Form = λ t. ThenNode x e (Some t) in
    by_next loose (suc k) k (λ n w. listened n (named name (Promise (n + 1)) (built (Some n) (ChainNode n) (over_built form source w)))) (λ n w v r.
    let a = over_near loose form source (suc k) g w v r in
    let b = built_near loose (Some n) (ChainNode n) (suc k) (over_built form source w) (over_built form source v) a in
    let c = new_firm loose name (Promise (n + 1)) k f (built (Some n) (ChainNode n) (over_built form source w)) (built (Some n) (ChainNode n) (over_built form source v)) b in
    listened_near loose n k (named name (Promise (n + 1)) (built (Some n) (ChainNode n) (over_built form source w))) (named name (Promise (n + 1)) (built (Some n) (ChainNode n) (over_built form source v))) c)

fork_near : (loose : ℕ → Bool) (hub source k : ℕ) → loose hub ≡ false → loose source ≡ false → Moves loose (suc k) k (fork_built hub source)
fork_near loose hub source k f g = by_node loose source (suc k) k (λ t w. listened t (named hub (HubOf w.next) (built None (Hub (Tree t) true []) (unnamed source w)))) g (λ t.
    let form : Form = Hub (Tree t) true [] in
    by_next loose (suc k) k (λ n w. listened t (named hub (HubOf n) (built None form (unnamed source w)))) (λ n w v r.
    let a = unnamed_near loose source (suc k) w v r in
    let b = built_near loose None form (suc k) (unnamed source w) (unnamed source v) a in
    let c = new_firm loose hub (HubOf n) k f (built None form (unnamed source w)) (built None form (unnamed source v)) b in
    listened_near loose t k (named hub (HubOf n) (built None form (unnamed source w))) (named hub (HubOf n) (built None form (unnamed source v))) c))

branch_case : (loose : ℕ → Bool) (n hub : ℕ) (o : Option Form) → Keeps loose (with_branch_in n hub o)
branch_case loose n hub (Some (Hub content is_named branches)) = put_near loose hub (Hub content is_named (branches ++ n ∷ []))
branch_case loose n hub None = λ k w v r. r
branch_case loose n hub (Some _) = λ k w v r. r

branch_near : (loose : ℕ → Bool) (name hub k : ℕ) → loose name ≡ false → loose hub ≡ false → Moves loose (suc k) k (branch_built name hub)
branch_near loose name hub k f g = by_node loose hub (suc k) k (λ h w. with_branch_in w.next h (form_at h w.nodes) (leaf_built name (BranchNode h) w)) g (λ h.
    by_next loose (suc k) k (λ n w. with_branch_in n h (form_at h w.nodes) (leaf_built name (BranchNode h) w)) (λ n w v r.
    let a = leaf_near loose name (BranchNode h) k f w v r in
    let same = read_alike loose (suc k) (λ u. form_at h u.nodes) w v (λ l u. refl) r in
    subst (λ (o : Option Form). Near loose k (with_branch_in n h (form_at h w.nodes) (leaf_built name (BranchNode h) w)) (with_branch_in n h o (leaf_built name (BranchNode h) v))) same (branch_case loose n h (form_at h w.nodes) k (leaf_built name (BranchNode h) w) (leaf_built name (BranchNode h) v) a)))

-- joins
sides_near : (loose : ℕ → Bool) (sources : List ℕ) (k : ℕ) → AllFirm loose (used_as IsSource sources) → Moves loose k k (sides_built sources)
sides_near loose [] k f w v r = r
sides_near loose (source ∷ more) k f w v r =
    let form : ℕ → Form = λ t. Side (Waits t) in
    sides_near loose more k f.1 (over_built form source w) (over_built form source v) (over_near loose form source k f.0 w v r)

each_near : (loose : ℕ → Bool) (ns : List ℕ) → Keeps loose (each_listened ns)
each_near loose [] k w v r = r
each_near loose (n ∷ ns) k w v r = each_near loose ns k (listened n w) (listened n v) (listened_near loose n k w v r)

trees_alike : (loose : ℕ → Bool) (sources : List ℕ) (k : ℕ) (w v : World) → AllFirm loose (used_as IsSource sources) → Near loose k w v → trees_named sources w ≡ trees_named sources v
trees_alike loose [] k w v f r = refl
trees_alike loose (source ∷ more) k w v f r = ap (λ n. n ∷ trees_named more w) (node_alike loose k source w v f.0 r) ∙ ap (λ ns. node_named source v ∷ ns) (trees_alike loose more k w v f.1 r)

over_sides_near : (loose : ℕ → Bool) (name : ℕ) (form : ℕ → Form) (sources : List ℕ) (k : ℕ) → loose name ≡ false → AllFirm loose (used_as IsSource sources) → Moves loose (suc k) k (λ w. each_listened (trees_named sources w) (leaf_built name (form w.next) (sides_built sources w)))
over_sides_near loose name form sources k f g = by_next loose (suc k) k (λ n w. each_listened (trees_named sources w) (leaf_built name (form n) (sides_built sources w))) (λ n w v r.
    let a = sides_near loose sources (suc k) g w v r in
    let b = leaf_near loose name (form n) k f (sides_built sources w) (sides_built sources v) a in
    let c = each_near loose (trees_named sources w) k (leaf_built name (form n) (sides_built sources w)) (leaf_built name (form n) (sides_built sources v)) b in
    subst (λ (ts : List ℕ). Near loose k (each_listened (trees_named sources w) (leaf_built name (form n) (sides_built sources w))) (each_listened ts (leaf_built name (form n) (sides_built sources v)))) (trees_alike loose sources (suc k) w v g r) c)

-- cells
settle_near : (loose : ℕ → Bool) (cell k : ℕ) (o : Outcome) → loose cell ≡ false → Moves loose k k (cell_settled cell o)
settle_near loose cell k o f = by_node loose cell k k (λ n w. settled DepthFirst n o w) f (λ n. settled_near loose DepthFirst n o k)

drop_near : (loose : ℕ → Bool) (cell k : ℕ) → loose cell ≡ false → Moves loose k k (cell_dropped cell)
drop_near loose cell k f = by_node loose cell k k (λ n w. settled DepthFirst n fulfiller_dropped (unnamed cell w)) f (λ n w v r. settled_near loose DepthFirst n fulfiller_dropped k (unnamed cell w) (unnamed cell v) (unnamed_near loose cell k w v r))

reply_near : (loose : ℕ → Bool) (cell k : ℕ) (o : Outcome) → loose cell ≡ false → Moves loose k k (replied cell o)
reply_near loose cell k o f = by_node loose cell k k (λ n w. settled BreadthFirst n o (without_abandoned cell (unnamed cell w))) f (λ n w v r.
    let a = unnamed_near loose cell k w v r in
    let x = unnamed cell w in
    let y = unnamed cell v in
    settled_near loose BreadthFirst n o k (without_abandoned cell x) (without_abandoned cell y) (lists_near loose k x.asks y.asks x.ended y.ended (without_abandoned cell x).abandoned (without_abandoned cell y).abandoned x y a))

-- sets
kept_less : (loose : ℕ → Bool) (k : ℕ) (w v : World) → Near loose (suc k) w v → Near loose k w v
kept_less loose k w v r = less_room loose (suc k) k w v (omega arith) r

same_less : (loose : ℕ → Bool) (k : ℕ) (s t : State) → Same loose (suc k) s t → Same loose k s t
same_less loose k s t r = less_same loose (suc k) k s t (omega arith) r

added_untold : (group n : ℕ) (h : Option Held) (w : World) → added_in group n (found_taken h) w ≡ added_in group n h w
added_untold group n (Some (Group error tasks empty)) w = refl
added_untold group n None w = refl
added_untold group n (Some _) w = refl

added_case : (loose : ℕ → Bool) (group n k : ℕ) (h : Option Held) → loose group ≡ false → Moves loose (suc k) k (added_in group n h)
added_case loose group n k (Some (Group error tasks empty)) f w v r = new_firm loose group (Group error (tasks ++ n ∷ []) empty) k f w v r
added_case loose group n k None f w v r = kept_less loose k w v r
added_case loose group n k (Some _) f w v r = kept_less loose k w v r

added_near : (loose : ℕ → Bool) (group source k : ℕ) → loose group ≡ false → loose source ≡ false → Moves loose (suc k) k (added group source)
added_near loose group source k f g =
    let form : ℕ → Form = λ root. Task (Some root) in
    by_node loose source (suc k) k (λ t w. listened t (added_in group w.next (held_at group w.names) (over_built form source w))) g (λ t.
    by_next loose (suc k) k (λ n w. listened t (added_in group n (held_at group w.names) (over_built form source w))) (λ n.
    by_firm loose group (suc k) k (λ h w. listened t (added_in group n h (over_built form source w))) f (λ h w. ap (listened t) (added_untold group n h (over_built form source w))) (λ h w v r.
    let a = over_near loose form source (suc k) g w v r in
    let b = added_case loose group n k h f (over_built form source w) (over_built form source v) a in
    listened_near loose t k (added_in group n h (over_built form source w)) (added_in group n h (over_built form source v)) b)))

detached_near : (loose : ℕ → Bool) (source k : ℕ) → loose source ≡ false → Moves loose k k (detached_built source)
detached_near loose source k f =
    let form : ℕ → Form = λ root. Task (Some root) in
    by_node loose source k k (λ t w. listened t (with_detached w.next (over_built form source w))) f (λ t.
    by_next loose k k (λ n w. listened t (with_detached n (over_built form source w))) (λ n w v r.
    let a = over_near loose form source k f w v r in
    let b = blind loose (with_detached n) (λ l u. refl) (λ u. record { names = refl; limits = refl; awaited = refl }) k (over_built form source w) (over_built form source v) a in
    listened_near loose t k (with_detached n (over_built form source w)) (with_detached n (over_built form source v)) b))

emptied_untold : (group : ℕ) (h : Option Held) (w : World) → emptied group (found_taken h) w ≡ emptied group h w
emptied_untold group (Some (Group error tasks empty)) w = refl
emptied_untold group None w = refl
emptied_untold group (Some _) w = refl

emptied_spent : (group : ℕ) (h : Option Held) (w : World) → is_spent h ≡ true → emptied group h w ≡ w
emptied_spent group (Some (Group error tasks empty)) w e = absurd (false≢true e)
emptied_spent group None w e = refl
emptied_spent group (Some _) w e = refl

emptied_case : (loose : ℕ → Bool) (group k : ℕ) (w v : World) (h : Option Held) → (is_some h ≡ true → Both group w v) → loose group ≡ false → Near loose k w v → Near loose k (emptied group h w) (emptied group h v)
emptied_case loose group k w v (Some (Group error [] (Some cell))) b f r =
    let held : Held = Group error [] None in
    let p = b refl in
    settled_near loose DepthFirst cell void k (named group held w) (named group held v) (named_near loose group held k w v (firm_new loose group held f) p.left p.right r)
emptied_case loose group k w v (Some (Group error [] None)) b f r = r
emptied_case loose group k w v (Some (Group error (t ∷ ts) empty)) b f r = r
emptied_case loose group k w v None b f r = r
emptied_case loose group k w v (Some _) b f r = r

pub empty_near : (loose : ℕ → Bool) (group : ℕ) → Keeps loose (now_empty group)
empty_near loose group k w v r = by_held loose (emptied group) group k k w v (omega arith) (emptied_untold group) (emptied_spent group) (λ h b f. emptied_case loose group k w v h b f r) r

cleared_untold : (guard : Guard) (group : ℕ) (h : Option Held) (s : State) → cleared_in guard group (found_taken h) s ≡ cleared_in guard group h s
cleared_untold guard group (Some (Group error tasks empty)) s = refl
cleared_untold guard group None s = refl
cleared_untold guard group (Some _) s = refl

cleared_case : (loose : ℕ → Bool) (guard : Guard) (group k : ℕ) (h : Option Held) → loose group ≡ false → MovesStates loose (suc k) k (cleared_in guard group h)
cleared_case loose guard group k (Some (Group error (task ∷ tasks) empty)) f s t r =
    let held : Held = Group error [] empty in
    let ns = reverse (task ∷ tasks) in
    let a = moves_world loose (suc k) k (named group held) (new_firm loose group held k f) s t r in
    let b = each_tame loose (free guard) (free_tame loose guard) ns k (silent (named group held) s) (silent (named group held) t) a in
    tame_world loose (now_empty group) (empty_near loose group) k (each_freed (free guard) ns (silent (named group held) s)) (each_freed (free guard) ns (silent (named group held) t)) b
cleared_case loose guard group k (Some (Group error [] empty)) f s t r = same_less loose k s t r
cleared_case loose guard group k None f s t r = same_less loose k s t r
cleared_case loose guard group k (Some _) f s t r = same_less loose k s t r

cleared_same : (loose : ℕ → Bool) (guard : Guard) (group k : ℕ) → loose group ≡ false → MovesStates loose (suc k) k (cleared guard group)
cleared_same loose guard group k f = by_firm_state loose group (suc k) k (cleared_in guard group) f (cleared_untold guard group) (λ h. cleared_case loose guard group k h f)

empty_untold : (name group : ℕ) (h : Option Held) (w : World) → empty_built_in name group (found_taken h) w ≡ empty_built_in name group h w
empty_untold name group (Some (Group error tasks empty)) w = refl
empty_untold name group None w = refl
empty_untold name group (Some _) w = refl

empty_case : (loose : ℕ → Bool) (name group k : ℕ) (h : Option Held) → loose name ≡ false → loose group ≡ false → Moves loose (suc (suc k)) k (empty_built_in name group h)
empty_case loose name group k (Some (Group error (task ∷ tasks) empty)) f g = by_next loose (suc (suc k)) k (λ n w. named group (Group error (task ∷ tasks) (Some n)) (leaf_built name (Cell None) w)) (λ n w v r.
    let a = leaf_near loose name (Cell None) (suc k) f w v r in
    new_firm loose group (Group error (task ∷ tasks) (Some n)) k g (leaf_built name (Cell None) w) (leaf_built name (Cell None) v) a)
empty_case loose name group k (Some (Group error [] empty)) f g = λ w v r. leaf_near loose name (Ready void) k f w v (kept_less loose (suc k) w v r)
empty_case loose name group k None f g = λ w v r. leaf_near loose name (Ready void) k f w v (kept_less loose (suc k) w v r)
empty_case loose name group k (Some _) f g = λ w v r. leaf_near loose name (Ready void) k f w v (kept_less loose (suc k) w v r)

set_near : (loose : ℕ → Bool) (name group k : ℕ) → loose name ≡ false → loose group ≡ false → Moves loose (suc (suc k)) k (empty_built name group)
set_near loose name group k f g = by_firm loose group (suc (suc k)) k (empty_built_in name group) g (empty_untold name group) (λ h. empty_case loose name group k h f g)

-- cancelers
wrapped_untold : (c n : ℕ) (h : Option Held) (w : World) → wrapped_in c n (found_taken h) w ≡ wrapped_in c n h w
wrapped_untold c n (Some (Canceler wraps)) w = refl
wrapped_untold c n None w = refl
wrapped_untold c n (Some _) w = refl

wrapped_case : (loose : ℕ → Bool) (c n k : ℕ) (h : Option Held) → loose c ≡ false → Moves loose (suc k) k (wrapped_in c n h)
wrapped_case loose c n k (Some (Canceler wraps)) f w v r = new_firm loose c (Canceler (wraps ++ n ∷ [])) k f w v r
wrapped_case loose c n k None f w v r = kept_less loose k w v r
wrapped_case loose c n k (Some _) f w v r = kept_less loose k w v r

wrap_near : (loose : ℕ → Bool) (name c source k : ℕ) → loose name ≡ false → loose c ≡ false → loose source ≡ false → Moves loose (suc (suc k)) k (wrap_built name c source)
wrap_near loose name c source k f g h =
    let form : ℕ → Form = λ t. WrapNode c (Tree t) in
    by_node loose source (suc (suc k)) k (λ t w. listened t (wrapped_in c w.next (held_at c w.names) (over_named name form source w))) h (λ t.
    by_next loose (suc (suc k)) k (λ n w. listened t (wrapped_in c n (held_at c w.names) (over_named name form source w))) (λ n.
    by_firm loose c (suc (suc k)) k (λ o w. listened t (wrapped_in c n o (over_named name form source w))) g (λ o w. ap (listened t) (wrapped_untold c n o (over_named name form source w))) (λ o w v r.
    let a = over_named_near loose name form source (suc k) f h w v r in
    let b = wrapped_case loose c n k o g (over_named name form source w) (over_named name form source v) a in
    listened_near loose t k (wrapped_in c n o (over_named name form source w)) (wrapped_in c n o (over_named name form source v)) b)))

disarmed_near : (loose : ℕ → Bool) (n : ℕ) → Keeps loose (disarmed_node n)
disarmed_near loose n = blind loose (disarmed_node n) (λ l u. refl) (λ u. record { names = refl; limits = refl; awaited = refl })

pub unarmed_near : (loose : ℕ → Bool) (n : ℕ) → Keeps loose (disarmed_node n)
unarmed_near loose n = disarmed_near loose n

settled_wrap : (loose : ℕ → Bool) (n : ℕ) (form : Form) → Keeps loose (λ w. announced DepthFirst n (put n form (disarmed_node n w)))
settled_wrap loose n form k w v r = announced_near loose DepthFirst n k (put n form (disarmed_node n w)) (put n form (disarmed_node n v)) (put_near loose n form k (disarmed_node n w) (disarmed_node n v) (disarmed_near loose n k w v r))

wrap_case : (loose : ℕ → Bool) (guard : Guard) (n : ℕ) (o : Option Form) → Tame loose (wrap_cancelled guard n o)
wrap_case loose guard n (Some (WrapNode c (Tree t))) = tame_then loose (free (guarded_too n guard) t) (silent (λ w. announced DepthFirst n (put n (WrapNode c (Kept cancelled)) (disarmed_node n w)))) (free_tame loose (guarded_too n guard) t) (tame_world loose (λ w. announced DepthFirst n (put n (WrapNode c (Kept cancelled)) (disarmed_node n w))) (settled_wrap loose n (WrapNode c (Kept cancelled))))
wrap_case loose guard n (Some (WrapNode c (Kept o))) = tame_none loose
wrap_case loose guard n None = tame_none loose
wrap_case loose guard n (Some _) = tame_none loose

each_wrap : (loose : ℕ → Bool) (guard : Guard) (ns : List ℕ) → Tame loose (each_cancelled guard ns)
each_wrap loose guard [] = tame_none loose
each_wrap loose guard (n ∷ ns) = tame_then loose (λ s. wrap_cancelled guard n (form_at n s.world.nodes) s) (each_cancelled guard ns) (by_form loose n (wrap_cancelled guard n) (wrap_case loose guard n)) (each_wrap loose guard ns)

wraps_untold : (h : Option Held) → wraps_of (found_taken h) ≡ wraps_of h
wraps_untold (Some (Canceler wraps)) = refl
wraps_untold None = refl
wraps_untold (Some _) = refl

canceled_same : (loose : ℕ → Bool) (guard : Guard) (c k : ℕ) → loose c ≡ false → MovesStates loose k k (canceled guard c)
canceled_same loose guard c k f = by_firm_state loose c k k (λ h s. each_cancelled guard (reverse (wraps_of h)) s) f (λ h s. ap (λ (ws : List ℕ). each_cancelled guard (reverse ws) s) (wraps_untold h)) (λ h s t r. each_wrap loose guard (reverse (wraps_of h)) k s t r)

-- what goes with a name
hub_case : (loose : ℕ → Bool) (hub : ℕ) (o : Option Form) → Keeps loose (hub_unnamed_in hub o)
hub_case loose hub (Some (Hub content is_named branches)) = put_near loose hub (Hub content false branches)
hub_case loose hub None = λ k w v r. r
hub_case loose hub (Some _) = λ k w v r. r

pub hub_near : (loose : ℕ → Bool) (hub : ℕ) → Keeps loose (hub_unnamed hub)
hub_near loose hub = by_form_near loose hub (hub_unnamed_in hub) (hub_case loose hub)

dropped_untold : (guard : Guard) (name : ℕ) (h : Option Held) (s : State) → dropped_held guard name (found_taken h) s ≡ dropped_held guard name h s
dropped_untold guard name None s = refl
dropped_untold guard name (Some (Promise root)) s = refl
dropped_untold guard name (Some (HubOf hub)) s = refl
dropped_untold guard name (Some (Group error tasks empty)) s = refl
dropped_untold guard name (Some (Canceler wraps)) s = refl
dropped_untold guard name (Some _) s = refl

dropped_case : (loose : ℕ → Bool) (guard : Guard) (name k : ℕ) (h : Option Held) → loose name ≡ false → MovesStates loose (suc k) k (dropped_held guard name h)
dropped_case loose guard name k (Some (Promise root)) f s t r =
    free_tame loose guard root k (silent (unnamed name) s) (silent (unnamed name) t) (tame_world loose (unnamed name) (unnamed_near loose name) k s t (same_less loose k s t r))
dropped_case loose guard name k (Some (HubOf hub)) f s t r =
    let op : World → World = λ w. hub_unnamed hub (unnamed name w) in
    reference_tame loose guard (free guard) (free_tame loose guard) hub k (silent op s) (silent op t) (tame_world loose op (λ j w v n. hub_near loose hub j (unnamed name w) (unnamed name v) (unnamed_near loose name j w v n)) k s t (same_less loose k s t r))
dropped_case loose guard name k (Some (Group error tasks empty)) f s t r =
    tame_world loose (unnamed name) (unnamed_near loose name) k (cleared guard name s) (cleared guard name t) (cleared_same loose guard name k f s t r)
dropped_case loose guard name k (Some (Canceler wraps)) f s t r =
    tame_world loose (unnamed name) (unnamed_near loose name) k (canceled guard name s) (canceled guard name t) (canceled_same loose guard name k f s t (same_less loose k s t r))
dropped_case loose guard name k None f s t r = same_less loose k s t r
dropped_case loose guard name k (Some _) f s t r = same_less loose k s t r

-- asks and requests
ask_near : (loose : ℕ → Bool) (name cell target step : ℕ) (words : List ℕ) (k : ℕ) → loose name ≡ false → loose cell ≡ false → Moves loose (suc (suc k)) k (ask_built name cell target step words)
ask_near loose name cell target step words k f g = by_next loose (suc (suc k)) k (λ n w. with_ask cell target step words (named cell (AskCell n false) (leaf_built name (Cell None) w))) (λ n w v r.
    let x = named cell (AskCell n false) (leaf_built name (Cell None) w) in
    let y = named cell (AskCell n false) (leaf_built name (Cell None) v) in
    let a = leaf_near loose name (Cell None) (suc k) f w v r in
    let b = new_firm loose cell (AskCell n false) k g (leaf_built name (Cell None) w) (leaf_built name (Cell None) v) a in
    lists_near loose k (with_ask cell target step words x).asks (with_ask cell target step words y).asks x.ended y.ended x.abandoned y.abandoned x y b)

request_near : (loose : ℕ → Bool) (request step : ℕ) (words : List ℕ) (k : ℕ) → loose request ≡ false → Moves loose (suc k) k (request_built request step words)
request_near loose request step words k f = by_next loose (suc k) k (λ n w. listened (n + 1) (named request (RequestOf (Some (n + 3))) (built (Some (n + 2)) (Request request (Some (n + 2))) (built (Some (n + 1)) (ChainNode (n + 1)) (built (Some n) (ThenNode (Some step) None (Some n)) (built None (Ready (Value words)) w)))))) (λ n w v r.
    let w1 = built None (Ready (Value words)) w in
    let v1 = built None (Ready (Value words)) v in
    let w2 = built (Some n) (ThenNode (Some step) None (Some n)) w1 in
    let v2 = built (Some n) (ThenNode (Some step) None (Some n)) v1 in
    let w3 = built (Some (n + 1)) (ChainNode (n + 1)) w2 in
    let v3 = built (Some (n + 1)) (ChainNode (n + 1)) v2 in
    let w4 = built (Some (n + 2)) (Request request (Some (n + 2))) w3 in
    let v4 = built (Some (n + 2)) (Request request (Some (n + 2))) v3 in
    let a = built_near loose None (Ready (Value words)) (suc k) w v r in
    let b = built_near loose (Some n) (ThenNode (Some step) None (Some n)) (suc k) w1 v1 a in
    let c = built_near loose (Some (n + 1)) (ChainNode (n + 1)) (suc k) w2 v2 b in
    let d = built_near loose (Some (n + 2)) (Request request (Some (n + 2))) (suc k) w3 v3 c in
    let held : Held = RequestOf (Some (n + 3)) in
    listened_near loose (n + 1) k (named request held w4) (named request held v4) (new_firm loose request held k f w4 v4 d))

ended_near : (loose : ℕ → Bool) (request : ℕ) (o : Outcome) → Keeps loose (with_ended request o)
ended_near loose request o k w v r = lists_near loose k w.asks v.asks (with_ended request o w).ended (with_ended request o v).ended w.abandoned v.abandoned w v r

pub one_ended : (loose : ℕ → Bool) (request : ℕ) (o : Outcome) → Keeps loose (with_ended request o)
one_ended loose request o = ended_near loose request o

stopped_same : (loose : ℕ → Bool) (guard : Guard) (request k : ℕ) → loose request ≡ false → MovesStates loose (suc k) k (stopped_request guard request)
stopped_same loose guard request k f s t r =
    let op : World → World = named request (RequestOf None) in
    let a = moves_world loose (suc k) k op (new_firm loose request (RequestOf None) k f) s t r in
    let same = node_alike loose (suc k) request s.world t.world f r.world in
    let b = free_tame loose guard (node_named request s.world) k (silent op s) (silent op t) a in
    let c = subst (λ (n : ℕ). Same loose k (free guard (node_named request s.world) (silent op s)) (free guard n (silent op t))) same b in
    tame_world loose (with_ended request cancelled) (ended_near loose request cancelled) k (free guard (node_named request s.world) (silent op s)) (free guard (node_named request t.world) (silent op t)) c

-- the effect of a command
one_name : (loose : ℕ → Bool) (k : ℕ) (op : World → World) → Moves loose (suc k) k op → MovesStates loose (1 + k) k (silent op)
one_name loose k op h s t r = moves_world loose (suc k) k op h s t (less_same loose (1 + k) (suc k) s t (omega arith) r)

two_names : (loose : ℕ → Bool) (k : ℕ) (op : World → World) → Moves loose (suc k) k op → MovesStates loose (2 + k) k (silent op)
two_names loose k op h s t r = moves_world loose (suc k) k op h s t (less_same loose (2 + k) (suc k) s t (omega arith) r)

pub effect_same : (loose : ℕ → Bool) (guard : Guard) (c : Command) (k : ℕ) → AllFirm loose (uses_of c) → MovesStates loose (names_of c + k) k (effect guard c)
effect_same loose guard (Now name words) k f = one_name loose k (leaf_built name (Ready (Value words))) (leaf_near loose name (Ready (Value words)) k f.0)
effect_same loose guard (Broken name exception) k f = one_name loose k (leaf_built name (Ready (BrokenBy exception))) (leaf_near loose name (Ready (BrokenBy exception)) k f.0)
effect_same loose guard (Later name) k f = one_name loose k (leaf_built name LaterNode) (leaf_near loose name LaterNode k f.0)
effect_same loose guard (Last name) k f = one_name loose k (leaf_built name LastNode) (leaf_near loose name LastNode k f.0)
effect_same loose guard (Pair name cell) k f = λ s t r. moves_world loose (suc (suc k)) k (λ w. named cell (CellOf w.next) (leaf_built name (Cell None) w)) (by_next loose (suc (suc k)) k (λ n w. named cell (CellOf n) (leaf_built name (Cell None) w)) (λ n w v x. new_firm loose cell (CellOf n) k f.1.0 (leaf_built name (Cell None) w) (leaf_built name (Cell None) v) (leaf_near loose name (Cell None) (suc k) f.0 w v x))) s t (less_same loose (2 + k) (suc (suc k)) s t (omega arith) r)
effect_same loose guard (Then name source x e) k f = two_names loose k (over_named name (λ t. ThenNode x e (Some t)) source) (over_named_near loose name (λ t. ThenNode x e (Some t)) source k f.0 f.1.0)
effect_same loose guard (Chain name source x e) k f = two_names loose k (chain_built name source x e) (chain_near loose name source x e k f.0 f.1.0)
effect_same loose guard (Eager name source) k f = two_names loose k (over_listening name (λ t. EagerNode (Tree t)) source) (eager_near loose name (λ t. EagerNode (Tree t)) source k f.0 f.1.0)
effect_same loose guard (Fork hub source) k f = two_names loose k (fork_built hub source) (fork_near loose hub source k f.0 f.1.0)
effect_same loose guard (Branch name hub) k f = two_names loose k (branch_built name hub) (branch_near loose name hub k f.0 f.1.0)
effect_same loose guard (Race name left right) k f = λ s t r. moves_world loose (suc k) k (race_built name left right) (over_sides_near loose name (λ n. RaceNode n (n + 1) None) (left ∷ right ∷ []) k f.0 f.1) s t (less_same loose (3 + k) (suc k) s t (omega arith) r)
effect_same loose guard (All name sources) k f = λ s t r. moves_world loose (suc k) k (join_built false name sources) (over_sides_near loose name (λ n. Join false (numbers_from n sources)) sources k f.0 f.1) s t (less_same loose (names_of (All name sources) + k) (suc k) s t (omega arith) r)
effect_same loose guard (Fast name sources) k f = λ s t r. moves_world loose (suc k) k (join_built true name sources) (over_sides_near loose name (λ n. Join true (numbers_from n sources)) sources k f.0 f.1) s t (less_same loose (names_of (Fast name sources) + k) (suc k) s t (omega arith) r)
effect_same loose guard (Fulfil cell words) k f = one_name loose k (cell_settled cell (Value words)) (λ w v r. settle_near loose cell k (Value words) f.0 w v (kept_less loose k w v r))
effect_same loose guard (Reject cell exception) k f = one_name loose k (cell_settled cell (BrokenBy exception)) (λ w v r. settle_near loose cell k (BrokenBy exception) f.0 w v (kept_less loose k w v r))
effect_same loose guard (DropCell cell) k f = one_name loose k (cell_dropped cell) (λ w v r. drop_near loose cell k f.0 w v (kept_less loose k w v r))
effect_same loose guard (NewSet group error) k f = one_name loose k (named group (Group error [] None)) (new_firm loose group (Group error [] None) k f.0)
effect_same loose guard (Add group source) k f = two_names loose k (added group source) (added_near loose group source k f.0 f.1.0)
effect_same loose guard (Clear group) k f = λ s t r. cleared_same loose guard group k f.0 s t (less_same loose (1 + k) (suc k) s t (omega arith) r)
effect_same loose guard (OnEmpty name group) k f = λ s t r. moves_world loose (suc (suc k)) k (empty_built name group) (set_near loose name group k f.0 f.1.0) s t (less_same loose (2 + k) (suc (suc k)) s t (omega arith) r)
effect_same loose guard (NewCanceler c) k f = one_name loose k (named c (Canceler [])) (new_firm loose c (Canceler []) k f.0)
effect_same loose guard (Wrap name c source) k f = λ s t r. moves_world loose (suc (suc k)) k (wrap_built name c source) (wrap_near loose name c source k f.0 f.1.0 f.1.1.0) s t (less_same loose (3 + k) (suc (suc k)) s t (omega arith) r)
effect_same loose guard (Cancel c) k f = λ s t r. canceled_same loose guard c k f.0 s t (less_same loose (1 + k) k s t (omega arith) r)
effect_same loose guard (Detach source) k f = one_name loose k (detached_built source) (λ w v r. detached_near loose source k f.0 w v (kept_less loose k w v r))
effect_same loose guard (Drop name) k f = λ s t r. by_firm_state loose name (suc k) k (dropped_held guard name) f.0 (dropped_untold guard name) (λ h. dropped_case loose guard name k h f.0) s t (less_same loose (1 + k) (suc k) s t (omega arith) r)
effect_same loose guard (Ask name cell target step words) k f = λ s t r. moves_world loose (suc (suc k)) k (ask_built name cell target step words) (ask_near loose name cell target step words k f.0 f.1.0) s t (less_same loose (2 + k) (suc (suc k)) s t (omega arith) r)
effect_same loose guard (Begin request step words) k f = one_name loose k (request_built request step words) (request_near loose request step words k f.0)
effect_same loose guard (Stop request) k f = λ s t r. stopped_same loose guard request k f.0 s t (less_same loose (1 + k) (suc k) s t (omega arith) r)
effect_same loose guard (Reply cell outcome) k f = one_name loose k (replied cell outcome) (λ w v r. reply_near loose cell k outcome f.0 w v (kept_less loose k w v r))
