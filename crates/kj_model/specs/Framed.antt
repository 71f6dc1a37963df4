-- Counts, and what a free leaves as it was.
use Rattle.std.specs.Prelude.{◌≡◌, ℕ, ◌+◌, ◌≤◌, List, [], ◌∷◌, ◌++◌, Option, Some, cond, not, ◌==◌, map, filter}
use Rattle.kj_base.specs.Queue.{Events, disarmed}
use Rattle.kj_base.specs.Record.{Free}
use Rattle.kj_model.specs.Nodes.{is_in, form_at}
use Rattle.kj_model.specs.World.{World, State, Named, Held, Canceler, Spot, held_at}
use Rattle.kj_model.specs.Falling.{form_then}
use Rattle.kj_model.specs.Owned.{numbers}

-- how often a number stands in a list
abbrev pub times : ℕ → List ℕ → ℕ
times n [] = 0
times n (m ∷ ms) = cond (m == n) 1 0 + times n ms

-- the sum of a measure over a list
abbrev pub total : {A : Type 0} → (A → ℕ) → List A → ℕ
total f [] = 0
total f (x ∷ xs) = f x + total f xs

-- a measure of what each name holds, over all names
abbrev pub held_total : (Held → ℕ) → List Named → ℕ
held_total f names = total (λ (x : Named). f x.held) names

-- the names of a map
abbrev pub name_numbers : List Named → List ℕ
name_numbers names = map (λ (x : Named). x.name) names

-- no name stands twice
abbrev pub NamesApart : List Named → Type 0
NamesApart names = (c : ℕ) → times c (name_numbers names) ≤ 1

-- a queue without these events
abbrev pub all_disarmed : List ℕ → Events → Events
all_disarmed [] q = q
all_disarmed (n ∷ ns) q = all_disarmed ns (disarmed n q)

-- what a free doesn't touch
pub record Untouched (w v : World) : Type 0 where
  pub next : v.next ≡ w.next
  pub next_key : v.next_key ≡ w.next_key
  pub awaited : v.awaited ≡ w.awaited
  pub left_over : v.left_over ≡ w.left_over
  pub detached : v.detached ≡ w.detached
  pub asks : v.asks ≡ w.asks
  pub ended : v.ended ≡ w.ended
  pub firing : v.firing ≡ w.firing
  pub stopped : v.stopped ≡ w.stopped

-- what a name holds, but for a canceler's Wraps
abbrev pub stripped : Option Held → Option Held
stripped (Some (Canceler wraps)) = Some (Canceler [])
stripped other = other

-- the frame of a free of these nodes, but for the forms
pub record Framed (w : World) (done : List ℕ) (v : World) : Type 0 where
  pub numbers : numbers v.nodes ≡ filter (λ n. not (is_in n done)) (numbers w.nodes)
  pub queue : v.queue ≡ all_disarmed done w.queue
  pub spots : v.spots ≡ filter (λ (x : Spot). not (is_in x.number done)) w.spots
  pub names : NamesApart w.names → (c : ℕ) → times c (name_numbers v.names) ≡ times c (name_numbers w.names)
  pub held : NamesApart w.names → (f : Held → ℕ) → ((ws : List ℕ) → f (Canceler ws) ≡ 0) → held_total f v.names ≡ held_total f w.names
  pub at : (c : ℕ) → stripped (held_at c v.names) ≡ stripped (held_at c w.names)
  pub same : Untouched w v

-- these nodes were freed, in this order: their frees are told, hubs lose the branches that went, and nothing else changed
pub record FreedBy (ns : List ℕ) (old new : State) : Type 0 where
  pub told : new.past ≡ old.past ++ map Free ns
  pub limits : new.world.limits ≡ old.world.limits
  pub forms : (m : ℕ) → form_at m new.world.nodes ≡ form_then [] ns m old.world.nodes
  pub frame : Framed old.world ns new.world
