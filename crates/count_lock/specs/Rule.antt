-- The rule of the table, and what each step tells.
-- Word 0 is the ticket, word 1 serving and word 2 the count. Each of the `words` words after them is 0 or one more than the place of
-- the entry that ends it. The one slot has the value.
-- `drawn` and `served` count tickets without end, the words modulo 2 ^ 64. `log` is the history.
use Rattle.std.specs.Prelude.{◌≡◌, ◌≢◌, ◌⊎◌, ℕ, ◌+◌, ◌-◌, ◌*◌, ◌/◌, ◌%◌, ◌^◌, ◌<◌, ◌≤◌, ◌==◌, if◌then◌else◌, nat_lt, ◌||◌, Bool, true, false, slice_index_or, List, [], ◌∷◌, ◌++◌, length, Option, Some, None}
use Rattle.std.specs.List.{All, filter}
use mathlib.Core.Option.{some, none}
use mathlib.Core.Option as maybe
use lib.ListN.{get_elem?}
use Rattle.atomic_table.specs.Table.{State, Me, Step, rest}
use Rattle.count_lock.specs.declared.view.Stage.{Stage}
use Rattle.count_lock.specs.declared.view.Stage.TheVariants.{Idle, Waiting, Turn, Noted, Last, Spent}
use Rattle.count_lock.specs.declared.view.Kin.{Kin}
use Rattle.count_lock.specs.declared.view.View.{View}

abbrev pub holding : Stage → ℕ
holding Idle = 0
holding Waiting = 1
holding Turn = 1
holding Noted = 1
holding Last = 1
holding Spent = 0

abbrev pub turning : Stage → ℕ
turning Idle = 0
turning Waiting = 0
turning Turn = 1
turning Noted = 1
turning Last = 0
turning Spent = 0

abbrev pub noting : Stage → ℕ
noting Idle = 0
noting Waiting = 0
noting Turn = 0
noting Noted = 1
noting Last = 0
noting Spent = 0

abbrev pub served_now : Stage → ℕ
served_now Idle = 0
served_now Waiting = 0
served_now Turn = 1
served_now Noted = 1
served_now Last = 1
served_now Spent = 0

abbrev pub alive : Stage → ℕ
alive Idle = 1
alive Waiting = 1
alive Turn = 1
alive Noted = 1
alive Last = 1
alive Spent = 0

module _ {E : Type 0} where
  -- how many views hold a ticket
  abbrev pub waiting : List (View E) → ℕ
  waiting [] = 0
  waiting (v ∷ vs) = holding v.stage + waiting vs

  -- how many numbers a view has: its own and the spare ones
  abbrev pub load : View E → ℕ
  load v = alive v.stage * (1 + (v.until - v.from))

  abbrev pub weight : List (View E) → ℕ
  weight [] = 0
  weight (v ∷ vs) = load v + weight vs

  abbrev pub StartsWith : List E → List E → Type 0
  StartsWith ys xs = (more : List E) × (ys ≡ xs ++ more)

  abbrev pub Spare : View E → ℕ → Type 0
  Spare v n = (v.from ≤ n) × (n < v.until)

  -- it is the number of one of these passes
  abbrev pub IsKin : List (Kin E) → ℕ → Type 0
  IsKin [] n = ⊥
  IsKin (k ∷ ks) n = (n ≡ k.number) ⊎ IsKin ks n

  -- it is the number of a pass that was joined into the view's
  abbrev pub Joined : View E → ℕ → Type 0
  Joined v n = IsKin v.kin n ⊎ IsKin v.guests n

  -- the number belongs to the view, and is not its own
  abbrev pub Has : View E → ℕ → Type 0
  Has v n = Spare v n ⊎ Joined v n

  abbrev pub Owns : View E → ℕ → Type 0
  Owns v n = (n ≡ v.number) ⊎ Has v n

  -- the pass and its kin, as they are to the pass that it is joined into
  abbrev pub family : View E → List (Kin E)
  family v = record { number = v.number; mine = v.mine } ∷ v.kin

  abbrev pub Apart : View E → View E → Type 0
  Apart v w = (1 ≤ holding v.stage → 1 ≤ holding w.stage → v.at ≢ w.at)
      × (1 ≤ alive v.stage → 1 ≤ alive w.stage → (n : ℕ) → Owns v n → Owns w n → ⊥)

module _ {E : Type 0} (by : E → ℕ) where
  -- the entries with the number n
  abbrev pub of : ℕ → List E → List E
  of n es = filter (λ e. by e == n) es

  -- the entries of each of these passes are what it made
  abbrev pub Made : List E → List (Kin E) → Type 0
  Made es [] = Unit {0}
  Made es (k ∷ ks) = (of k.number es ≡ k.mine) × Made es ks

  pub record Fits (drawn served : ℕ) (log : List E) (v : View E) : Type 0 where
    pub front : StartsWith log v.seen
    pub ticket : 1 ≤ holding v.stage → (served ≤ v.at) × (v.at < drawn)
    pub told : StartsWith log v.told
    pub known : StartsWith log v.known
    pub turn : 1 ≤ served_now v.stage → (v.at ≡ served) × (v.seen ≡ log)
    pub mine : 1 ≤ alive v.stage → (of v.number log ≡ v.mine) × (of v.number v.seen ≡ v.mine)
    pub spare : 1 ≤ alive v.stage → (n : ℕ) → Spare v n → of n log ≡ []
    pub range : 1 ≤ alive v.stage → (v.number < 2 ^ 32) × (v.from ≤ v.until) × (v.until ≤ 2 ^ 32)
    pub kin : 1 ≤ alive v.stage → Made log v.kin × Made v.seen v.kin
    pub guests : 1 ≤ alive v.stage → Made log v.guests × Made v.told v.guests
    pub own : 1 ≤ alive v.stage → Has v v.number → ⊥
    pub fresh : 1 ≤ alive v.stage → (n : ℕ) → Spare v n → Joined v n → ⊥

abbrev pub is_in : ℕ → List ℕ → Bool
is_in k [] = false
is_in k (m ∷ ms) = (k == m) || is_in k ms

module _ {E : Type 0} (fin : List E → ℕ → Option ℕ) where
  -- the view with the turn noted the end at this place, and has not marked it, and no other view has seen it
  pub record Pending (views : List (View E)) (k p : ℕ) : Type 0 where
    pub at : ℕ
    pub view : View E
    pub there : get_elem? views at ≡ some view
    pub notes : noting view.stage ≡ 1
    pub place : view.place ≡ p
    pub unmarked : is_in k view.marked ≡ false
    pub unseen : (i : ℕ) (u : View E) → i ≢ at → get_elem? views i ≡ some u → (length u.seen ≤ p) × (length u.told ≤ p)

  -- a word that is not 0 names the place of its end, and one that is 0 has none, or one that is still to be marked
  abbrev pub Marked : List (View E) → List E → ℕ → ℕ → Type 0
  Marked views log k n = (n ≢ 0 → fin log k ≡ Some (n - 1)) × (n ≡ 0 → (p : ℕ) → fin log k ≡ Some p → Pending views k p)

-- numbers of passes are below 2 ^ 32
abbrev pub Authored : {E : Type 0} → (E → ℕ) → List E → Type 0
Authored by es = All (λ e. by e < 2 ^ 32) es

module _ {T E : Type 0} (entries : T → List E) (constant_of : T → ℕ) where
  -- The value is at home and stands for the history, and nobody has the turn. Or it is out, and somebody has the turn
  abbrev pub Home : ℕ → List (View E) → List E → List (maybe.Option (Option T)) → Type 0
  Home constant views log homes =
      ((x : T) × (homes ≡ some (Some x) ∷ []) × (entries x ≡ log) × ((j : ℕ) (v : View E) → get_elem? views j ≡ some v → turning v.stage ≡ 0) × (constant_of x ≡ constant))
      ⊎ ((homes ≡ none ∷ []) × ((j : ℕ) × (v : View E) × (get_elem? views j ≡ some v) × (turning v.stage ≡ 1)))

  pub record Ticketed (by : E → ℕ) (fin : ℕ → List E → ℕ → Option ℕ) (words : ℕ) (s : State (Option T) (View E)) : Type 0 where
    pub drawn : ℕ
    pub served : ℕ
    pub log : List E
    pub ends : List ℕ
    pub words_are : s.words ≡ (drawn % 2 ^ 64) ∷ (served % 2 ^ 64) ∷ length log ∷ ends
    pub short : length log < 2 ^ 64
    pub count : length ends ≡ words
    pub authors : Authored by log
    pub waits : served + waiting s.views ≡ drawn
    pub weighs : weight s.views ≤ 2 ^ 32
    pub constant : ℕ
    pub marks : (k : ℕ) → k < length ends → Marked (fin constant) s.views log k (slice_index_or ends k 0)
    pub constants : (j : ℕ) (v : View E) → get_elem? s.views j ≡ some v → 1 ≤ alive v.stage → v.constant ≡ constant
    pub home : Home constant s.views log s.homes
    pub each : (j : ℕ) (v : View E) → get_elem? s.views j ≡ some v → Fits by drawn served log v
    pub pairs : (i j : ℕ) (v w : View E) → get_elem? s.views i ≡ some v → get_elem? s.views j ≡ some w → i ≢ j → Apart v w

module _ {T E : Type 0} (entries : T → List E) where
  -- what the value that the seat took last stands for
  abbrev pub carried : List (ℕ × Option T) → List E
  carried [] = []
  carried (c ∷ cs) = elim c.1 [ None ↦ [] | Some x ↦ entries x ]

module _ {E : Type 0} where
  abbrev pub first_view : ℕ → View E
  first_view constant = record { constant = constant; stage = Idle; at = 0; number = 0; from = 1; until = 4294967296; seen = []; mine = []; kin = []; told = []; guests = []; known = []; place = 0; marked = [] }

  abbrev pub spent_view : View E
  spent_view = record { constant = 0; stage = Spent; at = 0; number = 0; from = 0; until = 0; seen = []; mine = []; kin = []; told = []; guests = []; known = []; place = 0; marked = [] }

  -- how many spare numbers the new pass gets
  abbrev pub given : View E → ℕ
  given v = (v.until - v.from - 1) / 2

  abbrev pub left_half : View E → View E
  left_half v = record v { from = v.from + 1; until = v.until - given v }

  abbrev pub right_half : View E → View E
  right_half v = record { constant = v.constant; stage = Idle; at = 0; number = v.from; from = v.until - given v; until = v.until; seen = v.seen; mine = []; kin = []; told = []; guests = []; known = []; place = 0; marked = [] }

  -- the longer of two lists
  abbrev pub longer : List E → List E → List E
  longer xs ys = if nat_lt (length xs) (length ys) then ys else xs

  abbrev pub joined : View E → View E → View E
  joined v w = record v { told = w.seen; guests = family w }

abbrev Seated : Type 0 → Type 0 → Type 0
Seated T E = Me (Option T) (View E)

module _ {T E : Type 0} where
  abbrev pub drew : Step (Option T) → Seated T E → ℕ → Seated T E → Type 0
  drew st m r m' = (k : ℕ) × (r ≡ k % 2 ^ 64) × (m'.0 ≡ record m.0 { stage = Waiting; at = k }) × (m'.1 ≡ m.1)

  abbrev pub Takes : (T → List E) → (T → ℕ) → (E → ℕ) → Seated T E → Seated T E → Type 0
  Takes entries constant_of by m m' = (x : T) × (m'.0 ≡ record m.0 { stage = Turn; seen = entries x }) × (m'.1 ≡ (0, Some x) ∷ m.1)
      × StartsWith (entries x) m.0.seen × (of by m.0.number (entries x) ≡ m.0.mine) × ((n : ℕ) → Spare m.0 n → of by n (entries x) ≡ []) × (constant_of x ≡ m.0.constant) × Authored by (entries x) × Made by (entries x) m.0.kin × StartsWith (entries x) m.0.known

  abbrev pub looked : (T → List E) → (T → ℕ) → (E → ℕ) → Step (Option T) → Seated T E → ℕ → Seated T E → Type 0
  looked entries constant_of by st m r m' = (r ≡ m.0.at % 2 ^ 64 → Takes entries constant_of by m m') × (r ≢ m.0.at % 2 ^ 64 → m' ≡ m)

  -- from no ticket to the turn
  abbrev pub Turned : (T → List E) → (T → ℕ) → (E → ℕ) → Seated T E → Seated T E → Type 0
  Turned entries constant_of by m m' = (x : T) × (k : ℕ) × (m'.0 ≡ record m.0 { stage = Turn; at = k; seen = entries x }) × (m'.1 ≡ (0, Some x) ∷ m.1)
      × StartsWith (entries x) m.0.seen × (of by m.0.number (entries x) ≡ m.0.mine) × ((n : ℕ) → Spare m.0 n → of by n (entries x) ≡ []) × (constant_of x ≡ m.0.constant) × Authored by (entries x) × Made by (entries x) m.0.kin × StartsWith (entries x) m.0.known

  abbrev pub noted : (T → List E) → (E → ℕ) → Step (Option T) → Seated T E → ℕ → Seated T E → Type 0
  noted entries by st m r m' = (m'.0 ≡ record m.0 { stage = Noted; place = length m.0.seen; marked = []; seen = carried entries m.1; mine = of by m.0.number (carried entries m.1) }) × (m'.1 ≡ m.1) × (of by m.0.number m.0.seen ≡ m.0.mine)
      × Made by (carried entries m.1) m.0.kin

  abbrev pub passed : Step (Option T) → Seated T E → ℕ → Seated T E → Type 0
  passed st m r m' = (m'.0 ≡ record m.0 { stage = Idle; at = 0 }) × (m'.1 ≡ rest m.1)

  abbrev pub laid : Step (Option T) → Seated T E → ℕ → Seated T E → Type 0
  laid st m r m' = (m'.0 ≡ record m.0 { stage = Last }) × (m'.1 ≡ rest m.1)

  -- what was told is seen
  abbrev pub settled : (E → ℕ) → Step (Option T) → Seated T E → ℕ → Seated T E → Type 0
  settled by st m r m' = (m'.0 ≡ record m.0 { seen = longer m.0.seen m.0.told; kin = m.0.guests ++ m.0.kin; told = []; guests = [] }) × (m'.1 ≡ m.1)
      × StartsWith (longer m.0.seen m.0.told) m.0.seen × StartsWith (longer m.0.seen m.0.told) m.0.told

  -- a word was marked
  abbrev pub marked_one : Step (Option T) → Seated T E → ℕ → Seated T E → Type 0
  marked_one st m r m' = (m'.0 ≡ record m.0 { marked = (st.word - 3) ∷ m.0.marked }) × (m'.1 ≡ m.1)

  -- a word that is not 0 names the place of its end, and 0 says that the end was not seen
  abbrev pub loaded : (ℕ → List E → ℕ → Option ℕ) → Step (Option T) → Seated T E → ℕ → Seated T E → Type 0
  loaded fin st m r m' = (r ≢ 0 → (m'.0 ≡ record m.0 { known = m'.0.known }) × (fin m.0.constant m'.0.known (st.word - 3) ≡ Some (r - 1)))
      × (r ≡ 0 → (m'.0 ≡ m.0) × (fin m.0.constant m.0.seen (st.word - 3) ≡ None)) × (m'.1 ≡ m.1)

  -- what the pass has seen, beside its numbers
  abbrev pub attested : (E → ℕ) → Step (Option T) → Seated T E → ℕ → Seated T E → Type 0
  attested by st m r m' = (m' ≡ m) × (of by m.0.number m.0.seen ≡ m.0.mine) × ((n : ℕ) → Spare m.0 n → of by n m.0.seen ≡ []) × Authored by m.0.seen × Made by m.0.seen m.0.kin
