-- The nodes of the promise graph, by number.
use Rattle.std.specs.Prelude.{ℕ, zero, suc, List, [], ◌∷◌, Option, None, Some, Bool, true, false, not, ◌||◌, ◌==◌, map, filter, find, option_to_list}
use Rattle.std.specs.List.{list_any}
use Rattle.kj_base.specs.declared.outcomes.Outcome.{Outcome}

-- what an Eager, a Wrap or a Hub has: its tree, or then its outcome
pub data Content : Type 0 where
  Tree : (root : ℕ) → Content
  Kept : (outcome : Outcome) → Content

-- a Side waits for its tree; or its event has fired; or a fast join's Side keeps an outcome; or nothing is left
pub data Stage : Type 0 where
  Waits : (root : ℕ) → Stage
  Fired : (root : ℕ) → Stage
  Keeps : (outcome : Outcome) → Stage
  Gone : Stage

-- the forms of a node; what a node owns and what it refers to are numbers of nodes
pub data Form : Type 0 where
  Ready : (outcome : Outcome) → Form
  Later : Form
  Last : Form
  Cell : (outcome : Option Outcome) → Form
  Branch : (hub : ℕ) → Form
  Then : (value error : Option ℕ) → (tree : Option ℕ) → Form
  Chain : (link : ℕ) → Form
  Eager : (content : Content) → Form
  -- the canceler is a name
  Wrap : (canceler : ℕ) → (content : Content) → Form
  -- whether its name lives, and its branches in the order of making
  Hub : (content : Content) → (named : Bool) → (branches : List ℕ) → Form
  Side : (stage : Stage) → Form
  Race : (left right : ℕ) → (winner : Option ℕ) → Form
  Join : (fast : Bool) → (sides : List ℕ) → Form
  Task : (tree : Option ℕ) → Form
  -- a request has a name
  Request : (name : ℕ) → (tree : Option ℕ) → Form

-- a live node
pub record Entry : Type 0 where
  pub number : ℕ
  pub form : Form

-- the form of a live node
abbrev pub form_at : ℕ → List Entry → Option Form
form_at n [] = None
form_at n (e ∷ es) = form_here (e.number == n) e.form (form_at n es)
  where
    form_here : Bool → Form → Option Form → Option Form
    form_here true form rest = Some form
    form_here false form rest = rest

-- an entry with another form, where it is node n's
abbrev pub formed_if : Bool → Form → Entry → Entry
formed_if true form e = record { number = e.number; form = form }
formed_if false form e = e

-- an entry with another form, where it is this node's
abbrev pub formed : ℕ → Form → Entry → Entry
formed n form e = formed_if (e.number == n) form e

-- node n has this form now
abbrev pub with_form : ℕ → Form → List Entry → List Entry
with_form n form es = map (formed n form) es

-- the nodes but this one
abbrev pub without : ℕ → List Entry → List Entry
without n es = filter (λ e. not (e.number == n)) es

-- whether a number stands in a list
abbrev pub is_in : ℕ → List ℕ → Bool
is_in n ns = list_any (λ m. m == n) ns

-- a list of numbers without this one
abbrev pub dropped : ℕ → List ℕ → List ℕ
dropped n ns = filter (λ m. not (m == n)) ns

-- the tree, where it is still there
abbrev pub content_parts : Content → List ℕ
content_parts (Tree root) = root ∷ []
content_parts (Kept outcome) = []

-- the tree of a Side
abbrev pub stage_parts : Stage → List ℕ
stage_parts (Waits root) = root ∷ []
stage_parts (Fired root) = root ∷ []
stage_parts (Keeps outcome) = []
stage_parts Gone = []

-- what a node owns, in the order in which it is freed
abbrev pub parts_of : Form → List ℕ
parts_of (Ready outcome) = []
parts_of Later = []
parts_of Last = []
parts_of (Cell outcome) = []
parts_of (Branch hub) = []
parts_of (Then value error tree) = option_to_list tree
parts_of (Chain link) = link ∷ []
parts_of (Eager content) = content_parts content
parts_of (Wrap canceler content) = content_parts content
parts_of (Hub content named branches) = content_parts content
parts_of (Side stage) = stage_parts stage
parts_of (Race left right winner) = left ∷ right ∷ []
parts_of (Join fast sides) = sides
parts_of (Task tree) = option_to_list tree
parts_of (Request name tree) = option_to_list tree

-- a node that isn't live owns nothing
abbrev pub parts_found : Option Form → List ℕ
parts_found None = []
parts_found (Some form) = parts_of form

-- what node n owns
abbrev pub parts_at : ℕ → List Entry → List ℕ
parts_at n nodes = parts_found (form_at n nodes)

-- the nodes whose event can stand in the queue
abbrev pub has_event : Form → Bool
has_event (Ready outcome) = false
has_event Later = false
has_event Last = false
has_event (Cell outcome) = false
has_event (Branch hub) = false
has_event (Then value error tree) = false
has_event (Chain link) = true
has_event (Eager content) = true
has_event (Wrap canceler content) = true
has_event (Hub content named branches) = true
has_event (Side stage) = true
has_event (Race left right winner) = false
has_event (Join fast sides) = false
has_event (Task tree) = true
has_event (Request name tree) = true

-- the node that owns node n
abbrev pub owner_of : ℕ → List Entry → Option Entry
owner_of n nodes = find (λ (e : Entry). is_in n (parts_of e.form)) nodes

-- whether the tree of a root holds node n; the first argument bounds its depth
abbrev pub holds : ℕ → List Entry → ℕ → ℕ → Bool
holds zero nodes n root = false
holds (suc k) nodes n root = (root == n) || list_any (holds k nodes n) (parts_at root nodes)

-- the tree in place of another under its owner
abbrev pub renamed_if : Bool → ℕ → ℕ → ℕ
renamed_if true new old = new
renamed_if false new old = old

-- the new number for the old one
abbrev pub renamed : ℕ → ℕ → ℕ → ℕ
renamed old new n = renamed_if (n == old) new n

-- the same for a tree that may be there
abbrev pub renamed_tree : ℕ → ℕ → Option ℕ → Option ℕ
renamed_tree old new None = None
renamed_tree old new (Some t) = Some (renamed old new t)

-- the same for the tree of an Eager, a Wrap or a Hub
abbrev pub renamed_content : ℕ → ℕ → Content → Content
renamed_content old new (Tree root) = Tree (renamed old new root)
renamed_content old new (Kept outcome) = Kept outcome

-- the same for the tree of a Side
abbrev pub renamed_stage : ℕ → ℕ → Stage → Stage
renamed_stage old new (Waits root) = Waits (renamed old new root)
renamed_stage old new (Fired root) = Fired (renamed old new root)
renamed_stage old new (Keeps outcome) = Keeps outcome
renamed_stage old new Gone = Gone

-- a form whose tree old is now new; Sides stay under their Race or Join
abbrev pub renamed_form : ℕ → ℕ → Form → Form
renamed_form old new (Ready outcome) = Ready outcome
renamed_form old new Later = Later
renamed_form old new Last = Last
renamed_form old new (Cell outcome) = Cell outcome
renamed_form old new (Branch hub) = Branch hub
renamed_form old new (Then value error tree) = Then value error (renamed_tree old new tree)
renamed_form old new (Chain link) = Chain link
renamed_form old new (Eager content) = Eager (renamed_content old new content)
renamed_form old new (Wrap canceler content) = Wrap canceler (renamed_content old new content)
renamed_form old new (Hub content named branches) = Hub (renamed_content old new content) named branches
renamed_form old new (Side stage) = Side (renamed_stage old new stage)
renamed_form old new (Race left right winner) = Race left right winner
renamed_form old new (Join fast sides) = Join fast sides
renamed_form old new (Task tree) = Task (renamed_tree old new tree)
renamed_form old new (Request name tree) = Request name (renamed_tree old new tree)

-- the same for a node
abbrev pub renamed_entry : ℕ → ℕ → Entry → Entry
renamed_entry old new e = record { number = e.number; form = renamed_form old new e.form }

-- the same for all nodes
abbrev pub with_tree_renamed : ℕ → ℕ → List Entry → List Entry
with_tree_renamed old new nodes = map (renamed_entry old new) nodes

-- what is kept in place of the tree, once the event has fired
abbrev pub kept_form : Outcome → Form → Form
kept_form o (Ready outcome) = Ready outcome
kept_form o Later = Later
kept_form o Last = Last
kept_form o (Cell outcome) = Cell outcome
kept_form o (Branch hub) = Branch hub
kept_form o (Then value error tree) = Then value error tree
kept_form o (Chain link) = Chain link
kept_form o (Eager content) = Eager (Kept o)
kept_form o (Wrap canceler content) = Wrap canceler (Kept o)
kept_form o (Hub content named branches) = Hub (Kept o) named branches
kept_form o (Side stage) = Side (Keeps o)
kept_form o (Race left right winner) = Race left right winner
kept_form o (Join fast sides) = Join fast sides
kept_form o (Task tree) = Task tree
kept_form o (Request name tree) = Request name tree
