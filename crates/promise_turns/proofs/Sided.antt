-- The Side of a race or a join, under its owner.
use Rattle.std.proofs.Common.{◌≡◌, ◌∙◌, sym, ap, refl, ℕ, List, [], ◌∷◌, Option, None, Some, Bool, true, false}
use Rattle.kj_base.specs.declared.outcomes.Outcome.{Outcome}
use Rattle.kj_base.specs.declared.nodes.Link.{Link}
use Rattle.kj_base.specs.declared.numbers.NodeId.{NodeId}
use Rattle.kj_base.specs.Queue.{DepthFirst}
use Rattle.kj_model.specs.Nodes.{Form, Entry, Side, Fired, Race, Join, form_at, parts_found}
use Rattle.kj_model.specs.World.{World, State, Setting}
use Rattle.kj_model.specs.Changes.{put}
use Rattle.kj_model.specs.Listening.{join_ready}
use Rattle.kj_model.specs.Value.{value}
use Rattle.kj_model.specs.Fire.{all_fired, announced_if, fast_announced, fire_form, kept_then, side_fired_by, side_fired_under}
use Rattle.kj_ownership.specs.Owners.{owns}
use Rattle.promise_nodes.specs.Kept.{SameNames}
use Rattle.promise_nodes.specs.Shown.{next_number, node_number}
use Rattle.promise_firing.specs.declared.owners.Joined.{Joined}
use Rattle.promise_firing.specs.declared.owners.Above.TheVariants.{Race as UnderRace, Join as UnderJoin}
use Rattle.promise_firing.specs.Stages.{IsOwner, sides_of}
use Rattle.promise_firing.proofs.Same.{announced_names, names_then}
use Rattle.promise_turns.specs.Events.{FromUnder, fired}
use Rattle.promise_turns.proofs.Outliving.{owner_found}

-- what it does there
pub side_fired_is : (tree : Link) (n owner : ℕ) (form : Form) (setting : Setting) (s : State) → FromUnder tree owner form n setting s → fired n setting s ≡ side_fired_under setting owner form n tree.number.0 s
side_fired_is tree n owner form setting s from =
    ap (λ (o : Option Form). fire_form setting n o s) from.0.2 ∙ ap (λ (o : Option Entry). side_fired_by setting o n tree.number.0 s) from.1

-- the owner that was found
entry_found : (e : Entry) (number : ℕ) (form : Form) → e.number ≡ number → e.form ≡ form → e ≡ record { number = number; form = form }
entry_found e number form a b = ap (λ (m : ℕ). record { number = m; form = e.form }) a ∙ ap (λ (f : Form). record { number = number; form = f }) b

pub race_found : (race left : Link) (winner : Option NodeId) (o : Option Entry) → IsOwner (UnderRace race left winner) o → o ≡ Some (record { number = race.number.0; form = Race left.number.0 (next_number left.number.0) (node_number winner) })
race_found race left winner None e = cc
race_found race left winner (Some owner) e = ap Some (entry_found owner race.number.0 (Race left.number.0 (next_number left.number.0) (node_number winner)) e.0 e.1)

pub join_found : (joined : Joined) (fast is : Bool) (o : Option Entry) → is ≡ fast → IsOwner (UnderJoin joined is) o → o ≡ Some (record { number = joined.join.number.0; form = Join fast (sides_of joined) })
join_found joined fast is None same e = cc
join_found joined fast is (Some owner) same e = ap Some (entry_found owner joined.join.number.0 (Join fast (sides_of joined)) e.0 (e.1 ∙ ap (λ (b : Bool). Join b (sides_of joined)) same))

-- the owner has that form, and owns it
pub owner_is : (tree : Link) (n owner : ℕ) (form : Form) (setting : Setting) (s : State) → FromUnder tree owner form n setting s → (form_at owner s.world.nodes ≡ Some form) × (owns owner n s.world.nodes ≡ true)
owner_is tree n owner form setting s from = owner_found n owner form s from.0.1 _ from.1 refl refl

-- its tree is its part
pub part_is : (tree : Link) (n owner : ℕ) (form : Form) (setting : Setting) (s : State) → FromUnder tree owner form n setting s → parts_found (form_at n s.world.nodes) ≡ tree.number.0 ∷ []
part_is tree n owner form setting s from = ap parts_found from.0.2

if_names : (b : Bool) (n : ℕ) (w : World) → SameNames w (announced_if b n w)
if_names true n w = announced_names DepthFirst n w
if_names false n w = refl

-- names stay when the Side of an All counts
pub all_names : (join : ℕ) (sides : List ℕ) (side tree : ℕ) (w : World) → SameNames w (all_fired join sides side tree w)
all_names join sides side tree w =
    let v = put side (Side (Fired tree)) w in
    names_then w v (all_fired join sides side tree w) refl (if_names (join_ready false sides v.nodes) join v)

-- a fast join, whose readiness was read before
pub fast_fired_is : (tree : Link) (n join : ℕ) (sides : List ℕ) (was : Bool) (o : Option Outcome) (setting : Setting) (s : State) → was ≡ join_ready true sides s.world.nodes → FromUnder tree join (Join true sides) n setting s → (value setting tree.number.0 s).1 ≡ o
    → kept_then (fast_announced was join sides) n tree.number.0 o (value setting tree.number.0 s).0 ≡ fired n setting s
fast_fired_is tree n join sides was o setting s ready from is =
    sym (side_fired_is tree n join (Join true sides) setting s from
    ∙ ap (λ (x : Option Outcome). kept_then (fast_announced (join_ready true sides s.world.nodes) join sides) n tree.number.0 x (value setting tree.number.0 s).0) is
    ∙ ap (λ (b : Bool). kept_then (fast_announced b join sides) n tree.number.0 o (value setting tree.number.0 s).0) (sym ready))
