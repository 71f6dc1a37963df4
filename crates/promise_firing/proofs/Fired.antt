-- Sides that have fired, and Races.
use Rattle.std.proofs.Common.{◌≡◌, ◌∙◌, refl, sym, ap, subst, ℕ, Option, None, Some, Bool, true, false, arith}
use Rattle.std.specs.Prelude.{nat_eq}
use Rattle.std.proofs.lemmas.Bool.{false≢true}
use Rattle.std.proofs.lemmas.Bool.Decides.{nat_tests}
use Rattle.kj_base.specs.declared.numbers.NodeId.{NodeId}
use Rattle.kj_base.specs.declared.nodes.Link.{Link}
use Rattle.kj_base.specs.declared.nodes.Stage.{Stage as StageCase}
use Rattle.kj_base.specs.declared.nodes.Form.TheVariants.{Side as SideCase, Race as RaceCase}
use Rattle.kj_model.specs.Nodes.{Form, Stage, Waits, Fired, Keeps, Gone, Side, Race, form_at, with_form, is_in, parts_found}
use Rattle.kj_model.specs.World.{World, State}
use Rattle.kj_model.specs.Changes.{put}
use Rattle.kj_model.specs.Value.{freed}
use Rattle.kj_model.specs.Fire.{tree_freed}
use Rattle.kj_model.proofs.Spared.{form_put_same, form_put_other}
use Rattle.promise_nodes.specs.Shown.{next_number}
use Rattle.promise_nodes.specs.Kept.{KeepsKind, AddsNone}
use Rattle.promise_firing.specs.Stages.{MayBeSide, tree_of, race_decided}

-- a Side stays one
pub side_kept : (stage : StageCase) (seen : Stage) (o : Option Form) → o ≡ Some (Side seen) → KeepsKind (SideCase stage) o
side_kept stage seen o h = subst (KeepsKind (SideCase stage)) (sym h) (refl, refl)

-- it has the tree for which it waited
pub side_adds : (w : World) (n t : ℕ) → form_at n w.nodes ≡ Some (Side (Waits t)) → AddsNone w n (Side (Fired t))
side_adds w n t h m in_form = subst (λ (o : Option Form). is_in m (parts_found o) ≡ true) (sym h) in_form

-- a Race stays one
pub race_kept : (left : Link) (winner : Option NodeId) (l r : ℕ) (won : Option ℕ) (o : Option Form) → o ≡ Some (Race l r won) → KeepsKind (RaceCase left winner) o
race_kept left winner l r won o h = subst (KeepsKind (RaceCase left winner)) (sym h) (refl, refl)

-- over the same Sides
pub race_adds : (w : World) (n l r : ℕ) (won : Option ℕ) → form_at n w.nodes ≡ Some (Race l r None) → AddsNone w n (Race l r won)
race_adds w n l r won h m in_form = subst (λ (o : Option Form). is_in m (parts_found o) ≡ true) (sym h) in_form

side_no_race : (t l r : ℕ) → ◌≡◌ {A = Option Form} (Some (Side (Waits t))) (Some (Race l r None)) → ⊥
side_no_race t l r e = cc

race_case : (b : Bool) (side race t l r : ℕ) (form : Form) (w : World) → nat_eq side race ≡ b → form_at side w.nodes ≡ Some (Side (Waits t)) → form_at race w.nodes ≡ Some (Race l r None) → form_at race (with_form side form w.nodes) ≡ Some (Race l r None)
race_case false side race t l r form w e h k = form_put_other side race form w.nodes e ∙ k
race_case true side race t l r form w e h k =
    let same : side ≡ race = grind (arith, nat_tests) in
    absurd (side_no_race t l r (sym h ∙ ap (λ (n : ℕ). form_at n w.nodes) same ∙ k))

-- and isn't changed with its Side
pub race_stays : (side race t l r : ℕ) (form : Form) (w : World) → form_at side w.nodes ≡ Some (Side (Waits t)) → form_at race w.nodes ≡ Some (Race l r None) → form_at race (put side form w).nodes ≡ Some (Race l r None)
race_stays side race t l r form w h k = race_case (nat_eq side race) side race t l r form w refl h k

-- a Side, or no node, stays that
pub maybe_kept : (stage : StageCase) (o : Option Form) → MayBeSide o → KeepsKind (SideCase stage) o
maybe_kept stage None h = tt
maybe_kept stage (Some (Side seen)) h = (refl, refl)
maybe_kept stage (Some _) h = absurd (false≢true h)

freed_some : Option ℕ → State → State
freed_some None s = s
freed_some (Some t) s = freed t s

stage_freed : (stage : Stage) (s : State) → tree_freed (Some (Side stage)) s ≡ freed_some (tree_of (Some (Side stage))) s
unfolding freed_some
stage_freed (Waits t) s = refl
stage_freed (Fired t) s = refl
stage_freed (Keeps outcome) s = refl
stage_freed Gone s = refl

freed_by_tree : (o : Option Form) (s : State) → tree_freed o s ≡ freed_some (tree_of o) s
unfolding freed_some
freed_by_tree None s = refl
freed_by_tree (Some (Side stage)) s = stage_freed stage s
freed_by_tree (Some _) s = refl

-- the tree that is freed
pub none_freed : (o : Option Form) (s : State) → tree_of o ≡ None → tree_freed o s ≡ s
unfolding freed_some
none_freed o s h = freed_by_tree o s ∙ ap (λ (t : Option ℕ). freed_some t s) h

pub some_freed : (o : Option Form) (t : ℕ) (s : State) → tree_of o ≡ Some t → tree_freed o s ≡ freed t s
unfolding freed_some
some_freed o t s h = freed_by_tree o s ∙ ap (λ (x : Option ℕ). freed_some x s) h

pub same_freed : (o p : Option Form) (s : State) → tree_of o ≡ tree_of p → tree_freed o s ≡ tree_freed p s
same_freed o p s h = freed_by_tree o s ∙ ap (λ (x : Option ℕ). freed_some x s) h ∙ sym (freed_by_tree p s)

-- what the decision of a Race leaves of the other Side
pub record Spares (old new : Option Form) : Type 0 where
  pub side : MayBeSide new
  pub tree : tree_of new ≡ tree_of old

spares_same : (old new : Option Form) → new ≡ old → MayBeSide old → Spares old new
spares_same old new e h = record { side = subst MayBeSide (sym e) h; tree = ap tree_of e }

side_case : (b : Bool) (side other t : ℕ) (w : World) → nat_eq side other ≡ b → form_at side w.nodes ≡ Some (Side (Waits t)) → MayBeSide (form_at other w.nodes) → Spares (form_at other w.nodes) (form_at other (with_form side (Side (Fired t)) w.nodes))
side_case false side other t w e h may = spares_same (form_at other w.nodes) (form_at other (with_form side (Side (Fired t)) w.nodes)) (form_put_other side other (Side (Fired t)) w.nodes e) may
side_case true side other t w e h may =
    let same : side ≡ other = grind (arith, nat_tests) in
    let after = form_put_same side (Side (Fired t)) (Side (Waits t)) w.nodes h in
    subst (λ (n : ℕ). Spares (form_at n w.nodes) (form_at n (with_form side (Side (Fired t)) w.nodes))) same
    (record { side = subst MayBeSide (sym after) refl; tree = ap tree_of after ∙ sym (ap tree_of h) })

decided_case : (b : Bool) (race left side t other : ℕ) (w : World) → nat_eq race other ≡ b → form_at side w.nodes ≡ Some (Side (Waits t)) → form_at race w.nodes ≡ Some (Race left (next_number left) None) → MayBeSide (form_at other w.nodes)
    → Spares (form_at other w.nodes) (form_at other (race_decided race left side t w).nodes)
decided_case true race left side t other w e h k may =
    let same : race ≡ other = grind (arith, nat_tests) in
    absurd (false≢true (subst MayBeSide (sym (ap (λ (n : ℕ). form_at n w.nodes) same) ∙ k) may))
decided_case false race left side t other w e h k may =
    let v = put side (Side (Fired t)) w in
    subst (λ (o : Option Form). Spares (form_at other w.nodes) o) (sym (form_put_other race other (Race left (next_number left) (Some side)) v.nodes e))
    (side_case (nat_eq side other) side other t w refl h may)

pub decided_spares : (race left side t other : ℕ) (w : World) → form_at side w.nodes ≡ Some (Side (Waits t)) → form_at race w.nodes ≡ Some (Race left (next_number left) None) → MayBeSide (form_at other w.nodes)
    → Spares (form_at other w.nodes) (form_at other (race_decided race left side t w).nodes)
decided_spares race left side t other w h k may = decided_case (nat_eq race other) race left side t other w refl h k may
