-- A cell that waits is settled.
use Rattle.std.proofs.Common.{◌≡◌, ℕ, Option, None, Some, IsSome, true, refl, sym, ap, subst}
use Rattle.std.proofs.lemmas.Bool.{false≢true}
use Rattle.kj_base.specs.declared.outcomes.Outcome.{Outcome}
use Rattle.kj_base.specs.declared.nodes.Form.TheVariants.{Cell as CellCase}
use Rattle.kj_base.specs.Queue.{Way}
use Rattle.kj_model.specs.Nodes.{Form, Cell, form_at, with_form}
use Rattle.kj_model.specs.World.{World}
use Rattle.kj_model.specs.Changes.{put}
use Rattle.kj_model.specs.Listening.{announced, listener, settled_form, settled}
use Rattle.kj_model.specs.Uses.{waits_at}
use Rattle.kj_model.proofs.Spared.{form_put_same}
use Rattle.promise_nodes.specs.Kept.{KeepsKind, IsLive, SameNames}
use Rattle.promise_nodes.proofs.Same.{armed_names}

-- a form that is a cell without outcome
pub waiting_is : (f : Option Form) → waits_at f ≡ true → f ≡ Some (Cell None)
waiting_is None h = absurd (false≢true h)
waiting_is (Some (Cell None)) h = refl
waiting_is (Some (Cell (Some o))) h = absurd (false≢true h)
waiting_is (Some _) h = absurd (false≢true h)

some_is : (o : Option Form) (form : Form) → o ≡ Some form → IsSome o
some_is o form h = rw h refl

-- the settled world
pub settled_is : (way : Way) (n : ℕ) (o : Outcome) (w : World) → form_at n w.nodes ≡ Some (Cell None) → announced way n (put n (Cell (Some o)) w) ≡ settled way n o w
settled_is way n o w h = ap (λ (f : Option Form). settled_form way n o f w) (sym h)

-- the cell stays one
pub cell_kept : (o : Outcome) (f : Option Form) → f ≡ Some (Cell None) → KeepsKind (CellCase (Some o)) f
cell_kept o f h = subst (KeepsKind (CellCase (Some o))) (sym h) (refl, refl)

-- and lives
pub cell_lives : (n : ℕ) (o : Outcome) (w : World) → form_at n w.nodes ≡ Some (Cell None) → IsLive (put n (Cell (Some o)) w) n
cell_lives n o w h = some_is (form_at n (with_form n (Cell (Some o)) w.nodes)) (Cell (Some o)) (form_put_same n (Cell (Some o)) (Cell None) w.nodes h)

names_case : (way : Way) (n : ℕ) (o : Outcome) (w : World) (f : Option Form) → SameNames w (settled_form way n o f w)
names_case way n o w (Some (Cell None)) = let v = put n (Cell (Some o)) w in armed_names way (listener n v) v
names_case way n o w (Some (Cell (Some kept))) = refl
names_case way n o w None = refl
names_case way n o w (Some _) = refl

-- names stay
pub settled_names : (way : Way) (n : ℕ) (o : Outcome) (w : World) → SameNames w (settled way n o w)
settled_names way n o w = names_case way n o w (form_at n w.nodes)
