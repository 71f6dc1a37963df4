-- Each command keeps what a world keeps, and while a step runs the nodes that are being evaluated.
use Rattle.std.proofs.Common.{◌≡◌, ℕ, List, [], Bool, true, false, Option, None, Some, refl, sym}
use Rattle.std.specs.Prelude.{option_to_list}
use Rattle.std.proofs.lemmas.Bool.{false≢true}
use Rattle.kj_base.specs.Commands.{Command, Clear, Cancel, Drop, Stop}
use Rattle.kj_model.specs.Nodes.{form_at}
use Rattle.kj_model.specs.World.{State, Setting, Held, Promise, HubOf, Group, Canceler, held_at}
use Rattle.kj_model.specs.Free.{Holding, usual}
use Rattle.kj_model.specs.Apply.{Refused, refusal, apply, applied, is_busy}
use Rattle.kj_model.specs.Effects.{effect, dropped_held}
use Rattle.kj_ownership.specs.Standing.{Owned}
use Rattle.kj_ownership.specs.Stems.{Frames, is_steady}
use Rattle.kj_ownership.specs.Shapes.{Shaped}
use Rattle.kj_ownership.specs.Fits.{Fits}
use Rattle.kj_ownership.proofs.Evaluates.{CommandsKeep}
use Rattle.kj_ownership.proofs.Reached.{reached_none}
use Rattle.kj_ownership.proofs.Premises.{Allowed, allowed, found_none, request_is}
use Rattle.kj_ownership.proofs.Made.{is_making, made}
use Rattle.kj_ownership.proofs.Walks.{Went, went_reached, Walks, walks_reached, walks_evals}
use Rattle.kj_ownership.proofs.Calm.{Tells, calm_free, calm_settle}
use Rattle.kj_ownership.proofs.Freeing.{cleared_went, cleared_walks, drop_set_went, drop_set_walks, drop_promise_went, drop_promise_walks, drop_hub_went, drop_hub_walks, stop_went}
use Rattle.kj_ownership.proofs.Cancelled.{canceled_went, canceled_walks, drop_canceler_went, drop_canceler_walks}

-- what Drop takes
drop_went : (o : Option Held) (gs : List ℕ) (name : ℕ) (s : State) → held_at name s.world.names ≡ o → Owned s → Shaped s.world → Went [] [] s (dropped_held (Holding gs) name o s)
drop_went (Some (Promise r)) gs name s at st sh = drop_promise_went (Holding gs) name r s at st sh
drop_went (Some (HubOf h)) gs name s at st sh = drop_hub_went (Holding gs) name h s at st sh
drop_went (Some (Group error tasks empty)) gs name s at st sh = drop_set_went (Holding gs) name error tasks empty s at st sh
drop_went (Some (Canceler wraps)) gs name s at st sh = drop_canceler_went gs name wraps s at st sh
drop_went None gs name s at st sh = went_reached [] [] s s (reached_none s st sh)
drop_went (Some _) gs name s at st sh = went_reached [] [] s s (reached_none s st sh)

by_making : (setting : Setting) (inside : Bool) (c : Command) (s : State) → Fits setting → Allowed setting inside c s → Owned s → Shaped s.world → is_making c ≡ true → Went [] [] s (effect (usual s.world) c s)
by_making setting inside c s fits a st sh m = went_reached [] [] s (effect (usual s.world) c s) (made setting inside (usual s.world) c s fits a st sh m)

pub command_went : (setting : Setting) (inside : Bool) (c : Command) (s : State) → Fits setting → Allowed setting inside c s → Owned s → Shaped s.world → Went [] [] s (effect (usual s.world) c s)
command_went setting inside (Clear group) s fits a st sh = cleared_went (usual s.world) group s st sh
command_went setting inside (Cancel canceler) s fits a st sh = canceled_went (option_to_list s.world.firing) canceler s st sh
command_went setting inside (Drop name) s fits a st sh = drop_went (held_at name s.world.names) (option_to_list s.world.firing) name s refl st sh
command_went setting inside (Stop request) s fits a st sh = let h = request_is (held_at request s.world.names) (found_none _ _ _ a.right).0 in stop_went (usual s.world) request h.0 s h.1 st sh
command_went setting inside c s fits a st sh = by_making setting inside c s fits a st sh refl

-- while a step runs
drop_walks : (o : Option Held) (name : ℕ) (s : State) (n : ℕ) (fs : List ℕ) → held_at name s.world.names ≡ o → is_busy (Drop name) s ≡ false → Owned s → Shaped s.world → Frames s.world n fs → is_steady (form_at n s.world.nodes) ≡ true → ((f : ℕ) → s.world.firing ≡ Some f → Tells f s (dropped_held (Holding []) name o s) → ⊥) → Walks [] [] s (dropped_held (usual s.world) name o s) n fs
drop_walks (Some (Promise r)) name s n fs at busy st sh f y calm = drop_promise_walks name r s n fs at st sh f y calm
drop_walks (Some (HubOf h)) name s n fs at busy st sh f y calm = drop_hub_walks name h s n fs at st sh f y
drop_walks (Some (Group error tasks empty)) name s n fs at busy st sh f y calm = drop_set_walks name error tasks empty s n fs at st sh f y (λ g fires t. calm g fires (record { more = t.more; told = t.told; has = t.has }))
drop_walks (Some (Canceler wraps)) name s n fs at busy st sh f y calm = drop_canceler_walks name wraps s n fs at st sh f y (λ g fires t. calm g fires (record { more = t.more; told = t.told; has = t.has })) (λ g fires. calm_settle (Drop name) s g busy fires)
drop_walks None name s n fs at busy st sh f y calm = walks_reached [] [] s s n fs f y (reached_none s st sh)
drop_walks (Some _) name s n fs at busy st sh f y calm = walks_reached [] [] s s n fs f y (reached_none s st sh)

making_walks : (setting : Setting) (c : Command) (s : State) (n : ℕ) (fs : List ℕ) → Fits setting → Allowed setting true c s → Owned s → Shaped s.world → Frames s.world n fs → is_steady (form_at n s.world.nodes) ≡ true → is_making c ≡ true → Walks [] [] s (effect (usual s.world) c s) n fs
making_walks setting c s n fs fits a st sh f y m = walks_reached [] [] s (effect (usual s.world) c s) n fs f y (made setting true (usual s.world) c s fits a st sh m)

pub command_walks : (setting : Setting) (c : Command) (s : State) (n : ℕ) (fs : List ℕ) → Fits setting → Allowed setting true c s → Owned s → Shaped s.world → Frames s.world n fs → is_steady (form_at n s.world.nodes) ≡ true → Walks [] [] s (effect (usual s.world) c s) n fs
command_walks setting (Clear group) s n fs fits a st sh f y = cleared_walks group s n fs st sh f y (λ g fires t. calm_free (Clear group) s g a.calm fires t)
command_walks setting (Cancel canceler) s n fs fits a st sh f y = canceled_walks canceler s n fs st sh f y (λ g fires t. calm_free (Cancel canceler) s g a.calm fires t) (λ g fires. calm_settle (Cancel canceler) s g a.calm fires)
command_walks setting (Drop name) s n fs fits a st sh f y = drop_walks (held_at name s.world.names) name s n fs refl a.calm st sh f y (λ g fires t. calm_free (Drop name) s g a.calm fires t)
command_walks setting (Stop request) s n fs fits a st sh f y = absurd (false≢true (sym a.outside))
command_walks setting c s n fs fits a st sh f y = making_walks setting c s n fs fits a st sh f y refl

-- refused or not
applied_went : (o : Option Refused) (setting : Setting) (inside : Bool) (c : Command) (s : State) → refusal setting inside c s ≡ o → Fits setting → Owned s → Shaped s.world → Went [] [] s (applied o c s).0
applied_went (Some refused) setting inside c s is fits st sh = went_reached [] [] s s (reached_none s st sh)
applied_went None setting inside c s is fits st sh = command_went setting inside c s fits (allowed setting inside c s is) st sh

pub apply_went : (setting : Setting) (inside : Bool) (c : Command) (s : State) → Fits setting → Owned s → Shaped s.world → Went [] [] s (apply setting inside c s).0
apply_went setting inside c s fits st sh = applied_went (refusal setting inside c s) setting inside c s refl fits st sh

applied_walks : (o : Option Refused) (setting : Setting) (c : Command) (s : State) (n : ℕ) (fs : List ℕ) → refusal setting true c s ≡ o → Fits setting → Owned s → Shaped s.world → Frames s.world n fs → is_steady (form_at n s.world.nodes) ≡ true → Walks [] [] s (applied o c s).0 n fs
applied_walks (Some refused) setting c s n fs is fits st sh f y = walks_reached [] [] s s n fs f y (reached_none s st sh)
applied_walks None setting c s n fs is fits st sh f y = command_walks setting c s n fs fits (allowed setting true c s is) st sh f y

-- the hypothesis on commands, for every setting whose store takes no more nodes than it has slots
pub commands_keep : (setting : Setting) → Fits setting → CommandsKeep setting
commands_keep setting fits c s n fs st sh f y = walks_evals s (apply setting true c s).0 n fs (applied_walks (refusal setting true c s) setting c s n fs refl fits st sh f y)
