-- Hubs that lose their name.
use Rattle.std.proofs.Common.{◌≡◌, refl, ℕ, [], ◌∷◌, Option, None, Some, Bool, true, false}
use Rattle.kj_model.specs.Nodes.{Form, Hub, form_at}
use Rattle.kj_model.specs.World.{World, State}
use Rattle.kj_model.specs.Effects.{hub_unnamed, hub_unnamed_in}
use Rattle.kj_model.specs.Free.{Guard, free_unless, free_unreferenced, is_guarded}
use Rattle.promise_nodes.specs.Kept.{SameNames}

unnamed_case : (hub : ℕ) (o : Option Form) (w : World) → SameNames w (hub_unnamed_in hub o w)
unnamed_case hub (Some (Hub content is_named branches)) w = refl
unnamed_case hub None w = refl
unnamed_case hub (Some _) w = refl

-- names stay
pub unnamed_names : (hub : ℕ) (w : World) → SameNames w (hub_unnamed hub w)
unnamed_names hub w = unnamed_case hub (form_at hub w.nodes) w

unless_same : (b : Bool) (f g : ℕ → State → State) (hub : ℕ) (s : State) → f hub s ≡ g hub s → free_unless b f hub s ≡ free_unless b g hub s
unless_same true f g hub s h = refl
unless_same false f g hub s h = h

-- only the free of the hub itself counts
pub unreferenced_same : (guard : Guard) (f g : ℕ → State → State) (hub : ℕ) (o : Option Form) (s : State) → f hub s ≡ g hub s → free_unreferenced guard f hub o s ≡ free_unreferenced guard g hub o s
unreferenced_same guard f g hub (Some (Hub content false [])) s h = unless_same (is_guarded guard hub s.world) f g hub s h
unreferenced_same guard f g hub (Some (Hub content false (b ∷ branches))) s h = refl
unreferenced_same guard f g hub (Some (Hub content true branches)) s h = refl
unreferenced_same guard f g hub None s h = refl
unreferenced_same guard f g hub (Some _) s h = refl
