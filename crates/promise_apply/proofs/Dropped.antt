-- What a Drop is refused for, and what it does.
use Rattle.std.proofs.Common.{◌≡◌, ◌∙◌, ℕ, List, [], ◌∷◌, ◌++◌, Option, None, Some, Bool, true, false, refl, sym, ap, subst, length, drop, reverse}
use Rattle.std.specs.Prelude.{◌&&◌, ◌||◌, Result, IsErrAnd}
use Rattle.std.specs.List.{list_any}
use Rattle.std.proofs.lemmas.List.{append-nil}
use Rattle.std.proofs.Math.Seq.{drop-length}
use Rattle.kj_base.specs.Commands.{Command, Action, Drop}
use Rattle.kj_base.specs.Record.{Item}
use Rattle.promise_commands.specs.Telling.{Telling}
use Rattle.kj_model.specs.Nodes.{form_at, is_in}
use Rattle.kj_model.specs.World.{World, State, Held, Promise, HubOf, Canceler, held_at}
use Rattle.kj_model.specs.Changes.{silent, unnamed}
use Rattle.kj_model.specs.Free.{Guard, Holding, usual}
use Rattle.kj_model.specs.Effects.{dropped_held, each_cancelled, effect, wraps_of}
use Rattle.kj_model.specs.Uses.{Use, use_as, IsDroppable, has_role}
use Rattle.kj_model.specs.Apply.{Refused, Full, Stopped, apply, applied, refusal, is_busy, is_busy_at, is_free_of, is_unsettled_wrap, would_free}
use Rattle.kj_ownership.proofs.Answers.{drop_hub_would_free, drop_would_free}
use Rattle.promise_commands.specs.Refusals.{refused_of, refusal_of}
use Rattle.promise_commands.specs.declared.refused.Refused.{Refused as RefusedCase}
use Rattle.promise_names.specs.declared.names.Held.{Held as HeldCase}
use Rattle.promise_names.specs.declared.names.Held.TheVariants.{Promise as PromiseCase, CellOf as CellCase, AskCell as AskCase, HubOf as HubCase, Group as GroupCase, Canceler as CancelerCase, RequestOf as RequestCase}
use Rattle.kj_base.specs.declared.nodes.Link.{Link}
use Rattle.kj_base.specs.declared.numbers.StepId.{StepId}
use Rattle.promise_names.specs.Held.{SeesHeld, held_shown, members_of}
use Rattle.promise_walks.specs.Walks.{Does}
use Rattle.promise_walks.proofs.Composed.{hears_none}
use Rattle.promise_apply.specs.Applying.{Applies, DoesCommand, IsApplied, Rule, setting_of, lacks_room, refused_first, refused_if, refused_later, names_refused}
use Rattle.promise_apply.specs.Dropping.{IsCanceler, frees_firing, hub_frees_firing}
use Rattle.promise_apply.specs.Sets.{IsTasks}
use Rattle.promise_apply.proofs.Alone.{alone_behind, alone_named, drop_alone}
use Rattle.promise_apply.proofs.Refused.{none_first, passed_names, passed_on}
use Rattle.promise_apply.proofs.Passed.{first_role}

-- ---- refusals

-- by its name
pub refused_named : (rule : Rule) (answer : List Item → ℕ → Option Action) (inside : Bool) (name : ℕ) (r : Refused) (s : State) → Some r ≡ refused_first (use_as IsDroppable name ∷ []) s.world
    → refusal (setting_of rule answer) inside (Drop name) s ≡ Some r
refused_named rule answer inside name r s first = alone_named rule answer inside (Drop name) (use_as IsDroppable name) r s (drop_alone name) first

-- its name passes
pub refused_behind : (rule : Rule) (answer : List Item → ℕ → Option Action) (inside busy : Bool) (name : ℕ) (s : State) → refused_first (use_as IsDroppable name ∷ []) s.world ≡ None → is_busy (Drop name) s ≡ busy
    → refusal (setting_of rule answer) inside (Drop name) s ≡ refused_later busy rule (use_as IsDroppable name) s.world
refused_behind rule answer inside busy name s first is = alone_behind rule answer inside busy (Drop name) (use_as IsDroppable name) s (drop_alone name) first is

-- what the count says of the use that is shown
pub tested_count : (rule : Rule) (name : ℕ) (shown : Use) (w : World) {o : Option Refused} → shown ≡ use_as IsDroppable name
    → (refused_first (shown ∷ []) w ≡ None → o ≡ refused_if (lacks_room rule (shown ∷ []) [] w) Full)
    → refused_first (use_as IsDroppable name ∷ []) w ≡ None → o ≡ refused_if (lacks_room rule (use_as IsDroppable name ∷ []) [] w) Full
tested_count rule name shown w {o} is says passes =
    subst (λ (u : Use). (refused_first (u ∷ []) w ≡ None → o ≡ refused_if (lacks_room rule (u ∷ []) [] w) Full)) is says passes

-- ---- whether it is Busy

tree_busy_at : (o : Option ℕ) (name root : ℕ) (s : State) → held_at name s.world.names ≡ Some (Promise root) → is_busy_at o (Drop name) s ≡ frees_firing o root (unnamed name s.world)
tree_busy_at None name root s at = refl
tree_busy_at (Some f) name root s at =
    ap (λ (h : Option Held). (is_in f (wraps_of h) && is_unsettled_wrap (form_at f s.world.nodes)) || would_free f (Drop name) s) at
    ∙ drop_would_free f name root s at

-- a promise
pub tree_busy : (name root : ℕ) (s : State) → held_at name s.world.names ≡ Some (Promise root) → is_busy (Drop name) s ≡ frees_firing s.world.firing root (unnamed name s.world)
tree_busy name root s at = tree_busy_at s.world.firing name root s at

hub_busy_at : (o : Option ℕ) (name hub : ℕ) (s : State) → held_at name s.world.names ≡ Some (HubOf hub) → is_busy_at o (Drop name) s ≡ hub_frees_firing o hub (unnamed name s.world)
hub_busy_at None name hub s at = refl
hub_busy_at (Some f) name hub s at =
    ap (λ (h : Option Held). (is_in f (wraps_of h) && is_unsettled_wrap (form_at f s.world.nodes)) || would_free f (Drop name) s) at
    ∙ drop_hub_would_free f name hub s at

-- a hub
pub hub_busy : (name hub : ℕ) (s : State) → held_at name s.world.names ≡ Some (HubOf hub) → is_busy (Drop name) s ≡ hub_frees_firing s.world.firing hub (unnamed name s.world)
hub_busy name hub s at = hub_busy_at s.world.firing name hub s at

canceler_dropped : (guard : Guard) (name : ℕ) (o : Option Held) (s : State) → held_at name s.world.names ≡ o → IsCanceler o → wraps_of o ≡ [] → dropped_held guard name o s ≡ silent (unnamed name) s
canceler_dropped guard name (Some (Canceler wraps)) s at is none =
    ap (λ (h : Option Held). silent (unnamed name) (each_cancelled guard (reverse (wraps_of h)) s)) at
    ∙ ap (λ (ws : List ℕ). silent (unnamed name) (each_cancelled guard (reverse ws) s)) none
canceler_dropped guard name None s at is none = absurd is
canceler_dropped guard name (Some _) s at is none = absurd is

-- a canceler has only Wraps
pub canceler_none : (o : Option Held) → IsCanceler o → wraps_of o ≡ [] → members_of o ≡ []
canceler_none (Some (Canceler wraps)) is none = none
canceler_none None is none = absurd is
canceler_none (Some _) is none = absurd is

-- a canceler without Wraps goes alone
pub canceler_goes : (guard : Guard) (name : ℕ) (s : State) → IsCanceler (held_at name s.world.names) → wraps_of (held_at name s.world.names) ≡ [] → effect guard (Drop name) s ≡ silent (unnamed name) s
canceler_goes guard name s is none = canceler_dropped guard name (held_at name s.world.names) s refl is none

canceler_calm_at : (firing : Option ℕ) (name : ℕ) (s : State) → IsCanceler (held_at name s.world.names) → wraps_of (held_at name s.world.names) ≡ [] → is_busy_at firing (Drop name) s ≡ false
canceler_calm_at None name s is none = refl
canceler_calm_at (Some f) name s is none =
    ap (λ (wraps : List ℕ). (is_in f wraps && is_unsettled_wrap (form_at f s.world.nodes)) || would_free f (Drop name) s) none
    ∙ ap (λ (t : State). list_any (is_free_of f) (drop (length s.past) t.past)) (canceler_goes (Holding []) name s is none)
    ∙ ap (list_any (is_free_of f)) (drop-length s.past)

-- and is never Busy
pub canceler_calm : (name : ℕ) (s : State) → IsCanceler (held_at name s.world.names) → wraps_of (held_at name s.world.names) ≡ [] → is_busy (Drop name) s ≡ false
canceler_calm name s is none = canceler_calm_at s.world.firing name s is none

-- ---- what is told

-- a command that is refused tells nothing
pub refused_does : (Old New : World → Type 0) (rule : Rule) (r : Refused) (c : Command) (told : Telling) → ((w : World) → Old w → New w)
    → ((answer : List Item → ℕ → Option Action) (inside : Bool) (s : State) → Old s.world → refusal (setting_of rule answer) inside c s ≡ Some r) → DoesCommand Old New rule (Some r) c told told
refused_does Old New rule r c told keep why = record {
  items = [];
  told = hears_none told;
  applied = λ answer inside s old.
      subst (IsApplied New (s.past ++ []) (Some r)) (sym (ap (λ (o : Option Refused). applied o c s) (why answer inside s old)))
      (record { reply = refl; stands = keep s.world old; past_is = sym (append-nil s.past) });
}

abbrev with_none : State → State × Option Refused
with_none s = (s, None)

-- one that isn't tells what it frees
pub done_does : (Old Mid New : World → Type 0) (rule : Rule) (c : Command) (change : World → World) (free : State → State) (a b : Telling)
    → ((answer : List Item → ℕ → Option Action) (inside : Bool) (s : State) → Old s.world → refusal (setting_of rule answer) inside c s ≡ None)
    → ((s : State) → Old s.world → effect (usual s.world) c s ≡ free (silent change s)) → ((w : World) → Old w → Mid (change w)) → Does Mid New free (λ s. s) a b → DoesCommand Old New rule None c a b
done_does Old Mid New rule c change free a b why same moved done = record {
  items = done.items;
  told = done.told;
  applied = λ answer inside s old.
      let r = done.moves (silent change s) (moved s.world old) in
      let what : apply (setting_of rule answer) inside c s ≡ (r.state, None) =
      ap (λ (o : Option Refused). applied o c s) (why answer inside s old) ∙ ap (λ (t : State). with_none t) (same s old ∙ sym r.ends) in
      subst (IsApplied New (s.past ++ done.items) None) (sym what) (record { reply = refl; stands = r.stands; past_is = r.past_is });
}

-- one that is refused so
pub err_does : (Old New : World → Type 0) (rule : Rule) (r : Result (Unit {0}) RefusedCase) (e : RefusedCase) (c : Command) (told : Telling) → IsErrAnd r (λ x. x ≡ e) → ((w : World) → Old w → New w)
    → ((answer : List Item → ℕ → Option Action) (inside : Bool) (s : State) → Old s.world → refusal (setting_of rule answer) inside c s ≡ Some (refused_of e)) → DoesCommand Old New rule (refusal_of r) c told told
err_does Old New rule r e c told so keep why =
    subst (λ (o : Option Refused). DoesCommand Old New rule o c told told) (sym (passed_on r e so)) (refused_does Old New rule (refused_of e) c told keep why)

-- a canceler that is refused
pub canceler_full : (Old : World → Type 0) (rule : Rule) (r : Result (Unit {0}) RefusedCase) (e : RefusedCase) (name : ℕ) → IsErrAnd r (λ x. x ≡ e) → ((answer : List Item → ℕ → Option Action) (inside : Bool) (s : State) → Old s.world → refusal (setting_of rule answer) inside (Drop name) s ≡ Some (refused_of e)) → Applies Old Old rule (refusal_of r) (Drop name)
canceler_full Old rule r e name so why answer inside s old =
    subst (λ (o : Option Refused). IsApplied Old s.past o (apply (setting_of rule answer) inside (Drop name) s)) (sym (passed_on r e so))
    (subst (IsApplied Old s.past (Some (refused_of e))) (sym (ap (λ (o : Option Refused). applied o (Drop name) s) (why answer inside s old))) (record { reply = refl; stands = old; past_is = refl }))

-- and one that goes
pub canceler_done : (Old New : World → Type 0) (rule : Rule) (name : ℕ) → ((answer : List Item → ℕ → Option Action) (inside : Bool) (s : State) → Old s.world → refusal (setting_of rule answer) inside (Drop name) s ≡ None)
    → ((w : World) → Old w → IsCanceler (held_at name w.names)) → ((w : World) → Old w → wraps_of (held_at name w.names) ≡ []) → ((w : World) → Old w → New (unnamed name w)) → Applies Old New rule None (Drop name)
canceler_done Old New rule name why is none new answer inside s old =
    let what : apply (setting_of rule answer) inside (Drop name) s ≡ (silent (unnamed name) s, None) =
    ap (λ (o : Option Refused). applied o (Drop name) s) (why answer inside s old) ∙ ap (λ (t : State). with_none t) (canceler_goes (usual s.world) name s (is s.world old) (none s.world old)) in
    subst (IsApplied New s.past None) (sym what) (record { reply = refl; stands = new s.world old; past_is = refl })

-- ---- what a name is seen to hold

pub sees_promise : (root : Link) (o : Option Held) → SeesHeld (Some (PromiseCase root)) o → o ≡ Some (Promise root.number.0)
sees_promise root None sees = absurd sees
sees_promise root (Some seen) sees = ap (λ (h : Held). Some h) sees.is

pub sees_hub : (hub : Link) (o : Option Held) → SeesHeld (Some (HubCase hub)) o → o ≡ Some (HubOf hub.number.0)
sees_hub hub None sees = absurd sees
sees_hub hub (Some seen) sees = ap (λ (h : Held). Some h) sees.is

-- a set has the tasks that are seen
pub sees_set : (error : Option StepId) (tasks : ℕ) (empty : Option Link) (o : Option Held) → SeesHeld (Some (GroupCase error tasks empty)) o → IsTasks (record { count = tasks; empty = empty }) o
sees_set error tasks empty None sees = absurd sees
sees_set error tasks empty (Some seen) sees = subst (λ (h : Held). IsTasks (record { count = tasks; empty = empty }) (Some h)) (sym sees.is) (sees.counted, refl)

pub sees_canceler : (o : Option Held) → SeesHeld (Some CancelerCase) o → IsCanceler o
sees_canceler None sees = absurd sees
sees_canceler (Some seen) sees = subst (λ (h : Held). IsCanceler (Some h)) (sym sees.is) tt

-- a name that passes can be dropped
pub droppable : (name : ℕ) (w : World) → refused_first (use_as IsDroppable name ∷ []) w ≡ None → has_role IsDroppable (held_at name w.names) ≡ true
droppable name w first =
    first_role IsDroppable name [] w (passed_names (use_as IsDroppable name ∷ []) w (none_first (refused_if w.stopped Stopped) (names_refused (use_as IsDroppable name ∷ []) w) first).1)

-- what a Drop takes
abbrev pub is_droppable : Option HeldCase → Bool
is_droppable (Some (PromiseCase root)) = true
is_droppable (Some (HubCase hub)) = true
is_droppable (Some (GroupCase error tasks empty)) = true
is_droppable (Some CancelerCase) = true
is_droppable other = false

shown_droppable : (members : List ℕ) (held : HeldCase) → is_droppable (Some held) ≡ has_role IsDroppable (Some (held_shown members held))
shown_droppable members (PromiseCase root) = refl
shown_droppable members (CellCase cell) = refl
shown_droppable members (AskCase cell is_taken) = refl
shown_droppable members (HubCase hub) = refl
shown_droppable members (GroupCase error tasks empty) = refl
shown_droppable members CancelerCase = refl
shown_droppable members (RequestCase request) = refl

-- what is seen of a name that can be dropped
pub sees_droppable : (held : Option HeldCase) (o : Option Held) → SeesHeld held o → has_role IsDroppable o ≡ true → is_droppable held ≡ true
sees_droppable None None sees role = role
sees_droppable None (Some seen) sees role = absurd sees
sees_droppable (Some held) None sees role = absurd sees
sees_droppable (Some held) (Some seen) sees role = shown_droppable sees.members held ∙ ap (λ (h : Held). has_role IsDroppable (Some h)) (sym sees.is) ∙ role

-- a command that can't come does as well as anything
pub never_does : (Old New : World → Type 0) (rule : Rule) (o : Option Refused) (c : Command) (told : Telling) → ((w : World) → Old w → ⊥) → DoesCommand Old New rule o c told told
never_does Old New rule o c told never = record { items = []; told = hears_none told; applied = λ answer inside s old. absurd (never s.world old) }
