-- What nodes and names don't see of each other.
use Rattle.std.proofs.Common.{◌≡◌, ◌∙◌, ℕ, List, Option, None, Some, true, false, refl, sym, ap}
use Rattle.std.proofs.lemmas.Bool.{false≢true}
use Rattle.kj_model.specs.World.{World, Named, Held, Promise, CellOf, AskCell, HubOf, Group, Canceler, RequestOf, held_at}
use Rattle.kj_model.specs.Changes.{gone_world}
use Rattle.kj_model.specs.Free.{abandoned_as, ask_of, without_wrap, without_wrap_in}
use Rattle.promise_nodes.specs.Kept.{SameNodes, SameNames}
use Rattle.promise_nodes.specs.Members.{AreLists, lists_in, without_member}
use Rattle.promise_nodes.proofs.Listed.{lists_unwrapped}
use Rattle.promise_names.specs.declared.names.Held.{Held as HeldCase}
use Rattle.promise_names.specs.declared.names.Held.TheVariants.{Promise as PromiseCase, CellOf as CellCase, AskCell as AskCase, HubOf as HubCase, Group as GroupCase, Canceler as CancelerCase, RequestOf as RequestCase}
use Rattle.promise_names.specs.declared.names.Leaving.{Leaving}
use Rattle.promise_names.specs.declared.names.Leaving.TheVariants.{Nothing, Cell as CellLeaves, Wrap as WrapLeaves}
use Rattle.promise_names.specs.Held.{SeesHeld, held_shown, left_world}
use Rattle.promise_walks.specs.Walks.{is_canceler}

abandoned_same : (o : Option Named) (w : World) → SameNodes w (abandoned_as o w)
abandoned_same None w = refl
abandoned_same (Some x) w = refl

wrap_same : (n canceler : ℕ) (o : Option Held) (w : World) → SameNodes w (without_wrap_in n canceler o w)
wrap_same n canceler None w = refl
wrap_same n canceler (Some (Promise root)) w = refl
wrap_same n canceler (Some (CellOf cell)) w = refl
wrap_same n canceler (Some (AskCell cell is_taken)) w = refl
wrap_same n canceler (Some (HubOf hub)) w = refl
wrap_same n canceler (Some (Group error tasks empty)) w = refl
wrap_same n canceler (Some (Canceler wraps)) w = refl
wrap_same n canceler (Some (RequestOf request)) w = refl

pub wrap_nodes : (n canceler : ℕ) (w : World) → SameNodes w (without_wrap n canceler w)
wrap_nodes n canceler w = wrap_same n canceler (held_at canceler w.names) w

pub left_nodes : (n : ℕ) (l : Leaving) (w : World) → SameNodes w (left_world n l w)
left_nodes n Nothing w = refl
left_nodes n CellLeaves w = abandoned_same (ask_of n w.names) w
left_nodes n (WrapLeaves canceler) w = wrap_nodes n canceler.0 w

abandoned_lists : (o : Option Named) (w : World) → AreLists (abandoned_as o w) (lists_in w)
abandoned_lists None w l = refl
abandoned_lists (Some x) w l = refl

-- a cell that goes is no member of a list
pub cell_lists : (n : ℕ) (w : World) → AreLists (left_world n CellLeaves w) (lists_in w)
cell_lists n w = abandoned_lists (ask_of n w.names) w

canceler_shown : (members : List ℕ) (held : HeldCase) → is_canceler (Some held) ≡ true → held_shown members held ≡ Canceler members
canceler_shown members CancelerCase is = refl
canceler_shown members (PromiseCase root) is = absurd (false≢true is)
canceler_shown members (CellCase cell) is = absurd (false≢true is)
canceler_shown members (AskCase cell is_taken) is = absurd (false≢true is)
canceler_shown members (HubCase hub) is = absurd (false≢true is)
canceler_shown members (GroupCase error tasks empty) is = absurd (false≢true is)
canceler_shown members (RequestCase request) is = absurd (false≢true is)

-- a canceler with some Wraps
record IsCanceler (o : Option Held) : Type 0 where
  wraps : List ℕ
  is : o ≡ Some (Canceler wraps)

canceler_seen : (o : Option HeldCase) (seen : Option Held) → SeesHeld o seen → is_canceler o ≡ true → IsCanceler seen
canceler_seen None seen sees is = absurd (false≢true is)
canceler_seen (Some held) None sees is = absurd sees
canceler_seen (Some held) (Some seen) sees is = record { wraps = sees.members; is = ap (λ (h : Held). Some h) (sees.is ∙ canceler_shown sees.members held is) }

-- a Wrap leaves its canceler's list
pub wrap_lists : (n canceler : ℕ) (o : Option HeldCase) (w : World) → SeesHeld o (held_at canceler w.names) → is_canceler o ≡ true → AreLists (without_wrap n canceler w) (without_member canceler n (lists_in w))
wrap_lists n canceler o w sees is =
    let seen = canceler_seen o (held_at canceler w.names) sees is in
    lists_unwrapped n canceler (held_at canceler w.names) w refl (λ error empty tasks at. absurd (no_both seen.wraps error empty tasks (sym seen.is ∙ at)))
  where
    no_both : (wraps : List ℕ) (error empty : Option ℕ) (tasks : List ℕ) → ◌≡◌ {A = Option Held} (Some (Canceler wraps)) (Some (Group error tasks empty)) → ⊥
    no_both wraps error empty tasks e = cc

other_shown : (n canceler : ℕ) (members : List ℕ) (held : HeldCase) (w : World) → is_canceler (Some held) ≡ false → without_wrap_in n canceler (Some (held_shown members held)) w ≡ w
other_shown n canceler members CancelerCase w is = absurd (false≢true (sym is))
other_shown n canceler members (PromiseCase root) w is = refl
other_shown n canceler members (CellCase cell) w is = refl
other_shown n canceler members (AskCase cell is_taken) w is = refl
other_shown n canceler members (HubCase hub) w is = refl
other_shown n canceler members (GroupCase error tasks empty) w is = refl
other_shown n canceler members (RequestCase request) w is = refl

other_seen : (n canceler : ℕ) (o : Option HeldCase) (seen : Option Held) (w : World) → SeesHeld o seen → is_canceler o ≡ false → without_wrap_in n canceler seen w ≡ w
other_seen n canceler None None w sees is = refl
other_seen n canceler None (Some seen) w sees is = absurd sees
other_seen n canceler (Some held) None w sees is = absurd sees
other_seen n canceler (Some held) (Some seen) w sees is = ap (λ (h : Held). without_wrap_in n canceler (Some h) w) sees.is ∙ other_shown n canceler sees.members held w is

-- and nothing where the name is no canceler's
pub no_wrap : (n canceler : ℕ) (o : Option HeldCase) (w : World) → SeesHeld o (held_at canceler w.names) → is_canceler o ≡ false → without_wrap n canceler w ≡ w
no_wrap n canceler o w sees is = other_seen n canceler o (held_at canceler w.names) w sees is

pub gone_names : (n : ℕ) (w : World) → SameNames w (gone_world n w)
gone_names n w = refl
