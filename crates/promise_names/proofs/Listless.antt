-- What has no members.
use Rattle.std.proofs.Common.{◌≡◌, List, [], Option, None, Some, refl}
use Rattle.kj_model.specs.World.{Held, Promise, CellOf, AskCell, HubOf, Group, Canceler, RequestOf}
use Rattle.promise_names.specs.declared.names.Held.{Held as HeldCase}
use Rattle.promise_names.specs.declared.names.Held.TheVariants.{Promise as PromiseCase, CellOf as CellCase, AskCell as AskCase, HubOf as HubCase, Group as GroupCase, Canceler as CancelerCase, RequestOf as RequestCase}
use Rattle.promise_names.specs.Held.{IsListless, held_shown, members_of}

-- neither a set nor a canceler
pub none_listed : (o : Option Held) → IsListless o → members_of o ≡ []
none_listed None l = refl
none_listed (Some (Promise root)) l = refl
none_listed (Some (CellOf cell)) l = refl
none_listed (Some (AskCell cell is_taken)) l = refl
none_listed (Some (HubOf hub)) l = refl
none_listed (Some (Group error tasks empty)) l = absurd l
none_listed (Some (Canceler wraps)) l = absurd l
none_listed (Some (RequestOf request)) l = refl

-- a set or a canceler that is new
pub none_shown : (held : HeldCase) → members_of (Some (held_shown [] held)) ≡ []
none_shown (PromiseCase root) = refl
none_shown (CellCase cell) = refl
none_shown (AskCase cell is_taken) = refl
none_shown (HubCase hub) = refl
none_shown (GroupCase error tasks empty) = refl
none_shown CancelerCase = refl
none_shown (RequestCase request) = refl
