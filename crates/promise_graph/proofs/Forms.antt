-- The forms that variants are.
use Rattle.std.proofs.Common.{◌≡◌, ℕ, List, [], Option, None, Some, Bool, true, false, not, refl, sym, ap, ◌∙◌, arith}
use Rattle.std.specs.Prelude.{◌&&◌}
use Rattle.std.proofs.lemmas.Bool.Decides.{nat_tests}
use Rattle.std.proofs.lemmas.Bool.{false≢true}
use Rattle.kj_base.specs.declared.nodes.Form.{Form as FormCase}
use Rattle.kj_base.specs.declared.nodes.Form.TheVariants.{Ready as ReadyCase, Later as LaterCase, Last as LastCase, Cell as CellCase, Branch as BranchCase, Then as ThenCase, Chain as ChainCase, Eager as EagerCase, Wrap as WrapCase, Hub as HubCase, Side as SideCase, Race as RaceCase, Join as JoinCase, Task as TaskCase, Request as RequestCase}
use Rattle.kj_model.specs.Nodes.{parts_of}
use Rattle.kj_model.specs.Fire.{branches_of}
use Rattle.promise_nodes.specs.Shown.{shown}
use Rattle.promise_nodes.specs.Kept.{IsBranch, IsPlain, KeepsKind, is_hub, hub_of as hub_in}
use Rattle.promise_graph.specs.Kept.{is_plain_form, is_there, form_parts, is_same_kind, is_bool, is_same}
use Rattle.promise_graph.proofs.Lists.{first_of_both, second_of_both, both, none_some, some_same, equal_yes}

no_hub : {A : Type 0} → false ≡ true → A
no_hub h = absurd (false≢true h)

-- what has a hub is a branch
pub branch_shown : (form : FormCase) → is_there (hub_in (shown [] form)) ≡ true → IsBranch (Some form)
branch_shown (BranchCase hub) h = tt
branch_shown (ReadyCase outcome) h = no_hub h
branch_shown LaterCase h = no_hub h
branch_shown LastCase h = no_hub h
branch_shown (CellCase outcome) h = no_hub h
branch_shown (ThenCase value error tree) h = no_hub h
branch_shown (ChainCase link) h = no_hub h
branch_shown (EagerCase content) h = no_hub h
branch_shown (WrapCase canceler content) h = no_hub h
branch_shown (HubCase content is_named) h = no_hub h
branch_shown (SideCase stage) h = no_hub h
branch_shown (RaceCase left winner) h = no_hub h
branch_shown (JoinCase is_fast first count) h = no_hub h
branch_shown (TaskCase tree) h = no_hub h
branch_shown (RequestCase name tree) h = no_hub h

pub plain_shown : (form : FormCase) → IsPlain (Some (shown [] form)) → is_plain_form (shown [] form) ≡ true
plain_shown (BranchCase hub) h = absurd h
plain_shown (HubCase content is_named) h = absurd h
plain_shown (ReadyCase outcome) h = refl
plain_shown LaterCase h = refl
plain_shown LastCase h = refl
plain_shown (CellCase outcome) h = refl
plain_shown (ThenCase value error tree) h = refl
plain_shown (ChainCase link) h = refl
plain_shown (EagerCase content) h = refl
plain_shown (WrapCase canceler content) h = refl
plain_shown (SideCase stage) h = refl
plain_shown (RaceCase left winner) h = refl
plain_shown (JoinCase is_fast first count) h = refl
plain_shown (TaskCase tree) h = refl
plain_shown (RequestCase name tree) h = refl

-- the branches of a hub aren't its parts
pub parts_any : (bs : List ℕ) (form : FormCase) → parts_of (shown bs form) ≡ form_parts form
parts_any bs (BranchCase hub) = refl
parts_any bs (HubCase content is_named) = refl
parts_any bs (ReadyCase outcome) = refl
parts_any bs LaterCase = refl
parts_any bs LastCase = refl
parts_any bs (CellCase outcome) = refl
parts_any bs (ThenCase value error tree) = refl
parts_any bs (ChainCase link) = refl
parts_any bs (EagerCase content) = refl
parts_any bs (WrapCase canceler content) = refl
parts_any bs (SideCase stage) = refl
parts_any bs (RaceCase left winner) = refl
parts_any bs (JoinCase is_fast first count) = refl
parts_any bs (TaskCase tree) = refl
parts_any bs (RequestCase name tree) = refl

pub hub_any : (bs : List ℕ) (form : FormCase) → is_hub (shown bs form) ≡ is_hub (shown [] form)
hub_any bs (BranchCase hub) = refl
hub_any bs (HubCase content is_named) = refl
hub_any bs (ReadyCase outcome) = refl
hub_any bs LaterCase = refl
hub_any bs LastCase = refl
hub_any bs (CellCase outcome) = refl
hub_any bs (ThenCase value error tree) = refl
hub_any bs (ChainCase link) = refl
hub_any bs (EagerCase content) = refl
hub_any bs (WrapCase canceler content) = refl
hub_any bs (SideCase stage) = refl
hub_any bs (RaceCase left winner) = refl
hub_any bs (JoinCase is_fast first count) = refl
hub_any bs (TaskCase tree) = refl
hub_any bs (RequestCase name tree) = refl

pub hub_in_any : (bs : List ℕ) (form : FormCase) → hub_in (shown bs form) ≡ hub_in (shown [] form)
hub_in_any bs (BranchCase hub) = refl
hub_in_any bs (HubCase content is_named) = refl
hub_in_any bs (ReadyCase outcome) = refl
hub_in_any bs LaterCase = refl
hub_in_any bs LastCase = refl
hub_in_any bs (CellCase outcome) = refl
hub_in_any bs (ThenCase value error tree) = refl
hub_in_any bs (ChainCase link) = refl
hub_in_any bs (EagerCase content) = refl
hub_in_any bs (WrapCase canceler content) = refl
hub_in_any bs (SideCase stage) = refl
hub_in_any bs (RaceCase left winner) = refl
hub_in_any bs (JoinCase is_fast first count) = refl
hub_in_any bs (TaskCase tree) = refl
hub_in_any bs (RequestCase name tree) = refl

-- a hub has these branches, and what is no hub is the same with any
pub branches_shown : (bs : List ℕ) (form : FormCase) → shown (branches_of (Some (shown bs form))) form ≡ shown bs form
branches_shown bs (BranchCase hub) = refl
branches_shown bs (HubCase content is_named) = refl
branches_shown bs (ReadyCase outcome) = refl
branches_shown bs LaterCase = refl
branches_shown bs LastCase = refl
branches_shown bs (CellCase outcome) = refl
branches_shown bs (ThenCase value error tree) = refl
branches_shown bs (ChainCase link) = refl
branches_shown bs (EagerCase content) = refl
branches_shown bs (WrapCase canceler content) = refl
branches_shown bs (SideCase stage) = refl
branches_shown bs (RaceCase left winner) = refl
branches_shown bs (JoinCase is_fast first count) = refl
branches_shown bs (TaskCase tree) = refl
branches_shown bs (RequestCase name tree) = refl

pub branches_hub : (bs : List ℕ) (form : FormCase) → is_hub (shown [] form) ≡ true → branches_of (Some (shown bs form)) ≡ bs
branches_hub bs (HubCase content is_named) h = refl
branches_hub bs (BranchCase hub) h = no_hub h
branches_hub bs (ReadyCase outcome) h = no_hub h
branches_hub bs LaterCase h = no_hub h
branches_hub bs LastCase h = no_hub h
branches_hub bs (CellCase outcome) h = no_hub h
branches_hub bs (ThenCase value error tree) h = no_hub h
branches_hub bs (ChainCase link) h = no_hub h
branches_hub bs (EagerCase content) h = no_hub h
branches_hub bs (WrapCase canceler content) h = no_hub h
branches_hub bs (SideCase stage) h = no_hub h
branches_hub bs (RaceCase left winner) h = no_hub h
branches_hub bs (JoinCase is_fast first count) h = no_hub h
branches_hub bs (TaskCase tree) h = no_hub h
branches_hub bs (RequestCase name tree) h = no_hub h

-- ---- forms of one kind

pub kind_hub : (a b : FormCase) → is_same_kind a b ≡ true → is_hub (shown [] a) ≡ is_hub (shown [] b)
kind_hub a b h = bool_same (is_hub (shown [] a)) (is_hub (shown [] b)) (first_of_both _ _ h)
  where
    bool_same : (x y : Bool) → is_bool x y ≡ true → x ≡ y
    bool_same true y h = sym h
    bool_same false true h = no_hub h
    bool_same false false h = refl

pub same_number : (x y : Option ℕ) → is_same x y ≡ true → x ≡ y
same_number None None h = refl
same_number None (Some n) h = no_hub h
same_number (Some m) None h = no_hub h
same_number (Some m) (Some n) h = let e : m ≡ n = grind (arith, nat_tests) in ap (λ (k : ℕ). Some k) e

pub kind_branch : (a b : FormCase) → is_same_kind a b ≡ true → hub_in (shown [] a) ≡ hub_in (shown [] b)
kind_branch a b h = same_number _ _ (second_of_both (is_bool (is_hub (shown [] a)) (is_hub (shown [] b))) _ h)

bool_is : (x y : Bool) → x ≡ y → is_bool x y ≡ true
bool_is true y h = sym h
bool_is false y h = ap not (sym h)

number_is : (x y : Option ℕ) → x ≡ y → is_same x y ≡ true
number_is None None h = refl
number_is None (Some n) h = absurd (none_some n h)
number_is (Some m) None h = absurd (none_some m (sym h))
number_is (Some m) (Some n) h = equal_yes m n (some_same m n h)

-- what keeps its kind is of the same kind
pub kind_kept : (bs : List ℕ) (old form : FormCase) → KeepsKind form (Some (shown bs old)) → is_same_kind old form ≡ true
kind_kept bs old form h = both _ _ (bool_is _ _ (sym (hub_any bs old) ∙ sym h.0)) (number_is _ _ (sym (hub_in_any bs old) ∙ sym h.1))

pub kind_plain : (a b : FormCase) → is_same_kind a b ≡ true → is_plain_form (shown [] b) ≡ is_plain_form (shown [] a)
kind_plain a b h = ap (λ (x : Bool). not x && not (is_there (hub_in (shown [] b)))) (sym (kind_hub a b h)) ∙ ap (λ (o : Option ℕ). not (is_hub (shown [] a)) && not (is_there o)) (sym (kind_branch a b h))
