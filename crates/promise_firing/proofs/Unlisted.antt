-- Branches, and nodes that are none.
use Rattle.std.proofs.Common.{◌≡◌, [], Option, None, Some, Bool, true, false, refl, sym, subst}
use Rattle.std.specs.Prelude.{is_some}
use Rattle.std.proofs.lemmas.Bool.{false≢true}
use Rattle.kj_base.specs.declared.nodes.Form.{Form as FormCase}
use Rattle.kj_base.specs.declared.nodes.Form.TheVariants.{Branch as BranchCase}
use Rattle.kj_model.specs.Nodes.{Form}
use Rattle.promise_nodes.specs.Shown.{shown, Sees}
use Rattle.promise_nodes.specs.Kept.{IsBranch, IsPlain, hub_of}

no_branch : (form : FormCase) → IsBranch (Some form) → is_some (hub_of (shown [] form)) ≡ false → ⊥
no_branch (BranchCase hub) h e = absurd (false≢true (sym e))
no_branch _ h e = absurd h

-- a node that is no branch isn't listed
pub unlisted : (listed : Bool) (form : FormCase) → (listed ≡ true → IsBranch (Some form)) → is_some (hub_of (shown [] form)) ≡ false → listed ≡ false
unlisted false form f e = refl
unlisted true form f e = absurd (no_branch form (f refl) e)

-- nor is one that isn't live
pub unlisted_none : (listed : Bool) → (listed ≡ true → IsBranch None) → listed ≡ false
unlisted_none false f = refl
unlisted_none true f = absurd (f refl)

-- a branch isn't plain
pub branch_is : (form : FormCase) (seen : Option Form) → Sees (Some form) seen → is_some (hub_of (shown [] form)) ≡ true → IsPlain seen → ⊥
branch_is form None sees e h = absurd sees
branch_is (BranchCase hub) (Some seen) sees e h = subst (λ (f : Form). IsPlain (Some f)) sees.is h
branch_is _ (Some seen) sees e h = absurd (false≢true e)
