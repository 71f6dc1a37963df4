-- What a command sees of the outside.
use Rattle.std.specs.Prelude.{◌≡◌, ℕ, ◌+◌, ◌≤◌, ◌++◌, List, [], ◌∷◌, length, Option, decimal}
use Rattle.std.specs.Io.KnownBytes.{Appends, Consumes, IsAtEnd}
use Rattle.kj_io.specs.Causes.{Rose}
use Rattle.kj_io.specs.Whole.{WroteFront}
use Rattle.kj_base.specs.declared.limits.TheConstants.{INPUT_LIMIT}

-- the octets left of an input and those taken by an output, where they tell, and their counts of
-- faults
pub record Outside : Type 0 where
  pub left : Option (List ℕ)
  pub reads : ℕ
  pub taken : Option (List ℕ)
  pub writes : ℕ

-- the outside that an input and an output are, by what they tell
abbrev pub outside_of : {I O : Type 0} → (I → Option (List ℕ)) → (I → ℕ)
    → (O → Option (List ℕ)) → (O → ℕ) → I → O → Outside
outside_of left reads taken writes input output =
    record { left = left input; reads = reads input; taken = taken output; writes = writes output }

-- no read and no write failed
pub record NoFault (before after : Outside) : Type 0 where
  pub reads : Rose before.reads after.reads → ⊥
  pub writes : Rose before.writes after.writes → ⊥

-- this text was written
abbrev pub Wrote : Outside → Outside → List ℕ → Type 0
Wrote before after text = Appends before.taken after.taken text

-- a front of this text was written
abbrev pub WroteFrontOf : Outside → Outside → List ℕ → Type 0
WroteFrontOf before after text = WroteFront before.taken after.taken text

-- nothing was written
abbrev pub WroteNothing : Outside → Outside → Type 0
WroteNothing before after = after.taken ≡ before.taken

-- an input within the limit was read to its end
pub record ReadWhole (before after : Outside) (input : List ℕ) : Type 0 where
  pub read : Consumes before.left after.left input
  pub at_end : IsAtEnd after.left
  pub short : length input ≤ INPUT_LIMIT

-- one octet more than the limit was read
abbrev pub ReadPast : Outside → Outside → Type 0
ReadPast before after =
    (input : List ℕ) × Consumes before.left after.left input × (length input ≡ INPUT_LIMIT + 1)

-- a line of a number behind these words
abbrev pub numbered : List ℕ → ℕ → List ℕ
numbered words number = words ++ decimal number ++ 10 ∷ []
