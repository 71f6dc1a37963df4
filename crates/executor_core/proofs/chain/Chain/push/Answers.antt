use Rattle.std.proofs.Common.{arith, ap, refl, ◌∙◌, ◌≡◌, ◌≤◌, ◌+◌, ◌<◌, length, length-set, ℕ, List}
use Rattle.std.specs.Prelude.{slice_set}
use Rattle.executor_core.proofs.Chains.{joins, left_length}
use Rattle.executor_core.proofs.chain.Chain.push.Goals as goal

pub returns-clause-chain : goal.returns-clause-chain
returns-clause-chain c w v limit chain out = let s = c.args.self.now in let at : ℕ = c.args.at in let l = c.link_left.ensures in let m = c.link_left.new.self in let room = c.requires.room in (
  joins w v at out s.first s.end s.bound m.first s.before.items s.after.items m.after.items (slice_set m.before.items at m.end) (slice_set m.after.items at (at + 1)) chain.0 room.1 l.left
      (ap (λ (x : List ℕ). slice_set x at m.end) l.rest.2 ∙ ap (λ (x : ℕ). slice_set s.before.items at x) l.rest.0) refl,
  length-set m.before.items at m.end ∙ ap length l.rest.2 ∙ chain.1,
  length-set m.after.items at (at + 1) ∙ left_length s.end at s.first m.first s.after.items m.after.items l.left ∙ chain.2,
  (let x = room.2 in let y = chain.1 in let n : ℕ = length s.before.items in let x' : at < n = x in let y' : n ≡ limit = y in let z : at + 1 ≤ limit = omega arith in z),
)
