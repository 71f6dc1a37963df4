use Rattle.std.proofs.Common.{arith, ap, refl, sym, ◌∙◌, ◌≡◌, ◌≤◌, length, ℕ, List, subst, Some}
use Rattle.std.specs.Prelude.{slice_get}
use Rattle.std.proofs.lemmas.Option.{slice_get_read}
use Rattle.executor_core.specs.Chains.{Marks, Chained, LinksLeft, LinksRight}
use Rattle.executor_core.proofs.Chains.{leaves, within_chain, left_length, right_length}
use Rattle.executor_core.proofs.chain.Chain.remove.Goals as goal

pub link_right-requires : goal.link_right-requires
link_right-requires c = let s = c.args.self.now in let at : ℕ = c.args.at in let h = c.requires in let w : Marks = h.0 in let limit : ℕ = h.1 in let chain = h.2 in let here = h.3 in
    let low = within_chain w at s.first s.end s.bound s.before.items s.after.items chain.0 here in let small = chain.3 in let long = chain.1 in let long' = chain.2 in
    let m : ℕ = length s.after.items in let b : ℕ = length s.before.items in let long_m : m ≡ limit = long' in let long_b : b ≡ limit = long in
    let at_n : slice_get s.after.items at ≡ Some c.index-after.result.now = slice_get_read s.after.items _ at c.index-after.result.now refl (omega arith) c.index-after.ensures in
    let a = chain.0.next at c.index-after.result.now here at_n in let rest = c.link_left.ensures.rest in let same = rest.1 in let inside = a.1 in (
      (let z : c.index-after.result.now ≤ c.link_left.new.self.bound = omega arith in z),
      (let n : ℕ = length c.link_left.new.self.before.items in let e : n ≡ b = ap length rest.2 in let z : c.link_left.new.self.bound ≤ n = omega arith in z),
    )

pub returns-clause-chain : goal.returns-clause-chain
returns-clause-chain c w v limit chain here out = let s = c.args.self.now in let at : ℕ = c.args.at in
    let low = within_chain w at s.first s.end s.bound s.before.items s.after.items chain.0 here in let small = chain.3 in let long = chain.1 in let long' = chain.2 in
    let m : ℕ = length s.after.items in let b : ℕ = length s.before.items in let long_m : m ≡ limit = long' in let long_b : b ≡ limit = long in
    let p : ℕ = c.index-before.result.now in let n : ℕ = c.index-after.result.now in let l = c.link_left.new.self in let r = c.link_right.new.self in
    let at_p : slice_get s.before.items at ≡ Some p = slice_get_read s.before.items _ at p refl (omega arith) c.index-before.ensures in
    let at_n : slice_get s.after.items at ≡ Some n = slice_get_read s.after.items _ at n refl (omega arith) c.index-after.ensures in
    let left = c.link_left.ensures.left in let rest = c.link_left.ensures.rest in let right = c.link_right.ensures.right in let rest' = c.link_right.ensures.rest in
    let left' : LinksLeft p n s.first r.first s.after.items r.after.items = subst (λ (x : ℕ). LinksLeft p n s.first x s.after.items r.after.items) (sym rest'.0) (subst (λ (x : List ℕ). LinksLeft p n s.first l.first s.after.items x) (sym rest'.2) left) in
    let right' : LinksRight p n s.bound s.end r.end s.before.items r.before.items = subst (λ (x : ℕ). LinksRight p n x s.end r.end s.before.items r.before.items) rest.1 (subst (λ (x : ℕ). LinksRight p n l.bound x r.end s.before.items r.before.items) rest.0
    (subst (λ (x : List ℕ). LinksRight p n l.bound l.end r.end x r.before.items) rest.2 right)) in
    let same : r.bound ≡ s.bound = rest'.1 ∙ rest.1 in (
      subst (λ (x : ℕ). Chained v r.first r.end x r.before.items r.after.items) (sym same) (leaves w v at out s.first s.end s.bound r.first r.end p n s.before.items s.after.items r.before.items r.after.items chain.0 here at_p at_n left' right'),
      right_length p n s.bound s.end r.end s.before.items r.before.items right' ∙ long,
      left_length p n s.first r.first s.after.items r.after.items left' ∙ long',
      (let z : r.bound ≤ limit = omega arith in z),
    )
