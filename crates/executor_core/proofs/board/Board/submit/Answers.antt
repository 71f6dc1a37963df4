use Rattle.std.proofs.Common.{arith, ap, sym, refl, ◌≡◌, ◌∙◌, ◌∷◌, ◌++◌, [], length, length-append, subst, List, ℕ, ◌+◌}
use Rattle.executor_core.specs.declared.request.Request.{Request}
use Rattle.executor_core.specs.Acts.{new_request}
use Rattle.executor_core.specs.Asks.{Linked}
use Rattle.executor_core.proofs.Links.{submit_linked, Adds}
use Rattle.executor_core.proofs.board.Board.submit.Goals as goal

pub invariant_of-self : goal.invariant_of-self
invariant_of-self c = let b = c.self.inside in let i = c.self.invariant in let rs : List Request = b.requests.items in let q : Request = new_request c.args.caller c.args.step c.args.words in
    let e : c.push_reserved.new.self.items ≡ rs ++ q ∷ [] = c.push_reserved.ensures.items in let long = ap length e ∙ length-append rs (q ∷ []) in let full = c.if-count-self.false in let said = c.len-count.ensures in let ok = b.requests.ok.0 in let count : c.len-count.result ≡ length rs = omega arith in let room = i.1 in let same = c.push_reserved.ensures.capacity in
    let adds : Adds b.waiting c.push.new.self (length rs) = subst (λ (n : ℕ). Adds b.waiting c.push.new.self n) count c.push.ensures.chain in (
      omega arith,
      omega arith,
      subst (λ (x : List Request). Linked b.limit x c.push.new.self b.asked) (sym e) (submit_linked rs q refl b.limit b.waiting c.push.new.self b.asked i.2 adds (c.push.ensures.bound ∙ ap (λ (n : ℕ). n + 1) count)),
    )
