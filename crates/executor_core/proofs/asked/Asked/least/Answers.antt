use Rattle.std.proofs.Common.{ap, sym, refl, le_refl, ◌≡◌, ◌∙◌, ◌<◌, length, List, ℕ}
use Rattle.std.proofs.lemmas.List.Elements.{All-contains}
use Rattle.std.proofs.lemmas.Option.{slice_get_read}
use Rattle.executor_core.specs.declared.request.Request.{Request}
use Rattle.executor_core.specs.Acts.{is_canceling, canceling_state}
use Rattle.executor_core.specs.Asks.{numbers}
use Rattle.executor_core.specs.Chains.{bit, marks}
use Rattle.executor_core.proofs.Asking.{none_under, none_at_all, forgets}
use Rattle.executor_core.proofs.Links.{mark}
use Rattle.executor_core.proofs.Searches.{least_some, least_none}
use Rattle.executor_core.proofs.asked.Asked.least.Goals as goal

pub returns-then-is_canceling-clause-some : goal.returns-then-is_canceling-clause-some
returns-then-is_canceling-clause-some c = let all : List Request = c.args.all.now in let r : ℕ = c.in-Some.at in let asked = c.loop-at.self in let limit : ℕ = c.requires.0 in
    let a = c.loop-at.invariant limit c.requires.1 in let f = c.in-Some.ensures.some a.ordered in let within = All-contains (λ k. k < length all) (numbers asked) r a.within f.0 in
    let at = slice_get_read all _ r c.index-all-at.result refl within c.index-all-at.is in (
      least_some is_canceling all r c.index-all-at.result at (sym c.is_canceling.ensures ∙ c.if-is_canceling.true) (none_under limit all asked a r r f.1 (le_refl r)),
      within,
    )

pub loop-at-preserved : goal.loop-at-preserved
loop-at-preserved c limit asks = let all : List Request = c.args.all.now in let r : ℕ = c.in-Some.at in let asked = c.loop-at.self in
    let a = c.loop-at.invariant limit asks in let f = c.in-Some.ensures.some a.ordered in let within = All-contains (λ k. k < length all) (numbers asked) r a.within f.0 in
    let at = slice_get_read all _ r c.index-all-at.result refl within c.index-all-at.is in
    let quiet : marks canceling_state all r ≡ 0 = ap (bit canceling_state) at ∙ ap mark (sym c.is_canceling.ensures ∙ c.if-is_canceling.false) in let e = c.forget_first.ensures in
    forgets limit all asked a r c.forget_first.new.self quiet (e.numbers r a.ordered f) (e.ordered a.ordered) e.len e.room

pub returns-clause-none : goal.returns-clause-none
returns-clause-none c = let all : List Request = c.args.all.now in let asked = c.loop-at.self in let limit : ℕ = c.requires.0 in let a = c.loop-at.invariant limit c.requires.1 in
    least_none is_canceling all (none_at_all limit all asked a (length all) c.in_default.ensures.none)
