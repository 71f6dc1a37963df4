use Rattle.std.proofs.Common.{◌≡◌, ◌∙◌, refl, sym, ap, subst, arith, ◌+◌, ◌-◌, ◌++◌, ◌∷◌, [], ℕ, List, Some}
use Rattle.kj_base.specs.declared.outcomes.Outcome.{Outcome}
use Rattle.kj_model.specs.World.{State, Setting}
use Rattle.kj_model.specs.Value.{value_to}
use Rattle.promise_walks.specs.declared.pending.At.{At}
use Rattle.promise_walks.specs.declared.pending.Pending.{Pending}
use Rattle.promise_walks.specs.Values.{Valued, Walked, gave}
use Rattle.promise_walks.specs.Climbs.{ArePlain, climb, is_at}
use Rattle.promise_walks.specs.declared.pending.At.TheVariants.{Down}
use Rattle.promise_walks.proofs.Answering.{walked_as, walked_begun, walked_fails, walked_on}
use Rattle.promise_walks.proofs.Composed.{rises_then}
use Rattle.promise_walks.proofs.evaluating.climb_all.Goals as goal

pub walking-init : goal.walking-init
walking-init g c =
    let d = g.L.Land.slots c.args.land.now + 1 in
    let empty = c.clear.ensures.items in
    let whole : d - 0 ≡ d = omega arith in
    record {
      walked = walked_begun (g.L.Land.stands c.args.land.now) g.L.Land.rule (λ setting s. value_to setting d c.args.root.number.0 s) (λ setting s. is_at setting d c.clear.new.self.items (Down c.args.root) s) (g.S.Steps.told c.args.steps.now)
          (λ setting s. ap (λ (l : List Pending). is_at setting d l (Down c.args.root) s) empty ∙ ap (λ (k : ℕ). value_to setting k c.args.root.number.0 s) whole);
      lacks = refl;
      stack = subst (λ (l : List Pending). ArePlain (g.L.Land.is_plain c.args.land.now) l) (sym empty) tt;
      plain = λ n h. h;
      slots = refl;
      over = refl;
      bound = omega (arith, c.clear.ensures.len);
      room = omega (arith, c.requires.room, c.clear.ensures.capacity);
      more = omega (arith, c.clear.ensures.capacity);
    }

pub walking-preserved : goal.walking-preserved
walking-preserved g c =
    let before = c.walking.invariant in
    let done = c.in-Ok.ensures in
    let A = g.L.Land.stands c.args.land.now in
    let B = g.L.Land.stands c.walking.land in
    let C = g.L.Land.stands c.close.new.land in
    let rule = g.L.Land.rule in
    let d = g.L.Land.slots c.walking.land + 1 in
    let same : g.L.Land.slots c.close.new.land + 1 ≡ d = ap (λ (j : ℕ). j + 1) done.slots in
    let o = c.in-Up.outcome in
    let new = c.close.new.stack.items in
    let first : Setting → State → Valued Outcome = (λ setting s. value_to setting (g.L.Land.slots c.args.land.now + 1) c.args.root.number.0 s) in
    let at_now : Setting → State → Valued Outcome = (λ setting s. is_at setting d c.walking.stack.items c.walking.at s) in
    let up : Setting → State → Valued Outcome = (λ setting s. climb setting d (c.pop.new.self.items ++ c.in-Some.pending ∷ []) (s, Some o)) in
    let view : At → Setting → State → Valued Outcome = (λ at setting s. is_at setting d new at s) in
    let way = walked_as A B rule first at_now up _ _ (λ setting s stands. ap (λ (at : At). is_at setting d c.walking.stack.items at s) c.in-Up.is ∙ ap (λ (l : List Pending). climb setting d l (s, Some o)) c.in-Some.ensures.items) before.walked in
    let next = walked_on A B C rule first up view _ _ _ c.in-Ok.next way done.gives in
    record {
      walked = subst (λ (j : ℕ). Walked A C rule first (λ setting s. is_at setting j new c.in-Ok.next s) (g.S.Steps.told c.args.steps.now) (g.S.Steps.told c.close.new.steps)) (sym same) next;
      lacks = done.lacks ∙ before.lacks;
      stack = done.stack;
      plain = rises_then _ _ _ before.plain done.plain;
      slots = done.slots ∙ before.slots;
      over = done.over ∙ before.over;
      bound = omega (arith, done.bound, same);
      room = omega (arith, done.room, before.room, same, c.pop.ensures.capacity);
      more = omega (arith, done.room, before.more, c.pop.ensures.capacity);
    }

pub returns-in-Err-clause-gives : goal.returns-in-Err-clause-gives
returns-in-Err-clause-gives g c =
    let before = c.walking.invariant in
    let A = g.L.Land.stands c.args.land.now in
    let B = g.L.Land.stands c.walking.land in
    let C = g.L.Land.stands c.close.new.land in
    let rule = g.L.Land.rule in
    let d = g.L.Land.slots c.walking.land + 1 in
    let o = c.in-Up.outcome in
    let first : Setting → State → Valued Outcome = (λ setting s. value_to setting (g.L.Land.slots c.args.land.now + 1) c.args.root.number.0 s) in
    let at_now : Setting → State → Valued Outcome = (λ setting s. is_at setting d c.walking.stack.items c.walking.at s) in
    let up : Setting → State → Valued Outcome = (λ setting s. climb setting d (c.pop.new.self.items ++ c.in-Some.pending ∷ []) (s, Some o)) in
    let view : At → Setting → State → Valued Outcome = (λ at setting s. is_at setting d c.close.new.stack.items at s) in
    let way = walked_as A B rule first at_now up _ _ (λ setting s stands. ap (λ (at : At). is_at setting d c.walking.stack.items at s) c.in-Up.is ∙ ap (λ (l : List Pending). climb setting d l (s, Some o)) c.in-Some.ensures.items) before.walked in
    walked_fails A B C rule first up view gave _ _ _ c.in-Err.none way c.in-Err.ensures.gives
