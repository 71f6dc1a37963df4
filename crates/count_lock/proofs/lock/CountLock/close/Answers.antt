use Rattle.std.proofs.Common.{ap, sym, ◌∙◌, ◌++◌, subst}
use mathlib.Core.Option.{some-injective}
use Rattle.count_lock.specs.Rule.{of, Made}
use Rattle.count_lock.proofs.Moves.{ends_whole, unwrapped}
use Rattle.count_lock.proofs.lock.CountLock.close.Goals as goal

pub unreachable-requires : goal.unreachable-requires
unreachable-requires g c = let l = c.lay_down.ensures.rule.0 in
    let h = ends_whole g.T.Kept.entries g.T.Kept.constant g.T.Kept.by g.T.Kept.fin g.met.T.Kept.fin_laws _ _ _ (ap (λ v. v.stage) l) _ _ c.close_with-closed.ensures.values.2 in
    let e = some-injective _ _ (sym h.1 ∙ c.take-back.ensures.value) ∙ c.in-None.is in cc

pub returns-clause-seen : goal.returns-clause-seen
returns-clause-seen g c = let t = c.turn.ensures.turn in let l = c.lay_down.ensures.rule.0 in
    let h = ends_whole g.T.Kept.entries g.T.Kept.constant g.T.Kept.by g.T.Kept.fin g.met.T.Kept.fin_laws _ _ _ (ap (λ v. v.stage) l) _ _ c.close_with-closed.ensures.values.2 in
    let e = unwrapped _ _ (some-injective _ _ (sym h.1 ∙ c.take-back.ensures.value) ∙ c.in-Some.is) in let same = ap (λ s. s.me.0.seen) c.into_seat-seat.ensures in
    (t.4.0, ap g.T.Kept.entries (sym e) ∙ h.2 ∙ ap (λ v. v.seen) l ∙ ap (λ v. v.seen) t.2 ∙ t.4.1 ∙ ap (λ x. x ++ t.4.0) same)

pub returns-clause-mine : goal.returns-clause-mine
returns-clause-mine g c = let t = c.turn.ensures.turn in let l = c.lay_down.ensures.rule.0 in
    let h = ends_whole g.T.Kept.entries g.T.Kept.constant g.T.Kept.by g.T.Kept.fin g.met.T.Kept.fin_laws _ _ _ (ap (λ v. v.stage) l) _ _ c.close_with-closed.ensures.values.2 in
    let e = unwrapped _ _ (some-injective _ _ (sym h.1 ∙ c.take-back.ensures.value) ∙ c.in-Some.is) in let same = c.into_seat-seat.ensures in
    ap (λ x. of g.T.Kept.by c.args.pass.number (g.T.Kept.entries x)) (sym e) ∙ ap (of g.T.Kept.by c.args.pass.number) (h.2 ∙ ap (λ v. v.seen) l ∙ ap (λ v. v.seen) t.2)
    ∙ ap (λ n. of g.T.Kept.by n (g.T.Kept.entries t.0)) (sym (ap (λ s. s.me.0.number) same ∙ c.args.pass.number_is)) ∙ t.5 ∙ ap (λ s. s.me.0.mine) same

pub returns-clause-constant : goal.returns-clause-constant
returns-clause-constant g c = let t = c.turn.ensures.turn in let l = c.lay_down.ensures.rule.0 in
    let h = ends_whole g.T.Kept.entries g.T.Kept.constant g.T.Kept.by g.T.Kept.fin g.met.T.Kept.fin_laws _ _ _ (ap (λ v. v.stage) l) _ _ c.close_with-closed.ensures.values.2 in
    let e = unwrapped _ _ (some-injective _ _ (sym h.1 ∙ c.take-back.ensures.value) ∙ c.in-Some.is) in
    ap g.T.Kept.constant (sym e) ∙ h.4 ∙ ap (λ v. v.constant) l ∙ ap (λ v. v.constant) t.2 ∙ ap (λ s. s.me.0.constant) c.into_seat-seat.ensures

pub returns-clause-kin : goal.returns-clause-kin
returns-clause-kin g c = let t = c.turn.ensures.turn in let l = c.lay_down.ensures.rule.0 in
    let h = ends_whole g.T.Kept.entries g.T.Kept.constant g.T.Kept.by g.T.Kept.fin g.met.T.Kept.fin_laws _ _ _ (ap (λ v. v.stage) l) _ _ c.close_with-closed.ensures.values.2 in
    let e = unwrapped _ _ (some-injective _ _ (sym h.1 ∙ c.take-back.ensures.value) ∙ c.in-Some.is) in
    let kin = ap (λ v. v.kin) l ∙ ap (λ v. v.kin) t.2 ∙ ap (λ s. s.me.0.kin) c.into_seat-seat.ensures in let seen = sym h.2 ∙ ap g.T.Kept.entries e in
    subst (λ l. Made g.T.Kept.by l c.args.pass.seat.me.0.kin) seen (subst (Made g.T.Kept.by _) kin h.5)
