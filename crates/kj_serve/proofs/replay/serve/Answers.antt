-- All octets, and then the end.
use Rattle.http_core.specs.Standing.{FeedLeaves}
use Rattle.std.proofs.Common.{◌≡◌, ◌≢◌, ℕ, List, [], sym, ap, subst}
use Rattle.std.specs.Prelude.{IfSome}
use Rattle.http_core.specs.declared.connection.ConnectionState.{ConnectionState}
use Rattle.http_core.specs.declared.connection.ConnectionState.TheVariants.{Going, Drained}
use Rattle.http_core.specs.Replies.{IsReplies}
use Rattle.http_core.specs.Standing.{WasFed, state_of, fed_with}
use Rattle.kj_serve.proofs.replay.serve.Goals as goal

not_both : (s : ConnectionState) → s ≡ Going → s ≡ Drained → ⊥
not_both s going drained = cc

pub returns : goal.returns
returns g c =
    let told = g.S.Service.told in
    let octets = c.args.octets.now in
    let state = state_of c.new-connection.result in
    let all : fed_with state [] octets ≡ octets = ap (λ (s : ConnectionState). fed_with s [] octets) c.new-connection.ensures.going in
    let served : WasFed told c.feed.new.self octets [] = subst (λ (fed : List ℕ). WasFed told c.feed.new.self fed []) all (c.in_ok-feed.ensures.served [] [] c.new-connection.ensures.served) in
    let undrained : state_of c.feed.new.self ≢ Drained = λ drained. subst FeedLeaves drained (c.in_ok-feed.ensures.leaves c.new-connection.ensures.going) in
    subst (λ (w : List ℕ). IfSome told (λ f. IsReplies f octets w)) (sym c.take_output-written.ensures.output) (c.in_ok-end.ensures.replies undrained octets [] served)
