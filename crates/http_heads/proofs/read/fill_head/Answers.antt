use Rattle.std.proofs.Common.{◌≡◌, List, ℕ, ◌<◌, length, take, subst, ◌∙◌, arith}
use Rattle.std.proofs.lemmas.List.{take_all}
use Rattle.httparse.specs.Grammar.{MayBecomeRequest}
use Rattle.httparse.specs.Spans.{RequestExceeds}
use Rattle.http_heads.specs.Heads.{Parses, StartsWell}
use Rattle.http_heads.proofs.HeadLemmas.{head_from_front, none_from_front, never_from_full, never_from_crowded, never_from_bad}
use Rattle.http_heads.proofs.StopLemmas.{starts_from_open, starts_from_crowded}
use Rattle.http_heads.proofs.read.fill_head.Goals as goal

open_front : (bytes front : List ℕ) → front ≡ take 65536 bytes → length bytes < 65536 → MayBecomeRequest front → StartsWell bytes
open_front bytes front h short may = starts_from_open bytes short (subst MayBecomeRequest (h ∙ take_all 65536 bytes (omega arith)) may)

crowded_front : (bytes front : List ℕ) → front ≡ take 65536 bytes → length bytes < 65536 → RequestExceeds 100 front → StartsWell bytes
crowded_front bytes front h short exceeds = starts_from_crowded bytes short (subst (RequestExceeds 100) (h ∙ take_all 65536 bytes (omega arith)) exceeds)

pub returns-in-Whole-clause-reads : goal.returns-in-Whole-clause-reads
returns-in-Whole-clause-reads c = head_from_front _ _ _ _ c.front_of-front.ensures (subst (Parses c.front_of-front.result.now c.parse.new.head) c.in-Whole.is c.in_ok-len.ensures)

pub returns-in-More-clause-reads : goal.returns-in-More-clause-reads
returns-in-More-clause-reads c = none_from_front _ _ c.front_of-front.ensures (omega arith) (subst (Parses c.front_of-front.result.now c.parse.new.head) c.in-More.is c.in_ok-len.ensures).0

pub returns-in-More-clause-goes_on : goal.returns-in-More-clause-goes_on
returns-in-More-clause-goes_on c =
    let short : length c.args.bytes.now < 65536 = omega arith in
    (short, open_front _ _ c.front_of-front.ensures short (subst (Parses c.front_of-front.result.now c.parse.new.head) c.in-More.is c.in_ok-len.ensures).1)

pub returns-in-Crowded-clause-reads : goal.returns-in-Crowded-clause-reads
returns-in-Crowded-clause-reads c = never_from_crowded _ _ c.front_of-front.ensures (subst (Parses c.front_of-front.result.now c.parse.new.head) c.in-Crowded.is c.in_ok-len.ensures).0

pub returns-in-Crowded-clause-goes_on : goal.returns-in-Crowded-clause-goes_on
returns-in-Crowded-clause-goes_on c =
    let short : length c.args.bytes.now < 65536 = omega arith in
    (short, crowded_front _ _ c.front_of-front.ensures short (subst (Parses c.front_of-front.result.now c.parse.new.head) c.in-Crowded.is c.in_ok-len.ensures).1)

pub returns-in-More-2-clause-reads : goal.returns-in-More-2-clause-reads
returns-in-More-2-clause-reads c = never_from_full _ _ c.front_of-front.ensures (omega arith) (subst (Parses c.front_of-front.result.now c.parse.new.head) c.in-More-2.is c.in_ok-len.ensures).0

pub returns-in-Crowded-2-clause-reads : goal.returns-in-Crowded-2-clause-reads
returns-in-Crowded-2-clause-reads c = never_from_crowded _ _ c.front_of-front.ensures (subst (Parses c.front_of-front.result.now c.parse.new.head) c.in-Crowded-2.is c.in_ok-len.ensures).0

pub returns-in-Bad-clause-reads : goal.returns-in-Bad-clause-reads
returns-in-Bad-clause-reads c = never_from_bad _ _ c.front_of-front.ensures (subst (Parses c.front_of-front.result.now c.parse.new.head) c.in-Bad.is c.in_ok-len.ensures)
