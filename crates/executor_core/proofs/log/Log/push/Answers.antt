use Rattle.std.proofs.Common.{refl, arith}
use Rattle.executor_core.specs.Lines.{told}
use Rattle.executor_core.proofs.Lines.{pushed, still_fits, spare, one_more}
use Rattle.executor_core.proofs.log.Log.push.Goals as goal

pub invariant_of-self : goal.invariant_of-self
invariant_of-self c = let i = c.self.inside in let ok = i.words.ok.0 in let n = c.len.ensures in
    still_fits i.words.items c.args.words.now _ _ _ i.lines.items _ _ _ _ c.self.invariant (spare i.words.items i.lines.items _ c.args.self.now c.self.view_is c.requires.room) c.requires.few (omega arith) refl c.append.ensures.items c.append.ensures.room c.push_reserved.ensures.items c.push_reserved.ensures.capacity

pub returns : goal.returns
returns c = let i = c.self.inside in let ok = i.words.ok.0 in let n = c.len.ensures in
    let longer = pushed i.words.items c.args.words.now _ i.lines.items _ _ c.self.invariant.within (omega arith) refl c.append.ensures.items c.push_reserved.ensures.items in
    one_more _ _ _ _ c.args.self.now (told c.args.caller c.args.deed c.args.words.now) longer c.push_reserved.ensures.capacity c.self.view_is
