use Rattle.std.proofs.Common.{refl, ap, sym, ◌∙◌, ◌≤◌, ◌+◌, length, subst, Some, slice_get, List, ℕ}
use Rattle.std.proofs.lemmas.Option.{slice_get_read}
use Rattle.executor_core.specs.declared.line.Line.{Line}
use Rattle.executor_core.specs.Lines.{told, part}
use Rattle.executor_core.proofs.Lines.{at_place, place_in}
use Rattle.executor_core.proofs.log.Log.at.Goals as goal

pub words_of-words-requires-clause-within : goal.words_of-words-requires-clause-within
words_of-words-requires-clause-within c = let i = c.self.inside in let l : Line = c.index-line.result.now in
    let at = slice_get_read i.lines.items _ c.args.place l refl (place_in i.words.items i.lines.items _ c.args.place c.args.self.now c.self.view_is c.requires) c.index-line.ensures in
    subst (λ (ws : List ℕ). l.from + l.count ≤ length ws) (sym c.as_slice.ensures.value) (at_place i.words.items _ i.lines.items _ c.args.place l c.self.invariant at).0

pub words_of-words-requires-clause-few : goal.words_of-words-requires-clause-few
words_of-words-requires-clause-few c = let i = c.self.inside in let l : Line = c.index-line.result.now in
    let at = slice_get_read i.lines.items _ c.args.place l refl (place_in i.words.items i.lines.items _ c.args.place c.args.self.now c.self.view_is c.requires) c.index-line.ensures in
    (at_place i.words.items _ i.lines.items _ c.args.place l c.self.invariant at).1

pub returns : goal.returns
returns c = let i = c.self.inside in let l : Line = c.index-line.result.now in
    let at = slice_get_read i.lines.items _ c.args.place l refl (place_in i.words.items i.lines.items _ c.args.place c.args.self.now c.self.view_is c.requires) c.index-line.ensures in
    let read = c.entry_of.ensures ∙ ap (told l.caller l.deed) (c.words_of-words.ensures ∙ ap (λ (ws : List ℕ). part ws l) c.as_slice.ensures.value) in
    ap (λ o. slice_get o.entries c.args.place) (sym c.self.view_is) ∙ (at_place i.words.items _ i.lines.items _ c.args.place l c.self.invariant at).2 ∙ ap Some (sym read)
