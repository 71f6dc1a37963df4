-- The parts are those that the iterator yields.
use Rattle.std.proofs.Common.{rules, ◌==◌, ◌∙◌, ◌++◌, ℕ, List, Bor, ap, map}
use Rattle.std.proofs.lemmas.Iterator.Splits.{YieldsList-from_slice_split}
use Rattle.promise_script.proofs.Putting.{put_all}
use Rattle.promise_script.proofs.lines.put_words.Goals as goal

pub returns : goal.returns
returns c =
    put_all (λ w. w.now) c.extend.result c.extend.ensures.ran
    (YieldsList-from_slice_split _ (λ (b : ℕ). b == 32) c.args.text.now c.split.ensures.rest c.split.ensures.done c.split.ensures.closure (λ x b q h. search rules))
    (λ xs same gives. ap (λ (ws : List (Bor (List ℕ))). map (λ w. w.now) ws) (gives.0 ∙ ap (λ (ws : List (Bor (List ℕ))). ws ++ xs) c.clear.ensures.items) ∙ same)
