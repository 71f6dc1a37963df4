-- One part more, or the part that is read as none.
use Rattle.std.proofs.Common.{rules, arith, ◌≡◌, ℕ, ◌<◌, ◌+◌, List, [], ◌∷◌, ◌++◌, None, Some, Bor, get_or, length, sym, ap, ◌∙◌}
use Rattle.std.proofs.lemmas.List.{length-append}
use Rattle.promise_script.specs.Decode.{name_read}
use Rattle.promise_script.proofs.Lists.{now_of, few_none, part_stop, part_more}
use Rattle.promise_script.proofs.fields.read_names.Goals as goal

pub returns-in_err-name : goal.returns-in_err-name
returns-in_err-name c =
    let ws = c.args.parts.now in
    let none : Bor (List ℕ) = record { ref_ptr = (0, 0); now = [] } in
    let stop : name_read (get_or ws c.loop-part.part-index none).now ≡ None = search rules in
    let result : c.from_residual.result ≡ None = search rules in
    result ∙ sym (few_none 8 (name_read) (now_of ws) (part_stop (name_read) ws c.loop-part.part-index none c.loop-part-test.true stop))

pub loop-part-preserved : goal.loop-part-preserved
loop-part-preserved c =
    let ws = c.args.parts.now in
    let none : Bor (List ℕ) = record { ref_ptr = (0, 0); now = [] } in
    let inside : c.loop-part.part-index < length ws = c.loop-part-test.true in
    let found : name_read (get_or ws c.loop-part.part-index none).now ≡ Some c.in_ok-name.name = search rules in
    let pushed : c.push.new.self ≡ c.loop-part.names ++ c.in_ok-name.name ∷ [] = c.push.ensures.pushed (omega (arith, inside, c.loop-part.invariant.1, c.loop-part.invariant.2)) in
    let more = part_more (name_read) ws c.loop-part.part-index none c.loop-part.names c.in_ok-name.name inside c.loop-part.invariant.0 found in
    let longer : length c.push.new.self ≡ c.loop-part.part-index + 1 = ap length pushed ∙ length-append c.loop-part.names (c.in_ok-name.name ∷ []) ∙ ap (λ (k : ℕ). k + 1) c.loop-part.invariant.1 in
    (more ∙ ap (λ xs. Some xs) (sym pushed), longer, c.loop-part.invariant.2)
