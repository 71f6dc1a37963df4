use Rattle.std.proofs.Common.{◌≡◌, ℕ, ◌<◌, true, List, take, ap, ◌∙◌, arith}
use Rattle.std.specs.Char.{is_ascii_hexdigit}
use Rattle.std.specs.List.{list_all}
use Rattle.std.proofs.lemmas.List.{get_or-take, length-take}
use Rattle.std.proofs.lemmas.List.Sums.{prefix_len_passes, list_all-from_AllPass}
use Rattle.std.proofs.lemmas.List.Elements.{All-from_get_or}
use Rattle.http_frames.specs.Chunks.{digit_count}
use Rattle.http_frames.proofs.line.line_size.Goals as goal

-- the first octets of a line are its digits
first_digits : (line : List ℕ) (count : ℕ) → count ≡ digit_count line → list_all is_ascii_hexdigit (take count line) ≡ true
first_digits line count is =
    list_all-from_AllPass is_ascii_hexdigit (take count line) (All-from_get_or (λ b. is_ascii_hexdigit b ≡ true) (take count line) 0
    (λ i inside. let within : i < count = omega (arith, length-take count line) in ap is_ascii_hexdigit (get_or-take count line i 0 within) ∙ prefix_len_passes is_ascii_hexdigit line i 0 (omega (arith, is))))

pub value_of-requires : goal.value_of-requires
value_of-requires c = first_digits c.args.line.now c.digit_count-count.result c.digit_count-count.ensures.count
