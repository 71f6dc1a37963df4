use Rattle.std.proofs.Common.{ℕ, ◌+◌, ◌-◌, ◌≤◌, ◌<◌, ◌^◌, min, subst, List, ◌≡◌, length, ap, sym, ◌∙◌, take, arith}
use Rattle.std.specs.Prelude.{replicate, vec_len}
use Rattle.std.proofs.lemmas.List.{take_all}
use Rattle.kj_io.specs.Streams.{IsReadWithin}
use Rattle.kj_io.proofs.StreamReads.{behind_read, is_grown, grown_len}
use Rattle.kj_io.proofs.stream.read_behind.Goals as goal

pub returns-clause-octets : goal.returns-clause-octets
returns-clause-octets g c =
    let there : c.into_vec-items.result.items ≡ c.args.octets.now = c.into_vec-items.ensures ∙ c.replace.ensures.value in
    let short : c.len-from.result < 2 ^ 64 = omega arith in
    let short_too : c.saturating_add.result < 2 ^ 64 = omega arith in
    let reaches : length c.args.octets.now ≤ c.saturating_add.result = omega (arith, c.len-from.ensures, c.saturating_add.ensures, short) in
    let front : take c.saturating_add.result c.into_vec-items.result.items ≡ c.args.octets.now = ap (take c.saturating_add.result) there ∙ take_all c.saturating_add.result c.args.octets.now reaches in
    let more : List ℕ = replicate (c.saturating_add.result - vec_len c.into_vec-items.result) 0 in
    let failed = sym c.if-is_err.false ∙ c.is_err.ensures.value in
    let grown = is_grown c.resize-grown.result c.resize-grown.new.self.items (take c.saturating_add.result c.into_vec-items.result.items) c.args.octets.now more c.into_vec-items.result.items
    failed front c.resize-grown.ensures.items in
    behind_read (g.C.Stream.told c.args.stream.now) (g.C.Stream.told c.read_from-got.new.stream) c.args.octets.now more c.resize-grown.new.self.items c.read_from-got.new.buf c.from_vec-2.result c.len-from.result c.saturating_add-2.result
    c.resize-grown.new.self.len c.read_from-got.result c.len-from.ensures grown (c.read_from-got.ensures.front ∙ ap (take c.len-from.result) c.as_mut_slice.ensures.value) (sym c.resize-grown.new.self.ok.0) (c.read_from-got.ensures.room ∙ ap length c.as_mut_slice.ensures.value)
    (omega (arith, short_too, grown_len c.resize-grown.result (vec_len c.resize-grown.new.self) c.saturating_add.result (vec_len c.into_vec-items.result) failed c.resize-grown.ensures.len))
    (c.from_vec-2.ensures ∙ c.truncate.ensures.items) (c.saturating_add-2.ensures ∙ ap (λ (n : ℕ). min (c.len-from.result + n) 18446744073709551615) c.given.ensures)
    (subst (λ (b : List ℕ). IsReadWithin c.read_from-got.result (length b - c.len-from.result)) c.as_mut_slice.ensures.value c.read_from-got.ensures.within) c.read_from-got.ensures.octets
