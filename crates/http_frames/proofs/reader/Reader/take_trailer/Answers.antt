use Rattle.std.proofs.Common.{arith, inl, inr, refl, subst, sym, ap, ◌∙◌, length, ◌-◌, ◌<◌, take, List, ℕ, [], ◌++◌, Ok}
use Rattle.std.proofs.lemmas.List.{length-append, length-take}
use Rattle.http_heads.specs.Section.{ReadsAs, HasNoSection, NeverHasSection, StartsWithSection}
use Rattle.http_frames.specs.Chunks.{Body}
use Rattle.http_frames.specs.declared.reader.Stage.TheVariants.{Crowded}
use Rattle.http_frames.proofs.StepLemmas.{trailer_grows, trailer_never, trailer_whole, trailer_fits, trailer_sound, trailer_short, crowded_sound, still_none, ends_behind_first, none_before}
use Rattle.http_frames.proofs.reader.Reader.take_trailer.Goals as goal

pub returns-then-not-brings_section-clause-steps : goal.returns-then-not-brings_section-clause-steps
returns-then-not-brings_section-clause-steps c =
    let short : length c.extend.new.self < 65536 = omega (arith, c.len-before.ensures, c.len-full.ensures, c.if-not-full.true, ap length c.in_ok-extend.ensures.ok, length-append c.args.self.now.pending c.first_line-front.result.now, c.first_line-front.ensures.bound, trailer_short c.args.self.now.stage c.args.self.now.pending c.args.self.now.body c.requires.stage c.requires.sound) in (
      omega (arith, ap length c.first_line-front.ensures.front.1, length-take c.first_line-front.ensures.front.0 c.args.piece.now),
      trailer_sound c.args.self.now.stage c.args.self.now.stage c.args.self.now.pending c.args.self.now.body c.extend.new.self c.requires.sound c.requires.stage
          (still_none c.args.self.now.pending c.first_line-front.result.now c.extend.new.self c.in_ok-extend.ensures.ok (none_before c.args.self.now.stage c.args.self.now.pending c.args.self.now.body c.requires.stage c.requires.sound)
          (λ fields len rest has. omega (arith, c.len-before.ensures, c.brings_section.ensures.later c.if-not-brings_section.true fields len rest (subst (λ (b : List ℕ). StartsWithSection b fields len rest) (sym c.as_slice.ensures) has))))
          short,
      λ bytes read. trailer_grows c.args.self.now.stage c.args.self.now.stage c.args.self.now.pending c.args.self.now.body c.first_line-front.result.now c.args.piece.now c.extend.new.self bytes _ (inl c.requires.stage) (inl c.requires.stage) c.first_line-front.ensures.front.1 c.in_ok-extend.ensures.ok read,
    )

pub overflow_sub-result : goal.overflow_sub-result
overflow_sub-result c =
    let has = (subst (ReadsAs c.as_slice-2.result.now) c.in-Whole.is c.in_ok-trailer.ensures.reads) in
    omega (arith, c.len-before.ensures, ends_behind_first c.args.self.now.pending c.first_line-front.result.now c.as_slice-2.result.now _ _ has.0 (c.as_slice-2.ensures ∙ c.in_ok-extend.ensures.ok) (none_before c.args.self.now.stage c.args.self.now.pending c.args.self.now.body c.requires.stage c.requires.sound) has.1)

pub returns-in-Whole-clause-steps : goal.returns-in-Whole-clause-steps
returns-in-Whole-clause-steps c =
    let has = (subst (ReadsAs c.as_slice-2.result.now) c.in-Whole.is c.in_ok-trailer.ensures.reads) in
    let grows = c.as_slice-2.ensures ∙ c.in_ok-extend.ensures.ok in
    let late = ends_behind_first c.args.self.now.pending c.first_line-front.result.now c.as_slice-2.result.now _ _ has.0 grows (none_before c.args.self.now.stage c.args.self.now.pending c.args.self.now.body c.requires.stage c.requires.sound) has.1 in (
      omega (arith, c.len-before.ensures, trailer_fits c.args.self.now.pending c.first_line-front.result.now c.args.piece.now c.as_slice-2.result.now _ _ _ has.0 c.first_line-front.ensures.front.1 grows has.1),
      λ bytes read. subst (λ (n : ℕ). Body (bytes ++ take (c.in-Whole.len - n) c.args.piece.now) c.args.self.now.body c.in-Whole.trailer []) (sym c.len-before.ensures)
          (trailer_whole c.args.self.now.stage c.args.self.now.pending c.args.self.now.body c.first_line-front.result.now c.args.piece.now c.as_slice-2.result.now bytes _ _ _ has.0 (inl c.requires.stage) c.requires.sound c.first_line-front.ensures.front.1 grows has.1 late read),
    )

pub returns-in-More-clause-steps : goal.returns-in-More-clause-steps
returns-in-More-clause-steps c = (
  omega (arith, ap length c.first_line-front.ensures.front.1, length-take c.first_line-front.ensures.front.0 c.args.piece.now),
  trailer_sound c.args.self.now.stage c.args.self.now.stage c.args.self.now.pending c.args.self.now.body c.extend.new.self c.requires.sound c.requires.stage (subst HasNoSection c.as_slice-2.ensures (subst (ReadsAs c.as_slice-2.result.now) c.in-More.is c.in_ok-trailer.ensures.reads)) (omega (arith, c.in_ok-trailer.ensures.more (ap Ok c.in-More.is), ap length c.as_slice-2.ensures)),
  λ bytes read. trailer_grows c.args.self.now.stage c.args.self.now.stage c.args.self.now.pending c.args.self.now.body c.first_line-front.result.now c.args.piece.now c.extend.new.self bytes _ (inl c.requires.stage) (inl c.requires.stage) c.first_line-front.ensures.front.1 c.in_ok-extend.ensures.ok read,
)

pub returns-in-Crowded-clause-steps : goal.returns-in-Crowded-clause-steps
returns-in-Crowded-clause-steps c = (
  omega (arith, ap length c.first_line-front.ensures.front.1, length-take c.first_line-front.ensures.front.0 c.args.piece.now),
  crowded_sound c.args.self.now.stage Crowded c.args.self.now.pending c.args.self.now.body c.extend.new.self c.requires.sound refl (subst NeverHasSection c.as_slice-2.ensures (subst (ReadsAs c.as_slice-2.result.now) c.in-Crowded.is c.in_ok-trailer.ensures.reads)) (omega (arith, c.in_ok-trailer.ensures.crowded (ap Ok c.in-Crowded.is), ap length c.as_slice-2.ensures)),
  λ bytes read. trailer_grows c.args.self.now.stage Crowded c.args.self.now.pending c.args.self.now.body c.first_line-front.result.now c.args.piece.now c.extend.new.self bytes _ (inl c.requires.stage) (inr refl) c.first_line-front.ensures.front.1 c.in_ok-extend.ensures.ok read,
)

pub returns-in-Bad-clause-steps : goal.returns-in-Bad-clause-steps
returns-in-Bad-clause-steps c = λ bytes read.
    trailer_never c.args.self.now.stage c.args.self.now.pending c.args.self.now.body c.first_line-front.result.now c.args.piece.now c.extend.new.self bytes _ (inl c.requires.stage) c.requires.sound c.first_line-front.ensures.front.1 c.in_ok-extend.ensures.ok (subst NeverHasSection c.as_slice-2.ensures (subst (ReadsAs c.as_slice-2.result.now) c.in-Bad.is c.in_ok-trailer.ensures.reads)) read
