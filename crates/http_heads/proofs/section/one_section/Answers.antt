use Rattle.http_heads.proofs.SectionLemmas.{section_only}
use Rattle.http_heads.proofs.section.one_section.Goals as goal

pub returns : goal.returns
returns c = section_only
