use Rattle.http_heads.proofs.SectionLemmas.{section_append}
use Rattle.http_heads.proofs.section.section_stays.Goals as goal

pub returns : goal.returns
returns c = section_append
