use Rattle.std.proofs.Common.{subst, arith}
use Rattle.http_heads.specs.Section.{ParsesAs}
use Rattle.http_heads.proofs.SectionLemmas.{section_from_front, no_section_from_front, never_section_from_full, never_section_from_bad, never_section_from_crowded}
use Rattle.http_heads.proofs.section.read_section.Goals as goal

pub returns-in-Whole-clause-reads : goal.returns-in-Whole-clause-reads
returns-in-Whole-clause-reads c = section_from_front _ _ _ _ c.front_of-front.ensures (subst (ParsesAs c.front_of-front.result.now) c.in-Whole.is c.in_ok-fields.ensures)

pub returns-in-More-clause-reads : goal.returns-in-More-clause-reads
returns-in-More-clause-reads c = no_section_from_front _ _ c.front_of-front.ensures (omega arith) (subst (ParsesAs c.front_of-front.result.now) c.in-More.is c.in_ok-fields.ensures)

pub returns-in-Crowded-clause-reads : goal.returns-in-Crowded-clause-reads
returns-in-Crowded-clause-reads c = never_section_from_crowded _ _ c.front_of-front.ensures (subst (ParsesAs c.front_of-front.result.now) c.in-Crowded.is c.in_ok-fields.ensures)

pub returns-in-More-2-clause-reads : goal.returns-in-More-2-clause-reads
returns-in-More-2-clause-reads c = never_section_from_full _ _ c.front_of-front.ensures (omega arith) (subst (ParsesAs c.front_of-front.result.now) c.in-More-2.is c.in_ok-fields.ensures)

pub returns-in-Crowded-2-clause-reads : goal.returns-in-Crowded-2-clause-reads
returns-in-Crowded-2-clause-reads c = never_section_from_crowded _ _ c.front_of-front.ensures (subst (ParsesAs c.front_of-front.result.now) c.in-Crowded-2.is c.in_ok-fields.ensures)

pub returns-in-Bad-clause-reads : goal.returns-in-Bad-clause-reads
returns-in-Bad-clause-reads c = never_section_from_bad _ _ c.front_of-front.ensures (subst (ParsesAs c.front_of-front.result.now) c.in-Bad.is c.in_ok-fields.ensures)
