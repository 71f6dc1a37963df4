use Rattle.kj_ownership.proofs.Giving.{link_form, link_outlives, link_fires, link_loose, link_place}
use Rattle.kj_ownership.proofs.laws.a_chain_takes_the_promise.Goals as goal

pub returns-clause-form : goal.returns-clause-form
returns-clause-form c = link_form

pub returns-clause-outlives : goal.returns-clause-outlives
returns-clause-outlives c = link_outlives

pub returns-clause-fires : goal.returns-clause-fires
returns-clause-fires c = link_fires

pub returns-clause-loose : goal.returns-clause-loose
returns-clause-loose c = link_loose

pub returns-clause-place : goal.returns-clause-place
returns-clause-place c = link_place
