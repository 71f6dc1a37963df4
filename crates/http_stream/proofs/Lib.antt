pub mod OctetLemmas
pub mod ReadLemmas
pub mod AnswerLemmas
pub mod WriteLemmas
pub mod EndLemmas
pub mod StepLemmas
