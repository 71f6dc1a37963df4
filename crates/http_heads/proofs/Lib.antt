pub mod EndingLemmas
pub mod FrontLemmas
pub mod HeadLemmas
pub mod SectionLemmas
pub mod ValueLemmas
pub mod StopLemmas
pub mod MarkLemmas
