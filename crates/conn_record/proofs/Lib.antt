pub mod NumberLemmas
pub mod RecordLemmas
pub mod GeneratorLemmas
pub mod Decided
