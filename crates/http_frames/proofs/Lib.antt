pub mod LineLemmas
pub mod ChunkLemmas
pub mod StepLemmas
