pub mod Refused
pub mod Ran
pub mod OneForm
pub mod Listed
pub mod BadRecord
pub mod RepliesLemmas
pub mod OutputLemmas
