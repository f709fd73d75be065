mod ClockLemmas
pub mod DiskLaws
pub mod DiskTorn
pub mod DiskWrites
pub mod Rises
mod SinkLemmas
mod SliceLemmas
mod SourceLemmas
pub mod StreamLemmas
