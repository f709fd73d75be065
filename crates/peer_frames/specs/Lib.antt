pub mod PeerViews
pub mod FrameViews
pub mod RequestViews
pub mod SlotViews
pub mod Texts
