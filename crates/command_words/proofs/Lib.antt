mod Examples
pub mod Counts
pub mod Texts
pub mod NumberWords
pub mod PlaceWords
pub mod PlacesLeft
pub mod AllPlaces
pub mod TextRequests
pub mod StormWords
pub mod CommandWords
pub mod Commands
