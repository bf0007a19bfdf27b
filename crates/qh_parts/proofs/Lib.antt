pub mod Answers
pub mod Divided
pub mod JoinedParts
pub mod Popped
pub mod RingFacets
pub mod RingsBefore
pub mod StayingParts
