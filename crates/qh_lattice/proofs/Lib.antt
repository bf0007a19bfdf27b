pub mod Hulls
pub mod Identities
pub mod Images
pub mod SameHulls
pub mod Sums
pub mod Rows
