-- Lists as sets: ordered lists, lists with each member once, joined lists, images, filters, counts, and searches.
pub mod Ordered
pub mod OnceEach
pub mod Lexicographic
pub mod Rising
pub mod Joined
pub mod Images
pub mod Ranges
pub mod Filters
pub mod Counts
pub mod Searches
