-- Whole-number algebra: the ring laws, a normaliser of polynomials, orders and signs, the signs of products,
-- and the identities of the predicates.
pub mod Integers
pub mod Ring
pub mod Signs
pub mod Order
pub mod VectorIdentities
