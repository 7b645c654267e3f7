-- The definitions of the feed table and of the search for it, in the order in which they are read.
pub mod Map
pub mod Chains
pub mod Table
pub mod Queue
pub mod Search
pub mod Codes
pub mod Feed
pub mod Ceiling
pub mod ByHand
pub mod WindowsByHand
pub mod SpanCountByHand
pub mod CeilingByHand
pub mod Theorems
pub mod LossSearch
pub mod JointsByHand
