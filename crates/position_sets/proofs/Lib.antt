pub mod AddLemmas
pub mod BeginLemmas
pub mod DepthLemmas
pub mod FollowLemmas
pub mod JointLemmas
pub mod OpenLemmas
pub mod PlaceLemmas
