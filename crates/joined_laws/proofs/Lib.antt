pub mod MeetingLemmas
pub mod EdgeLemmas
pub mod NodeLemmas
pub mod JoiningLemmas
pub mod MadeLemmas
pub mod JointLemmas
