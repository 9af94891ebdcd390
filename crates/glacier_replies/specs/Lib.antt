pub mod Bodies
pub mod Fields
pub mod JobReplies
pub mod Jobs
pub mod Messages
pub mod Paths
pub mod Refusals
pub mod Replies
