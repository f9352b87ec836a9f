pub mod GatherCall
pub mod Restoring
pub mod Room
pub mod SafeBegins
pub mod SafeLooks
pub mod SafeReads
pub mod SafeSurveys
pub mod Turned
