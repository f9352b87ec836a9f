pub mod Cases
pub mod CutReports
pub mod GoodAtOnce
pub mod InReach
pub mod Rising
