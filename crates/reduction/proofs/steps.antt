pub mod EachStep
pub mod StageSets
