pub mod StateSets
pub mod StateLists
pub mod EntrySets
pub mod StateLoops
pub mod SetBytes
