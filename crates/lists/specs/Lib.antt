pub mod FaultList
pub mod ListExamples
