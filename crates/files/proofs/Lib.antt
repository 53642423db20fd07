pub mod Answers
pub mod Elements
pub mod RoundTrip
pub mod Sound
pub mod Canonical
