pub mod RoundTrip
pub mod Answers
pub mod Sound
pub mod Canonical
pub mod Endings
