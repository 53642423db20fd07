pub mod Theorems
pub mod Readings
pub mod Serving
pub mod Examples
pub mod Previews
pub mod PreviewExamples
