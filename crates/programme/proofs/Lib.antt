pub mod Pieces
pub mod Records
pub mod RecordTheorems
pub mod Extracts
pub mod ExtractTheorems
pub mod StepTheorems
