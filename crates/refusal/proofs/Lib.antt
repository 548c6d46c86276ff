pub mod Firsts
pub mod Tables
pub mod Cases
pub mod Results
