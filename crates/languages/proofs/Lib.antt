pub mod ProgramSteps
pub mod ProgramSpelled
pub mod Endings
