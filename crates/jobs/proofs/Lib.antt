pub mod HeadSteps
pub mod SectionLaws
pub mod HeadLaws
pub mod ProgramsRead
pub mod Texts
pub mod Lengths
