-- what the contracts cite
pub mod Marks
pub mod Lines
pub mod Finish
-- laws
pub mod Image
pub mod LogLaws
pub mod LineLaws
pub mod FileLaws
pub mod FinishLaws
pub mod Telling
