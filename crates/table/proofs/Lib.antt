-- No contract cites these files.
pub mod Turning
pub mod Telling
