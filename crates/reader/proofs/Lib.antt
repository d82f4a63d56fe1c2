-- No contract cites these files.
pub mod Numbers
pub mod Chunks
