-- the bytes that a key is made of, and the size of a product
pub mod Mix
-- the bits that two keys share
pub mod Shared
