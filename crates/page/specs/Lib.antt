-- what the contracts cite
pub mod Room
pub mod View
pub mod Image
pub mod Put
pub mod Keep
-- laws for the proofs, here and in other crates
pub mod Lists
pub mod ImageLaws
pub mod KeepLaws
pub mod PutLaws
