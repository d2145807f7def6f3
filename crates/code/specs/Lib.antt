pub mod Blocks
pub mod Codes
pub mod Contents
pub mod Decoding
pub mod Laws
pub mod Recovery
pub mod Rows
pub mod Standing
