pub mod HexText
pub mod Written
pub mod Decimals
pub mod PrintedText
pub mod ReadDigest
