pub mod Minimals
pub mod Offers
pub mod Fills
pub mod Completions
pub mod Refused
pub mod Runs
pub mod Replays
