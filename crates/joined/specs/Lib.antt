pub mod Ledger
pub mod Tallies
pub mod Joined
pub mod Strings
