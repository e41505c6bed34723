pub mod Words
pub mod Digits
pub mod Decimal
pub mod Typed
pub mod Line
