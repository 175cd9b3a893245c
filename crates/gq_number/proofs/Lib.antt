pub mod Gcd
mod Examples
pub mod Whole
pub mod Means
pub mod Field
pub mod Ring
pub mod Quotients
pub mod Order
pub mod Signs
pub mod Compares
pub mod Linear
pub mod Sums
pub mod Uses
pub mod Naming
pub mod Rounding
