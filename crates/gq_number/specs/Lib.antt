pub mod Gcd
pub mod GcdLaws
pub mod Reduced
pub mod Number
pub mod Order
pub mod Sums
