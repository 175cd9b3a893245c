pub mod Programs
pub mod Narrowed
