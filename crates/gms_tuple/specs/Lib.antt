pub mod InnerOperations
pub mod OrderLaws
pub mod Products
pub mod InnerTrees
pub mod TupleOrder
pub mod TupleSet
