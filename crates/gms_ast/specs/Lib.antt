pub mod InnerGreatest
pub mod Nesting
pub mod TreeView
pub mod Trees
pub mod Numbers
pub mod StatementTrees
pub mod StatementView
