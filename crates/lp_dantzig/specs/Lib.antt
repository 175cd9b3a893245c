pub mod InnerGreatest
pub mod Name
pub mod InnerNext
