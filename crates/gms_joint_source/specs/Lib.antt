pub mod JointSources
pub mod Programs
