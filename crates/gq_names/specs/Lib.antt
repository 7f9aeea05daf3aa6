pub mod Names
pub mod Contents
pub mod Laws
pub mod Completing
pub mod Sweeping
pub mod Worked
pub mod Splitting
pub mod SplitContents
