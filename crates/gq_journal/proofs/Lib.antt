pub mod Lines
pub mod Digests
pub mod Scanning
pub mod ReadBack
pub mod Cuts
pub mod NoneRight
