pub mod NoVolumes
pub mod Telling
pub mod Noting
