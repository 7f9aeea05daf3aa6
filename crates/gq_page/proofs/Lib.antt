pub mod Cuts
pub mod Fronts
pub mod ReadingLemmas
pub mod PagesBack
