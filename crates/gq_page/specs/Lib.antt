pub mod Form
pub mod Page
pub mod Text
pub mod Laws
