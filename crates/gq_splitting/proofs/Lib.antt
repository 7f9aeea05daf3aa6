pub mod PartsShow
