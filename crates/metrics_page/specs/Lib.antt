pub mod Pages
pub mod Requests
