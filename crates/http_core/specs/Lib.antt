pub mod Text
pub mod Services
pub mod Requests
pub mod Replies
pub mod Reading
pub mod Serving
pub mod Standing
