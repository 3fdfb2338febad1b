pub mod Tasks
pub mod Words
pub mod Numbers
pub mod UriWords
pub mod Table
pub mod Spelled
pub mod Arguments
pub mod Said
