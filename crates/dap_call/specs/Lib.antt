pub mod Argument
pub mod Call
pub mod CallTree
pub mod PlainCall
pub mod CallObjects
pub mod Terminal
