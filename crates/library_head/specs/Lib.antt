-- What checking and writing the library's head answer and promise.
pub mod code
