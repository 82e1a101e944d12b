-- What the checks of a form promise.
pub mod code
