-- What the steps of `mul_add` promise: the sticky bit, normal digits, and the pattern of a rounded number.
pub mod code
