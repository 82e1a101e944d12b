-- Big-endian numbers, and runs of bytes in a buffer.
pub mod Big
pub mod Buffer
