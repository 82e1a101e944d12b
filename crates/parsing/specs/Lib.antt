-- Reading a list from its front.
pub mod Parse
pub mod All
