-- An array's coordinates go through doubles and keep their unit and physical value.
pub mod FloatUnit
