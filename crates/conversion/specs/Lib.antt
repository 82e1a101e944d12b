-- One conversion, the deviation that it reports, an array's conversions, and an element's report entry; the bounds of demand 3; what a deviation's sign says.
pub mod Field
pub mod Made
pub mod Policy
pub mod Entry
pub mod Convert
pub mod Points
pub mod Array
pub mod Close
pub mod Side
pub mod code
