-- Reading a structure to a cell sheet: what a sheet holds of each record, the cell that is read, the sheet and the round trip.
pub mod Box
pub mod Limits
pub mod Cell
pub mod Read
