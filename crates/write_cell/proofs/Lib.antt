-- Laws of the caller's checks, and of the cell as a whole.
pub mod CallLaws
pub mod CellLaws
pub mod RoomLaws
pub mod EdgesLaws
pub mod SidesLaws
pub mod StayLaws
pub mod PromiseLaws
