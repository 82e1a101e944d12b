-- Laws of both walks over the cells, of the file as a whole, and of what the promises leave open.
pub mod CellsLaws
pub mod PutLaws
pub mod FileLaws
pub mod PutFileLaws
pub mod LibraryLaws
pub mod CallLaws
pub mod RoomLaws
pub mod PromiseLaws
pub mod SidesLaws
