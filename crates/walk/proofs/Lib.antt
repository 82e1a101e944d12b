-- Laws of both walks over the blocks, of the head, and of the structure as a whole.
pub mod WalkLaws
pub mod BlocksLaws
pub mod HeadLaws
pub mod SheetLaws
pub mod WrittenLaws
pub mod PutLaws
pub mod StampsLaws
pub mod PutHeadLaws
pub mod StructureLaws
