-- Laws of the library's head: its form, the reals of UNITS, its checks, and its records.
pub mod FormLaws
pub mod UnitsLaws
pub mod CheckLaws
pub mod PutLaws
