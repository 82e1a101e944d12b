-- What a well-formed block holds, pairs for code, and the sheet of a cell.
pub mod Fine
pub mod FineLaws
pub mod PairLaws
pub mod CountLaws
pub mod BlocksLaws
pub mod EncodeLaws
