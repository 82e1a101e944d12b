-- Laws of this program's proofs: each way out of a rounding.
pub mod WholeLaws
