-- The laws that `mul_add` stands on. `LeadingLaws` has the one that rounding sees only the leading digits and whether anything is left below them, and `JamLaws` the sticky law that follows.
pub mod DigitLaws
pub mod LeadingLaws
pub mod JamLaws
pub mod SumLaws
pub mod AlignLaws
pub mod FmaLaws
pub mod LeadLaws
pub mod NormalLaws
pub mod HalfEvenLaws
pub mod PatternLaws
pub mod WideLaws
