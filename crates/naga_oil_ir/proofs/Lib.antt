pub mod FirstsLemmas
pub mod PlaceLemmas
pub mod BodyLemmas
pub mod ExpressionEquality
pub mod ItemEquality
