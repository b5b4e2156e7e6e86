pub mod SourceLemmas
pub mod ValueLemmas
pub mod ReplacedLemmas
pub mod ReplacedRows
pub mod LineKindLemmas
pub mod RunLemmas
pub mod LineGrammarLemmas
pub mod KindGrammarLemmas
