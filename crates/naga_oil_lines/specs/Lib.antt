-- What the crate's contracts cite.
pub mod Text
pub mod Cover
pub mod CoveredLines
pub mod Tokens
pub mod Words
pub mod Tokenizer
pub mod TokenGrammar
pub mod Decorate
pub mod Directives
pub mod DirectivesText
pub mod DirectivesRows
pub mod DecorateRows
pub mod Undecorate
pub mod UndecorateGrammar
pub mod UndecorateRows
