-- From bytes to tokens to terms, and from terms to bytes, and the laws of both.
pub mod Characters
pub mod Numbers
pub mod Quoted
pub mod Token
pub mod Lexemes
pub mod Tokens
pub mod TokenPlaces
pub mod Operators
pub mod Lists
pub mod Grammar
pub mod Reading
pub mod Clauses
pub mod Items
pub mod Texts
pub mod Pieces
pub mod ReadingLaws
pub mod WritingLaws
