pub mod Bytes
pub mod Keywords
pub mod Lexing
pub mod Reading
pub mod Spelling
pub mod Symbols
pub mod Token
