-- Laws of texts in a lent slice. Nothing is assumed.
pub mod Texts
pub mod Replies
pub mod Only
