-- Words read from bytes and put as bytes; and that two allowed results are equal. Assumes nothing.
pub mod Signs
pub mod Stores
pub mod Only
