-- What the contracts of `put` say of a lent slice of bytes.
pub mod Put
