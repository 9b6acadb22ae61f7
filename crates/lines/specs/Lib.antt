-- What the contracts of `lines` say of a lent slice of bytes.
pub mod Printed
