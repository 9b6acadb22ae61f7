-- Laws of a reading that goes on or was halted.
pub mod Laws
