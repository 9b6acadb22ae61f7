-- The laws behind the tableau by place. Assumes nothing.
pub mod Laws
