-- docs/RULES.md, "Evidence about time rows".
pub mod Walk
