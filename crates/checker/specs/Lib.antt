-- The checker: from the bytes of a file to the bytes of its report, and to those of its totals.
pub mod FileReport
pub mod FileLoad
pub mod Inner
