-- Reading an input.
pub mod Input
