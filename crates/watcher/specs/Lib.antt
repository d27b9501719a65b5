-- The watcher: `Watch` and `Answer` of crate `pass` say what a tick gives, `Counts` what is
-- counted.
pub mod Counts
pub mod Inner
