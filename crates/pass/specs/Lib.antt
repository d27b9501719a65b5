-- `Watch` (the watcher's record), `Answer` (what each call of the watcher gives).
pub mod Watch
pub mod Answer
pub mod Inner
