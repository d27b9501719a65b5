-- Lines 1 and 2: `Header` says what is right of them.
pub mod Header
pub mod Inner
