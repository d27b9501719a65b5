-- The reader: `Reading` (its answers), `Grammar` (the accepted files), `Right` (which answer each
-- file gets), `Sized` (values of the machine), `Witness` (number 17).
pub mod Reading
pub mod Grammar
pub mod Right
pub mod Sized
pub mod Further
pub mod Inner
