-- Laws on lists, bits and sets of letters, once for every crate above. What the kit has already:
-- `lib.Seq` and `lib.ListN` (lists), `lib.Pow` and `lib.Bits` (powers of 2, masks),
-- `native.Mathlib.Nat` (numbers).
pub mod Lists
pub mod Elements
pub mod Filling
pub mod Padding
pub mod Bits
pub mod Sets
pub mod Lowest
-- Exactly: a set that is described. Alike: two letters that agree at each signal. Described: what
-- the members of a set are. Members: one after the other. Picked: the elements of a list at them.
pub mod Exactly
pub mod Alike
pub mod Described
pub mod Members
pub mod Picked
