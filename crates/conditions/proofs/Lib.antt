-- Laws of conditions. The end laws are in `Conditions` and `Judging`: what the code says of a
-- condition is what the grammar and the numbers 11, 12, 13 say; the other modules lead there.

-- Places in the bytes, and the front of what is left there.
pub mod Bytes
-- Letters in front, a name as it is kept, and the name at a place.
pub mod Names
-- The place of a name among names, and that a name is found exactly where it is kept: different
-- names each at their own place.
pub mod Places
-- Whatever a condition writes is read, with its meaning.
pub mod Complete
-- Whatever is read is written by a condition with that meaning.
pub mod Sound
-- The running counters find exactly the bytes with over 8 open parentheses at some place.
pub mod Depth
-- The steps of the cycle of `choice`, `term` and `factor`.
pub mod Steps
-- What is read is what is written, bytes have one meaning, and letters are given exactly where the
-- bytes are a condition.
pub mod Conditions
-- The answer is right, no other is, its number is 11, 12 or 13, and its set is below 2^n.
pub mod Judging
-- Signs: the bytes that conditions are made of.
pub mod Signs
-- Inputs of document 01, computed.
pub mod Examples
