-- `Buffer`: what a list in a lent buffer leaves there.
pub mod Buffer
