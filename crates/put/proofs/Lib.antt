-- `Puts`: bytes put into a buffer from a place on. `Pages`: bytes put on a page.
pub mod Puts
pub mod Pages
