pub mod Numbers
pub mod Contents
