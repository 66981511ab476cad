pub mod Classes
pub mod Known
pub mod Shows
pub mod Cursor
pub mod Numbers
pub mod Quoted
