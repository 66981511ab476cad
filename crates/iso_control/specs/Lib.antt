pub mod Firsts
pub mod Members
