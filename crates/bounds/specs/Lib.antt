pub mod Marks
pub mod Sides
pub mod Ends
pub mod Narrowed
pub mod SidesLemmas
