pub mod Numbers
pub mod Tests
pub mod Lists
pub mod Integers
pub mod Order
pub mod Keeping
