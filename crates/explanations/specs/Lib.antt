pub mod Known
pub mod Listings
pub mod Accesses
pub mod Origins
pub mod Reasons
