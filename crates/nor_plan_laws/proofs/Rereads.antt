-- That what is written where the work is verified is read later, in the order of reading.
pub mod Reread
pub mod Followed
pub mod Verified
