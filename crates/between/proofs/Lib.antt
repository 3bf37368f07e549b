pub mod CommonLengths
pub mod Deciding
pub mod Scanning
pub mod Promised
