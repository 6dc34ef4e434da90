pub mod Chunked
pub mod Hashed
pub mod Indexed
pub mod Mapped
pub mod Rising
