pub mod Rising
pub mod Parted
pub mod Found
pub mod Laws
