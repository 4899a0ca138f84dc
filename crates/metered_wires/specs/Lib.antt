pub mod Metering
pub mod Rising
