pub mod Told
pub mod Wires
