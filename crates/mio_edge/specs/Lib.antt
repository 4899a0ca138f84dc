pub mod Dialers
pub mod Doors
pub mod Plans
pub mod Rolls
pub mod Sockets
pub mod Stalls
