pub mod InitialWindows
pub mod RecvWindow
pub mod SendWindow
