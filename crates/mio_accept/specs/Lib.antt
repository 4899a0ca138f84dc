pub mod Acceptors
