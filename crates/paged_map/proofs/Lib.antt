mod Ascending
mod Directory
mod Following
mod Slotted
