mod Keeping
mod Leaving
mod Marking
mod Reading
