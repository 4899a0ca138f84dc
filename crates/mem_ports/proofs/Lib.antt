mod Closing
mod Living
mod Recording
mod Telling
mod Tests
