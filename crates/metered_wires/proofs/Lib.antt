mod Offering
mod Passing
mod Rises
