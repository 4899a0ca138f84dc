mod Carrying
mod Counting
mod Judging
mod States
mod Sums
