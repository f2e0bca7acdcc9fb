mod Endings
mod Opened
mod Reached
mod Starts
mod Walked
