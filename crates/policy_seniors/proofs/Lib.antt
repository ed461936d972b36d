mod Counting
mod Raising
