mod Ways
mod Statements
mod Reloads
mod Dealers
