mod Walks
mod Tasks
mod Searches
