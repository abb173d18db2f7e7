mod Shrinking
mod Removals
mod Exits
