mod Growth
mod Insertions
mod Entries
