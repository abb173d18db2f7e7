mod Turns
mod Leans
