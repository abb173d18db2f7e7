mod Arrays
mod Digits
mod Rows
