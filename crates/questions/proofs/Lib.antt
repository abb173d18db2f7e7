pub mod Stands
mod Descents
mod States
