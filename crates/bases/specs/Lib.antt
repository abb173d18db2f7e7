pub mod Bases
pub mod Layouts
pub mod Images
pub mod Tables
pub mod Imaging
pub mod Basing
