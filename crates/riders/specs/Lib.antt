pub mod Riders
