pub mod Growths
