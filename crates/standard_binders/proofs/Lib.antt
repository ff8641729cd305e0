pub mod SameBinders
mod Appended
