mod Merged
mod Nested
