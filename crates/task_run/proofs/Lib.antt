pub mod EventRuns
mod Examples
pub mod Growth
pub mod TwoStores
