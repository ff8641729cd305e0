pub mod CallPlans
pub mod Clean
pub mod Devices
pub mod Edges
pub mod MemDevices
