pub mod BinderKinds
pub mod Bindings
pub mod Contexts
pub mod Metas
pub mod Operands
pub mod Reaching
