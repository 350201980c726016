pub mod Losing
pub mod Filling
pub mod Resizing
pub mod AloneFilling
pub mod AloneResizing
