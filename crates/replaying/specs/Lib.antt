pub mod Run
pub mod Said
