pub mod Laws
pub mod Fillings
pub mod Enough
