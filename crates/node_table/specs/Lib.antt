pub mod NodeTable
pub mod Laws
