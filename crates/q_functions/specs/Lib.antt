pub mod NumberFunctions
pub mod WorkFunctions
pub mod Laws
