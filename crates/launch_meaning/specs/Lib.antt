pub mod LaunchMeaning
pub mod Laws
pub mod Small
