mod Quotients
mod Thirds
mod Acts
mod Steps
mod Ids
mod Costs
