mod Asks
mod Worlds
mod Batch
