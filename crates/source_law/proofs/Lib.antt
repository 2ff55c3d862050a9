mod Counts
mod Parameters
