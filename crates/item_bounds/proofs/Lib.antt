mod Enough
mod EnoughTrees
mod Stays
mod StaysNodes
mod StaysTrees
