mod Blocks
mod Pieces
mod Typed
