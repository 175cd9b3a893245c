mod Pieces
mod Turns
