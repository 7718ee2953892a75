mod Stacks
mod Moves
mod Alone
