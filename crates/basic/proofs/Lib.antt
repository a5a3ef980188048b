mod Trees
mod Mirrors
mod Computed
mod Keys
mod Typing
mod Facts
mod Building
