mod Presses
mod Words
