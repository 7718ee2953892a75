mod Links
mod Padded
mod Words
