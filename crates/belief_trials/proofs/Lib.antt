mod Seeing
mod Unheld
mod Rising
mod OneClass
