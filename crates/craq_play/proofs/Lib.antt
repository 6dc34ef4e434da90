mod Floats
mod Lines
mod Numbers
mod Alone
