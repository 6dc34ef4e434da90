mod Rising
mod Choices
mod Arriving
