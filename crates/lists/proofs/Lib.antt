mod Fronts
mod Held
mod Rings
