mod Firsts
mod Readers
mod Steps
mod Tails
mod Walk
mod Loads
