mod Turns
