mod LaterTuples
mod Digits
mod Numbers
mod Products
mod Repeats
