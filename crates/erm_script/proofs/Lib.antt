mod BadLines
mod Faults
mod Lines
mod Readings
mod Scripts
mod Seats
mod Words
