mod Calls
mod Moved
mod Stays
