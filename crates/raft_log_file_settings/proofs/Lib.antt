mod Directories
mod Keys
mod Printings
mod Readings
mod Thousandths
