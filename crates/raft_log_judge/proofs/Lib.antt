mod Held
mod Leading
mod Nexts
mod Scans
mod Supporting
mod Viewing
