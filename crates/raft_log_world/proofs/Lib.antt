mod Asked
mod Keeping
mod Playing
mod Stepping
