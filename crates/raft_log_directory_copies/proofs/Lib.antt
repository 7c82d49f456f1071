mod Making
mod Reading
mod Copying
mod Stopping
