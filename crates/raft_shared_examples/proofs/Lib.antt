mod Closed
mod Living
mod Placed
mod Shared
