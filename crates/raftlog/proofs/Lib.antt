mod Agreeing
mod Marks
mod Saying
mod Sequences
