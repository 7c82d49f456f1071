mod ZeroLemmas
mod FileLemmas
