mod SoundLemmas
mod PurgeLemmas
