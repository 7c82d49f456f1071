-- Short logs for worked examples, and for examples that show why other rules would be wrong. Each entry and each value
-- is a number.
use Rattle.std.specs.Prelude.{ℕ, zero, suc, List, [], ◌∷◌, ◌++◌, Option, map, Some, None}
use Rattle.raft_log_model_laws.specs.Item.{Item, Tagged, Record}
use Rattle.raft_log_model_laws.specs.Item.Item.{Run, Compact, Put}
use Rattle.raft_log_model_laws.specs.Item.Record.{Plain, Part}
use Rattle.raft_log_model_laws.specs.Item.Mark.{Begin, End}
use Rattle.raft_log_model_laws.specs.Meaning.{Content, holds, directory}
use Rattle.raft_log_model_laws.specs.Groups.{directory_meaning}
use Rattle.raft_log_model_laws.specs.Meaning.Slot.{Index, Key}
use Rattle.raft_log_model_laws.specs.Meaning.Content.{Entry}
use Rattle.raft_log_model_laws.specs.Table.{Table, content}
use Rattle.raft_log_model_laws.specs.Holes.{Window, nothing, window, holds_past, directory_by_intervals}

-- the `n` consecutive numbers from `first` on
abbrev pub upward : ℕ → ℕ → List ℕ
upward first zero = []
upward first (suc n) = first ∷ upward (suc first) n

-- what is at `n` consecutive indexes, from `first` on, of a directory with these items in Rewrite and in Append
abbrev pub shown : ℕ → ℕ → List (Item ℕ ℕ) → List (Item ℕ ℕ) → List (Option (Content ℕ ℕ))
shown first n rewrite append = map (λ i. directory (Index i) rewrite append) (upward first n)

-- the key `voter`, whose value would be a voter's state
abbrev pub voter : List ℕ
voter = 118 ∷ 111 ∷ 116 ∷ 101 ∷ 114 ∷ []

-- the value of the key `voter` in a directory with these items in Rewrite and in Append
abbrev pub voter_in : List (Item ℕ ℕ) → List (Item ℕ ℕ) → Option (Content ℕ ℕ)
voter_in rewrite append = directory (Key voter) rewrite append

-- the value of the key `voter`, if Rewrite's items counted after Append's; this is a wrong rule
abbrev pub voter_if_rewrite_last : List (Item ℕ ℕ) → List (Item ℕ ℕ) → Option (Content ℕ ℕ)
voter_if_rewrite_last rewrite append = holds (Key voter) (append ++ rewrite)

-- the entry of raft group 1 at index `i`, if Rewrite has these records and Append is empty
abbrev pub entry_in : ℕ → List (Record ℕ ℕ) → Option (Content ℕ ℕ)
entry_in i rewrite = directory_meaning rewrite [] 1 (Index i)

-- the value of the key `voter` of raft group 1, if Rewrite has these records and Append is empty
abbrev pub value_in : List (Record ℕ ℕ) → Option (Content ℕ ℕ)
value_in rewrite = directory_meaning rewrite [] 1 (Key voter)

-- the current run (`Window`) after these items
abbrev pub run_of : List (Item ℕ ℕ) → Window
run_of xs = window nothing xs

-- the greatest 64-bit number, which is above every entry's index
abbrev pub top : ℕ
top = 18446744073709551615

-- Rewrite with entries 1 to 20
abbrev pub twenty : List (Item ℕ ℕ)
twenty = Run 1 (upward 1 20) ∷ []

-- Append with two entries that replace entry 15 and all later ones, and a compaction that removes both new entries
abbrev pub overwritten : List (Item ℕ ℕ)
overwritten = Run 15 (115 ∷ 116 ∷ []) ∷ Compact 17 ∷ []

-- Append with the same two entries, and a compaction that removes the first of these
abbrev pub truncated : List (Item ℕ ℕ)
truncated = Run 15 (115 ∷ 116 ∷ []) ∷ Compact 16 ∷ []

-- ten entries, each of them the number of their file
abbrev pub ten : ℕ → List ℕ
ten file = file ∷ file ∷ file ∷ file ∷ file ∷ file ∷ file ∷ file ∷ file ∷ file ∷ []

-- three runs of ten entries each, from files 1, 2 and 3; the last one replaces some of the second
abbrev pub three_files : List (Item ℕ ℕ)
three_files = Run 10 (ten 1) ∷ Run 20 (ten 2) ∷ Run 25 (ten 3) ∷ []

-- Rewrite before a purge: entries 1 and 2, and an old value
abbrev pub rewrite_before : List (Item ℕ ℕ)
rewrite_before = Run 1 (1 ∷ 2 ∷ []) ∷ Put voter 1 ∷ []

-- Rewrite after the purge wrote a tombstone: a Compact above every index
abbrev pub rewrite_marked : List (Item ℕ ℕ)
rewrite_marked = rewrite_before ++ Compact top ∷ []

-- Rewrite after the purge copied entry 4
abbrev pub rewrite_copied : List (Item ℕ ℕ)
rewrite_copied = rewrite_marked ++ Run 4 (4 ∷ []) ∷ []

-- Append, read from file 6 on: a new entry 5, and the last value
abbrev pub append_from_6 : List (Item ℕ ℕ)
append_from_6 = Run 5 (105 ∷ []) ∷ Put voter 3 ∷ []

-- Append, read from file 5 on: also the Compact that the tombstone replaces
abbrev pub append_from_5 : List (Item ℕ ℕ)
append_from_5 = Compact 4 ∷ append_from_6

-- Append, read from file 4 on: also entries 3 to 5, and an older value
abbrev pub append_from_4 : List (Item ℕ ℕ)
append_from_4 = Run 3 (3 ∷ 4 ∷ 5 ∷ []) ∷ Put voter 2 ∷ append_from_5

-- what is at indexes 0 to 6 after each step of this purge: entries 4 and 5
abbrev pub four_and_five : List (Option (Content ℕ ℕ))
four_and_five = None ∷ None ∷ None ∷ None ∷ Some (Entry 4) ∷ Some (Entry 105) ∷ None ∷ []

-- Rewrite of a directory: entry 6. The directory's Append (`eight_then_seven`) has two runs. The first starts past the
-- end of Rewrite's entries, and the second right after Rewrite's entries.
abbrev pub six : List (Item ℕ ℕ)
six = Run 6 (6 ∷ []) ∷ []

-- Append of this directory: entries 8 to 11, and then an entry 7 that replaces them
abbrev pub eight_then_seven : List (Item ℕ ℕ)
eight_then_seven = Run 8 (upward 8 4) ∷ Run 7 (7 ∷ []) ∷ []

-- what is at `n` consecutive indexes of a table, from `first` on
abbrev pub shown_in : Table ℕ ℕ → ℕ → ℕ → List (Option (Content ℕ ℕ))
shown_in t first n = map (λ i. content t (Index i)) (upward first n)

-- what is at indexes 5 to 11 of the directory of `six` and `eight_then_seven`: entries 6 and 7
abbrev pub six_and_seven : List (Option (Content ℕ ℕ))
six_and_seven = None ∷ Some (Entry 6) ∷ Some (Entry 7) ∷ None ∷ None ∷ None ∷ None ∷ []

-- the item, as one of raft group `g`
abbrev pub of : ℕ → Item ℕ ℕ → Tagged ℕ ℕ
of g x = record { group = g; item = x }

-- the first of an atomic group's two records, with entries 1 and 2
abbrev pub first_part : List (Record ℕ ℕ)
first_part = Part (Begin 1) (of 1 (Run 1 (1 ∷ 2 ∷ [])) ∷ []) ∷ []

-- the second of this atomic group's two records, with entries 3 and 4
abbrev pub second_part : List (Record ℕ ℕ)
second_part = Part (End 1) (of 1 (Run 3 (3 ∷ 4 ∷ [])) ∷ []) ∷ []

-- a file of Rewrite with one record, which has entries 1 to 4
abbrev pub old_file : List (Record ℕ ℕ)
old_file = Plain (of 1 (Run 1 (1 ∷ 2 ∷ 3 ∷ 4 ∷ [])) ∷ []) ∷ []

-- a record with entries 1 and 2, written again without an atomic group
abbrev pub half : List (Record ℕ ℕ)
half = Plain (of 1 (Run 1 (1 ∷ 2 ∷ [])) ∷ []) ∷ []

-- an irregular list: the second run starts past the end of the first
abbrev pub far_run : List (Item ℕ ℕ)
far_run = Run 1 (1 ∷ 2 ∷ 3 ∷ []) ∷ Run 5 (5 ∷ []) ∷ []

-- what is at index `i` after the runs of `far_run`, if a run past the end drops all earlier entries
abbrev pub hole_at : ℕ → Option (Content ℕ ℕ)
hole_at i = holds_past (Index i) far_run

-- what is at index `i` after the runs of `far_run`, if only the last item that touches it counts
abbrev pub last_word_at : ℕ → Option (Content ℕ ℕ)
last_word_at i = holds (Index i) far_run

-- Rewrite of a directory with a gap: entries 1 to 10
abbrev pub low_entries : List (Item ℕ ℕ)
low_entries = Run 1 (upward 1 10) ∷ []

-- Append of this directory: six entries after a gap
abbrev pub far_entries : List (Item ℕ ℕ)
far_entries = Run 25 (upward 25 6) ∷ []

-- two more entries of Append, right after Rewrite's
abbrev pub closing_run : List (Item ℕ ℕ)
closing_run = Run 11 (11 ∷ 12 ∷ []) ∷ []

-- what is at index `i` of this directory (`directory_by_intervals`)
abbrev pub with_gap : ℕ → Option (Content ℕ ℕ)
with_gap i = directory_by_intervals i low_entries far_entries

-- what is at index `i` of this directory after the two entries of `closing_run` too
abbrev pub gap_closed : ℕ → Option (Content ℕ ℕ)
gap_closed i = directory_by_intervals i low_entries (far_entries ++ closing_run)

-- the begin of an atomic group with one value; a segment ends after it
abbrev pub begun : List (Record ℕ ℕ)
begun = Part (Begin 1) (of 1 (Put voter 1) ∷ []) ∷ []

-- the end of this atomic group, and then a newer value
abbrev pub ended_then_newer : List (Record ℕ ℕ)
ended_then_newer = Part (End 1) [] ∷ Plain (of 1 (Put voter 2) ∷ []) ∷ []

-- a newer value before the end of this atomic group
abbrev pub newer_then_ended : List (Record ℕ ℕ)
newer_then_ended = Plain (of 1 (Put voter 2) ∷ []) ∷ Part (End 1) [] ∷ []
