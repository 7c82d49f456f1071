-- What is noted of the atomic groups of two tables counts no file later than either did.
use Rattle.std.proofs.Common.{◌≡◌, ℕ, ◌≤◌, min, max, Bool, true, false, Option, Some, None, if◌then◌else◌, nat_le, arith, le_refl}
use Rattle.std.proofs.lemmas.Bool.Decides.{nat_tests}
use Rattle.raft_log_model_laws.specs.Summary.{lesser}
use Rattle.raft_log_memtable_index.specs.declared.group_files.GroupFiles.{GroupFiles}
use Rattle.raft_log_memtable_index.specs.Shown.{Shown}
use Rattle.raft_log_memtable_index.specs.Noted.{start_of}
use Rattle.raft_log_memtable_index.specs.Replayed.{Replayed, both_noted, joined, merged, with_newer}

start_below : (n : ℕ) (o : Option GroupFiles) → start_of n o ≤ n
start_below n None = le_refl n
start_below n (Some files) = below n files.from files.to
  where
    below : (n a b : ℕ) → (if nat_le n b then min a n else n) ≤ n
    below n a b = grind (arith, nat_tests)

pub both_cover : (n : ℕ) (a b : Option GroupFiles) → (start_of n (both_noted a b) ≤ start_of n a) × (start_of n (both_noted a b) ≤ start_of n b)
both_cover n None b = (start_below n b, le_refl (start_of n b))
both_cover n (Some a) None = (le_refl (start_of n (Some a)), start_below n (Some a))
both_cover n (Some a) (Some b) = (first n a.from b.from a.to b.to, second n a.from b.from a.to b.to)
  where
    first : (n a b c d : ℕ) → (if nat_le n (max c d) then min (min a b) n else n) ≤ (if nat_le n c then min a n else n)
    first n a b c d = grind (arith, nat_tests)

    second : (n a b c d : ℕ) → (if nat_le n (max c d) then min (min a b) n else n) ≤ (if nat_le n d then min b n else n)
    second n a b c d = grind (arith, nat_tests)

-- so it is of two segments
pub joined_cover : (a z : Replayed) (n : ℕ)
    → (start_of n (joined a z).table.noted ≤ start_of n z.table.noted) × (z.table.cleaned ≡ false → start_of n (joined a z).table.noted ≤ start_of n a.table.noted)
joined_cover a z n = at_table z.table.cleaned
  where
    at_table : (b : Bool)
        → (start_of n (if b then z else record { table = with_newer a.table z; low = max z.low a.low; high = lesser z.high a.high }).table.noted ≤ start_of n z.table.noted)
        × (b ≡ false → start_of n (if b then z else record { table = with_newer a.table z; low = max z.low a.low; high = lesser z.high a.high }).table.noted ≤ start_of n a.table.noted)
    at_table true = (le_refl (start_of n z.table.noted), λ h. absurd (let clash : true ≡ false = h in let never : ⊥ = cc in never))
    at_table false = let both = both_cover n a.table.noted z.table.noted in (both.1, λ h. both.0)

-- and of Append over Rewrite
pub merged_cover : (v : Shown) (z : Replayed) (n : ℕ)
    → (start_of n (merged v z).noted ≤ start_of n z.table.noted) × (z.table.cleaned ≡ false → start_of n (merged v z).noted ≤ start_of n v.noted)
merged_cover v z n = at_table z.table.cleaned
  where
    at_table : (b : Bool)
        → (start_of n (if b then z.table else with_newer (record v { cleaned = false; compacted = false; deleted = λ k. false }) z).noted ≤ start_of n z.table.noted)
        × (b ≡ false → start_of n (if b then z.table else with_newer (record v { cleaned = false; compacted = false; deleted = λ k. false }) z).noted ≤ start_of n v.noted)
    at_table true = (le_refl (start_of n z.table.noted), λ h. absurd (let clash : true ≡ false = h in let never : ⊥ = cc in never))
    at_table false = let both = both_cover n v.noted z.table.noted in (both.1, λ h. both.0)
