-- What a purge of Append has to know of all groups before it begins; a survey finds this in one walk over the tables.
use Rattle.std.specs.Prelude.{◌≡◌, ℕ, Bool, false, Option, Some, None}
use Rattle.raft_log_memtables.specs.declared.mem_tables.MemTables.{MemTables}
use Rattle.raft_log_memtables.specs.Owing.{AreOwed}
use Rattle.raft_log_memtables.specs.Walking.{Stand}
use Rattle.raft_log_purge_policy.specs.Picking.{ListsPicked}
use Rattle.raft_log_purge_policy.specs.declared.survey.Survey.{Survey}
use Rattle.raft_log_purge_policy.specs.declared.watermarks.Watermarks.{Watermarks}

-- `seen` is what a survey of the tables `m` found:
-- - the groups that a purge of Append up to the watermarks `marks` picks, as in `ListsPicked`
-- - the tombstones owed to Rewrite
-- - how many live entries and values Rewrite has
pub record Surveys (marks : Watermarks) (counts : ℕ → ℕ) (restated : Bool) (m : MemTables) (seen : Survey)
    : Type 0 where
  pub upto : seen.watermarks ≡ marks
  pub picks : ListsPicked marks counts restated m seen.picked
  pub owed : AreOwed m seen.marks.items
  pub stands : Stand m seen.standing

-- if there is a survey, it was made of the tables `m` with these counts, for a purge that hasn't compacted Rewrite
abbrev pub SurveysIfTold : (ℕ → ℕ) → MemTables → Option Survey → Type 0
SurveysIfTold counts m None = Unit {0}
SurveysIfTold counts m (Some seen) = Surveys seen.watermarks counts false m seen
