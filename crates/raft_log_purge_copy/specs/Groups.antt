-- Groups are rewritten: all that they have in Append, in files up to the gate, is copied to Rewrite. In each
-- definition, `s` and `t` are the engine before and after, and `test` says which groups are meant.
use Rattle.std.specs.Prelude.{◌≡◌, ◌↔◌, ◌+◌, ◌==◌, IsTrue, ℕ, Bool, true, false, List, drop}
use Rattle.std.specs.List.{list_any}
use Rattle.raft_log_fs.specs.Causes.{IsLater}
use Rattle.raft_log_record_base.specs.declared.errors.Error.{Error}
use Rattle.raft_log_record_base.specs.declared.errors.Error.TheVariants as errors
use Rattle.raft_log_extents.specs.Counts.{passing}
use Rattle.raft_log_memtable_index.specs.Shown.{Shown}
use Rattle.raft_log_engine_laws.specs.raft_log_memtable.specs.Files.{FrontIsLeast, IsLeastInAppend}
use Rattle.raft_log_engine_laws.specs.EngineState.{EngineState, has_failed}
use Rattle.raft_log_engine_laws.specs.Raising.{AppendMayBegin}
use Rattle.raft_log_purge_copy.specs.Parts.{StaysInFile}
use Rattle.raft_log_purge_copy.specs.Moving.{IsPartlyRewritten, IsRewrittenTo}
use Rattle.raft_log_purge_copy.specs.Reasons.{GivesReason}
use Rattle.raft_log_purge_copy.specs.Rewriting.{OweNothing, StaysHeld, StaysOrIsLeft}

-- For each group that passes the test, a part of what it had in files of Append up to the gate moved to Rewrite. The
-- part may be nothing or all. Other groups are unchanged.
pub record RewritesPart (test : ℕ → Bool) (gate : ℕ) (s t : EngineState) : Type 0 where
  pub parts : (g : ℕ) → IsPartlyRewritten gate (s.tables g) (t.tables g)
  pub others : (g : ℕ) → test g ≡ false → t.tables g ≡ s.tables g
  pub counts : t.counts ≡ s.counts
  pub later : IsLater s.pipes.disk t.pipes.disk

-- each group that passes the test was rewritten: it has nothing in files of Append up to the gate
pub record Rewrites (test : ℕ → Bool) (gate : ℕ) (s t : EngineState) : Type 0 where
  pub part : RewritesPart test gate s t
  pub whole : (g : ℕ) → test g ≡ true → IsRewrittenTo gate (t.tables g)
  pub alive : has_failed s ≡ false → has_failed t ≡ false
  pub stays : StaysInFile s.pipes t.pipes
  pub holds : StaysHeld s t

-- Rewriting the groups that pass the test failed, perhaps after a part of what they had in Append moved to Rewrite. If
-- no tombstone is owed, the error says why.
pub record StopsRewriting (test : ℕ → Bool) (gate : ℕ) (error : Error) (s t : EngineState) : Type 0 where
  pub part : RewritesPart test gate s t
  pub tells : has_failed s ≡ false → IsTrue (has_failed t) ↔ (error ≡ errors.Failed)
  pub remains : StaysOrIsLeft error s t
  pub cause : OweNothing s.tables → GivesReason error s t

-- all entries that the group had in Append, in files up to the gate, were copied to Rewrite
pub record RewritesEntries (group gate : ℕ) (s t : EngineState) : Type 0 where
  pub part : RewritesPart (λ g. group == g) gate s t
  pub none : passing gate (drop (t.tables group).rewritten (t.tables group).places) ≡ 0
  pub alive : has_failed s ≡ false → has_failed t ≡ false
  pub stays : StaysInFile s.pipes t.pipes
  pub holds : StaysHeld s t

-- this one group was rewritten
abbrev pub RewritesGroup : ℕ → ℕ → EngineState → EngineState → Type 0
RewritesGroup group gate s t = Rewrites (λ g. group == g) gate s t

-- rewriting this one group failed
abbrev pub StopsAtGroup : ℕ → ℕ → Error → EngineState → EngineState → Type 0
StopsAtGroup group gate error s t = StopsRewriting (λ g. group == g) gate error s t

-- each of these groups was rewritten
abbrev pub RewritesGroups : List ℕ → ℕ → EngineState → EngineState → Type 0
RewritesGroups groups gate s t = Rewrites (λ g. list_any (λ k. k == g) groups) gate s t

-- rewriting these groups failed
abbrev pub StopsAtGroups : List ℕ → ℕ → Error → EngineState → EngineState → Type 0
StopsAtGroups groups gate error s t = StopsRewriting (λ g. list_any (λ k. k == g) groups) gate error s t

-- The tables show no entry or value in files of Append up to the gate, so Append may begin after the gate, if:
-- - all groups were rewritten up to the gate
-- - no tombstone is owed
-- - in each queue, no entry of a group is in an earlier file than the group's first one there
abbrev pub RewrittenGroupsArePast : Type 0
RewrittenGroupsArePast = (gate : ℕ) (v : ℕ → Shown) → ((g : ℕ) → IsRewrittenTo gate (v g))
    → ((g : ℕ) → FrontIsLeast (v g)) → OweNothing v
    → AppendMayBegin (gate + 1) v × ((g : ℕ) → IsLeastInAppend (v g) (gate + 1))
