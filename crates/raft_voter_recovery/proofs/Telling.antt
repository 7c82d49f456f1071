-- What is told of an engine behind a read was so before it.
use Rattle.std.proofs.Common.{◌≡◌, ◌∙◌, ℕ, ◌+◌, ◌<◌, ◌≤◌, [], length, refl, sym, ap, subst, inl, inr, arith}
use Rattle.raft_log_record_base.specs.declared.errors.Error.{Error}
use Rattle.raft_log_memtable_index.specs.Shown.{Shown}
use Rattle.raft_voter_durability_laws.specs.raft_log_engine_laws.specs.raft_log_memtable.specs.Reads.{AreIn}
use Rattle.raft_voter_durability_laws.specs.raft_log_engine_laws.specs.raft_log_block_cache.specs.declared.block_cache.BlockCache.{BlockCache}
use Rattle.raft_voter_durability_laws.specs.raft_log_engine_laws.specs.EngineState.{LogMap, EngineState, has_failed}
use Rattle.raft_voter_durability_laws.specs.raft_log_engine_laws.specs.Fetching.{StaysButBlock}
use Rattle.raft_voter_records.specs.Voters.{IsForeign}
use Rattle.raft_voter_durability_laws.specs.Requests.{WereUnread}
use Rattle.raft_voter_recovery.specs.declared.unread.Unread.{Unread}
use Rattle.raft_voter_recovery.specs.declared.unread.Unread.TheVariants as causes
use Rattle.raft_voter_recovery.specs.Reading.{IsRefused, IsUnreadFor, Tells}

pub stays_at_first : (s : EngineState) → StaysButBlock s s
stays_at_first s = record { same = refl; holds = λ home m pending h. h }

pub stays_on : (s t u : EngineState) → StaysButBlock s t → StaysButBlock t u → StaysButBlock s u
stays_on s t u a b = record {
  same = b.same ∙ ap (λ (e : EngineState). record e { cache = u.cache }) a.same;
  holds = λ home m pending h. b.holds home m pending (a.holds home m pending h);
}

pub told_before : (P : LogMap → Type 0) (s t : EngineState) → StaysButBlock s t → Tells t P → Tells s P
told_before P s t stays told = λ home m h. told home m (stays.holds home m [] h)

were_unread : (g from to : ℕ) (s : EngineState) (cache : BlockCache) (error : Error)
    → WereUnread g from to (record s { cache = cache }) error → WereUnread g from to s error
were_unread g from to s cache error w = record {
  index = w.index;
  entry = w.entry;
  block = w.block;
  asked = w.asked;
  stands = w.stands;
  placed = w.placed;
  why = w.why;
}

refused_before : (error : Error) (s t : EngineState) → StaysButBlock s t → IsRefused error t → IsRefused error s
refused_before error s t stays (inl failed) = inl (failed.0, sym (ap (λ (e : EngineState). has_failed e) stays.same) ∙ failed.1)
refused_before error s t stays (inr (g, from, to, why)) =
    inr (
      g,
      from,
      to,
      λ home m h.
          were_unread g from to s t.cache error (subst (λ (e : EngineState). WereUnread g from to e error) stays.same (why home m (stays.holds home m [] h))),
    )

pub unread_before : (cause : Unread) (s t : EngineState) → StaysButBlock s t → IsUnreadFor cause t → IsUnreadFor cause s
unread_before (causes.Engine error) s t stays why = refused_before error s t stays why
unread_before (causes.Foreign g) s t stays why = told_before (λ m. IsForeign (m g)) s t stays why
unread_before causes.Memory s t stays why = tt

-- tables that had entries behind a base have those behind it further on
pub placed_on : (s t : EngineState) (g base next end : ℕ) → StaysButBlock s t → AreIn (s.tables g) (base + 1) end → base < next → AreIn (t.tables g) next end
placed_on s t g base next end stays placed above some =
    let ends = placed (omega (arith, above, some)) in
    let same : t.tables g ≡ s.tables g = ap (λ (e : EngineState). e.tables g) stays.same in
    subst (λ (v : Shown). (v.first ≤ next) × (end ≤ v.first + length v.places)) (sym same) (omega (arith, ends.0, above), ends.1)

-- tables that had entries up to an end have those below an earlier one
pub placed_below : (v : Shown) (from to end : ℕ) → AreIn v from end → from < to → to ≤ end → AreIn v from to
placed_below v from to end placed some reach = λ less.
    let ends = placed (omega (arith, some, reach)) in
    (ends.0, omega (arith, ends.1, reach))
