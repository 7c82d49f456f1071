use Rattle.std.proofs.Common.{◌≡◌, ◌++◌, List, Option, [], append-nil, ap, arith, inl, refl, subst, sym, ℕ, ◌∙◌}
use Rattle.std.proofs.lemmas.Result.{err_from_is_err_and}
use Rattle.raft_log_memtable.specs.Table.{shown}
use Rattle.raft_log_memtable.specs.Reads.{FetchRefused, places_between}
use Rattle.raft_log_extents.specs.Counts.{sized}
use Rattle.raft_log_memtable_index.specs.Shown.{Shown}
use Rattle.raft_log_block_cache.proofs.Public.{none_read}
use Rattle.raft_log_purge.specs.raft_log_engine_laws.specs.Fetching.{AreToRead}
use Rattle.raft_log_purge.specs.raft_log_engine_laws.specs.EngineState.{shows}
use Rattle.raft_log_engine_core.specs.Reads.{entries_on}
use Rattle.raft_log_engine_core.proofs.Entries.{fails_to_fetch, fetch_refused, fetches_to, none_counted, table_shown}
use Rattle.raft_log_engine_core.proofs.Pieces.{are_to_read, asked_within, first_there, on_length}
use Rattle.raft_log_engine_core.proofs.engine.LogEngine.read_to.Goals as goal

-- the greatest size, in bytes, is the one that was asked for
counted_bytes : (v : Shown) (begin end : ℕ) (bytes max : Option ℕ) (count : ℕ) → bytes ≡ max → count ≡ sized bytes (places_between v begin end) → count ≡ sized max (places_between v begin end)
counted_bytes v begin end bytes max count same is = is ∙ ap (λ m. sized m (places_between v begin end)) same

pub returns-in_default-clause-ok : goal.returns-in_default-clause-ok
returns-in_default-clause-ok g c =
    let s = shows (g.P.PipeLog.shown c.args.self.now.pipes) c.args.self.now.tables c.args.self.now.cache in
    fetches_to g.M.Message.reading s s c.args.raft_group_id c.requires refl c.args.begin c.args.end c.args.max_size [] [] c.args.messages.now.items c.args.messages.now.items 0
    (inl (none_counted c.args.self.now.tables c.args.raft_group_id c.in_default.ensures, refl)) (refl, refl) (sym (append-nil c.args.messages.now.items)) refl

pub returns-in_err-count-clause-err : goal.returns-in_err-count-clause-err
returns-in_err-count-clause-err g c =
    let s = shows (g.P.PipeLog.shown c.args.self.now.pipes) c.args.self.now.tables c.args.self.now.cache in
    let (same, some) = table_shown c.args.self.now.tables c.args.raft_group_id c.in-Some.table.now c.in-Some.ensures in
    let p = err_from_is_err_and c.from_residual.result c.from_residual.ensures.1 in
    rw (p.1, p.2) (fetch_refused g.M.Message.reading s c.args.raft_group_id c.args.begin c.args.end c.in_err-count.field-0.0 c.requires some
    (subst (λ (v : Shown). FetchRefused v c.args.begin c.args.end c.in_err-count.field-0.0) (sym same) c.in_err-count.ensures.err))

pub returns-then-count-eq0-clause-ok : goal.returns-then-count-eq0-clause-ok
returns-then-count-eq0-clause-ok g c =
    let s = shows (g.P.PipeLog.shown c.args.self.now.pipes) c.args.self.now.tables c.args.self.now.cache in
    let table = shown c.in-Some.table.now in
    let (same, some) = table_shown c.args.self.now.tables c.args.raft_group_id c.in-Some.table.now c.in-Some.ensures in
    let none : c.in_ok-count.count ≡ 0 = omega arith in
    let asked = are_to_read s c.args.raft_group_id table c.args.begin c.args.end c.args.max_size c.in_ok-count.count same some c.in_ok-count.ensures.within (counted_bytes table c.args.begin c.args.end c.in_bytes.result c.args.max_size c.in_ok-count.count c.in_bytes.ensures c.in_ok-count.ensures.ok) c.in_ok-count.ensures.few in
    fetches_to g.M.Message.reading s s c.args.raft_group_id c.requires refl c.args.begin c.args.end c.args.max_size [] [] c.args.messages.now.items c.args.messages.now.items 0
    (subst (λ (n : ℕ). AreToRead s c.args.raft_group_id c.args.begin c.args.end c.args.max_size (entries_on table c.args.begin n)) none asked) (refl, refl) (sym (append-nil c.args.messages.now.items)) refl

pub returns-in_err-count-clause-there : goal.returns-in_err-count-clause-there
returns-in_err-count-clause-there g c =
    let p = err_from_is_err_and c.from_residual.result c.from_residual.ensures.1 in
    rw (p.1, p.2) (λ memory. absurd (c.in_err-count.ensures.told memory))

pub returns-in_err-reserve-clause-there : goal.returns-in_err-reserve-clause-there
returns-in_err-reserve-clause-there g c =
    let (same, some) = table_shown c.args.self.now.tables c.args.raft_group_id c.in-Some.table.now c.in-Some.ensures in
    let p = err_from_is_err_and c.from_residual-in_err-reserve.result c.from_residual-in_err-reserve.ensures.1 in
    rw p.1 (λ memory. first_there (shown c.in-Some.table.now) _ c.args.begin c.args.end c.in_ok-count.count same (omega arith) c.in_ok-count.ensures.few c.in_ok-count.ensures.within)

pub returns-in_err-push_entries-clause-there : goal.returns-in_err-push_entries-clause-there
returns-in_err-push_entries-clause-there g c =
    let (same, some) = table_shown c.args.self.now.tables c.args.raft_group_id c.in-Some.table.now c.in-Some.ensures in
    let p = err_from_is_err_and c.from_residual-in_err-push_entries.result c.from_residual-in_err-push_entries.ensures.1 in
    rw (p.1, p.2) (λ memory. first_there (shown c.in-Some.table.now) _ c.args.begin c.args.end c.in_ok-count.count same (omega arith) c.in_ok-count.ensures.few c.in_ok-count.ensures.within)

pub returns-in_err-reserve-clause-err : goal.returns-in_err-reserve-clause-err
returns-in_err-reserve-clause-err g c =
    let v = g.P.PipeLog.shown c.args.self.now.pipes in
    let s = shows v c.args.self.now.tables c.args.self.now.cache in
    let table = shown c.in-Some.table.now in
    let (same, some) = table_shown c.args.self.now.tables c.args.raft_group_id c.in-Some.table.now c.in-Some.ensures in
    let p = err_from_is_err_and c.from_residual-in_err-reserve.result c.from_residual-in_err-reserve.ensures.1 in
    let es = entries_on table c.args.begin c.in_ok-count.count in
    let asked = are_to_read s c.args.raft_group_id table c.args.begin c.args.end c.args.max_size c.in_ok-count.count same some c.in_ok-count.ensures.within (counted_bytes table c.args.begin c.args.end c.in_bytes.result c.args.max_size c.in_ok-count.count c.in_bytes.ensures c.in_ok-count.ensures.ok) c.in_ok-count.ensures.few in
    rw p.1 (fails_to_fetch g.M.Message.reading s s c.args.raft_group_id c.requires refl c.args.begin c.args.end c.args.max_size es p.0 asked
    (none_read g.M.Message.reading v es c.args.self.now.cache p.0 p.2))

pub returns-in_err-push_entries-clause-err : goal.returns-in_err-push_entries-clause-err
returns-in_err-push_entries-clause-err g c =
    let v = g.P.PipeLog.shown c.args.self.now.pipes in
    let s = shows v c.args.self.now.tables c.args.self.now.cache in
    let t = shows v c.args.self.now.tables c.push_entries.new.cache in
    let table = shown c.in-Some.table.now in
    let (same, some) = table_shown c.args.self.now.tables c.args.raft_group_id c.in-Some.table.now c.in-Some.ensures in
    let p = err_from_is_err_and c.from_residual-in_err-push_entries.result c.from_residual-in_err-push_entries.ensures.1 in
    let asked = are_to_read s c.args.raft_group_id table c.args.begin c.args.end c.args.max_size c.in_ok-count.count same some c.in_ok-count.ensures.within (counted_bytes table c.args.begin c.args.end c.in_bytes.result c.args.max_size c.in_ok-count.count c.in_bytes.ensures c.in_ok-count.ensures.ok) c.in_ok-count.ensures.few in
    rw (p.1, p.2) (fails_to_fetch g.M.Message.reading s t c.args.raft_group_id c.requires refl c.args.begin c.args.end c.args.max_size
    (entries_on table c.args.begin c.in_ok-count.count) c.in_err-push_entries.field-0.0 asked c.in_err-push_entries.ensures.err)

pub returns-clause-ok : goal.returns-clause-ok
returns-clause-ok g c =
    let v = g.P.PipeLog.shown c.args.self.now.pipes in
    let s = shows v c.args.self.now.tables c.args.self.now.cache in
    let t = shows v c.args.self.now.tables c.push_entries.new.cache in
    let table = shown c.in-Some.table.now in
    let count = c.in_ok-count.count in
    let (same, some) = table_shown c.args.self.now.tables c.args.raft_group_id c.in-Some.table.now c.in-Some.ensures in
    let asked = are_to_read s c.args.raft_group_id table c.args.begin c.args.end c.args.max_size count same some c.in_ok-count.ensures.within (counted_bytes table c.args.begin c.args.end c.in_bytes.result c.args.max_size c.in_ok-count.count c.in_bytes.ensures c.in_ok-count.ensures.ok) c.in_ok-count.ensures.few in
    let (more, adds, read) = c.in_ok-push_entries.ensures.ok in
    let there = asked_within table c.args.begin c.args.end c.args.max_size count (counted_bytes table c.args.begin c.args.end c.in_bytes.result c.args.max_size c.in_ok-count.count c.in_bytes.ensures c.in_ok-count.ensures.ok) c.in_ok-count.ensures.few (omega arith) c.in_ok-count.ensures.within in
    fetches_to g.M.Message.reading s t c.args.raft_group_id c.requires refl c.args.begin c.args.end c.args.max_size (entries_on table c.args.begin count) more c.args.messages.now.items c.push_entries.new.messages.items count
    asked read (adds ∙ ap (λ (l : List g.row.M.Denot). l ++ more) c.reserve.ensures.items) (sym (on_length table c.args.begin count there.0 there.1))
