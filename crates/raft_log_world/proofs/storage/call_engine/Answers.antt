use Rattle.std.proofs.Common.{subst, sym}
use Rattle.raft_log_world.specs.declared.event.Call.{Call}
use Rattle.raft_log_world.specs.declared.event.Event.TheVariants.{Serve}
use Rattle.raft_log_world.specs.declared.storage.Storage.TheVariants.{Open}
use Rattle.raft_log_world.specs.Logs.{Follows}
use Rattle.raft_log_world.proofs.storage.call_engine.Goals as goal

pub returns-in-Write : goal.returns-in-Write
returns-in-Write g c =
    subst (λ (call : Call g.row.B.Denot). Follows g.F.LogFiles.log (Open c.args.engine.now) (Serve call) c.write.result (Open c.write.new.engine)) (sym c.in-Write.is) c.write.ensures

pub returns-in-Sync : goal.returns-in-Sync
returns-in-Sync g c =
    subst (λ (call : Call g.row.B.Denot). Follows g.F.LogFiles.log (Open c.args.engine.now) (Serve call) c.sync.result (Open c.sync.new.engine)) (sym c.in-Sync.is) c.sync.ensures

pub returns-in-Get : goal.returns-in-Get
returns-in-Get g c =
    subst (λ (call : Call g.row.B.Denot). Follows g.F.LogFiles.log (Open c.args.engine.now) (Serve call) c.get.result (Open c.get.new.engine)) (sym c.in-Get.is) c.get.ensures

pub returns-in-GetEntry : goal.returns-in-GetEntry
returns-in-GetEntry g c =
    subst (λ (call : Call g.row.B.Denot). Follows g.F.LogFiles.log (Open c.args.engine.now) (Serve call) c.get_entry.result (Open c.get_entry.new.engine)) (sym c.in-GetEntry.is) c.get_entry.ensures

pub returns-in-FirstIndex : goal.returns-in-FirstIndex
returns-in-FirstIndex g c =
    subst (λ (call : Call g.row.B.Denot). Follows g.F.LogFiles.log (Open c.args.engine.now) (Serve call) c.first_index.result (Open c.first_index.new.engine)) (sym c.in-FirstIndex.is) c.first_index.ensures

pub returns-in-LastIndex : goal.returns-in-LastIndex
returns-in-LastIndex g c =
    subst (λ (call : Call g.row.B.Denot). Follows g.F.LogFiles.log (Open c.args.engine.now) (Serve call) c.last_index.result (Open c.last_index.new.engine)) (sym c.in-LastIndex.is) c.last_index.ensures

pub returns-in-Fetch : goal.returns-in-Fetch
returns-in-Fetch g c =
    subst (λ (call : Call g.row.B.Denot). Follows g.F.LogFiles.log (Open c.args.engine.now) (Serve call) c.fetch.result (Open c.fetch.new.engine)) (sym c.in-Fetch.is) c.fetch.ensures

pub returns-in-Scan : goal.returns-in-Scan
returns-in-Scan g c =
    subst (λ (call : Call g.row.B.Denot). Follows g.F.LogFiles.log (Open c.args.engine.now) (Serve call) c.scan.result (Open c.scan.new.engine)) (sym c.in-Scan.is) c.scan.ensures

pub returns-in-Compact : goal.returns-in-Compact
returns-in-Compact g c =
    subst (λ (call : Call g.row.B.Denot). Follows g.F.LogFiles.log (Open c.args.engine.now) (Serve call) c.compact.result (Open c.compact.new.engine)) (sym c.in-Compact.is) c.compact.ensures

pub returns-in-Purge : goal.returns-in-Purge
returns-in-Purge g c =
    subst (λ (call : Call g.row.B.Denot). Follows g.F.LogFiles.log (Open c.args.engine.now) (Serve call) c.purge.result (Open c.purge.new.engine)) (sym c.in-Purge.is) c.purge.ensures
