use Rattle.std.specs.IoError.{error_kind}
use Rattle.std.specs.String.{string_bytes}
use Rattle.raft_voter_program.proofs.Left.{on_any_err, untold}
use Rattle.raft_voter_program.proofs.over_store.run_bytes_leaving.Goals as goal

pub returns-in_err-write_whole-clause-err : goal.returns-in_err-write_whole-clause-err
returns-in_err-write_whole-clause-err g c =
    on_any_err c.from_residual.result _
    (λ fault. untold g.S.RoundService.service g.S.VoterStorage.upkeep g.F.VoterDisk.disk g.C.StoreSetup.setup c.in-Ok.told.files c.args.bytes.now (string_bytes c.in-Ok.told.text) c.as_bytes.result.now
    c.in-Ok.told.status (g.W.Write.contents c.args.writer.now) (g.W.Write.contents c.write_whole.new.writer) (error_kind fault) c.as_bytes.ensures.value c.in-Ok.ensures c.in_err-write_whole.ensures.err)
