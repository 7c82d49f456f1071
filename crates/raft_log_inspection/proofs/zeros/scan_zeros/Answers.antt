use Rattle.std.proofs.Common.{◌<◌, length, arith}
use Rattle.raft_log_file_reader.specs.Source.{bytes_in}
use Rattle.raft_log_inspection.proofs.ZeroLemmas.{not_false, not_zeros, zeros_behind}
use Rattle.raft_log_inspection.proofs.zeros.scan_zeros.Goals as goal

pub loop-at-init : goal.loop-at-init
loop-at-init g c = (c.requires.some, (λ honest. ((λ zeros. zeros), (λ zeros. zeros))), record { falls = λ honest. honest; stays = λ truth honest. honest })

pub loop-at-preserved : goal.loop-at-preserved
loop-at-preserved g c =
    let content = bytes_in ((g.F.FileSystem.disk c.args.files.now).files c.args.handle.file) in
    let piece = c.in_ok-piece.piece in
    let (some, since, receipts) = c.loop-at.invariant in
    let own = c.in_ok-piece.ensures.receipts in
    let all = not_false piece.has_zeros c.if-not-piece.false in
    let room : 0 < length c.read_piece.new.room = omega arith in (
      room,
      (λ honest.
          let behind = zeros_behind content c.loop-at.at piece.count ((c.in_ok-piece.ensures.ok honest).zeros.0 all) in
          let before = since (own.falls honest) in
          ((λ zeros. behind.0 (before.0 zeros)), (λ zeros. before.1 (behind.1 zeros)))),
      record { falls = λ honest. receipts.falls (own.falls honest); stays = λ truth honest. own.stays truth (receipts.stays truth honest) },
    )

pub returns-then-not-piece-clause-ok : goal.returns-then-not-piece-clause-ok
returns-then-not-piece-clause-ok g c = λ honest.
    let content = bytes_in ((g.F.FileSystem.disk c.args.files.now).files c.args.handle.file) in
    let piece = c.in_ok-piece.piece in
    not_zeros piece.has_zeros content c.args.offset c.loop-at.at piece.count c.if-not-piece.true (c.in_ok-piece.ensures.ok honest).zeros (c.loop-at.invariant.1 (c.in_ok-piece.ensures.receipts.falls honest))
