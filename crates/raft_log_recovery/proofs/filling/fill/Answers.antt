use Rattle.std.proofs.Common.{◌≡◌, ◌<◌, ℕ, length, subst, arith}
use Rattle.std.specs.Int.{div_ceil}
use Rattle.std.proofs.lemmas.Result.{err_from_is_err_and}
use Rattle.raft_log_recovery.specs.Filling.{WritesPieces}
use Rattle.raft_log_recovery.proofs.Pieces.{piece_begins, pieces_more}
use Rattle.raft_log_recovery.proofs.filling.fill.Goals as goal

pub overflow_mul-offset : goal.overflow_mul-offset
overflow_mul-offset g c =
    let below : c.loop-piece.piece < div_ceil c.args.size (length c.args.bytes.now) = omega arith in
    omega (arith, piece_begins c.args.size c.loop-piece.piece (length c.args.bytes.now) c.requires below)

pub returns-in_err-write_at-clause-err : goal.returns-in_err-write_at-clause-err
returns-in_err-write_at-clause-err g c =
    let D = g.F.FileSystem.disk in
    let gave = err_from_is_err_and c.from_residual.result c.from_residual.ensures.1 in
    let below : c.loop-piece.piece < div_ceil c.args.size (length c.args.bytes.now) = omega arith in
    rw (gave.1, gave.2) (record {
      count = c.loop-piece.piece;
      short = below;
      between = D c.loop-piece.file_system;
      written = c.loop-piece.invariant;
      fails = c.in_err-write_at.ensures.err;
    })

pub loop-piece-preserved : goal.loop-piece-preserved
loop-piece-preserved g c =
    let D = g.F.FileSystem.disk in
    pieces_more c.args.handle c.args.bytes.now c.loop-piece.piece (D c.args.file_system.now) (D c.loop-piece.file_system) (D c.write_at.new.self) c.loop-piece.invariant c.in_ok-write_at.ensures.ok

pub returns-clause-ok : goal.returns-clause-ok
returns-clause-ok g c =
    let D = g.F.FileSystem.disk in
    let all : c.loop-piece.piece ≡ div_ceil c.args.size (length c.args.bytes.now) = omega arith in
    subst (λ (n : ℕ). WritesPieces c.args.handle c.args.bytes.now n (D c.args.file_system.now) (D c.loop-piece.file_system)) all c.loop-piece.invariant
