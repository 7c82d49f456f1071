use Rattle.std.proofs.Common.{◌+◌, ◌∙◌, ◌≤◌, length, Bool, ap, subst, sym, arith}
use Rattle.raft_log_fs.specs.Receipts.{Collects}
use Rattle.raft_log_file_reader.specs.Source.{bytes_of}
use Rattle.raft_log_file_reader.proofs.Refusals.{refused_earlier}
use Rattle.raft_log_file_reader.proofs.window.Window.peek.Goals as goal

pub end-requires : goal.end-requires
end-requires g c = omega (arith, c.requires.part.inside)

pub at_once-at_once-requires : goal.at_once-at_once-requires
at_once-at_once-requires g c = omega (arith, c.requires.part.inside)

pub move_to-requires : goal.move_to-requires
move_to-requires g c = omega (arith, c.requires.part.inside)

pub end-requires-2 : goal.end-requires-2
end-requires-2 g c = omega (arith, c.move_to.ensures.inside c.args.source.size (omega (arith, c.requires.inside)) c.requires.part.inside)

pub overflow_sub-source-2 : goal.overflow_sub-source-2
overflow_sub-source-2 g c = omega (arith, c.move_to.ensures.inside c.args.source.size (omega (arith, c.requires.inside)) c.requires.part.inside, c.end-3.ensures)

pub read_on-requires-clause-part : goal.read_on-requires-clause-part
read_on-requires-clause-part g c =
    let content = bytes_of c.args.source (g.F.FileSystem.disk c.args.file_system.now) in
    let inside : c.args.offset ≤ length content = omega (arith, c.requires.part.size, c.requires.inside) in
    record {
      size = c.requires.part.size;
      inside = c.move_to.ensures.inside c.args.source.size (omega (arith, c.requires.inside)) c.requires.part.inside;
      part = λ honest. c.move_to.ensures.part content inside (c.requires.part.part (ap (λ r. r.honest) (sym c.move_to.ensures.receipt) ∙ honest));
    }

pub read_on-requires-clause-inside : goal.read_on-requires-clause-inside
read_on-requires-clause-inside g c =
    omega (arith, c.move_to.ensures.inside c.args.source.size (omega (arith, c.requires.inside)) c.requires.part.inside, c.end-3.ensures, c.min-room.ensures)

pub returns-clause-err : goal.returns-clause-err
returns-clause-err g c =
    let moved = c.move_to.new.self in
    let behind : c.args.offset ≤ moved.start + length moved.bytes.items = omega (arith, c.move_to.ensures.start) in
    refused_earlier _ c.args.source (g.F.FileSystem.disk c.args.file_system.now) c.args.offset (moved.start + length moved.bytes.items) c.read_on.result behind c.read_on.ensures.err

pub returns-clause-receipts : goal.returns-clause-receipts
returns-clause-receipts g c = subst (λ (old : Bool). Collects _ old c.read_on.new.self.receipt.honest) (ap (λ r. r.honest) c.move_to.ensures.receipt) c.read_on.ensures.receipts
