use Rattle.std.proofs.Common.{◌+◌, ◌<◌, [], map, length, take, sym, ap, subst, ◌∙◌}
use Rattle.std.specs.String.{string_bytes}
use Rattle.raft_log_recovery_read.proofs.Public.{takes_none}
use Rattle.raft_log_inspection.specs.Steps.{HandsFiles}
use Rattle.raft_log_inspection.proofs.FileLemmas.{hands_damaged, hands_sound}
use Rattle.raft_log_inspection.proofs.inspecting.read_files.Goals as goal
use Rattle.raft_log_inspection.proofs.inspecting.read_files.Goals.{in-Some+in_ok-push, in_default}

pub loop-file-init : goal.loop-file-init
loop-file-init g c = (
  (λ honest. record { segments = []; taken = takes_none (g.M.ReplayMachine.reads c.args.queue) c.args.machine.now; intact = λ none. tt }),
  record { falls = λ honest. honest; stays = λ truth honest. honest },
)

pub loop-file-preserved : goal.loop-file-preserved
loop-file-preserved g c =
    let reads = g.M.ReplayMachine.reads c.args.queue in
    let d = g.F.FileSystem.disk c.args.files.now in
    let directories = map string_bytes c.args.paths.now in
    let files = c.args.found.now in
    let i = c.loop-file.file-index in
    let lt : i < length files = c.loop-file-test.true in
    let damages = c.loop-file.damages.items in
    let (handed, receipts) = c.loop-file.invariant in
    let own = c.in_ok-damage.ensures.receipts in (
      (λ honest.
          let before = handed (own.falls honest) in
          let next = c.in_ok-damage.ensures.ok honest in
          elim c.match-damage.branch [
            | in-Some+in_ok-push w ↦
                subst (HandsFiles reads c.args.queue directories d c.args.newest (take (i + 1) files) c.args.machine.now c.read_one.new.machine) (sym (ap (λ v. v.items) w.damages-is ∙ w.in_ok-push.ensures.items))
                (hands_damaged reads c.args.queue directories d c.args.newest files i _ lt c.args.machine.now c.loop-file.machine c.read_one.new.machine damages c.in_ok-damage.damage w.in-Some.damage before next)
            | in_default w ↦
                subst (HandsFiles reads c.args.queue directories d c.args.newest (take (i + 1) files) c.args.machine.now c.read_one.new.machine) (sym (ap (λ v. v.items) w.damages-is))
                (hands_sound reads c.args.queue directories d c.args.newest files i _ lt c.args.machine.now c.loop-file.machine c.read_one.new.machine damages c.in_ok-damage.damage before next w.in_default.is)
          ]),
      record { falls = λ honest. receipts.falls (own.falls honest); stays = λ truth honest. own.stays truth (receipts.stays truth honest) },
    )
