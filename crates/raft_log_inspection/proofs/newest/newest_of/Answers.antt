use Rattle.std.proofs.Common.{◌≡◌, ◌≤◌, ◌<◌, ℕ, All, length, take, subst, arith}
use Rattle.std.proofs.lemmas.List.Elements.{All-more, All-weaker}
use Rattle.std.proofs.Math.Seq.{take-length}
use Rattle.raft_log_recovery_scan.specs.declared.scanning.found.FoundFile.{FoundFile}
use Rattle.raft_log_inspection.proofs.newest.newest_of.Goals as goal

pub loop-file-preserved : goal.loop-file-preserved
loop-file-preserved c =
    let files = c.args.files.now in
    let i = c.loop-file.file-index in
    let old = c.loop-file.newest in
    let new = c.higher-newest.result in
    let lt : i < length files = c.loop-file-test.true in
    let one : old ≤ new = c.higher-newest.ensures.one in
    All-more (λ (file : FoundFile). file.seq ≤ new) files i _ lt
    (All-weaker (λ (file : FoundFile). file.seq ≤ old) (λ (file : FoundFile). file.seq ≤ new) (λ file le. omega (arith, le, one)) (take i files) c.loop-file.invariant)
    c.higher-newest.ensures.other

pub returns : goal.returns
returns c =
    let files = c.args.files.now in
    let P = λ (file : FoundFile). file.seq ≤ c.loop-file.newest in
    let low = c.loop-file-test.false in
    let high = c.loop-file.auto.file-index-end in
    let same : c.loop-file.file-index ≡ length files = omega (arith, low, high) in
    subst (All P) (take-length files) (subst (λ (n : ℕ). All P (take n files)) same c.loop-file.invariant)
