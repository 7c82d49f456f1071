use Rattle.std.specs.String.{string_bytes}
use Rattle.std.proofs.Common.{rules, ◌≡◌, ℕ, ◌+◌, ◌<◌, suc, List, [], ◌∷◌, ◌++◌, length, map, drop, take, sym, subst, arith}
use Rattle.std.proofs.lemmas.List.{length-map, take_all}
use Rattle.raft_log_fs.proofs.Public.{later_then}
use Rattle.raft_log_file_pipe.specs.Calls.{DropsBy, DropsUntil}
use Rattle.raft_log_file_pipe.specs.Purging.{DropsTo, FailsToDropAll}
use Rattle.raft_log_file_pipe.proofs.Dropping.{drops_by_more, drops_more, drops_until, drop_fails, front_more, split_here}
use Rattle.raft_log_file_pipe.proofs.purging.drop_files.Goals as goal

pub returns-in_err-drop_file-clause-err : goal.returns-in_err-drop_file-clause-err
returns-in_err-drop_file-clause-err g c =
    let D = g.F.FileSystem.disk in
    let gone : List (List ℕ) = map string_bytes c.args.gone.now in
    let i : ℕ = c.loop-path.path-index in
    let inside : i < length c.args.gone.now = omega (arith, c.loop-path-test.true) in
    let less : i < length gone = omega (arith, inside, length-map c.args.gone.now string_bytes) in
    let front : take (suc i) gone ≡ take i gone ++ c.deref.result.now ∷ [] = subst (λ (p : List ℕ). take (suc i) gone ≡ take i gone ++ p ∷ []) (sym c.deref.ensures) (front_more c.args.gone.now i c.path-item.result inside c.path-item.is) in
    let left : FailsToDropAll (g.G.PipeFormat.format c.args.layout.now) (g.G.PipeFormat.own c.args.layout.now) (g.G.PipeFormat.file_paths c.args.layout.now) gone (D c.args.file_system.now) (D c.drop_file.new.file_system) =
    drop_fails (g.G.PipeFormat.format c.args.layout.now) (g.G.PipeFormat.own c.args.layout.now) (g.G.PipeFormat.file_paths c.args.layout.now) (g.met.G.PipeFormat.lawful c.args.layout.now) gone i c.deref.result.now c.in_err-drop_file.field-0.0
    (D c.args.file_system.now) (D c.loop-path.file_system) (D c.drop_file.new.file_system) less front c.loop-path.invariant.0 c.loop-path.invariant.1 c.in_err-drop_file.ensures.err c.in_err-drop_file.ensures.refusal in
    search (rules, left)

pub loop-path-preserved : goal.loop-path-preserved
loop-path-preserved g c =
    let D = g.F.FileSystem.disk in
    let gone : List (List ℕ) = map string_bytes c.args.gone.now in
    let i : ℕ = c.loop-path.path-index in
    let inside : i < length c.args.gone.now = omega (arith, c.loop-path-test.true) in
    let less : i < length gone = omega (arith, inside, length-map c.args.gone.now string_bytes) in
    let front : take (suc i) gone ≡ take i gone ++ c.deref.result.now ∷ [] = subst (λ (p : List ℕ). take (suc i) gone ≡ take i gone ++ p ∷ []) (sym c.deref.ensures) (front_more c.args.gone.now i c.path-item.result inside c.path-item.is) in
    let up : suc i ≡ i + 1 = omega arith in (
      subst (λ (n : ℕ). DropsTo (g.G.PipeFormat.format c.args.layout.now) (g.G.PipeFormat.own c.args.layout.now) (g.G.PipeFormat.file_paths c.args.layout.now) gone n (D c.args.file_system.now) (D c.drop_file.new.file_system)) up
          (drops_more (g.G.PipeFormat.format c.args.layout.now) (g.G.PipeFormat.own c.args.layout.now) (g.G.PipeFormat.file_paths c.args.layout.now) (g.met.G.PipeFormat.lawful c.args.layout.now) gone i c.deref.result.now
          (D c.args.file_system.now) (D c.loop-path.file_system) (D c.drop_file.new.file_system) (g.met.F.FileSystem.sound c.loop-path.file_system) less front c.loop-path.invariant.0 c.in_ok-drop_file.ensures.ok c.in_ok-drop_file.ensures.files c.in_ok-drop_file.ensures.calls),
      later_then (D c.args.file_system.now) (D c.loop-path.file_system) (D c.drop_file.new.file_system) c.loop-path.invariant.1 c.drop_file.ensures.later,
      subst (λ (n : ℕ). DropsBy (take n gone) (D c.args.file_system.now) (D c.drop_file.new.file_system)) up (subst (λ (ps : List (List ℕ)). DropsBy ps (D c.args.file_system.now) (D c.drop_file.new.file_system)) (sym front)
          (drops_by_more (take i gone) c.deref.result.now (D c.args.file_system.now) (D c.loop-path.file_system) (D c.drop_file.new.file_system) c.loop-path.invariant.2 c.in_ok-drop_file.ensures.calls)),
    )

pub returns-clause-ok : goal.returns-clause-ok
returns-clause-ok g c =
    let D = g.F.FileSystem.disk in
    let gone : List (List ℕ) = map string_bytes c.args.gone.now in
    let all : c.loop-path.path-index ≡ length c.args.gone.now = omega (arith, c.loop-path-test.false) in
    subst (λ (n : ℕ). DropsTo (g.G.PipeFormat.format c.args.layout.now) (g.G.PipeFormat.own c.args.layout.now) (g.G.PipeFormat.file_paths c.args.layout.now) gone n (D c.args.file_system.now) (D c.loop-path.file_system)) all c.loop-path.invariant.0

pub returns-in_err-drop_file-clause-refusal : goal.returns-in_err-drop_file-clause-refusal
returns-in_err-drop_file-clause-refusal g c =
    let D = g.F.FileSystem.disk in
    let gone : List (List ℕ) = map string_bytes c.args.gone.now in
    let i : ℕ = c.loop-path.path-index in
    let inside : i < length c.args.gone.now = omega (arith, c.loop-path-test.true) in
    let front : take (suc i) gone ≡ take i gone ++ c.deref.result.now ∷ [] = subst (λ (p : List ℕ). take (suc i) gone ≡ take i gone ++ p ∷ []) (sym c.deref.ensures) (front_more c.args.gone.now i c.path-item.result inside c.path-item.is) in
    let left : DropsUntil gone (D c.args.file_system.now) (D c.drop_file.new.file_system) =
    subst (λ (ps : List (List ℕ)). DropsUntil ps (D c.args.file_system.now) (D c.drop_file.new.file_system)) (split_here gone c.deref.result.now i front)
    (drops_until (take i gone) (drop (suc i) gone) c.deref.result.now c.in_err-drop_file.field-0.0 (D c.args.file_system.now) (D c.loop-path.file_system) (D c.drop_file.new.file_system) c.loop-path.invariant.2 c.in_err-drop_file.ensures.refusal) in
    search (rules, left)

pub returns-clause-calls : goal.returns-clause-calls
returns-clause-calls g c =
    let D = g.F.FileSystem.disk in
    let gone : List (List ℕ) = map string_bytes c.args.gone.now in
    let all : c.loop-path.path-index ≡ length c.args.gone.now = omega (arith, c.loop-path-test.false) in
    let whole : take c.loop-path.path-index gone ≡ gone = take_all c.loop-path.path-index gone (omega (arith, all, length-map c.args.gone.now string_bytes)) in
    subst (λ (ps : List (List ℕ)). DropsBy ps (D c.args.file_system.now) (D c.loop-path.file_system)) whole c.loop-path.invariant.2
