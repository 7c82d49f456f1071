use Rattle.std.proofs.Common.{◌≡◌, ◌+◌, ◌-◌, List, ℕ, length, take, drop, ap, ◌∙◌, arith}
use Rattle.std.proofs.lemmas.List.{length-take, length-drop}
use Rattle.raft_log_file_reader.proofs.Parts.{part_held}
use Rattle.raft_log_file_reader.proofs.window.Window.held.Goals as goal

pub returns-clause-bytes : goal.returns-clause-bytes
returns-clause-bytes c = λ content part.
    let k = c.args.offset - c.args.self.now.start in
    let n : k + c.args.size - k ≡ c.args.size = omega arith in
    ap (λ m. take m (drop k c.deref.result.now)) n ∙ ap (λ (l : List ℕ). take c.args.size (drop k l)) c.deref.ensures.value
    ∙ part_held c.args.self.now.start c.args.self.now.bytes.items content c.args.offset c.args.size c.requires part

pub returns-clause-len : goal.returns-clause-len
returns-clause-len c =
    let k = c.args.offset - c.args.self.now.start in
    let all = c.deref.result.now in
    omega (arith, length-take (k + c.args.size - k) (drop k all), length-drop k all, ap length c.deref.ensures.value, c.requires.from, c.requires.to)
