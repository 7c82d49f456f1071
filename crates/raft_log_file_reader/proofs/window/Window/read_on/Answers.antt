use Rattle.std.specs.Vec.{vec_len}
use Rattle.std.proofs.Common.{◌≡◌, ◌+◌, ◌-◌, ◌≤◌, ◌++◌, length, take, drop, replicate, ℕ, List, ap, ◌∙◌, sym, subst, arith}
use Rattle.std.proofs.lemmas.List.{take_all, length-take, length-drop, with_items_is}
use Rattle.raft_log_file_reader.specs.Window.{IsPart}
use Rattle.raft_log_file_reader.specs.Source.{bytes_of, CannotReadPart}
use Rattle.raft_log_file_reader.proofs.Parts.{part_put, put-length}
use Rattle.raft_log_file_reader.proofs.window.Window.read_on.Goals as goal

pub returns-in-Ok-clause-part : goal.returns-in-Ok-clause-part
returns-in-Ok-clause-part g c =
    let bytes = c.args.self.now.bytes.items in
    let content = bytes_of c.args.source (g.F.FileSystem.disk c.args.file_system.now) in
    let held : c.len-held.result ≡ length bytes = omega (arith, c.len-held.ensures) in
    let room : List ℕ = replicate (c.len-held.result + c.args.room - vec_len c.args.self.now.bytes) 0 in
    let long : length bytes ≤ c.len-held.result + c.args.room = omega (arith, held) in
    let resized : c.deref_mut.result.now ≡ bytes ++ room = c.deref_mut.ensures.value ∙ c.in_ok-resize.ensures.items ∙ ap (λ (l : List ℕ). l ++ room) (take_all (c.len-held.result + c.args.room) bytes long) in
    let all = c.deref_mut.result.now in
    let put = take c.len-held.result all ++ (c.fill.new.room ++ drop (length all - c.len-held.result) (drop c.len-held.result all)) in
    let inside : c.len-held.result ≤ length all = omega (arith, c.deref_mut.ensures.len, c.in_ok-resize.ensures.len) in
    let kept : length put ≡ vec_len c.resize.new.self = put-length c.len-held.result all c.fill.new.room inside (c.fill.auto.room) ∙ c.deref_mut.ensures.len in
    let are = with_items_is c.resize.new.self put kept in
    record {
      size = c.requires.part.size;
      inside = omega (arith, ap length are, kept, c.in_ok-resize.ensures.len, held, c.requires.inside);
      part = λ honest.
          let before = c.requires.part.part (c.in-Ok.ensures.receipts.falls honest) in
          let part = part_put c.args.self.now.start c.len-held.result bytes room all c.fill.new.room content before held resized (c.in-Ok.ensures.ok honest) in
          subst (λ (l : List ℕ). IsPart c.args.self.now.start l content) (sym are) part;
    }

pub returns-in-Err-clause-unread : goal.returns-in-Err-clause-unread
returns-in-Err-clause-unread g c = λ honest.
    let d = g.F.FileSystem.disk c.args.file_system.now in
    let bytes = c.args.self.now.bytes.items in
    let all = c.deref_mut.result.now in
    let held : c.len-held.result ≡ length bytes = omega (arith, c.len-held.ensures) in
    let room = take (length all - c.len-held.result) (drop c.len-held.result all) in
    let count : length room ≡ c.args.room = omega (arith, length-take (length all - c.len-held.result) (drop c.len-held.result all), length-drop c.len-held.result all, c.deref_mut.ensures.len, c.in_ok-resize.ensures.len) in
    subst (λ (n : ℕ). CannotReadPart c.args.source (c.args.self.now.start + length bytes) n d c.in-Err.error) count
    (subst (λ (n : ℕ). CannotReadPart c.args.source (c.args.self.now.start + n) (length room) d c.in-Err.error) held (c.in-Err.ensures.unread honest))
