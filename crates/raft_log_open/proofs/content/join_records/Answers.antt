use Rattle.std.proofs.Common.{◌≡◌, ℕ, ◌-◌, List, [], ◌∷◌, ◌++◌, take, drop, refl, sym, ap, subst, ◌∙◌}
use Rattle.std.proofs.lemmas.List.{append-nil}
use Rattle.raft_log_file_reader.specs.Source.{bytes_of}
use Rattle.raft_log_file_reader.specs.Reader.{end_of}
use Rattle.raft_log_file_reader.specs.declared.open_file.OpenFile.{OpenFile}
use Rattle.raft_log_open.specs.Content.{HasBytes}
use Rattle.raft_log_open.specs.PaddingReading.{Joins}
use Rattle.raft_log_open.proofs.Joining.{bytes_go_on, joins_all, more_joined, record_bytes}
use Rattle.raft_log_open.proofs.content.join_records.Goals as goal

pub loop-start-init : goal.loop-start-init
loop-start-init g c = (
  [],
  record { reading = c.requires.reading; same = refl; file = c.requires.open.file; opened = c.requires.open.opened; has = λ honest all. refl },
  sym (append-nil c.args.new.now.items),
  record { falls = λ honest. honest; stays = λ truth honest. honest },
)

pub loop-start-preserved : goal.loop-start-preserved
loop-start-preserved g c =
    let d = g.F.FileSystem.disk c.args.file_system.now in
    let (records, work, is, receipts) = c.loop-start.invariant in
    let content = bytes_of work.file.source d in
    let moves = rw c.in-Record.is at (c.in_ok-start.ensures.ok work.file work.opened) in
    let falls = c.in_ok-start.ensures.receipts.falls in
    let start = c.in-Record.start in
    let from = end_of c.loop-start.reader in
    let end = end_of c.read_next.new.reader in
    let told : c.valid_offset-end.result ≡ end = c.valid_offset-end.ensures in
    let bytes = take (end - start) (drop start c.args.bytes.now) in
    let slice : take (c.valid_offset-end.result - start) (drop start c.args.bytes.now) ≡ bytes = ap (λ (n : ℕ). take (n - start) (drop start c.args.bytes.now)) told in (
      records ++ bytes ∷ [],
      record {
        reading = c.read_next.ensures.reading;
        same = c.read_next.ensures.file ∙ work.same;
        file = work.file;
        opened = c.read_next.ensures.file ∙ work.opened;
        has = λ honest all.
            let next = moves.reads honest in
            let own = record_bytes work.file content from start end next.items next.batch next.begins in
            bytes_go_on work.file content (end_of c.args.reader.now) from end records bytes (work.has (falls honest) all)
            (subst (λ (l : List ℕ). HasBytes work.file content from (take (end - start) (drop start l)) end) (sym all) own);
      },
      more_joined records bytes c.args.new.now.items c.loop-start.new.items c.extend_from_slice.new.self.items is
          (c.in_ok-extend_from_slice-in-Record.ensures.items ∙ ap (λ (l : List ℕ). c.loop-start.new.items ++ l) slice),
      record { falls = λ honest. receipts.falls (falls honest); stays = λ truth honest. c.in_ok-start.ensures.receipts.stays truth (receipts.stays truth honest) },
    )

pub returns-in-End-clause-ok : goal.returns-in-End-clause-ok
returns-in-End-clause-ok g c = λ file opened honest all.
    let d = g.F.FileSystem.disk c.args.file_system.now in
    let (records, work, is, receipts) = c.loop-start.invariant in
    let was = work.opened in
    let kept = work.same in
    let here : work.file ≡ file = cc in
    let own : c.args.bytes.now ≡ bytes_of work.file.source d = all ∙ ap (λ (f : OpenFile). bytes_of f.source d) (sym here) in
    let content = bytes_of work.file.source d in
    let found = rw c.in-End.is at (c.in_ok-start.ensures.ok work.file work.opened) in
    let none = found honest in
    let offset = end_of c.args.reader.now in
    let old = c.args.new.now.items in
    let now = c.loop-start.new.items in
    let has = work.has (c.in_ok-start.ensures.receipts.falls honest) own in
    subst (λ (f : OpenFile). Joins f c.args.bytes.now offset old now) here
    (subst (λ (l : List ℕ). Joins work.file l offset old now) (sym own) (joins_all work.file content offset (end_of c.loop-start.reader) records old now has none is))
