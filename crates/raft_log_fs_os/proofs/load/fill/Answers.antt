use Rattle.std.proofs.Common.{refl, ap, ◌∙◌, arith, ◌≡◌, ◌<◌, ℕ, List, Some, nat_eq, length}
use Rattle.std.specs.Map.{update}
use Rattle.std.specs.Vec.{with_item}
use Rattle.raft_log_fs.specs.Disk.{file_limit}
use Rattle.raft_log_fs_state.specs.declared.change.Stamped.{Stamped}
use Rattle.raft_log_fs_state.specs.declared.files.Stored.{Stored}
use Rattle.raft_log_fs_state.specs.declared.storage.Storage.{Storage}
use Rattle.raft_log_fs_state.specs.Held.{Held, held, held_of, resting, before, made_in}
use Rattle.raft_log_fs_os.proofs.Filling.{is_below, held_put, fills, whole_fills}
use Rattle.raft_log_fs_os.proofs.load.fill.Goals as goal

pub returns-clause-whole : goal.returns-clause-whole
returns-clause-whole c =
    let old = c.args.storage.now in
    let bytes = c.args.content.items in
    let stored : Stored = record { content = c.from_vec.result; changes = c.new-changes.result } in
    let new : Storage = record old { files = with_item old.files c.args.file (Some stored) } in
    let rests : held stored ≡ resting bytes =
    ap (λ (us : List Stamped). let h : Held = record { content = c.from_vec.result; synced = before us c.from_vec.result; changes = made_in us c.from_vec.result } in h) c.new-changes.ensures.items
    ∙ ap resting c.from_vec.ensures in
    let files : (q : ℕ) → held_of new.files.items q ≡ update nat_eq (held_of old.files.items) c.args.file (Some (resting bytes)) q =
    λ q. held_put old.files.items c.args.file stored (omega (arith, is_below old c.args.file c.requires.there, old.files.ok)) q
    ∙ ap (λ (h : Held). update nat_eq (held_of old.files.items) c.args.file (Some h) q) rests in
    let short : length bytes < file_limit = omega (arith, c.args.content.ok, c.args.content.small) in
    whole_fills old new c.args.file bytes c.requires.whole c.requires.there short (fills old new c.args.file bytes refl files refl) files refl
