use Rattle.std.proofs.Common.{◌≡◌, ◌++◌, List, sym, refl, ap, subst, ◌∙◌}
use Rattle.std.proofs.lemmas.Bool.{false≢true}
use Rattle.std.proofs.lemmas.Result.{err_from_is_err_and}
use Rattle.raft_log_record_base.specs.declared.pipe_log.FileBlockHandle.{FileBlockHandle}
use Rattle.raft_log_record_items.specs.declared.item.LogItem.{LogItem}
use Rattle.raft_log_record_items.specs.Placed.{written}
use Rattle.raft_log_record_batches.specs.Batch.{Batch, block_place}
use Rattle.raft_log_purge_copy.proofs.PartExits.{record_is_made}
use Rattle.raft_log_purge_copy.proofs.Copying.{written_there}
use Rattle.raft_log_record_frames.specs.Meaning.{tagged_items}
use Rattle.raft_log_memtables.specs.Rewriting.{PromisesMoves}
use Rattle.raft_log_purge_copy.specs.GroupParts.{items_of_all}
use Rattle.raft_log_purge_copy.specs.Promised.{AreOfOne}
use Rattle.raft_log_purge_copy.specs.Taking.{HaveRoom}
use Rattle.raft_log_purge_copy.proofs.Recording.{one_written, record_refused, record_written, takes_made}
use Rattle.raft_log_purge_copy.proofs.Room.{last_written, room_written, same_twice}
use Rattle.raft_log_purge_copy.proofs.Adding.{same_adds}
use Rattle.raft_log_purge_copy.proofs.Together.{all_let_go, room_spent}
use Rattle.raft_log_purge_copy.proofs.taking.write_last.Goals as goal

pub take_items-requires : goal.take_items-requires
take_items-requires g c =
    let b = c.args.batch in
    let pop = c.in_ok-len.ensures.ok in
    let made = c.new-signed.ensures in
    let back = c.into_batch-batch.result in
    let is_back = c.into_batch-batch.ensures.batch in
    let said = c.append-appended.ensures.said in
    let same : back.items ≡ b.items = ap (λ (x : Batch). x.items) is_back ∙ ap (λ (x : Batch). x.items) said ∙ ap (λ (x : Batch). x.items) made ∙ ap (λ (x : Batch). x.items) pop in
    let bytes : back.entries ≡ b.entries = ap (λ (x : Batch). x.entries) is_back ∙ ap (λ (x : Batch). x.entries) said ∙ ap (λ (x : Batch). x.entries) made ∙ ap (λ (x : Batch). x.entries) pop in
    let there = written_there b back c.finish_write.new.self c.in-Ok.block c.items-in-Ok.result.now same bytes c.finish_write.ensures.written c.items-in-Ok.ensures in
    let here : c.items.result.now ≡ b.items = c.items.ensures ∙ ap (λ (x : Batch). x.items) pop in
    let room = subst (λ (l : List LogItem). HaveRoom c.make_room.new.tables c.args.parts.now l) here c.in_ok-make_room.ensures.ok in
    subst (λ (l : List LogItem). HaveRoom c.make_room.new.tables c.args.parts.now l) (sym there) (room_written c.make_room.new.tables c.args.parts.now b.items room (block_place c.in-Ok.block b.entries))

pub returns-in-Ok-clause-ok : goal.returns-in-Ok-clause-ok
returns-in-Ok-clause-ok g c =
    let b = c.args.batch in
    let pop = c.in_ok-len.ensures.ok in
    let made = c.new-signed.ensures in
    let back = c.into_batch-batch.result in
    let is_back = c.into_batch-batch.ensures.batch in
    let e = c.in-Ok.ensures in
    let n = c.encoded_len.ensures in
    let items_made : c.new-signed.result.batch.items ≡ b.items = ap (λ (x : Batch). x.items) made ∙ ap (λ (x : Batch). x.items) pop in
    let bytes_made : c.new-signed.result.batch.entries ≡ b.entries = ap (λ (x : Batch). x.entries) made ∙ ap (λ (x : Batch). x.entries) pop in
    let is = record_is_made b c.new-signed.result.batch items_made bytes_made n.says n.laid n.adds in
    let same : back.items ≡ b.items = ap (λ (x : Batch). x.items) is_back ∙ ap (λ (x : Batch). x.items) e.said ∙ items_made in
    let bytes : back.entries ≡ b.entries = ap (λ (x : Batch). x.entries) is_back ∙ ap (λ (x : Batch). x.entries) e.said ∙ bytes_made in
    let there = written_there b back c.finish_write.new.self c.in-Ok.block c.items-in-Ok.result.now same bytes c.finish_write.ensures.written c.items-in-Ok.ensures in
    last_written c.args.parts.now b c.in-Ok.block c.items-in-Ok.result.now (g.P.PipeLog.shown c.args.pipes.now) (g.P.PipeLog.shown c.append-appended.new.self) c.args.tables.now c.make_room.new.tables c.take_items.new.tables
    (record_written b c.new-signed.result.batch (g.P.PipeLog.shown c.args.pipes.now) (g.P.PipeLog.shown c.sync_if_due.new.pipes) (g.P.PipeLog.shown c.append-appended.new.self) c.in_ok-sync_if_due.ensures.ok is c.in_ok-sync_if_due.ensures.later e.later
    c.in-Ok.block (written (block_place c.in-Ok.block b.entries) b.items) e.fails e.ok refl)
    c.make_room.ensures.shows c.in_ok-make_room.ensures.stay there c.take_items.ensures.took

pub returns-in-Ok-clause-counted : goal.returns-in-Ok-clause-counted
returns-in-Ok-clause-counted g c =
    let b = c.args.batch in
    let pop = c.in_ok-len.ensures.ok in
    let made = c.new-signed.ensures in
    let n = c.encoded_len.ensures in
    let is = record_is_made b c.new-signed.result.batch (ap (λ (x : Batch). x.items) made ∙ ap (λ (x : Batch). x.items) pop) (ap (λ (x : Batch). x.entries) made ∙ ap (λ (x : Batch). x.entries) pop) n.says n.laid n.adds in
    let mid = g.P.PipeLog.shown c.sync_if_due.new.pipes in
    let w = g.P.PipeLog.shown c.append-appended.new.self in
    one_written b c.args.unsynced.now c.sync_if_due.new.unsynced c.saturating_add.result c.in_ok-len.len (g.P.PipeLog.shown c.args.pipes.now) mid w c.in_ok-sync_if_due.ensures.due c.in_ok-len.ensures.ready c.saturating_add.ensures
    (takes_made b c.new-signed.result.batch mid w is c.in-Ok.block c.in-Ok.ensures.ok)

pub returns-clause-err : goal.returns-clause-err
returns-clause-err g c =
    let b = c.args.batch in
    let pop = c.in_ok-len.ensures.ok in
    let made = c.new-signed.ensures in
    let e = c.in-Err.ensures in
    let n = c.encoded_len.ensures in
    let is = record_is_made b c.new-signed.result.batch (ap (λ (x : Batch). x.items) made ∙ ap (λ (x : Batch). x.items) pop) (ap (λ (x : Batch). x.entries) made ∙ ap (λ (x : Batch). x.entries) pop) n.says n.laid n.adds in record {
      fails =
          record_refused b c.new-signed.result.batch (g.P.PipeLog.shown c.args.pipes.now) (g.P.PipeLog.shown c.sync_if_due.new.pipes) (g.P.PipeLog.shown c.append-appended.new.self) c.in_ok-sync_if_due.ensures.ok is c.in_ok-sync_if_due.ensures.later e.later
          {A = FileBlockHandle} c.in-Err.error e.fails e.err e.range e.refusal;
      same = same_twice c.args.tables.now c.make_room.new.tables c.take_back.new.self c.make_room.ensures.shows c.take_back.ensures.shows;
    }

pub returns-in_err-make_room-clause-moves : goal.returns-in_err-make_room-clause-moves
returns-in_err-make_room-clause-moves g c =
    let pop = c.in_ok-len.ensures.ok in
    let here : c.items.result.now ≡ c.args.batch.items = c.items.ensures ∙ ap (λ (x : Batch). x.items) pop in
    λ one alive none. c.in_err-make_room.ensures.moves (subst (AreOfOne c.args.parts.now) (sym here) one) none

-- room is kept where the engine has failed
pub returns-in_err-sync_if_due-clause-moves : goal.returns-in_err-sync_if_due-clause-moves
returns-in_err-sync_if_due-clause-moves g c =
    let p = err_from_is_err_and c.from_residual-in_err-sync_if_due.result c.from_residual-in_err-sync_if_due.ensures.1 in
    rw p.1 (λ one alive none. absurd (false≢true (sym alive ∙ c.in_err-sync_if_due.ensures.failed)))

pub returns-in-Ok-clause-moves : goal.returns-in-Ok-clause-moves
returns-in-Ok-clause-moves g c =
    let b = c.args.batch in
    let pop = c.in_ok-len.ensures.ok in
    let made = c.new-signed.ensures in
    let back = c.into_batch-batch.result in
    let is_back = c.into_batch-batch.ensures.batch in
    let said = c.append-appended.ensures.said in
    let same : back.items ≡ b.items = ap (λ (x : Batch). x.items) is_back ∙ ap (λ (x : Batch). x.items) said ∙ ap (λ (x : Batch). x.items) made ∙ ap (λ (x : Batch). x.items) pop in
    let bytes : back.entries ≡ b.entries = ap (λ (x : Batch). x.entries) is_back ∙ ap (λ (x : Batch). x.entries) said ∙ ap (λ (x : Batch). x.entries) made ∙ ap (λ (x : Batch). x.entries) pop in
    let there = written_there b back c.finish_write.new.self c.in-Ok.block c.items-in-Ok.result.now same bytes c.finish_write.ensures.written c.items-in-Ok.ensures in
    let here : c.items.result.now ≡ b.items = c.items.ensures ∙ ap (λ (x : Batch). x.items) pop in
    let asked = subst (λ (l : List LogItem). PromisesMoves c.args.tables.now c.make_room.new.tables (tagged_items (λ e. e) (items_of_all c.args.parts.now ++ l))) here c.in_ok-make_room.ensures.asked in
    λ one alive none.
    room_spent c.args.tables.now c.make_room.new.tables c.take_items.new.tables c.args.parts.now b.items c.items-in-Ok.result.now (block_place c.in-Ok.block b.entries) there asked c.take_items.ensures.spent none

pub returns-clause-moves : goal.returns-clause-moves
returns-clause-moves g c =
    let b = c.args.batch in
    let pop = c.in_ok-len.ensures.ok in
    let made = c.new-signed.ensures in
    let back = c.into_batch-batch.result in
    let is_back = c.into_batch-batch.ensures.batch in
    let said = c.append-appended.ensures.said in
    let same : back.items ≡ b.items = ap (λ (x : Batch). x.items) is_back ∙ ap (λ (x : Batch). x.items) said ∙ ap (λ (x : Batch). x.items) made ∙ ap (λ (x : Batch). x.items) pop in
    let here : c.items.result.now ≡ b.items = c.items.ensures ∙ ap (λ (x : Batch). x.items) pop in
    let asked = subst (λ (l : List LogItem). PromisesMoves c.args.tables.now c.make_room.new.tables (tagged_items (λ e. e) (items_of_all c.args.parts.now ++ l))) here c.in_ok-make_room.ensures.asked in
    let e = c.take_back.ensures in
    λ one alive none. all_let_go c.args.tables.now c.make_room.new.tables c.take_back.new.self c.args.parts.now b.items c.items-in-Err.result.now (c.items-in-Err.ensures ∙ same) asked e.moves e.others one none

pub returns-in_err-make_room-clause-owes : goal.returns-in_err-make_room-clause-owes
returns-in_err-make_room-clause-owes g c = same_adds c.args.tables.now c.make_room.new.tables c.make_room.ensures.shows

pub returns-in_err-sync_if_due-clause-owes : goal.returns-in_err-sync_if_due-clause-owes
returns-in_err-sync_if_due-clause-owes g c = same_adds c.args.tables.now c.make_room.new.tables c.make_room.ensures.shows

pub returns-in-Ok-clause-owes : goal.returns-in-Ok-clause-owes
returns-in-Ok-clause-owes g c = λ v h. c.take_items.ensures.owes v (same_adds c.args.tables.now c.make_room.new.tables c.make_room.ensures.shows v h)

pub returns-clause-owes : goal.returns-clause-owes
returns-clause-owes g c = same_adds c.args.tables.now c.take_back.new.self (same_twice c.args.tables.now c.make_room.new.tables c.take_back.new.self c.make_room.ensures.shows c.take_back.ensures.shows)
