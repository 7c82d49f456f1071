use Rattle.std.proofs.Common.{vec_capacity, subst, ℕ, List, take, drop, ap, ◌∙◌}
use Rattle.raft_log_record_batches.specs.declared.log_batch.BatchState.TheVariants.{Populated}
use Rattle.raft_log_record_batches.specs.Batch.{IsReadyForEach, Batch, roomy}
use Rattle.raft_log_record_frames.specs.Made.{MakesRecord}
use Rattle.raft_log_record_batches.proofs.Buffer.{filled_populates}
use Rattle.raft_log_record_batches.proofs.log_batch.LogBatch.finish_populate.Goals as goal

pub invariant_of-self-in-Ok : goal.invariant_of-self-in-Ok
invariant_of-self-in-Ok c =
    let made = filled_populates c.self.inside.entries_len (roomy c.self.inside.buf.items) c.fill_record.new.buf.items c.self.inside.checksum c.in-Ok.checksum c.self.inside.state c.self.inside.items.items c.as_slice-2.result.now
    (ap (λ (b : Batch). b.state) c.self.view_is ∙ c.requires) c.self.invariant.room c.self.invariant.holds c.as_slice-2.ensures (subst (λ (l : List ℕ). MakesRecord l c.fill_record.new.buf.items c.in-Ok.checksum c.as_slice-2.result.now) c.in_ok-make_room.ensures.ok c.in-Ok.ensures.ok) in
    record { room = made.room; fits = c.self.invariant.fits; adds = c.self.invariant.adds; laid = c.self.invariant.laid; holds = made.holds }

pub returns-in-Ok-clause-ok : goal.returns-in-Ok-clause-ok
returns-in-Ok-clause-ok c =
    let entries : List ℕ = take c.self.inside.entries_len (drop 16 (roomy c.self.inside.buf.items)) in
    let made = filled_populates c.self.inside.entries_len (roomy c.self.inside.buf.items) c.fill_record.new.buf.items c.self.inside.checksum c.in-Ok.checksum c.self.inside.state c.self.inside.items.items c.as_slice-2.result.now
    (ap (λ (b : Batch). b.state) c.self.view_is ∙ c.requires) c.self.invariant.room c.self.invariant.holds c.as_slice-2.ensures (subst (λ (l : List ℕ). MakesRecord l c.fill_record.new.buf.items c.in-Ok.checksum c.as_slice-2.result.now) c.in_ok-make_room.ensures.ok c.in-Ok.ensures.ok) in
    ap (λ (e : List ℕ). record { state = Populated; items = c.self.inside.items.items; entries = e; capacity = c.self.inside.items.capacity; buffer = vec_capacity c.fill_record.new.buf }) made.same ∙ ap (λ (b : Batch). record b { state = Populated; buffer = vec_capacity c.fill_record.new.buf }) c.self.view_is

pub returns-in-Ok-clause-ready : goal.returns-in-Ok-clause-ready
returns-in-Ok-clause-ready c =
    let entries : List ℕ = take c.self.inside.entries_len (drop 16 (roomy c.self.inside.buf.items)) in
    let made = filled_populates c.self.inside.entries_len (roomy c.self.inside.buf.items) c.fill_record.new.buf.items c.self.inside.checksum c.in-Ok.checksum c.self.inside.state c.self.inside.items.items c.as_slice-2.result.now
    (ap (λ (b : Batch). b.state) c.self.view_is ∙ c.requires) c.self.invariant.room c.self.invariant.holds c.as_slice-2.ensures (subst (λ (l : List ℕ). MakesRecord l c.fill_record.new.buf.items c.in-Ok.checksum c.as_slice-2.result.now) c.in_ok-make_room.ensures.ok c.in-Ok.ensures.ok) in
    let same = ap (λ (e : List ℕ). record { state = Populated; items = c.self.inside.items.items; entries = e; capacity = c.self.inside.items.capacity; buffer = vec_capacity c.fill_record.new.buf }) made.same ∙ ap (λ (b : Batch). record b { state = Populated; buffer = vec_capacity c.fill_record.new.buf }) c.self.view_is in
    subst (λ (b : Batch). IsReadyForEach c.encoded_len.result b.items b.entries) same c.encoded_len.ensures.ready
