use Rattle.std.proofs.Common.{vec_capacity, ◌≡◌, ℕ, ◌+◌, ◌≤◌, List, ◌++◌, length, take, drop, sym, ap, subst, ◌∙◌, arith}
use Rattle.raft_log_record_items.specs.declared.item.LogItem.{LogItem}
use Rattle.raft_log_record_items.specs.Placed.{laid_out}
use Rattle.raft_log_record_batches.specs.Batch.{Batch, roomy, IsBatch, max_entries_len}
use Rattle.raft_log_record_batches.proofs.Moves.{behind_header, behind_room, moved_items, merged, merged_seen, entries_count}
use Rattle.raft_log_record_batches.proofs.Places.{view_laid, merge_bytes}
use Rattle.raft_log_record_batches.proofs.log_batch.LogBatch.merge.Goals as goal

pub invariant_of-self-2 : goal.invariant_of-self-2
invariant_of-self-2 c =
    let old : List LogItem = c.self.inside.items.items in
    let other : List LogItem = c.rhs.inside.items.items in
    let len : ℕ = c.self.inside.entries_len in
    let first : c.len-first.result ≡ length old = c.len-first.ensures in
    let items : c.lay_out_rest.new.self.items ≡ old ++ laid_out len other =
    c.lay_out_rest.ensures.items ∙ ap (λ (l : List LogItem). take c.len-first.result l ++ laid_out len (drop c.len-first.result l)) c.in_ok-move_parts.ensures.items.0.0 ∙ moved_items old other c.len-first.result len first in
    let grown : c.move_parts.new.buf.items ≡ roomy c.self.inside.buf.items ++ drop 16 (roomy c.rhs.inside.buf.items) =
    c.in_ok-move_parts.ensures.bytes ∙ ap (λ (l : List ℕ). c.make_room.new.buf.items ++ l) (behind_header c.deref.result.now c.min-header.result ∙ ap (λ (l : List ℕ). drop c.min-header.result l) c.deref.ensures.value ∙ behind_room c.rhs.inside.buf.items c.min-header.result (omega (arith, c.min-header.ensures, c.len.ensures, c.rhs.inside.buf.ok.0)) (omega (arith, c.rhs.invariant.room)))
    ∙ ap (λ (l : List ℕ). l ++ drop 16 (roomy c.rhs.inside.buf.items)) c.in_ok-make_room.ensures.ok in
    let fits : len + c.rhs.inside.entries_len ≤ max_entries_len = omega (arith, c.if-rhs-self.false, c.self.invariant.fits) in
    subst (λ (l : List LogItem). IsBatch c.self.inside.state (roomy c.move_parts.new.buf.items) (len + c.rhs.inside.entries_len) c.self.inside.checksum l) (sym items)
    (merged c.self.inside.state c.rhs.inside.state (roomy c.self.inside.buf.items) (roomy c.rhs.inside.buf.items) c.move_parts.new.buf.items len c.rhs.inside.entries_len c.self.inside.checksum c.rhs.inside.checksum old other
    (ap (λ (b : Batch). b.state) c.self.view_is ∙ c.requires.own) (ap (λ (b : Batch). b.state) c.rhs.view_is ∙ c.requires.other) fits grown c.self.invariant c.rhs.invariant)

pub returns-clause-ok : goal.returns-clause-ok
returns-clause-ok c =
    let old : List LogItem = c.self.inside.items.items in
    let other : List LogItem = c.rhs.inside.items.items in
    let len : ℕ = c.self.inside.entries_len in
    let own : List ℕ = take len (drop 16 (roomy c.self.inside.buf.items)) in
    let bytes : List ℕ = take c.rhs.inside.entries_len (drop 16 (roomy c.rhs.inside.buf.items)) in
    let first : c.len-first.result ≡ length old = c.len-first.ensures in
    let items : c.lay_out_rest.new.self.items ≡ old ++ laid_out len other =
    c.lay_out_rest.ensures.items ∙ ap (λ (l : List LogItem). take c.len-first.result l ++ laid_out len (drop c.len-first.result l)) c.in_ok-move_parts.ensures.items.0.0 ∙ moved_items old other c.len-first.result len first in
    let grown : c.move_parts.new.buf.items ≡ roomy c.self.inside.buf.items ++ drop 16 (roomy c.rhs.inside.buf.items) =
    c.in_ok-move_parts.ensures.bytes ∙ ap (λ (l : List ℕ). c.make_room.new.buf.items ++ l) (behind_header c.deref.result.now c.min-header.result ∙ ap (λ (l : List ℕ). drop c.min-header.result l) c.deref.ensures.value ∙ behind_room c.rhs.inside.buf.items c.min-header.result (omega (arith, c.min-header.ensures, c.len.ensures, c.rhs.inside.buf.ok.0)) (omega (arith, c.rhs.invariant.room)))
    ∙ ap (λ (l : List ℕ). l ++ drop 16 (roomy c.rhs.inside.buf.items)) c.in_ok-make_room.ensures.ok in
    let seen = merged_seen c.self.inside.state c.rhs.inside.state (roomy c.self.inside.buf.items) (roomy c.rhs.inside.buf.items) c.move_parts.new.buf.items len c.rhs.inside.entries_len c.self.inside.checksum c.rhs.inside.checksum old other
    (ap (λ (b : Batch). b.state) c.self.view_is ∙ c.requires.own) (ap (λ (b : Batch). b.state) c.rhs.view_is ∙ c.requires.other) grown c.self.invariant c.rhs.invariant in
    let cap : ℕ = c.lay_out_rest.new.self.capacity in
    let grew : ℕ = vec_capacity c.move_parts.new.buf in (
      (
        ap (λ (l : List LogItem). record { state = c.self.inside.state; items = l; entries = take (len + c.rhs.inside.entries_len) (drop 16 (roomy c.move_parts.new.buf.items)); capacity = cap; buffer = grew }) items
            ∙ ap (λ (l : List ℕ). record { state = c.self.inside.state; items = old ++ laid_out len other; entries = l; capacity = cap; buffer = grew }) seen
            ∙ ap (λ (n : ℕ). record { state = c.self.inside.state; items = old ++ laid_out n other; entries = own ++ bytes; capacity = cap; buffer = grew }) (sym (entries_count (roomy c.self.inside.buf.items) len c.self.invariant.room))
            ∙ ap (λ (b : Batch). record { state = b.state; items = b.items ++ laid_out (length b.entries) other; entries = b.entries ++ bytes; capacity = cap; buffer = grew }) c.self.view_is
            ∙ ap (λ (b : Batch). record { state = c.args.self.now.state; items = c.args.self.now.items ++ laid_out (length c.args.self.now.entries) b.items; entries = c.args.self.now.entries ++ b.entries; capacity = cap; buffer = grew }) c.rhs.view_is,
        omega (arith, c.lay_out_rest.ensures.room, c.in_ok-move_parts.ensures.items.0.1, ap (λ (b : Batch). b.capacity) c.self.view_is),
      ),
      omega (arith, c.make_room.ensures.grows, c.in_ok-move_parts.ensures.grows, ap (λ (b : Batch). b.buffer) c.self.view_is),
    )

pub returns-clause-bytes : goal.returns-clause-bytes
returns-clause-bytes c =
    let seen = view_laid c.self.inside.state (roomy c.self.inside.buf.items) c.self.inside.entries_len c.self.inside.checksum c.self.inside.items.capacity (vec_capacity c.self.inside.buf) c.self.inside.items.items c.args.self.now c.self.view_is c.self.invariant in
    let other = view_laid c.rhs.inside.state (roomy c.rhs.inside.buf.items) c.rhs.inside.entries_len c.rhs.inside.checksum c.rhs.inside.items.capacity (vec_capacity c.rhs.inside.buf) c.rhs.inside.items.items c.args.rhs.now c.rhs.view_is c.rhs.invariant in
    merge_bytes c.args.self.now _ c.args.rhs.now seen.0 seen.1 other.0 (returns-clause-ok c).0
