use Rattle.std.proofs.Common.{ℕ, ◌+◌, ◌<◌, List, length, get_or, refl, rules, arith}
use Rattle.std.proofs.lemmas.Option.{slice_get-get_or}
use Rattle.raft_voter_messages.specs.StoredForms.{entry_text}
use Rattle.raft_voter_records.proofs.BoundLemmas.{length-entry_texts, text_at}
use Rattle.raft_voter_records.proofs.stored_entries.StoredEntriesEntryWriter.append.Goals as goal

pub bounds-self-place : goal.bounds-self-place
bounds-self-place c = omega (arith, c.requires, length-entry_texts c.args.self.now.first c.args.self.now.entries.now)

pub offset_bounds-self-place : goal.offset_bounds-self-place
offset_bounds-self-place c =
    let lt : c.args.place < length c.args.self.now.entries.now = omega (arith, c.requires, length-entry_texts c.args.self.now.first c.args.self.now.entries.now) in
    first_of (search rules, grind arith)

pub overflow_add-index : goal.overflow_add-index
overflow_add-index c = omega (arith, c.requires, length-entry_texts c.args.self.now.first c.args.self.now.entries.now, c.args.self.now.small)

pub returns-in-Ok-clause-ok : goal.returns-in-Ok-clause-ok
returns-in-Ok-clause-ok c =
    let first : ℕ = c.args.self.now.first in
    let es : List (ℕ × List ℕ) = c.args.self.now.entries.now in
    let e : ℕ × List ℕ = get_or es c.args.place c.index-self-place.result in
    let lt : c.args.place < length es = omega (arith, c.requires, length-entry_texts first es) in
    record {
      text = entry_text (record { index = first + c.args.place; term = e.0; bytes = e.1 });
      found = text_at first es c.args.place (first + c.args.place) e (slice_get-get_or es c.args.place c.index-self-place.result lt) refl;
      appended = rw c.as_slice.ensures at c.in-Ok.ensures.ok;
    }
