-- What reads of several entries, or of several keys, answer.
use Rattle.std.proofs.Common.{◌≡◌, ℕ, Bool, false, List, [], ◌∷◌, map, Option, None, Some, refl, sym, ap, subst, ◌∙◌}
use Rattle.std.specs.Prelude.{Err, Ok}
use Rattle.std.specs.Global.{Vec}
use Rattle.raft_log_engine.specs.raft_log_model_laws.specs.Groups.{taken}
use Rattle.raft_log_engine.specs.raft_log_record_base.specs.declared.errors.Error.{Error}
use Rattle.raft_log_engine.specs.raft_log_record_items.specs.declared.raw_message.RawMessage.{RawMessage}
use Rattle.raft_log_engine.specs.raft_log_engine_core.specs.ModelCalls.{FetchesMessages, FollowsModel, ModelReads}
use Rattle.raft_log_engine.specs.raft_log_engine_laws.specs.EngineState.{EngineState, has_failed, said_of}
use Rattle.raft_log_engine.specs.raft_log_engine_laws.specs.Reading.{ReadsKeys}
use Rattle.raft_log_world.specs.declared.event.Answer.{Answer}
use Rattle.raft_log_world.specs.declared.event.Answer.TheVariants.{Entries, Keys, Refused}
use Rattle.raft_log_world.specs.declared.event.Call.TheVariants.{Fetch, Scan}
use Rattle.raft_log_world.specs.Model.{Serves}
use Rattle.raft_log_world.specs.Model.ModelLog.{running}
use Rattle.raft_log_world.specs.Reads.{Contents, Fetches, Scans, bytes_of}
use Rattle.raft_log_world_engine.specs.Calls.{HasCopied, HasCopiedKeys, ServesAs, failure_of}
use Rattle.raft_log_world_engine.proofs.Calling.{both, done, had_failed, reading, undone_read}
use Rattle.raft_log_world_engine.proofs.Homes.{alive}

-- Fetches.

abbrev bytes : RawMessage → List ℕ
bytes message = message.bytes

-- the entries that were read as these messages are their bytes
read_bytes : (entries : List (List ℕ)) (messages : List RawMessage) → map reading entries ≡ map Some messages → entries ≡ map bytes messages
read_bytes entries messages is = sym (of_entries entries) ∙ ap (map bytes_or_none) is ∙ of_messages messages
  where
    bytes_or_none : Option RawMessage → List ℕ
    bytes_or_none None = []
    bytes_or_none (Some message) = message.bytes

    of_entries : (xs : List (List ℕ)) → map bytes_or_none (map reading xs) ≡ xs
    of_entries [] = refl
    of_entries (x ∷ xs) = ap (λ (l : List (List ℕ)). x ∷ l) (of_entries xs)

    of_messages : (xs : List RawMessage) → map bytes_or_none (map Some xs) ≡ map bytes xs
    of_messages [] = refl
    of_messages (x ∷ xs) = ap (λ (l : List (List ℕ)). x.bytes ∷ l) (of_messages xs)

module _ (s t : EngineState) (group begin end : ℕ) (max : Option ℕ) (messages : List RawMessage) where
  abbrev Is : Contents → ℕ → Type 0
  Is m count = FetchesMessages reading group begin end max [] messages m count

  fetched : (count : ℕ) (m : Contents) → Is m count → Fetches m group begin end max (map bytes messages)
  fetched count m f = subst (Fetches m group begin end max) (read_bytes f.entries messages (f.read ∙ ap (λ (l : List RawMessage). map Some l) (sym f.adds))) f.fetches

  pub fetch_served : (count : ℕ) (answer : Answer) → HasCopied (map bytes messages) answer → FollowsModel (ModelReads Is) (Ok count) s t → ServesAs s (Fetch group begin end max) answer t
  fetch_served count (Entries told) copied follows =
      done (ModelReads Is) count (Fetch group begin end max) (Entries told) s t
      (λ m pending next did. (subst (Fetches (taken m pending) group begin end max) (sym copied) (fetched count (taken m pending) did.0), did.1)) follows
  fetch_served count Refused copied follows = done (ModelReads Is) count (Fetch group begin end max) Refused s t (λ m pending next did. did.1) follows
  fetch_served count _ copied follows = absurd copied

pub not_fetched : (s t : EngineState) (group begin end : ℕ) (max : Option ℕ) (is : Contents → ℕ → Type 0) (error : Error) → FollowsModel (ModelReads is) (Err error) s t → ServesAs s (Fetch group begin end max) (failure_of (has_failed t)) t
not_fetched s t group begin end max is error follows = undone_read is error (Fetch group begin end max) s t (λ m pending next same. same) follows

-- Scans.

pub scan_served : (s : EngineState) (group : ℕ) (start end : Option (Vec ℕ)) (pairs : List (List ℕ × List ℕ)) (answer : Answer) → has_failed s ≡ false → ReadsKeys s group (bytes_of start) (bytes_of end) pairs → HasCopiedKeys pairs answer
    → ServesAs s (Scan group start end) answer s
scan_served s group start end pairs (Keys told) lives reads copied = record {
  runs = λ home m pending h.
      let are = reads.exact home m pending h in
      let scans : Scans (taken m pending) group (bytes_of start) (bytes_of end) pairs = record { rising = are.rising; inside = are.inside; outside = are.outside } in
      (running m pending, (subst (Scans (taken m pending) group (bytes_of start) (bytes_of end)) (sym copied) scans, refl), h);
  fails = λ fails. absurd (both s lives fails);
}
scan_served s group start end pairs Refused lives reads copied = record {
  runs = λ home m pending h. (running m pending, refl, h);
  fails = λ fails. absurd (both s lives fails);
}
scan_served s group start end pairs _ lives reads copied = absurd copied

pub not_scanned : (s : EngineState) (group : ℕ) (start end : Option (Vec ℕ)) → ServesAs s (Scan group start end) (failure_of (has_failed s)) s
not_scanned s group start end = record {
  runs = λ home m pending h. (
    running m pending,
    subst (λ (b : Bool). Serves said_of m pending (Scan group start end) (failure_of b) (running m pending)) (sym (alive home s m pending h)) refl,
    h,
  );
  fails = λ fails. had_failed s s fails refl;
}
