use Rattle.std.proofs.Common.{◌≡◌, ◌↔◌, ◌∙◌, ℕ, List, ap, option_map, subst, sym}
use Rattle.std.specs.Global.{Vec}
use Rattle.std.specs.Prelude.{IsTrue}
use Rattle.raft_log_model_laws.specs.Meaning.Slot.{Key}
use Rattle.raft_log_model_laws.specs.Meaning.Content.{Value}
use Rattle.raft_log_world.specs.declared.event.Answer.{Answer}
use Rattle.raft_log_world.specs.declared.event.Call.{Call}
use Rattle.raft_log_world.specs.declared.event.Event.{Event}
use Rattle.raft_log_world.specs.declared.event.Event.TheVariants.{Serve}
use Rattle.raft_log_world.specs.Reads.{Contents, Fetches, all_bytes, bytes_of}
use Rattle.raft_log_judge.specs.declared.change.Change.{Change}
use Rattle.raft_log_judge.specs.Contents.{after_all}
use Rattle.raft_log_judge.specs.Views.{IsRead}
use Rattle.raft_log_judge.proofs.reading.is_read.Goals as goal

-- a read, by what the event, the call and the answer are
read_as : {C P : Type 0} (m : Contents) (event : Event (List Change) C) (call other : Call (List Change)) (answer told : Answer) → event ≡ Serve call → call ≡ other → answer ≡ told → P ↔ IsRead {C = C} m (Serve other) told
    → P ↔ IsRead m event answer
read_as {C} {P} m event call other answer told is same as_told reads =
    subst (λ (e : Event (List Change) C). P ↔ IsRead m e answer) (sym (is ∙ ap (λ (k : Call (List Change)). Serve k) same)) (subst (λ (a : Answer). P ↔ IsRead {C = C} m (Serve other) a) (sym as_told) reads)

pub returns-in-Get-Found : goal.returns-in-Get-Found
returns-in-Get-Found g c =
    let m = after_all c.args.batches.now in
    let value = option_map Value (bytes_of c.in-Get-Found.value) in
    read_as m c.args.event.now _ _ c.args.answer.now _ c.in-Serve.is c.in-Get-Found.is-0 c.in-Get-Found.is-1
    (subst (λ (k : List ℕ). IsTrue c.has_value.result ↔ (m c.in-Get-Found.group (Key k) ≡ value)) c.as_slice.ensures.value c.has_value.ensures)

pub returns-in-GetEntry-Found : goal.returns-in-GetEntry-Found
returns-in-GetEntry-Found g c = read_as (after_all c.args.batches.now) c.args.event.now _ _ c.args.answer.now _ c.in-Serve.is c.in-GetEntry-Found.is-0 c.in-GetEntry-Found.is-1 c.has_entry.ensures

pub returns-in-Fetch-Entries : goal.returns-in-Fetch-Entries
returns-in-Fetch-Entries g c =
    let m = after_all c.args.batches.now in
    let f = c.in-Fetch-Entries in
    read_as m c.args.event.now _ _ c.args.answer.now _ c.in-Serve.is f.is-0 f.is-1
    (subst (λ (xs : List (Vec ℕ)). IsTrue c.is_fetch.result ↔ Fetches m f.group f.begin f.end f.max (all_bytes xs)) c.as_slice-in-Fetch-Entries.ensures.value c.is_fetch.ensures)
