-- Logs that end so, one call behind another.
use Rattle.std.proofs.Common.{◌≡◌, ◌∙◌, List, [], ◌∷◌, ◌++◌, refl, sym, ap, subst, arith, append-nil, append_assoc}
use Rattle.raft_log_fs.specs.Disk.{Disk}
use Rattle.raft_log_fs.specs.Causes.{IsLater}
use Rattle.raft_log_model_laws.specs.Groups.{taken}
use Rattle.raft_log_engine_laws.specs.EngineState.{LogDirectories, LogMap, EngineState}
use Rattle.raft_log_engine_laws.specs.Holding.{EndsAt, Represents}
use Rattle.raft_log_engine_laws.specs.raft_log_dual_pipes.specs.Pipes.{LogRecordValue}
use Rattle.raft_voter_records.proofs.Public.{taken_in_two}

pub later_same : (d : Disk) → IsLater d d
later_same d = record { failures = omega arith; stopped = λ h. h }

pub later_twice : (a b c : Disk) → IsLater a b → IsLater b c → IsLater a c
later_twice a b c h k = record { failures = omega (arith, h.failures, k.failures); stopped = λ s. k.stopped (h.stopped s) }

-- the map that was left, and the batches behind it, are the map and its batches
pub ends_whole : (home : LogDirectories) (t : EngineState) (m : LogMap) (pending : List LogRecordValue) (e : EndsAt home t m pending)
    → taken (taken m e.done) e.rest ≡ taken m pending
ends_whole home t m pending e = sym (taken_in_two m e.done e.rest) ∙ ap (taken m) e.splits

pub ends_same : (home : LogDirectories) (s : EngineState) (m : LogMap) (pending : List LogRecordValue) → Represents home s m pending → EndsAt home s m pending
ends_same home s m pending h = record { done = []; rest = pending; splits = refl; holds = h }

pub ends_all : (home : LogDirectories) (t : EngineState) (m : LogMap) (pending : List LogRecordValue) → Represents home t (taken m pending) [] → EndsAt home t m pending
ends_all home t m pending h = record { done = pending; rest = []; splits = append-nil pending; holds = h }

-- more batches than were pending
pub ends_more : (home : LogDirectories) (t u : EngineState) (m : LogMap) (pending more : List LogRecordValue) → EndsAt home t m pending
    → ((n : LogMap) (rest : List LogRecordValue) → Represents home t n rest → EndsAt home u n (rest ++ more)) → EndsAt home u m (pending ++ more)
ends_more home t u m pending more e next =
    let n = next (taken m e.done) e.rest e.holds in
    record {
      done = e.done ++ n.done;
      rest = n.rest;
      splits =
          append_assoc e.done n.done n.rest ∙ ap (λ (l : List LogRecordValue). e.done ++ l) n.splits
          ∙ sym (append_assoc e.done e.rest more) ∙ ap (λ (l : List LogRecordValue). l ++ more) e.splits;
      holds = subst (λ (k : LogMap). Represents home u k n.rest) (sym (taken_in_two m e.done n.done)) n.holds;
    }

-- no more
pub ends_still : (home : LogDirectories) (t u : EngineState) (m : LogMap) (pending : List LogRecordValue) → EndsAt home t m pending
    → ((n : LogMap) (rest : List LogRecordValue) → Represents home t n rest → EndsAt home u n rest) → EndsAt home u m pending
ends_still home t u m pending e next =
    let n = next (taken m e.done) e.rest e.holds in
    record {
      done = e.done ++ n.done;
      rest = n.rest;
      splits = append_assoc e.done n.done n.rest ∙ ap (λ (l : List LogRecordValue). e.done ++ l) n.splits ∙ e.splits;
      holds = subst (λ (k : LogMap). Represents home u k n.rest) (sym (taken_in_two m e.done n.done)) n.holds;
    }

-- all of them come to the map
pub ends_synced : (home : LogDirectories) (t u : EngineState) (m : LogMap) (pending : List LogRecordValue) → EndsAt home t m pending
    → ((n : LogMap) (rest : List LogRecordValue) → Represents home t n rest → Represents home u (taken n rest) []) → Represents home u (taken m pending) []
ends_synced home t u m pending e sync =
    subst (λ (k : LogMap). Represents home u k []) (ends_whole home t m pending e) (sync (taken m e.done) e.rest e.holds)

-- where there are none the map holds
no_done : (done rest : List LogRecordValue) → done ++ rest ≡ [] → done ≡ []
no_done [] rest h = refl
no_done (x ∷ done) rest h = cc

no_rest : (done rest : List LogRecordValue) → done ++ rest ≡ [] → rest ≡ []
no_rest [] rest h = h
no_rest (x ∷ done) rest h = cc

pub ends_empty : (home : LogDirectories) (t : EngineState) (m : LogMap) → EndsAt home t m [] → Represents home t m []
ends_empty home t m e =
    let first : Represents home t (taken m []) e.rest = subst (λ (l : List LogRecordValue). Represents home t (taken m l) e.rest) (no_done e.done e.rest e.splits) e.holds in
    subst (λ (l : List LogRecordValue). Represents home t m l) (no_rest e.done e.rest e.splits) first
