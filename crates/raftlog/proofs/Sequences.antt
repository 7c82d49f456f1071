-- Events that are the same, and transcripts, one after another.
use Rattle.std.proofs.Common.{◌≡◌, ◌∙◌, ℕ, true, refl, List, [], ◌∷◌, ◌++◌, append_assoc, append-nil, ap, sym}
use Rattle.std.specs.Prelude.{IsTrue}
use Rattle.std.specs.List.{flat_map}
use Rattle.std.proofs.lemmas.List.Concat.{flat_map-append}
use Rattle.raft_log_fs_state.specs.declared.remainder.Remainder.{Remainder}
use Rattle.raft_log_record_batches.specs.Batch.{Batch}
use Rattle.raft_log_world.specs.declared.event.Event.{Event}
use Rattle.raft_log_world.specs.Logs.{LogOf}
use Rattle.raft_log_world_engine.specs.declared.files.ClosedLog.{ClosedLog}
use Rattle.raft_log_world_engine.specs.declared.files.OpenLog.{OpenLog}
use Rattle.raft_log_judge.specs.declared.change.Change.{Change}
use Rattle.raftlog.specs.Playing.{EachIsTranscript, IsSomeTranscript, between}
use Rattle.raftlog.specs.Same.{SameEvent, SameEvents}

pub one_more_same : (events : List (Event (List Change) Remainder)) (es : List (Event Batch Remainder)) (event : Event (List Change) Remainder) (e : Event Batch Remainder)
    → SameEvents events es → SameEvent event e → SameEvents (events ++ event ∷ []) (es ++ e ∷ [])
one_more_same [] [] event e all one = (one, tt)
one_more_same (x ∷ xs) (y ∷ ys) event e all one = (all.0, one_more_same xs ys event e all.1 one)
one_more_same [] (y ∷ ys) event e all one = absurd all
one_more_same (x ∷ xs) [] event e all one = absurd all

-- Transcripts, one after another.

pub one_more_transcript : (l : LogOf OpenLog ClosedLog Batch Remainder) (texts : List (List ℕ)) (text : List ℕ) → EachIsTranscript l texts → IsSomeTranscript l text true → EachIsTranscript l (texts ++ text ∷ [])
one_more_transcript l [] text all one = (one, tt)
one_more_transcript l (t ∷ ts) text all one = (all.0, one_more_transcript l ts text all.1 one)

pub one_more_text : (told text : List ℕ) (texts : List (List ℕ)) → told ≡ flat_map (λ t. t ++ between) texts → (told ++ text) ++ between ≡ flat_map (λ t. t ++ between) (texts ++ text ∷ [])
one_more_text told text texts is =
    let parted : List ℕ → List ℕ = λ t. t ++ between in
    append_assoc told text between ∙ ap (λ (front : List ℕ). front ++ (text ++ between)) is
    ∙ ap (λ (rest : List ℕ). flat_map parted texts ++ rest) (sym (append-nil (text ++ between))) ∙ sym (flat_map-append parted texts (text ∷ []))
