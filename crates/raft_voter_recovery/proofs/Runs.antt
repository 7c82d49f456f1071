-- Runs of entries that were read, one behind another.
use Rattle.std.proofs.Common.{◌≡◌, ◌∙◌, ℕ, ◌+◌, List, [], ◌∷◌, ◌++◌, length, refl, sym, ap, subst, arith, length-append}
use Rattle.raft_voter_durability_laws.specs.raft_log_engine_laws.specs.EngineState.{EngineState}
use Rattle.raft_voter_durability_laws.specs.raft_log_engine_laws.specs.Fetching.{StaysButBlock}
use Rattle.raft_voter_messages.specs.declared.reply.Entry.{Entry as VoterEntry}
use Rattle.raft_voter.specs.Laws.{AreReadAs}
use Rattle.raft_voter_records.specs.Voters.{Group}
use Rattle.raft_voter_recovery.specs.Entries.{ReadsBelow, ReadsPiece, ReadsRun, StandFrom}
use Rattle.raft_voter_recovery.proofs.Pieces.{length-read}
use Rattle.raft_voter_recovery.proofs.Telling.{told_before}

reads_on : (i j : ℕ) (texts more : List (List ℕ)) (es fs : List VoterEntry) → AreReadAs i texts es → i + length es ≡ j → AreReadAs j more fs → AreReadAs i (texts ++ more) (es ++ fs)
reads_on i j [] more [] fs h at k = let here : j ≡ i = omega (arith, at) in subst (λ (n : ℕ). AreReadAs n more fs) here k
reads_on i j [] more (e ∷ es) fs h at k = absurd h
reads_on i j (t ∷ texts) more [] fs h at k = absurd h
reads_on i j (t ∷ texts) more (e ∷ es) fs h at k = (h.0, reads_on (i + 1) j texts more es fs h.1 (omega (arith, at)) k)

stand_on : (grp : Group) (i j : ℕ) (texts more : List (List ℕ)) → StandFrom grp i texts → i + length texts ≡ j → StandFrom grp j more → StandFrom grp i (texts ++ more)
stand_on grp i j [] more h at k = let here : j ≡ i = omega (arith, at) in subst (λ (n : ℕ). StandFrom grp n more) here k
stand_on grp i j (t ∷ texts) more h at k = (h.0, stand_on grp (i + 1) j texts more h.1 (omega (arith, at)) k)

-- No entry, and some more.

pub none_read : (s : EngineState) (g base next : ℕ) (es : List VoterEntry) → es ≡ [] → next ≡ base + 1 → ReadsBelow s g base next es
none_read s g base next es none is = record {
  run = subst (λ (l : List VoterEntry). ReadsRun s g (base + 1) l) (sym none) (record { texts = []; read = tt; stand = λ home m h. tt });
  count = let size = ap (λ (l : List VoterEntry). length l) none in omega (arith, size, is);
}

pub more_read : (s t : EngineState) (g base next end after : ℕ) (es fs all : List VoterEntry) → StaysButBlock s t → ReadsBelow s g base next es
    → ReadsPiece t g next end fs → all ≡ es ++ fs → after ≡ next + length fs → ReadsBelow s g base after all
more_read s t g base next end after es fs all stays below piece is at = record {
  run = subst (λ (l : List VoterEntry). ReadsRun s g (base + 1) l) (sym is) (record {
    texts = below.run.texts ++ piece.run.texts;
    read = reads_on (base + 1) next below.run.texts piece.run.texts es fs below.run.read below.count piece.run.read;
    stand = λ home m h.
        let size = length-read (base + 1) below.run.texts es below.run.read in
        stand_on (m g) (base + 1) next below.run.texts piece.run.texts (below.run.stand home m h) (omega (arith, size, below.count))
        (told_before (λ m. StandFrom (m g) next piece.run.texts) s t stays piece.run.stand home m h);
  });
  count = let size = ap (λ (l : List VoterEntry). length l) is ∙ length-append es fs in omega (arith, size, below.count, at);
}
