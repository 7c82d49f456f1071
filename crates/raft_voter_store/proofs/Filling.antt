-- A batch that was filled with a change.
use Rattle.std.proofs.Common.{◌≡◌, ℕ, ◌<◌, ◌^◌, refl, sym, ap, subst, ◌∙◌, arith}
use Rattle.raft_log_record_frames.specs.Record.{record_len}
use Rattle.raft_log_record_batches.specs.declared.log_batch.BatchState.{BatchState}
use Rattle.raft_log_record_batches.specs.declared.log_batch.BatchState.TheVariants.{Filling}
use Rattle.raft_log_record_batches.specs.Batch.{Batch, Becomes, empty_batch}
use Rattle.raft_log_engine.specs.raft_log_engine_laws.specs.EngineState.{IsWritable}
use Rattle.raft_voter_messages.specs.declared.request.Request.{Request}
use Rattle.raft_voter_outline.specs.declared.outline.decision.Change.{Change}
use Rattle.raft_voter_outline.specs.declared.outline.decision.Write.{Write}
use Rattle.raft_voter_outline.specs.declared.outline.decision.Write.TheVariants as writes
use Rattle.raft_voter_messages.specs.declared.reply.VoterState.{VoterState}
use Rattle.raft_voter_outline.specs.Outlines.{ChangesEach, sent_of}
use Rattle.raft_voter_outline.specs.State.{State}
use Rattle.raft_voter_records.specs.Changes.{IsFresh, with_change, with_state, with_write}
use Rattle.raft_voter_records.proofs.Public.{changes_are_said, changes_are_short}
use Rattle.raft_voter_durability_laws.specs.Laws.{IsBare}
use Rattle.raft_voter_durability_laws.specs.Requests.{SaysChange}

pub fresh_of : (b : Batch) (n k : ℕ) → b ≡ empty_batch n k → IsFresh b
fresh_of b n k is = subst (λ (x : Batch). IsFresh x) (sym is) refl

-- a batch that is being filled goes on so
state_of_change : (b : Batch) (g : ℕ) (w : Write) (s : VoterState) (q : Request) → (with_state (with_write b g w (sent_of q)) g w s).state ≡ b.state
state_of_change b g writes.StateAlone s q = refl
state_of_change b g (writes.Entries skipped index) s q = refl
state_of_change b g (writes.CompactTo index) s q = refl
state_of_change b g writes.Clean s q = refl

pub filled_says : (old new : Batch) (g : ℕ) (c : Change) (q : Request) (o : State) → IsFresh old → IsBare o → ChangesEach o q c → Becomes (with_change old g c q) new → SaysChange g q c new
filled_says old new g c q o fresh bare changes becomes =
    let state : new.state ≡ Filling =
    ap (λ (b : Batch). b.state) becomes.0 ∙ state_of_change old g c.write c.state q ∙ ap (λ (b : Batch). b.state) fresh in
    record {
      says = changes_are_said old new g c q o fresh (changes o bare) becomes;
      writable = subst (λ (x : BatchState). IsWritable x) (sym state) tt;
    }

pub filled_short : (old new : Batch) (g : ℕ) (c : Change) (q : Request) (o : State) → IsFresh old → IsBare o → ChangesEach o q c → Becomes (with_change old g c q) new → record_len new.items new.entries < 2 ^ 56
filled_short old new g c q o fresh bare changes becomes =
    omega (arith, changes_are_short old new g c q o fresh (changes o bare) becomes)
