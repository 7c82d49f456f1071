-- The group of the first form holds its voter.
use Rattle.std.proofs.Common.{◌∙◌, [], ◌∷◌, None, unwrap_or, refl, sym, ap, inl, arith}
use Rattle.std.specs.Option.{option_or}
use Rattle.raft_voter_messages.specs.StoredForms.{head_text, vote_text}
use Rattle.raft_voter_records.specs.Voters.{HoldsVoter, voter_key}
use Rattle.raft_voter_records.specs.MeaningChanges.{run_items}
use Rattle.raft_voter_records.specs.Examples.{old_group, old_voter}
use Rattle.raft_log_model_laws.proofs.Public.{put_leaves}
use Rattle.raft_voter_records.proofs.Entries.{content_none}
use Rattle.raft_voter_records.proofs.Writing.{once_taken, run_stands}

pub old_forms_are_voters : HoldsVoter old_group old_voter
old_forms_are_voters = record {
  storable = record {
    in_range = record { term = refl; vote = refl; base_index = refl; base_term = refl; commit = refl; committed = omega arith; log = refl };
    end_fits = omega arith;
  };
  bytes = 1 ∷ head_text 2 (vote_text None) 2 2;
  head = refl;
  state = (inl (refl, record { text = refl; commit = refl }), record { in_range = refl; last_index = refl; last_term = refl });
  keys = λ k other. ap (λ o. unwrap_or (option_or (option_or None o) None) None) (put_leaves voter_key k (1 ∷ head_text 2 (vote_text None) 2 2) other);
  entries = λ i.
      ap (λ o. once_taken i (run_items 3 ((2, []) ∷ [])) o) (sym (content_none 2 i))
      ∙ run_stands 2 0 [] ((2, []) ∷ []) 3 (omega arith) refl (omega arith) i;
}
