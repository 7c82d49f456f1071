-- What each wrong rule loses.
use Rattle.std.proofs.Common.{append-nil, ◌≡◌, ℕ, zero, suc, ◌≤◌, List, [], ◌∷◌, ◌++◌, take, Some, None, refl, ap, ◌∙◌, arith}
use Rattle.raft_log_model_laws.specs.Item.{Record}
use Rattle.raft_log_model_laws.specs.Meaning.{Slot, Content}
use Rattle.raft_log_model_laws.specs.Meaning.Slot.{Index, Key}
use Rattle.raft_log_model_laws.specs.Meaning.Content.{Entry, Value}
use Rattle.raft_log_model_laws.specs.Groups.{directory_meaning, taken}
use Rattle.raft_log_machine_laws.specs.Survival.{HoldsMap, Survives}
use Rattle.raft_log_machine_laws.specs.WrongRules.{lone, LosesByAppend, LosesByRewrite, first_run, compact_3, compact_4, all_compacted, one_key, removal, other_key, group_begin, group_end, both, unsynced_both}
use Rattle.raft_log_machine_laws.proofs.SurvivalSteps.{survives}
use Rattle.raft_log_machine_laws.proofs.Starts.{no_front, no_back}

-- a directory with nothing gone and nothing of Rewrite unsynced holds what it means
pub lone_holds : (rewrite append pending : List (Record ℕ ℕ))
    → HoldsMap (record { rewrite = lone rewrite; append = record { gone = []; live = append; pending = pending } }) (directory_meaning rewrite append)
lone_holds rewrite append pending g s r_kept r_lost r_cut r_back a_cut a_back kept r_start a_start =
    ap (λ l. directory_meaning (l ++ (rewrite ++ r_kept)) (a_back ++ append) g s) (no_back r_cut r_back r_start)
    ∙ ap (λ l. directory_meaning (rewrite ++ l) (a_back ++ append) g s) (no_front r_kept r_lost kept)
    ∙ ap (λ l. directory_meaning l (a_back ++ append) g s) (append-nil rewrite)
    ∙ ap (λ l. directory_meaning rewrite (l ++ append) g s) (no_back a_cut a_back a_start)

clash : (x : Content ℕ ℕ) → None ≡ Some x → ⊥
clash x e = cc

clash_back : (x : Content ℕ ℕ) → Some x ≡ None → ⊥
clash_back x e = cc

pub no_marks : LosesByAppend (first_run ∷ []) (compact_3 ∷ []) [] (compact_3 ∷ [])
no_marks = (
  lone_holds (first_run ∷ []) (compact_3 ∷ []) [],
  λ h. clash_back (Entry 11) (h 1 (Index 1) [] [] [] [] (compact_3 ∷ []) [] refl refl refl),
)

pub forgotten_marks : LosesByAppend (one_key ∷ []) (removal ∷ []) (other_key ∷ []) (removal ∷ other_key ∷ [])
forgotten_marks = (
  lone_holds (one_key ∷ []) (removal ∷ other_key ∷ []) [],
  λ h. clash_back (Value 50) (h 1 (Key (5 ∷ [])) [] [] [] [] (removal ∷ []) [] refl refl refl),
)

pub late_marks : LosesByAppend (one_key ∷ removal ∷ []) (removal ∷ one_key ∷ []) [] (removal ∷ one_key ∷ [])
late_marks = (
  lone_holds (one_key ∷ removal ∷ []) (removal ∷ one_key ∷ []) [],
  λ h. clash (Value 50) (h 1 (Key (5 ∷ [])) [] [] [] [] (removal ∷ one_key ∷ []) [] refl refl refl),
)

pub greatest_compact : LosesByAppend (first_run ∷ compact_4 ∷ []) (all_compacted ∷ []) [] (all_compacted ∷ [])
greatest_compact = (
  lone_holds (first_run ∷ compact_4 ∷ []) (all_compacted ∷ []) [],
  λ h. clash_back (Entry 14) (h 1 (Index 4) [] [] [] [] (all_compacted ∷ []) [] refl refl refl),
)

pub without_begin : LosesByRewrite [] (group_begin ∷ []) (group_end ∷ []) (group_begin ∷ group_end ∷ [])
without_begin = (
  lone_holds (group_begin ∷ group_end ∷ []) [] [],
  λ h. clash (Entry 13) (h 1 (Index 3) [] [] (group_begin ∷ []) [] [] [] refl refl refl),
)

pub before_end : LosesByRewrite [] (first_run ∷ []) (group_begin ∷ []) (first_run ∷ group_begin ∷ [])
before_end = (
  lone_holds (first_run ∷ group_begin ∷ []) [] [],
  λ h. clash (Entry 11) (h 1 (Index 1) [] [] (first_run ∷ []) [] [] [] refl refl refl),
)

too_early : (count : ℕ) → count ≤ 1
    → ((g : ℕ) (s : Slot) → directory_meaning (one_key ∷ removal ∷ []) [] g s ≡ taken (directory_meaning (one_key ∷ []) []) (take count (both ∷ [])) g s) → ⊥
too_early zero le h = clash (Value 50) (h 1 (Key (5 ∷ [])))
too_early (suc zero) le h = clash (Value 70) (h 2 (Key (7 ∷ [])))
too_early (suc (suc n)) le h = omega arith

pub rewrite_ahead : Survives (unsynced_both (one_key ∷ [])) (directory_meaning (one_key ∷ []) []) (both ∷ [])
    × (Survives (unsynced_both (one_key ∷ removal ∷ [])) (directory_meaning (one_key ∷ []) []) (both ∷ []) → ⊥)
rewrite_ahead = (
  survives (unsynced_both (one_key ∷ [])) (directory_meaning (one_key ∷ []) []) (lone_holds (one_key ∷ []) [] (both ∷ [])),
  λ h. let image = h [] [] [] (both ∷ []) refl refl in too_early image.0 image.1 (λ g s. image.2 g s [] [] [] [] refl refl),
)
