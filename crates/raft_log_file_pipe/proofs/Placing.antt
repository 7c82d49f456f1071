-- Directories are asked one after the other.
use Rattle.std.specs.String.{string_bytes}
use Rattle.std.specs.Global.{Global}
use Rattle.std.specs.Str.{bytes_eq}
use Rattle.std.proofs.Common.{◌≡◌, ℕ, ◌+◌, ◌-◌, ◌<◌, Bool, true, false, cond, List, [], ◌∷◌, ◌++◌, length, map, take, drop, get_or, String, sym, ◌∙◌, refl, ap, subst, inl, inr, arith}
use Rattle.std.proofs.lemmas.List.{take_more, map-append, drop_more, take-append-drop, length-map, length-take-le}
use Rattle.raft_log_fs.specs.Disk.{Disk}
use Rattle.raft_log_file_pipe.specs.Placing.{HasSpace, LacksRoom, AllLackRoom, IsChosen, TellsFreed}
use Rattle.raft_log_file_pipe.specs.Placing.IsChosen.{alone, first, none}

module _ (tells : List ℕ → ℕ → Type 0) (d : Disk) (size : ℕ) where
  lack_more : (xs : List (List ℕ)) (x : List ℕ) → AllLackRoom tells d size xs → LacksRoom tells d size x → AllLackRoom tells d size (xs ++ x ∷ [])
  lack_more [] x all is = (is, tt)
  lack_more (y ∷ ys) x all is = (all.0, lack_more ys x all.1 is)

  -- one more lacks room
  pub lacks_more : (ss : List (String Global)) (i : ℕ) (s : String Global) → i < length ss → s ≡ get_or ss i s → AllLackRoom tells d size (map string_bytes (take i ss)) → LacksRoom tells d size (string_bytes s)
      → AllLackRoom tells d size (map string_bytes (take (i + 1) ss))
  lacks_more ss i s less is all lacks =
      subst (AllLackRoom tells d size)
      (sym (ap (map string_bytes) (take_more ss i s less) ∙ (map-append string_bytes (take i ss) (get_or ss i s ∷ []) ∙ ap (λ t. map string_bytes (take i ss) ++ string_bytes t ∷ []) (sym is))))
      (lack_more (map string_bytes (take i ss)) (string_bytes s) all lacks)

  -- one has room
  pub has_first : (ss : List (String Global)) (i : ℕ) (s : String Global) (directories : List (List ℕ)) → map string_bytes ss ≡ directories → i < length ss → s ≡ get_or ss i s → AllLackRoom tells d size (map string_bytes (take i ss))
      → HasSpace tells size (string_bytes s) → IsChosen tells d size directories i
  has_first ss i s directories are less is all has =
      first (map string_bytes (take i ss)) (string_bytes s) (map string_bytes (drop (i + 1) ss))
      (sym are ∙ (ap (map string_bytes) (sym (take-append-drop i ss) ∙ ap (λ l. take i ss ++ l) (drop_more ss i s less))
      ∙ (map-append string_bytes (take i ss) (get_or ss i s ∷ drop (i + 1) ss) ∙ ap (λ t. map string_bytes (take i ss) ++ string_bytes t ∷ map string_bytes (drop (i + 1) ss)) (sym is))))
      (omega (arith, length-map (take i ss) string_bytes, length-take-le i ss, less)) all has

-- Space that counts as free beside what is reported.

module _ (tells : List ℕ → ℕ → Type 0) (own : List ℕ) (freed size : ℕ) (directory : List ℕ) where
  abbrev more : ℕ
  more = cond (bytes_eq directory own) freed 0

  -- room for the rest
  pub has_rest : HasSpace tells (size - more) directory → HasSpace (TellsFreed tells own freed) size directory
  has_rest (space, told, fits) = (space + more, (space, told, refl), omega (arith, fits))

  -- no room for the rest
  pub lacks_rest : (d : Disk) → LacksRoom tells d (size - more) directory → LacksRoom (TellsFreed tells own freed) d size directory
  lacks_rest d (inl (space, told, less)) = inl (space + more, (space, told, refl), omega (arith, less))
  lacks_rest d (inr fails) = inr fails

module _ (tells : List ℕ → ℕ → Type 0) (own : List ℕ) (d : Disk) (size : ℕ) where
  cond_zero : (b : Bool) → ◌≡◌ {A = ℕ} (cond b 0 0) 0
  cond_zero true = refl
  cond_zero false = refl

  -- if nothing is freed, the space is the one that is reported
  reported : (directory : List ℕ) (space : ℕ) → TellsFreed tells own 0 directory space → tells directory space
  reported directory space (n, told, is) =
      let same : n ≡ space = omega (arith, is, cond_zero (bytes_eq directory own)) in
      subst (tells directory) same told

  lacks_reported : (directories : List (List ℕ)) → AllLackRoom (TellsFreed tells own 0) d size directories → AllLackRoom tells d size directories
  lacks_reported [] all = all
  lacks_reported (x ∷ xs) (inl (space, told, less), all) = (inl (space, reported x space told, less), lacks_reported xs all)
  lacks_reported (x ∷ xs) (inr fails, all) = (inr fails, lacks_reported xs all)

  pub nothing_freed : (directories : List (List ℕ)) (place : ℕ) → IsChosen (TellsFreed tells own 0) d size directories place → IsChosen tells d size directories place
  nothing_freed directories place (alone few is) = alone few is
  nothing_freed directories place (first before directory behind are is all (space, told, fits)) =
      first before directory behind are is (lacks_reported before all) (space, reported directory space told, fits)
  nothing_freed directories place (none all is) = none (lacks_reported directories all) is
