-- What the hook holds back.
use Rattle.std.specs.Prelude.{ℕ, zero, suc, ◌+◌, ◌<◌, ◌≤◌, Some, None, List, [], ◌∷◌, length, slice_index, Option, min}
use Rattle.std.proofs.Common.{◌≡◌, refl, ◌∙◌, ap, arith}
use Rattle.std.proofs.lemmas.Grind.{common_steps}
use Rattle.raft_log_record_base.specs.declared.pipe_log.LogQueue.TheVariants.{Append}
use Rattle.raft_log_file_listeners.specs.Active.{ActiveFiles, MissingFilesAreHeld, WaitingFilesAreHeld, first_waiting, place_of}
use Rattle.raft_log_file_listeners.specs.Least.{lesser}

-- where a record waits, one waits in that file or one before it
waits_before : (first : ℕ) (waiting : List ℕ) (k : ℕ) → k < length waiting → 0 < slice_index waiting k → (n : ℕ) × (first_waiting first waiting ≡ Some n) × (n ≤ first + k)
waits_before first [] k less more = absurd (omega (arith, less))
waits_before first (zero ∷ waiting) zero less more = absurd (omega (arith, more))
waits_before first (zero ∷ waiting) (suc k) less more = (let (n, is, most) = waits_before (suc first) waiting k (omega (arith, less)) more in (n, is, omega (arith, most)))
waits_before first (suc c ∷ waiting) k less more = (first, refl, omega arith)

-- the lesser number is no greater than either
lesser_left : (n : ℕ) (missing : Option ℕ) → (m : ℕ) × (lesser (Some n) missing ≡ Some m) × (m ≤ n)
lesser_left n None = (n, refl, omega arith)
lesser_left n (Some m) = (min n m, refl, omega arith)

lesser_right : (one : Option ℕ) (n : ℕ) → (m : ℕ) × (lesser one (Some n) ≡ Some m) × (m ≤ n)
lesser_right None n = (n, refl, omega arith)
lesser_right (Some m) n = (min m n, refl, omega arith)

-- a file that has a place is as many numbers behind the first
placed : (h : ActiveFiles) (seq place : ℕ) → place_of Append seq h ≡ Some place → (h.first + place ≡ seq) × (place < length h.waiting)
placed h seq place is = grind (arith, common_steps)

pub waiting_files_are_held : WaitingFilesAreHeld
waiting_files_are_held h seq place at more =
    let (behind, within) = placed h seq place at in
    let (n, is, most) = waits_before h.first h.waiting place within more in
    let (m, held, least) = lesser_left n h.missing in
    (m, ap (λ o. lesser o h.missing) is ∙ held, omega (arith, behind, most, least))

pub missing_files_are_held : MissingFilesAreHeld
missing_files_are_held h seq is =
    let (m, held, least) = lesser_right (first_waiting h.first h.waiting) seq in
    (m, ap (λ o. lesser (first_waiting h.first h.waiting) o) is ∙ held, least)
