-- What the hook holds back behind what it is told.
use Rattle.std.specs.Prelude.{ℕ, zero, suc, ◌-◌, ◌<◌, ◌≤◌, ◌&&◌, nat_lt, nat_le, Some, None, List, [], ◌∷◌, ◌++◌, length, slice_index, slice_set, Option, if◌then◌else◌}
use Rattle.std.proofs.Common.{◌≡◌, refl, inl, inr, sym, subst, ap, ◌∙◌, arith}
use Rattle.std.proofs.lemmas.Grind.{common_steps}
use Rattle.std.proofs.lemmas.List.{length-set}
use Rattle.raft_log_record_base.specs.declared.pipe_log.FileBlockHandle.{FileBlockHandle}
use Rattle.raft_log_record_base.specs.declared.pipe_log.LogQueue.{LogQueue}
use Rattle.raft_log_record_base.specs.declared.pipe_log.LogQueue.TheVariants.{Append, Rewrite}
use Rattle.raft_log_file_listeners.specs.Active.{ActiveFiles, IsNext, ListsOrMisses, counted, first_held, first_waiting, one_less, one_more, place_of, with_count, with_file}
use Rattle.raft_log_file_listeners.specs.Hearing.{HookHears, WritesHoldNothingBack, WrittenFilesAreHeld}
use Rattle.raft_log_file_listeners.specs.Least.{lesser}
use Rattle.raft_log_dual_pipes.specs.Telling.{BothHear, Hears, Told, begun}
use Rattle.raft_log_dual_pipes.proofs.Public.{second_hears}
use Rattle.raft_log_file_listeners.proofs.Held.{waiting_files_are_held}

-- the first file of which a record waits
abbrev waiting_at : ActiveFiles → Option ℕ
waiting_at h = first_waiting h.first h.waiting

-- a file behind others of which no record waits isn't the first
waits_not_last : (first : ℕ) (waiting : List ℕ) → first_waiting first (waiting ++ 0 ∷ []) ≡ first_waiting first waiting
waits_not_last first [] = refl
waits_not_last first (zero ∷ waiting) = waits_not_last (suc first) waiting
waits_not_last first (suc n ∷ waiting) = refl

-- the first of some is the first
waits_first : (first n : ℕ) (waiting : List ℕ) → 0 < n → first_waiting first (n ∷ waiting) ≡ Some first
waits_first first zero waiting some = absurd (omega (arith, some))
waits_first first (suc n) waiting some = refl

-- a file whose record was counted, and then no more
abbrev again : List ℕ → ℕ → List ℕ
again waiting place = slice_set waiting place (one_more (slice_index waiting place))

abbrev back : List ℕ → ℕ → List ℕ
back waiting place = slice_set waiting place (one_less (slice_index waiting place))

waits_again : (first : ℕ) (waiting : List ℕ) (place : ℕ) → place < length waiting
    → first_waiting first (back (again waiting place) place) ≡ first_waiting first waiting
waits_again first [] place less = absurd (omega (arith, less))
waits_again first (zero ∷ waiting) zero less = refl
waits_again first (suc n ∷ waiting) zero less = waits_first first _ waiting (omega arith)
waits_again first (zero ∷ waiting) (suc place) less = waits_again (suc first) waiting place (omega (arith, less))
waits_again first (suc n ∷ waiting) (suc place) less = refl

-- a file keeps its place, whatever is counted
stays : (by : ℕ → ℕ) (queue : LogQueue) (seq : ℕ) (h : ActiveFiles) (place : Option ℕ)
    → place_of queue seq (with_count by place h) ≡ place_of queue seq h
stays by queue seq h None = refl
stays by Rewrite seq h (Some place) = refl
stays by Append seq h (Some place) =
    ap (λ n. if nat_le h.first seq && nat_lt (seq - h.first) n then Some (seq - h.first) else None)
    (length-set h.waiting place (by (slice_index h.waiting place)))

-- a place is within the list
within : (queue : LogQueue) (seq : ℕ) (h : ActiveFiles) (place : ℕ) → place_of queue seq h ≡ Some place → place < length h.waiting
within Append seq h place is = grind (arith, common_steps)
within Rewrite seq h place is = grind (arith, common_steps)

counted_back : (h : ActiveFiles) (place : Option ℕ) → ((n : ℕ) → place ≡ Some n → n < length h.waiting)
    → waiting_at (with_count one_less place (with_count one_more place h)) ≡ waiting_at h
counted_back h None less = refl
counted_back h (Some n) less = waits_again h.first h.waiting n (less n refl)

-- of a record that was written, and is in the tables, no file waits
counted_again : (queue : LogQueue) (seq : ℕ) (h : ActiveFiles)
    → waiting_at (counted one_less queue seq (counted one_more queue seq h)) ≡ waiting_at h
counted_again queue seq h =
    ap (λ place. waiting_at (with_count one_less place (counted one_more queue seq h))) (stays one_more queue seq h (place_of queue seq h))
    ∙ counted_back h (place_of queue seq h) (within queue seq h)

-- a file that is listed behind the others holds nothing back
listed_waits : (h : ActiveFiles) (seq : ℕ) → IsNext h seq → waiting_at (with_file h seq) ≡ waiting_at h
listed_waits h seq (inl none) =
    subst (λ waiting. first_waiting (seq - length h.waiting) (waiting ++ 0 ∷ []) ≡ first_waiting h.first waiting) (sym none) refl
listed_waits h seq (inr at) =
    let e : seq - length h.waiting ≡ h.first = omega (arith, at) in
    ap (λ first. first_waiting first (h.waiting ++ 0 ∷ [])) e ∙ waits_not_last h.first h.waiting

begun_waits : (queue : LogQueue) (seq : ℕ) (old new : ActiveFiles) → ListsOrMisses queue seq old new
    → waiting_at new ≡ waiting_at old
begun_waits queue seq old new (inr (error, why, is)) = ap waiting_at is
begun_waits Append seq old new (inl (next, is)) = ap waiting_at is ∙ listed_waits old seq next
begun_waits Rewrite seq old new (inl is) = ap waiting_at is

write_waits : (queue : LogQueue) (n count : ℕ) (block : FileBlockHandle) (old new : ActiveFiles)
    → Hears HookHears (begun queue n count ++ Told.RecordWritten block ∷ Told.RecordApplied block.id ∷ []) old new
    → waiting_at new ≡ waiting_at old
write_waits queue n zero block old new (mid, written, (end, applied, same)) =
    ap waiting_at (same ∙ applied ∙ ap (counted one_less block.id.queue block.id.seq) written)
    ∙ counted_again block.id.queue block.id.seq old
write_waits queue n (suc count) block old new (mid, begun, rest) =
    write_waits queue (suc n) count block mid new rest ∙ begun_waits queue (suc n) old mid begun

pub writes_hold_nothing_back : {L : Type 0} (hears : Told → L → L → Type 0)
    → WritesHoldNothingBack (BothHear hears HookHears) (λ (both : L × ActiveFiles). both.1)
writes_hold_nothing_back hears queue n count block old new told missing Rewrite = refl
writes_hold_nothing_back hears queue n count block old new told missing Append =
    ap (λ held. lesser held new.1.missing)
    (write_waits queue n count block old.1 new.1 (second_hears hears HookHears _ old new told))
    ∙ ap (lesser (waiting_at old.1)) missing

-- a count that went up is there
counts_some : (waiting : List ℕ) (place : ℕ) → place < length waiting → 0 < slice_index (again waiting place) place
counts_some [] place less = absurd (omega (arith, less))
counts_some (n ∷ waiting) zero less = omega arith
counts_some (n ∷ waiting) (suc place) less = counts_some waiting place (omega (arith, less))

-- once a record of a file that is listed was counted, that file is held back
held_at : (queue : LogQueue) (seq : ℕ) (h : ActiveFiles) (place : ℕ) → place_of queue seq h ≡ Some place
    → (first : ℕ) × (first_held queue (with_count one_more (Some place) h) ≡ Some first) × (first ≤ seq)
held_at Rewrite seq h place is = absurd (grind (arith, common_steps))
held_at Append seq h place is =
    waiting_files_are_held (with_count one_more (Some place) h) seq place (stays one_more Append seq h (Some place) ∙ is)
    (counts_some h.waiting place (within Append seq h place is))

pub written_files_are_held : {L : Type 0} (hears : Told → L → L → Type 0)
    → WrittenFilesAreHeld (BothHear hears HookHears) (λ (both : L × ActiveFiles). both.1)
written_files_are_held hears block old new (other, is) place at =
    subst (λ h. (first : ℕ) × (first_held block.id.queue h ≡ Some first) × (first ≤ block.id.seq))
    (sym (is ∙ ap (λ p. with_count one_more p old.1) at))
    (held_at block.id.queue block.id.seq old.1 place at)
