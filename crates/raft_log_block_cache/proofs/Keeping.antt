-- What was written to the files of a queue stays through the calls of its pipe.
use Rattle.std.proofs.Common.{◌≡◌, ℕ, suc, ◌≤◌, Bool, true, false, cond, List, [], ◌∷◌, ◌++◌, inl, inr, refl, sym, ap, subst, ◌∙◌, arith, nat_eq, le_refl}
use Rattle.std.proofs.lemmas.Bool.{cases_Bool}
use Rattle.std.proofs.lemmas.Bool.Decides.{Decides-eqb}
use Rattle.std.proofs.lemmas.List.{append-nil, append_assoc}
use Rattle.raft_log_fs.specs.Disk.{Disk}
use Rattle.raft_log_file_writer.specs.LawsChains.{Written, spelled}
use Rattle.raft_log_file_writer.specs.LogQueue.{LogFiles, Past, recent, rotated}
use Rattle.raft_log_active_file.specs.Queue.{past_bytes, settled, synced, whole, with_more, with_room}
use Rattle.raft_log_file_pipe.specs.Files.{Listed}
use Rattle.raft_log_dual_pipes.specs.Turning.{HasTaken, IsCutBack, IsOrGoesOn}
use Rattle.raft_log_machine_laws.specs.Calls.Which.{InAppend, InRewrite}
use Rattle.raft_log_block_cache.specs.Stored.{CallsKeepBytes, CallsKeepLog, KeepsBytes, file_bytes}

-- the same bytes, with nothing behind them
alike : (a b : List ℕ) → a ≡ b → (more : List ℕ) × (a ≡ b ++ more)
alike a b is = ([], is ∙ sym (append-nil b))

keeps_same : {R : Type 0} (q : LogFiles R) → KeepsBytes q q
keeps_same q = record { last = le_refl q.last; files = λ n less. alike (file_bytes q n) (file_bytes q n) refl }

keeps_later : {R : Type 0} (q p r : LogFiles R) → KeepsBytes q p → KeepsBytes p r → KeepsBytes q r
keeps_later {R} q p r one two = record { last = omega (arith, one.last, two.last); files = both }
  where
    both : (n : ℕ) → n ≤ q.last → (more : List ℕ) × (file_bytes r n ≡ file_bytes q n ++ more)
    both n less =
        let (x, first) = one.files n less in
        let (y, next) = two.files n (omega (arith, less, one.last)) in
        (x ++ y, next ∙ ap (λ (l : List ℕ). l ++ y) first ∙ append_assoc (file_bytes q n) x y)

-- a number up to the last one isn't the next one
not_next : (n last : ℕ) → n ≤ last → nat_eq n (suc last) ≡ false
not_next n last less = elim (cases_Bool (nat_eq n (suc last))) [
  | inl hit ↦ absurd (let same : n ≡ suc last = (Decides-eqb n (suc last)).0 hit in omega (arith, less, same))
  | inr miss ↦ miss
]

-- the finished file has the bytes that it had as the last one
finished_bytes : {R : Type 0} (q : LogFiles R) (older : Past R) (b : Bool)
    → past_bytes (cond b (record { header = q.header; records = recent q }) older) ≡ cond b (whole q) (past_bytes older)
finished_bytes q older true = refl
finished_bytes q older false = refl

keeps_turned : {R : Type 0} (header stale : List ℕ) (room : ℕ) (q : LogFiles R) → KeepsBytes q (with_room room (rotated header stale q))
keeps_turned {R} header stale room q = record { last = omega arith; files = each }
  where
    each : (n : ℕ) → n ≤ q.last → (more : List ℕ) × (file_bytes (with_room room (rotated header stale q)) n ≡ file_bytes q n ++ more)
    each n less = alike (file_bytes (with_room room (rotated header stale q)) n) (file_bytes q n)
        (ap (λ (b : Bool). cond b (whole (with_room room (rotated header stale q))) (past_bytes ((rotated header stale q).older n))) (not_next n q.last less)
        ∙ finished_bytes q (q.older n) (nat_eq n q.last))

-- the last file of the one has more behind what the other's had, the others are the same
module _ {R : Type 0} (q p : LogFiles R) (more : List ℕ) (older : p.older ≡ q.older) (last : p.last ≡ q.last) (grows : whole p ≡ whole q ++ more) where
  in_last : (n : ℕ) (b : Bool) → (x : List ℕ) × (cond b (whole p) (past_bytes (q.older n)) ≡ cond b (whole q) (past_bytes (q.older n)) ++ x)
  in_last n true = (more, grows)
  in_last n false = alike (past_bytes (q.older n)) (past_bytes (q.older n)) refl

  keeps_last : KeepsBytes q p
  keeps_last = record { last = subst (λ (n : ℕ). q.last ≤ n) (sym last) (le_refl q.last); files = each }
    where
      each : (n : ℕ) → n ≤ q.last → (x : List ℕ) × (file_bytes p n ≡ file_bytes q n ++ x)
      each n less =
          let (x, is) = in_last n (nat_eq n q.last) in (
            x,
            ap (λ (k : ℕ). cond (nat_eq n k) (whole p) (past_bytes (p.older n))) last
                ∙ ap (λ (f : ℕ → Past R). cond (nat_eq n q.last) (whole p) (past_bytes (f n))) older ∙ is,
          )

-- what is behind records and one more
pub spelled_append : {R : Type 0} (xs ys : List (Written R)) → spelled (xs ++ ys) ≡ spelled xs ++ spelled ys
spelled_append [] ys = refl
spelled_append (x ∷ xs) ys = ap (λ (l : List ℕ). x.bytes ++ l) (spelled_append xs ys) ∙ sym (append_assoc x.bytes (spelled xs) (spelled ys))

more_whole : {R : Type 0} (q : LogFiles R) (ws : List (Written R)) → whole (with_more ws q) ≡ whole q ++ spelled ws
more_whole q ws =
    ap (λ (l : List (Written _)). q.header ++ spelled l) (sym (append_assoc q.durable q.pending ws))
    ∙ ap (λ (l : List ℕ). q.header ++ l) (spelled_append (recent q) ws)
    ∙ sym (append_assoc q.header (spelled (recent q)) (spelled ws))

keeps_more : {R : Type 0} (room : ℕ) (q : LogFiles R) (ws : List (Written R)) → KeepsBytes q (with_more ws (with_room room q))
keeps_more room q ws = keeps_last q (with_more ws (with_room room q)) (spelled ws) refl refl (more_whole (with_room room q) ws)

keeps_synced : {R : Type 0} (q : LogFiles R) → KeepsBytes q (synced q)
keeps_synced q = keeps_last q (synced q) [] refl refl
    (ap (λ (l : List (Written _)). q.header ++ spelled l) (append-nil (recent q)) ∙ sym (append-nil (whole q)))

keeps_settled : {R : Type 0} (q : LogFiles R) → KeepsBytes q (settled q)
keeps_settled q = keeps_last q (settled q) [] refl refl
    (ap (λ (l : List (Written _)). q.header ++ spelled l) (append-nil (recent q)) ∙ sym (append-nil (whole q)))

keeps_on : {R : Type 0} (header : List ℕ) (kept : List Listed) (d : Disk) (q p : LogFiles R) → IsOrGoesOn header kept d q p → KeepsBytes q p
keeps_on header kept d q p (inl is) = subst (KeepsBytes q) (sym is) (keeps_same q)
keeps_on header kept d q p (inr (room, stale, kept_is, is)) = subst (KeepsBytes q) (sym is) (keeps_turned header stale room q)

keeps_taken : {R : Type 0} (header : List ℕ) (kept : List Listed) (d : Disk) (q p : LogFiles R) → HasTaken header kept d q p → KeepsBytes q p
keeps_taken header kept d q r (p, on, room, w, is) =
    subst (KeepsBytes q) (sym is) (keeps_later q p (with_more (w ∷ []) (with_room room p)) (keeps_on header kept d q p on) (keeps_more room p (w ∷ [])))

keeps_cut : {R : Type 0} (header : List ℕ) (kept : List Listed) (d : Disk) (q p : LogFiles R) → IsCutBack header kept d q p → KeepsBytes q p
keeps_cut header kept d q r (p, on, later, between, again) =
    keeps_later q p r (keeps_on header kept d q p on)
    (keeps_later p (settled p) r (keeps_settled p) (keeps_on header later between (settled p) r again))

pub calls_keep_bytes : {R : Type 0} → CallsKeepBytes R
calls_keep_bytes = record {
  same = keeps_same;
  later = keeps_later;
  turned = keeps_on;
  taken = keeps_taken;
  cut_back = keeps_cut;
  synced = keeps_synced;
  settled = keeps_settled;
}

pub calls_keep_log : {R : Type 0} → CallsKeepLog R
calls_keep_log InAppend s files d keeps = record {
  append = keeps;
  rewrite = keeps_same s.rewrite.files;
  append_first = le_refl s.append.first;
  rewrite_first = le_refl s.rewrite.first;
}
calls_keep_log InRewrite s files d keeps = record {
  append = keeps_same s.append.files;
  rewrite = keeps;
  append_first = le_refl s.append.first;
  rewrite_first = le_refl s.rewrite.first;
}
