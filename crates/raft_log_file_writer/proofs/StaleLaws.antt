-- Stale bytes behind a chain, through the calls of the writer of their file.
use Rattle.std.specs.Prelude.{◌≡◌, ℕ, ◌+◌, ◌-◌, ◌<◌, ◌≤◌, List, [], ◌++◌, length, take, drop, slice_index}
use Rattle.std.proofs.Common.{refl, sym, ◌∙◌, ap, subst, arith, inl, inr, length-append, length-drop}
use Rattle.std.proofs.lemmas.Bool.{cases_lt}
use Rattle.std.proofs.lemmas.List.{append-nil, drop-append-le, take-append-le, length-take, length-replicate, get_or-replicate, get_or_append_left, get_or-append_right, get_or_past, nil_from_length}
use Rattle.raft_log_fs.specs.Disk.{Wrote, GrewTo, File, Disk, zeros}
use Rattle.raft_log_fs.specs.Calls.{with_change, after_change, InPart}
use Rattle.raft_log_file_writer.specs.LawsChains.{Written}
use Rattle.raft_log_file_writer.specs.KeepsSynced.{HoldsChain, IsStale}
use Rattle.raft_log_fs.specs.Touching.{HasFile}
use Rattle.raft_log_fs.specs.declared.handle.Handle.{Handle}
use Rattle.raft_log_fs.proofs.Public.{overwritten_torn}
use Rattle.raft_log_file_writer.proofs.KeepsSyncedLaws.{holds_grown}
use Rattle.raft_log_file_writer.specs.Writer.{MakesRoom, allocated}
use Rattle.raft_log_file_writer.specs.Chains.{HasStaleFrom}
use Rattle.raft_log_file_writer.proofs.WriterLaws.{room_keeps}

-- what is stale is stale where more is
stale_longer : (stale more : List ℕ) (at : ℕ) (bytes : List ℕ) → IsStale stale at bytes → IsStale (stale ++ more) at bytes
stale_longer stale more at bytes is =
    let n = length bytes in
    let size : length (take n (drop at stale)) ≡ n = ap length is in
    elim (cases_lt (length stale) at) [
      | inl past ↦
          let none : bytes ≡ [] = nil_from_length bytes (omega (arith, past, size, length-take n (drop at stale), length-drop at stale)) in
          subst (λ (b : List ℕ). take (length b) (drop at (stale ++ more)) ≡ b) (sym none) refl
      | inr inside ↦
          let room : n ≤ length (drop at stale) = omega (arith, size, length-take n (drop at stale)) in
          ap (λ (b : List ℕ). take n b) (drop-append-le at stale more inside) ∙ take-append-le n (drop at stale) more room ∙ is
    ]

chain_longer : {R : Type 0} (IsFrame : List ℕ → R → Type 0) (start : ℕ) (stale more : List ℕ) (durable pending : List (Written R)) (file : File) → HoldsChain IsFrame start stale durable pending file
    → HoldsChain IsFrame start (stale ++ more) durable pending file
chain_longer IsFrame start stale more durable pending file holds = record {
  frames = holds.frames;
  synced = holds.synced;
  others = λ at w meets. elim (holds.others at w meets) [ inl old ↦ inl (stale_longer stale more at w.bytes old) | inr own ↦ inr own ];
  spared = holds.spared;
  handed = holds.handed;
}

-- a zero stands behind these bytes
zero_behind : (bytes : List ℕ) (count place : ℕ) → length bytes ≤ place → slice_index (bytes ++ zeros count) place ≡ 0
zero_behind bytes count place behind =
    get_or-append_right bytes (zeros count) (length bytes) place 0 refl behind
    ∙ elim (cases_lt (place - length bytes) count) [
      | inl inside ↦ get_or-replicate count (place - length bytes) 0 0 inside
      | inr past ↦ get_or_past (zeros count) (place - length bytes) 0 (omega (arith, past, length-replicate {A = ℕ} count 0))
    ]

-- zeros behind the file's bytes are stale, as many as then stand behind the stale ones
stale_grown : (from : ℕ) (stale : List ℕ) (file after : File) (count : ℕ) → HasStaleFrom from stale file → after.content ≡ file.content ++ zeros count
    → HasStaleFrom from (stale ++ zeros (length file.content - length stale + count)) after
stale_grown from stale file after count is same =
    let content = file.content in
    let k = length content - length stale + count in
    let long : length (stale ++ zeros k) ≡ length content + count = length-append stale (zeros k) ∙ omega (arith, is.covers, length-replicate {A = ℕ} k 0) in
    let longer : length after.content ≡ length content + count = ap length same ∙ length-append content (zeros count) ∙ omega (arith, length-replicate {A = ℕ} count 0) in
    let here : (place : ℕ) → slice_index after.content place ≡ slice_index (content ++ zeros count) place = λ place. ap (λ (b : List ℕ). slice_index b place) same in
    record {
      stands = λ place behind below. (
        omega (arith, below, long, longer),
        elim (cases_lt place (length content)) [
          | inl inside ↦
              let old = is.stands place behind inside in
              here place ∙ get_or_append_left content (zeros count) 0 place inside ∙ old.1 ∙ sym (get_or_append_left stale (zeros k) 0 place old.0)
          | inr past ↦ here place ∙ zero_behind content count place past ∙ sym (zero_behind stale k place (omega (arith, is.covers, past)))
        ],
      );
      covers = omega (arith, long, longer);
    }

-- a write in front of stale bytes leaves those behind it
pub stale_wrote : (from at : ℕ) (bytes stale : List ℕ) (file : File) → from ≤ at + length bytes → HasStaleFrom from stale file → HasStaleFrom (at + length bytes) stale (after_change (Wrote at bytes) file)
stale_wrote from at bytes stale file before is =
    let torn = overwritten_torn at bytes file.content in
    record {
      stands = λ place behind below.
          let inside : place < length file.content = elim (cases_lt place (length file.content)) [
            | inl less ↦ less
            | inr past ↦ absurd (let most = torn.within place past behind in omega (arith, most, below))
          ] in
          let old = is.stands place (omega (arith, before, behind)) inside in
          (old.0, torn.outside place inside (inr behind) ∙ old.1);
      covers = omega (arith, is.covers, torn.longer);
    }

module _ {R : Type 0} (IsFrame : List ℕ → R → Type 0) (start : ℕ) (stale : List ℕ) (durable pending : List (Written R)) (from : ℕ) where
  -- the chain and the stale bytes, after an allocation: it has made some zeros stale
  pub ready_room : (handle : Handle) (capacity end target : ℕ) (old new : Disk) → MakesRoom handle capacity end target old new
      → HasFile handle.file (λ file. HoldsChain IsFrame start stale durable pending file × HasStaleFrom from stale file) old
      → (k : ℕ) × HasFile handle.file (λ file. HoldsChain IsFrame start (stale ++ zeros k) durable pending file × HasStaleFrom from (stale ++ zeros k) file) new
  ready_room handle capacity end target old new room has =
      let P : File → Type 0 = λ file. HoldsChain IsFrame start stale durable pending file × HasStaleFrom from stale file in
      let Q : File → Type 0 = λ file. (k : ℕ) × (HoldsChain IsFrame start (stale ++ zeros k) durable pending file × HasStaleFrom from (stale ++ zeros k) file) in
      let after = room_keeps handle capacity end target old new P Q same grown room has in
      (after.has.0, record { file = after.file; is = after.is; has = after.has.1 })
    where
      same : (file : File) → HoldsChain IsFrame start stale durable pending file × HasStaleFrom from stale file
          → (k : ℕ) × (HoldsChain IsFrame start (stale ++ zeros k) durable pending file × HasStaleFrom from (stale ++ zeros k) file)
      same file is = (0, subst (λ (s : List ℕ). HoldsChain IsFrame start s durable pending file × HasStaleFrom from s file) (sym (append-nil stale)) is)

      grown : (file : File) (content : List ℕ) → capacity < end → HoldsChain IsFrame start stale durable pending file × HasStaleFrom from stale file
          → InPart (GrewTo (capacity + allocated capacity end target)) file.content content
          → (k : ℕ) × (HoldsChain IsFrame start (stale ++ zeros k) durable pending (with_change (GrewTo (capacity + allocated capacity end target)) content file)
          × HasStaleFrom from (stale ++ zeros k) (with_change (GrewTo (capacity + allocated capacity end target)) content file))
      grown file content far is part =
          let size = capacity + allocated capacity end target in
          let k = length file.content - length stale + part.0 in
          let next = with_change (GrewTo size) content file in
          (k, (chain_longer IsFrame start stale (zeros k) durable pending next (holds_grown IsFrame start stale durable pending size content file is.0), stale_grown from stale file next part.0 is.1 part.2))
