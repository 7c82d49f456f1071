-- What a stop left of a queue's last file, once it was read: it may be cut behind its records, or to nothing.
use Rattle.std.proofs.Common.{◌≡◌, ℕ, ◌+◌, List, [], ◌++◌, length, take, drop, refl, sym, ◌∙◌, ap, subst, inl, inr, arith, length-append}
use Rattle.std.proofs.Math.Seq.{drop-nil}
use Rattle.std.proofs.lemmas.List.{append-nil, append_assoc, drop_at, take_at}
use Rattle.std.proofs.lemmas.List.Elements.{All-nil}
use Rattle.raft_log_fs.specs.Disk.{ShortenedTo, File, Disk, at_rest}
use Rattle.raft_log_fs.specs.Image.{Spares}
use Rattle.raft_log_fs.specs.Calls.{with_change}
use Rattle.raft_log_file_writer.specs.LawsChains.{Written, Refuses, Reads, spelled}
use Rattle.raft_log_file_writer.specs.LogFormat.{Format, IsFormat, HasHeader, ReadsFile}
use Rattle.raft_log_file_writer.specs.LogQueue.{Past, LogFiles, recent, HoldsLast, IsPast, IsLeftover}
use Rattle.raft_log_fs.specs.Touching.{HasFile}
use Rattle.raft_log_file_writer.proofs.Public.{holds_at_least, holds_changed, holds_read, nothing_refuses, reads_unique}
use Rattle.raft_log_active_file.specs.Queue.{whole, begun}
use Rattle.raft_log_active_file.specs.States.{IsFront, IsNew}
use Rattle.raft_log_active_file.specs.Standing.{Names, Stands}
use Rattle.raft_log_active_file.specs.Reopening.{reread}
use Rattle.raft_log_active_file.proofs.FileSteps.{new_over}

module _ {R : Type 0} (F : Format R) where
  -- a queue with the same earlier files and number stands where the other does, whatever its header is
  pub stands_as : (own : List ℕ → Type 0) (base : Disk) (q p : LogFiles R) (path : List ℕ) (id : ℕ) (P : File → Type 0) (N : Names) (d : Disk) → p.older ≡ q.older → p.last ≡ q.last → F.IsHeader p.header
      → Stands F own base q path id P N d → Stands F own base p path id P N d
  stands_as own base q p path id P N d older last header s = record {
    names = s.names;
    bound = (let bound = s.bound in omega (arith, bound, last));
    at = subst (λ (n : ℕ). F.IsPath n path) (sym last) s.at;
    named = s.named;
    alone = λ other j at is. s.alone other j (subst (λ (n : ℕ). F.IsPath n other) last at) is;
    none = λ m other above less at. s.none m other (omega (arith, above, last)) less at;
    headed = header;
    places = s.places;
    file = s.file;
    older = λ m j other below at is. subst (λ (h : ℕ → Past R). HasFile j (IsPast F m (h m)) d) (sym older) (s.older m j other (omega (arith, below, last)) at is);
    single = λ m i j a b below. s.single m i j a b (omega (arith, below, last));
    others = s.others;
  }

  -- a file without records, cut at any place
  pub new_shortened : (header stale : List ℕ) (q : LogFiles R) (size : ℕ) (content : List ℕ) (file : File) → IsNew F (begun header stale q) file
      → HoldsLast F (begun header stale q) (with_change (ShortenedTo size) content file)
  new_shortened header stale q size content file is = record {
    chain = holds_at_least (F.IsFrame q.last header) (length header) stale [] [] (with_change (ShortenedTo size) content file)
        (holds_changed (F.IsFrame q.last header) (length header) stale [] [] [] [] (ShortenedTo size) content file tt refl (λ place from less touched. omega (arith, from, less)) (λ n bs new. cc) is.chain);
    headed = inr refl;
  }

  module _ (lawful : IsFormat F) where
    -- an empty file, whatever stood in it
    pub empty_holds : (header stale : List ℕ) (q : LogFiles R) → HoldsLast F (begun header stale q) (at_rest [])
    empty_holds header stale q =
        let IsFrame = F.IsFrame q.last header in
        let free = lawful.free q.last header in
        let reads : Reads IsFrame (length header) [] [] =
        record { rest = drop (length header) []; splits = refl; frames = tt; ends = subst (Refuses IsFrame) (sym (drop-nil (length header))) (nothing_refuses IsFrame free) } in
        record { chain = holds_at_least IsFrame (length header) stale [] [] (at_rest []) (holds_read IsFrame (length header) free stale [] [] reads); headed = inr refl }

    -- what is read behind a file's header are the queue's records
    own_records : (q : LogFiles R) (header bytes : List ℕ) → HasHeader F header bytes → ReadsFile F q.last (recent q) bytes → Reads (F.IsFrame q.last header) (length header) (recent q) bytes
    own_records q header bytes has (inl (none, headless)) = absurd (headless header has)
    own_records q header bytes has (inr (other, there, reads)) =
        let same : other ≡ header = lawful.headers other header there.rest has.rest there.is has.is (sym there.splits ∙ has.splits) in
        subst (λ (h : List ℕ). Reads (F.IsFrame q.last h) (length h) (recent q) bytes) same reads

    front_of : (q : LogFiles R) (header bytes : List ℕ) → HasHeader F header bytes → Reads (F.IsFrame q.last header) (length header) (recent q) bytes → IsFront F (reread header [] q) [] (at_rest bytes)
    front_of q header bytes has reads =
        let ws = recent q in
        let all : List ℕ = header ++ spelled ws in
        let next = reread header [] q in
        let same : whole next ≡ all = ap (λ (vs : List (Written R)). header ++ spelled vs) (append-nil ws) in
        let behind : has.rest ≡ spelled ws ++ reads.rest = sym (drop_at header has.rest (length header) refl) ∙ ap (λ (b : List ℕ). drop (length header) b) (sym has.splits) ∙ reads.splits in
        let splits : bytes ≡ all ++ reads.rest = has.splits ∙ ap (λ (b : List ℕ). header ++ b) behind ∙ sym (append_assoc header (spelled ws) reads.rest) in
        record {
          chain = holds_read (F.IsFrame q.last header) (length header) (lawful.free q.last header) [] ws bytes reads;
          headed = record { front = ap (λ (b : List ℕ). take (length header) b) has.splits ∙ take_at header has.rest (length header) refl; spared = λ place less. All-nil (Spares place) };
          front = ap (λ (b : List ℕ). take (length b) bytes) same ∙ ap (λ (b : List ℕ). take (length all) b) splits ∙ take_at all reads.rest (length all) refl ∙ sym same;
        }

    -- A file that begins with this header: its records stand in front, and end where they were read to.
    pub leftover_front : (q : LogFiles R) (header : List ℕ) (file : File) → HasHeader F header file.content → IsLeftover F q file → IsFront F (reread header [] q) [] file
    leftover_front q header file has left =
        let same : file.content ≡ left.bytes = ap (λ (f : File). f.content) left.is in
        let there : HasHeader F header left.bytes = subst (HasHeader F header) same has in
        subst (IsFront F (reread header [] q) []) (sym left.is) (front_of q header left.bytes there (own_records q header left.bytes there left.reads))

    pub leftover_end : (q : LogFiles R) (header : List ℕ) (ws : List (Written R)) (file : File) → HasHeader F header file.content → Reads (F.IsFrame q.last header) (length header) ws file.content → IsLeftover F q file
        → length header + length (spelled ws) ≡ length (whole (reread header [] q))
    leftover_end q header ws file has reads left =
        let same : file.content ≡ left.bytes = ap (λ (f : File). f.content) left.is in
        let there : HasHeader F header left.bytes = subst (HasHeader F header) same has in
        let own = own_records q header left.bytes there left.reads in
        let records : recent q ≡ ws = reads_unique (F.IsFrame q.last header) (lawful.free q.last header) (length header) ws (recent q) left.bytes (subst (Reads (F.IsFrame q.last header) (length header) ws) same reads) own in
        sym (length-append header (spelled ws)) ∙ ap (λ (vs : List (Written R)). length (header ++ spelled vs)) (sym records ∙ sym (append-nil (recent q)))

    -- A file without a header has no records, whatever header it is to get.
    pub leftover_new : (q : LogFiles R) (header : List ℕ) (file : File) → ((other : List ℕ) → HasHeader F other file.content → ⊥) → IsLeftover F q file
        → (recent q ≡ []) × IsNew F (begun header file.content q) file
    leftover_new q header file headless left =
        let same : file.content ≡ left.bytes = ap (λ (f : File). f.content) left.is in (
          none left.reads (λ other has. headless other (subst (HasHeader F other) (sym same) has)),
          subst (λ (f : File). IsNew F (begun header f.content q) f) (sym left.is) (new_over F header left.bytes q),
        )
      where
        none : {bytes : List ℕ} → ReadsFile F q.last (recent q) bytes → ((other : List ℕ) → HasHeader F other bytes → ⊥) → recent q ≡ []
        none (inl (empty, headless)) without = empty
        none (inr (other, has, reads)) without = absurd (without other has)
