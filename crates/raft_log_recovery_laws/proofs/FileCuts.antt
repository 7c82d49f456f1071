-- A last file that is read as it stands is cut behind what is read: it holds its records still, whether the
-- cut and its sync are answered or refused.
use Rattle.std.specs.Prelude.{Result, Err}
use Rattle.std.specs.declared.io.ErrorKind.{ErrorKind}
use Rattle.std.proofs.Common.{◌≡◌, ℕ, ◌+◌, ◌≤◌, Option, Some, None, List, [], ◌∷◌, ◌++◌, length, take, drop, refl, sym, ap, subst, ◌∙◌, inl, inr, arith, length-append, append-nil, unwrap_or}
use Rattle.std.proofs.lemmas.List.{append_assoc, drop_at, length-take, take-append-drop, take_at}
use Rattle.std.proofs.lemmas.List.Elements.{All-nil, All-push}
use Rattle.raft_log_fs.specs.Arguments.{WrongHandle, WrongWriter}
use Rattle.raft_log_fs.specs.Calls.{after_change, flushed, with_change}
use Rattle.raft_log_file_writer.specs.LawsChains.{AreFrames, Reads, Written, spelled}
use Rattle.raft_log_fs.specs.Disk.{ShortenedTo, File, Disk, at_rest}
use Rattle.raft_log_fs.specs.Image.{IsSoundFile, Spares}
use Rattle.raft_log_file_writer.specs.KeepsSynced.{AreKept, HoldsAtLeast, HoldsChain, NoChanceMatch}
use Rattle.raft_log_file_writer.specs.LogFormat.{Format, HasHeader, IsFormat, NoChanceInFile}
use Rattle.raft_log_file_writer.specs.LogQueue.{HeaderStands, HoldsLast, LogFiles, recent}
use Rattle.raft_log_fs.specs.declared.handle.Handle.{Handle}
use Rattle.raft_log_file_writer.proofs.Public.{at_least_keeps, frames_back, holds_at_least, holds_changed, holds_more, holds_read, holds_shortened, left_keeps_part, nothing_refuses, spelled-append}
use Rattle.raft_log_active_file.specs.Queue.{begun}
use Rattle.raft_log_active_file.specs.Reopening.{IsReadTo}
use Rattle.raft_log_active_file.specs.Standing.{HaveOneName, Names, OwnsPaths, Stands}
use Rattle.raft_log_active_file.proofs.Public.{empty_holds, stands_changed, stands_done, stands_synced}
use Rattle.raft_log_active_file.specs.TakingUp.{TrimMakes, Trims, uncut, unsynced}

-- the last file holds its records, and no checksum is met by chance in it as it stands
pub record IsSure {R : Type 0} (F : Format R) (q : LogFiles R) (file : File) : Type 0 where
  pub holds : HoldsLast F q file
  pub sound : IsSoundFile file
  pub chance : NoChanceInFile F q.last q.header q.stale (spelled (recent q)) file file.content

pub front_nil : {X : Type 0} (xs ys : List X) → xs ++ ys ≡ [] → xs ≡ []
front_nil [] ys none = refl
front_nil (x ∷ xs) ys none = (let never : ⊥ = cc in absurd never)

pub back_nil : {X : Type 0} (xs ys : List X) → xs ++ ys ≡ [] → ys ≡ []
back_nil [] ys none = none
back_nil (x ∷ xs) ys none = (let never : ⊥ = cc in absurd never)

module _ {R : Type 0} (F : Format R) (lawful : IsFormat F) (q : LogFiles R) (headed : F.IsHeader q.header) (file : File) (sure : IsSure F q file) where
  abbrev G : List ℕ → R → Type 0
  G = F.IsFrame q.last q.header

  abbrev n : ℕ
  n = length q.header

  abbrev chain : HoldsAtLeast G n q.stale q.durable q.pending file
  chain = sure.holds.chain

  -- a header that is synced is read
  begins : HeaderStands q.header file → HasHeader F q.header file.content
  begins stands =
      let long : n ≤ length file.synced = omega (arith, ap length stands.front, length-take n file.synced) in
      let front : take n file.content ≡ q.header =
      left_keeps_part 0 n file file.content (omega (arith, long)) (λ place from below. stands.spared place (omega (arith, below))) sure.sound.stands ∙ stands.front in
      record { is = headed; rest = drop n file.content; splits = sym (take-append-drop n file.content) ∙ ap (λ (l : List ℕ). l ++ drop n file.content) front }

  -- so a file in which none is read has no record
  none_of : ((header : List ℕ) → HasHeader F header file.content → ⊥) → recent q ≡ []
  none_of headless = elim sure.holds.headed [ inl stands ↦ absurd (headless q.header (begins stands)) | inr none ↦ none ]

  -- It is emptied.

  pub emptied : recent q ≡ [] → HoldsLast F q (at_rest [])
  emptied none =
      let first : q.durable ≡ [] = front_nil q.durable q.pending none in
      let behind : q.pending ≡ [] = back_nil q.durable q.pending none in
      let same : begun q.header q.stale q ≡ q = λ i. record q { durable = sym first i; pending = sym behind i } in
      subst (λ (p : LogFiles R). HoldsLast F p (at_rest [])) same (empty_holds F lawful q.header q.stale q)

  pub tried_to_empty : recent q ≡ [] → (content : List ℕ) → HoldsLast F q (with_change (ShortenedTo 0) content file)
  tried_to_empty none content =
      let all : (q.durable ++ chain.more) ++ chain.rest ≡ [] = append_assoc q.durable chain.more chain.rest ∙ ap (λ (l : List (Written R)). q.durable ++ l) (sym chain.splits) ∙ none in
      let first : q.durable ++ chain.more ≡ [] = front_nil (q.durable ++ chain.more) chain.rest all in
      record {
        chain = record {
          more = chain.more;
          rest = chain.rest;
          splits = chain.splits;
          holds = holds_changed G n q.stale (q.durable ++ chain.more) chain.rest [] chain.rest (ShortenedTo 0) content file tt (append-nil chain.rest)
              (λ place from less touched. omega (arith, from, less, ap (λ (l : List (Written R)). length (spelled l)) first)) (λ m bs new. cc) chain.holds;
        };
        headed = inr none;
      }

  -- It is cut behind what was read.
  module _ (header : List ℕ) (ws : List (Written R)) (size : ℕ) (has : HasHeader F header file.content) (reads : Reads (F.IsFrame q.last header) (length header) ws file.content) (ends : size ≡ length header + length (spelled ws)) where
    own : header ≡ q.header
    own = sure.chance.headers header has

    its : Reads G n ws file.content
    its = subst (λ (h : List ℕ). Reads (F.IsFrame q.last h) (length h) ws file.content) own reads

    kept : AreKept (q.durable ++ chain.more) chain.rest ws
    kept = at_least_keeps G n q.stale (q.durable ++ chain.more) chain.rest file (lawful.free q.last q.header) (holds_at_least G n q.stale (q.durable ++ chain.more) chain.rest file chain.holds) file.content sure.sound.stands
        (subst (λ (l : List (Written R)). NoChanceMatch G n q.stale (spelled l) file file.content) (ap (λ (l : List (Written R)). q.durable ++ l) chain.splits ∙ sym (append_assoc q.durable chain.more chain.rest)) sure.chance.records) ws its

    behind : n + length (spelled (q.durable ++ chain.more)) ≤ size
    behind =
        let all = q.durable ++ chain.more in
        let more = take kept.0 chain.rest in
        omega (arith, ends, ap length own, ap (λ (l : List (Written R)). length (spelled l)) kept.2, ap length (spelled-append all more), length-append (spelled all) (spelled more))

    pub tried_to_cut : (content : List ℕ) → HoldsLast F q (with_change (ShortenedTo size) content file)
    tried_to_cut content = record {
      chain = record {
        more = chain.more;
        rest = chain.rest;
        splits = chain.splits;
        holds = holds_shortened G n q.stale (q.durable ++ chain.more) chain.rest size content file behind chain.holds;
      };
      headed = elim sure.holds.headed [
        | inl stands ↦ inl (record {
          front = stands.front;
          spared = λ place less. All-push (Spares place) file.changes (ShortenedTo size) (stands.spared place less) (λ from. omega (arith, less, from, behind));
        })
        | inr none ↦ inr none
      ];
    }

    -- what is left of it
    left_is : take size file.content ≡ q.header ++ spelled ws
    left_is =
        let there : HasHeader F q.header file.content = subst (λ (h : List ℕ). HasHeader F h file.content) own has in
        let all : List ℕ = q.header ++ spelled ws in
        let rest : there.rest ≡ spelled ws ++ its.rest = sym (drop_at q.header there.rest n refl) ∙ ap (λ (b : List ℕ). drop n b) (sym there.splits) ∙ its.splits in
        let splits : file.content ≡ all ++ its.rest = there.splits ∙ ap (λ (b : List ℕ). q.header ++ b) rest ∙ sym (append_assoc q.header (spelled ws) its.rest) in
        let long : size ≡ length all = ends ∙ ap (λ (h : List ℕ). length h + length (spelled ws)) own ∙ sym (length-append q.header (spelled ws)) in
        ap (λ (k : ℕ). take k file.content) long ∙ ap (λ (b : List ℕ). take (length all) b) splits ∙ take_at all its.rest (length all) refl

    left_reads : Reads G n ws (q.header ++ spelled ws)
    left_reads = record {
      rest = [];
      splits = drop_at q.header (spelled ws) n refl ∙ sym (append-nil (spelled ws));
      frames = its.frames;
      ends = nothing_refuses G (lawful.free q.last q.header);
    }

    pub cut_holds : HoldsLast F q (at_rest (take size file.content))
    cut_holds =
        let free = lawful.free q.last q.header in
        let all = at_least_keeps G n q.stale q.durable q.pending file free chain file.content sure.sound.stands sure.chance.records ws its in
        let count : ℕ = all.0 in
        let rest : List (Written R) = drop count q.pending in
        let framed : AreFrames G (recent q) = subst (AreFrames G) (append_assoc q.durable chain.more chain.rest ∙ ap (λ (l : List (Written R)). q.durable ++ l) (sym chain.splits)) chain.holds.frames in
        let halves : take count q.pending ++ rest ≡ q.pending = take-append-drop count q.pending in
        let rest_framed : AreFrames G rest = frames_back G (take count q.pending) rest (subst (AreFrames G) (sym halves) (frames_back G q.durable q.pending framed)) in
        let bytes : List ℕ = q.header ++ spelled ws in
        let held : HoldsChain G n q.stale ws rest (at_rest bytes) = holds_more G n q.stale ws [] rest (at_rest bytes) rest_framed (holds_read G n free q.stale ws bytes left_reads) in
        subst (λ (b : List ℕ). HoldsLast F q (at_rest b)) (sym left_is) (record {
          chain = record {
            more = take count q.pending;
            rest = rest;
            splits = sym halves;
            holds = subst (λ (l : List (Written R)). HoldsChain G n q.stale l rest (at_rest bytes)) all.2 held;
          };
          headed = inl (record { front = take_at q.header (spelled ws) n refl; spared = λ place below. All-nil (Spares place) });
        })

  pub cut_holds_to : (end : Option ℕ) → IsReadTo F q.last end file → HoldsLast F q (at_rest (take (unwrap_or end 0) file.content))
  cut_holds_to (Some size) (header, ws, has, reads, ends) = cut_holds header ws size has reads ends
  cut_holds_to None headless = emptied (none_of headless)

  pub tried_holds_to : (end : Option ℕ) → IsReadTo F q.last end file → (content : List ℕ) → HoldsLast F q (with_change (ShortenedTo (unwrap_or end 0)) content file)
  tried_holds_to (Some size) (header, ws, has, reads, ends) content = tried_to_cut header ws size has reads ends content
  tried_holds_to None headless content = tried_to_empty (none_of headless) content

-- The files of a queue, of which the last one is cut.

abbrev refused : ErrorKind → Result (Unit {0}) ErrorKind
refused e = Err e

module _ {R : Type 0} (F : Format R) (own : List ℕ → Type 0) (lawful : IsFormat F) (owns : OwnsPaths F own) (base : Disk) (q : LogFiles R) (path : List ℕ) (N : Names) (handle : Handle) (end : Option ℕ) (one : HaveOneName N) where
  abbrev IsSureTo : File → Type 0
  IsSureTo file = IsSure F q file × IsReadTo F q.last end file

  abbrev size : ℕ
  size = unwrap_or end 0

  pub stands_trimmed : (old new : Disk) → Trims handle size old new → Stands F own base q path handle.file IsSureTo N old → Stands F own base q path handle.file (λ file. HoldsLast F q file × (file ≡ at_rest file.content)) N new
  stands_trimmed old new trims s =
      let cut = stands_done F own base lawful owns q path handle.file IsSureTo (λ file. HoldsLast F q (at_rest file.content)) N (after_change (ShortenedTo size)) old trims.cut one trims.shortens
      (λ file was. cut_holds_to F lawful q s.headed file was.0 end was.1) s in
      stands_done F own base lawful owns q path handle.file (λ file. HoldsLast F q (at_rest file.content)) (λ file. HoldsLast F q file × (file ≡ at_rest file.content)) N flushed trims.cut new one trims.syncs (λ file was. (was, refl)) cut

  pub stands_untrimmed : (error : ErrorKind) (old new : Disk) → TrimMakes handle size error old new → Stands F own base q path handle.file IsSureTo N old → Stands F own base q path handle.file (HoldsLast F q) N new
  stands_untrimmed error old new (uncut fails) s =
      stands_changed F own base lawful owns q path handle.file IsSureTo (HoldsLast F q) N (WrongWriter handle old) (refused error) (ShortenedTo size) one (λ file was. was.0.holds)
      (λ file content was part. tried_holds_to F lawful q s.headed file was.0 end was.1 content) tt fails s
  stands_untrimmed error old new (unsynced cut shortens fails) s =
      let there = stands_done F own base lawful owns q path handle.file IsSureTo (λ file. HoldsLast F q file × HoldsLast F q (at_rest file.content)) N (after_change (ShortenedTo size)) old cut one shortens
      (λ file was. (tried_holds_to F lawful q s.headed file was.0 end was.1 (take size file.content), cut_holds_to F lawful q s.headed file was.0 end was.1)) s in
      stands_synced F own base lawful owns q path handle.file (λ file. HoldsLast F q file × HoldsLast F q (at_rest file.content)) (HoldsLast F q) N (WrongHandle handle cut) (refused error) one (λ file was. was.0) (λ file was. was.1) tt fails there
