-- Files that leave a pipe's span, and those that are dropped.
use Rattle.std.specs.Prelude.{Result, Err}
use Rattle.std.specs.declared.io.ErrorKind.{ErrorKind}
use Rattle.std.specs.String.{string_bytes}
use Rattle.std.specs.Global.{Global}
use Rattle.std.specs.Map.{update}
use Rattle.std.specs.Str.{bytes_eq}
use Rattle.std.proofs.Common.{◌≡◌, ℕ, ◌<◌, suc, Some, None, List, [], ◌∷◌, ◌++◌, length, drop, take, map, get_or, String, zero, false, inl, inr, append_assoc, refl, sym, ◌∙◌, ap, subst, arith}
use Rattle.raft_log_fs.specs.Disk.{File, Disk}
use Rattle.std.proofs.lemmas.List.{length-map, take-append-drop}
use Rattle.raft_log_fs.specs.Arguments.{WrongName}
use Rattle.raft_log_fs.specs.Calls.{Deletes, deleted}
use Rattle.raft_log_fs.specs.Causes.{IsLater}
use Rattle.raft_log_fs.specs.Exits.{FailsToDelete}
use Rattle.raft_log_fs.specs.Image.{IsSound}
use Rattle.raft_log_file_writer.specs.LogFormat.{Format}
use Rattle.raft_log_file_writer.specs.LogQueue.{LogFiles, IsPast}
use Rattle.raft_log_fs.specs.Touching.{HasFile}
use Rattle.raft_log_fs.proofs.Public.{fails_after, kept_delete, name_apart, IsCalm}
use Rattle.raft_log_active_file.specs.Queue.{begun}
use Rattle.raft_log_active_file.specs.States.{IsNew}
use Rattle.raft_log_active_file.specs.Standing.{Names}
use Rattle.raft_log_active_file.proofs.Public.{new_over}
use Rattle.raft_log_active_file.specs.Layout.{FilePaths, IsLayout, path_of}
use Rattle.raft_log_active_file.specs.Exits.{IsOpen}
use Rattle.raft_log_active_file.specs.Rotation.{CanDrop, Drops, FailsToDrop, FilesStay}
use Rattle.raft_log_file_pipe.specs.declared.pipe_files.PipeFiles.{PipeFiles}
use Rattle.raft_log_file_pipe.specs.Files.{Listed, IsSpan, CanBeUsed, NoneHas, IsPipe}
use Rattle.raft_log_file_pipe.specs.Calls.{DropsBy, DropsUntil}
use Rattle.raft_log_file_pipe.specs.Purging.{without, AreGone, DropsTo, LosesFirst, FailsToDropAll}
use Rattle.raft_log_file_pipe.proofs.Lists.{path_numbered, span_end, span_moved, kept_moved, numbers_apart}

module _ {R : Type 0} (F : Format R) (own : List ℕ → Type 0) (paths : FilePaths) (lawful : IsLayout F own paths) where
  -- a file below the span may be dropped
  pub can_drop : (base d : Disk) (files : PipeFiles) (q : LogFiles R) (f : Listed) (id : ℕ) → IsPipe F own paths base files q d → f.seq < files.first_seq → f.reserved ≡ false → d.names (path_of paths f) ≡ Some id → CanDrop F own q (path_of paths f) d.names
  can_drop base d files q f id is below listed named =
      let ends = span_end paths d.names files.first_seq q.last files.earlier.items is.span in
      let bound = is.active.stands.bound in
      let less : f.seq < F.limit = omega (arith, below, ends, bound) in
      let at : F.IsPath f.seq (path_of paths f) = subst (F.IsPath f.seq) (sym (path_numbered paths f listed)) (lawful.numbered f.path_id f.seq less) in
      record {
        mine = lawful.owns f.seq (path_of paths f) less at;
        apart = λ m from small there. (let number : m ≡ f.seq = lawful.format.paths m f.seq (path_of paths f) small less there at in omega (arith, number, below, ends, from));
        id = id;
        named = named;
      }

  -- the pipe once such a file was dropped, which is none of those that are kept for use
  pub pipe_dropped : (base old new : Disk) (files : PipeFiles) (q : LogFiles R) (f : Listed) (id : ℕ) → IsSound old → IsPipe F own paths base files q old → f.seq < files.first_seq → f.reserved ≡ false → old.names (path_of paths f) ≡ Some id
      → NoneHas paths (path_of paths f) files.recycled.items → Drops F own (path_of paths f) old new → FilesStay id id old new → IsPipe F own paths base files q new
  pipe_dropped base old new files q f id sound is below listed named others drops stay =
      let gone = path_of paths f in
      let ends = span_end paths old.names files.first_seq q.last files.earlier.items is.span in
      let bound = is.active.stands.bound in
      let (stands, gaps) = drops base files.writer q (path_of paths files.active) old.names (can_drop base old files q f id is below listed named) is.active in
      let names : new.names ≡ update bytes_eq old.names gone None = stands.stands.names in
      let gone_is = path_numbered paths f listed in
      record {
        active = subst (λ (N : Names). IsOpen F own base files.writer q (path_of paths files.active) N new) (sym names) stands;
        number = is.number;
        listed = is.listed;
        header = is.header;
        handle = is.handle;
        span = span_moved paths old.names new.names files.first_seq q.last files.earlier.items (λ directory n from less. ap (λ (N : Names). N (paths.numbered directory n)) names ∙ name_apart old.names gone None (paths.numbered directory n)
            (λ same. numbers_apart F own paths lawful directory f.path_id n f.seq (omega (arith, less, bound)) (omega (arith, below, ends, bound)) (λ e. omega (arith, e, from, below)) (same ∙ gone_is))) is.span;
        kept = kept_moved F paths files.first_seq files.first_seq old new gone files.recycled.items others (λ g apart was.
            (let other : g.handle.file ≡ id → ⊥ = λ same. apart (sound.one_name (path_of paths g) gone id (was.named ∙ ap Some same) named) in
            record {
              named = ap (λ (N : Names). N (path_of paths g)) names ∙ name_apart old.names gone None (path_of paths g) apart ∙ was.named;
              below = was.below;
              small = was.small;
              usable = record { file = was.usable.file; is = stay g.handle.file was.usable.file other other was.usable.is; has = was.usable.has };
            })) is.kept;
      }

  -- a finished file can be used again
  pub past_is_usable : (n : ℕ) (id : ℕ) (q : LogFiles R) (d : Disk) → HasFile id (IsPast F n (q.older n)) d → HasFile id (CanBeUsed F) d
  past_is_usable n id q d has = record {
    file = has.file;
    is = has.is;
    has = λ p header head. (let content : List ℕ = has.file.content in
        let rest = has.has.is in
        subst (λ (file : File). IsNewOver p header file) (sym rest) (new_over F header _ p));
  }
    where
      IsNewOver : LogFiles R → List ℕ → File → Type 0
      IsNewOver p header file = IsNew F (begun header file.content p) file

-- Dropping some files, one after the other.

-- the item of a list at a place, and those behind it
split_drop : (paths : FilePaths) (i : ℕ) (gs : List Listed) → i < length gs → (f : Listed) × (rest : List Listed) × (drop i gs ≡ f ∷ rest) × (drop (suc i) gs ≡ rest) × (take (suc i) (map (path_of paths) gs) ≡ take i (map (path_of paths) gs) ++ path_of paths f ∷ [])
split_drop paths i [] less = absurd (omega (arith, less))
split_drop paths zero (g ∷ gs) less = (g, gs, refl, refl, refl)
split_drop paths (suc i) (g ∷ gs) less = (let (f, rest, here, behind, front) = split_drop paths i gs (omega (arith, less)) in (f, rest, here, behind, ap (λ (ps : List (List ℕ)). path_of paths g ∷ ps) front))

-- the names without one more
without_more : (ps : List (List ℕ)) (p : List ℕ) (N : Names) → without (ps ++ p ∷ []) N ≡ update bytes_eq (without ps N) p None
without_more [] p N = refl
without_more (q ∷ ps) p N = without_more ps p (update bytes_eq N q None)

-- two lists with the same front, and one more item
same_last : (xs : List (List ℕ)) (a b : List ℕ) → xs ++ a ∷ [] ≡ xs ++ b ∷ [] → a ≡ b
same_last [] a b same = cc same
same_last (x ∷ xs) a b same = same_last xs a b (let tails : xs ++ a ∷ [] ≡ xs ++ b ∷ [] = cc same in tails)

-- one more is deleted, or isn't
pub drops_by_more : (ps : List (List ℕ)) (p : List ℕ) (old mid new : Disk) → DropsBy ps old mid → Deletes p mid new → DropsBy (ps ++ p ∷ []) old new
drops_by_more [] p old mid new same deletes = (new, subst (λ (d : Disk). Deletes p d new) same deletes, refl)
drops_by_more (x ∷ ps) p old mid new (between, first, more) deletes = (between, first, drops_by_more ps p between mid new more deletes)

pub drops_until : (ps rest : List (List ℕ)) (p : List ℕ) (error : ErrorKind) (old mid new : Disk) → DropsBy ps old mid → FailsToDelete p error mid new → DropsUntil (ps ++ p ∷ rest) old new
drops_until [] rest p error old mid new same fails = inl (error, subst (λ (d : Disk). FailsToDelete p error d new) same fails)
drops_until (x ∷ ps) rest p error old mid new (between, first, more) fails = inr (between, first, drops_until ps rest p error between mid new more fails)

-- a list by the place of an item
pub split_here : (ps : List (List ℕ)) (p : List ℕ) (i : ℕ) → take (suc i) ps ≡ take i ps ++ p ∷ [] → take i ps ++ p ∷ drop (suc i) ps ≡ ps
split_here ps p i front =
    sym (append_assoc (take i ps) (p ∷ []) (drop (suc i) ps)) ∙ ap (λ (xs : List (List ℕ)). xs ++ drop (suc i) ps) (sym front) ∙ take-append-drop (suc i) ps

-- files that are gone go on to be there under names that are the same for them
gone_stay : (paths : FilePaths) (N M : Names) (first : ℕ) (kept : List Listed) (path : List ℕ) (gs : List Listed) → NoneHas paths path gs → ((other : List ℕ) → (other ≡ path → ⊥) → M other ≡ N other) → AreGone paths N first kept gs → AreGone paths M first kept gs
gone_stay paths N M first kept path [] apart same is = tt
gone_stay paths N M first kept path (f ∷ fs) (here, behind) same (below, listed, (id, named), others, alone, rest) =
    (below, listed, (id, same (path_of paths f) here ∙ named), others, alone, gone_stay paths N M first kept path fs behind same rest)

module _ {R : Type 0} (F : Format R) (own : List ℕ → Type 0) (paths : FilePaths) (lawful : IsLayout F own paths) where
  -- one more is dropped
  pub drops_more : (gone : List (List ℕ)) (i : ℕ) (path : List ℕ) (old mid new : Disk) → IsSound mid → i < length gone → take (suc i) gone ≡ take i gone ++ path ∷ [] → DropsTo F own paths gone i old mid → Drops F own path mid new
      → ((id : ℕ) → mid.names path ≡ Some id → FilesStay id id mid new) → Deletes path mid new → DropsTo F own paths gone (suc i) old new
  drops_more gone i path old mid new sound less front before drops stay deletes base files q gs spelled is are =
      let (pipe, gaps, there, names, calls) = before base files q gs spelled is are in
      let (f, rest, here, behind, fronts) = split_drop paths i gs (omega (arith, less, ap length spelled, length-map gs (path_of paths))) in
      let (below, listed, (id, named), others, alone, are_rest) = subst (AreGone paths mid.names files.first_seq files.recycled.items) here there in
      let path_is : path ≡ path_of paths f = same_last (take i gone) path (path_of paths f) (sym front ∙ ap (take (suc i)) spelled ∙ fronts ∙ ap (λ (ps : List (List ℕ)). take i ps ++ path_of paths f ∷ []) (sym spelled)) in
      let drops_f : Drops F own (path_of paths f) mid new = subst (λ (p : List ℕ). Drops F own p mid new) path_is drops in
      let after = pipe_dropped F own paths lawful base mid new files q f id sound pipe below listed named others drops_f (stay id (ap mid.names path_is ∙ named)) in
      let (stands, more_gaps) = drops_f base files.writer q (path_of paths files.active) mid.names (can_drop F own paths lawful base mid files q f id pipe below listed named) pipe.active in
      let new_names : new.names ≡ update bytes_eq mid.names (path_of paths f) None = stands.stands.names in (
        after,
        λ m under none. more_gaps m under (gaps m under none),
        subst (AreGone paths new.names files.first_seq files.recycled.items) (sym behind) (gone_stay paths mid.names new.names files.first_seq files.recycled.items (path_of paths f) rest alone (λ other apart. ap (λ (N : Names). N other) new_names ∙ name_apart mid.names (path_of paths f) None other apart) are_rest),
        new_names ∙ ap (λ (N : Names). update bytes_eq N (path_of paths f) None) names ∙ sym (without_more (take i gone) (path_of paths f) old.names) ∙ ap (λ (ps : List (List ℕ)). without ps old.names) (ap (λ (p : List ℕ). take i gone ++ p ∷ []) (sym path_is) ∙ sym front),
        subst (λ (ps : List (List ℕ)). DropsBy ps old new) (sym front) (drops_by_more (take i gone) path old mid new calls deletes),
      )

  span_dropped : (base mid : Disk) (files : PipeFiles) (q : LogFiles R) (f : Listed) (id : ℕ) → IsPipe F own paths base files q mid → f.seq < files.first_seq → f.reserved ≡ false → IsSpan paths (deleted (path_of paths f) id mid).names files.first_seq files.earlier.items q.last
  span_dropped base mid files q f id is below listed =
      let ends = span_end paths mid.names files.first_seq q.last files.earlier.items is.span in
      let bound = is.active.stands.bound in
      span_moved paths mid.names (deleted (path_of paths f) id mid).names files.first_seq q.last files.earlier.items (λ directory n from less. name_apart mid.names (path_of paths f) None (paths.numbered directory n)
      (λ same. numbers_apart F own paths lawful directory f.path_id n f.seq (omega (arith, less, bound)) (omega (arith, below, ends, bound)) (λ e. omega (arith, e, from, below)) (same ∙ path_numbered paths f listed))) is.span

  -- it isn't
  pub drop_fails : (gone : List (List ℕ)) (i : ℕ) (path : List ℕ) (error : ErrorKind) (old mid new : Disk) → i < length gone → take (suc i) gone ≡ take i gone ++ path ∷ [] → DropsTo F own paths gone i old mid → IsLater old mid → FailsToDrop F own path mid new
      → FailsToDelete path error mid new → FailsToDropAll F own paths gone old new
  drop_fails gone i path error old mid new less front before later fails refused base files q gs spelled is are =
      let (pipe, gaps, there, names, calls) = before base files q gs spelled is are in
      let (f, rest, here, behind, fronts) = split_drop paths i gs (omega (arith, less, ap length spelled, length-map gs (path_of paths))) in
      let (below, listed, (id, named), others, alone, are_rest) = subst (AreGone paths mid.names files.first_seq files.recycled.items) here there in
      let path_is : path ≡ path_of paths f = same_last (take i gone) path (path_of paths f) (sym front ∙ ap (take (suc i)) spelled ∙ fronts ∙ ap (λ (ps : List (List ℕ)). take i ps ++ path_of paths f ∷ []) (sym spelled)) in
      let (cause, left, more_gaps) = subst (λ (p : List ℕ). FailsToDrop F own p mid new) path_is fails base files.writer q (path_of paths files.active) mid.names (can_drop F own paths lawful base mid files q f id pipe below listed named) pipe.active in
      let Q : Disk → Type 0 = λ d. IsSpan paths d.names files.first_seq files.earlier.items q.last in
      let calm : IsCalm Q = record { at_count = λ d span. span; at_end = λ d span. span } in
      let refusal : Result ℕ ErrorKind = Err error in
      let span = kept_delete Q (WrongName (path_of paths f) mid) refusal (path_of paths f) calm pipe.span (λ k at. span_dropped base mid files q f k pipe below listed) tt (subst (λ (p : List ℕ). FailsToDelete p error mid new) path_is refused) in
      let loses : Disk → Type 0 = λ d. LosesFirst gone old d in
      let still : IsCalm loses = record { at_count = λ d less. less; at_end = λ d less. less } in
      let one_less : update bytes_eq mid.names (path_of paths f) None ≡ without (take (suc i) gone) old.names =
      ap (λ (N : Names). update bytes_eq N (path_of paths f) None) names ∙ sym (without_more (take i gone) (path_of paths f) old.names) ∙ ap (λ (ps : List (List ℕ)). without ps old.names) (ap (λ (p : List ℕ). take i gone ++ p ∷ []) (sym path_is) ∙ sym front) in
      let first = kept_delete loses (WrongName (path_of paths f) mid) refusal (path_of paths f) still (i, names) (λ k at. (suc i, one_less)) tt (subst (λ (p : List ℕ). FailsToDelete p error mid new) path_is refused) in (
        fails_after old mid new later cause,
        left,
        λ m under none. more_gaps m under (gaps m under none),
        span,
        first,
        subst (λ (ps : List (List ℕ)). DropsUntil ps old new) (split_here gone path i front) (drops_until (take i gone) (drop (suc i) gone) path error old mid new calls refused),
      )

-- the front of a list of texts, with the one at a place
pub front_more : (ss : List (String Global)) (i : ℕ) (s : String Global) → i < length ss → s ≡ get_or ss i s → take (suc i) (map string_bytes ss) ≡ take i (map string_bytes ss) ++ string_bytes s ∷ []
front_more [] i s less is = absurd (omega (arith, less))
front_more (x ∷ xs) zero s less is = ap (λ (t : String Global). string_bytes t ∷ []) (sym is)
front_more (x ∷ xs) (suc i) s less is = ap (λ (ps : List (List ℕ)). string_bytes x ∷ ps) (front_more xs i s (omega (arith, less)) is)
