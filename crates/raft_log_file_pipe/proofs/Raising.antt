-- The first files of a pipe's span leave it: some stay for use, the others are to be dropped.
use Rattle.std.proofs.Common.{◌≡◌, ℕ, ◌+◌, ◌-◌, ◌<◌, ◌≤◌, ◌&&◌, nat_lt, suc, zero, Some, List, [], ◌∷◌, ◌++◌, length, get_or, drop, take, Bool, false, cond, refl, sym, ◌∙◌, ap, subst, inl, inr, arith, append_assoc}
use Rattle.std.proofs.lemmas.Bool.{cases_Bool}
use Rattle.std.proofs.lemmas.List.{take_all}
use Rattle.raft_log_fs.specs.Disk.{Disk}
use Rattle.raft_log_file_writer.specs.LogFormat.{Format}
use Rattle.raft_log_file_writer.specs.LogQueue.{LogFiles, IsPast}
use Rattle.raft_log_fs.specs.Touching.{HasFile}
use Rattle.raft_log_record_base.specs.declared.errors.Error.{Error}
use Rattle.raft_log_record_base.specs.declared.errors.Error.TheVariants as errors
use Rattle.raft_log_file_format.specs.Name.{IsNameRefusal}
use Rattle.raft_log_file_format.specs.Header.{header_bytes}
use Rattle.raft_log_file_writer.specs.declared.writer.LogFileWriter.{LogFileWriter}
use Rattle.raft_log_active_file.specs.Standing.{Names}
use Rattle.raft_log_active_file.specs.Layout.{FilePaths, IsLayout, path_of}
use Rattle.raft_log_active_file.specs.Exits.{IsOpen}
use Rattle.raft_log_file_pipe.specs.declared.pipe_files.PipeFiles.{PipeFiles}
use Rattle.raft_log_file_pipe.specs.Files.{Listed, IsSpan, IsKeptForUse, NoneHas, AllKept, IsPipe}
use Rattle.raft_log_file_pipe.specs.Calls.{DropsBy, DropsUntil}
use Rattle.raft_log_file_pipe.specs.Purging.{staying, going, room_from, without, AreGone, IsInSpan, IsRaised, LosesFirst, paths_going, DropsTo, FailsToDropAll, Purges, FailsToPurge, PartFails}
use Rattle.raft_log_record_base.specs.Files.{is_signed}
use Rattle.raft_log_file_pipe.proofs.Lists.{path_numbered, span_end, numbers_apart, kept_is_no_number}
use Rattle.raft_log_file_pipe.proofs.Dropping.{past_is_usable}

-- Lists.

none_more : (paths : FilePaths) (p : List ℕ) (xs bs : List Listed) → NoneHas paths p xs → NoneHas paths p bs → NoneHas paths p (xs ++ bs)
none_more paths p [] bs none others = others
none_more paths p (a ∷ xs) bs (here, none) others = (here, none_more paths p xs bs none others)

none_staying : (paths : FilePaths) (p : List ℕ) (room : ℕ) (fs : List Listed) → NoneHas paths p fs → NoneHas paths p (staying room fs)
none_staying paths p room [] none = tt
none_staying paths p room (f ∷ fs) (here, none) = elim (cases_Bool (is_signed f.format.version && nat_lt 0 room)) [
  | inl stays ↦ subst (λ (b : Bool). NoneHas paths p (cond b (f ∷ staying (room - 1) fs) (staying room fs))) (sym stays) (here, none_staying paths p (room - 1) fs none)
  | inr goes ↦ subst (λ (b : Bool). NoneHas paths p (cond b (f ∷ staying (room - 1) fs) (staying room fs))) (sym goes) (none_staying paths p room fs none)
]

none_going : (paths : FilePaths) (p : List ℕ) (room : ℕ) (fs : List Listed) → NoneHas paths p fs → NoneHas paths p (going room fs)
none_going paths p room [] none = tt
none_going paths p room (f ∷ fs) (here, none) = elim (cases_Bool (is_signed f.format.version && nat_lt 0 room)) [
  | inl stays ↦ subst (λ (b : Bool). NoneHas paths p (cond b (going (room - 1) fs) (f ∷ going room fs))) (sym stays) (none_going paths p (room - 1) fs none)
  | inr goes ↦ subst (λ (b : Bool). NoneHas paths p (cond b (going (room - 1) fs) (f ∷ going room fs))) (sym goes) (here, none_going paths p room fs none)
]

-- the span behind its first files, and these
pub span_drop : (paths : FilePaths) (N : Names) (count first last : ℕ) (fs : List Listed) → count ≤ length fs → IsSpan paths N first fs last → IsSpan paths N (first + count) (drop count fs) last
span_drop paths N zero first last fs within is = (let same : first ≡ first + 0 = omega arith in subst (λ (n : ℕ). IsSpan paths N n fs last) same is)
span_drop paths N (suc count) first last [] within is = absurd (omega (arith, within))
span_drop paths N (suc count) first last (f ∷ fs) within (number, listed, named, rest) =
    (let same : suc first + count ≡ first + suc count = omega arith in subst (λ (n : ℕ). IsSpan paths N n (drop count fs) last) same (span_drop paths N count (suc first) last fs (omega (arith, within)) rest))

pub span_take : (paths : FilePaths) (N : Names) (count first last : ℕ) (fs : List Listed) → count ≤ length fs → IsSpan paths N first fs last → IsSpan paths N first (take count fs) (first + count)
span_take paths N zero first last fs within is = omega arith
span_take paths N (suc count) first last [] within is = absurd (omega (arith, within))
span_take paths N (suc count) first last (f ∷ fs) within (number, listed, named, rest) =
    let same : suc first + count ≡ first + suc count = omega arith in
    (number, listed, named, subst (IsSpan paths N (suc first) (take count fs)) same (span_take paths N count (suc first) last fs (omega (arith, within)) rest))

module _ {R : Type 0} (F : Format R) (own : List ℕ → Type 0) (paths : FilePaths) (lawful : IsLayout F own paths) where
  -- a path that is no number's of the span is none of its files'
  none_of_span : (p : List ℕ) (N : Names) (first last : ℕ) (fs : List Listed) → last ≤ F.limit → ((m : ℕ) → first ≤ m → m < last → F.IsPath m p → ⊥) → IsSpan paths N first fs last → NoneHas paths p fs
  none_of_span p N first last [] most free is = tt
  none_of_span p N first last (f ∷ fs) most free (number, listed, named, rest) =
      let ends = span_end paths N (suc first) last fs rest in (
        λ same. free first (omega arith) (omega (arith, ends)) (subst (F.IsPath first) same (subst (λ (n : ℕ). F.IsPath n (path_of paths f)) number (subst (F.IsPath f.seq) (sym (path_numbered paths f listed)) (lawful.numbered f.path_id f.seq (omega (arith, number, ends, most)))))),
        none_of_span p N (suc first) last fs most (λ m from less at. free m (omega (arith, from)) less at) rest,
      )

  -- a file of the span is none of those behind it
  none_behind : (f : Listed) (N : Names) (first last : ℕ) (fs : List Listed) → last ≤ F.limit → f.seq ≡ first → f.reserved ≡ false → first < F.limit → IsSpan paths N (suc first) fs last → NoneHas paths (path_of paths f) fs
  none_behind f N first last fs most number listed small is =
      none_of_span (path_of paths f) N (suc first) last fs most (λ m from less at.
      (let own_number : m ≡ f.seq = lawful.format.paths m f.seq (path_of paths f) (omega (arith, less, most)) (omega (arith, number, small)) at (subst (F.IsPath f.seq) (sym (path_numbered paths f listed)) (lawful.numbered f.path_id f.seq (omega (arith, number, small)))) in
      omega (arith, own_number, number, from))) is

  -- the first of them that stay can be used
  kept_of_span : (N : Names) (d : Disk) (q : LogFiles R) (room first last seq : ℕ) (fs : List Listed) → d.names ≡ N → last ≤ seq → last ≤ q.last → q.last < F.limit
      → ((m j : ℕ) (other : List ℕ) → m < q.last → F.IsPath m other → N other ≡ Some j → HasFile j (IsPast F m (q.older m)) d) → IsSpan paths N first fs last → AllKept F paths seq d (staying room fs)
  kept_of_span N d q room first last seq [] names under within bound older is = tt
  kept_of_span N d q room first last seq (f ∷ fs) names under within bound older (number, listed, named, rest) =
      let ends = span_end paths N (suc first) last fs rest in
      let limit = lawful.limit in
      let less : f.seq < F.limit = omega (arith, number, ends, within, bound) in
      let at : F.IsPath f.seq (path_of paths f) = subst (F.IsPath f.seq) (sym (path_numbered paths f listed)) (lawful.numbered f.path_id f.seq less) in
      let kept : IsKeptForUse F paths seq d f = record {
        named = ap (λ (M : Names). M (path_of paths f)) names ∙ named;
        below = λ plain. omega (arith, number, ends, under);
        small = omega (arith, less, limit);
        usable = past_is_usable F own paths lawful f.seq f.handle.file q d (older f.seq f.handle.file (path_of paths f) (omega (arith, number, ends, within)) at named);
      } in
      let behind = none_behind f N first last fs (omega (arith, within, bound)) number listed (omega (arith, number, less)) rest in
      elim (cases_Bool (is_signed f.format.version && nat_lt 0 room)) [
        | inl stays ↦ subst (λ (b : Bool). AllKept F paths seq d (cond b (f ∷ staying (room - 1) fs) (staying room fs))) (sym stays)
            (kept, none_staying paths (path_of paths f) (room - 1) fs behind, kept_of_span N d q (room - 1) (suc first) last seq fs names under within bound older rest)
        | inr goes ↦ subst (λ (b : Bool). AllKept F paths seq d (cond b (f ∷ staying (room - 1) fs) (staying room fs))) (sym goes) (kept_of_span N d q room (suc first) last seq fs names under within bound older rest)
      ]

  -- two lists of files that are kept for use, of which no two are one
  kept_more : (first seq : ℕ) (d : Disk) (xs bs : List Listed) → first ≤ seq → AllKept F paths first d xs → AllKept F paths seq d bs → ((g : Listed) → IsKeptForUse F paths first d g → NoneHas paths (path_of paths g) bs) → AllKept F paths seq d (xs ++ bs)
  kept_more first seq d [] bs over is others apart = others
  kept_more first seq d (a ∷ xs) bs over (kept, alone, rest) others apart = (
    record { named = kept.named; below = λ plain. (let below = kept.below plain in omega (arith, below, over)); small = kept.small; usable = kept.usable },
    none_more paths (path_of paths a) xs bs alone (apart a kept),
    kept_more first seq d xs bs over rest others apart,
  )

  -- those that go are none of those that stay
  gone_of_span : (N : Names) (room first last seq : ℕ) (kept fs : List Listed) → last ≤ seq → last ≤ F.limit → ((directory m : ℕ) → first ≤ m → m < last → NoneHas paths (paths.numbered directory m) kept) → IsSpan paths N first fs last
      → AreGone paths N seq (kept ++ staying room fs) (going room fs)
  gone_of_span N room first last seq kept [] under most free is = tt
  gone_of_span N room first last seq kept (f ∷ fs) under most free (number, listed, named, rest) =
      let ends = span_end paths N (suc first) last fs rest in
      let small : first < F.limit = omega (arith, ends, most) in
      let path_is = path_numbered paths f listed in
      let behind = none_behind f N first last fs most number listed small rest in
      elim (cases_Bool (is_signed f.format.version && nat_lt 0 room)) [
        | inl stays ↦
            (let without_f : (directory m : ℕ) → suc first ≤ m → m < last → NoneHas paths (paths.numbered directory m) (kept ++ f ∷ []) = λ directory m from less.
            none_more paths (paths.numbered directory m) kept (f ∷ []) (free directory m (omega (arith, from)) less)
            (λ same. numbers_apart F own paths lawful f.path_id directory f.seq m (omega (arith, number, small)) (omega (arith, less, most)) (λ e. omega (arith, e, number, from)) (sym path_is ∙ same), tt) in
            subst (λ (b : Bool). AreGone paths N seq (kept ++ cond b (f ∷ staying (room - 1) fs) (staying room fs)) (cond b (going (room - 1) fs) (f ∷ going room fs))) (sym stays)
            (subst (λ (ks : List Listed). AreGone paths N seq ks (going (room - 1) fs)) (append_assoc kept (f ∷ []) (staying (room - 1) fs)) (gone_of_span N (room - 1) (suc first) last seq (kept ++ f ∷ []) fs under most without_f rest)))
        | inr goes ↦ subst (λ (b : Bool). AreGone paths N seq (kept ++ cond b (f ∷ staying (room - 1) fs) (staying room fs)) (cond b (going (room - 1) fs) (f ∷ going room fs))) (sym goes) (
          omega (arith, number, ends, under),
          listed,
          (f.handle.file, named),
          none_more paths (path_of paths f) kept (staying room fs) (subst (λ (p : List ℕ). NoneHas paths p kept) (sym path_is) (free f.path_id f.seq (omega (arith, number)) (omega (arith, number, ends)))) (none_staying paths (path_of paths f) room fs behind),
          none_going paths (path_of paths f) room fs behind,
          gone_of_span N room (suc first) last seq kept fs under most (λ directory m from less. free directory m (omega (arith, from)) less) rest,
        )
      ]

  -- The files below a number have left the span: the pipe stands, and those that are to go are none of it.
  pub raised : (base d : Disk) (before after : PipeFiles) (q : LogFiles R) (capacity seq : ℕ) → IsPipe F own paths base before q d → IsInSpan seq before → IsRaised capacity seq before after
      → IsPipe F own paths base after q d × AreGone paths d.names after.first_seq after.recycled.items (going (room_from capacity seq before) (take (seq - before.first_seq) before.earlier.items))
  raised base d before after q capacity seq is (over, within) raises =
      let count : ℕ = seq - before.first_seq in
      let room : ℕ = room_from capacity seq before in
      let there : before.first_seq + count ≡ seq = omega (arith, over) in
      let leaving : List Listed = take count before.earlier.items in
      let ends = span_end paths d.names before.first_seq q.last before.earlier.items is.span in
      let bound = is.active.stands.bound in
      let front : IsSpan paths d.names before.first_seq leaving seq = subst (IsSpan paths d.names before.first_seq leaving) there (span_take paths d.names count before.first_seq q.last before.earlier.items within is.span) in
      let behind : IsSpan paths d.names seq (drop count before.earlier.items) q.last = subst (λ (n : ℕ). IsSpan paths d.names n (drop count before.earlier.items) q.last) there (span_drop paths d.names count before.first_seq q.last before.earlier.items within is.span) in
      let most : seq ≤ q.last = omega (arith, there, within, ends) in
      let first = raises.first in
      let recycled = raises.recycled in
      let kept : AllKept F paths seq d (before.recycled.items ++ staying room leaving) = kept_more before.first_seq seq d before.recycled.items (staying room leaving) over is.kept
      (kept_of_span d.names d q room before.first_seq seq seq leaving refl (omega arith) most bound is.active.stands.older front)
      (λ g was. none_staying paths (path_of paths g) room leaving (none_of_span (path_of paths g) d.names before.first_seq seq leaving (omega (arith, most, bound)) (λ m from less at. kept_is_no_number F own paths lawful before.first_seq d g m was from (omega (arith, less, most, bound)) at) front)) in
      let gone : AreGone paths d.names seq (before.recycled.items ++ staying room leaving) (going room leaving) = gone_of_span d.names room before.first_seq seq seq before.recycled.items leaving (omega arith) (omega (arith, most, bound))
      (λ directory m from less. none_kept (paths.numbered directory m) before.first_seq d before.recycled.items (λ g was same. kept_is_no_number F own paths lawful before.first_seq d g m was from (omega (arith, less, most, bound)) (subst (F.IsPath m) (sym same) (lawful.numbered directory m (omega (arith, less, most, bound))))) is.kept) front in (
        record {
          active = subst (λ (w : LogFileWriter). IsOpen F own base w q (path_of paths after.active) d.names d) (sym raises.writer) (subst (λ (f : Listed). IsOpen F own base before.writer q (path_of paths f) d.names d) (sym raises.active) is.active);
          number = ap (λ (f : Listed). f.seq) raises.active ∙ is.number;
          listed = ap (λ (f : Listed). f.reserved) raises.active ∙ is.listed;
          header = is.header ∙ ap (λ (f : Listed). header_bytes f.format) (sym raises.active);
          handle = ap (λ (f : Listed). f.handle.file) raises.active ∙ is.handle ∙ ap (λ (w : LogFileWriter). w.handle.file) (sym raises.writer);
          span = subst (λ (n : ℕ). IsSpan paths d.names n after.earlier.items q.last) (sym first) (subst (λ (fs : List Listed). IsSpan paths d.names seq fs q.last) (sym raises.earlier) behind);
          kept = subst (λ (n : ℕ). AllKept F paths n d after.recycled.items) (sym first) (subst (AllKept F paths seq d) (sym recycled) kept);
        },
        subst (λ (n : ℕ). AreGone paths d.names n after.recycled.items (going room leaving)) (sym first) (subst (λ (ks : List Listed). AreGone paths d.names seq ks (going room leaving)) (sym recycled) gone),
      )
    where
      none_kept : (p : List ℕ) (first : ℕ) (d : Disk) (gs : List Listed) → ((g : Listed) → IsKeptForUse F paths first d g → path_of paths g ≡ p → ⊥) → AllKept F paths first d gs → NoneHas paths p gs
      none_kept p first d [] apart is = tt
      none_kept p first d (g ∷ gs) apart (was, alone, rest) = (apart g was, none_kept p first d gs apart rest)

  -- and once they are dropped
  pub purges : (before after : PipeFiles) (capacity seq : ℕ) (gone : List (List ℕ)) (old new : Disk) → IsInSpan seq before → IsRaised capacity seq before after → gone ≡ paths_going paths capacity seq before
      → DropsTo F own paths gone (length gone) old new → Purges F own paths capacity seq before after old new
  purges before after capacity seq gone old new within raises spelled drops base q is =
      let (stands, are) = raised base old before after q capacity seq is within raises in
      let gs : List Listed = going (room_from capacity seq before) (take (seq - before.first_seq) before.earlier.items) in
      let (pipe, gaps, rest, names, calls) = drops base after q gs spelled stands are in
      let all = take_all (length gone) gone (omega arith) ∙ spelled in
      (pipe, gaps, names ∙ ap (λ (ps : List (List ℕ)). without ps old.names) all, subst (λ (ps : List (List ℕ)). DropsBy ps old new) all calls)

  -- or not
  pub purge_fails : (before after : PipeFiles) (capacity seq : ℕ) (gone : List (List ℕ)) (old new : Disk) → IsInSpan seq before → IsRaised capacity seq before after → gone ≡ paths_going paths capacity seq before
      → FailsToDropAll F own paths gone old new → FailsToPurge F own paths capacity seq before after old new
  purge_fails before after capacity seq gone old new within raises spelled fails base q is =
      let (stands, are) = raised base old before after q capacity seq is within raises in
      let gs : List Listed = going (room_from capacity seq before) (take (seq - before.first_seq) before.earlier.items) in
      let (cause, left, gaps, span, first, calls) = fails base after q gs spelled stands are in
      (cause, left, gaps, span, subst (λ (ps : List (List ℕ)). LosesFirst ps old new) spelled first, subst (λ (ps : List (List ℕ)). DropsUntil ps old new) spelled calls)

-- Parting the files, one after the other.

-- the item at a place of a list's front
pub item_here : (fs : List Listed) (count i : ℕ) (f : Listed) → i < count → count ≤ length fs → f ≡ get_or fs i f → drop i (take count fs) ≡ f ∷ drop (suc i) (take count fs)
item_here [] count i f less within is = absurd (omega (arith, less, within))
item_here (x ∷ xs) zero i f less within is = absurd (omega (arith, less))
item_here (x ∷ xs) (suc count) zero f less within is = ap (λ (g : Listed). g ∷ take count xs) (sym is)
item_here (x ∷ xs) (suc count) (suc i) f less within is = item_here xs count i f (omega (arith, less)) (omega (arith, within)) is

pub none_left : (fs : List Listed) (count i : ℕ) → count ≤ i → drop i (take count fs) ≡ []
none_left [] zero zero most = refl
none_left [] (suc count) zero most = refl
none_left [] zero (suc i) most = refl
none_left [] (suc count) (suc i) most = refl
none_left (x ∷ xs) zero zero most = refl
none_left (x ∷ xs) zero (suc i) most = refl
none_left (x ∷ xs) (suc count) zero most = absurd (omega (arith, most))
none_left (x ∷ xs) (suc count) (suc i) most = none_left xs count i (omega (arith, most))

pub part_fails : (fs : List Listed) (f : Listed) (i : ℕ) (error : Error) → i < length fs → f ≡ get_or fs i f → IsNameRefusal f.seq error → PartFails fs error
part_fails fs f i errors.Memory less is why = tt
part_fails fs f i errors.NumberRange less is why = (f, i, less, is, why)
part_fails fs f i _ less is why = absurd why
