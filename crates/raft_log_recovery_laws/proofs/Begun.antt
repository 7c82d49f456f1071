-- The files that a scan answered begin behind a gap.
use Rattle.std.specs.Prelude.{◌⊎◌}
use Rattle.std.proofs.Common.{◌≡◌, ℕ, Option, Some, None, List, [], ◌∷◌, ◌++◌, length, get_or, refl, sym, ap, subst, ◌∙◌, inl, inr, arith, length-append}
use Rattle.std.proofs.lemmas.List.{get_or_default}
use Rattle.raft_log_record_base.specs.declared.pipe_log.LogQueue.{LogQueue}
use Rattle.raft_log_record_base.specs.declared.pipe_log.LogQueue.TheVariants as queues
use Rattle.raft_log_fs.specs.Disk.{Disk}
use Rattle.raft_log_file_writer.specs.LogQueue.{IsAbsent}
use Rattle.raft_log_fs.specs.declared.handle.Permission.{Permission}
use Rattle.raft_log_fs.specs.declared.handle.Permission.TheVariants.{ReadWrite}
use Rattle.raft_log_file_format.specs.Name.{IsNamed, suffix_of}
use Rattle.raft_log_engine_laws.specs.raft_log_active_file.specs.QueueFiles.{log_format}
use Rattle.raft_log_engine_laws.specs.raft_log_active_file.specs.Paths.{IsPathWith}
use Rattle.raft_log_file_pipe.specs.Files.{Listed}
use Rattle.raft_log_file_pipe.specs.Opening.{first_number}
use Rattle.raft_log_recovery_scan.specs.Found.{AreFilesIn, FileLiesIn}
use Rattle.raft_log_recovery_scan.specs.Names.{end_of, name_of}
use Rattle.raft_log_recovery_scan.specs.Opened.{AreOpen, IsOpenFile, permission_before}
use Rattle.raft_log_recovery_scan.specs.declared.scanning.found.FoundFile.{FoundFile}
use Rattle.raft_log_recovery_laws.specs.Beginning.{BeginsBehindGap, IsTwice, ScannedFilesBegin}
use Rattle.raft_log_recovery_laws.specs.Scanned.{kind_of}
use Rattle.raft_log_recovery_laws.proofs.Beginnings.{NoneBelow, kept_begin}
use Rattle.raft_log_recovery_laws.proofs.Spans.{same_ends}

-- the names of a queue's files end as those of their kind
same_end : (queue : LogQueue) → suffix_of queue ≡ end_of (kind_of queue)
same_end queues.Append = refl
same_end queues.Rewrite = refl

module _ (queue : LogQueue) (directories : List (List ℕ)) (d : Disk) (found : List FoundFile) (are : AreFilesIn (kind_of queue) directories d found) where
  -- a file under a path of a number has the number's name, with a sign or without one
  pub named_file : (m : ℕ) (path : List ℕ) → IsPathWith (suffix_of queue) directories m path → (d.names path ≡ None → ⊥) → ((f : FoundFile) → FileLiesIn (kind_of queue) directories d f → f.seq ≡ m → ⊥) → ⊥
  named_file m path is there none =
      let kind = kind_of queue in
      let named : IsNamed (end_of kind) is.name m = subst (λ (suffix : List ℕ). IsNamed suffix is.name m) (same_end queue) is.named in
      let has : d.names (is.directory ++ 47 ∷ is.name) ≡ None → ⊥ = subst (λ (p : List ℕ). d.names p ≡ None → ⊥) is.joined there in
      let home : get_or directories is.listed.0 [] ≡ is.directory = get_or_default directories is.listed.0 [] is.directory is.listed.1 ∙ is.listed.2 in
      are.named is.name (record { directory = is.directory; listed = is.listed; plain = is.plain; there = has }) (
        m,
        named,
        λ signed its. none (record { seq = m; path_id = is.listed.0; signed = signed }) (record {
          listed = is.listed.1;
          small = its.0;
          there = subst (λ (p : List ℕ). d.names p ≡ None → ⊥) (ap (λ (name : List ℕ). is.directory ++ 47 ∷ name) its.1 ∙ ap (λ (directory : List ℕ). directory ++ 47 ∷ name_of kind signed m) (sym home)) has;
        }) refl,
      )

  absent : (m : ℕ) → ((f : FoundFile) → FileLiesIn (kind_of queue) directories d f → f.seq ≡ m → ⊥) → IsAbsent (log_format queue directories) m d
  absent m none path is = by_name (d.names path) refl
    where
      by_name : (o : Option ℕ) → d.names path ≡ o → d.names path ≡ None
      by_name None e = e
      by_name (Some id) e = absurd (named_file m path is (λ free. none-is-some id (sym free ∙ e)) none)
        where
          none-is-some : (id : ℕ) → None ≡ Some id → ⊥
          none-is-some id e = absurd (cc)

  behind_gap : (first : ℕ) → NoneBelow (kind_of queue) directories d first ⊎ IsTwice (kind_of queue) directories d first → BeginsBehindGap queue directories d first
  behind_gap first begins = elim begins [
    | inl gap ↦ inl (λ m next. absent m (gap m next))
    | inr twice ↦ inr twice
  ]

-- the first of the kept files
first_kept : (queue : LogQueue) (directories : List (List ℕ)) (d : Disk) (permission : Permission) (gs : List FoundFile) (g : FoundFile) (files : List Listed) (last : Listed)
    → AreOpen (kind_of queue) directories d permission gs files → IsOpenFile (kind_of queue) directories d ReadWrite g last
    → (h : FoundFile) × (hs : List FoundFile) × (gs ++ g ∷ [] ≡ h ∷ hs) × (h.seq ≡ first_number files last)
first_kept queue directories d permission [] g [] last all o = (g, [], refl, sym o.seq)
first_kept queue directories d permission [] g (f ∷ files) last all o = absurd all
first_kept queue directories d permission (h ∷ gs) g [] last all o = absurd all
first_kept queue directories d permission (h ∷ gs) g (f ∷ files) last all o = (h, gs ++ g ∷ [], refl, sym all.0.seq)

pub scanned_files_begin : ScannedFilesBegin
scanned_files_begin queue directories mode d earlier last scanned = elim scanned.opened [
  | inl none ↦ absurd (omega (arith, ap length none.1, length-append earlier (last ∷ [])))
  | inr behind ↦
      let same = same_ends earlier behind.opened last behind.active behind.split in
      let first = first_kept queue directories d (permission_before mode) behind.before behind.last behind.opened behind.active behind.earlier behind.writable in
      let begins = kept_begin (kind_of queue) directories d scanned.run.found scanned.kept first.0 first.1 scanned.run.all scanned.run.run (behind.found_split ∙ first.2) in
      let there : BeginsBehindGap queue directories d (first_number behind.opened behind.active) =
      subst (BeginsBehindGap queue directories d) first.3 (behind_gap queue directories d scanned.run.found scanned.run.all first.0.seq begins) in
      subst (λ (l : Listed). BeginsBehindGap queue directories d (first_number earlier l)) (sym same.1)
      (subst (λ (fs : List Listed). BeginsBehindGap queue directories d (first_number fs behind.active)) (sym same.0) there)
]
