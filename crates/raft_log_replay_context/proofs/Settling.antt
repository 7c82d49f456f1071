-- Atomic groups that count: their records are taken, and their files noted.
use Rattle.std.proofs.Common.{◌≡◌, ℕ, zero, suc, ◌+◌, ◌-◌, slice_get, ◌<◌, ◌==◌, ◌||◌, Bool, true, false, List, [], ◌∷◌, ◌++◌, take, length, get_or, min, max, Option, Some, None, option_map, refl, sym, ap, ap₂, subst, ◌∙◌, inl, inr, arith}
use Rattle.std.proofs.lemmas.List.{take_more}
use Rattle.std.specs.Global.{Vec}
use Rattle.std.specs.BTreeMap.{get}
use Rattle.std.specs.Ordering.{nat_cmp}
use Rattle.raft_log_model_laws.proofs.Public.{from_eq_true}
use Rattle.raft_log_machine_laws.proofs.Public.{no_word}
use Rattle.raft_log_record_frames.specs.Meaning.{tagged_items}
use Rattle.raft_log_extents.specs.Entries.{place_of}
use Rattle.raft_log_memtable_index.specs.declared.group_files.GroupFiles.{GroupFiles}
use Rattle.raft_log_memtable_index.specs.Replayed.{both_noted, Replayed}
use Rattle.raft_log_memtable.specs.Files.{with_read_group}
use Rattle.raft_log_memtables.specs.declared.mem_tables.MemTables.{MemTables}
use Rattle.raft_log_memtables.specs.declared.group_table.GroupTable.{GroupTable}
use Rattle.raft_log_memtables.specs.Batch.{mentions}
use Rattle.raft_log_memtables.specs.Joining.{read_noted_in}
use Rattle.raft_log_memtables.specs.Replaying.{ReadsAll}
use Rattle.raft_log_memtables.specs.Tables.{counts, raw_of, replayed_in, replayed_of}
use Rattle.raft_log_memtables.proofs.Public.{by_group, same_or_apart}
use Rattle.raft_log_replay_context.specs.declared.part.GroupPart.{GroupPart}
use Rattle.raft_log_replay_context.specs.Pieces.{ends_with, is_number, with_file}
use Rattle.raft_log_replay_context.specs.Noting.{files_after, is_listed, parts_mention, NotesAll, NotesAt, ReadsParts, SettlesAll, SettlesGroup}

or_false : (b : Bool) → (b || false) ≡ b
or_false true = refl
or_false false = refl

or_assoc : (a b c : Bool) → (a || (b || c)) ≡ ((a || b) || c)
or_assoc true b c = refl
or_assoc false b c = refl

-- One more record of a group.
pub parts_read_push : (ps : List GroupPart) (p : GroupPart) (a b c : MemTables) → ReadsParts ps a b → ReadsAll false p.file b c (tagged_items place_of p.items.items)
    → ReadsParts (ps ++ p ∷ []) a c
parts_read_push [] p a b c same reads = (c, subst (λ m. ReadsAll false p.file m c (tagged_items place_of p.items.items)) same reads, refl)
parts_read_push (q ∷ ps) p a b c all reads = (all.0, all.1, parts_read_push ps p all.0 b c all.2 reads)

pub files_push : (o : Option GroupFiles) (ps : List GroupPart) (p : GroupPart) → files_after o (ps ++ p ∷ []) ≡ Some (with_file (files_after o ps) p.file)
files_push o [] p = refl
files_push o (q ∷ ps) p = files_push (Some (with_file o q.file)) ps p

pub mention_push : (g : ℕ) (ps : List GroupPart) (p : GroupPart) → parts_mention g (ps ++ p ∷ []) ≡ (parts_mention g ps || mentions g p.items.items)
mention_push g [] p = or_false (mentions g p.items.items)
mention_push g (q ∷ ps) p = ap (λ b. mentions g q.items.items || b) (mention_push g ps p) ∙ or_assoc (mentions g q.items.items) (parts_mention g ps) (mentions g p.items.items)

pub settles_push : (pss : List (Vec GroupPart)) (ps : Vec GroupPart) (a b c : MemTables) → SettlesAll pss a b → SettlesGroup ps.items b c → SettlesAll (pss ++ ps ∷ []) a c
settles_push [] ps a b c same one = (c, subst (λ m. SettlesGroup ps.items m c) same one, refl)
settles_push (qs ∷ pss) ps a b c all one = (all.0, all.1, settles_push pss ps all.0 b c all.2 one)

-- The listed groups.
listed_append : (g : ℕ) (hs ks : List ℕ) → is_listed g (hs ++ ks) ≡ (is_listed g hs || is_listed g ks)
listed_append g [] ks = refl
listed_append g (h ∷ hs) ks = ap (λ b. (h == g) || b) (listed_append g hs ks) ∙ or_assoc (h == g) (is_listed g hs) (is_listed g ks)

pub listed_push : (g : ℕ) (hs : List ℕ) (h : ℕ) → is_listed g (hs ++ h ∷ []) ≡ (is_listed g hs || (h == g))
listed_push g hs h = listed_append g hs (h ∷ []) ∙ ap (λ b. is_listed g hs || b) (or_false (h == g))

pub listed_none : (g : ℕ) (hs : List ℕ) → is_listed g hs ≡ (is_listed g hs || false)
listed_none g hs = sym (or_false (is_listed g hs))

listed_more : (g : ℕ) (hs : List ℕ) (i h d : ℕ) → i < length hs → h ≡ get_or hs i d → is_listed g (take (i + 1) hs) ≡ (is_listed g (take i hs) || (h == g))
listed_more g hs i h d lt is = ap (is_listed g) (take_more hs i d lt ∙ ap (λ (y : ℕ). take i hs ++ y ∷ []) (sym is)) ∙ listed_push g (take i hs) h

-- Noting the same files twice is noting them once.
twice : (o : Option GroupFiles) (files : GroupFiles) → both_noted (both_noted o (Some files)) (Some files) ≡ both_noted o (Some files)
twice None files = ap₂ (λ (a b : ℕ). made a b) (least files.from) (most files.to)
  where
    made : ℕ → ℕ → Option GroupFiles
    made a b = Some (record { from = a; to = b })

    least : (a : ℕ) → min a a ≡ a
    least a = omega arith

    most : (a : ℕ) → max a a ≡ a
    most a = omega arith
twice (Some old) files = ap₂ (λ (a b : ℕ). made a b) (least old.from files.from) (most old.to files.to)
  where
    made : ℕ → ℕ → Option GroupFiles
    made a b = Some (record { from = a; to = b })

    least : (a b : ℕ) → min (min a b) b ≡ min a b
    least a b = omega arith

    most : (a b : ℕ) → max (max a b) b ≡ max a b
    most a b = omega arith

once : (files : GroupFiles) (a b c : Replayed) → NotesAt files a b → NotesAt files b c → NotesAt files a c
once files a b c (inl first) (inl again) =
    inl (again ∙ ap (λ z. with_read_group z files) first ∙ ap (λ o. record a { table = record a.table { noted = o } }) (twice a.table.noted files))
once files a b c (inl first) (inr nothing) = inl (nothing.1 ∙ sym nothing.0 ∙ first)
once files a b c (inr nothing) (inl again) = inl (again ∙ ap (λ z. with_read_group z files) (nothing.1 ∙ sym nothing.0))
once files a b c (inr nothing) (inr more) = inr (nothing.0, more.1)

noted_there : (files : GroupFiles) (o : Option GroupTable) (z : Replayed) → z ≡ read_noted_in files (option_map (λ t. t.table) o) → NotesAt files (replayed_in o) z
noted_there files None z is = inr (refl, is)
noted_there files (Some t) z is = inl is

pub noted_none : (files : GroupFiles) (z : ℕ → Replayed) → NotesAll (Some files) (λ g. is_listed g []) z z
noted_none files z g = (λ h. absurd (let clash : false ≡ true = h in let never : ⊥ = cc in never), λ h. refl)

neither : (a b : Bool) → (a || b) ≡ false → (a ≡ false) × (b ≡ false)
neither true b h = let clash : true ≡ false = h in let never : ⊥ = cc in absurd never
neither false b h = (refl, h)

pub noted_more : (files : GroupFiles) (hs : List ℕ) (i h d : ℕ) (a b c : MemTables) → i < length hs → h ≡ get_or hs i d
    → NotesAll (Some files) (λ g. is_listed g (take i hs)) (replayed_of a) (replayed_of b) → replayed_of c h ≡ read_noted_in files (raw_of b h)
    → ((g : ℕ) → (h == g) ≡ false → replayed_of c g ≡ replayed_of b g)
    → NotesAll (Some files) (λ g. is_listed g (take (i + 1) hs)) (replayed_of a) (replayed_of c)
noted_more files hs i h d a b c lt is so_far noted others g = (
  λ t. by_group h g (same_or_apart h g)
      (λ _ e. subst (λ k. NotesAt files (replayed_of a k) (replayed_of c k)) e (here (is_listed h (take i hs)) refl))
      (λ apart. subst (λ z. NotesAt files (replayed_of a g) z) (sym (others g apart)) ((so_far g).0 (before t apart))),
  λ t.
      let parts = neither (is_listed g (take i hs)) (h == g) (sym (listed_more g hs i h d lt is) ∙ t) in
      others g parts.1 ∙ (so_far g).1 parts.0,
)
  where
    now : NotesAt files (replayed_of b h) (replayed_of c h)
    now = noted_there files (get nat_cmp b.groups h) (replayed_of c h) noted

    here : (t : Bool) → is_listed h (take i hs) ≡ t → NotesAt files (replayed_of a h) (replayed_of c h)
    here true t = once files (replayed_of a h) (replayed_of b h) (replayed_of c h) ((so_far h).0 t) now
    here false t = subst (λ z. NotesAt files z (replayed_of c h)) ((so_far h).1 t) now

    before : is_listed g (take (i + 1) hs) ≡ true → (h == g) ≡ false → is_listed g (take i hs) ≡ true
    before t apart = sym (or_false (is_listed g (take i hs))) ∙ ap (λ e. is_listed g (take i hs) || e) (sym apart) ∙ sym (listed_more g hs i h d lt is) ∙ t

-- The group counts.
noted_alike : (o : Option GroupFiles) (p q : ℕ → Bool) (a b : ℕ → Replayed) → ((g : ℕ) → p g ≡ q g) → NotesAll o p a b → NotesAll o q a b
noted_alike None p q a b same h = h
noted_alike (Some files) p q a b same h = λ g. (λ t. (h g).0 (same g ∙ t), λ t. (h g).1 (same g ∙ t))

pub settles : (done ps : List GroupPart) (a b c : MemTables) (files : Option GroupFiles) (hs ks : List ℕ) → done ≡ ps → ReadsParts done a b → files ≡ files_after None done
    → ((g : ℕ) → is_listed g hs ≡ parts_mention g done) → ks ≡ hs → NotesAll files (λ g. is_listed g ks) (replayed_of b) (replayed_of c)
    → ((g : ℕ) → counts c g ≡ counts b g) → SettlesGroup ps a c
settles done ps a b c files hs ks came reads are listed same notes stay = record {
  between = b;
  reads = subst (λ l. ReadsParts l a b) came reads;
  notes = subst (λ o. NotesAll o (λ g. parts_mention g ps) (replayed_of b) (replayed_of c)) (are ∙ ap (files_after None) came)
      (noted_alike files (λ g. is_listed g ks) (λ g. parts_mention g ps) (replayed_of b) (replayed_of c)
      (λ g. ap (is_listed g) same ∙ listed g ∙ ap (parts_mention g) came) notes);
  counting = stay;
}

-- A group that comes once more in a row is listed already.
listed_there : (g : ℕ) (hs : List ℕ) (k n : ℕ) → slice_get hs k ≡ Some n → (n == g) ≡ true → is_listed g hs ≡ true
listed_there g [] k n at same = no_word n at
listed_there g (h ∷ hs) zero n at same =
    let is : h ≡ n = cc in ap (λ b. b || is_listed g hs) (ap (λ m. m == g) is ∙ same)
listed_there g (h ∷ hs) (suc k) n at same = ap (λ b. (h == g) || b) (listed_there g hs k n at same) ∙ or_true (h == g)
  where
    or_true : (b : Bool) → (b || true) ≡ true
    or_true true = refl
    or_true false = refl

same_last : (g x : ℕ) (hs : List ℕ) → ends_with hs x ≡ true → is_listed g hs ≡ (is_listed g hs || (x == g))
same_last g x hs h = at_last (slice_get hs (length hs - 1)) refl h
  where
    kept : (b : Bool) → (x == g) ≡ b → (b ≡ true → is_listed g hs ≡ true) → is_listed g hs ≡ (is_listed g hs || (x == g))
    kept true e there = there refl ∙ sym (ap (λ b. b || (x == g)) (there refl))
    kept false e there = sym (or_false (is_listed g hs)) ∙ ap (λ b. is_listed g hs || b) (sym e)

    at_last : (o : Option ℕ) → slice_get hs (length hs - 1) ≡ o → is_number x o ≡ true → is_listed g hs ≡ (is_listed g hs || (x == g))
    at_last None e never_is = absurd (let clash : false ≡ true = never_is in let never : ⊥ = cc in never)
    at_last (Some n) e it_is =
        let is = from_eq_true n x it_is in
        kept (x == g) refl (λ t. listed_there g hs (length hs - 1) n e (ap (λ m. m == g) is ∙ t))

pub list_pushed : (g x : ℕ) (start old : List ℕ) (new : List ℕ) (said more : Bool) → new ≡ old ++ x ∷ [] → is_listed g old ≡ (is_listed g start || said)
    → more ≡ (said || (x == g)) → is_listed g new ≡ (is_listed g start || more)
list_pushed g x start old new said more is so_far next =
    ap (is_listed g) is ∙ listed_push g old x ∙ ap (λ b. b || (x == g)) so_far ∙ sym (or_assoc (is_listed g start) said (x == g)) ∙ ap (λ b. is_listed g start || b) (sym next)

pub list_kept : (g x : ℕ) (start old : List ℕ) (said more : Bool) → ends_with old x ≡ true → is_listed g old ≡ (is_listed g start || said)
    → more ≡ (said || (x == g)) → is_listed g old ≡ (is_listed g start || more)
list_kept g x start old said more last so_far next =
    same_last g x old last ∙ ap (λ b. b || (x == g)) so_far ∙ sym (or_assoc (is_listed g start) said (x == g)) ∙ ap (λ b. is_listed g start || b) (sym next)
