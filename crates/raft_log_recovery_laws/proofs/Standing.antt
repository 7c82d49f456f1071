-- What an engine left rests as it stands, once its last files are taken as synced.
use Rattle.std.proofs.Common.{◌≡◌, ℕ, ◌<◌, Bool, true, false, Option, Some, None, List, refl, sym, ap, subst, ◌∙◌, inl, inr, arith, nat_eq}
use Rattle.std.specs.Prelude.{◌⊎◌}
use Rattle.std.specs.Option.{option_map}
use Rattle.std.proofs.lemmas.Bool.{cases_eq, cases_lt}
use Rattle.std.proofs.lemmas.Bool.Decides.{Decides-eqb}
use Rattle.raft_log_fs.specs.Disk.{File, Disk, at_rest}
use Rattle.raft_log_fs.specs.Image.{as_it_stands, IsSound, IsSoundFile}
use Rattle.raft_log_fs.specs.Calls.{flushed}
use Rattle.raft_log_file_writer.specs.LogFormat.{Format}
use Rattle.raft_log_file_writer.specs.LogQueue.{LogFiles}
use Rattle.raft_log_fs.proofs.Public.{rest_sound, same_file}
use Rattle.raft_log_active_file.specs.Standing.{Names, Stands}
use Rattle.raft_log_active_file.proofs.Public.{place_moved}
use Rattle.raft_log_dual_pipes.specs.Queues.{QueueLayout}
use Rattle.raft_log_dual_pipes.specs.State.{Spanned}
use Rattle.raft_log_dual_pipes.specs.OpenOrClosed.{LiesQueue}
use Rattle.raft_log_dual_pipes.specs.Reopening.{RestsQueue}
use Rattle.raft_log_recovery_laws.specs.Keeping.{KeepsNumbered}
use Rattle.raft_log_recovery_laws.proofs.Settling.{settled_if, settled_in}

-- One number.

-- this file has the last number, and none has a higher one
pub record IsLast {R : Type 0} (F : Format R) (n id : ℕ) (N : Names) : Type 0 where
  pub bound : n < F.limit
  pub path : List ℕ
  pub at : F.IsPath n path
  pub named : N path ≡ Some id
  pub alone : (other : List ℕ) (j : ℕ) → F.IsPath n other → N other ≡ Some j → j ≡ id
  pub none : (m : ℕ) (other : List ℕ) → n < m → m < F.limit → F.IsPath m other → N other ≡ None

some_is_none : {X : Type 0} (x : X) (o : Option X) → o ≡ Some x → o ≡ None → ⊥
some_is_none x o is isnt = cc

pub last_of : {R : Type 0} (F : Format R) (own : List ℕ → Type 0) (base : Disk) (q : LogFiles R) (path : List ℕ) (id : ℕ) (P : File → Type 0) (N : Names) (d : Disk) → Stands F own base q path id P N d → IsLast F q.last id d.names
last_of F own base q path id P N d s = subst (IsLast F q.last id) (sym s.names) (record { bound = s.bound; path = path; at = s.at; named = s.named; alone = s.alone; none = s.none })

pub one_last : {R : Type 0} (F : Format R) (n m i j : ℕ) (N : Names) → IsLast F n i N → IsLast F m j N → (n ≡ m) × (i ≡ j)
one_last F n m i j N a b = elim (cases_eq n m) [
  | inl same ↦ (same, b.alone a.path i (subst (λ (k : ℕ). F.IsPath k a.path) same a.at) a.named)
  | inr apart ↦ elim (cases_lt n m) [
    | inl below ↦ absurd (some_is_none j (N b.path) b.named (a.none m b.path below b.bound b.at))
    | inr above ↦ absurd (some_is_none i (N a.path) a.named (b.none n a.path (omega (arith, above, apart)) a.bound a.at))
  ]
]

pub none_last : {R : Type 0} (F : Format R) (n i : ℕ) (N : Names) → IsLast F n i N → ((m : ℕ) → m < F.limit → (path : List ℕ) → F.IsPath m path → N path ≡ None) → ⊥
none_last F n i N last none = some_is_none i (N last.path) last.named (none n last.bound last.path last.at)

-- Both.

-- the last file of a queue at rest, if it has one
abbrev pub is_last_of : {R : Type 0} → (layout : QueueLayout R) → (q : Spanned R) → (d : Disk) → RestsQueue layout q d → ℕ → Bool
is_last_of layout q d (inl (left, span)) j = nat_eq left.id j
is_last_of layout q d (inr unbegun) j = false

pub it_is_last : {R : Type 0} (layout : QueueLayout R) (q : Spanned R) (d : Disk) (rests : RestsQueue layout q d) (n id : ℕ) → IsLast layout.format n id d.names → is_last_of layout q d rests id ≡ true
it_is_last layout q d (inl (left, span)) n id last =
    let mine = last_of layout.format layout.own d q.files left.path left.id _ left.N d left.stands in
    (Decides-eqb left.id id).1 (one_last layout.format q.files.last n left.id id d.names mine last).1
it_is_last layout q d (inr unbegun) n id last = absurd (none_last layout.format n id d.names last unbegun.fresh.none)

pub which_is_last : {R : Type 0} (layout : QueueLayout R) (q : Spanned R) (d : Disk) (rests : RestsQueue layout q d) (id : ℕ) → is_last_of layout q d rests id ≡ true → (n : ℕ) × IsLast layout.format n id d.names
which_is_last layout q d (inl (left, span)) id hit =
    let mine = last_of layout.format layout.own d q.files left.path left.id _ left.N d left.stands in
    (q.files.last, subst (λ (j : ℕ). IsLast layout.format q.files.last j d.names) ((Decides-eqb left.id id).0 hit) mine)
which_is_last layout q d (inr unbegun) id hit = (let never : ⊥ = cc in absurd never)

module _ {R : Type 0} (layout : QueueLayout R) (d : Disk) where
  -- each file of a number is at rest, but for this one
  pub record RestsBut (id : ℕ) : Type 0 where
    pub rest : (m : ℕ) (path : List ℕ) (j : ℕ) (file : File) → m < layout.format.limit → layout.format.IsPath m path → d.names path ≡ Some j → d.files j ≡ Some file → (j ≡ id) ⊎ (file ≡ at_rest file.content)
    pub last : (n : ℕ) × IsLast layout.format n id d.names

  rest_is : (file : File) (bytes : List ℕ) → file ≡ at_rest bytes → file ≡ at_rest file.content
  rest_is file bytes is = is ∙ ap at_rest (sym (ap (λ (x : File). x.content) is))

  pub stands_but : (base : Disk) (q : LogFiles R) (path : List ℕ) (id : ℕ) (P : File → Type 0) (N : Names) → Stands layout.format layout.own base q path id P N d → RestsBut id
  stands_but base q path id P N s = record { rest = rest; last = (q.last, last_of layout.format layout.own base q path id P N d s) }
    where
      rest : (m : ℕ) (other : List ℕ) (j : ℕ) (file : File) → m < layout.format.limit → layout.format.IsPath m other → d.names other ≡ Some j → d.files j ≡ Some file → (j ≡ id) ⊎ (file ≡ at_rest file.content)
      rest m other j file less at there is =
          let named : N other ≡ Some j = ap (λ (f : Names). f other) (sym s.names) ∙ there in
          elim (cases_eq m q.last) [
            | inl same ↦ inl (s.alone other j (subst (λ (n : ℕ). layout.format.IsPath n other) same at) named)
            | inr apart ↦ elim (cases_lt m q.last) [
              | inl below ↦ (let was = s.older m j other below at named in inr (rest_is file _ (same_file d j file was.file is was.is ∙ was.has.is)))
              | inr above ↦ absurd (some_is_none j (N other) named (s.none m other (omega (arith, above, apart)) less at))
            ]
          ]

  -- so it is where its files lie, or it has none
  pub lies_but : (q : Spanned R) → LiesQueue layout q d → ((id : ℕ) × RestsBut id) ⊎ ((m : ℕ) → m < layout.format.limit → (path : List ℕ) → layout.format.IsPath m path → d.names path ≡ None)
  lies_but q (inr unbegun) = inr unbegun.fresh.none
  lies_but q (inl (inl left, span)) = inl (left.id, stands_but d q.files left.path left.id _ left.N left.stands)
  lies_but q (inl (inr left, span)) = inl (left.id, stands_but d q.files left.path left.id _ left.N left.stands)

  -- what is left as it stands is as it is with the last file taken as synced
  module _ (E : ℕ → Bool) (ours : (id : ℕ) → ((n : ℕ) × IsLast layout.format n id d.names) → E id ≡ true) where
    same_as : (b : Bool) (o : Option File) → (b ≡ true) ⊎ ((file : File) → o ≡ Some file → file ≡ at_rest file.content) → settled_if b o ≡ option_map flushed o
    same_as true o which = refl
    same_as false None which = refl
    same_as false (Some file) (inl is) = (let never : ⊥ = cc in absurd never)
    same_as false (Some file) (inr rest) = ap Some (rest file refl)

    pub stands_keeps : (q : Spanned R) → LiesQueue layout q d → KeepsNumbered layout.format (as_it_stands d) (settled_in E d)
    stands_keeps q lies = record {
      names = λ m path less at. refl;
      files = λ m path j less at there. same_as (E j) (d.files j) (by_case (lies_but q lies) m path j less at there);
      places = λ m path less at place. place_moved path (as_it_stands d) (settled_in E d) refl place;
    }
      where
        by_case : ((id : ℕ) × RestsBut id) ⊎ ((m : ℕ) → m < layout.format.limit → (path : List ℕ) → layout.format.IsPath m path → d.names path ≡ None) → (m : ℕ) (path : List ℕ) (j : ℕ) → m < layout.format.limit → layout.format.IsPath m path
            → d.names path ≡ Some j → (E j ≡ true) ⊎ ((file : File) → d.files j ≡ Some file → file ≡ at_rest file.content)
        by_case (inr none) m path j less at there = absurd (some_is_none j (d.names path) there (none m less path at))
        by_case (inl (id, but)) m path j less at there = elim (cases_eq j id) [
          | inl same ↦ inl (ap E same ∙ ours id but.last)
          | inr apart ↦ inr (λ file is. elim (but.rest m path j file less at there is) [ inl same ↦ absurd (apart same) | inr rest ↦ rest ])
        ]

-- It is sound.

settled_is_sound : (b : Bool) (o : Option File) → ((file : File) → o ≡ Some file → IsSoundFile file) → (file : File) → settled_if b o ≡ Some file → IsSoundFile file
settled_is_sound false o sound file is = sound file is
settled_is_sound true None sound file is = (let never : ⊥ = cc in absurd never)
settled_is_sound true (Some f) sound file is = subst IsSoundFile (cc is) (rest_sound f f.content (sound f refl) (sound f refl).stands)

gone : (b : Bool) (o : Option File) → settled_if b o ≡ None → o ≡ None
gone false o is = is
gone true None is = refl
gone true (Some f) is = (let never : ⊥ = cc in absurd never)

still_gone : (b : Bool) (o : Option File) → o ≡ None → settled_if b o ≡ None
still_gone false o is = is
still_gone true o is = ap (option_map flushed) is

pub settled_sound : (E : ℕ → Bool) (d : Disk) → IsSound d → IsSound (settled_in E d)
settled_sound E d sound = record {
  named = λ path id at none. sound.named path id at (gone (E id) (d.files id) none);
  one_name = sound.one_name;
  apart = sound.apart;
  home = sound.home;
  fresh = λ id above. still_gone (E id) (d.files id) (sound.fresh id above);
  files = λ id file is. settled_is_sound (E id) (d.files id) (sound.files id) file is;
}
