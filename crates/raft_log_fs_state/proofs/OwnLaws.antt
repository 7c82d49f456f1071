-- What the changes of all files, in the order of the calls, have of one file: its own changes.
use Rattle.std.specs.Prelude.{◌≡◌, ℕ, ◌<◌, zero, suc, Option, Some, None, List, [], ◌∷◌, ◌++◌}
use Rattle.std.specs.List.{filter, AllZip}
use Rattle.std.specs.Option.{option_map}
use Rattle.std.proofs.Common.{refl, sym, ◌∙◌, ap, subst, arith, inl, inr, map, nat_eq}
use Rattle.std.proofs.lemmas.List.{map-append}
use Rattle.std.proofs.lemmas.List.Elements.{filter-append}
use Rattle.std.proofs.lemmas.Bool.{cases_lt, eq-eqb}
use Rattle.raft_log_fs.specs.Disk.{Change, File}
use Rattle.raft_log_fs_state.specs.Changes.{Made, IsLanded}
use Rattle.raft_log_fs_state.specs.Held.{Held, held_of, changes_in, landed_in, file_of}
use Rattle.raft_log_fs_state.specs.Order.{with_stamp, stamped, in_order, changes_of, AreStamped}
use Rattle.raft_log_fs_state.specs.Storage.{contents_of, OrderIsTheFiles}
use Rattle.raft_log_fs_state.proofs.Fronts.{landed_beside}
use Rattle.raft_log_fs_state.proofs.RisingLaws.{at_stamp, before_stamp, miss, both, one_or_none, all_before, none_yet, one_stamp_more}
use Rattle.raft_log_fs_state.proofs.OrderLaws.{tagged, stamped_one}
use Rattle.raft_log_fs_state.proofs.LeftLaws.{AreOthers, others_stamped, empty_or}

changes_of-append : (id : ℕ) (xs ys : List (ℕ × Change)) → changes_of id (xs ++ ys) ≡ changes_of id xs ++ changes_of id ys
changes_of-append id xs ys =
    ap (map (λ (u : ℕ × Change). u.1)) (filter-append (λ (u : ℕ × Change). nat_eq u.0 id) xs ys)
    ∙ map-append (λ (u : ℕ × Change). u.1) (filter (λ (u : ℕ × Change). nat_eq u.0 id) xs) (filter (λ (u : ℕ × Change). nat_eq u.0 id) ys)

own_stay : (id : ℕ) (ms : List Made) → changes_of id (tagged id ms) ≡ landed_in ms
own_stay id [] = refl
own_stay id (m ∷ ms) = rw (eq-eqb id id refl) (ap (λ (cs : List Change). m.change ∷ cs) (own_stay id ms))

others_go : (id : ℕ) (us : List (ℕ × Change)) → AreOthers id us → changes_of id us ≡ []
others_go id [] none = refl
others_go id (u ∷ us) none = rw (miss u.0 id none.0) (others_go id us none.1)

-- the changes with one stamp
own_stamp : (next stamp count id : ℕ) (files : ℕ → Option Held) (file : Held) → AreStamped next files → id < count → files id ≡ Some file
    → changes_of id (stamped stamp files count) ≡ landed_in (at_stamp stamp file.changes)
own_stamp next stamp count id files file are below is = elim (one_or_none 0 next stamp file.changes (are.rise id file is)) [
  | inl none ↦
      others_go id (stamped stamp files count)
      (others_stamped stamp id count files (ap (with_stamp stamp id) is ∙ ap (tagged id) none))
      ∙ ap landed_in (sym none)
  | inr one ↦
      (let mine : with_stamp stamp id (files id) ≡ (id, one.0.change) ∷ [] = ap (with_stamp stamp id) is ∙ ap (tagged id) one.2 in
      let some : with_stamp stamp id (files id) ≡ [] → ⊥ = λ none. filled (sym mine ∙ none) in
      ap (changes_of id) (stamped_one stamp count id files below (λ q apart. elim (empty_or (with_stamp stamp q (files q))) [
        | inl none ↦ none
        | inr has ↦ absurd (apart (are.alone q id stamp has some))
      ]))
      ∙ (ap (λ (o : Option Held). changes_of id (with_stamp stamp id o)) is ∙ own_stay id (at_stamp stamp file.changes)))
]
  where
    filled : {u : ℕ × Change} → u ∷ [] ≡ [] → ⊥
    filled e = cc

-- and those with a lesser one
own_up_to : (next stamp count id : ℕ) (files : ℕ → Option Held) (file : Held) → AreStamped next files → id < count → files id ≡ Some file
    → changes_of id (in_order stamp files count) ≡ landed_in (before_stamp stamp file.changes)
own_up_to next zero count id files file are below is =
    ap landed_in (sym (none_yet 0 next 0 file.changes (are.rise id file is) (omega arith)))
own_up_to next (suc stamp) count id files file are below is =
    changes_of-append id (in_order stamp files count) (stamped stamp files count)
    ∙ (both (own_up_to next stamp count id files file are below is) (own_stamp next stamp count id files file are below is)
    ∙ (sym (map-append (λ (m : Made). m.change) (before_stamp stamp file.changes) (at_stamp stamp file.changes))
    ∙ ap landed_in (sym (one_stamp_more 0 next stamp file.changes (are.rise id file is)))))

own_in_order : (next count id : ℕ) (files : ℕ → Option Held) (file : Held) → AreStamped next files → id < count → files id ≡ Some file
    → changes_of id (in_order next files count) ≡ landed_in file.changes
own_in_order next count id files file are below is =
    own_up_to next next count id files file are below is ∙ ap landed_in (all_before 0 next next file.changes (are.rise id file is) (omega arith))

pub order_is_the_files : OrderIsTheFiles
order_is_the_files storage id file whole is = elim (cases_lt id (contents_of storage).unused) [
  | inl below ↦ at (held_of storage.files.items id) refl below
  | inr past ↦ absurd (let none = whole.sound.fresh id past in let e : None ≡ Some file = sym none ∙ is in cc)
]
  where
    at : (o : Option Held) → held_of storage.files.items id ≡ o → id < (contents_of storage).unused
        → AllZip IsLanded (changes_of id (in_order storage.made (held_of storage.files.items) (contents_of storage).unused)) file.changes
    at None there below = absurd (let e : None ≡ Some file = ap (option_map file_of) (sym there) ∙ is in cc)
    at (Some held) there below =
        let same : file_of held ≡ file = (let e : Some (file_of held) ≡ Some file = ap (option_map file_of) (sym there) ∙ is in cc) in
        subst (λ (f : File). AllZip IsLanded (changes_of id (in_order storage.made (held_of storage.files.items) (contents_of storage).unused)) f.changes) same
        (subst (λ (cs : List Change). AllZip IsLanded cs (changes_in held.changes))
        (sym (own_in_order storage.made (contents_of storage).unused id (held_of storage.files.items) held whole.stamped below there)) (landed_beside held.changes))
