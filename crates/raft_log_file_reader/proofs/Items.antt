-- What a call of a reader of items makes of what still comes.
use Rattle.std.specs.Vec.Iter.{into_iter_items}
use Rattle.std.proofs.Common.{◌≡◌, ◌<◌, ◌≤◌, List, [], ◌∷◌, ◌++◌, length, None, Err, refl, sym, ap, subst, ◌∙◌, arith}
use Rattle.raft_log_record_base.specs.declared.errors.Error.{Error}
use Rattle.raft_log_record_items.specs.declared.item.LogItem.{LogItem}
use Rattle.raft_log_fs.specs.Disk.{Disk}
use Rattle.raft_log_file_reader.specs.Answers.{Answer, given, GivesFiles}
use Rattle.raft_log_file_reader.specs.ItemBatches.{GivesRest, AnswersGoOn, files_of, most_left}
use Rattle.raft_log_file_reader.specs.ItemReader.{IsFileAtWork, StillGives, disk_of, most_to_come}
use Rattle.raft_log_file_reader.specs.ItemLaws.{CallsGiveAll}
use Rattle.raft_log_file_reader.specs.Reader.{file_of}
use Rattle.raft_log_file_reader.specs.declared.log_file.LogFile.{LogFile}
use Rattle.raft_log_file_reader.specs.declared.item_reader.LogItemReader.{LogItemReader}
use Rattle.raft_log_file_reader.proofs.Steps.{closed_gives, goes_further}

-- nothing came yet on the way from the one to the other
pub record HasReadTo {F : Type 0} (disk : F → Disk) (old new : LogItemReader F) : Type 0 where
  pub work : IsFileAtWork disk new
  pub goes_on : AnswersGoOn (StillGives disk) old [] new
  pub fewer : most_to_come disk new ≤ most_to_come disk old

pub empty_of : {A : Type 0} (xs : List A) → length xs ≡ 0 → xs ≡ []
empty_of [] none = refl
empty_of (x ∷ xs) none = absurd (omega (arith, none))

-- where no item is left of the batch that was read last, what comes is what comes of the files
emptied : {F : Type 0} (disk : F → Disk) (reader : LogItemReader F) (answers : List Answer) → into_iter_items reader.items ≡ [] → GivesRest (disk_of disk reader) reader.batches answers
    → StillGives disk reader answers
emptied disk reader answers none gives = record { rest = answers; of_rest = gives; all = ap (λ (items : List LogItem). given items ++ answers) (sym none) }

of_files : {F : Type 0} (disk : F → Disk) (reader : LogItemReader F) (answers : List Answer) → into_iter_items reader.items ≡ [] → StillGives disk reader answers
    → GivesRest (disk_of disk reader) reader.batches answers
of_files disk reader answers none gives =
    subst (GivesRest (disk_of disk reader) reader.batches) (sym (gives.all ∙ ap (λ (items : List LogItem). given items ++ gives.rest) none)) gives.of_rest

-- a file was refused
pub refused : {F : Type 0} (disk : F → Disk) (error : Error) (old from new : LogItemReader F) → HasReadTo disk old from → into_iter_items from.items ≡ [] → into_iter_items new.items ≡ []
    → disk_of disk new ≡ disk_of disk from → AnswersGoOn (GivesRest (disk_of disk from)) from.batches (Err error ∷ []) new.batches
    → most_left (disk_of disk from) new.batches < most_left (disk_of disk from) from.batches
    → AnswersGoOn (StillGives disk) old (Err error ∷ []) new × (most_to_come disk new < most_to_come disk old)
refused disk error old from new come none still same step fewer =
    let left : most_left (disk_of disk new) new.batches ≡ most_left (disk_of disk from) new.batches = ap (λ (d : Disk). most_left d new.batches) same in
    let goes_on : AnswersGoOn (StillGives disk) from (Err error ∷ []) new = λ rest more.
    emptied disk from (Err error ∷ rest) none (step rest (subst (λ (d : Disk). GivesRest d new.batches rest) same (of_files disk new rest still more))) in (
      goes_further (StillGives disk) old from new (Err error ∷ []) come.goes_on goes_on,
      omega (arith, come.fewer, fewer, left, ap length none, ap length still),
    )

-- of a reader that has no file open and no item left comes what its files give
pub gives_files : {F : Type 0} (disk : F → Disk) (reader : LogItemReader F) (files : List LogFile) (answers : List Answer) → into_iter_items reader.items ≡ [] → file_of reader.batches.reader ≡ None
    → files_of reader.batches ≡ files → StillGives disk reader answers → GivesFiles (disk_of disk reader) files answers
gives_files disk reader files answers none closed are still =
    let d = disk_of disk reader in
    let rest = still.of_rest in
    let nothing = closed_gives d reader.batches.reader rest.current closed rest.of_current in
    let all : answers ≡ rest.later = still.all ∙ ap (λ (items : List LogItem). given items ++ still.rest) none ∙ rest.both ∙ ap (λ (l : List Answer). l ++ rest.later) nothing in
    subst (GivesFiles d files) (sym all) (subst (λ (fs : List LogFile). GivesFiles d fs rest.later) are rest.of_later)

-- whoever calls until nothing comes gets all
pub calls_give_all_is : {F : Type 0} (disk : F → Disk) → CallsGiveAll disk
calls_give_all_is disk reader [] (u, (t, same, ends)) = subst (λ (r : LogItemReader _). StillGives disk r []) (sym same) ends.0
calls_give_all_is disk reader (answer ∷ answers) (u, (t, (next, step, more), ends)) = step answers (calls_give_all_is disk next answers (u, (t, more, ends)))
