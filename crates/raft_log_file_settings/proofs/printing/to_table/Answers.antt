use Rattle.std.proofs.Common.{List, ap, subst, ◌∙◌, pos, Some, IfOk, IfErr}
use Rattle.std.specs.Option.{option_map}
use Rattle.toml.specs.Data.Data.{string, integer}
use Rattle.toml.specs.View.{table_view}
use Rattle.raft_log_file_settings.specs.Settings.{settings_of}
use Rattle.raft_log_file_settings.specs.Printing.{Row, HasRows, IsUnprintable}
use Rattle.raft_log_file_settings.proofs.Printings.{strings, sizes, these_rows}
use Rattle.raft_log_file_settings.proofs.printing.to_table.Goals as goal

pub returns-clause-ok : goal.returns-clause-ok
returns-clause-ok c =
    let P : List Row → Type 0 = λ rows. IfOk c.table_of.result (λ table. HasRows rows (table_view table)) in
    subst P
    (these_rows (settings_of c.args.config.now) _ _ _ _ _ _ _ _ _ _ _ _ _
    (ap (λ l. Some (string l)) c.as_str.ensures.value)
    (c.size_entry.ensures.value ∙ sizes c.args.config.now.dir_limit)
    (c.text_entry.ensures ∙ strings c.text_of.result ∙ ap (option_map (λ d. string d)) c.text_of.ensures)
    (c.size_entry-2.ensures.value ∙ sizes c.args.config.now.spill_dir_limit)
    (ap (λ l. Some (string l)) c.word_of.ensures) c.size_entry-3.ensures.value
    (c.size_entry-4.ensures.value ∙ sizes c.args.config.now.bytes_per_sync)
    (ap (λ n. Some (integer (pos n))) c.to_u64.ensures)
    c.size_entry-5.ensures.value c.size_entry-6.ensures.value
    (c.size_entry-7.ensures.value ∙ sizes c.args.config.now.purge_rewrite_threshold)
    (c.size_entry-8.ensures.value ∙ sizes c.args.config.now.memory_limit)
    (c.size_entry-9.ensures.value ∙ sizes c.args.config.now.prefill_limit))
    c.table_of.ensures.ok

pub returns-clause-err : goal.returns-clause-err
returns-clause-err c =
    let P : List Row → Type 0 = λ rows. IfErr c.table_of.result (λ error. IsUnprintable rows error) in
    subst P
    (these_rows (settings_of c.args.config.now) _ _ _ _ _ _ _ _ _ _ _ _ _
    (ap (λ l. Some (string l)) c.as_str.ensures.value)
    (c.size_entry.ensures.value ∙ sizes c.args.config.now.dir_limit)
    (c.text_entry.ensures ∙ strings c.text_of.result ∙ ap (option_map (λ d. string d)) c.text_of.ensures)
    (c.size_entry-2.ensures.value ∙ sizes c.args.config.now.spill_dir_limit)
    (ap (λ l. Some (string l)) c.word_of.ensures) c.size_entry-3.ensures.value
    (c.size_entry-4.ensures.value ∙ sizes c.args.config.now.bytes_per_sync)
    (ap (λ n. Some (integer (pos n))) c.to_u64.ensures)
    c.size_entry-5.ensures.value c.size_entry-6.ensures.value
    (c.size_entry-7.ensures.value ∙ sizes c.args.config.now.purge_rewrite_threshold)
    (c.size_entry-8.ensures.value ∙ sizes c.args.config.now.memory_limit)
    (c.size_entry-9.ensures.value ∙ sizes c.args.config.now.prefill_limit))
    c.table_of.ensures.err
