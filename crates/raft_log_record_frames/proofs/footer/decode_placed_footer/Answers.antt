use Rattle.std.proofs.Common.{◌≡◌, ℕ, List, Result, Ok, sym, ap, ◌∙◌}
use Rattle.raft_log_record_base.specs.Fault.{Fault}
use Rattle.raft_log_record_base.specs.Grammar.{◌>>=◌}
use Rattle.raft_log_record_items.specs.declared.item.LogItem.{LogItem}
use Rattle.raft_log_record_items.specs.Placed.{placed, entries_len}
use Rattle.raft_log_record_base.proofs.Public.{done}
use Rattle.raft_log_record_frames.specs.Record.{placed_footer_of, whole_of}
use Rattle.raft_log_record_frames.proofs.Footers.{whole_found, adds_up_fits, footer_made}
use Rattle.raft_log_record_frames.proofs.footer.decode_placed_footer.Goals as goal

pub returns : goal.returns
unfolding placed_footer_of
returns c =
    let read = c.in_ok-items.ensures in
    let whole : whole_of c.args.block.len (entries_len read.0) c.decode_placed_items.new.source.now ≡ Ok c.in_ok-check_whole.field-0 = c.in_ok-check_whole.ensures (entries_len read.0) read.2.sum in
    let fits = adds_up_fits c.args.block.len (entries_len read.0) (whole_found c.args.block.len (entries_len read.0) c.decode_placed_items.new.source.now _ whole).1 in
    let footer = footer_made c.args.signature c.args.block.len c.args.bytes.now c.in_ok-rest.rest.now read.0 c.decode_placed_items.new.source.now _ c.in_ok-rest.ensures read.1 whole in
    record { exact = ap (λ (r : Result (List LogItem) Fault). r >>= λ (items : List LogItem). done {E = Fault} (placed c.args.block items)) footer ∙ ap (λ (l : List LogItem). done {E = Fault} l) (sym (read.2.places fits)) }
