use Rattle.std.proofs.Common.{◌≡◌, ◌++◌, codes, string_bytes}
use Rattle.std.specs.Fmt.{decimal}
use Rattle.raft_voter_timeline.specs.Picture.{top_text}
use Rattle.raft_voter_timeline.proofs.Gaining.{two_gained}
use Rattle.raft_voter_timeline.proofs.picture.push_top.Goals as goal

pub returns : goal.returns
unfolding top_text
returns c =
    let first : string_bytes c.push_str.new.self ≡ string_bytes c.args.text.now ++ codes "' transform='translate(0 " = c.in_ok-push_str.ensures.bytes in
    two_gained (string_bytes c.args.text.now) (string_bytes c.push_str.new.self) (string_bytes c.push_number.new.text) (codes "' transform='translate(0 ") (decimal c.args.top) first
    c.in_ok-push_number.ensures
