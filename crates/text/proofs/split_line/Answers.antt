use Rattle.std.proofs.Common.{◌<◌, length, rules}
use Rattle.text.proofs.Cutting.{cut_line, rest_shorter, no_lines}
use Rattle.text.proofs.split_line.Goals as goal

pub returns-then-is_empty : goal.returns-then-is_empty
returns-then-is_empty c = record { cuts = no_lines c.args.text.now (search rules); shorter = tt }

pub returns : goal.returns
returns c =
    let text = c.args.text.now in
    let end = c.split_at.result.1.now in
    let rest = c.split_at-2.result.1.now in
    let after = rw c.min.ensures at c.split_at-2.ensures.back in
    let some : 0 < length text = search rules in
    record {
      cuts =
          cut_line text c.split_at.result.0.now end rest some (rw c.run_len.ensures.run at c.split_at.ensures.front)
          (rw c.run_len.ensures.run at c.split_at.ensures.back) after;
      shorter = rest_shorter text end rest c.run_len.result some c.split_at.ensures.back after;
    }
