use Rattle.text.proofs.Cutting.{unended}
use Rattle.text.proofs.split_line.Given as goal

abbrev pub ghost-run_len : goal.ghost-run_len
ghost-run_len a = unended
