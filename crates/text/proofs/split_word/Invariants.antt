use Rattle.text.specs.Text.{blank, wordy}
use Rattle.text.proofs.split_word.Given as goal

abbrev pub ghost-run_len : goal.ghost-run_len
ghost-run_len a = blank

abbrev pub ghost-run_len-2 : goal.ghost-run_len-2
ghost-run_len-2 a = wordy
