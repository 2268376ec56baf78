use Rattle.std.proofs.Common.{◌≡◌, ℕ}
use Rattle.theory.specs.Delays.{preempts}
use Rattle.blocks.specs.Members.{bit}
use Rattle.delay.proofs.RowBits.{seen}
use Rattle.delay.proofs.rows.RowSet.pre_empted_by.Given as goal

abbrev pub invariant-loop-t : goal.invariant-loop-t
invariant-loop-t l = (t : ℕ) → bit l.rows t ≡ seen (preempts l.column l.j.0) l.t t
