use Rattle.std.proofs.Common.{◌≡◌, Some, None, MatchOption, Option, arith, rules}
use Rattle.sheet.specs.declared.row.Row.{Row}
use Rattle.sheet.specs.Views.{figures, table_of}
use Rattle.response.proofs.Gathering.{blocks_for}
use Rattle.response.proofs.setting.Setting.blocking.Goals as goal

pub returns-in-Some : goal.returns-in-Some
returns-in-Some g c =
    let s = c.args.self.now.sheet.now in
    let read : MatchOption c.args.blocker (Some c.in-Some.row ≡ None) (λ p. figures (Some c.in-Some.row) ≡ table_of s p.0) = search rules in
    record { value = blocks_for s c.args.blocker (Some c.in-Some.row) read; bound = c.in-Some.row.runs_top }

pub returns-in-None : goal.returns-in-None
returns-in-None g c =
    let s = c.args.self.now.sheet.now in
    let read : MatchOption c.args.blocker (◌≡◌ {A = Option Row} None None) (λ p. figures None ≡ table_of s p.0) = search rules in
    record { value = blocks_for s c.args.blocker None read; bound = omega arith }
