-- The program's calls as those of a history.
use Rattle.std.proofs.Common.{◌≡◌, ℕ, ◌+◌, ◌<◌, List, [], ◌∷◌, ◌++◌, length, get_or, sym, ap, ◌∙◌}
use lib.ListN.{length-map}
use Rattle.std.proofs.lemmas.List.{map_push}
use Rattle.std.proofs.lemmas.Option.{slice_get-map, slice_get-get_or}
use Rattle.std.specs.Option.{option_map}
use Rattle.history.specs.declared.call.Call.{Call}
use Rattle.theory.specs.Figures.{Table}
use Rattle.theory.specs.Edits.{Edited}
use Rattle.theory.specs.History.{Replayed}
use Rattle.theory.proofs.Histories.{SoFar, turn, done}
use Rattle.theory.proofs.Decided.{decided}
use Rattle.history.specs.Calls.{Answer, edit_of, some_edit, edits_of, faults_in}
use Rattle.names.specs.Refusals.{refused}

-- one call more
pub one_more : (calls : List Call) (n : ℕ) (d : Call) (answers answers' : List Answer) (a : Answer) (rows rows' : Table) → n < length calls →
    SoFar (edits_of calls) n (faults_in answers) rows → Edited (edit_of (get_or calls n d)) rows (refused a) rows' → answers' ≡ answers ++ a ∷ [] →
    SoFar (edits_of calls) (n + 1) (faults_in answers') rows'
one_more calls n d answers answers' a rows rows' l so made more =
    turn (edits_of calls) n (faults_in answers) (faults_in answers') rows rows' (some_edit (get_or calls n d)) (refused a) so
    (slice_get-map some_edit calls n ∙ ap (option_map some_edit) (slice_get-get_or calls n d l)) made (ap faults_in more ∙ map_push refused answers a)

-- after the last call
pub all_made : (calls : List Call) (n : ℕ) (answers : List Answer) (rows : Table) → n ≡ length calls →
    SoFar (edits_of calls) n (faults_in answers) rows → Replayed (edits_of calls) (faults_in answers) rows
all_made calls n answers rows e so =
    let h = done (edits_of calls) n (faults_in answers) rows (e ∙ sym (length-map calls some_edit)) so in
    record { lawful = h; only = decided (edits_of calls) (faults_in answers) rows h }
