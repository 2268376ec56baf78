-- What lines come to, one after the other.
use Rattle.std.proofs.Common.{◌≡◌, ℕ, ◌+◌, ◌<◌, ◌≤◌, List, [], ◌∷◌, ◌++◌, length, get_or, drop, append_assoc}
use Rattle.std.proofs.lemmas.List.{at_drop_more, at_drop_all, append-nil}
use Rattle.std.specs.List.{slice_get}
use Rattle.history.specs.Calls.{Answer}
use Rattle.script.specs.Lines.{Line}
use Rattle.script.specs.Replies.{Reply, reply_for, left_after, replies_for}

-- one reply more
pub replied_more : (ls : List Line) (i : ℕ) (d : Line) (answers left rest : List Answer) (replies replies' : List Reply) (r : Reply) → i < length ls →
    replies ++ replies_for (drop i ls) left ≡ replies_for ls answers → r ≡ reply_for (get_or ls i d) (slice_get left 0) → rest ≡ left_after (get_or ls i d) left →
    replies' ≡ replies ++ r ∷ [] → replies' ++ replies_for (drop (i + 1) ls) rest ≡ replies_for ls answers
unfolding replies_for
replied_more ls i d answers left rest replies replies' r h so is after more =
    let step = at_drop_more (λ (x : List Line). replies_for x left) ls i d h in
    rw (more, append_assoc, after, is) (rw step at so)

pub replied_all : (ls : List Line) (i : ℕ) (answers left : List Answer) (replies : List Reply) → length ls ≤ i →
    replies ++ replies_for (drop i ls) left ≡ replies_for ls answers → replies ≡ replies_for ls answers
unfolding replies_for
replied_all ls i answers left replies l so =
    rw (at_drop_all (λ (x : List Line). replies_for x left) ls i l, append-nil) at so
