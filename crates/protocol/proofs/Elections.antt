-- Votes over whole runs: one leader a term.
use Rattle.std.proofs.Common.{◌≡◌, ℕ, true, refl, subst, sym}
use Rattle.std.proofs.lemmas.Bool.{true≢false}
use Rattle.protocol.specs.History.{History, start}
use Rattle.protocol.specs.Moves.{Moves, None_yet, Then, Reached}
use Rattle.protocol.specs.Invariants.{Votes}
use Rattle.protocol.specs.Laws.{OneWinner, OneLeader}
use Rattle.protocol.proofs.Votes.{votes_after, one_winner}

pub start_votes : (F : ℕ) → Votes F start
start_votes F = record {
  present = λ j. refl;
  later = λ t j lt. refl;
  candidate = λ t j c e. cc;
  won = λ t u e. absurd (true≢false (sym e));
  standing = λ j e. cc;
  preparing = λ j e. cc;
  leading = λ j e. cc;
}

-- what is said of votes holds after every run
pub votes_kept : (F : ℕ) (g h : History) → Moves F g h → Votes F g → Votes F h
votes_kept F g h None_yet s = s
votes_kept F g h (Then h2 move allowed run) s = votes_after F h2 move allowed (votes_kept F g h2 run s)

pub votes_reached : (F : ℕ) (h : History) → Reached F h → Votes F h
votes_reached F h run = votes_kept F start h run (start_votes F)

pub one_winner_reached : OneWinner
one_winner_reached F h run t u v a b = one_winner F h (votes_reached F h run) t u v a b

pub one_leader_reached : OneLeader
one_leader_reached F h run j k a b e =
    let s : Votes F h = votes_reached F h run in
    one_winner F h s (h.term j) j k (s.leading j a) (subst (λ (t : ℕ). h.won t k ≡ true) (sym e) (s.leading k b))
