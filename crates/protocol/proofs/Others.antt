-- A move touches one member.
use Rattle.std.proofs.Common.{ℕ, refl, ◌∙◌, Some, None, suc, true, ◌||◌, max}
use Rattle.protocol.specs.History.{History, Follower, Candidate, Preparing, Leading}
use Rattle.protocol.specs.Moves.{Raise, Stand, Cast, Win, Rebuild, Begin, Propose, Accept, Acknowledge, Answer, Decide, Learn, Restart}
use Rattle.protocol.specs.Growth.{Untouched}
use Rattle.protocol.specs.Laws.{OthersStay}
use Rattle.protocol.proofs.Counting.{off, off_at}

pub untouched_refl : (h : History) (k : ℕ) → Untouched h h k
untouched_refl h k = record {
  term = refl;
  vote = refl;
  role = refl;
  log = refl;
  commit = refl;
  voted = λ t. refl;
  stood = λ t. refl;
  won = λ t. refl;
  ack = λ t. refl;
  held = λ t. refl;
}

pub untouched_trans : {g h i : History} {k : ℕ} → Untouched g h k → Untouched h i k → Untouched g i k
untouched_trans x y = record {
  term = y.term ∙ x.term;
  vote = y.vote ∙ x.vote;
  role = y.role ∙ x.role;
  log = y.log ∙ x.log;
  commit = y.commit ∙ x.commit;
  voted = λ t. y.voted t ∙ x.voted t;
  stood = λ t. y.stood t ∙ x.stood t;
  won = λ t. y.won t ∙ x.won t;
  ack = λ t. y.ack t ∙ x.ack t;
  held = λ t. y.held t ∙ x.held t;
}

pub others_stay : OthersStay
others_stay h (Raise j t) k n =
    assumption (off k j t h.term n, off k j None h.vote n, off k j Follower h.role n, untouched_refl h k)
others_stay h (Stand j) k n =
    assumption (
      off k j (suc (h.term j)) h.term n,
      off k j (Some j) h.vote n,
      off k j Candidate h.role n,
      off_at k (suc (h.term j)) j (Some j) h.voted n,
      off_at k (suc (h.term j)) j (h.log j) h.stood n,
      untouched_refl h k,
    )
others_stay h (Cast j c) k n =
    assumption (off k j (Some c) h.vote n, off_at k (h.term j) j (Some c) h.voted n, untouched_refl h k)
others_stay h (Win u) k n = assumption (off k u Preparing h.role n, off_at k (h.term u) u true h.won n, untouched_refl h k)
others_stay h (Rebuild j log) k n = assumption (off k j log h.log n, untouched_refl h k)
others_stay h (Begin u log) k n = assumption (off k u Leading h.role n, off k u log h.log n, untouched_refl h k)
others_stay h (Propose u log need) k n = assumption (off k u log h.log n, untouched_refl h k)
others_stay h (Accept j log) k n = assumption (off k j Follower h.role n, off k j log h.log n, untouched_refl h k)
others_stay h (Acknowledge j reach whole) k n =
    assumption (
      off_at k (h.term j) j (max (h.ack (h.term j) j) reach) h.ack n,
      off_at k (h.term j) j (λ i. h.held (h.term j) j i || whole i) h.held n,
      untouched_refl h k,
    )
others_stay h (Answer j from) k n = assumption (untouched_refl h k)
others_stay h (Decide u m) k n = assumption (off k u m h.commit n, untouched_refl h k)
others_stay h (Learn j m) k n = assumption (off k j m h.commit n, untouched_refl h k)
others_stay h (Restart j) k n = assumption (off k j Follower h.role n, untouched_refl h k)
