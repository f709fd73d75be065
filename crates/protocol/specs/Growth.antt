-- What a run leaves as it is: history only grows, and a move touches one member.
use Rattle.std.specs.Prelude.{◌≡◌, ℕ, ◌≤◌, true, Some}
use Rattle.protocol.specs.Logs.{Has, Extends}
use Rattle.protocol.specs.History.{History, Shown, Cut, IsIn}
use Rattle.protocol.specs.Moves.{Move, Raise, Stand, Cast, Win, Rebuild, Begin, Propose, Accept, Acknowledge, Answer, Decide, Learn, Restart}

-- the second history is the first, grown: what a member or a message says of the first is true of the second
pub record Grows (g h : History) : Type 0 where
  pub term : (j : ℕ) → g.term j ≤ h.term j
  pub commit : (j : ℕ) → g.commit j ≤ h.commit j
  pub voted : (t j c : ℕ) → g.voted t j ≡ Some c → h.voted t j ≡ Some c
  pub stood : (t c : ℕ) → g.voted t c ≡ Some c → h.stood t c ≡ g.stood t c
  pub won : (t u : ℕ) → g.won t u ≡ true → h.won t u ≡ true
  pub began : (t : ℕ) → g.began t ≡ true → h.began t ≡ true
  pub led : Extends g.led h.led
  pub base : (t : ℕ) → g.began t ≡ true → h.base t ≡ g.base t
  pub need : (t i a : ℕ) → Has (g.led t) i a → h.need a i ≡ g.need a i
  pub decided : (t : ℕ) → g.decided t ≤ h.decided t
  pub ack : (t j : ℕ) → g.ack t j ≤ h.ack t j
  pub held : (t j i : ℕ) → g.held t j i ≡ true → h.held t j i ≡ true
  pub answers : (a : Shown) → IsIn a g.answers → IsIn a h.answers
  pub cuts : (c : Cut) → IsIn c g.cuts → IsIn c h.cuts

-- the member whose move it is
abbrev pub mover : Move → ℕ
mover (Raise j t) = j
mover (Stand j) = j
mover (Cast j c) = j
mover (Win u) = u
mover (Rebuild j log) = j
mover (Begin u log) = u
mover (Propose u log need) = u
mover (Accept j log) = j
mover (Acknowledge j reach whole) = j
mover (Answer j from) = j
mover (Decide u n) = u
mover (Learn j n) = j
mover (Restart j) = j

-- nothing changes of a member: what it keeps, and what it said and won in any term
pub record Untouched (g h : History) (k : ℕ) : Type 0 where
  pub term : h.term k ≡ g.term k
  pub vote : h.vote k ≡ g.vote k
  pub role : h.role k ≡ g.role k
  pub log : h.log k ≡ g.log k
  pub commit : h.commit k ≡ g.commit k
  pub voted : (t : ℕ) → h.voted t k ≡ g.voted t k
  pub stood : (t : ℕ) → h.stood t k ≡ g.stood t k
  pub won : (t : ℕ) → h.won t k ≡ g.won t k
  pub ack : (t : ℕ) → h.ack t k ≡ g.ack t k
  pub held : (t : ℕ) → h.held t k ≡ g.held t k
