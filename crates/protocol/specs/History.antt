-- The state of the protocol: what each member keeps, and a history that no member keeps.
use Rattle.std.specs.Prelude.{◌≡◌, ℕ, ◌⊎◌, Bool, false, List, [], ◌∷◌, Option, None}
use Rattle.protocol.specs.Logs.{Slot}

-- what a member does in its term. After a restart it is a follower
pub data Role : Type 0 where
  Follower : Role
  Candidate : Role
  Preparing : Role
  Leading : Role

-- what a member showed of its log to its term's leader: the slots from `start` on, of the log that it had then
pub record Shown : Type 0 where
  pub term : ℕ
  pub member : ℕ
  pub start : ℕ
  pub slots : List Slot

-- a member's log at a term, before and after entries could be removed from it
pub record Cut : Type 0 where
  pub term : ℕ
  pub before : List Slot
  pub after : List Slot

-- functions of a member, of a term, or of a term and a member. Members are the numbers below 2F + 1, terms count from 1
pub record History : Type 0 where
  -- what each member keeps, of which the role alone is lost in a restart
  pub term : ℕ → ℕ
  pub vote : ℕ → Option ℕ
  pub role : ℕ → Role
  pub log : ℕ → List Slot
  pub commit : ℕ → ℕ
  -- by term and member: whom it voted for; the log with which it stood, where it voted for itself; whether it won
  pub voted : ℕ → ℕ → Option ℕ
  pub stood : ℕ → ℕ → List Slot
  pub won : ℕ → ℕ → Bool
  -- by term: whether its leader began to lead, that leader's log since then, and its commit index when it began
  pub began : ℕ → Bool
  pub led : ℕ → List Slot
  pub base : ℕ → ℕ
  -- by an entry's term and index: how many parts give its value; fixed when the entry is proposed
  pub need : ℕ → ℕ → ℕ
  -- by term: how far the term's leader committed by counting, 0 where it never did
  pub decided : ℕ → ℕ
  -- by term and member: how far it said that its log is the leader's, and by index what it said that it holds whole
  pub ack : ℕ → ℕ → ℕ
  pub held : ℕ → ℕ → ℕ → Bool
  -- all that was shown to leaders that prepared, and each change of a log that could remove entries
  pub answers : List Shown
  pub cuts : List Cut

-- the element stands in the list
abbrev pub IsIn : {A : Type 0} → A → List A → Type 0
IsIn a [] = ⊥
IsIn a (x ∷ xs) = (a ≡ x) ⊎ IsIn a xs

-- before any move
abbrev pub start : History
start =
    record {
      term = λ j. 0;
      vote = λ j. None;
      role = λ j. Follower;
      log = λ j. [];
      commit = λ j. 0;
      voted = λ t j. None;
      stood = λ t j. [];
      won = λ t j. false;
      began = λ t. false;
      led = λ t. [];
      base = λ t. 0;
      need = λ t i. 1;
      decided = λ t. 0;
      ack = λ t j. 0;
      held = λ t j i. false;
      answers = [];
      cuts = [];
    }
