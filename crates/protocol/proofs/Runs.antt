-- The invariants hold at the start, and each move keeps them: so they hold after every run.
use Rattle.std.proofs.Common.{◌≡◌, ℕ, List, length, refl, arith}
use Rattle.protocol.specs.Logs.{Slot}
use Rattle.protocol.specs.History.{History, start}
use Rattle.protocol.specs.Words.{Open}
use Rattle.protocol.specs.Moves.{Move, Raise, Stand, Cast, Win, Rebuild, Begin, Propose, Accept, Acknowledge, Answer, Decide, Learn, Restart, Allowed, after, Moves, None_yet, Then, Reached}
use Rattle.protocol.specs.Invariants.{Sound, IsSound}
use Rattle.protocol.proofs.Logs.{agree_none, stores_none}
use Rattle.protocol.proofs.Elections.{start_votes}
use Rattle.protocol.proofs.Rising.{raise_keeps, stand_keeps, restart_keeps}
use Rattle.protocol.proofs.Ballots.{cast_keeps, win_keeps}
use Rattle.protocol.proofs.Showing.{rebuild_keeps, answer_keeps, learn_keeps}
use Rattle.protocol.proofs.Deciding.{ack_keeps, decide_keeps}
use Rattle.protocol.proofs.Begin.{begin_keeps}
use Rattle.protocol.proofs.Propose.{propose_keeps}
use Rattle.protocol.proofs.Accept.{accept_keeps}

empty_sound : (led : ℕ → List Slot) (log : List Slot) → length log ≡ 0 → IsSound led log
empty_sound led log e = record { matches = λ i from le. absurd (omega arith); rises = λ i k from ik le. absurd (omega arith) }

start_closed : (F t n : ℕ) → Open F start t n → ⊥
start_closed F t n o = let from = (o.own).from in let within = (o.own).within in omega arith

pub start_sound : (F : ℕ) → Sound F start
start_sound F = record {
  votes = start_votes F;
  logs = record {
    log = λ j. (empty_sound _ _ refl, λ i from le. absurd (omega arith));
    led = λ t. (empty_sound _ _ refl, λ i from le. absurd (omega arith));
    stood = λ t c e. (empty_sound _ _ refl, λ i from le. absurd (omega arith));
    silent = λ t e. refl;
    began = λ t e. absurd (cc);
    standing = λ j e. cc;
    preparing = λ j e. cc;
    leading = λ j e. cc;
  };
  acks = record {
    later = λ t j lt. refl;
    within = λ t j. omega arith;
    held = λ t j i e. cc;
    shown = λ a none. absurd none;
    need = λ a i. omega arith;
  };
  core = record {
    led = λ t u n lt o. absurd (start_closed F t n o);
    preparing = λ t n u e. cc;
    ballots = λ t u n j c lt o. absurd (start_closed F t n o);
    stored = λ t n j le live. stores_none _ _ _ n _ refl (λ i e. cc);
    shown = λ a none. absurd none;
  };
  commits = record {
    counted = λ t lt. absurd (omega arith);
    base = λ t lt. absurd (omega arith);
    commit = λ j. (0, omega arith, omega arith, agree_none _ _);
    silent = λ t e. (refl, refl);
    leading = λ j e. cc;
  };
  cuts = λ cut none. absurd none;
}

pub sound_after : (F : ℕ) (h : History) (move : Move) → Allowed F h move → Sound F h → Sound F (after h move)
sound_after F h (Raise j t) a s = raise_keeps F h j t a s
sound_after F h (Stand j) a s = stand_keeps F h j s
sound_after F h (Cast j c) a s = cast_keeps F h j c a s
sound_after F h (Win u) a s = win_keeps F h u a s
sound_after F h (Rebuild j log) a s = rebuild_keeps F h j log a s
sound_after F h (Begin u log) a s = begin_keeps F h u log a s
sound_after F h (Propose u log need) a s = propose_keeps F h u log need a s
sound_after F h (Accept j log) a s = accept_keeps F h j log a s
sound_after F h (Acknowledge j reach whole) a s = ack_keeps F h j reach whole a s
sound_after F h (Answer j from) a s = answer_keeps F h j from s
sound_after F h (Decide u n) a s = decide_keeps F h u n a s
sound_after F h (Learn j n) a s = learn_keeps F h j n a s
sound_after F h (Restart j) a s = restart_keeps F h j s

pub sound_kept : (F : ℕ) (g h : History) → Moves F g h → Sound F g → Sound F h
sound_kept F g h None_yet s = s
sound_kept F g h (Then h2 move allowed run) s = sound_after F h2 move allowed (sound_kept F g h2 run s)

pub sound_reached : (F : ℕ) (h : History) → Reached F h → Sound F h
sound_reached F h run = sound_kept F start h run (start_sound F)

-- runs compose
pub moves_trans : (F : ℕ) (g h k : History) → Moves F g h → Moves F h k → Moves F g k
moves_trans F g h k first None_yet = first
moves_trans F g h k first (Then h2 move allowed run) = Then h2 move allowed (moves_trans F g h h2 first run)
