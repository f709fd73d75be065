-- Logs that agree, and sound logs: log matching.
use Rattle.std.proofs.Common.{◌≡◌, ℕ, ◌<◌, ◌≤◌, Bool, true, false, List, length, refl, sym, subst, ◌∙◌, arith, le_trans, le_refl}
use Rattle.std.proofs.lemmas.Bool.{and_from, le-leb, eq-eqb}
use Rattle.protocol.specs.Counting.{put}
use Rattle.protocol.specs.Logs.{Slot, Has, Agree, Same, IsFront, Extends, has, term_at, whole_at}
use Rattle.protocol.specs.Words.{Stores}
use Rattle.protocol.specs.Invariants.{IsSound, Below}
use Rattle.protocol.proofs.Counting.{Equal, Apart, same_or_other}

pub term_at-zero : (log : List Slot) → term_at log 0 ≡ 0
unfolding term_at
term_at-zero log = refl

pub whole_at-zero : (log : List Slot) → whole_at log 0 ≡ false
unfolding whole_at
whole_at-zero log = refl

pub agree_none : (one other : List Slot) → Agree one other 0
agree_none one other = record {
  left = omega arith;
  right = omega arith;
  same = λ i le. let e : i ≡ 0 = omega arith in rw e (term_at-zero one ∙ sym (term_at-zero other));
}

pub agree_refl : (log : List Slot) (n : ℕ) → n ≤ length log → Agree log log n
agree_refl log n le = record { left = le; right = le; same = λ i h. refl }

pub agree_sym : {one other : List Slot} {n : ℕ} → Agree one other n → Agree other one n
agree_sym a = record { left = a.right; right = a.left; same = λ i h. sym (a.same i h) }

pub agree_trans : {one two three : List Slot} {n : ℕ} → Agree one two n → Agree two three n → Agree one three n
agree_trans a b = record { left = a.left; right = b.right; same = λ i h. a.same i h ∙ b.same i h }

pub agree_less : {one other : List Slot} {n : ℕ} (k : ℕ) → k ≤ n → Agree one other n → Agree one other k
agree_less k le a = record {
  left = le_trans le a.left;
  right = le_trans le a.right;
  same = λ i h. a.same i (le_trans h le);
}

-- a log agrees with what it is a beginning of
pub front_to : {one other : List Slot} (n : ℕ) → n ≤ length one → IsFront one other → Agree one other n
front_to n le a = agree_less n le a

pub has_by : {one other : List Slot} {n : ℕ} (i a : ℕ) → Agree one other n → i ≤ n → Has one i a → Has other i a
has_by i a g le h = record { from = h.from; within = le_trans le g.right; here = sym (g.same i le) ∙ h.here }

pub same_sym : {one other : List Slot} → Same one other → Same other one
same_sym {one} {other} s = record {
  long = sym s.long;
  agree = let e : length other ≡ length one = sym s.long in rw e (agree_sym s.agree);
}

pub same_refl : (log : List Slot) → Same log log
same_refl log = record { long = refl; agree = agree_refl log (length log) (le_refl _) }

pub same_trans : {one two three : List Slot} → Same one two → Same two three → Same one three
same_trans a b = record {
  long = a.long ∙ b.long;
  agree = agree_trans a.agree (let e = a.long in rw e b.agree);
}

-- what one log agrees with, the same log agrees with
pub same_agrees : {one two three : List Slot} {n : ℕ} → Same one two → Agree one three n → Agree two three n
same_agrees s a = agree_trans (agree_less _ a.left (agree_sym s.agree)) a

pub same_has : {one two : List Slot} (i a : ℕ) → Same one two → Has one i a → Has two i a
same_has i a s h = has_by i a s.agree h.within h

-- an entry of a sound log is in its term's log, with all below it
pub sound_match : {led : ℕ → List Slot} {log : List Slot} (i a : ℕ) → IsSound led log → Has log i a → Agree log (led a) i
sound_match {led} {log} i a s h =
    let e : term_at log i ≡ a = h.here in
    subst (λ (b : ℕ). Agree log (led b) i) e (s.matches i h.from h.within)

-- two sound logs with one entry in common agree up to it
pub matching :
    {led : ℕ → List Slot} {one other : List Slot} (i a : ℕ) → IsSound led one → IsSound led other →
    Has one i a → Has other i a → Agree one other i
matching i a s t h k = agree_trans (sound_match i a s h) (agree_sym (sound_match i a t k))

pub sound_front : {led : ℕ → List Slot} {one other : List Slot} → IsSound led other → IsFront one other → IsSound led one
sound_front {led} {one} {other} s f = record {
  matches = λ i from le.
      agree_trans (agree_less i le f)
      (subst (λ (b : ℕ). Agree other (led b) i) (sym (f.same i le)) (s.matches i from (le_trans le f.right)));
  rises = λ i k from ik le.
      let one_i : term_at one i ≡ term_at other i = f.same i (le_trans ik le) in
      let one_k : term_at one k ≡ term_at other k = f.same k le in
      rw (one_i, one_k) (s.rises i k from ik (le_trans le f.right));
}

pub sound_same : {led : ℕ → List Slot} {one other : List Slot} → Same one other → IsSound led one → IsSound led other
sound_same e s = sound_front s (same_sym e).agree

pub below_front : {one other : List Slot} (bound : ℕ) → Below other bound → IsFront one other → Below one bound
below_front {one} bound b f i from le = rw (f.same i le) (b i from (le_trans le f.right))

pub below_same : {one other : List Slot} (bound : ℕ) → Same one other → Below one bound → Below other bound
below_same bound e b = below_front bound b (same_sym e).agree

pub sound_extends : {old new : ℕ → List Slot} {log : List Slot} → Extends old new → IsSound old log → IsSound new log
sound_extends {log = log} x s = record {
  matches = λ i from le.
      let m = s.matches i from le in agree_trans m (agree_less i m.right (x (term_at log i)));
  rises = s.rises;
}

-- a term's log that grows extends the logs of all terms
pub extends_put : (t : ℕ) (log : List Slot) (led : ℕ → List Slot) → IsFront (led t) log → Extends led (put t log led)
extends_put t log led f u =
    elim (same_or_other u t) [ Equal e q ↦ rw (e, q) f | Apart e n ↦ rw e (agree_refl (led u) (length (led u)) (le_refl _)) ]

-- nothing was acknowledged
pub stores_none :
    (led : List Slot) (ack : ℕ) (held : ℕ → Bool) (n : ℕ) (log : List Slot) → ack ≡ 0 →
    ((i : ℕ) → held i ≡ true → (0 < i) × (i ≤ ack)) → Stores led ack held n log
stores_none led ack held n log none within = record {
  agree = λ m le lm. let e : m ≡ 0 = omega arith in rw e (agree_none log led);
  whole = λ i le h. let w : (0 < i) × (i ≤ ack) = within i h in absurd (omega arith);
}

pub stores_extends :
    {led more : List Slot} {ack n : ℕ} {held : ℕ → Bool} {log : List Slot} → IsFront led more →
    Stores led ack held n log → Stores more ack held n log
stores_extends f s = record {
  agree = λ m le lm. let a = s.agree m le lm in agree_trans a (agree_less m a.right f);
  whole = s.whole;
}

pub agree_extends :
    {old new : ℕ → List Slot} {log : List Slot} {n : ℕ} (t : ℕ) → Extends old new → Agree log (old t) n → Agree log (new t) n
agree_extends {n = n} t x a = agree_trans a (agree_less n a.right (x t))

pub both_extend :
    {old new : ℕ → List Slot} {n : ℕ} (t u : ℕ) → Extends old new → Agree (old t) (old u) n → Agree (new t) (new u) n
both_extend t u x a = agree_sym (agree_extends t x (agree_sym (agree_extends u x a)))

pub has_extends : {old new : ℕ → List Slot} (t i a : ℕ) → Extends old new → Has (old t) i a → Has (new t) i a
has_extends t i a x h = has_by i a (x t) h.within h

-- the test finds what the log has
pub has_test : (log : List Slot) (i a : ℕ) → i ≤ length log → term_at log i ≡ a → has log i a ≡ true
has_test log i a le e = and_from _ _ (le-leb i (length log) le) (eq-eqb (term_at log i) a e)
