-- What stands where in a stretch of a log, and in a log with more behind it.
use Rattle.std.proofs.Common.{◌≡◌, ℕ, zero, suc, ◌+◌, ◌<◌, List, [], ◌∷◌, ◌++◌, length, drop, slice_get, ap, refl, arith}
use Rattle.protocol.specs.Logs.{Slot, term_of, is_whole, slot_at, term_at, whole_at}

get-drop : (n : ℕ) (log : List Slot) (k m : ℕ) → m ≡ n + k → slice_get (drop n log) k ≡ slice_get log m
get-drop zero log k m e = ap (slice_get log) (omega (arith, e))
get-drop (suc n) [] k m e = refl
get-drop (suc n) (slot ∷ log) k zero e = absurd (omega (arith, e))
get-drop (suc n) (slot ∷ log) k (suc m) e = get-drop n log k m (omega (arith, e))

get-behind : (log more : List Slot) (k m : ℕ) → m ≡ length log + k → slice_get (log ++ more) m ≡ slice_get more k
get-behind [] more k m e = ap (slice_get more) (omega (arith, e))
get-behind (slot ∷ log) more k zero e = absurd (omega (arith, e))
get-behind (slot ∷ log) more k (suc m) e = get-behind log more k m (omega (arith, e))

slot_at-drop : (n : ℕ) (log : List Slot) (k i : ℕ) → 0 < k → i ≡ n + k → slot_at (drop n log) k ≡ slot_at log i
slot_at-drop n log zero i from e = absurd (omega (arith, from))
slot_at-drop n log (suc k) zero from e = absurd (omega (arith, e))
slot_at-drop n log (suc k) (suc i) from e = get-drop n log k i (omega (arith, e))

slot_at-behind : (log more : List Slot) (k i : ℕ) → 0 < k → i ≡ length log + k → slot_at (log ++ more) i ≡ slot_at more k
slot_at-behind log more zero i from e = absurd (omega (arith, from))
slot_at-behind log more (suc k) zero from e = absurd (omega (arith, e))
slot_at-behind log more (suc k) (suc i) from e = get-behind log more k i (omega (arith, e))

-- a log without its first n entries has at k what the log has at n + k
pub term_at-drop : (n : ℕ) (log : List Slot) (k i : ℕ) → 0 < k → i ≡ n + k → term_at (drop n log) k ≡ term_at log i
unfolding term_at
term_at-drop n log k i from e = ap term_of (slot_at-drop n log k i from e)

pub whole_at-drop : (n : ℕ) (log : List Slot) (k i : ℕ) → 0 < k → i ≡ n + k → whole_at (drop n log) k ≡ whole_at log i
unfolding whole_at
whole_at-drop n log k i from e = ap is_whole (slot_at-drop n log k i from e)

-- behind a log stand the entries that were added, in order
pub term_at-behind : (log more : List Slot) (k i : ℕ) → 0 < k → i ≡ length log + k → term_at (log ++ more) i ≡ term_at more k
unfolding term_at
term_at-behind log more k i from e = ap term_of (slot_at-behind log more k i from e)
