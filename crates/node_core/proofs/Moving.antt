-- Whether a preparation goes on at another index.
use Rattle.std.proofs.Common.{◌≡◌, ℕ, ◌==◌, not, cond, true, false, Bool, Option, None, Some, refl}
use Rattle.std.proofs.lemmas.Bool.{true≢false, false≢true}
use Rattle.world_model.specs.Nodes.{Node}
use Rattle.world_model.specs.Rules.Acts.{stays}
use Rattle.world_model.specs.Rules.Prepare.{act_of_asking_on, act_of_later}
use Rattle.node_core.specs.Preparing.{has_moved}

by_test : (b : Bool) (cursor : ℕ) (n : Node) → not b ≡ true → cond b (stays n) (act_of_asking_on cursor n) ≡ act_of_asking_on cursor n
by_test true cursor n moved = absurd (false≢true moved)
by_test false cursor n moved = refl

by_other : (b : Bool) (cursor : ℕ) (n : Node) → not b ≡ false → cond b (stays n) (act_of_asking_on cursor n) ≡ stays n
by_other true cursor n still = refl
by_other false cursor n still = absurd (true≢false still)

pub asks_on : (before : Option ℕ) (cursor : ℕ) (n : Node) → has_moved before cursor ≡ true → act_of_later before (Some cursor) n ≡ act_of_asking_on cursor n
asks_on None cursor n moved = absurd (false≢true moved)
asks_on (Some before) cursor n moved = by_test (before == cursor) cursor n moved

pub waits_on : (before : Option ℕ) (cursor : ℕ) (n : Node) → has_moved before cursor ≡ false → act_of_later before (Some cursor) n ≡ stays n
waits_on None cursor n still = refl
waits_on (Some before) cursor n still = by_other (before == cursor) cursor n still
