-- The order of time: what a client was told before a request was first taken stands before that request in the list of commands.
use Rattle.std.specs.Prelude.{◌≡◌, ℕ, ◌<◌, true, List, take, Some, slice_get}
use Rattle.craft_base.specs.declared.command.Reply.{Reply}
use Rattle.craft_base.specs.declared.command.Reply.TheVariants.{Done, Differs, Gone, Value, Nothing}
use Rattle.kv_apply.specs.Commands.{is_effective, is_of, outcome, told}
use Rattle.world_model.specs.Safety.{IsIn, heads_in, value_in}
use Rattle.world_model.specs.Traces.{Command, Proposal, Replied}
use Rattle.world_model.specs.World.{World}

-- the replies that tell what a request came to
abbrev pub TellsOutcome : Reply → Type 0
TellsOutcome (Done version) = Unit {0}
TellsOutcome (Differs version) = Unit {0}
TellsOutcome (Gone was_there) = Unit {0}
TellsOutcome (Value version value) = Unit {0}
TellsOutcome Nothing = Unit {0}
TellsOutcome _ = ⊥

-- ---- where a command stands

-- the command at that place of the list is one of that client with that number
pub record IsRequestAt (commands : List Command) (client seq place : ℕ) : Type 0 where
  pub command : Command
  pub here : slice_get commands place ≡ Some command
  pub of : is_of client command.head ≡ true
  pub number : command.head.seq ≡ seq

-- and it takes effect behind those before it
pub record IsEffectiveAt (commands : List Command) (client seq place : ℕ) : Type 0 where
  pub request : IsRequestAt commands client seq place
  pub effective : is_effective (request.command).head (heads_in (take place commands)) ≡ true

-- the reply is what the command there comes to, in the map that took the commands before it
pub record IsToldAt (commands : List Command) (client seq place : ℕ) (reply : Reply) : Type 0 where
  pub at : IsEffectiveAt commands client seq place
  pub tells : reply ≡ told (value_in commands) (outcome (at.request).command.head (heads_in (take place commands)))

-- ---- when a request was taken

-- no entry was proposed for the request of that client with that number up to that event
abbrev pub IsTakenAfter : List Proposal → (event client seq : ℕ) → Type 0
IsTakenAfter book event client seq =
    (p : Proposal) → IsIn p book → is_of client p.command.head ≡ true → p.command.head.seq ≡ seq → event < p.event

-- ---- the law

-- a reply that tells what a request came to, told before the request of that client with that number was first taken
pub record IsToldBefore (w : World) (r : Replied) (client seq : ℕ) : Type 0 where
  pub among : IsIn r w.replies
  pub tells : TellsOutcome r.reply
  pub after : IsTakenAfter w.book r.event client seq

-- such a reply is told of the effective command of its client with its number, which stands at some place
abbrev pub EachToldAt : World → List Command → Type 0
EachToldAt w commands =
    (r : Replied) → IsIn r w.replies → TellsOutcome r.reply → (place : ℕ) × IsToldAt commands r.client r.seq place r.reply

-- each command of a request that was first taken after the reply stands above that place
abbrev pub LaterStandAbove : World → List Command → Type 0
LaterStandAbove w commands =
    (r : Replied) (client seq : ℕ) → IsToldBefore w r client seq → (place later : ℕ) → IsEffectiveAt commands r.client r.seq place →
    IsRequestAt commands client seq later → place < later

-- two replies are told at places of which the first is below the second
pub record AreToldInOrder (commands : List Command) (one other : Replied) : Type 0 where
  pub place : ℕ
  pub later : ℕ
  pub first : IsToldAt commands one.client one.seq place one.reply
  pub second : IsToldAt commands other.client other.seq later other.reply
  pub below : place < later

-- so the reply to a request that was first taken after another reply counts what the command did that the other tells of
abbrev pub LaterCount : World → List Command → Type 0
LaterCount w commands =
    (one other : Replied) → IsToldBefore w one other.client other.seq → IsIn other w.replies → TellsOutcome other.reply →
    AreToldInOrder commands one other

-- the order of time is kept, where these commands are committed
pub record IsOrdered (w : World) (commands : List Command) : Type 0 where
  pub each : EachToldAt w commands
  pub above : LaterStandAbove w commands
  pub counts : LaterCount w commands
