-- Runs of three members, two of whose fragments rebuild a value: in one an entry is committed of which two members hold a fragment each,
-- in one a member prepares.
use Rattle.std.proofs.Common.{ℕ, zero, suc, ◌<◌, ◌≤◌, List, [], ◌∷◌, slice_index, refl, arith}
use Rattle.std.specs.List.{All}
use Rattle.std.proofs.lemmas.Bool.{true≢false}
use Rattle.std.proofs.lemmas.List.Elements.{All-nil, All-cons}
use Rattle.craft_base.specs.declared.command.Op.TheVariants.{Put}
use Rattle.craft_base.specs.declared.command.Request.{Request}
use Rattle.entry_frames.specs.Formats.{AreBytes}
use Rattle.world_model.specs.Calls.{IsRequest}
use Rattle.world_model.specs.Safety.{IsRun}
use Rattle.world_model.specs.Spelling.{IsLineOf}
use Rattle.world_model.specs.declared.line.Inner.TheVariants.{Tick, Take, Call}
use Rattle.world_model.specs.declared.line.Line.{Line}
use Rattle.world_model.specs.declared.line.Line.TheVariants.{Do, Down}
use Rattle.world_laws.specs.Examples.{SomeRunCommitsParts, SomeRunPrepares, pairs}

-- lines in range
record InRange (events : List Line) : Type 0 where
  pub all : All (IsLineOf pairs) events

no_more : InRange []
no_more = record { all = All-nil (IsLineOf pairs) }

ticks : {events : List Line} (member : ℕ) → member < 3 → InRange events → InRange (Do (Tick member 0) ∷ events)
ticks {events = events} member lt rest = record { all = All-cons (IsLineOf pairs) (Do (Tick member 0)) events (lt, omega arith, omega arith) rest.all }

takes : {events : List Line} (frame : ℕ) → 1 ≤ frame → frame ≤ 100 → InRange events → InRange (Do (Take frame) ∷ events)
takes {events = events} frame from le rest = record { all = All-cons (IsLineOf pairs) (Do (Take frame)) events (from, omega (arith, le)) rest.all }

runs : {events : List Line} → InRange events → IsRun pairs events
runs r = record { of_shape = (omega arith, omega arith, omega arith, omega arith); in_range = r.all }

one_byte : (byte : ℕ) → byte < 256 → {bytes : List ℕ} → AreBytes bytes → AreBytes (byte ∷ bytes)
one_byte byte lt {bytes = bytes} are = record { each = at } where
  at : (i : ℕ) → slice_index (byte ∷ bytes) i < 256
  at zero = lt
  at (suc i) = are.each i

no_bytes : AreBytes []
no_bytes = record { each = λ i. omega arith }

-- client 7 sets the key 97 to two bytes
abbrev sets : Request
sets = record { client = 7; seq = 1; op = Put; key = 97 ∷ []; value = 1 ∷ 2 ∷ [] }

sets_in_range : IsRequest sets
sets_in_range = record {
  client = (omega arith, omega arith);
  seq = (omega arith, omega arith);
  asked = refl;
  expected = omega arith;
  key = (omega arith, omega arith);
  value = omega arith;
  sets = λ none. absurd (true≢false none);
  key_bytes = one_byte 97 (omega arith) no_bytes;
  value_bytes = one_byte 1 (omega arith) (one_byte 2 (omega arith) no_bytes);
}

calls : {events : List Line} → InRange events → InRange (Do (Call 0 sets) ∷ events)
calls {events = events} rest = record { all = All-cons (IsLineOf pairs) (Do (Call 0 sets)) events (omega arith, omega arith, sets_in_range) rest.all }

downs : {events : List Line} → InRange events → InRange (Down 0 ∷ events)
downs {events = events} rest = record { all = All-cons (IsLineOf pairs) (Down 0) events (omega arith) rest.all }

-- Member 0 is elected by both others, both take its empty entry, and it hears so. It adds a put, whose fragments both others take.
abbrev sent_in_parts : List Line → List Line
sent_in_parts rest =
    Do (Tick 0 0) ∷ Do (Tick 0 0) ∷ Do (Tick 0 0) ∷ Do (Take 1) ∷ Do (Take 2) ∷ Do (Take 3) ∷ Do (Take 4) ∷ Do (Take 5) ∷ Do (Take 6) ∷ Do (Take 7)
    ∷ Do (Take 8) ∷ Do (Call 0 sets) ∷ Do (Take 9) ∷ Do (Take 10) ∷ rest

sent_in_range : {rest : List Line} → InRange rest → InRange (sent_in_parts rest)
sent_in_range r =
    ticks 0 (omega arith) (ticks 0 (omega arith) (ticks 0 (omega arith)
    (takes 1 (omega arith) (omega arith) (takes 2 (omega arith) (omega arith) (takes 3 (omega arith) (omega arith) (takes 4 (omega arith) (omega arith)
    (takes 5 (omega arith) (omega arith) (takes 6 (omega arith) (omega arith) (takes 7 (omega arith) (omega arith) (takes 8 (omega arith) (omega arith)
    (calls (takes 9 (omega arith) (omega arith) (takes 10 (omega arith) (omega arith) r)))))))))))))

-- It hears that they did, and commits it.
pub some_run_commits_parts : SomeRunCommitsParts
some_run_commits_parts = (
  sent_in_parts (Do (Take 11) ∷ Do (Take 12) ∷ []),
  _,
  _,
  _,
  _,
  _,
  runs (sent_in_range (takes 11 (omega arith) (omega arith) (takes 12 (omega arith) (omega arith) no_more))),
  refl,
  refl,
  refl,
  refl,
  refl,
  refl,
  refl,
)

-- Or it goes down, and member 1 is elected by member 2.
pub some_run_prepares : SomeRunPrepares
some_run_prepares = (
  sent_in_parts (Down 0 ∷ Do (Tick 1 0) ∷ Do (Tick 1 0) ∷ Do (Tick 1 0) ∷ Do (Take 14) ∷ Do (Take 15) ∷ []),
  _,
  runs (sent_in_range (downs (ticks 1 (omega arith) (ticks 1 (omega arith) (ticks 1 (omega arith)
      (takes 14 (omega arith) (omega arith) (takes 15 (omega arith) (omega arith) no_more))))))),
  refl,
  refl,
  refl,
)
