-- Runs of three members: in one a member is elected, in one an entry is committed, in one an entry is removed, in one a client is
-- answered.
use Rattle.std.proofs.Common.{◌≡◌, ℕ, zero, suc, ◌<◌, ◌≤◌, ◌&&◌, ◌||◌, ◌==◌, nat_lt, not, Bool, true, List, [], ◌∷◌, slice_index, refl, sym, ap, subst, ◌∙◌, inl, inr, arith}
use Rattle.std.specs.List.{All}
use Rattle.std.proofs.lemmas.Bool.{and_from, and_parts, eq-eqb, ltb-true, true≢false}
use Rattle.std.proofs.lemmas.List.Elements.{All-nil, All-cons}
use Rattle.craft_base.specs.declared.command.Op.{Op}
use Rattle.craft_base.specs.declared.command.Op.TheVariants.{Put, Get}
use Rattle.craft_base.specs.declared.command.Request.{Request}
use Rattle.entry_frames.specs.Formats.{AreBytes}
use Rattle.kv_apply.specs.Commands.{is_of}
use Rattle.world_model.specs.Calls.{IsRequest}
use Rattle.world_model.specs.Order.{IsTakenAfter}
use Rattle.world_model.specs.Rules.Call.{entry_for}
use Rattle.world_model.specs.Rules.Prepare.{noop}
use Rattle.world_model.specs.Safety.{IsRun}
use Rattle.world_model.specs.Spelling.{IsLineOf}
use Rattle.world_model.specs.Traces.{Proposal, command_of}
use Rattle.world_model.specs.World.{run}
use Rattle.world_model.specs.declared.line.Inner.TheVariants.{Tick, Take, Call}
use Rattle.world_model.specs.declared.line.Line.{Line}
use Rattle.world_model.specs.declared.line.Line.TheVariants.{Do}
use Rattle.bridge.specs.Laws.{SomeRunAnswers, SomeRunCommits, SomeRunElects, SomeRunRemoves, three}

-- lines in range
record InRange (events : List Line) : Type 0 where
  pub all : All (IsLineOf three) events

no_more : InRange []
no_more = record { all = All-nil (IsLineOf three) }

ticks : {events : List Line} (member : ℕ) → member < 3 → InRange events → InRange (Do (Tick member 0) ∷ events)
ticks {events = events} member lt rest = record { all = All-cons (IsLineOf three) (Do (Tick member 0)) events (lt, omega arith, omega arith) rest.all }

takes : {events : List Line} (frame : ℕ) → 1 ≤ frame → frame ≤ 100 → InRange events → InRange (Do (Take frame) ∷ events)
takes {events = events} frame from le rest = record { all = All-cons (IsLineOf three) (Do (Take frame)) events (from, omega (arith, le)) rest.all }

runs : {events : List Line} → InRange events → IsRun three events
runs r = record { of_shape = (omega arith, omega arith, omega arith, omega arith); in_range = r.all }

-- member 0 is quiet for three ticks and asks for votes, and a vote that member 1 grants comes
abbrev election : List Line → List Line
election rest = Do (Tick 0 0) ∷ Do (Tick 0 0) ∷ Do (Tick 0 0) ∷ Do (Take 1) ∷ Do (Take 3) ∷ rest

elects : {rest : List Line} → InRange rest → InRange (election rest)
elects r =
    ticks 0 (omega arith) (ticks 0 (omega arith) (ticks 0 (omega arith) (takes 1 (omega arith) (omega arith) (takes 3 (omega arith) (omega arith) r))))

pub some_run_elects : SomeRunElects
some_run_elects = (election [], runs (elects no_more), (5, (tt, refl)))

-- member 1 is quiet for three ticks and asks for votes
abbrev quiet_again : List Line → List Line
quiet_again rest = Do (Tick 1 0) ∷ Do (Tick 1 0) ∷ Do (Tick 1 0) ∷ rest

asks_again : {rest : List Line} → InRange rest → InRange (quiet_again rest)
asks_again r = ticks 1 (omega arith) (ticks 1 (omega arith) (ticks 1 (omega arith) r))

-- Member 1 takes the leader's empty entry, and the leader hears that it did and commits it. Then member 1 is elected by member 2;
-- member 0 takes its entries, and member 1 hears that it did and commits both.
abbrev two_terms : List Line
two_terms = election (Do (Take 4) ∷ Do (Take 6) ∷ quiet_again (Do (Take 8) ∷ Do (Take 9) ∷ Do (Take 10) ∷ Do (Take 12) ∷ []))

two_terms_in_range : InRange two_terms
two_terms_in_range =
    elects (takes 4 (omega arith) (omega arith) (takes 6 (omega arith) (omega arith) (asks_again
    (takes 8 (omega arith) (omega arith) (takes 9 (omega arith) (omega arith) (takes 10 (omega arith) (omega arith) (takes 12 (omega arith) (omega arith) no_more)))))))

pub some_run_commits : SomeRunCommits
some_run_commits = (two_terms, _, _, _, _, runs two_terms_in_range, refl, refl, refl, refl, refl, refl, refl, refl)

-- or nobody takes it: member 1 is elected by member 2, and member 0 takes its entry in place of its own
abbrev second : List Line
second = quiet_again (Do (Take 7) ∷ Do (Take 8) ∷ Do (Take 9) ∷ Do (Take 11) ∷ [])

second_in_range : InRange second
second_in_range =
    asks_again
    (takes 7 (omega arith) (omega arith) (takes 8 (omega arith) (omega arith) (takes 9 (omega arith) (omega arith) (takes 11 (omega arith) (omega arith) no_more))))

pub some_run_removes : SomeRunRemoves
some_run_removes =
    (election second, _, _, _, _, runs (elects second_in_range), inl refl, inl refl, omega arith, refl, refl, λ e. absurd (omega (arith, e)))

-- ---- a client

-- what client 7 asks for, of one key
abbrev asks : (seq : ℕ) → Op → List ℕ → Request
asks seq op value = record { client = 7; seq = seq; op = op; key = 97 ∷ []; value = value }

one_byte : (byte : ℕ) → byte < 256 → {bytes : List ℕ} → AreBytes bytes → AreBytes (byte ∷ bytes)
one_byte byte lt {bytes = bytes} are = record { each = at } where
  at : (i : ℕ) → slice_index (byte ∷ bytes) i < 256
  at zero = lt
  at (suc i) = are.each i

no_bytes : AreBytes []
no_bytes = record { each = λ i. omega arith }

-- whatever it asks for, with no value, or with two bytes where one is set
put_in_range : IsRequest (asks 1 Put (1 ∷ 2 ∷ []))
put_in_range = record {
  client = (omega arith, omega arith);
  seq = (omega arith, omega arith);
  asked = refl;
  expected = omega arith;
  key = (omega arith, omega arith);
  value = omega arith;
  sets = λ none. absurd (true≢false none);
  key_bytes = one_byte 97 (omega arith) no_bytes;
  value_bytes = one_byte 1 (omega arith) (one_byte 2 (omega arith) no_bytes);
}

get_in_range : IsRequest (asks 2 Get [])
get_in_range = record {
  client = (omega arith, omega arith);
  seq = (omega arith, omega arith);
  asked = refl;
  expected = omega arith;
  key = (omega arith, omega arith);
  value = omega arith;
  sets = λ none. refl;
  key_bytes = one_byte 97 (omega arith) no_bytes;
  value_bytes = no_bytes;
}

calls : {events : List Line} (request : Request) → IsRequest request → InRange events → InRange (Do (Call 0 request) ∷ events)
calls {events = events} request is rest =
    record { all = All-cons (IsLineOf three) (Do (Call 0 request)) events (omega arith, omega arith, is) rest.all }

-- Member 0 is elected, and member 1 takes its empty entry. It adds a put; member 1 takes it, and it is committed. It adds a get, which
-- member 1 takes too. The put is asked again.
abbrev clients : List Line
clients = election
    (Do (Call 0 (asks 1 Put (1 ∷ 2 ∷ []))) ∷ Do (Take 4) ∷ Do (Take 6) ∷ Do (Take 7) ∷ Do (Take 8) ∷ Do (Call 0 (asks 2 Get [])) ∷ Do (Take 9) ∷ Do (Take 10)
    ∷ Do (Call 0 (asks 1 Put (1 ∷ 2 ∷ []))) ∷ [])

clients_in_range : InRange clients
clients_in_range =
    elects (calls (asks 1 Put (1 ∷ 2 ∷ [])) put_in_range
    (takes 4 (omega arith) (omega arith) (takes 6 (omega arith) (omega arith) (takes 7 (omega arith) (omega arith) (takes 8 (omega arith) (omega arith)
    (calls (asks 2 Get []) get_in_range (takes 9 (omega arith) (omega arith) (takes 10 (omega arith) (omega arith)
    (calls (asks 1 Put (1 ∷ 2 ∷ [])) put_in_range no_more)))))))))

-- whether a proposal is of another request, or of a later event
abbrev is_after : (event client seq : ℕ) → Proposal → Bool
is_after event client seq p = not (is_of client p.command.head && (p.command.head.seq == seq)) || nat_lt event p.event

abbrev are_after : (event client seq : ℕ) → List Proposal → Bool
are_after event client seq [] = true
are_after event client seq (p ∷ book) = is_after event client seq p && are_after event client seq book

taken_after : (event client seq : ℕ) (book : List Proposal) → are_after event client seq book ≡ true → IsTakenAfter book event client seq
taken_after event client seq [] all p among of number = absurd among
taken_after event client seq (first ∷ book) all p among of number =
    let both = and_parts (is_after event client seq first) _ all in
    elim among [
      | inl same ↦
          let here : is_after event client seq p ≡ true = ap (is_after event client seq) same ∙ both.0 in
          let asked : (is_of client p.command.head && (p.command.head.seq == seq)) ≡ true = and_from _ _ of (eq-eqb p.command.head.seq seq number) in
          ltb-true event p.event (ap (λ (test : Bool). not test || nat_lt event p.event) (sym asked) ∙ here)
      | inr later ↦ taken_after event client seq book both.1 p later of number
    ]

-- what is proposed in it: the empty entry, and the two requests
abbrev proposed : List Proposal
proposed =
    record { term = 1; index = 1; event = 5; command = command_of (noop 1) }
    ∷ record { term = 1; index = 2; event = 6; command = command_of (entry_for 1 (asks 1 Put (1 ∷ 2 ∷ []))) }
    ∷ record { term = 1; index = 3; event = 11; command = command_of (entry_for 1 (asks 2 Get [])) } ∷ []

clients_propose : (run three clients).book ≡ proposed
clients_propose = refl

-- the put was answered in event 10
get_after_put : IsTakenAfter (run three clients).book 10 7 2
get_after_put = subst (λ book. IsTakenAfter book 10 7 2) (sym clients_propose) (taken_after 10 7 2 proposed refl)

pub some_run_answers : SomeRunAnswers
some_run_answers = (clients, _, _, _, runs clients_in_range, refl, refl, refl, omega arith, refl, get_after_put, refl, refl, refl)
