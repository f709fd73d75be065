-- A storm: a schedule that a number makes. Each of its lines is made of three words of SplitMix64, of the line's number and of how
-- many frames were sent before it. All divisions are of whole numbers, rounded down.
use Rattle.std.specs.Prelude.{ℕ, ◌+◌, ◌-◌, ◌/◌, ◌%◌, ◌≤◌, List, [], ◌∷◌, replicate, ◌==◌, nat_lt, min, if◌then◌else◌}
use Rattle.rand_xoshiro.specs.SplitMix64.{mix_u64}
use Rattle.craft_base.specs.Shape.{Shape, members_of}
use Rattle.craft_base.specs.declared.command.Op.{Op}
use Rattle.craft_base.specs.declared.command.Op.TheVariants as ops
use Rattle.craft_base.specs.declared.command.Request.{Request}
use Rattle.world_model.specs.declared.line.Inner.{Inner}
use Rattle.world_model.specs.declared.line.Inner.TheVariants.{Tick, Take, Call}
use Rattle.world_model.specs.declared.line.Line.{Line}
use Rattle.world_model.specs.declared.line.Line.TheVariants.{Do, Down, Up, Stop}

-- what a storm stands for: the cluster that it is for, and the state of its words, which begins as the seed
pub record Storm : Type 0 where
  pub shape : Shape
  pub state : ℕ

-- ---- what happens to a member

-- time passes at the member, which is given one of 8 words
abbrev pub tick_by : (member word : ℕ) → Inner
tick_by member word = Tick member (word % 8)

-- one of the newest 64 frames is delivered, counted back from the last; where none was sent, time passes
abbrev pub take_by : (member sent word : ℕ) → Inner
take_by member sent word = if sent == 0 then tick_by member word else Take (sent - word % min sent 64)

-- one of the four operations that a client can ask for; a conditional write expects that the key is absent
abbrev pub op_by : (choice : ℕ) → Op
op_by choice =
    if choice == 0 then ops.Put else if choice == 1 then ops.PutIf 0 else if choice == 2 then ops.Del else ops.Get

-- the value that goes with an operation: where one is set, one byte that many times
abbrev pub value_by : Op → (count byte : ℕ) → List ℕ
value_by ops.Put count byte = replicate count byte
value_by (ops.PutIf version) count byte = replicate count byte
value_by _ count byte = []

-- what client 1 to 4 asks for on line n: the key is one letter, `a` to `h`, and the value 0 to 63 bytes
abbrev pub request_by : (n word : ℕ) → Request
request_by n word = record {
  client = 1 + word % 4;
  seq = n;
  op = op_by (word / 4 % 4);
  key = (97 + word / 16 % 8) ∷ [];
  value = value_by (op_by (word / 4 % 4)) (word / 128 % 64) (n % 256);
}

-- the machine stops as time passes at the member, in one of the four device calls; what is pending is kept or spoiled
abbrev pub stop_by : (member word : ℕ) → Line
stop_by member word = Stop (1 + word % 4) (word / 4 % 2 == 1) (tick_by member (word / 8))

-- ---- lines

-- of 100 choices, 30 are a tick, 60 a take, 5 a call, 1 takes the member down, 3 start it and 1 stops it
abbrev pub line_by : (choice member n sent word : ℕ) → Line
line_by choice member n sent word =
    if nat_lt choice 30 then Do (tick_by member word)
    else if nat_lt choice 90 then Do (take_by member sent word)
    else if nat_lt choice 95 then Do (Call member (request_by n word))
    else if choice == 95 then Down member
    else if nat_lt choice 99 then Up member
    else stop_by member word

-- the next word of a state, and the state behind it
abbrev pub word_of : ℕ → ℕ
word_of state = (mix_u64 state).0

abbrev pub behind : ℕ → ℕ
behind state = (mix_u64 state).1

-- line n of a storm before which that many frames were sent: the first word chooses what happens, the second to whom, and the
-- third the rest
abbrev pub next_line : Storm → (n sent : ℕ) → Line
next_line storm n sent =
    line_by (word_of storm.state % 100) (word_of (behind storm.state) % members_of storm.shape) n sent
    (word_of (behind (behind storm.state)))

-- the storm behind a line: three words are used
abbrev pub after_line : Storm → Storm
after_line storm = record storm { state = behind (behind (behind storm.state)) }

-- ---- what holds of it

-- a frame that is delivered was sent, and at most 63 were sent after it
abbrev pub IsOneOfNewest : (sent : ℕ) → Inner → Type 0
IsOneOfNewest sent (Take frame) = (frame ≤ sent) × (sent ≤ frame + 63)
IsOneOfNewest sent _ = Unit {0}

-- the same of a line, which may stop the machine in what it asks for
abbrev pub TakesOneOfNewest : (sent : ℕ) → Line → Type 0
TakesOneOfNewest sent (Do inner) = IsOneOfNewest sent inner
TakesOneOfNewest sent (Stop call keep inner) = IsOneOfNewest sent inner
TakesOneOfNewest sent _ = Unit {0}
