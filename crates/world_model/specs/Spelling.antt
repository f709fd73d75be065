-- How numbers, events and schedules are spelled, by cases on their bytes.
use Rattle.std.specs.Prelude.{◌≡◌, ◌≢◌, ℕ, ◌+◌, ◌*◌, ◌^◌, ◌<◌, ◌≤◌, List, [], ◌∷◌, ◌++◌, length, codes, Bool, true, false}
use Rattle.std.specs.List.{join_with_byte}
use Rattle.craft_base.specs.Shape.{Shape, members_of}
use Rattle.craft_base.specs.declared.command.Op.{Op}
use Rattle.craft_base.specs.declared.command.Op.TheVariants as ops
use Rattle.world_model.specs.Calls.{IsRequest}
use Rattle.world_model.specs.Lines.{bytes_word}
use Rattle.world_model.specs.Schedule.{most_lines, longest_line}
use Rattle.world_model.specs.declared.line.Inner.{Inner}
use Rattle.world_model.specs.declared.line.Inner.TheVariants.{Tick, Take, Call}
use Rattle.world_model.specs.declared.line.Line.{Line}
use Rattle.world_model.specs.declared.line.Line.TheVariants.{Do, Down, Up, Show, Stop}

-- digits, and the number that they make: a digit counts ten times what it would count one place further right
abbrev pub AreDigits : List ℕ → ℕ → Type 0
AreDigits [] n = n ≡ 0
AreDigits (byte ∷ bytes) n =
    (digit : ℕ) × (rest : ℕ) × (digit < 10) × (byte ≡ 48 + digit) × AreDigits bytes rest × (n ≡ digit * 10 ^ length bytes + rest)

-- a number as a word: one digit, or several of which the first isn't 0, that make less than 2^64. There is no sign.
abbrev pub IsNumber : List ℕ → ℕ → Type 0
IsNumber [] n = ⊥
IsNumber (byte ∷ []) n = (n < 10) × (byte ≡ 48 + n)
IsNumber (byte ∷ next ∷ bytes) n = (byte ≢ 48) × AreDigits (byte ∷ next ∷ bytes) n × (n < 2 ^ 64)

-- words between single blanks
abbrev pub spaced : List (List ℕ) → List ℕ
spaced words = join_with_byte 32 words

-- the word of what a request does: its name, and behind `putif=` the version that it expects. There is none for a Noop.
abbrev pub SpellsOp : List ℕ → Op → Type 0
SpellsOp word ops.Noop = ⊥
SpellsOp word ops.Put = word ≡ codes "put"
SpellsOp word (ops.PutIf version) = (n : List ℕ) × IsNumber n version × (word ≡ codes "putif=" ++ n)
SpellsOp word ops.Del = word ≡ codes "del"
SpellsOp word ops.Get = word ≡ codes "get"

-- what is to happen to a member as a line, without its line feed: `tick i word`, `take m` or `call i client seq op key value`
abbrev pub SpellsInner : List ℕ → Inner → Type 0
SpellsInner line (Tick member word) =
    (i : List ℕ) × (w : List ℕ) × IsNumber i member × IsNumber w word × (line ≡ spaced (codes "tick" ∷ i ∷ w ∷ []))
SpellsInner line (Take frame) = (m : List ℕ) × IsNumber m frame × (line ≡ spaced (codes "take" ∷ m ∷ []))
SpellsInner line (Call member request) =
    (i : List ℕ) × (c : List ℕ) × (s : List ℕ) × (o : List ℕ)
    × IsNumber i member × IsNumber c request.client × IsNumber s request.seq × SpellsOp o request.op
    × (line ≡ spaced (codes "call" ∷ i ∷ c ∷ s ∷ o ∷ bytes_word request.key ∷ bytes_word request.value ∷ []))

-- it is in range: the member is one of the cluster's, frames are numbered from 1, and a request is one that a client can ask for
abbrev pub IsInnerOf : Shape → Inner → Type 0
IsInnerOf shape (Tick member word) = (member < members_of shape) × (member < 2 ^ 64) × (word < 2 ^ 64)
IsInnerOf shape (Take frame) = (1 ≤ frame) × (frame < 2 ^ 64)
IsInnerOf shape (Call member request) = (member < members_of shape) × (member < 2 ^ 64) × IsRequest request

-- a word and a member
abbrev pub SpellsMember : List ℕ → List ℕ → ℕ → Type 0
SpellsMember word text member = (i : List ℕ) × IsNumber i member × (text ≡ spaced (word ∷ i ∷ []))

-- whether what is pending is kept, as a digit
abbrev pub keep_word : Bool → List ℕ
keep_word false = codes "0"
keep_word true = codes "1"

-- the text of a line: what is to happen, `down i`, `up i`, `show i`, or `stop c b e`
abbrev pub SpellsLine : List ℕ → Line → Type 0
SpellsLine text (Do inner) = SpellsInner text inner
SpellsLine text (Down member) = SpellsMember (codes "down") text member
SpellsLine text (Up member) = SpellsMember (codes "up") text member
SpellsLine text (Show member) = SpellsMember (codes "show") text member
SpellsLine text (Stop call keep inner) =
    (c : List ℕ) × (e : List ℕ) × IsNumber c call × SpellsInner e inner × (text ≡ spaced (codes "stop" ∷ c ∷ keep_word keep ∷ e ∷ []))

-- the member is one of the cluster's
abbrev pub IsMemberOf : Shape → ℕ → Type 0
IsMemberOf shape member = (member < members_of shape) × (member < 2 ^ 64)

-- the ranges of a line's numbers: a stop is in the first to the fourth device call
abbrev pub IsLineOf : Shape → Line → Type 0
IsLineOf shape (Do inner) = IsInnerOf shape inner
IsLineOf shape (Down member) = IsMemberOf shape member
IsLineOf shape (Up member) = IsMemberOf shape member
IsLineOf shape (Show member) = IsMemberOf shape member
IsLineOf shape (Stop call keep inner) = (1 ≤ call) × (call ≤ 4) × IsInnerOf shape inner

-- a good line with that number, without its line feed, which counts in its length
abbrev pub IsGoodLine : Shape → ℕ → List ℕ → Line → Type 0
IsGoodLine shape number line event =
    SpellsLine line event × IsLineOf shape event × (length line + 1 ≤ longest_line) × (number ≤ most_lines)

-- the bytes are good lines that spell these events, each with its line feed, and then the rest; the first line has that number
abbrev pub AreLines : Shape → ℕ → List ℕ → List Line → List ℕ → Type 0
AreLines shape number bytes [] rest = bytes ≡ rest
AreLines shape number bytes (event ∷ events) rest =
    (line : List ℕ) × (after : List ℕ) × (bytes ≡ line ++ 10 ∷ after) × IsGoodLine shape number line event
    × AreLines shape (number + 1) after events rest

-- the bytes don't end before the line with that number, and no good line begins there
abbrev pub IsBadFrom : Shape → ℕ → List ℕ → Type 0
IsBadFrom shape number bytes =
    (bytes ≢ []) × ((line after : List ℕ) (event : Line) → bytes ≡ line ++ 10 ∷ after → IsGoodLine shape number line event → ⊥)

-- every line is good, and these are their events
abbrev pub IsAllGood : Shape → List ℕ → List Line → Type 0
IsAllGood shape bytes events = AreLines shape 1 bytes events []

-- line n is the first that isn't good, and these are the events of the lines before it
abbrev pub IsFirstBad : Shape → List ℕ → List Line → ℕ → Type 0
IsFirstBad shape bytes events n = (rest : List ℕ) × AreLines shape 1 bytes events rest × (n ≡ length events + 1) × IsBadFrom shape n rest
