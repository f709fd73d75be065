-- How commands are spelled, by cases on their words, and which numbers they can have.
use Rattle.std.specs.Prelude.{◌≡◌, ◌≢◌, ℕ, ◌+◌, ◌*◌, ◌^◌, ◌<◌, ◌≤◌, List, [], ◌∷◌, length, codes}
use Rattle.std.specs.List.{All, AllZip, join_with_byte}
use Rattle.craft_base.specs.Shape.{Shape, IsShape, members_of}
use Rattle.entry_frames.specs.Formats.{AreBytes}
use Rattle.command_words.specs.Places.{place_from}
use Rattle.command_words.specs.Words.{most_turns}
use Rattle.command_words.specs.declared.command.AskCommand.{AskCommand}
use Rattle.command_words.specs.declared.command.Command.{Command}
use Rattle.command_words.specs.declared.command.Command.TheVariants.{Replay, Node, Ask, Split, Join, Storm}
use Rattle.command_words.specs.declared.command.NodeCommand.{NodeCommand}
use Rattle.command_words.specs.declared.command.StormCommand.{StormCommand}
use Rattle.storm_gen.specs.declared.storm.TheConstants.{MOST_EVENTS}
use Rattle.world_model.specs.Calls.{IsRequest}
use Rattle.world_model.specs.Lines.{bytes_word}
use Rattle.world_model.specs.Spelling.{IsNumber, SpellsOp}

-- each word is one of bytes, as every text is
abbrev pub AreWords : List (List ℕ) → Type 0
AreWords words = All AreBytes words

-- ---- a place

-- a number from the least to the greatest, as a word
abbrev pub SpellsWithin : (least most : ℕ) → List ℕ → ℕ → Type 0
SpellsWithin least most word n = IsNumber word n × (least ≤ n) × (n ≤ most)

-- an address: four numbers up to 255, with points between them
abbrev pub SpellsAddress : List ℕ → (a b c d : ℕ) → Type 0
SpellsAddress word a b c d =
    (p : List ℕ) × (q : List ℕ) × (r : List ℕ) × (s : List ℕ)
    × SpellsWithin 0 255 p a × SpellsWithin 0 255 q b × SpellsWithin 0 255 r c × SpellsWithin 0 255 s d
    × (word ≡ join_with_byte 46 (p ∷ q ∷ r ∷ s ∷ []))

-- `a.b.c.d:port`: an address, a colon, and a port from 1 on
abbrev pub SpellsPlace : List ℕ → ℕ → Type 0
SpellsPlace word place =
    (a : ℕ) × (b : ℕ) × (c : ℕ) × (d : ℕ) × (port : ℕ) × (h : List ℕ) × (p : List ℕ)
    × SpellsAddress h a b c d × SpellsWithin 1 65535 p port
    × (word ≡ join_with_byte 58 (h ∷ p ∷ [])) × (place ≡ place_from a b c d port)

-- a place is one of an address of 32 bits and a port from 1 on
abbrev pub IsPlace : ℕ → Type 0
IsPlace place = (address : ℕ) × (port : ℕ) × (address < 2 ^ 32) × (1 ≤ port) × (port ≤ 65535) × (place ≡ address * 65536 + port)

-- one place for each member
abbrev pub ArePlaces : Shape → List ℕ → Type 0
ArePlaces shape places = (length places ≡ members_of shape) × All IsPlace places

-- ---- a command

abbrev pub command_name : Command → List ℕ
command_name (Replay shape) = codes "replay"
command_name (Node node) = codes "node"
command_name (Ask ask) = codes "ask"
command_name (Split shape) = codes "split"
command_name (Join shape) = codes "join"
command_name (Storm storm) = codes "storm"

-- the cluster that a command is for
abbrev pub command_shape : Command → Shape
command_shape (Replay shape) = shape
command_shape (Node node) = node.shape
command_shape (Ask ask) = ask.shape
command_shape (Split shape) = shape
command_shape (Join shape) = shape
command_shape (Storm storm) = storm.shape

-- `me seed turns path place0 ..`
abbrev pub SpellsNode : List (List ℕ) → (path : List ℕ) → NodeCommand → Type 0
SpellsNode words path node =
    (me : List ℕ) × (seed : List ℕ) × (turns : List ℕ) × (places : List (List ℕ))
    × IsNumber me node.me × IsNumber seed node.seed × IsNumber turns node.turns × AllZip SpellsPlace places node.places
    × (words ≡ me ∷ seed ∷ turns ∷ path ∷ places)

-- `client seq op key value place0 ..`: the key stands as it is, the value in hexadecimal digits
abbrev pub SpellsAsk : List (List ℕ) → AskCommand → Type 0
SpellsAsk words ask =
    (client : List ℕ) × (seq : List ℕ) × (op : List ℕ) × (places : List (List ℕ))
    × IsNumber client ask.request.client × IsNumber seq ask.request.seq × SpellsOp op ask.request.op × AllZip SpellsPlace places ask.places
    × (words ≡ client ∷ seq ∷ op ∷ ask.request.key ∷ bytes_word ask.request.value ∷ places)

-- `seed count`
abbrev pub SpellsStorm : List (List ℕ) → StormCommand → Type 0
SpellsStorm words storm =
    (seed : List ℕ) × (count : List ℕ) × IsNumber seed storm.seed × IsNumber count storm.count × (words ≡ seed ∷ count ∷ [])

-- the words behind a command's cluster, and the path among them
abbrev pub SpellsRest : List (List ℕ) → (path : List ℕ) → Command → Type 0
SpellsRest words path (Replay shape) = (path ≡ []) × (words ≡ [])
SpellsRest words path (Node node) = (path ≢ []) × SpellsNode words path node
SpellsRest words path (Ask ask) = (path ≡ []) × SpellsAsk words ask
SpellsRest words path (Split shape) = (path ≡ []) × (words ≡ [])
SpellsRest words path (Join shape) = (path ≡ []) × (words ≡ [])
SpellsRest words path (Storm storm) = (path ≡ []) × SpellsStorm words storm

-- A command as words: its name, the two numbers of its cluster, and what stands behind them. The path is the one of the journal
-- of `node`, which the command doesn't hold; it is empty exactly where there is none.
abbrev pub SpellsCommand : List (List ℕ) → (path : List ℕ) → Command → Type 0
SpellsCommand words path command =
    (faults : List ℕ) × (need : List ℕ) × (rest : List (List ℕ))
    × IsNumber faults (command_shape command).faults × IsNumber need (command_shape command).need × SpellsRest rest path command
    × (words ≡ command_name command ∷ faults ∷ need ∷ rest)

-- ---- ranges

-- a member of its cluster, that makes some turns
pub record IsNode (node : NodeCommand) : Type 0 where
  pub shape : IsShape node.shape
  pub me : node.me < members_of node.shape
  pub seed : node.seed < 2 ^ 64
  pub turns : (1 ≤ node.turns) × (node.turns ≤ most_turns)
  pub places : ArePlaces node.shape node.places

-- a request that a client can ask for
pub record IsAsk (ask : AskCommand) : Type 0 where
  pub shape : IsShape ask.shape
  pub request : IsRequest ask.request
  pub places : ArePlaces ask.shape ask.places

-- a made schedule of some lines
pub record IsStorm (storm : StormCommand) : Type 0 where
  pub shape : IsShape storm.shape
  pub seed : storm.seed < 2 ^ 64
  pub count : (1 ≤ storm.count) × (storm.count ≤ MOST_EVENTS)

-- the numbers of a command are in range
abbrev pub IsCommand : Command → Type 0
IsCommand (Replay shape) = IsShape shape
IsCommand (Node node) = IsNode node
IsCommand (Ask ask) = IsAsk ask
IsCommand (Split shape) = IsShape shape
IsCommand (Join shape) = IsShape shape
IsCommand (Storm storm) = IsStorm storm

-- a node's journal has a path, and no other command has one
abbrev pub IsPathOf : Command → List ℕ → Type 0
IsPathOf (Replay shape) path = path ≡ []
IsPathOf (Node node) path = path ≢ []
IsPathOf (Ask ask) path = path ≡ []
IsPathOf (Split shape) path = path ≡ []
IsPathOf (Join shape) path = path ≡ []
IsPathOf (Storm storm) path = path ≡ []
