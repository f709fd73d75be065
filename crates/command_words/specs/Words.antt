-- The words of the command line, by position.
use Rattle.std.specs.Prelude.{ℕ, List, [], ◌∷◌, length, Option, None, Some, if◌then◌else◌, nat_lt, ◌==◌, codes, Result, Ok, Err}
use Rattle.std.specs.Str.{bytes_eq}
use Rattle.craft_base.specs.Shape.{Shape}
use Rattle.craft_base.specs.Shapes.{shape_from}
use Rattle.craft_base.specs.declared.command.Request.{Request}
use Rattle.craft_base.specs.declared.shape.ShapeError.{ShapeError}
use Rattle.entry_frames.specs.Limits.{greatest, longest_value}
use Rattle.command_words.specs.Places.{places_in}
use Rattle.command_words.specs.declared.command.Command.{Command}
use Rattle.command_words.specs.declared.command.Command.TheVariants.{Replay, Node, Ask, Split, Join, Storm}
use Rattle.storm_gen.specs.declared.storm.TheConstants.{MOST_EVENTS}
use Rattle.world_model.specs.Calls as calls
use Rattle.world_model.specs.Calls.{bytes_in, longest_key, number_within, op_in}
use Rattle.world_model.specs.Numbers.{number_of}
use Rattle.world_model.specs.Schedule.{member_of}

abbrev pub shape_if_ok : Result Shape ShapeError → Option Shape
shape_if_ok (Ok shape) = Some shape
shape_if_ok (Err error) = None

-- the cluster of two numbers, where they make one
abbrev pub shape_of : Option ℕ → Option ℕ → Option Shape
shape_of None need = None
shape_of (Some faults) None = None
shape_of (Some faults) (Some need) = shape_if_ok (shape_from faults need)

-- a command behind which no word stands
abbrev pub alone : Command → List (List ℕ) → Option Command
alone command [] = Some command
alone command (word ∷ words) = None

-- ---- node

abbrev pub most_turns : ℕ
most_turns = 1000000000000

-- a member that is to run: its path isn't empty
abbrev pub node_of : Shape → (me seed turns : Option ℕ) → (path : List ℕ) → (places : Option (List ℕ)) → Option Command
node_of shape (Some me) (Some seed) (Some turns) path (Some places) =
    if length path == 0 then None
    else Some (Node (record { shape = shape; me = me; seed = seed; turns = turns; places = places }))
node_of shape _ _ _ path _ = None

-- `me seed turns path place0 ..`
abbrev pub node_in : Shape → List (List ℕ) → Option Command
node_in shape (me ∷ seed ∷ turns ∷ path ∷ places) =
    node_of shape (member_of shape (number_of me)) (number_of seed) (number_within 1 most_turns (number_of turns)) path (places_in shape places)
node_in shape _ = None

-- ---- ask

-- a key is text
abbrev pub key_in : List ℕ → Option (List ℕ)
key_in word = if nat_lt longest_key (length word) then None else Some word

abbrev pub request_in : (client seq op key value : List ℕ) → Option Request
request_in client seq op key value =
    calls.request_of (number_within 1 greatest (number_of client)) (number_within 1 greatest (number_of seq)) (op_in op)
    (key_in key) (bytes_in longest_value value)

abbrev pub ask_of : Shape → Option Request → (places : Option (List ℕ)) → Option Command
ask_of shape (Some request) (Some places) = Some (Ask (record { shape = shape; request = request; places = places }))
ask_of shape _ _ = None

-- `client seq op key value place0 ..`
abbrev pub ask_in : Shape → List (List ℕ) → Option Command
ask_in shape (client ∷ seq ∷ op ∷ key ∷ value ∷ places) = ask_of shape (request_in client seq op key value) (places_in shape places)
ask_in shape _ = None

-- ---- storm

-- a made schedule that is to be run
abbrev pub storm_of : Shape → (seed count : Option ℕ) → Option Command
storm_of shape (Some seed) (Some count) = Some (Storm (record { shape = shape; seed = seed; count = count }))
storm_of shape _ _ = None

-- `seed count`
abbrev pub storm_in : Shape → List (List ℕ) → Option Command
storm_in shape (seed ∷ count ∷ []) = storm_of shape (number_of seed) (number_within 1 MOST_EVENTS (number_of count))
storm_in shape _ = None

-- ---- any command

-- the command of that name, for a cluster, by the words behind it
abbrev pub command_named : List ℕ → Shape → List (List ℕ) → Option Command
command_named name shape words =
    if bytes_eq name (codes "replay") then alone (Replay shape) words
    else if bytes_eq name (codes "node") then node_in shape words
    else if bytes_eq name (codes "ask") then ask_in shape words
    else if bytes_eq name (codes "split") then alone (Split shape) words
    else if bytes_eq name (codes "join") then alone (Join shape) words
    else if bytes_eq name (codes "storm") then storm_in shape words
    else None

-- the command of that name, where the numbers behind it make a cluster
abbrev pub command_of : List ℕ → Option Shape → List (List ℕ) → Option Command
command_of name None words = None
command_of name (Some shape) words = command_named name shape words

-- what the words ask for, or nothing where they are no command
abbrev pub plan : List (List ℕ) → Option Command
plan (name ∷ faults ∷ need ∷ words) = command_of name (shape_of (number_of faults) (number_of need)) words
plan _ = None

-- ---- what is opened for it

-- the path of a journal behind `node F k me seed turns`
abbrev pub path_in : List (List ℕ) → Option (List ℕ)
path_in (name ∷ faults ∷ need ∷ me ∷ seed ∷ turns ∷ path ∷ places) = Some path
path_in _ = None
