-- What a client asks for: its ranges, and how words say it.
use Rattle.std.specs.Prelude.{◌≡◌, ℕ, ◌/◌, ◌≤◌, List, [], length, take, drop, Option, None, Some, Result, Ok, Err, Bool, true, false, ◌&&◌, ◌||◌, ◌==◌, if◌then◌else◌, nat_lt, codes}
use Rattle.std.specs.Char.{is_ascii_uppercase}
use Rattle.std.specs.List.{list_any}
use Rattle.std.specs.Option.{option_map}
use Rattle.std.specs.Str.{bytes_eq}
use Rattle.hex.specs.Hex.{decode_of}
use Rattle.hex.specs.declared.error.FromHexError.{FromHexError}
use Rattle.craft_base.specs.declared.command.Op.{Op}
use Rattle.craft_base.specs.declared.command.Op.TheVariants as ops
use Rattle.craft_base.specs.declared.command.Request.{Request}
use Rattle.entry_frames.specs.Formats.{AreBytes, within}
use Rattle.entry_frames.specs.Limits.{greatest, longest_value}
use Rattle.entry_frames.specs.Operations.{expected_version, op_kind, row}
use Rattle.world_model.specs.Numbers.{number_of}

-- the most bytes of a key
abbrev pub longest_key : ℕ
longest_key = 255

-- What a client can ask for. It and its request have numbers from 1 on; it asks for any operation but Noop; the key isn't empty, and
-- there is a value only where one is set.
pub record IsRequest (r : Request) : Type 0 where
  pub client : (1 ≤ r.client) × (r.client ≤ greatest)
  pub seq : (1 ≤ r.seq) × (r.seq ≤ greatest)
  pub asked : (row (op_kind r.op)).asked ≡ true
  pub expected : expected_version r.op ≤ greatest
  pub key : (1 ≤ length r.key) × (length r.key ≤ longest_key)
  pub value : length r.value ≤ longest_value
  pub sets : (row (op_kind r.op)).sets ≡ false → r.value ≡ []
  pub key_bytes : AreBytes r.key
  pub value_bytes : AreBytes r.value

-- ---- words

-- a number from the least to the greatest
abbrev pub number_within : ℕ → ℕ → Option ℕ → Option ℕ
number_within least most None = None
number_within least most (Some n) = if within least most n then Some n else None

-- `put`, `del`, `get`, or `putif=` and the version that is expected
abbrev pub op_in : List ℕ → Option Op
op_in word =
    if bytes_eq word (codes "put") then Some ops.Put
    else if bytes_eq word (codes "del") then Some ops.Del
    else if bytes_eq word (codes "get") then Some ops.Get
    else if bytes_eq (take 6 word) (codes "putif=") then option_map ops.PutIf (number_within 0 greatest (number_of (drop 6 word)))
    else None

abbrev pub if_decoded : Result (List ℕ) FromHexError → Option (List ℕ)
if_decoded (Ok bytes) = Some bytes
if_decoded (Err error) = None

-- some bytes in lower case hexadecimal digits, at most that many
abbrev pub digits_in : ℕ → List ℕ → Option (List ℕ)
digits_in most word =
    if length word == 0 || nat_lt most (length word / 2) || list_any is_ascii_uppercase word then None
    else if_decoded (decode_of word)

-- at most that many bytes: their digits, and `-` for none
abbrev pub bytes_in : ℕ → List ℕ → Option (List ℕ)
bytes_in most word = if bytes_eq word (codes "-") then Some [] else digits_in most word

-- there is a key, and a value only where one is set
abbrev pub goes_with : Op → List ℕ → List ℕ → Bool
goes_with op key value = nat_lt 0 (length key) && ((row (op_kind op)).sets || length value == 0)

-- the request of these parts
abbrev pub request_of : Option ℕ → Option ℕ → Option Op → Option (List ℕ) → Option (List ℕ) → Option Request
request_of (Some client) (Some seq) (Some op) (Some key) (Some value) =
    if goes_with op key value then Some (record { client = client; seq = seq; op = op; key = key; value = value }) else None
request_of _ _ _ _ _ = None

-- the request that words say
abbrev pub request_in : (client seq op key value : List ℕ) → Option Request
request_in client seq op key value =
    request_of (number_within 1 greatest (number_of client)) (number_within 1 greatest (number_of seq)) (op_in op)
    (bytes_in longest_key key) (bytes_in longest_value value)
