-- Formats: a frame is a row of fields, and one table says of each field how wide it is, what is in range and which part of the
-- value it is. The spelling of a value and the first bad field of some bytes both follow from it.
use Rattle.std.specs.Prelude.{◌≡◌, ℕ, ◌+◌, ◌-◌, ◌^◌, ◌<◌, Bool, true, false, ◌&&◌, List, [], ◌++◌, length, take, drop, nat_le, nat_lt, slice_index, if◌then◌else◌, Result, Ok, Err}
use Rattle.std.specs.Int.{Width, w8, w32, w64, byte_len, to_be_bytes, from_be_bytes}
use Rattle.entry_frames.specs.declared.fault.FrameFault.{FrameFault}
use Rattle.entry_frames.specs.declared.fault.FrameFault.TheVariants.{Short, Bad}

-- each of them is a byte
pub record AreBytes (bytes : List ℕ) : Type 0 where
  pub each : (i : ℕ) → slice_index bytes i < 256

-- how wide a number is: 1, 4 or 8 bytes
pub data Unsigned : Type 0 where
  U8 : Unsigned
  U32 : Unsigned
  U64 : Unsigned

abbrev pub width_of : Unsigned → Width
width_of U8 = w8
width_of U32 = w32
width_of U64 = w64

abbrev pub limit_of : Unsigned → ℕ
limit_of U8 = 2 ^ 8
limit_of U32 = 2 ^ 32
limit_of U64 = 2 ^ 64

-- how many bytes it has
abbrev pub size_of : Unsigned → ℕ
size_of unsigned = byte_len (width_of unsigned)

-- the fields that are still to come, each of which may depend on those before it
pub data Format (V : Type 0) : Type 0 where
  -- no more fields: this is the value
  Value : V → Format V
  -- a number, the most significant byte first; where it doesn't stand it has no bytes and counts as 0
  Number : (stands : Bool) → Unsigned → (in_range : ℕ → Bool) → (part : V → ℕ) → (next : ℕ → Format V) → Format V
  -- that many bytes, whatever they are
  Bytes : (count : ℕ) → (part : V → List ℕ) → (next : List ℕ → Format V) → Format V
  -- a test of the fields before it; where it fails, what is out of range began that many bytes before
  Test : (passes : Bool) → (back : ℕ) → (next : Format V) → Format V

-- from the least to the greatest number
abbrev pub within : ℕ → ℕ → ℕ → Bool
within least greatest n = nat_le least n && nat_le n greatest

-- the bytes of a number, none where it doesn't stand
abbrev pub number_bytes : Bool → Unsigned → ℕ → List ℕ
number_bytes false unsigned n = []
number_bytes true unsigned n = to_be_bytes (width_of unsigned) n

-- what a number counts as
abbrev pub counts_as : Bool → ℕ → ℕ
counts_as false n = 0
counts_as true n = n

-- the spelling of a value: its fields, one after the other
abbrev pub spelling : {V : Type 0} → Format V → V → List ℕ
spelling (Value value) v = []
spelling (Number stands unsigned in_range part next) v = number_bytes stands unsigned (part v) ++ spelling (next (counts_as stands (part v))) v
spelling (Bytes count part next) v = part v ++ spelling (next (part v)) v
spelling (Test passes back next) v = spelling next v

-- the number fits its unsigned and is in range, where it stands
abbrev pub FitsNumber : Bool → Unsigned → (ℕ → Bool) → ℕ → Type 0
FitsNumber false unsigned in_range n = n ≡ 0
FitsNumber true unsigned in_range n = (n < limit_of unsigned) × (in_range n ≡ true)

-- the value has a spelling: each of its fields is in range
abbrev pub Fits : {V : Type 0} → Format V → V → Type 0
Fits (Value value) v = value ≡ v
Fits (Number stands unsigned in_range part next) v = FitsNumber stands unsigned in_range (part v) × Fits (next (counts_as stands (part v))) v
Fits (Bytes count part next) v = (length (part v) ≡ count) × Fits (next (part v)) v
Fits (Test passes back next) v = (passes ≡ true) × Fits next v

-- a format with another one in cursor of a part of its value: first the fields of that part, and then those that depend on it
abbrev pub embed : {A V : Type 0} → Format A → (V → A) → (A → Format V) → Format V
embed (Value value) part next = next value
embed (Number stands unsigned in_range inner rest) part next = Number stands unsigned in_range (λ v. inner (part v)) (λ n. embed (rest n) part next)
embed (Bytes count inner rest) part next = Bytes count (λ v. inner (part v)) (λ bytes. embed (rest bytes) part next)
embed (Test passes back rest) part next = Test passes back (embed rest part next)

-- what is left of a frame, and at which offset of it that begins
pub record Cursor : Type 0 where
  pub at : ℕ
  pub rest : List ℕ

-- what is left are bytes, and not more than memory has
pub record IsCursor (cursor : Cursor) : Type 0 where
  pub room : cursor.at + length cursor.rest < 2 ^ 63
  pub bytes : AreBytes cursor.rest

-- the cursor that many bytes later
abbrev pub behind : ℕ → Cursor → Cursor
behind count cursor = record { at = cursor.at + count; rest = drop count cursor.rest }

-- what was read, and the cursor behind it
pub record Taken (A : Type 0) : Type 0 where
  pub value : A
  pub cursor : Cursor

infixl 10 ◌>>=◌
abbrev pub ◌>>=◌ : {A B : Type 0} → Result A FrameFault → (A → Result B FrameFault) → Result B FrameFault
(Ok x) >>= f = f x
(Err e) >>= f = Err e

-- The field at a cursor, or its fault: the bytes end inside it, or it is whole and out of range.
abbrev pub in_range_at : (ℕ → Bool) → ℕ → Taken ℕ → Result (Taken ℕ) FrameFault
in_range_at in_range at taken = if in_range taken.value then Ok taken else Err (Bad at)

abbrev pub any_number_at : Unsigned → Cursor → Result (Taken ℕ) FrameFault
any_number_at unsigned cursor =
    if nat_lt (length cursor.rest) (size_of unsigned) then Err Short
    else Ok (record { value = from_be_bytes (width_of unsigned) (take (size_of unsigned) cursor.rest); cursor = behind (size_of unsigned) cursor })

abbrev pub number_at : Bool → Unsigned → (ℕ → Bool) → Cursor → Result (Taken ℕ) FrameFault
number_at false unsigned in_range cursor = Ok (record { value = 0; cursor = cursor })
number_at true unsigned in_range cursor = any_number_at unsigned cursor >>= in_range_at in_range cursor.at

abbrev pub bytes_at : ℕ → Cursor → Result (Taken (List ℕ)) FrameFault
bytes_at count cursor =
    if nat_lt (length cursor.rest) count then Err Short
    else Ok (record { value = take count cursor.rest; cursor = behind count cursor })

abbrev pub test_at : Bool → ℕ → Cursor → Result Cursor FrameFault
test_at passes back cursor = if passes then Ok cursor else Err (Bad (cursor.at - back))

-- The value that the bytes at a cursor begin with and the cursor behind it, or the first fault from left to right.
abbrev pub reading : {V : Type 0} → Format V → Cursor → Result (Taken V) FrameFault
reading (Value value) cursor = Ok (record { value = value; cursor = cursor })
reading (Number stands unsigned in_range part next) cursor = number_at stands unsigned in_range cursor >>= λ n. reading (next n.value) n.cursor
reading (Bytes count part next) cursor = bytes_at count cursor >>= λ bytes. reading (next bytes.value) bytes.cursor
reading (Test passes back next) cursor = test_at passes back cursor >>= λ cursor'. reading next cursor'

-- the front of a frame
abbrev pub front_of : List ℕ → Cursor
front_of bytes = record { at = 0; rest = bytes }

-- what all of the bytes say; bytes behind the last field are out of range
abbrev pub without_rest : {V : Type 0} → Taken V → Result V FrameFault
without_rest taken = if nat_lt 0 (length taken.cursor.rest) then Err (Bad taken.cursor.at) else Ok taken.value

abbrev pub reading_all : {V : Type 0} → Format V → List ℕ → Result V FrameFault
reading_all format bytes = reading format (front_of bytes) >>= without_rest
