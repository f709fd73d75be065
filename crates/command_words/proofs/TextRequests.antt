-- A request whose key is text: what reads its words and what spells them say the same.
use Rattle.std.proofs.Common.{◌≡◌, ℕ, ◌≤◌, List, Bool, true, false, length, refl, ap, ◌∙◌, sym, arith, Option, None, Some}
use Rattle.std.specs.Prelude.{nat_lt, if◌then◌else◌}
use Rattle.std.proofs.lemmas.Bool.Decides.{nat_tests}
use Rattle.craft_base.specs.declared.command.Op.{Op}
use Rattle.craft_base.specs.declared.command.Request.{Request}
use Rattle.entry_frames.specs.Formats.{AreBytes}
use Rattle.entry_frames.specs.Limits.{greatest, longest_value}
use Rattle.world_model.specs.Calls as calls
use Rattle.world_model.specs.Calls.{IsRequest, bytes_in, longest_key, number_within, op_in}
use Rattle.world_model.specs.Lines.{bytes_word}
use Rattle.world_model.specs.Numbers.{number_of}
use Rattle.world_model.specs.Spelling.{IsNumber, SpellsOp}
use Rattle.world_model.proofs.ByteWords.{bytes_read}
use Rattle.world_model.proofs.CallWords.{IsSaid, read_request, request_read}
use Rattle.command_words.specs.Words.{key_in, request_in}

key_short : (key : List ℕ) → length key ≤ longest_key → key_in key ≡ Some key
key_short key short = ap (λ test. if test then None else Some key) (passes (length key) longest_key short) where
  passes : (size most : ℕ) → size ≤ most → nat_lt most size ≡ false
  passes size most h = grind (arith, nat_tests)

-- a request with its key as text, and the same with the key's digits
as_digits : (c s o k v : List ℕ) → AreBytes k → length k ≤ longest_key → request_in c s o k v ≡ calls.request_in c s o (bytes_word k) v
as_digits c s o k v are short =
    ap (λ key. calls.request_of (number_within 1 greatest (number_of c)) (number_within 1 greatest (number_of s)) (op_in o) key (bytes_in longest_value v))
    (key_short k short ∙ sym (bytes_read longest_key k are.each short))

pub text_request_read : (c s o : List ℕ) (r : Request) → IsNumber c r.client → IsNumber s r.seq → SpellsOp o r.op → IsRequest r
    → request_in c s o r.key (bytes_word r.value) ≡ Some r
text_request_read c s o r is_c is_s is_o is =
    as_digits c s o r.key (bytes_word r.value) is.key_bytes is.key.1 ∙ request_read c s o r is_c is_s is_o is

-- how the words of a request were spelled, and that it is in range
pub record IsAsked (c s o k v : List ℕ) (r : Request) : Type 0 where
  pub client : IsNumber c r.client
  pub seq : IsNumber s r.seq
  pub op : SpellsOp o r.op
  pub key : k ≡ r.key
  pub value : v ≡ bytes_word r.value
  pub inside : IsRequest r

keyless : (client seq : Option ℕ) (op : Option Op) (value : Option (List ℕ)) (r : Request) → calls.request_of client seq op None value ≡ Some r → ⊥
keyless None seq op value r h = cc
keyless (Some client) None op value r h = cc
keyless (Some client) (Some seq) None value r h = cc
keyless (Some client) (Some seq) (Some op) value r h = cc

pub read_text_request : (c s o k v : List ℕ) (r : Request) → AreBytes k → request_in c s o k v ≡ Some r → IsAsked c s o k v r
read_text_request c s o k v r are read = by_test (nat_lt longest_key (length k)) refl read where
  short : (size most : ℕ) → nat_lt most size ≡ false → size ≤ most
  short size most h = grind (arith, nat_tests)

  by_length : length k ≤ longest_key → IsAsked c s o k v r
  by_length fits =
      let m : IsSaid c s o (bytes_word k) v r = read_request c s o (bytes_word k) v r (sym (as_digits c s o k v are fits) ∙ read) in
      let same : Some k ≡ Some r.key =
      sym (bytes_read longest_key k are.each fits) ∙ ap (bytes_in longest_key) m.key ∙ bytes_read longest_key r.key m.inside.key_bytes.each m.inside.key.1 in
      record { client = m.client; seq = m.seq; op = m.op; key = taken k r.key same; value = m.value; inside = m.inside } where
        taken : (a b : List ℕ) → Some a ≡ Some b → a ≡ b
        taken a b h = cc

  by_test : (long : Bool) → nat_lt longest_key (length k) ≡ long
      → calls.request_of (number_within 1 greatest (number_of c)) (number_within 1 greatest (number_of s)) (op_in o) (if long then None else Some k) (bytes_in longest_value v) ≡ Some r
      → IsAsked c s o k v r
  by_test true is h = absurd (keyless (number_within 1 greatest (number_of c)) (number_within 1 greatest (number_of s)) (op_in o) (bytes_in longest_value v) r h)
  by_test false is h = by_length (short (length k) longest_key is)
