-- What a client asks for: what reads its words and what spells them say the same.
use Rattle.std.proofs.Common.{◌≡◌, ℕ, suc, ◌<◌, ◌≤◌, List, [], ◌∷◌, ◌++◌, Bool, true, false, ◌&&◌, ◌||◌, length, take, drop, refl, ap, ◌∙◌, sym, subst, arith, Option, None, Some, take-append-drop}
use Rattle.std.specs.Prelude.{◌==◌, nat_le, nat_lt, codes, if◌then◌else◌}
use Rattle.std.specs.Fmt.{decimal}
use Rattle.std.specs.List.{All}
use Rattle.std.specs.Option.{option_map}
use Rattle.std.specs.Str.{bytes_eq}
use Rattle.std.proofs.lemmas.Bool.Decides.{nat_tests}
use Rattle.std.proofs.lemmas.List.Elements.{All-nil, All-cons, All-append}
use Rattle.std.proofs.lemmas.Slice.Eq.{bytes_eq-Decides}
use Rattle.craft_base.specs.declared.command.Op.{Op}
use Rattle.craft_base.specs.declared.command.Op.TheVariants as ops
use Rattle.craft_base.specs.declared.command.Request.{Request}
use Rattle.entry_frames.specs.Limits.{greatest, longest_value}
use Rattle.entry_frames.specs.Operations.{expected_version, op_kind, row}
use Rattle.world_model.specs.Calls.{IsRequest, bytes_in, goes_with, longest_key, number_within, op_in, request_in, request_of}
use Rattle.world_model.specs.Lines.{bytes_word}
use Rattle.world_model.specs.Numbers.{number_of}
use Rattle.world_model.specs.Spelling.{IsNumber, SpellsOp}
use Rattle.world_model.proofs.ByteWords.{bytes_read, read_bytes}
use Rattle.world_model.proofs.Spelling.{IsNumber-decimal, IsNumber-read, both_parts, decimal-IsNumber, number_without, read-IsNumber}

-- ---- numbers in range

pub number_read : (least most : ℕ) (word : List ℕ) (n : ℕ) → IsNumber word n → least ≤ n → n ≤ most → number_within least most (number_of word) ≡ Some n
number_read least most word n is low high = ap (number_within least most) (IsNumber-read word n is) ∙ passes least most n low high where
  passes : (least most n : ℕ) → least ≤ n → n ≤ most → number_within least most (Some n) ≡ Some n
  passes least most n low high = grind (arith, nat_tests)

read_number : (least most : ℕ) (word : List ℕ) (n : ℕ) → number_within least most (number_of word) ≡ Some n → IsNumber word n × (least ≤ n) × (n ≤ most)
read_number least most word n h = let parts = by_found least most (number_of word) n h in (read-IsNumber word n parts.0, parts.1, parts.2) where
  by_found : (least most : ℕ) (found : Option ℕ) (n : ℕ) → number_within least most found ≡ Some n → (found ≡ Some n) × (least ≤ n) × (n ≤ most)
  by_found least most None n h = cc
  by_found least most (Some m) n h = grind (arith, nat_tests)

-- ---- what is asked for

pub op_read : (word : List ℕ) (op : Op) → SpellsOp word op → expected_version op ≤ greatest → op_in word ≡ Some op
op_read word ops.Noop h small = absurd h
op_read word ops.Put h small = ap op_in h
op_read word (ops.PutIf version) (n, is_n, is) small =
    ap op_in is ∙ ap (option_map ops.PutIf) (number_read 0 greatest n version is_n (omega arith) small)
op_read word ops.Del h small = ap op_in h
op_read word ops.Get h small = ap op_in h

-- how an operation is spelled, and that a client can ask for it
record IsOpWord (word : List ℕ) (op : Op) : Type 0 where
  spells : SpellsOp word op
  asked : (row (op_kind op)).asked ≡ true
  small : expected_version op ≤ greatest

expected : (found : Option ℕ) (op : Op) → option_map ops.PutIf found ≡ Some op → (version : ℕ) × (found ≡ Some version) × (ops.PutIf version ≡ op)
expected None op h = cc
expected (Some version) op h = (version, refl, cc h)

read_op : (word : List ℕ) (op : Op) → op_in word ≡ Some op → IsOpWord word op
read_op word op = by_name (bytes_eq word (codes "put")) (bytes_eq word (codes "del")) (bytes_eq word (codes "get")) (bytes_eq (take 6 word) (codes "putif=")) refl refl refl refl where
  is_word : (name : List ℕ) → bytes_eq word name ≡ true → word ≡ name
  is_word name = (bytes_eq-Decides word name).0

  by_version : bytes_eq (take 6 word) (codes "putif=") ≡ true → option_map ops.PutIf (number_within 0 greatest (number_of (drop 6 word))) ≡ Some op → IsOpWord word op
  by_version begins h =
      let (version, found, same) = expected (number_within 0 greatest (number_of (drop 6 word))) op h in
      let (is_n, _, small) = read_number 0 greatest (drop 6 word) version found in
      let front : take 6 word ≡ codes "putif=" = (bytes_eq-Decides (take 6 word) (codes "putif=")).0 begins in
      let whole : word ≡ codes "putif=" ++ drop 6 word = sym (take-append-drop 6 word) ∙ ap (λ x. x ++ drop 6 word) front in
      subst (IsOpWord word) same (record { spells = (drop 6 word, is_n, whole); asked = refl; small = small })

  by_name : (put del get version : Bool) → bytes_eq word (codes "put") ≡ put → bytes_eq word (codes "del") ≡ del → bytes_eq word (codes "get") ≡ get
      → bytes_eq (take 6 word) (codes "putif=") ≡ version
      → (if put then Some ops.Put else if del then Some ops.Del else if get then Some ops.Get
      else if version then option_map ops.PutIf (number_within 0 greatest (number_of (drop 6 word))) else None) ≡ Some op
      → IsOpWord word op
  by_name true del get version is_put is_del is_get is_version h =
      let same : ops.Put ≡ op = cc in
      subst (IsOpWord word) same (record { spells = is_word (codes "put") is_put; asked = refl; small = omega arith })
  by_name false true get version is_put is_del is_get is_version h =
      let same : ops.Del ≡ op = cc in
      subst (IsOpWord word) same (record { spells = is_word (codes "del") is_del; asked = refl; small = omega arith })
  by_name false false true version is_put is_del is_get is_version h =
      let same : ops.Get ≡ op = cc in
      subst (IsOpWord word) same (record { spells = is_word (codes "get") is_get; asked = refl; small = omega arith })
  by_name false false false true is_put is_del is_get is_version h = by_version is_version h
  by_name false false false false is_put is_del is_get is_version h = cc

pub one_op : (word other : List ℕ) (op : Op) → SpellsOp word op → SpellsOp other op → word ≡ other
one_op word other ops.Noop h k = absurd h
one_op word other ops.Put h k = h ∙ sym k
one_op word other (ops.PutIf version) (n, is_n, is) (m, is_m, as_well) =
    let same : n ≡ m = IsNumber-decimal n version is_n ∙ sym (IsNumber-decimal m version is_m) in
    is ∙ ap (λ x. codes "putif=" ++ x) same ∙ sym as_well
one_op word other ops.Del h k = h ∙ sym k
one_op word other ops.Get h k = h ∙ sym k

pub some_op : (op : Op) → (row (op_kind op)).asked ≡ true → expected_version op ≤ greatest → (word : List ℕ) × SpellsOp word op
some_op ops.Noop asked small = absurd (none asked) where
  none : false ≡ true → ⊥
  none h = cc
some_op ops.Put asked small = (codes "put", refl)
some_op (ops.PutIf version) asked small = (codes "putif=" ++ decimal version, (decimal version, decimal-IsNumber version (omega (arith, small)), refl))
some_op ops.Del asked small = (codes "del", refl)
some_op ops.Get asked small = (codes "get", refl)

-- each byte is one from 45 on
abbrev are_above : List ℕ → Bool
are_above [] = true
are_above (byte ∷ word) = nat_le 45 byte && are_above word

-- the word of an operation has no byte below 45, as a blank and a line feed are
letters_without : (c : ℕ) (word : List ℕ) → c < 45 → are_above word ≡ true → All (λ byte. (byte == c) ≡ false) word
letters_without c [] low h = All-nil (λ byte. (byte == c) ≡ false)
letters_without c (byte ∷ word) low h =
    let parts = both_parts (nat_le 45 byte) (are_above word) h in
    All-cons (λ byte. (byte == c) ≡ false) byte word (other c byte low parts.0) (letters_without c word low parts.1) where
      other : (c byte : ℕ) → c < 45 → nat_le 45 byte ≡ true → (byte == c) ≡ false
      other c byte low h = grind (arith, nat_tests)

pub op_without : (c : ℕ) (word : List ℕ) (op : Op) → c < 45 → SpellsOp word op → All (λ byte. (byte == c) ≡ false) word
op_without c word ops.Noop low h = absurd h
op_without c word ops.Put low h = subst (All (λ byte. (byte == c) ≡ false)) (sym h) (letters_without c (codes "put") low refl)
op_without c word (ops.PutIf version) low (n, is_n, is) =
    subst (All (λ byte. (byte == c) ≡ false)) (sym is)
    (All-append (λ byte. (byte == c) ≡ false) (codes "putif=") n (letters_without c (codes "putif=") low refl) (number_without c n version (omega (arith, low)) is_n))
op_without c word ops.Del low h = subst (All (λ byte. (byte == c) ≡ false)) (sym h) (letters_without c (codes "del") low refl)
op_without c word ops.Get low h = subst (All (λ byte. (byte == c) ≡ false)) (sym h) (letters_without c (codes "get") low refl)

-- ---- requests

goes : (r : Request) → IsRequest r → goes_with r.op r.key r.value ≡ true
goes r is = passes (length r.key) (row (op_kind r.op)).sets r.value is.key.0 is.sets where
  passes : (size : ℕ) (sets : Bool) (value : List ℕ) → 1 ≤ size → (sets ≡ false → value ≡ []) → (nat_lt 0 size && (sets || length value == 0)) ≡ true
  passes size true value some none = grind (arith, nat_tests)
  passes size false [] some none = grind (arith, nat_tests)
  passes size false (byte ∷ value) some none = absurd (not_both (none refl)) where
    not_both : byte ∷ value ≡ [] → ⊥
    not_both h = cc

gone : (size : ℕ) (sets : Bool) (value : List ℕ) → (nat_lt 0 size && (sets || length value == 0)) ≡ true → (1 ≤ size) × (sets ≡ false → value ≡ [])
gone size true value h = (some size h, λ k. cc) where
  some : (size : ℕ) → (nat_lt 0 size && true) ≡ true → 1 ≤ size
  some size h = grind (arith, nat_tests)
gone size false [] h = (some size h, λ k. refl) where
  some : (size : ℕ) → (nat_lt 0 size && true) ≡ true → 1 ≤ size
  some size h = grind (arith, nat_tests)
gone size false (byte ∷ value) h = absurd (none size (length value) h) where
  none : (size more : ℕ) → (nat_lt 0 size && (false || suc more == 0)) ≡ true → ⊥
  none size more h = grind (arith, nat_tests)

request_made : (client seq : Option ℕ) (op : Option Op) (key value : Option (List ℕ)) (r : Request)
    → client ≡ Some r.client → seq ≡ Some r.seq → op ≡ Some r.op → key ≡ Some r.key → value ≡ Some r.value
    → goes_with r.op r.key r.value ≡ true → request_of client seq op key value ≡ Some r
request_made client seq op key value r is_client is_seq is_op is_key is_value h =
    ap (λ x. request_of x seq op key value) is_client ∙ ap (λ x. request_of (Some r.client) x op key value) is_seq
    ∙ ap (λ x. request_of (Some r.client) (Some r.seq) x key value) is_op
    ∙ ap (λ x. request_of (Some r.client) (Some r.seq) (Some r.op) x value) is_key
    ∙ ap (λ x. request_of (Some r.client) (Some r.seq) (Some r.op) (Some r.key) x) is_value
    ∙ ap (λ test. if test then Some r else None) h

-- the words of a request in range are read
pub request_read : (c s o : List ℕ) (r : Request) → IsNumber c r.client → IsNumber s r.seq → SpellsOp o r.op → IsRequest r
    → request_in c s o (bytes_word r.key) (bytes_word r.value) ≡ Some r
request_read c s o r is_c is_s is_o is =
    request_made (number_within 1 greatest (number_of c)) (number_within 1 greatest (number_of s)) (op_in o)
    (bytes_in longest_key (bytes_word r.key)) (bytes_in longest_value (bytes_word r.value)) r
    (number_read 1 greatest c r.client is_c is.client.0 is.client.1) (number_read 1 greatest s r.seq is_s is.seq.0 is.seq.1)
    (op_read o r.op is_o is.expected) (bytes_read longest_key r.key is.key_bytes.each is.key.1)
    (bytes_read longest_value r.value is.value_bytes.each is.value) (goes r is)

-- what a request was made of
record IsMade (client seq : Option ℕ) (op : Option Op) (key value : Option (List ℕ)) (r : Request) : Type 0 where
  client_is : client ≡ Some r.client
  seq_is : seq ≡ Some r.seq
  op_is : op ≡ Some r.op
  key_is : key ≡ Some r.key
  value_is : value ≡ Some r.value
  fits : goes_with r.op r.key r.value ≡ true

made : (client seq : Option ℕ) (op : Option Op) (key value : Option (List ℕ)) (r : Request) → request_of client seq op key value ≡ Some r
    → IsMade client seq op key value r
made None seq op key value r h = cc
made (Some client) None op key value r h = cc
made (Some client) (Some seq) None key value r h = cc
made (Some client) (Some seq) (Some op) None value r h = cc
made (Some client) (Some seq) (Some op) (Some key) None r h = cc
made (Some client) (Some seq) (Some op) (Some key) (Some value) r h =
    let own : Request = record { client = client; seq = seq; op = op; key = key; value = value } in
    let (fits, same) = passed (goes_with op key value) own h in
    subst (IsMade (Some client) (Some seq) (Some op) (Some key) (Some value)) same
    (record { client_is = refl; seq_is = refl; op_is = refl; key_is = refl; value_is = refl; fits = fits }) where
      passed : (test : Bool) (own : Request) → (if test then Some own else None) ≡ Some r → (test ≡ true) × (own ≡ r)
      passed true own h = (refl, cc)
      passed false own h = cc

-- how the words of a request were spelled, and that it is in range
pub record IsSaid (c s o k v : List ℕ) (r : Request) : Type 0 where
  pub client : IsNumber c r.client
  pub seq : IsNumber s r.seq
  pub op : SpellsOp o r.op
  pub key : k ≡ bytes_word r.key
  pub value : v ≡ bytes_word r.value
  pub inside : IsRequest r

pub read_request : (c s o k v : List ℕ) (r : Request) → request_in c s o k v ≡ Some r → IsSaid c s o k v r
read_request c s o k v r h =
    let m = made (number_within 1 greatest (number_of c)) (number_within 1 greatest (number_of s)) (op_in o) (bytes_in longest_key k) (bytes_in longest_value v) r h in
    let client = read_number 1 greatest c r.client m.client_is in
    let seq = read_number 1 greatest s r.seq m.seq_is in
    let op = read_op o r.op m.op_is in
    let key = read_bytes longest_key k r.key m.key_is in
    let value = read_bytes longest_value v r.value m.value_is in
    let fits = gone (length r.key) (row (op_kind r.op)).sets r.value m.fits in
    record {
      client = client.0;
      seq = seq.0;
      op = op.spells;
      key = key.is;
      value = value.is;
      inside = record {
        client = (client.1, client.2);
        seq = (seq.1, seq.2);
        asked = op.asked;
        expected = op.small;
        key = (fits.0, key.short);
        value = value.short;
        sets = fits.1;
        key_bytes = record { each = key.are };
        value_bytes = record { each = value.are };
      };
    }
