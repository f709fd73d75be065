-- What is to happen to a member: what reads its words and what spells them say the same.
use Rattle.std.proofs.Common.{◌≡◌, ℕ, ◌<◌, ◌≤◌, List, [], ◌∷◌, ◌++◌, Bool, true, false, refl, ap, ◌∙◌, sym, subst, arith, Option, None, Some}
use Rattle.std.specs.Prelude.{◌==◌, nat_le, nat_lt, codes, if◌then◌else◌}
use Rattle.std.specs.Fmt.{decimal}
use Rattle.std.specs.List.{All, slice_split}
use Rattle.std.specs.Str.{bytes_eq}
use Rattle.std.proofs.lemmas.Bool.Decides.{nat_tests}
use Rattle.std.proofs.lemmas.List.Splits.{slice_split_none, slice_split_at}
use Rattle.std.proofs.lemmas.Slice.Eq.{bytes_eq-Decides}
use Rattle.craft_base.specs.Shape.{Shape, members_of}
use Rattle.craft_base.specs.declared.command.Request.{Request}
use Rattle.world_model.specs.Numbers.{number_of}
use Rattle.world_model.specs.Calls.{IsRequest, request_in}
use Rattle.world_model.specs.Lines.{bytes_word}
use Rattle.world_model.specs.Schedule.{call_line, call_of, inner_of_words, member_of, tick_line, take_line, tick_of, take_of}
use Rattle.world_model.specs.Spelling.{IsNumber, IsInnerOf, SpellsInner, SpellsOp, spaced}
use Rattle.world_model.specs.declared.line.Inner.{Inner}
use Rattle.world_model.specs.declared.line.Inner.TheVariants.{Tick, Take, Call}
use Rattle.world_model.proofs.ByteWords.{bytes_without}
use Rattle.world_model.proofs.CallWords.{IsSaid, one_op, op_without, read_request, request_read, some_op}
pub use Rattle.world_model.proofs.Spelling.{number_without}
use Rattle.world_model.proofs.Spelling.{IsNumber-small, IsNumber-decimal, IsNumber-read, read-IsNumber, decimal-IsNumber}

abbrev pub is_blank : ℕ → Bool
is_blank byte = byte == 32

-- a number before a blank is a word, and a number at the end is the last
pub number_first : (word : List ℕ) (n : ℕ) (rest : List ℕ) → IsNumber word n → slice_split is_blank (word ++ 32 ∷ rest) ≡ word ∷ slice_split is_blank rest
number_first word n rest h = slice_split_at is_blank word 32 rest (number_without 32 word n (omega arith) h) refl

pub number_last : (word : List ℕ) (n : ℕ) → IsNumber word n → slice_split is_blank word ≡ word ∷ []
number_last word n h = slice_split_none is_blank word (number_without 32 word n (omega arith) h)

pub tick_words : (i w : List ℕ) (member word : ℕ) → IsNumber i member → IsNumber w word
    → slice_split is_blank (spaced (codes "tick" ∷ i ∷ w ∷ [])) ≡ codes "tick" ∷ i ∷ w ∷ []
tick_words i w member word is_i is_w =
    let after : slice_split is_blank (i ++ 32 ∷ w) ≡ i ∷ w ∷ [] = number_first i member w is_i ∙ ap (λ words. i ∷ words) (number_last w word is_w) in
    ap (λ words. codes "tick" ∷ words) after

pub take_words : (m : List ℕ) (frame : ℕ) → IsNumber m frame → slice_split is_blank (spaced (codes "take" ∷ m ∷ [])) ≡ codes "take" ∷ m ∷ []
take_words m frame is_m = ap (λ words. codes "take" ∷ words) (number_last m frame is_m)

-- a word without a blank before a blank, and at the end
word_first : (word rest : List ℕ) → All (λ byte. (byte == 32) ≡ false) word → slice_split is_blank (word ++ 32 ∷ rest) ≡ word ∷ slice_split is_blank rest
word_first word rest h = slice_split_at is_blank word 32 rest h refl

word_last : (word : List ℕ) → All (λ byte. (byte == 32) ≡ false) word → slice_split is_blank word ≡ word ∷ []
word_last word h = slice_split_none is_blank word h

-- the words of a call
abbrev pub call_words : (i c s o : List ℕ) → Request → List (List ℕ)
call_words i c s o r = codes "call" ∷ i ∷ c ∷ s ∷ o ∷ bytes_word r.key ∷ bytes_word r.value ∷ []

pub call_split : (i c s o : List ℕ) (member : ℕ) (r : Request) → IsNumber i member → IsNumber c r.client → IsNumber s r.seq → SpellsOp o r.op → IsRequest r
    → slice_split is_blank (spaced (call_words i c s o r)) ≡ call_words i c s o r
call_split i c s o member r is_i is_c is_s is_o is =
    let k : List ℕ = bytes_word r.key in
    let v : List ℕ = bytes_word r.value in
    let at_value : slice_split is_blank v ≡ v ∷ [] = word_last v (bytes_without 32 r.value (omega arith) is.value_bytes.each) in
    let at_key : slice_split is_blank (k ++ 32 ∷ v) ≡ k ∷ v ∷ [] =
    word_first k v (bytes_without 32 r.key (omega arith) is.key_bytes.each) ∙ ap (λ words. k ∷ words) at_value in
    let at_op : slice_split is_blank (o ++ 32 ∷ (k ++ 32 ∷ v)) ≡ o ∷ k ∷ v ∷ [] =
    word_first o (k ++ 32 ∷ v) (op_without 32 o r.op (omega arith) is_o) ∙ ap (λ words. o ∷ words) at_key in
    let at_seq : slice_split is_blank (s ++ 32 ∷ (o ++ 32 ∷ (k ++ 32 ∷ v))) ≡ s ∷ o ∷ k ∷ v ∷ [] =
    number_first s r.seq (o ++ 32 ∷ (k ++ 32 ∷ v)) is_s ∙ ap (λ words. s ∷ words) at_op in
    let at_client : slice_split is_blank (c ++ 32 ∷ (s ++ 32 ∷ (o ++ 32 ∷ (k ++ 32 ∷ v)))) ≡ c ∷ s ∷ o ∷ k ∷ v ∷ [] =
    number_first c r.client (s ++ 32 ∷ (o ++ 32 ∷ (k ++ 32 ∷ v))) is_c ∙ ap (λ words. c ∷ words) at_seq in
    let at_member : slice_split is_blank (i ++ 32 ∷ (c ++ 32 ∷ (s ++ 32 ∷ (o ++ 32 ∷ (k ++ 32 ∷ v))))) ≡ i ∷ c ∷ s ∷ o ∷ k ∷ v ∷ [] =
    number_first i member (c ++ 32 ∷ (s ++ 32 ∷ (o ++ 32 ∷ (k ++ 32 ∷ v)))) is_i ∙ ap (λ words. i ∷ words) at_client in
    ap (λ words. codes "call" ∷ words) at_member

passes_call : (shape : Shape) (member : ℕ) (i : Option ℕ) (said : Option Request) (r : Request) → i ≡ Some member → said ≡ Some r → member < members_of shape
    → call_of (member_of shape i) said ≡ Some (Call member r)
passes_call shape member i said r is_i is_said small =
    ap (λ o. call_of (member_of shape o) said) is_i ∙ ap (λ o. call_of o said) (passes member (members_of shape) small) ∙ ap (call_of (Some member)) is_said where
      passes : (member members : ℕ) → member < members → (if nat_lt member members then Some member else None) ≡ Some member
      passes member members small = grind (arith, nat_tests)

passes_tick : (shape : Shape) (i w : Option ℕ) (member word : ℕ) → i ≡ Some member → w ≡ Some word → member < members_of shape
    → tick_of shape i w ≡ Some (Tick member word)
passes_tick shape i w member word is_i is_w small =
    ap (λ o. tick_of shape o w) is_i ∙ ap (λ o. tick_of shape (Some member) o) is_w ∙ passes (nat_lt member (members_of shape)) (Tick member word) (below member (members_of shape) small) where
      passes : (test : Bool) (inner : Inner) → test ≡ true → (if test then Some inner else None) ≡ Some inner
      passes test inner h = ap (λ t. if t then Some inner else None) h

      below : (a b : ℕ) → a < b → nat_lt a b ≡ true
      below a b h = grind (arith, nat_tests)

passes_take : (m : Option ℕ) (frame : ℕ) → m ≡ Some frame → 1 ≤ frame → take_of m ≡ Some (Take frame)
passes_take m frame is_m first = ap take_of is_m ∙ passes (nat_le 1 frame) (Take frame) (above 1 frame first) where
  passes : (test : Bool) (inner : Inner) → test ≡ true → (if test then Some inner else None) ≡ Some inner
  passes test inner h = ap (λ t. if t then Some inner else None) h

  above : (a b : ℕ) → a ≤ b → nat_le a b ≡ true
  above a b h = grind (arith, nat_tests)

-- what the words of a line say that is to happen
abbrev pub inner_in : Shape → List ℕ → Option Inner
inner_in shape line = inner_of_words shape (slice_split is_blank line)

-- what is spelled is read
pub SpellsInner-read : (shape : Shape) (line : List ℕ) (inner : Inner) → SpellsInner line inner → IsInnerOf shape inner → inner_in shape line ≡ Some inner
SpellsInner-read shape line (Tick member word) (i, w, is_i, is_w, is) (inside, _, _) =
    ap (inner_in shape) is
    ∙ ap (inner_of_words shape) (tick_words i w member word is_i is_w)
    ∙ passes_tick shape (number_of i) (number_of w) member word (IsNumber-read i member is_i) (IsNumber-read w word is_w) inside
SpellsInner-read shape line (Take frame) (m, is_m, is) (first, _) =
    ap (inner_in shape) is
    ∙ ap (inner_of_words shape) (take_words m frame is_m)
    ∙ passes_take (number_of m) frame (IsNumber-read m frame is_m) first
SpellsInner-read shape line (Call member r) (i, c, s, o, is_i, is_c, is_s, is_o, is) (inside, _, ranges) =
    ap (inner_in shape) is
    ∙ ap (inner_of_words shape) (call_split i c s o member r is_i is_c is_s is_o ranges)
    ∙ passes_call shape member (number_of i) (request_in c s o (bytes_word r.key) (bytes_word r.value)) r (IsNumber-read i member is_i)
    (request_read c s o r is_c is_s is_o ranges) inside

-- what a test lets through
let_through : (test : Bool) (found : Option Inner) (inner : Inner) → (if test then found else None) ≡ Some inner → (test ≡ true) × (found ≡ Some inner)
let_through true found inner h = (refl, h)
let_through false found inner h = cc

ticked : (shape : Shape) (i w : Option ℕ) (inner : Inner) → tick_of shape i w ≡ Some inner
    → (member : ℕ) × (word : ℕ) × (i ≡ Some member) × (w ≡ Some word) × (member < members_of shape) × (Tick member word ≡ inner)
ticked shape None w inner h = cc
ticked shape (Some member) None inner h = cc
ticked shape (Some member) (Some word) inner h =
    let parts = let_through (nat_lt member (members_of shape)) (Some (Tick member word)) inner h in
    (member, word, refl, refl, below member (members_of shape) parts.0, cc (parts.1)) where
      below : (a b : ℕ) → nat_lt a b ≡ true → a < b
      below a b h = grind (arith, nat_tests)

took : (m : Option ℕ) (inner : Inner) → take_of m ≡ Some inner → (frame : ℕ) × (m ≡ Some frame) × (1 ≤ frame) × (Take frame ≡ inner)
took None inner h = cc
took (Some frame) inner h =
    let parts = let_through (nat_le 1 frame) (Some (Take frame)) inner h in
    (frame, refl, above 1 frame parts.0, cc (parts.1)) where
      above : (a b : ℕ) → nat_le a b ≡ true → a ≤ b
      above a b h = grind (arith, nat_tests)

called : (shape : Shape) (i : Option ℕ) (said : Option Request) (inner : Inner) → call_of (member_of shape i) said ≡ Some inner
    → (member : ℕ) × (r : Request) × (i ≡ Some member) × (said ≡ Some r) × (member < members_of shape) × (Call member r ≡ inner)
called shape None said inner h = cc
called shape (Some member) said inner h =
    let (inside, r, is_said, same) = by_test (nat_lt member (members_of shape)) said h in
    (member, r, refl, is_said, below member (members_of shape) inside, same) where
      by_test : (test : Bool) (said : Option Request) → call_of (if test then Some member else None) said ≡ Some inner
          → (test ≡ true) × (r : Request) × (said ≡ Some r) × (Call member r ≡ inner)
      by_test false said h = cc
      by_test true None h = cc
      by_test true (Some r) h = (refl, r, refl, cc)

      below : (a b : ℕ) → nat_lt a b ≡ true → a < b
      below a b h = grind (arith, nat_tests)

-- what is read is spelled, and in range
abbrev pub IsSpelled : Shape → List ℕ → Inner → Type 0
IsSpelled shape line inner = SpellsInner line inner × IsInnerOf shape inner

tick_spelled : (shape : Shape) (line name i w : List ℕ) (inner : Inner) → spaced (name ∷ i ∷ w ∷ []) ≡ line
    → tick_line shape name i w ≡ Some inner → IsSpelled shape line inner
tick_spelled shape line name i w inner is h =
    let parts = let_through (bytes_eq name (codes "tick")) (tick_of shape (number_of i) (number_of w)) inner h in
    let named = (bytes_eq-Decides name (codes "tick")).0 parts.0 in
    let (member, word, is_i, is_w, inside, same) = ticked shape (number_of i) (number_of w) inner parts.1 in
    let spells_i = read-IsNumber i member is_i in
    let spells_w = read-IsNumber w word is_w in
    let whole : line ≡ spaced (codes "tick" ∷ i ∷ w ∷ []) = sym is ∙ ap (λ first. spaced (first ∷ i ∷ w ∷ [])) named in
    subst (λ e. IsSpelled shape line e) same ((i, w, spells_i, spells_w, whole), (inside, IsNumber-small i member spells_i, IsNumber-small w word spells_w))

take_spelled : (shape : Shape) (line name m : List ℕ) (inner : Inner) → spaced (name ∷ m ∷ []) ≡ line
    → take_line name m ≡ Some inner → IsSpelled shape line inner
take_spelled shape line name m inner is h =
    let parts = let_through (bytes_eq name (codes "take")) (take_of (number_of m)) inner h in
    let named = (bytes_eq-Decides name (codes "take")).0 parts.0 in
    let (frame, is_m, first, same) = took (number_of m) inner parts.1 in
    let spells_m = read-IsNumber m frame is_m in
    let whole : line ≡ spaced (codes "take" ∷ m ∷ []) = sym is ∙ ap (λ start. spaced (start ∷ m ∷ [])) named in
    subst (λ e. IsSpelled shape line e) same ((m, spells_m, whole), (first, IsNumber-small m frame spells_m))

call_spelled : (shape : Shape) (line name i c s o k v : List ℕ) (inner : Inner) → spaced (name ∷ i ∷ c ∷ s ∷ o ∷ k ∷ v ∷ []) ≡ line
    → call_line shape name i c s o k v ≡ Some inner → IsSpelled shape line inner
call_spelled shape line name i c s o k v inner is h =
    let parts = let_through (bytes_eq name (codes "call")) (call_of (member_of shape (number_of i)) (request_in c s o k v)) inner h in
    let named = (bytes_eq-Decides name (codes "call")).0 parts.0 in
    let (member, r, is_i, is_said, inside, same) = called shape (number_of i) (request_in c s o k v) inner parts.1 in
    let spells_i = read-IsNumber i member is_i in
    let said : IsSaid c s o k v r = read_request c s o k v r is_said in
    let whole : line ≡ spaced (call_words i c s o r) =
    sym is ∙ ap (λ start. spaced (start ∷ i ∷ c ∷ s ∷ o ∷ k ∷ v ∷ [])) named
    ∙ ap (λ x. spaced (codes "call" ∷ i ∷ c ∷ s ∷ o ∷ x ∷ v ∷ [])) said.key
    ∙ ap (λ x. spaced (codes "call" ∷ i ∷ c ∷ s ∷ o ∷ bytes_word r.key ∷ x ∷ [])) said.value in
    subst (λ e. IsSpelled shape line e) same
    ((i, c, s, o, spells_i, said.client, said.seq, said.op, whole), (inside, IsNumber-small i member spells_i, said.inside))

pub inner_by_words : (shape : Shape) (line : List ℕ) (words : List (List ℕ)) (inner : Inner) → spaced words ≡ line
    → inner_of_words shape words ≡ Some inner → IsSpelled shape line inner
inner_by_words shape line [] inner is h = cc
inner_by_words shape line (name ∷ []) inner is h = cc
inner_by_words shape line (name ∷ m ∷ []) inner is h = take_spelled shape line name m inner is h
inner_by_words shape line (name ∷ i ∷ w ∷ []) inner is h = tick_spelled shape line name i w inner is h
inner_by_words shape line (name ∷ i ∷ c ∷ s ∷ []) inner is h = cc
inner_by_words shape line (name ∷ i ∷ c ∷ s ∷ o ∷ []) inner is h = cc
inner_by_words shape line (name ∷ i ∷ c ∷ s ∷ o ∷ k ∷ []) inner is h = cc
inner_by_words shape line (name ∷ i ∷ c ∷ s ∷ o ∷ k ∷ v ∷ []) inner is h = call_spelled shape line name i c s o k v inner is h
inner_by_words shape line (name ∷ i ∷ c ∷ s ∷ o ∷ k ∷ v ∷ more ∷ words) inner is h = cc

-- it has one spelling
pub one_inner : (line other : List ℕ) (inner : Inner) → SpellsInner line inner → SpellsInner other inner → line ≡ other
one_inner line other (Tick member word) (i, w, is_i, is_w, is) (j, v, is_j, is_v, as_well) =
    let same_i : i ≡ j = IsNumber-decimal i member is_i ∙ sym (IsNumber-decimal j member is_j) in
    let same_w : w ≡ v = IsNumber-decimal w word is_w ∙ sym (IsNumber-decimal v word is_v) in
    is ∙ ap (λ x. spaced (codes "tick" ∷ x ∷ w ∷ [])) same_i ∙ ap (λ x. spaced (codes "tick" ∷ j ∷ x ∷ [])) same_w ∙ sym as_well
one_inner line other (Take frame) (m, is_m, is) (l, is_l, as_well) =
    let same : m ≡ l = IsNumber-decimal m frame is_m ∙ sym (IsNumber-decimal l frame is_l) in
    is ∙ ap (λ x. spaced (codes "take" ∷ x ∷ [])) same ∙ sym as_well
one_inner line other (Call member r) (i, c, s, o, is_i, is_c, is_s, is_o, is) (j, d, t, p, is_j, is_d, is_t, is_p, as_well) =
    let same_i : i ≡ j = IsNumber-decimal i member is_i ∙ sym (IsNumber-decimal j member is_j) in
    let same_c : c ≡ d = IsNumber-decimal c r.client is_c ∙ sym (IsNumber-decimal d r.client is_d) in
    let same_s : s ≡ t = IsNumber-decimal s r.seq is_s ∙ sym (IsNumber-decimal t r.seq is_t) in
    is ∙ ap (λ x. spaced (call_words x c s o r)) same_i ∙ ap (λ x. spaced (call_words j x s o r)) same_c
    ∙ ap (λ x. spaced (call_words j d x o r)) same_s ∙ ap (λ x. spaced (call_words j d t x r)) (one_op o p r.op is_o is_p) ∙ sym as_well

-- and has one where it is in range
pub some_inner : (shape : Shape) (inner : Inner) → IsInnerOf shape inner → (line : List ℕ) × SpellsInner line inner
some_inner shape (Tick member word) (inside, small, fits) = (
  spaced (codes "tick" ∷ decimal member ∷ decimal word ∷ []),
  (decimal member, decimal word, decimal-IsNumber member small, decimal-IsNumber word fits, refl),
)
some_inner shape (Take frame) (first, fits) = (spaced (codes "take" ∷ decimal frame ∷ []), (decimal frame, decimal-IsNumber frame fits, refl))
some_inner shape (Call member r) (inside, small, ranges) =
    let (o, is_o) = some_op r.op ranges.asked ranges.expected in (
      spaced (call_words (decimal member) (decimal r.client) (decimal r.seq) o r),
      (
        decimal member,
        decimal r.client,
        decimal r.seq,
        o,
        decimal-IsNumber member small,
        decimal-IsNumber r.client (omega (arith, ranges.client.1)),
        decimal-IsNumber r.seq (omega (arith, ranges.seq.1)),
        is_o,
        refl,
      ),
    )
