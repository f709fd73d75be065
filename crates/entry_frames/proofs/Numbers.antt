-- A number that is read is spelled so, and what spells a number is read as it.
use Rattle.std.proofs.Common.{◌≡◌, ℕ, ◌+◌, ◌<◌, ◌≤◌, ◌⊎◌, Bool, true, false, cond, ltb, List, [], ◌∷◌, ◌++◌, length, get_or, take, drop, Result, Ok, Err, refl, sym, ap, subst, ◌∙◌, arith, inl, inr}
use Rattle.std.specs.Int.{w8, from_be_bytes, to_be_bytes}
use Rattle.std.proofs.lemmas.Bool.{cases_lt, ltb-false, le-ltb}
use Rattle.std.proofs.lemmas.List.{take_at, drop_at, take-append-drop, length-append, length-take, get_or-drop, get_or-take, get_or_past}
use Rattle.std.proofs.lemmas.Nat.{be_bytes_4, be_bytes_8, from_be_bytes-to_be_bytes_4, from_be_bytes-to_be_bytes_8}
use Rattle.entry_frames.specs.declared.fault.FrameFault.{FrameFault}
use Rattle.entry_frames.specs.declared.fault.FrameFault.TheVariants.{Short, Bad}
use Rattle.entry_frames.specs.Formats.{AreBytes, Unsigned, U8, U32, U64, width_of, limit_of, size_of, Cursor, Taken, behind, ◌>>=◌, number_bytes, counts_as, FitsNumber, any_number_at, in_range_at, number_at, bytes_at}

pub bytes-drop : (n : ℕ) (bytes : List ℕ) → AreBytes bytes → AreBytes (drop n bytes)
bytes-drop n bytes are = record { each = λ i. rw get_or-drop (are.each (n + i)) }

bytes-take : (n : ℕ) (bytes : List ℕ) → AreBytes bytes → AreBytes (take n bytes)
bytes-take n bytes are = record { each = λ i. below i (cases_lt i n) }
  where
    below : (i : ℕ) → (i < n) ⊎ (n ≤ i) → get_or (take n bytes) i 0 < 256
    below i (inl lt) = rw (get_or-take n bytes i 0 lt) (are.each i)
    below i (inr le) = rw (get_or_past (take n bytes) i 0 (omega (arith, length-take n bytes))) (omega arith)

-- the value of a step that didn't fail
pub bind_ok : {A B : Type 0} (r : Result A FrameFault) (f : A → Result B FrameFault) (y : B) → (r >>= f) ≡ Ok y → (x : A) × (r ≡ Ok x) × (f x ≡ Ok y)
bind_ok (Ok x) f y e = (x, refl, e)
bind_ok (Err d) f y e = absurd cc

-- a test that didn't fail, where it is one for going on, or one for giving up
pub passed : {A : Type 0} (b : Bool) (d : FrameFault) (x y : A) → cond b (Ok x) (Err d) ≡ Ok y → (b ≡ true) × (x ≡ y)
passed true d x y e = (refl, cc)
passed false d x y e = absurd cc

pub not_stopped : {A : Type 0} (b : Bool) (d : FrameFault) (x y : A) → cond b (Err d) (Ok x) ≡ Ok y → (b ≡ false) × (x ≡ y)
not_stopped true d x y e = absurd cc
not_stopped false d x y e = (refl, cc)

abbrev pub ok : {A : Type 0} → A → Result A FrameFault
ok x = Ok x

pub ok_is : {A : Type 0} (x y : A) → ok x ≡ ok y → x ≡ y
ok_is x y e = cc

-- what a width promises
record IsWidth (unsigned : Unsigned) : Type 0 where
  spelled : (n : ℕ) → length (to_be_bytes (width_of unsigned) n) ≡ size_of unsigned
  read_back : (bytes : List ℕ) → length bytes ≡ size_of unsigned → AreBytes bytes → to_be_bytes (width_of unsigned) (from_be_bytes (width_of unsigned) bytes) ≡ bytes
  read_again : (n : ℕ) → n < limit_of unsigned → from_be_bytes (width_of unsigned) (to_be_bytes (width_of unsigned) n) ≡ n
  below : (bytes : List ℕ) → AreBytes bytes → from_be_bytes (width_of unsigned) bytes < limit_of unsigned

-- a single byte
one_byte : (bytes : List ℕ) → length bytes ≡ 1 → AreBytes bytes → to_be_bytes w8 (from_be_bytes w8 bytes) ≡ bytes
one_byte [] e are = absurd (omega arith)
one_byte (byte ∷ []) e are = ap (λ (x : ℕ). x ∷ []) (omega (arith, are.each 0))
one_byte (byte ∷ other ∷ bytes) e are = absurd (omega arith)

is_width : (unsigned : Unsigned) → IsWidth unsigned
is_width U8 = record {
  spelled = λ n. refl;
  read_back = λ bytes len are. one_byte bytes len are;
  read_again = λ n lt. omega arith;
  below = λ bytes are. omega (arith, are.each 0);
}
is_width U32 = record {
  spelled = λ n. refl;
  read_back = λ bytes len are. be_bytes_4 bytes _ len are.each refl;
  read_again = λ n lt. from_be_bytes-to_be_bytes_4 n lt;
  below = λ bytes are. omega (arith, are.each 0, are.each 1, are.each 2, are.each 3);
}
is_width U64 = record {
  spelled = λ n. refl;
  read_back = λ bytes len are. be_bytes_8 bytes _ len are.each refl;
  read_again = λ n lt. from_be_bytes-to_be_bytes_8 n lt;
  below = λ bytes are. omega (arith, are.each 0, are.each 1, are.each 2, are.each 3, are.each 4, are.each 5, are.each 6, are.each 7);
}

-- What was taken from the bytes at a cursor: this text, and the cursor moved on by its length.
pub record Takes (text : List ℕ) (before after : Cursor) : Type 0 where
  pub split : before.rest ≡ text ++ after.rest
  pub moved : after.at ≡ before.at + length text
  pub left : AreBytes after.rest

-- the front and the cursor behind it
front_taken : (count : ℕ) (cursor : Cursor) → AreBytes cursor.rest → count ≤ length cursor.rest → Takes (take count cursor.rest) cursor (behind count cursor)
front_taken count cursor are long = record {
  split = sym (take-append-drop count cursor.rest);
  moved = omega (arith, length-take count cursor.rest);
  left = bytes-drop count cursor.rest are;
}

any_number_taken : (unsigned : Unsigned) (cursor : Cursor) (t : Taken ℕ) → AreBytes cursor.rest → any_number_at unsigned cursor ≡ Ok t
    → (t.value < limit_of unsigned) × Takes (to_be_bytes (width_of unsigned) t.value) cursor t.cursor
any_number_taken unsigned cursor t are e =
    let g = not_stopped (ltb (length cursor.rest) (size_of unsigned)) Short (record { value = from_be_bytes (width_of unsigned) (take (size_of unsigned) cursor.rest); cursor = behind (size_of unsigned) cursor }) t e in
    let long : size_of unsigned ≤ length cursor.rest = ltb-false _ _ g.0 in
    let front = take (size_of unsigned) cursor.rest in
    let are_front = bytes-take (size_of unsigned) cursor.rest are in
    let spelled : to_be_bytes (width_of unsigned) (from_be_bytes (width_of unsigned) front) ≡ front = (is_width unsigned).read_back front (omega (arith, length-take (size_of unsigned) cursor.rest)) are_front in
    let whole : (from_be_bytes (width_of unsigned) front < limit_of unsigned) × Takes (to_be_bytes (width_of unsigned) (from_be_bytes (width_of unsigned) front)) cursor (behind (size_of unsigned) cursor)
    = ((is_width unsigned).below front are_front, rw spelled (front_taken (size_of unsigned) cursor are long)) in
    subst (λ (x : Taken ℕ). (x.value < limit_of unsigned) × Takes (to_be_bytes (width_of unsigned) x.value) cursor x.cursor) g.1 whole

-- a number that was read
pub number_taken : (stands : Bool) (unsigned : Unsigned) (in_range : ℕ → Bool) (cursor : Cursor) (t : Taken ℕ) → AreBytes cursor.rest → number_at stands unsigned in_range cursor ≡ Ok t
    → FitsNumber stands unsigned in_range t.value × (counts_as stands t.value ≡ t.value) × Takes (number_bytes stands unsigned t.value) cursor t.cursor
number_taken false unsigned in_range cursor t are e =
    subst (λ (x : Taken ℕ). (x.value ≡ 0) × (0 ≡ x.value) × Takes [] cursor x.cursor) (ok_is (record { value = 0; cursor = cursor }) t e)
    (refl, refl, record { split = refl; moved = omega arith; left = are })
number_taken true unsigned in_range cursor t are e =
    let b = bind_ok (any_number_at unsigned cursor) (in_range_at in_range cursor.at) t e in
    let p = passed (in_range b.0.value) (Bad cursor.at) b.0 t b.2 in
    let taken = any_number_taken unsigned cursor b.0 are b.1 in
    subst (λ (x : Taken ℕ). ((x.value < limit_of unsigned) × (in_range x.value ≡ true)) × (x.value ≡ x.value) × Takes (to_be_bytes (width_of unsigned) x.value) cursor x.cursor) p.1
    ((taken.0, p.0), refl, taken.1)

-- bytes that were read
pub bytes_taken : (count : ℕ) (cursor : Cursor) (t : Taken (List ℕ)) → AreBytes cursor.rest → bytes_at count cursor ≡ Ok t
    → (length t.value ≡ count) × Takes t.value cursor t.cursor
bytes_taken count cursor t are e =
    let g = not_stopped (ltb (length cursor.rest) count) Short (record { value = take count cursor.rest; cursor = behind count cursor }) t e in
    let long : count ≤ length cursor.rest = ltb-false _ _ g.0 in
    let whole : (length (take count cursor.rest) ≡ count) × Takes (take count cursor.rest) cursor (behind count cursor)
    = (omega (arith, length-take count cursor.rest), front_taken count cursor are long) in
    subst (λ (x : Taken (List ℕ)). (length x.value ≡ count) × Takes x.value cursor x.cursor) g.1 whole

-- text that stands at the front is long enough, and what is behind it is the rest
front_again : {A : Type 0} (text : List ℕ) (count at : ℕ) (rest : List ℕ) (make : List ℕ → A) → length text ≡ count
    → cond {A = Result (Taken A) FrameFault} (ltb (length (text ++ rest)) count) (Err Short) (Ok (record { value = make (take count (text ++ rest)); cursor = behind count (record { at = at; rest = text ++ rest }) }))
    ≡ ok (record { value = make text; cursor = record { at = at + count; rest = rest } })
front_again text count at rest make e =
    let long : ltb (length (text ++ rest)) count ≡ false = le-ltb _ _ (omega (arith, length-append text rest)) in
    rw (long, take_at text rest count e, drop_at text rest count e) refl

-- a number is read again from its spelling
pub number_again : (stands : Bool) (unsigned : Unsigned) (in_range : ℕ → Bool) (n at : ℕ) (rest : List ℕ) → FitsNumber stands unsigned in_range n
    → number_at stands unsigned in_range (record { at = at; rest = number_bytes stands unsigned n ++ rest })
    ≡ Ok (record { value = counts_as stands n; cursor = record { at = at + length (number_bytes stands unsigned n); rest = rest } })
number_again false unsigned in_range n at rest fits = ap (λ (x : ℕ). ok (record { value = 0; cursor = record { at = x; rest = rest } })) (omega arith)
number_again true unsigned in_range n at rest fits =
    let text = to_be_bytes (width_of unsigned) n in
    let len : length text ≡ size_of unsigned = (is_width unsigned).spelled n in
    let any : any_number_at unsigned (record { at = at; rest = text ++ rest }) ≡ ok (record { value = n; cursor = record { at = at + length text; rest = rest } })
    = front_again text (size_of unsigned) at rest (from_be_bytes (width_of unsigned)) len
    ∙ ap (λ (x : ℕ). ok (record { value = x; cursor = record { at = at + size_of unsigned; rest = rest } })) ((is_width unsigned).read_again n fits.0)
    ∙ ap (λ (x : ℕ). ok (record { value = n; cursor = record { at = at + x; rest = rest } })) (sym len) in
    rw (any, fits.1) refl

pub bytes_again : (bytes : List ℕ) (at : ℕ) (rest : List ℕ)
    → bytes_at (length bytes) (record { at = at; rest = bytes ++ rest }) ≡ Ok (record { value = bytes; cursor = record { at = at + length bytes; rest = rest } })
bytes_again bytes at rest = front_again bytes (length bytes) at rest (λ text. text) refl
