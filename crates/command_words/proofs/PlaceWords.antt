-- A place as a word: what reads it and what spells it say the same.
use Rattle.std.proofs.Common.{◌≡◌, ℕ, ◌+◌, ◌*◌, ◌/◌, ◌%◌, ◌<◌, ◌≤◌, ◌^◌, List, [], ◌∷◌, ◌++◌, false, refl, ap, ◌∙◌, sym, arith, Option, None, Some}
use Rattle.std.specs.Prelude.{◌==◌}
use Rattle.std.specs.Fmt.{decimal}
use Rattle.std.specs.List.{All, join_with_byte, slice_split}
use Rattle.std.proofs.lemmas.List.Elements.{All-append, All-cons}
use Rattle.std.proofs.lemmas.List.Splits.{join_with_byte-slice_split}
use Rattle.world_model.specs.Calls.{number_within}
use Rattle.world_model.specs.Numbers.{number_of}
use Rattle.world_model.specs.Spelling.{IsNumber}
use Rattle.command_words.specs.Places.{octet_in, place_from, place_in, place_of_halves, place_of_octets, place_of_words, place_with}
use Rattle.command_words.specs.Spelling.{IsPlace, SpellsAddress, SpellsPlace, SpellsWithin}
use Rattle.command_words.proofs.NumberWords.{number_unmarked, one_number, part_first, part_last, read_within, some_within, within_read}

-- ---- what is spelled is read

points_split : (p q r s : List ℕ) (a b c d : ℕ) → IsNumber p a → IsNumber q b → IsNumber r c → IsNumber s d
    → slice_split (λ byte. byte == 46) (p ++ 46 ∷ (q ++ 46 ∷ (r ++ 46 ∷ s))) ≡ p ∷ q ∷ r ∷ s ∷ []
points_split p q r s a b c d is_a is_b is_c is_d =
    part_first 46 p (q ++ 46 ∷ (r ++ 46 ∷ s)) (number_unmarked 46 p a refl is_a)
    ∙ ap (λ parts. p ∷ parts) (part_first 46 q (r ++ 46 ∷ s) (number_unmarked 46 q b refl is_b))
    ∙ ap (λ parts. p ∷ q ∷ parts) (part_first 46 r s (number_unmarked 46 r c refl is_c))
    ∙ ap (λ parts. p ∷ q ∷ r ∷ parts) (part_last 46 s (number_unmarked 46 s d refl is_d))

no_colon : (p q r s : List ℕ) (a b c d : ℕ) → IsNumber p a → IsNumber q b → IsNumber r c → IsNumber s d
    → All (λ byte. (byte == 58) ≡ false) (p ++ 46 ∷ (q ++ 46 ∷ (r ++ 46 ∷ s)))
no_colon p q r s a b c d is_a is_b is_c is_d =
    before p (q ++ 46 ∷ (r ++ 46 ∷ s)) a is_a (before q (r ++ 46 ∷ s) b is_b (before r s c is_c (number_unmarked 58 s d refl is_d))) where
      before : (word rest : List ℕ) (n : ℕ) → IsNumber word n → All (λ byte. (byte == 58) ≡ false) rest
          → All (λ byte. (byte == 58) ≡ false) (word ++ 46 ∷ rest)
      before word rest n is h =
          All-append (λ byte. (byte == 58) ≡ false) word (46 ∷ rest) (number_unmarked 58 word n refl is)
          (All-cons (λ byte. (byte == 58) ≡ false) 46 rest refl h)

made : (a b c d port : Option ℕ) (v w x y z : ℕ) → a ≡ Some v → b ≡ Some w → c ≡ Some x → d ≡ Some y → port ≡ Some z
    → place_with a b c d port ≡ Some (place_from v w x y z)
made a b c d port v w x y z is_a is_b is_c is_d is_port =
    ap (λ o. place_with o b c d port) is_a ∙ ap (λ o. place_with (Some v) o c d port) is_b ∙ ap (λ o. place_with (Some v) (Some w) o d port) is_c
    ∙ ap (λ o. place_with (Some v) (Some w) (Some x) o port) is_d ∙ ap (λ o. place_with (Some v) (Some w) (Some x) (Some y) o) is_port

address_read : (h port : List ℕ) (a b c d n : ℕ) → SpellsAddress h a b c d → SpellsWithin 1 65535 port n
    → place_of_words h port ≡ Some (place_from a b c d n)
address_read h port a b c d n (p, q, r, s, is_a, is_b, is_c, is_d, is) is_port =
    ap (λ word. place_of_words word port) is
    ∙ ap (λ parts. place_of_octets parts port) (points_split p q r s a b c d is_a.0 is_b.0 is_c.0 is_d.0)
    ∙ made (octet_in p) (octet_in q) (octet_in r) (octet_in s) (number_within 1 65535 (number_of port)) a b c d n
    (within_read 0 255 p a is_a) (within_read 0 255 q b is_b) (within_read 0 255 r c is_c) (within_read 0 255 s d is_d) (within_read 1 65535 port n is_port)

colon_split : (h port : List ℕ) (a b c d n : ℕ) → SpellsAddress h a b c d → SpellsWithin 1 65535 port n
    → slice_split (λ byte. byte == 58) (h ++ 58 ∷ port) ≡ h ∷ port ∷ []
colon_split h port a b c d n (p, q, r, s, is_a, is_b, is_c, is_d, is) is_port =
    let free : All (λ byte. (byte == 58) ≡ false) h =
    All-at h (p ++ 46 ∷ (q ++ 46 ∷ (r ++ 46 ∷ s))) is (no_colon p q r s a b c d is_a.0 is_b.0 is_c.0 is_d.0) in
    part_first 58 h port free ∙ ap (λ parts. h ∷ parts) (part_last 58 port (number_unmarked 58 port n refl is_port.0)) where
      All-at : (word other : List ℕ) → word ≡ other → All (λ byte. (byte == 58) ≡ false) other → All (λ byte. (byte == 58) ≡ false) word
      All-at word other same free = rw same free

pub SpellsPlace-read : (word : List ℕ) (place : ℕ) → SpellsPlace word place → place_in word ≡ Some place
SpellsPlace-read word place (a, b, c, d, n, h, port, address, is_port, is, same) =
    ap place_in is ∙ ap place_of_halves (colon_split h port a b c d n address is_port)
    ∙ address_read h port a b c d n address is_port ∙ ap Some (sym same)

-- ---- what is read is spelled

placed : (a b c d port : Option ℕ) (place : ℕ) → place_with a b c d port ≡ Some place
    → (v : ℕ) × (w : ℕ) × (x : ℕ) × (y : ℕ) × (z : ℕ)
    × (a ≡ Some v) × (b ≡ Some w) × (c ≡ Some x) × (d ≡ Some y) × (port ≡ Some z) × (place ≡ place_from v w x y z)
placed None b c d port place h = cc
placed (Some v) None c d port place h = cc
placed (Some v) (Some w) None d port place h = cc
placed (Some v) (Some w) (Some x) None port place h = cc
placed (Some v) (Some w) (Some x) (Some y) None place h = cc
placed (Some v) (Some w) (Some x) (Some y) (Some z) place h = (v, w, x, y, z, refl, refl, refl, refl, refl, sym (taken (place_from v w x y z) h)) where
  taken : (found : ℕ) → Some found ≡ Some place → found ≡ place
  taken found h = cc

pub read-SpellsPlace : (word : List ℕ) (place : ℕ) → place_in word ≡ Some place → SpellsPlace word place
read-SpellsPlace word place read = by_halves (slice_split (λ byte. byte == 58) word) (join_with_byte-slice_split 58 word) read where
  by_octets : (octets : List (List ℕ)) (h port : List ℕ) → join_with_byte 46 octets ≡ h → join_with_byte 58 (h ∷ port ∷ []) ≡ word
      → place_of_octets octets port ≡ Some place → SpellsPlace word place
  by_octets [] h port is_h is read = cc
  by_octets (p ∷ []) h port is_h is read = cc
  by_octets (p ∷ q ∷ []) h port is_h is read = cc
  by_octets (p ∷ q ∷ r ∷ []) h port is_h is read = cc
  by_octets (p ∷ q ∷ r ∷ s ∷ []) h port is_h is read =
      let (a, b, c, d, n, is_a, is_b, is_c, is_d, is_n, same) =
      placed (octet_in p) (octet_in q) (octet_in r) (octet_in s) (number_within 1 65535 (number_of port)) place read in
      let address : SpellsAddress h a b c d =
      (p, q, r, s, read_within 0 255 p a is_a, read_within 0 255 q b is_b, read_within 0 255 r c is_c, read_within 0 255 s d is_d, sym is_h) in
      (a, b, c, d, n, h, port, address, read_within 1 65535 port n is_n, sym is, same)
  by_octets (p ∷ q ∷ r ∷ s ∷ t ∷ more) h port is_h is read = cc

  by_halves : (halves : List (List ℕ)) → join_with_byte 58 halves ≡ word → place_of_halves halves ≡ Some place → SpellsPlace word place
  by_halves [] is read = cc
  by_halves (h ∷ []) is read = cc
  by_halves (h ∷ port ∷ []) is read = by_octets (slice_split (λ byte. byte == 46) h) h port (join_with_byte-slice_split 46 h) is read
  by_halves (h ∷ port ∷ other ∷ more) is read = cc

-- ---- a place has one spelling, and has one where it is in range

by_octet : (high other low last : ℕ) → low ≤ 255 → last ≤ 255 → high * 256 + low ≡ other * 256 + last → (high ≡ other) × (low ≡ last)
by_octet high other low last small smaller same = (omega arith, omega arith)

by_port : (high other low last : ℕ) → low ≤ 65535 → last ≤ 65535 → high * 65536 + low ≡ other * 65536 + last → (high ≡ other) × (low ≡ last)
by_port high other low last small smaller same = (omega arith, omega arith)

pub one_place : (word other : List ℕ) (place : ℕ) → SpellsPlace word place → SpellsPlace other place → word ≡ other
one_place word other place (a, b, c, d, n, h, port, (p, q, r, s, is_a, is_b, is_c, is_d, is_h), is_n, is, same)
    (a', b', c', d', n', h', port', (p', q', r', s', is_a', is_b', is_c', is_d', is_h'), is_n', is', same') =
    let (all, same_n) = by_port (((a * 256 + b) * 256 + c) * 256 + d) (((a' * 256 + b') * 256 + c') * 256 + d') n n' is_n.2 is_n'.2 (sym same ∙ same') in
    let (three, same_d) = by_octet ((a * 256 + b) * 256 + c) ((a' * 256 + b') * 256 + c') d d' is_d.2 is_d'.2 all in
    let (two, same_c) = by_octet (a * 256 + b) (a' * 256 + b') c c' is_c.2 is_c'.2 three in
    let (same_a, same_b) = by_octet a a' b b' is_b.2 is_b'.2 two in
    let first : p ≡ p' = one_number p p' a a' is_a.0 is_a'.0 same_a in
    let second : q ≡ q' = one_number q q' b b' is_b.0 is_b'.0 same_b in
    let third : r ≡ r' = one_number r r' c c' is_c.0 is_c'.0 same_c in
    let fourth : s ≡ s' = one_number s s' d d' is_d.0 is_d'.0 same_d in
    let last : port ≡ port' = one_number port port' n n' is_n.0 is_n'.0 same_n in
    let address : h ≡ h' = is_h ∙ ap (λ x. x ++ 46 ∷ (q ++ 46 ∷ (r ++ 46 ∷ s))) first ∙ ap (λ x. p' ++ 46 ∷ (x ++ 46 ∷ (r ++ 46 ∷ s))) second
    ∙ ap (λ x. p' ++ 46 ∷ (q' ++ 46 ∷ (x ++ 46 ∷ s))) third ∙ ap (λ x. p' ++ 46 ∷ (q' ++ 46 ∷ (r' ++ 46 ∷ x))) fourth ∙ sym is_h' in
    is ∙ ap (λ x. x ++ 58 ∷ port) address ∙ ap (λ x. h' ++ 58 ∷ x) last ∙ sym is'

pub some_place : (place : ℕ) → IsPlace place → (word : List ℕ) × SpellsPlace word place
some_place place (address, port, small, first, last, same) =
    let three : ℕ = address / 256 in
    let two : ℕ = three / 256 in
    let a : ℕ = two / 256 in
    let b : ℕ = two % 256 in
    let c : ℕ = three % 256 in
    let d : ℕ = address % 256 in
    let whole : address ≡ ((a * 256 + b) * 256 + c) * 256 + d = in_octets address in
    let h : List ℕ = join_with_byte 46 (decimal a ∷ decimal b ∷ decimal c ∷ decimal d ∷ []) in
    let spelled : SpellsAddress h a b c d =
    (decimal a, decimal b, decimal c, decimal d, octet a (highest address small), octet b (omega arith), octet c (omega arith), octet d (omega arith), refl) in (
      join_with_byte 58 (h ∷ decimal port ∷ []),
      (a, b, c, d, port, h, decimal port, spelled, some_within 1 65535 port first last (omega arith), refl, same ∙ ap (λ x. x * 65536 + port) whole),
    ) where
      octet : (n : ℕ) → n ≤ 255 → SpellsWithin 0 255 (decimal n) n
      octet n high = some_within 0 255 n (omega arith) high (omega arith)

      in_octets : (address : ℕ) → address ≡ ((address / 256 / 256 / 256 * 256 + address / 256 / 256 % 256) * 256 + address / 256 % 256) * 256 + address % 256
      in_octets address = omega arith

      highest : (address : ℕ) → address < 2 ^ 32 → address / 256 / 256 / 256 ≤ 255
      highest address small = omega arith

-- a place that is spelled is in range
pub SpellsPlace-IsPlace : (word : List ℕ) (place : ℕ) → SpellsPlace word place → IsPlace place
SpellsPlace-IsPlace word place (a, b, c, d, n, h, port, (p, q, r, s, is_a, is_b, is_c, is_d, is_h), is_n, is, same) =
    (((a * 256 + b) * 256 + c) * 256 + d, n, below a b c d is_a.2 is_b.2 is_c.2 is_d.2, is_n.1, is_n.2, same) where
      below : (a b c d : ℕ) → a ≤ 255 → b ≤ 255 → c ≤ 255 → d ≤ 255 → ((a * 256 + b) * 256 + c) * 256 + d < 2 ^ 32
      below a b c d h i j k = omega arith
