-- The words of the command line are bytes, since they are texts.
use Rattle.std.proofs.Common.{◌≡◌, ℕ, zero, suc, ◌+◌, ◌/◌, ◌<◌, List, [], ◌∷◌, ◌++◌, Bool, true, false, cond, get_or, map, IsUtf8, inl, inr, refl, subst, arith, ltb-true}
use Rattle.std.specs.Prelude.{slice_index, string_bytes, nat_lt}
use Rattle.std.specs.declared.string.String.{String}
use Rattle.std.proofs.lemmas.List.Elements.{All-map}
use Rattle.std.proofs.lemmas.Str.{IsUtf8-string_bytes}
use lib.Utf8.{scalar, scalars, scalar_cases, next, encode, encodes}
use Rattle.entry_frames.specs.Formats.{AreBytes}
use Rattle.world_model.proofs.Spelling.{both_parts}
use Rattle.command_words.specs.Spelling.{AreWords}

abbrev Small : List ℕ → Type 0
Small bytes = (i : ℕ) → slice_index bytes i < 256

none : Small []
none i = omega arith

onto : (x : ℕ) (xs : List ℕ) → x < 256 → Small xs → Small (x ∷ xs)
onto x xs small h zero = small
onto x xs small h (suc i) = h i

joined : (xs ys : List ℕ) → Small xs → Small ys → Small (xs ++ ys)
joined [] ys h k = k
joined (x ∷ xs) ys h k = onto x (xs ++ ys) (h 0) (joined xs ys (λ i. h (suc i)) k)

next_small : (bits : ℕ) → next bits < 256
next_small bits = omega arith

encoded : (c : ℕ) → c < 1114112 → Small (encode c)
unfolding encode
encoded c small = by_test (nat_lt c 128) (nat_lt c 2048) (nat_lt c 65536) refl refl refl where
  by_test : (one two three : Bool) → nat_lt c 128 ≡ one → nat_lt c 2048 ≡ two → nat_lt c 65536 ≡ three
      → Small (cond one (c ∷ []) (cond two ((192 + c / 64) ∷ next c ∷ [])
      (cond three ((224 + c / 4096) ∷ next (c / 64) ∷ next c ∷ []) ((240 + c / 262144) ∷ next (c / 4096) ∷ next (c / 64) ∷ next c ∷ []))))
  by_test true two three is_one is_two is_three =
      let below : c < 128 = ltb-true c 128 is_one in
      onto c [] (omega arith) none
  by_test false true three is_one is_two is_three =
      let below : c < 2048 = ltb-true c 2048 is_two in
      onto (192 + c / 64) (next c ∷ []) (omega arith) (onto (next c) [] (next_small c) none)
  by_test false false true is_one is_two is_three =
      let below : c < 65536 = ltb-true c 65536 is_three in
      onto (224 + c / 4096) (next (c / 64) ∷ next c ∷ []) (omega arith)
      (onto (next (c / 64)) (next c ∷ []) (next_small (c / 64)) (onto (next c) [] (next_small c) none))
  by_test false false false is_one is_two is_three =
      onto (240 + c / 262144) (next (c / 4096) ∷ next (c / 64) ∷ next c ∷ []) (omega arith)
      (onto (next (c / 4096)) (next (c / 64) ∷ next c ∷ []) (next_small (c / 4096))
      (onto (next (c / 64)) (next c ∷ []) (next_small (c / 64)) (onto (next c) [] (next_small c) none)))

scalar_small : (c : ℕ) → scalar c ≡ true → c < 1114112
scalar_small c h = elim (scalar_cases c h) [ inl low ↦ omega arith | inr high ↦ high.1 ]

all_encoded : (cs : List ℕ) → scalars cs ≡ true → Small (encodes cs)
all_encoded [] h = none
all_encoded (c ∷ cs) h =
    let parts = both_parts (scalar c) (scalars cs) h in
    joined (encode c) (encodes cs) (encoded c (scalar_small c parts.0)) (all_encoded cs parts.1)

pub text_is_bytes : (bytes : List ℕ) → IsUtf8 bytes → AreBytes bytes
text_is_bytes bytes (cs, (are, same)) = subst AreBytes same (record { each = all_encoded cs are })

pub texts_are_words : {Z : Type 0} (texts : List (String Z)) → AreWords (map string_bytes texts)
texts_are_words {Z} texts = All-map AreBytes string_bytes texts (λ k d below. one (get_or texts k d)) where
  one : (text : String Z) → AreBytes (string_bytes text)
  one text = text_is_bytes (string_bytes text) (IsUtf8-string_bytes text)
