-- The mask of entries, one by one.
use Rattle.std.proofs.Common.{◌≡◌, ℕ, suc, ◌+◌, ◌*◌, ◌^◌, ◌<◌, ◌≤◌, List, [], ◌∷◌, ◌++◌, length, Bool, true, false, refl, ap, ◌∙◌, arith}
use Rattle.std.specs.Prelude.{◌==◌, if◌then◌else◌}
use Rattle.std.proofs.Math.Nat.{pow-succ'}
use Rattle.craft_base.specs.declared.command.Entry.{Entry}
use Rattle.craft_base.specs.declared.command.Form.{Form}
use Rattle.craft_base.specs.declared.command.Form.TheVariants as forms
use Rattle.entry_frames.specs.Entries as entries
use Rattle.full_append.specs.Comparisons.{entries_after}
use Rattle.full_append.proofs.Comparing.{after_same, after_other}
use Rattle.world_model.specs.Quorums.{is_whole}
use Rattle.world_model.specs.Rules.Append.{mask_of}

abbrev pub bit_of : Entry → ℕ
bit_of e = if is_whole e.form then 1 else 0

same_whole : (form : Form) → entries.is_whole form ≡ is_whole form
same_whole (forms.Whole bytes) = refl
same_whole (forms.Part bytes) = refl

pub same_bit : (e : Entry) → (if entries.is_whole e.form then 1 else 0) ≡ bit_of e
same_bit e = ap (λ (b : Bool). if b then 1 else 0) (same_whole e.form)

bit_small : (b : Bool) → (if b then 1 else 0) ≤ 1
bit_small true = omega arith
bit_small false = omega arith

doubled : (b : Bool) (p : ℕ) → (if b then 1 else 0) * (2 * p) ≡ 2 * ((if b then 1 else 0) * p)
doubled true p = omega arith
doubled false p = omega arith

pub mask_more : (es : List Entry) (e : Entry) → mask_of (es ++ e ∷ []) ≡ mask_of es + bit_of e * 2 ^ length es
mask_more [] e = one (is_whole e.form) where
  one : (b : Bool) → (if b then 1 else 0) + 2 * 0 ≡ 0 + (if b then 1 else 0) * 1
  one true = refl
  one false = refl
mask_more (x ∷ es) e =
    let p = 2 ^ length es in
    let power : 2 ^ suc (length es) ≡ 2 * p = pow-succ' 2 (length es) in
    let twice : bit_of e * (2 * p) ≡ 2 * (bit_of e * p) = doubled (is_whole e.form) p in
    let scaled : bit_of e * 2 ^ suc (length es) ≡ 2 * (bit_of e * p) = ap (λ q. bit_of e * q) power ∙ twice in
    ap (λ m. bit_of x + 2 * m) (mask_more es e) ∙ sums (bit_of x) (mask_of es) (bit_of e * p) (bit_of e * 2 ^ suc (length es)) scaled where
      sums : (a m t u : ℕ) → u ≡ 2 * t → a + 2 * (m + t) ≡ a + 2 * m + u
      sums a m t u is = omega (arith, is)

pub mask_small : (es : List Entry) → mask_of es < 2 ^ length es
mask_small [] = omega arith
mask_small (x ∷ es) = bounded (bit_of x) (mask_of es) (2 ^ length es) (2 ^ suc (length es)) (bit_small (is_whole x.form)) (mask_small es) (pow-succ' 2 (length es)) where
  bounded : (b m p q : ℕ) → b ≤ 1 → m < p → q ≡ 2 * p → b + 2 * m < q
  bounded b m p q low less is = omega (arith, low, less, is)

pub as_many : (log es : List Entry) → length (entries_after log es) ≡ length es
as_many [] es = refl
as_many (own ∷ log) [] = refl
as_many (own ∷ log) (e ∷ es) = one (own.term == e.term) refl (as_many log es) where
  one : (b : Bool) → (own.term == e.term) ≡ b → length (entries_after log es) ≡ length es → length (entries_after (own ∷ log) (e ∷ es)) ≡ suc (length es)
  one true t rest = ap length (after_same own e log es t) ∙ ap suc rest
  one false t rest = ap length (after_other own e log es t)
