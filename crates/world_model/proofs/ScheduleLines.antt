-- Lines of a schedule: what reads a line and what spells it say the same.
use Rattle.std.proofs.Common.{◌≡◌, ℕ, zero, suc, ◌<◌, ◌≤◌, ◌^◌, List, [], ◌∷◌, ◌++◌, Bool, true, false, refl, ap, ◌∙◌, sym, subst, arith, Option, None, Some}
use Rattle.std.specs.Prelude.{◌==◌, ◌&&◌, ◌↔◌, nat_le, nat_lt, codes, if◌then◌else◌}
use Rattle.std.specs.Fmt.{decimal}
use Rattle.std.specs.List.{slice_split}
use Rattle.std.specs.Option.{option_map}
use Rattle.std.specs.Str.{bytes_eq}
use Rattle.std.proofs.lemmas.Bool.Decides.{nat_tests}
use Rattle.std.proofs.lemmas.List.Splits.{join_with_byte-slice_split}
use Rattle.std.proofs.lemmas.Slice.Eq.{bytes_eq-Decides}
use Rattle.craft_base.specs.Shape.{Shape, members_of}
use Rattle.world_model.specs.Numbers.{number_of}
use Rattle.world_model.specs.Schedule.{inner_of_words, line_in, line_of_words, member_of, member_of_words, stop_of, stop_of_words}
use Rattle.world_model.specs.Spelling.{IsNumber, IsLineOf, IsMemberOf, SpellsLine, SpellsMember, keep_word, spaced}
use Rattle.world_model.specs.declared.line.Inner.{Inner}
use Rattle.world_model.specs.declared.line.Inner.TheVariants.{Tick, Take, Call}
use Rattle.world_model.specs.declared.line.Line.{Line}
use Rattle.world_model.specs.declared.line.Line.TheVariants.{Do, Down, Up, Show, Stop}
use Rattle.world_model.proofs.InnerLines.{is_blank, call_split, call_words, inner_in, number_first, number_last, tick_words, take_words, SpellsInner-read, inner_by_words, one_inner, some_inner}
use Rattle.world_model.proofs.Spelling.{IsNumber-small, IsNumber-decimal, IsNumber-read, read-IsNumber, decimal-IsNumber}

-- ---- what is spelled is read

by_words : (shape : Shape) (text : List ℕ) (words : List (List ℕ)) → slice_split is_blank text ≡ words → line_in shape text ≡ line_of_words shape words
by_words shape text words are = ap (line_of_words shape) are

-- what happens to a member has a name of its own
done_read : (shape : Shape) (text : List ℕ) (words : List (List ℕ)) (inner : Inner) → slice_split is_blank text ≡ words
    → line_of_words shape words ≡ option_map Do (inner_of_words shape words) → inner_in shape text ≡ Some inner → line_in shape text ≡ Some (Do inner)
done_read shape text words inner are named read =
    by_words shape text words are ∙ named ∙ ap (λ ws. option_map Do (inner_of_words shape ws)) (sym are) ∙ ap (option_map Do) read

member_read : (shape : Shape) (i : List ℕ) (member : ℕ) → IsNumber i member → IsMemberOf shape member → member_of_words shape (i ∷ []) ≡ Some member
member_read shape i member is (inside, _) = ap (member_of shape) (IsNumber-read i member is) ∙ passes member (members_of shape) inside where
  passes : (member members : ℕ) → member < members → (if nat_lt member members then Some member else None) ≡ Some member
  passes member members inside = grind (arith, nat_tests)

-- what is kept, as a number
abbrev digit_of : Bool → ℕ
digit_of false = 0
digit_of true = 1

keep_word-IsNumber : (keep : Bool) → IsNumber (keep_word keep) (digit_of keep)
keep_word-IsNumber false = (omega arith, refl)
keep_word-IsNumber true = (omega arith, refl)

stop_words : (c e : List ℕ) (call : ℕ) (keep : Bool) → IsNumber c call
    → slice_split is_blank (spaced (codes "stop" ∷ c ∷ keep_word keep ∷ e ∷ [])) ≡ codes "stop" ∷ c ∷ keep_word keep ∷ slice_split is_blank e
stop_words c e call keep is_c =
    let digit : slice_split is_blank (keep_word keep ++ 32 ∷ e) ≡ keep_word keep ∷ slice_split is_blank e =
    number_first (keep_word keep) (digit_of keep) e (keep_word-IsNumber keep) in
    let after : slice_split is_blank (c ++ 32 ∷ (keep_word keep ++ 32 ∷ e)) ≡ c ∷ keep_word keep ∷ slice_split is_blank e =
    number_first c call (keep_word keep ++ 32 ∷ e) is_c ∙ ap (λ words. c ∷ words) digit in
    ap (λ words. codes "stop" ∷ words) after

passes_stop : (call : ℕ) (keep : Bool) (inner : Inner) → 1 ≤ call → call ≤ 4 → stop_of (Some call) (Some (digit_of keep)) (Some inner) ≡ Some (Stop call keep inner)
passes_stop call keep inner first last = passes (nat_le 1 call && nat_le call 4) keep (both call first last) where
  both : (call : ℕ) → 1 ≤ call → call ≤ 4 → (nat_le 1 call && nat_le call 4) ≡ true
  both call first last = grind (arith, nat_tests)

  passes : (test keep : Bool) → test ≡ true
      → (if test && nat_le (digit_of keep) 1 then Some (Stop call (digit_of keep == 1) inner) else None) ≡ Some (Stop call keep inner)
  passes true false h = refl
  passes true true h = refl
  passes false keep h = cc

stop_read : (shape : Shape) (c d : List ℕ) (words : List (List ℕ)) (call : ℕ) (keep : Bool) (inner : Inner) → number_of c ≡ Some call
    → number_of d ≡ Some (digit_of keep) → inner_of_words shape words ≡ Some inner → 1 ≤ call → call ≤ 4
    → stop_of_words shape (c ∷ d ∷ words) ≡ Some (Stop call keep inner)
stop_read shape c d words call keep inner is_c is_d is_inner first last =
    ap (λ o. stop_of o (number_of d) (inner_of_words shape words)) is_c
    ∙ ap (λ o. stop_of (Some call) o (inner_of_words shape words)) is_d
    ∙ ap (stop_of (Some call) (Some (digit_of keep))) is_inner
    ∙ passes_stop call keep inner first last

pub SpellsLine-read : (shape : Shape) (text : List ℕ) (line : Line) → SpellsLine text line → IsLineOf shape line → line_in shape text ≡ Some line
SpellsLine-read shape text (Do (Tick member word)) (i, w, is_i, is_w, is) inside =
    done_read shape text (codes "tick" ∷ i ∷ w ∷ []) (Tick member word) (ap (slice_split is_blank) is ∙ tick_words i w member word is_i is_w) refl
    (SpellsInner-read shape text (Tick member word) (i, w, is_i, is_w, is) inside)
SpellsLine-read shape text (Do (Take frame)) (m, is_m, is) inside =
    done_read shape text (codes "take" ∷ m ∷ []) (Take frame) (ap (slice_split is_blank) is ∙ take_words m frame is_m) refl
    (SpellsInner-read shape text (Take frame) (m, is_m, is) inside)
SpellsLine-read shape text (Do (Call member r)) (i, c, s, o, is_i, is_c, is_s, is_o, is) inside =
    done_read shape text (call_words i c s o r) (Call member r) (ap (slice_split is_blank) is ∙ call_split i c s o member r is_i is_c is_s is_o inside.2) refl
    (SpellsInner-read shape text (Call member r) (i, c, s, o, is_i, is_c, is_s, is_o, is) inside)
SpellsLine-read shape text (Down member) (i, is_i, is) inside =
    let words : slice_split is_blank text ≡ codes "down" ∷ i ∷ [] = ap (slice_split is_blank) is ∙ ap (λ ws. codes "down" ∷ ws) (number_last i member is_i) in
    by_words shape text (codes "down" ∷ i ∷ []) words ∙ ap (option_map Down) (member_read shape i member is_i inside)
SpellsLine-read shape text (Up member) (i, is_i, is) inside =
    let words : slice_split is_blank text ≡ codes "up" ∷ i ∷ [] = ap (slice_split is_blank) is ∙ ap (λ ws. codes "up" ∷ ws) (number_last i member is_i) in
    by_words shape text (codes "up" ∷ i ∷ []) words ∙ ap (option_map Up) (member_read shape i member is_i inside)
SpellsLine-read shape text (Show member) (i, is_i, is) inside =
    let words : slice_split is_blank text ≡ codes "show" ∷ i ∷ [] = ap (slice_split is_blank) is ∙ ap (λ ws. codes "show" ∷ ws) (number_last i member is_i) in
    by_words shape text (codes "show" ∷ i ∷ []) words ∙ ap (option_map Show) (member_read shape i member is_i inside)
SpellsLine-read shape text (Stop call keep inner) (c, e, is_c, is_e, is) (first, last, inside) =
    let words : slice_split is_blank text ≡ codes "stop" ∷ c ∷ keep_word keep ∷ slice_split is_blank e = ap (slice_split is_blank) is ∙ stop_words c e call keep is_c in
    by_words shape text (codes "stop" ∷ c ∷ keep_word keep ∷ slice_split is_blank e) words
    ∙ stop_read shape c (keep_word keep) (slice_split is_blank e) call keep inner (IsNumber-read c call is_c)
    (IsNumber-read (keep_word keep) (digit_of keep) (keep_word-IsNumber keep)) (SpellsInner-read shape e inner is_e inside) first last

-- ---- what is read is spelled, and in range

abbrev IsSpelledLine : Shape → List ℕ → Line → Type 0
IsSpelledLine shape text line = SpellsLine text line × IsLineOf shape line

-- what a word with a member makes
mapped : (make : ℕ → Line) (found : Option ℕ) (line : Line) → option_map make found ≡ Some line → (member : ℕ) × (found ≡ Some member) × (make member ≡ line)
mapped make None line h = cc
mapped make (Some member) line h = (member, refl, cc h)

member_spelled : (shape : Shape) (text name : List ℕ) (words : List (List ℕ)) (member : ℕ) → spaced (name ∷ words) ≡ text
    → member_of_words shape words ≡ Some member → SpellsMember name text member × IsMemberOf shape member
member_spelled shape text name [] member is h = cc
member_spelled shape text name (i ∷ more ∷ words) member is h = cc
member_spelled shape text name (i ∷ []) member is h =
    let (number, inside) = given (number_of i) member h in
    let spelled = read-IsNumber i member number in
    ((i, spelled, sym is), (inside, IsNumber-small i member spelled)) where
      within : (found members member : ℕ) → (if nat_lt found members then Some found else None) ≡ Some member → (found ≡ member) × (member < members)
      within found members member h = grind (arith, nat_tests)

      given : (number : Option ℕ) (member : ℕ) → member_of shape number ≡ Some member → (number ≡ Some member) × (member < members_of shape)
      given None member h = cc
      given (Some found) member h =
          let parts = within found (members_of shape) member h in
          (ap (λ m. Some m) parts.0, parts.1)

-- what stands behind `stop`
abbrev Stopped : Option ℕ → Option ℕ → Option Inner → Line → Type 0
Stopped c d e line =
    (call : ℕ) × (digit : ℕ) × (inner : Inner) × (c ≡ Some call) × (d ≡ Some digit) × (e ≡ Some inner)
    × (1 ≤ call) × (call ≤ 4) × (digit ≤ 1) × (Stop call (digit == 1) inner ≡ line)

stopped : (c d : Option ℕ) (e : Option Inner) (line : Line) → stop_of c d e ≡ Some line → Stopped c d e line
stopped None d e line h = cc
stopped (Some call) None e line h = cc
stopped (Some call) (Some digit) None line h = cc
stopped (Some call) (Some digit) (Some inner) line h =
    let (first, last, small, same) = within call digit (Stop call (digit == 1) inner) line h in
    (call, digit, inner, refl, refl, refl, first, last, small, same) where
      within : (call digit : ℕ) (made line : Line) → (if nat_le 1 call && nat_le call 4 && nat_le digit 1 then Some made else None) ≡ Some line
          → (1 ≤ call) × (call ≤ 4) × (digit ≤ 1) × (made ≡ line)
      within call digit made line h = grind (arith, nat_tests)

-- a digit has one spelling
keep_is : (d : List ℕ) (digit : ℕ) → IsNumber d digit → digit ≤ 1 → d ≡ keep_word (digit == 1)
keep_is d zero is small = IsNumber-decimal d 0 is ∙ sym (IsNumber-decimal (codes "0") 0 (keep_word-IsNumber false))
keep_is d (suc zero) is small = IsNumber-decimal d 1 is ∙ sym (IsNumber-decimal (codes "1") 1 (keep_word-IsNumber true))
keep_is d (suc (suc digit)) is small = absurd (omega (arith, small))

stop_spelled : (shape : Shape) (text : List ℕ) (words : List (List ℕ)) (line : Line) → spaced (codes "stop" ∷ words) ≡ text
    → stop_of_words shape words ≡ Some line → IsSpelledLine shape text line
stop_spelled shape text [] line is h = cc
stop_spelled shape text (c ∷ []) line is h = cc
stop_spelled shape text (c ∷ d ∷ []) line is h = let s = stopped (number_of c) (number_of d) None line h in none_else s.2 s.5 where
  none_else : (inner : Inner) → None ≡ Some inner → IsSpelledLine shape text line
  none_else inner h = cc
stop_spelled shape text (c ∷ d ∷ name ∷ words) line is h =
    let (call, digit, inner, is_c, is_d, is_e, first, last, small, same) = stopped (number_of c) (number_of d) (inner_of_words shape (name ∷ words)) line h in
    let (spelled, inside) = inner_by_words shape (spaced (name ∷ words)) (name ∷ words) inner refl is_e in
    let kept : d ≡ keep_word (digit == 1) = keep_is d digit (read-IsNumber d digit is_d) small in
    let whole : text ≡ spaced (codes "stop" ∷ c ∷ keep_word (digit == 1) ∷ spaced (name ∷ words) ∷ []) =
    sym is ∙ ap (λ w. spaced (codes "stop" ∷ c ∷ w ∷ spaced (name ∷ words) ∷ [])) kept in
    subst (λ l. IsSpelledLine shape text l) same ((c, spaced (name ∷ words), read-IsNumber c call is_c, spelled, whole), (first, last, inside))

undone : (found : Option Inner) (line : Line) → option_map Do found ≡ Some line → (inner : Inner) × (found ≡ Some inner) × (Do inner ≡ line)
undone None line h = cc
undone (Some inner) line h = (inner, refl, cc h)

named : (shape : Shape) (text name : List ℕ) (words : List (List ℕ)) (line : Line) → spaced (name ∷ words) ≡ text
    → line_of_words shape (name ∷ words) ≡ Some line → IsSpelledLine shape text line
named shape text name words line is = by_name (bytes_eq name (codes "down")) (bytes_eq name (codes "up")) (bytes_eq name (codes "show")) (bytes_eq name (codes "stop")) refl refl refl refl where
  of_member : (make : ℕ → Line) (word : List ℕ) → ((member : ℕ) → SpellsMember word text member → IsMemberOf shape member → IsSpelledLine shape text (make member))
      → bytes_eq name word ≡ true → option_map make (member_of_words shape words) ≡ Some line → IsSpelledLine shape text line
  of_member make word spells is_word h =
      let (member, found, same) = mapped make (member_of_words shape words) line h in
      let (spelled, inside) = member_spelled shape text name words member is found in
      let same_word : name ≡ word = (bytes_eq-Decides name word).0 is_word in
      subst (λ l. IsSpelledLine shape text l) same (spells member (subst (λ w. SpellsMember w text member) same_word spelled) inside)

  by_name : (down up show stop : Bool) → bytes_eq name (codes "down") ≡ down → bytes_eq name (codes "up") ≡ up → bytes_eq name (codes "show") ≡ show
      → bytes_eq name (codes "stop") ≡ stop
      → (if down then option_map Down (member_of_words shape words)
      else if up then option_map Up (member_of_words shape words)
      else if show then option_map Show (member_of_words shape words)
      else if stop then stop_of_words shape words
      else option_map Do (inner_of_words shape (name ∷ words))) ≡ Some line
      → IsSpelledLine shape text line
  by_name true up show stop is_down is_up is_show is_stop h = of_member Down (codes "down") (λ member spelled inside. (spelled, inside)) is_down h
  by_name false true show stop is_down is_up is_show is_stop h = of_member Up (codes "up") (λ member spelled inside. (spelled, inside)) is_up h
  by_name false false true stop is_down is_up is_show is_stop h = of_member Show (codes "show") (λ member spelled inside. (spelled, inside)) is_show h
  by_name false false false true is_down is_up is_show is_stop h =
      let word : name ≡ codes "stop" = (bytes_eq-Decides name (codes "stop")).0 is_stop in
      stop_spelled shape text words line (ap (λ w. spaced (w ∷ words)) (sym word) ∙ is) h
  by_name false false false false is_down is_up is_show is_stop h =
      let (inner, found, same) = undone (inner_of_words shape (name ∷ words)) line h in
      subst (λ l. IsSpelledLine shape text l) same (inner_by_words shape text (name ∷ words) inner is found)

pub read-SpellsLine : (shape : Shape) (text : List ℕ) (line : Line) → line_in shape text ≡ Some line → SpellsLine text line × IsLineOf shape line
read-SpellsLine shape text line read = by_split (slice_split is_blank text) (join_with_byte-slice_split 32 text) read where
  by_split : (words : List (List ℕ)) → spaced words ≡ text → line_of_words shape words ≡ Some line → IsSpelledLine shape text line
  by_split [] is read = cc
  by_split (name ∷ words) is read = named shape text name words line is read

-- a text is a line exactly where it spells one in range
pub text_is_line : (shape : Shape) (text : List ℕ) (line : Line) → (line_in shape text ≡ Some line) ↔ (SpellsLine text line × IsLineOf shape line)
text_is_line shape text line = (read-SpellsLine shape text line, λ h. SpellsLine-read shape text line h.0 h.1)

-- and else none
pub text_is_none : (shape : Shape) (text : List ℕ) → (line_in shape text ≡ None) ↔ ((line : Line) → SpellsLine text line → IsLineOf shape line → ⊥)
text_is_none shape text = (
  λ none line spelled inside. not_both (line_in shape text) line none (SpellsLine-read shape text line spelled inside),
  λ never. none_else (line_in shape text) (λ line h. let s = read-SpellsLine shape text line h in never line s.0 s.1),
) where
  not_both : (found : Option Line) (line : Line) → found ≡ None → found ≡ Some line → ⊥
  not_both found line none some = cc

  none_else : (found : Option Line) → ((line : Line) → found ≡ Some line → ⊥) → found ≡ None
  none_else None never = refl
  none_else (Some line) never = absurd (never line refl)

-- ---- a line has one spelling, and has one where it is in range

one_member : (name text other : List ℕ) (member : ℕ) → SpellsMember name text member → SpellsMember name other member → text ≡ other
one_member name text other member (i, is_i, is) (j, is_j, as_well) =
    let same : i ≡ j = IsNumber-decimal i member is_i ∙ sym (IsNumber-decimal j member is_j) in
    is ∙ ap (λ x. spaced (name ∷ x ∷ [])) same ∙ sym as_well

pub one_text : (text other : List ℕ) (line : Line) → SpellsLine text line → SpellsLine other line → text ≡ other
one_text text other (Do inner) one another = one_inner text other inner one another
one_text text other (Down member) one another = one_member (codes "down") text other member one another
one_text text other (Up member) one another = one_member (codes "up") text other member one another
one_text text other (Show member) one another = one_member (codes "show") text other member one another
one_text text other (Stop call keep inner) (c, e, is_c, is_e, is) (b, d, is_b, is_d, as_well) =
    let same_call : c ≡ b = IsNumber-decimal c call is_c ∙ sym (IsNumber-decimal b call is_b) in
    let same_inner : e ≡ d = one_inner e d inner is_e is_d in
    is ∙ ap (λ x. spaced (codes "stop" ∷ x ∷ keep_word keep ∷ e ∷ [])) same_call
    ∙ ap (λ x. spaced (codes "stop" ∷ b ∷ keep_word keep ∷ x ∷ [])) same_inner ∙ sym as_well

some_member : (name : List ℕ) (member : ℕ) → member < 2 ^ 64 → (text : List ℕ) × SpellsMember name text member
some_member name member small = (spaced (name ∷ decimal member ∷ []), (decimal member, decimal-IsNumber member small, refl))

pub some_text : (shape : Shape) (line : Line) → IsLineOf shape line → (text : List ℕ) × SpellsLine text line
some_text shape (Do inner) inside = some_inner shape inner inside
some_text shape (Down member) (inside, small) = some_member (codes "down") member small
some_text shape (Up member) (inside, small) = some_member (codes "up") member small
some_text shape (Show member) (inside, small) = some_member (codes "show") member small
some_text shape (Stop call keep inner) (first, last, inside) =
    let (e, spelled) = some_inner shape inner inside in
    (spaced (codes "stop" ∷ decimal call ∷ keep_word keep ∷ e ∷ []), (decimal call, e, decimal-IsNumber call (omega (arith, last)), spelled, refl))
