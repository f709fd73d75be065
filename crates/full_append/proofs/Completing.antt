-- Parts of a log that become whole.
use Rattle.std.proofs.Common.{◌≡◌, ◌⊎◌, inl, inr, ℕ, ◌+◌, ◌-◌, List, [], ◌∷◌, ◌++◌, length, map, take, Bool, true, false, refl, ap, sym, ◌∙◌, append_assoc, length-append, arith}
use Rattle.std.specs.Prelude.{◌==◌, ◌&&◌, not, if◌then◌else◌}
use Rattle.std.proofs.lemmas.List.{map-append}
use Rattle.craft_base.specs.declared.command.Entry.{Entry}
use Rattle.craft_base.specs.declared.command.Form.{Form}
use Rattle.craft_base.specs.declared.command.Form.TheVariants as forms
use Rattle.entry_frames.specs.Durable.{Durable, after, applied, complete_at, completed}
use Rattle.entry_frames.specs.Entries.{form_bytes, is_whole}
use Rattle.entry_frames.specs.Records.{Record, Whole, first_number}
use Rattle.full_append.specs.Comparisons.{entry_after, whole_indexes}
use Rattle.full_append.proofs.Comparing.{common_same, common_other, wholes_same, wholes_other}
use Rattle.leader_prep.specs.Verdicts.{is_same_head}
use Rattle.world_model.specs.Rules.Append.{common, completion, completion_of, completions}

-- ---- one entry

pub record BecomesWhole (index : ℕ) (own e : Entry) : Type 0 where
  pub bytes : List ℕ
  pub recorded : completion index own e ≡ Whole index bytes ∷ []
  pub kept : entry_after own e ≡ completed own bytes
  pub told : form_bytes e.form ≡ bytes

pub record Stays (index : ℕ) (own e : Entry) : Type 0 where
  pub recorded : completion index own e ≡ []
  pub kept : entry_after own e ≡ own

abbrev entry_with : Entry → Form → Form → Bool → Entry
entry_with own f g same = if (not (is_whole f) && is_whole g) && same then record own { form = forms.Whole (form_bytes g) } else own

pub what_becomes : (index : ℕ) (own e : Entry) → BecomesWhole index own e ⊎ Stays index own e
what_becomes index own e = cases own.form e.form (is_same_head own.head e.head) refl refl refl where
  recorded : (f g : Form) (b : Bool) → own.form ≡ f → e.form ≡ g → is_same_head own.head e.head ≡ b
      → completion index own e ≡ (if b then completion_of index f g else [])
  recorded f g b pf pg pb =
      ap (λ (s : Bool). if s then completion_of index own.form e.form else []) pb
      ∙ ap (λ (x : Form). if b then completion_of index x e.form else []) pf ∙ ap (λ (x : Form). if b then completion_of index f x else []) pg

  kept : (f g : Form) (b : Bool) → own.form ≡ f → e.form ≡ g → is_same_head own.head e.head ≡ b → entry_after own e ≡ entry_with own f g b
  kept f g b pf pg pb =
      ap (λ (x : Form). entry_with own x e.form (is_same_head own.head e.head)) pf
      ∙ ap (λ (x : Form). entry_with own f x (is_same_head own.head e.head)) pg ∙ ap (entry_with own f g) pb

  cases : (f g : Form) (b : Bool) → own.form ≡ f → e.form ≡ g → is_same_head own.head e.head ≡ b → BecomesWhole index own e ⊎ Stays index own e
  cases (forms.Part x) (forms.Whole v) true pf pg pb =
      inl (record { bytes = v; recorded = recorded (forms.Part x) (forms.Whole v) true pf pg pb; kept = kept (forms.Part x) (forms.Whole v) true pf pg pb; told = ap form_bytes pg })
  cases (forms.Part x) (forms.Whole v) false pf pg pb =
      inr (record { recorded = recorded (forms.Part x) (forms.Whole v) false pf pg pb; kept = kept (forms.Part x) (forms.Whole v) false pf pg pb })
  cases (forms.Part x) (forms.Part y) true pf pg pb =
      inr (record { recorded = recorded (forms.Part x) (forms.Part y) true pf pg pb; kept = kept (forms.Part x) (forms.Part y) true pf pg pb })
  cases (forms.Part x) (forms.Part y) false pf pg pb =
      inr (record { recorded = recorded (forms.Part x) (forms.Part y) false pf pg pb; kept = kept (forms.Part x) (forms.Part y) false pf pg pb })
  cases (forms.Whole x) (forms.Whole y) true pf pg pb =
      inr (record { recorded = recorded (forms.Whole x) (forms.Whole y) true pf pg pb; kept = kept (forms.Whole x) (forms.Whole y) true pf pg pb })
  cases (forms.Whole x) (forms.Whole y) false pf pg pb =
      inr (record { recorded = recorded (forms.Whole x) (forms.Whole y) false pf pg pb; kept = kept (forms.Whole x) (forms.Whole y) false pf pg pb })
  cases (forms.Whole x) (forms.Part y) true pf pg pb =
      inr (record { recorded = recorded (forms.Whole x) (forms.Part y) true pf pg pb; kept = kept (forms.Whole x) (forms.Part y) true pf pg pb })
  cases (forms.Whole x) (forms.Part y) false pf pg pb =
      inr (record { recorded = recorded (forms.Whole x) (forms.Part y) false pf pg pb; kept = kept (forms.Whole x) (forms.Part y) false pf pg pb })

-- ---- records in a row

pub after-append : (d : Durable) (records more : List Record) → after d (records ++ more) ≡ after (after d records) more
after-append d [] more = refl
after-append d (r ∷ records) more = after-append (applied d r) records more

complete_there : (front log : List Entry) (own : Entry) (bytes : List ℕ) → complete_at (front ++ own ∷ log) (length front) bytes ≡ front ++ completed own bytes ∷ log
complete_there [] log own bytes = refl
complete_there (e ∷ front) log own bytes = ap (λ es. e ∷ es) (complete_there front log own bytes)

-- the log with one of its entries made whole, where the message has its value
one_completed : (d : Durable) (front log : List Entry) (own e : Entry) (index : ℕ) → index ≡ length front + 1 → d.log ≡ front ++ own ∷ log
    → after d (completion index own e) ≡ record d { log = front ++ entry_after own e ∷ log }
one_completed d front log own e index at is = elim (what_becomes index own e) [
  | inl w ↦ ap (after d) w.recorded ∙ ap (λ (es : List Entry). record d { log = es }) (
      ap (λ (es : List Entry). complete_at es (index - 1) w.bytes) is ∙ ap (λ (n : ℕ). complete_at (front ++ own ∷ log) n w.bytes) (before index at)
      ∙ complete_there front log own w.bytes ∙ ap (λ (x : Entry). front ++ x ∷ log) (sym w.kept))
  | inr s ↦ ap (after d) s.recorded ∙ ap (λ (es : List Entry). record d { log = es }) (is ∙ ap (λ (x : Entry). front ++ x ∷ log) (sym s.kept))
] where
  before : (index : ℕ) → index ≡ length front + 1 → index - 1 ≡ length front
  before index at = omega (arith, at)

-- ---- all of them

-- the log from there on, with all that it shares with the message made whole as far as the message has the values
abbrev pub kept : List Entry → List Entry → List Entry
kept [] es = []
kept (own ∷ log) [] = own ∷ log
kept (own ∷ log) (e ∷ es) = if own.term == e.term then entry_after own e ∷ kept log es else own ∷ log

pub kept_same : (own e : Entry) (log es : List Entry) → (own.term == e.term) ≡ true → kept (own ∷ log) (e ∷ es) ≡ entry_after own e ∷ kept log es
kept_same own e log es is = ap (λ (b : Bool). if b then entry_after own e ∷ kept log es else own ∷ log) is

pub kept_other : (own e : Entry) (log es : List Entry) → (own.term == e.term) ≡ false → kept (own ∷ log) (e ∷ es) ≡ own ∷ log
kept_other own e log es is = ap (λ (b : Bool). if b then entry_after own e ∷ kept log es else own ∷ log) is

-- the entries that are the same
abbrev pub completions_of : ℕ → List Entry → List Entry → List Record
completions_of index log es = completions index (take (common log es) log) (take (common log es) es)

pub completions_same : (index : ℕ) (own e : Entry) (log es : List Entry) → (own.term == e.term) ≡ true
    → completions_of index (own ∷ log) (e ∷ es) ≡ completion index own e ++ completions_of (index + 1) log es
completions_same index own e log es is = ap (λ (c : ℕ). completions index (take c (own ∷ log)) (take c (e ∷ es))) (common_same own e log es is)

pub completions_other : (index : ℕ) (own e : Entry) (log es : List Entry) → (own.term == e.term) ≡ false → completions_of index (own ∷ log) (e ∷ es) ≡ []
completions_other index own e log es is = ap (λ (c : ℕ). completions index (take c (own ∷ log)) (take c (e ∷ es))) (common_other own e log es is)

completions_none : (index : ℕ) (log : List Entry) → completions_of index log [] ≡ []
completions_none index [] = refl
completions_none index (own ∷ log) = refl

unchanged : (d : Durable) (log : List Entry) → d.log ≡ log → d ≡ record d { log = log }
unchanged d log is = ap (λ (es : List Entry). record d { log = es }) is

pub all_completed : (d : Durable) (front log es : List Entry) (index : ℕ) → index ≡ length front + 1 → d.log ≡ front ++ log
    → after d (completions_of index log es) ≡ record d { log = front ++ kept log es }
all_completed d front [] es index at is = unchanged d (front ++ []) is
all_completed d front (own ∷ log) [] index at is = unchanged d (front ++ own ∷ log) is
all_completed d front (own ∷ log) (e ∷ es) index at is =
    one (own.term == e.term) refl (λ d' at' is'. all_completed d' (front ++ entry_after own e ∷ []) log es (index + 1) at' is') where
      one : (b : Bool) → (own.term == e.term) ≡ b
          → ((d' : Durable) → index + 1 ≡ length (front ++ entry_after own e ∷ []) + 1 → d'.log ≡ (front ++ entry_after own e ∷ []) ++ log
          → after d' (completions_of (index + 1) log es) ≡ record d' { log = (front ++ entry_after own e ∷ []) ++ kept log es })
          → after d (completions_of index (own ∷ log) (e ∷ es)) ≡ record d { log = front ++ kept (own ∷ log) (e ∷ es) }
      one true t rest =
          let first : Durable = record d { log = front ++ entry_after own e ∷ log } in
          let longer : index + 1 ≡ length (front ++ entry_after own e ∷ []) + 1 = omega (arith, at, length-append front (entry_after own e ∷ [])) in
          ap (after d) (completions_same index own e log es t) ∙ after-append d (completion index own e) (completions_of (index + 1) log es)
          ∙ ap (λ (x : Durable). after x (completions_of (index + 1) log es)) (one_completed d front log own e index at is)
          ∙ rest first longer (sym (append_assoc front (entry_after own e ∷ []) log))
          ∙ ap (λ (xs : List Entry). record d { log = xs }) (append_assoc front (entry_after own e ∷ []) (kept log es) ∙ ap (λ (xs : List Entry). front ++ xs) (sym (kept_same own e log es t)))
      one false t rest =
          ap (after d) (completions_other index own e log es t) ∙ unchanged d (front ++ own ∷ log) is
          ∙ ap (λ (xs : List Entry). record d { log = front ++ xs }) (sym (kept_other own e log es t))

-- at these indexes
pub wholes_are : (index : ℕ) (log es : List Entry) → whole_indexes index log es ≡ map first_number (completions_of index log es)
wholes_are index [] es = refl
wholes_are index (own ∷ log) [] = refl
wholes_are index (own ∷ log) (e ∷ es) = one (own.term == e.term) refl (wholes_are (index + 1) log es) where
  one : (b : Bool) → (own.term == e.term) ≡ b → whole_indexes (index + 1) log es ≡ map first_number (completions_of (index + 1) log es)
      → whole_indexes index (own ∷ log) (e ∷ es) ≡ map first_number (completions_of index (own ∷ log) (e ∷ es))
  one true t rest =
      wholes_same index own e log es t ∙ ap (λ (ws : List ℕ). map first_number (completion index own e) ++ ws) rest
      ∙ sym (map-append first_number (completion index own e) (completions_of (index + 1) log es)) ∙ ap (map first_number) (sym (completions_same index own e log es t))
  one false t rest = wholes_other index own e log es t ∙ ap (map first_number) (sym (completions_other index own e log es t))
