-- What records leave of the entries that a member keeps.
use Rattle.std.proofs.Common.{◌≡◌, ℕ, zero, suc, ◌-◌, ◌≤◌, List, [], ◌∷◌, ◌++◌, length, take, refl, sym, subst, arith, Option, Some, true, inl, inr, length-append, length-take-le}
use Rattle.std.specs.Prelude.{slice_get}
use Rattle.std.specs.List.{All}
use Rattle.std.proofs.lemmas.List.Elements.{All-nil, All-cons}
use Rattle.std.proofs.lemmas.Bool.Decides.{nat_tests}
use Rattle.std.proofs.lemmas.Option.{same_Some}
use Rattle.craft_base.specs.Shape.{Shape}
use Rattle.craft_base.specs.declared.command.Entry.{Entry}
use Rattle.craft_base.specs.declared.command.Form.{Form}
use Rattle.craft_base.specs.declared.command.Form.TheVariants as forms
use Rattle.craft_base.specs.declared.command.Op.{Op}
use Rattle.craft_base.specs.declared.command.Op.TheVariants as ops
use Rattle.entry_frames.specs.Bodies.{HaveSpellings}
use Rattle.entry_frames.specs.Durable.{Durable, CanApply, CanApplyAll, IsPartOf, LacksValue, after, applied, complete_at, completed}
use Rattle.entry_frames.specs.Entries.{entry_fields}
use Rattle.entry_frames.specs.Formats.{Value, Fits, within}
use Rattle.entry_frames.specs.Limits.{greatest, longest_value}
use Rattle.entry_frames.specs.Logs.{entry_at, term_at}
use Rattle.entry_frames.specs.Records.{Record, Term, Add, Cut, Whole, Commit, added, record_fields}
use Rattle.entry_frames.specs.Stored.{AreEntries, DurableInRange, IsStored}
use Rattle.entry_frames.proofs.Formats.{embedded_fits}

-- the term of the last entry, `low` where there is none
abbrev pub last_after : ℕ → List Entry → ℕ
last_after low [] = low
last_after low (e ∷ log) = last_after e.term log

last_behind : (e : Entry) (log : List Entry) → last_after e.term log ≡ term_at (e ∷ log) (suc (length log))
last_behind e [] = refl
last_behind e (f ∷ log) = last_behind f log

pub last_is : (log : List Entry) → last_after 0 log ≡ term_at log (length log)
last_is [] = refl
last_is (e ∷ log) = last_behind e log

push_from :
    (k low high : ℕ) (log : List Entry) (e : Entry) → AreEntries k low high log → Fits (entry_fields k) e → last_after low log ≤ e.term → e.term ≤ high →
    AreEntries k low high (log ++ e ∷ [])
push_from k low high [] e are fits least most = (fits, least, most, tt)
push_from k low high (f ∷ log) e are fits least most = (are.0, are.1, are.2, push_from k f.term high log e are.3 fits least most)

-- one more at the end
pub pushed :
    (k high : ℕ) (log : List Entry) (e : Entry) → AreEntries k 0 high log → Fits (entry_fields k) e → term_at log (length log) ≤ e.term → e.term ≤ high →
    AreEntries k 0 high (log ++ e ∷ [])
pushed k high log e are fits least most = push_from k 0 high log e are fits (omega (arith, last_is log, least)) most

-- the first of them
pub taken : (k low high n : ℕ) (log : List Entry) → AreEntries k low high log → AreEntries k low high (take n log)
taken k low high zero log are = tt
taken k low high (suc n) [] are = tt
taken k low high (suc n) (e ∷ log) are = (are.0, are.1, are.2, taken k e.term high n log are.3)

-- up to a later term
pub risen : (k low high higher : ℕ) (log : List Entry) → high ≤ higher → AreEntries k low high log → AreEntries k low higher log
risen k low high higher [] le are = tt
risen k low high higher (e ∷ log) le are = (are.0, are.1, omega (arith, le, are.2), risen k e.term high higher log le are.3)

-- one of them
pub fits_at : (k low high : ℕ) (log : List Entry) (index : ℕ) (e : Entry) → AreEntries k low high log → entry_at log index ≡ Some e → Fits (entry_fields k) e
fits_at k low high log zero e are here = cc
fits_at k low high [] (suc n) e are here = cc
fits_at k low high (f ∷ log) (suc zero) e are here = subst (Fits (entry_fields k)) (same_Some f e here) are.0
fits_at k low high (f ∷ log) (suc (suc n)) e are here = fits_at k f.term high log (suc n) e are.3 here

-- ---- their terms

pub term_least : (k : ℕ) (e : Entry) → Fits (entry_fields k) e → 1 ≤ e.term
term_least k e fits = in_range e.term fits.1.1.0.1
  where
    in_range : (term : ℕ) → within 1 greatest term ≡ true → 1 ≤ term
    in_range term is = grind (arith, nat_tests, is)

each_in_range : (k low high : ℕ) (log : List Entry) → high ≤ greatest → AreEntries k low high log → All (λ e. (1 ≤ e.term) × (e.term ≤ greatest)) log
each_in_range k low high [] most are = All-nil (λ e. (1 ≤ e.term) × (e.term ≤ greatest))
each_in_range k low high (e ∷ log) most are =
    All-cons (λ e. (1 ≤ e.term) × (e.term ≤ greatest)) e log (term_least k e are.0, omega (arith, are.2, most)) (each_in_range k e.term high log most are.3)

pub terms_in_range : {shape : Shape} {term : ℕ} {log : List Entry} → IsStored shape term log → All (λ e. (1 ≤ e.term) × (e.term ≤ greatest)) log
terms_in_range {shape = shape} {term = term} {log = log} stored = each_in_range shape.need 0 term log stored.term_most stored.entries

-- each is at most the state's
pub term_most : (k low high : ℕ) (log : List Entry) (index : ℕ) → AreEntries k low high log → term_at log index ≤ high
term_most k low high log zero are = omega arith
term_most k low high [] (suc n) are = omega arith
term_most k low high (e ∷ log) (suc zero) are = are.2
term_most k low high (e ∷ log) (suc (suc n)) are = term_most k e.term high log (suc n) are.3

-- a later term, or the present one
pub no_earlier : (shape : Shape) (d : Durable) (term : ℕ) (vote : Option ℕ) → CanApply shape d (Term term vote) → d.term ≤ term
no_earlier shape d term vote (inl later) = omega (arith, later.later)
no_earlier shape d term vote (inr first) = omega (arith, first.same)

-- and so one in range
pub most_of : (shape : Shape) (d : Durable) (term : ℕ) (vote : Option ℕ) → d.term ≤ greatest → CanApply shape d (Term term vote) → term ≤ greatest
most_of shape d term vote low (inl later) = later.most
most_of shape d term vote low (inr first) = omega (arith, first.same, low)

-- ---- an entry whose value became whole

entry_with : ℕ → ℕ → ℕ → Op → List ℕ → ℕ → Form → Entry
entry_with term client seq op key vlen form = record { term = term; head = record { client = client; seq = seq; op = op; key = key; vlen = vlen }; form = form }

from_none : (vlen : ℕ) → within 1 longest_value vlen ≡ true → within 0 longest_value vlen ≡ true
from_none vlen is = grind (arith, nat_tests, is)

whole_fits :
    (k term client seq : ℕ) (op : Op) (key : List ℕ) (vlen : ℕ) (part bytes : List ℕ) → length bytes ≡ vlen →
    Fits (entry_fields k) (entry_with term client seq op key vlen (forms.Part part)) → Fits (entry_fields k) (entry_with term client seq op key vlen (forms.Whole bytes))
unfolding entry_with
whole_fits k term client seq ops.Noop key vlen part bytes len fits = cc
whole_fits k term client seq ops.Del key vlen part bytes len fits = cc
whole_fits k term client seq ops.Get key vlen part bytes len fits = cc
whole_fits k term client seq ops.Put key vlen part bytes len fits =
    let t = fits.1.1 in
    let value = t.1.1.1.1.1.1.1.0 in
    ((omega arith, refl), ((omega arith, refl), (t.0, (t.1.0, (t.1.1.0, (t.1.1.1.0, (t.1.1.1.1.0, (t.1.1.1.1.1.0, (t.1.1.1.1.1.1.0, ((value.0, from_none vlen value.1), (len, refl)))))))))))
whole_fits k term client seq (ops.PutIf expected) key vlen part bytes len fits =
    let t = fits.1.1 in
    let value = t.1.1.1.1.1.1.1.0 in
    ((omega arith, refl), ((omega arith, refl), (t.0, (t.1.0, (t.1.1.0, (t.1.1.1.0, (t.1.1.1.1.0, (t.1.1.1.1.1.0, (t.1.1.1.1.1.1.0, ((value.0, from_none vlen value.1), (len, refl)))))))))))

-- the entry with its value, where it was a part of one of that length
completed_fits : (k : ℕ) (entry : Entry) (bytes : List ℕ) → IsPartOf entry.form entry.head.vlen (length bytes) → Fits (entry_fields k) entry → Fits (entry_fields k) (completed entry bytes)
unfolding entry_with
completed_fits k entry bytes is fits = at entry.form refl
  where
    at : (form : Form) → entry.form ≡ form → Fits (entry_fields k) (completed entry bytes)
    at (forms.Whole held) e = absurd (subst (λ f. IsPartOf f entry.head.vlen (length bytes)) e is)
    at (forms.Part part) e =
        whole_fits k entry.term entry.head.client entry.head.seq entry.head.op entry.head.key entry.head.vlen part bytes
        (sym (subst (λ f. IsPartOf f entry.head.vlen (length bytes)) e is))
        (subst (λ f. Fits (entry_fields k) (entry_with entry.term entry.head.client entry.head.seq entry.head.op entry.head.key entry.head.vlen f)) e fits)

completed_from :
    (k low high : ℕ) (log : List Entry) (position : ℕ) (bytes : List ℕ) → AreEntries k low high log → LacksValue (slice_get log position) (length bytes) →
    AreEntries k low high (complete_at log position bytes)
completed_from k low high [] position bytes are lacks = tt
completed_from k low high (e ∷ log) zero bytes are lacks = (completed_fits k e bytes lacks are.0, are.1, are.2, are.3)
completed_from k low high (e ∷ log) (suc position) bytes are lacks = (are.0, are.1, are.2, completed_from k e.term high log position bytes are.3 lacks)

pub complete_entries :
    (k high : ℕ) (log : List Entry) (index : ℕ) (bytes : List ℕ) → AreEntries k 0 high log → LacksValue (entry_at log index) (length bytes) →
    AreEntries k 0 high (complete_at log (index - 1) bytes)
complete_entries k high log zero bytes are lacks = absurd lacks
complete_entries k high log (suc position) bytes are lacks =
    subst (λ p. AreEntries k 0 high (complete_at log p bytes)) (before position) (completed_from k 0 high log position bytes are lacks)
  where
    before : (position : ℕ) → position ≡ suc position - 1
    before position = omega arith

pub complete_length : (log : List Entry) (position : ℕ) (bytes : List ℕ) → length (complete_at log position bytes) ≡ length log
complete_length [] position bytes = refl
complete_length (e ∷ log) zero bytes = refl
complete_length (e ∷ log) (suc position) bytes = omega (arith, complete_length log position bytes)

-- ---- records

entry_fits : (k : ℕ) (entry : Entry) → Fits (record_fields k) (Add entry) → Fits (entry_fields k) entry
entry_fits k entry fits = (embedded_fits (entry_fields k) added (λ e. Value (Add e)) (Add entry) (λ e. refl) fits.1).0

module _ (shape : Shape) where
  record_kept : (d : Durable) (r : Record) → DurableInRange shape d → CanApply shape d r → Fits (record_fields shape.need) r → DurableInRange shape (applied d r)
  record_kept d (Term term vote) keeps can fits = record {
    stored = record {
      k = keeps.stored.k;
      term_most = most_of shape d term vote keeps.stored.term_most can;
      entries = risen shape.need 0 d.term term d.log (no_earlier shape d term vote can) keeps.stored.entries;
    };
    short = keeps.short;
    commit = keeps.commit;
  }
  record_kept d (Add entry) keeps can fits = record {
    stored = record {
      k = keeps.stored.k;
      term_most = keeps.stored.term_most;
      entries = pushed shape.need d.term d.log entry keeps.stored.entries (entry_fits shape.need entry fits) can.no_earlier can.no_later;
    };
    short = omega (arith, length-append d.log (entry ∷ []), can.room);
    commit = omega (arith, length-append d.log (entry ∷ []), keeps.commit);
  }
  record_kept d (Cut index) keeps can fits =
      let left : length (take (index - 1) d.log) ≡ index - 1 = length-take-le (index - 1) d.log (omega (arith, can.within)) in
      record {
        stored = record {
          k = keeps.stored.k;
          term_most = keeps.stored.term_most;
          entries = taken shape.need 0 d.term (index - 1) d.log keeps.stored.entries;
        };
        short = omega (arith, left, keeps.short, can.within);
        commit = omega (arith, left, can.behind, can.within);
      }
  record_kept d (Whole index bytes) keeps can fits =
      let same : length (complete_at d.log (index - 1) bytes) ≡ length d.log = complete_length d.log (index - 1) bytes in
      record {
        stored = record {
          k = keeps.stored.k;
          term_most = keeps.stored.term_most;
          entries = complete_entries shape.need d.term d.log index bytes keeps.stored.entries can;
        };
        short = omega (arith, same, keeps.short);
        commit = omega (arith, same, keeps.commit);
      }
  record_kept d (Commit index) keeps can fits = record { stored = keeps.stored; short = keeps.short; commit = can.within }

  -- so it is after records that can be applied and have spellings
  pub records_kept : (d : Durable) (records : List Record) → DurableInRange shape d → CanApplyAll shape d records → HaveSpellings shape.need records → DurableInRange shape (after d records)
  records_kept d [] keeps can spelled = keeps
  records_kept d (r ∷ records) keeps can spelled = records_kept (applied d r) records (record_kept d r keeps can.0 spelled.0) can.1 spelled.1
