-- The state to which a file opens, and what appending, opening and a crash do to it.
use Rattle.std.proofs.Common.{◌≡◌, ◌≢◌, ◌⊎◌, inl, inr, ⊎_elim, ℕ, ◌+◌, List, [], ◌∷◌, ◌++◌, length, get_or, refl, sym, ap, ◌∙◌, subst, arith, length-append}
use Rattle.entry_frames.specs.Durable.{Durable, born, after}
use Rattle.entry_frames.specs.Records.{Record, group_bytes}
use Rattle.synced_log.specs.declared.owner.Owner.{Owner}
use Rattle.synced_log.specs.Journal.{IsUnborn, IsJournal, IsGroupOf, IsOpened, CanAppend, HasNext, HasSame, HasOrLacksNext, Kept, StaysAs, after_groups, body_of, front_of, header, open_groups, placed_from, shape_of}
use Rattle.synced_log.specs.Laws.{OneState}
use Rattle.synced_log.specs.States.{OpensTo, HoldsTo}
use Rattle.synced_log.specs.Stops.{GateDecides}
use Rattle.synced_log.proofs.Unique.{one_journal}
use Rattle.synced_log.proofs.Walking.{after_groups-push}

pub holds_opens : (bytes : List ℕ) (gate : ℕ) (o : Owner) (d : Durable) → HoldsTo bytes gate o d → OpensTo bytes o d
holds_opens bytes gate o d h = inl (record { groups = h.groups; journal = h.journal.journal; leaves = h.leaves })

-- a journal was born
born_journal : (bytes : List ℕ) (o : Owner) (groups : List (List Record)) → IsJournal bytes o groups → IsUnborn bytes → ⊥
born_journal bytes o groups journal (inl few) =
    omega (
      arith,
      few,
      ap length journal.is,
      length-append (front_of o groups) journal.rest,
      length-append (header o) (open_groups o.k groups),
      ap length journal.ends.is,
    )
born_journal bytes o groups journal (inr whole) = whole.1 (ap (λ (l : List ℕ). get_or l 0 0) journal.is)

-- a file opens to one state
pub one_state : OneState
one_state bytes o d e room (inl a) (inl b) = a.leaves ∙ ap (after_groups born) (one_journal bytes o o a.groups b.groups room a.journal b.journal).1 ∙ sym b.leaves
one_state bytes o d e room (inl a) (inr b) = absurd (born_journal bytes o a.groups a.journal b.unborn)
one_state bytes o d e room (inr a) (inl b) = absurd (born_journal bytes o b.groups b.journal a.unborn)
one_state bytes o d e room (inr a) (inr b) = a.leaves ∙ sym b.leaves

-- ---- what a group adds

module _ (before : List ℕ) (gate : ℕ) (o : Owner) (d : Durable) (holds : HoldsTo before gate o d) where
  pub holds_same : (bytes : List ℕ) → HasSame before gate bytes → HoldsTo bytes gate o d
  holds_same bytes same = record { groups = holds.groups; journal = same o holds.groups holds.journal; leaves = holds.leaves }

  module _ (body : List ℕ) (records : List Record) (body_is : body ≡ body_of o.k records) (can : IsGroupOf (shape_of o) d records) where
    here : IsGroupOf (shape_of o) (after_groups born holds.groups) records
    here = subst (λ (e : Durable). IsGroupOf (shape_of o) e records) holds.leaves can

    more : after d records ≡ after_groups born (holds.groups ++ records ∷ [])
    more = ap (λ (e : Durable). after e records) holds.leaves ∙ sym (after_groups-push born holds.groups records)

    -- it can be appended
    pub can_append : CanAppend before gate body
    can_append = record { owner = o; groups = holds.groups; journal = holds.journal; records = records; body_is = body_is; can = here }

    -- it was appended
    pub holds_next : (bytes : List ℕ) (next : ℕ) → HasNext before gate body bytes next → HoldsTo bytes next o (after d records)
    holds_next bytes next has = record { groups = holds.groups ++ records ∷ []; journal = has o holds.groups records holds.journal body_is here; leaves = more }

    -- a crash left it or didn't
    pub opens_either : (image : List ℕ) → HasOrLacksNext before gate body image → OpensTo image o d ⊎ OpensTo image o (after d records)
    opens_either image has =
        ⊎_elim (λ j. inl (inl (record { groups = holds.groups; journal = j; leaves = holds.leaves })))
        (λ j. inr (inl (record { groups = holds.groups ++ records ∷ []; journal = j; leaves = more }))) (has o holds.groups records holds.journal body_is here)

    -- the byte at the gate tells which
    pub opens_with : (image : List ℕ) → GateDecides before gate body image → get_or image gate 0 ≡ 1 → OpensTo image o (after d records)
    opens_with image decides one = holds_opens image (gate + length (group_bytes body)) o (after d records) (holds_next image (gate + length (group_bytes body)) (decides.counts one))

    pub opens_without : (image : List ℕ) → GateDecides before gate body image → get_or image gate 0 ≢ 1 → OpensTo image o d
    opens_without image decides other = holds_opens image gate o d (holds_same image (decides.lacks other))

-- ---- opening

-- the state to which a file was opened
pub record OpenedTo (old new : List ℕ) (gate : ℕ) (wanted : Owner) (kept : Kept) : Type 0 where
  pub state : Durable
  pub holds : HoldsTo new gate wanted state
  pub opened : OpensTo old wanted state
  pub kept_is : kept ≡ record { shape = shape_of wanted; placed = placed_from wanted.k 32 holds.groups }

pub opened_to : (old new : List ℕ) (gate : ℕ) (wanted : Owner) (kept : Kept) → IsOpened old new wanted gate kept → OpenedTo old new gate wanted kept
opened_to old new gate wanted kept opened = record {
  state = after_groups born opened.groups;
  holds = record { groups = opened.groups; journal = opened.journal; leaves = refl };
  opened = ⊎_elim (λ u. inr (record { owner = opened.journal.journal.owner; unborn = u.0; leaves = ap (after_groups born) u.2 }))
      (λ b. inl (record { groups = opened.groups; journal = subst (λ (l : List ℕ). IsJournal l wanted opened.groups) b.1 opened.journal.journal; leaves = refl })) opened.from;
  kept_is = opened.kept_is;
}

-- a crash while it is opened leaves a file that opens to the same state
pub stays_open : (wanted : Owner) (old image : List ℕ) (d : Durable) → StaysAs wanted old image → OpensTo old wanted d → OpensTo image wanted d
stays_open wanted old image d (inl same) opens = subst (λ (l : List ℕ). OpensTo l wanted d) (sym same) opens
stays_open wanted old image d (inr (unborn, left)) (inl journal) = absurd (born_journal old wanted journal.groups journal.journal unborn)
stays_open wanted old image d (inr (unborn, inl still)) (inr opens) = inr (record { owner = opens.owner; unborn = still; leaves = opens.leaves })
stays_open wanted old image d (inr (unborn, inr journal)) (inr opens) = inl (record { groups = []; journal = journal; leaves = opens.leaves })
