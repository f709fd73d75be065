-- What each step of adding a group leaves, whole or cut short.
use Rattle.std.proofs.Common.{◌≡◌, ◌≢◌, ◌⊎◌, inl, inr, ℕ, ◌+◌, ◌<◌, ◌≤◌, min, List, [], ◌∷◌, ◌++◌, length, get_or, take, drop, refl, sym, ap, ◌∙◌, subst, arith, append_assoc, length-append, take-append-drop}
use Rattle.std.specs.Int.{w64, to_be_bytes}
use Rattle.std.specs.Prelude.{Option, None, Some, option_map}
use Rattle.std.proofs.lemmas.Bool.{cases_eq}
use Rattle.std.proofs.lemmas.List.{take_at, drop_at, drop_more}
use Rattle.craft_edge.specs.Disk.{written, Torn, OnlySeen}
use Rattle.entry_frames.specs.Durable.{born}
use Rattle.entry_frames.specs.Records.{Record, group_bytes}
use Rattle.synced_log.specs.declared.owner.Owner.{Owner}
use Rattle.synced_log.specs.Crashes.{TornFrom}
use Rattle.synced_log.specs.Journal.{shape_of, header, open_group, open_groups, body_of, IsGroupOf, after_groups, front_of, IsJournal, IsJournalTo, HasNext}
use Rattle.synced_log.specs.Standing.{Added, AddedOrNot}
use Rattle.synced_log.specs.Stops.{StopLeaves}
use Rattle.synced_log.proofs.Creating.{written_inside}
use Rattle.synced_log.proofs.Walking.{are_groups-push, open_groups-push}

length-group_bytes : (body : List ℕ) → length (group_bytes body) ≡ 9 + length body
length-group_bytes body = omega (arith, length-append body (0 ∷ []))

-- a write of some bytes that begins inside the file
inside : (old : List ℕ) (at : ℕ) (bytes : List ℕ) → at ≤ length old → 0 < length bytes → written old at bytes ≡ take at old ++ (bytes ++ drop (at + length bytes) old)
inside old at [] le some = absurd (omega (arith, some))
inside old at (b ∷ bs) le some = written_inside old at b bs le

-- the file while the group stands behind a gate
abbrev pub gated : Owner → List (List Record) → ℕ → List ℕ → List ℕ → List ℕ
gated o groups gate body rest = front_of o groups ++ (gate ∷ (group_bytes body ++ rest))

module _ (o : Owner) (groups : List (List Record)) (file : List ℕ) (gate : ℕ) (journal : IsJournalTo file gate o groups) where
  size : length (front_of o groups) ≡ gate
  size = sym journal.gate_is

  file_is : file ≡ front_of o groups ++ (journal.journal.ends.gate ∷ journal.journal.ends.rest)
  file_is = journal.journal.is ∙ ap (λ (l : List ℕ). front_of o groups ++ l) journal.journal.ends.is

  length_file : length file ≡ gate + (1 + length journal.journal.ends.rest)
  length_file = omega (arith, ap length file_is, length-append (front_of o groups) (journal.journal.ends.gate ∷ journal.journal.ends.rest), size)

  shut : (g : ℕ) (rest : List ℕ) → g ≢ 1 → IsJournal (front_of o groups ++ (g ∷ rest)) o groups
  shut g rest closed = record {
    owner = journal.journal.owner;
    groups_are = journal.journal.groups_are;
    rest = g ∷ rest;
    is = refl;
    ends = record { gate = g; rest = rest; is = refl; closed = closed };
  }

  -- the file up to behind the gate
  split_file : file ≡ (front_of o groups ++ journal.journal.ends.gate ∷ []) ++ journal.journal.ends.rest
  split_file = file_is ∙ sym (append_assoc (front_of o groups) (journal.journal.ends.gate ∷ []) journal.journal.ends.rest)

  length_gate : length (front_of o groups ++ journal.journal.ends.gate ∷ []) ≡ gate + 1
  length_gate = omega (arith, length-append (front_of o groups) (journal.journal.ends.gate ∷ []), size)

  up_to_gate : take (gate + 1) file ≡ front_of o groups ++ journal.journal.ends.gate ∷ []
  up_to_gate = ap (take (gate + 1)) split_file ∙ take_at (front_of o groups ++ journal.journal.ends.gate ∷ []) journal.journal.ends.rest (gate + 1) length_gate

  -- the closed gate stands in each outcome of the first write
  pub stage_torn : (bytes image : List ℕ) → Torn (gate + 1) bytes file image → IsJournal image o groups
  stage_torn bytes image torn =
      let all : min (gate + 1) (length file) ≡ gate + 1 = omega (arith, length_file) in
      let kept : take (gate + 1) image ≡ front_of o groups ++ journal.journal.ends.gate ∷ [] = subst (λ n. take n image ≡ take n file) all torn.before ∙ up_to_gate in
      let is : image ≡ front_of o groups ++ (journal.journal.ends.gate ∷ drop (gate + 1) image)
      = sym (take-append-drop (gate + 1) image) ∙ ap (λ (l : List ℕ). l ++ drop (gate + 1) image) kept ∙ append_assoc (front_of o groups) (journal.journal.ends.gate ∷ []) (drop (gate + 1) image) in
      subst (λ (l : List ℕ). IsJournal l o groups) (sym is) (shut journal.journal.ends.gate (drop (gate + 1) image) journal.journal.ends.closed)

  module _ (body : List ℕ) where
    abbrev behind : List ℕ
    behind = drop (gate + 1 + length (group_bytes body)) file

    pub staged : written file (gate + 1) (group_bytes body) ≡ gated o groups journal.journal.ends.gate body behind
    staged =
        inside file (gate + 1) (group_bytes body) (omega (arith, length_file)) (omega (arith, length-group_bytes body))
        ∙ ap (λ (l : List ℕ). l ++ (group_bytes body ++ behind)) up_to_gate
        ∙ append_assoc (front_of o groups) (journal.journal.ends.gate ∷ []) (group_bytes body ++ behind)

    front_kept : (g : ℕ) (rest : List ℕ) → take gate (gated o groups g body rest) ≡ front_of o groups
    front_kept g rest = take_at (front_of o groups) (g ∷ (group_bytes body ++ rest)) gate size

    back_kept : (g : ℕ) (rest : List ℕ) → drop (gate + 1) (gated o groups g body rest) ≡ group_bytes body ++ rest
    back_kept g rest =
        ap (drop (gate + 1)) (sym (append_assoc (front_of o groups) (g ∷ []) (group_bytes body ++ rest)))
        ∙ drop_at (front_of o groups ++ g ∷ []) (group_bytes body ++ rest) (gate + 1) (omega (arith, length-append (front_of o groups) (g ∷ []), size))

    length_gated : (g : ℕ) (rest : List ℕ) → gate + 1 ≤ length (gated o groups g body rest)
    length_gated g rest = omega (arith, length-append (front_of o groups) (g ∷ (group_bytes body ++ rest)), size)

    -- the gate was opened
    pub opened : (g : ℕ) (rest : List ℕ) → written (gated o groups g body rest) gate (1 ∷ []) ≡ gated o groups 1 body rest
    opened g rest =
        inside (gated o groups g body rest) gate (1 ∷ []) (omega (arith, length_gated g rest)) (omega arith)
        ∙ ap (λ (l : List ℕ). l ++ (1 ∷ drop (gate + 1) (gated o groups g body rest))) (front_kept g rest)
        ∙ ap (λ (l : List ℕ). front_of o groups ++ (1 ∷ l)) (back_kept g rest)

    -- the group stands whole in each outcome of the second write, behind the byte at the gate
    torn_gated : (g : ℕ) (rest image : List ℕ) → Torn gate (1 ∷ []) (gated o groups g body rest) image → image ≡ gated o groups (get_or image gate 0) body rest
    torn_gated g rest image torn =
        let long = length_gated g rest in
        let all : min gate (length (gated o groups g body rest)) ≡ gate = omega (arith, long) in
        let kept : take gate image ≡ front_of o groups = subst (λ n. take n image ≡ take n (gated o groups g body rest)) all torn.before ∙ front_kept g rest in
        let x = get_or image gate 0 in
        let back : drop gate image ≡ x ∷ (group_bytes body ++ rest) = drop_more image gate 0 (omega (arith, long, torn.no_shorter)) ∙ ap (λ (l : List ℕ). x ∷ l) (torn.after ∙ back_kept g rest) in
        sym (take-append-drop gate image) ∙ (λ i. kept i ++ back i)

    pub gate_lacks : (g : ℕ) (rest image : List ℕ) → Torn gate (1 ∷ []) (gated o groups g body rest) image → get_or image gate 0 ≢ 1 → IsJournal image o groups
    gate_lacks g rest image torn other = subst (λ (l : List ℕ). IsJournal l o groups) (sym (torn_gated g rest image torn)) (shut (get_or image gate 0) (group_bytes body ++ rest) other)

    module _ (records : List Record) (body_is : body ≡ body_of o.k records) (can : IsGroupOf (shape_of o) (after_groups born groups) records) where
      more_front : front_of o (groups ++ records ∷ []) ≡ front_of o groups ++ open_group body
      more_front =
          ap (λ (l : List ℕ). header o ++ l) (open_groups-push o.k groups records) ∙ sym (append_assoc (header o) (open_groups o.k groups) (open_group (body_of o.k records)))
          ∙ ap (λ (b : List ℕ). front_of o groups ++ open_group b) (sym body_is)

      open_is : (rest : List ℕ) → gated o groups 1 body rest ≡ front_of o (groups ++ records ∷ []) ++ (0 ∷ rest)
      open_is rest =
          let len = to_be_bytes w64 (length body) in
          let tail : group_bytes body ++ rest ≡ (len ++ body) ++ (0 ∷ rest) =
          append_assoc len (body ++ 0 ∷ []) rest ∙ ap (λ (l : List ℕ). len ++ l) (append_assoc body (0 ∷ []) rest) ∙ sym (append_assoc len body (0 ∷ rest)) in
          ap (λ (l : List ℕ). front_of o groups ++ (1 ∷ l)) tail ∙ sym (append_assoc (front_of o groups) (open_group body) (0 ∷ rest)) ∙ ap (λ (l : List ℕ). l ++ (0 ∷ rest)) (sym more_front)

      -- behind the open gate the group counts
      pub counts : (rest : List ℕ) → IsJournal (gated o groups 1 body rest) o (groups ++ records ∷ [])
      counts rest = record {
        owner = journal.journal.owner;
        groups_are = are_groups-push (shape_of o) born groups records journal.journal.groups_are can;
        rest = 0 ∷ rest;
        is = open_is rest;
        ends = record { gate = 0; rest = rest; is = refl; closed = λ e. absurd (omega (arith, e)) };
      }

      pub next_gate : gate + length (group_bytes body) ≡ length (front_of o (groups ++ records ∷ []))
      next_gate = omega (arith, length-group_bytes body, ap length more_front, length-append (front_of o groups) (open_group body), length-append (to_be_bytes w64 (length body)) body, size)

      either : (image : List ℕ) (g : ℕ) (rest : List ℕ) → image ≡ gated o groups g body rest → IsJournal image o groups ⊎ IsJournal image o (groups ++ records ∷ [])
      either image g rest is = elim (cases_eq g 1) [
        | inl open_gate ↦ inr (subst (λ (l : List ℕ). IsJournal l o (groups ++ records ∷ [])) (sym (is ∙ ap (λ (n : ℕ). gated o groups n body rest) open_gate)) (counts rest))
        | inr closed ↦ inl (subst (λ (l : List ℕ). IsJournal l o groups) (sym is) (shut g (group_bytes body ++ rest) closed))
      ]

      pub gate_torn : (g : ℕ) (rest image : List ℕ) → Torn gate (1 ∷ []) (gated o groups g body rest) image → IsJournal image o groups ⊎ IsJournal image o (groups ++ records ∷ [])
      gate_torn g rest image torn = either image (get_or image gate 0) rest (torn_gated g rest image torn)

      pub gate_counts : (g : ℕ) (rest image : List ℕ) → Torn gate (1 ∷ []) (gated o groups g body rest) image → get_or image gate 0 ≡ 1 → IsJournal image o (groups ++ records ∷ [])
      gate_counts g rest image torn one = subst (λ (l : List ℕ). IsJournal l o (groups ++ records ∷ [])) (sym (torn_gated g rest image torn ∙ ap (λ (n : ℕ). gated o groups n body rest) one)) (counts rest)

-- ---- where the disk tells what a read gives

abbrev some_of : List ℕ → Option (List ℕ)
some_of l = Some l

has_next : (file : List ℕ) (gate : ℕ) (body new : List ℕ) (next : ℕ) → new ≡ written (written file (gate + 1) (group_bytes body)) gate (1 ∷ []) → next ≡ gate + length (group_bytes body)
    → HasNext file gate body new next
has_next file gate body new next is next_is o groups records journal body_is can =
    let rest = drop (gate + 1 + length (group_bytes body)) file in
    let new_is : new ≡ gated o groups 1 body rest = is ∙ ap (λ (l : List ℕ). written l gate (1 ∷ [])) (staged o groups file gate journal body) ∙ opened o groups file gate journal body journal.journal.ends.gate rest in
    record {
      journal = subst (λ (l : List ℕ). IsJournal l o (groups ++ records ∷ [])) (sym new_is) (counts o groups file gate journal body records body_is can rest);
      gate_is = next_is ∙ next_gate o groups file gate journal body records body_is can;
    }

pub added : (old mid new : Option (List ℕ)) (gate : ℕ) (body : List ℕ) (next : ℕ) → mid ≡ option_map (λ f. written f (gate + 1) (group_bytes body)) old
    → new ≡ option_map (λ f. written f gate (1 ∷ [])) mid → next ≡ gate + length (group_bytes body) → Added old new gate body next
added None mid new gate body next mid_is new_is next_is = tt
added (Some file) mid new gate body next mid_is new_is next_is =
    let is : new ≡ some_of (written (written file (gate + 1) (group_bytes body)) gate (1 ∷ [])) = new_is ∙ ap (option_map (λ f. written f gate (1 ∷ []))) mid_is in
    subst (λ (n : Option (List ℕ)). Added (some_of file) n gate body next) (sym is) (has_next file gate body _ next refl next_is)

pub stage_leaves : (seen : Option (List ℕ)) (may_leave : List ℕ → Type 0) (gate : ℕ) (body image : List ℕ) → OnlySeen seen may_leave → TornFrom may_leave (gate + 1) (group_bytes body) image
    → AddedOrNot seen gate body image
stage_leaves None may_leave gate body image only t = tt
stage_leaves (Some file) may_leave gate body image only t = λ o groups records journal body_is can.
    inl (stage_torn o groups file gate journal (group_bytes body) image (subst (λ (f : List ℕ). Torn (gate + 1) (group_bytes body) f image) (only t.0 t.1) t.2))

pub gate_leaves : (seen mid : Option (List ℕ)) (may_leave : List ℕ → Type 0) (gate : ℕ) (body image : List ℕ) → mid ≡ option_map (λ f. written f (gate + 1) (group_bytes body)) seen → OnlySeen mid may_leave
    → TornFrom may_leave gate (1 ∷ []) image → AddedOrNot seen gate body image
gate_leaves None mid may_leave gate body image mid_is only t = tt
gate_leaves (Some file) mid may_leave gate body image mid_is only t = λ o groups records journal body_is can.
    let all = subst (λ (m : Option (List ℕ)). OnlySeen m may_leave) mid_is only in
    let before_is : t.0 ≡ gated o groups journal.journal.ends.gate body (drop (gate + 1 + length (group_bytes body)) file) = all t.0 t.1 ∙ staged o groups file gate journal body in
    gate_torn o groups file gate journal body records body_is can journal.journal.ends.gate (drop (gate + 1 + length (group_bytes body)) file) image (subst (λ (f : List ℕ). Torn gate (1 ∷ []) f image) before_is t.2)

-- ---- where a call failed

pub stage_stops : (seen : Option (List ℕ)) (may_leave : List ℕ → Type 0) (gate : ℕ) (body image : List ℕ) (made : ℕ) → made < 2 → OnlySeen seen may_leave → TornFrom may_leave (gate + 1) (group_bytes body) image
    → StopLeaves seen gate body made image
stage_stops None may_leave gate body image made few only t = tt
stage_stops (Some file) may_leave gate body image made few only t = (
  λ _ o groups journal. record {
    journal = stage_torn o groups file gate journal (group_bytes body) image (subst (λ (f : List ℕ). Torn (gate + 1) (group_bytes body) f image) (only t.0 t.1) t.2);
    gate_is = journal.gate_is;
  },
  λ many. absurd (omega (arith, few, many)),
)

pub gate_stops : (seen mid : Option (List ℕ)) (may_leave : List ℕ → Type 0) (gate : ℕ) (body image : List ℕ) (made : ℕ) → 2 ≤ made → mid ≡ option_map (λ f. written f (gate + 1) (group_bytes body)) seen
    → OnlySeen mid may_leave → TornFrom may_leave gate (1 ∷ []) image → StopLeaves seen gate body made image
gate_stops None mid may_leave gate body image made many mid_is only t = tt
gate_stops (Some file) mid may_leave gate body image made many mid_is only t =
    let all = subst (λ (m : Option (List ℕ)). OnlySeen m may_leave) mid_is only in
    let rest = drop (gate + 1 + length (group_bytes body)) file in
    let torn_of : (o : Owner) (groups : List (List Record)) (journal : IsJournalTo file gate o groups) → Torn gate (1 ∷ []) (gated o groups journal.journal.ends.gate body rest) image
    = λ o groups journal. subst (λ (f : List ℕ). Torn gate (1 ∷ []) f image) (all t.0 t.1 ∙ staged o groups file gate journal body) t.2 in (
      λ few. absurd (omega (arith, few, many)),
      λ _. record {
        counts = λ one o groups records journal body_is can. record {
          journal = gate_counts o groups file gate journal body records body_is can journal.journal.ends.gate rest image (torn_of o groups journal) one;
          gate_is = next_gate o groups file gate journal body records body_is can;
        };
        lacks = λ other o groups journal. record {
          journal = gate_lacks o groups file gate journal body journal.journal.ends.gate rest image (torn_of o groups journal) other;
          gate_is = journal.gate_is;
        };
      },
    )
