-- Each field of a body is a part of it.
use Rattle.std.proofs.Common.{◌≡◌, ℕ, zero, suc, ◌-◌, ◌≤◌, Bool, true, false, List, ◌∷◌, length, refl, sym, ap, ◌∙◌, eqb, arith}
use Rattle.std.specs.Prelude.{nat_le}
use Rattle.std.proofs.lemmas.Bool.{eqb-true, eqb-false, leb-true}
use Rattle.craft_base.specs.declared.command.Entry.{Entry}
use Rattle.entry_frames.specs.Entries.{entry_fields_in}
use Rattle.entry_frames.specs.Formats.{Format, Value, Test, embed, within}
use Rattle.entry_frames.specs.declared.peer.Peer.TheVariants as peers
use Rattle.entry_frames.specs.declared.kind.PeerKind.{PeerKind}
use Rattle.entry_frames.specs.declared.kind.PeerKind.TheVariants as peer_kinds
use Rattle.entry_frames.specs.Kinds.{peer_kind}
use Rattle.entry_frames.specs.Limits.{most_entry_bytes}
use Rattle.entry_frames.specs.MessageFields.{entry_size, least_next, entries_fields, first_entry, later_entries, verdict_fields, body_fields}
use Rattle.entry_frames.specs.MessageParts.{verdict_of, entries_of}
use Rattle.entry_frames.specs.Replies.{bool_byte, bool_with}
use Rattle.entry_frames.proofs.Entries.{and_left, and_right, entry_faithful}
use Rattle.entry_frames.proofs.Formats.{Faithful, owes_less, embed_faithful}

-- a number in range lies there
pub record Within (least greatest n : ℕ) : Type 0 where
  pub above : least ≤ n
  pub below : n ≤ greatest

pub lies_within : (least greatest n : ℕ) → within least greatest n ≡ true → Within least greatest n
lies_within least greatest n e = record {
  above = leb-true _ _ (and_left (nat_le least n) (nat_le n greatest) e);
  below = leb-true _ _ (and_right (nat_le least n) (nat_le n greatest) e);
}

pub bool_back : (n : ℕ) → within 0 1 n ≡ true → bool_byte (bool_with n) ≡ n
bool_back n e = by_test (eqb n 1) refl
  where
    by_test : (b : Bool) → eqb n 1 ≡ b → bool_byte (bool_with n) ≡ n
    by_test true is = rw is (sym (eqb-true _ _ is))
    by_test false is = rw is (omega (arith, (lies_within 0 1 n e).below, eqb-false n 1 is))

-- the fields behind an entry
abbrev pub behind_entry : ℕ → Bool → ℕ → ℕ → ℕ → ℕ → Entry → Format (List Entry)
behind_entry k rises high count low room e =
    Test (nat_le (entry_size k e) room) (entry_size k e) (
    embed (entries_fields k rises high count (least_next rises low e.term) (room - entry_size k e)) later_entries λ entries.
    Value (e ∷ entries))

pub entries_faithful : (k : ℕ) (rises : Bool) (high count low room : ℕ) → Faithful (entries_fields k rises high count low room) (λ es. length es ≡ count)
entries_faithful k rises high zero low room = refl
entries_faithful k rises high (suc count) low room =
    embed_faithful (entry_fields_in k low high) (λ e. Unit {0}) first_entry (behind_entry k rises high count low room) (λ es. length es ≡ suc count) (entry_faithful k low high)
    (λ e owed passes. embed_faithful (entries_fields k rises high count (least_next rises low e.term) (room - entry_size k e)) (λ es. length es ≡ count) later_entries
    (λ es. Value (e ∷ es)) (λ es. (length es ≡ suc count) × (first_entry es ≡ e))
    (entries_faithful k rises high count (least_next rises low e.term) (room - entry_size k e)) (λ es len. ((ap suc len, refl), refl)))

verdict_faithful : (verdict : Bool) → Faithful (verdict_fields verdict) (λ b. (peer_kind b ≡ peer_kinds.AppendReply) × (verdict_of b ≡ verdict))
verdict_faithful true = λ prev prev_fits prev_counts count count_fits count_counts mask mask_fits mask_counts. ((((refl, refl), refl), refl), refl)
verdict_faithful false = λ next next_fits next_counts. ((refl, refl), refl)

pub peer_faithful : (k term : ℕ) (kind : PeerKind) → Faithful (body_fields k term kind) (λ b. peer_kind b ≡ kind)
peer_faithful k term peer_kinds.Vote = λ last_term f1 c1 last f2 c2. ((refl, refl), refl)
peer_faithful k term peer_kinds.VoteReply = λ granted f1 c1. (refl, bool_back granted f1.1)
peer_faithful k term peer_kinds.Append = λ prev f1 c1 prev_term f2 c2 commit f3 c3 count f4 c4.
    embed_faithful (entries_fields k true term count prev_term most_entry_bytes) (λ es. length es ≡ count) entries_of (λ es. Value (peers.Append prev prev_term commit es)) _
    (entries_faithful k true term count prev_term most_entry_bytes) (λ es len. (((((refl, refl), refl), refl), len), refl))
peer_faithful k term peer_kinds.AppendReply = λ verdict f1 c1.
    owes_less (verdict_fields (bool_with verdict)) (λ b. (peer_kind b ≡ peer_kinds.AppendReply) × (verdict_of b ≡ bool_with verdict)) _
    (λ b o. (o.0, ap bool_byte o.1 ∙ bool_back verdict f1.1)) (verdict_faithful (bool_with verdict))
peer_faithful k term peer_kinds.Ask = λ start f1 c1. (refl, refl)
peer_faithful k term peer_kinds.Answer = λ start f1 c1 last f2 c2 count f3 c3.
    embed_faithful (entries_fields k false term count 0 most_entry_bytes) (λ es. length es ≡ count) entries_of (λ es. Value (peers.Answer start last es)) _
    (entries_faithful k false term count 0 most_entry_bytes) (λ es len. ((((refl, refl), refl), len), refl))
