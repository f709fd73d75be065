-- What members say is in range.
use Rattle.std.proofs.Common.{◌≡◌, ℕ, ◌+◌, ◌≤◌, Bool, true, false, ◌==◌, List, [], ◌∷◌, length, refl, arith}
use Rattle.std.specs.List.{All}
use Rattle.std.proofs.lemmas.Bool.{ne_eqb}
use Rattle.std.proofs.lemmas.List.Elements.{All-head, All-tail}
use Rattle.craft_base.specs.declared.command.Entry.{Entry}
use Rattle.entry_frames.specs.Formats.{U8, U64, Fits, FitsNumber, within}
use Rattle.entry_frames.specs.Limits.{greatest, last_place}
use Rattle.entry_frames.specs.declared.peer.Peer.TheVariants as peers
use Rattle.entry_frames.specs.declared.kind.PeerKind.TheVariants as peer_kinds
use Rattle.entry_frames.specs.MessageFields.{body_fields, least_with, greatest_with}
use Rattle.entry_frames.specs.Logs.{last_index, last_term}
use Rattle.entry_frames.specs.Stored.{IsStored}
use Rattle.entry_frames.proofs.Stored.{terms_in_range}
use Rattle.craft_base.specs.Shape.{Shape}
use Rattle.world_model.specs.Ranges.{IsTerm}
use Rattle.world_model.proofs.Frames.{fits_within}

pub reply_fits : (need term : ℕ) (granted : Bool) → Fits (body_fields need term peer_kinds.VoteReply) (peers.VoteReply granted)
reply_fits need term true = (fits_within U8 0 1 1 (omega arith) (omega arith) (omega arith), refl)
reply_fits need term false = (fits_within U8 0 1 0 (omega arith) (omega arith) (omega arith), refl)

-- the index after a commit index
pub refusal_fits : (need term commit : ℕ) → commit ≤ last_place → Fits (body_fields need term peer_kinds.AppendReply) (peers.Refused (commit + 1))
refusal_fits need term commit low = (
  fits_within U8 0 1 0 (omega arith) (omega arith) (omega arith),
  (fits_within U64 1 (last_place + 1) (commit + 1) (omega (arith, low)) (omega arith) (omega (arith, low)), refl),
)

pub ask_fits : (need term start : ℕ) → 1 ≤ start → start ≤ last_place → Fits (body_fields need term peer_kinds.Ask) (peers.Ask start)
ask_fits need term start least most = (fits_within U64 1 last_place start (omega (arith, most)) least most, refl)

-- a log that isn't empty ends in a term
ends_in_term : (entry : Entry) (log : List Entry) → All (λ e. IsTerm e.term) (entry ∷ log) → IsTerm (last_term (entry ∷ log))
ends_in_term entry [] all = All-head (λ e. IsTerm e.term) entry [] all
ends_in_term entry (next ∷ log) all = ends_in_term next log (All-tail (λ e. IsTerm e.term) entry (next ∷ log) all)

-- and so it has an entry exactly where it has a last term
last_fits : (term last : ℕ) → IsTerm term → 1 ≤ last → last ≤ last_place → FitsNumber true U64 (within (least_with term) (greatest_with term last_place)) last
last_fits term last is some short =
    let above : (term == 0) ≡ false = ne_eqb term 0 (λ e. omega (arith, is.0)) in
    rw above (fits_within U64 1 last_place last (omega (arith, short)) some short)

-- the end of a log, as a candidate shows it
pub request_fits :
    {shape : Shape} {low : ℕ} (need term : ℕ) (log : List Entry) → IsStored shape low log → length log ≤ last_place →
    Fits (body_fields need term peer_kinds.Vote) (peers.Vote (last_term log) (last_index log))
request_fits need term [] stored short = (
  fits_within U64 0 greatest 0 (omega arith) (omega arith) (omega arith),
  (fits_within U64 0 0 0 (omega arith) (omega arith) (omega arith), refl),
)
request_fits need term (entry ∷ log) stored short =
    let ends : IsTerm (last_term (entry ∷ log)) = ends_in_term entry log (terms_in_range stored) in (
      fits_within U64 0 greatest (last_term (entry ∷ log)) (omega (arith, ends.1)) (omega arith) ends.1,
      (last_fits (last_term (entry ∷ log)) (length (entry ∷ log)) ends (omega arith) short, refl),
    )
