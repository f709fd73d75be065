-- All tries, one after the other.
use Rattle.std.proofs.Common.{◌≡◌, inl, inr, ℕ, suc, ◌+◌, ◌-◌, ◌<◌, ◌≤◌, List, [], ◌∷◌, ◌++◌, Option, None, Some, Err, refl, sym, ap, subst, ◌∙◌, append_assoc, arith}
use Rattle.std.specs.Prelude.{is_some, option_map, IfSome}
use Rattle.std.proofs.lemmas.List.{append-nil}
use Rattle.craft_base.specs.Shape.{Shape}
use Rattle.craft_base.specs.declared.command.Reply.{Reply}
use Rattle.craft_base.specs.declared.command.Request.{Request}
use Rattle.craft_edge.specs.Packets.{Packet}
use Rattle.craft_edge.proofs.Rises.{Rose-earlier}
use Rattle.craft_client.specs.Asking.{Asked, Listened, after_sending, answered_or, asked, asked_from, asked_next, listened, packets_of_try, request_to}
use Rattle.craft_client.specs.Telling.{Answers, AsksAll, EndsEarly, LinkNow, Listens, Sends, SendsAll, SendsAtMost, SendsPart, WhereBothTold}
use Rattle.craft_client.specs.declared.client_fault.ClientFault.{ClientFault}
use Rattle.craft_client.specs.declared.client_fault.ClientFault.TheVariants.{NoAnswer, LinkFault, OutOfMemory}
use Rattle.craft_client.specs.declared.told.Told.{Told}
use Rattle.craft_client.specs.declared.told.Told.TheVariants.{Nothing, Elsewhere, Final}
use Rattle.craft_client.proofs.OneTry.{same_told}

-- ---- what was sent

pub sends_none : (sent : Option (List Packet)) → SendsAll sent sent []
sends_none None = refl
sends_none (Some packets) = ap Some (sym (append-nil packets))

pub sends_more : (old mid now : Option (List Packet)) (packets more : List Packet) → SendsAll old mid packets → SendsAll mid now more → SendsAll old now (packets ++ more)
sends_more None mid now packets more first second = second ∙ ap (option_map (λ before. before ++ more)) first
sends_more (Some sent) mid now packets more first second =
    second ∙ ap (option_map (λ before. before ++ more)) first ∙ ap Some (append_assoc sent packets more)

pub stays_told : (old now : Option (List Packet)) (packets : List Packet) → SendsAll old now packets → is_some now ≡ is_some old
stays_told None now packets is = ap is_some is
stays_told (Some sent) now packets is = ap is_some is

pub stays_told_at_most : (old now : Option (List Packet)) (packet : Packet) → SendsAtMost old now packet → is_some now ≡ is_some old
stays_told_at_most old now packet (inl same) = ap is_some same
stays_told_at_most old now packet (inr sent) = stays_told old now (packet ∷ []) sent

-- ---- the tries so far

-- with these packets sent before
abbrev pub after_sending_all : List Packet → Asked → Asked
after_sending_all packets later = record later { sends = packets ++ later.sends }

-- So far these packets were sent, and all else is as in so many tries that are left, of which the first asks that member.
abbrev pub AsksOn : Shape → List ℕ → Request → (tries left member : ℕ) → (old now sent now_sent : Option (List Packet)) → Type 0
AsksOn shape places request tries left member old now sent now_sent =
    WhereBothTold old now (λ before after.
    (packets : List Packet) × (asked shape places request tries before ≡ after_sending_all packets (asked_from shape places request left member after))
    × SendsAll sent now_sent packets)

pub asks_first : (shape : Shape) (places : List ℕ) (request : Request) (tries : ℕ) (old sent : Option (List Packet)) → AsksOn shape places request tries tries 0 old old sent sent
asks_first shape places request tries old sent = same_told old _ (λ packets. ([], refl, sends_none sent))

-- one of the tries that are left
pub one_less : (shape : Shape) (places : List ℕ) (request : Request) (tries made member : ℕ) (old now sent now_sent : Option (List Packet)) → made < tries
    → AsksOn shape places request tries (tries - made) member old now sent now_sent → AsksOn shape places request tries (suc (tries - (made + 1))) member old now sent now_sent
one_less shape places request tries made member old now sent now_sent more so_far =
    let one : tries - made ≡ suc (tries - (made + 1)) = omega (arith, more) in
    subst (λ (left : ℕ). AsksOn shape places request tries left member old now sent now_sent) one so_far

-- the first of the tries that are left
asked_first : (shape : Shape) (places : List ℕ) (request : Request) (left member : ℕ) (packets rest : List Packet) (told : Told)
    → listened shape request packets_of_try packets ≡ record { told = told; rest = rest }
    → asked_from shape places request (suc left) member packets
    ≡ after_sending (request_to shape places request member) (answered_or told rest (asked_from shape places request left (asked_next shape member told) rest))
unfolding asked_from
asked_first shape places request left member packets rest told is =
    ap (λ (heard : Listened). after_sending (request_to shape places request member) (
    answered_or heard.told heard.rest (asked_from shape places request left (asked_next shape member heard.told) heard.rest))) is

-- one more packet sent
sent_behind : (packets : List Packet) (packet : Packet) (later : Asked) → after_sending_all packets (after_sending packet later) ≡ after_sending_all (packets ++ packet ∷ []) later
sent_behind packets packet later = ap (λ (sends : List Packet). record later { sends = sends }) (sym (append_assoc packets (packet ∷ []) later.sends))

goes_on : (told : Told) (rest : List Packet) (later : Asked) → ((answer : ℕ × Reply) → told ≡ Final answer → ⊥) → answered_or told rest later ≡ later
goes_on Nothing rest later none = refl
goes_on (Elsewhere hint) rest later none = refl
goes_on (Final answer) rest later none = absurd (none answer refl)

-- ---- one link, before all tries, before one of them and behind it

module _ (shape : Shape) (places : List ℕ) (request : Request) (tries left member : ℕ) (sent mid_sent now_sent : Option (List Packet)) where
  -- a try that had no final reply
  pub asks_on : (told : Told) (old mid now : Option (List Packet)) → AsksOn shape places request tries (suc left) member old mid sent mid_sent
      → Listens shape request packets_of_try mid now told → Sends mid_sent now_sent (request_to shape places request member)
      → ((answer : ℕ × Reply) → told ≡ Final answer → ⊥) → AsksOn shape places request tries left (asked_next shape member told) old now sent now_sent
  asks_on told None mid now so_far heard sends none = tt
  asks_on told (Some before) None now so_far heard sends none = absurd so_far
  asks_on told (Some before) (Some between) None so_far heard sends none = absurd heard
  asks_on told (Some before) (Some between) (Some after) so_far heard sends none =
      let packet = request_to shape places request member in
      let later = asked_from shape places request left (asked_next shape member told) after in (
        so_far.0 ++ packet ∷ [],
        so_far.1
            ∙ ap (after_sending_all so_far.0) (asked_first shape places request left member between after told heard ∙ ap (after_sending packet) (goes_on told after later none))
            ∙ sent_behind so_far.0 packet later,
        sends_more sent mid_sent now_sent so_far.0 (packet ∷ []) so_far.2 sends,
      )

  -- a try with a final reply
  pub asks_all : (faults now_faults : ℕ) (answer : ℕ × Reply) (old mid now : Option (List Packet)) → AsksOn shape places request tries (suc left) member old mid sent mid_sent
      → Listens shape request packets_of_try mid now (Final answer) → Sends mid_sent now_sent (request_to shape places request member)
      → IfSome old (λ packets. AsksAll (record { coming = old; sent = sent; faults = faults }) (record { coming = now; sent = now_sent; faults = now_faults }) (Some answer) (asked shape places request tries packets))
  asks_all faults now_faults answer None mid now so_far heard sends = tt
  asks_all faults now_faults answer (Some before) None now so_far heard sends = absurd so_far
  asks_all faults now_faults answer (Some before) (Some between) None so_far heard sends = absurd heard
  asks_all faults now_faults answer (Some before) (Some between) (Some after) so_far heard sends =
      let packet = request_to shape places request member in
      let is = so_far.1 ∙ ap (after_sending_all so_far.0) (asked_first shape places request left member between after (Final answer) heard) in (
        ap (λ (a : Asked). a.answer) is,
        ap (λ (a : Asked). Some a.rest) (sym is),
        sends_more sent mid_sent now_sent so_far.0 (packet ∷ []) so_far.2 sends ∙ ap (λ (a : Asked). option_map (λ packets. packets ++ a.sends) sent) (sym is),
      )

  -- a try that ended early
  pub asks_part : (old mid : Option (List Packet)) → AsksOn shape places request tries (suc left) member old mid sent mid_sent
      → SendsAtMost mid_sent now_sent (request_to shape places request member) → IfSome old (λ packets. SendsPart sent now_sent (asked shape places request tries packets).sends)
  asks_part None mid so_far sends = tt
  asks_part (Some before) None so_far sends = absurd so_far
  asks_part (Some before) (Some between) so_far (inl same) =
      (so_far.0, (asked_from shape places request (suc left) member between).sends, ap (λ (a : Asked). a.sends) so_far.1, same ∙ so_far.2)
  asks_part (Some before) (Some between) so_far (inr sends) =
      let packet = request_to shape places request member in
      let heard = listened shape request packets_of_try between in
      let later = answered_or heard.told heard.rest (asked_from shape places request left (asked_next shape member heard.told) heard.rest) in
      let is = so_far.1 ∙ ap (after_sending_all so_far.0) (asked_first shape places request left member between heard.rest heard.told refl) ∙ sent_behind so_far.0 packet later in
      (so_far.0 ++ packet ∷ [], later.sends, ap (λ (a : Asked). a.sends) is, sends_more sent mid_sent now_sent so_far.0 (packet ∷ []) so_far.2 sends)

-- no try is left
asked_no_more : (shape : Shape) (places : List ℕ) (request : Request) (member : ℕ) (packets : List Packet)
    → asked_from shape places request 0 member packets ≡ record { sends = []; answer = None; rest = packets }
unfolding asked_from
asked_no_more shape places request member packets = refl

pub asks_in_vain : (shape : Shape) (places : List ℕ) (request : Request) (tries member faults now_faults : ℕ) (old now sent now_sent : Option (List Packet))
    → AsksOn shape places request tries 0 member old now sent now_sent
    → IfSome old (λ packets. AsksAll (record { coming = old; sent = sent; faults = faults }) (record { coming = now; sent = now_sent; faults = now_faults }) None (asked shape places request tries packets))
asks_in_vain shape places request tries member faults now_faults None now sent now_sent so_far = tt
asks_in_vain shape places request tries member faults now_faults (Some before) None sent now_sent so_far = absurd so_far
asks_in_vain shape places request tries member faults now_faults (Some before) (Some after) sent now_sent so_far =
    let is = so_far.1 ∙ ap (after_sending_all so_far.0) (asked_no_more shape places request member after) in (
      ap (λ (a : Asked). a.answer) is,
      ap (λ (a : Asked). Some a.rest) (sym is),
      so_far.2 ∙ ap (λ (sends : List Packet). option_map (λ packets. packets ++ sends) sent) (sym (ap (λ (a : Asked). a.sends) is ∙ append-nil so_far.0)),
    )

-- ---- early ends

-- nothing was sent
pub sends_no_part : (sent : Option (List Packet)) (sends : List Packet) → SendsPart sent sent sends
sends_no_part sent sends = ([], sends, refl, sends_none sent)

pub asks_nothing : (old sent : Option (List Packet)) (asked : List Packet → Asked) → IfSome old (λ packets. SendsPart sent sent (asked packets).sends)
asks_nothing None sent asked = tt
asks_nothing (Some packets) sent asked = sends_no_part sent (asked packets).sends

pub ends_early : (shape : Shape) (places : List ℕ) (request : Request) (tries : ℕ) (before after : LinkNow) (mid_faults : ℕ) (fault : ClientFault)
    → before.faults ≤ mid_faults → EndsEarly mid_faults after.faults fault
    → IfSome before.coming (λ packets. SendsPart before.sent after.sent (asked shape places request tries packets).sends)
    → Answers shape places request tries before after (Err fault)
ends_early shape places request tries before after mid_faults (NoAnswer sent) later early part = absurd early
ends_early shape places request tries before after mid_faults LinkFault later early part =
    (Rose-earlier before.faults mid_faults after.faults later early, part)
ends_early shape places request tries before after mid_faults OutOfMemory later early part = part
