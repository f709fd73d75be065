-- Reading entries one after the other, as a loop does.
use Rattle.std.proofs.Common.{◌≡◌, ℕ, zero, suc, ◌+◌, ◌-◌, ◌≤◌, ◌<◌, Bool, true, false, List, [], ◌∷◌, ◌++◌, length, Some, Result, Ok, Err, refl, sym, ap, ◌∙◌, append_assoc, arith}
use Rattle.std.specs.Prelude.{nat_le, slice_get, IfOk}
use Rattle.std.proofs.lemmas.Bool.{le-leb, lt-leb, leb-true, leb-false}
use Rattle.std.proofs.lemmas.List.{append-nil, length-append}
use Rattle.craft_base.specs.declared.command.Entry.{Entry}
use Rattle.entry_frames.specs.declared.fault.FrameFault.{FrameFault}
use Rattle.entry_frames.specs.declared.fault.FrameFault.TheVariants.{Bad}
use Rattle.entry_frames.specs.Entries.{entry_fields_in, entry_fields}
use Rattle.entry_frames.specs.Formats.{AreBytes, Format, Value, embed, Cursor, Taken, ◌>>=◌, reading, spelling, test_at}
use Rattle.entry_frames.specs.MessageFields.{entry_size, least_next, entries_fields, first_entry, later_entries}
use Rattle.entry_frames.specs.Logs.{viewed_with}
use Rattle.entry_frames.specs.Views.{Viewed}
use Rattle.entry_frames.proofs.Entries.{entry_read}
use Rattle.entry_frames.proofs.Formats.{embed_reading}
use Rattle.peer_frames.specs.declared.peer_view.PeerView.{PeerView}
use Rattle.peer_frames.specs.declared.peer_view.PeerView.TheVariants as views
use Rattle.peer_frames.specs.declared.frame_view.FrameView.{FrameView}
use Rattle.peer_frames.specs.declared.frame_view.FrameView.TheVariants as frames
use Rattle.peer_frames.specs.FrameViews.{FrameHasK, HasNoBody}
use Rattle.peer_frames.specs.PeerViews.{PeerHasK, HasNoEntries}
use Rattle.peer_frames.specs.SlotViews.{entries_of_views, AllHaveK}
use Rattle.peer_frames.proofs.Peers.{behind_entry}

-- entries that were read before, and those that are still read
abbrev pub with_front : List Entry → Result (Taken (List Entry)) FrameFault → Result (Taken (List Entry)) FrameFault
with_front front read = read >>= λ t. Ok (record { value = front ++ t.value; cursor = t.cursor })

abbrev pub entries_taken : List Entry → Cursor → Result (Taken (List Entry)) FrameFault
entries_taken es cursor = Ok (record { value = es; cursor = cursor })

-- reading one entry, and then the others
one_and_others : (k : ℕ) (rises : Bool) (high count low room : ℕ) (cursor after : Cursor) (e : Entry) → reading (entry_fields_in k low high) cursor ≡ Ok (record { value = e; cursor = after })
    → entry_size k e ≤ room
    → reading (entries_fields k rises high (suc count) low room) cursor
    ≡ (reading (entries_fields k rises high count (least_next rises low e.term) (room - entry_size k e)) after >>= λ t. Ok (record { value = e ∷ t.value; cursor = t.cursor }))
one_and_others k rises high count low room cursor after e read fits =
    let behind = behind_entry k rises high count low room in
    let others = entries_fields k rises high count (least_next rises low e.term) (room - entry_size k e) in
    embed_reading (entry_fields_in k low high) first_entry behind cursor
    ∙ ap (λ (r : Result (Taken Entry) FrameFault). r >>= λ a. reading (behind a.value) a.cursor) read
    ∙ ap (λ (b : Bool). test_at b (entry_size k e) after >>= λ p. reading (embed others later_entries λ es. Value (e ∷ es)) p) (le-leb (entry_size k e) room fits)
    ∙ embed_reading others later_entries (λ es. Value (e ∷ es)) after

one_fails : (k : ℕ) (rises : Bool) (high count low room : ℕ) (cursor : Cursor) (fault : FrameFault) → reading (entry_fields_in k low high) cursor ≡ Err fault
    → reading (entries_fields k rises high (suc count) low room) cursor ≡ Err fault
one_fails k rises high count low room cursor fault read =
    let behind = behind_entry k rises high count low room in
    embed_reading (entry_fields_in k low high) first_entry behind cursor ∙ ap (λ (r : Result (Taken Entry) FrameFault). r >>= λ a. reading (behind a.value) a.cursor) read

one_too_long : (k : ℕ) (rises : Bool) (high count low room : ℕ) (cursor after : Cursor) (e : Entry) → reading (entry_fields_in k low high) cursor ≡ Ok (record { value = e; cursor = after })
    → room < entry_size k e → reading (entries_fields k rises high (suc count) low room) cursor ≡ Err (Bad (after.at - entry_size k e))
one_too_long k rises high count low room cursor after e read long =
    let behind = behind_entry k rises high count low room in
    let others = entries_fields k rises high count (least_next rises low e.term) (room - entry_size k e) in
    embed_reading (entry_fields_in k low high) first_entry behind cursor
    ∙ ap (λ (r : Result (Taken Entry) FrameFault). r >>= λ a. reading (behind a.value) a.cursor) read
    ∙ ap (λ (b : Bool). test_at b (entry_size k e) after >>= λ p. reading (embed others later_entries λ es. Value (e ∷ es)) p) (lt-leb (entry_size k e) room long)

in_front : (front : List Entry) (e : Entry) (r : Result (Taken (List Entry)) FrameFault)
    → with_front front (r >>= λ t. Ok (record { value = e ∷ t.value; cursor = t.cursor })) ≡ with_front (front ++ e ∷ []) r
in_front front e (Ok t) = ap (λ (es : List Entry). entries_taken es t.cursor) (sym (append_assoc front (e ∷ []) t.value))
in_front front e (Err fault) = refl

pub goes_on : (front : List Entry) (k : ℕ) (rises : Bool) (high count i low room : ℕ) (cursor after : Cursor) (e : Entry) (total : Result (Taken (List Entry)) FrameFault) → i < count
    → with_front front (reading (entries_fields k rises high (count - i) low room) cursor) ≡ total
    → reading (entry_fields_in k low high) cursor ≡ Ok (record { value = e; cursor = after }) → entry_size k e ≤ room
    → with_front (front ++ e ∷ []) (reading (entries_fields k rises high (count - (i + 1)) (least_next rises low e.term) (room - entry_size k e)) after) ≡ total
goes_on front k rises high count i low room cursor after e total lt so_far read fits =
    let left : count - i ≡ suc (count - (i + 1)) = omega arith in
    let others = reading (entries_fields k rises high (count - (i + 1)) (least_next rises low e.term) (room - entry_size k e)) after in
    sym (in_front front e others)
    ∙ sym (ap (with_front front) (ap (λ (n : ℕ). reading (entries_fields k rises high n low room) cursor) left ∙ one_and_others k rises high (count - (i + 1)) low room cursor after e read fits))
    ∙ so_far

pub fails_at : (front : List Entry) (k : ℕ) (rises : Bool) (high count i low room : ℕ) (cursor : Cursor) (fault : FrameFault) (total : Result (Taken (List Entry)) FrameFault) → i < count
    → with_front front (reading (entries_fields k rises high (count - i) low room) cursor) ≡ total
    → reading (entry_fields_in k low high) cursor ≡ Err fault → total ≡ Err fault
fails_at front k rises high count i low room cursor fault total lt so_far read =
    let left : count - i ≡ suc (count - (i + 1)) = omega arith in
    sym so_far ∙ ap (with_front front) (ap (λ (n : ℕ). reading (entries_fields k rises high n low room) cursor) left ∙ one_fails k rises high (count - (i + 1)) low room cursor fault read)

pub too_long_at : (front : List Entry) (k : ℕ) (rises : Bool) (high count i low room : ℕ) (cursor after : Cursor) (e : Entry) (total : Result (Taken (List Entry)) FrameFault) → i < count
    → with_front front (reading (entries_fields k rises high (count - i) low room) cursor) ≡ total
    → reading (entry_fields_in k low high) cursor ≡ Ok (record { value = e; cursor = after }) → room < entry_size k e → total ≡ Err (Bad (after.at - entry_size k e))
too_long_at front k rises high count i low room cursor after e total lt so_far read long =
    let left : count - i ≡ suc (count - (i + 1)) = omega arith in
    sym so_far ∙ ap (with_front front) (ap (λ (n : ℕ). reading (entries_fields k rises high n low room) cursor) left ∙ one_too_long k rises high (count - (i + 1)) low room cursor after e read long)

pub is_done : (front : List Entry) (k : ℕ) (rises : Bool) (high count i low room : ℕ) (cursor : Cursor) (total : Result (Taken (List Entry)) FrameFault) → count ≤ i
    → with_front front (reading (entries_fields k rises high (count - i) low room) cursor) ≡ total → total ≡ entries_taken front cursor
is_done front k rises high count i low room cursor total le so_far =
    let left : count - i ≡ 0 = omega arith in
    sym so_far ∙ ap (λ (n : ℕ). with_front front (reading (entries_fields k rises high n low room) cursor)) left ∙ ap (λ (es : List Entry). entries_taken es cursor) (append-nil front)

-- how many bytes were taken
pub size_taken : (k low high : ℕ) (cursor after : Cursor) (e : Entry) → AreBytes cursor.rest → reading (entry_fields_in k low high) cursor ≡ Ok (record { value = e; cursor = after })
    → (length cursor.rest ≡ entry_size k e + length after.rest) × (after.at ≡ cursor.at + entry_size k e)
size_taken k low high cursor after e are read =
    let t = (entry_read k low high cursor (record { value = e; cursor = after }) are read).takes in
    (ap length t.split ∙ length-append (spelling (entry_fields k) e) after.rest, t.moved)

-- one entry more was taken
pub seen_more : (views : List Viewed) (view : Viewed) → entries_of_views (views ++ view ∷ []) ≡ entries_of_views views ++ view.entry ∷ []
seen_more [] view = refl
seen_more (v ∷ views) view = ap (λ es. v.entry ∷ es) (seen_more views view)

pub need_more : (k : ℕ) (views : List Viewed) (view : Viewed) → AllHaveK k views → view.k ≡ k → AllHaveK k (views ++ view ∷ [])
need_more k [] view all is = (is, tt)
need_more k (v ∷ views) view all is = (all.0, need_more k views view all.1 is)

stopped : (b : Bool) (back : ℕ) (cursor : Cursor) (fault : FrameFault) → test_at b back cursor ≡ Err fault → (b ≡ false) × (fault ≡ Bad (cursor.at - back))
stopped true back cursor fault e = absurd cc
stopped false back cursor fault e = (refl, cc)

went_on : (b : Bool) (back : ℕ) (cursor after : Cursor) → test_at b back cursor ≡ Ok after → b ≡ true
went_on true back cursor after e = refl
went_on false back cursor after e = absurd cc

-- what a test of a size says
pub too_long : (size room : ℕ) (cursor : Cursor) (fault : FrameFault) → test_at (nat_le size room) size cursor ≡ Err fault → (room < size) × (fault ≡ Bad (cursor.at - size))
too_long size room cursor fault e = let s = stopped (nat_le size room) size cursor fault e in (leb-false size room s.0, s.1)

pub fits_in : (size room : ℕ) (cursor after : Cursor) → test_at (nat_le size room) size cursor ≡ Ok after → size ≤ room
fits_in size room cursor after e = leb-true size room (went_on (nat_le size room) size cursor after e)

-- a format that ends another one, and its fault
pub ends_with : {A V : Type 0} (format : Format A) (part : V → A) (make : A → V) (cursor : Cursor) (t : Taken A) → reading format cursor ≡ Ok t
    → reading (embed format part λ a. Value (make a)) cursor ≡ Ok (record { value = make t.value; cursor = t.cursor })
ends_with format part make cursor t e =
    embed_reading format part (λ a. Value (make a)) cursor ∙ ap (λ r. r >>= λ a. Ok (record { value = make a.value; cursor = a.cursor })) e

pub ends_failing : {A V : Type 0} (format : Format A) (part : V → A) (make : A → V) (cursor : Cursor) (fault : FrameFault) → reading format cursor ≡ Err fault
    → reading (embed format part λ a. Value (make a)) cursor ≡ Err fault
ends_failing format part make cursor fault e =
    embed_reading format part (λ a. Value (make a)) cursor ∙ ap (λ r. r >>= λ a. Ok (record { value = make a.value; cursor = a.cursor })) e

-- a body without entries is one of every cluster
no_need : (k : ℕ) (body : PeerView) → HasNoEntries body → PeerHasK k body
no_need k (views.Append prev prev_term commit entries) none = absurd none
no_need k (views.Answer start last slots) none = absurd none
no_need k (views.Vote last_term last) none = tt
no_need k (views.VoteReply granted) none = tt
no_need k (views.Matched prev count mask) none = tt
no_need k (views.Refused next) none = tt
no_need k (views.Ask start) none = tt

pub needs_none : (k : ℕ) (result : Result PeerView FrameFault) → IfOk result HasNoEntries → IfOk result (PeerHasK k)
needs_none k (Ok body) none = no_need k body none
needs_none k (Err fault) none = tt

no_frame_need : (k : ℕ) (frame : FrameView) → HasNoBody frame → FrameHasK k frame
no_frame_need k (frames.Peer sender receiver term body) none = absurd none
no_frame_need k (frames.Request receiver request) none = tt
no_frame_need k (frames.Answered sender client seq reply) none = tt

pub frame_needs_none : (k : ℕ) (result : Result FrameView FrameFault) → IfOk result HasNoBody → IfOk result (FrameHasK k)
frame_needs_none k (Ok frame) none = no_frame_need k frame none
frame_needs_none k (Err fault) none = tt

viewed_as : (k : ℕ) (view : Viewed) → view.k ≡ k → Some view ≡ viewed_with k (Some view.entry)
viewed_as k view is = ap (λ n. Some (record { k = n; entry = view.entry })) is

-- what is seen at a cursor is the entry there
pub slot_seen : (k : ℕ) (views : List Viewed) (n : ℕ) → AllHaveK k views → slice_get views n ≡ viewed_with k (slice_get (entries_of_views views) n)
slot_seen k [] n all = refl
slot_seen k (view ∷ views) zero all = viewed_as k view all.0
slot_seen k (view ∷ views) (suc n) all = slot_seen k views n all.1
