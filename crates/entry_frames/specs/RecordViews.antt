-- What a view of a record shows.
use Rattle.std.specs.Prelude.{◌≡◌, ℕ}
use Rattle.entry_frames.specs.declared.record_view.RecordView.{RecordView}
use Rattle.entry_frames.specs.declared.record_view.RecordView.TheVariants as views
use Rattle.entry_frames.specs.Records.{Record, Term, Add, Cut, Whole, Commit}

abbrev pub record_of : RecordView → Record
record_of (views.Term term vote) = Term term vote
record_of (views.Add entry) = Add entry.entry
record_of (views.Cut index) = Cut index
record_of (views.Whole index bytes) = Whole index bytes.now
record_of (views.Commit index) = Commit index

-- an entry that it adds is one of a cluster with that k
abbrev pub HasK : ℕ → RecordView → Type 0
HasK k (views.Add entry) = entry.k ≡ k
HasK k _ = Unit {0}
