-- What a split reads and writes.
use Rattle.std.specs.Prelude.{◌≡◌, ℕ, ◌<◌, ◌≤◌, List, [], length, Option, IfSome}
use Rattle.std.specs.Io.KnownBytes.{Appends, Keeps}
use Rattle.craft_base.specs.Shape.{Shape}
use Rattle.craft_edge.specs.Bytes.{AppendsPrefix}
use Rattle.craft_edge.specs.Causes.{Rose}
use Rattle.craft_edge.specs.Streams.{Streams, WhereBothTold}
use Rattle.entry_frames.specs.Limits.{longest_value}
use Rattle.fragment_text.specs.Texts.{split_text}
use Rattle.fragment_text.specs.declared.split_end.SplitEnd.{SplitEnd}
use Rattle.fragment_text.specs.declared.split_end.SplitEnd.TheVariants.{End, TooLong, SourceFault, SinkFault, NoMemory}

-- the whole input is a value, and its text was written
abbrev pub SplitsAll : Shape → Streams → Streams → Type 0
SplitsAll shape before after =
    WhereBothTold before.left after.left (λ bytes rest. (length bytes ≤ longest_value) × Appends before.taken after.taken (split_text shape bytes) × (rest ≡ []))

-- How a split ends: by the whole text; by nothing written, where the input is too long or can't be read; or by some
-- first part of the text, where the sink failed.
abbrev pub SplitEnds : Shape → Streams → Streams → SplitEnd → Type 0
SplitEnds shape before after End = SplitsAll shape before after
SplitEnds shape before after TooLong = IfSome before.left (λ bytes. longest_value < length bytes) × Keeps before.taken after.taken
SplitEnds shape before after SourceFault = Rose before.source_faults after.source_faults × Keeps before.taken after.taken
SplitEnds shape before after SinkFault =
    Rose before.sink_faults after.sink_faults
    × IfSome before.left (λ bytes. (length bytes ≤ longest_value) × AppendsPrefix before.taken after.taken (split_text shape bytes))
SplitEnds shape before after NoMemory = Keeps before.taken after.taken

-- no value was read: the input is too long, the source failed, or there was no memory
abbrev pub ReadsNoValue : Option (List ℕ) → ℕ → ℕ → SplitEnd → Type 0
ReadsNoValue left faults_before faults_now End = ⊥
ReadsNoValue left faults_before faults_now TooLong = IfSome left (λ bytes. longest_value < length bytes)
ReadsNoValue left faults_before faults_now SourceFault = Rose faults_before faults_now
ReadsNoValue left faults_before faults_now SinkFault = ⊥
ReadsNoValue left faults_before faults_now NoMemory = Unit {0}
