-- How lines are read.
use Rattle.std.specs.Prelude.{◌≡◌, ◌⊎◌, ℕ, ◌+◌, List, [], Option, Bool, true, false}
use Rattle.std.specs.Io.KnownBytes.{Consumes, IsAtEnd}
use Rattle.craft_edge.specs.Causes.{Rose}
use Rattle.run_picture.specs.Pictures.{TakesLines}
use Rattle.run_picture.specs.declared.fault.ReadFault.{ReadFault}
use Rattle.run_picture.specs.declared.fault.ReadFault.TheVariants.{BadSchedule, BadText, ScheduleFault, TextFault, NoMemory}

-- a line of the text was taken, or there is none any more
abbrev pub ReadsLine : Option (List ℕ) → Option (List ℕ) → Bool → Type 0
ReadsLine old new true = TakesLines 1 old new
ReadsLine old new false = Consumes old new [] × IsAtEnd new

-- no line of the text was taken: the one that has that number is broken, or the text failed, or memory was wanting
abbrev pub ReadsNoLine : ℕ → Option (List ℕ) → Option (List ℕ) → ℕ → ℕ → ReadFault → Type 0
ReadsNoLine number old new faults_before faults_now (BadText line) = (line ≡ number) × TakesLines 0 old new
ReadsNoLine number old new faults_before faults_now TextFault = Rose faults_before faults_now
ReadsNoLine number old new faults_before faults_now NoMemory = Unit {0}
ReadsNoLine number old new faults_before faults_now _ = ⊥

-- no event was taken: the next line of the schedule is bad, by its number; or the schedule failed, or memory was wanting
abbrev pub ReadsNoEvent : ℕ → Option (List ℕ) → Option (List ℕ) → ℕ → ℕ → ReadFault → Type 0
ReadsNoEvent event old new faults_before faults_now (BadSchedule line) = (line ≡ event) × (TakesLines 0 old new ⊎ TakesLines 1 old new)
ReadsNoEvent event old new faults_before faults_now ScheduleFault = Rose faults_before faults_now
ReadsNoEvent event old new faults_before faults_now NoMemory = Unit {0}
ReadsNoEvent event old new faults_before faults_now _ = ⊥

-- a line of the text, which has that number, wasn't taken: it is bad, or no event was taken
abbrev pub TakesNoLine : (number event : ℕ) → Option (List ℕ) → Option (List ℕ) → ℕ → ℕ → ReadFault → Type 0
TakesNoLine number event old new faults_before faults_now (BadText line) = line ≡ number
TakesNoLine number event old new faults_before faults_now fault = ReadsNoEvent event old new faults_before faults_now fault

-- so many lines of the schedule were taken, as many as there are events more
abbrev pub TakesEvents : (events_before events_now : ℕ) → Option (List ℕ) → Option (List ℕ) → Type 0
TakesEvents before now old new = (number : ℕ) × TakesLines number old new × (now ≡ before + number)
